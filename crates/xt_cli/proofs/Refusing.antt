-- What a call says that has touched nothing: words without a meaning, or memory that ran out over
-- them; and what the top call says after that of the commands that need no thread.
use Rattle.std.proofs.Common.{◌≡◌, ℕ, inl, inr, List, [], Option, None, Result, Ok, Err, refl, sym, subst, ◌∙◌}
use Rattle.std.proofs.KnownBytes.{Appends-nil, Consumes-nil}
use Rattle.xt_command_line.specs.MeaningAnswers.{Means}
use Rattle.xt_command_line.specs.declared.beyond.Beyond.{Beyond}
use Rattle.xt_command_line.specs.declared.command.Refusal.{Refusal}
use Rattle.xt_command_line.specs.declared.command.Refusal.TheVariants as refusal
use Rattle.xt_report.specs.declared.status.Status.{Status}
use Rattle.xt_report.specs.declared.status.Status.TheVariants as status
use Rattle.xt_report.specs.Calls.{Ends, IsUntouched}
use Rattle.xt_report.proofs.Quiet.{is_untouched, keeps_same, still, takes_nothing}
use Rattle.xt_trace.specs.declared.run.Run.{Run}
use Rattle.xt_runs.specs.declared.outcome.Outcome.{Outcome}
use Rattle.xt_runs.specs.Runs.{Generates, Runs, image_limit}
use Rattle.xt_tools.specs.Calls.{Sessions}
use Rattle.xt_tools.specs.Session.{session_text}
use Rattle.xt_cli.specs.declared.tool.Job.{Job}
use Rattle.xt_cli.specs.declared.orders.Order.{Order}
use Rattle.xt_cli.specs.declared.orders.Order.TheVariants as order
use Rattle.xt_cli.specs.declared.tool.Tool.TheVariants as tool
use Rattle.xt_cli.specs.Threads.{IsThreaded}
use Rattle.xt_cli.specs.Tools as tools
use Rattle.xt_cli.specs.Tools.{Answers, Makes, limit_of, status_of}
use Rattle.xt_cli.specs.Top as top

-- memory ran out over the words
out_of_memory : (asked : Result Order Refusal) (left told : Option (List ℕ)) (f g : ℕ) → Answers asked (still left told f g) (tool.Answer status.Memory)
out_of_memory (Ok (order.Work j)) left told f g = (takes_nothing (limit_of j) left told f g, inl (keeps_same told))
out_of_memory (Ok (order.Session b)) left told f g = ([], Consumes-nil left, ([], session_text b [], refl, Appends-nil told))
out_of_memory (Ok (order.Run wanted options)) left told f g = (refl, is_untouched left told f g)
out_of_memory (Ok (order.Generate number)) left told f g = (refl, is_untouched left told f g)
out_of_memory (Err r) left told f g = (inr refl, is_untouched left told f g)

refuses_words : (asked : Result Order Refusal) (r : Refusal) (left told : Option (List ℕ)) (f g : ℕ) → Means (Err r) asked
    → Answers asked (still left told f g) (tool.Answer (status_of r))
refuses_words asked (refusal.Usage rule) left told f g means =
    let P : Result Order Refusal → Type 0 = λ x. Answers x (still left told f g) (tool.Answer (status.Usage rule)) in
    subst P means (inl refl, is_untouched left told f g)
refuses_words asked refusal.Memory left told f g means = out_of_memory asked left told f g

pub tool_refuses : (asked : Result Order Refusal) (r : Refusal) (s : Status) (left told : Option (List ℕ)) (f g : ℕ) → Means (Err r) asked → s ≡ status_of r
    → Answers asked (still left told f g) (tool.Answer s)
tool_refuses asked r s left told f g means is =
    let P : Status → Type 0 = λ x. Answers asked (still left told f g) (tool.Answer x) in subst P (sym is) (refuses_words asked r left told f g means)

-- ---- the top call

top_without : (asked : Result Order Refusal) (left told : Option (List ℕ)) (f g : ℕ) (o : Outcome) → o.status ≡ status.Memory → o.run ≡ None → o.unmet ≡ None
    → top.Answers asked (still left told f g) o
top_without (Ok (order.Work j)) left told f g o is none no_line =
    let P : Status → Type 0 = λ x. Makes j (still left told f g) x in (subst P (sym is) (out_of_memory (Ok (order.Work j)) left told f g), none, no_line)
top_without (Ok (order.Session b)) left told f g o is none no_line =
    let P : Status → Type 0 = λ x. Sessions b (still left told f g) x in (subst P (sym is) (out_of_memory (Ok (order.Session b)) left told f g), none, no_line)
top_without (Ok (order.Run wanted options)) left told f g o is none no_line =
    let e = still left told f g in
    let P : Status → Type 0 = λ x. Runs wanted options e x None None in
    let Q : Option Run → Type 0 = λ x. Runs wanted options e o.status x None in
    let R : Option (List ℕ) → Type 0 = λ x. Runs wanted options e o.status o.run x in
    subst R (sym no_line) (subst Q (sym none) (subst P (sym is) (takes_nothing image_limit left told f g, inl (keeps_same told))))
top_without (Ok (order.Generate number)) left told f g o is none no_line =
    let P : Status → Type 0 = λ x. Generates number told told g g x None in
    let Q : Option Run → Type 0 = λ x. Generates number told told g g o.status x in
    (record { left = refl; faults = refl }, subst Q (sym none) (subst P (sym is) (inl (keeps_same told))), no_line)
top_without (Err r) left told f g o is none no_line =
    let P : Status → Type 0 = λ x. Answers (Err r) (still left told f g) (tool.Answer x) in (subst P (sym is) (out_of_memory (Err r) left told f g), none, no_line)

pub top_refuses : (asked : Result Order Refusal) (r : Refusal) (o : Outcome) (left told : Option (List ℕ)) (f g : ℕ) → Means (Err r) asked
    → o.status ≡ status_of r → o.run ≡ None → o.unmet ≡ None → top.Answers asked (still left told f g) o
top_refuses asked (refusal.Usage rule) o left told f g means is none no_line =
    let P : Result Order Refusal → Type 0 = λ x. top.Answers x (still left told f g) o in
    subst P means (tool_refuses (Err (refusal.Usage rule)) (refusal.Usage rule) o.status left told f g refl is, none, no_line)
top_refuses asked refusal.Memory o left told f g means is none no_line = top_without asked left told f g o is none no_line

-- ---- the top call after that of the commands that need no thread

-- a call by what was before it and after it
abbrev call : Option (List ℕ) → Option (List ℕ) → Option (List ℕ) → Option (List ℕ) → ℕ → ℕ → ℕ → ℕ → Ends
call left left2 told told2 f f2 g g2 = record {
  left = left;
  left_after = left2;
  told = told;
  told_after = told2;
  source_faults = f;
  source_faults_after = f2;
  sink_faults = g;
  sink_faults_after = g2;
}

-- what is so of a call that has touched nothing is so of any that leaves the source and the sink as they were
of_still : (P : Ends → Type 0) (e : Ends) → IsUntouched e → ((left told : Option (List ℕ)) (f g : ℕ) → P (still left told f g)) → P e
of_still P e quiet all =
    let A : Option (List ℕ) → Type 0 = λ l. P (call e.left l e.told e.told e.source_faults e.source_faults e.sink_faults e.sink_faults) in
    let B : Option (List ℕ) → Type 0 = λ t. P (call e.left e.left_after e.told t e.source_faults e.source_faults e.sink_faults e.sink_faults) in
    let C : ℕ → Type 0 = λ f. P (call e.left e.left_after e.told e.told_after e.source_faults f e.sink_faults e.sink_faults) in
    let D : ℕ → Type 0 = λ g. P (call e.left e.left_after e.told e.told_after e.source_faults e.source_faults_after e.sink_faults g) in
    subst D (sym quiet.sink) (subst C (sym quiet.source) (subst B (sym quiet.told) (subst A (sym quiet.left) (all e.left e.told e.source_faults e.sink_faults))))

-- a status that was answered is that of the top call, which hands out no run
pub answered : (asked : Result Order Refusal) (e : Ends) (s : Status) (o : Outcome) → Answers asked e (tool.Answer s) → o.status ≡ s → o.run ≡ None → o.unmet ≡ None → top.Answers asked e o
answered (Ok (order.Work j)) e s o answers is none no_line =
    let P : Status → Type 0 = λ x. Makes j e x in (subst P (sym is) answers, none, no_line)
answered (Ok (order.Session b)) e s o answers is none no_line =
    let P : Status → Type 0 = λ x. Sessions b e x in (subst P (sym is) answers, none, no_line)
answered (Ok (order.Run wanted options)) e s o (memory, quiet) is none no_line =
    of_still (λ (c : Ends). top.Answers (Ok (order.Run wanted options)) c o) e quiet (λ left told f g. top_without (Ok (order.Run wanted options)) left told f g o (is ∙ memory) none no_line)
answered (Ok (order.Generate number)) e s o (memory, quiet) is none no_line =
    of_still (λ (c : Ends). top.Answers (Ok (order.Generate number)) c o) e quiet (λ left told f g. top_without (Ok (order.Generate number)) left told f g o (is ∙ memory) none no_line)
answered (Err r) e s o answers is none no_line =
    let P : Status → Type 0 = λ x. tools.RefusesWords r e x in (subst P (sym is) answers, none, no_line)

pub answered_completely : (asked : Result Order Refusal) (e : Ends) (s : Status) (o : Outcome) → Answers asked e (tool.Answer s) → tools.IsComplete asked e (tool.Answer s)
    → o.status ≡ s → top.IsComplete asked e o
answered_completely (Ok (order.Work j)) e s o answers complete is =
    let P : Status → Type 0 = λ x. tools.Finishes j e x in subst P (sym is) complete
answered_completely (Ok (order.Session b)) e s o answers complete is = tt
answered_completely (Ok (order.Run wanted options)) e s o answers complete is = λ has source sink. inr (is ∙ answers.0)
answered_completely (Ok (order.Generate number)) e s o answers complete is = λ sink. inr (is ∙ answers.0)
answered_completely (Err r) e s o answers complete is = tt

-- what was handed back is for threads, and nothing was touched
pub is_threaded : (asked : Result Order Refusal) (e : Ends) → Answers asked e tool.Threaded → IsThreaded asked
is_threaded (Ok (order.Work j)) e answers = absurd answers
is_threaded (Ok (order.Session b)) e answers = absurd answers
is_threaded (Ok (order.Run wanted options)) e answers = tt
is_threaded (Ok (order.Generate number)) e answers = tt
is_threaded (Err r) e answers = absurd answers

untouched : (asked : Result Order Refusal) (e : Ends) → Answers asked e tool.Threaded → IsUntouched e
untouched (Ok (order.Work j)) e answers = absurd answers
untouched (Ok (order.Session b)) e answers = absurd answers
untouched (Ok (order.Run wanted options)) e answers = answers
untouched (Ok (order.Generate number)) e answers = answers
untouched (Err r) e answers = absurd answers

-- so what is so of the call after it is so of both
pub after_both : (P : Ends → Type 0) (asked : Result Order Refusal) (l m n a b c : Option (List ℕ)) (f f2 f3 g g2 g3 : ℕ)
    → Answers asked (call l m a b f f2 g g2) tool.Threaded → P (call m n b c f2 f3 g2 g3) → P (call l n a c f f3 g g3)
after_both P asked l m n a b c f f2 f3 g g2 g3 answers holds =
    let quiet = untouched asked (call l m a b f f2 g g2) answers in
    let A : Option (List ℕ) → Type 0 = λ x. P (call x n b c f2 f3 g2 g3) in
    let B : Option (List ℕ) → Type 0 = λ x. P (call l n x c f2 f3 g2 g3) in
    let C : ℕ → Type 0 = λ x. P (call l n a c x f3 g2 g3) in
    let D : ℕ → Type 0 = λ x. P (call l n a c f f3 x g3) in
    subst D quiet.sink (subst C quiet.source (subst B quiet.told (subst A quiet.left holds)))

-- words for threads ask for no session
pub not_session : (asked : Result Order Refusal) (o : Order) (b : Beyond) → IsThreaded asked → o ≡ order.Session b → Ok o ≡ asked → ⊥
not_session asked o b threaded is_session is =
    let P : Order → Type 0 = λ x. IsThreaded (Ok x) in subst P is_session (subst IsThreaded (sym is) threaded)

-- words for threads ask for none of the commands that need none
pub not_work : (asked : Result Order Refusal) (o : Order) (j : Job) → IsThreaded asked → o ≡ order.Work j → Ok o ≡ asked → ⊥
not_work asked o j threaded work is =
    let P : Order → Type 0 = λ x. IsThreaded (Ok x) in subst P work (subst IsThreaded (sym is) threaded)
