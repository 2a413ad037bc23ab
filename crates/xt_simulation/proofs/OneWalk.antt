-- The walk of both cores beside the judge is the judge's own, up to its first breach.
use Rattle.std.proofs.Common.{◌≡◌, ℕ, zero, suc, ◌<◌, Bool, true, false, Option, Some, None, List, [], ◌∷◌, ◌++◌, take, sym, ap, ◌∙◌, refl, subst}
use Rattle.std.proofs.lemmas.List.{append-nil}
use Rattle.xt_map.specs.declared.access.Entry.{Entry}
use Rattle.xt_map.specs.declared.contents.MemoryContents.{MemoryContents}
use Rattle.xt_trace.specs.declared.record.StepRecord.{StepRecord}
use Rattle.xt_trace.specs.Worlds as worlds
use Rattle.xt_trace.specs.Worlds.{give, advance}
use Rattle.xt_trace.specs.Walks.{IsWalk, next_record}
use Rattle.xt_exec.specs.State.{State}
use Rattle.xt_exec.specs.Chips.{processor}
use Rattle.xt_frames.specs.declared.kinds.Breach.{Breach}
use Rattle.xt_frames.specs.Breaches.{Bounds}
use Rattle.xt_frames.specs.Judging.{Standing, Seen, Handled, Judges, Breaks}
use Rattle.xt_frames.specs.Verdict.{Known, Judgement, entry_of, is_nested, judgement, opening_known, past_handled_0, past_handled_1, past_judged_0, past_judged_1, seen_0, seen_1, passed_0, passed_1}
use Rattle.xt_simulation.specs.Steps.{record_now, state_now, memory_now}
use Rattle.xt_simulation.specs.Walking.{Entered, World, entered_by, entered_past, moved_by, moved0, moved1, world_after_turn, world_after_turns}
use Rattle.xt_simulation.specs.Opening.{bounds0, bounds1, frame0, frame1}
use Rattle.xt_simulation.specs.Headline.{turns_of, BreachesStay}
use Rattle.xt_simulation.proofs.Headline.{world_of, next_is, core_next, line_next}

module _ (code : ℕ → ℕ) (b0 b1 : Bounds) where
  -- the walk comes to where the run stands and the judge knows k
  pub record Reaches (cs : List Bool) (from : Option World) (v : worlds.World State) (k : Known) : Type 0 where
    pub entered0 : Entered
    pub entered1 : Entered
    pub walk : world_after_turns code b0 b1 cs from ≡ Some (world_of code v k entered0 entered1)

  -- a turn of core 0, and of core 1, into the run's next state and memory
  arrives0 : (v : worlds.World State) (k : Known) (e0 e1 at : Entered) (standing : Standing) (stale : ℕ → Bool) (judged : List (Bool × StepRecord)) (entries left : List Entry) → 0 < v.core0.left → entries ≡ left
      → Some (record { core0 = record { state = state_now code v.line.memory v.core0.state; entered = at; standing = standing; judged = judged }; core1 = (world_of code v k e0 e1).core1; memory = memory_now code v.line.memory v.core0.state; stale = stale; entries = entries })
      ≡ Some (world_of code (give (processor code) 0 v) (record k { standing0 = standing; stale = stale; steps0 = suc k.steps0; judged0 = judged; entries = left }) at e1)
  arrives0 v k e0 e1 at standing stale judged entries left pos same =
      let W : State → MemoryContents → List Entry → Option World = λ s m es. Some (record { core0 = record { state = s; entered = at; standing = standing; judged = judged }; core1 = (world_of code v k e0 e1).core1; memory = m; stale = stale; entries = es }) in
      ap (λ s. W s (memory_now code v.line.memory v.core0.state) entries) (sym (core_next code v.core0 v.line v.core0.left refl pos))
      ∙ (ap (λ m. W (give (processor code) 0 v).core0.state m entries) (sym (line_next code 0 v.core0 v.line v.core0.left pos))
      ∙ ap (λ es. W (give (processor code) 0 v).core0.state (give (processor code) 0 v).line.memory es) same)

  arrives1 : (v : worlds.World State) (k : Known) (e0 e1 at : Entered) (standing : Standing) (stale : ℕ → Bool) (judged : List (Bool × StepRecord)) (entries left : List Entry) → 0 < v.core1.left → entries ≡ left
      → Some (record { core0 = (world_of code v k e0 e1).core0; core1 = record { state = state_now code v.line.memory v.core1.state; entered = at; standing = standing; judged = judged }; memory = memory_now code v.line.memory v.core1.state; stale = stale; entries = entries })
      ≡ Some (world_of code (give (processor code) 1 v) (record k { standing1 = standing; stale = stale; steps1 = suc k.steps1; judged1 = judged; entries = left }) e0 at)
  arrives1 v k e0 e1 at standing stale judged entries left pos same =
      let W : State → MemoryContents → List Entry → Option World = λ s m es. Some (record { core0 = (world_of code v k e0 e1).core0; core1 = record { state = s; entered = at; standing = standing; judged = judged }; memory = m; stale = stale; entries = es }) in
      ap (λ s. W s (memory_now code v.line.memory v.core1.state) entries) (sym (core_next code v.core1 v.line v.core1.left refl pos))
      ∙ (ap (λ m. W (give (processor code) 1 v).core1.state m entries) (sym (line_next code 1 v.core1 v.line v.core1.left pos))
      ∙ ap (λ es. W (give (processor code) 1 v).core1.state (give (processor code) 1 v).line.memory es) same)

  -- the walk has come as far as the judge: to the end of these turns where it shows no breach, and else to the breach
  pub record Comes (cs : List ℕ) (from : Option World) (v : worlds.World State) (j : Judgement) : Type 0 where
    pub made : List Bool
    pub at : worlds.World State
    pub reaches : Reaches made from at j.known
    pub whole : j.breach ≡ None → (made ≡ turns_of cs) × (at ≡ advance (processor code) cs v)

  -- one turn before the rest of a walk
  turned : (c : Bool) (w : World) (n : Option World) {cs : List Bool} {v : worlds.World State} {k : Known} → world_after_turn code b0 b1 c w ≡ n → Reaches cs n v k → Reaches (c ∷ cs) (Some w) v k
  turned c w n {cs = cs} is r = record { entered0 = r.entered0; entered1 = r.entered1; walk = ap (world_after_turns code b0 b1 cs) is ∙ r.walk }

  come0 : (w : World) (n : Option World) {cs : List ℕ} {v : worlds.World State} {j : Judgement} → world_after_turn code b0 b1 true w ≡ n → Comes cs n (give (processor code) 0 v) j → Comes (0 ∷ cs) (Some w) v j
  come0 w n is r = record { made = true ∷ r.made; at = r.at; reaches = turned true w n is r.reaches; whole = λ e. (ap (λ l. true ∷ l) (r.whole e).0, (r.whole e).1) }

  come1 : (w : World) (n : Option World) {c : ℕ} {cs : List ℕ} {v : worlds.World State} {j : Judgement} → world_after_turn code b0 b1 false w ≡ n → Comes cs n (give (processor code) 1 v) j → Comes (suc c ∷ cs) (Some w) v j
  come1 w n is r = record { made = false ∷ r.made; at = r.at; reaches = turned false w n is r.reaches; whole = λ e. (ap (λ l. false ∷ l) (r.whole e).0, (r.whole e).1) }

  -- nothing is left, or the next record is a breach
  here : {cs : List ℕ} {v : worlds.World State} (k : Known) (e0 e1 : Entered) (b : Option Breach) → (b ≡ None → ([] ≡ turns_of cs) × (v ≡ advance (processor code) cs v)) → Comes cs (Some (world_of code v k e0 e1)) v (record { known = k; breach = b })
  here {v = v} k e0 e1 b whole = record { made = []; at = v; reaches = record { entered0 = e0; entered1 = e1; walk = refl }; whole = whole }

  step0 : (v : worlds.World State) (k : Known) (e0 e1 : Entered) → 0 < v.core0.left → (o : Seen) → seen_0 code b0 b1 k (record_now code v.line.memory v.core0.state) ≡ o → (cs : List ℕ) (rest : Known → Judgement)
      → ((n : Known) (at : Entered) → Comes cs (Some (world_of code (give (processor code) 0 v) n at e1)) (give (processor code) 0 v) (rest n))
      → Comes (0 ∷ cs) (Some (world_of code v k e0 e1)) v (passed_0 o k (record_now code v.line.memory v.core0.state) rest)
  step0 v k e0 e1 pos (Breaks kind) e cs rest more = here k e0 e1 _ (λ none. absurd cc)
  step0 v k e0 e1 pos (Handled standing) e cs rest more =
      let s = v.core0.state in
      let rec = record_now code v.line.memory s in
      let w = world_of code v k e0 e1 in
      let at : Entered = entered_by k.standing0.phase s v.line.memory e0 in
      let n = past_handled_0 standing k in
      come0 w (Some (world_of code (give (processor code) 0 v) n at e1))
      (ap (λ o. moved0 code w (moved_by o 0 w.core0 v.line.memory (state_now code v.line.memory s) rec k.stale)) e
      ∙ arrives0 v k e0 e1 at standing k.stale k.judged0 (k.entries ++ []) k.entries pos (append-nil k.entries))
      (more n at)
  step0 v k e0 e1 pos (Judges standing stale) e cs rest more =
      let s = v.core0.state in
      let rec = record_now code v.line.memory s in
      let w = world_of code v k e0 e1 in
      let at : Entered = entered_past k.standing0.phase s v.line.memory (state_now code v.line.memory s) e0 in
      let n = past_judged_0 standing stale rec k in
      come0 w (Some (world_of code (give (processor code) 0 v) n at e1))
      (ap (λ o. moved0 code w (moved_by o 0 w.core0 v.line.memory (state_now code v.line.memory s) rec k.stale)) e
      ∙ arrives0 v k e0 e1 at standing stale (k.judged0 ++ (is_nested k.standing0.phase, rec) ∷ []) (k.entries ++ entry_of 0 rec.access rec.reply) (k.entries ++ entry_of 0 rec.access rec.reply) pos refl)
      (more n at)

  step1 : (v : worlds.World State) (k : Known) (e0 e1 : Entered) → 0 < v.core1.left → (o : Seen) → seen_1 code b0 b1 k (record_now code v.line.memory v.core1.state) ≡ o → (c : ℕ) (cs : List ℕ) (rest : Known → Judgement)
      → ((n : Known) (at : Entered) → Comes cs (Some (world_of code (give (processor code) 1 v) n e0 at)) (give (processor code) 1 v) (rest n))
      → Comes (suc c ∷ cs) (Some (world_of code v k e0 e1)) v (passed_1 o k (record_now code v.line.memory v.core1.state) rest)
  step1 v k e0 e1 pos (Breaks kind) e c cs rest more = here k e0 e1 _ (λ none. absurd cc)
  step1 v k e0 e1 pos (Handled standing) e c cs rest more =
      let s = v.core1.state in
      let rec = record_now code v.line.memory s in
      let w = world_of code v k e0 e1 in
      let at : Entered = entered_by k.standing1.phase s v.line.memory e1 in
      let n = past_handled_1 standing k in
      come1 w (Some (world_of code (give (processor code) 1 v) n e0 at))
      (ap (λ o. moved1 code w (moved_by o 1 w.core1 v.line.memory (state_now code v.line.memory s) rec k.stale)) e
      ∙ arrives1 v k e0 e1 at standing k.stale k.judged1 (k.entries ++ []) k.entries pos (append-nil k.entries))
      (more n at)
  step1 v k e0 e1 pos (Judges standing stale) e c cs rest more =
      let s = v.core1.state in
      let rec = record_now code v.line.memory s in
      let w = world_of code v k e0 e1 in
      let at : Entered = entered_past k.standing1.phase s v.line.memory (state_now code v.line.memory s) e1 in
      let n = past_judged_1 standing stale rec k in
      come1 w (Some (world_of code (give (processor code) 1 v) n e0 at))
      (ap (λ o. moved1 code w (moved_by o 1 w.core1 v.line.memory (state_now code v.line.memory s) rec k.stale)) e
      ∙ arrives1 v k e0 e1 at standing stale (k.judged1 ++ (is_nested k.standing1.phase, rec) ∷ []) (k.entries ++ entry_of 1 rec.access rec.reply) (k.entries ++ entry_of 1 rec.access rec.reply) pos refl)
      (more n at)

  -- over the first p turns the walk of both cores comes as far as the judge
  pub one_walk : (p : ℕ) (cores : List ℕ) (v : worlds.World State) (k : Known) (e0 e1 : Entered) (xs ys : List StepRecord) → IsWalk (processor code) cores v xs ys
      → Comes (take p cores) (Some (world_of code v k e0 e1)) v (judgement code b0 b1 (take p cores) xs ys k)
  one_walk zero cores v k e0 e1 xs ys walk = here k e0 e1 None (λ e. (refl, refl))
  one_walk (suc p) [] v k e0 e1 xs ys walk = here k e0 e1 None (λ e. (refl, refl))
  one_walk (suc p) (zero ∷ cs) v k e0 e1 [] ys (left, is, pos, more) = absurd cc
  one_walk (suc p) (zero ∷ cs) v k e0 e1 (x ∷ xs) ys (left, is, pos, more) =
      let first : x ≡ record_now code v.line.memory v.core0.state = (let q : x ≡ next_record (processor code) v.core0 v.line = cc in q ∙ next_is code v.core0 v.line) in
      let last : left ≡ xs = cc in
      let next = give (processor code) 0 v in
      let rest : Known → Judgement = λ n. judgement code b0 b1 (take p cs) xs ys n in
      let go : List StepRecord → Type 0 = λ r. IsWalk (processor code) cs next r ys in
      let after : IsWalk (processor code) cs next xs ys = subst go last more in
      let goal : StepRecord → Type 0 = λ r. Comes (zero ∷ take p cs) (Some (world_of code v k e0 e1)) v (passed_0 (seen_0 code b0 b1 k r) k r rest) in
      subst goal (sym first) (step0 v k e0 e1 pos (seen_0 code b0 b1 k (record_now code v.line.memory v.core0.state)) refl (take p cs) rest (λ n at. one_walk p cs next n at e1 xs ys after))
  one_walk (suc p) (suc c ∷ cs) v k e0 e1 xs [] (left, is, pos, more) = absurd cc
  one_walk (suc p) (suc c ∷ cs) v k e0 e1 xs (y ∷ ys) (left, is, pos, more) =
      let first : y ≡ record_now code v.line.memory v.core1.state = (let q : y ≡ next_record (processor code) v.core1 v.line = cc in q ∙ next_is code v.core1 v.line) in
      let last : left ≡ ys = cc in
      let next = give (processor code) 1 v in
      let rest : Known → Judgement = λ n. judgement code b0 b1 (take p cs) xs ys n in
      let go : List StepRecord → Type 0 = λ r. IsWalk (processor code) cs next xs r in
      let after : IsWalk (processor code) cs next xs ys = subst go last more in
      let goal : StepRecord → Type 0 = λ r. Comes (suc c ∷ take p cs) (Some (world_of code v k e0 e1)) v (passed_1 (seen_1 code b0 b1 k r) k r rest) in
      subst goal (sym first) (step1 v k e0 e1 pos (seen_1 code b0 b1 k (record_now code v.line.memory v.core1.state)) refl c (take p cs) rest (λ n at. one_walk p cs next n e0 at xs ys after))

-- ---- a breach ends the walk
stays0 : (o : Seen) (k : Known) (rec : StepRecord) (rest all : Known → Judgement) (b : Breach) → ((n : Known) → (rest n).breach ≡ Some b → all n ≡ rest n) → (passed_0 o k rec rest).breach ≡ Some b → passed_0 o k rec all ≡ passed_0 o k rec rest
stays0 (Handled standing) k rec rest all b more e = more (past_handled_0 standing k) e
stays0 (Judges standing stale) k rec rest all b more e = more (past_judged_0 standing stale rec k) e
stays0 (Breaks kind) k rec rest all b more e = refl

stays1 : (o : Seen) (k : Known) (rec : StepRecord) (rest all : Known → Judgement) (b : Breach) → ((n : Known) → (rest n).breach ≡ Some b → all n ≡ rest n) → (passed_1 o k rec rest).breach ≡ Some b → passed_1 o k rec all ≡ passed_1 o k rec rest
stays1 (Handled standing) k rec rest all b more e = more (past_handled_1 standing k) e
stays1 (Judges standing stale) k rec rest all b more e = more (past_judged_1 standing stale rec k) e
stays1 (Breaks kind) k rec rest all b more e = refl

stays : (code : ℕ → ℕ) (b0 b1 : Bounds) (p : ℕ) (cores : List ℕ) (xs ys : List StepRecord) (k : Known) (b : Breach) → (judgement code b0 b1 (take p cores) xs ys k).breach ≡ Some b → judgement code b0 b1 cores xs ys k ≡ judgement code b0 b1 (take p cores) xs ys k
stays code b0 b1 zero cores xs ys k b e = absurd cc
stays code b0 b1 (suc p) [] xs ys k b e = absurd cc
stays code b0 b1 (suc p) (zero ∷ cs) [] ys k b e = absurd cc
stays code b0 b1 (suc p) (zero ∷ cs) (x ∷ xs) ys k b e =
    stays0 (seen_0 code b0 b1 k x) k x (λ n. judgement code b0 b1 (take p cs) xs ys n) (λ n. judgement code b0 b1 cs xs ys n) b (λ n f. stays code b0 b1 p cs xs ys n b f) e
stays code b0 b1 (suc p) (suc c ∷ cs) xs [] k b e = absurd cc
stays code b0 b1 (suc p) (suc c ∷ cs) xs (y ∷ ys) k b e =
    stays1 (seen_1 code b0 b1 k y) k y (λ n. judgement code b0 b1 (take p cs) xs ys n) (λ n. judgement code b0 b1 cs xs ys n) b (λ n f. stays code b0 b1 p cs xs ys n b f) e

pub breaches_stay : BreachesStay
breaches_stay o code cores xs ys p b e = stays code (bounds0 o) (bounds1 o) p cores xs ys (opening_known (frame0 o) (frame1 o)) b e
