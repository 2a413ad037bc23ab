-- The record of the next turn, by the registers and the history.
use Rattle.std.proofs.Common.{◌≡◌, ℕ, zero, suc, ◌+◌, ◌<◌, ◌≤◌, Option, Some, None, List, [], ◌∷◌, ◌++◌, length, take, get_or, refl, sym, ap, ◌∙◌, subst, arith}
use Rattle.std.specs.Prelude.{slice_get}
use Rattle.std.specs.Option.{option_map_or}
use Rattle.std.proofs.lemmas.Option.{slice_get-get_or}
use Rattle.xt_map.specs.declared.access.Access.{Access}
use Rattle.xt_map.specs.declared.access.Entry.{Entry}
use Rattle.xt_map.specs.declared.segment.Segment.{Segment}
use Rattle.xt_map.specs.Memory.{constant_byte}
use Rattle.xt_map.specs.Serving.{reply_to}
use Rattle.xt_trace.specs.declared.record.StepRecord.{StepRecord}
use Rattle.xt_trace.specs.declared.run.Run.{Run}
use Rattle.xt_image.specs.declared.image.Image.{Image}
use Rattle.xt_trace.specs.Worlds.{Core, Line, World, answer, entry, line_past}
use Rattle.xt_exec.specs.Chips.{processor}
use Rattle.xt_exec.specs.State.{State}
use Rattle.xt_exec.specs.Turn.{demand, turn}
use Rattle.xt_core.specs.Positions.{schedule_in, world_at}
use Rattle.xt_core.specs.Runs.{IsRunOf, code_of, opening_of, records_of}
use Rattle.xt_replay.specs.Shown.{shown_at, step_in}
use Rattle.xt_replay.specs.Stands.{IsReply, Stand, next_reply, record_in, stand_in, stand_of}
use Rattle.xt_replay.specs.ReplayFields.{IsKept}
use Rattle.xt_replay.specs.declared.replay.Replay.TheInside.{Inside}
use Rattle.xt_replay.proofs.Walking.{Next, Turn, line_turned, next_turn, state_on, turn0, turn1}
use Rattle.xt_replay.proofs.Standing.{at_position, schedule_is, served_at, whole}

-- ---- the entry that a turn makes

entry_there : (H done : List Entry) (e : Entry) (m : ℕ) → done ++ (e ∷ []) ≡ take m H → slice_get H (length done) ≡ Some e
entry_there [] [] e zero is = absurd cc
entry_there [] [] e (suc m) is = absurd cc
entry_there [] (x ∷ done) e zero is = absurd cc
entry_there [] (x ∷ done) e (suc m) is = absurd cc
entry_there (h ∷ H) [] e zero is = absurd cc
entry_there (h ∷ H) [] e (suc m) is = let same : h ≡ e = cc in ap Some same
entry_there (h ∷ H) (x ∷ done) e zero is = absurd cc
entry_there (h ∷ H) (x ∷ done) e (suc m) is = let rest : done ++ (e ∷ []) ≡ take m H = cc in entry_there H done e m rest

reply_by : (c : ℕ) (d : Option Access) (b : Line) (H : List Entry) (m : ℕ) → (line_past c d b).history ≡ take m H → IsReply d (next_reply H (length b.history)) (answer d b.memory)
reply_by c None b H m is = tt
reply_by c (Some a) b H m is =
    ap (λ (o : Option Entry). option_map_or (λ (e : Entry). e.reply) o 0) (entry_there H b.history (entry c a (reply_to b.memory a)) m is)

-- ---- the next turn of a core

-- what a core's next turn asks
abbrev pub asked : (ℕ → ℕ) → ℕ → Stand → Option Access
asked code zero s = demand code s.side0.state
asked code (suc c) s = demand code s.side1.state

pub record Recorded (image : Image) (r : Run) (p c : ℕ) : Type 0 where
  pub turn_is : slice_get (records_of c image r).records (step_in c (shown_at image r p)) ≡ Some (record_in (code_of image) c (stand_in (world_at image r p)))
  pub reply_is : IsReply (asked (code_of image) c (stand_in (world_at image r p))) (next_reply r.history (stand_in (world_at image r p)).entries)
      (answer (asked (code_of image) c (stand_in (world_at image r p))) (stand_in (world_at image r p)).memory)

abbrev Turned : Image → Run → ℕ → ℕ → Type 0
Turned image r p c = Next (processor (code_of image)) (whole image r) p (world_at image r p) c

recorded_zero : (image : Image) (r : Run) (p : ℕ) → IsRunOf image r → p < length (schedule_in r) → Turned image r p 0 → Recorded image r p 0
recorded_zero image r p h lt n =
    let P = processor (code_of image) in
    let w = world_at image r p in
    let here : get_or (schedule_in r) p 0 ≡ 0 = ap (λ (l : List ℕ). get_or l p 0) (schedule_is image r h) ∙ n.here in
    let on : (world_at image r (p + 1)).line.history ≡ (line_past 0 (demand (code_of image) w.core0.state) w.line).history
    = ap (λ (v : World State). v.line.history) (state_on P (opening_of image r.options) (schedule_in r) p 0 lt here)
    ∙ ap (λ (b : Line). b.history) (line_turned P 0 w.core0 w.line w.core0.left n.left) in
    record {
      turn_is = n.record_is;
      reply_is = reply_by 0 (demand (code_of image) w.core0.state) w.line r.history (length (world_at image r (p + 1)).line.history) (sym on ∙ served_at image r h (p + 1));
    }

recorded_one : (image : Image) (r : Run) (p : ℕ) → IsRunOf image r → p < length (schedule_in r) → Turned image r p 1 → Recorded image r p 1
recorded_one image r p h lt n =
    let P = processor (code_of image) in
    let w = world_at image r p in
    let here : get_or (schedule_in r) p 0 ≡ 1 = ap (λ (l : List ℕ). get_or l p 0) (schedule_is image r h) ∙ n.here in
    let on : (world_at image r (p + 1)).line.history ≡ (line_past 1 (demand (code_of image) w.core1.state) w.line).history
    = ap (λ (v : World State). v.line.history) (state_on P (opening_of image r.options) (schedule_in r) p 1 lt here)
    ∙ ap (λ (b : Line). b.history) (line_turned P 1 w.core1 w.line w.core1.left n.left) in
    record {
      turn_is = n.record_is;
      reply_is = reply_by 1 (demand (code_of image) w.core1.state) w.line r.history (length (world_at image r (p + 1)).line.history) (sym on ∙ served_at image r h (p + 1));
    }

same_core : (l : List ℕ) (p c d : ℕ) → p < length l → slice_get l p ≡ Some c → get_or l p 0 ≡ d → d ≡ c
same_core l p c d lt is here =
    let both : ◌≡◌ {A = Option ℕ} (Some c) (Some d) = sym is ∙ slice_get-get_or l p 0 lt ∙ ap (λ (n : ℕ). let x : Option ℕ = Some n in x) here in cc

recorded_by : (image : Image) (r : Run) (p c : ℕ) → IsRunOf image r → p < length (schedule_in r) → slice_get (schedule_in r) p ≡ Some c
    → Turn (processor (code_of image)) (whole image r) p (world_at image r p) → Recorded image r p c
recorded_by image r p c h lt is (turn0 n) =
    let here : get_or (schedule_in r) p 0 ≡ 0 = ap (λ (l : List ℕ). get_or l p 0) (schedule_is image r h) ∙ n.here in
    subst (Recorded image r p) (same_core (schedule_in r) p c 0 lt is here) (recorded_zero image r p h lt n)
recorded_by image r p c h lt is (turn1 n) =
    let here : get_or (schedule_in r) p 0 ≡ 1 = ap (λ (l : List ℕ). get_or l p 0) (schedule_is image r h) ∙ n.here in
    subst (Recorded image r p) (same_core (schedule_in r) p c 1 lt is here) (recorded_one image r p h lt n)

pub inside_of : (l : List ℕ) (p c : ℕ) → slice_get l p ≡ Some c → p < length l
inside_of [] p c is = absurd cc
inside_of (x ∷ l) zero c is = omega arith
inside_of (x ∷ l) (suc p) c is = let lt : p < length l = inside_of l p c is in omega (arith, lt)

pub next_recorded : (image : Image) (r : Run) (p c : ℕ) → IsRunOf image r → slice_get (schedule_in r) p ≡ Some c → Recorded image r p c
next_recorded image r p c h is =
    let lt : p < length (schedule_in r) = inside_of (schedule_in r) p c is in
    let L : List ℕ → Type 0 = λ l. p < length l in
    recorded_by image r p c h lt is
    (next_turn (processor (code_of image)) (whole image r) p (world_at image r p) (at_position image r h p (omega (arith, lt))) (subst L (schedule_is image r h) lt))

-- ---- the core of a turn

two_by : (image : Image) (r : Run) (p c : ℕ) → IsRunOf image r → p < length (schedule_in r) → slice_get (schedule_in r) p ≡ Some c
    → Turn (processor (code_of image)) (whole image r) p (world_at image r p) → c < 2
two_by image r p c h lt is (turn0 n) =
    let here : get_or (schedule_in r) p 0 ≡ 0 = ap (λ (l : List ℕ). get_or l p 0) (schedule_is image r h) ∙ n.here in
    omega (arith, same_core (schedule_in r) p c 0 lt is here)
two_by image r p c h lt is (turn1 n) =
    let here : get_or (schedule_in r) p 0 ≡ 1 = ap (λ (l : List ℕ). get_or l p 0) (schedule_is image r h) ∙ n.here in
    omega (arith, same_core (schedule_in r) p c 1 lt is here)

pub two_cores : (image : Image) (r : Run) (p c : ℕ) → IsRunOf image r → slice_get (schedule_in r) p ≡ Some c → c < 2
two_cores image r p c h is =
    let lt : p < length (schedule_in r) = inside_of (schedule_in r) p c is in
    let L : List ℕ → Type 0 = λ l. p < length l in
    two_by image r p c h lt is
    (next_turn (processor (code_of image)) (whole image r) p (world_at image r p) (at_position image r h p (omega (arith, lt))) (subst L (schedule_is image r h) lt))

pub past_all : (l : List ℕ) (p : ℕ) → slice_get l p ≡ None → length l ≤ p
past_all [] p is = omega arith
past_all (c ∷ l) zero is = absurd cc
past_all (c ∷ l) (suc p) is = let le : length l ≤ p = past_all l p is in omega (arith, le)

-- ---- in a replay

-- the record of a turn of this core, whose access has this reply
abbrev pub Records : (ℕ → ℕ) → ℕ → Stand → ℕ → StepRecord → Type 0
Records code zero s reply x = (right : ℕ) → IsReply (demand code s.side0.state) reply right → x ≡ (turn code s.side0.state right).0
Records code (suc c) s reply x = (right : ℕ) → IsReply (demand code s.side1.state) reply right → x ≡ (turn code s.side1.state right).0

it_is : (image : Image) (r : Run) (p c : ℕ) (x : StepRecord) (s : Stand) → Records (code_of image) c s (next_reply r.history s.entries) x
    → IsReply (asked (code_of image) c s) (next_reply r.history s.entries) (answer (asked (code_of image) c s) s.memory) → x ≡ record_in (code_of image) c s
it_is image r p zero x s f right = f (answer (demand (code_of image) s.side0.state) s.memory) right
it_is image r p (suc c) x s f right = f (answer (demand (code_of image) s.side1.state) s.memory) right

pub record_given : (b : Inside) (core reply : ℕ) (x : StepRecord) → IsKept b → slice_get (schedule_in b.run.now) b.position ≡ Some core → reply ≡ next_reply b.run.now.history b.pair.used
    → Records (constant_byte b.code) core (stand_of b.pair) reply x
    → slice_get (records_of core b.image.now b.run.now).records (step_in core (shown_at b.image.now b.run.now b.position)) ≡ Some x
record_given b core reply x h is reply_is f =
    let image = b.image.now in
    let r = b.run.now in
    let s = stand_in (world_at image r b.position) in
    let R : ℕ → Type 0 = λ n. Records (constant_byte b.code) core (stand_of b.pair) n x in
    let C : List Segment → Type 0 = λ g. Records (constant_byte g) core (stand_of b.pair) (next_reply r.history (stand_of b.pair).entries) x in
    let S : Stand → Type 0 = λ t. Records (code_of image) core t (next_reply r.history t.entries) x in
    let right : S s = subst S h.stand (subst C h.code_is (subst R reply_is f)) in
    let t = next_recorded image r b.position core h.run_is is in
    t.turn_is ∙ ap Some (sym (it_is image r b.position core x s right t.reply_is))
