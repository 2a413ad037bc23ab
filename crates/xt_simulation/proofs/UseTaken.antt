-- The turns of a walk: each is the processor's turn in the state and the memory where the walk stands, and what holds where it begins and is kept by each turn holds at each place of it.
use Rattle.std.proofs.Common.{◌≡◌, ℕ, zero, suc, ◌<◌, ◌≤◌, Some, List, [], ◌∷◌, length, slice_get, take, sym, ap, ◌∙◌, refl, arith, subst}
use Rattle.std.proofs.lemmas.Option.{same_Some}
use Rattle.xt_map.specs.declared.contents.MemoryContents.{MemoryContents}
use Rattle.xt_trace.specs.declared.record.StepRecord.{StepRecord}
use Rattle.xt_trace.specs.Worlds as worlds
use Rattle.xt_trace.specs.Worlds.{give, advance}
use Rattle.xt_trace.specs.Walks.{IsWalk, next_record}
use Rattle.xt_exec.specs.State.{State}
use Rattle.xt_exec.specs.Chips.{processor}
use Rattle.xt_frames.specs.FirstBreach.{Turn, turn_of, turns}
use Rattle.xt_simulation.specs.Steps.{memory_now, record_now, state_now}
use Rattle.xt_simulation.proofs.Headline.{core_next, line_next, next_is}

module _ (code : ℕ → ℕ) where
  -- from one place to the next by a turn of core 0, or of core 1, which makes this record
  pub data Takes (w v : worlds.World State) (core : ℕ) (rec : StepRecord) : Type 0 where
    Takes0 : core ≡ 0 → rec ≡ record_now code w.line.memory w.core0.state → v.line.memory ≡ memory_now code w.line.memory w.core0.state
        → v.core0.state ≡ state_now code w.line.memory w.core0.state → v.core1.state ≡ w.core1.state → Takes w v core rec
    Takes1 : core ≡ 1 → rec ≡ record_now code w.line.memory w.core1.state → v.line.memory ≡ memory_now code w.line.memory w.core1.state
        → v.core1.state ≡ state_now code w.line.memory w.core1.state → v.core0.state ≡ w.core0.state → Takes w v core rec

  abbrev pub stands_at : List ℕ → worlds.World State → ℕ → worlds.World State
  stands_at cores w p = advance (processor code) (take p cores) w

  pub turn_taken : (p : ℕ) (cores : List ℕ) (w : worlds.World State) (xs ys : List StepRecord) (core : ℕ) (rec : StepRecord) → IsWalk (processor code) cores w xs ys → slice_get (turns cores xs ys) p ≡ Some (turn_of core rec)
      → Takes (stands_at cores w p) (stands_at cores w (suc p)) core rec
  turn_taken p [] w xs ys core rec walk e = absurd cc
  turn_taken p (zero ∷ cs) w [] ys core rec (left, is, pos, more) e = absurd cc
  turn_taken zero (zero ∷ cs) w (x ∷ xs) ys core rec (left, is, pos, more) e =
      let same : turn_of 0 x ≡ turn_of core rec = same_Some (turn_of 0 x) (turn_of core rec) e in
      let first : x ≡ record_now code w.line.memory w.core0.state = (let q : x ≡ next_record (processor code) w.core0 w.line = cc in q ∙ next_is code w.core0 w.line) in
      Takes0 (sym (ap (λ (t : Turn). t.core) same)) (sym (ap (λ (t : Turn). t.rec) same) ∙ first) (line_next code 0 w.core0 w.line w.core0.left pos) (core_next code w.core0 w.line w.core0.left refl pos) refl
  turn_taken (suc p) (zero ∷ cs) w (x ∷ xs) ys core rec (left, is, pos, more) e =
      let last : left ≡ xs = cc in
      let go : List StepRecord → Type 0 = λ r. IsWalk (processor code) cs (give (processor code) 0 w) r ys in
      turn_taken p cs (give (processor code) 0 w) xs ys core rec (subst go last more) e
  turn_taken p (suc c ∷ cs) w xs [] core rec (left, is, pos, more) e = absurd cc
  turn_taken zero (suc c ∷ cs) w xs (y ∷ ys) core rec (left, is, pos, more) e =
      let same : turn_of 1 y ≡ turn_of core rec = same_Some (turn_of 1 y) (turn_of core rec) e in
      let first : y ≡ record_now code w.line.memory w.core1.state = (let q : y ≡ next_record (processor code) w.core1 w.line = cc in q ∙ next_is code w.core1 w.line) in
      Takes1 (sym (ap (λ (t : Turn). t.core) same)) (sym (ap (λ (t : Turn). t.rec) same) ∙ first) (line_next code 1 w.core1 w.line w.core1.left pos) (core_next code w.core1 w.line w.core1.left refl pos) refl
  turn_taken (suc p) (suc c ∷ cs) w xs (y ∷ ys) core rec (left, is, pos, more) e =
      let last : left ≡ ys = cc in
      let go : List StepRecord → Type 0 = λ r. IsWalk (processor code) cs (give (processor code) 1 w) xs r in
      turn_taken p cs (give (processor code) 1 w) xs ys core rec (subst go last more) e

  -- ---- what is kept by each turn
  module _ (cores : List ℕ) (w : worlds.World State) (xs ys : List StepRecord) (walk : IsWalk (processor code) cores w xs ys) (B : ℕ → MemoryContents → State → State → Type 0) where
    -- it holds at place p
    abbrev pub HoldsAt : ℕ → Type 0
    HoldsAt p = B p (stands_at cores w p).line.memory (stands_at cores w p).core0.state (stands_at cores w p).core1.state

    -- a turn of core 0, and of core 1, keeps it
    abbrev pub Keeps0 : ℕ → Type 0
    Keeps0 q = (p : ℕ) (m : MemoryContents) (s t : State) → p < q → slice_get (turns cores xs ys) p ≡ Some (turn_of 0 (record_now code m s)) → B p m s t → B (suc p) (memory_now code m s) (state_now code m s) t

    abbrev pub Keeps1 : ℕ → Type 0
    Keeps1 q = (p : ℕ) (m : MemoryContents) (s t : State) → p < q → slice_get (turns cores xs ys) p ≡ Some (turn_of 1 (record_now code m t)) → B p m s t → B (suc p) (memory_now code m t) s (state_now code m t)

    moved : (p : ℕ) (m n : MemoryContents) (s s2 t t2 : State) → n ≡ m → s2 ≡ s → t2 ≡ t → B p m s t → B p n s2 t2
    moved p m n s s2 t t2 e f g h =
        let Of : State → Type 0 = λ z. B p n s2 z in
        let With : State → Type 0 = λ z. B p n z t in
        let In : MemoryContents → Type 0 = λ z. B p z s t in
        subst Of (sym g) (subst With (sym f) (subst In (sym e) h))

    past : (q p : ℕ) → p < q → Keeps0 q → Keeps1 q → (core : ℕ) (rec : StepRecord) → slice_get (turns cores xs ys) p ≡ Some (turn_of core rec) → Takes (stands_at cores w p) (stands_at cores w (suc p)) core rec → HoldsAt p → HoldsAt (suc p)
    past q p less zero_keeps one_keeps core rec turn (Takes0 c r m s t) h =
        let here = stands_at cores w p in
        let next = stands_at cores w (suc p) in
        let own : slice_get (turns cores xs ys) p ≡ Some (turn_of 0 (record_now code here.line.memory here.core0.state)) = turn ∙ (ap (λ k. Some (turn_of k rec)) c ∙ ap (λ z. Some (turn_of 0 z)) r) in
        moved (suc p) (memory_now code here.line.memory here.core0.state) next.line.memory (state_now code here.line.memory here.core0.state) next.core0.state here.core1.state next.core1.state m s t
        (zero_keeps p here.line.memory here.core0.state here.core1.state less own h)
    past q p less zero_keeps one_keeps core rec turn (Takes1 c r m t s) h =
        let here = stands_at cores w p in
        let next = stands_at cores w (suc p) in
        let own : slice_get (turns cores xs ys) p ≡ Some (turn_of 1 (record_now code here.line.memory here.core1.state)) = turn ∙ (ap (λ k. Some (turn_of k rec)) c ∙ ap (λ z. Some (turn_of 1 z)) r) in
        moved (suc p) (memory_now code here.line.memory here.core1.state) next.line.memory here.core0.state next.core0.state (state_now code here.line.memory here.core1.state) next.core1.state m s t
        (one_keeps p here.line.memory here.core0.state here.core1.state less own h)

    pub holds_at : (q : ℕ) → q ≤ length (turns cores xs ys) → HoldsAt 0 → Keeps0 q → Keeps1 q → (p : ℕ) → p ≤ q → HoldsAt p
    holds_at q most begins zero_keeps one_keeps zero le = begins
    holds_at q most begins zero_keeps one_keeps (suc p) le =
        let turn = some_turn (turns cores xs ys) p (let l = most in omega (arith, l, le)) in
        past q p (omega (arith, le)) zero_keeps one_keeps turn.0.core turn.0.rec turn.1 (turn_taken p cores w xs ys turn.0.core turn.0.rec walk turn.1) (holds_at q most begins zero_keeps one_keeps p (omega (arith, le)))
      where
        some_turn : (ts : List Turn) (k : ℕ) → k < length ts → (t : Turn) × (slice_get ts k ≡ Some t)
        some_turn [] k l = absurd (omega (arith, l))
        some_turn (t ∷ ts) zero l = (t, refl)
        some_turn (t ∷ ts) (suc k) l = some_turn ts k (omega (arith, l))
