-- Worlds go on without time.
use Rattle.std.proofs.Common.{◌≡◌, ℕ, zero, suc, ◌≤◌, ◌⊎◌, Bool, true, false, cond, ◌||◌, Option, Some, None, [], ◌∷◌, ◌++◌, length, refl, sym, ap, ◌∙◌, subst, inl, inr, ⊎_elim, arith}
use Rattle.std.proofs.lemmas.Bool.{true≢false}
use Rattle.xt_map.specs.declared.access.Access.{Access}
use Rattle.xt_map.specs.declared.contents.MemoryContents.{MemoryContents}
use Rattle.xt_trace.specs.declared.record.RegWrite.{RegWrite}
use Rattle.xt_trace.specs.declared.record.StepRecord.{StepRecord}
use Rattle.xt_trace.specs.Calls.{is_stop}
use Rattle.xt_trace.specs.Traces.{has_stopped}
use Rattle.xt_trace.specs.Worlds.{Core, Line, World, answer, core_given, give, left_past, line_given, line_past, memory_left}
use Rattle.xt_trace.proofs.Short.{stopped_push}
use Rattle.xt_map.specs.Code.{AreBytes}
use Rattle.xt_exec.specs.Chips.{processor}
use Rattle.xt_exec.specs.State.{State}
use Rattle.xt_exec.specs.Turn.{demand, planned_turn, turn, with_write, write_with_reply}
use Rattle.xt_timeless.specs.Time.{AreEqualButForTime, uses_time, without_time}
use Rattle.xt_timeless.specs.Bare.{Bare, BareWorld, bare_given, bare_in, bare_memory, bare_of, bare_past, bare_turned}
use Rattle.xt_timeless.specs.TimeLaws.{AreSame, HasTurns, HaveTurns, WorldsKeepTimeOut, core_of}
use Rattle.xt_timeless.proofs.Turning.{time_is_used_by_both, turns_alike}

-- ---- a turn and its record

written_alone : (w : Option RegWrite) (s : State) → without_time (with_write w s) ≡ with_write w (without_time s)
written_alone None s = refl
written_alone (Some w) s = refl

pub same_demand : (code : ℕ → ℕ) (s t : State) → AreSame (planned_turn code s) (planned_turn code t) → demand code s ≡ demand code t
unfolding demand
same_demand code s t h = h.access

pub same_kind : (code : ℕ → ℕ) (s t : State) (reply : ℕ) → AreSame (planned_turn code s) (planned_turn code t) → (turn code s reply).0.kind ≡ (turn code t reply).0.kind
unfolding turn
same_kind code s t reply h = h.kind

pub same_after : (code : ℕ → ℕ) (s t : State) (reply : ℕ) → AreSame (planned_turn code s) (planned_turn code t) → without_time (turn code s reply).1 ≡ without_time (turn code t reply).1
unfolding turn
same_after code s t reply h =
    let p = planned_turn code s in
    let q = planned_turn code t in
    written_alone (write_with_reply p.write p.awaited reply) p.after ∙ (λ i. with_write (write_with_reply (h.write i) (h.awaited i) reply) (h.after i)) ∙ sym (written_alone (write_with_reply q.write q.awaited reply) q.after)

-- ---- one core

-- a number that is not below another one's next
pub one_less : (n l : ℕ) → suc n ≤ l → (m : ℕ) × (l ≡ suc m) × (n ≤ m)
one_less n zero h = absurd (omega arith)
one_less n (suc m) h = (m, refl, omega arith)

memory_of_line : (c : ℕ) (d : Option Access) (b : Line) → (line_past c d b).memory ≡ memory_left d b.memory
memory_of_line c None b = refl
memory_of_line c (Some a) b = refl

pub left_stopped : (r : StepRecord) (m : ℕ) (b : Bool) → is_stop r.kind ≡ b → b ≡ true → left_past r m ≡ 0
left_stopped r m b e h = ap (λ (t : Bool). cond t 0 m) (e ∙ h)

pub left_going : (r : StepRecord) (n m : ℕ) (b : Bool) → is_stop r.kind ≡ b → b ≡ false → n ≤ m → n ≤ left_past r m
left_going r n m b e h less = subst (λ (t : Bool). n ≤ cond t 0 m) (sym (e ∙ h)) less

module _ (code : ℕ → ℕ) (bytes : AreBytes code) where
  -- what is said of a core and the memory after its next turn
  record Goes (n c : ℕ) (k : Core State) (b : Line) : Type 0 where
    core : bare_of (core_given (processor code) k.left k b) ≡ bare_past code (bare_of k) b.memory
    memory : (line_given (processor code) c k.left k b).memory ≡ bare_memory code (bare_of k) b.memory
    turns : HasTurns n (core_given (processor code) k.left k b)

  -- with so many turns left
  record GoesAt (n c l : ℕ) (k : Core State) (b : Line) : Type 0 where
    core : bare_of (core_given (processor code) l k b) ≡ bare_past code (bare_of k) b.memory
    memory : (line_given (processor code) c l k b).memory ≡ bare_memory code (bare_of k) b.memory
    turns : HasTurns n (core_given (processor code) l k b)

  stays : (n c : ℕ) (k : Core State) (b : Line) → has_stopped k.records ≡ true → HasTurns (suc n) k → GoesAt n c 0 k b
  stays n c k b st h = record {
    core = ap (λ (t : Bool). cond t (bare_of k) (bare_turned code (bare_of k) b.memory)) (sym st);
    memory = ap (λ (t : Bool). cond t b.memory (memory_left (demand code (without_time k.state)) b.memory)) (sym st);
    turns = (h.0, λ (f : has_stopped k.records ≡ false). absurd (true≢false (sym st ∙ f)));
  }

  goes_on : (n c m : ℕ) (k : Core State) (b : Line) → n ≤ m → has_stopped k.records ≡ false → uses_time code k.state ≡ false → GoesAt n c (suc m) k b
  goes_on n c m k b less going free =
      let s = k.state in
      let u = without_time s in
      let same = turns_alike code bytes s free in
      let d : demand code s ≡ demand code u = same_demand code s u same in
      let reply = answer (demand code s) b.memory in
      let other = answer (demand code u) b.memory in
      let replies : reply ≡ other = ap (λ (x : Option Access). answer x b.memory) d in
      let make : State → Bool → Bare = λ x y. record { state = x; stopped = y } in
      let state : without_time (turn code s reply).1 ≡ without_time (turn code u other).1 = same_after code s u reply same ∙ ap (λ (r : ℕ). without_time (turn code u r).1) replies in
      let kinds : is_stop (turn code s reply).0.kind ≡ is_stop (turn code u other).0.kind = ap is_stop (same_kind code s u reply same) ∙ ap (λ (r : ℕ). is_stop (turn code u r).0.kind) replies in
      let pushed : has_stopped (k.records ++ (turn code s reply).0 ∷ []) ≡ is_stop (turn code s reply).0.kind = stopped_push k.records (turn code s reply).0 ∙ ap (λ (t : Bool). t || is_stop (turn code s reply).0.kind) going in
      record {
        core = (λ i. make (state i) ((pushed ∙ kinds) i)) ∙ ap (λ (t : Bool). cond t (bare_of k) (bare_turned code (bare_of k) b.memory)) (sym going);
        memory = memory_of_line c (demand code s) b ∙ ap (λ (x : Option Access). memory_left x b.memory) d
            ∙ ap (λ (t : Bool). cond t b.memory (memory_left (demand code u) b.memory)) (sym going);
        turns = (
          λ (h : has_stopped (k.records ++ (turn code s reply).0 ∷ []) ≡ true). left_stopped (turn code s reply).0 m _ (sym pushed) h,
          λ (h : has_stopped (k.records ++ (turn code s reply).0 ∷ []) ≡ false). left_going (turn code s reply).0 n m _ (sym pushed) h less,
        );
      }

  goes_at : (n c l : ℕ) (k : Core State) (b : Line) → k.left ≡ l → GoesAt n c l k b → Goes n c k b
  goes_at n c l k b e g = record {
    core = ap (λ (j : ℕ). bare_of (core_given (processor code) j k b)) e ∙ g.core;
    memory = ap (λ (j : ℕ). (line_given (processor code) c j k b).memory) e ∙ g.memory;
    turns = subst (λ (j : ℕ). HasTurns n (core_given (processor code) j k b)) (sym e) g.turns;
  }

  goes : (n c : ℕ) (k : Core State) (b : Line) → HasTurns (suc n) k → (has_stopped k.records ≡ true) ⊎ (uses_time code k.state ≡ false) → Goes n c k b
  goes n c k b h free = by_test (has_stopped k.records) refl
    where
      by_test : (st : Bool) → has_stopped k.records ≡ st → Goes n c k b
      by_test true st = goes_at n c 0 k b (h.0 st) (stays n c k b st h)
      by_test false st =
          let m = one_less n k.left (h.1 st) in
          goes_at n c (suc m.0) k b m.1
          (goes_on n c m.0 k b m.2 st (⊎_elim (λ (x : has_stopped k.records ≡ true). absurd (true≢false (sym x ∙ st))) (λ (x : uses_time code k.state ≡ false). x) free))

  pub fewer : (n : ℕ) (k : Core State) → HasTurns (suc n) k → HasTurns n k
  fewer n k h = (h.0, λ (f : has_stopped k.records ≡ false). let l : suc n ≤ k.left = h.1 f in omega arith)

  -- ---- worlds

  pub bare_gives : (n c : ℕ) (w : World State) → HaveTurns (suc n) w → (has_stopped (core_of c w).records ≡ true) ⊎ (uses_time code (core_of c w).state ≡ false)
      → (bare_in (give (processor code) c w) ≡ bare_given code c (bare_in w)) × HaveTurns n (give (processor code) c w)
  bare_gives n zero w h free =
      let g = goes n 0 w.core0 w.line h.0 free in
      let make : Bare → MemoryContents → BareWorld = λ k m. record { core0 = k; core1 = bare_of w.core1; memory = m } in
      (λ i. make (g.core i) (g.memory i), (g.turns, fewer n w.core1 h.1))
  bare_gives n (suc c) w h free =
      let g = goes n 1 w.core1 w.line h.1 free in
      let make : Bare → MemoryContents → BareWorld = λ k m. record { core0 = bare_of w.core0; core1 = k; memory = m } in
      (λ i. make (g.core i) (g.memory i), (fewer n w.core0 h.0, g.turns))

  same_free : (c : ℕ) (v w : World State) → AreEqualButForTime v w → (has_stopped (core_of c v).records ≡ true) ⊎ (uses_time code (core_of c v).state ≡ false)
      → (has_stopped (core_of c w).records ≡ true) ⊎ (uses_time code (core_of c w).state ≡ false)
  same_free zero v w e free =
      ⊎_elim (λ (x : has_stopped v.core0.records ≡ true). inl (sym e.stopped0 ∙ x))
      (λ (x : uses_time code v.core0.state ≡ false). inr (sym (time_is_used_by_both code v.core0.state w.core0.state bytes e.state0) ∙ x)) free
  same_free (suc c) v w e free =
      ⊎_elim (λ (x : has_stopped v.core1.records ≡ true). inl (sym e.stopped1 ∙ x))
      (λ (x : uses_time code v.core1.state ≡ false). inr (sym (time_is_used_by_both code v.core1.state w.core1.state bytes e.state1) ∙ x)) free

same_bare : (v w : World State) → AreEqualButForTime v w → bare_in v ≡ bare_in w
same_bare v w e =
    let core : State → Bool → Bare = λ x y. record { state = x; stopped = y } in
    let make : Bare → Bare → MemoryContents → BareWorld = λ a b m. record { core0 = a; core1 = b; memory = m } in
    λ i. make (core (e.state0 i) (e.stopped0 i)) (core (e.state1 i) (e.stopped1 i)) (e.memory i)

equal_from_bare : (v w : World State) → bare_in v ≡ bare_in w → AreEqualButForTime v w
equal_from_bare v w e = record {
  state0 = ap (λ (b : BareWorld). b.core0.state) e;
  state1 = ap (λ (b : BareWorld). b.core1.state) e;
  stopped0 = ap (λ (b : BareWorld). b.core0.stopped) e;
  stopped1 = ap (λ (b : BareWorld). b.core1.stopped) e;
  memory = ap (λ (b : BareWorld). b.memory) e;
}

pub worlds_keep_time_out : WorldsKeepTimeOut
worlds_keep_time_out code [] v w bytes e hv hw free = e
worlds_keep_time_out code (c ∷ cs) v w bytes e hv hw free =
    let a = bare_gives code bytes (length cs) c v hv free.0 in
    let b = bare_gives code bytes (length cs) c w hw (same_free code bytes c v w e free.0) in
    worlds_keep_time_out code cs (give (processor code) c v) (give (processor code) c w) bytes
    (equal_from_bare (give (processor code) c v) (give (processor code) c w) (a.0 ∙ ap (bare_given code c) (same_bare v w e) ∙ sym b.0)) a.1 b.1 free.1
