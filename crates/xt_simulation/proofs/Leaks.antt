-- The first leak of a run: there is one, and the turns before it use known bits alone.
use Rattle.std.proofs.Common.{◌≡◌, ℕ, zero, suc, ◌^◌, ◌<◌, Bool, true, false, cond, Option, Some, None, List, [], ◌∷◌, length, take, refl, sym, ap, ◌∙◌, subst, ⊎_elim, arith}
use Rattle.std.specs.Prelude.{slice_get}
use Rattle.std.proofs.lemmas.Bool.{cases_lt, true≢false}
use Rattle.xt_map.specs.declared.access.Access.{Access}
use Rattle.xt_map.specs.declared.contents.MemoryContents.{MemoryContents}
use Rattle.xt_map.specs.Memory.{byte_at}
use Rattle.xt_trace.specs.declared.record.StepRecord.{StepRecord}
use Rattle.xt_trace.specs.Chip.{Chip}
use Rattle.xt_trace.specs.Runs.{schedule_of, world_at_start}
use Rattle.xt_trace.proofs.Walks.{own_walk}
use Rattle.xt_trace.specs.Walks.{IsWalk, next_record}
use Rattle.xt_trace.specs.Worlds.{World, answer, core_given, give}
use Rattle.xt_exec.specs.Chips.{processor}
use Rattle.xt_exec.specs.State.{State}
use Rattle.xt_exec.specs.Turn.{demand, reply_where, turn}
use Rattle.xt_frames.specs.FirstBreach.{Turn, records_of, turn_of, turns}
use Rattle.xt_uses.specs.Words.{masked}
use Rattle.xt_uses.specs.UseLaws.{AgreeIn}
use Rattle.xt_uses.proofs.Agreeing.{agree_none}
use Rattle.xt_simulation.specs.Knowledge.{AreMasks, Knowledge, StatesAgree, all_known}
use Rattle.xt_simulation.specs.SecretBytes.{is_hidden}
use Rattle.xt_simulation.specs.SecretWorlds.{Learned, given_learned, given_used, learned_past, next_learned, next_used, opening_learned}
use Rattle.xt_simulation.specs.WorldLaws.{IsLearned, UsesAreKnown, WorldsAgree}
use Rattle.xt_simulation.specs.FirstLeak.{EndsIn, IsFirstLeak, Leak, Standing, Watched, known_uses, opening_standing, standing_before, standing_over, standing_past}
use Rattle.xt_simulation.specs.LeakLaws.{DifferInBytes, FirstLeakIsOne, IsRunFrom, RunsAreSameUpToTheLeak, SameUpToTheLeak, watched, with_memory}
use Rattle.xt_simulation.proofs.Worlds.{orders_go_on_alike}

-- ---- there is one

same_turn : (r : Watched) (p : ℕ) (t u : Turn) → slice_get r.turns p ≡ Some t → slice_get r.turns p ≡ Some u → t ≡ u
same_turn r p t u e f = let g : Some t ≡ Some u = sym e ∙ f in cc

there_is : {A : Type 0} (xs : List A) (p : ℕ) → p < length xs → (x : A) × (slice_get xs p ≡ Some x)
there_is [] p h = absurd (omega arith)
there_is (x ∷ xs) zero h = (x, refl)
there_is (x ∷ xs) (suc p) h = there_is xs p (omega arith)

within : {A : Type 0} (xs : List A) (p : ℕ) (x : A) → slice_get xs p ≡ Some x → p < length xs
within [] p x e = absurd cc
within (y ∷ ys) zero x e = omega arith
within (y ∷ ys) (suc p) x e = let h = within ys p x e in omega arith

-- no end lies before another one
not_before : (r : Watched) (p q : ℕ) (one other : Option Leak) → IsFirstLeak r p one → IsFirstLeak r q other → p < q → ⊥
not_before r p q (Some l) other h g less = true≢false (sym (g.before p h.here.turn less h.here.is_turn) ∙ h.here.uses)
not_before r p q None (Some l) h g less = let e : p ≡ length r.turns = h.here in let w = within r.turns q g.here.turn g.here.is_turn in omega (arith, e, w)
not_before r p q None None h g less = let e : p ≡ length r.turns = h.here in let f : q ≡ length r.turns = g.here in omega (arith, e, f)

same_end : (r : Watched) (p : ℕ) (one other : Option Leak) → EndsIn r p one → EndsIn r p other → one ≡ other
same_end r p None None h g = refl
same_end r p None (Some l) h g = let e : p ≡ length r.turns = h in let w = within r.turns p g.turn g.is_turn in absurd (omega (arith, e, w))
same_end r p (Some k) None h g = let e : p ≡ length r.turns = g in let w = within r.turns p h.turn h.is_turn in absurd (omega (arith, e, w))
same_end r p (Some k) (Some l) h g =
    let t = same_turn r p h.turn g.turn h.is_turn g.is_turn in
    let core : k.core ≡ l.core = h.core ∙ (ap (λ (u : Turn). u.core) t ∙ sym g.core) in
    let step : k.step ≡ l.step = h.step ∙ (ap (λ (u : Turn). length (records_of u.core (take p r.turns))) t ∙ sym g.step) in
    λ i. Some (record { core = core i; step = step i })

pub first_leak_is_one : FirstLeakIsOne
first_leak_is_one r p q one other h g = ⊎_elim
    (λ less. absurd (not_before r p q one other h g less))
    (λ rest. ⊎_elim
    (λ more. absurd (not_before r q p other one g h more))
    (λ least. let e : p ≡ q = omega (arith, rest, least) in (e, same_end r q one other (subst (λ (n : ℕ). EndsIn r n one) e h.here) g.here))
    (cases_lt q p))
    (cases_lt p q)

-- ---- the turns of a walk

-- the reply that a record has is the one that its turn was given
same_answer : (d : Option Access) (m : MemoryContents) → reply_where d (answer d m) ≡ answer d m
same_answer None m = refl
same_answer (Some a) m = refl

-- no turn from one on and before this one uses a bit that is not known
abbrev pub KnownUntil : (ℕ → ℕ) → (ℕ → Bool) → ℕ → List Turn → Standing → Type 0
KnownUntil code public n ts b = (i : ℕ) (t : Turn) → i < n → slice_get ts i ≡ Some t → known_uses code t (standing_over code public (take i ts) b) ≡ true

abbrev pub standing_in : World State → Learned → Standing
standing_in w k = record { state0 = w.core0.state; state1 = w.core1.state; learned = k }

module _ (code : ℕ → ℕ) (public : ℕ → Bool) where
  abbrev P : Chip State
  P = processor code

  some_left : (n : ℕ) → 0 < n → (l : ℕ) × (n ≡ suc l)
  some_left zero h = absurd (omega arith)
  some_left (suc l) h = (l, refl)

  -- core 0
  pub zero_past : (w : World State) (k : Learned) → 0 < w.core0.left → standing_past code public (turn_of 0 (next_record P w.core0 w.line)) (standing_in w k) ≡ standing_in (give P 0 w) (given_learned code public 0 w k)
  unfolding turn
  zero_past w k some =
      let l = some_left w.core0.left some in
      subst (λ (n : ℕ). standing_past code public (turn_of 0 (next_record P w.core0 w.line)) (standing_in w k)
      ≡ record { state0 = (core_given P n w.core0 w.line).state; state1 = w.core1.state; learned = next_learned code public n 0 w k }) (sym l.1)
      (ap (λ (reply : ℕ). record {
        state0 = (turn code w.core0.state reply).1;
        state1 = w.core1.state;
        learned = learned_past code public 0 w.core0.state (next_record P w.core0 w.line) (turn code w.core0.state reply).1.base k;
      }) (same_answer (demand code w.core0.state) w.line.memory))

  zero_used : (w : World State) (k : Learned) → 0 < w.core0.left → known_uses code (turn_of 0 (next_record P w.core0 w.line)) (standing_in w k) ≡ true → given_used code 0 w k ≡ true
  zero_used w k some used = let l = some_left w.core0.left some in subst (λ (n : ℕ). next_used code n 0 w k ≡ true) (sym l.1) used

  -- core 1
  pub one_past : (c : ℕ) (w : World State) (k : Learned) → 0 < w.core1.left
      → standing_past code public (turn_of 1 (next_record P w.core1 w.line)) (standing_in w k) ≡ standing_in (give P (suc c) w) (given_learned code public (suc c) w k)
  unfolding turn
  one_past c w k some =
      let l = some_left w.core1.left some in
      subst (λ (n : ℕ). standing_past code public (turn_of 1 (next_record P w.core1 w.line)) (standing_in w k)
      ≡ record { state0 = w.core0.state; state1 = (core_given P n w.core1 w.line).state; learned = next_learned code public n (suc c) w k }) (sym l.1)
      (ap (λ (reply : ℕ). record {
        state0 = w.core0.state;
        state1 = (turn code w.core1.state reply).1;
        learned = learned_past code public 1 w.core1.state (next_record P w.core1 w.line) (turn code w.core1.state reply).1.base k;
      }) (same_answer (demand code w.core1.state) w.line.memory))

  one_used : (c : ℕ) (w : World State) (k : Learned) → 0 < w.core1.left → known_uses code (turn_of 1 (next_record P w.core1 w.line)) (standing_in w k) ≡ true → given_used code (suc c) w k ≡ true
  one_used c w k some used = let l = some_left w.core1.left some in subst (λ (n : ℕ). next_used code n (suc c) w k ≡ true) (sym l.1) used

  -- the turns after the first one
  later : (n : ℕ) (t : Turn) (ts : List Turn) (b c : Standing) → KnownUntil code public (suc n) (t ∷ ts) b → standing_past code public t b ≡ c → KnownUntil code public n ts c
  later n t ts b c h e i u less at = sym (ap (λ (x : Standing). known_uses code u (standing_over code public (take i ts) x)) e) ∙ h (suc i) u (omega arith) at

  pub known_until : (order : List ℕ) (n : ℕ) (w : World State) (k : Learned) (xs ys : List StepRecord) → IsWalk P order w xs ys → KnownUntil code public n (turns order xs ys) (standing_in w k)
      → UsesAreKnown code public (take n order) w k
  known_until [] zero w k xs ys walk h = tt
  known_until [] (suc n) w k xs ys walk h = tt
  known_until (c ∷ cs) zero w k xs ys walk h = tt
  known_until (zero ∷ cs) (suc n) w k xs ys walk h =
      let t = turn_of 0 (next_record P w.core0 w.line) in
      let g = subst (λ (l : List StepRecord). KnownUntil code public (suc n) (turns (zero ∷ cs) l ys) (standing_in w k)) walk.1 h in (
        zero_used w k walk.2 (g 0 t (omega arith) refl),
        known_until cs n (give P 0 w) (given_learned code public 0 w k) walk.0 ys walk.3 (later n t (turns cs walk.0 ys) (standing_in w k) (standing_in (give P 0 w) (given_learned code public 0 w k)) g (zero_past w k walk.2)),
      )
  known_until (suc c ∷ cs) (suc n) w k xs ys walk h =
      let t = turn_of 1 (next_record P w.core1 w.line) in
      let g = subst (λ (l : List StepRecord). KnownUntil code public (suc n) (turns (suc c ∷ cs) xs l) (standing_in w k)) walk.1 h in (
        one_used c w k walk.2 (g 0 t (omega arith) refl),
        known_until cs n (give P (suc c) w) (given_learned code public (suc c) w k) xs walk.0 walk.3
            (later n t (turns cs xs walk.0) (standing_in w k) (standing_in (give P (suc c) w) (given_learned code public (suc c) w k)) g (one_past c w k walk.2)),
      )

-- ---- other secrets

whole_masks : AreMasks all_known
whole_masks = record { regs = λ n. omega arith; special = λ n. omega arith; threadptr = omega arith; apart = λ n e. refl }

pub opens_learned : (secret public : ℕ → Bool) → IsLearned (opening_learned secret public)
opens_learned secret public = record { core0 = whole_masks; core1 = whole_masks; bytes = λ a. by_test (is_hidden secret public a) }
  where
    by_test : (b : Bool) → cond b 0 255 < 2 ^ 8
    by_test true = omega arith
    by_test false = omega arith

same_states : (m : Knowledge) (s t : State) → s ≡ t → StatesAgree m s t
same_states m s t e =
    subst (λ (u : State). StatesAgree m s u) e
    (record { pc = refl; base = refl; start = refl; ps = refl; waits = refl; regs = λ n. refl; special = λ n. refl; threadptr = refl })

pub open_alike : (secret public : ℕ → Bool) (v w : World State) → DifferInBytes (is_hidden secret public) v w → WorldsAgree (opening_learned secret public) v w
open_alike secret public v w d = record {
  core0 = same_states all_known v.core0.state w.core0.state d.state0;
  core1 = same_states all_known v.core1.state w.core1.state d.state1;
  left0 = d.left0;
  left1 = d.left1;
  memory = record { bytes = λ a. by_test a (is_hidden secret public a) refl; sent = d.sent };
}
  where
    by_test : (a : ℕ) (b : Bool) → is_hidden secret public a ≡ b → AgreeIn (cond b 0 255) (byte_at v.line.memory a) (byte_at w.line.memory a)
    by_test a true e = agree_none (byte_at v.line.memory a) (byte_at w.line.memory a)
    by_test a false e = ap (masked 255) (d.bytes a e)

pub opened : (r : Watched) (v : World State) (order : List ℕ) (xs ys : List StepRecord) → IsRunFrom r v order xs ys → opening_standing r ≡ standing_in v (opening_learned r.secret r.public)
opened r v order xs ys run = λ i. record { state0 = run.opening0 i; state1 = run.opening1 i; learned = opening_learned r.secret r.public }

pub until_leak : (r : Watched) (v : World State) (order : List ℕ) (xs ys : List StepRecord) (p : ℕ) (found : Option Leak) → IsRunFrom r v order xs ys → IsFirstLeak r p found
    → KnownUntil r.code r.public p (turns order xs ys) (standing_in v (opening_learned r.secret r.public))
unfolding standing_before
until_leak r v order xs ys p found run first =
    subst (λ (ts : List Turn). KnownUntil r.code r.public p ts (standing_in v (opening_learned r.secret r.public))) run.turns
    (subst (λ (b : Standing). KnownUntil r.code r.public p r.turns b) (opened r v order xs ys run) (λ i t less at. first.before i t less at))

pub same_up_to_the_leak : SameUpToTheLeak
same_up_to_the_leak r v w order xs ys p found bytes f g run first differ equal =
    orders_go_on_alike r.code r.public (take p order) v w (opening_learned r.secret r.public) bytes f g (opens_learned r.secret r.public) (open_alike r.secret r.public v w differ)
    (known_until r.code r.public order p v (opening_learned r.secret r.public) xs ys run.walk (until_leak r v order xs ys p found run first)) equal

pub runs_are_same_up_to_the_leak : RunsAreSameUpToTheLeak
runs_are_same_up_to_the_leak code secret public o r m p found bytes alike run first equal =
    same_up_to_the_leak (watched code secret public o r) (world_at_start o) (world_at_start (with_memory m o)) (schedule_of r) r.trace0.records r.trace1.records p found bytes
    (record { core0 = alike.state0; core1 = alike.state1; memory = alike.memory }) (record { core0 = alike.state0; core1 = alike.state1; memory = alike.other })
    (record { opening0 = refl; opening1 = refl; walk = own_walk (processor code) o r run; turns = refl }) first
    (record { state0 = refl; state1 = refl; left0 = refl; left1 = refl; sent = alike.sent; bytes = alike.bytes }) equal
