-- Two outcomes of one instruction, over states that agree in what is known.
use Rattle.std.proofs.Common.{◌≡◌, ℕ, Option, Some, None, List, refl, sym, ◌∙◌, subst}
use Rattle.xt_isa.specs.declared.Insn.{Insn}
use Rattle.xt_map.specs.declared.access.Access.{Access}
use Rattle.xt_map.specs.declared.access.Kind.{Kind}
use Rattle.xt_map.specs.declared.access.Kind.TheVariants.{Load, Store, Cas}
use Rattle.xt_special.specs.Access.{SpecialWrites, with_sets}
use Rattle.xt_trace.specs.declared.record.RegWrite.{RegWrite}
use Rattle.xt_rows.specs.declared.outcome.Effect.{Effect}
use Rattle.xt_rows.specs.declared.outcome.ReplyTarget.{ReplyTarget}
use Rattle.xt_rows.specs.declared.outcome.WindowStep.{WindowStep}
use Rattle.xt_rows.specs.declared.outcome.Outcome.{Outcome}
use Rattle.xt_rows.specs.declared.outcome.Outcome.TheVariants.{Does, Raises, Asks, Stops, Windowed}
use Rattle.xt_rows.specs.Kinds.{moved_to}
use Rattle.xt_uses.specs.declared.discipline.Discipline.TheVariants.{Lenient}
use Rattle.xt_uses.specs.UseLaws.{AccessesAgree, AgreeIn, EffectsAgree, KindsAgree, OutcomesAgree, RowMasks, SetsAgree, WritesAgree}
use Rattle.xt_simulation.proofs.SecretSpecials.{Specials, sets_same}
use Rattle.xt_simulation.proofs.Controls.{Effects}

-- what a turn writes over the two states, what holds if it asks, what it stores, and what it leaves of
-- special registers and THREADPTR
module _ (written : Option RegWrite → Option RegWrite → Type 0) (sure : Type 0) (stored : ℕ) (special : ℕ → ℕ) (pointer : ℕ) (xs ys : List ℕ) where
  abbrev pub Outcomes : Outcome → Outcome → Type 0
  Outcomes (Does a) (Does b) = written a.write b.write × Effects special pointer xs ys a b
  Outcomes (Asks a x d) (Asks b y e) = AccessesAgree stored a b × (x ≡ y) × Effects special pointer xs ys d e × sure
  Outcomes o p = o ≡ p

-- ---- one of two outcomes that agree is known

module _ (i : Insn) (m : RowMasks) where
  does_with : (o : Outcome) (e : Effect) → OutcomesAgree Lenient i m o (Does e) → (d : Effect) × (o ≡ Does d) × EffectsAgree Lenient i m d e
  does_with (Does d) e h = (d, refl, h)
  does_with (Raises cause address) e h = absurd cc
  does_with (Asks a x d) e h = absurd cc
  does_with Stops e h = absurd cc
  does_with (Windowed step) e h = absurd cc

  asks_with : (o : Outcome) (b : Access) (y : Option ReplyTarget) (e : Effect) → OutcomesAgree Lenient i m o (Asks b y e)
      → (a : Access) × (x : Option ReplyTarget) × (d : Effect) × (o ≡ Asks a x d) × AccessesAgree m.stored a b × (x ≡ y) × EffectsAgree Lenient i m d e
  asks_with (Does d) b y e h = absurd cc
  asks_with (Raises cause address) b y e h = absurd cc
  asks_with (Asks a x d) b y e h = (a, x, d, refl, h.0, h.1, h.2)
  asks_with Stops b y e h = absurd cc
  asks_with (Windowed step) b y e h = absurd cc

  raises_with : (o : Outcome) (cause : ℕ) (address : Option ℕ) → OutcomesAgree Lenient i m o (Raises cause address) → o ≡ Raises cause address
  raises_with (Does d) cause address h = h
  raises_with (Raises c a) cause address h = h
  raises_with (Asks a x d) cause address h = h
  raises_with Stops cause address h = h
  raises_with (Windowed step) cause address h = h

  stops_with : (o : Outcome) → OutcomesAgree Lenient i m o Stops → o ≡ Stops
  stops_with (Does d) h = h
  stops_with (Raises c a) h = h
  stops_with (Asks a x d) h = h
  stops_with Stops h = h
  stops_with (Windowed step) h = h

  windowed_with : (o : Outcome) (step : WindowStep) → OutcomesAgree Lenient i m o (Windowed step) → o ≡ Windowed step
  windowed_with (Does d) step h = h
  windowed_with (Raises c a) step h = h
  windowed_with (Asks a x d) step h = h
  windowed_with Stops step h = h
  windowed_with (Windowed s) step h = h

-- ---- both agree with a third one

writes_joined : (mask : ℕ) (v w z : Option RegWrite) → WritesAgree mask v z → WritesAgree mask w z → WritesAgree mask v w
writes_joined mask None None None p q = tt
writes_joined mask (Some v) (Some w) (Some z) p q = (p.0 ∙ sym q.0, p.1 ∙ sym q.1)
writes_joined mask None None (Some z) p q = absurd p
writes_joined mask None (Some w) None p q = absurd q
writes_joined mask None (Some w) (Some z) p q = absurd p
writes_joined mask (Some v) None None p q = absurd p
writes_joined mask (Some v) None (Some z) p q = absurd q
writes_joined mask (Some v) (Some w) None p q = absurd p

as_load : (mask : ℕ) (k : Kind) → KindsAgree mask k Load → k ≡ Load
as_load mask Load h = h
as_load mask (Store v) h = h
as_load mask (Cas x y) h = h

as_swap : (mask : ℕ) (k : Kind) (x y : ℕ) → KindsAgree mask k (Cas x y) → k ≡ Cas x y
as_swap mask Load x y h = h
as_swap mask (Store v) x y h = h
as_swap mask (Cas a b) x y h = h

as_store : (mask : ℕ) (k : Kind) (z : ℕ) → KindsAgree mask k (Store z) → (v : ℕ) × (k ≡ Store v) × AgreeIn mask v z
as_store mask Load z h = absurd cc
as_store mask (Store v) z h = (v, refl, h)
as_store mask (Cas x y) z h = absurd cc

both_kinds : (mask : ℕ) (k l p q : Kind) → k ≡ p → l ≡ q → KindsAgree mask p q → KindsAgree mask k l
both_kinds mask k l p q e f h = subst (λ (x : Kind). KindsAgree mask x l) (sym e) (subst (λ (y : Kind). KindsAgree mask p y) (sym f) h)

kinds_joined : (mask : ℕ) (k l n : Kind) → KindsAgree mask k n → KindsAgree mask l n → KindsAgree mask k l
kinds_joined mask k l Load p q = both_kinds mask k l Load Load (as_load mask k p) (as_load mask l q) refl
kinds_joined mask k l (Cas x y) p q = both_kinds mask k l (Cas x y) (Cas x y) (as_swap mask k x y p) (as_swap mask l x y q) refl
kinds_joined mask k l (Store z) p q =
    let a = as_store mask k z p in
    let b = as_store mask l z q in
    both_kinds mask k l (Store a.0) (Store b.0) a.1 b.1 (a.2 ∙ sym b.2)

access_joined : (mask : ℕ) (a b c : Access) → AccessesAgree mask a c → AccessesAgree mask b c → AccessesAgree mask a b
access_joined mask a b c p q = (p.0 ∙ sym q.0, p.1 ∙ sym q.1, kinds_joined mask a.kind b.kind c.kind p.2 q.2)

module _ (i : Insn) (calm : moved_to i ≡ None) (m : RowMasks) (special : ℕ → ℕ) (xs ys : List ℕ) (s : Specials special xs ys) (sure : Type 0) (is_sure : sure) where
  same_sets : (a c : SpecialWrites) → SetsAgree Lenient (moved_to i) m.given a c → a ≡ c
  same_sets a c h = subst (λ (o : Option (ℕ × ℕ)). SetsAgree Lenient o m.given a c) calm h

  effects_joined : (d e c : Effect) → EffectsAgree Lenient i m d c → EffectsAgree Lenient i m e c → Effects special m.pointer xs ys d e
  effects_joined d e c p q =
      let sets : d.sets ≡ e.sets = same_sets d.sets c.sets p.sets ∙ sym (same_sets e.sets c.sets q.sets) in
      record {
        sets = subst (λ (w : SpecialWrites). Specials special (with_sets d.sets xs) (with_sets w ys)) sets (sets_same special d.sets xs ys s);
        ps = p.ps ∙ sym q.ps;
        threadptr = p.threadptr ∙ sym q.threadptr;
        flow = p.flow ∙ sym q.flow;
        waits = p.waits ∙ sym q.waits;
      }

  both_are : (o p q r : Outcome) → o ≡ q → p ≡ r → Outcomes (WritesAgree m.result) sure m.stored special m.pointer xs ys q r → Outcomes (WritesAgree m.result) sure m.stored special m.pointer xs ys o p
  both_are o p q r e f h =
      subst (λ (x : Outcome). Outcomes (WritesAgree m.result) sure m.stored special m.pointer xs ys x p) (sym e)
      (subst (λ (y : Outcome). Outcomes (WritesAgree m.result) sure m.stored special m.pointer xs ys q y) (sym f) h)

  pub outcomes_joined : (o p c : Outcome) → OutcomesAgree Lenient i m o c → OutcomesAgree Lenient i m p c → Outcomes (WritesAgree m.result) sure m.stored special m.pointer xs ys o p
  outcomes_joined o p (Does c) g h =
      let a = does_with i m o c g in
      let b = does_with i m p c h in
      both_are o p (Does a.0) (Does b.0) a.1 b.1 (writes_joined m.result a.0.write b.0.write c.write a.2.write b.2.write, effects_joined a.0 b.0 c a.2 b.2)
  outcomes_joined o p (Asks z y c) g h =
      let a = asks_with i m o z y c g in
      let b = asks_with i m p z y c h in
      both_are o p (Asks a.0 a.1 a.2) (Asks b.0 b.1 b.2) a.3 b.3 (access_joined m.stored a.0 b.0 z a.4 b.4, a.5 ∙ sym b.5, effects_joined a.2 b.2 c a.6 b.6, is_sure)
  outcomes_joined o p (Raises cause address) g h = both_are o p (Raises cause address) (Raises cause address) (raises_with i m o cause address g) (raises_with i m p cause address h) refl
  outcomes_joined o p Stops g h = both_are o p Stops Stops (stops_with i m o g) (stops_with i m p h) refl
  outcomes_joined o p (Windowed step) g h = both_are o p (Windowed step) (Windowed step) (windowed_with i m o step g) (windowed_with i m p step h) refl
