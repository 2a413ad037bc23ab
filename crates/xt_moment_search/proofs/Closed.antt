-- A search that came to its end keeps a world for what comes of each order with moments.
use Rattle.std.proofs.Common.{◌≡◌, ℕ, zero, suc, ◌+◌, ◌<◌, Bool, true, false, cond, eqb, not, ◌⊎◌, inl, inr, ⊎_elim}
use Rattle.std.proofs.Common.{Some, List, [], ◌∷◌, ◌++◌, drop, slice_get, refl, sym, ap, ◌∙◌, subst, arith}
use Rattle.std.specs.Prelude.{bit_and, bit_or}
use Rattle.std.specs.List.{All}
use Rattle.std.proofs.lemmas.Bool.{cases_Bool}
use Rattle.std.proofs.lemmas.List.Elements.{All-head, All-tail}
use Rattle.xt_map.specs.Memory.{constant_byte}
use Rattle.xt_map.specs.Touching.{IsMemory}
use Rattle.xt_map.specs.declared.contents.MemoryContents.{MemoryContents}
use Rattle.xt_search.specs.Changed.{ChangesState, contents_of}
use Rattle.xt_special.specs.Access.{timer_bit, without_bits}
use Rattle.xt_special.specs.Control.{special_of}
use Rattle.xt_special.specs.Numbers as number
use Rattle.xt_trace.specs.Worlds.{memory_left}
use Rattle.xt_rows.specs.RowLaws.{IsWord}
use Rattle.xt_exec.specs.Turn.{demand}
use Rattle.xt_search.specs.declared.graph.Graph.{Graph}
use Rattle.xt_search.specs.declared.graph.Nexts.{Nexts}
use Rattle.xt_search.specs.Graphs.{IsAt, IsGraph, IsWhole}
use Rattle.xt_search.proofs.Endings.{some_at}
use Rattle.xt_search.proofs.Numbers.{at_within}
use Rattle.xt_simulation.specs.SecretWorlds.{Learned}
use Rattle.xt_map.specs.Code.{AreBytes}
use Rattle.xt_moments.specs.Awaiting.{Awaits, Made}
use Rattle.xt_moments.proofs.Awaited.{Answer, answers}
use Rattle.xt_moments.specs.Moments.{IsMove, MomentCore, MomentWorld, core_fired, core_turned, is_armed}
use Rattle.xt_moments.specs.Moments.{moved, with_special, world_past}
use Rattle.xt_moments.specs.Outcomes.{AreCounts}
use Rattle.xt_moments.specs.declared.moves.Move.{Move}
use Rattle.xt_moments.specs.declared.moves.Move.TheVariants as move
use Rattle.xt_moments.specs.WorldLaws.{AreAlike}
use Rattle.xt_moment_search.specs.Covering.{Covers, CoversAt, Leads, Led, LedIn, choices_in, chosen, core_choices}
use Rattle.xt_moment_search.specs.Covering.{fire_choice, fire_choices, learned_in, standing, turn_choice}
use Rattle.xt_moment_search.specs.KnownCores.{core_of, known_byte, moment_known_of}
use Rattle.xt_moment_search.specs.Parts.{HaveSameParts}
use Rattle.xt_moment_search.specs.declared.ground.Ground.{Ground}
use Rattle.xt_moment_search.specs.declared.snapshots.Snapshot.{Snapshot}
use Rattle.xt_moment_search.specs.declared.worlds.World.{World}

-- ---- the moves that a search makes

abbrev IsIn : Move → List Move → Type 0
IsIn x [] = ⊥
IsIn x (y ∷ ys) = (y ≡ x) ⊎ IsIn x ys

in_first : (x : Move) (xs ys : List Move) → IsIn x xs → IsIn x (xs ++ ys)
in_first x [] ys h = absurd h
in_first x (y ∷ xs) ys (inl e) = inl e
in_first x (y ∷ xs) ys (inr h) = inr (in_first x xs ys h)

in_second : (x : Move) (xs ys : List Move) → IsIn x ys → IsIn x (xs ++ ys)
in_second x [] ys h = h
in_second x (y ∷ xs) ys h = inr (in_second x xs ys h)

module _ (c : ℕ) (k : MomentCore) where
  turn_in : k.stopped ≡ false → IsIn (move.Turn c) (core_choices c k)
  turn_in going = in_first (move.Turn c) (turn_choice c k) (fire_choices c k)
      (subst (λ (b : Bool). IsIn (move.Turn c) (cond b [] (move.Turn c ∷ []))) (sym going) (inl
      refl))

  one_in : (timer : ℕ) → is_armed timer k ≡ true
      → IsIn (move.Fires c timer) (fire_choice c timer k)
  one_in timer armed =
      subst (λ (b : Bool). IsIn (move.Fires c timer) (cond b (move.Fires c timer ∷ []) []))
      (sym armed) (inl refl)

  fires_in : (timer : ℕ) → timer < 3 → is_armed timer k ≡ true
      → IsIn (move.Fires c timer) (fire_choices c k)
  fires_in zero few armed = in_first (move.Fires c 0) (fire_choice c 0 k)
      (fire_choice c 1 k ++ fire_choice c 2 k) (one_in 0 armed)
  fires_in (suc zero) few armed = in_second (move.Fires c 1) (fire_choice c 0 k)
      (fire_choice c 1 k ++ fire_choice c 2 k)
      (in_first (move.Fires c 1) (fire_choice c 1 k) (fire_choice c 2 k) (one_in 1 armed))
  fires_in (suc (suc zero)) few armed = in_second (move.Fires c 2) (fire_choice c 0 k)
      (fire_choice c 1 k ++ fire_choice c 2 k)
      (in_second (move.Fires c 2) (fire_choice c 1 k) (fire_choice c 2 k) (one_in 2 armed))
  fires_in (suc (suc (suc n))) few armed = absurd (omega (arith, few))

  fire_in : (timer : ℕ) → timer < 3 → is_armed timer k ≡ true
      → IsIn (move.Fires c timer) (core_choices c k)
  fire_in timer few armed =
      in_second (move.Fires c timer) (turn_choice c k) (fire_choices c k) (fires_in timer few armed)

-- what is left after one move more is passed over
one_more : (xs : List Move) (n : ℕ) (y : Move) (ys : List Move) → drop n xs ≡ y ∷ ys
    → drop (n + 1) xs ≡ ys
one_more [] zero y ys e = absurd cc
one_more [] (suc n) y ys e = absurd cc
one_more (x ∷ xs) zero y ys e = ap (drop 1) e
one_more (x ∷ xs) (suc n) y ys e =
    let more : suc n + 1 ≡ suc (n + 1) = omega arith in
    ap (λ (k : ℕ). drop k (x ∷ xs)) more ∙ one_more xs n y ys e

-- ---- parts that are the same

same_choices : (v w : World) → HaveSameParts v w → choices_in w ≡ choices_in v
same_choices v w h = sym (λ i. core_choices 0 (core_of (h.side0 i)) ++ core_choices 1 (core_of
    (h.side1 i)))

module _ (opening cleared : MemoryContents) where
  pub same_covers : (v w : World) (u : MomentWorld) → HaveSameParts v w
      → Covers opening cleared v u → Covers opening cleared w u
  same_covers v w u h = subst (λ (x : Snapshot). CoversAt opening cleared x u) (λ i. record {
    side0 = h.side0 i;
    side1 = h.side1 i;
    bytes = record { held = h.held i; hidden = h.hidden i };
  })

-- ---- all orders with moments

-- of kept worlds of a kind whose steps lead to that kind
module _ (g : Ground) (bytes : AreBytes (constant_byte g.code)) (graph : Graph World) (is : IsGraph (LedIn g) graph) (whole : IsWhole graph)
    (Kind : ℕ → Type 0)
    (closed : (k : ℕ) (n : Nexts) → slice_get graph.nexts.items k ≡ Some n → Kind k
    → Kind n.by0 × Kind n.by1) where
  abbrev code : ℕ → ℕ
  code = constant_byte g.code

  abbrev opening : MemoryContents
  opening = g.opening.contents

  abbrev cleared : MemoryContents
  cleared = g.cleared.contents

  abbrev IsKept : ℕ → World → Type 0
  IsKept at v = IsAt graph.kept.items at v × Kind at

  next : (at : ℕ) (v : World) → IsKept at v → (n : ℕ) → n < 2
      → (to : ℕ) × (w : World) × IsKept to w × LedIn g n v w
  next at v h zero few =
      let within = at_within graph.kept.items at v h.0 in
      let n = some_at graph.nexts.items at (omega (arith, whole, within)) in
      let r = is.nexts at n.0 v n.1 h.0 in
      let k = closed at n.0 n.1 h.1 in (n.0.by0, r.0.0, (r.0.1, k.0), r.0.2)
  next at v h (suc zero) few =
      let within = at_within graph.kept.items at v h.0 in
      let n = some_at graph.nexts.items at (omega (arith, whole, within)) in
      let r = is.nexts at n.0 v n.1 h.0 in
      let k = closed at n.0 n.1 h.1 in (n.0.by1, r.1.0, (r.1.1, k.1), r.1.2)
  next at v h (suc (suc n)) few = absurd (omega (arith, few))

  -- a kept world to which the move leads
  abbrev Makes : Move → World → Type 0
  Makes made v =
      (to : ℕ) × (w : World) × IsKept to w × (w.passed ≡ 0) × Leads code opening cleared made v w

  -- the step of this number, where these moves are left
  step_in : (at : ℕ) (v : World) (rest : List Move) → IsKept at v
      → drop v.passed (choices_in v) ≡ rest → (n : ℕ) → n < 2
      → (to : ℕ) × (w : World) × IsKept to w
      × Led code opening cleared (chosen rest v.passed n) v w
  step_in at v rest h e n few =
      let s = next at v h n few in (
        s.0,
        s.1,
        s.2,
        subst (λ (l : List Move). Led code opening cleared (chosen l v.passed n) v s.1) e s.3,
      )

  reaches : (rest : List Move) (at : ℕ) (v : World) (made : Move) → IsKept at v
      → drop v.passed (choices_in v) ≡ rest → IsIn made rest → Makes made v
  reaches [] at v made h e i = absurd i
  reaches (m ∷ []) at v made h e (inl same) =
      let s = step_in at v (m ∷ []) h e 0 (omega arith) in
      subst (λ (x : Move). Makes x v) same (s.0, s.1, s.2, s.3.0, s.3.1)
  reaches (m ∷ []) at v made h e (inr none) = absurd none
  reaches (m ∷ n ∷ []) at v made h e (inl same) =
      let s = step_in at v (m ∷ n ∷ []) h e 0 (omega arith) in
      subst (λ (x : Move). Makes x v) same (s.0, s.1, s.2, s.3.0, s.3.1)
  reaches (m ∷ n ∷ []) at v made h e (inr (inl same)) =
      let s = step_in at v (m ∷ n ∷ []) h e 1 (omega arith) in
      subst (λ (x : Move). Makes x v) same (s.0, s.1, s.2, s.3.0, s.3.1)
  reaches (m ∷ n ∷ []) at v made h e (inr (inr none)) = absurd none
  reaches (m ∷ n ∷ o ∷ ms) at v made h e (inl same) =
      let s = step_in at v (m ∷ n ∷ o ∷ ms) h e 0 (omega arith) in
      subst (λ (x : Move). Makes x v) same (s.0, s.1, s.2, s.3.0, s.3.1)
  reaches (m ∷ n ∷ o ∷ ms) at v made h e (inr i) =
      let s = step_in at v (m ∷ n ∷ o ∷ ms) h e 1 (omega arith) in
      let w = s.1 in
      let parts = s.3.1 in
      let left : drop w.passed (choices_in w) ≡ n ∷ o ∷ ms =
      (λ j. drop (s.3.0 j) (same_choices v w parts j))
      ∙ one_more (choices_in v) v.passed m (n ∷ o ∷ ms) e in
      let r = reaches (n ∷ o ∷ ms) s.0 w made s.2 left i in (
        r.0,
        r.1,
        r.2,
        r.3,
        record {
          turns = r.4.turns;
          leads = λ count u small c. r.4.leads count u small
              (same_covers opening cleared v w u parts c);
        },
      )

  -- a kept world of whose moves none is passed over
  pub record Here : Type 0 where
    pub at : ℕ
    pub world : World
    pub kept : IsKept at world
    pub none : world.passed ≡ 0

  abbrev Stands : Here → MomentWorld → Type 0
  Stands x u = Covers opening cleared x.world u

  abbrev Answers : Here → Move → Type 0
  Answers x made = Answer code bytes Here Stands [] x made

  module _ (x : Here) where
    abbrev v : World
    v = x.world

    by_making : (made : Move) → IsIn made (choices_in v) → Answers x made
    by_making made i =
        let r = reaches (choices_in v) x.at v made x.kept
        (ap (λ (n : ℕ). drop n (choices_in v)) x.none) i in
        record {
          next = record { at = r.0; world = r.1; kept = r.2; none = r.3 };
          left = r.4.turns;
          leads = r.4.leads;
        }

    -- a move that changes nothing
    by_staying : (made : Move)
        → ((count : ℕ) (u : MomentWorld) → Covers opening cleared v u
        → moved code count made u ≡ u)
        → Answers x made
    by_staying made same = record {
      next = x;
      left = [];
      leads = λ count u small c. subst (Covers opening cleared v) (sym (same count u c)) c;
    }

    abbrev core0 : MomentCore
    core0 = core_of v.side0.value

    abbrev core1 : MomentCore
    core1 = core_of v.side1.value

    turn0 : Answers x (move.Turn 0)
    turn0 = ⊎_elim
        (λ (e : core0.stopped ≡ true).
        by_staying (move.Turn 0) (λ count u c. let f = sym c.alike.agree.core0.stopped ∙ e in
        λ i. record u {
          core0 = cond (f i) u.core0 (core_turned code count u.core0 u.memory);
          memory = cond (f i) u.memory
              (memory_left (demand code (with_special number.ccount count u.core0.state)) u.memory);
        }))
        (λ (e : core0.stopped ≡ false). by_making (move.Turn 0)
        (in_first (move.Turn 0) (core_choices 0 core0) (core_choices 1 core1) (turn_in 0 core0 e)))
        (cases_Bool core0.stopped)

    turn1 : Answers x (move.Turn 1)
    turn1 = ⊎_elim
        (λ (e : core1.stopped ≡ true).
        by_staying (move.Turn 1) (λ count u c. let f = sym c.alike.agree.core1.stopped ∙ e in
        λ i. record u {
          core1 = cond (f i) u.core1 (core_turned code count u.core1 u.memory);
          memory = cond (f i) u.memory
              (memory_left (demand code (with_special number.ccount count u.core1.state)) u.memory);
        }))
        (λ (e : core1.stopped ≡ false). by_making (move.Turn 1)
        (in_second (move.Turn 1) (core_choices 0 core0) (core_choices 1 core1) (turn_in 1 core1
        e)))
        (cases_Bool core1.stopped)

    -- a timer that is not armed does not fire
    unarmed : (timer : ℕ) (j k : MomentCore) → j.armed ≡ k.armed → is_armed timer j ≡ false
        → core_fired timer k ≡ k
    unarmed timer j k same e =
        let f : is_armed timer k ≡ false =
        ap (λ (a : ℕ). not (eqb (bit_and a (timer_bit (number.ccompare timer))) 0)) (sym same) ∙ e
        in
        ap (λ (b : Bool). cond b (record {
          state = with_special number.interrupt
              (bit_or (special_of k.state.control number.interrupt)
              (timer_bit (number.ccompare timer))) k.state;
          armed = without_bits k.armed (timer_bit (number.ccompare timer));
          stopped = k.stopped;
        }) k) f

    fire0 : (timer : ℕ) → timer < 3 → Answers x (move.Fires 0 timer)
    fire0 timer few = ⊎_elim
        (λ (e : is_armed timer core0 ≡ true). by_making (move.Fires 0 timer)
        (in_first (move.Fires 0 timer) (core_choices 0 core0) (core_choices 1 core1)
        (fire_in 0 core0 timer few e)))
        (λ (e : is_armed timer core0 ≡ false).
        by_staying (move.Fires 0 timer) (λ count u c.
        let same = unarmed timer core0 u.core0 c.alike.agree.core0.armed e in
        λ i. record u { core0 = same i }))
        (cases_Bool (is_armed timer core0))

    fire1 : (timer : ℕ) → timer < 3 → Answers x (move.Fires 1 timer)
    fire1 timer few = ⊎_elim
        (λ (e : is_armed timer core1 ≡ true). by_making (move.Fires 1 timer)
        (in_second (move.Fires 1 timer) (core_choices 0 core0) (core_choices 1 core1)
        (fire_in 1 core1 timer few e)))
        (λ (e : is_armed timer core1 ≡ false).
        by_staying (move.Fires 1 timer) (λ count u c.
        let same = unarmed timer core1 u.core1 c.alike.agree.core1.armed e in
        λ i. record u { core1 = same i }))
        (cases_Bool (is_armed timer core1))

    by_move : (made : Move) → IsMove made → Answers x made
    by_move (move.Turn zero) ok = turn0
    by_move (move.Turn (suc zero)) ok = turn1
    by_move (move.Turn (suc (suc n))) ok = absurd (omega (arith, ok))
    by_move (move.Fires zero timer) ok = fire0 timer ok.1
    by_move (move.Fires (suc zero) timer) ok = fire1 timer ok.1
    by_move (move.Fires (suc (suc n)) timer) ok = let few = ok.0 in absurd (omega (arith, few))

  -- a kept world that stands for this one after turns that may come before other moves
  pub record StandsFor (u : MomentWorld) : Type 0 where
    pub here : Here
    pub turns : List Made
    pub awaits : Awaits code (Stands here) turns u

  -- a kept world stands so for what comes of each order with moments
  pub stands_for_all : (order : List Move) (counts : ℕ → ℕ) → AreCounts counts → All IsMove order
      → (x : Here) (turns : List Made) (u : MomentWorld) → Awaits code (Stands x) turns u
      → StandsFor (world_past code counts order u)
  stands_for_all [] counts small moves x turns u a =
      record { here = x; turns = turns; awaits = a }
  stands_for_all (m ∷ ms) counts small moves x turns u a =
      let r = answers code bytes Here Stands by_move turns x m (All-head IsMove m ms moves) in
      stands_for_all ms (λ n. counts (suc n)) (λ n. small (suc n))
      (All-tail IsMove m ms moves) r.next r.left (moved code (counts 0) m u)
      (r.leads (counts 0) u (small 0) a)
