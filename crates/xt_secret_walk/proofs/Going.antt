-- One turn of a run more.
use Rattle.std.proofs.Common.{◌≡◌, ℕ, zero, suc, ◌+◌, ◌<◌, ◌≤◌, Bool, true, false, cond, eqb, Option, Some, None, Result, Ok, Err, List, [], ◌∷◌, ◌++◌, length, take, drop, get_or, refl, sym, ap, ◌∙◌, subst, ⊎_elim, arith}
use Rattle.std.specs.Prelude.{slice_get}
use Rattle.std.proofs.lemmas.Bool.{cases_lt}
use Rattle.std.proofs.lemmas.List.{drop_all, drop_more, length-drop}
use Rattle.xt_map.specs.Memory.{constant_byte}
use Rattle.xt_trace.specs.declared.record.StepRecord.{StepRecord}
use Rattle.xt_exec.specs.State.{State}
use Rattle.xt_frames.specs.FirstBreach.{Turn, records_of, turn_of, turns}
use Rattle.xt_simulation.specs.Knowledge.{Knowledge}
use Rattle.xt_simulation.specs.FirstLeak.{IsFirstLeak, Standing, Watched, carried_count, carries_at, opening_standing, standing_before, standing_over, standing_past, uses_at}
use Rattle.xt_simulation.specs.WatchedRuns.{has_byte_at}
use Rattle.xt_use_walk.specs.declared.bytes.ByteMasks.{ByteMasks}
use Rattle.xt_secret_walk.specs.declared.leak.End.{End}
use Rattle.xt_secret_walk.specs.declared.leak.End.TheVariants.{NoTurn, Leaks}
use Rattle.xt_secret_walk.specs.declared.leak.FirstLeak.{FirstLeak}
use Rattle.xt_secret_walk.specs.declared.side.Side.{Side}
use Rattle.xt_secret_walk.specs.declared.walk.Walk.{Walk}
use Rattle.xt_secret_walk.specs.Answers.{IsLeaks, IsWhole, lacks_at}
use Rattle.xt_secret_walk.specs.KnownBytes.{KnowsBytes}
use Rattle.xt_secret_walk.specs.Walked.{IsEnded, IsNext, IsOn, IsPast, IsTurned, Stands, count_of, records_left, side_known, side_state}

-- ---- lists

take_more : {A : Type 0} (xs : List A) (p : ℕ) (x : A) → slice_get xs p ≡ Some x → take (suc p) xs ≡ take p xs ++ (x ∷ [])
take_more [] p x e = absurd cc
take_more (y ∷ ys) zero x e = let same : y ≡ x = cc in ap (λ z. z ∷ []) same
take_more (y ∷ ys) (suc p) x e = ap (λ zs. y ∷ zs) (take_more ys p x e)

-- what is left begins with this
pub record IsAt {A : Type 0} (xs : List A) (p : ℕ) (x : A) (rest : List A) : Type 0 where
  pub here : slice_get xs p ≡ Some x
  pub after : drop (suc p) xs ≡ rest
  pub inside : p < length xs

next_at : {A : Type 0} (xs : List A) (p : ℕ) (x : A) (rest : List A) → drop p xs ≡ x ∷ rest → IsAt xs p x rest
next_at [] zero x rest e = absurd cc
next_at [] (suc p) x rest e = absurd cc
next_at (y ∷ ys) zero x rest e =
    let same : y ≡ x = cc in
    record { here = ap (λ z. Some z) same; after = (let r : ys ≡ rest = cc in r); inside = omega arith }
next_at (y ∷ ys) (suc p) x rest e =
    let n = next_at ys p x rest e in record { here = n.here; after = n.after; inside = (let i = n.inside in omega arith) }

all_taken : {A : Type 0} (xs : List A) (p : ℕ) → drop p xs ≡ [] → p ≤ length xs → p ≡ length xs
all_taken xs p e h = let l = length-drop p xs in let n = ap length e in omega (arith, l, n, h)

-- ---- the turns so far

over_more : (code : ℕ → ℕ) (public : ℕ → Bool) (ts : List Turn) (t : Turn) (b : Standing) → standing_over code public (ts ++ (t ∷ [])) b ≡ standing_past code public t (standing_over code public ts b)
over_more code public [] t b = refl
over_more code public (u ∷ ts) t b = over_more code public ts t (standing_past code public u b)

standing_more : (r : Watched) (p : ℕ) (t : Turn) → slice_get r.turns p ≡ Some t → standing_before r (suc p) ≡ standing_past r.code r.public t (standing_before r p)
unfolding standing_before
standing_more r p t at =
    ap (λ (ts : List Turn). standing_over r.code r.public ts (opening_standing r)) (take_more r.turns p t at)
    ∙ over_more r.code r.public (take p r.turns) t (opening_standing r)

one_more : (b : Bool) (x : StepRecord) (xs ys : List StepRecord) (n : ℕ) → length xs ≡ length ys + n → length (cond b (x ∷ xs) xs) ≡ length (cond b (x ∷ ys) ys) + n
one_more true x xs ys n e = omega (arith, e)
one_more false x xs ys n e = e

first_count : (b : Bool) (x : StepRecord) → length (cond b (x ∷ []) []) ≡ 0 + count_of b
first_count true x = refl
first_count false x = refl

count_more : (core : ℕ) (ts : List Turn) (t : Turn) → length (records_of core (ts ++ (t ∷ []))) ≡ length (records_of core ts) + count_of (eqb t.core core)
count_more core [] t = first_count (eqb t.core core) t.rec
count_more core (u ∷ ts) t = one_more (eqb u.core core) u.rec (records_of core (ts ++ (t ∷ []))) (records_of core ts) (count_of (eqb t.core core)) (count_more core ts t)

made_more : (r : Watched) (p : ℕ) (t : Turn) (core : ℕ) → slice_get r.turns p ≡ Some t → length (records_of core (take (suc p) r.turns)) ≡ length (records_of core (take p r.turns)) + count_of (eqb t.core core)
made_more r p t core at = ap (λ (ts : List Turn). length (records_of core ts)) (take_more r.turns p t at) ∙ count_more core (take p r.turns) t

carried_more : (r : Watched) (p : ℕ) (t : Turn) (core : ℕ) → slice_get r.turns p ≡ Some t → carried_count r core (suc p) ≡ carried_count r core p + carries_at r core p (Some t)
carried_more r p t core at = ap (λ (o : Option Turn). carried_count r core p + carries_at r core p o) at

known_more : (r : Watched) (p : ℕ) (u : Turn) → slice_get r.turns p ≡ Some u → uses_at r p u ≡ true
    → ((i : ℕ) (t : Turn) → i < p → slice_get r.turns i ≡ Some t → uses_at r i t ≡ true)
    → (i : ℕ) (t : Turn) → i < suc p → slice_get r.turns i ≡ Some t → uses_at r i t ≡ true
known_more r p u at uses before i t less is = ⊎_elim
    (λ low. before i t low is)
    (λ high. let e : i ≡ p = omega (arith, less, high) in here i e is)
    (cases_lt i p)
  where
    here : (i : ℕ) → i ≡ p → slice_get r.turns i ≡ Some t → uses_at r i t ≡ true
    here i e is =
        let there : slice_get r.turns p ≡ Some t = subst (λ (n : ℕ). slice_get r.turns n ≡ Some t) e is in
        let some : Some u ≡ Some t = sym at ∙ there in
        let same : u ≡ t = cc in
        subst (λ (n : ℕ). uses_at r n t ≡ true) (sym e) (subst (λ (v : Turn). uses_at r p v ≡ true) same uses)

-- ---- a turn of a core

-- by its number among two
counts_same : (n m k : ℕ) (x : Bool) → n ≡ m + count_of x → m ≡ k → n ≡ k + count_of x
counts_same n m k x e f = omega (arith, e, f)

counts_other : (n k : ℕ) → n ≡ k → n ≡ k + 0
counts_other n k e = omega (arith, e)

module _ (r : Watched) (w : Walk) (cores : List ℕ) (p : ℕ) where
  abbrev b : Standing
  b = standing_before r p

  abbrev xs : List StepRecord
  xs = records_left r.code w.side0

  abbrev ys : List StepRecord
  ys = records_left r.code w.side1

  ended : drop p r.turns ≡ [] → p ≤ length r.turns
      → ((i : ℕ) (t : Turn) → i < p → slice_get r.turns i ≡ Some t → uses_at r i t ≡ true)
      → (n m : ℕ) → n ≡ carried_count r 0 p → m ≡ carried_count r 1 p → IsWhole r n m
  ended none within known n m first second =
      let all = all_taken r.turns p none within in
      record {
        none = subst (λ (q : ℕ). IsFirstLeak r q None) all (record { before = known; here = all });
        first = first ∙ ap (carried_count r 0) all;
        second = second ∙ ap (carried_count r 1) all;
      }

  leaked : (core : ℕ) (first : FirstLeak) (rest : List Turn) → IsAt r.turns p (turn_of core first.rec) rest → first.core ≡ core → first.step ≡ length (records_of core (take p r.turns))
      → uses_at r p (turn_of core first.rec) ≡ false → first.lacks ≡ lacks_at r p core
      → ((i : ℕ) (t : Turn) → i < p → slice_get r.turns i ≡ Some t → uses_at r i t ≡ true) → IsLeaks r first
  leaked core first rest at same step uses lacks known = record {
    place = p;
    is_first = record { before = known; here = record { turn = turn_of core first.rec; is_turn = at.here; core = same; step = step; uses = uses } };
    turn = at.here ∙ ap (λ (c : ℕ). Some (turn_of c first.rec)) (sym same);
    lacks = lacks ∙ ap (lacks_at r p) (sym same);
  }

  -- ---- core 0

  module _ (on : IsOn r w (0 ∷ cores) p) (side : Side) (c : ByteMasks) (leak : Option FirstLeak) where
    zero_at : (x : StepRecord) (rest : List StepRecord) → xs ≡ x ∷ rest → IsAt r.turns p (turn_of 0 x) (turns cores rest ys)
    zero_at x rest e = next_at r.turns p (turn_of 0 x) (turns cores rest ys) (on.rest ∙ ap (λ (l : List StepRecord). turns (0 ∷ cores) l ys) e)

    zero_on : (x : StepRecord) → IsPast r.code r.public w.side0 side c b.state0 b.learned.core0 b.learned.bytes x → IsOn r (record w { side0 = side; bytes = c; leak = leak }) cores (suc p)
    zero_on x past =
        let at = zero_at x (records_left r.code side) past.records in
        let t : Turn = turn_of 0 x in
        let more = standing_more r p t at.here in
        let s = on.stands in
        let v : Walk = record w { side0 = side; bytes = c; leak = leak } in
        record {
          code_is = on.code_is;
          public_is = on.public_is;
          stands = subst (λ (d : Standing). Stands v d) (sym more) (record {
            side0 = past.side;
            side1 = s.side1;
            core0 = past.core_is ∙ s.core0;
            core1 = s.core1;
            state0 = past.state;
            state1 = s.state1;
            known0 = past.known;
            known1 = s.known1;
          });
          bytes = subst (λ (d : Standing). KnowsBytes c r.public d.learned.bytes) (sym more) past.bytes_are;
          within = (let i = at.inside in omega arith);
          rest = at.after;
          known = known_more r p t at.here past.uses on.known;
          steps0 = past.steps ∙ ap (λ (n : ℕ). n + 1) on.steps0 ∙ sym (made_more r p t 0 at.here);
          steps1 = counts_other w.side1.steps (length (records_of 1 (take p r.turns))) on.steps1 ∙ sym (made_more r p t 1 at.here);
          carried0 = past.carried ∙ ap (λ (n : ℕ). n + carries_at r 0 p (Some t)) on.carried0 ∙ sym (carried_more r p t 0 at.here);
          carried1 = counts_other w.side1.carried (carried_count r 1 p) on.carried1 ∙ sym (carried_more r p t 1 at.here);
        }

    zero_next : (x : Result Unit End) → IsNext r.code r.public w.side0 side w.bytes c b.state0 b.learned.core0 b.learned.bytes leak x → IsTurned r (record w { side0 = side; bytes = c; leak = leak }) cores p x
    zero_next (Ok u) next = zero_on next.0 next.1
    zero_next (Err NoTurn) next =
        ended (on.rest ∙ ap (λ (l : List StepRecord). turns (0 ∷ cores) l ys) next.0) on.within on.known side.carried w.side1.carried
        (ap (λ (x : Side). x.carried) next.1 ∙ on.carried0) on.carried1
    zero_next (Err Leaks) next =
        let s = on.stands in
        let first = next.0 in
        let leaks = next.2 in
        (first, next.1, leaked 0 first (turns cores leaks.rest ys) (zero_at first.rec leaks.rest leaks.records) (leaks.core_is ∙ s.core0) (leaks.step ∙ on.steps0) leaks.uses leaks.lacks on.known)

  -- ---- core 1

  module _ (on : IsOn r w (1 ∷ cores) p) (side : Side) (c : ByteMasks) (leak : Option FirstLeak) where
    one_at : (x : StepRecord) (rest : List StepRecord) → ys ≡ x ∷ rest → IsAt r.turns p (turn_of 1 x) (turns cores xs rest)
    one_at x rest e = next_at r.turns p (turn_of 1 x) (turns cores xs rest) (on.rest ∙ ap (λ (l : List StepRecord). turns (1 ∷ cores) xs l) e)

    one_on : (x : StepRecord) → IsPast r.code r.public w.side1 side c b.state1 b.learned.core1 b.learned.bytes x → IsOn r (record w { side1 = side; bytes = c; leak = leak }) cores (suc p)
    one_on x past =
        let at = one_at x (records_left r.code side) past.records in
        let t : Turn = turn_of 1 x in
        let more = standing_more r p t at.here in
        let s = on.stands in
        let v : Walk = record w { side1 = side; bytes = c; leak = leak } in
        record {
          code_is = on.code_is;
          public_is = on.public_is;
          stands = subst (λ (d : Standing). Stands v d) (sym more) (record {
            side0 = s.side0;
            side1 = past.side;
            core0 = s.core0;
            core1 = past.core_is ∙ s.core1;
            state0 = s.state0;
            state1 = past.state;
            known0 = s.known0;
            known1 = past.known;
          });
          bytes = subst (λ (d : Standing). KnowsBytes c r.public d.learned.bytes) (sym more) past.bytes_are;
          within = (let i = at.inside in omega arith);
          rest = at.after;
          known = known_more r p t at.here past.uses on.known;
          steps0 = counts_other w.side0.steps (length (records_of 0 (take p r.turns))) on.steps0 ∙ sym (made_more r p t 0 at.here);
          steps1 = past.steps ∙ ap (λ (n : ℕ). n + 1) on.steps1 ∙ sym (made_more r p t 1 at.here);
          carried0 = counts_other w.side0.carried (carried_count r 0 p) on.carried0 ∙ sym (carried_more r p t 0 at.here);
          carried1 = past.carried ∙ ap (λ (n : ℕ). n + carries_at r 1 p (Some t)) on.carried1 ∙ sym (carried_more r p t 1 at.here);
        }

    one_next : (x : Result Unit End) → IsNext r.code r.public w.side1 side w.bytes c b.state1 b.learned.core1 b.learned.bytes leak x → IsTurned r (record w { side1 = side; bytes = c; leak = leak }) cores p x
    one_next (Ok u) next = one_on next.0 next.1
    one_next (Err NoTurn) next =
        ended (on.rest ∙ ap (λ (l : List StepRecord). turns (1 ∷ cores) xs l) next.0) on.within on.known w.side0.carried side.carried on.carried0
        (ap (λ (x : Side). x.carried) next.1 ∙ on.carried1)
    one_next (Err Leaks) next =
        let s = on.stands in
        let first = next.0 in
        let leaks = next.2 in
        (first, next.1, leaked 1 first (turns cores xs leaks.rest) (one_at first.rec leaks.rest leaks.records) (leaks.core_is ∙ s.core1) (leaks.step ∙ on.steps1) leaks.uses leaks.lacks on.known)

-- ---- as the code has it

pub zero_turned : (r : Watched) (w : Walk) (cores : List ℕ) (p core : ℕ) (side : Side) (c : ByteMasks) (leak : Option FirstLeak) (x : Result Unit End) → core ≡ 0 → IsOn r w (core ∷ cores) p
    → ((masks : ℕ → ℕ) → KnowsBytes w.bytes (has_byte_at w.public.now) masks → IsNext (constant_byte w.code) (has_byte_at w.public.now) w.side0 side w.bytes c (side_state w.side0) (side_known w.side0) masks leak x)
    → IsTurned r (record w { side0 = side; bytes = c; leak = leak }) cores p x
zero_turned r w cores p core side c leak x first on next =
    let on0 : IsOn r w (0 ∷ cores) p = subst (λ (n : ℕ). IsOn r w (n ∷ cores) p) first on in
    let s = on.stands in
    let b = standing_before r p in
    let n = next b.learned.bytes (subst (λ (f : ℕ → Bool). KnowsBytes w.bytes f b.learned.bytes) (sym on.public_is) on.bytes) in
    zero_next r w cores p on0 side c leak x
    (subst (λ (m : Knowledge). IsNext r.code r.public w.side0 side w.bytes c b.state0 m b.learned.bytes leak x) s.known0
    (subst (λ (t : State). IsNext r.code r.public w.side0 side w.bytes c t (side_known w.side0) b.learned.bytes leak x) s.state0
    (subst (λ (f : ℕ → Bool). IsNext r.code f w.side0 side w.bytes c (side_state w.side0) (side_known w.side0) b.learned.bytes leak x) on.public_is
    (subst (λ (f : ℕ → ℕ). IsNext f (has_byte_at w.public.now) w.side0 side w.bytes c (side_state w.side0) (side_known w.side0) b.learned.bytes leak x) on.code_is n))))

pub one_turned : (r : Watched) (w : Walk) (cores : List ℕ) (p core : ℕ) (side : Side) (c : ByteMasks) (leak : Option FirstLeak) (x : Result Unit End) → core ≡ 1 → IsOn r w (core ∷ cores) p
    → ((masks : ℕ → ℕ) → KnowsBytes w.bytes (has_byte_at w.public.now) masks → IsNext (constant_byte w.code) (has_byte_at w.public.now) w.side1 side w.bytes c (side_state w.side1) (side_known w.side1) masks leak x)
    → IsTurned r (record w { side1 = side; bytes = c; leak = leak }) cores p x
one_turned r w cores p core side c leak x one on next =
    let on1 : IsOn r w (1 ∷ cores) p = subst (λ (n : ℕ). IsOn r w (n ∷ cores) p) one on in
    let s = on.stands in
    let b = standing_before r p in
    let n = next b.learned.bytes (subst (λ (f : ℕ → Bool). KnowsBytes w.bytes f b.learned.bytes) (sym on.public_is) on.bytes) in
    one_next r w cores p on1 side c leak x
    (subst (λ (m : Knowledge). IsNext r.code r.public w.side1 side w.bytes c b.state1 m b.learned.bytes leak x) s.known1
    (subst (λ (t : State). IsNext r.code r.public w.side1 side w.bytes c t (side_known w.side1) b.learned.bytes leak x) s.state1
    (subst (λ (f : ℕ → Bool). IsNext r.code f w.side1 side w.bytes c (side_state w.side1) (side_known w.side1) b.learned.bytes leak x) on.public_is
    (subst (λ (f : ℕ → ℕ). IsNext f (has_byte_at w.public.now) w.side1 side w.bytes c (side_state w.side1) (side_known w.side1) b.learned.bytes leak x) on.code_is n))))

-- ---- along a schedule

split : (cs : List ℕ) (i core d : ℕ) → i < length cs → core ≡ get_or cs i d → drop i cs ≡ core ∷ drop (i + 1) cs
split cs i core d less is = drop_more cs i d less ∙ ap (λ (c : ℕ). c ∷ drop (i + 1) cs) (sym is)

pub on_first : (r : Watched) (w : Walk) (cs : List ℕ) → IsOn r w cs 0 → IsOn r w (drop 0 cs) 0
on_first r w cs on = on

pub on_before : (r : Watched) (w : Walk) (cs : List ℕ) (i core d : ℕ) → i < length cs → core ≡ get_or cs i d → IsOn r w (drop i cs) i → IsOn r w (core ∷ drop (i + 1) cs) i
on_before r w cs i core d less is on = subst (λ (l : List ℕ). IsOn r w l i) (split cs i core d less is) on

pub on_after : (r : Watched) (w : Walk) (cs : List ℕ) (i : ℕ) (x : Result Unit End) (u : Unit) → x ≡ Ok u → IsTurned r w (drop (i + 1) cs) i x → IsOn r w (drop (i + 1) cs) (i + 1)
on_after r w cs i x u e h =
    let more : suc i ≡ i + 1 = omega arith in
    subst (λ (n : ℕ). IsOn r w (drop (i + 1) cs) n) more (subst (λ (y : Result Unit End). IsTurned r w (drop (i + 1) cs) i y) e h)

pub on_end : (r : Watched) (w : Walk) (cs : List ℕ) (i : ℕ) (x : Result Unit End) (end : End) → x ≡ Err end → IsTurned r w (drop (i + 1) cs) i x → IsEnded r w end
on_end r w cs i x end e h = subst (λ (y : Result Unit End). IsTurned r w (drop (i + 1) cs) i y) e h

pub on_all : (r : Watched) (w : Walk) (cs : List ℕ) (i : ℕ) → length cs ≤ i → IsOn r w (drop i cs) i → IsWhole r w.side0.carried w.side1.carried
on_all r w cs i past on =
    let none = ap (λ (l : List ℕ). turns l (records_left r.code w.side0) (records_left r.code w.side1)) (drop_all i cs past) in
    ended r w cs i (on.rest ∙ none) on.within on.known w.side0.carried w.side1.carried on.carried0 on.carried1
