-- Along the schedule of a run a core goes on alone up to its next access, but for the turns after the last accesses.
use Rattle.std.proofs.Common.{◌≡◌, ℕ, zero, suc, ◌-◌, ◌<◌, ◌≤◌, false, cond, eqb, Option, Some, None, List, [], ◌∷◌, ◌++◌, length, replicate, refl, sym, ap, ◌∙◌, subst, arith}
use Rattle.xt_map.specs.declared.access.Access.{Access}
use Rattle.xt_map.specs.declared.access.Entry.{Entry}
use Rattle.xt_map.specs.History.{IsOfCores, calls_of}
use Rattle.xt_trace.specs.declared.record.StepRecord.{StepRecord}
use Rattle.xt_trace.specs.Chip.{Chip}
use Rattle.xt_trace.specs.Schedule.{cores_of, place_before, places_from, schedule_from}
use Rattle.xt_trace.specs.Walks.{IsWalk, next_record}
use Rattle.xt_trace.specs.Worlds.{Core, World, give}
use Rattle.xt_frames.specs.Breaches.{Bounds}
use Rattle.xt_frames.specs.Judging.{Standing}
use Rattle.xt_frames.specs.Verdict.{Judgement, Known, judgement}
use Rattle.xt_judged.specs.Alone.{is_other, only_after}

-- ---- places of accesses

abbrev pub quiet : List StepRecord → Type 0
quiet [] = Unit {0}
quiet (y ∷ ys) = (y.access ≡ None) × quiet ys

-- how many numbers are core 1's
abbrev pub ones : List ℕ → ℕ
ones [] = 0
ones (zero ∷ cs) = ones cs
ones (suc c ∷ cs) = suc (ones cs)

abbrev head_of : List ℕ → ℕ
head_of [] = 0
head_of (p ∷ ps) = p

abbrev tail_of : List ℕ → List ℕ
tail_of [] = []
tail_of (p ∷ ps) = ps

quiet_of : (j : ℕ) (ys : List StepRecord) → length (places_from j ys) ≡ 0 → quiet ys
quiet_of j [] h = tt
quiet_of j (y ∷ ys) h = by_access y.access refl (quiet_of (suc j) ys)
  where
    by_access : (a : Option Access) → y.access ≡ a → (length (places_from (suc j) ys) ≡ 0 → quiet ys) → quiet (y ∷ ys)
    by_access None e again = (e, again (sym (ap (λ (b : Option Access). length (place_before b j (places_from (suc j) ys))) e) ∙ h))
    by_access (Some a) e again =
        let g : suc (length (places_from (suc j) ys)) ≡ 0 = sym (ap (λ (b : Option Access). length (place_before b j (places_from (suc j) ys))) e) ∙ h in
        absurd (omega (arith, g))

-- a place is not before the first record
places_low : (i : ℕ) (xs : List StepRecord) (p : ℕ) (ps : List ℕ) → p ∷ ps ≡ places_from i xs → i ≤ p
places_low i [] p ps h = let g : suc (length ps) ≡ 0 = ap length h in absurd (omega (arith, g))
places_low i (x ∷ xs) p ps h = by_access x.access refl (places_low (suc i) xs p ps)
  where
    by_access : (a : Option Access) → x.access ≡ a → (p ∷ ps ≡ places_from (suc i) xs → suc i ≤ p) → i ≤ p
    by_access None e again =
        let more : suc i ≤ p = again (h ∙ ap (λ (b : Option Access). place_before b i (places_from (suc i) xs)) e) in
        omega (arith, more)
    by_access (Some a) e again =
        let same : p ≡ i = ap head_of (h ∙ ap (λ (b : Option Access). place_before b i (places_from (suc i) xs)) e) in
        omega (arith, same)

-- a core that goes on is no other core
own_turn0 : (a : Option Access) → is_other 0 (only_after 0 a) ≡ false
own_turn0 None = refl
own_turn0 (Some a) = refl

own_turn1 : (a : Option Access) → is_other 1 (only_after 1 a) ≡ false
own_turn1 None = refl
own_turn1 (Some a) = refl

-- ---- the walk of the judge
--
-- `On w k z`: the scene z stands for the world w and for what the judge knows, k; no turn from it shows a breach. `OnOne` says as much of
-- core 1 alone.
module _ {S Z : Type 0} (P : Chip S) (code : ℕ → ℕ) (b0 b1 : Bounds) (only : Z → Option ℕ) (On : World S → Known → Z → Type 0) (OnOne : Core S → Standing → Z → Type 0) where
  abbrev pub Free : List ℕ → List StepRecord → List StepRecord → Known → Type 0
  Free list xs ys k = (judgement code b0 b1 list xs ys k).breach ≡ None

  abbrev pub Turned0 : World S → Known → Type 0
  Turned0 w k =
      (z : Z) × (n : Known) × On (give P 0 w) n z × (only z ≡ only_after 0 (next_record P w.core0 w.line).access) × (n.standing1 ≡ k.standing1)
      × ((cores : List ℕ) (xs ys : List StepRecord) → judgement code b0 b1 (0 ∷ cores) (next_record P w.core0 w.line ∷ xs) ys k ≡ judgement code b0 b1 cores xs ys n)

  abbrev pub Turned1 : World S → Known → Type 0
  Turned1 w k =
      (z : Z) × (n : Known) × On (give P 1 w) n z × (only z ≡ only_after 1 (next_record P w.core1 w.line).access)
      × ((cores : List ℕ) (xs ys : List StepRecord) → judgement code b0 b1 (1 ∷ cores) xs (next_record P w.core1 w.line ∷ ys) k ≡ judgement code b0 b1 cores xs ys n)

  abbrev pub TurnedOne : World S → Known → Type 0
  TurnedOne w k =
      (z : Z) × (n : Known) × OnOne (give P 1 w).core1 n.standing1 z × (only z ≡ Some 1)
      × ((cores : List ℕ) (xs ys : List StepRecord) → judgement code b0 b1 (1 ∷ cores) xs (next_record P w.core1 w.line ∷ ys) k ≡ judgement code b0 b1 cores xs ys n)

  module _
      (turn0 : (w : World S) (k : Known) (z : Z) → On w k z → is_other 0 (only z) ≡ false → 0 < w.core0.left → Turned0 w k)
      (turn1 : (w : World S) (k : Known) (z : Z) → On w k z → is_other 1 (only z) ≡ false → 0 < w.core1.left → Turned1 w k)
      (turn_one : (w : World S) (k : Known) (z : Z) → OnOne w.core1 k.standing1 z → is_other 1 (only z) ≡ false → 0 < w.core1.left → (next_record P w.core1 w.line).access ≡ None → TurnedOne w k)
      (one_of : (w : World S) (k : Known) (z : Z) → On w k z → OnOne w.core1 k.standing1 z)
    where
      -- the turns of core 1 after its last access
      last1 : (m : ℕ) (w : World S) (k : Known) (z : Z) (xs ys : List StepRecord) → OnOne w.core1 k.standing1 z → is_other 1 (only z) ≡ false → quiet ys
          → IsWalk P (replicate m 1) w xs ys → Free (replicate m 1) xs ys k
      last1 zero w k z xs ys on alone q h = refl
      last1 (suc m) w k z xs ys on alone q h =
          let rest = h.0 in
          let x = next_record P w.core1 w.line in
          let q' : quiet (x ∷ rest) = subst quiet h.1 q in
          let t = turn_one w k z on alone h.2 q'.0 in
          let more = last1 m (give P 1 w) t.1 t.0 xs rest t.2 (ap (is_other 1) t.3) q'.1 h.3 in
          subst (λ (l : List StepRecord). Free (1 ∷ replicate m 1) xs l k) (sym h.1) (ap (λ (j : Judgement). j.breach) (t.4 (replicate m 1) xs rest) ∙ more)

      -- those of core 0, and then those of core 1, for which `y` stands
      last0 : (n m : ℕ) (w : World S) (k : Known) (z y : Z) (xs ys : List StepRecord) → On w k z → is_other 0 (only z) ≡ false → OnOne w.core1 k.standing1 y → is_other 1 (only y) ≡ false
          → quiet ys → IsWalk P (replicate n 0 ++ replicate m 1) w xs ys → Free (replicate n 0 ++ replicate m 1) xs ys k
      last0 zero m w k z y xs ys on alone one free q h = last1 m w k y xs ys one free q h
      last0 (suc n) m w k z y xs ys on alone one free q h =
          let rest = h.0 in
          let t = turn0 w k z on alone h.2 in
          let one' : OnOne w.core1 t.1.standing1 y = subst (λ (s : Standing). OnOne w.core1 s y) (sym t.4) one in
          let more = last0 n m (give P 0 w) t.1 t.0 y rest ys t.2 (ap (is_other 0) t.3 ∙ own_turn0 (next_record P w.core0 w.line).access) one' free q h.3 in
          subst (λ (l : List StepRecord). Free (0 ∷ (replicate n 0 ++ replicate m 1)) l ys k) (sym h.1)
          (ap (λ (j : Judgement). j.breach) (t.5 (replicate n 0 ++ replicate m 1) rest ys) ∙ more)

      -- what holds from the world after whole stretches on
      abbrev Claim : List ℕ → Type 0
      Claim cs = (i : ℕ) (ps : List ℕ) (n j : ℕ) (qs : List ℕ) (m : ℕ) (w : World S) (k : Known) (z : Z) (xs ys : List StepRecord) → ps ≡ places_from i xs → qs ≡ places_from j ys
          → length qs ≡ ones cs → On w k z → only z ≡ None → IsWalk P (schedule_from cs i ps n j qs m) w xs ys → Free (schedule_from cs i ps n j qs m) xs ys k

      -- the rest of a stretch of core 0
      stretch0 : (cs : List ℕ) → Claim cs → (t i p : ℕ) (ps : List ℕ) (n j : ℕ) (qs : List ℕ) (m : ℕ) (w : World S) (k : Known) (z : Z) (xs ys : List StepRecord)
          → t ≡ suc p - i → i ≤ p → p ∷ ps ≡ places_from i xs → qs ≡ places_from j ys → length qs ≡ ones cs → On w k z → is_other 0 (only z) ≡ false
          → IsWalk P (replicate t 0 ++ schedule_from cs (suc p) ps n j qs m) w xs ys → Free (replicate t 0 ++ schedule_from cs (suc p) ps n j qs m) xs ys k
      stretch0 cs next zero i p ps n j qs m w k z xs ys e low at at1 c on alone h = absurd (omega (arith, e, low))
      stretch0 cs next (suc t) i p ps n j qs m w k z xs ys e low at at1 c on alone h =
          subst (λ (l : List StepRecord). Free (0 ∷ (replicate t 0 ++ after)) l ys k) (sym h.1) (ap (λ (v : Judgement). v.breach) (turned.5 (replicate t 0 ++ after) rest ys)
          ∙ by_access x.access refl
          (λ at' low'.
          stretch0 cs next t (suc i) p ps n j qs m (give P 0 w) turned.1 turned.0 rest ys (omega (arith, e, low)) low' at' at1 c turned.2 (ap (is_other 0) turned.3 ∙ own_turn0 x.access) h.3))
        where
          after : List ℕ
          after = schedule_from cs (suc p) ps n j qs m

          rest : List StepRecord
          rest = h.0

          x : StepRecord
          x = next_record P w.core0 w.line

          turned : Turned0 w k
          turned = turn0 w k z on alone h.2

          placed : p ∷ ps ≡ place_before x.access i (places_from (suc i) rest)
          placed = at ∙ ap (places_from i) h.1

          by_access : (a : Option Access) → x.access ≡ a → (p ∷ ps ≡ places_from (suc i) rest → suc i ≤ p → Free (replicate t 0 ++ after) rest ys turned.1)
              → Free (replicate t 0 ++ after) rest ys turned.1
          by_access None d again =
              let at' : p ∷ ps ≡ places_from (suc i) rest = placed ∙ ap (λ (b : Option Access). place_before b i (places_from (suc i) rest)) d in
              again at' (places_low (suc i) rest p ps at')
          by_access (Some a) d again =
              let both : p ∷ ps ≡ i ∷ places_from (suc i) rest = placed ∙ ap (λ (b : Option Access). place_before b i (places_from (suc i) rest)) d in
              let same : p ≡ i = ap head_of both in
              let none : t ≡ 0 = omega (arith, e, same) in
              let W : ℕ → Type 0 = λ u. IsWalk P (replicate u 0 ++ after) (give P 0 w) rest ys in
              let F : ℕ → Type 0 = λ u. Free (replicate u 0 ++ after) rest ys turned.1 in
              subst F (sym none)
              (next (suc p) ps n j qs m (give P 0 w) turned.1 turned.0 rest ys (ap tail_of both ∙ ap (λ (u : ℕ). places_from (suc u) rest) (sym same)) at1 c turned.2
              (turned.3 ∙ ap (only_after 0) d) (subst W none h.3))

      -- the rest of a stretch of core 1
      stretch1 : (cs : List ℕ) → Claim cs → (t j q : ℕ) (qs : List ℕ) (m i : ℕ) (ps : List ℕ) (n : ℕ) (w : World S) (k : Known) (z : Z) (xs ys : List StepRecord)
          → t ≡ suc q - j → j ≤ q → q ∷ qs ≡ places_from j ys → ps ≡ places_from i xs → length qs ≡ ones cs → On w k z → is_other 1 (only z) ≡ false
          → IsWalk P (replicate t 1 ++ schedule_from cs i ps n (suc q) qs m) w xs ys → Free (replicate t 1 ++ schedule_from cs i ps n (suc q) qs m) xs ys k
      stretch1 cs next zero j q qs m i ps n w k z xs ys e low at at0 c on alone h = absurd (omega (arith, e, low))
      stretch1 cs next (suc t) j q qs m i ps n w k z xs ys e low at at0 c on alone h =
          subst (λ (l : List StepRecord). Free (1 ∷ (replicate t 1 ++ after)) xs l k) (sym h.1) (ap (λ (v : Judgement). v.breach) (turned.4 (replicate t 1 ++ after) xs rest)
          ∙ by_access x.access refl
          (λ at' low'.
          stretch1 cs next t (suc j) q qs m i ps n (give P 1 w) turned.1 turned.0 xs rest (omega (arith, e, low)) low' at' at0 c turned.2 (ap (is_other 1) turned.3 ∙ own_turn1 x.access) h.3))
        where
          after : List ℕ
          after = schedule_from cs i ps n (suc q) qs m

          rest : List StepRecord
          rest = h.0

          x : StepRecord
          x = next_record P w.core1 w.line

          turned : Turned1 w k
          turned = turn1 w k z on alone h.2

          placed : q ∷ qs ≡ place_before x.access j (places_from (suc j) rest)
          placed = at ∙ ap (places_from j) h.1

          by_access : (a : Option Access) → x.access ≡ a → (q ∷ qs ≡ places_from (suc j) rest → suc j ≤ q → Free (replicate t 1 ++ after) xs rest turned.1)
              → Free (replicate t 1 ++ after) xs rest turned.1
          by_access None d again =
              let at' : q ∷ qs ≡ places_from (suc j) rest = placed ∙ ap (λ (b : Option Access). place_before b j (places_from (suc j) rest)) d in
              again at' (places_low (suc j) rest q qs at')
          by_access (Some a) d again =
              let both : q ∷ qs ≡ j ∷ places_from (suc j) rest = placed ∙ ap (λ (b : Option Access). place_before b j (places_from (suc j) rest)) d in
              let same : q ≡ j = ap head_of both in
              let none : t ≡ 0 = omega (arith, e, same) in
              let W : ℕ → Type 0 = λ u. IsWalk P (replicate u 1 ++ after) (give P 1 w) xs rest in
              let F : ℕ → Type 0 = λ u. Free (replicate u 1 ++ after) xs rest turned.1 in
              subst F (sym none)
              (next i ps n (suc q) qs m (give P 1 w) turned.1 turned.0 xs rest at0 (ap tail_of both ∙ ap (λ (u : ℕ). places_from (suc u) rest) (sym same)) c turned.2
              (turned.3 ∙ ap (only_after 1) d) (subst W none h.3))

      pub walked : (cs : List ℕ) → Claim cs
      walked [] i ps n j qs m w k z xs ys at0 at1 c on none h =
          last0 (n - i) (m - j) w k z z xs ys on (ap (is_other 0) none) (one_of w k z on) (ap (is_other 1) none) (quiet_of j ys (ap length (sym at1) ∙ c)) h
      walked (zero ∷ cs) i [] n j qs m w k z xs ys at0 at1 c on none h = refl
      walked (zero ∷ cs) i (p ∷ ps) n j qs m w k z xs ys at0 at1 c on none h =
          stretch0 cs (walked cs) (suc p - i) i p ps n j qs m w k z xs ys refl (places_low i xs p ps at0) at0 at1 c on (ap (is_other 0) none) h
      walked (suc d ∷ cs) i ps n j [] m w k z xs ys at0 at1 c on none h = refl
      walked (suc d ∷ cs) i ps n j (q ∷ qs) m w k z xs ys at0 at1 c on none h =
          stretch1 cs (walked cs) (suc q - j) j q qs m i ps n w k z xs ys refl (places_low j ys q qs at1) at1 at0 (omega (arith, c)) on (ap (is_other 1) none) h

-- ---- the entries of core 1

pub ones_are : (es : List Entry) → IsOfCores es → length (calls_of 1 es) ≡ ones (cores_of es)
ones_are [] h = refl
ones_are (e ∷ es) h = by_core e.core refl (ones_are es (λ k x at. h (suc k) x at))
  where
    L : ℕ → ℕ
    L c = length (cond (eqb c 1) ((e.access, e.reply) ∷ calls_of 1 es) (calls_of 1 es))

    R : ℕ → ℕ
    R c = ones (c ∷ cores_of es)

    by_core : (c : ℕ) → e.core ≡ c → length (calls_of 1 es) ≡ ones (cores_of es) → length (calls_of 1 (e ∷ es)) ≡ ones (cores_of (e ∷ es))
    by_core zero d rest = ap L d ∙ rest ∙ sym (ap R d)
    by_core (suc zero) d rest = ap L d ∙ ap suc rest ∙ sym (ap R d)
    by_core (suc (suc c)) d rest = let lt : e.core < 2 = h 0 e refl in absurd (omega (arith, d, lt))
