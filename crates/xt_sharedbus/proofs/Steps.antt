-- Each kind of step keeps the rule.
use Rattle.std.proofs.Common.{◌≡◌, ◌≢◌, ℕ, zero, suc, ◌+◌, ◌-◌, ◌<◌, ◌≤◌, ◌==◌, cond, Bool, true, false, List, [], ◌∷◌, ◌++◌, set, Option, Some, None, refl, sym, ap, ◌∙◌, subst, inl, inr, ⊎_elim, append-nil, arith}
use Rattle.std.specs.Prelude.{if◌then◌else◌}
use mathlib.Core.Option.{some, some-injective, some-ne-none}
use lib.ListN.{get_elem?}
use Rattle.crossbeam_queue.specs.Fifo.{Pushes, Pops, Forks, Merges, Learns}
use Rattle.crossbeam_queue.proofs.Lists.{at_set}
use Rattle.xt_map.specs.declared.contents.MemoryContents.{MemoryContents}
use Rattle.xt_map.specs.declared.access.Access.{Access}
use Rattle.xt_map.specs.declared.access.Entry.{Entry}
use Rattle.xt_map.specs.History.{calls_of}
use Rattle.xt_map.proofs.Grown.{calls_of_push}
use Rattle.xt_sharedbus.specs.declared.view.Part.{Part}
use Rattle.xt_sharedbus.specs.declared.view.Hand.{Hand}
use Rattle.xt_sharedbus.specs.declared.view.View.{View}
use Rattle.xt_sharedbus.specs.declared.view.View.TheVariants.{Unopened, Live, Spent}
use Rattle.xt_sharedbus.specs.declared.rule.Item.{Item}
use Rattle.xt_sharedbus.specs.Views.{unopened_view, spent_view, part, hand_of, part_in, hand_in, part_after_entry, grown_if, view_after_entry}
use Rattle.xt_sharedbus.specs.Rule.{Nowhere, Once, HasOpening, AnswersFor, IsOpen, IsUnopened, HoldsOneBus, Opened, FindsEmpty, Took, Gave, GaveSame}
use Rattle.xt_sharedbus.proofs.Once.{all_set, all_end, nowhere_set, nowhere_end, once_is, once_set, once_gone, once_new, once_kept, once_end, once_last, once_moved}

pub begins : HoldsOneBus [] (unopened_view ∷ [])
begins = inl (refl, refl)

-- before the open step there is the unopened view alone
alone : (views : List View) (port : ℕ) (v : View) → views ≡ unopened_view ∷ [] → get_elem? views port ≡ some v → (port ≡ 0) × (v ≡ unopened_view)
alone views zero v is at = (refl, some-injective v unopened_view (sym at ∙ ap (λ (l : List View). get_elem? l 0) is))
alone views (suc k) v is at = absurd (some-ne-none v (sym at ∙ ap (λ (l : List View). get_elem? l (suc k)) is))

-- a live view has seen the open step
after_open : (items : List Item) (views : List View) (port : ℕ) (m : MemoryContents) (a b : Option Part) (h : Option Hand) → HoldsOneBus items views → get_elem? views port ≡ some (Live m a b h) → IsOpen items views
after_open items views port m a b h k at =
    ⊎_elim (λ (u : IsUnopened items views). let e : Live m a b h ≡ unopened_view = (alone views port (Live m a b h) u.1 at).1 in absurd cc) (λ (o : IsOpen items views). o) k

-- open
pub opens : (n port : ℕ) (x : Item) → x.bus.value.history ≡ [] → x.turns0 + x.turns1 ≤ x.bus.value.spare → Pushes HoldsOneBus n port unopened_view x (Opened unopened_view x)
opens n port x empty room items views short k at =
    let w : View = Live x.bus.value.opening (Some (part [] x.turns0)) (Some (part [] x.turns1)) None in
    ⊎_elim
    (λ (u : IsUnopened items views).
    let only : (A : Type 0) (f : View → Option A) (y : A) → f unopened_view ≡ None → f w ≡ Some y → Once f y (set views port w) =
    (λ A f y none is. once_new f views port unopened_view w y at (λ i r e. ap f (alone views i r u.1 e).1 ∙ none) is) in (
      w,
      inr (
        x.bus.value.opening,
        hand_of x.bus.value,
        part [] x.turns0,
        part [] x.turns1,
        inl (x, ap (λ (l : List Item). l ++ x ∷ []) u.0, refl, refl, nowhere_set hand_in views port w (λ i r e. ap hand_in (alone views i r u.1 e).1) refl),
        λ i r e.
            ⊎_elim (λ (t : (i ≡ port) × (w ≡ r)). let P : View → Type 0 = λ y. HasOpening x.bus.value.opening y in subst P t.1 refl)
            (λ (t : (i ≢ port) × (get_elem? views i ≡ some r)). absurd (t.0 ((alone views i r u.1 t.1).0 ∙ sym (alone views port unopened_view u.1 at).0))) (at_set views port i w r e),
        (only Part (part_in 0) (part [] x.turns0) refl refl, ap (λ (l : List Entry). calls_of 0 l) empty),
        (only Part (part_in 1) (part [] x.turns1) refl refl, ap (λ (l : List Entry). calls_of 1 l) empty),
        room,
      ),
      refl,
    ))
    (λ (o : IsOpen items views). absurd (o.5 port unopened_view at)) k

-- take
part_known : (c : ℕ) (p q r : Part) (h : Hand) (views : List View) (port : ℕ) (v : View) → c < 2 → get_elem? views port ≡ some v → part_in c v ≡ Some r
    → AnswersFor 0 p h views → AnswersFor 1 q h views → p.left + q.left ≤ h.spare → (calls_of c h.history ≡ r.list) × (r.left ≤ h.spare)
part_known zero p q r h views port v two at is zeros ones room =
    let same : r ≡ p = (once_is (part_in 0) views port v p r at is zeros.0).1 in
    let less : p.left ≤ h.spare = omega arith in
    (zeros.1 ∙ ap (λ (s : Part). s.list) (sym same), let P : Part → Type 0 = λ s. s.left ≤ h.spare in subst P (sym same) less)
part_known (suc zero) p q r h views port v two at is zeros ones room =
    let same : r ≡ q = (once_is (part_in 1) views port v q r at is ones.0).1 in
    let less : q.left ≤ h.spare = omega arith in
    (ones.1 ∙ ap (λ (s : Part). s.list) (sym same), let P : Part → Type 0 = λ s. s.left ≤ h.spare in subst P (sym same) less)
part_known (suc (suc c)) p q r h views port v two at is zeros ones room = absurd (omega arith)

pub takes : (port : ℕ) (m : MemoryContents) (a b : Option Part) → Pops HoldsOneBus port (Live m a b None) (Took (Live m a b None))
takes port m a b x items views k at =
    let v : View = Live m a b None in
    let w : View = Live m a b (Some (hand_of x.bus.value)) in
    let o = after_open (x ∷ items) views port m a b None k at in
    ⊎_elim
    (λ (t : (y : Item) × (x ∷ items ≡ y ∷ []) × (y.bus.value.opening ≡ o.0) × (hand_of y.bus.value ≡ o.1) × Nowhere hand_in views).
    let e : x ≡ t.0 = cc (t.1) in
    let rest : items ≡ [] = cc (t.1) in
    let same : hand_of x.bus.value ≡ o.1 = ap (λ (y : Item). hand_of y.bus.value) e ∙ t.3 in (
      w,
      inr (
        o.0,
        o.1,
        o.2,
        o.3,
        inr (rest, once_new hand_in views port v w o.1 at t.4 (ap Some same)),
        all_set (HasOpening o.0) views port w o.5 (o.5 port v at),
        (once_kept (part_in 0) views port v w o.2 at o.6.0 refl, o.6.1),
        (once_kept (part_in 1) views port v w o.3 at o.7.0 refl, o.7.1),
        o.8,
      ),
      (
        refl,
        (
          o.5 port v at ∙ sym (ap (λ (y : Item). y.bus.value.opening) e ∙ t.2),
          λ c p two is.
              let known = part_known c o.2 o.3 p o.1 views port v two at is o.6 o.7 o.8 in
              (ap (λ (y : Hand). calls_of c y.history) same ∙ known.0, (let P : Hand → Type 0 = λ y. p.left ≤ y.spare in subst P (sym same) known.1)),
        ),
      ),
    ))
    (λ (t : (x ∷ items ≡ []) × Once hand_in o.1 views). absurd (cc (t.0))) o.4

-- found empty
pub finds : (port : ℕ) (v : View) → Learns HoldsOneBus port v (FindsEmpty v)
finds port Unopened items views k at may =
    ⊎_elim (λ (u : IsUnopened items views). u.0) (λ (o : IsOpen items views). absurd (o.5 port Unopened at)) k
finds port Spent items views k at may = absurd may
finds port (Live m a b None) items views k at may = absurd may
finds port (Live m a b (Some h)) items views k at may =
    let o = after_open items views port m a b (Some h) k at in
    ⊎_elim
    (λ (t : (y : Item) × (items ≡ y ∷ []) × (y.bus.value.opening ≡ o.0) × (hand_of y.bus.value ≡ o.1) × Nowhere hand_in views).
    let none : Some h ≡ None = t.4 port (Live m a b (Some h)) at in absurd cc)
    (λ (t : (items ≡ []) × Once hand_in o.1 views). t.0) o.4

-- give back
by_test : (t : Bool) (l : List (Access × ℕ)) (x : Access × ℕ) → l ++ (if t then x ∷ [] else []) ≡ cond t (l ++ x ∷ []) l
by_test true l x = refl
by_test false l x = append-nil l

calls_push : (c : ℕ) (es : List Entry) (e : Entry) → calls_of c (es ++ e ∷ []) ≡ cond (e.core == c) (calls_of c es ++ (e.access, e.reply) ∷ []) (calls_of c es)
calls_push c es e = calls_of_push c es e ∙ by_test (e.core == c) (calls_of c es) (e.access, e.reply)

list_grows : (d : Bool) (p : Part) (y : Access × ℕ) (l : List (Access × ℕ)) → l ≡ p.list → cond d (l ++ y ∷ []) l ≡ (cond d (record { list = p.list ++ y ∷ []; left = p.left - 1 }) p).list
list_grows true p y l is = ap (λ (r : List (Access × ℕ)). r ++ y ∷ []) is
list_grows false p y l is = is

-- a core's part after a push of one entry
answers_grown : (c port : ℕ) (views : List View) (v w : View) (h g : Hand) (e : Entry) (p : Part) (r : Option Part) → get_elem? views port ≡ some v → g.history ≡ h.history ++ e ∷ []
    → part_in c v ≡ r → part_in c w ≡ grown_if c e r → (r ≡ None → (e.core == c) ≡ false) → AnswersFor c p h views → AnswersFor c (part_after_entry c e p) g (set views port w)
answers_grown c port views v w h g e p None at longer was now other k =
    let same : part_after_entry c e p ≡ p = ap (λ (d : Bool). cond d (record { list = p.list ++ (e.access, e.reply) ∷ []; left = p.left - 1 }) p) (other refl) in
    let P : Part → Type 0 = λ q. Once (part_in c) q (set views port w) in (
      subst P (sym same) (once_kept (part_in c) views port v w p at k.0 (now ∙ sym was)),
      ap (λ (l : List Entry). calls_of c l) longer ∙ (calls_push c h.history e ∙ list_grows (e.core == c) p (e.access, e.reply) (calls_of c h.history) k.1),
    )
answers_grown c port views v w h g e p (Some q) at longer was now other k =
    let same : q ≡ p = (once_is (part_in c) views port v p q at was k.0).1 in (
      once_set (part_in c) views port v w p q (part_after_entry c e p) at was k.0 (now ∙ ap (λ (s : Part). Some (part_after_entry c e s)) same),
      ap (λ (l : List Entry). calls_of c l) longer ∙ (calls_push c h.history e ∙ list_grows (e.core == c) p (e.access, e.reply) (calls_of c h.history) k.1),
    )

-- the sum of the accesses left falls with the spare
sum_falls : (k : ℕ) (e : Entry) (p q r : Part) (v : View) (views : List View) (port s : ℕ) (h g : Hand) → k < 2 → e.core ≡ k → get_elem? views port ≡ some v → part_in k v ≡ Some r → 0 < r.left
    → AnswersFor 0 p h views → AnswersFor 1 q h views → p.left + q.left ≤ s + 1 → (part_after_entry 0 e p).left + (part_after_entry 1 e q).left ≤ s
sum_falls zero e p q r v views port s h g two core at is some_left zeros ones room =
    let same : r ≡ p = (once_is (part_in 0) views port v p r at is zeros.0).1 in
    let L : Part → Type 0 = λ y. 0 < y.left in
    let left : 0 < p.left = subst L same some_left in
    let P : ℕ → Type 0 = λ n. (cond (n == 0) (record { list = p.list ++ (e.access, e.reply) ∷ []; left = p.left - 1 }) p).left + (cond (n == 1) (record { list = q.list ++ (e.access, e.reply) ∷ []; left = q.left - 1 }) q).left ≤ s in
    subst P (sym core) (omega arith)
sum_falls (suc zero) e p q r v views port s h g two core at is some_left zeros ones room =
    let same : r ≡ q = (once_is (part_in 1) views port v q r at is ones.0).1 in
    let L : Part → Type 0 = λ y. 0 < y.left in
    let left : 0 < q.left = subst L same some_left in
    let P : ℕ → Type 0 = λ n. (cond (n == 0) (record { list = p.list ++ (e.access, e.reply) ∷ []; left = p.left - 1 }) p).left + (cond (n == 1) (record { list = q.list ++ (e.access, e.reply) ∷ []; left = q.left - 1 }) q).left ≤ s in
    subst P (sym core) (omega arith)
sum_falls (suc (suc k)) e p q r v views port s h g two core at is some_left zeros ones room = absurd (omega arith)

-- a core that the view does not answer for is not the entry's
not_own : (c k : ℕ) (e : Entry) (v : View) (r : Part) → c < 2 → k < 2 → e.core ≡ k → part_in k v ≡ Some r → part_in c v ≡ None → (e.core == c) ≡ false
not_own zero zero e v r a b core own none = let clash : Some r ≡ None = sym own ∙ none in absurd cc
not_own zero (suc zero) e v r a b core own none = ap (λ (n : ℕ). n == 0) core
not_own (suc zero) zero e v r a b core own none = ap (λ (n : ℕ). n == 1) core
not_own (suc zero) (suc zero) e v r a b core own none = let clash : Some r ≡ None = sym own ∙ none in absurd cc
not_own (suc (suc c)) k e v r a b core own none = absurd (omega arith)
not_own zero (suc (suc k)) e v r a b core own none = absurd (omega arith)
not_own (suc zero) (suc (suc k)) e v r a b core own none = absurd (omega arith)

pub gives : (n port : ℕ) (m : MemoryContents) (a b : Option Part) (h : Hand) (x : Item) (e : Entry) (r : Part) → e.core < 2 → part_in e.core (Live m a b (Some h)) ≡ Some r → 0 < r.left
    → x.bus.value.opening ≡ m → x.bus.value.history ≡ h.history ++ e ∷ [] → x.bus.value.spare + 1 ≡ h.spare → Pushes HoldsOneBus n port (Live m a b (Some h)) x (Gave (Live m a b (Some h)) x)
gives n port m a b h x e r two own some_left opening longer spare items views short k at =
    let v : View = Live m a b (Some h) in
    let w : View = view_after_entry e v in
    let o = after_open items views port m a b (Some h) k at in
    ⊎_elim
    (λ (t : (y : Item) × (items ≡ y ∷ []) × (y.bus.value.opening ≡ o.0) × (hand_of y.bus.value ≡ o.1) × Nowhere hand_in views).
    let none : Some h ≡ None = t.4 port v at in absurd cc)
    (λ (t : (items ≡ []) × Once hand_in o.1 views).
    let same : h ≡ o.1 = (once_is hand_in views port v o.1 h at refl t.1).1 in
    let longer' : x.bus.value.history ≡ o.1.history ++ e ∷ [] = longer ∙ ap (λ (y : Hand). y.history ++ e ∷ []) same in
    let spare' : x.bus.value.spare + 1 ≡ o.1.spare = spare ∙ ap (λ (y : Hand). y.spare) same in
    let room : o.2.left + o.3.left ≤ x.bus.value.spare + 1 = (let k = o.8 in omega arith) in (
      w,
      inr (
        o.0,
        hand_of x.bus.value,
        part_after_entry 0 e o.2,
        part_after_entry 1 e o.3,
        inl (x, ap (λ (l : List Item). l ++ x ∷ []) t.0, opening ∙ o.5 port v at, refl, once_gone hand_in views port v w o.1 h at refl t.1 refl),
        all_set (HasOpening o.0) views port w o.5 (o.5 port v at),
        answers_grown 0 port views v w o.1 (hand_of x.bus.value) e o.2 a at longer' refl refl (λ none. not_own 0 e.core e v r (omega arith) two refl own none) o.6,
        answers_grown 1 port views v w o.1 (hand_of x.bus.value) e o.3 b at longer' refl refl (λ none. not_own 1 e.core e v r (omega arith) two refl own none) o.7,
        sum_falls e.core e o.2 o.3 r v views port x.bus.value.spare o.1 (hand_of x.bus.value) two refl at own some_left o.6 o.7 room,
      ),
      (h, e, refl, longer, refl),
    )) o.4

-- give back, with no entry more
pub gives_same : (n port : ℕ) (m : MemoryContents) (a b : Option Part) (x : Item) → x.bus.value.opening ≡ m → Pushes HoldsOneBus n port (Live m a b (Some (hand_of x.bus.value))) x (GaveSame (Live m a b (Some (hand_of x.bus.value))) x)
gives_same n port m a b x opening items views short k at =
    let h : Hand = hand_of x.bus.value in
    let v : View = Live m a b (Some h) in
    let w : View = Live m a b None in
    let o = after_open items views port m a b (Some h) k at in
    ⊎_elim
    (λ (t : (y : Item) × (items ≡ y ∷ []) × (y.bus.value.opening ≡ o.0) × (hand_of y.bus.value ≡ o.1) × Nowhere hand_in views).
    let none : Some h ≡ None = t.4 port v at in absurd cc)
    (λ (t : (items ≡ []) × Once hand_in o.1 views).
    let same : h ≡ o.1 = (once_is hand_in views port v o.1 h at refl t.1).1 in (
      w,
      inr (
        o.0,
        o.1,
        o.2,
        o.3,
        inl (x, ap (λ (l : List Item). l ++ x ∷ []) t.0, opening ∙ o.5 port v at, same, once_gone hand_in views port v w o.1 h at refl t.1 refl),
        all_set (HasOpening o.0) views port w o.5 (o.5 port v at),
        (once_kept (part_in 0) views port v w o.2 at o.6.0 refl, o.6.1),
        (once_kept (part_in 1) views port v w o.3 at o.7.0 refl, o.7.1),
        o.8,
      ),
      (refl, refl),
    )) o.4

-- split a pass
pub forks : (port : ℕ) (m : MemoryContents) (p q : Part) → Forks HoldsOneBus port (Live m (Some p) (Some q) None) (Live m (Some p) None None) (Live m None (Some q) None)
forks port m p q items views k at =
    let v : View = Live m (Some p) (Some q) None in
    let l : View = Live m (Some p) None None in
    let r : View = Live m None (Some q) None in
    let vs : List View = set views port l in
    let o = after_open items views port m (Some p) (Some q) None k at in
    let same : q ≡ o.3 = (once_is (part_in 1) views port v o.3 q at refl o.7.0).1 in
    inr (
      o.0,
      o.1,
      o.2,
      o.3,
      ⊎_elim
          (λ (t : (y : Item) × (items ≡ y ∷ []) × (y.bus.value.opening ≡ o.0) × (hand_of y.bus.value ≡ o.1) × Nowhere hand_in views).
          inl (t.0, t.1, t.2, t.3, nowhere_end hand_in vs r (nowhere_set hand_in views port l t.4 refl) refl))
          (λ (t : (items ≡ []) × Once hand_in o.1 views). inr (t.0, once_end hand_in vs r o.1 (once_kept hand_in views port v l o.1 at t.1 refl) refl)) o.4,
      all_end (HasOpening o.0) vs r (all_set (HasOpening o.0) views port l o.5 (o.5 port v at)) (o.5 port v at),
      (once_end (part_in 0) vs r o.2 (once_kept (part_in 0) views port v l o.2 at o.6.0 refl) refl, o.6.1),
      (once_last (part_in 1) vs r o.3 (once_gone (part_in 1) views port v l o.3 q at refl o.7.0 refl) (ap Some same), o.7.1),
      o.8,
    )

-- join a pass
pub merges : (port : ℕ) (m n : MemoryContents) (p q : Part) (other : ℕ) → Merges HoldsOneBus port (Live m (Some p) None None) other (Live n None (Some q) None) (Live m (Some p) (Some q) None) spent_view
merges port m n p q other items views k at two at' =
    let v : View = Live m (Some p) None None in
    let u : View = Live n None (Some q) None in
    let both : View = Live m (Some p) (Some q) None in
    let vs : List View = set views port both in
    let o = after_open items views port m (Some p) None None k at in
    let was : get_elem? views other ≡ some u =
    ⊎_elim (λ (t : (other ≡ port) × (both ≡ u)). absurd (two t.0)) (λ (t : (other ≢ port) × (get_elem? views other ≡ some u)). t.1) (at_set views port other both u at') in
    let same : q ≡ o.3 = (once_is (part_in 1) views other u o.3 q was refl o.7.0).1 in
    inr (
      o.0,
      o.1,
      o.2,
      o.3,
      ⊎_elim
          (λ (t : (y : Item) × (items ≡ y ∷ []) × (y.bus.value.opening ≡ o.0) × (hand_of y.bus.value ≡ o.1) × Nowhere hand_in views).
          inl (t.0, t.1, t.2, t.3, nowhere_set hand_in vs other spent_view (nowhere_set hand_in views port both t.4 refl) refl))
          (λ (t : (items ≡ []) × Once hand_in o.1 views).
          inr (t.0, once_kept hand_in vs other u spent_view o.1 at' (once_kept hand_in views port v both o.1 at t.1 refl) refl)) o.4,
      all_set (HasOpening o.0) vs other spent_view (all_set (HasOpening o.0) views port both o.5 (o.5 port v at)) tt,
      (once_kept (part_in 0) vs other u spent_view o.2 at' (once_kept (part_in 0) views port v both o.2 at o.6.0 refl) refl, o.6.1),
      (once_moved (part_in 1) views port other v u both spent_view o.3 q at was (λ e. two (sym e)) refl o.7.0 (ap Some same) refl, o.7.1),
      o.8,
    )
