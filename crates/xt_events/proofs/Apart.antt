-- The kinds of turns after one more turn.
use Rattle.std.proofs.Common.{◌≡◌, ℕ, zero, suc, ◌+◌, ◌≤◌, ◌<◌, true, false, inl, inr, Option, Some, None, List, [], ◌∷◌, ◌++◌, length, take, drop, get_or, refl, sym, ap, ◌∙◌, subst, append_assoc, eq-eqb, arith}
use Rattle.std.specs.Prelude.{slice_get, slice_set}
use Rattle.std.proofs.lemmas.Bool.{cases_Bool, eqb-true}
use Rattle.std.proofs.lemmas.List.{drop_all, drop_more, drop-set, length-take, take_all, take_more, take-append-drop, take-set}
use Rattle.std.proofs.lemmas.Option.{slice_get_cases}
use Rattle.xt_trace.specs.declared.record.StepKind.{StepKind}
use Rattle.xt_trace.specs.declared.record.StepKind.TheVariants as kind
use Rattle.xt_trace.specs.declared.record.StepRecord.{StepRecord}
use Rattle.xt_trace.specs.Left.{first_of}
use Rattle.xt_events.specs.declared.event.Event.{Event}
use Rattle.xt_events.specs.Events.{events_from, events_in, others, same_kind, times_in}
use Rattle.xt_events.specs.Noted.{HasRoom, first_event, events_after_record, once_more}
use Rattle.xt_events.proofs.Following.{first_left}

-- ---- two turns of one kind

same_is : (a b : StepKind) → same_kind a b ≡ true → a ≡ b
same_is kind.Insn kind.Insn h = refl
same_is kind.Insn (kind.Window y) h = absurd cc
same_is kind.Insn (kind.Exc y) h = absurd cc
same_is kind.Insn (kind.Interrupt y) h = absurd cc
same_is kind.Insn kind.Wait h = absurd cc
same_is kind.Insn kind.Stop h = absurd cc
same_is (kind.Window x) kind.Insn h = absurd cc
same_is (kind.Window x) (kind.Window y) h = ap (λ n. kind.Window n) (eqb-true x y h)
same_is (kind.Window x) (kind.Exc y) h = absurd cc
same_is (kind.Window x) (kind.Interrupt y) h = absurd cc
same_is (kind.Window x) kind.Wait h = absurd cc
same_is (kind.Window x) kind.Stop h = absurd cc
same_is (kind.Exc x) kind.Insn h = absurd cc
same_is (kind.Exc x) (kind.Window y) h = absurd cc
same_is (kind.Exc x) (kind.Exc y) h = ap (λ n. kind.Exc n) (eqb-true x y h)
same_is (kind.Exc x) (kind.Interrupt y) h = absurd cc
same_is (kind.Exc x) kind.Wait h = absurd cc
same_is (kind.Exc x) kind.Stop h = absurd cc
same_is (kind.Interrupt x) kind.Insn h = absurd cc
same_is (kind.Interrupt x) (kind.Window y) h = absurd cc
same_is (kind.Interrupt x) (kind.Exc y) h = absurd cc
same_is (kind.Interrupt x) (kind.Interrupt y) h = ap (λ n. kind.Interrupt n) (eqb-true x y h)
same_is (kind.Interrupt x) kind.Wait h = absurd cc
same_is (kind.Interrupt x) kind.Stop h = absurd cc
same_is kind.Wait kind.Insn h = absurd cc
same_is kind.Wait (kind.Window y) h = absurd cc
same_is kind.Wait (kind.Exc y) h = absurd cc
same_is kind.Wait (kind.Interrupt y) h = absurd cc
same_is kind.Wait kind.Wait h = refl
same_is kind.Wait kind.Stop h = absurd cc
same_is kind.Stop kind.Insn h = absurd cc
same_is kind.Stop (kind.Window y) h = absurd cc
same_is kind.Stop (kind.Exc y) h = absurd cc
same_is kind.Stop (kind.Interrupt y) h = absurd cc
same_is kind.Stop kind.Wait h = absurd cc
same_is kind.Stop kind.Stop h = refl

same_self : (a : StepKind) → same_kind a a ≡ true
same_self kind.Insn = refl
same_self (kind.Window x) = eq-eqb x x refl
same_self (kind.Exc x) = eq-eqb x x refl
same_self (kind.Interrupt x) = eq-eqb x x refl
same_self kind.Wait = refl
same_self kind.Stop = refl

-- the test of a kind that is another's
same_as : (a b c : StepKind) → same_kind a b ≡ true → same_kind c a ≡ same_kind c b
same_as a b c h = ap (same_kind c) (same_is a b h)

unlike : (a b : StepKind) → same_kind a b ≡ false → same_kind b a ≡ false
unlike a b h = elim (cases_Bool (same_kind b a)) [
  | inl yes_same ↦ absurd (let is : same_kind a b ≡ true = ap (same_kind a) (same_is b a yes_same) ∙ same_self a in cc)
  | inr no_same ↦ no_same
]

alike : (a b : StepKind) → same_kind a b ≡ true → same_kind b a ≡ true
alike a b h = ap (same_kind b) (same_is a b h) ∙ same_self b

-- ---- one turn more

noted_here : (i : ℕ) (r : StepRecord) (e : Event) (rest : List Event) → same_kind r.kind e.kind ≡ true → events_after_record i r (e ∷ rest) ≡ once_more e ∷ rest
noted_here i r e rest h = rw h refl

noted_later : (i : ℕ) (r : StepRecord) (e : Event) (rest : List Event) → same_kind r.kind e.kind ≡ false → events_after_record i r (e ∷ rest) ≡ e ∷ events_after_record i r rest
noted_later i r e rest h = rw h refl

others_less : (k : StepKind) (e : Event) (rest : List Event) → same_kind k e.kind ≡ true → others k (e ∷ rest) ≡ others k rest
others_less k e rest h = rw h refl

others_keep : (k : StepKind) (e : Event) (rest : List Event) → same_kind k e.kind ≡ false → others k (e ∷ rest) ≡ e ∷ others k rest
others_keep k e rest h = rw h refl

-- a turn of this kind is not among the others
none_noted : (k : StepKind) (i : ℕ) (r : StepRecord) (es : List Event) → same_kind k r.kind ≡ true → others k (events_after_record i r es) ≡ others k es
none_noted k i r [] h = others_less k (first_event i r) [] h
none_noted k i r (e ∷ es) h = elim (cases_Bool (same_kind r.kind e.kind)) [
  | inl same ↦
      let less : same_kind k e.kind ≡ true = sym (same_as r.kind e.kind k same) ∙ h in
      ap (others k) (noted_here i r e es same) ∙ others_less k (once_more e) es less ∙ sym (others_less k e es less)
  | inr other ↦
      ap (others k) (noted_later i r e es other) ∙ elim (cases_Bool (same_kind k e.kind)) [
        | inl less ↦ others_less k e (events_after_record i r es) less ∙ none_noted k i r es h ∙ sym (others_less k e es less)
        | inr keep ↦ others_keep k e (events_after_record i r es) keep ∙ ap (λ (xs : List Event). e ∷ xs) (none_noted k i r es h) ∙ sym (others_keep k e es keep)
      ]
]

-- a turn of another kind is noted among the others
noted_among : (k : StepKind) (i : ℕ) (r : StepRecord) (es : List Event) → same_kind k r.kind ≡ false → others k (events_after_record i r es) ≡ events_after_record i r (others k es)
noted_among k i r [] h = others_keep k (first_event i r) [] h
noted_among k i r (e ∷ es) h = elim (cases_Bool (same_kind r.kind e.kind)) [
  | inl same ↦
      let keep : same_kind k e.kind ≡ false = sym (same_as r.kind e.kind k same) ∙ h in
      ap (others k) (noted_here i r e es same) ∙ others_keep k (once_more e) es keep
      ∙ sym (noted_here i r e (others k es) same) ∙ ap (events_after_record i r) (sym (others_keep k e es keep))
  | inr other ↦
      ap (others k) (noted_later i r e es other) ∙ elim (cases_Bool (same_kind k e.kind)) [
        | inl less ↦ others_less k e (events_after_record i r es) less ∙ noted_among k i r es h ∙ ap (events_after_record i r) (sym (others_less k e es less))
        | inr keep ↦
            others_keep k e (events_after_record i r es) keep ∙ ap (λ (xs : List Event). e ∷ xs) (noted_among k i r es h)
            ∙ sym (noted_later i r e (others k es) other) ∙ ap (events_after_record i r) (sym (others_keep k e es keep))
      ]
]

times_here : (k : StepKind) (r : StepRecord) (rest : List StepRecord) → same_kind k r.kind ≡ true → times_in k (r ∷ rest) ≡ suc (times_in k rest)
times_here k r rest h = rw h refl

times_not : (k : StepKind) (r : StepRecord) (rest : List StepRecord) → same_kind k r.kind ≡ false → times_in k (r ∷ rest) ≡ times_in k rest
times_not k r rest h = rw h refl

one_more : (k : StepKind) (xs : List StepRecord) (r : StepRecord) → same_kind k r.kind ≡ true → times_in k (xs ++ r ∷ []) ≡ suc (times_in k xs)
one_more k [] r h = times_here k r [] h
one_more k (x ∷ xs) r h = elim (cases_Bool (same_kind k x.kind)) [
  | inl same ↦ times_here k x (xs ++ r ∷ []) same ∙ ap suc (one_more k xs r h) ∙ ap suc (sym (times_here k x xs same))
  | inr other ↦ times_not k x (xs ++ r ∷ []) other ∙ one_more k xs r h ∙ ap suc (sym (times_not k x xs other))
]

no_more : (k : StepKind) (xs : List StepRecord) (r : StepRecord) → same_kind k r.kind ≡ false → times_in k (xs ++ r ∷ []) ≡ times_in k xs
no_more k [] r h = times_not k r [] h
no_more k (x ∷ xs) r h = elim (cases_Bool (same_kind k x.kind)) [
  | inl same ↦ times_here k x (xs ++ r ∷ []) same ∙ ap suc (no_more k xs r h) ∙ sym (times_here k x xs same)
  | inr other ↦ times_not k x (xs ++ r ∷ []) other ∙ no_more k xs r h ∙ sym (times_not k x xs other)
]

-- the kind of a first turn, with so many turns
abbrev counted : ℕ → StepRecord → ℕ → Event
counted i x n = record { kind = x.kind; times = n; first = i; pc = x.pc }

after_one : (i n : ℕ) (x r : StepRecord) (xs : List StepRecord) → events_from (suc i) (xs ++ r ∷ []) ≡ events_after_record n r (events_from (suc i) xs)
    → events_from i ((x ∷ xs) ++ r ∷ []) ≡ events_after_record n r (events_from i (x ∷ xs))
after_one i n x r xs later = elim (cases_Bool (same_kind x.kind r.kind)) [
  | inl same ↦
      let few = times_in x.kind xs in
      let rest = others x.kind (events_from (suc i) xs) in
      let more : suc (times_in x.kind (xs ++ r ∷ [])) ≡ suc few + 1 = omega (arith, one_more x.kind xs r same) in
      ap (λ (t : ℕ). counted i x t ∷ others x.kind (events_from (suc i) (xs ++ r ∷ []))) more
      ∙ ap (λ (es : List Event). counted i x (suc few + 1) ∷ others x.kind es) later
      ∙ ap (λ (es : List Event). counted i x (suc few + 1) ∷ es) (none_noted x.kind n r (events_from (suc i) xs) same)
      ∙ sym (noted_here n r (counted i x (suc few)) rest (alike x.kind r.kind same))
  | inr other ↦
      let few = times_in x.kind xs in
      let rest = others x.kind (events_from (suc i) xs) in
      ap (λ (t : ℕ). counted i x (suc t) ∷ others x.kind (events_from (suc i) (xs ++ r ∷ []))) (no_more x.kind xs r other)
      ∙ ap (λ (es : List Event). counted i x (suc few) ∷ others x.kind es) later
      ∙ ap (λ (es : List Event). counted i x (suc few) ∷ es) (noted_among x.kind n r (events_from (suc i) xs) other)
      ∙ sym (noted_later n r (counted i x (suc few)) rest (unlike x.kind r.kind other))
]

pub one_noted : (i n : ℕ) (xs : List StepRecord) (r : StepRecord) → n ≡ i + length xs → events_from i (xs ++ r ∷ []) ≡ events_after_record n r (events_from i xs)
one_noted i n [] r e = ap (λ (k : ℕ). counted k r 1 ∷ []) (let is : i ≡ n = omega (arith, e) in is)
one_noted i n (x ∷ xs) r e = after_one i n x r xs (one_noted (suc i) n xs r (omega (arith, e)))

-- ---- how often they came

roomier : (m n : ℕ) (es : List Event) → m ≤ n → HasRoom m es → HasRoom n es
roomier m n [] le h = tt
roomier m n (e ∷ es) le h = (omega (arith, h.0), roomier m n es le h.1)

fewer : (k : StepKind) (n : ℕ) (es : List Event) → HasRoom n es → HasRoom n (others k es)
fewer k n [] h = tt
fewer k n (e ∷ es) h = elim (cases_Bool (same_kind k e.kind)) [
  | inl less ↦ let F : List Event → Type 0 = λ xs. HasRoom n xs in subst F (sym (others_less k e es less)) (fewer k n es h.1)
  | inr keep ↦ let F : List Event → Type 0 = λ xs. HasRoom n xs in subst F (sym (others_keep k e es keep)) (h.0, fewer k n es h.1)
]

times_most : (k : StepKind) (xs : List StepRecord) → times_in k xs ≤ length xs
times_most k [] = omega arith
times_most k (x ∷ xs) = elim (cases_Bool (same_kind k x.kind)) [
  | inl same ↦ omega (arith, times_here k x xs same, times_most k xs)
  | inr other ↦ omega (arith, times_not k x xs other, times_most k xs)
]

bounded : (i : ℕ) (xs : List StepRecord) → HasRoom (suc (length xs)) (events_from i xs)
bounded i [] = tt
bounded i (x ∷ xs) = (
  omega (arith, times_most x.kind xs),
  fewer x.kind (suc (length (x ∷ xs))) (events_from (suc i) xs) (roomier (suc (length xs)) (suc (length (x ∷ xs))) (events_from (suc i) xs) (omega arith) (bounded (suc i) xs)),
)

pub has_room : (n : ℕ) (xs : List StepRecord) → length xs < n → HasRoom n (events_in xs)
has_room n xs lt = roomier (suc (length xs)) n (events_in xs) lt (bounded 0 xs)

-- ---- one record after another

-- the kinds before a place are others
pub passed : (i : ℕ) (r : StepRecord) (es : List Event) (k : ℕ) (d : Event) → k < length es → same_kind r.kind (get_or es k d).kind ≡ false
    → events_after_record i r es ≡ take k es ++ events_after_record i r (drop k es) → events_after_record i r es ≡ take (k + 1) es ++ events_after_record i r (drop (k + 1) es)
passed i r es k d lt other so_far =
    let x = get_or es k d in
    let rest = events_after_record i r (drop (k + 1) es) in
    so_far
    ∙ ap (λ (xs : List Event). take k es ++ events_after_record i r xs) (drop_more es k d lt)
    ∙ ap (λ (xs : List Event). take k es ++ xs) (noted_later i r x (drop (k + 1) es) other)
    ∙ sym (append_assoc (take k es) (x ∷ []) rest)
    ∙ ap (λ (xs : List Event). xs ++ rest) (sym (take_more es k d lt))

-- the kind at a place is the record's
pub found : (i : ℕ) (r : StepRecord) (es : List Event) (k : ℕ) (d : Event) → k < length es → same_kind r.kind (get_or es k d).kind ≡ true
    → events_after_record i r es ≡ take k es ++ events_after_record i r (drop k es) → slice_set es k (once_more (get_or es k d)) ≡ events_after_record i r es
found i r es k d lt same so_far =
    let x = get_or es k d in
    let new = slice_set es k (once_more x) in
    sym (take-append-drop k new)
    ∙ ap (λ (xs : List Event). xs ++ drop k new) (take-set es k (once_more x))
    ∙ ap (λ (xs : List Event). take k es ++ xs) (drop-set es k (once_more x) lt)
    ∙ ap (λ (xs : List Event). take k es ++ xs) (sym (noted_here i r x (drop (k + 1) es) same))
    ∙ ap (λ (xs : List Event). take k es ++ events_after_record i r xs) (sym (drop_more es k d lt))
    ∙ sym so_far

-- no kind is the record's
pub none_found : (i : ℕ) (r : StepRecord) (es : List Event) (k : ℕ) → length es ≤ k → events_after_record i r es ≡ take k es ++ events_after_record i r (drop k es)
    → es ++ first_event i r ∷ [] ≡ events_after_record i r es
none_found i r es k le so_far =
    ap (λ (xs : List Event). xs ++ first_event i r ∷ []) (sym (take_all k es le))
    ∙ ap (λ (xs : List Event). take k es ++ events_after_record i r xs) (sym (drop_all k es le))
    ∙ sym so_far

-- a record is the next of a list
pub record Next (xs : List StepRecord) (k : ℕ) (r : StepRecord) : Type 0 where
  pub inside : k < length xs
  pub more : take (k + 1) xs ≡ take k xs ++ r ∷ []

pub next_of : (xs : List StepRecord) (k : ℕ) (r : StepRecord) → ◌≡◌ {A = Option StepRecord} (Some r) (first_of (drop k xs)) → Next xs k r
next_of xs k r first =
    let here : slice_get xs k ≡ Some r = sym (first_left k xs) ∙ sym first in
    elim ((slice_get_cases xs k).1) [
      | inl (x, lt, is, got) ↦
          let both : ◌≡◌ {A = Option StepRecord} (Some x) (Some r) = sym is ∙ here in
          let same : x ≡ r = cc in
          record { inside = lt; more = take_more xs k x lt ∙ ap (λ (y : StepRecord). take k xs ++ y ∷ []) (got ∙ same) }
      | inr (le, none) ↦ absurd (let no : ◌≡◌ {A = Option StepRecord} None (Some r) = sym none ∙ here in cc)
    ]

pub counted_on : (xs : List StepRecord) (k : ℕ) (r : StepRecord) → Next xs k r → events_in (take (k + 1) xs) ≡ events_after_record k r (events_in (take k xs))
counted_on xs k r next =
    let long : length (take k xs) ≡ k = omega (arith, length-take k xs, next.inside) in
    ap events_in next.more ∙ one_noted 0 k (take k xs) r (omega (arith, long))

pub room_at : (xs : List StepRecord) (k n : ℕ) → k < n → HasRoom n (events_in (take k xs))
room_at xs k n lt = has_room n (take k xs) (omega (arith, length-take k xs, lt))

-- one of them
pub room_of : (n : ℕ) (es : List Event) (k : ℕ) (d : Event) → HasRoom n es → k < length es → (get_or es k d).times < n
room_of n [] k d h lt = absurd (omega (arith, lt))
room_of n (e ∷ es) zero d h lt = h.0
room_of n (e ∷ es) (suc k) d h lt = room_of n es k d h.1 (omega (arith, lt))

same_element : {A : Type 0} (xs : List A) (k : ℕ) (d e : A) → k < length xs → get_or xs k d ≡ get_or xs k e
same_element [] k d e lt = absurd (omega (arith, lt))
same_element (x ∷ xs) zero d e lt = refl
same_element (x ∷ xs) (suc k) d e lt = same_element xs k d e (omega (arith, lt))

-- the element at a place, read once to test its kind and once to change it
pub found_there : (i : ℕ) (r : StepRecord) (es now : List Event) (k : ℕ) (x y : Event) → now ≡ es → k < length now → x ≡ get_or now k x → y ≡ get_or now k y
    → same_kind r.kind x.kind ≡ true → events_after_record i r es ≡ take k es ++ events_after_record i r (drop k es) → slice_set now k (once_more y) ≡ events_after_record i r es
found_there i r es now k x y same lt x_is y_is test so_far =
    let F : List Event → Type 0 = λ l. k < length l in
    let inside : k < length es = subst F same lt in
    let one : x ≡ y = x_is ∙ same_element now k x y lt ∙ sym y_is in
    let read : y ≡ get_or es k y = y_is ∙ ap (λ (l : List Event). get_or l k y) same in
    let tested : same_kind r.kind (get_or es k y).kind ≡ true = ap (λ (e : Event). same_kind r.kind e.kind) (sym read) ∙ ap (λ (e : Event). same_kind r.kind e.kind) (sym one) ∙ test in
    ap (λ (l : List Event). slice_set l k (once_more y)) same
    ∙ ap (λ (e : Event). slice_set es k (once_more e)) read
    ∙ found i r es k y inside tested so_far

pub room_there : (n : ℕ) (es now : List Event) (k : ℕ) (y : Event) → HasRoom n es → now ≡ es → k < length now → y ≡ get_or now k y → y.times < n
room_there n es now k y h same lt is =
    let F : List Event → Type 0 = λ l. HasRoom n l in
    let G : Event → Type 0 = λ e. e.times < n in
    subst G (sym is) (room_of n now k y (subst F (sym same) h) lt)

-- no record is the next
pub none_next : (xs : List StepRecord) (k : ℕ) → ◌≡◌ {A = Option StepRecord} None (first_of (drop k xs)) → length xs ≤ k
none_next [] k none = omega arith
none_next (x ∷ xs) zero none = absurd cc
none_next (x ∷ xs) (suc k) none = let le : length xs ≤ k = none_next xs k none in omega (arith, le)
