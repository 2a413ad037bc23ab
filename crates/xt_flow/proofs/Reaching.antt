-- The walk from where control can come in: what holds of its tables at each step.
use Rattle.std.proofs.Common.{◌≡◌, ℕ, ◌+◌, ◌*◌, ◌%◌, ◌^◌, ◌<◌, ◌≤◌, Bool, true, false, List, [], ◌∷◌, ◌++◌, length, Option, Some, None, ◌⊎◌, inl, inr, ⊎_elim, refl, sym, ap, subst, ◌∙◌, length-append, arith}
use Rattle.std.specs.Prelude.{All, Contains, is_some, not, option_to_list, if◌then◌else◌}
use Rattle.std.specs.Option.{option_map_or}
use Rattle.std.proofs.lemmas.Bool.{and_parts, and_cases, lt-ltb, ltb-true, not-false, not-true}
use Rattle.std.proofs.lemmas.List.Elements.{Contains-append_cases, Contains-append_left, Contains-append_right, Contains-push, Contains-push_cases}
use Rattle.std.proofs.lemmas.List.{length_push}
use Rattle.xt_map.specs.declared.segment.Segment.{Segment}
use Rattle.xt_map.specs.Placing.{is_well_placed}
use Rattle.xt_names.specs.InsnParts.{parts_of}
use Rattle.xt_image.specs.declared.image.Image.{Image}
use Rattle.xt_flow.specs.Following.{aims_at, behind, code_from, ends_flow, goes_to, insn_at, length_at, literal_at}
use Rattle.xt_flow.specs.FlowTables.{IsVisited, first_place, is_in_code, is_marked, is_new, pending_after, reads_after, starts_after, table_size, no_marks, with_mark, with_word}
use Rattle.xt_flow.specs.Starts.{Follows, HoldsInsn, IsRead, Opens, Starts, openings}
use Rattle.xt_flow.proofs.Placed.{code_within, insn_within}
use Rattle.xt_flow.proofs.Tables.{count_free, count_free-with_mark, length-unmarked, length-with_mark, marked_kept, marked_other, marked_same, none_marked}

-- an address is marked, or waits to be visited
abbrev pub IsMet : List Bool → List ℕ → ℕ → Type 0
IsMet starts pending a = (is_marked starts a ≡ true) ⊎ Contains pending a

-- what the tables and the pending addresses say, at each step
pub record Going (image : Image) (vecbase entry1 : ℕ) (roots : List ℕ) (starts reads : List Bool) (pending : List ℕ) : Type 0 where
  pub starts_size : length starts ≡ table_size
  pub reads_size : length reads ≡ table_size
  pub sound : (a : ℕ) → is_marked starts a ≡ true → Starts image vecbase entry1 roots a
  pub waiting : (a : ℕ) → Contains pending a → HoldsInsn image a → Starts image vecbase entry1 roots a
  pub opened : (a : ℕ) → Contains (openings image.entry entry1 vecbase roots) a → HoldsInsn image a → IsMet starts pending a
  pub closed : (a b : ℕ) → is_marked starts a ≡ true → Contains (goes_to image.segments a) b → HoldsInsn image b → IsMet starts pending b
  pub read_sound : (w : ℕ) → is_marked reads w ≡ true → IsRead image vecbase entry1 roots w
  pub read_whole : (a w : ℕ) → is_marked starts a ≡ true → literal_at image.segments a ≡ Some w → is_in_code image.segments w ≡ true → is_marked reads w ≡ true

-- ---- to begin with

unmarked_not : {P : Type 0} (n a : ℕ) → is_marked (no_marks n) a ≡ true → P
unmarked_not n a h = let none : is_marked (no_marks n) a ≡ false = none_marked n a in absurd cc

pub begins : (image : Image) (vecbase entry1 : ℕ) (roots : List ℕ) → Going image vecbase entry1 roots (no_marks table_size) (no_marks table_size) (openings image.entry entry1 vecbase roots)
begins image vecbase entry1 roots = record {
  starts_size = length-unmarked table_size;
  reads_size = length-unmarked table_size;
  sound = λ a h. unmarked_not table_size a h;
  waiting = λ a here holds. Opens a here holds;
  opened = λ a here holds. inr here;
  closed = λ a b h here holds. unmarked_not table_size a h;
  read_sound = λ w h. unmarked_not table_size w h;
  read_whole = λ a w h is code. unmarked_not table_size a h;
}

-- ---- at the end

no_member : {P : Type 0} (a : ℕ) → Contains {X = ℕ} [] a → P
no_member a h = let none : h.0 < 0 = h.1 in absurd (omega arith)

met_all : (starts : List Bool) (a : ℕ) → IsMet starts [] a → is_marked starts a ≡ true
met_all starts a met = ⊎_elim (λ (h : is_marked starts a ≡ true). h) (λ (h : Contains {X = ℕ} [] a). no_member a h) met

whole : (image : Image) (vecbase entry1 : ℕ) (roots : List ℕ) (starts reads : List Bool) → Going image vecbase entry1 roots starts reads [] → (a : ℕ) → Starts image vecbase entry1 roots a → is_marked starts a ≡ true
whole image vecbase entry1 roots starts reads going x (Opens a here holds) = met_all starts a (going.opened a here holds)
whole image vecbase entry1 roots starts reads going x (Follows a b from here holds) = met_all starts b (going.closed a b (whole image vecbase entry1 roots starts reads going a from) here holds)

pub ends : (image : Image) (vecbase entry1 : ℕ) (roots : List ℕ) (starts reads : List Bool) → Going image vecbase entry1 roots starts reads [] → IsVisited image vecbase entry1 roots starts reads
ends image vecbase entry1 roots starts reads going = record {
  started = λ a. (going.sound a, whole image vecbase entry1 roots starts reads going a);
  read = λ w. (going.read_sound w, λ r. going.read_whole r.reader.0 w (whole image vecbase entry1 roots starts reads going r.reader.0 r.reader.1.0) r.reader.1.1 (lt-ltb 0 (length (code_from image.segments w)) r.code));
}

-- ---- a visit that changes nothing

-- what is not new is marked, or no instruction
old_marked : (segments : List Segment) (starts : List Bool) (a : ℕ) → is_new segments starts a ≡ false → is_some (insn_at segments a) ≡ true → is_marked starts a ≡ true
old_marked segments starts a old holds =
    ⊎_elim
    (λ (h : not (is_marked starts a) ≡ false). not-false (is_marked starts a) h)
    (λ (h : is_some (insn_at segments a) ≡ false). absurd (let e : true ≡ false = sym holds ∙ h in cc))
    (and_cases (not (is_marked starts a)) (is_some (insn_at segments a)) old)

met_still : (segments : List Segment) (starts : List Bool) (pending : List ℕ) (a x : ℕ) → is_new segments starts a ≡ false → is_some (insn_at segments x) ≡ true → IsMet starts (pending ++ a ∷ []) x → IsMet starts pending x
met_still segments starts pending a x old holds met =
    ⊎_elim
    (λ (h : is_marked starts x ≡ true). inl h)
    (λ (h : Contains (pending ++ a ∷ []) x).
    ⊎_elim
    (λ (here : Contains pending x). inr here)
    (λ (e : a ≡ x). inl (old_marked segments starts x (ap (is_new segments starts) (sym e) ∙ old) holds))
    (Contains-push_cases pending a x h))
    met

pub nothing_new : (image : Image) (vecbase entry1 : ℕ) (roots : List ℕ) (starts reads : List Bool) (pending : List ℕ) (a : ℕ) → is_new image.segments starts a ≡ false
    → Going image vecbase entry1 roots starts reads (pending ++ a ∷ []) → Going image vecbase entry1 roots starts reads pending
nothing_new image vecbase entry1 roots starts reads pending a old going = record {
  starts_size = going.starts_size;
  reads_size = going.reads_size;
  sound = going.sound;
  waiting = λ x here holds. going.waiting x (Contains-append_left pending (a ∷ []) x here) holds;
  opened = λ x here holds. met_still image.segments starts pending a x old holds (going.opened x here holds);
  closed = λ x y h here holds. met_still image.segments starts pending a y old holds (going.closed x y h here holds);
  read_sound = going.read_sound;
  read_whole = going.read_whole;
}

-- ---- a visit that marks an address

met_now : (starts : List Bool) (pending more : List ℕ) (a x : ℕ) → is_marked (with_mark starts a) a ≡ true → IsMet starts (pending ++ a ∷ []) x → IsMet (with_mark starts a) (pending ++ more) x
met_now starts pending more a x same met =
    ⊎_elim
    (λ (h : is_marked starts x ≡ true). inl (marked_kept starts a x h))
    (λ (h : Contains (pending ++ a ∷ []) x).
    ⊎_elim
    (λ (here : Contains pending x). inr (Contains-append_left pending more x here))
    (λ (e : a ≡ x). inl (ap (is_marked (with_mark starts a)) (sym e) ∙ same))
    (Contains-push_cases pending a x h))
    met

-- the table of what is read, with what the instruction at an address reads
module _ (image : Image) (vecbase entry1 : ℕ) (roots : List ℕ) (a : ℕ) (reads : List Bool) where
  words_size : (word : Option ℕ) → length (with_word image.segments reads word) ≡ length reads
  words_size None = refl
  words_size (Some w) = elim (is_in_code image.segments w) as (λ b. length (if b then with_mark reads w else reads) ≡ length reads) [ true ↦ length-with_mark reads w | false ↦ refl ]

  words_kept : (word : Option ℕ) (x : ℕ) → is_marked reads x ≡ true → is_marked (with_word image.segments reads word) x ≡ true
  words_kept None x h = h
  words_kept (Some w) x h = elim (is_in_code image.segments w) as (λ b. is_marked (if b then with_mark reads w else reads) x ≡ true) [ true ↦ marked_kept reads w x h | false ↦ h ]

  words_sound : (word : Option ℕ) → Starts image vecbase entry1 roots a → literal_at image.segments a ≡ word → ((x : ℕ) → is_marked reads x ≡ true → IsRead image vecbase entry1 roots x)
      → (x : ℕ) → is_marked (with_word image.segments reads word) x ≡ true → IsRead image vecbase entry1 roots x
  words_sound None start is before x = before x
  words_sound (Some w) start is before x =
      elim (is_in_code image.segments w) as (λ b. is_in_code image.segments w ≡ b → is_marked (if b then with_mark reads w else reads) x ≡ true → IsRead image vecbase entry1 roots x) [
        | true ↦ λ code h.
            ⊎_elim
            (λ (e : x ≡ w). record {
              reader = (a, (start, is ∙ ap Some (sym e)));
              code = subst (λ y. 0 < length (code_from image.segments y)) (sym e) (ltb-true 0 (length (code_from image.segments w)) code);
            })
            (λ (k : is_marked reads x ≡ true). before x k)
            (marked_other reads w x h)
        | false ↦ λ code h. before x h
      ] refl

  words_whole : (word : Option ℕ) (w : ℕ) → length reads ≡ table_size → ((x : ℕ) → 0 < length (code_from image.segments x) → (first_place ≤ x) × (x < first_place + table_size))
      → word ≡ Some w → is_in_code image.segments w ≡ true → is_marked (with_word image.segments reads word) w ≡ true
  words_whole None w size within is code = absurd cc
  words_whole (Some v) w size within is code =
      let same : v ≡ w = cc in
      let inside = within w (ltb-true 0 (length (code_from image.segments w)) code) in
      let low = inside.0 in
      let high = inside.1 in
      let marked : is_marked (with_mark reads w) w ≡ true = marked_same reads w low (omega arith) in
      subst (λ y. is_marked (if is_in_code image.segments y then with_mark reads y else reads) w ≡ true) (sym same) (rw code marked)

pub one_more : (image : Image) (vecbase entry1 : ℕ) (roots : List ℕ) (starts reads : List Bool) (pending : List ℕ) (a : ℕ) → All (λ s. is_well_placed s ≡ true) image.segments → HoldsInsn image a
    → Going image vecbase entry1 roots starts reads (pending ++ a ∷ [])
    → Going image vecbase entry1 roots (with_mark starts a) (with_word image.segments reads (literal_at image.segments a)) (pending ++ goes_to image.segments a)
one_more image vecbase entry1 roots starts reads pending a placed holds going =
    let inside = insn_within image.segments placed a holds in
    let low = inside.0 in
    let high = inside.1 in
    let size = going.starts_size in
    let same : is_marked (with_mark starts a) a ≡ true = marked_same starts a low (omega arith) in
    let start : Starts image vecbase entry1 roots a = going.waiting a (Contains-push pending a) holds in
    record {
      starts_size = length-with_mark starts a ∙ going.starts_size;
      reads_size = words_size image vecbase entry1 roots a reads (literal_at image.segments a) ∙ going.reads_size;
      sound = λ x h. ⊎_elim (λ (e : x ≡ a). subst (Starts image vecbase entry1 roots) (sym e) start) (λ (k : is_marked starts x ≡ true). going.sound x k) (marked_other starts a x h);
      waiting = λ x here there.
          ⊎_elim
          (λ (h : Contains pending x). going.waiting x (Contains-append_left pending (a ∷ []) x h) there)
          (λ (h : Contains (goes_to image.segments a) x). Follows a x start h there)
          (Contains-append_cases pending (goes_to image.segments a) x here);
      opened = λ x here there. met_now starts pending (goes_to image.segments a) a x same (going.opened x here there);
      closed = λ x y h here there.
          ⊎_elim
          (λ (e : x ≡ a). inr (Contains-append_right pending (goes_to image.segments a) y (subst (λ z. Contains (goes_to image.segments z) y) e here)))
          (λ (k : is_marked starts x ≡ true). met_now starts pending (goes_to image.segments a) a y same (going.closed x y k here there))
          (marked_other starts a x h);
      read_sound = words_sound image vecbase entry1 roots a reads (literal_at image.segments a) start refl going.read_sound;
      read_whole = λ x w h is code.
          ⊎_elim
          (λ (e : x ≡ a). words_whole image vecbase entry1 roots a reads (literal_at image.segments a) w going.reads_size (code_within image.segments placed) (ap (literal_at image.segments) (sym e) ∙ is) code)
          (λ (k : is_marked starts x ≡ true). words_kept image vecbase entry1 roots a reads (literal_at image.segments a) w (going.read_whole x w k is code))
          (marked_other starts a x h);
    }

-- ---- a visit

-- the tables and the pending addresses after a visit of the last pending address
pub goes_on : (image : Image) (vecbase entry1 : ℕ) (roots : List ℕ) (starts reads : List Bool) (pending : List ℕ) (a : ℕ) → All (λ s. is_well_placed s ≡ true) image.segments
    → Going image vecbase entry1 roots starts reads (pending ++ a ∷ [])
    → Going image vecbase entry1 roots (starts_after image.segments starts a) (reads_after image.segments starts reads a) (pending_after image.segments starts pending a)
goes_on image vecbase entry1 roots starts reads pending a placed going =
    elim (is_new image.segments starts a) as (λ b. is_new image.segments starts a ≡ b →
    Going image vecbase entry1 roots (if b then with_mark starts a else starts) (if b then with_word image.segments reads (literal_at image.segments a) else reads) (if b then pending ++ goes_to image.segments a else pending)) [
      | true ↦ λ new. one_more image vecbase entry1 roots starts reads pending a placed (and_parts (not (is_marked starts a)) (is_some (insn_at image.segments a)) new).1 going
      | false ↦ λ old. nothing_new image vecbase entry1 roots starts reads pending a old going
    ] refl

-- ---- the walk ends

-- an instruction goes to two addresses at most
few_targets : (i : Option ℕ) → length (option_to_list i) ≤ 1
few_targets None = omega arith
few_targets (Some t) = omega arith

few_behind : (b : Bool) (x : ℕ) → length (if b then [] else x ∷ []) ≤ 1
few_behind true x = omega arith
few_behind false x = omega arith

two_at_most : (segments : List Segment) (a : ℕ) → length (goes_to segments a) ≤ 2
two_at_most segments a =
    let next = (a + length_at segments a) % 2 ^ 32 in
    elim (insn_at segments a) as (λ o. length (option_map_or (λ i. behind (parts_of i) a (length_at segments a) ++ option_to_list (aims_at segments (parts_of i) a next)) o []) ≤ 2) [
      | None ↦ omega arith
      | Some i ↦
          let one = few_behind (ends_flow (parts_of i)) next in
          let two = few_targets (aims_at segments (parts_of i) a next) in
          omega (arith, length-append (behind (parts_of i) a (length_at segments a)) (option_to_list (aims_at segments (parts_of i) a next)))
    ]

-- what is left to do: three for each address without a mark, and the pending ones
abbrev pub left : List Bool → List ℕ → ℕ
left starts pending = 3 * count_free starts + length pending

pub less_left : (image : Image) (vecbase entry1 : ℕ) (roots : List ℕ) (starts reads : List Bool) (pending : List ℕ) (a : ℕ) → All (λ s. is_well_placed s ≡ true) image.segments
    → Going image vecbase entry1 roots starts reads (pending ++ a ∷ [])
    → left (starts_after image.segments starts a) (pending_after image.segments starts pending a) < left starts (pending ++ a ∷ [])
less_left image vecbase entry1 roots starts reads pending a placed going =
    let one_pending = length_push pending a in
    elim (is_new image.segments starts a) as (λ b. is_new image.segments starts a ≡ b →
    left (if b then with_mark starts a else starts) (if b then pending ++ goes_to image.segments a else pending) < left starts (pending ++ a ∷ [])) [
      | true ↦ λ new.
          let parts = and_parts (not (is_marked starts a)) (is_some (insn_at image.segments a)) new in
          let inside = insn_within image.segments placed a parts.1 in
          let low = inside.0 in
          let high = inside.1 in
          let size = going.starts_size in
          let counts = count_free-with_mark starts a low (omega arith) (not-true (is_marked starts a) parts.0) in
          let few = two_at_most image.segments a in
          let len = length-append pending (goes_to image.segments a) in
          omega arith
      | false ↦ λ old. omega arith
    ] refl
