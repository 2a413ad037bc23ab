-- Bytes that become stale where a call is gone, one by one and area by area.
use Rattle.std.proofs.Common.{◌≡◌, ℕ, ◌+◌, ◌-◌, ◌<◌, ◌≤◌, ◌^◌, Bool, true, false, not, ◌||◌, ◌&&◌, eqb, Option, Some, None, List, [], ◌∷◌, length, refl, sym, ap, ◌∙◌, subst, arith}
use Rattle.std.proofs.lemmas.Bool.{eqb-true, or_parts, true≢false}
use Rattle.std.proofs.lemmas.Bool.Decides.{nat_tests}
use Rattle.xt_map.specs.declared.access.Access.{Access}
use Rattle.xt_map.specs.Touching.{touches}
use Rattle.xt_frames.specs.Breaches.{stores_at}
use Rattle.xt_frames.specs.Frames.{Frame, FrameState}
use Rattle.xt_frames.specs.Stacks.{Stack}
use Rattle.xt_discipline.specs.declared.side.Areas.{Areas}
use Rattle.xt_discipline.specs.Sides.{IsCallOf, in_areas}
use Rattle.xt_discipline.proofs.Lives.{opened_inside}
use Rattle.xt_discipline.proofs.Marks.{touches_none}
use Rattle.xt_judged.specs.Past.{HasRoom}
use Rattle.xt_judged.specs.Stales.{among, some_stored}
use Rattle.xt_judged.proofs.SeenAs.{and_false, and_true}

-- ---- one byte more of so many

touches_more : (from k a : ℕ) → touches from (k + 1) a ≡ (touches from k a || touches (from + k) 1 a)
touches_more from k a = grind (arith, nat_tests)

touches_one : (from a : ℕ) → touches from 1 a ≡ true → from ≡ a
touches_one from a h = grind (arith, nat_tests)

touches_itself : (a : ℕ) → touches a 1 a ≡ true
touches_itself a = grind (arith, nat_tests)

one_byte : (from a : ℕ) → eqb from a ≡ touches from 1 a
one_byte from a = by_tests (eqb from a) (touches from 1 a) refl refl
  where
    by_tests : (t u : Bool) → eqb from a ≡ t → touches from 1 a ≡ u → t ≡ u
    by_tests true true e f = refl
    by_tests false false e f = refl
    by_tests true false e f = sym (touches_itself from) ∙ (ap (touches from 1) (eqb-true from a e) ∙ f)
    by_tests false true e f = sym e ∙ same (touches_one from a f)
      where
        same : from ≡ a → eqb from a ≡ true
        same p = grind (arith, nat_tests)

-- the byte, whether it was stale, is of those before it, is not live
put_on : (e o t n : Bool) → (e ≡ true → n ≡ true) → (e || (o || (t && n))) ≡ (o || ((t || e) && n))
put_on true true t n h = refl
put_on true false true true h = refl
put_on true false false true h = refl
put_on true false t false h = absurd (true≢false (sym (h refl)))
put_on false o true n h = refl
put_on false o false n h = refl

left_off : (e o t n : Bool) → (e ≡ true → n ≡ false) → (o || (t && n)) ≡ (o || ((t || e) && n))
left_off true o t true h = absurd (true≢false (h refl))
left_off true o true false h = refl
left_off true o false false h = refl
left_off false o true n h = refl
left_off false o false n h = refl

module _ (live : ℕ → Bool) (from k a : ℕ) (old : Bool) where
  abbrev pub gone : ℕ → Bool
  gone n = old || (touches from n a && not (live a))

  more : gone (k + 1) ≡ (old || ((touches from k a || eqb (from + k) a) && not (live a)))
  more = ap (λ (t : Bool). old || (t && not (live a))) (touches_more from k a)
      ∙ ap (λ (t : Bool). old || ((touches from k a || t) && not (live a))) (sym (one_byte (from + k) a))

  at_byte : (b : Bool) → live (from + k) ≡ b → eqb (from + k) a ≡ true → not (live a) ≡ not b
  at_byte b l e = ap (λ (x : ℕ). not (live x)) (sym (eqb-true (from + k) a e)) ∙ ap not l

  one_gone : live (from + k) ≡ false → (eqb (from + k) a || gone k) ≡ gone (k + 1)
  one_gone l = put_on (eqb (from + k) a) old (touches from k a) (not (live a)) (at_byte false l) ∙ sym more

  one_live : live (from + k) ≡ true → gone k ≡ gone (k + 1)
  one_live l = left_off (eqb (from + k) a) old (touches from k a) (not (live a)) (at_byte true l) ∙ sym more

  pub one_on : ((eqb (from + k) a && not (live (from + k))) || gone k) ≡ gone (k + 1)
  one_on = by_live (live (from + k)) refl
    where
      by_live : (b : Bool) → live (from + k) ≡ b → ((eqb (from + k) a && not b) || gone k) ≡ gone (k + 1)
      by_live true l = ap (λ (e : Bool). e || gone k) (and_false (eqb (from + k) a)) ∙ one_live l
      by_live false l = ap (λ (e : Bool). e || gone k) (and_true (eqb (from + k) a)) ∙ one_gone l

-- a live byte is not put there
pub not_put : (e l x : Bool) → l ≡ true → x ≡ ((e && not l) || x)
not_put true true x h = refl
not_put false l x h = refl
not_put true false x h = absurd (true≢false (sym h))

or_none : (b : Bool) → b ≡ (b || false)
or_none true = refl
or_none false = refl

pub none_gone : (live : ℕ → Bool) (from a : ℕ) (old : Bool) → old ≡ (old || (touches from 0 a && not (live a)))
none_gone live from a old = or_none old ∙ ap (λ (t : Bool). old || (t && not (live a))) (sym (touches_none from a))

-- ---- so many bytes at once

run_more : (e o t : Bool) → (e || (o || t)) ≡ (o || (t || e))
run_more true true t = refl
run_more true false true = refl
run_more true false false = refl
run_more false true t = refl
run_more false false true = refl
run_more false false false = refl

pub run_on : (from k a : ℕ) (old : Bool) → (eqb (from + k) a || (old || touches from k a)) ≡ (old || touches from (k + 1) a)
run_on from k a old =
    run_more (eqb (from + k) a) old (touches from k a)
    ∙ sym (ap (λ (t : Bool). old || t) (touches_more from k a ∙ ap (λ (t : Bool). touches from k a || t) (sym (one_byte (from + k) a))))

pub run_none : (from a : ℕ) (old : Bool) → old ≡ (old || touches from 0 a)
run_none from a old = or_none old ∙ ap (λ (t : Bool). old || t) (sym (touches_none from a))

-- ---- both areas

gather : (x t u n : Bool) → ((x || (t && n)) || (u && n)) ≡ (x || ((t || u) && n))
gather true t u n = refl
gather false true true true = refl
gather false true false true = refl
gather false true true false = refl
gather false true false false = refl
gather false false u n = refl

pub no_call : (s w : Bool) → (s && (not w && not false)) ≡ (s && not w)
no_call true true = refl
no_call true false = refl
no_call false w = refl

pub both_gone : (s w t u n : Bool) → (((s && (not w && not false)) || (t && n)) || (u && n)) ≡ ((s && not w) || ((t || u) && n))
both_gone s w t u n = ap (λ (x : Bool). (x || (t && n)) || (u && n)) (no_call s w) ∙ gather (s && not w) t u n

-- no store writes it
unwritten : (s w : Bool) → (s && w) ≡ false → s ≡ (s && not w)
unwritten true true h = absurd (true≢false h)
unwritten true false h = refl
unwritten false w h = refl

stored_none : (xs : List ℕ) (access : Option Access) (a : ℕ) → some_stored xs access ≡ false → (among xs a && stores_at access a) ≡ false
stored_none [] access a h = refl
stored_none (x ∷ xs) access a h =
    let parts = or_parts (stores_at access x) (some_stored xs access) h in
    by_test (eqb x a) refl parts.0 (stored_none xs access a parts.1)
  where
    by_test : (t : Bool) → eqb x a ≡ t → stores_at access x ≡ false → (among xs a && stores_at access a) ≡ false → (among (x ∷ xs) a && stores_at access a) ≡ false
    by_test true e none rest = ap (λ (b : ℕ). among (x ∷ xs) a && stores_at access b) (sym (eqb-true x a e)) ∙ (ap (λ (s : Bool). among (x ∷ xs) a && s) none ∙ and_false (among (x ∷ xs) a))
    by_test false e none rest = ap (λ (t : Bool). (t || among xs a) && stores_at access a) e ∙ rest

-- a store that writes none of the bytes leaves them
pub all_left : (xs : List ℕ) (access : Option Access) (a : ℕ) → some_stored xs access ≡ false → among xs a ≡ (among xs a && not (stores_at access a))
all_left xs access a h = unwritten (among xs a) (stores_at access a) (stored_none xs access a h)

-- ---- the addresses of a call's areas

inside : (from size a : ℕ) → from ≤ a → a < from + size → touches from size a ≡ true
inside from size a l h = grind (arith, nat_tests)

or_right : (x y : Bool) → y ≡ true → (x || y) ≡ true
or_right true y e = refl
or_right false y e = e

pub has_room : (call : Option Areas) (lo hi : ℕ) (f : FrameState) → Stack lo hi f.seen f.frames → IsCallOf call hi f → HasRoom call
has_room None lo hi f k n = tt
has_room (Some x) lo hi f k n = by_frames f.frames refl
  where
    by_frames : (fs : List Frame) → f.frames ≡ fs → HasRoom (Some x)
    by_frames [] e = let none : length f.frames ≡ 0 = ap length e in let some : 0 < length f.frames = n.called in absurd (omega (arith, none, some))
    by_frames (c ∷ fs) e =
        let stack : Stack lo hi f.seen (c ∷ fs) = subst (λ (gs : List Frame). Stack lo hi f.seen gs) e k in
        let top : hi ≤ 2 ^ 30 = stack.range.top in
        let below : (a : ℕ) → in_areas x a ≡ true → a < hi = λ a t. (opened_inside lo hi f.seen c fs a stack (sym (n.bytes c fs e a) ∙ t)).1 in (
          (let last : x.low + 15 < hi = below (x.low + 15) (ap (λ (b : Bool). b || touches x.high x.size (x.low + 15)) (inside x.low 16 (x.low + 15) (omega arith) (omega arith))) in omega (arith, last, top)),
          (λ some.
              let last : x.high + (x.size - 1) < hi = below (x.high + (x.size - 1)) (or_right (touches x.low 16 (x.high + (x.size - 1))) (touches x.high x.size (x.high + (x.size - 1))) (inside x.high x.size (x.high + (x.size - 1)) (omega arith) (omega (arith, some)))) in
              omega (arith, last, top, some)),
        )
