-- The marks as both cores open.
use Rattle.std.proofs.Common.{◌≡◌, ℕ, zero, suc, ◌+◌, ◌-◌, ◌<◌, ◌≤◌, ◌^◌, Bool, true, false, not, ◌||◌, ◌&&◌, leb, ltb, cond, List, [], length, get_or, replicate, refl, sym, ◌∙◌, ap, subst, arith}
use Rattle.std.proofs.lemmas.List.{length-replicate}
use Rattle.std.proofs.lemmas.Bool.{and_parts, leb-true, ltb-true}
use Rattle.xt_map.specs.Touching.{touches}
use Rattle.xt_trace.specs.declared.options.Options.{Options}
use Rattle.xt_trace.specs.declared.options.Stack.{Stack}
use Rattle.xt_trace.specs.Validity.{IsValid, IsValidStack}
use Rattle.xt_frames.specs.Stacks.{IsRange}
use Rattle.xt_frames.specs.Walked.{stack_of}
use Rattle.xt_frames.specs.Frames.{Frame, FrameState, value_or_zero}
use Rattle.xt_frames.specs.SaveAreas.{areas, covers_byte, is_live}
use Rattle.xt_discipline.specs.declared.bytes.Held.{Held}
use Rattle.xt_discipline.specs.declared.bytes.Change.TheVariants.{Enters}
use Rattle.xt_discipline.specs.ByteMarks.{AreOpened, IsChanged, IsEnd, first, held_at, is_marked, nothing, other_live, own_live}
use Rattle.xt_discipline.proofs.Known.{all_changed, enters_other, enters_own, enters_stale}
use Rattle.xt_discipline.proofs.Marks.{touches_none}
use Rattle.xt_discipline.proofs.Moved.{in_marks}

-- the word lies among the marks
word_marked : (marks : List Held) (hi a : ℕ) → length marks ≡ 0x52000 → first + 256 ≤ hi → hi ≤ 2 ^ 30 → touches (hi - 76) 4 a ≡ true → is_marked marks a ≡ true
word_marked marks hi a len low high t =
    let p = and_parts (leb (hi - 76) a) (ltb a (hi - 76 + 4)) t in
    let l = leb-true (hi - 76) a p.0 in
    let u = ltb-true a (hi - 76 + 4) p.1 in
    let from : first ≤ a = omega arith in
    let to : a < 2 ^ 30 = omega arith in
    ap (λ (n : ℕ). leb first a && ltb a (first + n)) len ∙ in_marks a from to

or_false : (b : Bool) → (b || false) ≡ b
or_false true = refl
or_false false = refl

none_stale : (b : Bool) → (not b && false) ≡ false
none_stale true = refl
none_stale false = refl

pub are_opened : (marks mid new : List Held) (hi0 hi1 : ℕ) → ((a : ℕ) → held_at marks a ≡ nothing) → length marks ≡ 0x52000 → length mid ≡ 0x52000
    → IsEnd hi0 → IsEnd hi1
    → IsChanged (Enters 0) (hi0 - 76) 4 marks mid → IsChanged (Enters 1) (hi1 - 76) 4 mid new → AreOpened new hi0 hi1
are_opened marks mid new hi0 hi1 none len len' e0 e1 c d =
    let t : ℕ → Bool = λ a. touches (hi0 - 76) 4 a in
    let u : ℕ → Bool = λ a. touches (hi1 - 76) 4 a in
    let x = all_changed (Enters 0) t marks mid c (λ a h. word_marked marks hi0 a len e0.0 e0.1 h) in
    let y = all_changed (Enters 1) u mid new d (λ a h. word_marked mid hi1 a len' e1.0 e1.1 h) in
    let own : (a : ℕ) → own_live 0 (held_at mid a) ≡ t a = λ a.
    ap (own_live 0) (x a) ∙ (enters_own 0 (t a) (held_at marks a) ∙ (ap (λ (h : Held). t a || own_live 0 h) (none a) ∙ or_false (t a))) in
    let other : (a : ℕ) → other_live 0 (held_at mid a) ≡ false = λ a.
    ap (other_live 0) (x a) ∙ (enters_other 0 (t a) (held_at marks a) ∙ ap (other_live 0) (none a)) in
    let stale : (a : ℕ) → (held_at mid a).stale ≡ false = λ a.
    ap (λ (h : Held). h.stale) (x a) ∙ (enters_stale 0 (t a) (held_at marks a) ∙ (ap (λ (h : Held). not (t a) && h.stale) (none a) ∙ none_stale (t a))) in
    record {
      own_is = λ a. ap (other_live 1) (y a) ∙ (enters_other 1 (u a) (held_at mid a) ∙ own a);
      others_is = λ a. ap (own_live 1) (y a) ∙ (enters_own 1 (u a) (held_at mid a) ∙ (ap (λ (b : Bool). u a || b) (other a) ∙ or_false (u a)));
      stale_is = λ a. ap (λ (h : Held). h.stale) (y a) ∙ (enters_stale 1 (u a) (held_at mid a) ∙ (ap (λ (b : Bool). not (u a) && b) (stale a) ∙ none_stale (u a)));
      fresh = λ a e. refl;
    }

-- the live bytes of a frame that nobody called
pub live_opened : (lo hi a : ℕ) (f : FrameState) → f.frames ≡ [] → is_live (record { lo = lo; hi = hi }) f a ≡ touches (hi - 76) 4 a
live_opened lo hi a f none =
    subst (λ (fs : List Frame). covers_byte (areas hi (value_or_zero f.seen 1) 1 fs) a ≡ touches (hi - 76) 4 a) (sym none)
    (ap (λ (b : Bool). touches (hi - 76) 4 a || (b || false)) (touches_none (hi - 16) a) ∙ or_false (touches (hi - 76) 4 a))

-- ---- marks of which nothing is known
none_at : (n i : ℕ) → get_or (replicate n nothing) i nothing ≡ nothing
none_at zero i = refl
none_at (suc n) zero = refl
none_at (suc n) (suc i) = none_at n i

same_either : (b : Bool) (x y : Held) → x ≡ y → cond b x y ≡ y
same_either true x y e = e
same_either false x y e = refl

pub none_held : (marks : List Held) (n : ℕ) → marks ≡ replicate n nothing → (a : ℕ) → held_at marks a ≡ nothing
none_held marks n e a =
    same_either (is_marked marks a) (get_or marks (a - first) nothing) nothing (ap (λ (l : List Held). get_or l (a - first) nothing) e ∙ none_at n (a - first))

-- ---- the stacks of valid options
pub range_valid : (s : Stack) → IsValidStack s → IsRange s.lo s.hi
range_valid s v =
    let size = v.size in
    let high = v.high in
    record { low = v.lo_aligned; high = v.hi_aligned; room = size; top = omega (arith, high) }

pub stack_valid : (core : ℕ) (o : Options) → IsValid o → IsValidStack (stack_of core o)
stack_valid zero o v = v.stack0
stack_valid (suc core) o v = v.stack1

pub range_of_core : (core : ℕ) (o : Options) → IsValid o → IsRange (stack_of core o).lo (stack_of core o).hi
range_of_core core o v = range_valid (stack_of core o) (stack_valid core o v)

pub end_of : (s : Stack) → IsValidStack s → IsEnd s.hi
end_of s v =
    let size = v.size in
    let low = v.low in
    let high = v.high in
    (omega (arith, size, low), omega (arith, high))

pub len_back : (new now items : List Held) (n len : ℕ) → length new ≡ n → now ≡ items → items ≡ replicate n nothing → length now ≡ len → length new ≡ len
len_back new now items n len e is made l = e ∙ (sym (ap (λ (xs : List Held). length xs) (is ∙ made) ∙ length-replicate n nothing) ∙ l)
