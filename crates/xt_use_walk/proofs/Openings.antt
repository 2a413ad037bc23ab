-- The walk as it begins knows what the definition of the walk knows there.
use Rattle.std.proofs.Common.{◌≡◌, ℕ, ◌-◌, ◌<◌, ◌≤◌, Bool, true, ◌||◌, cond, List, refl, sym, ◌∙◌, ap, subst, arith}
use Rattle.std.proofs.lemmas.Bool.{cond-true, or_left}
use Rattle.xt_map.specs.declared.segment.Segment.{Segment}
use Rattle.xt_map.specs.Regions.{region_of}
use Rattle.xt_map.specs.Touching.{touches}
use Rattle.xt_trace.specs.declared.options.Options.{Options}
use Rattle.xt_trace.specs.declared.options.Stack.{Stack}
use Rattle.xt_trace.specs.Validity.{IsValid, IsValidStack}
use Rattle.xt_frames.specs.Walked.{opening_walked, stack_of}
use Rattle.xt_frames.specs.declared.kinds.HandlerPhase.TheVariants.{Outside}
use Rattle.xt_discipline.specs.ByteMarks.{IsEnd, first}
use Rattle.xt_discipline.proofs.Opens.{live_opened, stack_valid}
use Rattle.xt_frames.specs.Frames.{opening_seen}
use Rattle.xt_uses.specs.declared.discipline.Discipline.{Discipline}
use Rattle.xt_uses.specs.UseState.{one_opens_unknown, opening_use, opens_unknown}
use Rattle.xt_uses.specs.UseParts.{UseWalked, opened_use}
use Rattle.xt_uses.specs.UseWalk.{opening_masks, opening_use_standing}
use Rattle.xt_use_walk.specs.declared.side.Side.{Side}
use Rattle.xt_use_walk.specs.MaskedBytes.{AreBytes, KnowsBytes, is_byte}
use Rattle.xt_use_walk.specs.Sides.{live_in}
use Rattle.xt_use_walk.specs.Walks.{AreOpened, IsKnown, IsOpened, Walk, below_opening}

abbrev pub side_at : ℕ → ℕ → UseWalked → Side
side_at core hi uses = record { core = core; hi = hi; uses = uses; phase = Outside; steps = 0; carried = 0 }

nothing_less : (n : ℕ) → 0 ≤ n
nothing_less n = omega arith

known_opened : (d : Discipline) (core pc hi : ℕ) (o : Options) → IsValid o → hi ≡ (stack_of core o).hi
    → IsKnown (side_at core hi (opened_use d core pc o)) core (opening_walked core pc o).bounds (opening_use_standing d (opening_walked core pc o).state)
known_opened d core pc hi o v e =
    let s = stack_valid core o v in
    record {
      side = record { core_is = refl; end_is = sym e; low = s.low; high = s.high; past = nothing_less 0; counted = nothing_less 0 };
      core_is = refl;
      bounds_are = refl;
      standing_is = refl;
    }

live_at : (d : Discipline) (core pc a : ℕ) (o : Options) → live_in (opened_use d core pc o) a ≡ touches ((stack_of core o).hi - 76) 4 a
live_at d core pc a o = live_opened (stack_of core o).lo (stack_of core o).hi a (opening_walked core pc o).state refl

-- the stack pointer with which a core opens
below_at : (d : Discipline) (core pc a : ℕ) (o : Options) → below_opening d (stack_of core o) a ≡ opens_unknown (opening_walked core pc o).bounds.range (opening_use d (opening_walked core pc o).state) a
unfolding opening_seen
below_at d core pc a o = refl

pub opens : (d : Discipline) (w : Walk) (code : List Segment) (entry : ℕ) (o : Options) → IsValid o → w.code ≡ code
    → w.side0 ≡ side_at 0 o.stack0.hi (opened_use d 0 entry o) → w.side1 ≡ side_at 1 o.stack1.hi (opened_use d 1 o.entry1 o)
    → AreOpened d w.bytes o.stack0 o.stack1 → IsOpened d w code entry o
opens d w code entry o v code_is zero_is one_is k =
    let a = opening_walked 0 entry o in
    let b = opening_walked 1 o.entry1 o in
    let one_side = side_at 0 o.stack0.hi (opened_use d 0 entry o) in
    let other_side = side_at 1 o.stack1.hi (opened_use d 1 o.entry1 o) in
    let masks = opening_masks d a.bounds b.bounds a.state b.state in
    let S0 : Side → Type 0 = λ s. IsKnown s 0 a.bounds (opening_use_standing d a.state) in
    let S1 : Side → Type 0 = λ s. IsKnown s 1 b.bounds (opening_use_standing d b.state) in
    let M : Side → Side → Type 0 = λ s t. KnowsBytes 0 w.bytes (live_in s.uses) (live_in t.uses) masks in
    let T : Side → Type 0 = λ t. M one_side t in
    let unknown : ℕ → Bool = λ x. one_opens_unknown a.bounds.range b.bounds.range (opening_use d a.state) (opening_use d b.state) x in
    let same : (x : ℕ) → cond ((touches (o.stack0.hi - 76) 4 x || touches (o.stack1.hi - 76) 4 x) || (below_opening d o.stack0 x || below_opening d o.stack1 x)) 0 255 ≡ masks x = λ x.
    λ i. cond ((sym (live_at d 0 entry x o) i || sym (live_at d 1 o.entry1 x o) i) || (below_at d 0 entry x o i || below_at d 1 o.entry1 x o i)) 0 255 in
    let bytes : M one_side other_side = record {
      full = k.full;
      live = (let l = k.live in record { own_is = λ x. l.own_is x ∙ sym (live_at d 0 entry x o); others_is = λ x. l.others_is x ∙ sym (live_at d 1 o.entry1 x o) });
      masks_are = λ x e. k.masks_are x e ∙ same x;
      unknown = λ x e. cond-true ((live_in (opened_use d 0 entry o) x || live_in (opened_use d 1 o.entry1 o) x) || unknown x) 0 255 (or_left _ (unknown x) e);
    } in
    let half : M one_side w.side1 = subst T (sym one_is) bytes in
    let all : M w.side0 w.side1 = subst (λ (s : Side). M s w.side1) (sym zero_is) half in
    record {
      code_is = code_is;
      steps0 = ap (λ (s : Side). s.steps) zero_is;
      steps1 = ap (λ (s : Side). s.steps) one_is;
      knows = record {
        zero = subst S0 (sym zero_is) (known_opened d 0 entry o.stack0.hi o v refl);
        one = subst S1 (sym one_is) (known_opened d 1 o.entry1 o.stack1.hi o v refl);
        bytes = all;
      };
    }

-- ---- the bytes
-- the word lies in internal data memory
in_data : (a : ℕ) → first ≤ a → a < 0x40000000 → is_byte a ≡ true
unfolding region_of
in_data a low high = grind (arith)

pub word_bytes : (hi : ℕ) → IsEnd hi → AreBytes (hi - 76) 4
word_bytes hi e a from to =
    let low = e.0 in
    let high = e.1 in
    in_data a (omega (arith, low, from)) (omega (arith, low, high, to))

-- below the stack pointer
pub below_bytes : (s : Stack) → IsValidStack s → AreBytes s.lo (s.hi - 64 - s.lo)
below_bytes s v a from to =
    let size = v.size in
    let low = v.low in
    let high = v.high in
    in_data a (omega (arith, low, from)) (omega (arith, size, high, from, to))
