-- The tests of a step over two records that differ in OWB alone show the same breach.
use Rattle.std.proofs.Common.{◌≡◌, ℕ, ◌||◌, not, ltb, eqb, Bool, List, [], ◌∷◌, Option, Some, None, sym, ap, ◌∙◌, refl, cond}
use Rattle.xt_isa.specs.declared.Insn.{Insn}
use Rattle.xt_isa.specs.declared.Insn.TheVariants as insn
use Rattle.xt_isa.specs.declared.shift.Shift.TheVariants as shift
use Rattle.xt_isa.specs.declared.control.Control.TheVariants as control
use Rattle.xt_special.specs.declared.ps.Ps.{Ps}
use Rattle.xt_special.specs.Interrupts.{pending_level, pending_of}
use Rattle.xt_trace.specs.declared.record.RegWrite.{RegWrite}
use Rattle.xt_trace.specs.declared.record.StepKind.{StepKind}
use Rattle.xt_trace.specs.declared.record.StepRecord.{StepRecord}
use Rattle.xt_map.specs.Fetching.{Fetched, Fetches, Fails, SpellsNothing, fetch_at}
use Rattle.xt_rows.specs.Operands.{reads}
use Rattle.xt_frames.specs.declared.holes.Nested.{Nested}
use Rattle.xt_frames.specs.Frames.{FrameState}
use Rattle.xt_frames.specs.FrameStep.{FrameTurn, step_with_inputs}
use Rattle.xt_frames.specs.SaveAreas.{Range}
use Rattle.xt_frames.specs.Breaches.{Bounds, breaks_nested, first_shown, is_sp, leaves_range, misaligns_sp, moves_vectors, opens_nothing, other_frame_size, vector_test}
use Rattle.xt_uses.specs.UseBreaches.{breaks_stack, fetched_uses, laid_use, uses_unknown}
use Rattle.xt_uses.specs.UseState.{UseState}
use Rattle.xt_simulation.proofs.OwbSteps.{Alike, SeenNear, Shown, StepsNear, told}
use Rattle.xt_uses.specs.UseStep.{step_insn}
use Rattle.xt_simulation.proofs.OwbUses.{visible_same}

module _ (w : ℕ) (h : FrameState) where
  breaks_same : (r : Range) (i : Insn) (kind : StepKind) → breaks_stack r i kind h ≡ breaks_stack r i kind (told w h)
  unfolding breaks_stack
  breaks_same r (insn.Shift (shift.Movsp t s)) kind = refl
  breaks_same r _ kind = refl

  size_same : (r : Range) (i : Insn) → other_frame_size r i h ≡ other_frame_size r i (told w h)
  unfolding other_frame_size
  size_same r (insn.Control (control.Entry n size)) = refl
  size_same r _ = refl

  range_same : (r : Range) (i : Insn) → leaves_range r i h ≡ leaves_range r i (told w h)
  unfolding leaves_range
  range_same r (insn.Control (control.Entry n size)) = refl
  range_same r _ = refl

  align_same : (i : Insn) → misaligns_sp i h ≡ misaligns_sp i (told w h)
  unfolding misaligns_sp
  align_same (insn.Control (control.Entry n size)) = refl
  align_same _ = refl

  opens_same : (i : Insn) → opens_nothing i h ≡ opens_nothing i (told w h)
  unfolding opens_nothing
  opens_same (insn.Control (control.Entry n size)) = refl
  opens_same _ = refl

sp_same : (m : ℕ) (o : Option Insn) (a b : Option RegWrite) (xs ys : List (Option ℕ)) → SeenNear m o a b xs ys → is_sp a ≡ is_sp b
sp_same m o a b xs ys (Alike e f) = ap is_sp e
sp_same m o a b xs ys (Shown i n v w old is e f g h l) = ap is_sp e ∙ sym (ap is_sp f)

woe_same : {n : Option Nested} {m : ℕ} {at : Fetched} {u v : FrameTurn} → StepsNear n m at u v → not u.after.control.ps.woe ≡ not v.after.control.ps.woe
woe_same n = ap (λ (p : Ps). not p.woe) (n.control.even 0).ps

vectors_same : {n : Option Nested} {m : ℕ} {at : Fetched} {u v : FrameTurn} (b : Bounds) → StepsNear n m at u v → moves_vectors b u ≡ moves_vectors b v
vectors_same b n = ap (λ z. not (eqb z b.vecbase)) ((n.control.even 0).special.at 231 refl)

nested_same : {n : Option Nested} {m : ℕ} {at : Fetched} {u v : FrameTurn} (o : Option Nested) (i : Insn) → StepsNear n m at u v → breaks_nested o i u ≡ breaks_nested o i v
nested_same None i n = refl
nested_same {u = u} (Some x) i n = ap (λ k. breaks_nested (Some x) i (record u { kind = k })) n.kind

module _ (b : Bounds) (fresh : Bool) (live : ℕ → Bool) (kb : ℕ → ℕ) (rec : StepRecord) (w o : ℕ) (s : UseState) (h : FrameState) where
  abbrev rec2 : StepRecord
  rec2 = record rec { owb = o }

  uses_same : (i : Insn) → uses_unknown i s h ≡ uses_unknown i s (told w h)
  uses_same i =
      let x = visible_same s w h (reads i).0 in
      let y = visible_same s w h (reads i).1 in
      rw (x, y) refl

  module _ (u v : FrameTurn) (m : ℕ) (at : Fetched) (n : StepsNear h.nested m at u v) where
    shown_same : (here : Fetched) → first_shown (fetched_uses b fresh live kb here rec s h u) ≡ first_shown (fetched_uses b fresh live kb here rec2 s (told w h) v)
    shown_same (Fetches i len) =
        let a = uses_same i in
        let c = breaks_same w h b.range i rec.kind in
        let d = size_same w h b.range i in
        let e = range_same w h b.range i in
        let f = align_same w h i in
        let g = opens_same w h i in
        let j = sp_same m (step_insn u.kind at) u.write v.write u.after.seen v.after.seen n.seen in
        let k = woe_same n in
        let l = vectors_same b n in
        let p = nested_same h.nested i n in
        rw (a, c, d, e, f, g, j, k, l, p) refl
    shown_same (Fails addr) = let k = woe_same n in let l = vectors_same b n in rw (k, l) refl
    shown_same SpellsNothing = let k = woe_same n in let l = vectors_same b n in rw (k, l) refl

  pub laid_same : (code : ℕ → ℕ) (m : ℕ) → StepsNear h.nested m (fetch_at code h.control.pc) (step_with_inputs code rec.reply h) (step_with_inputs code rec.reply (told w h)) → laid_use b fresh code live kb rec s h ≡ laid_use b fresh code live kb rec2 s (told w h)
  unfolding laid_use pending_level
  laid_same code m n = ap (λ z. cond (ltb 0 (pending_of h.control) || h.control.waits) (first_shown (vector_test b h ∷ [])) z) (shown_same (step_with_inputs code rec.reply h) (step_with_inputs code rec.reply (told w h)) m (fetch_at code h.control.pc) n (fetch_at code h.control.pc))
