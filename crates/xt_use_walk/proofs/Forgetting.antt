-- The bytes that a step of the strict discipline forgets.
use Rattle.std.proofs.Common.{◌≡◌, ℕ, ◌+◌, ◌-◌, ◌^◌, ◌<◌, ◌≤◌, Bool, true, false, ◌&&◌, ◌||◌, cond, ltb, leb, List, refl, sym, ◌∙◌, ap, subst, arith, Option}
use Rattle.std.proofs.lemmas.Bool.{and_left, and_right, cond-false, false_from_ne_true, lt-ltb, ltb-true}
use Rattle.std.proofs.lemmas.Bool.Decides.{nat_tests}
use Rattle.xt_map.specs.Touching.{touches}
use Rattle.xt_frames.specs.Breaches.{Bounds}
use Rattle.xt_frames.specs.Frames.{Frame, FrameState, value_or_zero}
use Rattle.xt_frames.specs.Stacks.{Stack}
use Rattle.xt_frames.proofs.Stacked.{chain_top}
use Rattle.xt_discipline.specs.ByteMarks.{first}
use Rattle.xt_discipline.specs.declared.bytes.Held.{Held}
use Rattle.xt_uses.specs.UseState.{UseState, is_strict_in, rises_over, stack_pointer}
use Rattle.xt_use_walk.specs.declared.side.Bytes.{Bytes}
use Rattle.xt_use_walk.specs.MaskedBytes.{AreBytes, AreFull, AreMasks, KnowsBytes, TellsLive, mask_at, without}
use Rattle.xt_use_walk.specs.Sides.{StackOf, forgets_byte}
use Rattle.xt_use_walk.proofs.Places.{dram_byte}

-- where the stack pointer has risen
rises_touch : (sp now a : ℕ) → 16 ≤ sp → sp < now → (leb sp (a + 16) && ltb a now) ≡ touches (sp - 16) (now - (sp - 16)) a
rises_touch sp now a low up = grind (arith, nat_tests)

pub forgotten_bytes : (b : Bool) (sp now a : ℕ) → b ≡ true → 16 ≤ sp → sp < now → touches (sp - 16) (now - (sp - 16)) a ≡ (b && rises_over sp now a)
forgotten_bytes b sp now a e low up = sym (ap (λ x. x && rises_over sp now a) e ∙ (ap (λ x. x && (leb sp (a + 16) && ltb a now)) (lt-ltb sp now up) ∙ rises_touch sp now a low up))

-- and where it has not
pub forgotten_none : (b : Bool) (sp now a : ℕ) → ltb sp now ≡ false → (b && rises_over sp now a) ≡ false
forgotten_none b sp now a e = and_right b (rises_over sp now a) (and_left (ltb sp now) (leb sp (a + 16) && ltb a now) e)

-- it lies 16 bytes above the beginning of the stack, at least
pub low_sp : (b c : Bounds) (f : FrameState) (sp : ℕ) → c ≡ b → StackOf b f → sp ≡ value_or_zero f.seen 1 → c.range.lo + 16 ≤ sp
low_sp b c f sp e k at =
    let t = chain_top b.range.lo b.range.hi (value_or_zero f.seen 1) f.frames k.range k.chain in
    let bottom = t.1 in
    let here : b.range.lo + 16 ≤ sp = omega (arith, at, bottom) in
    subst (λ (x : Bounds). x.range.lo + 16 ≤ sp) (sym e) here

-- the bytes over which it has risen are bytes of memory
pub risen_bytes : (lo hi sp now : ℕ) (seen : List (Option ℕ)) (frames : List Frame) → Stack lo hi seen frames → first ≤ lo → hi ≤ 2 ^ 30 → lo + 16 ≤ sp → now ≡ value_or_zero seen 1 → AreBytes (sp - 16) (now - (sp - 16))
risen_bytes lo hi sp now seen frames k low high bottom at a l h =
    let t = chain_top lo hi (value_or_zero seen 1) frames k.range k.chain in
    let top = t.0 in
    dram_byte a (omega (arith, l, low, bottom)) (omega (arith, h, high, top, at, bottom))

not_less : (sp now : ℕ) → now ≡ sp → ltb sp now ≡ false
not_less sp now e = false_from_ne_true (ltb sp now) (λ h. let l = ltb-true sp now h in omega (arith, l, e))

zero_over : (t l : Bool) (m : ℕ) → m ≡ 0 → cond t 0 m ≡ 0
zero_over true l m e = refl
zero_over false l m e = e

pub knows_forgotten : (core : ℕ) (old new : Bytes) (own others test : ℕ → Bool) (masks : ℕ → ℕ) → KnowsBytes core old own others masks → AreFull new → new.marks.items ≡ old.marks.items
    → AreMasks new.masks (without test (mask_at old.masks)) → KnowsBytes core new own others (without test masks)
knows_forgotten core old new own others test masks k full same are = record {
  full = full;
  live = subst (λ (v : List Held). TellsLive core v own others) (sym same) k.live;
  masks_are = λ a h. are a h ∙ ap (λ m. cond (test a) 0 m) (k.masks_are a h);
  unknown = λ a l. zero_over (test a) (own a || others a) (masks a) (k.unknown a l);
}

-- nothing, where the stack pointer stays
pub knows_unmoved : (core : ℕ) (x : Bytes) (own others : ℕ → Bool) (masks : ℕ → ℕ) (s : UseState) (sp : ℕ) → stack_pointer s ≡ sp → KnowsBytes core x own others masks → KnowsBytes core x own others (without (forgets_byte s sp) masks)
knows_unmoved core x own others masks s sp e k =
    let none : (a : ℕ) → forgets_byte s sp a ≡ false = λ a. forgotten_none (is_strict_in s) sp (stack_pointer s) a (not_less sp (stack_pointer s) e) in
    record {
      full = k.full;
      live = k.live;
      masks_are = λ a h. k.masks_are a h ∙ sym (cond-false (forgets_byte s sp a) 0 (masks a) (none a));
      unknown = λ a l. zero_over (forgets_byte s sp a) (own a || others a) (masks a) (k.unknown a l);
    }

-- ---- both cores as they open
pub opened_pick : (t0 t1 b0 b1 : Bool) (m : ℕ) → m ≡ cond b1 0 (cond b0 0 (cond t1 0 (cond t0 0 255))) → m ≡ cond ((t0 || t1) || (b0 || b1)) 0 255
opened_pick true true true true m e = e
opened_pick true true true false m e = e
opened_pick true true false true m e = e
opened_pick true true false false m e = e
opened_pick true false true true m e = e
opened_pick true false true false m e = e
opened_pick true false false true m e = e
opened_pick true false false false m e = e
opened_pick false true true true m e = e
opened_pick false true true false m e = e
opened_pick false true false true m e = e
opened_pick false true false false m e = e
opened_pick false false true true m e = e
opened_pick false false true false m e = e
opened_pick false false false true m e = e
opened_pick false false false false m e = e
