-- Live bytes: those of the frame state and of the machine of uses are the same, and a step that shows no SaveStore leaves them.
use Rattle.std.proofs.Common.{◌≡◌, ℕ, ◌-◌, ◌*◌, Bool, true, false, eqb, List, [], ◌∷◌, Option, Some, None, ap, ◌∙◌, refl, cond}
use Rattle.std.proofs.lemmas.Bool.{or_from}
use Rattle.xt_map.specs.declared.access.Access.{Access}
use Rattle.xt_map.specs.declared.access.Kind.{Kind}
use Rattle.xt_map.specs.declared.access.Kind.TheVariants.{Load, Store, Cas}
use Rattle.xt_map.specs.declared.contents.MemoryContents.{MemoryContents}
use Rattle.xt_map.specs.Memory.{byte_at}
use Rattle.xt_map.specs.Serving.{memory_past}
use Rattle.xt_frames.specs.Frames.{Frame, FrameState, value_or_zero}
use Rattle.xt_frames.specs.SaveAreas.{Area, Range, areas, covers_byte, is_live, sp_of}
use Rattle.xt_frames.specs.Breaches.{loads_stale, some_byte, touches_save_area}
use Rattle.xt_simulation.specs.Steps.{memory_after_step}
use Rattle.xt_simulation.proofs.Memories.{keeps_from, live_kept}
use Rattle.xt_uses.specs.UseBreaches.{nowhere}
use Rattle.xt_uses.specs.UseState.{UseState}
use Rattle.xt_simulation.specs.Knowing.{FramesFit, Knows}
use Rattle.xt_simulation.proofs.Tests.{nowhere_byte}

pub areas_same : (ms : List (List ℕ)) (fs gs : List Frame) → FramesFit ms fs gs → (hi sp n : ℕ) → areas hi sp n fs ≡ areas hi sp n gs
areas_same [] [] [] h hi sp n = refl
areas_same (m ∷ ms) (f ∷ fs) (g ∷ gs) h hi sp n =
    let by = h.0 in
    let top = h.1.0 in
    let rest : areas hi (sp_of g) g.by fs ≡ areas hi (sp_of g) g.by gs = areas_same ms fs gs h.1.1.1 hi (sp_of g) g.by in
    let A : ℕ → ℕ → List Area → List Area = λ t b more. record { from = sp - 16; size = 16 } ∷ (record { from = t - 16 * n; size = 16 * (n - 1) } ∷ more) in
    ap (λ t. A t f.by (areas hi t f.by fs)) top ∙ (ap (λ b. A (sp_of g) b (areas hi (sp_of g) b fs)) by ∙ ap (A (sp_of g) g.by) rest)
areas_same [] [] (g ∷ gs) h hi sp n = absurd h
areas_same [] (f ∷ fs) gs h hi sp n = absurd h
areas_same (m ∷ ms) [] gs h hi sp n = absurd h
areas_same (m ∷ ms) (f ∷ fs) [] h hi sp n = absurd h

pub live_known : {f : FrameState} {s : UseState} → Knows f s → (r : Range) (a : ℕ) → is_live r f a ≡ is_live r s.frame a
live_known {f = f} {s = s} k r a =
    ap (λ sp. covers_byte (areas r.hi sp 1 f.frames) a) k.sp ∙ ap (λ list. covers_byte list a) (areas_same s.masks.kept f.frames s.frame.frames k.frames r.hi (value_or_zero s.frame.seen 1) 1)

pub load_leaves : (m : MemoryContents) (addr size : ℕ) → memory_past m (record { addr = addr; size = size; kind = Load }) ≡ m
unfolding memory_past
load_leaves m addr size = by_tests (eqb addr 0x3FF40000) (eqb addr 0x3FF4001C)
  where
    by_tests : (b c : Bool) → cond b m (cond c m m) ≡ m
    by_tests true c = refl
    by_tests false true = refl
    by_tests false false = refl

-- a step that shows no SaveStore leaves live bytes
pub spared : (live : ℕ → Bool) (m : MemoryContents) (o : Option Access) → touches_save_area live o ≡ false → (a : ℕ) → live a ≡ true → byte_at (memory_after_step m o) a ≡ byte_at m a
spared live m None h a is = refl
spared live m (Some access) h a is = by_kind access.kind refl
  where
    stored : (k : Kind) → access.kind ≡ k → loads_stale live nowhere (Some access) ≡ false → byte_at (memory_past m access) a ≡ byte_at m a
    stored k e loads = live_kept live nowhere m (Some access) a (keeps_from live nowhere (Some access) h loads) is

    by_kind : (k : Kind) → access.kind ≡ k → byte_at (memory_past m access) a ≡ byte_at m a
    by_kind Load e = ap (λ (k : Kind). byte_at (memory_past m (record { addr = access.addr; size = access.size; kind = k })) a) e ∙ ap (λ (z : MemoryContents). byte_at z a) (load_leaves m access.addr access.size)
    by_kind (Store v) e = stored (Store v) e (ap (λ (k : Kind). loads_stale live nowhere (Some (record { addr = access.addr; size = access.size; kind = k }))) e)
    by_kind (Cas expected new) e = stored (Cas expected new) e (ap (λ (k : Kind). loads_stale live nowhere (Some (record { addr = access.addr; size = access.size; kind = k }))) e ∙ or_from (some_byte nowhere access.addr access.size) false (nowhere_byte access.addr access.size) refl)
