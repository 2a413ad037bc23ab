-- One core beside the machine of uses, in each phase: a frame state that the machine of uses knows stands between them.
use Rattle.std.proofs.Common.{◌≡◌, ℕ, Bool, true, false, List, Option, Some, None, sym, ◌∙◌, refl}
use Rattle.xt_map.specs.declared.contents.MemoryContents.{MemoryContents}
use Rattle.xt_map.specs.Memory.{byte_at}
use Rattle.xt_map.specs.Code.{AreBytes}
use Rattle.xt_exec.specs.State.{State}
use Rattle.xt_frames.specs.declared.holes.Nested.{Nested}
use Rattle.xt_frames.specs.Frames.{FrameState}
use Rattle.xt_frames.specs.declared.kinds.HandlerPhase.{HandlerPhase}
use Rattle.xt_frames.specs.SaveAreas.{is_live}
use Rattle.xt_frames.specs.Breaches.{Bounds}
use Rattle.xt_simulation.specs.Handling.{IsGood}
use Rattle.xt_uses.specs.UseState.{UseState}
use Rattle.xt_simulation.specs.Walking.{Apart, Entered}
use Rattle.xt_simulation.proofs.OneCore.{InCore, core_spared, core_stack, live_apart}
use Rattle.xt_simulation.specs.Knowing.{Knows, NestedFit}
use Rattle.xt_simulation.proofs.Spared.{live_known}

pub record InCoreUse (code : ℕ → ℕ) (phase : HandlerPhase) (m : MemoryContents) (b : Bounds) (fresh : Bool) (s : State) (us : UseState) : Type 0 where
  pub frame : FrameState
  pub entered : Entered
  pub core : InCore code phase m b fresh s frame entered
  pub knows : Knows frame us

-- the machine of uses has no nested interrupt where the frame state has none, and one where that has one
nested_none : (masks : List ℕ) (o p : Option Nested) → NestedFit masks o p → o ≡ None → p ≡ None
nested_none masks None None k e = refl
nested_none masks None (Some y) k e = absurd k
nested_none masks (Some x) p k e = absurd cc

pub nested_some : (masks : List ℕ) (o p : Option Nested) (x : Nested) → NestedFit masks o p → o ≡ Some x → (y : Nested) × (p ≡ Some y)
nested_some masks (Some z) (Some y) x k e = (y, refl)
nested_some masks (Some z) None x k e = absurd k
nested_some masks None p x k e = absurd cc

pub no_nested : {f : FrameState} {us : UseState} → Knows f us → f.nested ≡ None → us.frame.nested ≡ None
no_nested {f = f} {us = us} k e = nested_none us.masks.inner f.nested us.frame.nested k.nested e

-- a change of bytes that are not live for the core
pub use_spared : (code : ℕ → ℕ) → AreBytes code → (b : Bounds) → IsGood code b → (phase : HandlerPhase) (old new : MemoryContents) (fresh : Bool) (s : State) (us : UseState)
    → ((a : ℕ) → is_live b.range us.frame a ≡ true → byte_at new a ≡ byte_at old a) → InCoreUse code phase old b fresh s us → InCoreUse code phase new b fresh s us
use_spared code bytes b good phase old new fresh s us same h = record {
  frame = h.frame;
  entered = h.entered;
  core = core_spared code bytes b good phase old new fresh s h.frame h.entered (λ a is. same a (sym (live_known h.knows b.range a) ∙ is)) h.core;
  knows = h.knows;
}

-- the live bytes of two cores are apart
pub uses_apart : (code : ℕ → ℕ) (one other : HandlerPhase) (m : MemoryContents) (b c : Bounds) (fresh later : Bool) (s t : State) (us vs : UseState) → Apart b.range c.range → InCoreUse code one m b fresh s us → InCoreUse code other m c later t vs
    → (a : ℕ) → is_live c.range vs.frame a ≡ true → is_live b.range us.frame a ≡ false
uses_apart code one other m b c fresh later s t us vs apart h k a is =
    sym (live_known h.knows b.range a)
    ∙ live_apart b.range c.range h.frame k.frame a apart (core_stack code one m b fresh s h.frame h.entered h.core) (core_stack code other m c later t k.frame k.entered k.core) (live_known k.knows c.range a ∙ is)
