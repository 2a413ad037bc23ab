-- Carries a proof; nothing that a reader must believe.
-- What a judged step leaves of the stale bytes.
use Rattle.std.specs.Prelude.{◌≡◌, ℕ, ◌+◌, ◌<◌, ◌≤◌, ◌^◌, Bool, false, not, ◌&&◌, Option, Some}
use Rattle.std.specs.Prelude.{None, length}
use Rattle.xt_map.specs.declared.access.Access.{Access}
use Rattle.xt_frames.specs.Breaches.{stores_at}
use Rattle.xt_frames.specs.Stacks.{Stack}
use Rattle.xt_frames.specs.Walked.{Walked}
use Rattle.xt_discipline.specs.declared.side.Areas.{Areas}
use Rattle.xt_discipline.specs.Sides.{IsCallOf, in_areas}
use Rattle.xt_judged.specs.declared.gone.Before.{Before}

-- the byte lies in an area of the call, if there is one
abbrev pub in_call : Option Areas → ℕ → Bool
in_call None a = false
in_call (Some x) a = in_areas x a

-- no store writes it, and it lies in no area of the call
abbrev pub is_spared : Option Access → Option Areas → ℕ → Bool
is_spared access call a = not (stores_at access a) && not (in_call call a)

-- the addresses of a call's areas are words
abbrev pub HasRoom : Option Areas → Type 0
HasRoom None = Unit {0}
HasRoom (Some x) = (x.low + 16 ≤ 2 ^ 32) × (0 < x.size → x.high + x.size ≤ 2 ^ 32)

-- what is kept of a core before a step: how many callers it has, and the areas of its newest call
pub record IsBefore (b : Before) (w : Walked) : Type 0 where
  pub depth : b.depth ≡ length w.state.frames
  pub call : IsCallOf b.call w.bounds.range.hi w.state

-- its stack pointers are a chain in its stack range
abbrev pub IsOnStack : Walked → Type 0
IsOnStack w = Stack w.bounds.range.lo w.bounds.range.hi w.state.seen w.state.frames
