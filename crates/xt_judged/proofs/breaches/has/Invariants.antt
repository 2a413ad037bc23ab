use Rattle.std.proofs.Common.{◌≡◌, ◌≢◌, ℕ, ◌<◌, Some}
use Rattle.std.specs.Prelude.{slice_get}
use Rattle.xt_judged.specs.OrderFrames.{place_of}
use Rattle.xt_judged.specs.declared.frames.OrderBreach.{OrderBreach}
use Rattle.xt_judged.proofs.breaches.has.Given as goal

abbrev pub invariant-loop-number : goal.invariant-loop-number
invariant-loop-number l = (k : ℕ) (x : OrderBreach) → k < l.number → slice_get l.list k ≡ Some x → place_of x ≢ l.shown
