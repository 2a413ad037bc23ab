-- A run has one answer.
use Rattle.std.proofs.Common.{◌≡◌, Some, None, ℕ, sym, ap, ◌∙◌}
use Rattle.std.specs.Prelude.{slice_get}
use Rattle.std.proofs.lemmas.Option.{none-some, same_Some}
use Rattle.xt_frames.specs.FirstBreach.{Turn, turn_of}
use Rattle.xt_simulation.specs.FirstLeak.{Leak, Watched}
use Rattle.xt_simulation.proofs.Leaks.{first_leak_is_one}
use Rattle.xt_secret_walk.specs.declared.leak.FirstLeak as told
use Rattle.xt_secret_walk.specs.declared.leak.Secrets.TheVariants.{Whole, Leaks}
use Rattle.xt_secret_walk.specs.Answers.{IsLeaks, SecretsAreOne, lacks_at}

abbrev leak_of : told.FirstLeak → Leak
leak_of f = record { core = f.core; step = f.step }

same_leak : (r : Watched) (one other : told.FirstLeak) → IsLeaks r one → IsLeaks r other → one ≡ other
same_leak r one other x y =
    let same = first_leak_is_one r x.place y.place (Some (leak_of one)) (Some (leak_of other)) x.is_first y.is_first in
    let place : x.place ≡ y.place = same.0 in
    let leak : leak_of one ≡ leak_of other = same_Some (leak_of one) (leak_of other) same.1 in
    let core : one.core ≡ other.core = ap (λ (l : Leak). l.core) leak in
    let step : one.step ≡ other.step = ap (λ (l : Leak). l.step) leak in
    let turn : turn_of one.core one.rec ≡ turn_of other.core other.rec = same_Some (turn_of one.core one.rec) (turn_of other.core other.rec) (sym x.turn ∙ (ap (λ (p : ℕ). slice_get r.turns p) place ∙ y.turn)) in
    let rec : one.rec ≡ other.rec = ap (λ (t : Turn). t.rec) turn in
    let lacks : one.lacks ≡ other.lacks = x.lacks ∙ ((λ i. lacks_at r (place i) (core i)) ∙ sym y.lacks) in
    λ i. record { core = core i; step = step i; rec = rec i; lacks = lacks i }

pub secrets_one : SecretsAreOne
secrets_one r (Whole n m) (Whole k l) x y = λ i. Whole ((x.first ∙ sym y.first) i) ((x.second ∙ sym y.second) i)
secrets_one r (Whole n m) (Leaks other) x y = absurd (none-some (leak_of other) (first_leak_is_one r _ y.place None (Some (leak_of other)) x.none y.is_first).1)
secrets_one r (Leaks one) (Whole k l) x y = absurd (none-some (leak_of one) (first_leak_is_one r _ x.place None (Some (leak_of one)) y.none x.is_first).1)
secrets_one r (Leaks one) (Leaks other) x y = ap (λ f. Leaks f) (same_leak r one other x y)
