-- A run has one answer: the breach, its record, and the registers that its instruction reads and of which not every bit is known.
use Rattle.std.proofs.Common.{◌≡◌, true, false, Some, None, refl, sym, ◌∙◌, ap, subst}
use Rattle.std.proofs.lemmas.Option.{none-some, same_Some}
use Rattle.xt_frames.specs.FirstBreach.{Course, IsTurn, Turn}
use Rattle.xt_frames.proofs.Prefixes.{same_turn}
use Rattle.xt_uses.specs.declared.discipline.Discipline.{Discipline}
use Rattle.xt_uses.specs.FirstUse.{IsFirstUse, IsVerdict, carried_count}
use Rattle.xt_uses.specs.Lacks.{lacks_before}
use Rattle.xt_uses.proofs.LaterHistories.{history_is_one}
use Rattle.xt_uses.proofs.LaterVerdicts.{same_place, verdict_one}
use Rattle.xt_use_walk.specs.declared.walk.FirstUse as walk
use Rattle.xt_use_walk.specs.declared.walk.Uses.{Uses}
use Rattle.xt_use_walk.specs.declared.walk.Uses.TheVariants.{Unchecked, Whole, Broken}
use Rattle.xt_use_walk.specs.Verdicts.{IsBroken, IsSaid, UsesAreOne}

verdict_of : (d : Discipline) (r : Course) (first : walk.FirstUse) (b : IsBroken d r first) → IsVerdict d r (Some first.breach) (carried_count r b.history 0 b.place) (carried_count r b.history 1 b.place)
verdict_of d r first b = record { history = b.history; is_history = b.is_history; place = b.place; first = b.is_first; counts0 = refl; counts1 = refl }

same_first : (d : Discipline) (r : Course) (one other : walk.FirstUse) → IsBroken d r one → IsBroken d r other → one ≡ other
same_first d r one other x y =
    let v = verdict_of d r one x in
    let w = verdict_of d r other y in
    let found = verdict_one d r (Some one.breach) (Some other.breach) _ _ _ _ v w in
    let breach : one.breach ≡ other.breach = same_Some one.breach other.breach found.0 in
    let history : x.history ≡ y.history = history_is_one d r x.history y.history x.is_history y.is_history in
    let there : IsFirstUse r x.history y.place (Some other.breach) = subst (λ h. IsFirstUse r h y.place (Some other.breach)) (sym history) y.is_first in
    let place : x.place ≡ y.place = same_place r x.history x.place y.place (Some one.breach) (Some other.breach) x.is_first there in
    let turn : IsTurn r x.place other.breach.core other.rec = subst (λ n. IsTurn r n other.breach.core other.rec) (sym place) y.turn in
    let rec : one.rec ≡ other.rec = ap (λ (t : Turn). t.rec) (same_turn r x.place one.breach.core one.rec x.turn other.breach.core other.rec turn) in
    let lacks : one.lacks ≡ other.lacks = x.lacks ∙ ((λ i. lacks_before r.code (rec i) ((history i).state ((breach i).core) (place i))) ∙ sym y.lacks) in
    λ i. record { breach = breach i; rec = rec i; lacks = lacks i }

said_one : (d : Discipline) (r : Course) (one other : Uses) → IsSaid d r one → IsSaid d r other → one ≡ other
said_one d r (Whole n m) (Whole k l) x y =
    let same = verdict_one d r None None n m k l x y in
    λ i. Whole (same.1 i) (same.2 i)
said_one d r (Whole n m) (Broken first) x y = absurd (none-some first.breach (verdict_one d r None (Some first.breach) n m _ _ x (verdict_of d r first y)).0)
said_one d r (Broken first) (Whole n m) x y = absurd (none-some first.breach (sym (verdict_one d r (Some first.breach) None _ _ n m (verdict_of d r first x) y).0))
said_one d r (Broken first) (Broken second) x y = ap (λ f. Broken f) (same_first d r first second x y)
said_one d r Unchecked other x y = absurd x
said_one d r (Whole n m) Unchecked x y = absurd y
said_one d r (Broken first) Unchecked x y = absurd y

pub uses_one : UsesAreOne
uses_one d true r one other x y = said_one d r one other x y
uses_one d false r one other x y = x ∙ sym y
