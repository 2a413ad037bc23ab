use Rattle.std.proofs.Common.{◌≡◌, ℕ, ◌+◌, ◌-◌, Bool, false, ◌||◌, sym, ◌∙◌, ap, ap₂}
use Rattle.std.proofs.lemmas.Bool.{le-ltb}
use Rattle.std.specs.Prelude.{nat_lt}
use Rattle.xt_race.specs.declared.latest.Mark.{Mark}
use Rattle.xt_race.specs.Tables.{mark_at, rival_of, some_byte}
use Rattle.xt_race.proofs.Tabled.{some_at}
use Rattle.xt_race.proofs.marks.Marks.has_rival.Goals as goal

pub loop-k-preserved : goal.loop-k-preserved
loop-k-preserved c =
    let addr = c.args.addr in
    let size = c.args.size in
    let seen = c.args.seen in
    let k = c.loop-k.k in
    let f : ℕ → Bool = λ a. nat_lt seen (rival_of c.args.note (mark_at c.args.self.now a)) in
    let same : f (addr + k) ≡ nat_lt seen c.rival_of.result =
    sym (ap₂ (λ (x y : ℕ). f (x + y)) c.from.ensures c.from-in-loop-k.ensures)
    ∙ sym (ap (λ (m : Mark). nat_lt seen (rival_of c.args.note m)) c.at.ensures)
    ∙ sym (ap (λ (n : ℕ). nat_lt seen n) c.rival_of.ensures) in
    let here : f (addr + k) ≡ false = same ∙ le-ltb seen c.rival_of.result c.if-seen-rival_of.false in
    sym (some_at f addr size k c.loop-k-test.true ∙ ap (λ (b : Bool). b || some_byte f (addr + (k + 1)) (size - (k + 1))) here) ∙ c.loop-k.invariant
