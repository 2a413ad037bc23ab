use Rattle.std.proofs.Common.{ℕ, Bool, false, refl}
use Rattle.xt_discipline.specs.ByteMarks.{Agrees, either, held_at}
use Rattle.xt_use_walk.specs.MaskedBytes.{mask_at}
use Rattle.xt_use_walk.proofs.Seen.{touched_for}
use Rattle.xt_use_walk.proofs.Sparing.{touched_known, touched_some}
use Rattle.xt_use_walk.proofs.side.Bytes.touched.Goals as goal

pub returns-then-knows-clause-some : goal.returns-then-knows-clause-some
returns-then-knows-clause-some c = (λ a. false, λ a. 255, touched_some c.args.rec.now)

pub returns-then-knows-clause-touched : goal.returns-then-knows-clause-touched
returns-then-knows-clause-touched c core own others masks known =
    touched_known core c.args.self.now own others masks c.args.rec.now c.requires.served (c.knows.ensures c.if-knows.true) known

pub returns-clause-some : goal.returns-clause-some
returns-clause-some c =
    let marks = c.args.self.now.marks.items in
    let live0 : ℕ → Bool = λ a. (held_at marks a).live0 in
    let live1 : ℕ → Bool = λ a. (held_at marks a).live1 in
    let stale : ℕ → Bool = λ a. (held_at marks a).stale in
    let own : Agrees marks live0 live1 stale = record { first_core = λ a. refl; second_core = λ a. refl; no_longer = λ a. refl } in
    (either live0 live1, mask_at c.args.self.now.masks, c.found.ensures live0 live1 stale own)

pub returns-clause-touched : goal.returns-clause-touched
returns-clause-touched c core own others masks known =
    touched_for core c.args.self.now own others masks c.args.rec.now c.found.result c.requires.served c.found.ensures known
