use Rattle.std.proofs.Common.{ℕ, Bool, Option, Result, subst}
use Rattle.std.specs.Prelude.{option_copied}
use Rattle.xt_map.specs.Memory.{constant_byte}
use Rattle.xt_frames.specs.declared.kinds.Breach.{Breach}
use Rattle.xt_frames.specs.Judging.{seen_judged}
use Rattle.xt_frames.specs.Walked.{Walked}
use Rattle.xt_judged.specs.Lives.{others_live}
use Rattle.xt_judged.specs.Seen.{IsSeenAs, standing_at}
use Rattle.xt_judged.specs.Stales.{among}
use Rattle.xt_judged.proofs.SeenAs.{passed, seen_as}
use Rattle.xt_judged.proofs.seeing.see_judged.Goals as goal

pub returns-in-Ok : goal.returns-in-Ok
returns-in-Ok c = λ p e.
    let code : ℕ → ℕ = constant_byte c.args.code.now in
    let old = c.args.own.now in
    let new = c.judge.new.own in
    let other : Option Walked = option_copied c.args.other in
    let stale : ℕ → Bool = among c.args.stale.now in
    let rec = c.args.rec.now in
    subst (λ (r : Result Unit Breach). IsSeenAs old new other stale rec (seen_judged code old.bounds (standing_at old p) (others_live other) stale c.args.nested rec) (passed c.args.next r))
    c.in-Ok.is
    (seen_as code old new other stale rec c.args.nested p c.args.next c.requires e c.judge.result c.judge.ensures.judged c.judge.ensures.moves)

pub returns-in-Err : goal.returns-in-Err
returns-in-Err c = λ p e.
    let code : ℕ → ℕ = constant_byte c.args.code.now in
    let old = c.args.own.now in
    let new = c.judge.new.own in
    let other : Option Walked = option_copied c.args.other in
    let stale : ℕ → Bool = among c.args.stale.now in
    let rec = c.args.rec.now in
    subst (λ (r : Result Unit Breach). IsSeenAs old new other stale rec (seen_judged code old.bounds (standing_at old p) (others_live other) stale c.args.nested rec) (passed c.args.next r))
    c.in-Err.is
    (seen_as code old new other stale rec c.args.nested p c.args.next c.requires e c.judge.result c.judge.ensures.judged c.judge.ensures.moves)
