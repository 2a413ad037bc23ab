use Rattle.std.proofs.Common.{ℕ, Err, Ok, Option, refl}
use Rattle.std.specs.Prelude.{option_copied}
use Rattle.xt_map.specs.Memory.{constant_byte}
use Rattle.xt_frames.specs.Walked.{Walked}
use Rattle.xt_judged.specs.Seen.{seen_by}
use Rattle.xt_judged.specs.Stales.{among}
use Rattle.xt_judged.specs.declared.record.Beside.{Beside}
use Rattle.xt_judged.proofs.KnownAs.{apart_after, breach_as, known_after, seen_of}
use Rattle.xt_judged.proofs.record.see_beside.Goals as goal

pub returns-in_ok-stale-in-Ok-clause-known : goal.returns-in_ok-stale-in-Ok-clause-known
returns-in_ok-stale-in-Ok-clause-known c =
    let own = c.args.frames.now in
    let other : Option Walked = option_copied c.args.other in
    let stale = c.args.stale.now in
    let rec = c.args.rec.now in
    let code : ℕ → ℕ = constant_byte c.args.code.now in
    let new = c.see.new.own in
    let p = c.in-Ok.passed in
    let after = c.in_ok-stale-in-Ok in
    let beside : Beside = record { phase = p.phase; stale = after.stale } in
    let seen = seen_of code own new c.args.phase other stale rec c.see.result (Ok p) c.in-Ok.is c.see.ensures in
    known_after own other new stale rec p beside refl after.ensures.same (λ judged bounds m. after.ensures.judged judged own c.kept_before-before.ensures.kept bounds m c.requires.apart)
    c.requires.first (seen_by code own c.args.phase other (among stale) rec) seen

pub returns-in_ok-stale-in-Ok-clause-apart : goal.returns-in_ok-stale-in-Ok-clause-apart
returns-in_ok-stale-in-Ok-clause-apart c =
    let own = c.args.frames.now in
    let other : Option Walked = option_copied c.args.other in
    let stale = c.args.stale.now in
    let rec = c.args.rec.now in
    let code : ℕ → ℕ = constant_byte c.args.code.now in
    let new = c.see.new.own in
    let p = c.in-Ok.passed in
    let after = c.in_ok-stale-in-Ok in
    let beside : Beside = record { phase = p.phase; stale = after.stale } in
    let seen = seen_of code own new c.args.phase other stale rec c.see.result (Ok p) c.in-Ok.is c.see.ensures in
    apart_after own other new stale rec p beside refl after.ensures.same (λ judged bounds m. after.ensures.judged judged own c.kept_before-before.ensures.kept bounds m c.requires.apart)
    c.requires.apart (seen_by code own c.args.phase other (among stale) rec) seen

pub returns-in-Err-clause-known : goal.returns-in-Err-clause-known
returns-in-Err-clause-known c =
    let own = c.args.frames.now in
    let other : Option Walked = option_copied c.args.other in
    let stale = c.args.stale.now in
    let rec = c.args.rec.now in
    let code : ℕ → ℕ = constant_byte c.args.code.now in
    let b = c.in-Err.breach in
    (breach_as own c.see.new.own other stale rec (seen_by code own c.args.phase other (among stale) rec) b
    (seen_of code own c.see.new.own c.args.phase other stale rec c.see.result (Err b) c.in-Err.is c.see.ensures)).0

pub returns-in-Err-clause-broken : goal.returns-in-Err-clause-broken
returns-in-Err-clause-broken c =
    let own = c.args.frames.now in
    let other : Option Walked = option_copied c.args.other in
    let stale = c.args.stale.now in
    let rec = c.args.rec.now in
    let code : ℕ → ℕ = constant_byte c.args.code.now in
    let b = c.in-Err.breach in
    (breach_as own c.see.new.own other stale rec (seen_by code own c.args.phase other (among stale) rec) b
    (seen_of code own c.see.new.own c.args.phase other stale rec c.see.result (Err b) c.in-Err.is c.see.ensures)).1
