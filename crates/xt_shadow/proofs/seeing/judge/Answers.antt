use Rattle.std.proofs.Common.{◌≡◌, ℕ, ◌+◌, Bool, Result, Ok, Err, length, false, refl, sym, ◌∙◌, ap, subst, rules}
use Rattle.xt_map.specs.Memory.{constant_byte}
use Rattle.xt_frames.specs.declared.kinds.Breach.{Breach}
use Rattle.xt_frames.specs.Judging.{seen_record}
use Rattle.xt_frames.specs.Walked.{Walked, found_in}
use Rattle.xt_discipline.specs.declared.roles.Role.TheVariants.{Own}
use Rattle.xt_discipline.specs.declared.side.Side.{Side}
use Rattle.xt_discipline.specs.ByteMarks.{Agrees, either, held_at}
use Rattle.xt_discipline.specs.Sides.{IsSeen, live_in, standing_of}
use Rattle.xt_discipline.proofs.Known.{loads_for, saves_for}
use Rattle.xt_discipline.proofs.Seeing.{breach_where, found_by, judged_breaks, judged_marks, judged_past, moves_where, past_where, role_seen, side_past}
use Rattle.xt_shadow.proofs.seeing.judge.Goals as goal

pub judge_whole-requires : goal.judge_whole-requires
judge_whole-requires c =
    let marks = c.args.marks.now in
    let live0 : ℕ → Bool = λ a. (held_at marks a).live0 in
    let live1 : ℕ → Bool = λ a. (held_at marks a).live1 in
    let stale : ℕ → Bool = λ a. (held_at marks a).stale in
    let own : Agrees marks live0 live1 stale = record { first_core = λ a. refl; second_core = λ a. refl; no_longer = λ a. refl } in
    (either live0 live1, stale, c.saves-saves.ensures live0 live1 stale own, c.loads-stale.ensures live0 live1 stale own)

pub returns-in_err-judge_whole-clause-seen : goal.returns-in_err-judge_whole-clause-seen
returns-in_err-judge_whole-clause-seen c others stale known =
    let s = c.args.side.now in
    let code = constant_byte c.args.code.now in
    let rec = c.args.rec.now in
    let b = c.in_err-judge_whole.field-0.0 in
    let saves = saves_for s.core c.args.marks.now (live_in s.frames) others stale rec.access c.saves-saves.result c.saves-saves.ensures known in
    let loads = loads_for s.core c.args.marks.now (live_in s.frames) others stale rec.access c.loads-stale.result c.loads-stale.ensures known in
    let found = found_by s others stale code false rec in
    let is : c.judge_whole.result ≡ Err b = c.in_err-judge_whole.was in
    let breach = breach_where s.frames c.judge_whole.new.self code s.steps false rec found c.judge_whole.result b is
    (c.judge_whole.ensures.judged (either (live_in s.frames) others) stale saves loads) in
    let same : c.from_residual.result ≡ Err b = search rules in
    let new : Side = record { core = s.core; hi = s.hi; frames = c.judge_whole.new.self; phase = s.phase; steps = s.steps } in
    let bad : Result Unit Breach = Err b in
    let there = role_seen s new c.args.marks.now others stale code rec Own bad c.requires.own
    (judged_breaks s new c.args.marks.now others stale code false rec found b c.requires.side breach) in
    subst (λ (r : Result Unit Breach). IsSeen s new c.args.marks.now others stale (seen_record code s.frames.bounds (standing_of s) others stale rec) r) (sym same) there

pub follow-requires : goal.follow-requires
follow-requires c =
    let s = c.args.side.now in
    let code = constant_byte c.args.code.now in
    let rec = c.args.rec.now in
    let marks = c.args.marks.now in
    let live0 : ℕ → Bool = λ a. (held_at marks a).live0 in
    let live1 : ℕ → Bool = λ a. (held_at marks a).live1 in
    let stale : ℕ → Bool = λ a. (held_at marks a).stale in
    let own : Agrees marks live0 live1 stale = record { first_core = λ a. refl; second_core = λ a. refl; no_longer = λ a. refl } in
    let found = found_in s.frames code (either live0 live1) stale s.steps false rec in
    let is : c.judge_whole.result ≡ Ok c.in_ok-judge_whole.field-0 = c.in_ok-judge_whole.was in
    let past = past_where s.frames c.judge_whole.new.self code s.steps false rec found c.judge_whole.result c.in_ok-judge_whole.field-0 is
    (c.judge_whole.ensures.judged (either live0 live1) stale (c.saves-saves.ensures live0 live1 stale own) (c.loads-stale.ensures live0 live1 stale own)) in
    side_past s c.judge_whole.new.self code false rec c.phase_after-next.result c.requires.side past.1

pub returns-clause-seen : goal.returns-clause-seen
returns-clause-seen c others stale known =
    let s = c.args.side.now in
    let code = constant_byte c.args.code.now in
    let rec = c.args.rec.now in
    let f = c.judge_whole.new.self in
    let saves = saves_for s.core c.args.marks.now (live_in s.frames) others stale rec.access c.saves-saves.result c.saves-saves.ensures known in
    let loads = loads_for s.core c.args.marks.now (live_in s.frames) others stale rec.access c.loads-stale.result c.loads-stale.ensures known in
    let found = found_by s others stale code false rec in
    let is : c.judge_whole.result ≡ Ok c.in_ok-judge_whole.field-0 = c.in_ok-judge_whole.was in
    let past = past_where s.frames f code s.steps false rec found c.judge_whole.result c.in_ok-judge_whole.field-0 is
    (c.judge_whole.ensures.judged (either (live_in s.frames) others) stale saves loads) in
    let moves = moves_where s.frames.state f.state c.judge_whole.result c.in_ok-judge_whole.field-0 is c.judge_whole.ensures.moves in
    let bounds : f.bounds ≡ s.frames.bounds = ap (λ (w : Walked). w.bounds) past.1 in
    let store = c.store.ensures in
    let len : length c.store.new.marks ≡ 0x52000 = store.len ∙ c.requires.len in
    let followed = c.follow.ensures.follows s.frames.state moves c.depth-depth.ensures.depth c.newest-call.ensures in
    let marks = judged_marks s f moves c.args.marks.now c.store.new.marks c.follow.new.marks others stale rec.access c.requires.side bounds len c.depth-depth.ensures.stack c.follow.ensures.stack known store.bytes followed in
    let new : Side = record { core = s.core; hi = s.hi; frames = f; phase = c.phase_after-next.result; steps = s.steps + 1 } in
    role_seen s new c.follow.new.marks others stale code rec Own (Ok tt) c.requires.own
    (judged_past s new f c.follow.new.marks others stale code rec found tt false c.phase_after-next.result c.phase_after-next.ensures c.requires.side past.0 past.1 refl marks)
