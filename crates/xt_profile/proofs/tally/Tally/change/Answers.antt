use Rattle.std.proofs.Common.{◌≡◌, ◌-◌, ◌<◌, ◌≤◌, ◌∷◌, ◌++◌, [], ℕ, List, Vec, Global, length, take, refl, ap, subst, ◌∙◌}
use Rattle.xt_profile.specs.declared.changes.Change.{Change}
use Rattle.xt_profile.specs.declared.tally.Tally.{Tally}
use Rattle.xt_profile.specs.Steps.{Step, frames_standing}
use Rattle.xt_profile.specs.After.{calls_after, step_with_change}
use Rattle.xt_profile.specs.CountedSteps.{AreCounted}
use Rattle.xt_profile.proofs.Telling.{counted_moved, tally_called, tally_kept, tally_returned, tally_stays}
use Rattle.xt_profile.proofs.tally.Tally.change.Goals as goal

pub flush-requires-clause-known : goal.flush-requires-clause-known
flush-requires-clause-known c =
    let q = c.requires.known in
    let s : Step = step_with_change c.args.pc c.args.phase c.args.change q.1 in
    (q.0, s ∷ q.1, c.count.ensures.counted q.0 q.1 s q.2 refl refl)

pub flush-requires-in-Returns-clause-known : goal.flush-requires-in-Returns-clause-known
flush-requires-in-Returns-clause-known c =
    let q = c.requires.known in
    let s : Step = step_with_change c.args.pc c.args.phase c.args.change q.1 in
    (q.0, s ∷ q.1, c.count.ensures.counted q.0 q.1 s q.2 refl refl)

pub returns-in-Stays-clause-tally : goal.returns-in-Stays-clause-tally
returns-in-Stays-clause-tally c o past h =
    let s : Step = step_with_change c.args.pc c.args.phase c.args.change past in
    tally_kept o past s c.args.self.now c.count.new.self h refl (ap (λ (y : Change). calls_after y (frames_standing past)) c.in-Stays.is) (ap (λ (v : Vec ℕ Global). v.items) c.count.ensures.functions) (c.count.ensures.counted o past s h refl refl)

pub returns-in_ok-push-in-Calls-clause-tally : goal.returns-in_ok-push-in-Calls-clause-tally
returns-in_ok-push-in-Calls-clause-tally c o past h =
    let s : Step = step_with_change c.args.pc c.args.phase c.args.change past in
    let t = c.args.self.now in
    let row = c.in_ok-flush-in-Calls.ensures.row in
    let counted : AreCounted o (s ∷ past) c.flush.new.self = c.in_ok-flush-in-Calls.ensures.counted o (s ∷ past) (c.count.ensures.counted o past s h refl refl) in
    let new : Tally = record c.flush.new.self { functions = c.push.new.self } in
    let items : c.flush.new.self.functions.items ≡ t.functions.items = ap (λ (v : Vec ℕ Global). v.items) (c.flush.ensures.functions ∙ c.count.ensures.functions) in
    tally_called o past s t new h refl (ap (λ (y : Change). calls_after y (frames_standing past)) c.in-Calls.is) (c.in_ok-push-in-Calls.ensures.items ∙ ap (λ (xs : List ℕ). xs ++ c.args.pc ∷ []) items) (counted_moved o (s ∷ past) c.flush.new.self new counted row row refl refl refl refl)

pub returns-then-len-gt1-clause-tally : goal.returns-then-len-gt1-clause-tally
returns-then-len-gt1-clause-tally c o past h =
    let s : Step = step_with_change c.args.pc c.args.phase c.args.change past in
    let t = c.args.self.now in
    let old = c.flush-in-Returns.new.self in
    let row = c.in_ok-flush-in-Returns.ensures.row in
    let counted : AreCounted o (s ∷ past) old = c.in_ok-flush-in-Returns.ensures.counted o (s ∷ past) (c.count.ensures.counted o past s h refl refl) in
    let new : Tally = record old { functions = c.truncate.new.self } in
    let items : old.functions.items ≡ t.functions.items = ap (λ (v : Vec ℕ Global). v.items) (c.flush-in-Returns.ensures.functions ∙ c.count.ensures.functions) in
    let now : c.as_slice-len.result.now ≡ t.functions.items = c.as_slice-len.ensures.value ∙ items in
    let n = length c.as_slice-len.result.now - 1 in
    tally_returned o past s t new n h refl (ap (λ (y : Change). calls_after y (frames_standing past)) c.in-Returns.is) (subst (λ (xs : List ℕ). 1 < length xs) now c.if-len-gt1.true) (ap (λ (xs : List ℕ). length xs - 1) now) (c.truncate.ensures.items ∙ ap (take n) items)
    (counted_moved o (s ∷ past) old new counted row row refl refl refl refl)

pub returns-else-len-gt1-clause-tally : goal.returns-else-len-gt1-clause-tally
returns-else-len-gt1-clause-tally c o past h =
    let s : Step = step_with_change c.args.pc c.args.phase c.args.change past in
    let t = c.args.self.now in
    let old = c.flush-in-Returns.new.self in
    let row = c.in_ok-flush-in-Returns.ensures.row in
    let counted : AreCounted o (s ∷ past) old = c.in_ok-flush-in-Returns.ensures.counted o (s ∷ past) (c.count.ensures.counted o past s h refl refl) in
    let new : Tally = record old { functions = old.functions } in
    let items : old.functions.items ≡ t.functions.items = ap (λ (v : Vec ℕ Global). v.items) (c.flush-in-Returns.ensures.functions ∙ c.count.ensures.functions) in
    let now : c.as_slice-len.result.now ≡ t.functions.items = c.as_slice-len.ensures.value ∙ items in
    tally_stays o past s t new h refl (ap (λ (y : Change). calls_after y (frames_standing past)) c.in-Returns.is) (subst (λ (xs : List ℕ). length xs ≤ 1) now c.if-len-gt1.false) items (counted_moved o (s ∷ past) old new counted row row refl refl refl refl)
