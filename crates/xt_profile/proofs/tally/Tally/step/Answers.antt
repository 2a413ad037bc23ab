use Rattle.std.proofs.Common.{◌≡◌, ◌+◌, ◌∷◌, ℕ, List, Vec, Global, length, refl, sym, ap, ◌∙◌}
use Rattle.xt_profile.specs.declared.tally.Tally.{Tally}
use Rattle.xt_profile.specs.Steps.{Step, frames_standing}
use Rattle.xt_profile.specs.CountedSteps.{AreCounted}
use Rattle.xt_profile.proofs.Telling.{counted_moved, resized_is, tally_changed, tally_same}
use Rattle.xt_profile.proofs.tally.Tally.step.Goals as goal

pub flush-requires-clause-known : goal.flush-requires-clause-known
flush-requires-clause-known c =
    let q = c.requires.known in
    let s : Step = record { pc = c.args.pc; phase = c.args.phase; before = frames_standing q.1; after = c.args.after } in
    (q.0, s ∷ q.1, c.count.ensures.counted q.0 q.1 s q.2 refl refl)

pub returns : goal.returns
returns c opening past h =
    let s : Step = record { pc = c.args.pc; phase = c.args.phase; before = frames_standing past; after = c.args.after } in
    let t = c.args.self.now in
    let counted : AreCounted opening (s ∷ past) c.flush.new.self = c.in_ok-flush.ensures.counted opening (s ∷ past) (c.count.ensures.counted opening past s h refl refl) in
    let new : Tally = record c.flush.new.self { functions = c.resize.new.self } in
    let moved = counted_moved opening (s ∷ past) c.flush.new.self new counted c.in_ok-flush.ensures.row c.in_ok-flush.ensures.row refl refl refl refl in
    let same : c.flush.new.self.functions ≡ t.functions = c.flush.ensures.functions ∙ c.count.ensures.functions in
    let items : c.flush.new.self.functions.items ≡ t.functions.items = ap (λ (v : Vec ℕ Global). v.items) same in
    let len : c.flush.new.self.functions.len ≡ length c.flush.new.self.functions.items =
    ap (λ (v : Vec ℕ Global). v.len) c.flush.ensures.functions ∙ (sym c.as_slice-len.ensures.len ∙ (ap (λ (xs : List ℕ). length xs) c.as_slice-len.ensures.value ∙ ap (λ (v : Vec ℕ Global). length v.items) (sym c.flush.ensures.functions))) in
    tally_changed opening past s t new c.flush.new.self.functions.items h refl items (resized_is (c.args.after + 1) c.args.pc c.flush.new.self.functions.items c.resize.new.self.items c.flush.new.self.functions.len len c.in_ok-resize.ensures.items) moved

pub returns-then-depth-len : goal.returns-then-depth-len
returns-then-depth-len c opening past h =
    let s : Step = record { pc = c.args.pc; phase = c.args.phase; before = frames_standing past; after = c.args.after } in
    let t = c.args.self.now in
    let now : c.as_slice-len.result.now ≡ t.functions.items = c.as_slice-len.ensures.value ∙ ap (λ (v : Vec ℕ Global). v.items) c.count.ensures.functions in
    tally_same opening past s t c.count.new.self h refl c.count.ensures.functions (c.if-depth-len.true ∙ ap (λ (xs : List ℕ). length xs) now) (c.count.ensures.counted opening past s h refl refl)
