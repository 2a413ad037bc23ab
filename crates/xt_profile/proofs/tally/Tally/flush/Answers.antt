use Rattle.std.proofs.Common.{◌≡◌, ◌+◌, ℕ, List, map, refl, ap, subst, ◌∙◌}
use Rattle.xt_profile.specs.Keys.{shown_key}
use Rattle.xt_profile.specs.CountedSteps.{count_in, puts, line_of_entry}
use Rattle.xt_profile.proofs.Telling.{count_fits, counted_flushed}
use Rattle.xt_profile.proofs.tally.Tally.flush.Goals as goal

pub add-requires : goal.add-requires
add-requires c =
    let q = c.requires.known in
    count_fits q.0 q.1 c.args.self.now c.in_ok-key.key.items q.2 c.requires.room

pub returns-in_ok-add-clause-counted : goal.returns-in_ok-add-clause-counted
returns-in_ok-add-clause-counted c opening past h =
    let t = c.args.self.now in
    let key = c.in_ok-key.ensures ∙ (ap (shown_key t.depth) c.deref.ensures.value ∙ ap (λ (d : ℕ). shown_key d t.functions.items) h.depth_is) in
    let P : List ℕ → Type 0 = λ k. map line_of_entry c.add.new.counts.entries ≡ puts k (count_in k (map line_of_entry t.counts.entries) + t.row) (map line_of_entry t.counts.entries) in
    counted_flushed opening past t (record t { counts = c.add.new.counts; row = 0 }) h c.if-self-gt0.true refl refl refl refl refl (subst P key c.in_ok-add.ensures)
