use Rattle.std.proofs.Common.{◌≡◌, ◌+◌, refl, ap, ◌∙◌, subst}
use Rattle.std.specs.Prelude.{nat_lt}
use Rattle.xt_race.specs.declared.finder.Finder.{Finder}
use Rattle.xt_race.specs.declared.latest.Note.{Note}
use Rattle.xt_race.specs.Tables.{IsNoted, mark_at, note_of, rival_of, some_byte, with_seen}
use Rattle.xt_race.proofs.Stepping.{taken}
use Rattle.xt_race.proofs.finder.Finder.take.Goals as goal

pub returns-clause-taken : goal.returns-clause-taken
returns-clause-taken c events n h at low =
    let old = c.args.self.now in
    let e = c.args.event.now in
    let addr = e.entry.access.addr in
    let size = e.entry.access.size in
    let seen = c.acquired-seen.result in
    let mid : Finder = record { count = old.count; seen0 = old.seen0; seen1 = old.seen1; marks = c.note.new.self; releases = c.keep.new.self } in
    let new : Finder = record c.keep_seen.new.self { count = old.count + 1 } in
    let note_is : c.note_of-note.result ≡ note_of e (old.count + 1) = c.note_of-note.ensures in
    taken old mid new events n e (old.count + 1) seen c.has_rival-hit.result h at low refl c.acquired-seen.ensures
    (c.has_rival-hit.ensures ∙ ap (λ (m : Note). some_byte (λ a. nat_lt seen (rival_of m (mark_at old.marks a))) addr size) note_is)
    (subst (λ (m : Note). IsNoted m addr size old.marks c.note.new.self) note_is c.in_ok-note.ensures)
    c.in_ok-keep.ensures refl refl
    (ap (λ (f : Finder). record f { count = old.count + 1 }) (c.keep_seen.ensures ∙ ap (λ (m : Note). with_seen m.core seen mid) note_is))
