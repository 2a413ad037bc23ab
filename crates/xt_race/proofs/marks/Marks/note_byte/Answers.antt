use Rattle.std.proofs.Common.{◌<◌, ◌/◌, ◌%◌, List, length, get_or, sym, ◌∙◌, refl, subst, arith}
use Rattle.std.proofs.lemmas.List.{get_or_read}
use Rattle.std.specs.Prelude.{slice_set}
use Rattle.xt_race.specs.declared.latest.Mark.{Mark}
use Rattle.xt_race.proofs.Tabled.{IsPagePast, empty, noted_none, noted_one}
use Rattle.xt_race.proofs.marks.Marks.note_byte.Goals as goal

pub returns-in_ok-note : goal.returns-in_ok-note
returns-in_ok-note c =
    let self = c.args.self.now in
    let old = self.pages.items in
    let place = c.in-Some.place in
    let page = c.note.new.self in
    let lt : place / 64 < length old = omega (arith, c.in-Some.ensures.small, self.sized, self.pages.ok.0) in
    let read = get_or_read old (place / 64) c.index_mut.result.now lt c.index_mut.ensures.value empty in
    let past : IsPagePast c.args.note (place % 64) (get_or old (place / 64) empty) page = subst (λ (l : List Mark). IsPagePast c.args.note (place % 64) l page) read c.in_ok-note.ensures in
    noted_one c.args.note c.args.addr place old (slice_set old (place / 64) page) page (sym c.in-Some.ensures.place) lt past refl

pub returns-in_default : goal.returns-in_default
returns-in_default c = noted_none c.args.note c.args.addr c.args.self.now.pages.items (sym c.place_of.ensures.place ∙ c.in_default.is)
