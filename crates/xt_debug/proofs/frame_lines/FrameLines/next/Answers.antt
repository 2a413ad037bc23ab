use Rattle.std.proofs.Common.{◌≡◌, ℕ, List, ◌∷◌, sym, ap, ap₂, ◌∙◌}
use Rattle.xt_events.specs.Lines.{lines_in}
use Rattle.xt_debug.specs.FrameNotes.{note_at, noted, with_note}
use Rattle.xt_debug.proofs.FrameNoting.{noted_on}
use Rattle.xt_debug.proofs.Lines.{given_line, given_none}
use Rattle.xt_debug.proofs.frame_lines.FrameLines.next.Goals as goal

pub returns-in-None : goal.returns-in-None
returns-in-None c =
    let t = c.self.inside in
    sym c.self.view_is ∙ ap (noted t.walk.image t.walk.run t.walk.position) (given_none _ _ t.lines c.next.new.self c.in_ok-next.was c.in-None.is c.next.ensures)

pub returns-in_ok-text-in-Some : goal.returns-in_ok-text-in-Some
returns-in_ok-text-in-Some c =
    let t = c.self.inside in
    let s = t.walk in
    let line = c.in-Some.line in
    let rest = lines_in c.next.new.self in
    let given = given_line _ _ line t.lines c.next.new.self c.in_ok-next.was c.in-Some.is c.next.ensures in
    let note = note_at s.image s.run s.position in
    let text : c.in_ok-text-in-Some.text ≡ with_note line note = c.in_ok-text-in-Some.ensures.text in
    let (core, moved) = c.noted_line.ensures.moved in
    sym c.self.view_is
    ∙ (ap (noted s.image s.run s.position) given
    ∙ ap₂ (λ (x : List ℕ) (xs : List (List ℕ)). x ∷ xs) (sym text) (noted_on s c.noted_line.new.walk core rest moved))
