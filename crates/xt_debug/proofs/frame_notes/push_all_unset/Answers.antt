use Rattle.std.proofs.Common.{◌≡◌, ℕ, List, ◌++◌, ◌∙◌, subst}
use Rattle.std.specs.Prelude.{OnOk, codes, string_bytes}
use Rattle.xt_debug.specs.FrameNotes.{listed}
use Rattle.xt_debug.proofs.frame_notes.push_all_unset.Goals as goal

pub returns : goal.returns
returns c =
    let P : List ℕ → Type 0 = λ items. OnOk c.push_listed.result (string_bytes c.push_listed.new.out ≡ string_bytes c.args.out.now ++ listed (codes " unset") items) in
    subst P (c.deref.ensures ∙ c.in_ok-unset.ensures) c.push_listed.ensures
