-- The map of a text, from what assembly answers.
use Rattle.std.proofs.Common.{◌≡◌, ℕ, List, Ok, Err, subst}
use Rattle.xt_lex.specs.declared.fault.AsmFault.{AsmFault}
use Rattle.xt_lex.specs.declared.fault.AsmFault.TheVariants as fault
use Rattle.xt_lex.specs.Tokens.{tokens_of}
use Rattle.xt_image.specs.declared.image.Image.{Image}
use Rattle.xt_lex.specs.declared.labels.Label.{Label}
use Rattle.xt_parse.specs.declared.line.Line.{Line}
use Rattle.xt_parse.specs.Lines.{parsed_lines}
use Rattle.xt_layout.specs.Addresses.{labels_of}
use Rattle.xt_asm.specs.Images.{Assembles, AssemblesLines}
use Rattle.xt_asm.specs.Maps.{IsMapOf, Maps}
use Rattle.xt_asm.proofs.Closing.{assembles_read}

-- a fault is the same
pub maps_refused : (e : AsmFault) (text : List ℕ) → Assembles (Err e) text → Maps (Err e) text
maps_refused (fault.Place place) text exact = exact
maps_refused fault.Memory text exact = tt

pub maps_made : (image : Image) (map text : List ℕ) (lines : List Line) (labels : List Label) → parsed_lines (tokens_of text) ≡ Ok lines → AssemblesLines (Ok image) lines → labels ≡ labels_of lines → IsMapOf labels map →
    Maps (Ok map) text
maps_made image map text lines labels read all labels_are is =
    let P : List Label → Type 0 = λ ls. IsMapOf ls map in
    ((assembles_read (Ok image) text lines read all).0, record { lines = lines; read = read; map_is = subst P labels_are is })
