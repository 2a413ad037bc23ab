-- States laws that are proved; nothing that a reader must believe.
-- Assembly; each law is the contract of a function of src/laws.rt.
use Rattle.std.specs.Prelude.{◌≡◌, ℕ, true, false, List, ◌∷◌, ◌++◌, None}
use Rattle.xt_image.specs.declared.image.Image.{Image}
use Rattle.xt_image.specs.ImageParts.{IsWellFormed}
use Rattle.xt_parse.specs.declared.line.Line.{Line}
use Rattle.xt_layout.specs.Pools.{is_open}
use Rattle.xt_asm.specs.Images.{IsImageOfText}
use Rattle.xt_asm.specs.Kinds.{has_no_word, text_fault}
use Rattle.xt_asm.specs.Operands.{site_at}

-- the image of a text without a fault is well formed
abbrev pub TextImageIsWellFormed : Type 0
TextImageIsWellFormed =
    (text : List ℕ) (image : Image) → text_fault text ≡ None → IsImageOfText text image
    → IsWellFormed image

-- no two images are that of one text
abbrev pub TextHasOneImage : Type 0
TextHasOneImage =
    (text : List ℕ) (a b : Image) → IsImageOfText text a → IsImageOfText text b → a ≡ b

-- Where a pool is open, it has the word of each use. So a use lacks one exactly where no
-- `.literal_position` stands before it in its segment.
abbrev pub OpenPoolsServe : Type 0
OpenPoolsServe =
    (lines before : List Line) (l : Line) (rest : List Line) → lines ≡ before ++ l ∷ rest
    → is_open before ≡ true → has_no_word (site_at lines before l) l.statement ≡ false
