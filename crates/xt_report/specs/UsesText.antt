-- What `uses` prints ('profile').
use Rattle.std.specs.Prelude.{ℕ, ◌+◌, Option, Some, None, List, [], ◌∷◌, ◌++◌, codes}
use Rattle.std.specs.Fmt.{decimal}
use Rattle.xt_word.specs.Hexadecimal.{hex8}
use Rattle.xt_map.specs.Fetching.{Fetched, Fetches, fetch_at}
use Rattle.xt_trace.specs.Lines.{line_text}
use Rattle.xt_frames.specs.declared.kinds.BreachKind.{BreachKind}
use Rattle.xt_frames.specs.declared.kinds.BreachKind.TheVariants as kind
use Rattle.xt_disasm.specs.Listing.{code_line}
use Rattle.xt_uses.specs.declared.lacking.Lack.{Lack}
use Rattle.xt_use_walk.specs.declared.walk.FirstUse.{FirstUse}
use Rattle.xt_use_walk.specs.declared.walk.Uses.{Uses}
use Rattle.xt_use_walk.specs.declared.walk.Uses.TheVariants.{Unchecked, Whole, Broken}
use Rattle.xt_report.specs.Breaches.{breach_text}

-- ---- the instruction

-- the line that a listing has of the bytes at an address and at the two after it
abbrev pub listed_at : (ℕ → ℕ) → ℕ → List ℕ
listed_at code pc = code_line pc (code pc ∷ code (pc + 1) ∷ code (pc + 2) ∷ [])

-- where the address fetches an instruction, its line
abbrev pub insn_text : Fetched → (ℕ → ℕ) → ℕ → List ℕ
insn_text (Fetches i len) code pc = listed_at code pc
insn_text _ code pc = []

-- ---- the registers of which not every bit is known

-- the mark that it holds, or its value and the known bits
abbrev pub held_text : Lack → Option ℕ → List ℕ
held_text l (Some mark) = codes "mark " ++ decimal mark
held_text l None = hex8 l.value ++ (codes " known " ++ hex8 l.mask)

-- `aK mark J` or `aK VALUE known MASK`, where there is such a register
abbrev pub lack_text : Option Lack → List ℕ
lack_text None = []
lack_text (Some l) =
    codes "a" ++ (decimal l.number ++ (codes " " ++ (held_text l l.mark ++ codes "\n")))

abbrev pub both_text : Option Lack × Option Lack → List ℕ
both_text lacks = lack_text lacks.0 ++ lack_text lacks.1

-- for Unset alone
abbrev pub lacks_text : BreachKind → Option Lack × Option Lack → List ℕ
lacks_text kind.Unset lacks = both_text lacks
lacks_text _ lacks = []

-- ---- the text

-- `uses breach KIND core C step N`, the trace line of the record, and the lines above
abbrev pub broken_text : (ℕ → ℕ) → FirstUse → List ℕ
broken_text code first =
    let pc = first.rec.pc in
    codes "uses " ++ breach_text first.breach ++ codes "\n"
    ++ line_text first.breach.core first.breach.step first.rec
    ++ insn_text (fetch_at code pc) code pc
    ++ lacks_text first.breach.kind first.lacks

-- `uses whole carried N M`
unfoldable pub whole_text : ℕ → ℕ → List ℕ
whole_text n m =
    codes "uses whole carried " ++ decimal n ++ codes " " ++ decimal m ++ codes "\n"

-- `uses none`, what is carried, or the breach
abbrev pub uses_text : (ℕ → ℕ) → Uses → List ℕ
uses_text code Unchecked = codes "uses none\n"
uses_text code (Whole n m) = whole_text n m
uses_text code (Broken first) = broken_text code first
