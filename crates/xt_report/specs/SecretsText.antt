-- What `secrets` prints ('profile').
use Rattle.std.specs.Prelude.{ℕ, List, ◌++◌, codes}
use Rattle.std.specs.Fmt.{decimal}
use Rattle.xt_map.specs.Fetching.{fetch_at}
use Rattle.xt_trace.specs.Lines.{line_text}
use Rattle.xt_secret_walk.specs.declared.leak.FirstLeak.{FirstLeak}
use Rattle.xt_secret_walk.specs.declared.leak.Secrets.{Secrets}
use Rattle.xt_secret_walk.specs.declared.leak.Secrets.TheVariants.{Whole, Leaks}
use Rattle.xt_report.specs.UsesText.{both_text, insn_text}

-- `secrets leak core C step N`
abbrev pub leak_line : FirstLeak → List ℕ
leak_line first =
    codes "secrets leak core "
    ++ (decimal first.core ++ (codes " step " ++ (decimal first.step ++ codes "\n")))

-- that, the trace line of the record, the line of the instruction at its program counter, and a line
-- for each register that it reads and of which not every bit is known
abbrev pub leak_text : (ℕ → ℕ) → FirstLeak → List ℕ
leak_text code first =
    let pc = first.rec.pc in
    leak_line first
    ++ line_text first.core first.step first.rec
    ++ insn_text (fetch_at code pc) code pc
    ++ both_text first.lacks

-- `secrets whole carried N M`
unfoldable pub kept_text : ℕ → ℕ → List ℕ
kept_text n m =
    codes "secrets whole carried " ++ (decimal n ++ (codes " " ++ (decimal m ++ codes "\n")))

abbrev pub secrets_text : (ℕ → ℕ) → Secrets → List ℕ
secrets_text code (Whole n m) = kept_text n m
secrets_text code (Leaks first) = leak_text code first
