-- What `gen` writes of the run of the image that is made of a number ('profile').
use Rattle.std.specs.Prelude.{ℕ, List, [], ◌∷◌, ◌++◌, codes}
use Rattle.std.specs.List.{concat}
use Rattle.std.specs.Fmt.{decimal}
use Rattle.xt_trace.specs.declared.trace.Trace.{Trace}
use Rattle.xt_report.specs.declared.whole.Whole.{Whole}
use Rattle.xt_report.specs.Reports.{newline, sent_bytes, stop_text}
use Rattle.xt_report.specs.Verdicts.{frames_line}

-- `gen N`, and `image L`: the length of the image in bytes
abbrev pub gen_lines : ℕ → ℕ → List ℕ
gen_lines number size = concat (
    codes "gen " ∷ decimal number ∷ newline ∷ codes "image " ∷ decimal size ∷ newline ∷ [])

-- `uart` and the bytes that were sent
abbrev pub sent_line : List ℕ → List ℕ
sent_line sent = codes "uart " ++ sent ++ newline

-- `core C stop S`
abbrev pub stop_line : ℕ → Trace → List ℕ
stop_line core trace =
    concat (codes "core " ∷ decimal core ∷ codes " stop " ∷ stop_text trace.stop ∷ newline ∷ [])

unfoldable pub summary_text : ℕ → ℕ → Whole → List ℕ
summary_text number size w =
    gen_lines number size
    ++ sent_line (sent_bytes w.run.history)
    ++ stop_line 0 w.run.trace0
    ++ stop_line 1 w.run.trace1
    ++ frames_line w.judged
