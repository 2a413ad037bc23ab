-- What `run --memory` writes of memory as the run leaves it ('profile').
use Rattle.std.specs.Prelude.{ℕ, List, [], length}
use Rattle.std.specs.List.{flat_map}
use Rattle.std.specs.Option.{option_map_or}
use Rattle.xt_image.specs.declared.image.Image.{Image}
use Rattle.xt_trace.specs.declared.run.Run.{Run}
use Rattle.xt_core.specs.Positions.{schedule_in}
use Rattle.xt_replay.specs.Shown.{Shown, byte_in, shown_at}
use Rattle.xt_replay.specs.Printed.{words_text}
use Rattle.xt_command_line.specs.declared.options.RunOptions.{RunOptions}
use Rattle.xt_command_line.specs.declared.spans.Span.{Span}

-- a line as the command `words ADDR N` of a script prints it
abbrev pub span_line : Shown → Span → List ℕ
span_line shown s = words_text (λ a. byte_in a shown) s.addr s.count

abbrev pub span_lines : Shown → List Span → List ℕ
span_lines shown spans = flat_map (span_line shown) spans

-- after the last turn
abbrev pub shown_last : Image → Run → Shown
shown_last image r = shown_at image r (length (schedule_in r))

-- a line for each place that the words name
abbrev pub memory_text : RunOptions → Image → Run → List ℕ
memory_text o image r = option_map_or (span_lines (shown_last image r)) o.memory []
