-- The report of a run ('profile').
--
-- Profile: the line of sent bytes is printed also where there are none. The limits of inputs bound
-- the memory that reading takes.
use Rattle.std.specs.Prelude.{◌≡◌, ℕ, ◌%◌, ◌==◌, if◌then◌else◌, Option}
use Rattle.std.specs.Prelude.{Some, None, List, [], ◌∷◌, ◌++◌, length, codes}
use Rattle.std.specs.List.{concat, filter_map}
use Rattle.std.specs.Fmt.{decimal}
use Rattle.xt_word.specs.Hexadecimal.{hex8}
use Rattle.xt_map.specs.Regions.{uart_transmit}
use Rattle.xt_map.specs.History.{memory_after}
use Rattle.xt_map.specs.declared.contents.MemoryContents.{MemoryContents}
use Rattle.xt_map.specs.declared.access.Kind.{Kind}
use Rattle.xt_map.specs.declared.access.Kind.TheVariants.{Load, Store, Cas}
use Rattle.xt_map.specs.declared.access.Entry.{Entry}
use Rattle.xt_trace.specs.declared.trace.Stop.{Stop}
use Rattle.xt_trace.specs.declared.trace.Stop.TheVariants.{Break, Turns}
use Rattle.xt_trace.specs.declared.trace.Trace.{Trace}
use Rattle.xt_trace.specs.declared.run.Run.{Run}
use Rattle.xt_report.specs.Verdicts.{frames_line, handlers_line}
use Rattle.xt_report.specs.declared.whole.Whole.{Whole}

abbrev pub newline : List ℕ
newline = 10 ∷ []

-- ---- the bytes that UART0 sends

-- a store sends its low byte
abbrev pub byte_sent : Kind → Option ℕ
byte_sent (Store value) = Some (value % 256)
byte_sent _ = None

-- the byte that an entry sends: only accesses to the transmit address send
abbrev pub byte_of : Entry → Option ℕ
byte_of entry = if entry.access.addr == uart_transmit then byte_sent entry.access.kind else None

-- the bytes that a history sends, in order
abbrev pub sent_bytes : List Entry → List ℕ
sent_bytes entries = filter_map byte_of entries

-- as a law: what memory has sent after the entries is what it had sent before, and then these
abbrev pub SendsAsMemory : Type 0
SendsAsMemory =
    (m : MemoryContents) (entries : List Entry)
    → (memory_after m entries).sent ≡ m.sent ++ sent_bytes entries

-- ---- the report

abbrev pub stop_text : Stop → List ℕ
stop_text Break = codes "break"
stop_text Turns = codes "turns"

-- `core C stop S turns K pc ADDR`: why the trace ended, its number of records, and the last program
-- counter
abbrev pub core_line : ℕ → Trace → List ℕ
core_line core trace = concat (
    codes "core " ∷ decimal core
    ∷ codes " stop " ∷ stop_text trace.stop
    ∷ codes " turns " ∷ decimal trace.count
    ∷ codes " pc " ∷ hex8 trace.pc
    ∷ newline ∷ [])

-- `uart N`, and then the N bytes that were sent in a line of their own
abbrev pub uart_lines : List ℕ → List ℕ
uart_lines sent = codes "uart " ++ decimal (length sent) ++ newline ++ sent ++ newline

-- `history N`: how many accesses the bus served
abbrev pub history_line : ℕ → List ℕ
history_line count = codes "history " ++ decimal count ++ newline

-- the lines of a run by itself
unfoldable pub run_lines : Run → List ℕ
run_lines run =
    uart_lines (sent_bytes run.history)
    ++ core_line 0 run.trace0
    ++ core_line 1 run.trace1
    ++ history_line (length run.history)

-- these lines, and those of the window handlers and the verdict
unfoldable pub report_text : Whole → List ℕ
report_text w = run_lines w.run ++ handlers_line w.handlers ++ frames_line w.judged
