-- The lines of `outcomes --any-time` ('profile').
use Rattle.std.specs.Prelude.{ℕ, List, [], ◌∷◌, codes, length, flat_map}
use Rattle.std.specs.List.{concat, zip}
use Rattle.std.specs.Fmt.{decimal}
use Rattle.xt_word.specs.Hexadecimal.{hex8}
use Rattle.xt_report.specs.Reports.{newline, uart_lines}
use Rattle.xt_moment_search.specs.MomentOrders.{moments_order_text}
use Rattle.xt_moment_search.specs.declared.answers.Answers.{Answers}
use Rattle.xt_moment_search.specs.declared.stuck.Stuck.{Stuck}
use Rattle.xt_moment_search.specs.declared.stuck.Stuck.TheVariants as stuck
use Rattle.xt_moment_search.specs.declared.answers.Ending.{Ending}
use Rattle.xt_moment_search.specs.declared.answers.Ending.TheVariants as ending
use Rattle.xt_moment_search.specs.declared.found.Found.{Found}

-- `core C stop S pc ADDR`
abbrev pub core_end_line : ℕ → List ℕ → ℕ → List ℕ
core_end_line core stop pc = concat (
    codes "core " ∷ decimal core
    ∷ codes " stop " ∷ stop
    ∷ codes " pc " ∷ hex8 pc
    ∷ newline ∷ [])

-- of a core that was stopped by BREAK
abbrev pub stopped_line : ℕ → ℕ → List ℕ
stopped_line core pc = core_end_line core (codes "break") pc

-- `word ADDR VALUE`
abbrev pub value_line : ℕ × ℕ → List ℕ
value_line w = concat (codes "word " ∷ hex8 w.0 ∷ codes " " ∷ hex8 w.1 ∷ newline ∷ [])

-- `order LIST`
abbrev pub moments_order_line : Found → List ℕ
moments_order_line x = concat (codes "order " ∷ moments_order_text x.order.items ∷ newline ∷ [])

-- what was sent, where each core stopped, the words at the addresses, and an order that leads there
unfoldable pub found_text : List ℕ → Found → List ℕ
found_text addresses x = concat (
    codes "outcome "
    ∷ uart_lines x.outcome.sent
    ∷ stopped_line 0 x.outcome.pc0
    ∷ stopped_line 1 x.outcome.pc1
    ∷ flat_map value_line (zip addresses x.outcome.words)
    ∷ moments_order_line x
    ∷ [])

abbrev pub found_line : ℕ → List ℕ
found_line n = concat (codes "outcomes " ∷ decimal n ∷ newline ∷ [])

-- orders that no order continues until both cores have stopped, and what is not looked at
abbrev pub stuck_lines : Stuck → List ℕ
stuck_lines stuck.Never = codes "stuck none\nrace unknown\nframes unknown\n"
stuck_lines (stuck.Order order) = concat (
    codes "stuck " ∷ moments_order_text order.items
    ∷ codes "\nrace unknown\nframes unknown\n"
    ∷ [])
stuck_lines stuck.Unknown = codes "stuck unknown\nrace unknown\nframes unknown\n"

-- every order with moments was looked at, or as many worlds were kept as may be, or a turn uses
-- what is not known
abbrev pub ending_line : Ending → List ℕ
ending_line ending.All = codes "all\n"
ending_line ending.States = codes "some states\n"
ending_line (ending.Time core pc) = concat (
    codes "some time core " ∷ decimal core
    ∷ codes " pc " ∷ hex8 pc
    ∷ newline ∷ [])

abbrev pub moments_text : List ℕ → Answers → List ℕ
moments_text addresses a = concat (
    flat_map (found_text addresses) a.found.items
    ∷ found_line (length a.found.items)
    ∷ stuck_lines a.stuck
    ∷ ending_line a.ended
    ∷ [])
