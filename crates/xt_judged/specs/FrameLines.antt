-- What is judged of the runs of all orders, in lines ('profile').
use Rattle.std.specs.Prelude.{ℕ, List, [], ◌∷◌, ◌++◌, codes, flat_map}
use Rattle.std.specs.List.{concat}
use Rattle.std.specs.Fmt.{decimal}
use Rattle.xt_word.specs.Hexadecimal.{hex8}
use Rattle.xt_report.specs.Breaches.{kind_text}
use Rattle.xt_report.specs.Reports.{newline}
use Rattle.xt_judged.specs.OrderText.{order_text}
use Rattle.xt_judged.specs.declared.frames.JudgedOrders.{JudgedOrders}
use Rattle.xt_judged.specs.declared.frames.JudgedOrders.TheVariants as frames
use Rattle.xt_judged.specs.declared.frames.OrderBreach.{OrderBreach}

abbrev pub frames_word : JudgedOrders → List ℕ
frames_word frames.Unknown = codes "unknown"
frames_word frames.Unchecked = codes "none"
frames_word frames.Whole = codes "whole"
frames_word (frames.Broken breaches) = codes "broken"

-- `breach KIND core C pc ADDR order LIST`
abbrev pub breach_line : OrderBreach → List ℕ
breach_line b = concat (
    codes "breach " ∷ kind_text b.kind
    ∷ codes " core " ∷ decimal b.core
    ∷ codes " pc " ∷ hex8 b.pc
    ∷ codes " order " ∷ order_text b.order.items
    ∷ newline ∷ [])

abbrev pub breach_lines : JudgedOrders → List ℕ
breach_lines (frames.Broken breaches) = flat_map breach_line breaches.items
breach_lines _ = []

-- `frames F`, and the breaches that were met
abbrev pub frames_line : JudgedOrders → List ℕ
frames_line f = concat (codes "frames " ∷ frames_word f ∷ newline ∷ [])

abbrev pub frames_lines : JudgedOrders → List ℕ
frames_lines f = frames_line f ++ breach_lines f
