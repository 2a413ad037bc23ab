-- A breach in words ('profile').
use Rattle.std.specs.Prelude.{List, ℕ, ◌++◌, codes}
use Rattle.std.specs.Fmt.{decimal}
use Rattle.xt_frames.specs.declared.kinds.Breach.{Breach}
use Rattle.xt_frames.specs.declared.kinds.BreachKind.{BreachKind}
use Rattle.xt_frames.specs.declared.kinds.BreachKind.TheVariants as kind

abbrev pub kind_text : BreachKind → List ℕ
kind_text kind.Unset = codes "Unset"
kind_text kind.SpWritten = codes "SpWritten"
kind_text kind.FrameSize = codes "FrameSize"
kind_text kind.StackRange = codes "StackRange"
kind_text kind.SpAlign = codes "SpAlign"
kind_text kind.OpeningCall = codes "OpeningCall"
kind_text kind.ReturnMismatch = codes "ReturnMismatch"
kind_text kind.NoCaller = codes "NoCaller"
kind_text kind.SaveStore = codes "SaveStore"
kind_text kind.StaleLoad = codes "StaleLoad"
kind_text kind.ExcmRegister = codes "ExcmRegister"
kind_text kind.WindowInstruction = codes "WindowInstruction"
kind_text kind.WindowRegister = codes "WindowRegister"
kind_text kind.WoeCleared = codes "WoeCleared"
kind_text kind.VecbaseMoved = codes "VecbaseMoved"
kind_text kind.EpcLost = codes "EpcLost"
kind_text kind.Movsp = codes "Movsp"
kind_text kind.VectorEntered = codes "VectorEntered"
kind_text kind.Nested = codes "Nested"

-- `breach KIND core C step N`
abbrev pub breach_text : Breach → List ℕ
breach_text b =
    codes "breach " ++ (kind_text b.kind
    ++ (codes " core " ++ (decimal b.core ++ (codes " step " ++ decimal b.step))))
