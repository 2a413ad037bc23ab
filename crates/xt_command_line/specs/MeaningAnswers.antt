-- What a function answers beside the meaning of words ('profile').
use Rattle.std.specs.Prelude.{◌≡◌, Result, Ok, Err}
use Rattle.xt_command_line.specs.declared.command.Refusal.{Refusal}
use Rattle.xt_command_line.specs.declared.command.Refusal.TheVariants as refusal

-- what is made of an answer, or the same refusal
abbrev pub answer_with : {A B : Type 0} → (A → B) → Result A Refusal → Result B Refusal
answer_with make (Ok answer) = Ok (make answer)
answer_with make (Err r) = Err r

-- what comes of an answer, or the same refusal
abbrev pub and_then :
    {A B : Type 0} → Result A Refusal → (A → Result B Refusal) → Result B Refusal
and_then (Ok answer) rest = rest answer
and_then (Err r) rest = Err r

-- what was answered is the meaning, unless memory ran out
abbrev pub Means : {A : Type 0} → Result A Refusal → Result A Refusal → Type 0
Means (Err refusal.Memory) meant = Unit {0}
Means answer meant = answer ≡ meant

-- the same of an answer that is seen as another value
abbrev pub MeansAs :
    {A B : Type 0} → (A → B) → Result A Refusal → Result B Refusal → Type 0
MeansAs view (Err refusal.Memory) meant = Unit {0}
MeansAs view (Err r) meant = meant ≡ Err r
MeansAs view (Ok answer) meant = meant ≡ Ok (view answer)
