-- What the words require of a run ('profile'). A text is the list of its bytes.
use Rattle.std.specs.Prelude.{ℕ, Bool, ◌==◌, List, [], ◌∷◌, ◌++◌, Option, Some, None, Result, Ok}
use Rattle.std.specs.Prelude.{if◌then◌else◌, codes, ok_or, option_map}
use Rattle.std.specs.List.{list_any, slice_split}
use Rattle.std.specs.Str.{bytes_eq}
use Rattle.clap.specs.Words.{Text}
use Rattle.xt_command_line.specs.Parts.{comma}
use Rattle.xt_command_line.specs.declared.command.Refusal.{Refusal}
use Rattle.xt_command_line.specs.declared.command.Refusal.TheVariants as refusal
use Rattle.xt_command_line.specs.declared.requirements.Requirement.{Requirement}
use Rattle.xt_command_line.specs.declared.requirements.Requirement.TheVariants as requirement

-- the requirement that a word names
unfoldable pub requirement_of : Text → Option Requirement
requirement_of word =
    if bytes_eq word (codes "break") then Some requirement.Break
    else if bytes_eq word (codes "whole") then Some requirement.Whole
    else if bytes_eq word (codes "used") then Some requirement.Used
    else if bytes_eq word (codes "race-free") then Some requirement.RaceFree
    else if bytes_eq word (codes "exit0") then Some requirement.Exit0
    else if bytes_eq word (codes "secret") then Some requirement.Secret
    else None

abbrev pub number_of_requirement : Requirement → ℕ
number_of_requirement requirement.Break = 0
number_of_requirement requirement.Whole = 1
number_of_requirement requirement.Used = 2
number_of_requirement requirement.RaceFree = 3
number_of_requirement requirement.Exit0 = 4
number_of_requirement requirement.Secret = 5

abbrev pub is_among : Requirement → List Requirement → Bool
is_among r list = list_any (λ one. number_of_requirement one == number_of_requirement r) list

-- one more requirement, if there is one, and it does not stand among the others
abbrev pub with_requirement : List Requirement → Option Requirement → Option (List Requirement)
with_requirement list None = None
with_requirement list (Some r) = if is_among r list then None else Some (list ++ (r ∷ []))

-- these requirements, and those that the texts name: each names one that does not stand before it
abbrev pub all_from : Option (List Requirement) → List Text → Option (List Requirement)
all_from list [] = list
all_from None (text ∷ texts) = None
all_from (Some list) (text ∷ texts) = all_from (with_requirement list (requirement_of text)) texts

-- the requirements that a text lists, with commas between them
abbrev pub requirements_in : Text → Option (List Requirement)
requirements_in text = all_from (Some []) (slice_split (λ b. b == comma) text)

-- by the text of `--require`
abbrev pub required_in : Option Text → Result (Option (List Requirement)) Refusal
required_in None = Ok None
required_in (Some text) = ok_or (option_map Some (requirements_in text)) (refusal.Usage 4)
