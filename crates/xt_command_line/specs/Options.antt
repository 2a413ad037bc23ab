-- The options of `run` and `record` ('profile').
--
-- Profile: the words break the first rule of usage that fails: no command, an unknown one, words
-- that do not match, a text that is no number, range or list, then the limits in the order of
-- `limits`, and then the rule of what is secret. HELP.txt has what holds without an option.
-- Profile: nobody can require of a run that it keeps its secrets and say of none what they are.
-- Note: `entry1` is judged only where it is given; otherwise it is the image's entry, which the
-- image's rules judge.
use Rattle.std.specs.Prelude.{◌≡◌, ◌≢◌, ℕ, ◌+◌, ◌%◌, Bool, true, false, ◌==◌, ◌&&◌, is_none, nat_le}
use Rattle.std.specs.Prelude.{List, [], ◌∷◌, ◌++◌, fold, Option, Some, None, unwrap_or, option_map}
use Rattle.std.specs.Prelude.{Result, Ok, Err, if◌then◌else◌, codes}
use Rattle.std.specs.Option.{option_map_or}
use Rattle.std.specs.List.{before_first, after_first}
use Rattle.std.specs.Str.{bytes_eq}
use Rattle.clap.specs.Words.{App, Row, Rule, Text, first_of, new_app, new_rule, with_rule}
use Rattle.clap.specs.declared.builder.action.ArgAction.TheVariants.{SetTrue}
use Rattle.xt_map.specs.Regions.{region_of, is_executable}
use Rattle.xt_trace.specs.Validity.{IsValid, most_turns}
use Rattle.xt_trace.specs.declared.options.Stack.{Stack}
use Rattle.xt_trace.specs.declared.options.Options.{Options}
use Rattle.xt_command_line.specs.MeaningAnswers.{and_then}
use Rattle.xt_command_line.specs.Numbers.{number_of}
use Rattle.xt_command_line.specs.Parts.{colon}
use Rattle.xt_command_line.specs.Simple.{matched_by}
use Rattle.xt_command_line.specs.TurnOrders.{is_short, order_in}
use Rattle.xt_command_line.specs.Requirements.{is_among, required_in}
use Rattle.xt_command_line.specs.Secrets.{secrets_in}
use Rattle.xt_command_line.specs.Spans.{shown_in}
use Rattle.xt_command_line.specs.declared.command.Refusal.{Refusal}
use Rattle.xt_command_line.specs.declared.command.Refusal.TheVariants as refusal
use Rattle.xt_command_line.specs.declared.options.RunOptions.{RunOptions}
use Rattle.xt_command_line.specs.declared.requirements.Requirement.{Requirement}
use Rattle.xt_command_line.specs.declared.requirements.Requirement.TheVariants as requirement
use Rattle.xt_command_line.specs.declared.secrets.SecretOptions.{SecretOptions}
use Rattle.xt_command_line.specs.declared.spans.Span.{Span}
use Rattle.xt_command_line.specs.declared.turn_orders.TurnOrder.{TurnOrder}

-- ---- the simple commands of clap

-- an option `--name` with one text
abbrev pub option_rule : Text → Rule
option_rule name = record (new_rule name) { long = Some name }

-- a flag `--name`
abbrev pub flag_rule : Text → Rule
flag_rule name = record (new_rule name) { long = Some name; action = Some SetTrue }

abbrev pub with_option : App → Text → App
with_option app name = with_rule app (option_rule name)

abbrev pub with_flag : App → Text → App
with_flag app name = with_rule app (flag_rule name)

-- [--turns0 N] [--turns1 N] [--entry1 N] [--vecbase N] [--stack0 LO:HI] [--stack1 LO:HI]: the
-- turns, and where what lies
abbrev pub place_names : List Text
place_names =
    codes "turns0" ∷ codes "turns1" ∷ codes "entry1"
    ∷ codes "vecbase" ∷ codes "stack0" ∷ codes "stack1" ∷ []

-- these, and [--seed N] [--order LIST]
abbrev pub option_names : List Text
option_names = place_names ++ codes "seed" ∷ codes "order" ∷ []

-- these options and [--require LIST]
abbrev pub required_app : Text → App
required_app name = with_option (fold with_option (new_app name) option_names) (codes "require")

abbrev pub record_app : App
record_app = required_app (codes "record")

-- [--memory LIST] [--secret LIST] [--public LIST]
abbrev pub list_names : List Text
list_names = codes "memory" ∷ codes "secret" ∷ codes "public" ∷ []

-- [--events] [--race] [--profile] [--uses] [--trace]
abbrev pub flag_names : List Text
flag_names =
    codes "events" ∷ codes "race" ∷ codes "profile" ∷ codes "uses" ∷ codes "trace" ∷ []

-- the same options, the lists and the flags
abbrev pub run_app : App
run_app = fold with_flag (fold with_option (required_app (codes "run")) list_names) flag_names

-- ---- the texts of the options

-- a flag that was given has the text `true`
abbrev pub is_set : Option Text → Bool
is_set text = option_map_or (λ t. bytes_eq t (codes "true")) text false

-- ---- the options that the texts say

abbrev pub stack_between : Option ℕ → Option ℕ → Option Stack
stack_between (Some lo) (Some hi) = Some (record { lo = lo; hi = hi })
stack_between _ _ = None

-- the range that `LO:HI` says: the numbers before and after the first colon
unfoldable pub range_of : Text → Option Stack
range_of text =
    stack_between
    (number_of (before_first (λ b. b == colon) text))
    (number_of (after_first (λ b. b == colon) text))

-- what a text says, or the default where there is no text
abbrev pub said_or : {A : Type 0} → (Text → Option A) → A → Option Text → Option A
said_or say default None = Some default
said_or say default (Some text) = say text

-- the number of a text that is given
abbrev pub given_number_of : Text → Option (Option ℕ)
given_number_of text = option_map Some (number_of text)

-- the options of these numbers and ranges, where each is there, with this order, these requirements
-- and these words of memory, and with the flags that were given
abbrev pub options_from :
    List Row → TurnOrder → Option (List Requirement) → Option (List Span) → Option ℕ → Option ℕ
    → Option (Option ℕ) → Option ℕ → Option Stack → Option Stack → Option RunOptions
options_from
    rows order required memory (Some turns0) (Some turns1) (Some entry1) (Some vecbase)
    (Some stack0) (Some stack1) =
    Some (record {
      turns0 = turns0;
      turns1 = turns1;
      entry1 = entry1;
      vecbase = vecbase;
      stack0 = stack0;
      stack1 = stack1;
      order = order;
      trace = is_set (first_of (codes "trace") rows);
      events = is_set (first_of (codes "events") rows);
      race = is_set (first_of (codes "race") rows);
      profile = is_set (first_of (codes "profile") rows);
      uses = is_set (first_of (codes "uses") rows);
      required = required;
      memory = memory;
      secrets = None;
    })
options_from rows order required memory _ _ _ _ _ _ = None

-- the options that the texts say, each with its default, and with these, or none where a text is no
-- number or no range
abbrev pub options_in :
    List Row → TurnOrder → Option (List Requirement) → Option (List Span) → Option RunOptions
options_in rows order required memory = options_from rows order required memory
    (said_or number_of 100000 (first_of (codes "turns0") rows))
    (said_or number_of 100000 (first_of (codes "turns1") rows))
    (said_or given_number_of None (first_of (codes "entry1") rows))
    (said_or number_of 0x40080000 (first_of (codes "vecbase") rows))
    (said_or range_of (record { lo = 0x3FFF0000; hi = 0x3FFF8000 })
    (first_of (codes "stack0") rows))
    (said_or range_of (record { lo = 0x3FFF8000; hi = 0x40000000 })
    (first_of (codes "stack1") rows))

-- ---- the rules of usage that options break

-- a range of at least 256 bytes in the internal data memory, whose ends are multiples of 16
abbrev pub is_stack : Stack → Bool
is_stack s =
    nat_le 0x3FFAE000 s.lo && nat_le s.hi 0x40000000 && s.lo % 16 == 0 && s.hi % 16 == 0
    && nat_le (s.lo + 256) s.hi

-- an address that is given lies in an executable region
abbrev pub is_entry : Option ℕ → Bool
is_entry None = true
is_entry (Some address) = is_executable (region_of address)

-- the rules by their numbers, and whether the options keep them
abbrev pub limits : RunOptions → List (ℕ × Bool)
limits o =
    (5, nat_le o.turns0 most_turns && nat_le o.turns1 most_turns && is_short o.order)
    ∷ (6, is_entry o.entry1)
    ∷ (7, o.vecbase % 1024 == 0)
    ∷ (8, is_stack o.stack0 && is_stack o.stack1)
    ∷ []

-- the number of the first rule that is not kept
abbrev pub first_broken : List (ℕ × Bool) → Option ℕ
first_broken [] = None
first_broken (rule ∷ rest) = if rule.1 then first_broken rest else Some rule.0

abbrev pub unless_broken : {A : Type 0} → Option ℕ → A → Result A Refusal
unless_broken None answer = Ok answer
unless_broken (Some rule) answer = Err (refusal.Usage rule)

abbrev pub within_limits : RunOptions → Result RunOptions Refusal
within_limits o = unless_broken (first_broken (limits o)) o

abbrev pub options_or_refusal : Option RunOptions → Result RunOptions Refusal
options_or_refusal None = Err (refusal.Usage 4)
options_or_refusal (Some o) = within_limits o

-- the options that the texts say, but for what is secret, or the first rule that they break
abbrev pub options_without_secrets : List Row → Result RunOptions Refusal
options_without_secrets rows =
    and_then (order_in (first_of (codes "seed") rows) (first_of (codes "order") rows)) (λ order.
    and_then (required_in (first_of (codes "require") rows)) (λ required.
    and_then (shown_in (first_of (codes "memory") rows)) (λ memory.
    options_or_refusal (options_in rows order required memory))))

-- ---- what is secret

-- the requirements ask for `secrets whole`
abbrev pub are_secrets_required : Option (List Requirement) → Bool
are_secrets_required None = false
are_secrets_required (Some list) = is_among requirement.Secret list

-- the options with what is secret
abbrev pub keeping : RunOptions → Option SecretOptions → RunOptions
keeping o secrets = record o { secrets = secrets }

abbrev pub options_with : RunOptions → Option SecretOptions → Result RunOptions Refusal
options_with o secrets =
    if is_none secrets && are_secrets_required o.required then Err (refusal.Usage 10)
    else Ok (keeping o secrets)

abbrev pub judged_texts : List Row → Result RunOptions Refusal
judged_texts rows =
    and_then (options_without_secrets rows) (λ options.
    and_then (secrets_in (first_of (codes "secret") rows) (first_of (codes "public") rows))
    (options_with options))

-- ---- the meaning of the words

-- the options that the words of `run` say, or the first rule of usage that they break
abbrev pub run_options_of : List Text → Result RunOptions Refusal
run_options_of words = and_then (matched_by run_app words) judged_texts

-- the same of `record`
abbrev pub record_options_of : List Text → Result RunOptions Refusal
record_options_of words = and_then (matched_by record_app words) judged_texts

-- ---- the options of a run

-- the options of a run of an image with this entry
abbrev pub with_entry : RunOptions → ℕ → Options
with_entry o entry = record {
  turns0 = o.turns0;
  turns1 = o.turns1;
  entry1 = unwrap_or o.entry1 entry;
  vecbase = o.vecbase;
  stack0 = o.stack0;
  stack1 = o.stack1;
}

-- they are valid, whatever the entry, if that is in an executable region
abbrev pub AreValid : RunOptions → Type 0
AreValid o = (entry : ℕ) → is_executable (region_of entry) ≡ true → IsValid (with_entry o entry)

-- ---- laws

-- the meaning of words is never that memory ran out
abbrev pub OptionsNeedNoMemory : Type 0
OptionsNeedNoMemory =
    (words : List Text)
    → (run_options_of words ≢ Err refusal.Memory) × (record_options_of words ≢ Err refusal.Memory)

-- valid options with an order that does not ask for too many turns keep every rule
abbrev pub AcceptsValid : Type 0
AcceptsValid = (o : RunOptions) → AreValid o → is_short o.order ≡ true → within_limits o ≡ Ok o
