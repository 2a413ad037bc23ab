-- Places of memory that words list, and which words of memory are shown at the end of a run
-- ('profile'). A text is the list of its bytes.
use Rattle.std.specs.Prelude.{ℕ, Bool, ◌==◌, nat_le, List, length, Option, Some, None, Result}
use Rattle.std.specs.Prelude.{Ok, if◌then◌else◌, ok_or, option_map}
use Rattle.std.specs.List.{before_first, after_first, list_all, slice_split}
use Rattle.clap.specs.Words.{Text}
use Rattle.xt_command_line.specs.Numbers.{number_of}
use Rattle.xt_command_line.specs.Parts.{all_said, colon, comma, passing}
use Rattle.xt_command_line.specs.declared.command.Refusal.{Refusal}
use Rattle.xt_command_line.specs.declared.command.Refusal.TheVariants as refusal
use Rattle.xt_command_line.specs.declared.spans.Span.{Span}

-- so many from an address on
abbrev pub span_by : Option ℕ → Option ℕ → Option Span
span_by (Some addr) (Some count) =
    Some (record { addr = addr; count = count })
span_by _ _ = None

-- `ADDR:N`: the numbers before and after the first colon
unfoldable pub span_of : Text → Option Span
span_of text =
    span_by
    (number_of (before_first (λ b. b == colon) text))
    (number_of (after_first (λ b. b == colon) text))

abbrev pub at_most_four : List Text → Option (List Span)
at_most_four texts = if nat_le (length texts) 4 then all_said span_of texts else None

-- the spans that a text lists, with commas between them
abbrev pub spans_in : Text → Option (List Span)
spans_in text = at_most_four (slice_split (λ b. b == comma) text)

-- ---- the words that are shown

-- at most 64 in each place
abbrev pub are_small : List Span → Bool
are_small spans = list_all (λ s. nat_le s.count 64) spans

-- by the text of `--memory`
abbrev pub shown_in : Option Text → Result (Option (List Span)) Refusal
shown_in None = Ok None
shown_in (Some text) =
    ok_or (option_map Some (passing are_small (spans_in text))) (refusal.Usage 4)
