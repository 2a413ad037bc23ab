-- Which bytes of memory are secret and which public, by the words ('profile'). A text is the list
-- of its bytes.
--
-- Profile: a range lies whole in one region of memory. Constant memory is none: each image has its
-- own, so that another secret there would be another program.
use Rattle.std.specs.Prelude.{ℕ, ◌+◌, Bool, ◌&&◌, nat_le, List, [], Option, Some, None}
use Rattle.std.specs.Prelude.{option_and_then, Result, Ok, Err, if◌then◌else◌}
use Rattle.std.specs.List.{list_any}
use Rattle.clap.specs.Words.{Text}
use Rattle.xt_map.specs.Regions.{Range, is_memory, ranges}
use Rattle.xt_command_line.specs.Parts.{all_said}
use Rattle.xt_command_line.specs.Spans.{spans_in}
use Rattle.xt_command_line.specs.declared.command.Refusal.{Refusal}
use Rattle.xt_command_line.specs.declared.command.Refusal.TheVariants as refusal
use Rattle.xt_command_line.specs.declared.secrets.SecretOptions.{SecretOptions}
use Rattle.xt_command_line.specs.declared.spans.Span.{Span}

-- all of these bytes lie in this range of addresses, which is memory
abbrev pub holds_bytes : Span → Range → Bool
holds_bytes s r =
    is_memory (Some r.region) && (nat_le r.first s.addr && nat_le (s.addr + s.count) (r.last + 1))

-- a byte or more, all in one region of memory
unfoldable pub is_range : Span → Bool
is_range s = nat_le 1 s.count && list_any (holds_bytes s) ranges

-- an address, and how many bytes from it on
unfoldable pub range_of : Span → Option (ℕ × ℕ)
range_of s = if is_range s then Some (s.addr, s.count) else None

-- the bytes that a text lists, if each place is a range
abbrev pub ranges_in : Text → Option (List (ℕ × ℕ))
ranges_in text = option_and_then (all_said range_of) (spans_in text)

-- without a text there are none
abbrev pub public_in : Option Text → Option (List (ℕ × ℕ))
public_in None = Some []
public_in (Some text) = ranges_in text

abbrev pub secrets_by :
    Option (List (ℕ × ℕ)) → Option (List (ℕ × ℕ)) → Result (Option SecretOptions) Refusal
secrets_by (Some secret) (Some public) = Ok (Some (record { secret = secret; public = public }))
secrets_by _ _ = Err (refusal.Usage 10)

-- by the texts of `--secret` and `--public`, of which the second needs the first
abbrev pub secrets_in : Option Text → Option Text → Result (Option SecretOptions) Refusal
secrets_in None None = Ok None
secrets_in None (Some public) = Err (refusal.Usage 10)
secrets_in (Some secret) public = secrets_by (ranges_in secret) (public_in public)
