-- Carries a proof; nothing that a reader must believe.
-- How a region is found by two addresses, and overlaps without comparing each header with each: by
-- the addresses that they take, in ascending order.
use Rattle.std.specs.Prelude.{◌≡◌, ℕ, ◌<◌, ◌≤◌, true, false, List, Option, Some, slice_index_or}
use Rattle.std.specs.List.{AllPairs, Contains}
use Rattle.xt_map.specs.declared.regions.Region.{Region}
use Rattle.xt_map.specs.Placing.{is_device}
use Rattle.xt_elf.specs.Headers.{is_loaded_header}
use Rattle.xt_elf.specs.Rules.{do_overlap, padded_end}
use Rattle.xt_elf.specs.declared.header.Header.{Header}
use Rattle.xt_elf.specs.declared.spans.Span.{Span}

-- two regions are there and are one, which is no device
abbrev pub IsOneRegion : Option Region → Option Region → Type 0
IsOneRegion first last = (r : Region) × (first ≡ Some r) × (last ≡ Some r) × (is_device r ≡ false)

-- the addresses of the padded bytes of the header with this number
abbrev pub span_of : Header → ℕ → Span
span_of h number = record { begins = h.addr; ends = padded_end h; number = number }

-- of each of the first n headers that is loaded, the span is there
abbrev pub HasSpans : List Header → ℕ → List Span → Type 0
HasSpans headers n spans =
    (k : ℕ) (d : Header) → k < n → is_loaded_header (slice_index_or headers k d) ≡ true
    → Contains spans (span_of (slice_index_or headers k d) k)

-- each ends before every later one begins
abbrev pub AreInARow : List Span → Type 0
AreInARow spans = AllPairs (λ (s t : Span). s.ends ≤ t.begins) spans

-- no two of the first n headers share a byte
abbrev pub AreApart : ℕ → List Header → Type 0
AreApart n headers =
    (i j : ℕ) (d : Header) → i < j → j < n
    → do_overlap (slice_index_or headers i d) (slice_index_or headers j d) ≡ false
