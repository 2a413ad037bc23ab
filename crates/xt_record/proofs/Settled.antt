-- What is written of what a recording holds is read again, and written as it was.
use Rattle.std.proofs.Common.{◌≡◌, ℕ, zero, suc, ◌+◌, ◌<◌, ◌^◌, None, Ok, List, [], ◌∷◌, map, drop, slice_index, refl, sym, ap₂, subst, ◌∙◌, arith}
use Rattle.std.specs.Prelude.{All}
use Rattle.std.proofs.lemmas.List.{get_or-drop, get_or_past}
use Rattle.std.proofs.lemmas.List.Elements.{All-cons, All-head, All-nil, All-tail}
use Rattle.xt_trace.specs.declared.run.Run.{Run}
use Rattle.xt_image.specs.declared.image.Image.{Image}
use Rattle.xt_image.specs.Layout.{word_at}
use Rattle.xt_image.specs.ImageParts.{IsWellFormed}
use Rattle.xt_image.proofs.Joined.{IsBytes}
use Rattle.xt_image.proofs.Standing.{word_fits}
use Rattle.xt_core.specs.Runs.{IsRunOf}
use Rattle.xt_record.specs.Fields.{behind_image, entry_count, image_in, image_length, kind_of, options_at, raw_at, raws_from}
use Rattle.xt_record.specs.Fields as field
use Rattle.xt_record.specs.Fitting.{FitsRun, HasWords}
use Rattle.xt_record.specs.Format.{Reads, recording_fault, run_in}
use Rattle.xt_record.specs.RecordingParts.{first_operand, second_operand}
use Rattle.xt_record.specs.Written.{recording_bytes}
use Rattle.xt_record.proofs.Whole.{written_again}

-- ---- numbers that are read of bytes are words

bytes_small : (bs : List ℕ) → All (λ b. b < 256) bs → IsBytes bs
bytes_small [] all i = subst (λ (n : ℕ). n < 256) (sym (get_or_past {X = ℕ} [] i 0 (omega arith))) (omega arith)
bytes_small (b ∷ bs) all zero = All-head (λ b. b < 256) b bs all
bytes_small (b ∷ bs) all (suc i) = bytes_small bs (All-tail (λ b. b < 256) b bs all) i

drop_small : (n : ℕ) (bytes : List ℕ) → IsBytes bytes → IsBytes (drop n bytes)
drop_small n bytes small i = rw (get_or-drop n bytes i 0) (small (n + i))

first_small : (k a b : ℕ) → a < 2 ^ 32 → first_operand (kind_of k a b) < 2 ^ 32
first_small zero a b lt = omega arith
first_small (suc zero) a b lt = lt
first_small (suc (suc n)) a b lt = lt

second_small : (k a b : ℕ) → b < 2 ^ 32 → second_operand (kind_of k a b) < 2 ^ 32
second_small zero a b lt = omega arith
second_small (suc zero) a b lt = omega arith
second_small (suc (suc n)) a b lt = lt

raw_fits : (bytes : List ℕ) (place : ℕ) → IsBytes bytes → HasWords (field.entry_of (raw_at bytes place))
unfolding raw_at
raw_fits bytes place small = record {
  first = first_small (slice_index bytes (place + 1)) (word_at bytes (place + 8)) (word_at bytes (place + 12)) (word_fits bytes (place + 8) small);
  second = second_small (slice_index bytes (place + 1)) (word_at bytes (place + 8)) (word_at bytes (place + 12)) (word_fits bytes (place + 12) small);
  reply = word_fits bytes (place + 16) small;
}

raws_fit : (n : ℕ) (bytes : List ℕ) (place : ℕ) → IsBytes bytes → All HasWords (map field.entry_of (raws_from n bytes place))
unfolding raws_from
raws_fit zero bytes place small = All-nil HasWords
raws_fit (suc n) bytes place small =
    All-cons HasWords (field.entry_of (raw_at bytes place)) (map field.entry_of (raws_from n bytes (place + 20))) (raw_fits bytes place small)
    (raws_fit n bytes (place + 20) small)

run_fits : (input : List ℕ) → All (λ b. b < 256) input → FitsRun (run_in input)
unfolding options_at
run_fits input all =
    let rest = behind_image input in
    let small : IsBytes rest = drop_small (12 + image_length input) input (bytes_small input all) in
    record { vecbase = word_fits rest 12 small; entries = raws_fit (entry_count rest) rest 36 small }

-- ---- what is written of what is read

abbrev Rereads : List ℕ → Image → Run → Type 0
Rereads bytes image r = (recording_fault bytes ≡ None) × (image_in bytes ≡ image) × (run_in bytes ≡ r)

same_again : (bytes : List ℕ) (image : Image) (r : Run) → bytes ≡ recording_bytes image r → Rereads bytes image r
    → (recording_fault bytes ≡ None) × (recording_bytes (image_in bytes) (run_in bytes) ≡ bytes)
same_again bytes image r is (good, same, run) = (good, ap₂ recording_bytes same run ∙ sym is)

pub settled : (input : List ℕ) → All (λ b. b < 256) input → IsWellFormed (image_in input) → IsRunOf (image_in input) (run_in input)
    → let once = recording_bytes (image_in input) (run_in input) in
    (recording_fault once ≡ None) × (recording_bytes (image_in once) (run_in once) ≡ once)
settled input all w h =
    let image = image_in input in
    let r = run_in input in
    same_again (recording_bytes image r) image r refl (written_again image r w h (run_fits input all))

turned : (bytes : List ℕ) (image : Image) (r : Run) → Rereads bytes image r → Reads (Ok (image, r)) bytes (recording_fault bytes)
turned bytes image r (good, same, run) = (good, sym same, sym run)

-- what was written reads again
pub reads_again : (image : Image) (r : Run) (bytes : List ℕ) → IsWellFormed image → IsRunOf image r → FitsRun r → bytes ≡ recording_bytes image r
    → Reads (Ok (image, r)) bytes (recording_fault bytes)
reads_again image r bytes w h fits is =
    subst (λ (l : List ℕ). Reads (Ok (image, r)) l (recording_fault l)) (sym is) (turned (recording_bytes image r) image r (written_again image r w h fits))
