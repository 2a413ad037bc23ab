-- Bytes that were read into a buffer of one byte, and reads that failed.
use Rattle.std.proofs.Common.{◌≡◌, ◌≢◌, ◌≤◌, ℕ, zero, suc, ◌==◌, false, All, List, [], ◌∷◌, ◌++◌, length, take, slice_index, Option, Result, Ok, Err, IfErr, refl, sym, subst, arith}
use Rattle.std.specs.Io.KnownBytes.{Consumes}
use Rattle.std.proofs.KnownBytes.{Consumes-trans}
use Rattle.std.proofs.lemmas.List.Elements.{All-append, All-cons, All-nil}
use Rattle.xt_io.specs.declared.whole.ReadError.{ReadError}
use Rattle.xt_io.specs.declared.whole.ReadError.TheVariants as error
use Rattle.xt_tools.specs.Session.{is_newline}
use Rattle.xt_tools.specs.Reads.{IsInLine, ReadsCount, ReadsLine, TakesSome}

one_buffer : (buf : List ℕ) → length buf ≡ 1 → buf ≡ slice_index buf 0 ∷ []
one_buffer [] len = let no : ⊥ = omega (arith, len) in absurd no
one_buffer (x ∷ []) len = refl
one_buffer (x ∷ (y ∷ ys)) len = let no : ⊥ = omega (arith, len) in absurd no

all_of_one : (buf : List ℕ) (n : ℕ) → length buf ≡ 1 → n ≤ length buf → n ≢ 0 → take n buf ≡ buf
all_of_one [] n len below some = let no : ⊥ = omega (arith, len) in absurd no
all_of_one (x ∷ []) zero len below some = absurd (some refl)
all_of_one (x ∷ []) (suc zero) len below some = refl
all_of_one (x ∷ []) (suc (suc n)) len below some = let no : ⊥ = omega (arith, below) in absurd no
all_of_one (x ∷ (y ∷ ys)) n len below some = let no : ⊥ = omega (arith, len) in absurd no

pub inside_on : (line buf : List ℕ) → length buf ≡ 1 → IsInLine line → (slice_index buf 0 == 10) ≡ false → IsInLine (line ++ buf)
inside_on line buf len h differs =
    let P : ℕ → Type 0 = λ byte. is_newline byte ≡ false in
    let one : All P (slice_index buf 0 ∷ []) = All-cons P (slice_index buf 0) [] differs (All-nil P) in
    All-append P line buf h (subst (All P) (sym (one_buffer buf len)) one)

-- a byte more was taken
pub taken_on : (old middle new : Option (List ℕ)) (line buf : List ℕ) (n : ℕ) → Consumes old middle line → Consumes middle new (take n buf) → length buf ≡ 1 → n ≤ length buf → n ≢ 0
    → Consumes old new (line ++ buf)
taken_on old middle new line buf n consumed more len below some =
    Consumes-trans old middle new line buf consumed (subst (Consumes middle new) (all_of_one buf n len below some) more)

-- one byte more than may be
pub one_too_many : (old new : Option (List ℕ)) (line buf : List ℕ) (spare spare_after : ℕ) → Consumes old new (line ++ buf) → length buf ≡ 1 → IsInLine line → length line ≡ spare
    → ReadsLine (Err error.TooLarge) old new spare spare_after
one_too_many old new line buf spare spare_after consumed len h all =
    (line, slice_index buf 0, subst (λ (l : List ℕ). Consumes old new (line ++ l)) (one_buffer buf len) consumed, h, all)

-- the same of what it is equal to
pub read_as : (line same : Option (List ℕ)) (old new : Option (List ℕ)) (spare spare_after : ℕ) → line ≡ same → ReadsLine (Ok line) old new spare spare_after → ReadsLine (Ok same) old new spare spare_after
read_as line same old new spare spare_after is reads = subst (λ (l : Option (List ℕ)). ReadsLine (Ok l) old new spare spare_after) is reads

-- ---- no memory for what was read

pub line_wants : (result : Result (Option (List ℕ)) ReadError) (old new : Option (List ℕ)) (spare spare_after : ℕ) → result ≡ Err error.Memory → TakesSome old new IsInLine
    → ReadsLine result old new spare spare_after
line_wants result old new spare spare_after is takes = subst (λ (r : Result (Option (List ℕ)) ReadError). ReadsLine r old new spare spare_after) (sym is) takes

pub count_wants : {T : Type 0} (result : Result T ReadError) (old new : Option (List ℕ)) (count : ℕ) (taken : List ℕ) → result ≡ Err error.Memory → Consumes old new taken
    → IfErr result (λ e. ReadsCount (Err e) old new count)
count_wants {T} result old new count taken is consumed =
    subst (λ (r : Result T ReadError). IfErr r (λ e. ReadsCount (Err e) old new count)) (sym is) (taken, consumed, tt)
