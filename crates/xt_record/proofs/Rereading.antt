-- Carries a proof; nothing that a reader must believe.
-- The parts of a recording, read again from where they were written.
use Rattle.std.proofs.Common.{◌≡◌, ℕ, ◌+◌, ◌*◌, ◌<◌, ◌^◌, List, [], ◌∷◌, ◌++◌, length, map, take, drop, refl, sym, ap, ap₂, ◌∙◌, append_assoc, length-append, arith}
use Rattle.std.specs.Prelude.{All, slice_index}
use Rattle.std.specs.List.{concat, flat_map}
use Rattle.std.specs.Int.{w32, to_le_bytes, from_le_bytes}
use Rattle.std.proofs.lemmas.List.{take_at, drop_at, get_or-append-add}
use Rattle.std.proofs.Math.Seq.{drop-append-add}
use Rattle.std.proofs.lemmas.List.Elements.{All-head, All-tail}
use Rattle.std.proofs.lemmas.Nat.{from_le_bytes-to_le_bytes_4}
use Rattle.xt_map.specs.declared.access.Entry.{Entry}
use Rattle.xt_map.specs.declared.access.Kind.{Kind}
use Rattle.xt_map.specs.declared.access.Kind.TheVariants.{Load, Store, Cas}
use Rattle.xt_trace.specs.declared.options.Options.{Options}
use Rattle.xt_trace.specs.declared.options.Stack.{Stack}
use Rattle.xt_image.specs.Layout.{word_at}
use Rattle.xt_record.specs.declared.raw.RawEntry.{RawEntry}
use Rattle.xt_record.specs.Fields.{behind_image, blocks, checkpoint_size, entry_of, image_length, image_part, magic, options_at, raw_at, raws_from, version, words}
use Rattle.xt_record.specs.RecordingParts.{entry_bytes, first_operand, kind_number, options_bytes, second_operand}

-- ---- a word in front

pub word_first : (n : ℕ) (rest : List ℕ) → n < 2 ^ 32 → word_at (to_le_bytes w32 n ++ rest) 0 ≡ n
unfolding word_at
word_first n rest lt = from_le_bytes-to_le_bytes_4 n lt

pub word_behind : (xs ys : List ℕ) (n : ℕ) → word_at (xs ++ ys) (length xs + n) ≡ word_at ys n
unfolding word_at
word_behind xs ys n = ap (λ (l : List ℕ). from_le_bytes w32 (take 4 l)) (drop-append-add xs ys n)

byte_behind : (xs ys : List ℕ) (n : ℕ) → slice_index (xs ++ ys) (length xs + n) ≡ slice_index ys n
byte_behind xs ys n = get_or-append-add xs ys n 0

-- ---- the head

abbrev pub head : ℕ → List ℕ
head n = magic ++ words (2 ∷ n ∷ [])

pub version_again : (n : ℕ) (rest : List ℕ) → version (head n ++ rest) ≡ 2
unfolding word_at
version_again n rest = from_le_bytes-to_le_bytes_4 2 (omega arith)

pub length_again : (n : ℕ) (rest : List ℕ) → n < 2 ^ 32 → image_length (head n ++ rest) ≡ n
unfolding word_at
length_again n rest lt = from_le_bytes-to_le_bytes_4 n lt

pub image_again : (image rest : List ℕ) → length image < 2 ^ 32 → image_part (head (length image) ++ (image ++ rest)) ≡ image
image_again image rest lt =
    ap (λ (n : ℕ). take n (image ++ rest)) (length_again (length image) (image ++ rest) lt) ∙ take_at image rest (length image) refl

pub behind_again : (image rest : List ℕ) → length image < 2 ^ 32 → behind_image (head (length image) ++ (image ++ rest)) ≡ rest
behind_again image rest lt =
    ap (λ (n : ℕ). drop (12 + n) (head (length image) ++ (image ++ rest))) (length_again (length image) (image ++ rest) lt)
    ∙ drop-append-add (head (length image)) (image ++ rest) (length image)
    ∙ drop_at image rest (length image) refl

-- ---- the options and the count of the entries

-- the numbers of options are in the ranges of their types
pub record FitsOptions (o : Options) : Type 0 where
  pub turns0 : o.turns0 < 2 ^ 32
  pub turns1 : o.turns1 < 2 ^ 32
  pub entry1 : o.entry1 < 2 ^ 32
  pub vecbase : o.vecbase < 2 ^ 32
  pub lo0 : o.stack0.lo < 2 ^ 32
  pub hi0 : o.stack0.hi < 2 ^ 32
  pub lo1 : o.stack1.lo < 2 ^ 32
  pub hi1 : o.stack1.hi < 2 ^ 32

options_made : ℕ → ℕ → ℕ → ℕ → Stack → Stack → Options
options_made a b c d e f = record { turns0 = a; turns1 = b; entry1 = c; vecbase = d; stack0 = e; stack1 = f }

stack_made : ℕ → ℕ → Stack
stack_made lo hi = record { lo = lo; hi = hi }

pub options_again : (o : Options) (rest : List ℕ) → FitsOptions o → options_at (options_bytes o ++ rest) 0 ≡ o
unfolding options_at word_at options_made stack_made
options_again o rest fits =
    let e0 = ap₂ stack_made (from_le_bytes-to_le_bytes_4 o.stack0.lo fits.lo0) (from_le_bytes-to_le_bytes_4 o.stack0.hi fits.hi0) in
    let e1 = ap₂ stack_made (from_le_bytes-to_le_bytes_4 o.stack1.lo fits.lo1) (from_le_bytes-to_le_bytes_4 o.stack1.hi fits.hi1) in
    let r : ℕ → ℕ = λ n. from_le_bytes w32 (to_le_bytes w32 n) in
    let s0 = stack_made (r o.stack0.lo) (r o.stack0.hi) in
    let s1 = stack_made (r o.stack1.lo) (r o.stack1.hi) in
    ap₂ (λ x y. options_made x y (r o.entry1) (r o.vecbase) s0 s1) (from_le_bytes-to_le_bytes_4 o.turns0 fits.turns0) (from_le_bytes-to_le_bytes_4 o.turns1 fits.turns1)
    ∙ ap₂ (λ x y. options_made o.turns0 o.turns1 x y s0 s1) (from_le_bytes-to_le_bytes_4 o.entry1 fits.entry1) (from_le_bytes-to_le_bytes_4 o.vecbase fits.vecbase)
    ∙ ap₂ (options_made o.turns0 o.turns1 o.entry1 o.vecbase) e0 e1

-- ---- the entries

-- the fields of an entry as they are written
abbrev pub raw_of : Entry → RawEntry
raw_of e = record {
  core = e.core;
  kind = kind_number e.access.kind;
  size = e.access.size;
  zero = 0;
  addr = e.access.addr;
  a = first_operand e.access.kind;
  b = second_operand e.access.kind;
  reply = e.reply;
}

-- the address of an entry, its operands and its reply
pub record FitsEntry (e : Entry) : Type 0 where
  pub addr : e.access.addr < 2 ^ 32
  pub first : first_operand e.access.kind < 2 ^ 32
  pub second : second_operand e.access.kind < 2 ^ 32
  pub reply : e.reply < 2 ^ 32

raw_made : ℕ → ℕ → ℕ → ℕ → ℕ → ℕ → ℕ → ℕ → RawEntry
raw_made c k s z addr a b reply = record { core = c; kind = k; size = s; zero = z; addr = addr; a = a; b = b; reply = reply }

raw_front : (e : Entry) (rest : List ℕ) → FitsEntry e → raw_at (entry_bytes e ++ rest) 0 ≡ raw_of e
unfolding raw_at word_at entry_bytes raw_made
raw_front e rest fits =
    let r : ℕ → ℕ = λ n. from_le_bytes w32 (to_le_bytes w32 n) in
    let made = raw_made e.core (kind_number e.access.kind) e.access.size 0 in
    ap₂ (λ x y. made x y (r (second_operand e.access.kind)) (r e.reply)) (from_le_bytes-to_le_bytes_4 e.access.addr fits.addr)
    (from_le_bytes-to_le_bytes_4 (first_operand e.access.kind) fits.first)
    ∙ ap₂ (made e.access.addr (first_operand e.access.kind)) (from_le_bytes-to_le_bytes_4 (second_operand e.access.kind) fits.second)
    (from_le_bytes-to_le_bytes_4 e.reply fits.reply)

raw_behind : (xs ys : List ℕ) → raw_at (xs ++ ys) (length xs + 0) ≡ raw_at ys 0
unfolding raw_at raw_made
raw_behind xs ys =
    let w : (n : ℕ) → word_at (xs ++ ys) (length xs + 0 + n) ≡ word_at ys n =
    λ n. ap (word_at (xs ++ ys)) (let e : length xs + 0 + n ≡ length xs + n = omega arith in e) ∙ word_behind xs ys n in
    let b : (n : ℕ) → slice_index (xs ++ ys) (length xs + 0 + n) ≡ slice_index ys n =
    λ n. ap (slice_index (xs ++ ys)) (let e : length xs + 0 + n ≡ length xs + n = omega arith in e) ∙ byte_behind xs ys n in
    let z = xs ++ ys in
    let p = length xs + 0 in
    ap₂ (λ x y. raw_made x y (slice_index z (p + 2)) (slice_index z (p + 3)) (word_at z (p + 4)) (word_at z (p + 8)) (word_at z (p + 12)) (word_at z (p + 16))) (byte_behind xs ys 0) (b 1)
    ∙ ap₂ (λ x y. raw_made (slice_index ys 0) (slice_index ys 1) x y (word_at z (p + 4)) (word_at z (p + 8)) (word_at z (p + 12)) (word_at z (p + 16))) (b 2) (b 3)
    ∙ ap₂ (λ x y. raw_made (slice_index ys 0) (slice_index ys 1) (slice_index ys 2) (slice_index ys 3) x y (word_at z (p + 12)) (word_at z (p + 16))) (w 4) (w 8)
    ∙ ap₂ (raw_made (slice_index ys 0) (slice_index ys 1) (slice_index ys 2) (slice_index ys 3) (word_at ys 4) (word_at ys 8)) (w 12) (w 16)

entry_long : (e : Entry) → length (entry_bytes e) ≡ 20
unfolding entry_bytes
entry_long e = refl

-- entries that are written from a place on
pub raws_again : (es : List Entry) (before behind : List ℕ) (place : ℕ) → length before ≡ place → All FitsEntry es
    → raws_from (length es) (before ++ (flat_map entry_bytes es ++ behind)) place ≡ map raw_of es
unfolding raws_from
raws_again [] before behind place at fits = refl
raws_again (e ∷ es) before behind place at fits =
    let after = flat_map entry_bytes es ++ behind in
    let whole = before ++ (flat_map entry_bytes (e ∷ es) ++ behind) in
    let apart : whole ≡ before ++ (entry_bytes e ++ after) = ap (λ (l : List ℕ). before ++ l) (append_assoc (entry_bytes e) (flat_map entry_bytes es) behind) in
    let here : raw_at whole place ≡ raw_of e =
    ap₂ raw_at apart (let q : place ≡ length before + 0 = omega (arith, at) in q) ∙ raw_behind before (entry_bytes e ++ after) ∙ raw_front e after (All-head FitsEntry e es fits) in
    let past : whole ≡ (before ++ entry_bytes e) ++ after = apart ∙ sym (append_assoc before (entry_bytes e) after) in
    let long : length (before ++ entry_bytes e) ≡ place + 20 =
    length-append before (entry_bytes e) ∙ ap (λ (n : ℕ). length before + n) (entry_long e) ∙ ap (λ (n : ℕ). n + 20) at in
    ap₂ (λ x l. x ∷ l) here
    (ap (λ (l : List ℕ). raws_from (length es) l (place + 20)) past
    ∙ raws_again es (before ++ entry_bytes e) behind (place + 20) long (All-tail FitsEntry e es fits))

entry_again : (c size addr reply : ℕ) (k : Kind)
    → ◌≡◌ {A = Entry} (entry_of (raw_of (record { core = c; access = record { addr = addr; size = size; kind = k }; reply = reply })))
    (record { core = c; access = record { addr = addr; size = size; kind = k }; reply = reply })
entry_again c size addr reply Load = refl
entry_again c size addr reply (Store v) = refl
entry_again c size addr reply (Cas x n) = refl

pub entries_again : (es : List Entry) → map entry_of (map raw_of es) ≡ es
entries_again [] = refl
entries_again (e ∷ es) = ap₂ (λ x l. x ∷ l) (entry_again e.core e.access.size e.access.addr e.reply e.access.kind) (entries_again es)

-- ---- the checkpoints

pub blocks_again : (points : List (List ℕ)) → All (λ (p : List ℕ). length p ≡ checkpoint_size) points → blocks (length points) (concat points) ≡ points
unfolding blocks
blocks_again [] h = refl
blocks_again (p ∷ ps) h =
    let size = All-head (λ (p : List ℕ). length p ≡ checkpoint_size) p ps h in
    ap₂ (λ x l. x ∷ l) (take_at p (concat ps) checkpoint_size size)
    (ap (blocks (length ps)) (drop_at p (concat ps) checkpoint_size size)
    ∙ blocks_again ps (All-tail (λ (p : List ℕ). length p ≡ checkpoint_size) p ps h))

pub entries_length : (es : List Entry) → length (flat_map entry_bytes es) ≡ 20 * length es
entries_length [] = refl
entries_length (e ∷ es) =
    length-append (entry_bytes e) (flat_map entry_bytes es) ∙ ap₂ (λ (m n : ℕ). m + n) (entry_long e) (entries_length es)
    ∙ (let q : 20 + 20 * length es ≡ 20 * length (e ∷ es) = omega arith in q)

pub points_length : (points : List (List ℕ)) → All (λ (p : List ℕ). length p ≡ checkpoint_size) points → length (concat points) ≡ checkpoint_size * length points
unfolding checkpoint_size
points_length [] h = refl
points_length (p ∷ ps) h =
    length-append p (concat ps)
    ∙ ap₂ (λ (m n : ℕ). m + n) (All-head (λ (p : List ℕ). length p ≡ checkpoint_size) p ps h) (points_length ps (All-tail (λ (p : List ℕ). length p ≡ checkpoint_size) p ps h))
    ∙ (let q : 353152 + 353152 * length ps ≡ 353152 * length (p ∷ ps) = omega arith in q)
