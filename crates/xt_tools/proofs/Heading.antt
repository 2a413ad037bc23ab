-- The head of a session's input, and what it makes of the whole.
use Rattle.std.proofs.Common.{◌≡◌, ◌≤◌, ◌<◌, ℕ, nat_lt, if◌then◌else◌, false, inl, List, [], ◌∷◌, ◌++◌, length, take, drop, Option, Some, None, Ok, Err, IsErrOf, refl, sym, ap, ◌∙◌, arith, append_assoc, append-nil, length-append}
use Rattle.std.specs.Io.KnownBytes.{Consumes, IsAtEnd}
use Rattle.std.specs.List.{after_first, before_first}
use Rattle.std.proofs.KnownBytes.{Consumes-trans}
use Rattle.std.proofs.Math.Seq.{drop-append_seam, take-append_seam}
use Rattle.std.proofs.lemmas.Bool.{le-ltb, lt-ltb}
use Rattle.xt_io.specs.Causes.{Rose}
use Rattle.xt_io.specs.declared.whole.ReadError.{ReadError}
use Rattle.xt_io.specs.declared.whole.ReadError.TheVariants as error
use Rattle.xt_record.specs.Fields.{image_in}
use Rattle.xt_record.specs.Format.{run_in}
use Rattle.xt_record.specs.declared.fault.RecordFault.TheVariants as record_fault
use Rattle.xt_command_line.specs.declared.beyond.Beyond.{Beyond}
use Rattle.xt_report.specs.declared.status.Status.{Status}
use Rattle.xt_report.specs.declared.status.Status.TheVariants as status
use Rattle.xt_report.specs.Inputs.{recording_refusal}
use Rattle.xt_tools.specs.Calls.{Tells}
use Rattle.xt_tools.specs.Reads.{IsInLine, IsRefused, IsShort, Misses, Opens, ReadsCount, ReadsLine, status_of}
use Rattle.xt_tools.specs.Session.{answers, count_in, is_newline, lines_by, lines_in, lines_limit, number_in, recording_limit, refusal_by, refusal_of, session_text, text_by}
use Rattle.xt_tools.proofs.Lining.{after_at, before_at, has_newline, no_newline}

-- ---- a source that has given some bytes

pub whole : (left after : Option (List ℕ)) (taken : List ℕ) → Consumes left after taken → (more : List ℕ) × Tells left (taken ++ more)
whole None after taken consumed = ([], tt)
whole (Some xs) None taken consumed = absurd consumed
whole (Some xs) (Some ys) taken consumed = (ys, consumed)

pub at_end : (left after : Option (List ℕ)) (taken : List ℕ) → Consumes left after taken → IsAtEnd after → Tells left taken
at_end None after taken consumed end = tt
at_end (Some xs) None taken consumed end = absurd consumed
at_end (Some xs) (Some ys) taken consumed end = consumed ∙ ap (λ (l : List ℕ). taken ++ l) end ∙ append-nil taken

-- ---- an input by its first line

count_at : (line rest : List ℕ) → IsInLine line → count_in (line ++ (10 ∷ rest)) ≡ number_in line
count_at line rest h =
    let input = line ++ (10 ∷ rest) in
    ap (λ t. if t then number_in (before_first is_newline input) else None) (has_newline line rest h) ∙ ap number_in (before_at line rest h)

pub refusal_at : (line rest : List ℕ) → IsInLine line → refusal_of (line ++ (10 ∷ rest)) ≡ refusal_by (number_in line) rest
unfolding refusal_of
refusal_at line rest h = ap (λ (n : Option ℕ). refusal_by n (after_first is_newline (line ++ (10 ∷ rest)))) (count_at line rest h) ∙ ap (refusal_by (number_in line)) (after_at line rest h)

text_at : (b : Beyond) (line rest : List ℕ) (s : Option Status) → IsInLine line → refusal_of (line ++ (10 ∷ rest)) ≡ s → session_text b (line ++ (10 ∷ rest)) ≡ text_by s b (number_in line) rest
unfolding session_text
text_at b line rest s h refused =
    let input = line ++ (10 ∷ rest) in
    ap (λ (r : Option Status). text_by r b (count_in input) (after_first is_newline input)) refused
    ∙ ap (λ (n : Option ℕ). text_by s b n (after_first is_newline input)) (count_at line rest h)
    ∙ ap (text_by s b (number_in line)) (after_at line rest h)

lines_at : (line rest : List ℕ) → IsInLine line → lines_in (line ++ (10 ∷ rest)) ≡ lines_by (number_in line) (line ++ (10 ∷ rest)) rest
unfolding lines_in
lines_at line rest h =
    let input = line ++ (10 ∷ rest) in
    ap (λ (n : Option ℕ). lines_by n input (after_first is_newline input)) (count_at line rest h) ∙ ap (lines_by (number_in line) input) (after_at line rest h)

-- where the input is refused nothing is answered
pub silent : (b : Beyond) (input : List ℕ) (s : Status) → refusal_of input ≡ Some s → session_text b input ≡ []
unfolding session_text
silent b input s refused = ap (λ (r : Option Status). text_by r b (count_in input) (after_first is_newline input)) refused

refusal_none : (rest : List ℕ) → IsInLine rest → IsShort rest
unfolding refusal_of
refusal_none rest h =
    let behind = after_first is_newline rest in
    ap (λ t. refusal_by (if t then number_in (before_first is_newline rest) else None) behind) (no_newline rest h)

lines_none : (rest : List ℕ) → IsInLine rest → lines_in rest ≡ rest
unfolding lines_in
lines_none rest h =
    let behind = after_first is_newline rest in
    ap (λ t. lines_by (if t then number_in (before_first is_newline rest) else None) rest behind) (no_newline rest h)

-- ---- an input by its first line and its recording

apart : (line recording text : List ℕ) → ((line ++ (10 ∷ [])) ++ recording) ++ text ≡ line ++ (10 ∷ (recording ++ text))
apart line recording text = append_assoc (line ++ (10 ∷ [])) recording text ∙ append_assoc line (10 ∷ []) (recording ++ text)

refusal_front : (recording text : List ℕ) → length recording ≤ recording_limit → refusal_by (Some (length recording)) (recording ++ text) ≡ recording_refusal recording
refusal_front recording text within =
    let n = length recording in
    let rest = recording ++ text in
    let not_large : nat_lt recording_limit n ≡ false = le-ltb recording_limit n within in
    let enough : n ≤ length rest = omega (arith, length-append recording text) in
    let not_short : nat_lt (length rest) n ≡ false = le-ltb (length rest) n enough in
    ap (λ t. if t then Some (status.TooLarge recording_limit) else if nat_lt (length rest) n then Some (status.Recording record_fault.Short) else recording_refusal (take n rest)) not_large
    ∙ ap (λ t. if t then Some (status.Recording record_fault.Short) else recording_refusal (take n rest)) not_short
    ∙ ap recording_refusal (take-append_seam recording text)

text_front : (b : Beyond) (recording text : List ℕ) → text_by None b (Some (length recording)) (recording ++ text) ≡ answers b (image_in recording) (run_in recording) text
text_front b recording text =
    ap (λ (l : List ℕ). answers b (image_in l) (run_in l) (drop (length recording) (recording ++ text))) (take-append_seam recording text)
    ∙ ap (answers b (image_in recording) (run_in recording)) (drop-append_seam recording text)

pub refusal_opened : (line recording text : List ℕ) → IsInLine line → number_in line ≡ Some (length recording) → length recording ≤ recording_limit
    → refusal_of (((line ++ (10 ∷ [])) ++ recording) ++ text) ≡ recording_refusal recording
refusal_opened line recording text h says within =
    ap refusal_of (apart line recording text) ∙ refusal_at line (recording ++ text) h ∙ ap (λ (n : Option ℕ). refusal_by n (recording ++ text)) says ∙ refusal_front recording text within

pub text_opened : (b : Beyond) (line recording text : List ℕ) → IsInLine line → number_in line ≡ Some (length recording) → length recording ≤ recording_limit → recording_refusal recording ≡ None
    → session_text b (((line ++ (10 ∷ [])) ++ recording) ++ text) ≡ answers b (image_in recording) (run_in recording) text
text_opened b line recording text h says within accepted =
    let rest = recording ++ text in
    let is = apart line recording text in
    let refused : refusal_of (line ++ (10 ∷ rest)) ≡ None = ap refusal_of (sym is) ∙ refusal_opened line recording text h says within ∙ accepted in
    ap (session_text b) is ∙ text_at b line rest None h refused ∙ ap (λ (n : Option ℕ). text_by None b n rest) says ∙ text_front b recording text

pub lines_opened : (line recording text : List ℕ) → IsInLine line → number_in line ≡ Some (length recording) → lines_in (((line ++ (10 ∷ [])) ++ recording) ++ text) ≡ text
lines_opened line recording text h says =
    let rest = recording ++ text in
    ap lines_in (apart line recording text) ∙ lines_at line rest h ∙ ap (λ (n : Option ℕ). lines_by n (line ++ (10 ∷ rest)) rest) says ∙ drop-append_seam recording text

-- ---- no recording was read

one_line : (line more : List ℕ) → (line ++ (10 ∷ [])) ++ more ≡ line ++ (10 ∷ more)
one_line line more = append_assoc line (10 ∷ []) more

rose_since : (a b c : ℕ) → a ≤ b → Rose b c → Rose a c
rose_since a b c low rose = grind (arith)

-- the source ends before a newline
pub misses_line : (left after : Option (List ℕ)) (spare spare_after : ℕ) → ReadsLine (Ok None) left after spare spare_after → IsRefused left (status.Recording record_fault.Short)
misses_line left after spare spare_after ((bytes, consumed, (h, within)), end) = (bytes, at_end left after bytes consumed end, refusal_none bytes h)

-- the first line says no number, or one that is too large
pub misses_number : (left after : Option (List ℕ)) (line : List ℕ) (n : Option ℕ) (s : Status) → Consumes left after (line ++ (10 ∷ [])) → IsInLine line → number_in line ≡ n
    → ((rest : List ℕ) → refusal_by n rest ≡ Some s) → IsRefused left s
misses_number left after line n s consumed h says refused =
    let (more, tells) = whole left after (line ++ (10 ∷ [])) consumed in (
      (line ++ (10 ∷ [])) ++ more,
      tells,
      ap refusal_of (one_line line more) ∙ refusal_at line more h ∙ ap (λ (m : Option ℕ). refusal_by m more) says ∙ refused more,
    )

pub none_refused : (rest : List ℕ) → refusal_by None rest ≡ Some (status.Recording record_fault.Short)
none_refused rest = refl

pub large_refused : (n : ℕ) (rest : List ℕ) → recording_limit < n → refusal_by (Some n) rest ≡ Some (status.TooLarge recording_limit)
large_refused n rest large =
    ap (λ t. if t then Some (status.TooLarge recording_limit) else if nat_lt (length rest) n then Some (status.Recording record_fault.Short) else recording_refusal (take n rest))
    (lt-ltb recording_limit n large)

short_refused : (n : ℕ) (rest : List ℕ) → n ≤ recording_limit → length rest < n → refusal_by (Some n) rest ≡ Some (status.Recording record_fault.Short)
short_refused n rest within short =
    ap (λ t. if t then Some (status.TooLarge recording_limit) else if nat_lt (length rest) n then Some (status.Recording record_fault.Short) else recording_refusal (take n rest))
    (le-ltb recording_limit n within)
    ∙ ap (λ t. if t then Some (status.Recording record_fault.Short) else recording_refusal (take n rest)) (lt-ltb (length rest) n short)

short_line : (line bytes : List ℕ) (n : ℕ) → IsInLine line → number_in line ≡ Some n → n ≤ recording_limit → length bytes < n → IsShort ((line ++ (10 ∷ [])) ++ bytes)
short_line line bytes n h says within short =
    ap refusal_of (one_line line bytes) ∙ refusal_at line bytes h ∙ ap (λ (m : Option ℕ). refusal_by m bytes) says ∙ short_refused n bytes within short

-- the source ends before the recording does
pub misses_bytes : (left middle after : Option (List ℕ)) (line bytes : List ℕ) (n : ℕ) → Consumes left middle (line ++ (10 ∷ [])) → IsInLine line → number_in line ≡ Some n
    → n ≤ recording_limit → Consumes middle after bytes → IsAtEnd after → length bytes < n → IsRefused left (status.Recording record_fault.Short)
misses_bytes left middle after line bytes n consumed h says within more end short = (
  (line ++ (10 ∷ [])) ++ bytes,
  at_end left after ((line ++ (10 ∷ [])) ++ bytes) (Consumes-trans left middle after (line ++ (10 ∷ [])) bytes consumed more) end,
  short_line line bytes n h says within short,
)

pub opens : (left middle after : Option (List ℕ)) (line bytes : List ℕ) (n : ℕ) → Consumes left middle (line ++ (10 ∷ [])) → IsInLine line → number_in line ≡ Some n
    → n ≤ recording_limit → Consumes middle after bytes → length bytes ≡ n → Opens left after bytes
opens left middle after line bytes n consumed h says within more same = (
  line,
  Consumes-trans left middle after (line ++ (10 ∷ [])) bytes consumed more,
  h,
  says ∙ ap (λ (k : ℕ). Some k) (sym same),
  omega (arith, same, within),
)

-- ---- a read that failed

-- a read of the first line
pub line_unread : {T : Type 0} (left after : Option (List ℕ)) (f g spare_after : ℕ) (e : ReadError) → ReadsLine (Err e) left after lines_limit spare_after → (IsErrOf {T = T} (Err e) error.Fault → Rose f g)
    → Misses left after f g (status_of e)
line_unread left after f g spare_after error.Fault (bytes, consumed, h) rose = (rose refl, (bytes, consumed, refusal_none bytes h))
line_unread left after f g spare_after error.Memory (bytes, consumed, h) rose = (bytes, consumed, tt)
line_unread left after f g spare_after error.TooLarge (bytes, next, consumed, h, all) rose =
    inl (bytes, next, consumed, refusal_none bytes h, ap length (lines_none bytes h) ∙ all, refl)

-- a read of the recording
pub bytes_unread : {T : Type 0} (left middle after : Option (List ℕ)) (line : List ℕ) (f f2 f3 n : ℕ) (e : ReadError) → Consumes left middle (line ++ (10 ∷ [])) → IsInLine line → number_in line ≡ Some n
    → n ≤ recording_limit → ReadsCount (Err e) middle after n → f ≤ f2 → (IsErrOf {T = T} (Err e) error.Fault → Rose f2 f3) → Misses left after f f3 (status_of e)
bytes_unread left middle after line f f2 f3 n error.Fault consumed h says within (bytes, more, short) low rose = (
  rose_since f f2 f3 low (rose refl),
  ((line ++ (10 ∷ [])) ++ bytes, Consumes-trans left middle after (line ++ (10 ∷ [])) bytes consumed more, short_line line bytes n h says within short),
)
bytes_unread left middle after line f f2 f3 n error.Memory consumed h says within (bytes, more, any) low rose =
    ((line ++ (10 ∷ [])) ++ bytes, Consumes-trans left middle after (line ++ (10 ∷ [])) bytes consumed more, tt)
bytes_unread left middle after line f f2 f3 n error.TooLarge consumed h says within never low rose = absurd never
