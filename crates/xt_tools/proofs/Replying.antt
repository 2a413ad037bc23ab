-- The answers to the lines that were read so far, and to all.
use Rattle.std.proofs.Common.{◌≡◌, ◌≢◌, ◌≤◌, ℕ, ◌+◌, true, false, is_err, IfOk, IsErrOf, inl, inr, List, [], ◌∷◌, ◌++◌, length, Option, Some, None, Result, Ok, Err, refl, sym, ap, ◌∙◌, subst, arith, append_assoc, append-nil, length-append}
use Rattle.std.specs.Io.KnownBytes.{Appends, Consumes}
use Rattle.std.proofs.KnownBytes.{Appends-nil, Appends-trans, Consumes-nil, Consumes-trans, Keeps-refl}
use Rattle.xt_io.specs.Causes.{Rose}
use Rattle.xt_io.specs.Whole.{AppendsPrefix}
use Rattle.xt_io.specs.declared.sink.Refused.{Refused}
use Rattle.xt_io.specs.declared.sink.Refused.TheVariants as refused
use Rattle.xt_io.specs.declared.whole.ReadError.{ReadError}
use Rattle.xt_io.specs.declared.whole.ReadError.TheVariants as error
use Rattle.xt_trace.specs.declared.run.Run.{Run}
use Rattle.xt_image.specs.declared.image.Image.{Image}
use Rattle.xt_record.specs.Fields.{image_in}
use Rattle.xt_record.specs.Format.{recording_fault, run_in}
use Rattle.xt_record.specs.declared.fault.RecordFault.{RecordFault}
use Rattle.xt_record.specs.declared.fault.RecordFault.TheVariants as record_fault
use Rattle.std.specs.Option.{option_map}
use Rattle.xt_command_line.specs.declared.beyond.Beyond.{Beyond}
use Rattle.xt_report.specs.declared.status.Status.{Status}
use Rattle.xt_report.specs.declared.status.Status.TheVariants as status
use Rattle.xt_report.specs.Calls.{Ends}
use Rattle.xt_report.specs.Inputs.{recording_refusal}
use Rattle.xt_report.specs.Statuses.{status_after}
use Rattle.xt_report.specs.Writes.{Writes}
use Rattle.xt_report.proofs.Writing.{prefix_of, refused_there}
use Rattle.xt_tools.specs.Calls.{Begins, Refuses, Sessions}
use Rattle.xt_tools.specs.Reads.{EndsLines, IsInLine, IsShort, Misses, Opens, ReadsLine, status_of}
use Rattle.xt_tools.specs.Session.{answer, answers, lines_in, lines_limit, refusal_of, session_text}
use Rattle.xt_tools.proofs.Lining.{answers_at, answers_none}
use Rattle.xt_tools.proofs.Heading.{lines_opened, refusal_opened, silent, text_opened, whole}

-- a call by what was before it and after it
abbrev pub call : Option (List ℕ) → Option (List ℕ) → Option (List ℕ) → Option (List ℕ) → ℕ → ℕ → ℕ → ℕ → Ends
call left left2 told told2 f f2 g g2 = record {
  left = left;
  left_after = left2;
  told = told;
  told_after = told2;
  source_faults = f;
  source_faults_after = f2;
  sink_faults = g;
  sink_faults_after = g2;
}

-- The lines that were taken are answered, and as many bytes are left of those that may be taken.
pub record Going (b : Beyond) (i : Image) (r : Run) (left left2 told told2 : Option (List ℕ)) (spare : ℕ) : Type 0 where
  pub taken : List ℕ
  pub out : List ℕ
  pub consumed : Consumes left left2 taken
  pub appended : Appends told told2 out
  pub count : length taken + spare ≡ lines_limit
  pub rest : (more : List ℕ) → answers b i r (taken ++ more) ≡ out ++ answers b i r more

pub going_first : (b : Beyond) (i : Image) (r : Run) (left told : Option (List ℕ)) → Going b i r left left told told lines_limit
going_first b i r left told = record {
  taken = [];
  out = [];
  consumed = Consumes-nil left;
  appended = Appends-nil told;
  count = refl;
  rest = λ more. refl;
}

one_line : (line more : List ℕ) → (line ++ (10 ∷ [])) ++ more ≡ line ++ (10 ∷ more)
one_line line more = append_assoc line (10 ∷ []) more

-- the text behind a line that was taken
behind : (b : Beyond) (i : Image) (r : Run) (left left2 told told2 : Option (List ℕ)) (spare : ℕ) (so : Going b i r left left2 told told2 spare) (line more : List ℕ) → IsInLine line
    → answers b i r ((so.taken ++ (line ++ (10 ∷ []))) ++ more) ≡ so.out ++ (answer b i r line ++ answers b i r more)
behind b i r left left2 told told2 spare so line more h =
    ap (answers b i r) (append_assoc so.taken (line ++ (10 ∷ [])) more) ∙ so.rest ((line ++ (10 ∷ [])) ++ more)
    ∙ ap (λ (l : List ℕ). so.out ++ l) (ap (answers b i r) (one_line line more) ∙ answers_at b i r line more h)

counts : (taken line : List ℕ) (spare spare2 : ℕ) → length taken + spare ≡ lines_limit → spare ≡ spare2 + (length line + 1) → length (taken ++ (line ++ (10 ∷ []))) + spare2 ≡ lines_limit
counts taken line spare spare2 count less =
    omega (arith, count, less, length-append taken (line ++ (10 ∷ [])), length-append line (10 ∷ []))

pub going_on : (b : Beyond) (i : Image) (r : Run) (left left2 left3 told told2 told3 : Option (List ℕ)) (spare spare2 : ℕ) (line : List ℕ)
    → Going b i r left left2 told told2 spare → ReadsLine (Ok (Some line)) left2 left3 spare spare2 → Appends told2 told3 (answer b i r line) → Going b i r left left3 told told3 spare2
going_on b i r left left2 left3 told told2 told3 spare spare2 line so (consumed, h, less) appended = record {
  taken = so.taken ++ (line ++ (10 ∷ []));
  out = so.out ++ answer b i r line;
  consumed = Consumes-trans left left2 left3 so.taken (line ++ (10 ∷ [])) so.consumed consumed;
  appended = Appends-trans told told2 told3 so.out (answer b i r line) so.appended appended;
  count = counts so.taken line spare spare2 so.count less;
  rest = λ more. behind b i r left left2 told told2 spare so line more h ∙ sym (append_assoc so.out (answer b i r line) (answers b i r more));
}

-- ---- the end of the lines

-- what was taken and what was read of a line, which has no answer yet
partly : (b : Beyond) (i : Image) (r : Run) (left left2 told told2 : Option (List ℕ)) (spare : ℕ) (so : Going b i r left left2 told told2 spare) (bytes : List ℕ) → IsInLine bytes
    → Appends told told2 (answers b i r (so.taken ++ bytes))
partly b i r left left2 told told2 spare so bytes h =
    let all : answers b i r (so.taken ++ bytes) ≡ so.out
    = so.rest bytes ∙ ap (λ (l : List ℕ). so.out ++ l) (answers_none b i r bytes h) ∙ append-nil so.out in
    subst (Appends told told2) (sym all) so.appended

pub lines_done : (b : Beyond) (i : Image) (r : Run) (left left2 left3 told told2 : Option (List ℕ)) (f f2 g g2 spare spare2 : ℕ)
    → Going b i r left left2 told told2 spare → ReadsLine (Ok None) left2 left3 spare spare2 → EndsLines b i r (call left left3 told told2 f f2 g g2) status.Done
lines_done b i r left left2 left3 told told2 f f2 g g2 spare spare2 so ((bytes, consumed, (h, within)), end) =
    let all : length (so.taken ++ bytes) ≤ lines_limit = omega (arith, so.count, within, length-append so.taken bytes) in (
      so.taken ++ bytes,
      (Consumes-trans left left2 left3 so.taken bytes so.consumed consumed, partly b i r left left2 told told2 spare so bytes h),
      end,
      all,
    )

rose_since : (a b c : ℕ) → a ≤ b → Rose b c → Rose a c
rose_since a b c low rose = grind (arith)

-- the whole text is a prefix of itself
whole_prefix : (told told2 : Option (List ℕ)) (text : List ℕ) → Appends told told2 text → AppendsPrefix told told2 text
whole_prefix told told2 text appended = (text, [], sym (append-nil text), appended)

-- a read that failed
pub lines_unread : {T : Type 0} (b : Beyond) (i : Image) (r : Run) (left left2 left3 told told2 : Option (List ℕ)) (f f2 f3 g g2 spare spare2 : ℕ) (e : ReadError)
    → Going b i r left left2 told told2 spare → ReadsLine (Err e) left2 left3 spare spare2 → f ≤ f2 → (IsErrOf {T = T} (Err e) error.Fault → Rose f2 f3)
    → EndsLines b i r (call left left3 told told2 f f3 g g2) (status_of e)
lines_unread b i r left left2 left3 told told2 f f2 f3 g g2 spare spare2 error.Fault so (bytes, consumed, h) low rose = (
  rose_since f f2 f3 low (rose refl),
  (so.taken ++ bytes, (Consumes-trans left left2 left3 so.taken bytes so.consumed consumed, partly b i r left left2 told told2 spare so bytes h)),
)
lines_unread b i r left left2 left3 told told2 f f2 f3 g g2 spare spare2 error.Memory so (bytes, consumed, h) low rose = (
  so.taken ++ bytes,
  Consumes-trans left left2 left3 so.taken bytes so.consumed consumed,
  whole_prefix told told2 (answers b i r (so.taken ++ bytes)) (partly b i r left left2 told told2 spare so bytes h),
)
lines_unread b i r left left2 left3 told told2 f f2 f3 g g2 spare spare2 error.TooLarge so (bytes, next, consumed, h, all) low rose =
    let joined : so.taken ++ (bytes ++ (next ∷ [])) ≡ (so.taken ++ bytes) ++ (next ∷ []) = sym (append_assoc so.taken bytes (next ∷ [])) in (
      so.taken ++ bytes,
      next,
      subst (Consumes left left3) joined (Consumes-trans left left2 left3 so.taken (bytes ++ (next ∷ [])) so.consumed consumed),
      partly b i r left left2 told told2 spare so bytes h,
      omega (arith, so.count, all, length-append so.taken bytes),
      refl,
    )

-- an answer that was not written
part_written : {T : Type 0} (b : Beyond) (i : Image) (r : Run) (left left2 left3 told told2 told3 : Option (List ℕ)) (f f2 g g2 g3 spare spare2 : ℕ) (line : List ℕ) (e : Refused)
    → Going b i r left left2 told told2 spare → ReadsLine (Ok (Some line)) left2 left3 spare spare2 → g ≤ g2
    → Writes {T = T} (Err e) told2 told3 g2 g3 (answer b i r line) → Begins (answers b i r) (call left left3 told told3 f f2 g g3)
part_written {T} b i r left left2 left3 told told2 told3 f f2 g g2 g3 spare spare2 line e so (consumed, h, less) low writes =
    let taken = so.taken ++ (line ++ (10 ∷ [])) in
    let failed : Result T Refused = Err e in
    let split : answers b i r taken ≡ so.out ++ (answer b i r line ++ answers b i r [])
    = ap (answers b i r) (sym (append-nil taken)) ∙ behind b i r left left2 told told2 spare so line [] h in
    let all : Writes failed told told3 g g3 (answers b i r taken)
    = refused_there failed failed e told told2 told3 g g2 g3 so.out (answer b i r line) (answers b i r []) (answers b i r taken) refl refl writes so.appended low split in (
      taken,
      Consumes-trans left left2 left3 so.taken (line ++ (10 ∷ [])) so.consumed consumed,
      prefix_of failed e told told3 g g3 (answers b i r taken) refl all,
    )

unwritten : {T : Type 0} (b : Beyond) (i : Image) (r : Run) (left left2 left3 told told2 told3 : Option (List ℕ)) (f f2 g g2 g3 spare spare2 : ℕ) (line : List ℕ) (result : Result T Refused)
    → is_err result ≡ true → Going b i r left left2 told told2 spare → ReadsLine (Ok (Some line)) left2 left3 spare spare2 → g ≤ g2
    → Writes result told2 told3 g2 g3 (answer b i r line) → EndsLines b i r (call left left3 told told3 f f2 g g3) (status_after result)
unwritten b i r left left2 left3 told told2 told3 f f2 g g2 g3 spare spare2 line (Ok u) failed so reads low writes = let no : false ≡ true = failed in absurd (cc)
unwritten b i r left left2 left3 told told2 told3 f f2 g g2 g3 spare spare2 line (Err refused.Failed) failed so reads low writes =
    (rose_since g g2 g3 low (writes.failed refl), part_written b i r left left2 left3 told told2 told3 f f2 g g2 g3 spare spare2 line refused.Failed so reads low writes)
unwritten b i r left left2 left3 told told2 told3 f f2 g g2 g3 spare spare2 line (Err refused.Memory) failed so reads low writes =
    part_written b i r left left2 left3 told told2 told3 f f2 g g2 g3 spare spare2 line refused.Memory so reads low writes

-- ---- a line that was read, and its answer

written_whole : {T : Type 0} (result : Result T Refused) (told told2 : Option (List ℕ)) (g g2 : ℕ) (bytes : List ℕ) → is_err result ≡ false → Writes result told told2 g g2 bytes
    → Appends told told2 bytes
written_whole (Ok v) told told2 g g2 bytes well writes = writes.ok
written_whole (Err e) told told2 g g2 bytes well writes = let no : true ≡ false = well in absurd (cc)

-- what was written is the answer over the recording, which a replay keeps
kept : {T : Type 0} (b : Beyond) (i j : Image) (r q : Run) (line text : List ℕ) (result : Result T Refused) (told told2 : Option (List ℕ)) (g g2 : ℕ) → j ≡ i → q ≡ r → text ≡ line
    → Writes result told told2 g g2 (answer b j q text) → Writes result told told2 g g2 (answer b i r line)
kept {T} b i j r q line text result told told2 g g2 same_image same_run same_line writes =
    let P : Image → Type 0 = λ x. Writes result told told2 g g2 (answer b x q text) in
    let Q : Run → Type 0 = λ x. Writes result told told2 g g2 (answer b i x text) in
    let R : List ℕ → Type 0 = λ x. Writes result told told2 g g2 (answer b i r x) in
    subst R same_line (subst Q same_run (subst P same_image writes))

pub line_answered : {T : Type 0} (b : Beyond) (i j : Image) (r q : Run) (left left2 left3 told told2 told3 : Option (List ℕ)) (g2 g3 spare spare2 : ℕ) (line text : List ℕ) (result : Result T Refused)
    → j ≡ i → q ≡ r → text ≡ line → is_err result ≡ false → Going b i r left left2 told told2 spare → ReadsLine (Ok (Some line)) left2 left3 spare spare2
    → Writes result told2 told3 g2 g3 (answer b j q text) → Going b i r left left3 told told3 spare2
line_answered b i j r q left left2 left3 told told2 told3 g2 g3 spare spare2 line text result same_image same_run same_line well so reads writes =
    going_on b i r left left2 left3 told told2 told3 spare spare2 line so reads
    (written_whole result told2 told3 g2 g3 (answer b i r line) well (kept b i j r q line text result told2 told3 g2 g3 same_image same_run same_line writes))

pub lines_unwritten : {T : Type 0} (b : Beyond) (i j : Image) (r q : Run) (left left2 left3 told told2 told3 : Option (List ℕ)) (f f2 g g2 g3 spare spare2 : ℕ) (line text : List ℕ) (result : Result T Refused)
    → j ≡ i → q ≡ r → text ≡ line → is_err result ≡ true → Going b i r left left2 told told2 spare → ReadsLine (Ok (Some line)) left2 left3 spare spare2 → g ≤ g2
    → Writes result told2 told3 g2 g3 (answer b j q text) → EndsLines b i r (call left left3 told told3 f f2 g g3) (status_after result)
lines_unwritten b i j r q left left2 left3 told told2 told3 f f2 g g2 g3 spare spare2 line text result same_image same_run same_line failed so reads low writes =
    unwritten b i r left left2 left3 told told2 told3 f f2 g g2 g3 spare spare2 line result failed so reads low
    (kept b i j r q line text result told2 told3 g2 g3 same_image same_run same_line writes)

-- what is so of each good result is so
pub of_good : {T E : Type 0} (result : Result T E) (A : Type 0) → is_err result ≡ false → IfOk result (λ v. A) → A
of_good (Ok v) A well holds = holds
of_good (Err e) A well holds = let no : true ≡ false = well in absurd (cc)

-- ---- the session

-- nothing was written yet
not_begun : (b : Beyond) (left left2 told : Option (List ℕ)) (f f2 g : ℕ) (taken : List ℕ) → Consumes left left2 taken → Begins (session_text b) (call left left2 told told f f2 g g)
not_begun b left left2 told f f2 g taken consumed = (taken, consumed, ([], session_text b taken, refl, Appends-nil told))

-- nothing is to be written
none_written : (b : Beyond) (told : Option (List ℕ)) (taken : List ℕ) → IsShort taken → Appends told told (session_text b taken)
none_written b told taken short = subst (Appends told told) (sym (silent b taken (status.Recording record_fault.Short) short)) (Appends-nil told)

-- no recording was read
pub session_missed : (b : Beyond) (left left2 told : Option (List ℕ)) (f f2 g : ℕ) (s : Status) → Misses left left2 f f2 s → Sessions b (call left left2 told told f f2 g g) s
session_missed b left left2 told f f2 g status.ReadFault (rose, (taken, consumed, short)) = (rose, (taken, (consumed, none_written b told taken short)))
session_missed b left left2 told f f2 g status.Memory (taken, consumed, any) = not_begun b left left2 told f f2 g taken consumed
session_missed b left left2 told f f2 g (status.TooLarge limit) (inl (taken, next, consumed, short, all, is)) = inl (taken, next, consumed, none_written b told taken short, all, is)
session_missed b left left2 told f f2 g (status.TooLarge limit) (inr (input, tells, refused)) = inr (input, tells, refused, Keeps-refl told)
session_missed b left left2 told f f2 g status.Done misses = absurd misses
session_missed b left left2 told f f2 g status.WriteFault misses = absurd misses
session_missed b left left2 told f f2 g status.PastEnd (input, tells, refused) = (input, tells, refused, Keeps-refl told)
session_missed b left left2 told f f2 g (status.Usage rule) (input, tells, refused) = (input, tells, refused, Keeps-refl told)
session_missed b left left2 told f f2 g (status.Image fault) (input, tells, refused) = (input, tells, refused, Keeps-refl told)
session_missed b left left2 told f f2 g (status.Elf fault) (input, tells, refused) = (input, tells, refused, Keeps-refl told)
session_missed b left left2 told f f2 g (status.Asm place) (input, tells, refused) = (input, tells, refused, Keeps-refl told)
session_missed b left left2 told f f2 g (status.Recording fault) (input, tells, refused) = (input, tells, refused, Keeps-refl told)

-- a recording with a fault
faulty : (b : Beyond) (left left2 told : Option (List ℕ)) (recording : List ℕ) (f f2 g : ℕ) (s : Status) → Opens left left2 recording → recording_refusal recording ≡ Some s
    → Refuses (call left left2 told told f f2 g g) s
faulty b left left2 told recording f f2 g s (line, consumed, h, says, within) refused =
    let (more, tells) = whole left left2 ((line ++ (10 ∷ [])) ++ recording) consumed in (
      ((line ++ (10 ∷ [])) ++ recording) ++ more,
      tells,
      refusal_opened line recording more h says within ∙ refused,
      Keeps-refl told,
    )

-- a refusal of a recording is one of its faults
abbrev IsOfRecording : Status → Type 0
IsOfRecording (status.Recording fault) = Unit {0}
IsOfRecording _ = ⊥

of_fault : (fault : Option RecordFault) (s : Status) → option_map status.Recording fault ≡ Some s → IsOfRecording s
of_fault None s is = absurd (cc)
of_fault (Some f) s is = let same : status.Recording f ≡ s = cc in subst IsOfRecording same tt

of_recording : (recording : List ℕ) (s : Status) → recording_refusal recording ≡ Some s → IsOfRecording s
unfolding recording_refusal
of_recording recording s is = of_fault (recording_fault recording) s is

pub session_refused : (b : Beyond) (left left2 told : Option (List ℕ)) (recording : List ℕ) (f f2 g : ℕ) (s : Status) → Opens left left2 recording
    → (s ≢ status.Memory → recording_refusal recording ≡ Some s) → Sessions b (call left left2 told told f f2 g g) s
session_refused b left left2 told recording f f2 g status.Memory (line, consumed, h, says, within) refused =
    not_begun b left left2 told f f2 g ((line ++ (10 ∷ [])) ++ recording) consumed
session_refused b left left2 told recording f f2 g (status.Recording fault) opens refused =
    faulty b left left2 told recording f f2 g (status.Recording fault) opens (refused (λ p. cc))
session_refused b left left2 told recording f f2 g status.Done opens refused = absurd (of_recording recording status.Done (refused (λ p. cc)))
session_refused b left left2 told recording f f2 g status.WriteFault opens refused = absurd (of_recording recording status.WriteFault (refused (λ p. cc)))
session_refused b left left2 told recording f f2 g status.ReadFault opens refused = absurd (of_recording recording status.ReadFault (refused (λ p. cc)))
session_refused b left left2 told recording f f2 g status.PastEnd opens refused = absurd (of_recording recording status.PastEnd (refused (λ p. cc)))
session_refused b left left2 told recording f f2 g (status.TooLarge limit) opens refused = absurd (of_recording recording (status.TooLarge limit) (refused (λ p. cc)))
session_refused b left left2 told recording f f2 g (status.Usage rule) opens refused = absurd (of_recording recording (status.Usage rule) (refused (λ p. cc)))
session_refused b left left2 told recording f f2 g (status.Image fault) opens refused = absurd (of_recording recording (status.Image fault) (refused (λ p. cc)))
session_refused b left left2 told recording f f2 g (status.Elf fault) opens refused = absurd (of_recording recording (status.Elf fault) (refused (λ p. cc)))
session_refused b left left2 told recording f f2 g (status.Asm place) opens refused = absurd (of_recording recording (status.Asm place) (refused (λ p. cc)))

-- what follows what was opened
module _ (b : Beyond) (left left2 left3 : Option (List ℕ)) (recording : List ℕ) (opens : Opens left left2 recording) (accepted : recording_refusal recording ≡ None) where
  abbrev front : List ℕ
  front = (opens.0 ++ (10 ∷ [])) ++ recording

  abbrev text_in : List ℕ → List ℕ
  text_in = answers b (image_in recording) (run_in recording)

  reached : (taken : List ℕ) → Consumes left2 left3 taken → Consumes left left3 (front ++ taken)
  reached taken consumed = Consumes-trans left left2 left3 front taken opens.1 consumed

  same_text : (taken : List ℕ) → session_text b (front ++ taken) ≡ text_in taken
  same_text taken = text_opened b opens.0 recording taken opens.2 opens.3 opens.4 accepted

  same_lines : (taken : List ℕ) → lines_in (front ++ taken) ≡ taken
  same_lines taken = lines_opened opens.0 recording taken opens.2 opens.3

  not_refused : (taken : List ℕ) → refusal_of (front ++ taken) ≡ None
  not_refused taken = refusal_opened opens.0 recording taken opens.2 opens.3 opens.4 ∙ accepted

  begins : (told told2 : Option (List ℕ)) (f f2 f3 g g2 : ℕ) → Begins text_in (call left2 left3 told told2 f2 f3 g g2) → Begins (session_text b) (call left left3 told told2 f f3 g g2)
  begins told told2 f f2 f3 g g2 (taken, consumed, part) = (front ++ taken, reached taken consumed, subst (AppendsPrefix told told2) (sym (same_text taken)) part)

  pub session_answered : (told told2 : Option (List ℕ)) (f f2 f3 g g2 : ℕ) (s : Status) → f ≤ f2 → EndsLines b (image_in recording) (run_in recording) (call left2 left3 told told2 f2 f3 g g2) s
      → Sessions b (call left left3 told told2 f f3 g g2) s
  session_answered told told2 f f2 f3 g g2 status.Done low (taken, (consumed, appended), end, within) =
      let few : length (lines_in (front ++ taken)) ≤ lines_limit = subst (λ (l : List ℕ). length l ≤ lines_limit) (sym (same_lines taken)) within in
      (front ++ taken, (reached taken consumed, subst (Appends told told2) (sym (same_text taken)) appended), end, not_refused taken, few)
  session_answered told told2 f f2 f3 g g2 status.WriteFault low (rose, part) = (rose, begins told told2 f f2 f3 g g2 part)
  session_answered told told2 f f2 f3 g g2 status.ReadFault low (rose, (taken, (consumed, appended))) =
      (rose_since f f2 f3 low rose, (front ++ taken, (reached taken consumed, subst (Appends told told2) (sym (same_text taken)) appended)))
  session_answered told told2 f f2 f3 g g2 status.Memory low part = begins told told2 f f2 f3 g g2 part
  session_answered told told2 f f2 f3 g g2 (status.TooLarge limit) low (taken, next, consumed, appended, all, is) =
      let joined : front ++ (taken ++ (next ∷ [])) ≡ (front ++ taken) ++ (next ∷ []) = sym (append_assoc front taken (next ∷ [])) in
      inl (
        front ++ taken,
        next,
        subst (Consumes left left3) joined (reached (taken ++ (next ∷ [])) consumed),
        subst (Appends told told2) (sym (same_text taken)) appended,
        ap length (same_lines taken) ∙ all,
        is,
      )
  session_answered told told2 f f2 f3 g g2 status.PastEnd low never = absurd never
  session_answered told told2 f f2 f3 g g2 (status.Usage rule) low never = absurd never
  session_answered told told2 f f2 f3 g g2 (status.Image fault) low never = absurd never
  session_answered told told2 f f2 f3 g g2 (status.Elf fault) low never = absurd never
  session_answered told told2 f f2 f3 g g2 (status.Asm place) low never = absurd never
  session_answered told told2 f f2 f3 g g2 (status.Recording fault) low never = absurd never

-- the same of a replay over what the recording holds
pub session_over : (b : Beyond) (i : Image) (r : Run) (left left2 left3 told told2 : Option (List ℕ)) (recording : List ℕ) (f f2 f3 g g2 : ℕ) (s : Status) → i ≡ image_in recording → r ≡ run_in recording
    → Opens left left2 recording → recording_refusal recording ≡ None → f ≤ f2 → EndsLines b i r (call left2 left3 told told2 f2 f3 g g2) s → Sessions b (call left left3 told told2 f f3 g g2) s
session_over b i r left left2 left3 told told2 recording f f2 f3 g g2 s same_image same_run opens accepted low ended =
    let P : Image → Type 0 = λ x. EndsLines b x r (call left2 left3 told told2 f2 f3 g g2) s in
    let Q : Run → Type 0 = λ x. EndsLines b (image_in recording) x (call left2 left3 told told2 f2 f3 g g2) s in
    session_answered b left left2 left3 recording opens accepted told told2 f f2 f3 g g2 s low (subst Q same_run (subst P same_image ended))
