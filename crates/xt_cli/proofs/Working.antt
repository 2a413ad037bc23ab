-- What a command makes of an input that was read to its end.
use Rattle.std.proofs.Common.{◌≡◌, ◌≢◌, ◌≤◌, ℕ, Bool, true, false, inl, inr, List, ◌++◌, length, Option, Some, None, Result, Ok, Err, refl, sym, ap, ◌∙◌, subst, append-nil}
use Rattle.std.specs.Io.KnownBytes.{Appends, Consumes, IsAtEnd}
use Rattle.xt_report.specs.declared.status.Status.{Status}
use Rattle.xt_report.specs.declared.status.Status.TheVariants as status
use Rattle.xt_report.specs.Calls.{Ends, ReadsWhole}
use Rattle.xt_report.specs.Statuses.{status_after}
use Rattle.xt_report.specs.Writes.{Writes}
use Rattle.xt_report.proofs.Quiet.{taken_within}
use Rattle.xt_io.specs.Whole.{AppendsPrefix}
use Rattle.xt_io.specs.declared.sink.Refused.{Refused}
use Rattle.xt_io.specs.declared.sink.Refused.TheVariants as refused
use Rattle.xt_command_line.specs.declared.beyond.Beyond.{Beyond}
use Rattle.xt_command_line.specs.declared.command.Turns.{Turns}
use Rattle.xt_debug.specs.declared.script.Command.{Command}
use Rattle.xt_tools.proofs.Putting as putting
use Rattle.xt_tools.proofs.Putting.{IsOfFault, elf_is_fault, image_is_fault, recording_is_fault, text_is_fault}
use Rattle.xt_cli.specs.declared.tool.Job.{Job}
use Rattle.xt_cli.specs.declared.tool.Job.TheVariants as job
use Rattle.xt_cli.specs.Puts.{HasText, IsWhole, Puts, Replays, status_beyond}
use Rattle.xt_cli.specs.Tools.{Finishes, HasEnded, HasInput, HasOutput, IsMade, IsWritten, Makes}
use Rattle.xt_cli.specs.Tools.{Input, Text, Executable, Image, Recording, input_of}
use Rattle.xt_cli.specs.Tools.{done_status, leads_beyond, limit_of, refusal_in, refusal_of}

-- ---- a refusal of an input is a fault of a text, of an ELF executable, of an image or of a recording

fault_in : (i : Input) (input : List ℕ) (s : Status) → refusal_in i input ≡ Some s → IsOfFault s
fault_in Text = text_is_fault
fault_in Executable = elf_is_fault
fault_in Image = image_is_fault
fault_in Recording = recording_is_fault

refusal_is_fault : (j : Job) (input : List ℕ) (s : Status) → refusal_of j input ≡ Some s → IsOfFault s
refusal_is_fault j = fault_in (input_of j)

-- ---- what was written of an input that was read to its end

read_so : (j : Job) (e : Ends) (input : List ℕ) (P : List ℕ → Type 0) → Consumes e.left e.left_after input → IsAtEnd e.left_after → length input ≤ limit_of j → P input
    → ReadsWhole (limit_of j) e P
read_so j e input P taken end within is = record { input = input; taken = taken; end = end; within = within; is = is }

-- a whole output, by whether a script led beyond the run
ended_so : (j : Job) (e : Ends) (input : List ℕ) (beyond : Bool) → Consumes e.left e.left_after input → IsAtEnd e.left_after → length input ≤ limit_of j
    → leads_beyond j input ≡ beyond → HasText j input (Appends e.told e.told_after) → HasEnded j e beyond
ended_so j e input beyond taken end within is (bytes, made, holds) =
    (bytes, read_so j e input (λ i. IsMade j i bytes × (leads_beyond j i ≡ beyond)) taken end within (made, is), holds)

made_so : (j : Job) (e : Ends) (input : List ℕ) (P : List ℕ → Type 0) → Consumes e.left e.left_after input → IsAtEnd e.left_after → length input ≤ limit_of j
    → HasText j input P → HasOutput j e P
made_so j e input P taken end within (bytes, made, holds) = (bytes, read_so j e input (λ i. IsMade j i bytes) taken end within made, holds)

-- no script leads beyond a run
abbrev pub NeverBeyond : Job → Type 0
NeverBeyond j = (input : List ℕ) → leads_beyond j input ≡ false

pub puts_makes : (j : Job) (e : Ends) (input : List ℕ) (s : Status) → NeverBeyond j → Consumes e.left e.left_after input → IsAtEnd e.left_after → length input ≤ limit_of j
    → Puts j input e.told e.told_after e.sink_faults e.sink_faults_after s → Makes j e s
puts_makes j e input status.Done never taken end within puts = ended_so j e input false taken end within (never input) puts
puts_makes j e input status.PastEnd never taken end within (refused, keeps) = absurd (refusal_is_fault j input status.PastEnd refused)
puts_makes j e input status.WriteFault never taken end within (text, rose) = (made_so j e input (AppendsPrefix e.told e.told_after) taken end within text, rose)
puts_makes j e input status.Memory never taken end within (inl keeps) = (taken_within (limit_of j) e input taken within, inl keeps)
puts_makes j e input status.Memory never taken end within (inr text) =
    (taken_within (limit_of j) e input taken within, inr (made_so j e input (AppendsPrefix e.told e.told_after) taken end within text))
puts_makes j e input status.ReadFault never taken end within (refused, keeps) = absurd (refusal_is_fault j input status.ReadFault refused)
puts_makes j e input (status.TooLarge limit) never taken end within (refused, keeps) = absurd (refusal_is_fault j input (status.TooLarge limit) refused)
puts_makes j e input (status.Usage rule) never taken end within (refused, keeps) = absurd (refusal_is_fault j input (status.Usage rule) refused)
puts_makes j e input (status.Image f) never taken end within (refused, keeps) = (read_so j e input (λ i. refusal_of j i ≡ Some (status.Image f)) taken end within refused, keeps)
puts_makes j e input (status.Elf f) never taken end within (refused, keeps) = (read_so j e input (λ i. refusal_of j i ≡ Some (status.Elf f)) taken end within refused, keeps)
puts_makes j e input (status.Asm place) never taken end within (refused, keeps) = (read_so j e input (λ i. refusal_of j i ≡ Some (status.Asm place)) taken end within refused, keeps)
puts_makes j e input (status.Recording f) never taken end within (refused, keeps) = (read_so j e input (λ i. refusal_of j i ≡ Some (status.Recording f)) taken end within refused, keeps)

-- the same of `replay`
pub replays_makes : (j : Job) (e : Ends) (input : List ℕ) (s : Status) → Consumes e.left e.left_after input → IsAtEnd e.left_after → length input ≤ limit_of j
    → Replays j input e.told e.told_after e.sink_faults e.sink_faults_after s → Makes j e s
replays_makes j e input status.Done taken end within (text, is) = ended_so j e input false taken end within is text
replays_makes j e input status.PastEnd taken end within (text, is) = ended_so j e input true taken end within is text
replays_makes j e input status.WriteFault taken end within (text, rose) = (made_so j e input (AppendsPrefix e.told e.told_after) taken end within text, rose)
replays_makes j e input status.Memory taken end within (inl keeps) = (taken_within (limit_of j) e input taken within, inl keeps)
replays_makes j e input status.Memory taken end within (inr text) =
    (taken_within (limit_of j) e input taken within, inr (made_so j e input (AppendsPrefix e.told e.told_after) taken end within text))
replays_makes j e input status.ReadFault taken end within (refused, keeps) = absurd (refusal_is_fault j input status.ReadFault refused)
replays_makes j e input (status.TooLarge limit) taken end within (refused, keeps) = absurd (refusal_is_fault j input (status.TooLarge limit) refused)
replays_makes j e input (status.Usage rule) taken end within (refused, keeps) = absurd (refusal_is_fault j input (status.Usage rule) refused)
replays_makes j e input (status.Image f) taken end within (refused, keeps) = (read_so j e input (λ i. refusal_of j i ≡ Some (status.Image f)) taken end within refused, keeps)
replays_makes j e input (status.Elf f) taken end within (refused, keeps) = (read_so j e input (λ i. refusal_of j i ≡ Some (status.Elf f)) taken end within refused, keeps)
replays_makes j e input (status.Asm place) taken end within (refused, keeps) = (read_so j e input (λ i. refusal_of j i ≡ Some (status.Asm place)) taken end within refused, keeps)
replays_makes j e input (status.Recording f) taken end within (refused, keeps) = (read_so j e input (λ i. refusal_of j i ≡ Some (status.Recording f)) taken end within refused, keeps)

-- the bytes that the source told are those that were read
same_input : (left after : Option (List ℕ)) (told input : List ℕ) → left ≡ Some told → Consumes left after input → IsAtEnd after → told ≡ input
same_input None after told input is taken end = absurd (cc)
same_input (Some xs) None told input is taken end = absurd taken
same_input (Some xs) (Some ys) told input is taken end =
    let same : xs ≡ told = cc in sym same ∙ taken ∙ ap (λ (l : List ℕ). input ++ l) end ∙ append-nil input

not_refused : (j : Job) (e : Ends) (input : List ℕ) (s : Status) → HasInput j e.left → Consumes e.left e.left_after input → IsAtEnd e.left_after → refusal_of j input ≡ Some s → ⊥
not_refused j e input s h taken end refused =
    let none : ◌≡◌ {A = Option Status} None (Some s) = sym h.accepted ∙ ap (refusal_of j) (same_input e.left e.left_after h.input input h.told taken end) ∙ refused in cc

-- a whole output ends in the status that the script asks for
finishes_so : (j : Job) (e : Ends) (input : List ℕ) (beyond : Bool) (h : HasInput j e.left) → Consumes e.left e.left_after input → IsAtEnd e.left_after → leads_beyond j input ≡ beyond
    → done_status beyond ≡ done_status (leads_beyond j h.input)
finishes_so j e input beyond h taken end is =
    ap done_status (sym is) ∙ ap (λ (i : List ℕ). done_status (leads_beyond j i)) (sym (same_input e.left e.left_after h.input input h.told taken end))

-- what is no whole output does not come
ends_otherwise : (j : Job) (e : Ends) (input : List ℕ) (s : Status) → Consumes e.left e.left_after input → IsAtEnd e.left_after → refusal_of j input ≡ Some s → Finishes j e s
ends_otherwise j e input s taken end refused h source sink = absurd (not_refused j e input s h taken end refused)

pub puts_finish : (j : Job) (e : Ends) (input : List ℕ) (s : Status) → NeverBeyond j → Consumes e.left e.left_after input → IsAtEnd e.left_after
    → Puts j input e.told e.told_after e.sink_faults e.sink_faults_after s → Finishes j e s
puts_finish j e input status.Done never taken end puts h source sink = inl (finishes_so j e input false h taken end (never input))
puts_finish j e input status.Memory never taken end puts h source sink = inr refl
puts_finish j e input status.WriteFault never taken end (text, rose) h source sink = absurd (sink rose)
puts_finish j e input status.PastEnd never taken end (refused, keeps) h source sink = ends_otherwise j e input status.PastEnd taken end refused h source sink
puts_finish j e input status.ReadFault never taken end (refused, keeps) h source sink = ends_otherwise j e input status.ReadFault taken end refused h source sink
puts_finish j e input (status.TooLarge limit) never taken end (refused, keeps) h source sink = ends_otherwise j e input (status.TooLarge limit) taken end refused h source sink
puts_finish j e input (status.Usage rule) never taken end (refused, keeps) h source sink = ends_otherwise j e input (status.Usage rule) taken end refused h source sink
puts_finish j e input (status.Image f) never taken end (refused, keeps) h source sink = ends_otherwise j e input (status.Image f) taken end refused h source sink
puts_finish j e input (status.Elf f) never taken end (refused, keeps) h source sink = ends_otherwise j e input (status.Elf f) taken end refused h source sink
puts_finish j e input (status.Asm place) never taken end (refused, keeps) h source sink = ends_otherwise j e input (status.Asm place) taken end refused h source sink
puts_finish j e input (status.Recording f) never taken end (refused, keeps) h source sink = ends_otherwise j e input (status.Recording f) taken end refused h source sink

pub replays_finish : (j : Job) (e : Ends) (input : List ℕ) (s : Status) → Consumes e.left e.left_after input → IsAtEnd e.left_after
    → Replays j input e.told e.told_after e.sink_faults e.sink_faults_after s → Finishes j e s
replays_finish j e input status.Done taken end (text, is) h source sink = inl (finishes_so j e input false h taken end is)
replays_finish j e input status.PastEnd taken end (text, is) h source sink = inl (finishes_so j e input true h taken end is)
replays_finish j e input status.Memory taken end puts h source sink = inr refl
replays_finish j e input status.WriteFault taken end (text, rose) h source sink = absurd (sink rose)
replays_finish j e input status.ReadFault taken end (refused, keeps) h source sink = ends_otherwise j e input status.ReadFault taken end refused h source sink
replays_finish j e input (status.TooLarge limit) taken end (refused, keeps) h source sink = ends_otherwise j e input (status.TooLarge limit) taken end refused h source sink
replays_finish j e input (status.Usage rule) taken end (refused, keeps) h source sink = ends_otherwise j e input (status.Usage rule) taken end refused h source sink
replays_finish j e input (status.Image f) taken end (refused, keeps) h source sink = ends_otherwise j e input (status.Image f) taken end refused h source sink
replays_finish j e input (status.Elf f) taken end (refused, keeps) h source sink = ends_otherwise j e input (status.Elf f) taken end refused h source sink
replays_finish j e input (status.Asm place) taken end (refused, keeps) h source sink = ends_otherwise j e input (status.Asm place) taken end refused h source sink
replays_finish j e input (status.Recording f) taken end (refused, keeps) h source sink = ends_otherwise j e input (status.Recording f) taken end refused h source sink

-- a command whose words ask for no turns and no script makes its whole text
pub whole_unless : (j : Job) → ((turns : Turns) → j ≡ job.Trace turns → ⊥) → ((commands : List Command) (b : Beyond) → j ≡ job.Replay commands b → ⊥) → IsWhole j
whole_unless (job.Trace turns) others scripts = absurd (others turns refl)
whole_unless job.Assemble others scripts = tt
whole_unless job.Convert others scripts = tt
whole_unless (job.List listing) others scripts = tt
whole_unless job.Map others scripts = tt
whole_unless (job.Check vecbase) others scripts = tt
whole_unless job.Migrate others scripts = tt
whole_unless (job.Replay commands b) others scripts = absurd (scripts commands b refl)
whole_unless job.Events others scripts = tt
whole_unless job.Counts others scripts = tt
whole_unless job.Race others scripts = tt
whole_unless (job.Profile options) others scripts = tt
whole_unless (job.Uses d) others scripts = tt
whole_unless (job.Secrets options) others scripts = tt
whole_unless (job.Outcomes options) others scripts = tt

-- no script leads such a command beyond a run
pub never_beyond : (j : Job) → IsWhole j → NeverBeyond j
never_beyond (job.Trace turns) whole = absurd whole
never_beyond (job.Replay commands b) whole = absurd whole
never_beyond job.Assemble whole = λ input. refl
never_beyond job.Convert whole = λ input. refl
never_beyond (job.List listing) whole = λ input. refl
never_beyond job.Map whole = λ input. refl
never_beyond (job.Check vecbase) whole = λ input. refl
never_beyond job.Migrate whole = λ input. refl
never_beyond job.Events whole = λ input. refl
never_beyond job.Counts whole = λ input. refl
never_beyond job.Race whole = λ input. refl
never_beyond (job.Profile options) whole = λ input. refl
never_beyond (job.Uses d) whole = λ input. refl
never_beyond (job.Secrets options) whole = λ input. refl
never_beyond (job.Outcomes options) whole = λ input. refl

-- ---- a refusal, before anything was written

pub refused_puts : (j : Job) (input : List ℕ) (told : Option (List ℕ)) (faults : ℕ) (s : Status) → (s ≢ status.Memory → refusal_of j input ≡ Some s)
    → Puts j input told told faults faults s
refused_puts j input told faults s refused = putting.refused_puts (refusal_of j input) (IsWritten j input) told faults s (refusal_is_fault j input) refused

-- ---- a text that was written, or a prefix of it

pub written_puts : (j : Job) (input : List ℕ) (r : Result Unit Refused) (s : Status) (a b : Option (List ℕ)) (f g : ℕ) (bytes : List ℕ) → IsMade j input bytes
    → Writes r a b f g bytes → s ≡ status_after r → Puts j input a b f g s
written_puts j input r s a b f g bytes made writes is = putting.written_puts (refusal_of j input) (IsWritten j input) r s a b f g bytes made writes is

-- ---- the same of `replay`

pub refused_replays : (j : Job) (input : List ℕ) (told : Option (List ℕ)) (faults : ℕ) (s : Status) → (s ≢ status.Memory → refusal_of j input ≡ Some s)
    → Replays j input told told faults faults s
refused_replays j input told faults status.Done refused = absurd (refusal_is_fault j input status.Done (refused (λ p. cc)))
refused_replays j input told faults status.PastEnd refused = absurd (refusal_is_fault j input status.PastEnd (refused (λ p. cc)))
refused_replays j input told faults status.Memory refused = refused_puts j input told faults status.Memory refused
refused_replays j input told faults status.WriteFault refused = refused_puts j input told faults status.WriteFault refused
refused_replays j input told faults status.ReadFault refused = refused_puts j input told faults status.ReadFault refused
refused_replays j input told faults (status.TooLarge limit) refused = refused_puts j input told faults (status.TooLarge limit) refused
refused_replays j input told faults (status.Usage rule) refused = refused_puts j input told faults (status.Usage rule) refused
refused_replays j input told faults (status.Image f) refused = refused_puts j input told faults (status.Image f) refused
refused_replays j input told faults (status.Elf f) refused = refused_puts j input told faults (status.Elf f) refused
refused_replays j input told faults (status.Asm place) refused = refused_puts j input told faults (status.Asm place) refused
refused_replays j input told faults (status.Recording f) refused = refused_puts j input told faults (status.Recording f) refused

written_by : (j : Job) (input : List ℕ) (r : Result Unit Refused) (beyond : Bool) (a b : Option (List ℕ)) (f g : ℕ) (bytes : List ℕ) → IsMade j input bytes → leads_beyond j input ≡ beyond
    → Writes r a b f g bytes → Replays j input a b f g (status_beyond beyond (status_after r))
written_by j input (Ok u) false a b f g bytes made is writes = ((bytes, made, writes.ok), is)
written_by j input (Ok u) true a b f g bytes made is writes = ((bytes, made, writes.ok), is)
written_by j input (Err refused.Failed) beyond a b f g bytes made is writes = ((bytes, made, writes.err), writes.failed refl)
written_by j input (Err refused.Memory) beyond a b f g bytes made is writes = inr (bytes, made, writes.err)

pub written_replays : (j : Job) (input : List ℕ) (r : Result Unit Refused) (beyond : Bool) (s t : Status) (a b : Option (List ℕ)) (f g : ℕ) (bytes : List ℕ) → IsMade j input bytes → leads_beyond j input ≡ beyond
    → Writes r a b f g bytes → s ≡ status_beyond beyond t → t ≡ status_after r → Replays j input a b f g s
written_replays j input r beyond s t a b f g bytes made beyond_is writes is after_is =
    let P : Status → Type 0 = λ x. Replays j input a b f g x in
    subst P (sym (is ∙ ap (status_beyond beyond) after_is)) (written_by j input r beyond a b f g bytes made beyond_is writes)
