-- What was written of an input that was read to its end.
use Rattle.std.proofs.Common.{◌≡◌, ◌≢◌, ℕ, inl, inr, List, Option, Some, None, Result, Ok, Err, refl, sym, subst}
use Rattle.std.specs.Option.{option_map}
use Rattle.xt_asm.specs.Kinds.{text_fault}
use Rattle.xt_elf.specs.Rules.{elf_fault}
use Rattle.xt_image.specs.Rules.{image_fault}
use Rattle.xt_record.specs.Format.{recording_fault}
use Rattle.xt_io.specs.declared.sink.Refused.{Refused}
use Rattle.xt_io.specs.declared.sink.Refused.TheVariants as refused
use Rattle.xt_report.specs.declared.status.Status.{Status}
use Rattle.xt_report.specs.declared.status.Status.TheVariants as status
use Rattle.xt_report.specs.Inputs.{image_refusal, recording_refusal}
use Rattle.xt_report.specs.Statuses.{status_after}
use Rattle.xt_report.specs.Writes.{Writes}
use Rattle.xt_report.proofs.Quiet.{keeps_same}
use Rattle.xt_tools.specs.Commands.{IsMade, elf_refusal, text_refusal}
use Rattle.xt_tools.specs.Puts.{Puts}

-- ---- a refusal of an input is a fault of a text, of an ELF executable, of an image or of a recording

-- the statuses of such faults
abbrev pub IsOfFault : Status → Type 0
IsOfFault (status.Asm place) = Unit {0}
IsOfFault (status.Image f) = Unit {0}
IsOfFault (status.Elf f) = Unit {0}
IsOfFault (status.Recording f) = Unit {0}
IsOfFault _ = ⊥

mapped : {A : Type 0} → (f : A → Status) → ((a : A) → IsOfFault (f a)) → (o : Option A) (s : Status) → option_map f o ≡ Some s → IsOfFault s
mapped f is None s h = absurd (cc)
mapped f is (Some a) s h = let e : f a ≡ s = cc in subst IsOfFault e (is a)

pub text_is_fault : (input : List ℕ) (s : Status) → text_refusal input ≡ Some s → IsOfFault s
unfolding text_refusal
text_is_fault input s h = mapped status.Asm (λ place. tt) (text_fault input) s h

pub elf_is_fault : (input : List ℕ) (s : Status) → elf_refusal input ≡ Some s → IsOfFault s
unfolding elf_refusal
elf_is_fault input s h = mapped status.Elf (λ f. tt) (elf_fault input) s h

pub image_is_fault : (input : List ℕ) (s : Status) → image_refusal input ≡ Some s → IsOfFault s
image_is_fault input s h = mapped status.Image (λ f. tt) (image_fault input) s h

pub recording_is_fault : (input : List ℕ) (s : Status) → recording_refusal input ≡ Some s → IsOfFault s
unfolding recording_refusal
recording_is_fault input s h = mapped status.Recording (λ f. tt) (recording_fault input) s h

-- ---- a refusal, before anything was written

pub refused_puts : (r : Option Status) (Is : List ℕ → Type 0) (told : Option (List ℕ)) (faults : ℕ) (s : Status) → ((t : Status) → r ≡ Some t → IsOfFault t)
    → (s ≢ status.Memory → r ≡ Some s) → Puts r Is told told faults faults s
refused_puts r Is told faults status.Memory of_fault refused = inl (keeps_same told)
refused_puts r Is told faults status.Done of_fault refused = absurd (of_fault status.Done (refused (λ p. cc)))
refused_puts r Is told faults status.WriteFault of_fault refused = absurd (of_fault status.WriteFault (refused (λ p. cc)))
refused_puts r Is told faults status.PastEnd of_fault refused = (refused (λ p. cc), keeps_same told)
refused_puts r Is told faults status.ReadFault of_fault refused = (refused (λ p. cc), keeps_same told)
refused_puts r Is told faults (status.TooLarge limit) of_fault refused = (refused (λ p. cc), keeps_same told)
refused_puts r Is told faults (status.Usage rule) of_fault refused = (refused (λ p. cc), keeps_same told)
refused_puts r Is told faults (status.Image f) of_fault refused = (refused (λ p. cc), keeps_same told)
refused_puts r Is told faults (status.Elf f) of_fault refused = (refused (λ p. cc), keeps_same told)
refused_puts r Is told faults (status.Asm place) of_fault refused = (refused (λ p. cc), keeps_same told)
refused_puts r Is told faults (status.Recording f) of_fault refused = (refused (λ p. cc), keeps_same told)

-- ---- a text that was written, or a prefix of it

written_by : (refusal : Option Status) (Is : List ℕ → Type 0) (r : Result Unit Refused) (a b : Option (List ℕ)) (f g : ℕ) (bytes : List ℕ) → IsMade refusal (Is bytes)
    → Writes r a b f g bytes → Puts refusal Is a b f g (status_after r)
written_by refusal Is (Ok u) a b f g bytes made writes = (bytes, made, writes.ok)
written_by refusal Is (Err refused.Failed) a b f g bytes made writes = ((bytes, made, writes.err), writes.failed refl)
written_by refusal Is (Err refused.Memory) a b f g bytes made writes = inr (bytes, made, writes.err)

pub written_puts : (refusal : Option Status) (Is : List ℕ → Type 0) (r : Result Unit Refused) (s : Status) (a b : Option (List ℕ)) (f g : ℕ) (bytes : List ℕ)
    → IsMade refusal (Is bytes) → Writes r a b f g bytes → s ≡ status_after r → Puts refusal Is a b f g s
written_puts refusal Is r s a b f g bytes made writes is =
    let P : Status → Type 0 = λ x. Puts refusal Is a b f g x in subst P (sym is) (written_by refusal Is r a b f g bytes made writes)
