-- Words of faults and statuses that are a name with numbers.
use Rattle.std.proofs.Common.{◌≡◌, ℕ, IfOk, List, Result, Ok, Err, refl, ◌∙◌}
use Rattle.xt_image.specs.declared.fault.ImageFault.{ImageFault}
use Rattle.xt_image.specs.declared.fault.ImageFault.TheVariants as fault
use Rattle.xt_elf.specs.declared.fault.ElfFault.{ElfFault}
use Rattle.xt_record.specs.declared.fault.RecordFault.{RecordFault}
use Rattle.xt_record.specs.declared.fault.RecordFault.TheVariants as record_fault
use Rattle.xt_report.specs.declared.status.Status.{Status}
use Rattle.xt_report.specs.declared.status.Status.TheVariants as status
use Rattle.xt_report.specs.Statuses.{fault_text, image_fault_name, image_fault_numbers, name_and_numbers, record_fault_name, record_fault_numbers, record_fault_text, status_name, status_numbers, status_words}

-- ---- what is of no other form is a name with numbers

pub plain_image : (f : ImageFault) → ((kept computed : List ℕ) → f ≡ fault.Digest kept computed → ⊥) → name_and_numbers (image_fault_name f) (image_fault_numbers f) ≡ fault_text f
plain_image fault.Short other = refl
plain_image (fault.Magic byte) other = refl
plain_image (fault.Count count) other = refl
plain_image (fault.Chip id) other = refl
plain_image (fault.DigestFlag flag) other = refl
plain_image (fault.SegmentEnd index) other = refl
plain_image (fault.SegmentLength index) other = refl
plain_image (fault.SegmentPlace index) other = refl
plain_image (fault.SegmentOverlap first second) other = refl
plain_image fault.NoChecksum other = refl
plain_image (fault.Checksum kept computed) other = refl
plain_image fault.NoDigest other = refl
plain_image (fault.Digest kept computed) other = absurd (other kept computed refl)
plain_image (fault.Entry address) other = refl
plain_image fault.Memory other = refl

pub plain_record : (f : RecordFault) → ((i : ImageFault) → f ≡ record_fault.Image i → ⊥) → name_and_numbers (record_fault_name f) (record_fault_numbers f) ≡ record_fault_text f
plain_record record_fault.Short other = refl
plain_record record_fault.Magic other = refl
plain_record (record_fault.Version version) other = refl
plain_record (record_fault.Image f) other = absurd (other f refl)
plain_record record_fault.Options other = refl
plain_record (record_fault.Entry entry) other = refl
plain_record (record_fault.Illegal entry kept right) other = refl
plain_record (record_fault.Turn core step) other = refl
plain_record record_fault.Trailing other = refl
plain_record (record_fault.Checkpoint index) other = refl
plain_record record_fault.Memory other = refl

pub plain_status : (s : Status) → ((f : ImageFault) → s ≡ status.Image f → ⊥) → ((f : ElfFault) → s ≡ status.Elf f → ⊥) → ((f : RecordFault) → s ≡ status.Recording f → ⊥)
    → name_and_numbers (status_name s) (status_numbers s) ≡ status_words s
plain_status status.Done image elf recording = refl
plain_status (status.Usage rule) image elf recording = refl
plain_status (status.Image f) image elf recording = absurd (image f refl)
plain_status (status.Asm place) image elf recording = refl
plain_status (status.Elf f) image elf recording = absurd (elf f refl)
plain_status (status.Recording f) image elf recording = absurd (recording f refl)
plain_status status.ReadFault image elf recording = refl
plain_status status.WriteFault image elf recording = refl
plain_status (status.TooLarge limit) image elf recording = refl
plain_status status.Memory image elf recording = refl
plain_status status.PastEnd image elf recording = refl

-- a text that says one says the other
pub said : {S E : Type 0} (bytes : S → List ℕ) (r : Result S E) (a b : List ℕ) → a ≡ b → IfOk r (λ t. bytes t ≡ a) → IfOk r (λ t. bytes t ≡ b)
said bytes (Ok t) a b same is = is ∙ same
said bytes (Err e) a b same is = tt
