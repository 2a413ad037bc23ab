-- The line of a status, and the code with which the program ends ('profile').
--
-- Profile: the text of a fault or a status is its name and its numbers, each by a table
-- (`Statuses`). Three have words of another form behind the name: another digest, a fault inside a
-- recording's image, a status that holds a fault.
use Rattle.std.specs.Prelude.{ℕ, List, ◌++◌, codes, Result, Ok, Err}
use Rattle.std.specs.Fmt.{decimal}
use Rattle.hex.specs.Hex.{encode_lower}
use Rattle.xt_io.specs.declared.sink.Refused.{Refused}
use Rattle.xt_io.specs.declared.sink.Refused.TheVariants as refused
use Rattle.xt_elf.specs.declared.fault.ElfFault.{ElfFault}
use Rattle.xt_elf.specs.declared.fault.ElfFault.TheVariants as elf
use Rattle.xt_image.specs.declared.fault.ImageFault.{ImageFault}
use Rattle.xt_image.specs.declared.fault.ImageFault.TheVariants as fault
use Rattle.xt_record.specs.declared.fault.RecordFault.{RecordFault}
use Rattle.xt_record.specs.declared.fault.RecordFault.TheVariants as record_fault
use Rattle.xt_report.specs.declared.numbers.Numbers.{Numbers}
use Rattle.xt_report.specs.declared.numbers.Numbers.TheVariants as numbers
use Rattle.xt_report.specs.declared.status.Status.{Status}
use Rattle.xt_report.specs.declared.status.Status.TheVariants.{Done, Usage, Image, Asm}
use Rattle.xt_report.specs.declared.status.Status.TheVariants.{Elf, Recording, ReadFault}
use Rattle.xt_report.specs.declared.status.Status.TheVariants.{WriteFault, TooLarge, Memory, PastEnd}

-- ---- a name with numbers

-- a name, and behind it each number in decimal, with a blank before it
abbrev pub name_and_numbers : List ℕ → Numbers → List ℕ
name_and_numbers name numbers.Zero = name
name_and_numbers name (numbers.One a) = name ++ (codes " " ++ decimal a)
name_and_numbers name (numbers.Two a b) =
    name ++ (codes " " ++ (decimal a ++ (codes " " ++ decimal b)))
name_and_numbers name (numbers.Three a b c) =
    name ++ (codes " " ++ (decimal a ++ (codes " " ++ (decimal b ++ (codes " " ++ decimal c)))))

-- ---- a fault of an image

abbrev pub image_fault_name : ImageFault → List ℕ
image_fault_name fault.Short = codes "Short"
image_fault_name (fault.Magic byte) = codes "Magic"
image_fault_name (fault.Count count) = codes "Count"
image_fault_name (fault.Chip id) = codes "Chip"
image_fault_name (fault.DigestFlag flag) = codes "DigestFlag"
image_fault_name (fault.SegmentEnd index) = codes "SegmentEnd"
image_fault_name (fault.SegmentLength index) = codes "SegmentLength"
image_fault_name (fault.SegmentPlace index) = codes "SegmentPlace"
image_fault_name (fault.SegmentOverlap first second) = codes "SegmentOverlap"
image_fault_name fault.NoChecksum = codes "NoChecksum"
image_fault_name (fault.Checksum kept computed) = codes "Checksum"
image_fault_name fault.NoDigest = codes "NoDigest"
image_fault_name (fault.Digest kept computed) = codes "Digest"
image_fault_name (fault.Entry address) = codes "Entry"
image_fault_name fault.Memory = codes "Memory"

abbrev pub image_fault_numbers : ImageFault → Numbers
image_fault_numbers (fault.Magic byte) = numbers.One byte
image_fault_numbers (fault.Count count) = numbers.One count
image_fault_numbers (fault.Chip id) = numbers.One id
image_fault_numbers (fault.DigestFlag flag) = numbers.One flag
image_fault_numbers (fault.SegmentEnd index) = numbers.One index
image_fault_numbers (fault.SegmentLength index) = numbers.One index
image_fault_numbers (fault.SegmentPlace index) = numbers.One index
image_fault_numbers (fault.SegmentOverlap first second) = numbers.Two first second
image_fault_numbers (fault.Checksum kept computed) = numbers.Two kept computed
image_fault_numbers (fault.Entry address) = numbers.One address
image_fault_numbers _ = numbers.Zero

-- its name and the values that it keeps; digests are in hexadecimal
abbrev pub fault_text : ImageFault → List ℕ
fault_text (fault.Digest kept computed) =
    codes "Digest " ++ (encode_lower kept ++ (codes " " ++ encode_lower computed))
fault_text f = name_and_numbers (image_fault_name f) (image_fault_numbers f)

-- ---- a fault of an ELF executable

abbrev pub elf_fault_name : ElfFault → List ℕ
elf_fault_name elf.Short = codes "Short"
elf_fault_name elf.Magic = codes "Magic"
elf_fault_name elf.Class = codes "Class"
elf_fault_name (elf.FileType kind) = codes "FileType"
elf_fault_name (elf.Machine machine) = codes "Machine"
elf_fault_name (elf.HeaderSize size) = codes "HeaderSize"
elf_fault_name elf.HeaderEnd = codes "HeaderEnd"
elf_fault_name (elf.SegmentEnd index) = codes "SegmentEnd"
elf_fault_name (elf.Sizes index) = codes "Sizes"
elf_fault_name (elf.Place index) = codes "Place"
elf_fault_name (elf.Overlap first second) = codes "Overlap"
elf_fault_name (elf.Count count) = codes "Count"
elf_fault_name (elf.Entry address) = codes "Entry"
elf_fault_name elf.Memory = codes "Memory"

abbrev pub elf_fault_numbers : ElfFault → Numbers
elf_fault_numbers (elf.FileType kind) = numbers.One kind
elf_fault_numbers (elf.Machine machine) = numbers.One machine
elf_fault_numbers (elf.HeaderSize size) = numbers.One size
elf_fault_numbers (elf.SegmentEnd index) = numbers.One index
elf_fault_numbers (elf.Sizes index) = numbers.One index
elf_fault_numbers (elf.Place index) = numbers.One index
elf_fault_numbers (elf.Overlap first second) = numbers.Two first second
elf_fault_numbers (elf.Count count) = numbers.One count
elf_fault_numbers (elf.Entry address) = numbers.One address
elf_fault_numbers _ = numbers.Zero

abbrev pub elf_fault_text : ElfFault → List ℕ
elf_fault_text f = name_and_numbers (elf_fault_name f) (elf_fault_numbers f)

-- ---- a fault of a recording

abbrev pub record_fault_name : RecordFault → List ℕ
record_fault_name record_fault.Short = codes "Short"
record_fault_name record_fault.Magic = codes "Magic"
record_fault_name (record_fault.Version version) = codes "Version"
record_fault_name (record_fault.Image f) = codes "Image"
record_fault_name record_fault.Options = codes "Options"
record_fault_name (record_fault.Entry entry) = codes "Entry"
record_fault_name (record_fault.Illegal entry kept right) = codes "Illegal"
record_fault_name (record_fault.Turn core step) = codes "Turn"
record_fault_name record_fault.Trailing = codes "Trailing"
record_fault_name (record_fault.Checkpoint index) = codes "Checkpoint"
record_fault_name record_fault.Memory = codes "Memory"

abbrev pub record_fault_numbers : RecordFault → Numbers
record_fault_numbers (record_fault.Version version) = numbers.One version
record_fault_numbers (record_fault.Entry entry) = numbers.One entry
record_fault_numbers (record_fault.Illegal entry kept right) = numbers.Three entry kept right
record_fault_numbers (record_fault.Turn core step) = numbers.Two core step
record_fault_numbers (record_fault.Checkpoint index) = numbers.One index
record_fault_numbers _ = numbers.Zero

-- a fault of its image is the image's
abbrev pub record_fault_text : RecordFault → List ℕ
record_fault_text (record_fault.Image f) = codes "Image " ++ fault_text f
record_fault_text f = name_and_numbers (record_fault_name f) (record_fault_numbers f)

-- ---- a status

abbrev pub status_name : Status → List ℕ
status_name Done = codes "Done"
status_name (Usage rule) = codes "Usage"
status_name (Image f) = codes "Image"
status_name (Asm place) = codes "Asm"
status_name (Elf f) = codes "Elf"
status_name (Recording f) = codes "Recording"
status_name ReadFault = codes "ReadFault"
status_name WriteFault = codes "WriteFault"
status_name (TooLarge limit) = codes "TooLarge"
status_name Memory = codes "Memory"
status_name PastEnd = codes "PastEnd"

-- of a text's first fault its line, its column and its kind
abbrev pub status_numbers : Status → Numbers
status_numbers (Usage rule) = numbers.One rule
status_numbers (Asm place) = numbers.Three place.line place.column place.kind
status_numbers (TooLarge limit) = numbers.One limit
status_numbers _ = numbers.Zero

abbrev pub status_words : Status → List ℕ
status_words (Image f) = codes "Image " ++ fault_text f
status_words (Elf f) = codes "Elf " ++ elf_fault_text f
status_words (Recording f) = codes "Recording " ++ record_fault_text f
status_words s = name_and_numbers (status_name s) (status_numbers s)

-- `xt:`, the words of the status, and a newline
unfoldable pub status_text : Status → List ℕ
status_text status = codes "xt: " ++ status_words status ++ codes "\n"

-- the code with which the program ends
abbrev pub status_code : Status → ℕ
status_code Done = 0
status_code (Usage rule) = 1
status_code (Image f) = 2
status_code (Asm place) = 3
status_code (Recording f) = 4
status_code ReadFault = 5
status_code WriteFault = 6
status_code (TooLarge limit) = 7
status_code Memory = 8
status_code (Elf f) = 10
status_code PastEnd = 21

-- the status that a write comes to
abbrev pub status_after : {T : Type 0} → Result T Refused → Status
status_after (Ok done) = Done
status_after (Err refused.Failed) = WriteFault
status_after (Err refused.Memory) = Memory
