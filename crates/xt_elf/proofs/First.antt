-- The first finding, where it is known in which part of the rules it stands.
use Rattle.std.proofs.Common.{◌≡◌, ℕ, List, ◌++◌, Some, None, length, sym, ap, ◌∙◌}
use Rattle.xt_image.specs.Findings.{first}
use Rattle.xt_image.proofs.Findings.{in_first, not_in_first}
use Rattle.xt_elf.specs.declared.header.Header.{Header}
use Rattle.xt_elf.specs.declared.fault.ElfFault.{ElfFault}
use Rattle.xt_elf.specs.Headers.{headers_of}
use Rattle.xt_elf.specs.Rules.{Finding, elf_fault, entry_rules, file_rules, header_rules}

pub at_file : (bytes : List ℕ) (f : ElfFault) → Some f ≡ first (file_rules bytes) → elf_fault bytes ≡ Some f
unfolding elf_fault
at_file bytes f h = in_first (file_rules bytes) (header_rules (length bytes) (headers_of bytes) ++ entry_rules bytes) f h

behind_file : (bytes : List ℕ) → None ≡ first (file_rules bytes) → elf_fault bytes ≡ first (header_rules (length bytes) (headers_of bytes) ++ entry_rules bytes)
unfolding elf_fault
behind_file bytes h = not_in_first (file_rules bytes) (header_rules (length bytes) (headers_of bytes) ++ entry_rules bytes) h

pub at_headers : (bytes : List ℕ) (hs : List Header) (f : ElfFault) → None ≡ first (file_rules bytes) → hs ≡ headers_of bytes
    → Some f ≡ first (header_rules (length bytes) hs) → elf_fault bytes ≡ Some f
at_headers bytes hs f file same h =
    behind_file bytes file ∙ in_first (header_rules (length bytes) (headers_of bytes)) (entry_rules bytes) f (h ∙ ap (λ xs. first (header_rules (length bytes) xs)) same)

pub at_entry : (bytes : List ℕ) (hs : List Header) (x : Finding) → None ≡ first (file_rules bytes) → hs ≡ headers_of bytes
    → None ≡ first (header_rules (length bytes) hs) → x ≡ first (entry_rules bytes) → elf_fault bytes ≡ x
at_entry bytes hs x file same none h =
    behind_file bytes file ∙ not_in_first (header_rules (length bytes) (headers_of bytes)) (entry_rules bytes) (none ∙ ap (λ xs. first (header_rules (length bytes) xs)) same) ∙ sym h
