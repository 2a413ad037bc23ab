-- The words that begin a statement, and the names of the registers ('profile').
use Rattle.std.specs.Prelude.{ℕ, Bool, false, ◌==◌, ◌&&◌, not, List, [], ◌∷◌, Option, Some, None}
use Rattle.std.specs.Prelude.{find, codes}
use Rattle.std.specs.Option.{option_map, option_or, is_none}
use Rattle.std.specs.Str.{bytes_eq}
use Rattle.xt_names.specs.Names.{mnemonic_of}
use Rattle.xt_parse.specs.declared.form.Form.{Form}
use Rattle.xt_parse.specs.declared.form.Form.TheVariants.{Seg, Entry, Position, Literal, Word, Byte}
use Rattle.xt_parse.specs.declared.form.Form.TheVariants.{Short, Ascii, Asciz, Align, Space, Insn}
use Rattle.xt_parse.specs.declared.words.DirectiveWord.{DirectiveWord}
use Rattle.xt_parse.specs.declared.words.Register.{Register}
use Rattle.xt_parse.specs.declared.words.Register.TheVariants.{Address, Boolean}
use Rattle.xt_parse.specs.declared.words.RegisterWord.{RegisterWord}

-- ---- what begins a statement

-- each directive, and what it begins
unfoldable pub directive_words : List (List ℕ × Form)
directive_words =
    (codes ".seg", Seg) ∷ (codes ".entry", Entry) ∷ (codes ".literal_position", Position)
    ∷ (codes ".literal", Literal) ∷ (codes ".word", Word) ∷ (codes ".short", Short)
    ∷ (codes ".byte", Byte) ∷ (codes ".ascii", Ascii) ∷ (codes ".asciz", Asciz)
    ∷ (codes ".align", Align) ∷ (codes ".space", Space) ∷ []

abbrev pub word_and_form : DirectiveWord → List ℕ × Form
word_and_form w = (w.name.now, w.form)

abbrev pub directive_of : List ℕ → Option Form
directive_of name = option_map (λ row. row.1) (find (λ row. bytes_eq row.0 name) directive_words)

-- what a word begins, where it begins a statement: the instruction of its
-- mnemonic, else its directive
unfoldable pub form_of : List ℕ → Option Form
form_of name = option_or (option_map Insn (mnemonic_of name)) (directive_of name)

-- ---- registers

-- the names of the registers: the address registers, of which `sp` is a1, and the Boolean registers
unfoldable pub register_words : List (List ℕ × Register)
register_words =
    (codes "a0", Address 0) ∷ (codes "a1", Address 1) ∷ (codes "a2", Address 2)
    ∷ (codes "a3", Address 3) ∷ (codes "a4", Address 4) ∷ (codes "a5", Address 5)
    ∷ (codes "a6", Address 6) ∷ (codes "a7", Address 7) ∷ (codes "a8", Address 8)
    ∷ (codes "a9", Address 9) ∷ (codes "a10", Address 10) ∷ (codes "a11", Address 11)
    ∷ (codes "a12", Address 12) ∷ (codes "a13", Address 13) ∷ (codes "a14", Address 14)
    ∷ (codes "a15", Address 15) ∷ (codes "sp", Address 1) ∷ (codes "b0", Boolean 0)
    ∷ (codes "b1", Boolean 1) ∷ (codes "b2", Boolean 2) ∷ (codes "b3", Boolean 3)
    ∷ (codes "b4", Boolean 4) ∷ (codes "b5", Boolean 5) ∷ (codes "b6", Boolean 6)
    ∷ (codes "b7", Boolean 7) ∷ (codes "b8", Boolean 8) ∷ (codes "b9", Boolean 9)
    ∷ (codes "b10", Boolean 10) ∷ (codes "b11", Boolean 11) ∷ (codes "b12", Boolean 12)
    ∷ (codes "b13", Boolean 13) ∷ (codes "b14", Boolean 14) ∷ (codes "b15", Boolean 15) ∷ []

abbrev pub shown_register : RegisterWord → List ℕ × Register
shown_register w = (w.name.now, w.register)

-- the register, where the word is the name of one
unfoldable pub register_of : List ℕ → Option Register
register_of name = option_map (λ row. row.1) (find (λ row. bytes_eq row.0 name) register_words)

-- the number of an address register
abbrev pub address_number : Register → Option ℕ
address_number (Address n) = Some n
address_number (Boolean n) = None

-- the number of a Boolean register
abbrev pub boolean_number : Register → Option ℕ
boolean_number (Address n) = None
boolean_number (Boolean n) = Some n

-- ---- labels

-- a dot, which no `L` follows
abbrev pub starts_as_directive : List ℕ → Bool
starts_as_directive [] = false
starts_as_directive (b ∷ []) = b == 46
starts_as_directive (b ∷ c ∷ _) = b == 46 && not (c == 76)

-- a label's word is not the name of a register, and begins with a dot only as `.L`
abbrev pub is_label_word : List ℕ → Bool
is_label_word name = not (starts_as_directive name) && is_none (register_of name)
