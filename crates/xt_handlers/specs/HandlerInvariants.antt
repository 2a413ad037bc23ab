-- Carries a proof; nothing that a reader must believe.
-- What holds between a handler's instructions, and at its end.
use Rattle.std.specs.Prelude.{◌≡◌, ◌≢◌, ◌≤◌, ◌<◌, ◌+◌, ◌*◌, ◌⊎◌, ℕ, Bool, true, false, Option, Some}
use Rattle.std.specs.Prelude.{List, [], ◌∷◌, length, drop, replicate, slice_index, slice_index_or}
use Rattle.std.specs.Prelude.{slice_range, slice_set}
use Rattle.xt_handlers.specs.Symbols.{Word, Effect, register, effect_after_step}
use Rattle.xt_handlers.specs.Needs.{save_word, is_among, named_words, still_wanted, wanted_stores}
use Rattle.xt_handlers.specs.Needs.{has_effect}
use Rattle.xt_handlers.specs.Needs.{marked_stores}
use Rattle.xt_handlers.specs.Handling.{Line, walk}
use Rattle.xt_isa.specs.Spelling.{length_of}
use Rattle.xt_handlers.specs.Spelled.{HasRegisters, step_of, lines_in, lines_of}
use Rattle.xt_handlers.specs.declared.stretch.Side.{Side}
use Rattle.xt_handlers.specs.declared.stretch.Side.TheVariants.{Overflow, Underflow}
use Rattle.xt_handlers.specs.declared.stretch.HandlerInsn.{HandlerInsn}
use Rattle.xt_handlers.specs.declared.stretch.HandlerInsn.TheVariants.{L32e, S32e, Nop, Rfwo, Rfwu, Foreign}
use Rattle.xt_handlers.specs.declared.stretch.HandlerVerdict.TheVariants.{Yes}
use Rattle.xt_handlers.specs.Running.{machine_after_step, MayAccess}
use Rattle.xt_handlers.specs.Machines.{Machine, address, place, visible, word_at, symbol_value}
use Rattle.xt_handlers.specs.Machines.{address_of}
use Rattle.xt_handlers.specs.Machines.{IsElsewhere}
use Rattle.xt_handlers.specs.Running.{machine_after_lines}
use Rattle.xt_handlers.specs.Frames.{HasFrames}

-- the effect so far is what the machine has done since the start; `flags` are the saves still
-- wanted
pub record Stands
    (side : Side) (n : ℕ) (start : Machine) (e : Effect) (flags : List Bool)
    (now : Machine) : Type 0 where
  pub base : now.base ≡ start.base
  pub size : length now.ring ≡ 64
  pub symbols : length e.regs ≡ 16
  pub shown : (i : ℕ) → i < 16 → visible now i ≡ symbol_value start (register e.regs i)
  pub hidden : (p : ℕ) → p < 64 → ((i : ℕ) → i < 16 → p ≢ place start.base i)
      → slice_index now.ring p ≡ slice_index start.ring p
  pub wanted : still_wanted e.stores (wanted_stores side n) ≡ Some (marked_stores n 0 flags)
  pub few : (k : ℕ) → slice_index_or flags k false ≡ true → k < 4 * n
  pub read : (w : Word) → is_among w (named_words side n) ≡ true
      → word_at now.bytes (address_of start w) ≡ word_at start.bytes (address_of start w)
  pub saved : side ≡ Overflow → (k : ℕ) → k < 4 * n → slice_index_or flags k false ≡ false
      → word_at now.bytes (address_of start (save_word Overflow n k)) ≡ visible start k

abbrev pub HaveRegisters : List Line → Type 0
HaveRegisters [] = Unit {0}
HaveRegisters (l ∷ ls) = HasRegisters l.step × HaveRegisters ls

-- no register but the lowest 4n visible ones has changed
pub record KeepsRegisters (n : ℕ) (start end : Machine) : Type 0 where
  pub base : end.base ≡ start.base
  pub kept : (i : ℕ) → 4 * n ≤ i → i < 16 → visible end i ≡ visible start i
  pub hidden : (p : ℕ) → p < 64 → ((i : ℕ) → i < 16 → p ≢ place start.base i)
      → slice_index end.ring p ≡ slice_index start.ring p

-- an overflow has stored the frame's registers in its save areas, and nothing else
pub record Stores (n : ℕ) (start end : Machine) : Type 0 where
  pub registers : KeepsRegisters n start end
  pub saved : (k : ℕ) → k < 4 * n
      → word_at end.bytes (address_of start (save_word Overflow n k)) ≡ visible start k
  pub elsewhere : (a : ℕ) → IsElsewhere n start a → end.bytes a ≡ start.bytes a

-- an underflow has loaded the frame's registers from its save areas, and nothing else
pub record Loads (n : ℕ) (start end : Machine) : Type 0 where
  pub registers : KeepsRegisters n start end
  pub loaded : (k : ℕ) → k < 4 * n
      → visible end k ≡ word_at start.bytes (address_of start (save_word Underflow n k))
  pub memory : (a : ℕ) → end.bytes a ≡ start.bytes a

-- the end of a run that raises no cause
pub record Reaches (result : Option Machine) (P : Machine → Type 0) : Type 0 where
  pub end : Machine
  pub is : result ≡ Some end
  pub holds : P end

-- the saves wanted before the first instruction
abbrev pub opening_flags : Side → ℕ → List Bool
opening_flags Overflow n = replicate (4 * n) true
opening_flags Underflow n = []

-- memory before and after: a frame's saves alone may differ, and in an underflow nothing
pub record Touches (side : Side) (n : ℕ) (start : Machine) (old new : ℕ → ℕ) : Type 0 where
  pub elsewhere : (a : ℕ) → IsElsewhere n start a → new a ≡ old a
  pub never : side ≡ Underflow → (a : ℕ) → new a ≡ old a

-- another core's access leaves the words that this handler loads and stores
pub record Spares (side : Side) (n : ℕ) (start : Machine) (old new : ℕ → ℕ) : Type 0 where
  pub named : (w : Word) → is_among w (named_words side n) ≡ true
      → word_at new (address_of start w) ≡ word_at old (address_of start w)
  pub saves : side ≡ Overflow → (k : ℕ) → k < 4 * n
      → word_at new (address_of start (save_word Overflow n k)) ≡ word_at old
      (address_of start (save_word Overflow n k))

-- the instruction at an offset of the vector
abbrev pub step_at : List ℕ → ℕ → HandlerInsn
step_at bytes o =
    step_of (slice_index bytes o) (slice_index bytes (o + 1)) (slice_index bytes (o + 2))

abbrev pub ending_of : Side → HandlerInsn
ending_of Overflow = Rfwo
ending_of Underflow = Rfwu

-- what is left of the vector from an offset on makes it handle
abbrev pub Handles : Side → ℕ → List ℕ → ℕ → Effect → Type 0
Handles side n bytes o e = walk side n e (lines_in 0 o (drop o bytes)) ≡ Yes

-- the word that an instruction loads or stores is one of the frame's, and each save is made once
abbrev pub Does : Side → ℕ → Machine → List Bool → List Bool → Machine → HandlerInsn → Type 0
Does side n start flags after now (L32e t s back) =
    (w : Word) × (is_among w (named_words side n) ≡ true)
    × (address (visible now s) back ≡ address_of start w) × (after ≡ flags)
Does side n start flags after now (S32e t s back) =
    (k : ℕ) × (side ≡ Overflow) × (k < 4 * n) × (slice_index_or flags k false ≡ true)
    × (address (visible now s) back ≡ address_of start (save_word Overflow n k))
    × (visible now t ≡ visible start k) × (after ≡ slice_set flags k false)
Does side n start flags after now Nop = after ≡ flags
Does side n start flags after now Rfwo = ⊥
Does side n start flags after now Rfwu = ⊥
Does side n start flags after now Foreign = ⊥

-- an instruction that is not the ending: no cause, and the vector still handles from the next one
-- on
pub record Moves
    (side : Side) (n : ℕ) (start : Machine) (bytes : List ℕ) (o : ℕ) (e : Effect)
    (flags : List Bool) (now : Machine) : Type 0 where
  pub after : List Bool
  pub next : Machine
  pub is : machine_after_step (step_at bytes o) now ≡ Some next
  pub access : MayAccess (step_at bytes o) now
  pub does : Does side n start flags after now (step_at bytes o)
  pub stands : Stands side n start (effect_after_step e (step_at bytes o)) after next
  pub touches : Touches side n start now.bytes next.bytes
  pub handles : Handles side n bytes (o + length_of (slice_index bytes o))
      (effect_after_step e (step_at bytes o))

pub record Closes (side : Side) (n : ℕ) (bytes : List ℕ) (o : ℕ) (e : Effect) : Type 0 where
  pub is : step_at bytes o ≡ ending_of side
  pub has : has_effect side n e ≡ true

-- one instruction of a vector that handles
pub record Turns
    (side : Side) (n : ℕ) (start : Machine) (bytes : List ℕ) (o : ℕ) (e : Effect)
    (flags : List Bool) (now : Machine) : Type 0 where
  pub inside : o + length_of (slice_index bytes o) ≤ 64
  pub goes : Closes side n bytes o e ⊎ Moves side n start bytes o e flags now

-- what has been done when the ending is reached
pub record Done (side : Side) (n : ℕ) (start now : Machine) : Type 0 where
  pub registers : KeepsRegisters n start now
  pub saved : side ≡ Overflow → (k : ℕ) → k < 4 * n
      → word_at now.bytes (address_of start (save_word Overflow n k)) ≡ visible start k
  pub loaded : side ≡ Underflow → (k : ℕ) → k < 4 * n
      → visible now k ≡ word_at start.bytes (address_of start (save_word Underflow n k))

-- what a vector's bytes do wherever they are run
abbrev pub StoresFrames : ℕ → List ℕ → Type 0
StoresFrames n bytes =
    (start : Machine) → HasFrames Overflow n start
    → Reaches (machine_after_lines (lines_of bytes) start) (Stores n start)

abbrev pub LoadsFrames : ℕ → List ℕ → Type 0
LoadsFrames n bytes =
    (start : Machine) → HasFrames Underflow n start
    → Reaches (machine_after_lines (lines_of bytes) start) (Loads n start)
