-- Carries a proof; nothing that a reader must believe.
-- What holds where a handler begins.
use Rattle.std.specs.Prelude.{◌⊎◌, ◌≡◌, ◌≢◌, ◌≤◌, ◌<◌, ◌+◌, ◌*◌, ◌%◌, ℕ, true, length}
use Rattle.xt_handlers.specs.Symbols.{Word}
use Rattle.xt_handlers.specs.Needs.{callee_sp, link_word, link, save_word, is_among, named_words}
use Rattle.xt_handlers.specs.declared.stretch.Side.{Side}
use Rattle.xt_handlers.specs.declared.stretch.Side.TheVariants.{Overflow}
use Rattle.xt_handlers.specs.Running.{is_access}
use Rattle.xt_handlers.specs.Machines.{Machine, visible, symbol_value, address_of}

-- The three stack pointers are a chain in DRAM: that of the frame called, the frame's own, its
-- caller's.
pub record HasFrames (side : Side) (n : ℕ) (start : Machine) : Type 0 where
  pub some : 0 < n
  pub three : n < 4
  pub registers : length start.ring ≡ 64
  pub fits : (i : ℕ) → i < 16 → visible start i < 4294967296
  pub callee_low : 0x3FFAE010 ≤ symbol_value start (callee_sp n)
  pub callee_high : symbol_value start (callee_sp n) ≤ 0x40000000
  pub callee_aligned : symbol_value start (callee_sp n) % 16 ≡ 0
  pub own_low :
      1 < n → symbol_value start (callee_sp n) + 16 ≤ symbol_value start (link_word side n).base
  pub own_aligned : 1 < n → symbol_value start (link_word side n).base % 16 ≡ 0
  pub caller_low :
      1 < n → symbol_value start (link_word side n).base + 16 * n ≤ symbol_value start (link side n)
  pub caller_high : 1 < n → symbol_value start (link side n) ≤ 0x40000000
  pub caller_aligned : 1 < n → symbol_value start (link side n) % 16 ≡ 0

-- The words that may be loaded, and those to be stored, may be accessed; no two words to be stored
-- are one, and none of them is loaded.
pub record HasRoom (side : Side) (n : ℕ) (start : Machine) : Type 0 where
  pub some : 0 < n
  pub three : n < 4
  pub registers : length start.ring ≡ 64
  pub fits : (i : ℕ) → i < 16 → visible start i < 4294967296
  pub loads : (w : Word) → is_among w (named_words side n) ≡ true
      → is_access (address_of start w) ≡ true
  pub stores : side ≡ Overflow → (k : ℕ) → k < 4 * n
      → is_access (address_of start (save_word Overflow n k)) ≡ true
  pub apart : side ≡ Overflow → (j k : ℕ) → j < 4 * n → k < 4 * n → j ≢ k
      → address_of start (save_word Overflow n j) ≢ address_of start (save_word Overflow n k)
  pub unread : side ≡ Overflow → (w : Word) (k : ℕ) → is_among w (named_words side n) ≡ true
      → k < 4 * n → address_of start w ≢ address_of start (save_word Overflow n k)

-- a word below the callee's stack pointer, below the caller's, or the one that links them
abbrev pub IsOwn : Side → ℕ → Machine → ℕ → Type 0
IsOwn side n start a =
    ((symbol_value start (callee_sp n) ≤ a + 16) × (a + 4 ≤ symbol_value start (callee_sp n)))
    ⊎ ((1 < n)
    × (((symbol_value start (link side n) ≤ a + 16 * n)
    × (a + 20 ≤ symbol_value start (link side n)))
    ⊎ (a + 12 ≡ symbol_value start (link_word side n).base)))

-- a byte of those words
abbrev pub IsOwnByte : Side → ℕ → Machine → ℕ → Type 0
IsOwnByte side n start a =
    ((symbol_value start (callee_sp n) ≤ a + 16) × (a < symbol_value start (callee_sp n)))
    ⊎ ((1 < n)
    × (((symbol_value start (link side n) ≤ a + 16 * n)
    × (a + 16 < symbol_value start (link side n)))
    ⊎ ((symbol_value start (link_word side n).base ≤ a + 12)
    × (a + 8 < symbol_value start (link_word side n).base))))
