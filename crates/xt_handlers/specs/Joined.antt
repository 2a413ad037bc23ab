-- Carries a proof; nothing that a reader must believe.
-- The same in plain words of memory, as a relation between windows and frames speaks of them.
use Rattle.std.specs.Prelude.{◌≡◌, ◌≤◌, ◌<◌, ◌+◌, ◌-◌, ◌*◌, ◌%◌, ◌⊎◌, ℕ, length}
use Rattle.xt_handlers.specs.Machines.{Machine, visible, word_at}

-- what a handler finds: the stack pointers of the frame called, of the frame itself and of its
-- caller
pub record Finds (lo hi n callee own top : ℕ) : Type 0 where
  pub low : lo + 16 ≤ callee
  pub callee_aligned : callee % 16 ≡ 0
  pub under : callee + 16 ≤ own
  pub own_aligned : own % 16 ≡ 0
  pub large : own + 16 * n ≤ top
  pub top_aligned : top % 16 ≡ 0
  pub high : top ≤ hi

-- a machine's shape, and a stack range in DRAM
pub record IsShaped (lo hi n : ℕ) (start : Machine) : Type 0 where
  pub some : 0 < n
  pub three : n < 4
  pub low : 0x3FFAE000 ≤ lo
  pub high : hi ≤ 0x40000000
  pub registers : length start.ring ≡ 64
  pub fits : (i : ℕ) → i < 16 → visible start i < 4294967296

abbrev pub own_link : Machine → ℕ
own_link start = word_at start.bytes (visible start 1 - 12)

abbrev pub saved_sp : Machine → ℕ → ℕ
saved_sp start n = word_at start.bytes (visible start (4 * n + 1) - 12)

abbrev pub saved_link : Machine → ℕ → ℕ
saved_link start n = word_at start.bytes (saved_sp start n - 12)

-- a word that touches no area of the frame
abbrev pub IsApart : ℕ → ℕ → ℕ → ℕ → Type 0
IsApart a sp top n = ((a + 4 ≤ sp - 16) ⊎ (sp ≤ a)) × ((a + 4 ≤ top - 16 * n) ⊎ (top - 16 ≤ a))

pub record StoresWords (n : ℕ) (start end : Machine) : Type 0 where
  pub low : (i : ℕ) → i < 4
      → word_at end.bytes (visible start (4 * n + 1) - 16 + 4 * i) ≡ visible start i
  pub high : (i : ℕ) → 4 ≤ i → i < 4 * n
      → word_at end.bytes (own_link start - 16 * n + 4 * (i - 4)) ≡ visible start i
  pub others : (a : ℕ) → IsApart a (visible start (4 * n + 1)) (own_link start) n
      → word_at end.bytes a ≡ word_at start.bytes a

pub record LoadsWords (n : ℕ) (start end : Machine) : Type 0 where
  pub low : (i : ℕ) → i < 4
      → visible end i ≡ word_at start.bytes (visible start (4 * n + 1) - 16 + 4 * i)
  pub high : (i : ℕ) → 4 ≤ i → i < 4 * n
      → visible end i ≡ word_at start.bytes (saved_link start n - 16 * n + 4 * (i - 4))
