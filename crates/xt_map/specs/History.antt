-- Legal histories of a sequential memory, and the accesses of one core in a history ('profile').
--
-- Note: `reply_to` of a store is 0. `memory_after` makes the accesses of a history and ignores its
-- replies; `IsLegal` compares each reply with the memory after the entries before it. `is_store` is
-- false of a compare-and-swap.
use Rattle.std.specs.Prelude.{◌≡◌, ℕ, ◌<◌, Bool, true, ◌==◌, ◌&&◌, if◌then◌else◌, Some, List, []}
use Rattle.std.specs.Prelude.{◌∷◌, map, take, slice_get}
use Rattle.xt_map.specs.declared.access.Access.{Access}
use Rattle.xt_map.specs.declared.access.Entry.{Entry}
use Rattle.xt_map.specs.declared.contents.MemoryContents.{MemoryContents}
use Rattle.xt_map.specs.Serving.{memory_past, reply_to}

-- the memory after the accesses of these entries in order, whatever their replies
abbrev pub memory_after : MemoryContents → List Entry → MemoryContents
memory_after m [] = m
memory_after m (e ∷ rest) = memory_after (memory_past m e.access) rest

-- as a law: the reply of each entry is the one that memory gives after the entries before it
abbrev pub IsLegal : MemoryContents → List Entry → Type 0
IsLegal m es =
    (k : ℕ) (e : Entry) → slice_get es k ≡ Some e
    → e.reply ≡ reply_to (memory_after m (take k es)) e.access

-- as a test
abbrev pub is_legal_from : MemoryContents → List Entry → Bool
is_legal_from m [] = true
is_legal_from m (e ∷ rest) =
    e.reply == reply_to m e.access && is_legal_from (memory_past m e.access) rest

-- every entry is of core 0 or 1
abbrev pub IsOfCores : List Entry → Type 0
IsOfCores es = (k : ℕ) (e : Entry) → slice_get es k ≡ Some e → e.core < 2

-- the accesses of one core with their replies, in order
abbrev pub calls_of : ℕ → List Entry → List (Access × ℕ)
calls_of core [] = []
calls_of core (e ∷ rest) =
    if e.core == core then (e.access, e.reply) ∷ calls_of core rest else calls_of core rest

-- the replies to one core, in order
abbrev pub replies_of : ℕ → List Entry → List ℕ
replies_of core es = map (λ (call : Access × ℕ). call.1) (calls_of core es)
