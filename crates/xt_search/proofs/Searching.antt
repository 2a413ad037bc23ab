-- A search that goes on: no more worlds than may be, and no turn before which it has to end.
use Rattle.std.proofs.Common.{◌≡◌, ℕ, ◌<◌, ◌≤◌, max, Bool, Option, Some, None, IfSome, IfNone, List, length, sym, subst, arith}
use Rattle.xt_search.specs.declared.graph.Barred.{Barred}
use Rattle.xt_search.specs.declared.graph.Kept.{Kept}
use Rattle.xt_search.specs.declared.table.Table.{Table}
use Rattle.xt_search.specs.Chains.{IsTable}
use Rattle.xt_search.specs.Graphs.{IsBarredAt}

pub same_room : (n room : ℕ) → n ≤ max n room
same_room n room = omega arith

pub more_room : (a b c room : ℕ) → b ≤ max a room → c ≤ max b room → c ≤ max a room
more_room a b c room h i = omega arith

pub no_bar : {W : Type 0} (bars : ℕ → W → Bool) (ks : List (Kept W)) (barred : Option Barred) → barred ≡ None → IfSome barred (IsBarredAt bars ks)
no_bar bars ks barred e = subst (λ (o : Option Barred). IfSome o (IsBarredAt bars ks)) (sym e) tt

-- what holds holds where the search need not end
pub at_most : (barred : Option Barred) (P : Type 0) → P → IfNone barred P
at_most None P p = p
at_most (Some b) P p = tt

-- the table has room for one world more
pub room_for : {W : Type 0} (IsMark : W → ℕ → Type 0) (t : Table) (ks : List (Kept W)) (room : ℕ) → IsTable IsMark t ks → length ks < room → room < 4294967296 → length t.before.items < 4294967295
room_for IsMark t ks room h less small =
    let before : length t.before.items ≡ length h.cs = h.chained.as_long in
    let cs : length h.cs ≡ length ks = h.as_long in
    omega arith
