-- Carries a proof; nothing that a reader must believe.
-- How far the entries of a recording are read.
use Rattle.std.specs.Prelude.{◌≡◌, ℕ, ◌+◌, ◌-◌, ◌*◌, ◌<◌, ◌≤◌, All, List, ◌++◌, map}
use Rattle.xt_map.specs.declared.access.Entry.{Entry}
use Rattle.xt_record.specs.Fields.{entry_of, raws_from}
use Rattle.xt_record.specs.Rules.{shape_finding}

-- so many entries are read
pub record IsSoFar (rest : List ℕ) (count i : ℕ) (entries : List Entry) : Type 0 where
  pub within : i ≤ count
  pub cores : All (λ (e : Entry). e.core < 2) entries
  pub read : entries ++ map entry_of (raws_from (count - i) rest (36 + 20 * i))
      ≡ map entry_of (raws_from count rest 36)
  pub found : shape_finding 0 (raws_from count rest 36)
      ≡ shape_finding i (raws_from (count - i) rest (36 + 20 * i))
