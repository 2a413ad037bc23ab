-- Carries a proof; nothing that a reader must believe.
-- What is known of the lines so far, while they are gone through.
use Rattle.std.specs.Prelude.{ℕ, Bool, List}
use Rattle.std.specs.List.{list_any}
use Rattle.std.specs.Str.{bytes_eq}
use Rattle.std.specs.BTreeSet.{BTreeSet}
use denote.Ref.{Bor}
use Rattle.xt_lex.specs.declared.name.Name.{Name}

-- the set has the name
abbrev pub has_name : BTreeSet (Bor (List ℕ)) → Name → Bool
has_name names name = list_any (λ k. bytes_eq name k.now) names.keys
