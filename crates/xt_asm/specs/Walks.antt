-- Carries a proof; nothing that a reader must believe.
-- What is known while the lines of a text are gone through.
use Rattle.std.specs.Prelude.{ℤ, ◌≡◌, Option, List, map, pos, All}
use Rattle.std.specs.List.{flat_map}
use Rattle.xt_lex.specs.declared.labels.Label.{Label}
use Rattle.xt_lex.specs.Values.{HaveAddresses, IsAddress}
use Rattle.xt_parse.specs.declared.line.Line.{Line}
use Rattle.xt_parse.specs.Small.{HasShortExprs}
use Rattle.xt_layout.specs.declared.word.PoolWord.{PoolWord}
use Rattle.xt_layout.specs.Around.{each, each_after}
use Rattle.xt_layout.specs.Findings.{Finding, first}
use Rattle.xt_layout.specs.Pools.{pool_at, words_of}
use Rattle.xt_layout.specs.Addresses.{labels_of, line_addresses, word_addresses}
use Rattle.xt_asm.specs.Contexts.{own_fault}
use Rattle.xt_asm.specs.Operands.{insn_at, site_at}
use Rattle.xt_asm.specs.Uses.{target_at}

-- the first fault of a line that no earlier pass finds
abbrev pub own_at : List Line → List Line → Line → List Line → Finding
own_at lines before l rest =
    own_fault (site_at lines before l) l (insn_at (site_at lines before l) l.statement)

-- the first of them
abbrev pub own_first : List Line → Finding
own_first lines = first (each (own_at lines) lines)

-- the words of the pools in some lines
abbrev pub words_behind : List Line → List Line → List PoolWord
words_behind before rest = flat_map (λ words. words) (each_after pool_at before rest)

-- the words, labels and addresses are those of the lines, which are short
pub record AreOf
    (lines : List Line) (words : List PoolWord) (labels : List Label) (addresses : List ℤ)
    (targets : List (Option ℤ)) : Type 0 where
  pub words_are : words ≡ words_of lines
  pub labels_are : labels ≡ labels_of lines
  pub addresses_are : addresses ≡ map pos (line_addresses lines)
  pub targets_are :
      targets ≡ each (target_at (words_of lines) (map pos (word_addresses lines))) lines
  pub fit : HaveAddresses labels
  pub near : All IsAddress addresses
  pub short : All (λ (l : Line). HasShortExprs l.statement) lines
