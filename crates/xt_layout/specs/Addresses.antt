-- The addresses of lines and pool words, and the labels ('profile').
use Rattle.std.specs.Prelude.{ℕ, ◌+◌, ◌*◌, ◌==◌, pos, List, [], ◌∷◌, ◌++◌, length, map, slice_index}
use Rattle.std.specs.Prelude.{Option, Some, None, unwrap_or, if◌then◌else◌}
use Rattle.std.specs.List.{flat_map}
use Rattle.xt_lex.specs.declared.labels.Label.{Label}
use Rattle.xt_parse.specs.declared.line.Line.{Line}
use Rattle.xt_parse.specs.declared.line.Placed.{Placed}
use Rattle.xt_parse.specs.declared.statement.Statement.{Statement}
use Rattle.xt_parse.specs.declared.statement.Statement.TheVariants.{Literal}
use Rattle.xt_layout.specs.declared.word.PoolWord.{PoolWord}
use Rattle.xt_layout.specs.Around.{each}
use Rattle.xt_layout.specs.Pools.{words_of}
use Rattle.xt_layout.specs.Sizes.{padding, pool_size}
use Rattle.xt_layout.specs.Spots.{spot_at, address}

-- ---- lines

-- the address of each line
unfoldable pub line_addresses : List Line → List ℕ
line_addresses lines = each (λ before l rest. address (spot_at (words_of lines) before l)) lines

-- ---- pool words

-- The words of a pool stand one after another, after the zeros up to a multiple of 4.
abbrev pub word_address : List ℕ → List PoolWord → PoolWord → ℕ
word_address addresses before w =
    slice_index addresses w.position + padding 4 (slice_index addresses w.position)
    + 4 * pool_size before w.position

abbrev pub words_after : List ℕ → List PoolWord → List PoolWord → List ℕ
words_after addresses before [] = []
words_after addresses before (w ∷ rest) =
    word_address addresses before w ∷ words_after addresses (before ++ w ∷ []) rest

-- the address of each pool word
unfoldable pub word_addresses : List Line → List ℕ
word_addresses lines = words_after (line_addresses lines) [] (words_of lines)

-- ---- labels

-- the address of the word that the line at a place first needs, where there is one
abbrev pub home : ℕ → List PoolWord → List ℕ → Option ℕ
home k [] addresses = None
home k (w ∷ words) [] = None
home k (w ∷ words) (a ∷ addresses) = if w.line == k then Some a else home k words addresses

-- the name of a `.literal`
abbrev pub literal_name : Statement → List Placed
literal_name (Literal name value) = name ∷ []
literal_name _ = []

abbrev pub label_name : Option Placed → List Placed
label_name None = []
label_name (Some name) = name ∷ []

abbrev pub label_placed : ℕ → Placed → Label
label_placed a name = record { name = name.name; address = pos a }

-- A line's label has the line's address; a `.literal`'s name has that of its word, and
-- without a word the line's.
abbrev pub labels_at : List PoolWord → List ℕ → List Line → Line → List Line → List Label
labels_at words addresses before l rest =
    let a = address (spot_at words before l) in
    map (label_placed a) (label_name l.label)
    ++ map (label_placed (unwrap_or (home (length before) words addresses) a))
    (literal_name l.statement)

-- the labels and literal names in the order of their definitions: of two with
-- one name the first counts
unfoldable pub labels_of : List Line → List Label
labels_of lines =
    flat_map (λ labels. labels) (each (labels_at (words_of lines) (word_addresses lines)) lines)
