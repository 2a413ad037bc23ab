-- The layout of a text, from its parts.
use Rattle.std.proofs.Common.{◌≡◌, sym, subst, List, [], ◌∷◌, ap, ◌∙◌, ℕ, zero, suc, ◌^◌, ◌<◌, ◌≤◌, length, get_or, Option, Some, None, arith}
use Rattle.std.specs.Prelude.{ℤ, pos, All, map}
use Rattle.std.specs.List.{flat_map, AllByRecursion}
use Rattle.std.proofs.lemmas.List.Elements.{recursion_from_All, All-from_recursion}
use Rattle.xt_lex.specs.declared.labels.Label.{Label}
use Rattle.xt_lex.specs.Values.{IsAddress}
use Rattle.xt_parse.specs.declared.line.Line.{Line}
use Rattle.xt_layout.specs.declared.word.PoolWord.{PoolWord}
use Rattle.xt_layout.specs.Around.{each}
use Rattle.xt_layout.specs.Findings.{Finding}
use Rattle.xt_layout.specs.Pools.{words_of}
use Rattle.xt_layout.specs.declared.spot.Spot.{Spot}
use Rattle.xt_layout.specs.Addresses.{labels_at, labels_of, line_addresses, word_addresses, words_after}
use Rattle.xt_layout.specs.Bounds.{IsBelow}
use Rattle.xt_layout.specs.Faults.{Layout, layout_fault, layout_of}
use Rattle.xt_layout.specs.Spots.{address, spot_at}
use Rattle.xt_layout.proofs.Each.{each_map, length-each}
use Rattle.xt_layout.proofs.Labelling.{address_fits}

address_small : (n : ℕ) (p : Option Spot) → IsBelow n p → address p ≤ n
address_small n None h = omega arith
address_small n (Some p) h = h

small_by : (n k : ℕ) (spots : List (Option Spot)) → AllByRecursion (IsBelow n) spots → get_or (map address spots) k 0 ≤ n
small_by n k [] all = omega arith
small_by n zero (p ∷ spots) all = address_small n p all.0
small_by n (suc k) (p ∷ spots) all = small_by n k spots all.1

pub addresses_small : (spots : List (Option Spot)) (k : ℕ) → All (IsBelow (2 ^ 34)) spots → get_or (map address spots) k 0 ≤ 2 ^ 34
addresses_small spots k all = small_by (2 ^ 34) k spots (recursion_from_All (IsBelow (2 ^ 34)) spots all)

fit_by : (spots : List (Option Spot)) → AllByRecursion (IsBelow (2 ^ 34)) spots → AllByRecursion (λ a. a < 2 ^ 40) (map address spots)
fit_by [] all = tt
fit_by (p ∷ spots) all = (let le : address p ≤ 2 ^ 34 = address_small (2 ^ 34) p all.0 in omega arith, fit_by spots all.1)

pub addresses_fit : (spots : List (Option Spot)) → All (IsBelow (2 ^ 34)) spots → All (λ a. a < 2 ^ 40) (map address spots)
addresses_fit spots all = All-from_recursion (λ a. a < 2 ^ 40) (map address spots) (fit_by spots (recursion_from_All (IsBelow (2 ^ 34)) spots all))

-- the addresses of the lines
pub lines_are : (lines : List Line) (words : List PoolWord) (spots : List (Option Spot)) (addresses : List ℕ) → words ≡ words_of lines → spots ≡ each (λ before l rest. spot_at words before l) lines → addresses ≡ map address spots →
    addresses ≡ line_addresses lines
unfolding line_addresses
lines_are lines words spots addresses words_is spots_is e = e ∙ ap (map address) spots_is ∙ each_map address (λ before l rest. spot_at words before l) lines
    ∙ ap (λ ws. each (λ before l rest. address (spot_at ws before l)) lines) words_is

-- the addresses of the words
pub words_are : (lines : List Line) (words : List PoolWord) (addresses word_as : List ℕ) → words ≡ words_of lines → addresses ≡ line_addresses lines → word_as ≡ words_after addresses [] words → word_as ≡ word_addresses lines
unfolding word_addresses
words_are lines words addresses word_as words_is addresses_is e = e ∙ ap (λ xs. words_after xs [] words) addresses_is ∙ ap (words_after (line_addresses lines) []) words_is

-- the labels
pub labels_are : (lines : List Line) (words : List PoolWord) (word_as : List ℕ) (labels : List Label) → words ≡ words_of lines → word_as ≡ word_addresses lines → labels ≡ flat_map (λ labels. labels) (each (labels_at words word_as) lines) → labels ≡ labels_of lines
unfolding labels_of
labels_are lines words word_as labels words_is word_as_is e = e ∙ ap (λ xs. flat_map (λ labels. labels) (each (labels_at words xs) lines)) word_as_is
    ∙ ap (λ ws. flat_map (λ labels. labels) (each (labels_at ws (word_addresses lines)) lines)) words_is

abbrev layout : List ℤ → List ℤ → List Label → Finding → Layout
layout a b c d = record { lines = a; words = b; labels = c; fault = d }

pub laid : (lines : List Line) (addresses word_as : List ℕ) (a b : List ℤ) (labels : List Label) (fault : Finding) → addresses ≡ line_addresses lines → word_as ≡ word_addresses lines →
    a ≡ map pos addresses → b ≡ map pos word_as → labels ≡ labels_of lines → fault ≡ layout_fault lines → layout a b labels fault ≡ layout_of lines
laid lines addresses word_as a b labels fault addresses_is word_as_is a_is b_is labels_is fault_is =
    ap (λ x. layout x b labels fault) (a_is ∙ ap (map pos) addresses_is)
    ∙ ap (λ x. layout (map pos (line_addresses lines)) x labels fault) (b_is ∙ ap (map pos) word_as_is)
    ∙ ap (λ x. layout (map pos (line_addresses lines)) (map pos (word_addresses lines)) x fault) labels_is
    ∙ ap (λ x. layout (map pos (line_addresses lines)) (map pos (word_addresses lines)) (labels_of lines) x) fault_is

pub length-line_addresses : (lines : List Line) → length (line_addresses lines) ≡ length lines
unfolding line_addresses
length-line_addresses lines = length-each (λ before l rest. address (spot_at (words_of lines) before l)) lines

numbers_by : (xs : List ℕ) → AllByRecursion (λ a. a < 2 ^ 40) xs → AllByRecursion IsAddress (map pos xs)
numbers_by [] all = tt
numbers_by (x ∷ xs) all = (address_fits x all.0, numbers_by xs all.1)

-- addresses as signed numbers fit
pub numbers_fit : (xs ys : List ℕ) (zs : List ℤ) → zs ≡ map pos xs → xs ≡ ys → All (λ a. a < 2 ^ 40) ys → All IsAddress zs
numbers_fit xs ys zs e f all =
    let P : List ℤ → Type 0 = λ zs. All IsAddress zs in
    subst P (sym (e ∙ ap (map pos) f)) (All-from_recursion IsAddress (map pos ys) (numbers_by ys (recursion_from_All (λ a. a < 2 ^ 40) ys all)))
