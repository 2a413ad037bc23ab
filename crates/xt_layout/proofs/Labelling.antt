-- The labels of a line.
use Rattle.std.proofs.Common.{◌≡◌, List, [], ◌∷◌, ◌++◌, sym, ap, ◌∙◌, subst, ℕ, ◌+◌, ◌^◌, ◌<◌, ◌≤◌, true, false, eqb, length, take, drop, get_or, Option, Some, if◌then◌else◌, arith}
use Rattle.std.specs.Prelude.{All, map, unwrap_or, pos}
use Rattle.std.specs.List.{AllByRecursion}
use Rattle.std.proofs.lemmas.List.{length-take-le}
use Rattle.std.proofs.lemmas.List.Elements.{All-append, All-from_recursion, All-nil, recursion_from_All}
use Rattle.std.proofs.lemmas.Int.{ints}
use Rattle.xt_lex.specs.declared.labels.Label.{Label}
use Rattle.xt_lex.specs.Values.{HaveAddresses, IsAddress}
use Rattle.xt_parse.specs.declared.line.Line.{Line}
use Rattle.xt_parse.specs.declared.line.Placed.{Placed}
use Rattle.xt_layout.specs.declared.word.PoolWord.{PoolWord}
use Rattle.xt_layout.specs.Around.{each}
use Rattle.xt_layout.specs.declared.spot.Spot.{Spot}
use Rattle.xt_layout.specs.Addresses.{home, label_name, label_placed, labels_at, literal_name}
use Rattle.xt_layout.specs.Spots.{address, spot_at}
use Rattle.xt_layout.proofs.Each.{each_at, length-each}

home_small_by : (k n a : ℕ) (words : List PoolWord) (addresses : List ℕ) → AllByRecursion (λ a. a < n) addresses → a < n → unwrap_or (home k words addresses) a < n
home_small_by k n a [] addresses all lt = lt
home_small_by k n a (w ∷ words) [] all lt = lt
home_small_by k n a (w ∷ words) (b ∷ addresses) all lt = elim (eqb w.line k) as (λ t. unwrap_or (if t then Some b else home k words addresses) a < n) [
  | true ↦ all.0
  | false ↦ home_small_by k n a words addresses all.1 lt
]

-- the address of a name fits
pub home_small : (k a : ℕ) (words : List PoolWord) (addresses : List ℕ) (h : Option ℕ) → All (λ a. a < 2 ^ 40) addresses → a ≤ 2 ^ 34 → h ≡ home k words addresses → unwrap_or h a < 2 ^ 40
home_small k a words addresses h all le is =
    let P : Option ℕ → Type 0 = λ h. unwrap_or h a < 2 ^ 40 in
    let lt : a < 2 ^ 40 = omega arith in
    subst P (sym is) (home_small_by k (2 ^ 40) a words addresses (recursion_from_All (λ a. a < 2 ^ 40) addresses all) lt)

-- a line of a text whose spots are known
pub spot_here : (words : List PoolWord) (lines : List Line) (spots : List (Option Spot)) (k : ℕ) (l : Line) (d : Option Spot) → spots ≡ each (λ before l rest. spot_at words before l) lines → k < length lines → l ≡ get_or lines k l →
    get_or spots k d ≡ spot_at words (take k lines) l
spot_here words lines spots k l d e lt is = ap (λ xs. get_or xs k d) e ∙ each_at (λ before l rest. spot_at words before l) lines k d l lt is

pub spots_long : (words : List PoolWord) (lines : List Line) (spots : List (Option Spot)) → spots ≡ each (λ before l rest. spot_at words before l) lines → length spots ≡ length lines
spots_long words lines spots e = ap length e ∙ length-each (λ before l rest. spot_at words before l) lines

-- the names of a line
pub names_here : (words : List PoolWord) (addresses : List ℕ) (lines : List Line) (spots : List (Option Spot)) (k : ℕ) (l : Line) (d : Option Spot) (at : ℕ) (h : Option ℕ) (old new : List Label) →
    spots ≡ each (λ before l rest. spot_at words before l) lines → k < length lines → l ≡ get_or lines k l → at ≡ address (get_or spots k d) → h ≡ home k words addresses →
    new ≡ old ++ (map (label_placed at) (label_name l.label) ++ map (label_placed (unwrap_or h at)) (literal_name l.statement)) →
    new ≡ old ++ labels_at words addresses (take k lines) l (drop (k + 1) lines)
names_here words addresses lines spots k l d at h old new spots_are lt is at_is h_is adds =
    adds
    ∙ ap (λ a. old ++ (map (label_placed a) (label_name l.label) ++ map (label_placed (unwrap_or h a)) (literal_name l.statement))) (at_is ∙ ap address (spot_here words lines spots k l d spots_are lt is))
    ∙ ap (λ g. old ++ (map (label_placed (address (spot_at words (take k lines) l))) (label_name l.label) ++ map (label_placed (unwrap_or g (address (spot_at words (take k lines) l)))) (literal_name l.statement)))
    (h_is ∙ ap (λ j. home j words addresses) (sym (length-take-le k lines (omega arith))))

-- ---- the addresses of labels fit

pub address_fits : (a : ℕ) → a < 2 ^ 40 → IsAddress (pos a)
address_fits a lt = (omega (arith, ints), omega (arith, ints))

fit_by : (a : ℕ) → a < 2 ^ 40 → (names : List Placed) → AllByRecursion (λ (l : Label). IsAddress l.address) (map (label_placed a) names)
fit_by a lt [] = tt
fit_by a lt (p ∷ names) = (address_fits a lt, fit_by a lt names)

names_fit : (a : ℕ) → a < 2 ^ 40 → (names : List Placed) → HaveAddresses (map (label_placed a) names)
names_fit a lt names = All-from_recursion (λ (l : Label). IsAddress l.address) (map (label_placed a) names) (fit_by a lt names)

pub none_fit : (labels : List Label) → labels ≡ [] → HaveAddresses labels
none_fit labels e = let P : List Label → Type 0 = λ ls. HaveAddresses ls in subst P (sym e) (All-nil (λ (l : Label). IsAddress l.address))

pub more_fit : (old new : List Label) (a b : ℕ) (xs ys : List Placed) → HaveAddresses old → a ≤ 2 ^ 34 → b < 2 ^ 40 → new ≡ old ++ (map (label_placed a) xs ++ map (label_placed b) ys) → HaveAddresses new
more_fit old new a b xs ys fit below lt e =
    let P : List Label → Type 0 = λ ls. HaveAddresses ls in
    let less : a < 2 ^ 40 = omega arith in
    subst P (sym e) (All-append (λ (l : Label). IsAddress l.address) old (map (label_placed a) xs ++ map (label_placed b) ys) fit
    (All-append (λ (l : Label). IsAddress l.address) (map (label_placed a) xs) (map (label_placed b) ys) (names_fit a less xs) (names_fit b lt ys)))
