-- What is made line by line.
use Rattle.std.proofs.Common.{◌≡◌, List, [], ◌∷◌, ◌++◌, refl, sym, ap, ◌∙◌, ℕ, zero, suc, ◌+◌, ◌<◌, ◌≤◌, length, take, drop, get_or, Some, None, arith}
use Rattle.std.specs.Prelude.{map}
use Rattle.std.specs.List.{flat_map}
use Rattle.std.proofs.lemmas.List.{append_assoc, append-nil, drop_more, drop_all, take_more}
use Rattle.xt_lex.specs.declared.fault.AsmPlace.{AsmPlace}
use Rattle.xt_parse.specs.declared.line.Line.{Line}
use Rattle.xt_layout.specs.Around.{each, each_after}
use Rattle.xt_layout.specs.Findings.{Finding, first, or_else}

pub here : (lines : List Line) (k : ℕ) (l : Line) → k < length lines → l ≡ get_or lines k l → drop k lines ≡ l ∷ drop (k + 1) lines
here lines k l lt is = drop_more lines k l lt ∙ ap (λ x. x ∷ drop (k + 1) lines) (sym is)

pub next : (lines : List Line) (k : ℕ) (l : Line) → k < length lines → l ≡ get_or lines k l → take (k + 1) lines ≡ take k lines ++ l ∷ []
next lines k l lt is = take_more lines k l lt ∙ ap (λ x. take k lines ++ x ∷ []) (sym is)

-- ---- one for each line

-- what is made so far, and what the lines from the place k on make, is all
abbrev pub Builds : {A : Type 0} → (List Line → Line → List Line → A) → List A → ℕ → List Line → List A → Type 0
Builds f xs k lines all = xs ++ each_after f (take k lines) (drop k lines) ≡ all

pub builds_more : {A : Type 0} (f : List Line → Line → List Line → A) (xs ys : List A) (k : ℕ) (lines : List Line) (l : Line) (all : List A) →
    k < length lines → l ≡ get_or lines k l → Builds f xs k lines all → ys ≡ xs ++ f (take k lines) l (drop (k + 1) lines) ∷ [] → Builds f ys (k + 1) lines all
builds_more f xs ys k lines l all lt is builds e =
    ap (λ zs. zs ++ each_after f (take (k + 1) lines) (drop (k + 1) lines)) e
    ∙ ap (λ ls. (xs ++ f (take k lines) l (drop (k + 1) lines) ∷ []) ++ each_after f ls (drop (k + 1) lines)) (next lines k l lt is)
    ∙ append_assoc xs (f (take k lines) l (drop (k + 1) lines) ∷ []) (each_after f (take k lines ++ l ∷ []) (drop (k + 1) lines))
    ∙ ap (λ ls. xs ++ each_after f (take k lines) ls) (sym (here lines k l lt is)) ∙ builds

pub builds_all : {A : Type 0} (f : List Line → Line → List Line → A) (xs : List A) (k : ℕ) (lines : List Line) (all : List A) → length lines ≤ k → Builds f xs k lines all → xs ≡ all
builds_all f xs k lines all le builds = sym (append-nil xs) ∙ ap (λ ls. xs ++ each_after f (take k lines) ls) (sym (drop_all k lines le)) ∙ builds

pub builds_none : {A : Type 0} (f : List Line → Line → List Line → A) (xs : List A) (lines : List Line) → xs ≡ [] → Builds f xs 0 lines (each f lines)
builds_none f xs lines e = ap (λ ys. ys ++ each_after f [] lines) e

-- ---- several for each line

abbrev pub Joins : {A : Type 0} → (List Line → Line → List Line → List A) → List A → ℕ → List Line → List A → Type 0
Joins f xs k lines all = xs ++ flat_map (λ ys. ys) (each_after f (take k lines) (drop k lines)) ≡ all

pub joins_more : {A : Type 0} (f : List Line → Line → List Line → List A) (xs ys : List A) (k : ℕ) (lines : List Line) (l : Line) (all : List A) →
    k < length lines → l ≡ get_or lines k l → Joins f xs k lines all → ys ≡ xs ++ f (take k lines) l (drop (k + 1) lines) → Joins f ys (k + 1) lines all
joins_more f xs ys k lines l all lt is joins e =
    ap (λ zs. zs ++ flat_map (λ ys. ys) (each_after f (take (k + 1) lines) (drop (k + 1) lines))) e
    ∙ ap (λ ls. (xs ++ f (take k lines) l (drop (k + 1) lines)) ++ flat_map (λ ys. ys) (each_after f ls (drop (k + 1) lines))) (next lines k l lt is)
    ∙ append_assoc xs (f (take k lines) l (drop (k + 1) lines)) (flat_map (λ ys. ys) (each_after f (take k lines ++ l ∷ []) (drop (k + 1) lines)))
    ∙ ap (λ ls. xs ++ flat_map (λ ys. ys) (each_after f (take k lines) ls)) (sym (here lines k l lt is)) ∙ joins

pub joins_all : {A : Type 0} (f : List Line → Line → List Line → List A) (xs : List A) (k : ℕ) (lines : List Line) (all : List A) → length lines ≤ k → Joins f xs k lines all → xs ≡ all
joins_all f xs k lines all le joins = sym (append-nil xs) ∙ ap (λ ls. xs ++ flat_map (λ ys. ys) (each_after f (take k lines) ls)) (sym (drop_all k lines le)) ∙ joins

pub joins_none : {A : Type 0} (f : List Line → Line → List Line → List A) (xs : List A) (lines : List Line) → xs ≡ [] → Joins f xs 0 lines (flat_map (λ ys. ys) (each f lines))
joins_none f xs lines e = ap (λ ys. ys ++ flat_map (λ ys. ys) (each_after f [] lines)) e

-- ---- the first finding

-- the first fault is that of the lines from the place k on
abbrev pub Finds : (List Line → Line → List Line → Finding) → ℕ → List Line → Finding → Type 0
Finds f k lines fault = first (each_after f (take k lines) (drop k lines)) ≡ fault

found : (f : List Line → Line → List Line → Finding) (k : ℕ) (lines : List Line) (l : Line) (fault : Finding) → k < length lines → l ≡ get_or lines k l → Finds f k lines fault →
    or_else (f (take k lines) l (drop (k + 1) lines)) (first (each_after f (take k lines ++ l ∷ []) (drop (k + 1) lines))) ≡ fault
found f k lines l fault lt is finds = ap (λ ls. first (each_after f (take k lines) ls)) (sym (here lines k l lt is)) ∙ finds

pub finds_here : (f : List Line → Line → List Line → Finding) (k : ℕ) (lines : List Line) (l : Line) (fault : Finding) (place : AsmPlace) → k < length lines → l ≡ get_or lines k l → Finds f k lines fault →
    Some place ≡ f (take k lines) l (drop (k + 1) lines) → Some place ≡ fault
finds_here f k lines l fault place lt is finds this =
    ap (λ x. or_else x (first (each_after f (take k lines ++ l ∷ []) (drop (k + 1) lines)))) this ∙ found f k lines l fault lt is finds

pub finds_more : (f : List Line → Line → List Line → Finding) (k : ℕ) (lines : List Line) (l : Line) (fault : Finding) → k < length lines → l ≡ get_or lines k l → Finds f k lines fault →
    None ≡ f (take k lines) l (drop (k + 1) lines) → Finds f (k + 1) lines fault
finds_more f k lines l fault lt is finds none =
    ap (λ ls. first (each_after f ls (drop (k + 1) lines))) (next lines k l lt is)
    ∙ ap (λ x. or_else x (first (each_after f (take k lines ++ l ∷ []) (drop (k + 1) lines)))) none ∙ found f k lines l fault lt is finds

pub finds_all : (f : List Line → Line → List Line → Finding) (k : ℕ) (lines : List Line) (fault : Finding) → length lines ≤ k → Finds f k lines fault → None ≡ fault
finds_all f k lines fault le finds = ap (λ ls. first (each_after f (take k lines) ls)) (sym (drop_all k lines le)) ∙ finds

-- ---- one at a place

each_at_place : {A : Type 0} (f : List Line → Line → List Line → A) (before lines : List Line) (k : ℕ) (d : A) (l : Line) → k < length lines → l ≡ get_or lines k l →
    get_or (each_after f before lines) k d ≡ f (before ++ take k lines) l (drop (k + 1) lines)
each_at_place f before [] k d l lt is = absurd (omega arith)
each_at_place f before (x ∷ lines) zero d l lt is = ap (λ ls. f ls x lines) (sym (append-nil before)) ∙ ap (λ y. f (before ++ []) y lines) (sym is)
each_at_place f before (x ∷ lines) (suc k) d l lt is =
    let e : suc (k + 1) ≡ suc k + 1 = omega arith in
    each_at_place f (before ++ x ∷ []) lines k d l (omega arith) is
    ∙ ap (λ ls. f ls l (drop (k + 1) lines)) (append_assoc before (x ∷ []) (take k lines)) ∙ ap (λ n. f (before ++ take (suc k) (x ∷ lines)) l (drop n (x ∷ lines))) e

pub each_at : {A : Type 0} (f : List Line → Line → List Line → A) (lines : List Line) (k : ℕ) (d : A) (l : Line) → k < length lines → l ≡ get_or lines k l →
    get_or (each f lines) k d ≡ f (take k lines) l (drop (k + 1) lines)
each_at f lines k d l lt is = each_at_place f [] lines k d l lt is

length-each_after : {A : Type 0} (f : List Line → Line → List Line → A) (before lines : List Line) → length (each_after f before lines) ≡ length lines
length-each_after f before [] = refl
length-each_after f before (l ∷ lines) = ap suc (length-each_after f (before ++ l ∷ []) lines)

pub length-each : {A : Type 0} (f : List Line → Line → List Line → A) (lines : List Line) → length (each f lines) ≡ length lines
length-each f lines = length-each_after f [] lines

each_map_after : {A B : Type 0} (g : A → B) (f : List Line → Line → List Line → A) (before lines : List Line) → map g (each_after f before lines) ≡ each_after (λ b l r. g (f b l r)) before lines
each_map_after g f before [] = refl
each_map_after g f before (l ∷ lines) = ap (λ xs. g (f before l lines) ∷ xs) (each_map_after g f (before ++ l ∷ []) lines)

pub each_map : {A B : Type 0} (g : A → B) (f : List Line → Line → List Line → A) (lines : List Line) → map g (each f lines) ≡ each (λ b l r. g (f b l r)) lines
each_map g f lines = each_map_after g f [] lines
