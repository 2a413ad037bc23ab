-- Entries and checkpoints of a file, one after another.
use Rattle.std.proofs.Common.{◌≡◌, ℕ, suc, ◌+◌, ◌-◌, ◌*◌, ◌<◌, ◌≤◌, Bool, true, false, Option, Some, None, List, [], ◌∷◌, ◌++◌, length, map, take, drop, refl, sym, ap, ◌∙◌, subst, get_or, append_assoc, arith}
use Rattle.std.proofs.lemmas.Bool.{and_parts, cond-true, cond-false, ltb-true}
use Rattle.std.proofs.lemmas.List.Elements.{All-push}
use Rattle.std.specs.Prelude.{All}
use Rattle.std.proofs.lemmas.List.{append-nil, drop_more}
use Rattle.std.proofs.Math.ListN.{drop_of_length-le}
use Rattle.std.specs.Prelude.{not, option_map}
use Rattle.std.specs.List.{concat}
use Rattle.std.proofs.lemmas.List.{take_more}
use Rattle.std.proofs.lemmas.List.Folds.{concat-append}
use Rattle.std.specs.Str.{bytes_eq}
use Rattle.xt_map.specs.declared.access.Entry.{Entry}
use Rattle.xt_record.specs.declared.fault.RecordFault.TheVariants as fault
use Rattle.xt_record.specs.declared.raw.RawEntry.{RawEntry}
use Rattle.xt_record.specs.Fields.{blocks, checkpoint_size, entry_count, entry_of, raw_at, raws_from, raws_in}
use Rattle.xt_record.specs.SoFar.{IsSoFar}
use Rattle.xt_record.specs.Rules.{is_entry, shape_finding}
use Rattle.xt_record.specs.TurnRules.{first_difference}

shift : (x : Option ℕ) (i : ℕ) → option_map (λ n. n + i) (option_map suc x) ≡ option_map (λ n. n + (i + 1)) x
shift None i = refl
shift (Some n) i = ap Some (let e : suc n + i ≡ n + (i + 1) = omega arith in e)

plus : (x : Option ℕ) → x ≡ option_map (λ n. n + 0) x
plus None = refl
plus (Some n) = ap Some (let e : n ≡ n + 0 = omega arith in e)

here : (i : ℕ) → option_map (λ k. k + i) (Some 0) ≡ Some i
here i = ap Some (let e : 0 + i ≡ i = omega arith in e)

-- ---- entries

raws_more : (n i : ℕ) (rest : List ℕ) → i < n → raws_from (n - i) rest (36 + 20 * i) ≡ raw_at rest (36 + 20 * i) ∷ raws_from (n - (i + 1)) rest (36 + 20 * (i + 1))
unfolding raws_from
raws_more n i rest lt =
    ap (λ (k : ℕ). raws_from k rest (36 + 20 * i)) (let e : n - i ≡ suc (n - (i + 1)) = omega arith in e)
    ∙ ap (λ (p : ℕ). raw_at rest (36 + 20 * i) ∷ raws_from (n - (i + 1)) rest p) (let e : 36 + 20 * i + 20 ≡ 36 + 20 * (i + 1) = omega arith in e)

raws_none : (n i : ℕ) (rest : List ℕ) (place : ℕ) → n ≤ i → raws_from (n - i) rest place ≡ []
unfolding raws_from
raws_none n i rest place le = ap (λ (k : ℕ). raws_from k rest place) (let e : n - i ≡ 0 = omega arith in e)

pub so_far_more : (rest : List ℕ) (n i : ℕ) (entries new : List Entry) (raw : RawEntry) → i < n → IsSoFar rest n i entries → raw ≡ raw_at rest (36 + 20 * i)
    → is_entry raw ≡ true → new ≡ entries ++ entry_of raw ∷ [] → IsSoFar rest n (i + 1) new
so_far_more rest n i entries new raw lt h is good grown =
    let behind = raws_from (n - (i + 1)) rest (36 + 20 * (i + 1)) in
    let more : raws_from (n - i) rest (36 + 20 * i) ≡ raw ∷ behind =
    raws_more n i rest lt ∙ ap (λ (x : RawEntry). x ∷ behind) (sym is) in
    record {
      within = omega arith;
      cores = subst (All (λ (e : Entry). e.core < 2)) (sym grown)
          (All-push (λ (e : Entry). e.core < 2) entries (entry_of raw) h.cores (ltb-true raw.core 2 (and_parts _ _ good).0));
      read = ap (λ (l : List Entry). l ++ map entry_of behind) grown ∙ append_assoc entries (entry_of raw ∷ []) (map entry_of behind)
          ∙ ap (λ (l : List RawEntry). entries ++ map entry_of l) (sym more) ∙ h.read;
      found = h.found ∙ ap (shape_finding i) more
          ∙ cond-true (is_entry raw) (shape_finding (suc i) behind) (Some (fault.Entry i)) good
          ∙ ap (λ (k : ℕ). shape_finding k behind) (let e : suc i ≡ i + 1 = omega arith in e);
    }

pub so_far_not : (rest : List ℕ) (n i : ℕ) (entries : List Entry) (raw : RawEntry) → n ≡ entry_count rest → i < n → IsSoFar rest n i entries
    → raw ≡ raw_at rest (36 + 20 * i) → is_entry raw ≡ false → shape_finding 0 (raws_in rest) ≡ Some (fault.Entry i)
so_far_not rest n i entries raw size lt h is bad =
    let behind = raws_from (n - (i + 1)) rest (36 + 20 * (i + 1)) in
    ap (λ (k : ℕ). shape_finding 0 (raws_from k rest 36)) (sym size)
    ∙ h.found ∙ ap (shape_finding i) (raws_more n i rest lt ∙ ap (λ (x : RawEntry). x ∷ behind) (sym is))
    ∙ cond-false (is_entry raw) (shape_finding (suc i) behind) (Some (fault.Entry i)) bad

pub so_far_all : (rest : List ℕ) (n i : ℕ) (entries : List Entry) → n ≡ entry_count rest → n ≤ i → IsSoFar rest n i entries
    → (shape_finding 0 (raws_in rest) ≡ None) × (entries ≡ map entry_of (raws_in rest)) × All (λ (e : Entry). e.core < 2) entries
so_far_all rest n i entries size le h =
    let none = raws_none n i rest (36 + 20 * i) le in (
      ap (λ (k : ℕ). shape_finding 0 (raws_from k rest 36)) (sym size) ∙ h.found ∙ ap (shape_finding i) none,
      sym (append-nil entries) ∙ ap (λ (l : List RawEntry). entries ++ map entry_of l) (sym none) ∙ h.read
          ∙ ap (λ (k : ℕ). map entry_of (raws_from k rest 36)) size,
      h.cores,
    )

-- ---- checkpoints

pub blocks_more : (n i : ℕ) (rest : List ℕ) → i < n → blocks (n - i) rest ≡ take checkpoint_size rest ∷ blocks (n - (i + 1)) (drop checkpoint_size rest)
unfolding blocks
blocks_more n i rest lt = ap (λ (k : ℕ). blocks k rest) (let e : n - i ≡ suc (n - (i + 1)) = omega arith in e)

blocks_none : (n i : ℕ) (rest : List ℕ) → n ≤ i → blocks (n - i) rest ≡ []
unfolding blocks
blocks_none n i rest le = ap (λ (k : ℕ). blocks k rest) (let e : n - i ≡ 0 = omega arith in e)

abbrev pub Found : Option ℕ → ℕ → ℕ → List ℕ → List (List ℕ) → Type 0
Found all n i rest points = all ≡ option_map (λ k. k + i) (first_difference (blocks (n - i) rest) points)

pub difference_start : (n : ℕ) (rest : List ℕ) (points : List (List ℕ)) → Found (first_difference (blocks n rest) points) n 0 rest points
difference_start n rest points =
    plus (first_difference (blocks n rest) points)
    ∙ ap (λ (k : ℕ). option_map (λ j. j + 0) (first_difference (blocks k rest) points)) (let e : n ≡ n - 0 = omega arith in e)

pub difference_same : (all : Option ℕ) (n i : ℕ) (rest : List ℕ) (p : List ℕ) (points : List (List ℕ)) → i < n → Found all n i rest (p ∷ points)
    → bytes_eq (take checkpoint_size rest) p ≡ true → Found all n (i + 1) (drop checkpoint_size rest) points
difference_same all n i rest p points lt h same =
    let behind = blocks (n - (i + 1)) (drop checkpoint_size rest) in
    h ∙ ap (λ (l : List (List ℕ)). option_map (λ k. k + i) (first_difference l (p ∷ points))) (blocks_more n i rest lt)
    ∙ ap (option_map (λ k. k + i)) (cond-true (bytes_eq (take checkpoint_size rest) p) (option_map suc (first_difference behind points)) (Some 0) same)
    ∙ shift (first_difference behind points) i

pub difference_here : (all : Option ℕ) (n i : ℕ) (rest : List ℕ) (p : List ℕ) (points : List (List ℕ)) → i < n → Found all n i rest (p ∷ points)
    → bytes_eq (take checkpoint_size rest) p ≡ false → all ≡ Some i
difference_here all n i rest p points lt h differs =
    let behind = blocks (n - (i + 1)) (drop checkpoint_size rest) in
    h ∙ ap (λ (l : List (List ℕ)). option_map (λ k. k + i) (first_difference l (p ∷ points))) (blocks_more n i rest lt)
    ∙ ap (option_map (λ k. k + i)) (cond-false (bytes_eq (take checkpoint_size rest) p) (option_map suc (first_difference behind points)) (Some 0) differs)
    ∙ here i

-- the file's end first, or the run's, or both
pub difference_short : (all : Option ℕ) (n i : ℕ) (rest : List ℕ) (p : List ℕ) (points : List (List ℕ)) → n ≤ i → Found all n i rest (p ∷ points) → all ≡ Some i
difference_short all n i rest p points le h =
    h ∙ ap (λ (l : List (List ℕ)). option_map (λ k. k + i) (first_difference l (p ∷ points))) (blocks_none n i rest le) ∙ here i

pub difference_long : (all : Option ℕ) (n i : ℕ) (rest : List ℕ) → i < n → Found all n i rest [] → all ≡ Some i
difference_long all n i rest lt h =
    h ∙ ap (λ (l : List (List ℕ)). option_map (λ k. k + i) (first_difference l [])) (blocks_more n i rest lt) ∙ here i

pub difference_none : (all : Option ℕ) (n i : ℕ) (rest : List ℕ) → n ≤ i → Found all n i rest [] → all ≡ None
difference_none all n i rest le h = h ∙ ap (λ (l : List (List ℕ)). option_map (λ k. k + i) (first_difference l [])) (blocks_none n i rest le)

-- ---- the same in the middle of the lists

is_false : (b : Bool) → not b ≡ true → b ≡ false
is_false true e = absurd cc
is_false false e = refl

is_true : (b : Bool) → not b ≡ false → b ≡ true
is_true true e = refl
is_true false e = absurd cc

pub ends_here : (all : Option ℕ) (n i : ℕ) (rest : List ℕ) (points : List (List ℕ)) → i < length points → n ≤ i → Found all n i rest (drop i points) → Some i ≡ all
ends_here all n i rest points lt le h =
    sym (difference_short all n i rest (get_or points i []) (drop (i + 1) points) le (subst (Found all n i rest) (drop_more points i [] lt) h))

pub differs_here : (all : Option ℕ) (n i j : ℕ) (rest block point d : List ℕ) (points : List (List ℕ)) → i < length points → i < n
    → Found all n i rest (drop i points) → block ≡ take 353152 rest → i ≡ j → point ≡ get_or points j d → not (bytes_eq block point) ≡ true → Some i ≡ all
unfolding checkpoint_size
differs_here all n i j rest block point d points lt less h is same at differs =
    sym (difference_here all n i rest (get_or points i d) (drop (i + 1) points) less (subst (Found all n i rest) (drop_more points i d lt) h)
    (ap (λ (l : List ℕ). bytes_eq l (get_or points i d)) (sym is) ∙ ap (λ (k : ℕ). bytes_eq block (get_or points k d)) same ∙ ap (bytes_eq block) (sym at) ∙ is_false (bytes_eq block point) differs))

pub goes_on : (all : Option ℕ) (n i j : ℕ) (rest block behind point d : List ℕ) (points : List (List ℕ)) → i < length points → i < n
    → Found all n i rest (drop i points) → block ≡ take 353152 rest → behind ≡ drop 353152 rest → i ≡ j → point ≡ get_or points j d → not (bytes_eq block point) ≡ false
    → Found all n (i + 1) behind (drop (i + 1) points)
unfolding checkpoint_size
goes_on all n i j rest block behind point d points lt less h is after same at equal =
    subst (λ (l : List ℕ). Found all n (i + 1) l (drop (i + 1) points)) (sym after)
    (difference_same all n i rest (get_or points i d) (drop (i + 1) points) less (subst (Found all n i rest) (drop_more points i d lt) h)
    (ap (λ (l : List ℕ). bytes_eq l (get_or points i d)) (sym is) ∙ ap (λ (k : ℕ). bytes_eq block (get_or points k d)) same ∙ ap (bytes_eq block) (sym at) ∙ is_true (bytes_eq block point) equal))

nothing_left : (points : List (List ℕ)) (i : ℕ) → length points ≤ i → drop i points ≡ []
nothing_left points i le = drop_of_length-le points le

pub file_goes_on : (all : Option ℕ) (n i : ℕ) (rest : List ℕ) (points : List (List ℕ)) → length points ≤ i → i < n → Found all n i rest (drop i points) → Some i ≡ all
file_goes_on all n i rest points le less h = sym (difference_long all n i rest less (subst (Found all n i rest) (nothing_left points i le) h))

pub both_end : (all : Option ℕ) (n i : ℕ) (rest : List ℕ) (points : List (List ℕ)) → length points ≤ i → n ≤ i → Found all n i rest (drop i points) → None ≡ all
both_end all n i rest points le less h = sym (difference_none all n i rest less (subst (Found all n i rest) (nothing_left points i le) h))

pub block_there : (len n i : ℕ) → len ≡ checkpoint_size * (n - i) → i < n → 353152 ≤ len
unfolding checkpoint_size
block_there len n i long lt = omega (arith, long, lt)

pub block_past : (len rest n i : ℕ) → len ≡ checkpoint_size * (n - i) → i < n → rest + 353152 ≡ len → rest ≡ checkpoint_size * (n - (i + 1))
unfolding checkpoint_size
block_past len rest n i long lt is = omega (arith, long, lt, is)

-- ---- checkpoints that are written

pub one_more : (points : List (List ℕ)) (i : ℕ) (point d : List ℕ) (old now new : List ℕ) → i < length points → point ≡ get_or points i d
    → now ≡ old ++ concat (take i points) → new ≡ now ++ point → new ≡ old ++ concat (take (i + 1) points)
one_more points i point d old now new lt at is grown =
    let before = concat (take i points) in
    grown ∙ ap (λ (l : List ℕ). l ++ point) is ∙ append_assoc old before point
    ∙ ap (λ (l : List ℕ). old ++ l)
    (ap (λ (l : List ℕ). before ++ l) (at ∙ sym (append-nil (get_or points i d))) ∙ sym (concat-append (take i points) (get_or points i d ∷ []))
    ∙ ap concat (sym (take_more points i d lt)))
