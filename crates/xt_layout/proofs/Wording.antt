-- The addresses of pool words, and the words that lines first need.
use Rattle.std.proofs.Common.{◌≡◌, List, [], ◌∷◌, ◌++◌, refl, sym, ap, ◌∙◌, subst, ℕ, zero, suc, ◌+◌, ◌*◌, ◌^◌, ◌<◌, ◌≤◌, true, false, eqb, length, take, drop, get_or, set, replicate, Option, Some, None, if◌then◌else◌, arith, ⊎_elim}
use Rattle.std.specs.Prelude.{All, unwrap_or}
use Rattle.std.proofs.lemmas.List.{append_assoc, append-nil, drop_more, drop_all, take_more, take_all, length-take-le, get_or-set_same, get_or-set_other, length-set}
use Rattle.std.proofs.lemmas.List.Elements.{All-push, All-nil}
use Rattle.std.proofs.lemmas.Bool.{cases_eq}
use Rattle.std.proofs.lemmas.Bool.Decides.{nat_tests}
use Rattle.xt_layout.specs.declared.word.PoolWord.{PoolWord}
use Rattle.xt_layout.specs.Pools.{IsAmong}
use Rattle.xt_layout.specs.Sizes.{padding}
use Rattle.xt_layout.specs.Addresses.{home, word_address, words_after}
use Rattle.xt_layout.proofs.Counting.{Counts, counts_more, counts_few}

-- ---- addresses

-- the first i words have their addresses, and the counts of the pools are theirs
pub record Words (addresses : List ℕ) (words : List PoolWord) (i : ℕ) (used behind : List ℕ) : Type 0 where
  pub counted : Counts used words i (length addresses)
  pub built : behind ++ words_after addresses (take i words) (drop i words) ≡ words_after addresses [] words
  pub small : All (λ a. a < 2 ^ 40) behind

pub words_none : (addresses : List ℕ) (words : List PoolWord) (used behind : List ℕ) → ((k : ℕ) → get_or used k 0 ≡ 0) → length used ≡ length addresses → behind ≡ [] → Words addresses words 0 used behind
words_none addresses words used behind zeros same e = record {
  counted = record { many = same; sizes = λ k lt. zeros k };
  built = ap (λ xs. xs ++ words_after addresses [] words) e;
  small = (let P : List ℕ → Type 0 = λ xs. All (λ a. a < 2 ^ 40) xs in subst P (sym e) (All-nil (λ a. a < 2 ^ 40)));
}

pub place_among : (n : ℕ) (words : List PoolWord) (i : ℕ) (w : PoolWord) → i < length words → w ≡ get_or words i w → All (IsAmong n) words → w.position < n
place_among n words i w lt is among = let P : PoolWord → Type 0 = λ v. v.position < n in subst P (sym is) ((among i w lt).0)

pub words_more : (addresses : List ℕ) (words : List PoolWord) (i : ℕ) (w : PoolWord) (used now behind behind' : List ℕ) (a : ℕ) → i < length words → w ≡ get_or words i w → w.position < length addresses → Words addresses words i used behind →
    a ≡ get_or addresses w.position 0 + padding 4 (get_or addresses w.position 0) + 4 * get_or used w.position 0 → a < 2 ^ 40 → behind' ≡ behind ++ a ∷ [] → now ≡ set used w.position (get_or used w.position 0 + 1) →
    Words addresses words (i + 1) now behind'
words_more addresses words i w used now behind behind' a lt is among known a_is a_small adds counts =
    let here : drop i words ≡ w ∷ drop (i + 1) words = drop_more words i w lt ∙ ap (λ x. x ∷ drop (i + 1) words) (sym is) in
    let next : take (i + 1) words ≡ take i words ++ w ∷ [] = take_more words i w lt ∙ ap (λ x. take i words ++ x ∷ []) (sym is) in
    let a_at : a ≡ word_address addresses (take i words) w = a_is ∙ ap (λ n. get_or addresses w.position 0 + padding 4 (get_or addresses w.position 0) + 4 * n) (known.counted.sizes w.position among) in
    record {
      counted = counts_more used now words i (length addresses) w lt is known.counted counts;
      built = ap (λ xs. xs ++ words_after addresses (take (i + 1) words) (drop (i + 1) words)) adds
          ∙ ap (λ ws. (behind ++ a ∷ []) ++ words_after addresses ws (drop (i + 1) words)) next
          ∙ append_assoc behind (a ∷ []) (words_after addresses (take i words ++ w ∷ []) (drop (i + 1) words))
          ∙ ap (λ x. behind ++ (x ∷ words_after addresses (take i words ++ w ∷ []) (drop (i + 1) words))) a_at
          ∙ ap (λ ws. behind ++ words_after addresses (take i words) ws) (sym here) ∙ known.built;
      small = (let P : List ℕ → Type 0 = λ xs. All (λ a. a < 2 ^ 40) xs in subst P (sym adds) (All-push (λ a. a < 2 ^ 40) behind a known.small a_small));
    }

pub words_all : (addresses : List ℕ) (words : List PoolWord) (i : ℕ) (used behind : List ℕ) → length words ≤ i → Words addresses words i used behind → behind ≡ words_after addresses [] words
words_all addresses words i used behind le known = sym (append-nil behind) ∙ ap (λ ws. behind ++ words_after addresses (take i words) ws) (sym (drop_all i words le)) ∙ known.built

pub used_few : (addresses : List ℕ) (words : List PoolWord) (i p : ℕ) (used behind : List ℕ) → length words ≤ 2 ^ 21 → i < length words → p < length addresses → Words addresses words i used behind → get_or used p 0 ≤ 2 ^ 21
used_few addresses words i p used behind few lt among known = omega (arith, counts_few used words i (length addresses) p among (omega arith) known.counted)

length-words_after : (addresses : List ℕ) (before words : List PoolWord) → length (words_after addresses before words) ≡ length words
length-words_after addresses before [] = refl
length-words_after addresses before (w ∷ words) = ap suc (length-words_after addresses (before ++ w ∷ []) words)

pub length-words : (addresses : List ℕ) (words : List PoolWord) → length (words_after addresses [] words) ≡ length words
length-words addresses words = length-words_after addresses [] words

-- ---- the words that lines first need

home_push : (k : ℕ) (words : List PoolWord) (addresses : List ℕ) (w : PoolWord) (a : ℕ) → length addresses ≡ length words →
    home k (words ++ w ∷ []) (addresses ++ a ∷ []) ≡ (if eqb w.line k then Some (unwrap_or (home k words addresses) a) else home k words addresses)
home_push k [] [] w a e = refl
home_push k [] (b ∷ addresses) w a e = absurd (omega arith)
home_push k (v ∷ words) [] w a e = absurd (omega arith)
home_push k (v ∷ words) (b ∷ addresses) w a e = elim (eqb v.line k) as (λ t. (if t then Some b else home k (words ++ w ∷ []) (addresses ++ a ∷ [])) ≡ (if eqb w.line k then Some (unwrap_or (if t then Some b else home k words addresses) a) else (if t then Some b else home k words addresses))) [
  | true ↦ (elim (eqb w.line k) as (λ u. Some b ≡ (if u then Some b else Some b)) [ true ↦ refl | false ↦ refl ])
  | false ↦ home_push k words addresses w a (omega arith)
]

same_test : (k : ℕ) → eqb k k ≡ true
same_test k = grind (arith, nat_tests)

other_test : (p k : ℕ) → (k ≡ p → ⊥) → eqb p k ≡ false
other_test p k ne = grind (arith, nat_tests)

-- the lines of the first i words have their addresses
pub record Homes (homes : List (Option ℕ)) (words : List PoolWord) (addresses : List ℕ) (i n : ℕ) : Type 0 where
  pub many : length homes ≡ n
  pub each_is : (k : ℕ) → k < n → get_or homes k None ≡ home k (take i words) (take i addresses)

pub homes_none : (homes : List (Option ℕ)) (words : List PoolWord) (addresses : List ℕ) → ((k : ℕ) → get_or homes k None ≡ None) → Homes homes words addresses 0 (length homes)
homes_none homes words addresses nones = record { many = refl; each_is = λ k lt. nones k }

settled : (homes : List (Option ℕ)) (p k a : ℕ) (h : Option ℕ) → k < length homes → get_or homes k None ≡ h →
    get_or (set homes p (Some (unwrap_or (get_or homes p None) a))) k None ≡ (if eqb p k then Some (unwrap_or h a) else h)
settled homes p k a h lt is = ⊎_elim
    (λ e. let P : ℕ → Type 0 = λ p. get_or (set homes p (Some (unwrap_or (get_or homes p None) a))) k None ≡ (if eqb p k then Some (unwrap_or h a) else h) in
    subst P e (get_or-set_same homes k (Some (unwrap_or (get_or homes k None) a)) None lt ∙ ap (λ g. Some (unwrap_or g a)) is ∙ ap (λ b. if b then Some (unwrap_or h a) else h) (sym (same_test k))))
    (λ ne. get_or-set_other homes p k (Some (unwrap_or (get_or homes p None) a)) None ne ∙ is ∙ ap (λ b. if b then Some (unwrap_or h a) else h) (sym (other_test p k ne)))
    (cases_eq k p)

pub homes_more : (homes now : List (Option ℕ)) (words : List PoolWord) (addresses : List ℕ) (i n : ℕ) (w : PoolWord) → i < length words → length addresses ≡ length words → w ≡ get_or words i w → Homes homes words addresses i n →
    now ≡ set homes w.line (Some (unwrap_or (get_or homes w.line None) (get_or addresses i 0))) → Homes now words addresses (i + 1) n
homes_more homes now words addresses i n w lt same is known e =
    let a : ℕ = get_or addresses i 0 in
    let lt' : i < length addresses = omega arith in
    let more_words : take (i + 1) words ≡ take i words ++ w ∷ [] = take_more words i w lt ∙ ap (λ x. take i words ++ x ∷ []) (sym is) in
    let more_addresses : take (i + 1) addresses ≡ take i addresses ++ a ∷ [] = take_more addresses i 0 lt' in
    let long : length (take i addresses) ≡ length (take i words) = omega (arith, length-take-le i words (omega arith), length-take-le i addresses (omega arith)) in
    record {
      many = ap length e ∙ length-set homes w.line (Some (unwrap_or (get_or homes w.line None) a)) ∙ known.many;
      each_is = λ k less. ap (λ hs. get_or hs k None) e
          ∙ settled homes w.line k a (home k (take i words) (take i addresses)) (let P : ℕ → Type 0 = λ m. k < m in subst P (sym known.many) less) (known.each_is k less)
          ∙ sym (home_push k (take i words) (take i addresses) w a long)
          ∙ ap (λ xs. home k (take i words ++ w ∷ []) xs) (sym more_addresses) ∙ ap (λ ws. home k ws (take (i + 1) addresses)) (sym more_words);
    }

pub homes_all : (homes : List (Option ℕ)) (words : List PoolWord) (addresses : List ℕ) (i n : ℕ) → length words ≤ i → length addresses ≡ length words → Homes homes words addresses i n → (k : ℕ) → k < n → get_or homes k None ≡ home k words addresses
homes_all homes words addresses i n le same known k lt = known.each_is k lt ∙ ap (λ ws. home k ws (take i addresses)) (take_all i words le) ∙ ap (λ xs. home k words xs) (take_all i addresses (omega arith))

pub none_at : (n k : ℕ) → get_or {A = Option ℕ} (replicate n None) k None ≡ None
none_at zero k = refl
none_at (suc n) zero = refl
none_at (suc n) (suc k) = none_at n k
