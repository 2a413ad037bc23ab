-- The blocks of a list of cores.
use Rattle.std.proofs.Common.{◌≡◌, ℕ, zero, suc, ◌+◌, ◌-◌, ◌/◌, ◌%◌, ◌^◌, ◌<◌, ◌≤◌, List, [], ◌++◌, length, sym, ap, subst, ◌∙◌, arith, append_assoc, append-nil, length-append, ⊎_elim}
use Rattle.std.specs.Prelude.{All, min, replicate, take}
use Rattle.std.proofs.Math.Nat.{min-eq_left, min-eq_right}
use Rattle.std.proofs.Math.Seq.{take-append-add}
use Rattle.std.proofs.lemmas.Bool.{cases_lt}
use Rattle.std.proofs.lemmas.List.{length-replicate, take_all, take-append-le, take-replicate}
use Rattle.std.proofs.lemmas.List.Elements.{All-append, All-nil, All-replicate}
use Rattle.xt_gen.specs.Generated.{next}
use Rattle.xt_gen.specs.Orders.{block, blocks_from, seeded_order}

-- ---- the first numbers of a block and what follows

taken_past : (n c left : ℕ) (rest : List ℕ) → n ≤ left → take left (replicate n c ++ rest) ≡ replicate n c ++ take (left - n) rest
taken_past n c left rest le =
    let long : length (replicate n c) ≡ n = length-replicate n c in
    let sum : left ≡ length (replicate n c) + (left - n) = omega (arith, long, le) in
    ap (λ k. take k (replicate n c ++ rest)) sum ∙ take-append-add (replicate n c) rest (left - n)

taken_within : (n c left : ℕ) (rest : List ℕ) → left ≤ n → take left (replicate n c ++ rest) ≡ replicate left c
taken_within n c left rest le =
    let long : length (replicate n c) ≡ n = length-replicate n c in
    take-append-le left (replicate n c) rest (omega (arith, long, le)) ∙ take-replicate left n c le

-- so many turns of a block, as many as are left or all
taken : (n c left more : ℕ) (rest : List ℕ) → more ≡ min n left → take left (replicate n c ++ rest) ≡ replicate more c ++ take (left - more) rest
taken n c left more rest is =
    ⊎_elim
    (λ (below : left < n).
    let all : more ≡ left = is ∙ min-eq_right (omega (arith, below)) in
    let no_more : left - more ≡ 0 = omega (arith, all) in
    taken_within n c left rest (omega (arith, below)) ∙ sym (append-nil (replicate left c))
    ∙ ap (λ k. replicate k c ++ []) (sym all) ∙ ap (λ k. replicate more c ++ take k rest) (sym no_more))
    (λ (le : n ≤ left).
    let all : n ≡ more = sym (is ∙ min-eq_left le) in
    taken_past n c left rest le ∙ ap (λ k. replicate k c ++ take (left - k) rest) all)
    (cases_lt left n)

-- ---- the list so far: the numbers that are left follow those that stand there

pub record Filled (seed count x : ℕ) (done : List ℕ) : Type 0 where
  pub blocks : ℕ
  pub enough : count ≤ length done + blocks
  pub within : length done ≤ count
  pub list : done ++ take (count - length done) (blocks_from blocks x) ≡ seeded_order seed count
  pub cores : All (λ core. core < 2) done

pub none_done : (seed count : ℕ) (done : List ℕ) → done ≡ [] → Filled seed count seed done
unfolding seeded_order
none_done seed count done is =
    let long : length done ≡ 0 = ap length is in
    let left : count - length done ≡ count = omega (arith, long) in
    record {
      blocks = count;
      enough = omega arith;
      within = omega (arith, long);
      list = ap (λ d. d ++ take (count - length done) (blocks_from count seed)) is ∙ ap (λ k. take k (blocks_from count seed)) left;
      cores = subst (All (λ core. core < 2)) (sym is) (All-nil (λ core. core < 2));
    }

-- one block more, where so many blocks are left
with_block : (seed count x y end b : ℕ) (done new : List ℕ) → length done < count → count ≤ length done + suc b
    → done ++ take (count - length done) (blocks_from (suc b) x) ≡ seeded_order seed count
    → All (λ core. core < 2) done → y ≡ next x → end ≡ min (length done + (1 + y / 2 ^ 24 % 32)) count
    → new ≡ done ++ replicate (end - length done) (y / 2 ^ 31) → Filled seed count y new
unfolding blocks_from
with_block seed count x y end b done new below enough list cores same end_is made =
    let turns = 1 + y / 2 ^ 24 % 32 in
    let left = count - length done in
    let more = end - length done in
    let core = y / 2 ^ 31 in
    let rest = blocks_from b y in
    let one : 1 ≤ turns = omega arith in
    let more_is : more ≡ min turns left = omega (arith, end_is, below) in
    let after : length done + 1 ≤ end = omega (arith, one, end_is, below) in
    let before : end ≤ count = omega (arith, end_is) in
    let long : length new ≡ end = ap length made ∙ length-append done (replicate more core) ∙ omega (arith, length-replicate more core, after) in
    let two : core < 2 = subst (λ z. z / 2 ^ 31 < 2) (sym same) (omega arith) in
    let left_is : count - length new ≡ left - more = omega (arith, long, after, before) in
    record {
      blocks = b;
      enough = omega (arith, long, after, enough);
      within = omega (arith, long, before);
      list =
          ap (λ d. d ++ take (count - length new) rest) made
          ∙ append_assoc done (replicate more core) (take (count - length new) rest)
          ∙ ap (λ k. done ++ (replicate more core ++ take k rest)) left_is
          ∙ ap (λ l. done ++ l) (sym (taken turns core left more rest more_is))
          ∙ ap (λ z. done ++ take left (block z ++ blocks_from b z)) same
          ∙ list;
      cores = subst (All (λ c. c < 2)) (sym made) (All-append (λ c. c < 2) done (replicate more core) cores (All-replicate (λ c. c < 2) more core two));
    }

pub step : (seed count x y len end : ℕ) (done new : List ℕ) → len < count → len ≡ length done → y ≡ next x
    → end ≡ min (len + (1 + y / 2 ^ 24 % 32)) count
    → new ≡ take end done ++ replicate (end - len) (y / 2 ^ 31) → Filled seed count x done → Filled seed count y new
step seed count x y len end done new below long same end_is made f = go f.blocks f.enough f.list
  where
    go : (b : ℕ) → count ≤ length done + b → done ++ take (count - length done) (blocks_from b x) ≡ seeded_order seed count → Filled seed count y new
    go zero enough list = absurd (omega (arith, enough, below, long))
    go (suc b) enough list =
        let one : 1 ≤ 1 + y / 2 ^ 24 % 32 = omega arith in
        let past : length done ≤ end = omega (arith, one, end_is, below, long) in
        with_block seed count x y end b done new (omega (arith, below, long)) enough list f.cores same (omega (arith, end_is, long))
        (made ∙ ap (λ l. l ++ replicate (end - len) (y / 2 ^ 31)) (take_all end done past) ∙ ap (λ n. done ++ replicate (end - n) (y / 2 ^ 31)) long)

pub all_done : (seed count x : ℕ) (done : List ℕ) → count ≤ length done → Filled seed count x done → done ≡ seeded_order seed count
all_done seed count x done past f =
    let none : count - length done ≡ 0 = omega (arith, past) in
    sym (append-nil done) ∙ ap (λ k. done ++ take k (blocks_from f.blocks x)) (sym none) ∙ f.list
