-- The checkpoints of a list of turns, as it grows.
use Rattle.std.proofs.Common.{◌≡◌, ℕ, zero, suc, ◌+◌, ◌<◌, Bool, true, false, cond, List, [], ◌∷◌, ◌++◌, length, map, take, replicate, refl, sym, ap, ◌∙◌, append_assoc, length-append, arith}
use Rattle.std.specs.List.{filter, range_with_len}
use Rattle.std.proofs.lemmas.List.{length_push, length-replicate, map-append, append-nil, replicate_more, take-append-le, take_at}
use Rattle.std.proofs.lemmas.List.Elements.{filter-append}
use Rattle.xt_map.specs.declared.contents.MemoryContents.{MemoryContents}
use Rattle.xt_map.specs.declared.access.Entry.{Entry}
use Rattle.xt_trace.specs.Chip.{Chip}
use Rattle.xt_trace.specs.Short.{ShortWorld, short_advance}
use Rattle.xt_exec.specs.Chips.{processor}
use Rattle.xt_exec.specs.State.{State}
use Rattle.xt_core.specs.Cores.{CoreState}
use Rattle.xt_record.specs.Checkpoints.{is_due}
use Rattle.xt_record.specs.Walking.{Adds, Went, beside, due_beside, line_at, point_beside, point_of, points_along}
use Rattle.xt_record.proofs.Turns.{advance_append}

range_push : (a n : ℕ) → range_with_len a (suc n) ≡ range_with_len a n ++ (a + n) ∷ []
range_push a zero = ap (λ (k : ℕ). k ∷ []) (let e : a ≡ a + 0 = omega arith in e)
range_push a (suc n) =
    ap (λ (l : List ℕ). a ∷ l) (range_push (a + 1) n ∙ ap (λ (k : ℕ). range_with_len (a + 1) n ++ k ∷ []) (let e : a + 1 + n ≡ a + suc n = omega arith in e))

-- two functions that agree below the end of a range
same_along : {A : Type 0} (f g : ℕ → A) (q : ℕ → Bool) (a n : ℕ) → ((p : ℕ) → p < a + n → f p ≡ g p)
    → map f (filter q (range_with_len a n)) ≡ map g (filter q (range_with_len a n))
same_along f g q a zero same = refl
same_along f g q a (suc n) same =
    let l = filter q (range_with_len (a + 1) n) in
    let rest : map f l ≡ map g l = same_along f g q (a + 1) n (λ p lt. same p (omega arith)) in
    let here : f a ≡ g a = same a (omega arith) in
    elim (q a) as (λ b. map f (cond b (a ∷ l) l) ≡ map g (cond b (a ∷ l) l))
    [ true ↦ ap (λ x. x ∷ map f l) here ∙ ap (λ xs. g a ∷ xs) rest | false ↦ rest ]

chosen : {A : Type 0} (f : ℕ → A) (b : Bool) (n : ℕ) → map f (cond b (n ∷ []) []) ≡ cond b (f n ∷ []) []
chosen f true n = refl
chosen f false n = refl

filtered_push : (n : ℕ) → filter is_due (range_with_len 0 (suc n)) ≡ filter is_due (range_with_len 0 n) ++ cond (is_due n) (n ∷ []) []
filtered_push n =
    ap (filter is_due) (range_push 0 n ∙ ap (λ (k : ℕ). range_with_len 0 n ++ k ∷ []) (let e : 0 + n ≡ n = omega arith in e))
    ∙ filter-append is_due (range_with_len 0 n) (n ∷ [])

-- one turn more: the position before it may have a checkpoint
pub points_push : (P : Chip State) (w : ShortWorld State) (list : List ℕ) (c : ℕ)
    → points_along P w (list ++ c ∷ []) ≡ points_along P w list ++ cond (is_due (length list)) (point_of (length list) (short_advance P list w) ∷ []) []
points_push P w list c =
    let n = length list in
    let f : ℕ → List ℕ = λ p. point_of p (short_advance P (take p (list ++ c ∷ [])) w) in
    let g : ℕ → List ℕ = λ p. point_of p (short_advance P (take p list) w) in
    let old = filter is_due (range_with_len 0 n) in
    ap (λ (k : ℕ). map f (filter is_due (range_with_len 0 k))) (let e : length (list ++ c ∷ []) ≡ suc n = omega (arith, length_push list c) in e)
    ∙ ap (map f) (filtered_push n)
    ∙ map-append f old (cond (is_due n) (n ∷ []) [])
    ∙ ap (λ (l : List (List ℕ)). l ++ map f (cond (is_due n) (n ∷ []) []))
    (same_along f g is_due 0 n (λ p lt. ap (λ (l : List ℕ). point_of p (short_advance P l w)) (take-append-le p list (c ∷ []) (omega arith))))
    ∙ ap (λ (l : List (List ℕ)). map g old ++ l)
    (chosen f (is_due n) n ∙ ap (λ (l : List ℕ). cond (is_due n) (point_of n (short_advance P l w) ∷ []) []) (take_at list (c ∷ []) n refl))

point_is : (number entries : ℕ) (own other : CoreState) (m : MemoryContents) (h : List Entry) → length h ≡ entries
    → point_beside number entries own other m ≡ point_of (own.count + other.count) (beside number own other (line_at m h))
point_is zero entries own other m h e = ap (λ (n : ℕ). point_beside 0 n own other m) (sym e)
point_is (suc c) entries own other m h e = ap (λ (n : ℕ). point_beside (suc c) n own other m) (sym e)

pub adds_none : (code : ℕ → ℕ) (number : ℕ) (own other : CoreState) (m : MemoryContents) (entries : ℕ) (old : List (List ℕ)) → Adds code number own other m entries 0 old old
adds_none code number own other m entries old h list w size world counted is =
    is ∙ ap (points_along (processor code) w) (sym (append-nil list))

-- the checkpoint that is due before one turn more
pub adds_more : (code : ℕ → ℕ) (number : ℕ) (before other now : CoreState) (m : MemoryContents) (entries turns : ℕ) (old mid new : List (List ℕ))
    → Went code number before other now turns → Adds code number before other m entries turns old mid → new ≡ mid ++ due_beside number entries now other m
    → Adds code number before other m entries (turns + 1) old new
adds_more code number before other now m entries turns old mid new went adds grown h list w size world counted is =
    let P = processor code in
    let l = list ++ replicate turns number in
    let n : now.count + other.count ≡ length l =
    omega (arith, went.count_is, counted, length-append list (replicate turns number), length-replicate turns number) in
    let here : beside number now other (line_at m h) ≡ short_advance P l w =
    went.leads (line_at m h) ∙ ap (short_advance P (replicate turns number)) world ∙ sym (advance_append P list (replicate turns number) w) in
    let point : point_beside number entries now other m ≡ point_of (length l) (short_advance P l w) =
    point_is number entries now other m h size ∙ ap (λ (p : ℕ). point_of p (beside number now other (line_at m h))) n ∙ ap (point_of (length l)) here in
    grown ∙ ap (λ (x : List (List ℕ)). x ++ due_beside number entries now other m) (adds h list w size world counted is)
    ∙ ap (λ (p : ℕ). points_along P w l ++ cond (is_due p) (point_beside number entries now other m ∷ []) []) n
    ∙ ap (λ (x : List ℕ). points_along P w l ++ cond (is_due (length l)) (x ∷ []) []) point
    ∙ sym (points_push P w l number)
    ∙ ap (points_along P w) (append_assoc list (replicate turns number) (number ∷ []) ∙ ap (λ (x : List ℕ). list ++ x) (replicate_more turns number))
