-- The turns that are left after a list, where no records are kept.
use Rattle.std.proofs.Common.{◌≡◌, ℕ, zero, suc, Bool, true, nat_lt, ◌+◌, ◌-◌, ◌<◌, ◌≤◌, List, [], ◌∷◌, ◌++◌, length, take, get_or, replicate, refl, sym, ap, ◌∙◌, arith}
use Rattle.std.proofs.lemmas.Bool.{ltb-true}
use Rattle.std.proofs.lemmas.List.{take_more}
use Rattle.xt_trace.specs.Chip.{Chip}
use Rattle.xt_trace.specs.Worlds.{Line, World, advance, rest_of, finished_world, answer}
use Rattle.xt_trace.specs.Short.{ShortCore, ShortWorld, short_world, short_line, short_given, short_give, short_advance}
use Rattle.xt_trace.proofs.Ends.{left_at_most}
use Rattle.xt_trace.proofs.Short.{short_world_advanced}

advance_append : {S : Type 0} (P : Chip S) (xs ys : List ℕ) (w : ShortWorld S) → short_advance P (xs ++ ys) w ≡ short_advance P ys (short_advance P xs w)
advance_append P [] ys w = refl
advance_append P (x ∷ xs) ys w = advance_append P xs ys (short_give P x w)

-- one number more of a list
pub advance_more : {S : Type 0} (P : Chip S) (list : List ℕ) (i d : ℕ) (w v : ShortWorld S) → i < length list → v ≡ short_advance P (take i list) w
    → short_give P (get_or list i d) v ≡ short_advance P (take (i + 1) list) w
advance_more {S = S} P list i d w v lt e =
    ap (short_give P (get_or list i d)) e ∙ sym (advance_append P (take i list) (get_or list i d ∷ []) w) ∙ ap (λ (l : List ℕ). short_advance P l w) (sym (take_more list i d lt))

-- a test that is true
pub is_some : (n : ℕ) (b : Bool) → b ≡ true → b ≡ nat_lt 0 n → 0 < n
is_some n b e f = ltb-true 0 n (sym f ∙ e)

abbrev pub side : {S : Type 0} → ℕ → ShortWorld S → ShortCore S
side zero w = w.core0
side (suc c) w = w.core1

left_given : {S : Type 0} (P : Chip S) (k : ShortCore S) (b : Line) (l n : ℕ) → k.left ≡ l → l ≤ suc n → (short_given P l k b).left ≤ n
left_given P k b zero n e h = omega arith
left_given P k b (suc l) n e h = left_at_most (P.turn k.state (answer (P.demand k.state) b.memory)).0 l n (omega arith)

left_after : {S : Type 0} (P : Chip S) (c n : ℕ) (w : ShortWorld S) → (side c w).left ≤ suc n → (side c (short_give P c w)).left ≤ n
left_after P zero n w h = left_given P w.core0 w.line w.core0.left n refl h
left_after P (suc c) n w h = left_given P w.core1 w.line w.core1.left n refl h

-- a core that has ended makes no turn
idle : {S : Type 0} (P : Chip S) (c : ℕ) (w : ShortWorld S) → (side c w).left ≡ 0 → short_give P c w ≡ w
idle {S = S} P zero w e =
    let at : ℕ → ShortWorld S = λ l. record { line = short_line P 0 l w.core0.state w.line; core0 = short_given P l w.core0 w.line; core1 = w.core1 } in ap at e
idle {S = S} P (suc c) w e =
    let at : ℕ → ShortWorld S = λ l. record { line = short_line P 1 l w.core1.state w.line; core0 = w.core0; core1 = short_given P l w.core1 w.line } in ap at e

one_more : {S : Type 0} (P : Chip S) (c n : ℕ) (w : ShortWorld S) → (side c w).left ≤ n → short_advance P (replicate (suc n) c) w ≡ short_advance P (replicate n c) w
one_more P c zero w h = idle P c w (omega arith)
one_more P c (suc n) w h = one_more P c n (short_give P c w) (left_after P c n w h)

some_more : {S : Type 0} (P : Chip S) (c d n : ℕ) (w : ShortWorld S) → (side c w).left ≤ n → short_advance P (replicate (n + d) c) w ≡ short_advance P (replicate n c) w
some_more P c zero n w h = ap (λ (k : ℕ). short_advance P (replicate k c) w) (let e : n + 0 ≡ n = omega arith in e)
some_more P c (suc d) n w h =
    ap (λ (k : ℕ). short_advance P (replicate k c) w) (let e : n + suc d ≡ suc (n + d) = omega arith in e)
    ∙ one_more P c (n + d) w (omega arith) ∙ some_more P c d n w h

-- as many turns as are left, or more, are the turns that are left
turns_left : {S : Type 0} (P : Chip S) (c n : ℕ) (w : ShortWorld S) → (side c w).left ≤ n → short_advance P (replicate n c) w ≡ short_advance P (replicate (side c w).left c) w
turns_left P c n w h =
    ap (λ (k : ℕ). short_advance P (replicate k c) w) (let e : n ≡ (side c w).left + (n - (side c w).left) = omega arith in e)
    ∙ some_more P c (n - (side c w).left) (side c w).left w (omega arith)

-- after one turn of them the rest comes to the same
pub rest_after : {S : Type 0} (P : Chip S) (c : ℕ) (w v : ShortWorld S) → 0 < (side c w).left → v ≡ short_give P c w
    → short_advance P (replicate (side c v).left c) v ≡ short_advance P (replicate (side c w).left c) w
rest_after {S = S} P c w v some e =
    let n = (side c w).left - 1 in
    ap (λ (u : ShortWorld S). short_advance P (replicate (side c u).left c) u) e
    ∙ sym (turns_left P c n (short_give P c w) (left_after P c n w (omega arith)))
    ∙ ap (λ (k : ℕ). short_advance P (replicate k c) w) (let is : suc n ≡ (side c w).left = omega arith in is)

other_kept : {S : Type 0} (P : Chip S) (n : ℕ) (w : ShortWorld S) → (short_advance P (replicate n 0) w).core1 ≡ w.core1
other_kept P zero w = refl
other_kept P (suc n) w = other_kept P n (short_give P 0 w)

-- a list, then core 0's rest, then core 1's
pub list_finished : {S : Type 0} (P : Chip S) (list : List ℕ) (w : World S) (a b c : ShortWorld S) → a ≡ short_advance P list (short_world w)
    → b ≡ short_advance P (replicate a.core0.left 0) a → c ≡ short_advance P (replicate b.core1.left 1) b → c ≡ short_world (finished_world P (advance P list w))
list_finished {S = S} P list w a b c is_a is_b is_c =
    let v = advance P list w in
    let half : ShortWorld S → ShortWorld S = λ u. short_advance P (replicate u.core0.left 0) u in
    let whole : ShortWorld S → ShortWorld S = λ u. short_advance P (replicate u.core1.left 1) u in
    is_c ∙ ap whole is_b ∙ ap (λ (u : ShortWorld S). whole (half u)) (is_a ∙ sym (short_world_advanced P list w))
    ∙ ap (λ (k : ShortCore S). short_advance P (replicate k.left 1) (half (short_world v))) (other_kept P v.core0.left (short_world v))
    ∙ sym (short_world_advanced P (rest_of v) v ∙ advance_append P (replicate v.core0.left 0) (replicate v.core1.left 1) (short_world v))
