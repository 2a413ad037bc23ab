-- Where no line leaves its region, a segment lies in the region of its start from there to its padded end.
use Rattle.std.proofs.Common.{◌≡◌, ℕ, ◌+◌, ◌-◌, ◌<◌, ◌≤◌, Bool, true, false, ◌&&◌, ◌||◌, cond, List, [], ◌∷◌, ◌++◌, length, Some, None, refl, sym, ap, ◌∙◌, subst, ◌⊎◌, inl, inr, ⊎_elim, arith, add-zero, zero-add, length-append}
use Rattle.std.specs.Prelude.{nat_le, nat_lt, not}
use Rattle.std.specs.List.{list_any}
use Rattle.std.proofs.lemmas.Bool.{and_parts, and_from, cases_Bool, cases_lt, cond-true, cond-false, leb-true, le-leb, lt-ltb, or_left, or_right}
use Rattle.xt_lex.specs.declared.fault.AsmPlace.{AsmPlace}
use Rattle.xt_map.specs.Placing.{is_device}
use Rattle.xt_map.specs.Regions.{Range, holds, ranges}
use Rattle.xt_parse.specs.declared.line.Line.{Line}
use Rattle.xt_parse.specs.declared.statement.Statement.{Statement}
use Rattle.xt_parse.specs.declared.statement.Statement.TheVariants.{Empty, Seg}
use Rattle.xt_layout.specs.declared.word.PoolWord.{PoolWord}
use Rattle.xt_layout.specs.Findings.{fails}
use Rattle.xt_layout.specs.Pools.{is_segment}
use Rattle.xt_layout.specs.Faults.{is_empty, is_in_place, is_last, is_outside, leaves, lies_in, within}
use Rattle.xt_layout.specs.Sizes.{padding, pool_size, size}
use Rattle.xt_layout.specs.Spans.{segment_end, span}
use Rattle.xt_layout.specs.Spots.{begins, behind, passes, spot, spot_at}
use Rattle.xt_layout.proofs.Reaching.{behind_more}
use Rattle.xt_asm.proofs.WellFormedLines.{FindsNone, outside}
use Rattle.xt_asm.proofs.Clear.{not_failed}

-- ---- within one range

cond_step : (c x y x' y' : Bool) → (c ≡ true → x ≡ true → x' ≡ true) → (y ≡ true → y' ≡ true) → cond c x y ≡ true → cond c x' y' ≡ true
cond_step true x y x' y' f g h = f refl h
cond_step false x y x' y' f g h = g h

-- a range that holds the start and the end of some bytes holds all from the start to an earlier end
numbers_within : (u : Bool) (first last s a e b : ℕ) → b ≤ e → (nat_le first s && nat_le s last) ≡ true → (u && (nat_le first a && nat_le e (last + 1))) ≡ true →
    (u && (nat_le first s && nat_le b (last + 1))) ≡ true
numbers_within u first last s a e b le held inside =
    let (from, upto) = and_parts u (nat_le first a && nat_le e (last + 1)) inside in
    let (_, end) = and_parts (nat_le first a) (nat_le e (last + 1)) upto in
    let (start, _) = and_parts (nat_le first s) (nat_le s last) held in
    let e_in : e ≤ last + 1 = leb-true e (last + 1) end in
    and_from u (nat_le first s && nat_le b (last + 1)) from (and_from (nat_le first s) (nat_le b (last + 1)) start (le-leb b (last + 1) (omega arith)))

lies_from_start : (rs : List Range) (s a e b : ℕ) → b ≤ e → lies_in rs s (span a e) ≡ true → lies_in rs s (span s b) ≡ true
lies_from_start [] s a e b le h = h
lies_from_start (r ∷ rs) s a e b le h =
    cond_step (holds r s) (not (is_device r.region) && within r.first r.last (span a e)) (lies_in rs s (span a e)) (not (is_device r.region) && within r.first r.last (span s b)) (lies_in rs s (span s b))
    (λ held inside. numbers_within (not (is_device r.region)) r.first r.last s a e b le held inside)
    (λ later. lies_from_start rs s a e b le later) h

pub in_place_from_start : (s a e b : ℕ) → b ≤ e → is_in_place s (span a e) ≡ true → is_in_place s (span s b) ≡ true
unfolding is_in_place
in_place_from_start s a e b le h = lies_from_start ranges s a e b le h

cond_any : (c x y z w : Bool) → (x ≡ true → z ≡ true) → (y ≡ true → w ≡ true) → cond c x y ≡ true → (z || w) ≡ true
cond_any true x y z w f g h = or_left z w (f h)
cond_any false x y z w f g h = or_right z w (g h)

any_range : (p : Range → Bool) (rs : List Range) (s a e : ℕ) → ((r : Range) → (not (is_device r.region) && within r.first r.last (span a e)) ≡ true → p r ≡ true) →
    lies_in rs s (span a e) ≡ true → list_any p rs ≡ true
any_range p [] s a e each h = h
any_range p (r ∷ rs) s a e each h =
    cond_any (holds r s) (not (is_device r.region) && within r.first r.last (span a e)) (lies_in rs s (span a e)) (p r) (list_any p rs) (each r) (λ later. any_range p rs s a e each later) h

pub some_range : (p : Range → Bool) (s a e : ℕ) → ((r : Range) → (not (is_device r.region) && (nat_le r.first a && nat_le e (r.last + 1))) ≡ true → p r ≡ true) →
    is_in_place s (span a e) ≡ true → list_any p ranges ≡ true
unfolding is_in_place
some_range p s a e each h = any_range p ranges s a e each h

-- ---- a segment so far

-- a segment has no bytes up to this end, or they lie in the region of its start
abbrev pub InPlace : ℕ → ℕ → Type 0
InPlace s e = (e ≡ s) ⊎ (is_in_place s (span s e) ≡ true)

less_in_place : (s e b : ℕ) → s ≤ b → b ≤ e → InPlace s e → InPlace s b
less_in_place s e b ge le here =
    ⊎_elim (λ (none : e ≡ s). inl (omega arith)) (λ (one : is_in_place s (span s e) ≡ true). inr (in_place_from_start s s e b le one)) here

stays : (a b : Bool) → (a && not b) ≡ false → a ≡ true → b ≡ true
stays true true h k = refl
stays true false h k = absurd cc
stays false b h k = absurd cc

further : (s a e : ℕ) (place : AsmPlace) → a ≤ e → InPlace s a → fails (leaves s (span a e)) place ≡ None → InPlace s e
further s a e place le here none =
    ⊎_elim
    (λ (lt : a < e). inr (in_place_from_start s a e e (omega arith)
    (stays (nat_lt a e) (is_in_place s (span a e)) (not_failed (nat_lt a e && not (is_in_place s (span a e))) place none) (lt-ltb a e lt))))
    (λ (ge : e ≤ a). let same : a ≡ e = omega arith in subst (InPlace s) same here) (cases_lt a e)

-- the end of a segment with its padding
abbrev pub padded_end : ℕ → ℕ → ℕ
padded_end s e = e + padding 4 (e - s)

-- n bytes more at the end
more_bytes : (s a n : ℕ) (empty last : Bool) (place : AsmPlace) → s ≤ a → InPlace s a → (empty ≡ true → n ≡ 0) → ((empty && last) ≡ true → InPlace s (padded_end s a)) →
    fails (leaves s (span a (cond (not empty && last) (padded_end s (a + n)) (a + n)))) place ≡ None → InPlace s (a + n) × (last ≡ true → InPlace s (padded_end s (a + n)))
more_bytes s a n true last place ge here no_size before none =
    let same : a ≡ a + n = omega (arith, no_size refl) in
    (subst (InPlace s) same here, λ is. subst (λ e. InPlace s (padded_end s e)) same (before is))
more_bytes s a n false true place ge here no_size before none =
    let whole : InPlace s (padded_end s (a + n)) = further s a (padded_end s (a + n)) place (omega arith) here none in
    (less_in_place s (padded_end s (a + n)) (a + n) (omega arith) (omega arith) whole, λ _. whole)
more_bytes s a n false false place ge here no_size before none = (further s a (a + n) place (omega arith) here none, λ h. absurd cc)

-- ---- where lines stand

empty_size : (pool a : ℕ) (s : Statement) → is_empty s ≡ true → size pool a s ≡ 0
unfolding size
empty_size pool a Empty h = refl
empty_size pool a _ h = absurd cc

begins_same : (s a : ℕ) (st : Statement) → is_segment st ≡ false → begins (Some (spot s a)) st ≡ Some (spot s a)
begins_same s a (Seg start) h = absurd cc
begins_same s a _ h = refl

pub stands_at : (words : List PoolWord) (before : List Line) (l : Line) (s a : ℕ) → behind words 0 None before ≡ Some (spot s a) → is_segment l.statement ≡ false → spot_at words before l ≡ Some (spot s a)
stands_at words before l s a at no_seg = ap (λ p. begins p l.statement) at ∙ begins_same s a l.statement no_seg

behind_line : (words : List PoolWord) (before : List Line) (l : Line) → behind words 0 None (before ++ l ∷ []) ≡ passes (pool_size words (length before)) (behind words 0 None before) l.statement
behind_line words before l = behind_more words 0 None before l ∙ ap (λ k. passes (pool_size words k) (behind words 0 None before) l.statement) (zero-add (length before))

passes_same : (pool s a : ℕ) (st : Statement) → is_segment st ≡ false → passes pool (Some (spot s a)) st ≡ Some (spot s (a + size pool a st))
passes_same pool s a (Seg start) h = absurd cc
passes_same pool s a _ h = refl

pub behind_same : (words : List PoolWord) (before : List Line) (l : Line) (s a : ℕ) → behind words 0 None before ≡ Some (spot s a) → is_segment l.statement ≡ false →
    behind words 0 None (before ++ l ∷ []) ≡ Some (spot s (a + size (pool_size words (length before)) a l.statement))
behind_same words before l s a at no_seg = behind_line words before l ∙ ap (λ p. passes (pool_size words (length before)) p l.statement) at ∙ passes_same (pool_size words (length before)) s a l.statement no_seg

seg_size : (pool a start : ℕ) → a + size pool a (Seg start) ≡ a
unfolding size
seg_size pool a start = add-zero a

pub behind_seg : (words : List PoolWord) (before : List Line) (l : Line) (start : ℕ) → l.statement ≡ Seg start → behind words 0 None (before ++ l ∷ []) ≡ Some (spot start start)
behind_seg words before l start is =
    behind_line words before l ∙ ap (passes (pool_size words (length before)) (behind words 0 None before)) is ∙ ap (λ a. Some (spot start a)) (seg_size (pool_size words (length before)) start start)

pub one_more : (before : List Line) (l : Line) → length (before ++ l ∷ []) ≡ length before + 1
one_more before l = length-append before (l ∷ [])

pub end_here : (words : List PoolWord) (k a : ℕ) (l : Line) (rest : List Line) → is_segment l.statement ≡ true → segment_end words k a (l ∷ rest) ≡ a
end_here words k a l rest seg = cond-true (is_segment l.statement) a (segment_end words (k + 1) (a + size (pool_size words k) a l.statement) rest) seg

pub end_later : (words : List PoolWord) (before : List Line) (a : ℕ) (l : Line) (rest : List Line) → is_segment l.statement ≡ false →
    segment_end words (length before) a (l ∷ rest) ≡ segment_end words (length (before ++ l ∷ [])) (a + size (pool_size words (length before)) a l.statement) rest
end_later words before a l rest no_seg =
    cond-false (is_segment l.statement) a (segment_end words (length before + 1) (a + size (pool_size words (length before)) a l.statement) rest) no_seg
    ∙ ap (λ k. segment_end words k (a + size (pool_size words (length before)) a l.statement) rest) (sym (one_more before l))

-- ---- the whole segment

no_other : (b x : Bool) → b ≡ false → x ≡ true → (b || x) ≡ true
no_other b x h k = or_right b x k

pub ends_in_place : (words : List PoolWord) (s : ℕ) (before rest : List Line) (a : ℕ) → behind words 0 None before ≡ Some (spot s a) → s ≤ a → InPlace s a →
    (is_last rest ≡ true → InPlace s (padded_end s a)) → FindsNone (outside words) before rest → InPlace s (padded_end s (segment_end words (length before) a rest))
ends_in_place words s before [] a at ge here last none = last refl
ends_in_place words s before (l ∷ rest) a at ge here last none =
    let pool : ℕ = pool_size words (length before) in
    let n : ℕ = size pool a l.statement in
    ⊎_elim
    (λ (seg : is_segment l.statement ≡ true).
    subst (λ e. InPlace s (padded_end s e)) (sym (end_here words (length before) a l rest seg)) (last (or_left (is_segment l.statement) (is_empty l.statement && is_last rest) seg)))
    (λ (no_seg : is_segment l.statement ≡ false).
    let found : is_outside pool (Some (spot s a)) l (is_last rest) ≡ None = ap (λ p. is_outside pool p l (is_last rest)) (sym (stands_at words before l s a at no_seg)) ∙ none.0 in
    let more = more_bytes s a n (is_empty l.statement) (is_last rest) (record { line = l.number; column = l.column; kind = 6 }) ge here (empty_size pool a l.statement)
    (λ h. last (no_other (is_segment l.statement) (is_empty l.statement && is_last rest) no_seg h)) found in
    subst (λ e. InPlace s (padded_end s e)) (sym (end_later words before a l rest no_seg))
    (ends_in_place words s (before ++ l ∷ []) rest (a + n) (behind_same words before l s a at no_seg) (omega arith) more.0 more.1 none.1)) (cases_Bool (is_segment l.statement))
