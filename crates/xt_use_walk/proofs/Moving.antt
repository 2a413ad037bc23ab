-- The bytes after each thing that a step may do to the frames of a core.
use Rattle.std.proofs.Common.{◌≡◌, ℕ, ◌-◌, ◌*◌, ◌<◌, ◌≤◌, ◌^◌, Bool, true, false, ◌||◌, Option, List, [], ◌∷◌, length, refl, sym, ◌∙◌, ap, subst, arith}
use Rattle.std.proofs.lemmas.Bool.{true≢false, or_from}
use Rattle.xt_map.specs.Touching.{touches}
use Rattle.xt_frames.specs.Frames.{Frame, FrameState, value_or_zero}
use Rattle.xt_frames.specs.SaveAreas.{Range, areas, before, covers_byte, is_live, sp_of}
use Rattle.xt_frames.specs.Stacks.{Stack}
use Rattle.xt_frames.proofs.Stacked.{chain_top}
use Rattle.xt_discipline.specs.declared.bytes.Change.TheVariants.{Enters, Leaves}
use Rattle.xt_discipline.specs.declared.side.Areas.{Areas}
use Rattle.xt_discipline.specs.ByteMarks.{AreChanged, first, is_marked, opened_at}
use Rattle.xt_discipline.specs.Sides.{IsNewestCall, in_areas}
use Rattle.xt_discipline.proofs.Lives.{called, live_more, opened_apart, opened_inside, touches_below, touches_in}
use Rattle.xt_discipline.proofs.Marks.{touches_none}
use Rattle.xt_discipline.proofs.Moved.{marked_in}
use Rattle.xt_uses.specs.UseParts.{Calls, Stands, UseMoves}
use Rattle.xt_uses.specs.UseParts as moves
use Rattle.xt_use_walk.specs.declared.bytes.ByteMasks.{ByteMasks}
use Rattle.xt_use_walk.specs.declared.side.Bytes.{Bytes}
use Rattle.xt_use_walk.specs.MaskedBytes.{AreFull, AreMasks, AreShifted, mask_at, without}
use Rattle.xt_use_walk.specs.Sides.{IsFollowed}
use Rattle.xt_use_walk.proofs.Following.{knows_follows, or_turned, tells_enters, tells_leaves}

left : (x y : Bool) → x ≡ true → (x || y) ≡ true
left true y e = refl
left false y e = absurd (true≢false (sym e))

right : (x y : Bool) → y ≡ true → (x || y) ≡ true
right true y e = refl
right false y e = e

either_true : (x y z : Bool) → (x || y) ≡ true → (y ≡ true → z ≡ true) → (z || x) ≡ true
either_true true y true e f = refl
either_true true y false e f = refl
either_true false y z e f = left z false (f e)

-- ---- one frame more
pub follows_enter : (core : ℕ) (r : Range) (g u : FrameState) (x : Areas) (old new : Bytes) → UseMoves g u → first ≤ r.lo → r.hi ≤ 2 ^ 30 → Stack r.lo r.hi u.seen u.frames → length g.frames < length u.frames → IsNewestCall x r.hi u
    → AreFull old → AreFull new → AreChanged (Enters core) (in_areas x) old.marks.items new.marks.items → AreMasks new.masks (without (in_areas x) (mask_at old.masks)) → IsFollowed core r g u old new
follows_enter core r g u x old new (Stands e) low high ku more c full full_new d are others masks k = absurd (let l = ap (λ (fs : List Frame). length fs) e in omega (arith, l, more))
follows_enter core r g u x old new (Calls f e s) low high ku more c full full_new d are others masks k =
    let sp = value_or_zero u.seen 1 in
    let stack : Stack r.lo r.hi u.seen (f ∷ g.frames) = subst (λ (fs : List Frame). Stack r.lo r.hi u.seen fs) e ku in
    let is : (a : ℕ) → in_areas x a ≡ opened_at r.hi sp f g.frames a = c.bytes f g.frames e in
    let grown : (a : ℕ) → is_live r u a ≡ (in_areas x a || is_live r g a) = λ a.
    ap (λ (fs : List Frame). covers_byte (areas r.hi sp 1 fs) a) e ∙ (live_more r.hi sp f g.frames a
    ∙ (ap (λ (n : ℕ). opened_at r.hi sp f g.frames a || covers_byte (areas r.hi n 1 g.frames) a) s ∙ ap (λ (b : Bool). b || is_live r g a) (sym (is a)))) in
    let inside : (a : ℕ) → in_areas x a ≡ true → is_marked old.marks.items a ≡ true = λ a t.
    marked_in old.marks.items r.lo r.hi a full.marks low high (opened_inside r.lo r.hi u.seen f g.frames a stack (sym (is a) ∙ t)) in
    knows_follows core old new (is_live r g) (is_live r u) others (in_areas x) masks k full_new
    (tells_enters core old.marks.items new.marks.items (is_live r g) (is_live r u) others (in_areas x) k.live d inside grown)
    are
    (λ a t. grown a ∙ left (in_areas x a) (is_live r g a) t)
    (λ a n. or_turned (is_live r g a) (in_areas x a) ∙ (sym (grown a) ∙ n))
follows_enter core r g u x old new (moves.Leaves f e s) low high ku more c full full_new d are others masks k = absurd (let l = ap (λ (fs : List Frame). length fs) e in omega (arith, l, more))

-- ---- one frame less
pub follows_leave : (core : ℕ) (r : Range) (g u : FrameState) (x : Areas) (old new : Bytes) → UseMoves g u → first ≤ r.lo → r.hi ≤ 2 ^ 30 → Stack r.lo r.hi g.seen g.frames → length u.frames < length g.frames → IsNewestCall x r.hi g
    → AreFull old → AreFull new → AreChanged (Leaves core) (in_areas x) old.marks.items new.marks.items → new.masks ≡ old.masks → IsFollowed core r g u old new
follows_leave core r g u x old new (Stands e) low high kg less c full full_new d same others masks k = absurd (let l = ap (λ (fs : List Frame). length fs) e in omega (arith, l, less))
follows_leave core r g u x old new (Calls f e s) low high kg less c full full_new d same others masks k = absurd (let l = ap (λ (fs : List Frame). length fs) e in omega (arith, l, less))
follows_leave core r g u x old new (moves.Leaves f e s) low high kg less c full full_new d same others masks k =
    let sp = value_or_zero g.seen 1 in
    let stack : Stack r.lo r.hi g.seen (f ∷ u.frames) = subst (λ (fs : List Frame). Stack r.lo r.hi g.seen fs) e kg in
    let is : (a : ℕ) → in_areas x a ≡ opened_at r.hi sp f u.frames a = c.bytes f u.frames e in
    let fewer : (a : ℕ) → is_live r g a ≡ (in_areas x a || is_live r u a) = λ a.
    ap (λ (fs : List Frame). covers_byte (areas r.hi sp 1 fs) a) e ∙ (live_more r.hi sp f u.frames a
    ∙ (ap (λ (n : ℕ). opened_at r.hi sp f u.frames a || covers_byte (areas r.hi n 1 u.frames) a) (sym s) ∙ ap (λ (b : Bool). b || is_live r u a) (sym (is a)))) in
    let inside : (a : ℕ) → in_areas x a ≡ true → is_marked old.marks.items a ≡ true = λ a t.
    marked_in old.marks.items r.lo r.hi a full.marks low high (opened_inside r.lo r.hi g.seen f u.frames a stack (sym (is a) ∙ t)) in
    let apart : (a : ℕ) → in_areas x a ≡ true → is_live r u a ≡ false = λ a t.
    ap (λ (n : ℕ). covers_byte (areas r.hi n 1 u.frames) a) s ∙ opened_apart r.lo r.hi g.seen f u.frames a stack (sym (is a) ∙ t) in
    knows_follows core old new (is_live r g) (is_live r u) others (λ a. false) masks k full_new
    (tells_leaves core old.marks.items new.marks.items (is_live r g) (is_live r u) others (in_areas x) k.live d inside apart fewer)
    (λ a h. ap (λ (m : ByteMasks). mask_at m a) same)
    (λ a t. absurd (true≢false (sym t)))
    (λ a n. left (is_live r g a) false (fewer a ∙ right (in_areas x a) (is_live r u a) n))

-- ---- the frames stand, and so does what is live
pub follows_same : (core : ℕ) (r : Range) (g u : FrameState) (old : Bytes) → ((a : ℕ) → is_live r u a ≡ is_live r g a) → IsFollowed core r g u old old
follows_same core r g u old same others masks k =
    knows_follows core old old (is_live r g) (is_live r u) others (λ a. false) masks k k.full
    (record { own_is = λ a. k.live.own_is a ∙ sym (same a); others_is = k.live.others_is })
    (λ a h. refl)
    (λ a t. absurd (true≢false (sym t)))
    (λ a n. left (is_live r g a) false (sym (same a) ∙ n))

-- the opening frame has no save area that moves
same_low : (hi s t : ℕ) (frames : List Frame) (a : ℕ) → (0 < length frames → s - 16 ≡ t - 16) → covers_byte (areas hi s 1 frames) a ≡ covers_byte (areas hi t 1 frames) a
same_low hi s t [] a low = refl
same_low hi s t (f ∷ fs) a low = ap (λ (n : ℕ). touches n 16 a || (touches (sp_of f - 16 * 1) (16 * (1 - 1)) a || covers_byte (areas hi (sp_of f) f.by fs) a)) (low (omega arith))

pub stands_same : (r : Range) (g u : FrameState) → u.frames ≡ g.frames → (0 < length g.frames → value_or_zero u.seen 1 - 16 ≡ value_or_zero g.seen 1 - 16) → (a : ℕ) → is_live r u a ≡ is_live r g a
stands_same r g u e low a = ap (λ (fs : List Frame). covers_byte (areas r.hi (value_or_zero u.seen 1) 1 fs) a) e ∙ same_low r.hi (value_or_zero u.seen 1) (value_or_zero g.seen 1) g.frames a low

-- nobody has called, before or after
pub follows_alone : (core : ℕ) (r : Range) (g u : FrameState) (old : Bytes) → UseMoves g u → length g.frames ≡ 0 → length u.frames ≤ length g.frames → IsFollowed core r g u old old
follows_alone core r g u old (Stands e) none few = follows_same core r g u old (stands_same r g u e (λ some. absurd (omega (arith, none, some))))
follows_alone core r g u old (Calls f e s) none few = absurd (let l = ap (λ (fs : List Frame). length fs) e in omega (arith, l, none, few))
follows_alone core r g u old (moves.Leaves f e s) none few = absurd (let l = ap (λ (fs : List Frame). length fs) e in omega (arith, l, none))

-- the newest frame's 16 bytes are where they were
pub follows_still : (core : ℕ) (r : Range) (g u : FrameState) (x : Areas) (old : Bytes) → UseMoves g u → length u.frames ≡ length g.frames → IsNewestCall x r.hi g → value_or_zero u.seen 1 - 16 ≡ x.low → IsFollowed core r g u old old
follows_still core r g u x old (Stands e) as_many c low = follows_same core r g u old (stands_same r g u e (λ some. low ∙ c.low))
follows_still core r g u x old (Calls f e s) as_many c low = absurd (let l = ap (λ (fs : List Frame). length fs) e in omega (arith, l, as_many))
follows_still core r g u x old (moves.Leaves f e s) as_many c low = absurd (let l = ap (λ (fs : List Frame). length fs) e in omega (arith, l, as_many))

-- ---- they lie elsewhere
-- what is live beside them
abbrev rest : ℕ → Frame → List Frame → ℕ → Bool
rest hi f fs a = touches (sp_of f - 16 * 1) (16 * (1 - 1)) a || covers_byte (areas hi (sp_of f) f.by fs) a

rest_apart : (lo hi : ℕ) (seen : List (Option ℕ)) (f : Frame) (fs : List Frame) (a : ℕ) → Stack lo hi seen (f ∷ fs) → touches (value_or_zero seen 1 - 16) 16 a ≡ true → rest hi f fs a ≡ false
rest_apart lo hi seen f fs a k t =
    let i = touches_in (value_or_zero seen 1 - 16) 16 a t in
    let up = i.1 in
    let l = k.chain.0 in
    let low = l.low in
    let under = l.under in
    let large = l.large in
    or_from _ _ (touches_none (sp_of f - 16) a)
    (called hi (sp_of f) f.by fs a
    ∙ or_from _ _ (touches_below (before hi fs - 16 * f.by) (16 * (f.by - 1)) a (omega (arith, up, low, under, large)))
    (opened_apart lo hi seen f fs a k (left (touches (value_or_zero seen 1 - 16) 16 a) (touches (before hi fs - 16 * f.by) (16 * (f.by - 1)) a) t)))

sp_inside : (lo hi : ℕ) (seen : List (Option ℕ)) (frames : List Frame) (a : ℕ) → Stack lo hi seen frames → touches (value_or_zero seen 1 - 16) 16 a ≡ true → (lo ≤ a) × (a < hi)
sp_inside lo hi seen frames a k t =
    let i = touches_in (value_or_zero seen 1 - 16) 16 a t in
    let l = i.0 in
    let h = i.1 in
    let top = chain_top lo hi (value_or_zero seen 1) frames k.range k.chain in
    let most = top.0 in
    let least = top.1 in
    (omega (arith, l, least), omega (arith, h, most, least))

shifted : (core : ℕ) (r : Range) (g u : FrameState) (f : Frame) (fs : List Frame) (from to : ℕ) (old new : Bytes) → u.frames ≡ f ∷ fs → g.frames ≡ f ∷ fs → first ≤ r.lo → r.hi ≤ 2 ^ 30 → Stack r.lo r.hi g.seen g.frames → Stack r.lo r.hi u.seen u.frames
    → from ≡ value_or_zero g.seen 1 - 16 → to ≡ value_or_zero u.seen 1 - 16 → AreFull old → AreFull new → AreShifted core from to old.marks.items new.marks.items → AreMasks new.masks (without (touches to 16) (mask_at old.masks)) → IsFollowed core r g u old new
shifted core r g u f fs from to old new eu eg low high kg ku was is full full_new d are others masks k =
    let own : ℕ → Bool = rest r.hi f fs in
    let before_is : (a : ℕ) → is_live r g a ≡ (touches from 16 a || own a) = λ a.
    ap (λ (l : List Frame). covers_byte (areas r.hi (value_or_zero g.seen 1) 1 l) a) eg ∙ ap (λ (n : ℕ). touches n 16 a || own a) (sym was) in
    let after_is : (a : ℕ) → is_live r u a ≡ (touches to 16 a || own a) = λ a.
    ap (λ (l : List Frame). covers_byte (areas r.hi (value_or_zero u.seen 1) 1 l) a) eu ∙ ap (λ (n : ℕ). touches n 16 a || own a) (sym is) in
    let stack : Stack r.lo r.hi g.seen (f ∷ fs) = subst (λ (l : List Frame). Stack r.lo r.hi g.seen l) eg kg in
    let there : (a : ℕ) → touches from 16 a ≡ true → touches (value_or_zero g.seen 1 - 16) 16 a ≡ true = λ a t. ap (λ (n : ℕ). touches n 16 a) (sym was) ∙ t in
    let here : (a : ℕ) → touches to 16 a ≡ true → touches (value_or_zero u.seen 1 - 16) 16 a ≡ true = λ a t. ap (λ (n : ℕ). touches n 16 a) (sym is) ∙ t in
    let gone = tells_leaves core old.marks.items d.mid (is_live r g) own others (touches from 16) k.live d.leaves
    (λ a t. marked_in old.marks.items r.lo r.hi a full.marks low high (sp_inside r.lo r.hi g.seen g.frames a kg (there a t)))
    (λ a t. rest_apart r.lo r.hi g.seen f fs a stack (there a t)) before_is in
    let come = tells_enters core d.mid new.marks.items own (is_live r u) others (touches to 16) gone d.enters
    (λ a t. marked_in d.mid r.lo r.hi a (d.len ∙ full.marks) low high (sp_inside r.lo r.hi u.seen u.frames a ku (here a t))) after_is in
    knows_follows core old new (is_live r g) (is_live r u) others (touches to 16) masks k full_new come are
    (λ a t. after_is a ∙ left (touches to 16 a) (own a) t)
    (λ a n. either_true (touches to 16 a) (own a) (is_live r g a) (sym (after_is a) ∙ n) (λ t. before_is a ∙ right (touches from 16 a) (own a) t))

stands_shifted : (core : ℕ) (r : Range) (g u : FrameState) (frames : List Frame) (x : Areas) (to : ℕ) (old new : Bytes) → u.frames ≡ frames → g.frames ≡ frames → 0 < length frames → first ≤ r.lo → r.hi ≤ 2 ^ 30 → Stack r.lo r.hi g.seen g.frames → Stack r.lo r.hi u.seen u.frames
    → IsNewestCall x r.hi g → to ≡ value_or_zero u.seen 1 - 16 → AreFull old → AreFull new → AreShifted core x.low to old.marks.items new.marks.items → AreMasks new.masks (without (touches to 16) (mask_at old.masks)) → IsFollowed core r g u old new
stands_shifted core r g u [] x to old new eu eg some low high kg ku c is full full_new d are = absurd (omega (arith, some))
stands_shifted core r g u (f ∷ fs) x to old new eu eg some low high kg ku c is full full_new d are = shifted core r g u f fs x.low to old new eu eg low high kg ku c.low is full full_new d are

pub follows_shift : (core : ℕ) (r : Range) (g u : FrameState) (x : Areas) (to : ℕ) (old new : Bytes) → UseMoves g u → first ≤ r.lo → r.hi ≤ 2 ^ 30 → Stack r.lo r.hi g.seen g.frames → Stack r.lo r.hi u.seen u.frames → length u.frames ≡ length g.frames
    → IsNewestCall x r.hi g → to ≡ value_or_zero u.seen 1 - 16 → AreFull old → AreFull new → AreShifted core x.low to old.marks.items new.marks.items → AreMasks new.masks (without (touches to 16) (mask_at old.masks)) → IsFollowed core r g u old new
follows_shift core r g u x to old new (Stands e) low high kg ku as_many c is full full_new d are = stands_shifted core r g u g.frames x to old new e refl c.called low high kg ku c is full full_new d are
follows_shift core r g u x to old new (Calls f e s) low high kg ku as_many c is full full_new d are = absurd (let l = ap (λ (fs : List Frame). length fs) e in omega (arith, l, as_many))
follows_shift core r g u x to old new (moves.Leaves f e s) low high kg ku as_many c is full full_new d are = absurd (let l = ap (λ (fs : List Frame). length fs) e in omega (arith, l, as_many))
