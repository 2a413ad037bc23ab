-- What is known of the bytes keeps up with the frames of a core.
use Rattle.std.proofs.Common.{◌≡◌, ℕ, zero, suc, ◌+◌, ◌-◌, ◌<◌, ◌≤◌, ◌^◌, Bool, true, false, not, ◌&&◌, ◌||◌, cond, Option, Some, List, [], ◌∷◌, length, refl, sym, ◌∙◌, ap, subst, arith}
use Rattle.std.proofs.lemmas.Bool.{true≢false, cond-true}
use Rattle.xt_map.specs.declared.access.Access.{Access}
use Rattle.xt_map.specs.Touching.{touches}
use Rattle.xt_map.proofs.Alike.{touched_at}
use Rattle.xt_frames.specs.Breaches.{touches_save_area}
use Rattle.xt_frames.specs.Frames.{Frame, FrameState, value_or_zero}
use Rattle.xt_frames.specs.Stacks.{Stack}
use Rattle.xt_frames.proofs.Stacked.{chain_top}
use Rattle.xt_discipline.specs.declared.bytes.Held.{Held}
use Rattle.xt_discipline.specs.declared.bytes.Change.TheVariants.{Enters, Leaves}
use Rattle.xt_discipline.specs.declared.side.Areas.{Areas}
use Rattle.xt_discipline.specs.ByteMarks.{Agrees, AreChanged, either, first, held_at, is_held, is_marked, opened_at, other_live, own_live}
use Rattle.xt_discipline.specs.Sides.{IsCallOf, IsNewestCall, in_areas}
use Rattle.xt_discipline.proofs.Known.{all_changed, enters_other, enters_own, leaves_other, leaves_own, return_own, saves_turned}
use Rattle.xt_discipline.proofs.Lives.{opened_inside}
use Rattle.xt_uses.specs.UseWalk.{mask_stored}
use Rattle.xt_use_walk.specs.declared.side.Bytes.{Bytes}
use Rattle.xt_use_walk.specs.MaskedBytes.{AreBytes, AreFull, AreMasks, KnowsBytes, TellsLive, is_byte, is_live_byte, mask_at, stored_over, without}
use Rattle.xt_use_walk.specs.Sides.{AreaBytes}
use Rattle.xt_use_walk.proofs.Places.{dram_byte}
use Rattle.xt_use_walk.proofs.Stores.{stored_same}

-- ---- the marks
pub tells_enters : (core : ℕ) (old new : List Held) (own own_now others test : ℕ → Bool) → TellsLive core old own others → AreChanged (Enters core) test old new → ((a : ℕ) → test a ≡ true → is_marked old a ≡ true) → ((a : ℕ) → own_now a ≡ (test a || own a)) → TellsLive core new own_now others
tells_enters core old new own own_now others test k d inside more =
    let e = all_changed (Enters core) test old new d inside in
    record {
      own_is = λ a. ap (own_live core) (e a) ∙ (enters_own core (test a) (held_at old a) ∙ (ap (λ (b : Bool). test a || b) (k.own_is a) ∙ sym (more a)));
      others_is = λ a. ap (other_live core) (e a) ∙ (enters_other core (test a) (held_at old a) ∙ k.others_is a);
    }

pub tells_leaves : (core : ℕ) (old new : List Held) (own own_now others test : ℕ → Bool) → TellsLive core old own others → AreChanged (Leaves core) test old new → ((a : ℕ) → test a ≡ true → is_marked old a ≡ true) → ((a : ℕ) → test a ≡ true → own_now a ≡ false) → ((a : ℕ) → own a ≡ (test a || own_now a)) → TellsLive core new own_now others
tells_leaves core old new own own_now others test k d inside apart less =
    let e = all_changed (Leaves core) test old new d inside in
    record {
      own_is = λ a. ap (own_live core) (e a) ∙ (leaves_own core (test a) (held_at old a) ∙ (ap (λ (b : Bool). not (test a) && b) (k.own_is a ∙ less a) ∙ return_own (test a) (own_now a) (apart a)));
      others_is = λ a. ap (other_live core) (e a) ∙ (leaves_other core (test a) (held_at old a) ∙ k.others_is a);
    }

pub or_turned : (x y : Bool) → (x || y) ≡ (y || x)
or_turned true true = refl
or_turned true false = refl
or_turned false true = refl
or_turned false false = refl

held_is : (core : ℕ) (h : Held) → is_held h ≡ (own_live core h || other_live core h)
held_is zero h = refl
held_is (suc core) h = or_turned h.live0 h.live1

pub live_byte : (core : ℕ) (marks : List Held) (own others : ℕ → Bool) (a : ℕ) → TellsLive core marks own others → is_live_byte marks a ≡ (own a || others a)
live_byte core marks own others a k = held_is core (held_at marks a) ∙ (ap (λ (b : Bool). b || other_live core (held_at marks a)) (k.own_is a) ∙ ap (λ (b : Bool). own a || b) (k.others_is a))

-- what an access touches, by the marks
pub saves_told : (core : ℕ) (marks : List Held) (own others : ℕ → Bool) (access : Option Access) (r : Bool) → ((live0 live1 stale : ℕ → Bool) → Agrees marks live0 live1 stale → touches_save_area (either live0 live1) access ≡ r) → TellsLive core marks own others → touches_save_area (either own others) access ≡ r
saves_told zero marks own others access r s k = s own others (λ a. (held_at marks a).stale) (record { first_core = k.own_is; second_core = k.others_is; no_longer = λ a. refl })
saves_told (suc core) marks own others access r s k = saves_turned own others access ∙ s others own (λ a. (held_at marks a).stale) (record { first_core = k.others_is; second_core = k.own_is; no_longer = λ a. refl })

-- ---- the masks
pub knows_same : (core : ℕ) (x : Bytes) (own others : ℕ → Bool) (f g : ℕ → ℕ) → ((a : ℕ) → f a ≡ g a) → KnowsBytes core x own others f → KnowsBytes core x own others g
knows_same core x own others f g same k = record {
  full = k.full;
  live = k.live;
  masks_are = λ a h. k.masks_are a h ∙ same a;
  unknown = λ a l. sym (same a) ∙ k.unknown a l;
}

stored_pick : (l b : Bool) (x m n s t : ℕ) → x ≡ cond l m s → l ≡ b → m ≡ n → (b ≡ true → n ≡ 0) → s ≡ t → x ≡ cond b 0 t
stored_pick true true x m n s t h e same f g = h ∙ (same ∙ f refl)
stored_pick true false x m n s t h e same f g = absurd (true≢false e)
stored_pick false true x m n s t h e same f g = absurd (true≢false (sym e))
stored_pick false false x m n s t h e same f g = h ∙ g

-- a judged store
pub knows_stored : (core : ℕ) (old new : Bytes) (own others : ℕ → Bool) (masks : ℕ → ℕ) (stored : ℕ) (access : Option Access) → KnowsBytes core old own others masks → AreFull new → new.marks.items ≡ old.marks.items
    → AreMasks new.masks (stored_over old.marks.items stored access (mask_at old.masks)) → KnowsBytes core new own others (without (λ a. own a || others a) (mask_stored stored access masks))
knows_stored core old new own others masks stored access k full same are = record {
  full = full;
  live = subst (λ (v : List Held). TellsLive core v own others) (sym same) k.live;
  masks_are = λ a h.
      stored_pick (is_live_byte old.marks.items a) (own a || others a) (mask_at new.masks a) (mask_at old.masks a) (masks a) (mask_stored stored access (mask_at old.masks) a) (mask_stored stored access masks a)
      (are a h) (live_byte core old.marks.items own others a k.live) (k.masks_are a h) (k.unknown a) (stored_same stored access (mask_at old.masks) masks a (k.masks_are a h));
  unknown = λ a l. cond-true (own a || others a) 0 (mask_stored stored access masks a) l;
}

same_zero : (k : Bool) (m : ℕ) → m ≡ 0 → 0 ≡ cond k 0 m
same_zero true m e = refl
same_zero false m e = sym e

follow_pick : (e n o k : Bool) (x y m : ℕ) → (e ≡ true → n ≡ true) → (n ≡ true → (o || e) ≡ true) → ((o || k) ≡ true → m ≡ 0) → x ≡ cond e 0 y → y ≡ m → x ≡ cond (n || k) 0 m
follow_pick true true o k x y m f g u h s = h
follow_pick true false o k x y m f g u h s = absurd (true≢false (sym (f refl)))
follow_pick false true true k x y m f g u h s = h ∙ (s ∙ u refl)
follow_pick false true false k x y m f g u h s = absurd (true≢false (sym (g refl)))
follow_pick false false true k x y m f g u h s = h ∙ (s ∙ (u refl ∙ same_zero k m (u refl)))
follow_pick false false false true x y m f g u h s = h ∙ (s ∙ u refl)
follow_pick false false false false x y m f g u h s = h ∙ s

-- some bytes have come into live save areas, if any
pub knows_follows : (core : ℕ) (old new : Bytes) (own own_now others test : ℕ → Bool) (masks : ℕ → ℕ) → KnowsBytes core old own others masks → AreFull new → TellsLive core new.marks.items own_now others
    → AreMasks new.masks (without test (mask_at old.masks)) → ((a : ℕ) → test a ≡ true → own_now a ≡ true) → ((a : ℕ) → own_now a ≡ true → (own a || test a) ≡ true)
    → KnowsBytes core new own_now others (without (λ a. own_now a || others a) masks)
knows_follows core old new own own_now others test masks k full live are comes stays = record {
  full = full;
  live = live;
  masks_are = λ a h. follow_pick (test a) (own_now a) (own a) (others a) (mask_at new.masks a) (mask_at old.masks a) (masks a) (comes a) (stays a) (k.unknown a) (are a h) (k.masks_are a h);
  unknown = λ a l. cond-true (own_now a || others a) 0 (masks a) l;
}

-- ---- the areas of a call
pub area_bytes : (lo hi : ℕ) (seen : List (Option ℕ)) (frames : List Frame) (x : Areas) → Stack lo hi seen frames → first ≤ lo → hi ≤ 2 ^ 30 → 0 < length frames
    → ((f : Frame) (fs : List Frame) → frames ≡ f ∷ fs → (a : ℕ) → in_areas x a ≡ opened_at hi (value_or_zero seen 1) f fs a) → AreaBytes x
area_bytes lo hi seen [] x k low high some is = absurd (omega (arith, some))
area_bytes lo hi seen (f ∷ fs) x k low high some is = record {
  low = λ a l h. inside a (or_from_left (touches x.low 16 a) (touches x.high x.size a) (touched x.low 16 a l h));
  high = λ a l h. inside a (or_from_right (touches x.low 16 a) (touches x.high x.size a) (touched x.high x.size a l h));
}
  where
    touched : (from size a : ℕ) → from ≤ a → a < from + size → touches from size a ≡ true
    touched from size a l h = touched_at from size a l h

    inside : (a : ℕ) → in_areas x a ≡ true → is_byte a ≡ true
    inside a t =
        let o = opened_inside lo hi seen f fs a k (sym (is f fs refl a) ∙ t) in
        let l = o.0 in
        let h = o.1 in
        dram_byte a (omega (arith, l, low)) (omega (arith, h, high))

    or_from_left : (x y : Bool) → x ≡ true → (x || y) ≡ true
    or_from_left true y e = refl
    or_from_left false y e = absurd (true≢false (sym e))

    or_from_right : (x y : Bool) → y ≡ true → (x || y) ≡ true
    or_from_right true y e = refl
    or_from_right false y e = e

pub sp_bytes : (lo hi : ℕ) (seen : List (Option ℕ)) (frames : List Frame) → Stack lo hi seen frames → first ≤ lo → hi ≤ 2 ^ 30 → AreBytes (value_or_zero seen 1 - 16) 16
sp_bytes lo hi seen frames k low high a l h =
    let t = chain_top lo hi (value_or_zero seen 1) frames k.range k.chain in
    let top = t.0 in
    let bottom = t.1 in
    dram_byte a (omega (arith, l, low, bottom)) (omega (arith, h, high, top, bottom))

pub low_bytes : (lo hi : ℕ) (seen : List (Option ℕ)) (frames : List Frame) (from : ℕ) → Stack lo hi seen frames → first ≤ lo → hi ≤ 2 ^ 30 → from ≡ value_or_zero seen 1 - 16 → AreBytes from 16
low_bytes lo hi seen frames from k low high e = subst (λ (n : ℕ). AreBytes n 16) (sym e) (sp_bytes lo hi seen frames k low high)

-- ---- the newest call, by the end of the stack that the bounds have
pub call_on : (x : Areas) (hi end : ℕ) (g : FrameState) → end ≡ hi → IsNewestCall x hi g → IsNewestCall x end g
call_on x hi end g e call = subst (λ (n : ℕ). IsNewestCall x n g) (sym e) call

pub call_at : (o : Option Areas) (x : Areas) (hi end : ℕ) (g : FrameState) → o ≡ Some x → end ≡ hi → IsCallOf o hi g → IsNewestCall x end g
call_at o x hi end g some e call = call_on x hi end g e (subst (λ (y : Option Areas). IsCallOf y hi g) some call)
