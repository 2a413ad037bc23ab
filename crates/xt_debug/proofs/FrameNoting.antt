-- Lines with notes, one after another.
use Rattle.std.proofs.Common.{◌≡◌, ℕ, zero, suc, ◌+◌, ◌-◌, ◌*◌, ◌<◌, ◌≤◌, ◌⊎◌, inl, inr, Option, Some, None, List, [], ◌∷◌, ◌++◌, length, slice_get, refl, sym, ap, ap₂, ◌∙◌, arith, append_assoc}
use Rattle.std.specs.Option.{option_map_or}
use Rattle.xt_trace.specs.declared.run.Run.{Run}
use Rattle.xt_image.specs.declared.image.Image.{Image}
use Rattle.xt_core.specs.Positions.{schedule_in}
use Rattle.xt_replay.specs.Shown.{ReplayState}
use Rattle.xt_frames.specs.Frames.{Frame}
use Rattle.xt_frames.specs.SaveAreas.{before}
use Rattle.xt_frames.specs.Walked.{calls_in, sp_in}
use Rattle.xt_discipline.proofs.Calls.{calls_last, under_last}
use Rattle.xt_debug.specs.Calls.{stack_end}
use Rattle.xt_debug.specs.Depths.{frame_at}
use Rattle.xt_debug.specs.FrameNotes.{areas_text, both_text, note_at, note_text, noted, with_note}
use Rattle.xt_debug.specs.FrameWalks.{Advances, Skips}

pub noted_long : (image : Image) (r : Run) (p : ℕ) (lines : List (List ℕ)) → length (noted image r p lines) ≡ length lines
noted_long image r p [] = refl
noted_long image r p (line ∷ lines) = ap suc (noted_long image r (p + 1) lines)

-- ---- after the last turn there is no note
none_there : (l : List ℕ) (p : ℕ) → length l ≤ p → slice_get l p ≡ None
none_there [] p le = refl
none_there (c ∷ l) zero le = absurd (omega (arith, le))
none_there (c ∷ l) (suc p) le = none_there l p (omega (arith, le))

pub no_note : (image : Image) (r : Run) (p : ℕ) → length (schedule_in r) ≤ p → note_at image r p ≡ []
no_note image r p le =
    ap (λ (o : Option ℕ). option_map_or (λ (core : ℕ). note_text (stack_end core r) (frame_at image r core (p + 1))) o []) (none_there (schedule_in r) p le)

noted_past : (image : Image) (r : Run) (p q : ℕ) (lines : List (List ℕ)) → length (schedule_in r) ≤ p → length (schedule_in r) ≤ q → noted image r p lines ≡ noted image r q lines
noted_past image r p q [] a b = refl
noted_past image r p q (line ∷ lines) a b =
    ap₂ (λ (note : List ℕ) (rest : List (List ℕ)). with_note line note ∷ rest) (no_note image r p a ∙ sym (no_note image r q b))
    (noted_past image r (p + 1) (q + 1) lines (omega (arith, a)) (omega (arith, b)))

-- ---- the note of a turn
pub note_of_core : (image : Image) (r : Run) (p core : ℕ) → slice_get (schedule_in r) p ≡ Some core → note_at image r p ≡ note_text (stack_end core r) (frame_at image r core (p + 1))
note_of_core image r p core is =
    ap (λ (o : Option ℕ). option_map_or (λ (c : ℕ). note_text (stack_end c r) (frame_at image r c (p + 1))) o []) is

abbrev pub noted_by : List (List ℕ) → ReplayState → List (List ℕ)
noted_by lines s = noted s.image s.run s.position lines

pub noted_on : (old new : ReplayState) (core : Option ℕ) (lines : List (List ℕ)) → Advances core old new → noted old.image old.run (old.position + 1) lines ≡ noted_by lines new
noted_on old new None lines t = noted_past old.image old.run (old.position + 1) old.position lines (let le = t.0 in omega (arith, le)) t.0 ∙ sym (ap (noted_by lines) t.1)
noted_on old new (Some core) lines t = sym (ap (noted_by lines) t.2)

skipped_place : (image : Image) (r : Run) (from q : ℕ) (lines : List (List ℕ)) → (q ≡ from) ⊎ ((length (schedule_in r) ≤ q) × (q ≤ from)) → noted image r q lines ≡ noted image r from lines
skipped_place image r from q lines (inl is) = ap (λ (p : ℕ). noted image r p lines) is
skipped_place image r from q lines (inr t) = let a = t.0 in let b = t.1 in noted_past image r q from lines a (omega (arith, a, b))

pub noted_skipped : (image : Image) (r : Run) (from : ℕ) (new : ReplayState) (lines : List (List ℕ)) → Skips from (record { image = image; run = r; position = 0 }) new → noted_by lines new ≡ noted image r from lines
noted_skipped image r from new lines t =
    let same : 0 + from ≡ from = omega arith in
    ap (noted_by lines) t.1 ∙ (skipped_place image r (0 + from) t.0 lines t.2 ∙ ap (λ (p : ℕ). noted image r p lines) same)

-- ---- the areas of the newest call
pub end_above : (frames : List Frame) (j top hi : ℕ) → j + 1 ≡ length frames → (length frames ≡ 1 → top ≡ hi) → j ≡ 0 → top ≡ hi
end_above frames j top hi e first none = first (omega (arith, e, none))

pub caller_above : (frames : List Frame) (sp j top : ℕ) → j + 1 ≡ length frames → (1 < length frames → top ≡ sp_in frames sp (length frames - (length frames - 2))) → 0 < j → top ≡ sp_in frames sp (length frames - (j - 1))
caller_above frames sp j top e more some =
    let same : length frames - 2 ≡ j - 1 = omega (arith, e, some) in
    more (omega (arith, e, some)) ∙ ap (λ (k : ℕ). sp_in frames sp (length frames - k)) same

pub areas_are : (hi sp : ℕ) (frames : List Frame) (j low top by : ℕ) → j + 1 ≡ length frames → low ≡ sp → by ≡ calls_in frames (length frames - 1 - j) → (j ≡ 0 → top ≡ hi) → (0 < j → top ≡ sp_in frames sp (length frames - (j - 1)))
    → both_text (low - 16) (top - 16 * by) (16 * (by - 1)) ≡ areas_text hi sp frames
areas_are hi sp [] j low top by e low_is by_is first more = absurd (omega (arith, e))
areas_are hi sp (f ∷ fs) j low top by e low_is by_is first more =
    let t : top ≡ before hi fs = under_last hi sp f fs j top e first more in
    let n : by ≡ f.by = by_is ∙ calls_last f fs j e in
    ap (λ (x : ℕ). both_text (x - 16) (top - 16 * by) (16 * (by - 1))) low_is
    ∙ (ap (λ (x : ℕ). both_text (sp - 16) (x - 16 * by) (16 * (by - 1))) t ∙ ap (λ (x : ℕ). both_text (sp - 16) (before hi fs - 16 * x) (16 * (x - 1))) n)

-- ---- four texts, one after another
pub four_texts : (o d a u m : List ℕ) → (((o ++ d) ++ a) ++ u) ++ m ≡ o ++ (((d ++ a) ++ u) ++ m)
four_texts o d a u m =
    ap (λ (x : List ℕ). (x ++ u) ++ m) (append_assoc o d a) ∙ (ap (λ (x : List ℕ). x ++ m) (append_assoc o (d ++ a) u) ∙ append_assoc o ((d ++ a) ++ u) m)
