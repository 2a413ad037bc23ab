-- The callers as they are kept, the oldest first, and the frames, the newest first.
use Rattle.std.proofs.Common.{◌≡◌, ℕ, zero, suc, ◌-◌, ◌*◌, ◌<◌, ◌≤◌, Option, None, List, [], ◌∷◌, ◌++◌, refl, ◌∙◌, ap, arith, length, get_or, take, map, reverse}
use Rattle.std.proofs.lemmas.List.{map-append, reverse-append, length-reverse, length-map, get_or-reverse, get_or-map}
use Rattle.std.specs.Prelude.{slice_index_or}
use Rattle.xt_frames.specs.declared.view.Caller.{Caller}
use Rattle.xt_frames.specs.Backtrace.{a0_in}
use Rattle.xt_frames.specs.Frames.{Frame}
use Rattle.xt_frames.specs.SaveAreas.{sp_of}
use Rattle.xt_frames.specs.KeptFrameState.{frame_of, frames_of, newest_of}
use Rattle.xt_frames.specs.Stacks.{IsFrame, AreFrames}
use Rattle.xt_frames.specs.Walked.{calls_in, sp_in}

-- where there is none
abbrev pub nobody : Caller
nobody = record { by = 0; kept = [] }

pub no_newest : (frames : List Frame) → newest_of frames ≡ None → frames ≡ []
no_newest [] h = refl
no_newest (f ∷ fs) h = cc

-- ---- the newest caller stands last
pub snoc_of : (cs : List Caller) (n : ℕ) (d : Caller) → length cs ≡ suc n → cs ≡ take n cs ++ (get_or cs n d ∷ [])
snoc_of [] n d h = absurd (omega (arith, h))
snoc_of (c ∷ []) zero d h = refl
snoc_of (c ∷ (e ∷ cs)) zero d h = absurd (omega (arith, h))
snoc_of (c ∷ cs) (suc n) d h = let l : length cs ≡ suc n = omega (arith, h) in ap (λ xs. c ∷ xs) (snoc_of cs n d l)

pub frames_snoc : (cs : List Caller) (c : Caller) → frames_of (cs ++ (c ∷ [])) ≡ frame_of c ∷ frames_of cs
unfolding frames_of
frames_snoc cs c = ap reverse (map-append frame_of cs (c ∷ [])) ∙ reverse-append (map frame_of cs) (frame_of c ∷ [])

pub frames_length : (cs : List Caller) → length (frames_of cs) ≡ length cs
unfolding frames_of
frames_length cs = length-reverse (map frame_of cs) ∙ length-map cs frame_of

pub frames_last : (cs : List Caller) (n : ℕ) (d : Caller) → length cs ≡ suc n → frames_of cs ≡ frame_of (get_or cs n d) ∷ frames_of (take n cs)
frames_last cs n d h = ap frames_of (snoc_of cs n d h) ∙ frames_snoc (take n cs) (get_or cs n d)

pub frames_none : (cs : List Caller) → length cs ≡ 0 → frames_of cs ≡ []
unfolding frames_of
frames_none [] h = refl
frames_none (c ∷ cs) h = absurd (omega (arith, h))

-- ---- the frame of each caller
pub frame_at : (cs : List Caller) (k : ℕ) (d : Caller) → k < length cs → get_or (frames_of cs) k (frame_of d) ≡ frame_of (get_or cs (length cs - 1 - k) d)
unfolding frames_of
frame_at cs k d h =
    let l : length (map frame_of cs) ≡ length cs = length-map cs frame_of in
    get_or-reverse (map frame_of cs) k (frame_of d) (omega (arith, l))
    ∙ (ap (λ n. get_or (map frame_of cs) (n - 1 - k) (frame_of d)) l ∙ get_or-map frame_of cs (length cs - 1 - k) d (frame_of d) (omega arith))

pub frame_among : (fs : List Frame) (k : ℕ) (d : Frame) → AreFrames fs → k < length fs → IsFrame (get_or fs k d)
frame_among [] k d a h = absurd (omega arith)
frame_among (f ∷ fs) zero d a h = a.0
frame_among (f ∷ fs) (suc k) d a h = frame_among fs k d a.1 (omega arith)

pub caller_moves : (cs : List Caller) (j : ℕ) (d : Caller) → AreFrames (frames_of cs) → j < length cs → (0 < (get_or cs j d).by) × ((get_or cs j d).by ≤ 3)
caller_moves cs j d a h =
    let k : ℕ = length cs - 1 - j in
    let back : length cs - 1 - k ≡ j = omega arith in
    let is : get_or (frames_of cs) k (frame_of d) ≡ frame_of (get_or cs j d) = frame_at cs k d (omega arith) ∙ ap (λ n. frame_of (get_or cs n d)) back in
    let f = frame_among (frames_of cs) k (frame_of d) a (let l = frames_length cs in omega (arith, l)) in
    let by : (get_or (frames_of cs) k (frame_of d)).by ≡ (get_or cs j d).by = ap (λ (x : Frame). x.by) is in
    let low = f.moves in
    let high = f.within in
    (omega (arith, by, low), omega (arith, by, high))

-- ---- frames by number
pub sp_in-newest : (fs : List Frame) (sp : ℕ) → sp_in fs sp 0 ≡ sp
sp_in-newest [] sp = refl
sp_in-newest (f ∷ fs) sp = refl

pub sp_in-at : (fs : List Frame) (sp k : ℕ) (d : Frame) → k < length fs → sp_in fs sp (suc k) ≡ sp_of (get_or fs k d)
sp_in-at [] sp k d h = absurd (omega arith)
sp_in-at (f ∷ fs) sp zero d h = sp_in-newest fs (sp_of f)
sp_in-at (f ∷ fs) sp (suc k) d h = sp_in-at fs (sp_of f) k d (omega arith)

pub calls_in-at : (fs : List Frame) (k : ℕ) (d : Frame) → k < length fs → calls_in fs k ≡ (get_or fs k d).by
calls_in-at [] k d h = absurd (omega arith)
calls_in-at (f ∷ fs) zero d h = refl
calls_in-at (f ∷ fs) (suc k) d h = calls_in-at fs k d (omega arith)

pub sp_of_caller : (cs : List Caller) (sp j : ℕ) (d : Caller) → j < length cs → sp_in (frames_of cs) sp (length cs - j) ≡ sp_of (frame_of (get_or cs j d))
sp_of_caller cs sp j d h =
    let k : ℕ = length cs - 1 - j in
    let e : length cs - j ≡ suc k = omega arith in
    let back : length cs - 1 - k ≡ j = omega arith in
    ap (sp_in (frames_of cs) sp) e
    ∙ (sp_in-at (frames_of cs) sp k (frame_of d) (let l = frames_length cs in omega (arith, l))
    ∙ ap sp_of (frame_at cs k d (omega arith) ∙ ap (λ n. frame_of (get_or cs n d)) back))

pub calls_of_caller : (cs : List Caller) (j : ℕ) (d : Caller) → j < length cs → calls_in (frames_of cs) (length cs - 1 - j) ≡ (get_or cs j d).by
calls_of_caller cs j d h =
    let k : ℕ = length cs - 1 - j in
    let back : length cs - 1 - k ≡ j = omega arith in
    calls_in-at (frames_of cs) k (frame_of d) (let l = frames_length cs in omega (arith, l))
    ∙ ap (λ (x : Frame). x.by) (frame_at cs k d (omega arith) ∙ ap (λ n. frame_of (get_or cs n d)) back)

-- ---- a0 by number
pub a0_in-newest : (fs : List Frame) (a0 : Option ℕ) → a0_in fs a0 0 ≡ a0
a0_in-newest [] a0 = refl
a0_in-newest (f ∷ fs) a0 = refl

pub a0_in-at : (fs : List Frame) (a0 : Option ℕ) (k : ℕ) (d : Frame) → k < length fs → a0_in fs a0 (suc k) ≡ slice_index_or (get_or fs k d).kept 0 None
a0_in-at [] a0 k d h = absurd (omega arith)
a0_in-at (f ∷ fs) a0 zero d h = a0_in-newest fs (slice_index_or f.kept 0 None)
a0_in-at (f ∷ fs) a0 (suc k) d h = a0_in-at fs (slice_index_or f.kept 0 None) k d (omega arith)

first_of : (xs : List (Option ℕ)) (n : ℕ) → slice_index_or (take (suc n) xs) 0 None ≡ slice_index_or xs 0 None
first_of [] n = refl
first_of (x ∷ xs) n = refl

-- the first register that is kept, of four at least
first_kept : (c : Caller) (n : ℕ) → 4 * c.by ≡ suc n → slice_index_or (frame_of c).kept 0 None ≡ slice_index_or c.kept 0 None
first_kept c n e = ap (λ (m : ℕ). slice_index_or (take m c.kept) 0 None) e ∙ first_of c.kept n

pub a0_of_caller : (cs : List Caller) (a0 : Option ℕ) (j : ℕ) (d : Caller) → AreFrames (frames_of cs) → j < length cs → a0_in (frames_of cs) a0 (length cs - j) ≡ slice_index_or (get_or cs j d).kept 0 None
a0_of_caller cs a0 j d a h =
    let k : ℕ = length cs - 1 - j in
    let e : length cs - j ≡ suc k = omega arith in
    let back : length cs - 1 - k ≡ j = omega arith in
    let c = get_or cs j d in
    let m = (caller_moves cs j d a h).0 in
    ap (a0_in (frames_of cs) a0) e
    ∙ (a0_in-at (frames_of cs) a0 k (frame_of d) (let l = frames_length cs in omega (arith, l))
    ∙ (ap (λ (f : Frame). slice_index_or f.kept 0 None) (frame_at cs k d (omega arith) ∙ ap (λ n. frame_of (get_or cs n d)) back)
    ∙ first_kept c (4 * c.by - 1) (omega (arith, m))))
