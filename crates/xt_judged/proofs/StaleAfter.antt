-- Which bytes are stale after a judged step: by whether it stays in its frame, calls or returns.
use Rattle.std.proofs.Common.{◌≡◌, ℕ, suc, ◌<◌, Bool, true, false, not, ◌||◌, ◌&&◌, Option, List, ◌∷◌, length, refl, sym, ap, ◌∙◌, subst, arith}
use Rattle.std.proofs.lemmas.Bool.{true≢false}
use Rattle.xt_map.specs.declared.access.Access.{Access}
use Rattle.xt_frames.specs.Frames.{Frame, FrameState, value_or_zero}
use Rattle.xt_frames.specs.SaveAreas.{Range, areas, covers_byte, is_live}
use Rattle.xt_frames.specs.Breaches.{stale_after, stores_at}
use Rattle.xt_frames.specs.Stacks.{Calls, Moves, Stays}
use Rattle.xt_frames.specs.Stacks as moves
use Rattle.xt_discipline.specs.ByteMarks.{opened_at}
use Rattle.xt_discipline.specs.declared.side.Areas.{Areas}
use Rattle.xt_discipline.specs.Sides.{IsNewestCall, in_areas}
use Rattle.xt_discipline.proofs.Lives.{live_more}
use Rattle.xt_frames.specs.Breaches.{Bounds}
use Rattle.xt_frames.specs.Walked.{Walked}
use Rattle.xt_judged.specs.Lives.{AreApart, is_live_in, others_live}
use Rattle.xt_judged.specs.Stales.{among}

-- ---- one byte: live before, live for the other core, stale, stored, in the areas of the call

stays : (l s w : Bool) → (s ≡ true → l ≡ false) → (s && not w) ≡ (not l && (l || (s && not w)))
stays true true w h = absurd (true≢false (h refl))
stays true false w h = refl
stays false s w h = refl

calls : (n f o s w : Bool) → (s ≡ true → (f || o) ≡ false) → (s && (not w && not n)) ≡ (not ((n || f) || o) && ((f || o) || (s && not w)))
calls true f o true true h = refl
calls true f o true false h = refl
calls true f o false w h = refl
calls false true o true w h = absurd (true≢false (h refl))
calls false true o false w h = refl
calls false false true true w h = absurd (true≢false (h refl))
calls false false true false w h = refl
calls false false false true true h = refl
calls false false false true false h = refl
calls false false false false w h = refl

returns : (n g o s w : Bool) → (s ≡ true → ((n || g) || o) ≡ false) → ((s && not w) || (n && not (g || o))) ≡ (not (g || o) && (((n || g) || o) || (s && not w)))
returns true g o true w h = absurd (true≢false (h refl))
returns true true o false w h = refl
returns true false true false w h = refl
returns true false false false w h = refl
returns false true o true w h = absurd (true≢false (h refl))
returns false true o false w h = refl
returns false false true true w h = absurd (true≢false (h refl))
returns false false true false w h = refl
returns false false false true true h = refl
returns false false false true false h = refl
returns false false false false w h = refl

-- ---- the live bytes after the step

live_same : (r : Range) (f g : FrameState) → Moves f g → length g.frames ≡ length f.frames → (a : ℕ) → is_live r g a ≡ is_live r f a
live_same r f g (Stays e s) n a =
    ap (λ (sp : ℕ). covers_byte (areas r.hi sp 1 g.frames) a) s ∙ ap (λ (fs : List Frame). covers_byte (areas r.hi (value_or_zero f.seen 1) 1 fs) a) e
live_same r f g (Calls c e s) n a = let more : length g.frames ≡ suc (length f.frames) = ap length e in absurd (omega (arith, n, more))
live_same r f g (moves.Leaves c e s) n a = let less : length f.frames ≡ suc (length g.frames) = ap length e in absurd (omega (arith, n, less))

abbrev IsCall : Range → FrameState → FrameState → Type 0
IsCall r f g = (c : Frame) × (g.frames ≡ c ∷ f.frames) × ((a : ℕ) → is_live r g a ≡ (opened_at r.hi (value_or_zero g.seen 1) c f.frames a || is_live r f a))

live_called : (r : Range) (f g : FrameState) → Moves f g → length f.frames < length g.frames → IsCall r f g
live_called r f g (Stays e s) n = let same : length g.frames ≡ length f.frames = ap length e in absurd (omega (arith, n, same))
live_called r f g (Calls c e s) n = (
  c,
  e,
  λ a.
      ap (λ (fs : List Frame). covers_byte (areas r.hi (value_or_zero g.seen 1) 1 fs) a) e
      ∙ (live_more r.hi (value_or_zero g.seen 1) c f.frames a ∙ ap (λ (x : ℕ). opened_at r.hi (value_or_zero g.seen 1) c f.frames a || covers_byte (areas r.hi x 1 f.frames) a) s),
)
live_called r f g (moves.Leaves c e s) n = let less : length f.frames ≡ suc (length g.frames) = ap length e in absurd (omega (arith, n, less))

-- (a return is the call backwards)
live_left : (r : Range) (f g : FrameState) → Moves f g → length g.frames < length f.frames → IsCall r g f
live_left r f g (Stays e s) n = let same : length g.frames ≡ length f.frames = ap length e in absurd (omega (arith, n, same))
live_left r f g (Calls c e s) n = let more : length g.frames ≡ suc (length f.frames) = ap length e in absurd (omega (arith, n, more))
live_left r f g (moves.Leaves c e s) n =
    let sp = value_or_zero f.seen 1 in (
      c,
      e,
      λ a. ap (λ (fs : List Frame). covers_byte (areas r.hi sp 1 fs) a) e
          ∙ (live_more r.hi sp c g.frames a ∙ ap (λ (x : ℕ). opened_at r.hi sp c g.frames a || covers_byte (areas r.hi x 1 g.frames) a) (sym s)),
    )

-- ---- the stale bytes after the step

module _ (r : Range) (f g : FrameState) (m : Moves f g) (others : ℕ → Bool) (stale : ℕ → Bool) (access : Option Access)
    (apart : (a : ℕ) → stale a ≡ true → (is_live r f a || others a) ≡ false) where
  abbrev pub past : ℕ → Bool
  past a = stale_after (λ b. is_live r g b || others b) (λ b. is_live r f b || others b) stale access a

  past_stay : length g.frames ≡ length f.frames → (a : ℕ) → (stale a && not (stores_at access a)) ≡ past a
  past_stay n a =
      stays (is_live r f a || others a) (stale a) (stores_at access a) (apart a)
      ∙ ap (λ (l : Bool). not (l || others a) && ((is_live r f a || others a) || (stale a && not (stores_at access a)))) (sym (live_same r f g m n a))

  past_call : (x : Areas) → IsNewestCall x r.hi g → length f.frames < length g.frames → (a : ℕ) → (stale a && (not (stores_at access a) && not (in_areas x a))) ≡ past a
  past_call x k n a =
      let c = live_called r f g m n in
      let own : in_areas x a ≡ opened_at r.hi (value_or_zero g.seen 1) c.0 f.frames a = k.bytes c.0 f.frames c.1 a in
      let live : is_live r g a ≡ (in_areas x a || is_live r f a) = c.2 a ∙ ap (λ (b : Bool). b || is_live r f a) (sym own) in
      calls (in_areas x a) (is_live r f a) (others a) (stale a) (stores_at access a) (apart a)
      ∙ ap (λ (l : Bool). not (l || others a) && ((is_live r f a || others a) || (stale a && not (stores_at access a)))) (sym live)

  past_return : (x : Areas) → IsNewestCall x r.hi f → length g.frames < length f.frames → (a : ℕ)
      → ((stale a && not (stores_at access a)) || (in_areas x a && not (is_live r g a || others a))) ≡ past a
  past_return x k n a =
      let c = live_left r f g m n in
      let own : in_areas x a ≡ opened_at r.hi (value_or_zero f.seen 1) c.0 g.frames a = k.bytes c.0 g.frames c.1 a in
      let live : is_live r f a ≡ (in_areas x a || is_live r g a) = c.2 a ∙ ap (λ (b : Bool). b || is_live r g a) (sym own) in
      returns (in_areas x a) (is_live r g a) (others a) (stale a) (stores_at access a)
      (λ (e : stale a ≡ true). sym (ap (λ (l : Bool). l || others a) live) ∙ apart a e)
      ∙ ap (λ (l : Bool). not (is_live r g a || others a) && ((l || others a) || (stale a && not (stores_at access a)))) (sym live)

-- ---- by the cores

module _ (own w : Walked) (other : Option Walked) (stale : List ℕ) (access : Option Access) (bounds : own.bounds ≡ w.bounds) (m : Moves w.state own.state) (apart : AreApart w other stale) where
  abbrev others : ℕ → Bool
  others = others_live other

  abbrev after : ℕ → Bool
  after a = stale_after (is_live_in own other) (is_live_in w other) (among stale) access a

  apart_here : (a : ℕ) → among stale a ≡ true → (is_live own.bounds.range w.state a || others a) ≡ false
  apart_here a s = ap (λ (b : Bounds). is_live b.range w.state a || others a) bounds ∙ apart a s

  there : (a : ℕ) → past own.bounds.range w.state own.state m others (among stale) access apart_here a ≡ after a
  there a = ap (λ (b : Bounds). stale_after (is_live_in own other) (λ c. is_live b.range w.state c || others c) (among stale) access a) bounds

  pub after_stay : length own.state.frames ≡ length w.state.frames → (a : ℕ) → (among stale a && not (stores_at access a)) ≡ after a
  after_stay n a = past_stay own.bounds.range w.state own.state m others (among stale) access apart_here n a ∙ there a

  pub after_call : (x : Areas) → IsNewestCall x own.bounds.range.hi own.state → length w.state.frames < length own.state.frames → (a : ℕ)
      → (among stale a && (not (stores_at access a) && not (in_areas x a))) ≡ after a
  after_call x k n a = past_call own.bounds.range w.state own.state m others (among stale) access apart_here x k n a ∙ there a

  pub after_return : (x : Areas) → IsNewestCall x w.bounds.range.hi w.state → length own.state.frames < length w.state.frames → (a : ℕ)
      → ((among stale a && not (stores_at access a)) || (in_areas x a && not (is_live_in own other a))) ≡ after a
  after_return x k n a =
      let here : IsNewestCall x own.bounds.range.hi w.state = subst (λ (b : Bounds). IsNewestCall x b.range.hi w.state) (sym bounds) k in
      past_return own.bounds.range w.state own.state m others (among stale) access apart_here x here n a ∙ there a
