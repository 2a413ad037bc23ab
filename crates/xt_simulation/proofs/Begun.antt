-- Where a stretch begins: the three stack pointers are a chain, and what the handler loads and stores are live bytes of its own core.
use Rattle.std.proofs.Common.{◌≡◌, inl, inr, ℕ, ◌+◌, ◌-◌, ◌*◌, ◌%◌, ◌<◌, ◌≤◌, Bool, true, ◌∙◌, ap, arith, List, [], ◌∷◌, ◌++◌, get_or}
use Rattle.std.proofs.lemmas.Bool.{or_left, or_right}
use Rattle.xt_window.specs.Ring.{place, visible}
use Rattle.xt_exec.specs.State.{State}
use Rattle.xt_exec.specs.TurnLaws.{IsShaped}
use Rattle.xt_frames.specs.Frames.{Frame, FrameState, value_or_zero, windows_moved}
use Rattle.xt_frames.specs.SaveAreas.{areas, sp_of, before, covers_byte, is_live}
use Rattle.xt_frames.specs.Breaches.{Bounds}
use Rattle.xt_frames.specs.Stacks.{Chain, Stack}
use Rattle.xt_simulation.specs.Stacks.{sp_under}
use Rattle.xt_simulation.specs.Cores.{word, Related}
use Rattle.xt_simulation.proofs.Modular.{place_at}
use Rattle.xt_map.proofs.Alike.{touched_at}
use Rattle.xt_simulation.proofs.Chains.{called_under, live_end}
use Rattle.xt_simulation.proofs.Stretched.{oldest, newest_of, overflows_find_frames, underflows_find_frames}
use Rattle.xt_handlers.specs.Needs.{callee_sp, link, link_word}
use Rattle.xt_handlers.specs.declared.stretch.Side.{Side}
use Rattle.xt_handlers.specs.declared.stretch.Side.TheVariants.{Overflow, Underflow}
use Rattle.xt_handlers.specs.Machines.{symbol_value}
use Rattle.xt_handlers.specs.Frames.{HasFrames, IsOwnByte}
use Rattle.xt_handlers.specs.Joined.{Finds, IsShaped as HasShape}
use Rattle.xt_handlers.proofs.Joins.{overflow_frames, underflow_frames, own_link_is, saved_sp_is, saved_link_is}
use Rattle.xt_simulation.specs.InHandlers.{start_of, above}
use Rattle.xt_simulation.specs.Handling.{InDram, Begins}

-- the stack pointers at the start
pub record Found (side : Side) (opened : ℕ → ℕ) (b : Bounds) (start : State) (f : FrameState) (front : List Frame) (g : Frame) (rest : List Frame) : Type 0 where
  pub frames : HasFrames side g.by (start_of start opened rest)
  pub whole : f.frames ≡ above side front ++ g ∷ rest
  pub chain : Chain b.range.lo b.range.hi (sp_under (value_or_zero f.seen 1) (above side front)) (g ∷ rest)
  pub callee : symbol_value (start_of start opened rest) (callee_sp g.by) ≡ sp_under (value_or_zero f.seen 1) (above side front)
  pub own : symbol_value (start_of start opened rest) (link_word side g.by).base ≡ sp_of g
  pub top : symbol_value (start_of start opened rest) (link side g.by) ≡ before b.range.hi rest

shape_of : (b : Bounds) (start : State) (opened : ℕ → ℕ) (n : ℕ) (rest : List Frame) → InDram b → IsShaped start → 0 < n → n ≤ 3 → HasShape b.range.lo b.range.hi n (start_of start opened rest)
shape_of b start opened n rest d s pos small = record {
  some = pos;
  three = omega arith;
  low = d.low;
  high = d.high;
  registers = s.count;
  fits = λ i h. s.words (place (windows_moved rest % 16) i);
}

-- the same window by its number and by its remainder
pub same_place : (w i : ℕ) → place (w % 16) i ≡ place w i
same_place w i = place_at (w % 16) w i (omega arith)

pub same_visible : (regs : List ℕ) (w i : ℕ) → visible regs (w % 16) i ≡ visible regs w i
same_visible regs w i = ap (λ p. get_or regs p 0) (same_place w i)

finds_same : (lo hi n a b c x y z : ℕ) → a ≡ x → b ≡ y → c ≡ z → Finds lo hi n x y z → Finds lo hi n a b c
finds_same lo hi n a b c x y z e f h r = rw (e, f, h) r

pub found_over : (b : Bounds) (lost : ℕ → Bool) (s : State) (f : FrameState) (front : List Frame) (g : Frame) (rest : List Frame) (m : ℕ → ℕ) → InDram b → IsShaped s → 0 < g.by → g.by ≤ 3 → Related m b lost s f (front ++ g ∷ []) rest → Found Overflow m b s f front g rest
found_over b lost s f front g rest m d shaped pos small l =
    let o = oldest b f front g rest m l in
    let n = g.by in
    let w = windows_moved rest in
    let callee : visible s.regs (w % 16) (4 * n + 1) ≡ visible s.regs w (4 * n + 1) = same_visible s.regs w (4 * n + 1) in
    let own : visible s.regs (w % 16) 1 ≡ visible s.regs w 1 = same_visible s.regs w 1 in
    let top : word m (visible s.regs (w % 16) 1 - 12) ≡ word m (visible s.regs w 1 - 12) = ap (λ x. word m (x - 12)) own in
    let found : Finds b.range.lo b.range.hi n (visible s.regs (w % 16) (4 * n + 1)) (visible s.regs (w % 16) 1) (word m (visible s.regs (w % 16) 1 - 12)) =
    finds_same b.range.lo b.range.hi n _ _ _ _ _ _ callee own top (overflows_find_frames b lost s f front g rest m l) in
    let shape = shape_of b s m n rest d shaped pos small in
    record {
      frames = overflow_frames b.range.lo b.range.hi n (start_of s m rest) shape found;
      whole = o.whole;
      chain = o.chain;
      callee = callee ∙ o.callee;
      own = own ∙ o.own;
      top = own_link_is b.range.lo b.range.hi n (start_of s m rest) shape found ∙ (top ∙ o.top);
    }

pub found_under : (b : Bounds) (lost : ℕ → Bool) (s : State) (f : FrameState) (front : List Frame) (g : Frame) (rest : List Frame) (m : ℕ → ℕ) → InDram b → IsShaped s → 0 < g.by → g.by ≤ 3 → Related m b lost s f [] (g ∷ rest) → Found Underflow m b s f front g rest
found_under b lost s f front g rest m d shaped pos small l =
    let o = newest_of b f g rest m l in
    let n = g.by in
    let w = windows_moved rest in
    let callee : visible s.regs (w % 16) (4 * n + 1) ≡ visible s.regs w (4 * n + 1) = same_visible s.regs w (4 * n + 1) in
    let own : word m (visible s.regs (w % 16) (4 * n + 1) - 12) ≡ word m (visible s.regs w (4 * n + 1) - 12) = ap (λ x. word m (x - 12)) callee in
    let top : word m (word m (visible s.regs (w % 16) (4 * n + 1) - 12) - 12) ≡ word m (word m (visible s.regs w (4 * n + 1) - 12) - 12) = ap (λ x. word m (x - 12)) own in
    let found : Finds b.range.lo b.range.hi n (visible s.regs (w % 16) (4 * n + 1)) (word m (visible s.regs (w % 16) (4 * n + 1) - 12)) (word m (word m (visible s.regs (w % 16) (4 * n + 1) - 12) - 12)) =
    finds_same b.range.lo b.range.hi n _ _ _ _ _ _ callee own top (underflows_find_frames b lost s f g rest m l) in
    let shape = shape_of b s m n rest d shaped pos small in
    let link0 : word m (visible s.regs w (4 * n + 1) - 12) ≡ sp_of g = ap (λ x. word m (x - 12)) o.callee ∙ o.own in
    record {
      frames = underflow_frames b.range.lo b.range.hi n (start_of s m rest) shape found;
      whole = l.plain.frames;
      chain = o.chain;
      callee = callee ∙ o.callee;
      own = saved_sp_is b.range.lo b.range.hi n (start_of s m rest) shape found ∙ (own ∙ link0);
      top = saved_link_is b.range.lo b.range.hi n (start_of s m rest) shape found ∙ (top ∙ (ap (λ x. word m (x - 12)) link0 ∙ o.top));
    }

pub found : (side : Side) (b : Bounds) (lost : ℕ → Bool) (s : State) (f : FrameState) (front : List Frame) (g : Frame) (rest : List Frame) (m : ℕ → ℕ) → InDram b → IsShaped s → 0 < g.by → g.by ≤ 3 → Begins side m b lost s f front g rest → Found side m b s f front g rest
found Overflow b lost s f front g rest m d shaped pos small l = found_over b lost s f front g rest m d shaped pos small l
found Underflow b lost s f front g rest m d shaped pos small l = found_under b lost s f front g rest m d shaped pos small l

pub stack_of : (side : Side) (b : Bounds) (lost : ℕ → Bool) (s : State) (f : FrameState) (front : List Frame) (g : Frame) (rest : List Frame) (m : ℕ → ℕ) → Begins side m b lost s f front g rest → Stack b.range.lo b.range.hi f.seen f.frames
stack_of Overflow b lost s f front g rest m l = l.stack
stack_of Underflow b lost s f front g rest m l = l.stack

-- ---- own bytes are live
high_byte : (hi sp n : ℕ) (frames : List Frame) (a : ℕ) → before hi frames - 16 * n ≤ a → a < before hi frames - 16 * n + 16 * (n - 1) → covers_byte (areas hi sp n frames) a ≡ true
high_byte hi sp n [] a lo up = or_right _ _ (or_left _ _ (touched_at (hi - 16 * n) (16 * (n - 1)) a lo up))
high_byte hi sp n (f ∷ fs) a lo up = or_right _ _ (or_left _ _ (touched_at (sp_of f - 16 * n) (16 * (n - 1)) a lo up))

-- the link word below a stack pointer
link_byte : (lo hi sp n : ℕ) (frames : List Frame) (a : ℕ) → Chain lo hi sp frames → 16 ≤ sp → sp - 12 ≤ a → a < sp - 8 → covers_byte (areas hi sp n frames) a ≡ true
link_byte lo hi sp n [] a c big low up = or_left _ _ (touched_at (hi - 76) 4 a (omega (arith, c)) (omega (arith, c)))
link_byte lo hi sp n (f ∷ fs) a c big low up = or_left _ _ (touched_at (sp - 16) 16 a (omega arith) (omega arith))

module _ {side : Side} {opened : ℕ → ℕ} {b : Bounds} {start : State} {f : FrameState} {front : List Frame} {g : Frame} {rest : List Frame} (r : Found side opened b start f front g rest) where
  live_from : (a : ℕ) → covers_byte (areas b.range.hi (sp_under (value_or_zero f.seen 1) (above side front)) (called_under 1 (above side front)) (g ∷ rest)) a ≡ true → is_live b.range f a ≡ true
  live_from a h =
      let whole = live_end b.range.hi (value_or_zero f.seen 1) 1 (above side front) (g ∷ rest) a h in
      rw r.whole whole

  pub own_live : (a : ℕ) → IsOwnByte side g.by (start_of start opened rest) a → is_live b.range f a ≡ true
  own_live a (inl h) =
      let callee = r.callee in
      let l = h.0 in
      let u = h.1 in
      let low = r.chain.0.low in
      live_from a (or_left _ _ (touched_at (sp_under (value_or_zero f.seen 1) (above side front) - 16) 16 a (omega arith) (omega arith)))
  own_live a (inr (two, inl h)) =
      let top = r.top in
      let l = h.0 in
      let u = h.1 in
      let large = r.chain.0.large in
      live_from a (or_right _ _ (or_right _ _ (high_byte b.range.hi (sp_of g) g.by rest a (omega arith) (omega arith))))
  own_live a (inr (two, inr h)) =
      let own = r.own in
      let l = h.0 in
      let u = h.1 in
      let low = r.chain.0.low in
      let under = r.chain.0.under in
      live_from a (or_right _ _ (or_right _ _ (link_byte b.range.lo b.range.hi (sp_of g) g.by rest a r.chain.1 (omega arith) (omega arith) (omega arith))))
