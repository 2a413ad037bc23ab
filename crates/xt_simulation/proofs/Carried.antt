-- A window handler's relation, where a step of a nested interrupt has changed THREADPTR and special registers alike in both machines.
use Rattle.std.proofs.Common.{◌≡◌, ℕ, zero, suc, ◌≢◌, Bool, false, eqb, List, [], ◌∷◌, length, get_or, sym, ap, ◌∙◌, refl, arith, ⊎_elim, subst}
use Rattle.std.proofs.lemmas.Bool.{cases_Bool, cond-true, cond-false, eqb-true, false≢true}
use Rattle.xt_map.specs.declared.contents.MemoryContents.{MemoryContents}
use Rattle.xt_special.specs.declared.ps.Ps.{Ps}
use Rattle.xt_special.specs.Numbers as number
use Rattle.xt_special.specs.Control.{special_of}
use Rattle.xt_special.specs.Shape.{HasShape}
use Rattle.xt_rows.specs.RowLaws.{IsWord}
use Rattle.xt_exec.specs.State.{State}
use Rattle.xt_exec.specs.TurnLaws.{AreWords, IsShaped}
use Rattle.xt_frames.specs.Frames.{Frame, FrameState, value_or_zero, windows_moved}
use Rattle.xt_frames.specs.FrameStep.{with_inputs}
use Rattle.xt_frames.specs.SaveAreas.{areas, covers_byte, is_live}
use Rattle.xt_frames.specs.Breaches.{Bounds}
use Rattle.xt_frames.specs.Stacks.{Stack}
use Rattle.xt_handlers.specs.declared.stretch.Side.{Side}
use Rattle.xt_handlers.specs.declared.stretch.Side.TheVariants.{Overflow, Underflow}
use Rattle.xt_handlers.specs.HandlerInvariants.{Stands}
use Rattle.xt_handlers.specs.Machines.{Machine}
use Rattle.xt_simulation.specs.Stacks.{Saved, sp_under}
use Rattle.xt_simulation.specs.Ring.{Windows}
use Rattle.xt_simulation.specs.Relation.{Same, Plain, inputs, lost_at}
use Rattle.xt_simulation.specs.Cores.{word, Related}
use Rattle.xt_simulation.specs.InHandlers.{as_left, value_left, special_left, start_of}
use Rattle.xt_simulation.specs.Stretches.{InHandler}
use Rattle.xt_simulation.specs.Handling.{Begins, Handling, machine}
use Rattle.xt_simulation.proofs.Evenly.{not_lost}
use Rattle.xt_simulation.proofs.Laid.{laid_length, laid_other, relaid, same_relaid}

-- ---- the special registers as they are left
left_is : (old from to : ℕ) → from ≡ old → value_left old from to ≡ to
left_is old from to e = ⊎_elim
    (λ same. cond-true (eqb to from) old to same ∙ (sym e ∙ sym (eqb-true to from same)))
    (λ other. cond-false (eqb to from) old to other)
    (cases_Bool (eqb to from))

left_word : (old from to : ℕ) → IsWord old → IsWord to → IsWord (value_left old from to)
left_word old from to a b = ⊎_elim
    (λ same. subst IsWord (sym (cond-true (eqb to from) old to same)) a)
    (λ other. subst IsWord (sym (cond-false (eqb to from) old to other)) b)
    (cases_Bool (eqb to from))

left_length : (old from to : List ℕ) → length old ≡ length to → length from ≡ length to → length (special_left old from to) ≡ length to
left_length [] [] [] a b = refl
left_length (x ∷ xs) (y ∷ ys) (z ∷ zs) a b = let rest = left_length xs ys zs (omega arith) (omega arith) in omega arith
left_length [] froms (z ∷ zs) a b = omega arith
left_length (x ∷ xs) froms [] a b = omega arith
left_length (x ∷ xs) [] (z ∷ zs) a b = omega arith
left_length [] (y ∷ ys) [] a b = omega arith

left_at : (old from to : List ℕ) → length old ≡ length to → length from ≡ length to → (k : ℕ) → get_or (special_left old from to) k 0 ≡ value_left (get_or old k 0) (get_or from k 0) (get_or to k 0)
left_at [] [] [] a b k = refl
left_at (x ∷ xs) (y ∷ ys) (z ∷ zs) a b zero = refl
left_at (x ∷ xs) (y ∷ ys) (z ∷ zs) a b (suc k) = left_at xs ys zs (omega arith) (omega arith) k
left_at [] froms (z ∷ zs) a b k = absurd (omega arith)
left_at (x ∷ xs) froms [] a b k = absurd (omega arith)
left_at (x ∷ xs) [] (z ∷ zs) a b k = absurd (omega arith)
left_at [] (y ∷ ys) [] a b k = absurd (omega arith)

-- ---- a step that keeps what RFI 5 gives back
-- Of the states t before it and `after` after it, and of the frame states f and g, where PC, PS, registers and window are those that
-- RFI 5 gives back. EPC1 is not written, and the special registers stay even.
pub record Carries (b : Bounds) (t after : State) (f g : FrameState) : Type 0 where
  pub regs : after.regs ≡ t.regs
  pub base : after.base ≡ t.base
  pub start : after.start ≡ t.start
  pub pc : after.control.pc ≡ t.control.pc
  pub ps : after.control.ps ≡ t.control.ps
  pub epc1 : special_of after.control (number.epc 1) ≡ special_of t.control (number.epc 1)
  pub running : after.control.waits ≡ false
  pub special : Same (lost_at false g) after.control.special (with_inputs (inputs 0 after) g).control.special
  pub threadptr : after.control.threadptr ≡ g.control.threadptr
  pub awake : g.control.waits ≡ false
  pub count : length after.control.special ≡ 256
  pub words : AreWords after.control.special
  pub shape : HasShape after.control.special
  pub pointer : IsWord after.control.threadptr
  pub vectors : special_of g.control number.vecbase ≡ b.vecbase
  pub seen : g.seen ≡ f.seen
  pub frames : g.frames ≡ f.frames
  pub framed_pc : g.control.pc ≡ f.control.pc
  -- the input OWB aside
  pub framed_ps : (owb : ℕ) → (let p : Ps = record g.control.ps { owb = owb } in p) ≡ record f.control.ps { owb = owb }

-- the same registers and frames have the same live bytes
pub live_same : (b : Bounds) (f g : FrameState) → g.seen ≡ f.seen → g.frames ≡ f.frames → (a : ℕ) → is_live b.range g a ≡ is_live b.range f a
live_same b f g seen frames a =
    ap (λ s. covers_byte (areas b.range.hi (value_or_zero s 1) 1 g.frames) a) seen ∙ ap (λ fs. covers_byte (areas b.range.hi (value_or_zero f.seen 1) 1 fs) a) frames

module _ {b : Bounds} {t after : State} {f g : FrameState} (c : Carries b t after f g) where
  epc1_lost : (k : ℕ) → lost_at false g k ≡ false → k ≢ 177
  epc1_lost k value_or_zero e = false≢true (sym value_or_zero ∙ ap (lost_at false g) e)

  -- ---- where the handler began
  module _ {before : State} (i : InHandler before.control t.control before.base) (begun : IsShaped before) where
    abbrev special : List ℕ
    special = special_left before.control.special t.control.special after.control.special

    from_size : length t.control.special ≡ length after.control.special
    from_size = i.size ∙ (begun.control.count ∙ sym c.count)

    old_size : length before.control.special ≡ length after.control.special
    old_size = begun.control.count ∙ sym c.count

    left_size : length special ≡ length after.control.special
    left_size = left_length before.control.special t.control.special after.control.special old_size from_size

    at : (k : ℕ) → get_or special k 0 ≡ value_left (get_or before.control.special k 0) (get_or t.control.special k 0) (get_or after.control.special k 0)
    at k = left_at before.control.special t.control.special after.control.special old_size from_size k

    -- but EPC1, INTERRUPT and CCOUNT
    left_other : (k : ℕ) → k ≢ 177 → k ≢ 226 → k ≢ 234 → get_or special k 0 ≡ get_or after.control.special k 0
    left_other k not_epc not_bits not_count =
        at k ∙ left_is (get_or before.control.special k 0) (get_or t.control.special k 0) (get_or after.control.special k 0) (i.special k not_epc not_bits not_count)

    left_words : AreWords special
    left_words k = subst IsWord (sym (at k)) (left_word (get_or before.control.special k 0) (get_or t.control.special k 0) (get_or after.control.special k 0) (begun.control.words k) (c.words k))

    left_shape : HasShape special
    left_shape = record {
      sar_fits = rw (left_other 3 (λ e. omega arith) (λ e. omega arith) (λ e. omega arith)) c.shape.sar_fits;
      vecbase_aligned = rw (left_other 231 (λ e. omega arith) (λ e. omega arith) (λ e. omega arith)) c.shape.vecbase_aligned;
    }

    left_threadptr : value_left before.control.threadptr t.control.threadptr after.control.threadptr ≡ after.control.threadptr
    left_threadptr = left_is before.control.threadptr t.control.threadptr after.control.threadptr i.threadptr

    special_even : Same (lost_at false g) special (relaid special g.control.special)
    special_even =
        let count = special_of after.control 234 in
        let bits = special_of after.control 226 in
        same_relaid (lost_at false g) special g.control.special
        (left_size ∙ (c.special.size ∙ laid_length g.control.special count bits))
        c.special.only
        (λ k value_or_zero not_bits not_count. left_other k (epc1_lost k value_or_zero) not_bits not_count ∙ (c.special.at k value_or_zero ∙ laid_other g.control.special count bits k not_bits not_count))

    vectors_left : special_of (as_left before t after).control number.vecbase ≡ b.vecbase
    vectors_left =
        left_other 231 (λ e. omega arith) (λ e. omega arith) (λ e. omega arith)
        ∙ (c.special.at 231 (not_lost c.special 231 refl)
        ∙ (laid_other g.control.special (special_of after.control 234) (special_of after.control 226) 231 (λ e. omega arith) (λ e. omega arith)
        ∙ c.vectors))

    module _ {lost : ℕ → Bool} {ring spilled : List Frame} (running : before.control.waits ≡ false) where
      plain_left : Plain b.vecbase lost before f ring spilled → Plain b.vecbase (lost_at false g) (as_left before t after) g ring spilled
      plain_left l = record {
        windows = subst (λ seen. Windows before.regs before.base before.start seen ring (windows_moved spilled)) (sym c.seen) l.windows;
        frames = c.frames ∙ l.frames;
        older = l.older;
        even = record {
          pc = l.even.pc ∙ sym c.framed_pc;
          ps = l.even.ps ∙ sym (c.framed_ps before.control.ps.owb);
          threadptr = left_threadptr ∙ c.threadptr;
          waits = running ∙ sym c.awake;
          special = special_even;
        };
        woe = l.woe;
        calls = l.calls;
        vectors = vectors_left;
      }

      related_left : {m : ℕ → ℕ} → Related m b lost before f ring spilled → Related m b (lost_at false g) (as_left before t after) g ring spilled
      related_left {m = m} r = record {
        plain = plain_left r.plain;
        stack = subst (λ seen. Stack b.range.lo b.range.hi seen g.frames) (sym c.seen) (subst (λ frames. Stack b.range.lo b.range.hi f.seen frames) (sym c.frames) r.stack);
        saved = subst (λ seen. Saved (word m) b.range.hi (sp_under (value_or_zero seen 1) ring) spilled) (sym c.seen) r.saved;
      }

    begins_left : (side : Side) (lost : ℕ → Bool) (opened : ℕ → ℕ) (front : List Frame) (moving : Frame) (rest : List Frame) → before.control.waits ≡ false
        → Begins side opened b lost before f front moving rest → Begins side opened b (lost_at false g) (as_left before t after) g front moving rest
    begins_left Overflow lost opened front moving rest running r = related_left running r
    begins_left Underflow lost opened front moving rest running r = related_left running r

    shaped_left : IsShaped (as_left before t after)
    shaped_left = record {
      count = begun.count;
      words = begun.words;
      base = begun.base;
      start = begun.start;
      control = record {
        pc = begun.control.pc;
        count = left_size ∙ c.count;
        words = left_words;
        shape = left_shape;
        ps = begun.control.ps;
        threadptr = left_word before.control.threadptr t.control.threadptr after.control.threadptr begun.control.threadptr c.pointer;
      };
    }

    -- ---- how far it is
    control_left : before.control.waits ≡ false → InHandler (as_left before t after).control after.control before.base
    control_left running = record {
      ps = c.ps ∙ i.ps;
      epc1 = c.epc1 ∙ i.epc1;
      threadptr = sym left_threadptr;
      waits = c.running ∙ sym running;
      size = sym left_size;
      special = λ k not_epc not_bits not_count. sym (left_other k not_epc not_bits not_count);
    }

  same_machine : (m : MemoryContents) → machine m t ≡ machine m after
  same_machine m = let r = sym c.regs in let w = sym c.base in rw (r, w) refl

  pub carried : {code : ℕ → ℕ} {m : MemoryContents} {before : State} {opened : ℕ → ℕ} → Handling code b m t f before opened → Handling code b m after g (as_left before t after) opened
  carried {m = m} {before = before} {opened = opened} h = record {
    side = h.side;
    fresh = false;
    front = h.front;
    g = h.g;
    rest = h.rest;
    begins = begins_left h.control h.shaped h.side (lost_at h.fresh f) opened h.front h.g h.rest h.running h.begins;
    moves = h.moves;
    within = h.within;
    low = h.low;
    running = h.running;
    shaped = shaped_left h.control h.shaped;
    offset = h.offset;
    effect = h.effect;
    flags = h.flags;
    pc = c.pc ∙ h.pc;
    handles = h.handles;
    control = control_left h.control h.shaped h.running;
    bits = c.start ∙ h.bits;
    stands = subst (λ (x : Machine). Stands h.side h.g.by (start_of before opened h.rest) h.effect h.flags x) (same_machine m) h.stands;
    kept = λ a live free. h.kept a (sym (live_same b f g c.seen c.frames a) ∙ live) free;
  }
