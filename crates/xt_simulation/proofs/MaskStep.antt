-- After each step of the machine of uses all masks are words.
use Rattle.std.proofs.Common.{◌≡◌, ℕ, zero, suc, ◌^◌, ◌<◌, ◌≤◌, Bool, true, false, Option, Some, None, cond, get_or, ap, ◌∙◌, refl, arith}
use Rattle.std.specs.Prelude.{◌&&◌, not}
use Rattle.xt_isa.specs.declared.Insn.{Insn}
use Rattle.xt_isa.specs.Ranges.{in_range}
use Rattle.xt_map.specs.declared.access.Access.{Access}
use Rattle.xt_map.specs.Regions.{is_mapped, is_memory, region_of}
use Rattle.xt_map.specs.Touching.{is_store}
use Rattle.xt_map.proofs.Alike.{size_small}
use Rattle.xt_trace.specs.declared.record.StepKind.{StepKind}
use Rattle.xt_trace.specs.declared.record.StepKind.TheVariants as kind
use Rattle.xt_trace.specs.declared.record.StepRecord.{StepRecord}
use Rattle.xt_map.specs.Code.{AreBytes}
use Rattle.xt_map.specs.Fetching.{Fetched, Fetches, fetch_at}
use Rattle.xt_map.proofs.Fetches.{fetched_range}
use Rattle.xt_rows.specs.Operands.{reads, special_reads}
use Rattle.xt_frames.specs.Frames.{FrameState}
use Rattle.xt_frames.specs.FrameStep.{FrameTurn, with_inputs}
use Rattle.xt_frames.specs.Marks.{holds_marks}
use Rattle.xt_frames.specs.Nesting.{begins, current}
use Rattle.xt_frames.specs.Breaches.{inputs_of}
use Rattle.xt_frames.specs.Judging.{value_in}
use Rattle.xt_uses.specs.Words.{all_bits, complement}
use Rattle.xt_uses.specs.Used.{counted_bits}
use Rattle.xt_uses.specs.Known.{result_mask}
use Rattle.xt_uses.specs.UseState.{UseState, current_masks, first_word, second_word, special_operand, special_word, visible_word}
use Rattle.xt_uses.specs.UseStep.{step_insn, full_step, inner_unknown, other_turn, reply_mask, unknown_bits, use_step, use_turn, value_step}
use Rattle.xt_uses.proofs.Bits.{flipped_word}
use Rattle.xt_uses.proofs.Owb.{counted_word}
use Rattle.xt_uses.proofs.RowsWords.{result_word}
use Rattle.xt_simulation.proofs.Leaves.{words_left}
use Rattle.xt_simulation.proofs.MaskWords.{AreSmall, MaskWords, begin_small, now_small, past_small}

-- ---- of a reply
pub unknown_small : (kb : ℕ → ℕ) (a n : ℕ) → n ≤ 4 → unknown_bits kb a n < 2 ^ 32
unknown_small kb a zero h = omega arith
unknown_small kb a (suc zero) h = omega arith
unknown_small kb a (suc (suc zero)) h = omega arith
unknown_small kb a (suc (suc (suc zero))) h = omega arith
unknown_small kb a (suc (suc (suc (suc zero)))) h = omega arith
unknown_small kb a (suc (suc (suc (suc (suc n))))) h = absurd (omega arith)

pub reply_small : (kb : ℕ → ℕ) (o : Option Access) → ((a : Access) → o ≡ Some a → is_mapped a ≡ true) → reply_mask kb o < 2 ^ 32
reply_small kb None mapped = omega arith
reply_small kb (Some a) mapped = by_region (is_memory (region_of a.addr) && not (is_store a.kind))
  where
    by_region : (t : Bool) → cond t (complement (unknown_bits kb a.addr a.size)) all_bits < 2 ^ 32
    by_region true = flipped_word (unknown_bits kb a.addr a.size) (unknown_small kb a.addr a.size (size_small a (mapped a refl)))
    by_region false = omega arith

-- ---- of the words that a row reads
now_word : (s : UseState) → MaskWords s.masks → AreSmall (current_masks s)
now_word s w = (now_small s w).seen

pub visible_word_small : (s : UseState) (f : FrameState) (o : Option ℕ) → MaskWords s.masks → (visible_word s f o).mask < 2 ^ 32
visible_word_small s f None w = omega arith
visible_word_small s f (Some i) w = now_word s w i

pub special_word_small : (s : UseState) (f : FrameState) (o : Option ℕ) → MaskWords s.masks → (special_word s f o).mask < 2 ^ 32
special_word_small s f None w = omega arith
special_word_small s f (Some n) w = by_mark (holds_marks n)
  where
    by_mark : (b : Bool) → cond b (get_or s.masks.special n 0) (counted_bits s.masks.discipline n) < 2 ^ 32
    by_mark true = w.special n
    by_mark false = counted_word s.masks.discipline n

-- ---- a step
kind_range : (code : ℕ → ℕ) → AreBytes code → (pc : ℕ) (i : Insn) (k : StepKind) (f : Fetched) → fetch_at code pc ≡ f → step_insn k f ≡ Some i → in_range i ≡ true
unfolding step_insn
kind_range code bytes pc i kind.Insn (Fetches j len) same e = let is : j ≡ i = cc in fetched_range code pc i len bytes (same ∙ ap (λ z. Fetches z len) is)
kind_range code bytes pc i _ _ same e = absurd cc

executed_range : (code : ℕ → ℕ) → AreBytes code → (pc : ℕ) (k : StepKind) (i : Insn) → step_insn k (fetch_at code pc) ≡ Some i → in_range i ≡ true
executed_range code bytes pc k i e = kind_range code bytes pc i k (fetch_at code pc) refl e

turn_small : (o : Option Insn) (reply : ℕ) (s : UseState) (f : FrameState) (u : FrameTurn) → ((i : Insn) → o ≡ Some i → in_range i ≡ true) → reply < 2 ^ 32 → MaskWords s.masks → MaskWords (use_turn o reply s f u).after.masks
turn_small None reply s f u ok h w = w
turn_small (Some i) reply s f u ok h w =
    let x = visible_word_small s f (reads i).0 w in
    let y = visible_word_small s f (reads i).1 w in
    let z = special_word_small s f (special_reads i).0 w in
    past_small i (result_mask s.masks.discipline i (first_word i s f) (second_word i s f) (special_operand i s f) s.masks.threadptr reply) s f u
    (result_word (first_word i s f) (second_word i s f) x y s.masks.discipline i (ok i refl) (special_operand i s f) s.masks.threadptr reply z w.threadptr h)
    x
    w

full_small : (code : ℕ → ℕ) → AreBytes code → (nested : Bool) (rec : StepRecord) (kb : ℕ → ℕ) (s : UseState) → reply_mask kb rec.access < 2 ^ 32 → MaskWords s.masks → MaskWords (full_step code nested rec kb s).after.masks
full_small code bytes nested rec kb s reply w = by_begin (begins nested rec.kind s.frame)
  where
    f : FrameState
    f = with_inputs (inputs_of rec) (current s.frame)

    u : FrameTurn
    u = value_step code false (value_in rec.write) (inputs_of rec) s.frame

    other : MaskWords (use_turn (step_insn u.kind (fetch_at code f.control.pc)) (reply_mask kb rec.access) s f u).after.masks
    other = turn_small (step_insn u.kind (fetch_at code f.control.pc)) (reply_mask kb rec.access) s f u (executed_range code bytes f.control.pc u.kind) reply w

    by_begin : (b : Bool) → MaskWords (cond b (other_turn (inner_unknown s.masks) (value_step code true (value_in rec.write) (inputs_of rec) s.frame)) (use_turn (step_insn u.kind (fetch_at code f.control.pc)) (reply_mask kb rec.access) s f u)).after.masks
    by_begin true = begin_small s.masks w
    by_begin false = other

pub step_small : (code : ℕ → ℕ) → AreBytes code → (nested : Bool) (rec : StepRecord) (kb : ℕ → ℕ) (s : UseState) → reply_mask kb rec.access < 2 ^ 32 → MaskWords s.masks → MaskWords (use_step code nested rec kb s).after.masks
step_small code bytes nested rec kb s reply w = words_left _ s (full_step code nested rec kb s).after (full_small code bytes nested rec kb s reply w)
