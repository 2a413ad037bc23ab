-- The step that begins a nested interrupt, and stores of which each bit is known.
use Rattle.std.specs.Prelude.{IfSome}
use Rattle.std.proofs.Common.{◌≡◌, ◌||◌, ◌&&◌, ◌*◌, ◌%◌, ◌^◌, ◌-◌, ℕ, Bool, true, false, not, eqb, Option, Some, None, ⊎_elim, refl, sym, ◌∙◌, ap, subst}
use Rattle.std.proofs.lemmas.Bool.{and_parts, and_right, cond-true, eqb-true, or_cases}
use Rattle.xt_map.specs.declared.access.Access.{Access}
use Rattle.xt_map.specs.Regions.{is_mapped, is_size, kind_fits, is_memory, is_uart, region_of, uart_takes}
use Rattle.xt_map.specs.Touching.{is_store}
use Rattle.xt_trace.specs.declared.record.StepRecord.{StepRecord}
use Rattle.xt_map.specs.Fetching.{Fetched, fetch_at}
use Rattle.xt_isa.specs.declared.Insn.{Insn}
use Rattle.xt_frames.specs.Frames.{FrameState}
use Rattle.xt_frames.specs.FrameStep.{with_inputs}
use Rattle.xt_frames.specs.Nesting.{begins, nested_entry, current}
use Rattle.xt_frames.specs.Breaches.{fresh_after, inputs_of}
use Rattle.xt_frames.specs.Judging.{value_in}
use Rattle.xt_frames.proofs.Inside.{fresh_begun}
use Rattle.xt_uses.specs.Words.{all_bits}
use Rattle.xt_uses.specs.UseState.{UseState}
use Rattle.xt_uses.specs.UseStep.{UseTurn, carries, step_insn, full_step, inner_unknown, left_after, other_turn, stores_unknown, use_step, value_step}
use Rattle.xt_uses.specs.UseParts.{fresh_use}

value_begun : (code : ℕ → ℕ) (rec : StepRecord) (s : UseState) → value_step code true (value_in rec.write) (inputs_of rec) s.frame ≡ nested_entry (with_inputs (inputs_of rec) s.frame)
unfolding value_step
value_begun code rec s = refl

executed_begun : (f : FrameState) (at : Fetched) → step_insn (nested_entry f).kind at ≡ None
unfolding step_insn
executed_begun f at = refl

pub step_begun : (code : ℕ → ℕ) (nested : Bool) (rec : StepRecord) (bytes : ℕ → ℕ) (s : UseState) → begins nested rec.kind s.frame ≡ true → use_step code nested rec bytes s ≡ other_turn (inner_unknown s.masks) (nested_entry (with_inputs (inputs_of rec) s.frame))
step_begun code nested rec bytes s e =
    let f = with_inputs (inputs_of rec) (current s.frame) in
    let at = fetch_at code f.control.pc in
    let t = other_turn (inner_unknown s.masks) (nested_entry (with_inputs (inputs_of rec) s.frame)) in
    let full : full_step code nested rec bytes s ≡ t = cond-true (begins nested rec.kind s.frame) _ _ e ∙ ap (other_turn (inner_unknown s.masks)) (value_begun code rec s) in
    ap (λ (u : UseTurn). record u { after = left_after (step_insn u.turn.kind at) s u.after }) full
    ∙ ap (λ (o : Option Insn). record t { after = left_after o s t.after }) (executed_begun (with_inputs (inputs_of rec) s.frame) at)

pub fresh_begins : (fresh : Bool) (code : ℕ → ℕ) (nested : Bool) (rec : StepRecord) (bytes : ℕ → ℕ) (s : UseState) → begins nested rec.kind s.frame ≡ true → fresh ≡ fresh_use fresh code nested rec bytes s
fresh_begins fresh code nested rec bytes s e =
    fresh_begun fresh (fetch_at code (current s.frame).control.pc) (with_inputs (inputs_of rec) (current s.frame)) (with_inputs (inputs_of rec) s.frame)
    ∙ sym (ap (λ (u : UseTurn). fresh_of u) (step_begun code nested rec bytes s e))
  where
    fresh_of : UseTurn → Bool
    fresh_of u = fresh_after fresh u.turn.kind (fetch_at code (current s.frame).control.pc) (with_inputs (inputs_of rec) (current s.frame)).control.ps (current u.after.frame).control.ps

-- ---- a value of which each bit is known
whole_bytes : (n : ℕ) → is_size n ≡ true → eqb (all_bits % 2 ^ (8 * n)) (2 ^ (8 * n) - 1) ≡ true
whole_bytes n e = ⊎_elim
    (λ one. let k = eqb-true n 1 one in subst (λ m. eqb (all_bits % 2 ^ (8 * m)) (2 ^ (8 * m) - 1) ≡ true) (sym k) refl)
    (λ more. ⊎_elim
    (λ two. let k = eqb-true n 2 two in subst (λ m. eqb (all_bits % 2 ^ (8 * m)) (2 ^ (8 * m) - 1) ≡ true) (sym k) refl)
    (λ four. let k = eqb-true n 4 four in subst (λ m. eqb (all_bits % 2 ^ (8 * m)) (2 ^ (8 * m) - 1) ≡ true) (sym k) refl)
    (or_cases (eqb n 2) (eqb n 4) more))
    (or_cases (eqb n 1) (eqb n 2 || eqb n 4) e)

pub whole_stored : (o : Option Access) → IfSome o (λ a. is_mapped a ≡ true) → stores_unknown all_bits o ≡ false
whole_stored None h = refl
whole_stored (Some a) h =
    let size = (and_parts (is_size a.size) (kind_fits a.kind a.size && ((is_memory (region_of a.addr) && eqb (a.addr % a.size) 0) || (is_uart a.addr && uart_takes a.kind))) h).0 in
    and_right (is_store a.kind) _ (ap not (whole_bytes a.size size))

pub carries_begun : (code : ℕ → ℕ) (nested : Bool) (rec : StepRecord) (bytes : ℕ → ℕ) (s : UseState) → begins nested rec.kind s.frame ≡ true → IfSome rec.access (λ a. is_mapped a ≡ true) → carries code rec s (use_step code nested rec bytes s) ≡ false
carries_begun code nested rec bytes s e mapped =
    ap (carries code rec s) (step_begun code nested rec bytes s e) ∙ whole_stored rec.access mapped
