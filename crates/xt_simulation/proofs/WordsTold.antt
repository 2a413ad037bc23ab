-- What a record tells of a turn in a state with its shape, over memory: words, and an access that the bus serves.
use Rattle.std.proofs.Common.{◌≡◌, ℕ, ◌*◌, ◌^◌, ◌<◌, ◌≤◌, true, Option, Some, None, slice_index, slice_set, length, sym, ◌∙◌, arith, ltb-true, subst}
use Rattle.std.proofs.lemmas.Bool.{and_parts}
use Rattle.std.proofs.lemmas.Option.{same_Some}
use Rattle.std.proofs.Math.Nat.{pow-le-pow_right}
use Rattle.std.proofs.lemmas.List.{get_or-set_same, length-set}
use Rattle.xt_map.specs.declared.access.Access.{Access}
use Rattle.xt_map.specs.declared.access.Kind.{Kind}
use Rattle.xt_map.specs.declared.access.Kind.TheVariants.{Store}
use Rattle.xt_map.specs.declared.contents.MemoryContents.{MemoryContents}
use Rattle.xt_map.specs.Regions.{is_mapped, is_size, kind_fits}
use Rattle.xt_map.specs.Touching.{IsMemory}
use Rattle.xt_map.proofs.Alike.{size_small}
use Rattle.xt_special.specs.Numbers as number
use Rattle.xt_window.specs.Ring.{place}
use Rattle.xt_trace.specs.declared.record.RegWrite.{RegWrite}
use Rattle.xt_trace.specs.declared.record.StepRecord.{StepRecord}
use Rattle.xt_map.specs.Code.{AreBytes}
use Rattle.xt_rows.specs.RowLaws.{IsWord}
use Rattle.xt_exec.specs.State.{State}
use Rattle.xt_exec.specs.TurnLaws.{IsServed, IsShaped}
use Rattle.xt_exec.specs.Turn.{demand, planned_turn, turn, with_write, write_with_reply}
use Rattle.xt_exec.proofs.Served.{demand_served}
use Rattle.xt_simulation.specs.Steps.{record_now, reply_now}
use Rattle.xt_simulation.proofs.Judges.{record_access, record_reply, shaped_now}
use Rattle.xt_simulation.proofs.Memories.{reply_small}

-- what holds of each record
pub record ToldWords (rec : StepRecord) : Type 0 where
  pub ccount : IsWord rec.ccount
  pub interrupt : IsWord rec.interrupt
  pub reply : IsWord rec.reply
  pub write : (w : RegWrite) → rec.write ≡ Some w → IsWord w.value
  pub served : (a : Access) → rec.access ≡ Some a → is_mapped a ≡ true

pub stored_small : (a : Access) (v : ℕ) → is_mapped a ≡ true → a.kind ≡ Store v → IsWord v
stored_small a v mapped e =
    let size = size_small a mapped in
    let fits : kind_fits a.kind a.size ≡ true = (and_parts (kind_fits a.kind a.size) _ (and_parts (is_size a.size) _ mapped).1).0 in
    let less : v < 2 ^ (8 * a.size) = ltb-true v (2 ^ (8 * a.size)) (subst (λ (k : Kind). kind_fits k a.size ≡ true) e fits) in
    let wide : 8 * a.size ≤ 32 = omega (arith, size) in
    let bound : 2 ^ (8 * a.size) ≤ 2 ^ 32 = pow-le-pow_right (omega arith) wide in
    omega (arith, less, bound)

-- a register of a state with its shape holds what was written last
written_word : (o : Option RegWrite) (t : State) (w : RegWrite) → IsShaped (with_write o t) → o ≡ Some w → IsWord w.value
written_word None t w k e = absurd cc
written_word (Some v) t w k e =
    let size : length t.regs ≡ 64 = sym (length-set t.regs (place t.base v.reg) v.value) ∙ k.count in
    let low : place t.base v.reg < length t.regs = omega (arith, size) in
    let is : slice_index (slice_set t.regs (place t.base v.reg) v.value) (place t.base v.reg) ≡ v.value = get_or-set_same t.regs (place t.base v.reg) v.value 0 low in
    subst (λ (z : RegWrite). IsWord z.value) (same_Some v w e) (subst IsWord is (k.words (place t.base v.reg)))

module _ (code : ℕ → ℕ) (bytes : AreBytes code) (m : MemoryContents) (real : IsMemory m) (s : State) (shaped : IsShaped s) where
  served_now : IsServed (record_now code m s).access
  served_now = subst (λ (o : Option Access). IsServed o) (sym (record_access code s (reply_now code m s))) (demand_served code s)

  told_ccount : IsWord (record_now code m s).ccount
  unfolding turn
  told_ccount = shaped.control.words number.ccount

  told_interrupt : IsWord (record_now code m s).interrupt
  unfolding turn
  told_interrupt = shaped.control.words number.interrupt

  told_write : (w : RegWrite) → (record_now code m s).write ≡ Some w → IsWord w.value
  unfolding turn
  told_write w e = written_word (write_with_reply (planned_turn code s).write (planned_turn code s).awaited (reply_now code m s)) (planned_turn code s).after w (shaped_now code m s bytes shaped real) e

  pub told_now : ToldWords (record_now code m s)
  told_now = record {
    ccount = told_ccount;
    interrupt = told_interrupt;
    reply = subst IsWord (sym (record_reply code m s)) (reply_small m (demand code s) real (demand_served code s));
    write = told_write;
    served = λ a e. subst (λ (o : Option Access). IsServed o) e served_now;
  }
