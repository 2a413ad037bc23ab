-- Equal values give equal outcomes, and an effect applied to both machines keeps them level.
use Rattle.std.proofs.Common.{◌≡◌, ℕ, ◌+◌, ◌/◌, ◌<◌, Bool, true, false, ◌||◌, List, Option, Some, None, sym, ap, ◌∙◌, refl, subst, get_or}
use Rattle.std.specs.Prelude.{unwrap_or}
use Rattle.std.proofs.lemmas.Bool.{or_from, or_parts}
use Rattle.xt_isa.specs.declared.Insn.{Insn}
use Rattle.xt_special.specs.Numbers as number
use Rattle.xt_special.specs.Control.{Control, special_of}
use Rattle.xt_special.specs.Exceptions.{after_exception}
use Rattle.xt_window.specs.Ring.{visible}
use Rattle.xt_trace.specs.declared.record.RegWrite.{RegWrite}
use Rattle.xt_rows.specs.declared.outcome.Outcome.{Outcome}
use Rattle.xt_rows.specs.declared.outcome.Outcome.TheVariants.{Does, Raises, Asks, Stops, Windowed}
use Rattle.xt_rows.specs.Operands.{reads, special_reads}
use Rattle.xt_rows.specs.Outcomes.{outcome_at, value_of}
use Rattle.xt_rows.specs.Settling.{Settled, after_outcome, settled_exception, after_effect}
use Rattle.xt_exec.specs.State.{State}
use Rattle.xt_exec.specs.Turn.{in_window, kind_of, write_with_reply, with_write}
use Rattle.xt_frames.specs.Frames.{Frame, FrameState, value_or_zero, windows_moved, seen_after_write}
use Rattle.xt_frames.specs.FrameStep.{FrameTurn, in_frame}
use Rattle.xt_frames.specs.declared.holes.Nested.{Nested}
use Rattle.xt_frames.specs.Breaches.{lost_of, lacks, is_unset, reads_none, reads_none_in, reads_unset, reads_lost, reads_epc1, loses_epc1}
use Rattle.xt_frames.proofs.Shown.{KeepsSp, sp_written}
use Rattle.xt_simulation.specs.Ring.{Windows}
use Rattle.xt_simulation.specs.Stacks.{sp_under}
use Rattle.xt_simulation.specs.Relation.{Even, Level, lost_at}
use Rattle.xt_simulation.proofs.Kept as kept
use Rattle.xt_simulation.proofs.Windowed.{some_value, visible_value}
use Rattle.xt_exec.specs.Finishing.{Turn, finished_turn}
use Rattle.xt_simulation.specs.JudgedSteps.{Steps}
use Rattle.xt_simulation.proofs.Evenly.{same_at, even_effect, even_ticked, even_raise}

-- ---- equal values
-- what an instruction reads
pub record Reads (fresh : Bool) (i : Insn) (g : FrameState) : Type 0 where
  pub first : lacks g.seen (reads i).0 ≡ false
  pub second : lacks g.seen (reads i).1 ≡ false
  pub special : is_unset g.unset (special_reads i).0 ≡ false
  pub other : is_unset g.unset (special_reads i).1 ≡ false
  pub lost : reads_lost fresh (special_reads i).0 ≡ false
  pub other_lost : reads_lost fresh (special_reads i).1 ≡ false

pub what_is_read : (fresh : Bool) (i : Insn) (g : FrameState) → reads_unset i g ≡ false → reads_epc1 fresh i ≡ false → Reads fresh i g
what_is_read fresh i g unset lost =
    let a = or_parts (lacks g.seen (reads i).0) (lacks g.seen (reads i).1 || (is_unset g.unset (special_reads i).0 || is_unset g.unset (special_reads i).1)) unset in
    let b = or_parts (lacks g.seen (reads i).1) (is_unset g.unset (special_reads i).0 || is_unset g.unset (special_reads i).1) a.1 in
    let c = or_parts (is_unset g.unset (special_reads i).0) (is_unset g.unset (special_reads i).1) b.1 in
    let e = or_parts (reads_lost fresh (special_reads i).0) (reads_lost fresh (special_reads i).1) lost in
    record { first = a.0; second = b.0; special = c.0; other = c.1; lost = e.0; other_lost = e.1 }

module _ (fresh : Bool) (s : State) (g : FrameState) (even : Even (lost_at fresh g) s.control g.control) (numbers : (i v : ℕ) → get_or g.seen i None ≡ Some v → visible s.regs s.base i ≡ v) where
  same_value : (o : Option ℕ) → lacks g.seen o ≡ false → value_of (visible s.regs s.base) o ≡ value_of (value_or_zero g.seen) o
  same_value None h = refl
  same_value (Some k) h =
      let v = some_value (get_or g.seen k None) h in
      let b : value_or_zero g.seen k ≡ v.0 = ap (λ o. unwrap_or o 0) v.1 in
      numbers k v.0 v.1 ∙ sym b

  same_special : (o : Option ℕ) → reads_lost fresh o ≡ false → is_unset g.unset o ≡ false → value_of (special_of s.control) o ≡ value_of (special_of g.control) o
  same_special None h u = refl
  same_special (Some k) h u = even.special.at k (or_from (lost_of fresh k) (get_or g.unset k false) h u)

  pub outcome_read : (code : ℕ → ℕ) (i : Insn) → Reads fresh i g → outcome_at code i (visible s.regs s.base) s.control ≡ outcome_at code i (value_or_zero g.seen) g.control
  outcome_read code i r =
      let x = same_value (reads i).0 r.first in
      let y = same_value (reads i).1 r.second in
      let p = same_special (special_reads i).0 r.lost r.special in
      let q = same_special (special_reads i).1 r.other_lost r.other in
      let a = even.pc in
      let b = even.ps in
      let c = even.threadptr in
      cc

-- outside nested interrupts
pub same_outcome : {vecbase : ℕ} (fresh : Bool) {s : State} {g : FrameState} {ring spilled : List Frame} → Level vecbase (lost_at fresh g) s g ring spilled → (code : ℕ → ℕ) (i : Insn) → g.nested ≡ None → reads_none i g ≡ false → loses_epc1 g.nested fresh i ≡ false → outcome_at code i (visible s.regs s.base) s.control ≡ outcome_at code i (value_or_zero g.seen) g.control
same_outcome fresh {s = s} {g = g} l code i plain unset lost =
    let u : reads_unset i g ≡ false = subst (λ (o : Option Nested). reads_none_in o i g ≡ false) plain unset in
    let n : reads_epc1 fresh i ≡ false = subst (λ (o : Option Nested). loses_epc1 o fresh i ≡ false) plain lost in
    outcome_read fresh s g l.even (visible_value l.windows) code i (what_is_read fresh i g u n)

-- ---- what a turn leaves beside the registers
pub record Alike (lost : ℕ → Bool) (t u : Settled) : Type 0 where
  pub kind : t.kind ≡ u.kind
  pub write : t.write ≡ u.write
  pub access : t.access ≡ u.access
  pub awaited : t.awaited ≡ u.awaited
  pub even : Even lost t.control u.control

pub raise_alike : {lost : ℕ → Bool} (cause : ℕ) (addr : Option ℕ) (c d : Control) → Even lost c d → Alike lost (settled_exception cause addr c) (settled_exception cause addr d)
raise_alike cause addr c d e = record { kind = refl; write = refl; access = refl; awaited = refl; even = even_ticked (after_exception cause addr c) (after_exception cause addr d) (even_raise cause addr c d e) }

pub settled_alike : {lost : ℕ → Bool} (o : Outcome) (len : ℕ) (c d : Control) → Even lost c d → Alike lost (after_outcome o len c) (after_outcome o len d)
settled_alike (Does e) len c d h = record { kind = refl; write = refl; access = refl; awaited = refl; even = even_ticked (after_effect e len c) (after_effect e len d) (even_effect e len c d h) }
settled_alike (Raises cause addr) len c d h = raise_alike cause addr c d h
settled_alike (Asks access awaited e) len c d h = record { kind = refl; write = refl; access = refl; awaited = refl; even = even_ticked (after_effect e len c) (after_effect e len d) (even_effect e len c d h) }
settled_alike Stops len c d h = record { kind = refl; write = refl; access = refl; awaited = refl; even = even_ticked c d h }
settled_alike (Windowed step) len c d h = record { kind = refl; write = refl; access = refl; awaited = refl; even = even_ticked c d h }

-- ---- a write in both machines
abbrev pub HasRoom : List Frame → Option RegWrite → Type 0
HasRoom ring None = Unit {0}
HasRoom ring (Some w) = (w.reg < 16) × (windows_moved ring + w.reg / 4 < 16)

pub write_keeps : (o : Option RegWrite) (s : State) → ((with_write o s).base ≡ s.base) × ((with_write o s).start ≡ s.start) × ((with_write o s).control ≡ s.control)
write_keeps None s = (refl, refl, refl)
write_keeps (Some w) s = (refl, refl, refl)

pub write_control : (o : Option RegWrite) (s : State) → (with_write o s).control ≡ s.control
write_control o s = (write_keeps o s).2

pub written_windows : {seen : List (Option ℕ)} {ring : List Frame} {low : ℕ} (s : State) (o : Option RegWrite) → Windows s.regs s.base s.start seen ring low → HasRoom ring o → Windows (with_write o s).regs (with_write o s).base (with_write o s).start (seen_after_write o seen) ring low
written_windows s None w h = w
written_windows s (Some x) w h = kept.written w x.reg x.value h.0 h.1

-- what is known of the states after both steps
pub record Ends (vecbase : ℕ) (t : Turn) (u : FrameTurn) : Type 0 where
  pub calls : t.after.control.ps.callinc < 4
  pub woe : u.after.control.ps.woe ≡ true
  pub vectors : special_of u.after.control number.vecbase ≡ vecbase

pub even_level : {vecbase : ℕ} {lost : ℕ → Bool} {c d : Control} → Even lost c d → special_of d number.vecbase ≡ vecbase → special_of c number.vecbase ≡ vecbase
even_level e v = same_at e.special 231 refl ∙ v

pub in_both : {vecbase : ℕ} {old lost : ℕ → Bool} {s : State} {g : FrameState} {ring spilled : List Frame} → Level vecbase old s g ring spilled → (t u : Settled) (reply : ℕ) → Alike lost t u
    → HasRoom ring (write_with_reply t.write t.awaited reply) → KeepsSp (write_with_reply t.write t.awaited reply) → Ends vecbase (finished_turn (in_window t s) reply) (in_frame u reply g)
    → Steps vecbase lost spilled (sp_under (value_or_zero g.seen 1) ring) (finished_turn (in_window t s) reply) (in_frame u reply g)
in_both {lost = lost} {s = s} {g = g} {ring = ring} {spilled = spilled} l t u reply a room keeps ends =
    let same : write_with_reply t.write t.awaited reply ≡ write_with_reply u.write u.awaited reply = (let w = a.write in let x = a.awaited in rw (w, x) refl) in
    let control : (with_write (write_with_reply t.write t.awaited reply) (record s { control = t.control })).control ≡ t.control = write_control (write_with_reply t.write t.awaited reply) (record s { control = t.control }) in
    let even : Even lost (with_write (write_with_reply t.write t.awaited reply) (record s { control = t.control })).control u.control = rw control a.even in
    record {
      kind = ap kind_of a.kind;
      write = same;
      access = a.access;
      ring = ring;
      level = record {
        windows = rw (← same) (written_windows (record s { control = t.control }) (write_with_reply t.write t.awaited reply) l.windows room);
        frames = l.frames;
        older = l.older;
        even = even;
        woe = ap (λ p. p.woe) even.ps ∙ ends.woe;
        calls = ends.calls;
        vectors = even_level even ends.vectors;
      };
      same = ap (λ x. sp_under x ring) (ap (λ o. value_or_zero (seen_after_write o g.seen) 1) (sym same) ∙ sp_written g.seen (write_with_reply t.write t.awaited reply) keeps);
    }
