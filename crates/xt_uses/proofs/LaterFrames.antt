-- Records that are those of the machine of uses are those of the machine of frames, up to the first breach of the stack discipline.
use Rattle.std.proofs.Common.{◌≡◌, ℕ, Bool, true, false, cond, ltb, ◌⊎◌, inl, inr, ⊎_elim, List, Option, Some, None, refl, sym, ap, ◌∙◌, subst}
use Rattle.std.specs.Prelude.{is_some}
use Rattle.std.proofs.lemmas.Bool.{both_ways, cases_Bool, cond_both}
use Rattle.std.proofs.lemmas.Option.{none-some, same_Some}
use Rattle.xt_isa.specs.declared.Insn.{Insn}
use Rattle.xt_map.specs.declared.access.Access.{Access}
use Rattle.xt_map.specs.declared.access.Kind.{Kind}
use Rattle.xt_map.specs.declared.access.Kind.TheVariants.{Load, Store, Cas}
use Rattle.xt_special.specs.Interrupts.{pending_of}
use Rattle.xt_trace.specs.declared.record.RegWrite.{RegWrite}
use Rattle.xt_trace.specs.declared.record.StepKind.{StepKind}
use Rattle.xt_trace.specs.declared.record.StepKind.TheVariants as kind
use Rattle.xt_trace.specs.declared.record.StepRecord.{StepRecord}
use Rattle.xt_map.specs.Fetching.{Fetched, Fetches, Fails, SpellsNothing, fetch_at}
use Rattle.xt_rows.specs.RowLaws.{IsWord}
use Rattle.xt_frames.specs.declared.holes.Nested.{Nested}
use Rattle.xt_frames.specs.declared.kinds.BreachKind.{BreachKind}
use Rattle.xt_special.specs.Control.{Control}
use Rattle.xt_frames.specs.Frames.{Frame, FrameState}
use Rattle.xt_frames.specs.FrameStep.{FrameTurn, with_inputs, step_with_inputs}
use Rattle.xt_frames.specs.Marks.{mark_read, marked_write}
use Rattle.xt_frames.specs.Nesting.{begins, nested_entry, current, current_in, ends_nested, nested_view, nested_fetched, nested_insn, turn_in}
use Rattle.xt_frames.specs.Breaches.{Bounds, breach_of, fetched_tests, inputs_of, laid_breach, loads_stale, touches_save_area}
use Rattle.xt_frames.specs.Judging.{step_on, value_in}
use Rattle.xt_frames.proofs.Inside.{step_inside}
use Rattle.xt_frames.proofs.Shown.{NoneShown, sound}
use Rattle.xt_frames.proofs.StackSteps.{step_taken, step_waits, turn_if}
use Rattle.xt_uses.specs.Words.{all_bits, masked}
use Rattle.xt_uses.specs.UseState.{UseState}
use Rattle.xt_uses.specs.UseStep.{UseTurn, cut_write, step_insn, inner_unknown, other_turn, receives_mark, reply_mask, use_step, use_turn, value_step}
use Rattle.xt_uses.specs.UseLaws.{AccessFits, KindFits, WriteFits}
use Rattle.xt_uses.proofs.WholeInner.{is_ending}
use Rattle.xt_uses.proofs.WholePlain.{tests_shown}
use Rattle.xt_uses.proofs.WholeRows.{and_all}
use Rattle.xt_uses.proofs.CutWords.{IsWordWrite}

-- ---- the step of the machine of uses shows what its values show, but for the bits that are cut
abbrev pub FromValues : UseTurn → FrameTurn → Type 0
FromValues t u = (t.turn.access ≡ u.access) × ((t.turn.write ≡ u.write) ⊎ (t.turn.write ≡ cut_write t.mask u.write))

used_values : (o : Option Insn) (r : ℕ) (s : UseState) (f : FrameState) (u : FrameTurn) → FromValues (use_turn o r s f u) u
used_values None r s f u = (refl, inl refl)
used_values (Some i) r s f u = (refl, inr refl)

pub from_values : (code : ℕ → ℕ) (nested : Bool) (rec : StepRecord) (bytes : ℕ → ℕ) (s : UseState) → FromValues (use_step code nested rec bytes s) (value_step code (begins nested rec.kind s.frame) (value_in rec.write) (inputs_of rec) s.frame)
from_values code nested rec bytes s = by (begins nested rec.kind s.frame)
  where
    by : (b : Bool) → (let g : FrameState = with_inputs (inputs_of rec) (current s.frame) in let u = value_step code false (value_in rec.write) (inputs_of rec) s.frame in
        FromValues (cond b (other_turn (inner_unknown s.masks) (value_step code true (value_in rec.write) (inputs_of rec) s.frame)) (use_turn (step_insn u.kind (fetch_at code g.control.pc)) (reply_mask bytes rec.access) s g u))
        (value_step code b (value_in rec.write) (inputs_of rec) s.frame))
    by true = (refl, inl refl)
    by false = used_values _ _ s _ _

-- ---- a mark that is received has the value of the record
marked_value : (mark : Option ℕ) (value : ℕ) (o : Option RegWrite) (w : RegWrite) → is_some mark ≡ true → marked_write mark value o ≡ Some w → w.value ≡ value
marked_value None value o w m e = absurd cc
marked_value (Some k) value None w m e = absurd (none-some w e)
marked_value (Some k) value (Some q) w m e = ap (λ (r : RegWrite). r.value) (sym (same_Some (record q { value = value }) w e))

ends_no_mark : (i : Insn) (saved : List (Option ℕ)) → ends_nested i ≡ true → mark_read i saved ≡ None
unfolding mark_read
ends_no_mark i saved h = let q = is_ending i h in subst (λ j. mark_read j saved ≡ None) (sym q.is) refl

insn_mark : (i : Insn) (value : ℕ) (x : Nested) (f : FrameState) (v : FrameTurn) (w : RegWrite) → is_some (mark_read i x.saved) ≡ true → (nested_insn i value x f v).write ≡ Some w → w.value ≡ value
insn_mark i value x f v w m = cond_both (ends_nested i) _ _ (λ (u : FrameTurn). u.write ≡ Some w → w.value ≡ value)
    (λ ends. absurd (both_ways (is_some (mark_read i x.saved)) (ap is_some (ends_no_mark i x.saved ends)) m))
    (λ goes. marked_value (mark_read i x.saved) value v.write w m)

received : (k : StepKind) (i : Insn) (len : ℕ) (x : Nested) → receives_mark (step_insn k (Fetches i len)) (Some x) ≡ true → is_some (mark_read i x.saved) ≡ true
unfolding step_insn
received kind.Insn i len x h = h
received _ i len x h = absurd cc

none_received : (k : StepKind) (address : ℕ) (x : Nested) → receives_mark (step_insn k (Fails address)) (Some x) ≡ true → ⊥
unfolding step_insn
none_received kind.Insn address x h = cc
none_received _ address x h = cc

none_spelled : (k : StepKind) (x : Nested) → receives_mark (step_insn k SpellsNothing) (Some x) ≡ true → ⊥
unfolding step_insn
none_spelled kind.Insn x h = cc
none_spelled _ x h = cc

fetched_mark : (at : Fetched) (k : StepKind) (value : ℕ) (x : Nested) (f : FrameState) (v : FrameTurn) (w : RegWrite) → receives_mark (step_insn k at) (Some x) ≡ true → (nested_fetched at value x f v).write ≡ Some w → w.value ≡ value
fetched_mark (Fetches i len) k value x f v w h = insn_mark i value x f v w (received k i len x h)
fetched_mark (Fails address) k value x f v w h = absurd (none_received k address x h)
fetched_mark SpellsNothing k value x f v w h = absurd (none_spelled k x h)

receives_none : (o : Option Insn) → receives_mark o None ≡ false
receives_none None = refl
receives_none (Some i) = refl

module _ (code : ℕ → ℕ) (nested : Bool) (rec : StepRecord) where
  abbrev at : FrameState → Fetched
  at f = fetch_at code (with_inputs (inputs_of rec) (current f)).control.pc

  pub step_mark : (f : FrameState) (w : RegWrite) → receives_mark (step_insn (step_on code nested rec f).kind (at f)) f.nested ≡ true → (step_on code nested rec f).write ≡ Some w → w.value ≡ value_in rec.write
  step_mark f w h e = by f.nested refl
    where
      by : (n : Option Nested) → f.nested ≡ n → w.value ≡ value_in rec.write
      by None is = absurd (both_ways (receives_mark (step_insn (step_on code nested rec f).kind (at f)) f.nested) (ap (receives_mark (step_insn (step_on code nested rec f).kind (at f))) is ∙ receives_none (step_insn (step_on code nested rec f).kind (at f))) h)
      by (Some x) is =
          let g : FrameState = with_inputs (inputs_of rec) (nested_view x f) in
          let here : receives_mark (step_insn (step_on code nested rec f).kind (fetch_at code g.control.pc)) (Some x) ≡ true =
          subst (λ (n : Option Nested). receives_mark (step_insn (step_on code nested rec f).kind (fetch_at code (with_inputs (inputs_of rec) (current_in n f)).control.pc)) n ≡ true) is h in
          fetched_mark (fetch_at code g.control.pc) (step_on code nested rec f).kind (value_in rec.write) x f (step_with_inputs code rec.reply g) w here
          (sym (ap (λ (u : FrameTurn). u.write) (step_inside code nested rec f x is)) ∙ e)

  -- ---- a step with an access was tested for it
  module _ (b : Bounds) (fresh : Bool) (live stale : ℕ → Bool) where
    abbrev IsTold : Type 0
    IsTold = (loads_stale live stale rec.access ≡ false) × (touches_save_area live rec.access ≡ false)

    fetched_told : (a : Fetched) (g : FrameState) (u : FrameTurn) → NoneShown (fetched_tests b fresh live stale a rec g u) → IsTold
    fetched_told (Fetches i len) g u n = let o = sound b fresh live stale i rec g u n in (o.loads, o.saves)
    fetched_told (Fails address) g u n = (n.1.0, n.0)
    fetched_told SpellsNothing g u n = (n.1.0, n.0)

    laid_told : (g : FrameState) (a : Access) → laid_breach b fresh code live stale rec g ≡ None → (step_with_inputs code rec.reply g).access ≡ Some a → IsTold
    laid_told g a none e = ⊎_elim
        (λ level. absurd (none-some a (sym (ap (λ (u : FrameTurn). u.access) (step_taken code rec.reply g level)) ∙ e)))
        (λ quiet. ⊎_elim
        (λ idle. absurd (none-some a (sym (ap (λ (u : FrameTurn). u.access) (step_waits code rec.reply g quiet idle)) ∙ e)))
        (λ runs. fetched_told (fetch_at code g.control.pc) g _ (tests_shown code b fresh live stale rec g quiet runs none))
        (cases_Bool g.control.waits))
        (cases_Bool (ltb 0 (pending_of g.control)))

    access_inside : (at : Fetched) (value : ℕ) (x : Nested) (f : FrameState) (u : FrameTurn) → (nested_fetched at value x f u).access ≡ u.access
    access_inside (Fetches i len) value x f u = turn_if (λ (v : FrameTurn). v.access ≡ u.access) (ends_nested i) _ _ refl refl
    access_inside (Fails address) value x f u = refl
    access_inside SpellsNothing value x f u = refl

    abbrev Told_of : FrameState → Type 0
    Told_of f = (starts : Bool) (a : Access) → cond {A = Option BreachKind} starts None (laid_breach b fresh code live stale rec (with_inputs (inputs_of rec) (current f))) ≡ None
        → (cond starts (nested_entry (with_inputs (inputs_of rec) f)) (turn_in f.nested code (value_in rec.write) (inputs_of rec) f)).access ≡ Some a → IsTold

    plain_told : (seen : List (Option ℕ)) (frames : List Frame) (control : Control) (unset : List Bool) → Told_of (record { seen = seen; frames = frames; control = control; unset = unset; nested = None })
    plain_told seen frames control unset true a none e = absurd (none-some a e)
    plain_told seen frames control unset false a none e = laid_told _ a none e

    inner_told : (seen : List (Option ℕ)) (frames : List Frame) (control : Control) (unset : List Bool) (x : Nested) → Told_of (record { seen = seen; frames = frames; control = control; unset = unset; nested = Some x })
    inner_told seen frames control unset x true a none e = absurd (none-some a e)
    inner_told seen frames control unset x false a none e =
        let f : FrameState = record { seen = seen; frames = frames; control = control; unset = unset; nested = Some x } in
        let g : FrameState = with_inputs (inputs_of rec) (nested_view x f) in
        laid_told g a none (sym (access_inside (fetch_at code g.control.pc) (value_in rec.write) x f (step_with_inputs code rec.reply g)) ∙ e)

    told_by : (f : FrameState) (n : Option Nested) → f.nested ≡ n → Told_of f
    told_by f None e = subst Told_of (λ i. record f { nested = sym e i }) (plain_told f.seen f.frames f.control f.unset)
    told_by f (Some x) e = subst Told_of (λ i. record f { nested = sym e i }) (inner_told f.seen f.frames f.control f.unset x)

    pub step_told : (f : FrameState) (a : Access) → breach_of b fresh code live stale nested rec f ≡ None → (step_on code nested rec f).access ≡ Some a → IsTold
    step_told f a none e = told_by f f.nested refl (begins nested rec.kind f) a none e

-- ---- what a record shows, where it fits
pub write_same : (mask : ℕ) (v t u : Option RegWrite) → WriteFits mask v t → (t ≡ u) ⊎ (t ≡ cut_write mask u) → (is_some t ≡ true → (mask ≡ all_bits) ⊎ ((w : RegWrite) → u ≡ Some w → w.value ≡ value_in v)) → IsWordWrite v → IsWordWrite u → v ≡ u
write_same mask None None u fits from left p q = ⊎_elim (λ e. e) (λ e. cut_none u e) from
  where
    cut_none : (u : Option RegWrite) → None ≡ cut_write mask u → None ≡ u
    cut_none None e = refl
    cut_none (Some w) e = absurd (none-some (record w { value = masked mask w.value }) e)
write_same mask None (Some t) u fits from left p q = absurd fits
write_same mask (Some v) None u fits from left p q = absurd fits
write_same mask (Some v) (Some t) None fits from left p q = absurd (⊎_elim (λ e. none-some t (sym e)) (λ e. none-some t (sym e)) from)
write_same mask (Some v) (Some t) (Some u) fits from left p q =
    ap (λ w. Some w) (λ i. record { reg = reg i; value = value i })
  where
    reg : v.reg ≡ u.reg
    reg = fits.0 ∙ ⊎_elim (λ e. ap (λ (w : RegWrite). w.reg) (same_Some t u e)) (λ e. ap (λ (w : RegWrite). w.reg) (same_Some t (record u { value = masked mask u.value }) e)) from

    whole : mask ≡ all_bits → v.value ≡ u.value
    whole all =
        let uncut : masked mask u.value ≡ u.value = ap (λ k. masked k u.value) all ∙ and_all u.value q in
        sym (ap (λ k. masked k v.value) all ∙ and_all v.value p) ∙ (fits.1 ∙ ⊎_elim (λ e. ap (λ (w : RegWrite). w.value) (same_Some t u e)) (λ e. ap (λ (w : RegWrite). w.value) (same_Some t (record u { value = masked mask u.value }) e) ∙ uncut) from)

    value : v.value ≡ u.value
    value = ⊎_elim whole (λ marked. sym (marked u refl)) (left refl)

kind_same : (k l : Kind) → KindFits all_bits k l → ((v : ℕ) → k ≡ Store v → IsWord v) → k ≡ l
kind_same (Store v) (Store w) h p = ap Store (sym (and_all v (p v refl)) ∙ h)
kind_same Load Load h p = refl
kind_same Load (Store w) h p = h
kind_same Load (Cas x y) h p = h
kind_same (Store v) Load h p = h
kind_same (Store v) (Cas x y) h p = h
kind_same (Cas x y) l h p = h

pub access_same : (v t : Option Access) → AccessFits all_bits v t → ((a : Access) (n : ℕ) → v ≡ Some a → a.kind ≡ Store n → IsWord n) → v ≡ t
access_same None None h p = refl
access_same None (Some b) h p = absurd h
access_same (Some a) None h p = absurd h
access_same (Some a) (Some b) h p = ap (λ x. Some x) (λ i. record { addr = h.0 i; size = h.1 i; kind = kind_same a.kind b.kind h.2 (λ n e. p a n refl e) i })
