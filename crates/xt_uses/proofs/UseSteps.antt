-- The values of a step of the machine of uses, as the program makes them.
use Rattle.std.specs.Prelude.{is_some, unwrap_or}
use Rattle.std.proofs.Common.{◌≡◌, ◌||◌, ℕ, Bool, true, false, ltb, List, Option, Some, None, refl, sym, ◌∙◌, ap, cond, get_or, subst}
use Rattle.std.proofs.Math.ListN.{set}
use Rattle.std.proofs.lemmas.Bool.{cond-true, or_left}
use Rattle.xt_isa.specs.declared.Insn.{Insn}
use Rattle.xt_isa.specs.declared.Insn.TheVariants as insn
use Rattle.xt_isa.specs.declared.shift.Shift.TheVariants as shift
use Rattle.xt_special.specs.Interrupts.{pending_of}
use Rattle.xt_trace.specs.declared.record.RegWrite.{RegWrite}
use Rattle.xt_trace.specs.declared.record.StepRecord.{StepRecord}
use Rattle.xt_map.specs.Fetching.{Fetched, Fetches, Fails, SpellsNothing, fetch_at}
use Rattle.xt_rows.specs.Kinds.{moved_to}
use Rattle.xt_frames.specs.declared.holes.UndefinedParts.{UndefinedParts}
use Rattle.xt_frames.specs.declared.holes.Nested.{Nested}
use Rattle.xt_frames.specs.Frames.{Frame, FrameState}
use Rattle.xt_frames.specs.FrameStep.{FrameTurn, with_inputs, step_with_inputs}
use Rattle.xt_frames.specs.Marks.{mark_read, marked_write}
use Rattle.xt_frames.specs.Nesting.{current, current_in, ends_nested, nested_view, nested_fetched, turn_in, unset_after}
use Rattle.xt_frames.specs.Breaches.{inputs_of}
use Rattle.xt_frames.specs.KeptFrameState.{Upper, state_at, turn_as}
use Rattle.xt_uses.specs.declared.stepping.Made.{Made}
use Rattle.xt_frames.proofs.Inside.{kind_inside}
use Rattle.xt_frames.proofs.StackSteps.{turn_if}
use Rattle.xt_uses.specs.UseState.{ValidityBits, UseState}
use Rattle.xt_uses.specs.UseStep.{cut_number, cut_seen, cut_state, cut_write, fetched_movsp, movsp_of, turn_or, use_turn, value_step, visible_written}
use Rattle.xt_uses.specs.UseParts.{register_of, settled_in, write_where}

-- ---- the register that is written alone counts
pub visible_same : (nested : Bool) (w v : Option RegWrite) (mask : ℕ) (m : ValidityBits) → register_of w ≡ register_of v → visible_written nested w mask m ≡ visible_written nested v mask m
visible_same nested None None mask m e = refl
visible_same nested None (Some v) mask m e = absurd cc
visible_same nested (Some w) None mask m e = absurd cc
visible_same true (Some w) (Some v) mask m e = let same : w.reg ≡ v.reg = cc in ap (λ n. record m { inner = set m.inner n mask }) same
visible_same false (Some w) (Some v) mask m e = let same : w.reg ≡ v.reg = cc in ap (λ n. record m { seen = set m.seen n mask }) same

-- ---- MOVSP gives no special register a number
moved_still : (at : Fetched) (g : FrameState) (t : FrameTurn) → fetched_movsp at g ≡ Some t → record t { after = record t.after { unset = unset_after t.kind at g.unset } } ≡ t
unfolding fetched_movsp moved_to
moved_still (Fetches (insn.Shift (shift.Movsp t s)) len) g u e =
    let same = ap (λ (o : Option FrameTurn). unwrap_or o u) e in
    subst (λ (v : FrameTurn). record v { after = record v.after { unset = unset_after v.kind (Fetches (insn.Shift (shift.Movsp t s)) len) g.unset } } ≡ v) same refl
moved_still _ g u e = absurd cc

-- the special registers that receive a number
abbrev pub numbered : Fetched → List Bool → FrameTurn → FrameTurn
numbered at unset u = record u { after = record u.after { unset = unset_after u.kind at unset } }

numbered_or : (at : Fetched) (g : FrameState) (o : Option FrameTurn) (l : FrameTurn) → ((t : FrameTurn) → o ≡ Some t → fetched_movsp at g ≡ Some t) → numbered at g.unset (turn_or o l) ≡ turn_or o (numbered at g.unset l)
numbered_or at g None l h = refl
numbered_or at g (Some t) l h = moved_still at g t (h t refl)

-- where MOVSP is made, it is fetched
if_made : (b : Bool) (o : Option FrameTurn) (t : FrameTurn) → cond b None o ≡ Some t → o ≡ Some t
if_made true o t e = absurd cc
if_made false o t e = e

-- ---- outside nested interrupts
pub value_plain : (code : ℕ → ℕ) (value : ℕ) (rec : StepRecord) (f : FrameState) → f.nested ≡ None
    → (let g = with_inputs (inputs_of rec) f in numbered (fetch_at code g.control.pc) f.unset (turn_or (movsp_of code g) (step_with_inputs code rec.reply g))) ≡ value_step code false value (inputs_of rec) f
unfolding value_step
value_plain code value rec f none =
    let inp = inputs_of rec in
    let g = with_inputs inp f in
    numbered_or (fetch_at code g.control.pc) g (movsp_of code g) (step_with_inputs code rec.reply g) (λ t e. if_made (is_some g.nested || (ltb 0 (pending_of g.control) || g.control.waits)) (fetched_movsp (fetch_at code g.control.pc) g) t e)
    ∙ ap (λ (o : Option Nested). turn_or (movsp_of code g) (turn_in o code value inp f)) (sym none)

pub settled_plain : (code : ℕ → ℕ) (value : ℕ) (rec : StepRecord) (frames : List Frame) (h : UndefinedParts) (v : Upper) (m : Made) → h.nested ≡ None
    → state_at frames h m.before ≡ with_inputs (inputs_of rec) (state_at frames h v)
    → turn_as m.step frames h m.after ≡ turn_or (movsp_of code (state_at frames h m.before)) (step_with_inputs code rec.reply (state_at frames h m.before))
    → settled_in None code value m frames h v ≡ value_step code false value (inputs_of rec) (state_at frames h v)
settled_plain code value rec frames h v m none found turn =
    let f = state_at frames h v in
    let g = with_inputs (inputs_of rec) f in
    let T : FrameState → FrameTurn = λ s. turn_or (movsp_of code s) (step_with_inputs code rec.reply s) in
    let now : turn_as m.step frames h m.after ≡ T g = turn ∙ ap T found in
    let at : fetch_at code m.before.control.pc ≡ fetch_at code g.control.pc = ap (λ (s : FrameState). fetch_at code s.control.pc) found in
    ap (λ (u : FrameTurn). numbered (fetch_at code m.before.control.pc) h.unset u) now
    ∙ (ap (λ (x : Fetched). numbered x h.unset (T g)) at ∙ value_plain code value rec f none)

-- ---- in one
pub no_movsp : (code : ℕ → ℕ) (g : FrameState) (x : Nested) → g.nested ≡ Some x → movsp_of code g ≡ None
no_movsp code g x e =
    cond-true (is_some g.nested || (ltb 0 (pending_of g.control) || g.control.waits)) None (fetched_movsp (fetch_at code g.control.pc) g) (or_left _ _ (ap (λ (o : Option Nested). is_some o) e))

pub value_nested : (code : ℕ → ℕ) (value : ℕ) (rec : StepRecord) (f : FrameState) (x : Nested) → f.nested ≡ Some x
    → (let g = with_inputs (inputs_of rec) (nested_view x f) in nested_fetched (fetch_at code g.control.pc) value x f (step_with_inputs code rec.reply g)) ≡ value_step code false value (inputs_of rec) f
unfolding value_step
value_nested code value rec f x some =
    let inp = inputs_of rec in
    sym (ap (λ (o : Option FrameTurn). turn_or o (turn_in (Some x) code value inp f)) (no_movsp code (with_inputs inp f) x some))
    ∙ ap (λ (o : Option Nested). turn_or (movsp_of code (with_inputs inp f)) (turn_in o code value inp f)) (sym some)

pub settled_nested : (code : ℕ → ℕ) (value : ℕ) (rec : StepRecord) (frames : List Frame) (h : UndefinedParts) (v : Upper) (m : Made) (x : Nested) → h.nested ≡ Some x
    → state_at frames h m.before ≡ with_inputs (inputs_of rec) (nested_view x (state_at frames h v))
    → turn_as m.step frames h m.after ≡ turn_or (movsp_of code (state_at frames h m.before)) (step_with_inputs code rec.reply (state_at frames h m.before))
    → settled_in (Some x) code value m frames h v ≡ value_step code false value (inputs_of rec) (state_at frames h v)
settled_nested code value rec frames h v m x some found turn =
    let f = state_at frames h v in
    let g = with_inputs (inputs_of rec) (nested_view x f) in
    let b = state_at frames h m.before in
    let plain : turn_as m.step frames h m.after ≡ step_with_inputs code rec.reply b = turn ∙ ap (λ (o : Option FrameTurn). turn_or o (step_with_inputs code rec.reply b)) (no_movsp code b x some) in
    let now : turn_as m.step frames h m.after ≡ step_with_inputs code rec.reply g = plain ∙ ap (step_with_inputs code rec.reply) found in
    let at : fetch_at code m.before.control.pc ≡ fetch_at code g.control.pc = ap (λ (s : FrameState). fetch_at code s.control.pc) found in
    ap (λ (u : FrameTurn). nested_fetched (fetch_at code m.before.control.pc) value x f u) now
    ∙ (ap (λ (y : Fetched). nested_fetched y value x f (step_with_inputs code rec.reply g)) at ∙ value_nested code value rec f x some)

-- ---- either way
pub settled_is_value : (o : Option Nested) (code : ℕ → ℕ) (value : ℕ) (rec : StepRecord) (frames : List Frame) (h : UndefinedParts) (v : Upper) (m : Made) → h.nested ≡ o
    → state_at frames h m.before ≡ with_inputs (inputs_of rec) (current (state_at frames h v))
    → turn_as m.step frames h m.after ≡ turn_or (movsp_of code (state_at frames h m.before)) (step_with_inputs code rec.reply (state_at frames h m.before))
    → settled_in o code value m frames h v ≡ value_step code false value (inputs_of rec) (state_at frames h v)
settled_is_value None code value rec frames h v m e found turn =
    settled_plain code value rec frames h v m e (found ∙ ap (λ (o : Option Nested). with_inputs (inputs_of rec) (current_in o (state_at frames h v))) e) turn
settled_is_value (Some x) code value rec frames h v m e found turn =
    settled_nested code value rec frames h v m x e (found ∙ ap (λ (o : Option Nested). with_inputs (inputs_of rec) (current_in o (state_at frames h v))) e) turn

-- ---- what the step is, beside its state
pub settled_kind : (o : Option Nested) (code : ℕ → ℕ) (value : ℕ) (m : Made) (frames : List Frame) (h : UndefinedParts) (v : Upper) → (settled_in o code value m frames h v).kind ≡ m.step.kind
settled_kind None code value m frames h v = refl
settled_kind (Some x) code value m frames h v = kind_inside (fetch_at code m.before.control.pc) value x (state_at frames h v) (turn_as m.step frames h m.after)

marked_register : (mark : Option ℕ) (value : ℕ) (w : Option RegWrite) → register_of (marked_write mark value w) ≡ register_of w
marked_register None value w = refl
marked_register (Some n) value None = refl
marked_register (Some n) value (Some w) = refl

pub fetched_register : (at : Fetched) (value : ℕ) (x : Nested) (f : FrameState) (u : FrameTurn) → register_of (nested_fetched at value x f u).write ≡ register_of u.write
fetched_register (Fetches i len) value x f u = turn_if (λ (t : FrameTurn). register_of t.write ≡ register_of u.write) (ends_nested i) _ _ refl (marked_register (mark_read i x.saved) value u.write)
fetched_register (Fails address) value x f u = refl
fetched_register SpellsNothing value x f u = refl

pub settled_register : (o : Option Nested) (code : ℕ → ℕ) (value : ℕ) (m : Made) (frames : List Frame) (h : UndefinedParts) (v : Upper) → register_of (settled_in o code value m frames h v).write ≡ register_of m.step.write
settled_register None code value m frames h v = refl
settled_register (Some x) code value m frames h v = fetched_register (fetch_at code m.before.control.pc) value x (state_at frames h v) (turn_as m.step frames h m.after)

-- ---- the register that is cut
cut_seen_same : (mask : ℕ) (w v : Option RegWrite) (seen : List (Option ℕ)) → register_of w ≡ register_of v → cut_seen mask w seen ≡ cut_seen mask v seen
cut_seen_same mask None None seen e = refl
cut_seen_same mask None (Some v) seen e = absurd cc
cut_seen_same mask (Some w) None seen e = absurd cc
cut_seen_same mask (Some w) (Some v) seen e = let same : w.reg ≡ v.reg = cc in ap (λ n. set seen n (cut_number mask (get_or seen n None))) same

cut_same : (mask : ℕ) (w v : Option RegWrite) (o : Option Nested) (f : FrameState) → register_of w ≡ register_of v → cut_state mask w o f ≡ cut_state mask v o f
cut_same mask w v None f e = ap (λ (xs : List (Option ℕ)). record f { seen = xs }) (cut_seen_same mask w v f.seen e)
cut_same mask w v (Some x) f e = ap (λ (xs : List (Option ℕ)). record f { nested = Some (record x { seen = xs }) }) (cut_seen_same mask w v x.seen e)

cut_none : (mask : ℕ) (o : Option Nested) (f : FrameState) → o ≡ f.nested → cut_state mask None o f ≡ f
cut_none mask None f e = refl
cut_none mask (Some x) f e = ap (λ (o : Option Nested). record f { nested = o }) e

-- of the turn
pub turn_frame : (i : Option Insn) (reply : ℕ) (s : UseState) (f : FrameState) (u : FrameTurn) (mask : ℕ) (w : Option RegWrite) → register_of u.write ≡ register_of w → mask ≡ (use_turn i reply s f u).mask
    → cut_state mask (write_where i w) u.after.nested u.after ≡ (use_turn i reply s f u).after.frame
turn_frame None reply s f u mask w e m = cut_none mask u.after.nested u.after refl
turn_frame (Some i) reply s f u mask w e m =
    ap (λ n. cut_state n w u.after.nested u.after) m ∙ cut_same (use_turn (Some i) reply s f u).mask w u.write u.after.nested u.after (sym e)

pub turn_kind : (i : Option Insn) (reply : ℕ) (s : UseState) (f : FrameState) (u : FrameTurn) → (use_turn i reply s f u).turn.kind ≡ u.kind
turn_kind None reply s f u = refl
turn_kind (Some i) reply s f u = refl

some_cut : (mask : ℕ) (w : Option RegWrite) → is_some (cut_write mask w) ≡ is_some w
some_cut mask None = refl
some_cut mask (Some w) = refl

same_some : (w v : Option RegWrite) → register_of w ≡ register_of v → is_some w ≡ is_some v
same_some None None e = refl
same_some None (Some v) e = absurd cc
same_some (Some w) None e = absurd cc
same_some (Some w) (Some v) e = refl

pub turn_write : (i : Option Insn) (reply : ℕ) (s : UseState) (f : FrameState) (u : FrameTurn) (w : Option RegWrite) → register_of u.write ≡ register_of w → is_some w ≡ is_some (use_turn i reply s f u).turn.write
turn_write None reply s f u w e = sym (same_some u.write w e)
turn_write (Some i) reply s f u w e = sym (some_cut (use_turn (Some i) reply s f u).mask u.write ∙ same_some u.write w e)
