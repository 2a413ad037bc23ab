-- A turn in step, as the definition of the walk sees it.
use Rattle.std.proofs.Common.{◌≡◌, ◌==◌, ℕ, ◌+◌, ◌-◌, ◌&&◌, ◌||◌, ◌<◌, Bool, true, false, cond, Option, Some, None, Ok, List, refl, sym, ◌∙◌, ap, subst, arith}
use Rattle.std.specs.Prelude.{IfSome}
use Rattle.xt_isa.specs.declared.Insn.{Insn}
use Rattle.xt_map.specs.Regions.{is_mapped}
use Rattle.xt_special.specs.Control.{special_of}
use Rattle.xt_trace.specs.declared.record.RegWrite.{RegWrite}
use Rattle.xt_trace.specs.declared.record.StepKind.{StepKind}
use Rattle.xt_trace.specs.declared.record.StepKind.TheVariants as kind
use Rattle.xt_trace.specs.declared.record.StepRecord.{StepRecord}
use Rattle.xt_map.specs.Fetching.{Fetched, Fetches, Fails, SpellsNothing}
use Rattle.xt_rows.specs.RowLaws.{IsProperWrite, IsWord}
use Rattle.xt_exec.specs.State.{State}
use Rattle.xt_exec.specs.Turn.{turn}
use Rattle.xt_frames.specs.declared.breach.Limits.{Limits}
use Rattle.xt_frames.specs.declared.holes.UndefinedParts.{UndefinedParts}
use Rattle.xt_frames.specs.declared.kinds.HandlerPhase.{HandlerPhase}
use Rattle.xt_frames.specs.declared.kinds.HandlerPhase.TheVariants.{Outside, InHandler}
use Rattle.xt_frames.specs.Breaches.{is_sp}
use Rattle.xt_frames.specs.Frames.{Frame, FrameState, all_set, seen_after_write}
use Rattle.xt_frames.specs.HandlerSteps.{is_window, phase_after}
use Rattle.xt_frames.specs.KeptFrameState.{Upper, state_at}
use Rattle.xt_frames.specs.Levels.{with_epc1}
use Rattle.xt_frames.specs.SaveAreas.{is_live}
use Rattle.xt_frames.proofs.Quickly.{IsOver}
use Rattle.xt_frames.proofs.Shown.{KeepsSp, sp_kept, sp_written}
use Rattle.xt_discipline.specs.declared.roles.Role.TheVariants.{Own}
use Rattle.xt_discipline.specs.Phases.{role_of}
use Rattle.xt_discipline.specs.ByteMarks.{either}
use Rattle.xt_discipline.proofs.Seeing.{at_last, le_same}
use Rattle.xt_shadow.proofs.InStep.{over}
use Rattle.xt_uses.specs.declared.masks.TopMasks.{TopMasks}
use Rattle.xt_uses.specs.UseLevels.{use_levelled}
use Rattle.xt_uses.specs.UseBreaches.{use_breach}
use Rattle.xt_uses.specs.UseParts.{IsUsed, UseWalked, fresh_at, masks_at, use_at, use_past}
use Rattle.xt_uses.specs.UseQuick.{AreWhole, IsQuickUse, done_quick}
use Rattle.xt_uses.specs.UseState.{UseState, ValidityBits, stack_pointer}
use Rattle.xt_uses.specs.UseStep.{visible_written}
use Rattle.xt_uses.specs.UseWalk.{count_of, mask_stored, use_seen}
use Rattle.xt_uses.specs.Words.{all_bits}
use Rattle.xt_uses.proofs.QuickUses.{quick_use}
use Rattle.xt_uses.proofs.UseCores.{use_left, use_told}
use Rattle.xt_use_walk.specs.declared.side.Bytes.{Bytes}
use Rattle.xt_use_walk.specs.declared.side.Side.{Side}
use Rattle.xt_use_walk.specs.MaskedBytes.{AreFull, AreMasks, IsSpared, KnowsBytes, SparesAccess, mask_at, stored_over, without}
use Rattle.xt_use_walk.specs.Sides.{IsUseSeen, IsUseSide, live_in, standing_of}
use Rattle.xt_use_walk.proofs.Following.{knows_stored}
use Rattle.xt_use_walk.proofs.Forgetting.{knows_unmoved}
use Rattle.xt_use_walk.proofs.Moving.{follows_same, stands_same}
use Rattle.xt_use_walk.proofs.Seen.{found_by, judged_past, role_seen}
use Rattle.xt_use_shadow.specs.Shadows.{IsUseReady, masks_after_write}
use Rattle.xt_use_shadow.proofs.Knowing.{are_whole}

-- a core in step, whose frames have these registers with these masks, and this control state
abbrev pub side_at : Side → List (Option ℕ) → List ℕ → State → ℕ → Side
side_at side seen masks s steps = record side {
  uses = record side.uses { state = use_levelled side.uses.state seen masks s.control; next = steps };
  steps = steps;
}

abbrev insn_of : Fetched → Insn → Insn
insn_of (Fetches i len) d = i
insn_of (Fails address) d = d
insn_of SpellsNothing d = d

-- the masks of the registers of the newest frame, beside all others
abbrev top_of : ValidityBits → List ℕ → TopMasks
top_of m seen = record { discipline = m.discipline; seen = seen; special = m.special; threadptr = m.threadptr; inner = m.inner }

written_masks : (o : Option RegWrite) (kept : List (List ℕ)) (m : ValidityBits) (seen : List ℕ) → masks_at kept (top_of m (masks_after_write o seen)) ≡ visible_written false o all_bits (masks_at kept (top_of m seen))
written_masks None kept m seen = refl
written_masks (Some w) kept m seen = refl

module _ (code : ℕ → ℕ) (side : Side) (seen : List (Option ℕ)) (masks : List ℕ) (vecbase : ℕ) (s t : State) (rec : StepRecord) (m n : Bytes) (others : ℕ → Bool) (bytes : ℕ → ℕ)
    (k : IsUseSide side) (outside : side.phase ≡ Outside) (plain : side.uses.state.frame.nested ≡ None) (numbers : side.uses.state.frame.unset ≡ all_set) (vectors : vecbase ≡ side.uses.bounds.vecbase)
    (ready : IsUseReady code vecbase seen masks s) (made : ◌≡◌ {A = StepRecord × State} (rec, t) (turn code s rec.reply)) (owb : s.control.ps.owb < 16)
    (insn : rec.kind ≡ kind.Insn) (no_sp : is_sp rec.write ≡ false) (woe : t.control.ps.woe ≡ true) (stays : special_of t.control 231 ≡ vecbase)
    (word : IsProperWrite IsWord rec.write) (served : IfSome rec.access (λ a. is_mapped a ≡ true)) (spared : IsSpared m rec.access)
    (full : AreFull n) (marks : n.marks.items ≡ m.marks.items) (stored : AreMasks n.masks (stored_over m.marks.items all_bits rec.access (mask_at m.masks)))
  where
    abbrev before : Side
    before = side_at side seen masks s side.steps

    abbrev after : Side
    after = side_at side (seen_after_write rec.write seen) (masks_after_write rec.write masks) t (side.steps + 1)

    abbrev f : FrameState
    f = side.uses.state.frame

    abbrev bits : ValidityBits
    bits = side.uses.state.masks

    abbrev x : ℕ
    x = special_of f.control 177

    abbrev h : UndefinedParts
    h = record { unset = f.unset; nested = f.nested }

    abbrev v : Upper
    v = record { seen = seen; control = with_epc1 x s.control }

    abbrev w : Upper
    w = record { seen = seen_after_write rec.write seen; control = with_epc1 x t.control }

    abbrev limits : Limits
    limits = record { lo = side.uses.bounds.range.lo; hi = side.uses.bounds.range.hi; vecbase = vecbase }

    abbrev fresh : Bool
    fresh = fresh_at before.uses side.steps

    free : KeepsSp rec.write
    free = sp_kept rec.write no_sp

    before_side : IsUseSide before
    before_side = record { core_is = k.core_is; end_is = k.end_is; low = k.low; high = k.high; past = le_same side.steps; counted = k.counted }

    fresh_is : (side.uses.fresh && (side.steps == side.steps)) ≡ side.uses.fresh
    fresh_is = at_last side.uses.fresh side.steps

    lies : IsOver limits fresh code rec h rec.write v v w
    lies = over code f seen vecbase s t rec ready.ready made insn plain numbers owb no_sp woe stays fresh side.uses.bounds.range.lo side.uses.bounds.range.hi

    same_insn : lies.quick.i ≡ ready.ready.i
    same_insn = ap (λ (at : Fetched). insn_of at ready.ready.i) (sym lies.quick.at ∙ ready.ready.at)

    whole : AreWhole lies.quick.i before.uses.state (state_at f.frames h v)
    whole = subst (λ (i : Insn). AreWhole i before.uses.state (state_at f.frames h v)) (sym same_insn) (are_whole ready.ready.i before.uses.state (state_at f.frames h v) plain ready.known)

    abbrev next : List Frame → List (List ℕ) → UseState
    next fs ks = use_at fs ks h w (top_of bits (masks_after_write rec.write masks))

    module _ (known : KnowsBytes before.core m (live_in before.uses) others bytes) where
      abbrev own : ℕ → Bool
      own = live_in before.uses

      spares : SparesAccess (either own others) bytes rec.access
      spares = spared before.core own others bytes known

      quick : IsQuickUse limits fresh code (either own others) rec bytes before.uses.state next
      quick = quick_use limits fresh code rec h rec.write v v w lies f.frames bits.kept (top_of bits masks) whole (top_of bits (masks_after_write rec.write masks)) (either own others) bytes spares.saves spares.swaps spares.reply word served
          (written_masks rec.write bits.kept bits masks)

      found : use_breach before.uses.bounds fresh code (either own others) bytes false rec before.uses.state ≡ None
      found = ap (λ (y : ℕ). use_breach (record { range = side.uses.bounds.range; vecbase = y }) fresh code (either own others) bytes false rec before.uses.state) (sym vectors) ∙ quick.none

      past : after.uses ≡ use_past before.uses code side.steps false rec bytes
      past =
          let left = use_left code false rec bytes side.steps before.uses before.uses refl fresh (done_quick fresh) next f.frames bits.kept side.steps refl refl refl refl quick.taken in
          let same : ◌≡◌ {A = UseWalked} after.uses (record { core = side.uses.core; bounds = side.uses.bounds; state = after.uses.state; fresh = fresh; next = side.steps + 1 }) =
          λ i. record { core = side.uses.core; bounds = side.uses.bounds; state = after.uses.state; fresh = sym fresh_is i; next = side.steps + 1 } in
          same ∙ left

      told : IsUsed code false rec bytes before.uses.state (record { stored = all_bits; carries = false })
      told = use_told code false rec bytes side.steps before.uses before.uses refl fresh (done_quick fresh) next quick.taken

      phase_is : side.phase ≡ phase_after code side.phase rec
      phase_is = outside ∙ sym (ap (λ (p : HandlerPhase). phase_after code p rec) outside ∙ ap (λ (y : StepKind). cond (is_window y) InHandler Outside) insn)

      pub seen_in_step : IsUseSeen before after n others bytes (use_seen code before.uses.bounds (standing_of before) others bytes rec) (Ok tt)
      seen_in_step =
          let r = side.uses.bounds.range in
          let g = before.uses.state.frame in
          let u = after.uses.state.frame in
          let sp = sp_written seen rec.write free in
          let middle = knows_stored before.core m n own others bytes all_bits rec.access known full marks stored in
          let followed = follows_same before.core r g u n (stands_same r g u refl (λ some. ap (λ (y : ℕ). y - 16) sp)) others (without (λ a. own a || others a) (mask_stored all_bits rec.access bytes)) middle in
          let gone = knows_unmoved before.core n (is_live r u) others _ after.uses.state (stack_pointer before.uses.state) sp followed in
          let none : side.carried ≡ side.carried + 0 = omega arith in
          role_seen before after n others bytes code rec Own (Ok tt) (sym (ap (λ (p : HandlerPhase). role_of p rec.kind) outside ∙ ap (λ (y : StepKind). role_of Outside y) insn))
          (judged_past before after after.uses n others bytes code rec (found_by before others bytes code false rec) tt false side.phase all_bits 0 phase_is before_side found past told.stores (ap count_of told.unknown) (omega arith)
          (ap (λ (c : ℕ). record before { uses = after.uses; phase = side.phase; steps = side.steps + 1; carried = c }) none) (stack_pointer before.uses.state) refl gone)
