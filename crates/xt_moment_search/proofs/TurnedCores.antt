-- A turn of a core of a search is that of the definition.
use Rattle.std.proofs.Common.{◌≡◌, ℕ, true, false, ◌&&◌, ◌||◌, Option, refl, sym, ap}
use Rattle.std.proofs.Common.{◌∙◌, subst}
use Rattle.std.specs.Prelude.{bit_or}
use Rattle.xt_map.specs.declared.access.Access.{Access}
use Rattle.xt_map.specs.declared.contents.MemoryContents.{MemoryContents}
use Rattle.xt_map.specs.Touching.{IsMemory}
use Rattle.xt_special.specs.Control.{special_of}
use Rattle.xt_trace.specs.Calls.{is_stop}
use Rattle.xt_trace.specs.Worlds.{answer, memory_left}
use Rattle.xt_trace.specs.declared.record.StepKind.{StepKind}
use Rattle.xt_trace.specs.declared.record.StepKind.TheVariants as kind
use Rattle.xt_trace.specs.declared.record.StepRecord.{StepRecord}
use Rattle.xt_search.specs.Changed.{contents_of}
use Rattle.xt_map.specs.Fetching.{Fetched, Fetches, Fails, SpellsNothing, fetch_at}
use Rattle.xt_rows.specs.Operands.{reads}
use Rattle.xt_exec.specs.State.{State}
use Rattle.xt_exec.specs.Turn.{demand, planned_turn, turn}
use Rattle.xt_exec.specs.TurnLaws.{IsShaped}
use Rattle.xt_uses.specs.declared.words.Word.{Word}
use Rattle.xt_uses.specs.UseStep.{reply_mask, step_insn}
use Rattle.xt_use_walk.specs.MaskedBytes.{is_byte}
use Rattle.xt_simulation.specs.Knowledge.{Knowledge, StatesAgree}
use Rattle.xt_simulation.specs.Learning.{stored_in}
use Rattle.xt_simulation.specs.SecretBytes.{mask_stored}
use Rattle.xt_simulation.specs.TurnUses.{found_used, turn_used}
use Rattle.xt_secret_walk.specs.declared.masks.CoreMasks.{CoreMasks}
use Rattle.xt_secret_walk.specs.declared.seen.Seen.{Seen}
use Rattle.xt_secret_walk.specs.SeenWords.{IsGoodSeen, executed_in, knowledge_of, seen_of, stored_of}
use Rattle.xt_secret_walk.specs.SeenWords.{turn_uses}
use Rattle.xt_moments.specs.Moments.{armed_in, arms, with_timers}
use Rattle.xt_moments.specs.MomentLaws.{IsMomentKnown, entered_known, enters, executes_clock}
use Rattle.xt_moments.specs.MomentLaws.{moment_known, moment_used}
use Rattle.xt_moment_search.specs.KnownCores.{IsSeen, deciding, insn_of, known_byte, moment_known_of}
use Rattle.xt_moment_search.specs.KnownCores.{reads_lost, seen_arms}
use Rattle.xt_moment_search.specs.Sides.{KnownCore}
use Rattle.xt_moment_search.specs.Turned.{IsTurnedFrom, turn_from}
use Rattle.xt_moment_search.specs.declared.bytes.Bytes.{Bytes}
use Rattle.xt_moment_search.proofs.Used.{register_same, uses_are}

-- ---- the record of a turn is that which was planned

kind_is : (code : ℕ → ℕ) (s : State) (reply : ℕ)
    → (turn code s reply).0.kind ≡ (planned_turn code s).kind
unfolding turn
kind_is code s reply = refl

access_is : (code : ℕ → ℕ) (s : State) (reply : ℕ)
    → (turn code s reply).0.access ≡ demand code s
unfolding turn
access_is code s reply = refl

-- ---- what is executed of what was seen

module _ (c : CoreMasks) (s : State) where
  abbrev k : Knowledge
  k = knowledge_of c

  insn_is : (x : StepKind) (f : Fetched)
      → insn_of (executed_in x (seen_of f k s)) ≡ step_insn x f
  unfolding step_insn
  insn_is (kind.Interrupt level) f = refl
  insn_is kind.Wait f = refl
  insn_is (kind.Window vector) f = refl
  insn_is kind.Insn (Fetches i len) = refl
  insn_is kind.Insn (Fails address) = refl
  insn_is kind.Insn SpellsNothing = refl
  insn_is (kind.Exc cause) f = refl
  insn_is kind.Stop f = refl

  arms_are : (x : StepKind) (f : Fetched)
      → seen_arms (executed_in x (seen_of f k s)) ≡ armed_in x f
  arms_are (kind.Interrupt level) f = refl
  arms_are kind.Wait f = refl
  arms_are (kind.Window vector) f = refl
  arms_are kind.Insn (Fetches i len) = refl
  arms_are kind.Insn (Fails address) = refl
  arms_are kind.Insn SpellsNothing = refl
  arms_are (kind.Exc cause) f = refl
  arms_are kind.Stop f = refl

  stored_is : (x : StepKind) (f : Fetched)
      → stored_of (executed_in x (seen_of f k s)) ≡ stored_in (step_insn x f) (moment_known_of c) s
  unfolding step_insn
  stored_is (kind.Interrupt level) f = refl
  stored_is kind.Wait f = refl
  stored_is (kind.Window vector) f = refl
  stored_is kind.Insn (Fetches i len) =
      ap (λ (w : Word). w.mask) (sym (register_same c s (reads i).1))
  stored_is kind.Insn (Fails address) = refl
  stored_is kind.Insn SpellsNothing = refl
  stored_is (kind.Exc cause) f = refl
  stored_is kind.Stop f = refl

  seen_was : (x : StepKind) (f : Fetched) → IsSeen c s (executed_in x (seen_of f k s))
  seen_was (kind.Interrupt level) f = tt
  seen_was kind.Wait f = tt
  seen_was (kind.Window vector) f = tt
  seen_was kind.Insn (Fetches i len) = refl
  seen_was kind.Insn (Fails address) = tt
  seen_was kind.Insn SpellsNothing = tt
  seen_was (kind.Exc cause) f = tt
  seen_was kind.Stop f = tt

-- what is executed reads no more of EPC1 than what was seen
executed_kept : (c : CoreMasks) (x : StepKind) (seen : Option Seen) → reads_lost c seen ≡ false
    → reads_lost c (executed_in x seen) ≡ false
executed_kept c kind.Insn seen h = h
executed_kept c (kind.Interrupt level) seen h = refl
executed_kept c kind.Wait seen h = refl
executed_kept c (kind.Window vector) seen h = refl
executed_kept c (kind.Exc cause) seen h = refl
executed_kept c kind.Stop seen h = refl

-- ---- all of a turn

pub record IsMade (code : ℕ → ℕ) (opening cleared : MemoryContents) (s : State)
    (old new : KnownCore) (b c : Bytes) (x : StepRecord) (u : State) (seen executed : Option Seen)
    (reply stored before armed base : ℕ) : Type 0 where
  pub going : old.stopped ≡ false
  pub turned : (x, u) ≡ turn_from code s (contents_of opening b.held)
  pub found : seen ≡ seen_of (fetch_at code s.control.pc) (knowledge_of old.masks) s
  pub kept : reads_lost old.masks seen ≡ false
  pub good : IsGoodSeen seen
  pub reply_is : IsMemory (contents_of cleared b.hidden)
      → reply ≡ reply_mask (known_byte cleared b.hidden) x.access
  pub executed_is : executed ≡ executed_in x.kind seen
  pub uses : turn_uses x.kind x.access (deciding x.kind seen) reply ≡ true
  pub stored_are : stored ≡ stored_of executed
  pub held : contents_of opening c.held ≡ memory_left x.access (contents_of opening b.held)
  pub bytes : (a : ℕ) → is_byte a ≡ true
      → known_byte cleared c.hidden a
      ≡ mask_stored stored x.access (known_byte cleared b.hidden) a
  pub memory : IsMemory (contents_of cleared b.hidden) → IsMemory (contents_of cleared c.hidden)
  pub base_is : base ≡ u.base
  pub learnt : (t : State) → IsSeen old.masks t executed → reads_lost old.masks executed ≡ false
      → IsMomentKnown (moment_known_of old.masks)
      → moment_known_of new.masks
      ≡ entered_known (enters x.kind s.control.ps)
      (moment_known (insn_of executed) x.write base reply (moment_known_of old.masks) t)
  pub before_is : before ≡ special_of s.control 226
  pub armed_is : armed ≡ seen_arms executed
  pub state : StatesAgree (moment_known_of new.masks) (with_timers before armed u) new.state
  pub shaped : IsShaped new.state
  pub arms_too : new.armed ≡ bit_or old.armed armed
  pub stops : new.stopped ≡ is_stop x.kind

module _ (code : ℕ → ℕ) (opening cleared : MemoryContents) (s : State)
    (old new : KnownCore) (b c : Bytes) (x : StepRecord) (u : State) (seen executed : Option Seen)
    (reply stored before armed base : ℕ)
    (h : IsMade code opening cleared s old new b c x u seen executed reply stored before armed base)
  where
    abbrev m : Knowledge
    m = moment_known_of old.masks

    abbrev f : Fetched
    f = fetch_at code s.control.pc

    abbrev t : StepRecord × State
    t = turn_from code s (contents_of opening b.held)

    abbrev asked : ℕ
    asked = answer (demand code s) (contents_of opening b.held)

    rec : x ≡ t.0
    rec = ap (λ (y : StepRecord × State). y.0) h.turned

    left : u ≡ t.1
    left = ap (λ (y : StepRecord × State). y.1) h.turned

    kinds : x.kind ≡ t.0.kind
    kinds = ap (λ (y : StepRecord). y.kind) rec

    accesses : x.access ≡ demand code s
    accesses = ap (λ (y : StepRecord). y.access) rec ∙ access_is code s asked

    seen_is : executed ≡ executed_in x.kind (seen_of f (knowledge_of old.masks) s)
    seen_is = h.executed_is ∙ ap (executed_in x.kind) h.found

    replied : IsMemory (contents_of cleared b.hidden)
        → reply ≡ reply_mask (known_byte cleared b.hidden) (demand code s)
    replied i = h.reply_is i ∙ ap (reply_mask (known_byte cleared b.hidden)) accesses

    arms_now : armed ≡ arms code s
    arms_now = h.armed_is ∙ (ap seen_arms seen_is
        ∙ (arms_are old.masks s x.kind f
        ∙ ap (λ (y : StepKind). armed_in y f) (kinds ∙ kind_is code s asked)))

    used : IsMemory (contents_of cleared b.hidden)
        → moment_used code (reply_mask (known_byte cleared b.hidden) (demand code s)) m s ≡ true
    unfolding demand
    used i =
        let seen_so = subst (λ (y : Option Seen). turn_uses x.kind x.access (deciding x.kind y) reply
        ≡ true) h.found h.uses in
        let good = subst IsGoodSeen h.found h.good in
        let kept = subst (λ (y : Option Seen). reads_lost old.masks y ≡ false) h.found h.kept in
        let planned = kinds ∙ kind_is code s asked in
        let r = replied i in
        sym (λ j. found_used (accesses j) (r j)
        && (executes_clock (step_insn (planned j) f)
        || turn_used code (planned j) (accesses j) (r j) m s))
        ∙ uses_are old.masks s code x.kind x.access reply good kept seen_so

    known : IsMemory (contents_of cleared b.hidden) → IsMomentKnown m
        → moment_known_of new.masks
        ≡ entered_known (enters t.0.kind s.control.ps)
        (moment_known (step_insn t.0.kind f) t.0.write t.1.base
        (reply_mask (known_byte cleared b.hidden) (demand code s)) m s)
    known i k =
        let was = subst (IsSeen old.masks s) (sym seen_is) (seen_was old.masks s x.kind f) in
        let kept : reads_lost old.masks executed ≡ false =
        ap (reads_lost old.masks) h.executed_is
        ∙ executed_kept old.masks x.kind seen h.kept in
        let insn : insn_of executed ≡ step_insn t.0.kind f =
        ap insn_of seen_is ∙ (insn_is old.masks s x.kind f
        ∙ ap (λ (y : StepKind). step_insn y f) kinds) in
        let base : base ≡ t.1.base = h.base_is ∙ ap (λ (y : State). y.base) left in
        let r = replied i in
        h.learnt s was kept k ∙ (λ j. entered_known (enters (kinds j) s.control.ps)
        (moment_known (insn j) (rec j).write (base j) (r j) m s))

    bytes : (a : ℕ) → is_byte a ≡ true
        → known_byte cleared c.hidden a
        ≡ mask_stored (stored_in (step_insn t.0.kind f) m s) (demand code s)
        (known_byte cleared b.hidden) a
    bytes a is =
        let stored : stored ≡ stored_in (step_insn t.0.kind f) m s =
        h.stored_are ∙ (ap stored_of seen_is
        ∙ (stored_is old.masks s x.kind f
        ∙ ap (λ (y : StepKind). stored_in (step_insn y f) m s) kinds)) in
        h.bytes a is
        ∙ (λ j. mask_stored (stored j) (accesses j) (known_byte cleared b.hidden) a)

    pub turned_from : IsTurnedFrom code opening cleared s old new b c
    turned_from = record {
      going = h.going;
      shaped = h.shaped;
      hidden = h.memory;
      used = used;
      known = known;
      bytes = bytes;
      state = subst (λ (y : State). StatesAgree (moment_known_of new.masks) y new.state)
          (λ j. with_timers (h.before_is j) (arms_now j) (left j)) h.state;
      armed = h.arms_too ∙ ap (bit_or old.armed) arms_now;
      stopped = h.stops ∙ ap is_stop kinds;
      memory = h.held
          ∙ ap (λ (y : Option Access). memory_left y (contents_of opening b.held)) accesses;
    }
