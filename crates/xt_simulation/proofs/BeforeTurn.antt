-- The relation before the first turn, and from one turn to the next; and the record of a judged turn fits.
use Rattle.std.proofs.Common.{◌≡◌, ℕ, suc, ◌-◌, true, false, None, [], sym, ap, ◌∙◌, refl, arith, inl, inr, ⊎_elim, subst, Decides}
use Rattle.std.proofs.lemmas.Bool.{false≢true, or_left, or_right}
use Rattle.xt_map.specs.declared.contents.MemoryContents.{MemoryContents}
use Rattle.xt_map.specs.History.{memory_after}
use Rattle.xt_map.specs.Memory.{byte_at}
use Rattle.xt_exec.specs.State.{State, opening_state}
use Rattle.xt_exec.specs.TurnLaws.{IsShaped}
use Rattle.xt_frames.specs.Breaches.{Bounds}
use Rattle.xt_frames.specs.Frames.{opening_frame}
use Rattle.xt_frames.specs.declared.kinds.HandlerPhase.{HandlerPhase}
use Rattle.xt_frames.specs.declared.kinds.HandlerPhase.TheVariants.{Outside}
use Rattle.xt_frames.specs.SaveAreas.{is_live}
use Rattle.xt_frames.specs.FirstBreach.{Course, IsJudgedTurn, IsTurn, entries_before, phase_before, records_before}
use Rattle.xt_simulation.specs.Cores.{word}
use Rattle.xt_simulation.specs.Opening.{IsOpening, IsStack, Openings, bounds0, bounds1, frame0, frame1, frame_of, memory_of, opening_core, state0, state1}
use Rattle.xt_simulation.specs.Steps.{memory_now, record_now, state_now}
use Rattle.xt_simulation.specs.Walking.{Apart}
use Rattle.xt_simulation.proofs.Headline.{opens_alike}
use Rattle.xt_simulation.proofs.Opened.{opening_is_memory, opening_links, opening_related, stack_shaped}
use Rattle.xt_uses.specs.declared.discipline.Discipline.{Discipline}
use Rattle.xt_uses.specs.FirstUse.{History, IsHistory, IsLost, Shows, live_at}
use Rattle.xt_uses.specs.UseLaws.{FitsStep}
use Rattle.xt_uses.specs.UseState.{UseState, opening_use}
use Rattle.xt_simulation.proofs.Before.{Before, Grounds}
use Rattle.xt_simulation.proofs.MaskWords.{MaskWords, opening_small}
use Rattle.xt_simulation.proofs.OneSide.{Beside, side_fits, side_turn}
use Rattle.xt_simulation.proofs.OneTurn.{InCoreUse}
use Rattle.xt_simulation.proofs.Opens.{opens_known}
use Rattle.xt_simulation.proofs.TwoCores.{turned_round}
use Rattle.xt_simulation.proofs.TwoMemories.{open_alike}

-- ---- before the first turn
opens_plain : (r : Course) (core : ℕ) → phase_before r core 0 ≡ Outside
unfolding phase_before records_before
opens_plain r core = refl

never_lost : (r : Course) (h : History) (core : ℕ) → Decides false (IsLost r h core 0)
never_lost r h core = (λ e. absurd (false≢true e), λ l. let early = l.earlier in absurd (omega arith))

module _ (d : Discipline) (r : Course) (h : History) (history : IsHistory d r h) (core at pc : ℕ) (b : Bounds) (m : MemoryContents) (bounds : r.bounds core ≡ b) (frame : r.opening core ≡ opening_frame at pc b.vecbase b.range.hi) where
  abbrev s : State
  s = opening_state at pc b.vecbase b.range.hi

  -- all is known
  opens_state : h.state core 0 ≡ opening_use d (frame_of s)
  opens_state = history.opens core ∙ ap (opening_use d) (frame ∙ sym (opens_alike at pc b.vecbase b.range.hi))

  opens_core : IsStack b.range → IsShaped s → word (byte_at m) (b.range.hi - 76) ≡ b.range.hi → InCoreUse r.code (phase_before r core 0) m (r.bounds core) true s (h.state core 0)
  opens_core stack shaped link =
      let plain : InCoreUse r.code Outside m b true s (opening_use d (frame_of s)) = record { frame = frame_of s; entered = (opening_core s).entered; core = (record { ring = []; spilled = []; related = opening_related at pc b (byte_at m) stack shaped link }, refl); knows = opens_known s shaped d } in
      subst (λ (phase : HandlerPhase). InCoreUse r.code phase m (r.bounds core) true s (h.state core 0)) (sym (opens_plain r core))
      (subst (λ (c : Bounds). InCoreUse r.code Outside m c true s (h.state core 0)) (sym bounds)
      (subst (λ (u : UseState). InCoreUse r.code Outside m b true s u) (sym opens_state) plain))

  opens_words : MaskWords (h.state core 0).masks
  opens_words = subst (λ (u : UseState). MaskWords u.masks) (sym opens_state) (opening_small d)

pub before_opens : (d : Discipline) (r : Course) (h : History) (o : Openings) → IsHistory d r h → IsOpening o → Apart o.range0 o.range1
    → r.bounds 0 ≡ bounds0 o → r.bounds 1 ≡ bounds1 o → r.opening 0 ≡ frame0 o → r.opening 1 ≡ frame1 o
    → Before r h 0 (memory_of o) (memory_of o) (state0 o) (state1 o)
before_opens d r h o history opening apart b0 b1 f0 f1 =
    let links = opening_links o.segments o.range0 o.range1 opening.stack0 opening.stack1 apart in
    let memory = opening_is_memory o.segments o.range0 o.range1 opening.segments in
    let shaped0 = stack_shaped 0 o.pc0 o.vecbase o.range0 opening.stack0 opening.entry0 opening.aligned opening.vectors in
    let shaped1 = stack_shaped 1 o.pc1 o.vecbase o.range1 opening.stack1 opening.entry1 opening.aligned opening.vectors in
    record {
      lost0 = false;
      lost1 = false;
      is_lost0 = never_lost r h 0;
      is_lost1 = never_lost r h 1;
      both = record {
        first = opens_core d r h history 0 0 o.pc0 (bounds0 o) (memory_of o) b0 f0 opening.stack0 shaped0 links.0;
        second = opens_core d r h history 1 1 o.pc1 (bounds1 o) (memory_of o) b1 f1 opening.stack1 shaped1 links.1;
        shaped_first = shaped0;
        shaped_second = shaped1;
        real = memory;
        words_first = opens_words d r h history 0 0 o.pc0 (bounds0 o) (memory_of o) b0 f0;
        words_second = opens_words d r h history 1 1 o.pc1 (bounds1 o) (memory_of o) b1 f1;
      };
      alike = open_alike r h (memory_of o);
      frames = memory;
    }

-- ---- core 0, and core 1, has the next turn
abbrev LiveOf : Course → History → ℕ → ℕ → Type 0
LiveOf r h p core = (a : ℕ) → is_live (r.bounds core).range (h.state core p).frame a ≡ true → live_at r h p a ≡ true

live0 : (r : Course) (h : History) (p : ℕ) → LiveOf r h p 0
live0 r h p a is = or_left (is_live (r.bounds 0).range (h.state 0 p).frame a) (is_live (r.bounds 1).range (h.state 1 p).frame a) is

live1 : (r : Course) (h : History) (p : ℕ) → LiveOf r h p 1
live1 r h p a is = or_right (is_live (r.bounds 0).range (h.state 0 p).frame a) (is_live (r.bounds 1).range (h.state 1 p).frame a) is

beside0 : (r : Course) (h : History) (p : ℕ) (m framed : MemoryContents) (s t : State) → Before r h p m framed s t → Beside r h p 0 1 m framed s t
beside0 r h p m framed s t k = record { lost = k.lost0; later = k.lost1; is_lost = k.is_lost0; is_later = k.is_lost1; both = k.both; alike = k.alike; frames = k.frames }

beside1 : (r : Course) (h : History) (p : ℕ) (m framed : MemoryContents) (s t : State) → Before r h p m framed s t → Beside r h p 1 0 m framed t s
beside1 r h p m framed s t k = record { lost = k.lost1; later = k.lost0; is_lost = k.is_lost1; is_later = k.is_lost0; both = turned_round k.both; alike = k.alike; frames = k.frames }

back0 : (r : Course) (h : History) (p : ℕ) (m framed : MemoryContents) (s t : State) → Beside r h p 0 1 m framed s t → Before r h p m framed s t
back0 r h p m framed s t k = record { lost0 = k.lost; lost1 = k.later; is_lost0 = k.is_lost; is_lost1 = k.is_later; both = k.both; alike = k.alike; frames = k.frames }

back1 : (r : Course) (h : History) (p : ℕ) (m framed : MemoryContents) (s t : State) → Beside r h p 1 0 m framed t s → Before r h p m framed s t
back1 r h p m framed s t k = record { lost0 = k.later; lost1 = k.lost; is_lost0 = k.is_later; is_lost1 = k.is_lost; both = turned_round k.both; alike = k.alike; frames = k.frames }

other_way : (r : Course) → Apart (r.bounds 0).range (r.bounds 1).range → Apart (r.bounds 1).range (r.bounds 0).range
other_way r apart = ⊎_elim (λ low. inr low) (λ high. inl high) apart

module _ (r : Course) (h : History) (g : Grounds r h) (opening : MemoryContents) (p : ℕ) (m : MemoryContents) (s t : State) (before : Before r h p m (memory_after opening (entries_before r p)) s t) where
  pub before_turn0 : IsTurn r p 0 (record_now r.code m s) → Shows r h p 0 (record_now r.code m s) None → Before r h (suc p) (memory_now r.code m s) (memory_after opening (entries_before r (suc p))) (state_now r.code m s) t
  before_turn0 turn shows =
      back0 r h (suc p) (memory_now r.code m s) (memory_after opening (entries_before r (suc p))) (state_now r.code m s) t
      (side_turn r h g.bytes g.history p 0 1 refl g.good0 g.good1 g.apart (live0 r h p) (live1 r h p) opening m s t (beside0 r h p m (memory_after opening (entries_before r p)) s t before) turn shows)

  pub before_turn1 : IsTurn r p 1 (record_now r.code m t) → Shows r h p 1 (record_now r.code m t) None → Before r h (suc p) (memory_now r.code m t) (memory_after opening (entries_before r (suc p))) s (state_now r.code m t)
  before_turn1 turn shows =
      back1 r h (suc p) (memory_now r.code m t) (memory_after opening (entries_before r (suc p))) s (state_now r.code m t)
      (side_turn r h g.bytes g.history p 1 0 refl g.good1 g.good0 (other_way r g.apart) (live1 r h p) (live0 r h p) opening m t s (beside1 r h p m (memory_after opening (entries_before r p)) s t before) turn shows)

  pub before_fits0 : IsJudgedTurn r p 0 (record_now r.code m s) → Shows r h p 0 (record_now r.code m s) None → FitsStep r h opening p 0 (record_now r.code m s)
  before_fits0 turn shows =
      side_fits r h g.bytes g.history p 0 1 refl g.good0 g.good1 g.apart (live0 r h p) (live1 r h p) opening m s t (beside0 r h p m (memory_after opening (entries_before r p)) s t before) turn.turn shows turn.judged

  pub before_fits1 : IsJudgedTurn r p 1 (record_now r.code m t) → Shows r h p 1 (record_now r.code m t) None → FitsStep r h opening p 1 (record_now r.code m t)
  before_fits1 turn shows =
      side_fits r h g.bytes g.history p 1 0 refl g.good1 g.good0 (other_way r g.apart) (live1 r h p) (live0 r h p) opening m t s (beside1 r h p m (memory_after opening (entries_before r p)) s t before) turn.turn shows turn.judged
