-- Of two states that agree in what is known both next turns use known bits alone, or neither does.
use Rattle.std.proofs.Common.{◌≡◌, ℕ, Bool, true, false, cond, ◌||◌, ◌&&◌, not, eqb, Option, Some, None, List, refl, sym, ap, ◌∙◌, subst, arith}
use Rattle.xt_isa.specs.declared.Insn.{Insn}
use Rattle.xt_map.specs.declared.access.Access.{Access}
use Rattle.xt_map.specs.declared.access.Kind.{Kind}
use Rattle.xt_map.specs.declared.access.Kind.TheVariants.{Load, Store, Cas}
use Rattle.xt_map.specs.Regions.{is_memory, region_of}
use Rattle.xt_map.specs.Touching.{is_load, is_store}
use Rattle.xt_trace.specs.declared.record.StepKind.{StepKind}
use Rattle.xt_trace.specs.declared.record.StepKind.TheVariants as kind
use Rattle.xt_map.specs.Code.{AreBytes}
use Rattle.xt_map.specs.Fetching.{Fetched, Fetches, Fails, SpellsNothing, fetch_at}
use Rattle.xt_rows.specs.Kinds.{is_return}
use Rattle.xt_rows.specs.Operands.{reads, special_reads}
use Rattle.xt_exec.specs.State.{State}
use Rattle.xt_exec.specs.Turn.{demand, planned_turn, turn}
use Rattle.xt_exec.specs.TurnLaws.{IsShaped}
use Rattle.xt_exec.proofs.Served.{demand_served}
use Rattle.xt_uses.specs.Words.{all_bits, and_word, complement, is_whole}
use Rattle.xt_uses.specs.UseLaws.{KindsAgree}
use Rattle.xt_uses.specs.UseStep.{reply_mask, unknown_bits}
use Rattle.xt_simulation.specs.Knowledge.{AreMasks, Knowledge, StatesAgree}
use Rattle.xt_simulation.specs.TurnUses.{common_used, found_used, insn_used, kind_used, row_used, specials_used, turn_used, window_used}
use Rattle.xt_simulation.specs.SecretLaws.{AccessAgrees, TurnsUseAlike}
use Rattle.xt_simulation.proofs.Law.{turns_with_known_uses_agree, whole_other}
use Rattle.xt_simulation.proofs.Readings.{Two, other, register_same, special_same}
use Rattle.xt_simulation.proofs.Worlds.{reply_fits, reply_small}

agree_back : (m : Knowledge) (s t : State) → StatesAgree m s t → StatesAgree m t s
agree_back m s t e = record {
  pc = sym e.pc;
  base = sym e.base;
  start = sym e.start;
  ps = sym e.ps;
  waits = sym e.waits;
  regs = λ k. sym (e.regs k);
  special = λ n. sym (e.special n);
  threadptr = sym e.threadptr;
}

-- ---- what a turn of one kind uses

module _ (m : Knowledge) (s : State) (rs ys : List ℕ) (k : ℕ) (h : Two m s rs ys k) where
  abbrev t : State
  t = other s rs ys k

  insn_same : (i : Insn) → insn_used i m s ≡ insn_used i m t
  insn_same i =
      λ j. row_used i (register_same m s rs ys k h (reads i).0 j) (register_same m s rs ys k h (reads i).1 j)
      && specials_used i (special_same m s rs ys k h (special_reads i).0 j) (special_same m s rs ys k h (special_reads i).1 j)

  window_same : (i : Insn) → window_used i m s ≡ window_used i m t
  window_same i = λ j. not (is_return i) || is_whole (register_same m s rs ys k h (Some 0) j)

  kind_same : (x : StepKind) (f : Fetched) → kind_used x f m s ≡ kind_used x f m t
  unfolding kind_used
  kind_same (kind.Interrupt level) f = refl
  kind_same kind.Wait f = refl
  kind_same (kind.Window vector) (Fetches i len) = window_same i
  kind_same (kind.Window vector) (Fails address) = refl
  kind_same (kind.Window vector) SpellsNothing = refl
  kind_same kind.Insn (Fetches i len) = insn_same i
  kind_same kind.Insn (Fails address) = refl
  kind_same kind.Insn SpellsNothing = refl
  kind_same (kind.Exc cause) (Fetches i len) = insn_same i
  kind_same (kind.Exc cause) (Fails address) = refl
  kind_same (kind.Exc cause) SpellsNothing = refl
  kind_same kind.Stop (Fetches i len) = insn_same i
  kind_same kind.Stop (Fails address) = refl
  kind_same kind.Stop SpellsNothing = refl

  common_same : common_used m s ≡ common_used m t
  common_same =
      λ j. is_whole (and_word (special_same m s rs ys k h (Some 226) j) (special_same m s rs ys k h (Some 228) j))
      && (is_whole (special_same m s rs ys k h (Some 231) j)
      && (is_whole (special_same m s rs ys k h (Some 0) j) && (is_whole (special_same m s rs ys k h (Some 1) j) && is_whole (special_same m s rs ys k h (Some 2) j))))

  pub turn_same : (code : ℕ → ℕ) (x : StepKind) (a : Option Access) (reply : ℕ) → turn_used code x a reply m s ≡ turn_used code x a reply m t
  unfolding turn_used
  turn_same code x a reply = λ j. common_same j && (kind_same x (fetch_at code s.control.pc) j && found_used a reply)

-- ---- accesses that agree

kind_swaps : (stored addr size : ℕ) (k l : Kind) → KindsAgree stored k l → (is_load k ≡ is_load l) × (is_store k ≡ is_store l)
kind_swaps stored addr size (Store v) (Store w) h = (refl, refl)
kind_swaps stored addr size (Store v) Load h = absurd cc
kind_swaps stored addr size (Store v) (Cas x y) h = absurd cc
kind_swaps stored addr size Load l h = (ap is_load h, ap is_store h)
kind_swaps stored addr size (Cas x y) l h = (ap is_load h, ap is_store h)

access_found : (kb : ℕ → ℕ) (stored : ℕ) (a b : Option Access) → AccessAgrees stored a b → found_used a (reply_mask kb a) ≡ found_used b (reply_mask kb b)
access_found kb stored None None h = refl
access_found kb stored None (Some b) h = absurd h
access_found kb stored (Some a) None h = absurd h
access_found kb stored (Some a) (Some b) h =
    let k = kind_swaps stored a.addr a.size a.kind b.kind h.2 in
    λ j. not (not (k.0 j || k.1 j)) || eqb (cond (is_memory (region_of (h.0 j)) && not (k.1 j)) (complement (unknown_bits kb (h.0 j) (h.1 j))) all_bits) all_bits

-- ---- both turns

-- what holds of the first holds of the second
module _ (code : ℕ → ℕ) (bytes : AreBytes code) (kb : ℕ → ℕ) (m : Knowledge) (masks : AreMasks m) where
  abbrev Uses : State → Bool
  Uses s = turn_used code (planned_turn code s).kind (planned_turn code s).access (reply_mask kb (planned_turn code s).access) m s

  found_same : (s : State) (x : StepKind) (a b : Option Access) → found_used a (reply_mask kb a) ≡ found_used b (reply_mask kb b) → turn_used code x a (reply_mask kb a) m s ≡ turn_used code x b (reply_mask kb b) m s
  unfolding turn_used
  found_same s x a b e = ap (λ (z : Bool). common_used m s && (kind_used x (fetch_at code s.control.pc) m s && z)) e

  other_uses : (s t : State) → IsShaped s → IsShaped t → StatesAgree m s t → (x : StepKind) (a : Option Access) (reply : ℕ) → turn_used code x a reply m s ≡ turn_used code x a reply m t
  other_uses s t f g e x a reply =
      let same = whole_other m s t e in
      subst (λ (u : State). turn_used code x a reply m s ≡ turn_used code x a reply m u) same
      (turn_same m s t.regs t.control.special t.control.threadptr
      (record { masks = masks; first = f; second = subst (λ (u : State). IsShaped u) (sym same) g; agree = subst (λ (u : State). StatesAgree m s u) (sym same) e }) code x a reply)

  first_then : (s t : State) → IsShaped s → IsShaped t → StatesAgree m s t → Uses s ≡ true → Uses t ≡ true
  unfolding turn demand
  first_then s t f g e used =
      let p = planned_turn code s in
      let q = planned_turn code t in
      let served = demand_served code s in
      let turns = turns_with_known_uses_agree code m s t (reply_mask kb p.access) 0 0 bytes masks f g e (reply_small kb p.access served) (omega arith) (omega arith) refl (reply_fits kb p.access) used in
      sym (found_same t q.kind p.access q.access (access_found kb _ p.access q.access turns.access))
      ∙ (sym (ap (λ (x : StepKind). turn_used code x p.access (reply_mask kb p.access) m t) turns.kind) ∙ (sym (other_uses s t f g e p.kind p.access (reply_mask kb p.access)) ∙ used))

  both : (a b : Bool) → (a ≡ true → b ≡ true) → (b ≡ true → a ≡ true) → a ≡ b
  both true b f g = sym (f refl)
  both false true f g = g refl
  both false false f g = refl

pub turns_use_alike : TurnsUseAlike
turns_use_alike code kb m s t bytes masks f g e =
    both code bytes kb m masks _ _ (first_then code bytes kb m masks s t f g e) (first_then code bytes kb m masks t s g f (agree_back m s t e))
