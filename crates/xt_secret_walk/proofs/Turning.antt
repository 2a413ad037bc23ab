-- What the next turn of a core comes to.
use Rattle.std.proofs.Common.{◌≡◌, ℕ, ◌+◌, ◌-◌, ◌<◌, ◌≤◌, Bool, true, false, cond, Option, List, [], ◌∷◌, sym, ap, ◌∙◌, subst, arith}
use Rattle.xt_trace.specs.Calls.{is_stop}
use Rattle.xt_trace.specs.Traces.{trace_over}
use Rattle.xt_trace.specs.Worlds.{left_past}
use Rattle.xt_trace.specs.declared.record.StepRecord.{StepRecord}
use Rattle.xt_map.specs.Fetching.{fetch_at}
use Rattle.xt_exec.specs.State.{State}
use Rattle.xt_exec.specs.States.{file_state}
use Rattle.xt_exec.specs.Turn.{turn}
use Rattle.xt_exec.specs.Chips.{processor}
use Rattle.xt_uses.specs.UseStep.{reply_mask}
use Rattle.xt_simulation.specs.Knowledge.{Knowledge}
use Rattle.xt_simulation.specs.TurnUses.{turn_used}
use Rattle.xt_simulation.specs.Learning.{known_after, stored_mask}
use Rattle.xt_simulation.specs.SecretBytes.{bytes_past}
use Rattle.xt_use_walk.specs.declared.bytes.ByteMasks.{ByteMasks}
use Rattle.xt_secret_walk.specs.declared.leak.FirstLeak.{FirstLeak}
use Rattle.xt_secret_walk.specs.declared.seen.Seen.{Seen}
use Rattle.xt_secret_walk.specs.declared.side.Side.{Side}
use Rattle.xt_secret_walk.specs.KnownBytes.{KnowsBytes}
use Rattle.xt_secret_walk.specs.SeenWords.{IsGoodSeen, seen_lacks, seen_of, turn_uses}
use Rattle.xt_secret_walk.specs.Walked.{IsLeaking, IsMade, IsPassed, IsPast, IsSide, count_of, records_left, side_known, side_state, turn_carries}
use Rattle.xt_secret_walk.proofs.Knowing.{uses_are}
use Rattle.xt_secret_walk.proofs.Lacking.{lacks_are}

pub none_left : (code : ℕ → ℕ) (w : Side) → w.left ≡ 0 → records_left code w ≡ []
none_left code w none = ap (λ (n : ℕ). (trace_over (processor code) (side_state w) n w.replies).records) none

pub fewer_left : (rec : StepRecord) (left n : ℕ) → 0 < left → n ≡ left_past rec (left - 1) → n < left
fewer_left rec left n some e = by (is_stop rec.kind) e
  where
    by : (b : Bool) → n ≡ cond b 0 (left - 1) → n < left
    by true is = omega (arith, is, some)
    by false is = omega (arith, is, some)

count_few : (b : Bool) → count_of b ≤ 1
count_few true = omega arith
count_few false = omega arith

module _ (code : ℕ → ℕ) (old mid : Side) (masks : ℕ → ℕ) (rec : StepRecord) (seen : Option Seen) (reply : ℕ) (made : IsMade code old mid rec)
    (is : reply ≡ reply_mask masks rec.access) (found : seen ≡ seen_of (fetch_at code (side_state old).control.pc) (side_known old) (side_state old)) (good : IsGoodSeen seen)
  where
    abbrev s : State
    s = side_state old

    abbrev m : Knowledge
    m = side_known old

    uses : turn_uses rec.kind rec.access seen reply ≡ turn_used code rec.kind rec.access (reply_mask masks rec.access) m s
    uses =
        ap (λ (x : Option Seen). turn_uses rec.kind rec.access x reply) found
        ∙ (uses_are old.masks s code rec.kind rec.access reply (subst IsGoodSeen found good)
        ∙ ap (λ (n : ℕ). turn_used code rec.kind rec.access n m s) is)

    pub leaks : (first : FirstLeak) → first.rec ≡ rec → first.core ≡ old.core → first.step ≡ old.steps → first.lacks ≡ seen_lacks seen → turn_uses rec.kind rec.access seen reply ≡ false
        → IsLeaking code old s m masks first
    leaks first same core step lacks unknown = record {
      rest = records_left code mid;
      records = made.records ∙ ap (λ (x : StepRecord). x ∷ records_left code mid) (sym same);
      core_is = core;
      step = step;
      uses = subst (λ (x : StepRecord). turn_used code x.kind x.access (reply_mask masks x.access) m s ≡ false) (sym same) (sym uses ∙ unknown);
      lacks = lacks ∙ (ap seen_lacks found ∙ lacks_are (fetch_at code s.control.pc) m s);
    }

    same_known : side_known mid ≡ m
    same_known = ap (λ a. (let w : Side = record mid { masks = a } in side_known w)) made.masks

    found_mid : seen ≡ seen_of (fetch_at code s.control.pc) (side_known mid) s
    found_mid = found ∙ ap (λ (k : Knowledge). seen_of (fetch_at code s.control.pc) k s) (sym same_known)

    after : side_state mid ≡ (turn code s rec.reply).1
    after = ap (λ (x : StepRecord × State). x.1) made.state

    pub goes_on : (public : ℕ → Bool) (new : Side) (b c : ByteMasks) → IsSide old → IsPassed public mid new b c rec seen reply → turn_uses rec.kind rec.access seen reply ≡ true → KnowsBytes b public masks
        → IsPast code public old new c s m masks rec
    goes_on public new b c side p yes_used knows =
        let steps : new.steps ≡ old.steps + 1 = p.steps ∙ ap (λ (n : ℕ). n + 1) made.steps in
        let carried : new.carried ≡ old.carried + count_of (turn_carries code public rec (reply_mask masks rec.access) m s) =
        p.carried code s found_mid ∙ (λ i. made.carried i + count_of (turn_carries code public rec (is i) (same_known i) s)) in
        let few = count_few (turn_carries code public rec (reply_mask masks rec.access) m s) in
        let room = side.turns in
        let count = side.carried in
        let left = p.left_is in
        let less = made.left in
        record {
          records = made.records ∙ ap (λ (xs : List StepRecord). rec ∷ xs) (sym (λ i. (trace_over (processor code) (file_state (p.regs_are i)) (p.left_is i) (p.replies_are i)).records));
          side = record { turns = (omega arith); carried = (omega arith) };
          core_is = p.core_is ∙ made.core_is;
          uses = sym uses ∙ yes_used;
          state = ap file_state p.regs_are ∙ after;
          known = p.known code s found_mid ∙ (λ i. known_after code rec.kind rec.write (after i).base (is i) (same_known i) s);
          bytes_are = subst (λ (k : Knowledge). KnowsBytes c public (bytes_past public (stored_mask code rec.kind k s) rec.access masks)) same_known (p.bytes_are code s masks found_mid knows);
          steps = steps;
          carried = carried;
        }
