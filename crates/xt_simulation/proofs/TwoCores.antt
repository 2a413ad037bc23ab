-- Both cores beside their machines of uses, and the next turn of one of them.
use Rattle.std.proofs.Common.{◌≡◌, ℕ, ◌^◌, ◌<◌, Bool, true, false, not, Option, Some, None, sym, ◌∙◌, subst, cond}
use Rattle.xt_map.specs.declared.access.Access.{Access}
use Rattle.xt_map.specs.declared.contents.MemoryContents.{MemoryContents}
use Rattle.xt_map.specs.Touching.{IsMemory}
use Rattle.xt_map.specs.Code.{AreBytes}
use Rattle.xt_exec.specs.State.{State}
use Rattle.xt_exec.specs.TurnLaws.{IsServed, IsShaped}
use Rattle.xt_exec.specs.Turn.{demand}
use Rattle.xt_exec.proofs.Served.{demand_served}
use Rattle.xt_frames.specs.declared.kinds.HandlerPhase.{HandlerPhase}
use Rattle.xt_frames.specs.HandlerSteps.{phase_after}
use Rattle.xt_frames.specs.SaveAreas.{is_live}
use Rattle.xt_frames.specs.Breaches.{Bounds}
use Rattle.xt_frames.specs.FirstBreach.{is_judged}
use Rattle.xt_frames.specs.Verdict.{is_nested}
use Rattle.xt_simulation.specs.Handling.{IsGood}
use Rattle.xt_simulation.specs.JudgedSteps.{fresh_turn}
use Rattle.xt_simulation.specs.Steps.{memory_now, record_now, reply_now, state_now}
use Rattle.xt_simulation.specs.Walking.{Apart}
use Rattle.xt_simulation.proofs.Judges.{record_access, shaped_now}
use Rattle.xt_simulation.proofs.Memories.{step_memory}
use Rattle.xt_uses.specs.FirstUse.{record_use}
use Rattle.xt_uses.specs.UseState.{UseState}
use Rattle.xt_uses.specs.UseStep.{reply_mask, use_step}
use Rattle.xt_uses.specs.UseLaws.{RowsAgree}
use Rattle.xt_simulation.proofs.CoreTurn.{CoreNext, core_turn, fresh_next}
use Rattle.xt_simulation.proofs.MaskStep.{reply_small, step_small}
use Rattle.xt_simulation.proofs.MaskWords.{MaskWords, now_small}
use Rattle.xt_simulation.proofs.OneTurn.{InCoreUse, use_spared, uses_apart}

pub record TwoUse (code : ℕ → ℕ) (one other : HandlerPhase) (m : MemoryContents) (b c : Bounds) (fresh later : Bool) (s t : State) (us vs : UseState) : Type 0 where
  pub first : InCoreUse code one m b fresh s us
  pub second : InCoreUse code other m c later t vs
  pub shaped_first : IsShaped s
  pub shaped_second : IsShaped t
  pub real : IsMemory m
  pub words_first : MaskWords us.masks
  pub words_second : MaskWords vs.masks

pub turned_round : {code : ℕ → ℕ} {one other : HandlerPhase} {m : MemoryContents} {b c : Bounds} {fresh later : Bool} {s t : State} {us vs : UseState} → TwoUse code one other m b c fresh later s t us vs → TwoUse code other one m c b later fresh t s vs us
turned_round h = record {
  first = h.second;
  second = h.first;
  shaped_first = h.shaped_second;
  shaped_second = h.shaped_first;
  real = h.real;
  words_first = h.words_second;
  words_second = h.words_first;
}

access_small : (code : ℕ → ℕ) (m : MemoryContents) (s : State) (kb : ℕ → ℕ) → reply_mask kb (record_now code m s).access < 2 ^ 32
access_small code m s kb =
    reply_small kb (record_now code m s).access
    (λ a e. let asked : demand code s ≡ Some a = sym (record_access code s (reply_now code m s)) ∙ e in subst (λ (o : Option Access). IsServed o) asked (demand_served code s))

pub two_turn : (rows : RowsAgree) (code : ℕ → ℕ) (bytes : AreBytes code) (b c : Bounds) (good : IsGood code b) → IsGood code c → Apart b.range c.range → (one other : HandlerPhase) (m : MemoryContents) (lost later : Bool) (s t : State) (us vs : UseState)
    → (live : ℕ → Bool) (own : (a : ℕ) → is_live b.range us.frame a ≡ true → live a ≡ true) → ((a : ℕ) → is_live c.range vs.frame a ≡ true → live a ≡ true) → (kb : ℕ → ℕ)
    → (h : TwoUse code one other m b c (not lost) later s t us vs) → record_use code b one us lost live kb (record_now code m s) ≡ None
    → CoreNext rows code bytes b good m h.real s h.shaped_first us (now_small us h.words_first) live own kb one (not lost)
    × TwoUse code (phase_after code one (record_now code m s)) other (memory_now code m s) b c (fresh_next one (not lost) (fresh_turn (not lost) code (reply_now code m s) s)) later (state_now code m s) t
    (cond (is_judged one (record_now code m s).kind) (use_step code (is_nested one) (record_now code m s) kb us).after us) vs
two_turn rows code bytes b c good good2 apart one other m lost later s t us vs live own theirs kb h none =
    let n = core_turn rows code bytes b good m h.real s h.shaped_first us (now_small us h.words_first) live own kb one lost h.first none in (
      n,
      record {
        first = n.next;
        second = use_spared code bytes c good2 other m (memory_now code m s) later t vs (λ a is. n.other a (theirs a is) (uses_apart code one other m b c (not lost) later s t us vs apart h.first h.second a is)) h.second;
        shaped_first = shaped_now code m s bytes h.shaped_first h.real;
        shaped_second = h.shaped_second;
        real = step_memory m (demand code s) h.real;
        words_first = words (is_judged one (record_now code m s).kind);
        words_second = h.words_second;
      },
    )
  where
    words : (j : Bool) → MaskWords (cond j (use_step code (is_nested one) (record_now code m s) kb us).after us).masks
    words true = step_small code bytes (is_nested one) (record_now code m s) kb us (access_small code m s kb) h.words_first
    words false = h.words_first
