-- Two worlds that agree in what is known still do if less is known.
use Rattle.std.proofs.Common.{◌≡◌, ℕ, ◌⊎◌, ⊎_elim, sym, ◌∙◌, subst}
use Rattle.std.specs.Prelude.{slice_index}
use Rattle.xt_map.specs.Memory.{byte_at}
use Rattle.xt_special.specs.Control.{special_of}
use Rattle.xt_exec.specs.State.{State}
use Rattle.xt_uses.specs.UseLaws.{AgreeIn}
use Rattle.xt_uses.proofs.Agreeing.{agree_none}
use Rattle.xt_simulation.specs.Knowledge.{Knowledge, StatesAgree}
use Rattle.xt_simulation.specs.SecretWorlds.{Learned}
use Rattle.xt_moments.specs.Moments.{MomentCore, MomentWorld}
use Rattle.xt_moments.specs.WorldLaws.{AreAlike, CoresAgree, IsLearned, IsShapedWorld}

-- nothing is known of a number, or it is the same, and as much is known of it
abbrev pub IsLess : ℕ → ℕ → ℕ → ℕ → Type 0
IsLess less mask x y = (less ≡ 0) ⊎ ((less ≡ mask) × (x ≡ y))

agree_less : (less mask x y z : ℕ) → IsLess less mask x y → AgreeIn mask x z → AgreeIn less y z
agree_less less mask x y z is h = ⊎_elim
    (λ (none : less ≡ 0). subst (λ k. AgreeIn k y z) (sym none) (agree_none y z))
    (λ (same : (less ≡ mask) × (x ≡ y)). subst (λ k. AgreeIn k y z) (sym same.0)
    (subst (λ v. AgreeIn mask v z) same.1 h))
    is

-- of a core, and of some special registers less
pub record LessKnown (m n : Knowledge) (s t : State) : Type 0 where
  pub pc : t.control.pc ≡ s.control.pc
  pub base : t.base ≡ s.base
  pub start : t.start ≡ s.start
  pub ps : t.control.ps ≡ s.control.ps
  pub waits : t.control.waits ≡ s.control.waits
  pub regs : (k : ℕ) → IsLess (n.regs k) (m.regs k) (slice_index s.regs k) (slice_index t.regs k)
  pub special : (k : ℕ) → IsLess (n.special k) (m.special k) (special_of s.control k)
      (special_of t.control k)
  pub threadptr : IsLess n.threadptr m.threadptr s.control.threadptr t.control.threadptr

pub states_less : (m n : Knowledge) (s t u : State) → LessKnown m n s t → StatesAgree m s u
    → StatesAgree n t u
states_less m n s t u l h = record {
  pc = l.pc ∙ h.pc;
  base = l.base ∙ h.base;
  start = l.start ∙ h.start;
  ps = l.ps ∙ h.ps;
  waits = l.waits ∙ h.waits;
  regs = λ k. agree_less (n.regs k) (m.regs k) (slice_index s.regs k) (slice_index t.regs k)
      (slice_index u.regs k) (l.regs k) (h.regs k);
  special = λ k. agree_less (n.special k) (m.special k) (special_of s.control k)
      (special_of t.control k) (special_of u.control k) (l.special k) (h.special k);
  threadptr = agree_less n.threadptr m.threadptr s.control.threadptr t.control.threadptr
      u.control.threadptr l.threadptr h.threadptr;
}

pub record LessCore (m n : Knowledge) (j k : MomentCore) : Type 0 where
  pub state : LessKnown m n j.state k.state
  pub armed : k.armed ≡ j.armed
  pub stopped : k.stopped ≡ j.stopped

-- of two cores and of memory, where of each less is known in the second world
pub record LessWorld (k l : Learned) (v w : MomentWorld) : Type 0 where
  pub core0 : LessCore k.core0 l.core0 v.core0 w.core0
  pub core1 : LessCore k.core1 l.core1 v.core1 w.core1
  pub bytes : (a : ℕ) → IsLess (l.bytes a) (k.bytes a) (byte_at v.memory a) (byte_at w.memory a)
  pub sent : w.memory.sent ≡ v.memory.sent

cores_less : (m n : Knowledge) (i j k : MomentCore) → LessCore m n i j → CoresAgree m i k
    → CoresAgree n j k
cores_less m n i j k l h = record {
  state = states_less m n i.state j.state k.state l.state h.state;
  armed = l.armed ∙ h.armed;
  stopped = l.stopped ∙ h.stopped;
}

pub alike_less : (k l : Learned) (v w u : MomentWorld) → IsShapedWorld w → IsLearned l
    → LessWorld k l v w → AreAlike k v u → AreAlike l w u
alike_less k l v w u shaped learned less h = record {
  shaped = shaped;
  other = h.other;
  learned = learned;
  agree = record {
    core0 = cores_less k.core0 l.core0 v.core0 w.core0 u.core0 less.core0 h.agree.core0;
    core1 = cores_less k.core1 l.core1 v.core1 w.core1 u.core1 less.core1 h.agree.core1;
    memory = record {
      bytes = λ a. agree_less (l.bytes a) (k.bytes a) (byte_at v.memory a) (byte_at w.memory a)
          (byte_at u.memory a) (less.bytes a) (h.agree.memory.bytes a);
      sent = less.sent ∙ h.agree.memory.sent;
    };
  };
}
