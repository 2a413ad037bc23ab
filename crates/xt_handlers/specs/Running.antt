-- Carries a proof; nothing that a reader must believe.
-- A machine that runs a handler's instructions.
use Rattle.std.specs.Prelude.{◌≡◌, ℕ, ◌+◌, ◌/◌, ◌%◌, ◌==◌, ◌&&◌, nat_le, Bool, true}
use Rattle.std.specs.Prelude.{if◌then◌else◌, Option, Some, None, List, [], ◌∷◌}
use Rattle.std.specs.Prelude.{slice_set}
use Rattle.xt_handlers.specs.Handling.{Line}
use Rattle.xt_handlers.specs.Machines.{Machine, place, visible, word_at, address}
use Rattle.xt_handlers.specs.declared.stretch.HandlerInsn.{HandlerInsn}
use Rattle.xt_handlers.specs.declared.stretch.HandlerInsn.TheVariants.{L32e, S32e, Nop, Rfwo, Rfwu, Foreign}

-- memory after a word was stored
abbrev pub with_word : (ℕ → ℕ) → ℕ → ℕ → ℕ → ℕ
with_word bytes a value b =
    if b == a then value % 256
    else (if b == a + 1 then value / 256 % 256
    else (if b == a + 2 then value / 65536 % 256
    else (if b == a + 3 then value / 16777216 % 256
    else bytes b)))

-- whether a word there is aligned and in DRAM
unfoldable pub is_access : ℕ → Bool
is_access a = (a % 4 == 0) && (nat_le 0x3FFAE000 a && nat_le (a + 4) 0x40000000)

-- one instruction, or none where it raises a cause
abbrev pub machine_after_step : HandlerInsn → Machine → Option Machine
machine_after_step (L32e t s back) m = if is_access (address (visible m s) back)
    then Some (record {
      ring = slice_set m.ring (place m.base t) (word_at m.bytes (address (visible m s) back));
      base = m.base;
      bytes = m.bytes;
    })
    else None
machine_after_step (S32e t s back) m = if is_access (address (visible m s) back)
    then Some (record {
      ring = m.ring;
      base = m.base;
      bytes = with_word m.bytes (address (visible m s) back) (visible m t);
    })
    else None
machine_after_step Nop m = Some m
machine_after_step Rfwo m = None
machine_after_step Rfwu m = None
machine_after_step Foreign m = None

-- the word that an instruction loads or stores, if any, is aligned and in DRAM
abbrev pub MayAccess : HandlerInsn → Machine → Type 0
MayAccess (L32e t s back) m = is_access (address (visible m s) back) ≡ true
MayAccess (S32e t s back) m = is_access (address (visible m s) back) ≡ true
MayAccess Nop m = Unit {0}
MayAccess Rfwo m = Unit {0}
MayAccess Rfwu m = Unit {0}
MayAccess Foreign m = Unit {0}

abbrev pub then_ran : (Machine → Option Machine) → Option Machine → Option Machine
then_ran f None = None
then_ran f (Some m) = f m

-- the machine at the ending, before it is executed
abbrev pub ran_at : HandlerInsn → (Machine → Option Machine) → Machine → Option Machine
ran_at (L32e t s back) rest m = then_ran rest (machine_after_step (L32e t s back) m)
ran_at (S32e t s back) rest m = then_ran rest (machine_after_step (S32e t s back) m)
ran_at Nop rest m = rest m
ran_at Rfwo rest m = Some m
ran_at Rfwu rest m = Some m
ran_at Foreign rest m = None

abbrev pub machine_after_lines : List Line → Machine → Option Machine
machine_after_lines [] m = None
machine_after_lines (l ∷ ls) m = ran_at l.step (machine_after_lines ls) m
