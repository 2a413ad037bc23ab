-- The control state in which a core opens ('profile').
--
-- Profile: a core opens as if a CALL8 had called its first instruction (PROCESSOR.md), so the
-- program may begin with an ENTRY. PRID is 0xCDCD on core 0 and 0xABAB on core 1.
use Rattle.std.specs.Prelude.{ℕ, zero, suc, true, false, List, replicate, slice_set}
use Rattle.xt_special.specs.declared.ps.Ps.{Ps}
use Rattle.xt_special.specs.Numbers as number
use Rattle.xt_special.specs.Control.{Control}

-- the processor's number: PRID of core 0 and of core 1
abbrev pub prid_of : ℕ → ℕ
prid_of zero = 0xCDCD
prid_of (suc n) = 0xABAB

unfoldable pub no_special : List ℕ
no_special = replicate 256 0

-- all special registers are 0 but PRID and VECBASE
unfoldable pub opening_special : ℕ → ℕ → List ℕ
opening_special prid vecbase =
    slice_set (slice_set no_special number.prid prid) number.vecbase vecbase

-- window overflows are detected, user vectors are used, and the entry belongs to a CALL8
abbrev pub opening_ps : Ps
opening_ps =
    record { intlevel = 0; excm = false; um = true; ring = 0; owb = 0; callinc = 2; woe = true }

abbrev pub opening_control : ℕ → ℕ → ℕ → Control
opening_control pc prid vecbase = record {
  pc = pc;
  special = opening_special prid vecbase;
  ps = opening_ps;
  threadptr = 0;
  waits = false;
}
