-- The rows of system instructions, each inverted and of its length.
use Rattle.std.proofs.Common.{◌≡◌, ℕ, ◌/◌, ◌%◌, ◌&&◌, cond, ltb, Some, None, pos, refl}
use Rattle.xt_isa.specs.declared.Insn.TheVariants as insn
use Rattle.xt_isa.specs.declared.Fields.{Fields}
use Rattle.xt_isa.specs.declared.system.SpecialName.TheVariants as special
use Rattle.xt_isa.specs.declared.system.System.TheVariants as system
use Rattle.xt_isa.specs.Ranges.{AreNibbles}
use Rattle.xt_isa.specs.Apart.{AllRows}
use Rattle.xt_isa.specs.Spelling.{can_exchange, can_read, can_write, eight, signed, system_rows}
use Rattle.xt_isa.proofs.RowByRow.{◌▸◌}
use Rattle.xt_names.specs.Encodings.{IsPadded}
use Rattle.xt_names.proofs.EncodingWords.{of_t, rrr, unsigned}
use Rattle.xt_names.proofs.EncodingParts.{GivesBack, IsEncoded, Matches, digit0, guarded, rest1, signed_back, sized}
use Rattle.xt_names.proofs.EncodingFormats.{in_none, in_r, in_s, in_t, in_ts, rrr_is, t_is}

rfi : (w : Fields) → AreNibbles w → IsPadded w → Matches 0xFFF0FF 0x003010 w → GivesBack w (cond (ltb 1 w.s && ltb w.s 8) (Some (insn.System (system.Rfi (pos w.s)))) None)
rfi w n p m = guarded (ltb 1 w.s && ltb w.s 8) (insn.System (system.Rfi (pos w.s))) w (λ h. in_s w n p m)

rotw : (w : Fields) → AreNibbles w → IsPadded w → Matches 0xFFFF0F 0x408000 w → of_t 0x408000 (unsigned 8 (signed 8 w.t)) ≡ w
rotw w n p m = t_is w n m (signed_back 8 w.t n.1)

register : {v : ℕ} (w : Fields) → AreNibbles w → Matches 0xFF000F v w → rrr v (eight w / 16) (eight w % 16) w.t ≡ w
register w n m = rrr_is w n m (rest1 (eight w) w.s w.r n.2 refl) (digit0 (eight w) w.s w.r n.2 refl) refl

rsr : (w : Fields) → AreNibbles w → IsPadded w → Matches 0xFF000F 0x030000 w → GivesBack w (cond (can_read (eight w)) (Some (insn.System (system.Special special.Rsr w.t (eight w)))) None)
rsr w n p m = guarded (can_read (eight w)) (insn.System (system.Special special.Rsr w.t (eight w))) w (λ h. register w n m)

wsr : (w : Fields) → AreNibbles w → IsPadded w → Matches 0xFF000F 0x130000 w → GivesBack w (cond (can_write (eight w)) (Some (insn.System (system.Special special.Wsr w.t (eight w)))) None)
wsr w n p m = guarded (can_write (eight w)) (insn.System (system.Special special.Wsr w.t (eight w))) w (λ h. register w n m)

xsr : (w : Fields) → AreNibbles w → IsPadded w → Matches 0xFF000F 0x610000 w → GivesBack w (cond (can_exchange (eight w)) (Some (insn.System (system.Special special.Xsr w.t (eight w)))) None)
xsr w n p m = guarded (can_exchange (eight w)) (insn.System (system.Special special.Xsr w.t (eight w))) w (λ h. register w n m)

pub system_encoded : AllRows IsEncoded system_rows
system_encoded =
    (in_none, λ w. refl) ▸  -- ILL
    (in_none, λ w. refl) ▸  -- ISYNC
    (in_none, λ w. refl) ▸  -- RSYNC
    (in_none, λ w. refl) ▸  -- ESYNC
    (in_none, λ w. refl) ▸  -- DSYNC
    (in_none, λ w. refl) ▸  -- EXCW
    (in_none, λ w. refl) ▸  -- MEMW
    (in_none, λ w. refl) ▸  -- EXTW
    (in_none, λ w. refl) ▸  -- NOP
    (in_none, λ w. refl) ▸  -- RFE
    (in_none, λ w. refl) ▸  -- RFDE
    (in_none, λ w. refl) ▸  -- RFWO
    (in_none, λ w. refl) ▸  -- RFWU
    (rfi, λ w. sized (ltb 1 w.s && ltb w.s 8) (insn.System (system.Rfi (pos w.s))) 3 refl) ▸  -- RFI
    (in_ts, λ w. refl) ▸  -- BREAK
    (in_none, λ w. refl) ▸  -- SYSCALL
    (in_ts, λ w. refl) ▸  -- RSIL
    (in_s, λ w. refl) ▸  -- WAITI
    (rotw, λ w. refl) ▸  -- ROTW
    (rsr, λ w. sized (can_read (eight w)) (insn.System (system.Special special.Rsr w.t (eight w))) 3 refl) ▸  -- RSR
    (wsr, λ w. sized (can_write (eight w)) (insn.System (system.Special special.Wsr w.t (eight w))) 3 refl) ▸  -- WSR
    (xsr, λ w. sized (can_exchange (eight w)) (insn.System (system.Special special.Xsr w.t (eight w))) 3 refl) ▸  -- XSR
    (in_r, λ w. refl) ▸  -- RUR
    (in_t, λ w. refl) ▸  -- WUR
    tt
