-- L32E and S32E end no stretch.
use Rattle.std.proofs.Common.{◌≡◌, ℕ, ◌+◌, ◌/◌, ◌%◌, Bool, false, Option, Some, None, refl, ◌∙◌, ap, arith}
use Rattle.xt_isa.specs.Spelling.{all_rows, fields_at, length_of, spelled_insn}
use Rattle.xt_map.specs.Fetching.{fetch_at, fetched_length, fetched_past, read_as, unfetchable}
use Rattle.xt_frames.specs.HandlerSteps.{ends_stretch, fetched_ends}

load : (t s r len : ℕ) → fetched_ends (read_as (spelled_insn (record { op0 = 0; t = t; s = s; r = r; op1 = 9; op2 = 0 })) len) ≡ false
unfolding spelled_insn all_rows ends_stretch
load t s r len = refl

store : (t s r len : ℕ) → fetched_ends (read_as (spelled_insn (record { op0 = 0; t = t; s = s; r = r; op1 = 9; op2 = 4 })) len) ≡ false
unfolding spelled_insn all_rows ends_stretch
store t s r len = refl

past : (o : Option ℕ) (code : ℕ → ℕ) (pc : ℕ) → fetched_ends (read_as (spelled_insn (fields_at (code pc) (code (pc + 1)) (code (pc + 2)))) (length_of (code pc))) ≡ false
    → fetched_ends (fetched_past o code pc) ≡ false
past (Some a) code pc h = refl
past None code pc h = h

by_fields : (code : ℕ → ℕ) (pc op1 op2 : ℕ) → code pc % 16 ≡ 0 → code (pc + 2) % 16 ≡ op1 → code (pc + 2) / 16 ≡ op2
    → fetched_ends (read_as (spelled_insn (record { op0 = 0; t = code pc / 16; s = code (pc + 1) % 16; r = code (pc + 1) / 16; op1 = op1; op2 = op2 })) (length_of (code pc))) ≡ false
    → fetched_ends (fetch_at code pc) ≡ false
unfolding fetch_at
by_fields code pc op1 op2 e0 e1 e2 h =
    let F : ℕ → ℕ → ℕ → Bool = λ a b c. fetched_ends (read_as (spelled_insn (record { op0 = a; t = code pc / 16; s = code (pc + 1) % 16; r = code (pc + 1) / 16; op1 = b; op2 = c })) (length_of (code pc))) in
    past (unfetchable pc (fetched_length code pc)) code pc
    (ap (λ (a : ℕ). F a (code (pc + 2) % 16) (code (pc + 2) / 16)) e0 ∙ (ap (λ (b : ℕ). F 0 b (code (pc + 2) / 16)) e1 ∙ (ap (F 0 op1) e2 ∙ h)))

pub no_load_ends : (code : ℕ → ℕ) (pc : ℕ) → code pc % 16 ≡ 0 → code (pc + 2) ≡ 0x09 → fetched_ends (fetch_at code pc) ≡ false
no_load_ends code pc a b = by_fields code pc 9 0 a (omega (arith, b)) (omega (arith, b)) (load _ _ _ _)

pub no_store_ends : (code : ℕ → ℕ) (pc : ℕ) → code pc % 16 ≡ 0 → code (pc + 2) ≡ 0x49 → fetched_ends (fetch_at code pc) ≡ false
no_store_ends code pc a b = by_fields code pc 9 4 a (omega (arith, b)) (omega (arith, b)) (store _ _ _ _)
