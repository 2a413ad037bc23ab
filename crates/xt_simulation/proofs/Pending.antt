-- Where a nested interrupt is taken, level 5 is pending in the machine with frames too.
use Rattle.std.proofs.Common.{◌≡◌, ℕ, ◌<◌, max, Bool, true, false, not, cond, eqb, ltb, sym, ap, ◌∙◌, refl, arith}
use Rattle.std.specs.Prelude.{bit_and}
use Rattle.std.proofs.lemmas.Bool.{and_parts, cond_both, lt-ltb, ltb-true}
use Rattle.xt_map.specs.declared.contents.MemoryContents.{MemoryContents}
use Rattle.xt_special.specs.declared.ps.Ps.{Ps}
use Rattle.xt_special.specs.Control.{special_of}
use Rattle.xt_special.specs.Interrupts.{current_level, level_5_bits, pending_level, pending_of}
use Rattle.xt_exec.specs.State.{State}
use Rattle.xt_exec.specs.TurnLaws.{IsShaped}
use Rattle.xt_exec.specs.Turn.{planned_turn}
use Rattle.xt_frames.specs.Frames.{FrameState}
use Rattle.xt_frames.specs.FrameStep.{with_inputs}
use Rattle.xt_frames.specs.Nesting.{is_nesting}
use Rattle.xt_frames.specs.Breaches.{Bounds, inputs_of}
use Rattle.xt_simulation.specs.Relation.{inputs}
use Rattle.xt_simulation.specs.Steps.{record_now, reply_now}
use Rattle.xt_simulation.specs.Handling.{Handling}
use Rattle.xt_simulation.proofs.Evenly.{same_at}
use Rattle.xt_simulation.proofs.Judges.{same_laid}
use Rattle.xt_simulation.proofs.Taken.{beside, level_taken}

abbrev chosen : Bool → Bool → Bool → ℕ
chosen a b c = cond a 5 (cond b 3 (cond c 1 0))

first_of : (a b c : Bool) → chosen a b c ≡ 5 → a ≡ true
first_of true b c e = refl
first_of false true c e = absurd (omega (arith, e))
first_of false false true e = absurd (omega (arith, e))
first_of false false false e = absurd (omega (arith, e))

-- level 5 is taken below it
five_open : (interrupt enabled : ℕ) (ps : Ps) → pending_level interrupt enabled ps ≡ 5
    → (not (eqb (bit_and (bit_and interrupt enabled) level_5_bits) 0) ≡ true) × (ltb (current_level ps) 5 ≡ true)
unfolding pending_level
five_open interrupt enabled ps e = and_parts (not (eqb (bit_and (bit_and interrupt enabled) level_5_bits) 0)) (ltb (current_level ps) 5) (first_of _ _ _ e)

five_taken : (interrupt enabled : ℕ) (ps : Ps) → not (eqb (bit_and (bit_and interrupt enabled) level_5_bits) 0) ≡ true → ltb (current_level ps) 5 ≡ true → pending_level interrupt enabled ps ≡ 5
unfolding pending_level
five_taken interrupt enabled ps set below = rw (set, below) refl

low_enough : (p q : Ps) → p.intlevel ≡ q.intlevel → current_level p < 5 → current_level q < 5
low_enough p q same low =
    let level : p.intlevel < 5 = cond_both p.excm (max p.intlevel 3) p.intlevel (λ n. n < 5 → p.intlevel < 5) (λ e l. omega arith) (λ e l. l) low in
    cond_both q.excm (max q.intlevel 3) q.intlevel (λ n. n < 5) (λ e. omega arith) (λ e. omega arith)

-- only INTLEVEL counts for it
five_kept : (interrupt enabled : ℕ) (p q : Ps) → p.intlevel ≡ q.intlevel → pending_level interrupt enabled p ≡ 5 → pending_level interrupt enabled q ≡ 5
five_kept interrupt enabled p q same e =
    let open_ = five_open interrupt enabled p e in
    five_taken interrupt enabled q open_.0 (lt-ltb (current_level q) 5 (low_enough p q same (ltb-true (current_level p) 5 open_.1)))

pub pending_in_frames : {code : ℕ → ℕ} {b : Bounds} {m : MemoryContents} {s : State} {f : FrameState} {before : State} {opened : ℕ → ℕ} → Handling code b m s f before opened → IsShaped s → is_nesting (planned_turn code s).kind ≡ true
    → pending_of (with_inputs (inputs_of (record_now code m s)) f).control ≡ 5
pending_in_frames {code = code} {m = m} {s = s} {f = f} h shaped nesting =
    let l = beside h in
    let g = with_inputs (inputs 0 s) f in
    let bits : special_of s.control 226 ≡ special_of g.control 226 = same_at l.special 226 refl in
    let enabled : special_of s.control 228 ≡ special_of g.control 228 = same_at l.special 228 refl in
    let now : pending_level (special_of s.control 226) (special_of s.control 228) s.control.ps ≡ 5 = level_taken code s nesting in
    let there : pending_level (special_of s.control 226) (special_of s.control 228) g.control.ps ≡ 5 = five_kept (special_of s.control 226) (special_of s.control 228) s.control.ps g.control.ps (ap (λ (p : Ps). p.intlevel) l.ps) now in
    ap (λ (x : FrameState). pending_of x.control) (same_laid code s (reply_now code m s) f shaped.control.ps.owb_fits)
    ∙ (ap (λ n. pending_level n (special_of g.control 228) g.control.ps) (sym bits)
    ∙ (ap (λ n. pending_level (special_of s.control 226) n g.control.ps) (sym enabled) ∙ there))
