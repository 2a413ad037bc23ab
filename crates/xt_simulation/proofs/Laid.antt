-- The inputs of a step, laid over special registers: CCOUNT and INTERRUPT are those of another list.
use Rattle.std.proofs.Common.{◌≡◌, ◌≢◌, ℕ, Bool, true, false, List, length, get_or, sym, ap, ◌∙◌, arith, ⊎_elim}
use Rattle.std.proofs.Math.ListN.{set}
use Rattle.std.proofs.lemmas.Bool.{cases_eq, cases_lt}
use Rattle.std.proofs.lemmas.List.{get_or-set_same, get_or-set_other, get_or_past, length-set}
use Rattle.xt_special.specs.declared.ps.Ps.{Ps}
use Rattle.xt_exec.specs.State.{State}
use Rattle.xt_frames.specs.Frames.{FrameState}
use Rattle.xt_frames.specs.FrameStep.{with_inputs}
use Rattle.xt_simulation.specs.Relation.{Same, Even, inputs, can_be_lost}

set_own : (xs ys : List ℕ) (k : ℕ) → length xs ≡ length ys → get_or (set ys k (get_or xs k 0)) k 0 ≡ get_or xs k 0
set_own xs ys k len = ⊎_elim
    (λ within. get_or-set_same ys k (get_or xs k 0) 0 within)
    (λ past. let a = get_or_past (set ys k (get_or xs k 0)) k 0 (let n = length-set ys k (get_or xs k 0) in omega arith) in a ∙ sym (get_or_past xs k 0 (omega arith)))
    (cases_lt k (length ys))

abbrev pub relaid : List ℕ → List ℕ → List ℕ
relaid xs ys = set (set ys 234 (get_or xs 234 0)) 226 (get_or xs 226 0)

pub laid_other : (ys : List ℕ) (count bits k : ℕ) → k ≢ 226 → k ≢ 234 → get_or (set (set ys 234 count) 226 bits) k 0 ≡ get_or ys k 0
laid_other ys count bits k a b = get_or-set_other (set ys 234 count) 226 k bits 0 a ∙ get_or-set_other ys 234 k count 0 b

pub laid_length : (ys : List ℕ) (count bits : ℕ) → length (set (set ys 234 count) 226 bits) ≡ length ys
laid_length ys count bits = length-set (set ys 234 count) 226 bits ∙ length-set ys 234 count

laid_bits : (xs ys : List ℕ) → length xs ≡ length ys → get_or (relaid xs ys) 226 0 ≡ get_or xs 226 0
laid_bits xs ys len = set_own xs (set ys 234 (get_or xs 234 0)) 226 (len ∙ sym (length-set ys 234 (get_or xs 234 0)))

laid_count : (xs ys : List ℕ) → length xs ≡ length ys → get_or (relaid xs ys) 234 0 ≡ get_or xs 234 0
laid_count xs ys len = get_or-set_other (set ys 234 (get_or xs 234 0)) 226 234 (get_or xs 226 0) 0 (λ e. omega (arith, e)) ∙ set_own xs ys 234 len

-- equal but for what is lost, and the two inputs
pub same_relaid : (lost : ℕ → Bool) (xs ys : List ℕ) → length xs ≡ length ys → ((k : ℕ) → lost k ≡ true → can_be_lost k ≡ true)
    → ((k : ℕ) → lost k ≡ false → k ≢ 226 → k ≢ 234 → get_or xs k 0 ≡ get_or ys k 0) → Same lost xs (relaid xs ys)
same_relaid lost xs ys size only at = record {
  size = size ∙ sym (laid_length ys (get_or xs 234 0) (get_or xs 226 0));
  only = only;
  at = λ k known.
      ⊎_elim
      (λ bits. rw bits (sym (laid_bits xs ys size)))
      (λ not_bits. ⊎_elim
      (λ count. rw count (sym (laid_count xs ys size)))
      (λ not_count. at k known not_bits not_count ∙ sym (laid_other ys (get_or xs 234 0) (get_or xs 226 0) k not_bits not_count))
      (cases_eq k 234))
      (cases_eq k 226);
}

-- the inputs of the next step are laid over what a step has left
pub laid_after : {lost : ℕ → Bool} {xs ys : List ℕ} → Same lost xs ys → Same lost xs (relaid xs ys)
laid_after {lost = lost} {xs = xs} {ys = ys} s = same_relaid lost xs ys s.size s.only (λ k known not_bits not_count. s.at k known)

pub even_laid : {lost : ℕ → Bool} (s : State) (f : FrameState) → Even lost s.control f.control → Even lost s.control (with_inputs (inputs 0 s) f).control
even_laid s f e = record {
  pc = e.pc;
  ps = ap (λ (p : Ps). (let q : Ps = record p { owb = s.control.ps.owb } in q)) e.ps;
  threadptr = e.threadptr;
  waits = e.waits;
  special = laid_after e.special;
}
