-- The record of a turn is the one of its number among those of its core.
use Rattle.std.proofs.Common.{◌≡◌, ℕ, zero, suc, ◌<◌, List, [], ◌∷◌, Some, length, take, slice_get, ap, subst, ◌∙◌, arith}
use Rattle.std.proofs.lemmas.Option.{none-some, same_Some}
use Rattle.xt_trace.specs.declared.record.StepRecord.{StepRecord}
use Rattle.xt_frames.specs.FirstBreach.{Course, IsTurn, Turn, records_before, records_of, turn_of, turns}
use Rattle.xt_discipline.specs.Ended.{records_left}

numbered_0 : (cs : List ℕ) (xs ys : List StepRecord) (p : ℕ) (rec : StepRecord) → slice_get (turns cs xs ys) p ≡ Some (turn_of 0 rec) → slice_get xs (length (records_of 0 (take p (turns cs xs ys)))) ≡ Some rec
numbered_0 [] xs ys p rec e = absurd (none-some (turn_of 0 rec) e)
numbered_0 (zero ∷ cs) [] ys p rec e = absurd (none-some (turn_of 0 rec) e)
numbered_0 (zero ∷ cs) (x ∷ xs) ys zero rec e = ap (λ (t : Turn). Some t.rec) (same_Some (turn_of 0 x) (turn_of 0 rec) e)
numbered_0 (zero ∷ cs) (x ∷ xs) ys (suc p) rec e = numbered_0 cs xs ys p rec e
numbered_0 (suc c ∷ cs) xs [] p rec e = absurd (none-some (turn_of 0 rec) e)
numbered_0 (suc c ∷ cs) xs (y ∷ ys) zero rec e =
    let other : 1 ≡ 0 = ap (λ (t : Turn). t.core) (same_Some (turn_of 1 y) (turn_of 0 rec) e) in
    absurd (omega (arith, other))
numbered_0 (suc c ∷ cs) xs (y ∷ ys) (suc p) rec e = numbered_0 cs xs ys p rec e

numbered_1 : (cs : List ℕ) (xs ys : List StepRecord) (p : ℕ) (rec : StepRecord) → slice_get (turns cs xs ys) p ≡ Some (turn_of 1 rec) → slice_get ys (length (records_of 1 (take p (turns cs xs ys)))) ≡ Some rec
numbered_1 [] xs ys p rec e = absurd (none-some (turn_of 1 rec) e)
numbered_1 (zero ∷ cs) [] ys p rec e = absurd (none-some (turn_of 1 rec) e)
numbered_1 (zero ∷ cs) (x ∷ xs) ys zero rec e =
    let other : 0 ≡ 1 = ap (λ (t : Turn). t.core) (same_Some (turn_of 0 x) (turn_of 1 rec) e) in
    absurd (omega (arith, other))
numbered_1 (zero ∷ cs) (x ∷ xs) ys (suc p) rec e = numbered_1 cs xs ys p rec e
numbered_1 (suc c ∷ cs) xs [] p rec e = absurd (none-some (turn_of 1 rec) e)
numbered_1 (suc c ∷ cs) xs (y ∷ ys) zero rec e = ap (λ (t : Turn). Some t.rec) (same_Some (turn_of 1 y) (turn_of 1 rec) e)
numbered_1 (suc c ∷ cs) xs (y ∷ ys) (suc p) rec e = numbered_1 cs xs ys p rec e

numbered : (core : ℕ) (cs : List ℕ) (xs ys : List StepRecord) (p : ℕ) (rec : StepRecord) → core < 2 → slice_get (turns cs xs ys) p ≡ Some (turn_of core rec)
    → slice_get (records_left core xs ys) (length (records_of core (take p (turns cs xs ys)))) ≡ Some rec
numbered zero cs xs ys p rec two e = numbered_0 cs xs ys p rec e
numbered (suc zero) cs xs ys p rec two e = numbered_1 cs xs ys p rec e
numbered (suc (suc core)) cs xs ys p rec two e = absurd (omega (arith, two))

pub record_at : (r : Course) (cs : List ℕ) (xs ys : List StepRecord) (p core : ℕ) (rec : StepRecord) → r.turns ≡ turns cs xs ys → core < 2 → IsTurn r p core rec
    → slice_get (records_left core xs ys) (length (records_before r core p)) ≡ Some rec
unfolding records_before
record_at r cs xs ys p core rec is two turn =
    let P : List Turn → Type 0 = λ ts. slice_get ts p ≡ Some (turn_of core rec) in
    ap (λ (ts : List Turn). slice_get (records_left core xs ys) (length (records_of core (take p ts)))) is
    ∙ numbered core cs xs ys p rec two (subst P is turn)
