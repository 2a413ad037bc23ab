-- The inputs of a record taken off again.
use Rattle.std.proofs.Common.{◌≡◌, ◌≢◌, ℕ, List, ◌∙◌, ap, arith}
use Rattle.std.proofs.Math.ListN.{set, get_or}
use Rattle.std.proofs.lemmas.List.{set-set, set_comm, set-get_or}
use Rattle.xt_special.specs.Numbers as number
use Rattle.xt_frames.specs.declared.view.RecordInputs.{RecordInputs}
use Rattle.xt_frames.specs.Frames.{Frame, FrameState}
use Rattle.xt_frames.specs.FrameStep.{Inputs, with_inputs}
use Rattle.xt_frames.specs.declared.holes.UndefinedParts.{UndefinedParts}
use Rattle.xt_frames.specs.KeptFrameState.{Upper, state_at}
use Rattle.xt_frames.specs.Stepped.{covered_of}

-- a view with these registers
abbrev pub covered_by : Upper → RecordInputs → Upper
covered_by v k = record { seen = v.seen; control = record v.control { special = set (set v.control.special number.ccount k.ccount) number.interrupt k.interrupt; ps = record v.control.ps { owb = k.owb } } }

put_back : (special : List ℕ) (a b : ℕ) → set (set (set (set special number.ccount a) number.interrupt b) number.ccount (get_or special number.ccount 0)) number.interrupt (get_or special number.interrupt 0) ≡ special
put_back special a b =
    let i0 = get_or special number.interrupt 0 in
    let c0 = get_or special number.ccount 0 in
    let apart : number.interrupt ≢ number.ccount = λ e. omega (arith, e) in
    ap (λ (xs : List ℕ). set xs number.interrupt i0) (set_comm (set special number.ccount a) number.interrupt number.ccount b c0 apart
    ∙ ap (λ (xs : List ℕ). set xs number.interrupt b) (set-set special number.ccount a c0 ∙ set-get_or special number.ccount 0))
    ∙ (set-set special number.interrupt b i0 ∙ set-get_or special number.interrupt 0)

pub uncovered : (old v : Upper) (inp : Inputs) (frames : List Frame) (h : UndefinedParts) → state_at frames h v ≡ with_inputs inp (state_at frames h old) → covered_by v (covered_of old) ≡ old
uncovered old v inp frames h e =
    let G : FrameState → Upper = λ f. covered_by (record { seen = f.seen; control = f.control }) (covered_of old) in
    let H : List ℕ → Upper = λ xs. record { seen = old.seen; control = record old.control { special = xs } } in
    ap G e ∙ ap H (put_back old.control.special inp.ccount inp.interrupt)
