use Rattle.std.proofs.Common.{ℕ, Option, ◌≡◌, ⊎_elim, refl, sym, ◌∙◌, ap, subst}
use Rattle.xt_map.specs.Memory.{constant_byte}
use Rattle.xt_codec.specs.Fetches.{IsFetched}
use Rattle.xt_codec.specs.declared.fetch.Fetch.{Fetch}
use Rattle.xt_map.specs.Fetching.{Fetched, Fetches, fetch_at}
use Rattle.xt_rows.specs.RowLaws.{IsRegister}
use Rattle.xt_rows.proofs.Registers.{reads_registers}
use Rattle.xt_frames.specs.Breaches.{inputs_of}
use Rattle.xt_frames.specs.Frames.{FrameState}
use Rattle.xt_frames.specs.FrameStep.{with_inputs}
use Rattle.xt_frames.specs.Nesting.{current}
use Rattle.xt_uses.specs.declared.lacking.Lack.{Lack}
use Rattle.xt_uses.specs.Lacks.{lacks_among, lacks_fetched}
use Rattle.xt_uses.proofs.cores.UseCore.lacks.Goals as goal

pub lacks_among-requires-clause-first : goal.lacks_among-requires-clause-first
lacks_among-requires-clause-first c =
    let P : Option ℕ × Option ℕ → Type 0 = λ r. IsRegister r.0 in
    subst P (sym c.reads-first.ensures) (reads_registers c.in-Insn.i c.in-Insn.ensures.good).0

pub lacks_among-requires-clause-second : goal.lacks_among-requires-clause-second
lacks_among-requires-clause-second c =
    let P : Option ℕ × Option ℕ → Type 0 = λ r. IsRegister r.1 in
    subst P (sym c.reads-first.ensures) (reads_registers c.in-Insn.i c.in-Insn.ensures.good).1

pub returns-in-Insn : goal.returns-in-Insn
returns-in-Insn c =
    let w = c.args.self.now in
    let code = constant_byte c.args.code.now in
    let f = with_inputs (inputs_of c.args.rec.now) (current w.state.frame) in
    let over = c.laid_view-view.ensures (record { unset = w.state.frame.unset; nested = w.state.frame.nested }) refl refl in
    let at : fetch_at code f.control.pc ≡ Fetches c.in-Insn.i c.in-Insn.field-1 = ap (λ (x : FrameState). fetch_at code x.control.pc) (sym over) ∙ (ap (fetch_at code) (sym c.pc.ensures) ∙ c.in-Insn.ensures.fetched.0) in
    c.lacks_among.ensures f (ap (λ (x : FrameState). x.seen) (sym over))
    ∙ (ap (λ (r : Option ℕ × Option ℕ). lacks_among w.state f r) c.reads-first.ensures
    ∙ sym (ap (λ (x : Fetched). lacks_fetched x w.state f) at))

pub returns-in-Fails : goal.returns-in-Fails
returns-in-Fails c =
    let w = c.args.self.now in
    let code = constant_byte c.args.code.now in
    let f = with_inputs (inputs_of c.args.rec.now) (current w.state.frame) in
    let over = c.laid_view-view.ensures (record { unset = w.state.frame.unset; nested = w.state.frame.nested }) refl refl in
    let at : fetch_at code f.control.pc ≡ fetch_at code c.pc.result = ap (λ (x : FrameState). fetch_at code x.control.pc) (sym over) ∙ ap (fetch_at code) (sym c.pc.ensures) in
    let P : Fetch → Type 0 = λ x. IsFetched x (fetch_at code c.pc.result) in
    let L : Fetched → Option Lack × Option Lack = λ x. lacks_fetched x w.state f in
    let is = c.instruction_at.ensures.fetched in
    ⊎_elim
    (λ e. let k = subst P e.1 is in sym (ap L (at ∙ k)))
    (λ e. let k = subst P e is in sym (ap L (at ∙ k)))
    c.in-Fails.is
