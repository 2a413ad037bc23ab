use Rattle.std.proofs.Common.{◌≡◌, List, length, sym, ap, ◌∙◌, subst}
use Rattle.xt_parse.specs.declared.line.Line.{Line}
use Rattle.xt_layout.specs.Findings.{least}
use Rattle.xt_layout.specs.Pools.{pool_fault}
use Rattle.xt_layout.specs.Faults.{layout_fault}
use Rattle.xt_asm.specs.Contexts.{LineFault}
use Rattle.xt_asm.specs.Images.{Closes}
use Rattle.xt_asm.specs.Walks.{own_first}
use Rattle.xt_asm.proofs.Closing.{addresses_long, closes_all, fault_alone, fault_last, fault_there}
use Rattle.xt_asm.proofs.image.image_of.Goals as goal

pub targets_of-requires-clause-same : goal.targets_of-requires-clause-same
targets_of-requires-clause-same c = addresses_long c.args.pooled.now c.words.result.now (c.words.ensures ∙ ap (λ l. l.words) c.requires.layout) ∙ ap length (sym c.words-words.ensures.words)

pub returns-in-Some : goal.returns-in-Some
returns-in-Some c =
    let lines : List Line = c.args.pooled.now in
    let earlier_is : c.least-earlier.result ≡ least (pool_fault lines) (layout_fault lines) =
    c.least-earlier.ensures ∙ ap (λ x. least x c.fault-2.result) c.fault.ensures ∙ ap (least (pool_fault lines)) (c.fault-2.ensures ∙ ap (λ l. l.fault) c.requires.layout) in
    fault_there lines c.least-earlier.result c.in_ok-own.own c.sooner.result c.requires.parsed.numbered earlier_is (ap own_first (sym c.lines-lines.ensures) ∙ sym c.in_ok-own.ensures)
    (ap (λ x. least x c.in_ok-own.own) c.in-Some.is ∙ sym c.sooner.ensures)

pub returns-in-Ok : goal.returns-in-Ok
returns-in-Ok c =
    let lines : List Line = c.args.pooled.now in
    let earlier_is : c.least-earlier.result ≡ least (pool_fault lines) (layout_fault lines) =
    c.least-earlier.ensures ∙ ap (λ x. least x c.fault-2.result) c.fault.ensures ∙ ap (least (pool_fault lines)) (c.fault-2.ensures ∙ ap (λ l. l.fault) c.requires.layout) in
    let P : List Line → Type 0 = λ ls. Closes c.closed_image.result ls in
    closes_all c.closed_image.result lines (fault_last lines c.least-earlier.result c.requires.parsed.numbered earlier_is (ap own_first (sym c.lines-lines.ensures) ∙ c.in-Ok.ensures.clear) c.in_default.is)
    (subst P c.lines-lines.ensures c.closed_image.ensures)

pub returns : goal.returns
returns c =
    let lines : List Line = c.args.pooled.now in
    let earlier_is : c.least-earlier.result ≡ least (pool_fault lines) (layout_fault lines) =
    c.least-earlier.ensures ∙ ap (λ x. least x c.fault-2.result) c.fault.ensures ∙ ap (least (pool_fault lines)) (c.fault-2.ensures ∙ ap (λ l. l.fault) c.requires.layout) in
    let P : List Line → Type 0 = λ ls. LineFault c.in-Err.fault (own_first ls) in
    fault_alone c.in-Err.fault lines c.least-earlier.result c.requires.parsed.numbered earlier_is c.in_default.is (subst P c.lines-lines.ensures c.in-Err.ensures.fault)
