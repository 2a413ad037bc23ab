use Rattle.std.proofs.Common.{◌≡◌, ◌+◌, List, Result, Err, ℕ, Ok, ap, sym, ◌∙◌, refl, subst, drop, take, rules}
use Rattle.xt_record.specs.declared.fault.RecordFault.{RecordFault}
use Rattle.xt_record.specs.declared.parts.Parts.{Parts}
use Rattle.xt_record.specs.Fields.{behind_image, image_part, options_at, raws_in, version}
use Rattle.xt_record.specs.Heads.{HasRead, ReadsParts}
use Rattle.xt_record.specs.Rules.{options_finding, shape_finding}
use Rattle.xt_record.proofs.Parting.{are_parts, file_is, not_entries, not_head, not_image, not_options}
use Rattle.xt_record.proofs.parts.parts_in.Goals as goal

pub returns-in-Some : goal.returns-in-Some
returns-in-Some c = λ _. not_head c.args.bytes.now c.in-Some.fault c.in-Some.ensures.first

pub returns-in_err-image : goal.returns-in_err-image
returns-in_err-image c =
    let same : c.from_residual.result ≡ Err c.in_err-image.field-0.0 = search rules in
    let file : c.split_at-2.result.1.now ≡ image_part c.args.bytes.now =
    file_is c.args.bytes.now _ (c.split_at-2.ensures.back ∙ ap (drop 12) (c.split_at.ensures.front ∙ ap (λ (k : ℕ). take (12 + k) c.args.bytes.now) c.word.ensures)) in
    subst (λ (r : Result Parts RecordFault). ReadsParts r c.args.bytes.now) (sym same)
    (λ other. not_image c.args.bytes.now c.split_at-2.result.1.now c.in_err-image.field-0.0 c.in_default.ensures.first file (c.in_err-image.ensures other))

pub returns-in-Some-options_fault : goal.returns-in-Some-options_fault
returns-in-Some-options_fault c =
    let file : c.split_at-2.result.1.now ≡ image_part c.args.bytes.now =
    file_is c.args.bytes.now _ (c.split_at-2.ensures.back ∙ ap (drop 12) (c.split_at.ensures.front ∙ ap (λ (k : ℕ). take (12 + k) c.args.bytes.now) c.word.ensures)) in
    let rest : c.split_at.result.1.now ≡ behind_image c.args.bytes.now =
    c.split_at.ensures.back ∙ ap (λ (k : ℕ). drop (12 + k) c.args.bytes.now) c.word.ensures in
    let options : c.options_in-options.result ≡ options_at (behind_image c.args.bytes.now) 0 =
    c.options_in-options.ensures ∙ ap (λ (l : List ℕ). options_at l 0) rest in
    λ _. not_options c.args.bytes.now c.split_at-2.result.1.now c.in-Some-options_fault.fault c.in_default.ensures.first file c.in_ok-image.ensures.0
    (c.in-Some-options_fault.ensures.finding ∙ ap (λ (v : ℕ). options_finding v c.options_in-options.result) c.word-2.ensures
    ∙ ap (options_finding (version c.args.bytes.now)) options)

pub returns-in_err-entries_in : goal.returns-in_err-entries_in
returns-in_err-entries_in c =
    let same : c.from_residual-in_err-entries_in.result ≡ Err c.in_err-entries_in.field-0.0 = search rules in
    let file : c.split_at-2.result.1.now ≡ image_part c.args.bytes.now =
    file_is c.args.bytes.now _ (c.split_at-2.ensures.back ∙ ap (drop 12) (c.split_at.ensures.front ∙ ap (λ (k : ℕ). take (12 + k) c.args.bytes.now) c.word.ensures)) in
    let rest : c.split_at.result.1.now ≡ behind_image c.args.bytes.now =
    c.split_at.ensures.back ∙ ap (λ (k : ℕ). drop (12 + k) c.args.bytes.now) c.word.ensures in
    let options : c.options_in-options.result ≡ options_at (behind_image c.args.bytes.now) 0 =
    c.options_in-options.ensures ∙ ap (λ (l : List ℕ). options_at l 0) rest in
    subst (λ (r : Result Parts RecordFault). ReadsParts r c.args.bytes.now) (sym same)
    (λ other. not_entries c.args.bytes.now c.split_at-2.result.1.now c.in_err-entries_in.field-0.0 c.in_default.ensures.first file c.in_ok-image.ensures.0
    (c.in_default-options_fault.ensures.finding ∙ ap (λ (v : ℕ). options_finding v c.options_in-options.result) c.word-2.ensures
    ∙ ap (options_finding (version c.args.bytes.now)) options)
    (ap (λ (l : List ℕ). shape_finding 0 (raws_in l)) (sym rest) ∙ c.in_err-entries_in.ensures other))

pub returns : goal.returns
returns c =
    let file : c.split_at-2.result.1.now ≡ image_part c.args.bytes.now =
    file_is c.args.bytes.now _ (c.split_at-2.ensures.back ∙ ap (drop 12) (c.split_at.ensures.front ∙ ap (λ (k : ℕ). take (12 + k) c.args.bytes.now) c.word.ensures)) in
    let rest : c.split_at.result.1.now ≡ behind_image c.args.bytes.now =
    c.split_at.ensures.back ∙ ap (λ (k : ℕ). drop (12 + k) c.args.bytes.now) c.word.ensures in
    let options : c.options_in-options.result ≡ options_at (behind_image c.args.bytes.now) 0 =
    c.options_in-options.ensures ∙ ap (λ (l : List ℕ). options_at l 0) rest in
    are_parts c.args.bytes.now c.split_at-2.result.1.now _ c.in_default.ensures.first (c.in_default.ensures.parts refl) file c.in_ok-image.ensures options
    (c.in_default-options_fault.ensures.finding ∙ ap (λ (v : ℕ). options_finding v c.options_in-options.result) c.word-2.ensures)
    (c.in_default-options_fault.ensures.valid refl)
    (subst (λ (l : List ℕ). HasRead (Ok c.in_ok-entries_in.field-0) l) rest c.in_ok-entries_in.ensures)
