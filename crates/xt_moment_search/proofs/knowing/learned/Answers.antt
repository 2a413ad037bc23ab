use Rattle.std.proofs.Common.{◌≡◌, ◌∙◌, ℕ, false, Option, Some, List, sym, ap, subst}
use Rattle.std.specs.Prelude.{slice_index_or}
use Rattle.std.proofs.lemmas.List.{get_or-set_same}
use Rattle.xt_uses.specs.Words.{all_bits}
use Rattle.xt_simulation.specs.Learning.{known_past}
use Rattle.xt_secret_walk.specs.declared.masks.CoreMasks.{CoreMasks}
use Rattle.xt_secret_walk.specs.declared.seen.Seen.{Seen}
use Rattle.xt_secret_walk.specs.SeenWords.{IsGoodSeen, knowledge_of, seen_in}
use Rattle.xt_moments.specs.MomentLaws.{moment_known}
use Rattle.xt_moment_search.specs.KnownCores.{IsSeen, insn_of, moment_known_of, reads_lost}
use Rattle.xt_moment_search.proofs.Learnt.{clock_learnt, none_learnt, other_than_epc1, plain_learnt}
use Rattle.xt_moment_search.proofs.knowing.learned.Goals as goal

pub returns-then-reads_clock : goal.returns-then-reads_clock
returns-then-reads_clock c = λ s seen kept h.
    let m = c.args.masks.now in
    let x = c.in-Some.seen in
    clock_learnt m s c.args.write c.args.base c.args.reply h c.hidden_in.result x.insn
    (sym c.reads_clock.ensures ∙ c.if-reads_clock.true)
    (ap (λ (l : List ℕ). slice_index_or l 177 all_bits) c.hidden_in.ensures.special)
    c.hidden_in.ensures.known
    ∙ ap (λ (o : Option Seen). moment_known (insn_of o) c.args.write c.args.base c.args.reply (moment_known_of m) s) (sym c.in-Some.is)

pub returns-else-reads_clock : goal.returns-else-reads_clock
returns-else-reads_clock c = λ s seen kept h.
    let m = c.args.masks.now in
    let x = c.in-Some.seen in
    let p = c.pass-hides.new.self in
    let d = c.set_mask.new.masks in
    let e = c.set_mask.ensures in
    let copied = c.copy_of-passed.ensures in
    let good = subst IsGoodSeen c.in-Some.is c.requires in
    let was = subst (IsSeen m s) c.in-Some.is seen in
    let known = c.pass-hides.ensures.known s
    (subst (λ (k : CoreMasks). x ≡ seen_in x.insn (knowledge_of k) s) (sym copied) was) in
    plain_learnt m s c.args.write c.args.base c.args.reply h d x.insn good.range
    (sym c.reads_clock.ensures ∙ c.if-reads_clock.false)
    (subst (λ (o : Option Seen). reads_lost m o ≡ false) c.in-Some.is kept)
    (ap (λ (l : List ℕ). slice_index_or l 177 all_bits) e.special
    ∙ (get_or-set_same p.special 177 c.epc1_mask.result all_bits e.long ∙ c.epc1_mask.ensures))
    (other_than_epc1 p d c.epc1_mask.result e.regs e.special e.threadptr
    ∙ subst (λ (k : CoreMasks). knowledge_of p ≡ known_past (Some x.insn) c.args.write c.args.base c.args.reply (knowledge_of k) s) copied known)
    ∙ ap (λ (o : Option Seen). moment_known (insn_of o) c.args.write c.args.base c.args.reply (moment_known_of m) s) (sym c.in-Some.is)

pub returns-in-None : goal.returns-in-None
returns-in-None c = λ s seen kept h.
    let m = c.args.masks.now in
    none_learnt m s c.args.write c.args.base c.args.reply h c.copy_of.result
    (ap (λ (k : CoreMasks). slice_index_or k.special 177 all_bits) c.copy_of.ensures)
    (ap (λ (k : CoreMasks). knowledge_of k) c.copy_of.ensures)
    ∙ ap (λ (o : Option Seen). moment_known (insn_of o) c.args.write c.args.base c.args.reply (moment_known_of m) s) (sym c.in-None.is)
