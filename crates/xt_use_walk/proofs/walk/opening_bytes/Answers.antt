use Rattle.std.proofs.Common.{ℕ, ◌-◌, ◌||◌, ◌∙◌, Bool, cond, ap}
use Rattle.std.proofs.lemmas.Bool.{cond-true, or_left}
use Rattle.xt_map.specs.Touching.{touches}
use Rattle.xt_use_walk.specs.MaskedBytes.{mask_at}
use Rattle.xt_use_walk.specs.Walks.{below_opening}
use Rattle.xt_use_walk.proofs.Forgetting.{opened_pick}
use Rattle.xt_discipline.proofs.Opens.{end_of}
use Rattle.xt_use_walk.proofs.Openings.{word_bytes}
use Rattle.xt_use_walk.proofs.walk.opening_bytes.Goals as goal

pub forget-requires-clause-bytes : goal.forget-requires-clause-bytes
forget-requires-clause-bytes c = let o = c.args.options.now in word_bytes o.stack0.hi (end_of o.stack0 c.requires.stack0)

pub forget-requires-2-clause-bytes : goal.forget-requires-2-clause-bytes
forget-requires-2-clause-bytes c = let o = c.args.options.now in word_bytes o.stack1.hi (end_of o.stack1 c.requires.stack1)

pub returns : goal.returns
returns c =
    let o = c.args.options.now in
    let d = c.args.discipline in
    let m = c.in_ok-marks.ensures in
    let t0 : ℕ → Bool = λ a. touches (o.stack0.hi - 76) 4 a in
    let t1 : ℕ → Bool = λ a. touches (o.stack1.hi - 76) 4 a in
    let b0 : ℕ → Bool = λ a. below_opening d o.stack0 a in
    let b1 : ℕ → Bool = λ a. below_opening d o.stack1 a in
    record {
      full = record { marks = m.len; masks = c.forget_below-2.ensures.full };
      live = record { own_is = m.marks.own_is; others_is = m.marks.others_is };
      masks_are = λ a h.
          opened_pick (t0 a) (t1 a) (b0 a) (b1 a) (mask_at c.forget_below-2.new.masks a)
          (c.forget_below-2.ensures.masks a h
          ∙ ap (λ (n : ℕ). cond (b1 a) 0 n)
          (c.forget_below.ensures.masks a h
          ∙ ap (λ (n : ℕ). cond (b0 a) 0 n)
          (c.forget-2.ensures.forgotten a h
          ∙ ap (λ (n : ℕ). cond (t1 a) 0 n)
          (c.forget.ensures.forgotten a h ∙ ap (λ (n : ℕ). cond (t0 a) 0 n) (c.in_ok-masks.ensures.known a h)))));
      unknown = λ a l. cond-true ((t0 a || t1 a) || (b0 a || b1 a)) 0 255 (or_left (t0 a || t1 a) (b0 a || b1 a) l);
    }
