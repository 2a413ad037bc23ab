use Rattle.std.proofs.Common.{◌≡◌, ◌≢◌, ◌≤◌, ◌++◌, Result, Ok, Err, IfErr, arith, length, take, length-append, length-take-le}
use Rattle.std.proofs.lemmas.List.{length-take}
use Rattle.std.proofs.KnownBytes.{Consumes-trans}
use Rattle.xt_io.specs.Whole.{Takes}
use Rattle.xt_io.specs.declared.whole.ReadError.{ReadError}
use Rattle.xt_io.specs.declared.whole.ReadError.TheVariants.{TooLarge}
use Rattle.xt_io.proofs.whole.read_to_limit.Goals as goal

-- what holds of any error holds of this one
of_error : {T E : Type 0} (r : Result T E) (P : E → Type 0) → ((e : E) → P e) → IfErr r P
of_error (Ok v) P h = tt
of_error (Err e) P h = h e

pub returns-then-spare-count-clause-too_large : goal.returns-then-spare-count-clause-too_large
returns-then-spare-count-clause-too_large g c = λ _.
    let read = take c.in_ok-count.count c.read.new.buf in
    let n : length read ≡ c.in_ok-count.count = length-take-le c.in_ok-count.count c.read.new.buf c.in_ok-count.ensures.bound.0 in (
      c.loop-taken.taken.items ++ read,
      Consumes-trans _ _ _ _ _ c.loop-taken.invariant.bytes c.in_ok-count.ensures.bytes.0,
      omega (arith, n, length-append c.loop-taken.taken.items read, c.loop-taken.invariant.within, c.if-spare-count.true, c.in_ok-count.ensures.bound.0, c.read.auto.buf, length-take c.min-room.result c.loop-taken.piece),
    )

pub returns-in_err-extend_from_slice-clause-else_within : goal.returns-in_err-extend_from_slice-clause-else_within
returns-in_err-extend_from_slice-clause-else_within g c =
    let read = take c.in_ok-count.count c.read.new.buf in
    let n : length read ≡ c.in_ok-count.count = length-take-le c.in_ok-count.count c.read.new.buf c.in_ok-count.ensures.bound.0 in
    let takes : Takes (g.S.Source.left c.args.source.now) (g.S.Source.left c.read.new.self) (λ k. k ≤ c.args.limit) = (
      c.loop-taken.taken.items ++ read,
      Consumes-trans _ _ _ _ _ c.loop-taken.invariant.bytes c.in_ok-count.ensures.bytes.0,
      omega (arith, n, length-append c.loop-taken.taken.items read, c.loop-taken.invariant.within, c.if-spare-count.false, c.in_ok-count.ensures.bound.0),
    ) in
    of_error c.from_residual-in_err-extend_from_slice.result _ (λ (e : ReadError) (_ : e ≢ TooLarge). takes)
