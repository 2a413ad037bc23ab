-- The answers of the check for the six window handlers, as one value ('profile').
--
-- Profile: the answer is Yes or the offset of the first instruction that fails: 0 where the vector
-- cannot be fetched, 64 where no end comes, and that of the end where its effect is wrong.
use Rattle.std.specs.Prelude.{ℕ}
use Rattle.xt_handlers.specs.declared.stretch.Side.TheVariants.{Overflow, Underflow}
use Rattle.xt_handlers.specs.declared.Handlers.{Handlers}
use Rattle.xt_handlers.specs.Vectors.{verdict_of}

-- the answers for the six vectors from VECBASE on
unfoldable pub handlers_of : (ℕ → ℕ) → ℕ → Handlers
handlers_of code vecbase = record {
  of4 = verdict_of code vecbase Overflow 1;
  uf4 = verdict_of code vecbase Underflow 1;
  of8 = verdict_of code vecbase Overflow 2;
  uf8 = verdict_of code vecbase Underflow 2;
  of12 = verdict_of code vecbase Overflow 3;
  uf12 = verdict_of code vecbase Underflow 3;
}
