-- The answers for the six vectors, one by one.
use Rattle.std.proofs.Common.{◌≡◌, true, ◌&&◌, sym, refl}
use Rattle.std.proofs.lemmas.Bool.{true≢false, and_parts}
use Rattle.xt_handlers.specs.declared.stretch.HandlerVerdict.{HandlerVerdict}
use Rattle.xt_handlers.specs.declared.stretch.HandlerVerdict.TheVariants.{Yes, No}
use Rattle.xt_handlers.specs.declared.Handlers.{Handlers}
use Rattle.xt_discipline.specs.Verdicts.{are_yes, is_yes}

yes_is : (v : HandlerVerdict) → is_yes v ≡ true → v ≡ Yes
yes_is Yes e = refl
yes_is (No k) e = absurd (true≢false (sym e))

pub record SixYes (h : Handlers) : Type 0 where
  pub of4 : h.of4 ≡ Yes
  pub uf4 : h.uf4 ≡ Yes
  pub of8 : h.of8 ≡ Yes
  pub uf8 : h.uf8 ≡ Yes
  pub of12 : h.of12 ≡ Yes
  pub uf12 : h.uf12 ≡ Yes

-- where the six window handlers pass the check, each does
pub six_yes : (h : Handlers) → are_yes h ≡ true → SixYes h
six_yes h e =
    let a = and_parts (is_yes h.of4) (is_yes h.uf4 && (is_yes h.of8 && (is_yes h.uf8 && (is_yes h.of12 && is_yes h.uf12)))) e in
    let b = and_parts (is_yes h.uf4) (is_yes h.of8 && (is_yes h.uf8 && (is_yes h.of12 && is_yes h.uf12))) a.1 in
    let c = and_parts (is_yes h.of8) (is_yes h.uf8 && (is_yes h.of12 && is_yes h.uf12)) b.1 in
    let d = and_parts (is_yes h.uf8) (is_yes h.of12 && is_yes h.uf12) c.1 in
    let f = and_parts (is_yes h.of12) (is_yes h.uf12) d.1 in
    record {
      of4 = yes_is h.of4 a.0;
      uf4 = yes_is h.uf4 b.0;
      of8 = yes_is h.of8 c.0;
      uf8 = yes_is h.uf8 d.0;
      of12 = yes_is h.of12 f.0;
      uf12 = yes_is h.uf12 f.1;
    }
