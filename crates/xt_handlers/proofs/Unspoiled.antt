-- A vector that handles is never spoiled on the way.
use Rattle.std.proofs.Common.{◌≡◌, ◌⊎◌, ⊎_elim, inl, inr, ℕ, true, refl, sym, ◌∙◌, ap, List, [], ◌∷◌, Option, Some, None}
use Rattle.std.proofs.lemmas.Bool.{cond-false, false≢true, and_right, cases_Bool}
use Rattle.xt_handlers.specs.Symbols.{Store, Effect, register, effect_after_step}
use Rattle.xt_handlers.specs.Needs.{then_without, still_wanted, wanted_stores, is_among, named_words, are_named, has_effect}
use Rattle.xt_handlers.specs.Needs.{IsSpoiled}
use Rattle.xt_handlers.proofs.Stores.{spoiled_end}
use Rattle.xt_handlers.specs.Handling.{Line, ending_verdict, answer_at, walk}
use Rattle.xt_handlers.specs.declared.stretch.Side.{Side}
use Rattle.xt_handlers.specs.declared.stretch.Side.TheVariants.{Overflow, Underflow}
use Rattle.xt_handlers.specs.declared.stretch.HandlerInsn.{HandlerInsn}
use Rattle.xt_handlers.specs.declared.stretch.HandlerInsn.TheVariants.{L32e, S32e, Nop, Rfwo, Rfwu, Foreign}
use Rattle.xt_handlers.specs.declared.stretch.HandlerVerdict.{HandlerVerdict}
use Rattle.xt_handlers.specs.declared.stretch.HandlerVerdict.TheVariants.{Yes, No}

pub still_spoiled : (side : Side) (n : ℕ) (e : Effect) (step : HandlerInsn) → IsSpoiled side n e → IsSpoiled side n (effect_after_step e step)
still_spoiled side n e (L32e t s back) (inl h) = inl h
still_spoiled side n e (L32e t s back) (inr h) = inr (and_right (is_among (record { base = register e.regs s; back = back }) (named_words side n)) (are_named side n e.loads) h)
still_spoiled side n e (S32e t s back) (inl h) = inl (ap (then_without (record { word = record { base = register e.regs s; back = back }; value = register e.regs t })) h)
still_spoiled side n e (S32e t s back) (inr h) = inr h
still_spoiled side n e Nop h = h
still_spoiled side n e Rfwo h = h
still_spoiled side n e Rfwu h = h
still_spoiled side n e Foreign h = h

-- what an ending's Yes says
pub ending_yes : (side : Side) (n o : ℕ) (e : Effect) → ending_verdict side n e o ≡ Yes → has_effect side n e ≡ true
ending_yes side n o e h = ⊎_elim (λ p. p) (λ p. let r : No o ≡ Yes = sym (cond-false _ _ _ p) ∙ h in absurd cc) (cases_Bool (has_effect side n e))

spoiled_ending : (side : Side) (n o : ℕ) (e : Effect) → IsSpoiled side n e → ending_verdict side n e o ≡ Yes → ⊥
spoiled_ending side n o e h y = false≢true (sym (spoiled_end side n e h) ∙ ending_yes side n o e y)

-- at one instruction, where the rest cannot answer Yes when it begins spoiled
at_step : (side : Side) (n o : ℕ) (e : Effect) (step : HandlerInsn) (rest : HandlerVerdict) → (IsSpoiled side n (effect_after_step e step) → rest ≡ Yes → ⊥) →
    answer_at side n e o step rest ≡ Yes → IsSpoiled side n e → ⊥
at_step side n o e (L32e t s back) rest ih y h = ih (still_spoiled side n e (L32e t s back) h) y
at_step side n o e (S32e t s back) rest ih y h = ih (still_spoiled side n e (S32e t s back) h) y
at_step side n o e Nop rest ih y h = ih h y
at_step Overflow n o e Rfwo rest ih y h = spoiled_ending Overflow n o e h y
at_step Underflow n o e Rfwo rest ih y h = absurd cc
at_step Overflow n o e Rfwu rest ih y h = absurd cc
at_step Underflow n o e Rfwu rest ih y h = spoiled_ending Underflow n o e h y
at_step side n o e Foreign rest ih y h = absurd cc

pub never_spoiled : (side : Side) (n : ℕ) (lines : List Line) (e : Effect) → walk side n e lines ≡ Yes → IsSpoiled side n e → ⊥
never_spoiled side n [] e y h = absurd cc
never_spoiled side n (l ∷ lines) e y h =
    at_step side n l.offset e l.step (walk side n (effect_after_step e l.step) lines) (λ s r. never_spoiled side n lines (effect_after_step e l.step) r s) y h

-- so the stores so far are wanted ones, and the loads named ones
some_or_none : (o : Option (List Store)) → (o ≡ None) ⊎ ((left : List Store) × (o ≡ Some left))
some_or_none None = inl refl
some_or_none (Some left) = inr (left, refl)

pub stores_wanted : (side : Side) (n : ℕ) (lines : List Line) (e : Effect) → walk side n e lines ≡ Yes → (left : List Store) × (still_wanted e.stores (wanted_stores side n) ≡ Some left)
stores_wanted side n lines e y = ⊎_elim (λ p. absurd (never_spoiled side n lines e y (inl p))) (λ p. p) (some_or_none (still_wanted e.stores (wanted_stores side n)))

pub loads_named : (side : Side) (n : ℕ) (lines : List Line) (e : Effect) → walk side n e lines ≡ Yes → are_named side n e.loads ≡ true
loads_named side n lines e y = ⊎_elim (λ p. p) (λ p. absurd (never_spoiled side n lines e y (inr p))) (cases_Bool (are_named side n e.loads))
