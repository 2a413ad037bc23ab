-- A core that is found to be in step.
use Rattle.std.proofs.Common.{◌≡◌, ℕ, Bool, true, Option, None, List, get_or, sym, ap, subst}
use Rattle.xt_frames.specs.declared.kinds.HandlerPhase.TheVariants.{Outside}
use Rattle.xt_frames.specs.Stacks.{Stack}
use Rattle.xt_uses.specs.UseLevels.{IsUseLevel}
use Rattle.xt_use_shadow.specs.declared.cores.UseShadow.{UseShadow}
use Rattle.xt_use_shadow.specs.Shadows.{IsCore, core_state, shown}

module _ (c : UseShadow) (seen : List (Option ℕ)) (masks : List ℕ) (near : Bool) (inside : IsCore c) (outside : c.side.phase ≡ Outside) (may_step : c.may_step ≡ true) (same : seen ≡ c.side.uses.state.frame.seen) (known : masks ≡ c.side.uses.state.masks.seen)
    (level : IsUseLevel c.side.uses c.side.steps (core_state c).control) (stack : Stack c.side.uses.bounds.range.lo c.side.uses.bounds.range.hi c.side.uses.state.frame.seen c.side.uses.state.frame.frames)
  where
    abbrev found : UseShadow
    found = record c { seen = seen; masks = masks; level = true; near = near }

    -- nothing that is shown has changed
    pub found_shown : shown found ≡ c.side
    found_shown = λ i. record c.side {
      uses = record c.side.uses {
        state = record { frame = record c.side.uses.state.frame { seen = same i; control = sym level.control i }; masks = record c.side.uses.state.masks { seen = known i } };
        next = sym level.next i;
      };
    }

    pub found_core : IsCore found
    found_core = record {
      side = inside.side;
      vectors = inside.vectors;
      count = inside.count;
      plain = inside.plain;
      nested = inside.nested;
      level = λ e. record {
        may_step = may_step;
        outside = outside;
        sp = ap (λ (l : List (Option ℕ)). get_or l 1 None) same;
        stack = subst (λ (l : List (Option ℕ)). Stack c.side.uses.bounds.range.lo c.side.uses.bounds.range.hi l c.side.uses.state.frame.frames) (sym same) stack;
      };
    }
