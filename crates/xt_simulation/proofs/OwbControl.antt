-- Control states that are equal but for OWB: what an effect, an exception, an interrupt and a tick do to them.
use Rattle.std.proofs.Common.{◌≡◌, ℕ, ◌-◌, Bool, true, false, List, Option, sym, ap, ◌∙◌, refl, arith, ⊎_elim, subst, cond}
use Rattle.std.proofs.Math.ListN.{set}
use Rattle.std.proofs.lemmas.Bool.{or_parts}
use Rattle.xt_special.specs.declared.ps.Ps.{Ps}
use Rattle.xt_special.specs.Access.{SpecialWrites, is_eps, with_sets}
use Rattle.xt_special.specs.Control.{Control, special_of}
use Rattle.xt_special.specs.Exceptions.{after_double, after_exception, after_general}
use Rattle.xt_special.specs.Timers.{after_tick}
use Rattle.xt_rows.specs.declared.outcome.Flow.{Flow}
use Rattle.xt_rows.specs.declared.outcome.Flow.TheVariants.{Falls, Goes}
use Rattle.xt_rows.specs.declared.outcome.Effect.{Effect}
use Rattle.xt_rows.specs.Settling.{after_effect, after_flow}
use Rattle.xt_frames.specs.Marks.{holds_marks}
use Rattle.xt_simulation.specs.Relation.{Even}
use Rattle.xt_uses.specs.declared.discipline.Discipline.TheVariants.{Strict}
use Rattle.xt_uses.specs.Words.{masked}
use Rattle.xt_uses.specs.Used.{counted_bits}
use Rattle.xt_uses.specs.UseLaws.{AgreeIn}
use Rattle.xt_simulation.specs.Knowing.{ControlLeft, with_owb}
use Rattle.xt_simulation.proofs.Specials.{eps_lost, eps_range, mark_range}
use Rattle.xt_simulation.proofs.OwbRows.{EffectsNear}

-- equal but for OWB, in PS and in EPS2 to EPS7
pub record ControlNear (c d : Control) : Type 0 where
  pub even : (z : ℕ) → Even is_eps (with_owb z c) (with_owb z d)
  pub saved : (n : ℕ) → is_eps n ≡ true → AgreeIn (counted_bits Strict n) (special_of c n) (special_of d n)

even_same : (c : Control) → Even is_eps c c
even_same c = record { pc = refl; ps = refl; threadptr = refl; waits = refl; special = record { size = refl; only = eps_lost; at = λ k known. refl } }

pub near_equal : (c d : Control) → ((z : ℕ) → with_owb z c ≡ with_owb z d) → ControlNear c d
near_equal c d h = record {
  even = λ z. subst (λ x. Even is_eps (with_owb z c) x) (h z) (even_same (with_owb z c));
  saved = λ n e. ap (λ (x : Control). masked (counted_bits Strict n) (special_of x n)) (h 0);
}

-- ---- an effect
pub flow_owb : (flow : Flow) (len : ℕ) (c : Control) (o : ℕ) → with_owb o (after_flow flow len c) ≡ after_flow flow len (with_owb o c)
flow_owb (Goes target) len c o = refl
flow_owb Falls len c o = by_test _ _ _
  where
    by_test : (b : Bool) (pc next : ℕ) → with_owb o (cond b (record c { pc = pc; special = set c.special 2 (special_of c 2 - 1) }) (record c { pc = next })) ≡ cond b (record c { pc = pc; special = set c.special 2 (special_of c 2 - 1); ps = record c.ps { owb = o } }) (record c { pc = next; ps = record c.ps { owb = o } })
    by_test true pc next = refl
    by_test false pc next = refl

abbrev built : ℕ → Control → Flow → SpecialWrites → Ps → ℕ → Bool → Control
built len c flow sets ps t w = after_flow flow len (record { pc = c.pc; special = with_sets sets c.special; ps = ps; threadptr = t; waits = w })

pub effect_near : (m : ℕ) (d e : Effect) → EffectsNear m d e → (len w : ℕ) (c : Control) (z : ℕ) → with_owb z (after_effect d len c) ≡ with_owb z (after_effect e len (with_owb w c))
unfolding after_effect
effect_near m d e n len w c z =
    flow_owb d.flow len (record { pc = c.pc; special = with_sets d.sets c.special; ps = d.ps; threadptr = d.threadptr; waits = d.waits }) z
    ∙ (ap (λ (x : Flow). built len c x d.sets (record d.ps { owb = z }) d.threadptr d.waits) n.flow
    ∙ (ap (λ (x : SpecialWrites). built len c e.flow x (record d.ps { owb = z }) d.threadptr d.waits) n.sets
    ∙ (ap (λ (x : Ps). built len c e.flow e.sets x d.threadptr d.waits) (n.ps z)
    ∙ (ap (λ (x : ℕ). built len c e.flow e.sets (record e.ps { owb = z }) x d.waits) n.threadptr
    ∙ (ap (λ (x : Bool). built len c e.flow e.sets (record e.ps { owb = z }) e.threadptr x) n.waits
    ∙ sym (flow_owb e.flow len (record { pc = c.pc; special = with_sets e.sets c.special; ps = e.ps; threadptr = e.threadptr; waits = e.waits }) z))))))

pub done_near : (m : ℕ) (d e : Effect) → EffectsNear m d e → (len w : ℕ) (c : Control) → ControlNear (after_tick (after_effect d len c)) (after_tick (after_effect e len (with_owb w c)))
done_near m d e n len w c = near_equal (after_tick (after_effect d len c)) (after_tick (after_effect e len (with_owb w c))) (λ z. ap after_tick (effect_near m d e n len w c z))

-- ---- an exception
pub raised_owb : (cause : ℕ) (addr : Option ℕ) (c : Control) (o : ℕ) → with_owb o (after_exception cause addr c) ≡ after_exception cause addr (with_owb o c)
unfolding after_exception
raised_owb cause addr c o = by_mode c.ps.excm
  where
    by_mode : (b : Bool) → with_owb o (cond b (after_double cause addr c) (after_general cause addr c)) ≡ cond b (after_double cause addr (with_owb o c)) (after_general cause addr (with_owb o c))
    by_mode true = refl
    by_mode false = refl

pub raised_near : (cause : ℕ) (addr : Option ℕ) (w : ℕ) (c : Control) → ControlNear (after_tick (after_exception cause addr c)) (after_tick (after_exception cause addr (with_owb w c)))
raised_near cause addr w c = near_equal (after_tick (after_exception cause addr c)) (after_tick (after_exception cause addr (with_owb w c))) (λ z. ap after_tick (raised_owb cause addr c z ∙ sym (raised_owb cause addr (with_owb w c) z)))

pub waited_near : (w : ℕ) (c : Control) → ControlNear (after_tick c) (after_tick (with_owb w c))
waited_near w c = near_equal (after_tick c) (after_tick (with_owb w c)) (λ z. refl)

-- ---- what is known of one is known of the other
no_mark_eps : (n : ℕ) → holds_marks n ≡ true → is_eps n ≡ false
no_mark_eps n h = by (is_eps n) refl
  where
    by : (b : Bool) → is_eps n ≡ b → b ≡ false
    by false e = refl
    by true e = let r = eps_range n e in let lo = r.0 in let hi = r.1 in ⊎_elim (λ s. let a = s.0 in absurd (omega (arith, a, hi))) (λ s. let a = s.0 in absurd (omega (arith, a, hi))) (mark_range n h)

pub known_near : {special : List ℕ} {bits : ℕ} {c d e : Control} → ControlLeft Strict special bits c d → ControlNear d e → ControlLeft Strict special bits c e
known_near {special = special} {bits = bits} {c = c} {d = d} {e = e} f n =
    let k : Even is_eps (with_owb c.ps.owb d) (with_owb c.ps.owb e) = n.even c.ps.owb in
    record {
      even = record {
        pc = f.even.pc ∙ k.pc;
        ps = f.even.ps ∙ k.ps;
        threadptr = refl;
        waits = f.even.waits ∙ k.waits;
        special = record {
          size = f.even.special.size ∙ k.special.size;
          only = f.even.special.only;
          at = λ i known. f.even.special.at i known ∙ k.special.at i (or_parts (holds_marks i) (is_eps i) known).1;
        };
      };
      pointer = f.pointer ∙ k.threadptr;
      spread = f.spread;
      words = f.words;
      fits = λ i h. f.fits i h ∙ k.special.at i (no_mark_eps i h);
      saved = λ i h. f.saved i h ∙ n.saved i h;
    }
