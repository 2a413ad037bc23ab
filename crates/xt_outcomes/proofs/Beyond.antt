-- Turns beyond those that an order asks for change nothing but how many are left.
use Rattle.std.proofs.Common.{◌≡◌, ℕ, zero, suc, ◌+◌, ◌≤◌, Bool, true, false, ◌||◌, List, [], ◌∷◌, ◌++◌, length, refl, sym, ap, ◌∙◌, subst, arith}
use Rattle.std.proofs.lemmas.Bool.{true≢false}
use Rattle.xt_trace.specs.Calls.{is_stop}
use Rattle.xt_trace.specs.Chip.{Chip}
use Rattle.xt_trace.specs.Runs.{world_at_start}
use Rattle.xt_trace.specs.Traces.{has_stopped}
use Rattle.xt_trace.specs.Worlds.{Core, Line, World, advance, answer, core_given, core_past, give, line_given, line_past}
use Rattle.xt_trace.proofs.Short.{stopped_push}
use Rattle.xt_exec.specs.State.{State}
use Rattle.xt_timeless.specs.TimeLaws.{HasTurns, HaveTurns}
use Rattle.xt_timeless.proofs.Going.{left_going, left_stopped, one_less}
use Rattle.xt_outcomes.specs.Beyond.{AreSameButForTurns, IsSameButForTurns, TurnsBeyondPlayNoPart}
use Rattle.xt_outcomes.specs.Orders.{with_turns}

fewer_turns : (n : ℕ) (k : Core State) → HasTurns (suc n) k → HasTurns n k
fewer_turns n k h = (h.0, λ (f : has_stopped k.records ≡ false). let l : suc n ≤ k.left = h.1 f in omega arith)

module _ (P : Chip State) where
  turns_past : (n i : ℕ) (k : Core State) (reply : ℕ) → n ≤ i → has_stopped k.records ≡ false → HasTurns n (core_past P k i reply)
  turns_past n i k reply less going =
      let r = (P.turn k.state reply).0 in
      let pushed : has_stopped (k.records ++ r ∷ []) ≡ is_stop r.kind = stopped_push k.records r ∙ ap (λ (t : Bool). t || is_stop r.kind) going in (
        λ (h : has_stopped (k.records ++ r ∷ []) ≡ true). left_stopped r i (has_stopped (k.records ++ r ∷ [])) (sym pushed) h,
        λ (h : has_stopped (k.records ++ r ∷ []) ≡ false). left_going r n i (has_stopped (k.records ++ r ∷ [])) (sym pushed) h less,
      )

  same_past : (i j : ℕ) (k l : Core State) (b d : Line) → IsSameButForTurns k l → b ≡ d → IsSameButForTurns (core_past P k i (answer (P.demand k.state) b.memory)) (core_past P l j (answer (P.demand l.state) d.memory))
  same_past i j k l b d h e =
      let st = h.state in
      let rec = h.records in
      record {
        state = λ q. (P.turn (st q) (answer (P.demand (st q)) (e q).memory)).1;
        records = λ q. rec q ++ (P.turn (st q) (answer (P.demand (st q)) (e q).memory)).0 ∷ [];
      }

  -- what is said of two cores after their next turns
  record Goes (n m c : ℕ) (k l after other : Core State) (b d : Line) : Type 0 where
    core : IsSameButForTurns after other
    line : b ≡ d
    turns : HasTurns n after
    others : HasTurns m other

  goes_at : (n m c x y : ℕ) (k l : Core State) (b d : Line) → k.left ≡ x → l.left ≡ y
      → Goes n m c k l (core_given P x k b) (core_given P y l d) (line_given P c x k b) (line_given P c y l d)
      → Goes n m c k l (core_given P k.left k b) (core_given P l.left l d) (line_given P c k.left k b) (line_given P c l.left l d)
  goes_at n m c x y k l b d e f g =
      subst (λ (z : ℕ). Goes n m c k l (core_given P z k b) (core_given P l.left l d) (line_given P c z k b) (line_given P c l.left l d)) (sym e)
      (subst (λ (z : ℕ). Goes n m c k l (core_given P x k b) (core_given P z l d) (line_given P c x k b) (line_given P c z l d)) (sym f) g)

  goes : (n m c : ℕ) (k l : Core State) (b d : Line) → IsSameButForTurns k l → b ≡ d → HasTurns (suc n) k → HasTurns (suc m) l
      → Goes n m c k l (core_given P k.left k b) (core_given P l.left l d) (line_given P c k.left k b) (line_given P c l.left l d)
  goes n m c k l b d h e hk hl = by_test (has_stopped k.records) refl
    where
      by_test : (st : Bool) → has_stopped k.records ≡ st → Goes n m c k l (core_given P k.left k b) (core_given P l.left l d) (line_given P c k.left k b) (line_given P c l.left l d)
      by_test true st =
          goes_at n m c 0 0 k l b d (hk.0 st) (hl.0 (sym (ap has_stopped h.records) ∙ st))
          (record { core = h; line = e; turns = fewer_turns n k hk; others = fewer_turns m l hl })
      by_test false st =
          let going = sym (ap has_stopped h.records) ∙ st in
          let x = one_less n k.left (hk.1 st) in
          let y = one_less m l.left (hl.1 going) in
          goes_at n m c (suc x.0) (suc y.0) k l b d x.1 y.1
          (record {
            core = same_past x.0 y.0 k l b d h e;
            line = λ q. line_past c (P.demand (h.state q)) (e q);
            turns = turns_past n x.0 k (answer (P.demand k.state) b.memory) x.2 st;
            others = turns_past m y.0 l (answer (P.demand l.state) d.memory) y.2 going;
          })

  gives : (n m c : ℕ) (v w : World State) → AreSameButForTurns v w → HaveTurns (suc n) v → HaveTurns (suc m) w → AreSameButForTurns (give P c v) (give P c w) × HaveTurns n (give P c v) × HaveTurns m (give P c w)
  gives n m zero v w h hv hw =
      let g = goes n m 0 v.core0 w.core0 v.line w.line h.core0 h.line hv.0 hw.0 in
      (record { line = g.line; core0 = g.core; core1 = h.core1 }, (g.turns, fewer_turns n v.core1 hv.1), (g.others, fewer_turns m w.core1 hw.1))
  gives n m (suc c) v w h hv hw =
      let g = goes n m 1 v.core1 w.core1 v.line w.line h.core1 h.line hv.1 hw.1 in
      (record { line = g.line; core0 = h.core0; core1 = g.core }, (fewer_turns n v.core0 hv.0, g.turns), (fewer_turns m w.core0 hw.0, g.others))

  pub advances : (extra : ℕ) (order : List ℕ) (v w : World State) → AreSameButForTurns v w → HaveTurns (length order + extra) v → HaveTurns (length order) w
      → AreSameButForTurns (advance P order v) (advance P order w) × HaveTurns extra (advance P order v)
  advances extra [] v w h hv hw = (h, subst (λ (n : ℕ). HaveTurns n v) (let e : 0 + extra ≡ extra = omega arith in e) hv)
  advances extra (c ∷ cs) v w h hv hw =
      let more = subst (λ (n : ℕ). HaveTurns n v) (let e : suc (length cs) + extra ≡ suc (length cs + extra) = omega arith in e) hv in
      let g = gives (length cs + extra) (length cs) c v w h more hw in
      advances extra cs (give P c v) (give P c w) g.0 g.1 g.2

pub turns_beyond : TurnsBeyondPlayNoPart
turns_beyond P o order extra =
    advances P extra order (world_at_start (with_turns o (length order + extra))) (world_at_start (with_turns o (length order)))
    (record { line = refl; core0 = record { state = refl; records = refl }; core1 = record { state = refl; records = refl } })
    ((λ h. absurd (true≢false (sym h)), λ h. omega arith), (λ h. absurd (true≢false (sym h)), λ h. omega arith))
    ((λ h. absurd (true≢false (sym h)), λ h. omega arith), (λ h. absurd (true≢false (sym h)), λ h. omega arith))
