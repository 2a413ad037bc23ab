-- From symbols to plain words.
use Rattle.std.proofs.Common.{◌≡◌, ◌⊎◌, ⊎_elim, inl, inr, ℕ, ◌+◌, ◌-◌, ◌*◌, ◌<◌, ◌≤◌, refl, sym, ◌∙◌, ap, arith, subst}
use Rattle.xt_handlers.specs.Needs.{callee_sp, link, link_word, save_word}
use Rattle.xt_handlers.specs.declared.stretch.Side.{Side}
use Rattle.xt_handlers.specs.declared.stretch.Side.TheVariants.{Overflow, Underflow}
use Rattle.xt_handlers.specs.Machines.{Machine, visible, word_at, address, symbol_value, address_of}
use Rattle.xt_handlers.specs.Frames.{HasFrames}
use Rattle.xt_handlers.specs.HandlerInvariants.{Stores, Loads}
use Rattle.xt_handlers.specs.Joined.{Finds, IsShaped, own_link, saved_sp, saved_link, IsApart, StoresWords, LoadsWords}
use Rattle.xt_handlers.proofs.Words.{address_is}
use Rattle.xt_handlers.proofs.Places.{Lies, near, far, lies}

frames_from : (side : Side) (lo hi n : ℕ) (start : Machine) → IsShaped lo hi n start → Finds lo hi n (symbol_value start (callee_sp n)) (symbol_value start (link_word side n).base) (symbol_value start (link side n)) → HasFrames side n start
frames_from side lo hi n start s f = record {
  some = s.some;
  three = s.three;
  registers = s.registers;
  fits = s.fits;
  callee_low = omega (arith, s.low, f.low);
  callee_high = omega (arith, s.high, f.under, f.large, f.high);
  callee_aligned = f.callee_aligned;
  own_low = λ h. f.under;
  own_aligned = λ h. f.own_aligned;
  caller_low = λ h. f.large;
  caller_high = λ h. omega (arith, s.high, f.high);
  caller_aligned = λ h. f.top_aligned;
}

-- 12 below a stack pointer
twelve_below : (lo hi n callee own top sp : ℕ) → 0x3FFAE000 ≤ lo → hi ≤ 0x40000000 → Finds lo hi n callee own top → (sp ≡ callee) ⊎ (sp ≡ own) → address sp 12 ≡ sp - 12
twelve_below lo hi n callee own top sp low high f (inl e) = address_is sp 12 (omega (arith, e, f.low)) (omega (arith, e, f.under, f.large, f.high))
twelve_below lo hi n callee own top sp low high f (inr e) = address_is sp 12 (omega (arith, e, f.low, f.under)) (omega (arith, e, f.large, f.high))

pub own_link_is : (lo hi n : ℕ) (start : Machine) → IsShaped lo hi n start → Finds lo hi n (visible start (4 * n + 1)) (visible start 1) (own_link start) → symbol_value start (link Overflow n) ≡ own_link start
own_link_is lo hi n start s f = ap (word_at start.bytes) (twelve_below lo hi n _ _ _ (visible start 1) s.low s.high f (inr refl))

pub saved_sp_is : (lo hi n : ℕ) (start : Machine) → IsShaped lo hi n start → Finds lo hi n (visible start (4 * n + 1)) (saved_sp start n) (saved_link start n) → symbol_value start (link_word Underflow n).base ≡ saved_sp start n
saved_sp_is lo hi n start s f = ap (word_at start.bytes) (twelve_below lo hi n _ _ _ (visible start (4 * n + 1)) s.low s.high f (inl refl))

pub saved_link_is : (lo hi n : ℕ) (start : Machine) → IsShaped lo hi n start → Finds lo hi n (visible start (4 * n + 1)) (saved_sp start n) (saved_link start n) → symbol_value start (link Underflow n) ≡ saved_link start n
saved_link_is lo hi n start s f =
    ap (λ x. word_at start.bytes (address x 12)) (saved_sp_is lo hi n start s f)
    ∙ ap (word_at start.bytes) (twelve_below lo hi n _ _ _ (saved_sp start n) s.low s.high f (inr refl))

pub overflow_frames : (lo hi n : ℕ) (start : Machine) → IsShaped lo hi n start → Finds lo hi n (visible start (4 * n + 1)) (visible start 1) (own_link start) → HasFrames Overflow n start
overflow_frames lo hi n start s f =
    frames_from Overflow lo hi n start s (subst (λ x. Finds lo hi n (visible start (4 * n + 1)) (visible start 1) x) (sym (own_link_is lo hi n start s f)) f)

pub underflow_frames : (lo hi n : ℕ) (start : Machine) → IsShaped lo hi n start → Finds lo hi n (visible start (4 * n + 1)) (saved_sp start n) (saved_link start n) → HasFrames Underflow n start
underflow_frames lo hi n start s f =
    let g : Finds lo hi n (visible start (4 * n + 1)) (saved_sp start n) (symbol_value start (link Underflow n)) =
    subst (λ x. Finds lo hi n (visible start (4 * n + 1)) (saved_sp start n) x) (sym (saved_link_is lo hi n start s f)) f in
    frames_from Underflow lo hi n start s (subst (λ x. Finds lo hi n (visible start (4 * n + 1)) x (symbol_value start (link Underflow n))) (sym (saved_sp_is lo hi n start s f)) g)

-- ---- the addresses of the saves
near_at : (sp own up n k a : ℕ) → k < 4 → 16 ≤ sp → Lies sp own up n k a → a ≡ sp - 16 + 4 * k
near_at sp own up n k a l h (near i e) = omega (arith, e)
near_at sp own up n k a l h (far i two e) = absurd (omega arith)

far_at : (sp own up n k a : ℕ) → 4 ≤ k → 16 * n ≤ up → Lies sp own up n k a → a ≡ up - 16 * n + 4 * (k - 4)
far_at sp own up n k a l h (near i e) = absurd (omega arith)
far_at sp own up n k a l h (far i two e) = omega (arith, e)

pub save_low : (side : Side) (n k : ℕ) (start : Machine) → HasFrames side n start → k < 4 → address_of start (save_word side n k) ≡ visible start (4 * n + 1) - 16 + 4 * k
save_low side n k start f l = near_at _ _ _ n k _ l (omega (arith, f.callee_low)) (lies side n start f k (omega (arith, f.some)))

pub save_high : (side : Side) (n k : ℕ) (start : Machine) → HasFrames side n start → 4 ≤ k → k < 4 * n → address_of start (save_word side n k) ≡ symbol_value start (link side n) - 16 * n + 4 * (k - 4)
save_high side n k start f l h =
    let two : 1 < n = omega arith in
    far_at _ _ _ n k _ l (omega (arith, f.caller_low two)) (lies side n start f k h)

apart_bytes : (n k sp own up a b i : ℕ) → k < 4 * n → 16 ≤ sp → (1 < n → 16 * n ≤ up) → i < 4 → Lies sp own up n k b → IsApart a sp up n → (a + i < b) ⊎ (b + 4 ≤ a + i)
apart_bytes n k sp own up a b i l low high h (near j e) d = ⊎_elim (λ p. inl (omega arith)) (λ p. inr (omega arith)) d.0
apart_bytes n k sp own up a b i l low high h (far j two e) d = let g : 16 * n ≤ up = high two in ⊎_elim (λ p. inl (omega arith)) (λ p. inr (omega arith)) d.1

module _ (lo hi n : ℕ) (start end : Machine) (s : IsShaped lo hi n start) where
  pub stores_words : Finds lo hi n (visible start (4 * n + 1)) (visible start 1) (own_link start) → Stores n start end → StoresWords n start end
  stores_words found r =
      let f : HasFrames Overflow n start = overflow_frames lo hi n start s found in
      let up : symbol_value start (link Overflow n) ≡ own_link start = own_link_is lo hi n start s found in
      let byte = λ (a i : ℕ) (h : i < 4) (d : IsApart a (visible start (4 * n + 1)) (symbol_value start (link Overflow n)) n).
      r.elsewhere (a + i) (λ k l. apart_bytes n k _ _ _ a _ i l (omega (arith, f.callee_low)) (λ two. omega (arith, f.caller_low two)) h (lies Overflow n start f k l) d) in
      record {
        low = λ i h. ap (word_at end.bytes) (sym (save_low Overflow n i start f h)) ∙ r.saved i (omega (arith, f.some));
        high = λ i l h. ap (word_at end.bytes) (sym (save_high Overflow n i start f l h ∙ ap (λ x. x - 16 * n + 4 * (i - 4)) up)) ∙ r.saved i h;
        others = λ a d.
            let z : a + 0 ≡ a = omega arith in
            let d2 : IsApart a (visible start (4 * n + 1)) (symbol_value start (link Overflow n)) n = subst (λ x. IsApart a (visible start (4 * n + 1)) x n) (sym up) d in
            let e0 : end.bytes a ≡ start.bytes a = rw z at (byte a 0 (omega arith) d2) in
            let e1 : end.bytes (a + 1) ≡ start.bytes (a + 1) = byte a 1 (omega arith) d2 in
            let e2 : end.bytes (a + 2) ≡ start.bytes (a + 2) = byte a 2 (omega arith) d2 in
            let e3 : end.bytes (a + 3) ≡ start.bytes (a + 3) = byte a 3 (omega arith) d2 in
            cc;
      }

  pub loads_words : Finds lo hi n (visible start (4 * n + 1)) (saved_sp start n) (saved_link start n) → Loads n start end → LoadsWords n start end
  loads_words found r =
      let f : HasFrames Underflow n start = underflow_frames lo hi n start s found in
      let up : symbol_value start (link Underflow n) ≡ saved_link start n = saved_link_is lo hi n start s found in
      record {
        low = λ i h. r.loaded i (omega (arith, f.some)) ∙ ap (word_at start.bytes) (save_low Underflow n i start f h);
        high = λ i l h. r.loaded i h ∙ ap (word_at start.bytes) (save_high Underflow n i start f l h ∙ ap (λ x. x - 16 * n + 4 * (i - 4)) up);
      }
