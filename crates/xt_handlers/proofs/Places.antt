-- A chain of stack pointers gives room.
use Rattle.std.proofs.Common.{lit<, inl, inr, ◌≡◌, ◌≢◌, ⊎_elim, ℕ, ◌+◌, ◌-◌, ◌*◌, ◌<◌, ◌≤◌, true, refl, sym, ◌∙◌, ap, arith}
use Rattle.std.proofs.lemmas.Bool.{cond-true, cond-false, cases_lt, lt-ltb, le-ltb}
use Rattle.xt_handlers.specs.Symbols.{Word}
use Rattle.xt_handlers.specs.Needs.{is_among, named_words, callee_sp, link, link_word, save_word}
use Rattle.xt_handlers.specs.declared.stretch.Side.{Side}
use Rattle.xt_handlers.specs.declared.stretch.Side.TheVariants.{Overflow, Underflow}
use Rattle.xt_handlers.specs.Running.{is_access}
use Rattle.xt_handlers.specs.Machines.{Machine, word_at, address, symbol_value, address_of}
use Rattle.xt_handlers.specs.Frames.{HasFrames, HasRoom, IsOwn, IsOwnByte}
use Rattle.xt_handlers.specs.HandlerInvariants.{Spares}
use Rattle.xt_handlers.proofs.Words.{access_from, address_is}
use Rattle.xt_handlers.proofs.Wanted.{IsNamed, the_link, a_save, named_is}

-- where a save is: below the callee's stack pointer, or below the caller's
pub data Lies (sp own up n k a : ℕ) : Type 0 where
  near : k < 4 → a + 16 ≡ sp + 4 * k → Lies sp own up n k a
  far : 4 ≤ k → 1 < n → a + 16 * n + 16 ≡ up + 4 * k → Lies sp own up n k a

twelve : (side : Side) (n : ℕ) → (link_word side n).back ≡ 12
twelve Overflow n = refl
twelve Underflow n = refl

module _ (side : Side) (n : ℕ) (start : Machine) (f : HasFrames side n start) where
  pub lies : (k : ℕ) → k < 4 * n → Lies (symbol_value start (callee_sp n)) (symbol_value start (link_word side n).base) (symbol_value start (link side n)) n k (address_of start (save_word side n k))
  lies k l = ⊎_elim
      (λ h.
      let w : Word = record { base = callee_sp n; back = 16 - 4 * k } in
      let is : address_of start (save_word side n k) ≡ symbol_value start (callee_sp n) - (16 - 4 * k) =
      ap (address_of start) (cond-true _ w _ (lt-ltb k 4 h)) ∙ address_is (symbol_value start (callee_sp n)) (16 - 4 * k) (omega (arith, f.callee_low)) (omega (arith, f.callee_high)) in
      near h (omega (arith, is, f.callee_low)))
      (λ h.
      let two : 1 < n = omega arith in
      let w : Word = record { base = link side n; back = 16 * n - 4 * (k - 4) } in
      let is : address_of start (save_word side n k) ≡ symbol_value start (link side n) - (16 * n - 4 * (k - 4)) =
      ap (address_of start) (cond-false _ _ w (le-ltb k 4 h)) ∙ address_is (symbol_value start (link side n)) (16 * n - 4 * (k - 4)) (omega (arith, f.caller_low two, f.own_low two, f.callee_low)) (omega (arith, f.caller_high two)) in
      far h two (omega (arith, is, f.caller_low two, f.own_low two, f.callee_low)))
      (cases_lt k 4)

  access_at : (k a : ℕ) → k < 4 * n → Lies (symbol_value start (callee_sp n)) (symbol_value start (link_word side n).base) (symbol_value start (link side n)) n k a → is_access a ≡ true
  access_at k a l (near h e) =
      access_from a (omega (arith, e, f.callee_aligned)) (omega (arith, e, f.callee_low)) (omega (arith, e, f.callee_high))
  access_at k a l (far h two e) =
      access_from a (omega (arith, e, f.caller_aligned two)) (omega (arith, e, f.caller_low two, f.own_low two, f.callee_low)) (omega (arith, e, f.caller_high two))

  apart_at : (j k a b : ℕ) → j < 4 * n → k < 4 * n → j ≢ k → Lies (symbol_value start (callee_sp n)) (symbol_value start (link_word side n).base) (symbol_value start (link side n)) n j a →
      Lies (symbol_value start (callee_sp n)) (symbol_value start (link_word side n).base) (symbol_value start (link side n)) n k b → a ≢ b
  apart_at j k a b lj lk ne (near h e) (near i d) q = omega (arith, e, d, q)
  apart_at j k a b lj lk ne (near h e) (far i two d) q = omega (arith, e, d, q, f.caller_low two, f.own_low two)
  apart_at j k a b lj lk ne (far h two e) (near i d) q = omega (arith, e, d, q, f.caller_low two, f.own_low two)
  apart_at j k a b lj lk ne (far h two e) (far i three d) q = omega (arith, e, d, q)

  pub link_at : 1 < n → address_of start (link_word side n) ≡ symbol_value start (link_word side n).base - 12
  link_at two = ap (address (symbol_value start (link_word side n).base)) (twelve side n)
      ∙ address_is (symbol_value start (link_word side n).base) 12 (omega (arith, f.own_low two, f.callee_low)) (omega (arith, f.caller_low two, f.caller_high two))

  link_access : 1 < n → is_access (address_of start (link_word side n)) ≡ true
  link_access two =
      let e = link_at two in
      access_from _ (omega (arith, e, f.own_aligned two, f.own_low two, f.callee_low)) (omega (arith, e, f.own_low two, f.callee_low)) (omega (arith, e, f.own_low two, f.callee_low, f.caller_low two, f.caller_high two))

  link_apart : 1 < n → (k a : ℕ) → k < 4 * n → Lies (symbol_value start (callee_sp n)) (symbol_value start (link_word side n).base) (symbol_value start (link side n)) n k a → address_of start (link_word side n) ≢ a
  link_apart two k a l (near h e) q = omega (arith, link_at two, q, e, f.own_low two, f.callee_low)
  link_apart two k a l (far h t e) q = omega (arith, link_at two, q, e, f.caller_low two, f.own_low two, f.callee_low)

room_loads : (side : Side) (n : ℕ) (start : Machine) → HasFrames side n start → (w : Word) → IsNamed side n w → is_access (address_of start w) ≡ true
room_loads side n start f w (the_link two e) = ap (λ (x : Word). is_access (address_of start x)) e ∙ link_access side n start f two
room_loads Overflow n start f w (a_save k u l e) = absurd cc
room_loads Underflow n start f w (a_save k u l e) = ap (λ (x : Word). is_access (address_of start x)) e ∙ access_at Underflow n start f k _ l (lies Underflow n start f k l)

room_unread : (n : ℕ) (start : Machine) → HasFrames Overflow n start → (w : Word) (k : ℕ) → IsNamed Overflow n w → k < 4 * n → address_of start w ≢ address_of start (save_word Overflow n k)
room_unread n start f w k (the_link two e) l q = link_apart Overflow n start f two k _ l (lies Overflow n start f k l) (sym (ap (address_of start) e) ∙ q)
room_unread n start f w k (a_save j u h e) l q = absurd cc

pub room_from : (side : Side) (n : ℕ) (start : Machine) → HasFrames side n start → HasRoom side n start
room_from Overflow n start f = record {
  some = f.some;
  three = f.three;
  registers = f.registers;
  fits = f.fits;
  loads = λ w h. room_loads Overflow n start f w (named_is Overflow n w f.some h);
  stores = λ o k l. access_at Overflow n start f k _ l (lies Overflow n start f k l);
  apart = λ o j k lj lk ne. apart_at Overflow n start f j k _ _ lj lk ne (lies Overflow n start f j lj) (lies Overflow n start f k lk);
  unread = λ o w k h l. room_unread n start f w k (named_is Overflow n w f.some h) l;
}
room_from Underflow n start f = record {
  some = f.some;
  three = f.three;
  registers = f.registers;
  fits = f.fits;
  loads = λ w h. room_loads Underflow n start f w (named_is Underflow n w f.some h);
  stores = λ o. absurd cc;
  apart = λ o. absurd cc;
  unread = λ o. absurd cc;
}

own_save : (side : Side) (n : ℕ) (start : Machine) (k a : ℕ) → HasFrames side n start → k < 4 * n → Lies (symbol_value start (callee_sp n)) (symbol_value start (link_word side n).base) (symbol_value start (link side n)) n k a → IsOwn side n start a
own_save side n start k a f l (near h e) = inl (omega (arith, e), omega (arith, e))
own_save side n start k a f l (far h two e) = inr (two, inl (omega (arith, e), omega (arith, e)))

pub saves_own : (side : Side) (n k : ℕ) (start : Machine) → HasFrames side n start → k < 4 * n → IsOwn side n start (address_of start (save_word side n k))
saves_own side n k start f l = own_save side n start k _ f l (lies side n start f k l)

save_is_own : (n : ℕ) (start : Machine) (w : Word) (k : ℕ) → HasFrames Underflow n start → k < 4 * n → w ≡ save_word Underflow n k → IsOwn Underflow n start (address_of start w)
save_is_own n start w k f l e = rw e (saves_own Underflow n k start f l)

own_word : (side : Side) (n : ℕ) (start : Machine) (w : Word) → HasFrames side n start → IsNamed side n w → IsOwn side n start (address_of start w)
own_word side n start w f (the_link two e) =
    let at : address_of start w ≡ symbol_value start (link_word side n).base - 12 = ap (address_of start) e ∙ link_at side n start f two in
    inr (two, inr (omega (arith, at, f.own_low two, f.callee_low)))
own_word Overflow n start w f (a_save k u l e) = absurd cc
own_word Underflow n start w f (a_save k u l e) = save_is_own n start w k f l e

pub named_own : (side : Side) (n : ℕ) (start : Machine) (w : Word) → HasFrames side n start → is_among w (named_words side n) ≡ true → IsOwn side n start (address_of start w)
named_own side n start w f h = own_word side n start w f (named_is side n w f.some h)

-- ---- the bytes of such a word
own_bytes : (side : Side) (n : ℕ) (start : Machine) (a i : ℕ) → i < 4 → IsOwn side n start a → IsOwnByte side n start (a + i)
own_bytes side n start a i l (inl h) = inl (omega (arith, h.0), omega (arith, h.1))
own_bytes side n start a i l (inr (two, inl h)) = inr (two, inl (omega (arith, h.0), omega (arith, h.1)))
own_bytes side n start a i l (inr (two, inr h)) = inr (two, inr (omega (arith, h), omega (arith, h)))

word_spared : (side : Side) (n : ℕ) (start : Machine) (old new : ℕ → ℕ) (a : ℕ) → ((a : ℕ) → IsOwnByte side n start a → new a ≡ old a) → IsOwn side n start a → word_at new a ≡ word_at old a
word_spared side n start old new a same own =
    let z : a + 0 ≡ a = omega arith in
    let e0 : new a ≡ old a = rw z at (same (a + 0) (own_bytes side n start a 0 (lit< tt) own)) in
    let e1 : new (a + 1) ≡ old (a + 1) = same (a + 1) (own_bytes side n start a 1 (lit< tt) own) in
    let e2 : new (a + 2) ≡ old (a + 2) = same (a + 2) (own_bytes side n start a 2 (lit< tt) own) in
    let e3 : new (a + 3) ≡ old (a + 3) = same (a + 3) (own_bytes side n start a 3 (lit< tt) own) in
    cc

spared_save : (side : Side) (n : ℕ) (start : Machine) (old new : ℕ → ℕ) (k : ℕ) → HasFrames side n start → ((a : ℕ) → IsOwnByte side n start a → new a ≡ old a) → side ≡ Overflow → k < 4 * n →
    word_at new (address_of start (save_word Overflow n k)) ≡ word_at old (address_of start (save_word Overflow n k))
spared_save Overflow n start old new k f same o l = word_spared Overflow n start old new _ same (saves_own Overflow n k start f l)
spared_save Underflow n start old new k f same o l = absurd cc

pub spares_from : (side : Side) (n : ℕ) (start : Machine) (old new : ℕ → ℕ) → HasFrames side n start → ((a : ℕ) → IsOwnByte side n start a → new a ≡ old a) → Spares side n start old new
spares_from side n start old new f same = record {
  named = λ w h. word_spared side n start old new _ same (named_own side n start w f h);
  saves = λ o k l. spared_save side n start old new k f same o l;
}
