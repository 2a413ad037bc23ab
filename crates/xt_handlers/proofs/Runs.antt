-- A whole run of a handler that passes the check.
use Rattle.std.proofs.Common.{◌≡◌, ⊎_elim, ℕ, zero, suc, ◌+◌, ◌*◌, ◌<◌, ◌≤◌, Bool, true, false, ◌&&◌, ltb, refl, sym, ◌∙◌, ap, arith, List, [], ◌∷◌, length, get_or, replicate, Option, Some}
use Rattle.std.proofs.lemmas.Bool.{cond-true, cond-false, false≢true, true≢false, and_parts, or_cases, cases_Bool, cases_lt, lt-ltb, le-ltb, ltb-true}
use Rattle.std.proofs.lemmas.List.{get_or_past, get_or-replicate, length-replicate}
use Rattle.xt_handlers.specs.Symbols.{Symbol, Init, Load, Effect, register, effect_after_step, opening, same}
use Rattle.xt_handlers.specs.Needs.{save_of, save_word, saves_from, still_wanted, wanted_stores, are_named, is_done, is_right, are_right, has_effect}
use Rattle.xt_handlers.specs.Needs.{marked_stores}
use Rattle.xt_handlers.specs.Handling.{Line, answer_at, walk, handling_verdict}
use Rattle.xt_handlers.specs.Spelled.{HasRegisters}
use Rattle.xt_handlers.specs.declared.stretch.Side.{Side}
use Rattle.xt_handlers.specs.declared.stretch.Side.TheVariants.{Overflow, Underflow}
use Rattle.xt_handlers.specs.declared.stretch.HandlerInsn.{HandlerInsn}
use Rattle.xt_handlers.specs.declared.stretch.HandlerInsn.TheVariants.{L32e, S32e, Nop, Rfwo, Rfwu, Foreign}
use Rattle.xt_handlers.specs.declared.stretch.HandlerVerdict.TheVariants.{Yes}
use Rattle.xt_handlers.proofs.Stores.{some_marked}
use Rattle.xt_handlers.specs.Running.{then_ran, ran_at, machine_after_lines}
use Rattle.xt_handlers.specs.Machines.{Machine, visible, word_at, symbol_value, address_of}
use Rattle.xt_handlers.specs.Frames.{HasRoom}
use Rattle.xt_handlers.specs.HandlerInvariants.{Stands, HaveRegisters, KeepsRegisters, Stores, Loads, Touches, opening_flags}
use Rattle.xt_handlers.proofs.Wanted.{same_is}
use Rattle.xt_handlers.proofs.Unspoiled.{ending_yes}
use Rattle.xt_handlers.proofs.Steps.{StepMoves, load_moves, store_moves, no_store}

pub record Ends (side : Side) (n : ℕ) (start now : Machine) (result : Option Machine) : Type 0 where
  pub effect : Effect
  pub flags : List Bool
  pub end : Machine
  pub is : result ≡ Some end
  pub stands : Stands side n start effect flags end
  pub done : has_effect side n effect ≡ true
  pub touches : Touches side n start now.bytes end.bytes

Touches-trans : (side : Side) (n : ℕ) (start : Machine) (a b c : ℕ → ℕ) → Touches side n start a b → Touches side n start b c → Touches side n start a c
Touches-trans side n start a b c p q = record {
  elsewhere = λ x h. q.elsewhere x h ∙ p.elsewhere x h;
  never = λ u x. q.never u x ∙ p.never u x;
}

on : (side : Side) (n : ℕ) (start : Machine) (e : Effect) (flags : List Bool) (step : HandlerInsn) (now : Machine) (lines : List Line) (m : StepMoves side n start e flags step now) →
    Ends side n start m.next (machine_after_lines lines m.next) → (result : Option Machine) → result ≡ then_ran (machine_after_lines lines) (Some m.next) → Ends side n start now result
on side n start e flags step now lines m r result is = record {
  effect = r.effect;
  flags = r.flags;
  end = r.end;
  is = is ∙ r.is;
  stands = r.stands;
  done = r.done;
  touches = Touches-trans side n start now.bytes m.next.bytes r.end.bytes m.touches r.touches;
}

unfoldable pub at_once : (side : Side) (n : ℕ) (start : Machine) (e : Effect) (flags : List Bool) (now : Machine) → Stands side n start e flags now → has_effect side n e ≡ true → Ends side n start now (Some now)
at_once side n start e flags now stands done = record {
  effect = e;
  flags = flags;
  end = now;
  is = refl;
  stands = stands;
  done = done;
  touches = record { elsewhere = λ x h. refl; never = λ u x. refl };
}

at_line : (side : Side) (n : ℕ) (start : Machine) (o : ℕ) (e : Effect) (flags : List Bool) (now : Machine) (step : HandlerInsn) (lines : List Line) → HasRoom side n start →
    ((e : Effect) (flags : List Bool) (now : Machine) → Stands side n start e flags now → walk side n e lines ≡ Yes → Ends side n start now (machine_after_lines lines now)) →
    HasRegisters step → Stands side n start e flags now → answer_at side n e o step (walk side n (effect_after_step e step) lines) ≡ Yes → Ends side n start now (ran_at step (machine_after_lines lines) now)
at_line side n start o e flags now (L32e t s back) lines room ih regs stands y =
    let m : StepMoves side n start e flags (L32e t s back) now = load_moves side n start e flags now lines room stands t s back regs.0 regs.1 y in
    on side n start e flags (L32e t s back) now lines m (ih (effect_after_step e (L32e t s back)) m.after m.next m.stands y) _ (ap (then_ran (machine_after_lines lines)) m.is)
at_line Overflow n start o e flags now (S32e t s back) lines room ih regs stands y =
    let m : StepMoves Overflow n start e flags (S32e t s back) now = store_moves Overflow n start e flags now lines room stands t s back refl regs.0 regs.1 y in
    on Overflow n start e flags (S32e t s back) now lines m (ih (effect_after_step e (S32e t s back)) m.after m.next m.stands y) _ (ap (then_ran (machine_after_lines lines)) m.is)
at_line Underflow n start o e flags now (S32e t s back) lines room ih regs stands y = absurd (no_store Underflow n start e flags now lines room stands t s back refl y)
at_line side n start o e flags now Nop lines room ih regs stands y = ih e flags now stands y
at_line Overflow n start o e flags now Rfwo lines room ih regs stands y = at_once Overflow n start e flags now stands (ending_yes Overflow n o e y)
at_line Underflow n start o e flags now Rfwo lines room ih regs stands y = absurd cc
at_line Overflow n start o e flags now Rfwu lines room ih regs stands y = absurd cc
at_line Underflow n start o e flags now Rfwu lines room ih regs stands y = at_once Underflow n start e flags now stands (ending_yes Underflow n o e y)
at_line side n start o e flags now Foreign lines room ih regs stands y = absurd cc

pub run_ends : (side : Side) (n : ℕ) (start : Machine) (lines : List Line) → HasRoom side n start → HaveRegisters lines →
    (e : Effect) (flags : List Bool) (now : Machine) → Stands side n start e flags now → walk side n e lines ≡ Yes → Ends side n start now (machine_after_lines lines now)
run_ends side n start [] room regs e flags now stands y = absurd cc
run_ends side n start (l ∷ lines) room regs e flags now stands y =
    at_line side n start l.offset e flags now l.step lines room (run_ends side n start lines room regs.1) regs.0 stands y

-- ---- the start
opening_register : (i : ℕ) → i < 16 → register opening.regs i ≡ Init i
opening_register zero h = refl
opening_register (suc zero) h = refl
opening_register (suc (suc zero)) h = refl
opening_register (suc (suc (suc zero))) h = refl
opening_register (suc (suc (suc (suc zero)))) h = refl
opening_register (suc (suc (suc (suc (suc zero))))) h = refl
opening_register (suc (suc (suc (suc (suc (suc zero)))))) h = refl
opening_register (suc (suc (suc (suc (suc (suc (suc zero))))))) h = refl
opening_register (suc (suc (suc (suc (suc (suc (suc (suc zero)))))))) h = refl
opening_register (suc (suc (suc (suc (suc (suc (suc (suc (suc zero))))))))) h = refl
opening_register (suc (suc (suc (suc (suc (suc (suc (suc (suc (suc zero)))))))))) h = refl
opening_register (suc (suc (suc (suc (suc (suc (suc (suc (suc (suc (suc zero))))))))))) h = refl
opening_register (suc (suc (suc (suc (suc (suc (suc (suc (suc (suc (suc (suc zero)))))))))))) h = refl
opening_register (suc (suc (suc (suc (suc (suc (suc (suc (suc (suc (suc (suc (suc zero))))))))))))) h = refl
opening_register (suc (suc (suc (suc (suc (suc (suc (suc (suc (suc (suc (suc (suc (suc zero)))))))))))))) h = refl
opening_register (suc (suc (suc (suc (suc (suc (suc (suc (suc (suc (suc (suc (suc (suc (suc zero))))))))))))))) h = refl
opening_register (suc (suc (suc (suc (suc (suc (suc (suc (suc (suc (suc (suc (suc (suc (suc (suc n)))))))))))))))) h = absurd (omega arith)

all_marked : (n i count : ℕ) → saves_from n i count ≡ marked_stores n i (replicate count true)
all_marked n i zero = refl
all_marked n i (suc count) = ap (λ ss. save_of n i ∷ ss) (all_marked n (i + 1) count)

opening_wanted : (side : Side) (n : ℕ) → wanted_stores side n ≡ marked_stores n 0 (opening_flags side n)
opening_wanted Overflow n = all_marked n 0 (4 * n)
opening_wanted Underflow n = refl

opening_few : (side : Side) (n k : ℕ) → get_or (opening_flags side n) k false ≡ true → k < 4 * n
opening_few Overflow n k h = ⊎_elim (λ l. l) (λ l. absurd (false≢true (sym (get_or_past (replicate (4 * n) true) k false (omega (arith, length-replicate (4 * n) true))) ∙ h))) (cases_lt k (4 * n))
opening_few Underflow n k h = absurd (false≢true h)

opening_saved : (side : Side) (n k : ℕ) → side ≡ Overflow → k < 4 * n → get_or (opening_flags side n) k false ≡ false → ⊥
opening_saved Overflow n k o l h = true≢false (sym (get_or-replicate (4 * n) k true false l) ∙ h)
opening_saved Underflow n k o l h = absurd cc

pub stands_first : (side : Side) (n : ℕ) (start : Machine) → HasRoom side n start → Stands side n start opening (opening_flags side n) start
stands_first side n start room = record {
  base = refl;
  size = room.registers;
  symbols = refl;
  shown = λ i h. ap (symbol_value start) (sym (opening_register i h));
  hidden = λ p h far. refl;
  wanted = ap Some (opening_wanted side n);
  few = opening_few side n;
  read = λ w h. refl;
  saved = λ o k l h. absurd (opening_saved side n k o l h);
}

pub run_first : (side : Side) (n : ℕ) (start : Machine) (lines : List Line) → HasRoom side n start → HaveRegisters lines → handling_verdict side n lines ≡ Yes → Ends side n start start (machine_after_lines lines start)
run_first side n start lines room regs y = run_ends side n start lines room regs opening (opening_flags side n) start (stands_first side n start room) y

-- ---- the end
right_at : (side : Side) (n i j : ℕ) (xs : List Symbol) → are_right side n i xs ≡ true → j < length xs → is_right side n (i + j) (get_or xs j (Init 16)) ≡ true
right_at side n i j [] h l = absurd (omega arith)
right_at side n i zero (x ∷ xs) h l =
    let e : i ≡ i + 0 = omega arith in
    ap (λ k. is_right side n k x) (sym e) ∙ (and_parts (is_right side n i x) (are_right side n (i + 1) xs) h).0
right_at side n i (suc j) (x ∷ xs) h l =
    let e : (i + 1) + j ≡ i + suc j = omega arith in
    ap (λ k. is_right side n k (get_or xs j (Init 16))) (sym e) ∙ right_at side n (i + 1) j xs (and_parts (is_right side n i x) (are_right side n (i + 1) xs) h).1 (omega arith)

pub record Parts (side : Side) (n : ℕ) (e : Effect) : Type 0 where
  pub stores : is_done (still_wanted e.stores (wanted_stores side n)) ≡ true
  pub regs : are_right side n 0 e.regs ≡ true

parts_of : (side : Side) (n : ℕ) (e : Effect) → has_effect side n e ≡ true → Parts side n e
unfolding has_effect
parts_of side n e h =
    let p = and_parts (is_done (still_wanted e.stores (wanted_stores side n))) (are_named side n e.loads && are_right side n 0 e.regs) h in
    record { stores = p.0; regs = (and_parts (are_named side n e.loads) (are_right side n 0 e.regs) p.1).1 }

right_here : (side : Side) (n i : ℕ) (e : Effect) → Parts side n e → length e.regs ≡ 16 → i < 16 → is_right side n i (register e.regs i) ≡ true
right_here side n i e p size l =
    let z : 0 + i ≡ i = omega arith in
    ap (λ k. is_right side n k (register e.regs i)) (sym z) ∙ right_at side n 0 i e.regs p.regs (omega (arith, size))

unchanged : (side : Side) (n i : ℕ) (x : Symbol) → 4 * n ≤ i → is_right side n i x ≡ true → x ≡ Init i
unchanged Overflow n i x l h =
    ⊎_elim (λ p. absurd (omega (arith, ltb-true i (4 * n) p))) (λ p. same_is x (Init i) p) (or_cases (ltb i (4 * n)) (same x (Init i)) h)
unchanged Underflow n i x l h = same_is x _ h ∙ cond-false _ _ _ (le-ltb i (4 * n) l)

loaded_symbol : (n i : ℕ) (x : Symbol) → i < 4 * n → is_right Underflow n i x ≡ true → x ≡ Load (save_word Underflow n i).base (save_word Underflow n i).back
loaded_symbol n i x l h = same_is x _ h ∙ cond-true _ _ _ (lt-ltb i (4 * n) l)

module _ (side : Side) (n : ℕ) (start now : Machine) (result : Option Machine) (r : Ends side n start now result) where
  pub keeps_registers : KeepsRegisters n start r.end
  keeps_registers = record {
    base = r.stands.base;
    kept = λ i low high. r.stands.shown i high ∙ ap (symbol_value start) (unchanged side n i (register r.effect.regs i) low (right_here side n i r.effect (parts_of side n r.effect r.done) r.stands.symbols high));
    hidden = r.stands.hidden;
  }

  no_flag : (k : ℕ) → get_or r.flags k false ≡ false
  no_flag k =
      let done : is_done (Some (marked_stores n 0 r.flags)) ≡ true = sym (ap is_done r.stands.wanted) ∙ (parts_of side n r.effect r.done).stores in
      ⊎_elim
      (λ p. ⊎_elim
      (λ l. absurd (false≢true (sym (some_marked n 0 k r.flags l p) ∙ done)))
      (λ l. get_or_past r.flags k false l)
      (cases_lt k (length r.flags)))
      (λ p. p)
      (cases_Bool (get_or r.flags k false))

pub saved_words : (n : ℕ) (start now : Machine) (result : Option Machine) (r : Ends Overflow n start now result) (k : ℕ) → k < 4 * n →
    word_at r.end.bytes (address_of start (save_word Overflow n k)) ≡ visible start k
saved_words n start now result r k l = r.stands.saved refl k l (no_flag Overflow n start now result r k)

pub loaded_registers : (n : ℕ) (start now : Machine) (result : Option Machine) (r : Ends Underflow n start now result) → n < 4 → (k : ℕ) → k < 4 * n →
    visible r.end k ≡ word_at start.bytes (address_of start (save_word Underflow n k))
loaded_registers n start now result r three k l =
    let h : k < 16 = omega arith in
    r.stands.shown k h ∙ ap (symbol_value start) (loaded_symbol n k (register r.effect.regs k) l (right_here Underflow n k r.effect (parts_of Underflow n r.effect r.done) r.stands.symbols h))

pub stores_frame : (n : ℕ) (start : Machine) (result : Option Machine) (r : Ends Overflow n start start result) → Stores n start r.end
stores_frame n start result r = record {
  registers = keeps_registers Overflow n start start result r;
  saved = saved_words n start start result r;
  elsewhere = r.touches.elsewhere;
}

pub loads_frame : (n : ℕ) (start : Machine) (result : Option Machine) (r : Ends Underflow n start start result) → n < 4 → Loads n start r.end
loads_frame n start result r three = record {
  registers = keeps_registers Underflow n start start result r;
  loaded = loaded_registers n start start result r three;
  memory = r.touches.never refl;
}
