-- One instruction of a handler that passes the check.
use Rattle.std.proofs.Common.{◌≡◌, ◌≢◌, ⊎_elim, ℕ, ◌+◌, ◌*◌, ◌<◌, Bool, true, false, refl, sym, ◌∙◌, ap, arith, List, [], length, get_or, set, Some, None}
use Rattle.std.proofs.lemmas.Bool.{cond-true, false≢true, and_parts, cases_eq, cases_lt}
use Rattle.std.proofs.lemmas.List.{get_or-set_same, get_or-set_other, length-set, get_or_past}
use Rattle.xt_handlers.specs.Symbols.{Init, Load, Word, Store, Effect, register, effect_after_step}
use Rattle.xt_handlers.specs.Needs.{save_of, save_word, then_without, without, still_wanted, wanted_stores, is_among, named_words, are_named}
use Rattle.xt_handlers.specs.Needs.{marked_stores}
use Rattle.xt_handlers.specs.Handling.{Line, walk}
use Rattle.xt_handlers.specs.declared.stretch.Side.{Side}
use Rattle.xt_handlers.specs.declared.stretch.Side.TheVariants.{Overflow, Underflow}
use Rattle.xt_handlers.specs.declared.stretch.HandlerInsn.{HandlerInsn}
use Rattle.xt_handlers.specs.declared.stretch.HandlerInsn.TheVariants.{L32e, S32e}
use Rattle.xt_handlers.specs.declared.stretch.HandlerVerdict.TheVariants.{Yes}
use Rattle.xt_handlers.proofs.Stores.{nothing_left}
use Rattle.xt_handlers.specs.Running.{with_word, is_access, machine_after_step, MayAccess}
use Rattle.xt_handlers.specs.Machines.{Machine, place, visible, word_at, address, symbol_value, address_of}
use Rattle.xt_handlers.specs.Frames.{HasRoom}
use Rattle.xt_handlers.specs.HandlerInvariants.{Does, Stands, Touches}
use Rattle.xt_handlers.proofs.Words.{access_means, words_apart, with_word-elsewhere, word_at-same, word_at-other, places_apart, place_below}
use Rattle.xt_handlers.proofs.Wanted.{Takes, taken_out}
use Rattle.xt_handlers.proofs.Unspoiled.{stores_wanted, loads_named}

pub record StepMoves (side : Side) (n : ℕ) (start : Machine) (e : Effect) (flags : List Bool) (step : HandlerInsn) (now : Machine) : Type 0 where
  pub after : List Bool
  pub next : Machine
  pub is : machine_after_step step now ≡ Some next
  pub access : MayAccess step now
  pub does : Does side n start flags after now step
  pub stands : Stands side n start (effect_after_step e step) after next
  pub touches : Touches side n start now.bytes next.bytes

two_sides : (side : Side) → side ≡ Overflow → side ≡ Underflow → ⊥
two_sides side o u = let q : Overflow ≡ Underflow = sym o ∙ u in absurd cc

off : (flags : List Bool) (k j : ℕ) → j ≡ k → get_or (set flags k false) j false ≡ false
off flags k j same = ⊎_elim
    (λ l. ap (λ i. get_or (set flags k false) i false) same ∙ get_or-set_same flags k false false l)
    (λ l. get_or_past (set flags k false) j false (omega (arith, length-set flags k false)))
    (cases_lt k (length flags))

flag_before : (flags : List Bool) (k j : ℕ) → get_or (set flags k false) j false ≡ true → get_or flags j false ≡ true
flag_before flags k j h = ⊎_elim
    (λ same. absurd (false≢true (sym (off flags k j same) ∙ h)))
    (λ ne. sym (get_or-set_other flags k j false false ne) ∙ h)
    (cases_eq j k)

value_below : (start : Machine) (v k : ℕ) → ((i : ℕ) → i < 16 → visible start i < 4294967296) → v ≡ visible start k → k < 16 → v < 4294967296
value_below start v k h e l = let b = h k l in omega (arith, e)

module _ (side : Side) (n : ℕ) (start : Machine) (e : Effect) (flags : List Bool) (now : Machine) (lines : List Line)
    (room : HasRoom side n start) (stands : Stands side n start e flags now) where
  visible_after : (t v i : ℕ) → t < 16 → i < 16 → i ≢ t → get_or (set now.ring (place now.base t) v) (place now.base i) 0 ≡ get_or now.ring (place now.base i) 0
  visible_after t v i ht hi ne = get_or-set_other now.ring (place now.base t) (place now.base i) v 0 (places_apart now.base i t hi ht ne)

  visible_at : (t v : ℕ) → t < 16 → get_or (set now.ring (place now.base t) v) (place now.base t) 0 ≡ v
  visible_at t v ht = get_or-set_same now.ring (place now.base t) v 0 (let l : place now.base t < 64 = place_below now.base t in omega (arith, stands.size))

  pub load_moves : (t s back : ℕ) → t < 16 → s < 16 → walk side n (effect_after_step e (L32e t s back)) lines ≡ Yes → StepMoves side n start e flags (L32e t s back) now
  load_moves t s back ht hs handles =
      let w : Word = record { base = register e.regs s; back = back } in
      let a = address (visible now s) back in
      let at : a ≡ address_of start w = ap (λ x. address x back) (stands.shown s hs) in
      let named : is_among w (named_words side n) ≡ true = (and_parts (is_among w (named_words side n)) (are_named side n e.loads) (loads_named side n lines (effect_after_step e (L32e t s back)) handles)).0 in
      let good : is_access a ≡ true = ap is_access at ∙ room.loads w named in
      let v = word_at now.bytes a in
      let value : v ≡ symbol_value start (Load (register e.regs s) back) = ap (word_at now.bytes) at ∙ stands.read w named in
      let next : Machine = record { ring = set now.ring (place now.base t) v; base = now.base; bytes = now.bytes } in
      record {
        after = flags;
        next = next;
        is = cond-true _ _ _ good;
        access = good;
        does = (w, named, at, refl);
        stands = record {
          base = stands.base;
          size = length-set now.ring (place now.base t) v ∙ stands.size;
          symbols = length-set e.regs t (Load (register e.regs s) back) ∙ stands.symbols;
          shown = λ i hi. ⊎_elim
              (λ same. ap (λ j. get_or (set now.ring (place now.base t) v) (place now.base j) 0) same ∙ (visible_at t v ht ∙ (value
              ∙ sym (ap (λ j. symbol_value start (register (set e.regs t (Load (register e.regs s) back)) j)) same
              ∙ ap (symbol_value start) (get_or-set_same e.regs t (Load (register e.regs s) back) (Init 16) (omega (arith, stands.symbols)))))))
              (λ ne. visible_after t v i ht hi ne ∙ (stands.shown i hi ∙ sym (ap (symbol_value start) (get_or-set_other e.regs t i (Load (register e.regs s) back) (Init 16) ne))))
              (cases_eq i t);
          hidden = λ p hp far.
              let ne : p ≢ place now.base t = λ q. far t ht (q ∙ ap (λ b. place b t) stands.base) in
              get_or-set_other now.ring (place now.base t) p v 0 ne ∙ stands.hidden p hp far;
          wanted = stands.wanted;
          few = stands.few;
          read = stands.read;
          saved = stands.saved;
        };
        touches = record { elsewhere = λ x h. refl; never = λ h x. refl };
      }

  pub store_moves : (t s back : ℕ) → side ≡ Overflow → t < 16 → s < 16 → walk side n (effect_after_step e (S32e t s back)) lines ≡ Yes → StepMoves side n start e flags (S32e t s back) now
  store_moves t s back over ht hs handles =
      let w : Word = record { base = register e.regs s; back = back } in
      let st : Store = record { word = w; value = register e.regs t } in
      let a = address (visible now s) back in
      let left = stores_wanted side n lines (effect_after_step e (S32e t s back)) handles in
      let after : without st (marked_stores n 0 flags) ≡ Some left.0 = sym (ap (then_without st) stands.wanted) ∙ left.1 in
      let taken : Takes n 0 st flags left.0 = taken_out n 0 st flags left.0 after in
      let k = taken.k in
      let zero_plus : 0 + k ≡ k = omega arith in
      let is : st ≡ save_of n k = taken.is ∙ ap (save_of n) zero_plus in
      let small : k < 4 * n = stands.few k taken.flag in
      let b = address_of start (save_word Overflow n k) in
      let at : a ≡ b = ap (λ x. address x back) (stands.shown s hs) ∙ ap (λ (x : Store). address_of start x.word) is in
      let good : is_access b ≡ true = room.stores over k small in
      let v = visible now t in
      let value : v ≡ visible start k = stands.shown t ht ∙ ap (λ (x : Store). symbol_value start x.value) is in
      let fits : v < 4294967296 = value_below start v k room.fits value (omega (arith, room.three)) in
      let next : Machine = record { ring = now.ring; base = now.base; bytes = with_word now.bytes a v } in
      let next_is : with_word now.bytes a v ≡ with_word now.bytes b v = ap (λ x. with_word now.bytes x v) at in
      record {
        after = set flags k false;
        next = next;
        is = cond-true _ _ _ (ap is_access at ∙ good);
        access = ap is_access at ∙ good;
        does = (k, over, small, taken.flag, at, value, refl);
        stands = record {
          base = stands.base;
          size = stands.size;
          symbols = stands.symbols;
          shown = stands.shown;
          hidden = stands.hidden;
          wanted = left.1 ∙ ap Some taken.left_is;
          few = λ j h. stands.few j (flag_before flags k j h);
          read = λ x named.
              let far = words_apart b (address_of start x) (access_means b good) (access_means (address_of start x) (room.loads x named)) (λ q. room.unread over x k named small (sym q)) in
              ap (λ m. word_at m (address_of start x)) next_is ∙ (word_at-other now.bytes b v (address_of start x) far ∙ stands.read x named);
          saved = λ o j hj h. ⊎_elim
              (λ same. ap (λ m. word_at m (address_of start (save_word Overflow n j))) next_is
              ∙ (ap (λ i. word_at (with_word now.bytes b v) (address_of start (save_word Overflow n i))) same
              ∙ (word_at-same now.bytes b v fits ∙ (value ∙ ap (visible start) (sym same)))))
              (λ ne.
              let c = address_of start (save_word Overflow n j) in
              let far = words_apart b c (access_means b good) (access_means c (room.stores over j hj)) (room.apart over k j small hj (λ q. ne (sym q))) in
              ap (λ m. word_at m c) next_is ∙ (word_at-other now.bytes b v c far ∙ stands.saved o j hj (sym (get_or-set_other flags k j false false ne) ∙ h)))
              (cases_eq j k);
        };
        touches = record {
          elsewhere = λ x h. ap (λ (m : ℕ → ℕ). m x) next_is ∙ with_word-elsewhere now.bytes b v x (h k small);
          never = λ under x. absurd (two_sides side over under);
        };
      }

  pub no_store : (t s back : ℕ) → side ≡ Underflow → walk side n (effect_after_step e (S32e t s back)) lines ≡ Yes → ⊥
  no_store t s back under handles =
      let st : Store = record { word = record { base = register e.regs s; back = back }; value = register e.regs t } in
      let left = stores_wanted side n lines (effect_after_step e (S32e t s back)) handles in
      let none : wanted_stores side n ≡ [] = ap (λ x. wanted_stores x n) under in
      let is : then_without st (still_wanted e.stores []) ≡ Some left.0 = ap (λ ws. then_without st (still_wanted e.stores ws)) (sym none) ∙ left.1 in
      ⊎_elim
      (λ p. let q : None ≡ Some left.0 = sym (ap (then_without st) p) ∙ is in absurd cc)
      (λ p. let q : None ≡ Some left.0 = sym (ap (then_without st) p) ∙ is in absurd cc)
      (nothing_left e.stores)
