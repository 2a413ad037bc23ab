-- What one load or store does to the flat state and to the effect.
use Rattle.std.proofs.Common.{◌≡◌, ◌≢◌, ℕ, ◌+◌, ◌<◌, inl, inr, Bool, true, false, ◌&&◌, sym, ◌∙◌, ap, arith, List, length, drop, get_or, set, Some, ⊎_elim, subst}
use Rattle.std.proofs.lemmas.Bool.{false≢true, and_from, and_left, cases_lt, MatchBool-at_false, MatchBool-at_true}
use Rattle.std.specs.Bool.{MatchBool}
use Rattle.std.proofs.lemmas.List.{get_or-map, map-set, length-set, length-map, drop_more, get_or_past}
use Rattle.xt_handlers.specs.Symbols.{Init, Load, Store, Effect, register, effect_after_step, same_store}
use Rattle.xt_handlers.specs.Needs.{save_of, then_without, without, still_wanted, wanted_stores, is_among, named_words, are_named, is_done, are_right, is_right, has_effect, marked_stores, IsSpoiled}
use Rattle.xt_handlers.specs.Flat.{symbol_of, symbols_of, word_at, Follows, Tracks}
use Rattle.xt_handlers.proofs.Stores.{save_apart, without_marked, without_none, never, spoiled_end}
use Rattle.xt_handlers.specs.declared.stretch.Side.{Side}
use Rattle.xt_handlers.specs.declared.stretch.Side.TheVariants.{Overflow, Underflow}
use Rattle.xt_handlers.specs.declared.Mark.{Mark}
use Rattle.xt_handlers.specs.declared.Mark.TheVariants.{Initial}
use Rattle.xt_handlers.specs.declared.Evaluation.{Evaluation}
use Rattle.xt_handlers.specs.declared.stretch.HandlerInsn.TheVariants.{L32e, S32e}

-- ---- the two kinds of state
pub tracks_from : (side : Side) (n : ℕ) (v : Evaluation) (e : Effect) → v.spoiled ≡ false → Follows side n v e → Tracks side n v e
tracks_from side n v e h f = subst (λ (b : Bool). MatchBool b (IsSpoiled side n e) (Follows side n v e)) (sym h) f

pub follows_from : (side : Side) (n : ℕ) (v : Evaluation) (e : Effect) → v.spoiled ≡ false → Tracks side n v e → Follows side n v e
follows_from side n v e h t = MatchBool-at_false (IsSpoiled side n e) (Follows side n v e) h t

-- ---- one load
register_of : (side : Side) (n i : ℕ) (marks : List Mark) (b : Mark) → i < length marks → b ≡ get_or marks i (Initial 0) → register (symbols_of side n marks) i ≡ symbol_of side n b
register_of side n i marks b h e = get_or-map (symbol_of side n) marks i (Initial 0) (Init 16) h ∙ ap (symbol_of side n) (sym e)

pub load_named : (side : Side) (n t s back : ℕ) (v : Evaluation) (e : Effect) (b m : Mark) → s < 16 → Follows side n v e → b ≡ get_or v.marks s (Initial 0) →
    is_among (word_at side n b back) (named_words side n) ≡ true → symbol_of side n m ≡ Load (symbol_of side n b) back →
    Follows side n (record { marks = set v.marks t m; wanted = v.wanted; spoiled = v.spoiled }) (effect_after_step e (L32e t s back))
load_named side n t s back v e b m hs f eb named is =
    let lt : s < length v.marks = omega (arith, f.marks) in
    let at : register e.regs s ≡ symbol_of side n b = ap (λ r. register r s) f.regs ∙ register_of side n s v.marks b lt eb in
    record {
      marks = length-set v.marks t m ∙ f.marks;
      flags = f.flags;
      regs = ap (λ r. set r t (Load (register e.regs s) back)) f.regs
          ∙ (ap (λ x. set (symbols_of side n v.marks) t (Load x back)) at
          ∙ (ap (λ y. set (symbols_of side n v.marks) t y) (sym is) ∙ sym (map-set (symbol_of side n) v.marks t m)));
      stores = f.stores;
      loads = and_from (is_among (record { base = register e.regs s; back = back }) (named_words side n)) (are_named side n e.loads) (ap (λ x. is_among (record { base = x; back = back }) (named_words side n)) at ∙ named) f.loads;
    }

pub load_unnamed : (side : Side) (n t s back : ℕ) (v : Evaluation) (e : Effect) (b : Mark) → s < 16 → Follows side n v e → b ≡ get_or v.marks s (Initial 0) →
    is_among (word_at side n b back) (named_words side n) ≡ false → IsSpoiled side n (effect_after_step e (L32e t s back))
load_unnamed side n t s back v e b hs f eb named =
    let lt : s < length v.marks = omega (arith, f.marks) in
    let at : register e.regs s ≡ symbol_of side n b = ap (λ r. register r s) f.regs ∙ register_of side n s v.marks b lt eb in
    inr (and_left (is_among (record { base = register e.regs s; back = back }) (named_words side n)) (are_named side n e.loads) (ap (λ x. is_among (record { base = x; back = back }) (named_words side n)) at ∙ named))

-- ---- one store
pub store_after_spoiled : (side : Side) (n t s back : ℕ) (e : Effect) → IsSpoiled side n e → IsSpoiled side n (effect_after_step e (S32e t s back))
store_after_spoiled side n t s back e (inl h) = inl (ap (then_without (record { word = record { base = register e.regs s; back = back }; value = register e.regs t })) h)
store_after_spoiled side n t s back e (inr h) = inr h

-- the store that is made, in flat symbols
pub made : (side : Side) (n t s back : ℕ) (v : Evaluation) (e : Effect) (b value : Mark) → s < 16 → t < 16 → Follows side n v e → b ≡ get_or v.marks s (Initial 0) → value ≡ get_or v.marks t (Initial 0) →
    ◌≡◌ {A = Store} (record { word = record { base = register e.regs s; back = back }; value = register e.regs t }) (record { word = word_at side n b back; value = symbol_of side n value })
made side n t s back v e b value hs ht f eb ev =
    let ls : s < length v.marks = omega (arith, f.marks) in
    let lt : t < length v.marks = omega (arith, f.marks) in
    let at : register e.regs s ≡ symbol_of side n b = ap (λ r. register r s) f.regs ∙ register_of side n s v.marks b ls eb in
    let av : register e.regs t ≡ symbol_of side n value = ap (λ r. register r t) f.regs ∙ register_of side n t v.marks value lt ev in
    cc

pub store_wanted : (n t s back i : ℕ) (v : Evaluation) (e : Effect) (b value : Mark) → s < 16 → t < 16 → Follows Overflow n v e → b ≡ get_or v.marks s (Initial 0) → value ≡ get_or v.marks t (Initial 0) →
    ◌≡◌ {A = Store} (record { word = word_at Overflow n b back; value = symbol_of Overflow n value }) (save_of n i) → get_or v.wanted i false ≡ true →
    Follows Overflow n (record { marks = v.marks; wanted = set v.wanted i false; spoiled = v.spoiled }) (effect_after_step e (S32e t s back))
store_wanted n t s back i v e b value hs ht f eb ev is h =
    let m = made Overflow n t s back v e b value hs ht f eb ev ∙ is in
    let zero_plus : i ≡ 0 + i = omega arith in
    record {
      marks = f.marks;
      flags = length-set v.wanted i false ∙ f.flags;
      regs = f.regs;
      stores = ap (λ st. then_without st (still_wanted e.stores (wanted_stores Overflow n))) m
          ∙ (ap (then_without (save_of n i)) f.stores
          ∙ (ap (λ j. without (save_of n j) (marked_stores n 0 v.wanted)) zero_plus ∙ without_marked n 0 i v.wanted h));
      loads = f.loads;
    }

pub store_unwanted : (n t s back : ℕ) (v : Evaluation) (e : Effect) (b value : Mark) → s < 16 → t < 16 → Follows Overflow n v e → b ≡ get_or v.marks s (Initial 0) → value ≡ get_or v.marks t (Initial 0) →
    ((k : ℕ) → get_or v.wanted k false ≡ true → same_store (record { word = word_at Overflow n b back; value = symbol_of Overflow n value }) (save_of n k) ≡ false) →
    IsSpoiled Overflow n (effect_after_step e (S32e t s back))
store_unwanted n t s back v e b value hs ht f eb ev h =
    let m = made Overflow n t s back v e b value hs ht f eb ev in
    let st : Store = record { word = word_at Overflow n b back; value = symbol_of Overflow n value } in
    inl (ap (λ x. then_without x (still_wanted e.stores (wanted_stores Overflow n))) m
    ∙ (ap (then_without st) f.stores
    ∙ without_none n 0 st v.wanted (λ k p. let e : 0 + k ≡ k = omega arith in ap (λ j. same_store st (save_of n j)) e ∙ h k p)))

pub store_never : (n t s back : ℕ) (v : Evaluation) (e : Effect) → Follows Underflow n v e → IsSpoiled Underflow n (effect_after_step e (S32e t s back))
store_never n t s back v e f = inl (never e.stores (record { word = record { base = register e.regs s; back = back }; value = register e.regs t }))

-- ---- one store, as the code's branches have it
abbrev made_store : ℕ → Mark → ℕ → Mark → Store
made_store n b back value = record { word = word_at Overflow n b back; value = symbol_of Overflow n value }

pub by_wanted : (side : Side) (n t s back i : ℕ) (v : Evaluation) (e : Effect) (b value : Mark) → side ≡ Overflow → v.spoiled ≡ false → Tracks side n v e → s < 16 → t < 16 → b ≡ get_or v.marks s (Initial 0) → value ≡ get_or v.marks t (Initial 0) →
    made_store n b back value ≡ save_of n i → get_or v.wanted i false ≡ true →
    Tracks side n (record { marks = v.marks; wanted = set v.wanted i false; spoiled = v.spoiled }) (effect_after_step e (S32e t s back))
by_wanted Underflow n t s back i v e b value side good tr hs ht eb ev is h = absurd cc
by_wanted Overflow n t s back i v e b value side good tr hs ht eb ev is h =
    tracks_from Overflow n _ _ good (store_wanted n t s back i v e b value hs ht (follows_from Overflow n v e good tr) eb ev is h)

pub by_unwanted : (side : Side) (n t s back i : ℕ) (v : Evaluation) (e : Effect) (b value : Mark) → side ≡ Overflow → v.spoiled ≡ false → Tracks side n v e → s < 16 → t < 16 → b ≡ get_or v.marks s (Initial 0) → value ≡ get_or v.marks t (Initial 0) →
    made_store n b back value ≡ save_of n i → get_or v.wanted i false ≡ false → IsSpoiled side n (effect_after_step e (S32e t s back))
by_unwanted Underflow n t s back i v e b value side good tr hs ht eb ev is h = absurd cc
by_unwanted Overflow n t s back i v e b value side good tr hs ht eb ev is h =
    store_unwanted n t s back v e b value hs ht (follows_from Overflow n v e good tr) eb ev
    (λ k p. let ne : i ≢ k = λ q. false≢true (sym h ∙ (ap (λ j. get_or v.wanted j false) q ∙ p)) in ap (λ x. same_store x (save_of n k)) is ∙ save_apart n i k ne)

pub by_none : (side : Side) (n t s back : ℕ) (v : Evaluation) (e : Effect) (b value : Mark) → side ≡ Overflow → v.spoiled ≡ false → Tracks side n v e → s < 16 → t < 16 → b ≡ get_or v.marks s (Initial 0) → value ≡ get_or v.marks t (Initial 0) →
    ((i : ℕ) → i < 12 → same_store (made_store n b back value) (save_of n i) ≡ false) → IsSpoiled side n (effect_after_step e (S32e t s back))
by_none Underflow n t s back v e b value side good tr hs ht eb ev h = absurd cc
by_none Overflow n t s back v e b value side good tr hs ht eb ev h =
    let f = follows_from Overflow n v e good tr in
    store_unwanted n t s back v e b value hs ht f eb ev
    (λ k p. ⊎_elim (λ l. h k l) (λ l. absurd (false≢true (sym (get_or_past v.wanted k false (omega (arith, f.flags))) ∙ p))) (cases_lt k 12))

pub by_underflow : (side : Side) (n t s back : ℕ) (v : Evaluation) (e : Effect) → side ≡ Underflow → v.spoiled ≡ false → Tracks side n v e → IsSpoiled side n (effect_after_step e (S32e t s back))
by_underflow Overflow n t s back v e side good tr = absurd cc
by_underflow Underflow n t s back v e side good tr = store_never n t s back v e (follows_from Underflow n v e good tr)

-- ---- one more register in the walk over them
pub right_more : (side : Side) (n i : ℕ) (marks : List Mark) → i < length marks →
    are_right side n i (drop i (symbols_of side n marks)) ≡ (is_right side n i (symbol_of side n (get_or marks i (Initial 0))) && are_right side n (i + 1) (drop (i + 1) (symbols_of side n marks)))
right_more side n i marks h =
    let l : i < length (symbols_of side n marks) = omega (arith, length-map marks (symbol_of side n)) in
    ap (are_right side n i) (drop_more (symbols_of side n marks) i (Init 16) l)
    ∙ ap (λ x. is_right side n i x && are_right side n (i + 1) (drop (i + 1) (symbols_of side n marks))) (get_or-map (symbol_of side n) marks i (Initial 0) (Init 16) h)

pub good_end : (side : Side) (n : ℕ) (v : Evaluation) (e : Effect) → Follows side n v e → has_effect side n e ≡ (is_done (Some (marked_stores n 0 v.wanted)) && are_right side n 0 (symbols_of side n v.marks))
unfolding has_effect
good_end side n v e f =
    ap (λ x. is_done x && (are_named side n e.loads && are_right side n 0 e.regs)) f.stores
    ∙ (ap (λ x. is_done (Some (marked_stores n 0 v.wanted)) && (x && are_right side n 0 e.regs)) f.loads
    ∙ ap (λ x. is_done (Some (marked_stores n 0 v.wanted)) && are_right side n 0 x) f.regs)

pub tracked_spoiled : (side : Side) (n : ℕ) (v : Evaluation) (e : Effect) → v.spoiled ≡ true → Tracks side n v e → has_effect side n e ≡ false
tracked_spoiled side n v e h t = spoiled_end side n e (MatchBool-at_true (IsSpoiled side n e) (Follows side n v e) h t)

pub tracked_good : (side : Side) (n : ℕ) (v : Evaluation) (e : Effect) → v.spoiled ≡ false → Tracks side n v e → has_effect side n e ≡ (is_done (Some (marked_stores n 0 v.wanted)) && are_right side n 0 (symbols_of side n v.marks))
tracked_good side n v e h t = good_end side n v e (follows_from side n v e h t)
