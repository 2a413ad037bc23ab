-- An access of bytes that are known touches no live byte, and a store of what is known leaves them as they are.
use Rattle.std.proofs.Common.{◌≡◌, ⊎_elim, ℕ, zero, suc, ◌+◌, ◌-◌, ◌*◌, ◌/◌, ◌%◌, ◌^◌, ◌<◌, ◌≤◌, Bool, true, false, not, ◌&&◌, ◌||◌, cond, eqb, Option, Some, None, List, length, leb, ltb, refl, sym, ◌∙◌, ap, arith}
use Rattle.std.specs.Prelude.{IfSome}
use Rattle.std.proofs.lemmas.Bool.{true≢false, cases_Bool, cases_eq, cond-false, eqb-true, and_parts, leb-true, ltb-true}
use Rattle.xt_map.specs.declared.access.Access.{Access}
use Rattle.xt_map.specs.declared.access.Kind.{Kind}
use Rattle.xt_map.specs.declared.access.Kind.TheVariants.{Load, Store, Cas}
use Rattle.xt_map.specs.Regions.{is_mapped, is_memory, is_size, region_of}
use Rattle.xt_map.specs.Touching.{is_store, touches}
use Rattle.xt_map.proofs.Alike.{inside, three_sizes, touched_at}
use Rattle.xt_trace.specs.declared.record.StepRecord.{StepRecord}
use Rattle.xt_frames.specs.Breaches.{is_load, some_byte, touches_save_area}
use Rattle.xt_discipline.specs.declared.bytes.Held.{Held}
use Rattle.xt_discipline.specs.ByteMarks.{either, first, held_at, is_marked, nothing, other_live, own_live}
use Rattle.xt_uses.specs.FirstUse.{stored_byte}
use Rattle.xt_uses.specs.UseBreaches.{is_swap, swaps_unknown}
use Rattle.xt_uses.specs.UseParts.{IsTouched}
use Rattle.xt_uses.specs.UseStep.{reply_mask, unknown_bits}
use Rattle.xt_uses.specs.Words.{all_bits, complement}
use Rattle.xt_use_walk.specs.declared.bytes.ByteMasks.{ByteMasks}
use Rattle.xt_use_walk.specs.declared.side.Bytes.{Bytes}
use Rattle.xt_use_walk.specs.MaskedBytes.{AreKnown, AreMasks, KnowsAccess, KnowsBytes, TellsLive, is_byte, is_live_byte, mask_at, stored_on}
use Rattle.xt_use_walk.proofs.Places.{dram_byte}
use Rattle.xt_use_walk.proofs.Served.{served_bytes, swap_memory, touches_no_byte}

-- ---- none of so many bytes passes a test
neither : (p q : Bool) → (p || q) ≡ false → (p ≡ false) × (q ≡ false)
neither false q e = (refl, e)
neither true q e = absurd (true≢false e)

none_passes : (f : ℕ → Bool) (a n : ℕ) → ((x : ℕ) → a ≤ x → x < a + n → f x ≡ false) → some_byte f a n ≡ false
none_passes f a zero h = refl
none_passes f a (suc n) h =
    ap (λ b. b || some_byte f (a + 1) n) (h a (omega arith) (omega arith))
    ∙ none_passes f (a + 1) n (λ x l u. h x (omega (arith, l)) (omega (arith, u)))

passes_none : (f : ℕ → Bool) (a n : ℕ) → some_byte f a n ≡ false → (x : ℕ) → a ≤ x → x < a + n → f x ≡ false
passes_none f a zero h x l u = absurd (omega (arith, l, u))
passes_none f a (suc n) h x l u =
    let p = neither (f a) (some_byte f (a + 1) n) h in
    ⊎_elim (λ e. ap f e ∙ p.0) (λ e. passes_none f (a + 1) n p.1 x (above x a l e) (omega (arith, u))) (cases_eq x a)
  where
    above : (x a : ℕ) → a ≤ x → ((x ≡ a) → ⊥) → a + 1 ≤ x
    above x a l e = omega (arith, l, e)

not_false : (b : Bool) → not b ≡ false → b ≡ true
not_false true e = refl
not_false false e = absurd (true≢false e)

not_true : (b : Bool) → not b ≡ true → b ≡ false
not_true true e = absurd (true≢false (sym e))
not_true false e = refl

-- the masks of bytes of which each bit is known
pub known_none : (f : ℕ → ℕ) (a n : ℕ) → not (some_byte (λ x. not (eqb (f x) 255)) a n) ≡ true → AreKnown f a n
known_none f a n h x l u = eqb-true (f x) 255 (not_false (eqb (f x) 255) (passes_none (λ y. not (eqb (f y) 255)) a n (not_true _ h) x l u))

differs_none : (f : ℕ → ℕ) (a n : ℕ) → AreKnown f a n → some_byte (λ x. not (eqb (f x) 255)) a n ≡ false
differs_none f a n k = none_passes (λ x. not (eqb (f x) 255)) a n (λ x l u. ap (λ m. not (eqb m 255)) (k x l u))

lacks_none : (f : ℕ → ℕ) (a n : ℕ) → AreKnown f a n → unknown_bits f a n ≡ 0
lacks_none f a zero k = refl
lacks_none f a (suc n) k =
    ap (λ m. (255 - m) + 2 ^ 8 * unknown_bits f (a + 1) n) (k a (omega arith) (omega arith))
    ∙ ap (λ m. 0 + 2 ^ 8 * m) (lacks_none f (a + 1) n (λ x l u. k x (omega (arith, l)) (omega (arith, u))))

-- ---- live bytes are bytes of memory
nothing_own : (core : ℕ) → own_live core nothing ≡ false
nothing_own zero = refl
nothing_own (suc core) = refl

nothing_other : (core : ℕ) → other_live core nothing ≡ false
nothing_other zero = refl
nothing_other (suc core) = refl

marked_byte : (marks : List Held) (a : ℕ) → length marks ≡ 0x52000 → is_marked marks a ≡ true → is_byte a ≡ true
marked_byte marks a full t =
    let p = and_parts (leb first a) (ltb a (first + length marks)) t in
    let l = leb-true first a p.0 in
    let u = ltb-true a (first + length marks) p.1 in
    dram_byte a (omega (arith, l)) (omega (arith, u, full))

unmarked : (core : ℕ) (x : Bytes) (own others : ℕ → Bool) (a : ℕ) → TellsLive core x.marks.items own others → is_marked x.marks.items a ≡ false → (own a || others a) ≡ false
unmarked core x own others a k off =
    let none : held_at x.marks.items a ≡ nothing = cond-false (is_marked x.marks.items a) _ nothing off in
    let o : own a ≡ false = sym (k.own_is a) ∙ (ap (own_live core) none ∙ nothing_own core) in
    let t : others a ≡ false = sym (k.others_is a) ∙ (ap (other_live core) none ∙ nothing_other core) in
    ap (λ b. b || others a) o ∙ t

not_byte : (core : ℕ) (x : Bytes) (own others : ℕ → Bool) (masks : ℕ → ℕ) (a : ℕ) → KnowsBytes core x own others masks → is_byte a ≡ false → (own a || others a) ≡ false
not_byte core x own others masks a k off = ⊎_elim
    (λ t. absurd (true≢false (sym (marked_byte x.marks.items a k.full.marks t) ∙ off)))
    (λ f. unmarked core x own others a k.live f)
    (cases_Bool (is_marked x.marks.items a))

-- nothing is known of a live byte
known_free : (l : Bool) (m : ℕ) → m ≡ 255 → (l ≡ true → m ≡ 0) → l ≡ false
known_free true m e h = absurd (let z = h refl in omega (arith, e, z))
known_free false m e h = refl

-- ---- what an access of known bytes touches
module _ (core : ℕ) (x : Bytes) (own others : ℕ → Bool) (masks : ℕ → ℕ) (k : KnowsBytes core x own others masks) (a : Access) (h : is_mapped a ≡ true) (known : KnowsAccess (mask_at x.masks) (Some a)) where
  masks_known : is_memory (region_of a.addr) ≡ true → AreKnown masks a.addr a.size
  masks_known m b l u = sym (k.masks_are b (served_bytes a h m b l u)) ∙ known m b l u

  free_at : (b : ℕ) → a.addr ≤ b → b < a.addr + a.size → either own others b ≡ false
  free_at b l u = ⊎_elim
      (λ m. known_free (either own others b) (masks b) (masks_known m b l u) (k.unknown b))
      (λ n. ⊎_elim
      (λ byte. absurd (true≢false (sym (touched_at a.addr a.size b l u) ∙ touches_no_byte a b h n byte)))
      (λ off. not_byte core x own others masks b k off)
      (cases_Bool (is_byte b)))
      (cases_Bool (is_memory (region_of a.addr)))

  saves_none : touches_save_area (either own others) (Some a) ≡ false
  saves_none = ap (λ b. not (is_load a.kind) && b) (none_passes (either own others) a.addr a.size free_at) ∙ and_none (not (is_load a.kind))
    where
      and_none : (b : Bool) → (b && false) ≡ false
      and_none true = refl
      and_none false = refl

  swaps_none : (kind : Kind) → a.kind ≡ kind → swaps_unknown masks (Some a) ≡ false
  swaps_none Load e = ap (λ (z : Kind). is_swap (record a { kind = z }) && some_byte (λ b. not (eqb (masks b) 255)) a.addr a.size) e
  swaps_none (Store v) e = ap (λ (z : Kind). is_swap (record a { kind = z }) && some_byte (λ b. not (eqb (masks b) 255)) a.addr a.size) e
  swaps_none (Cas v w) e = ap (λ b. is_swap a && b) (differs_none masks a.addr a.size (masks_known (swap_memory a v w e h))) ∙ and_none (is_swap a)
    where
      and_none : (b : Bool) → (b && false) ≡ false
      and_none true = refl
      and_none false = refl

  reply_all : reply_mask masks (Some a) ≡ all_bits
  reply_all = ⊎_elim
      (λ m. ap (λ z. cond (is_memory (region_of a.addr) && not (is_store a.kind)) (complement z) all_bits) (lacks_none masks a.addr a.size (masks_known m)) ∙ same_both (is_memory (region_of a.addr) && not (is_store a.kind)))
      (λ n. cond-false _ _ _ (ap (λ b. b && not (is_store a.kind)) n))
      (cases_Bool (is_memory (region_of a.addr)))
    where
      same_both : (b : Bool) → cond b (complement 0) all_bits ≡ all_bits
      same_both true = refl
      same_both false = refl

pub touched_known : (core : ℕ) (x : Bytes) (own others : ℕ → Bool) (masks : ℕ → ℕ) (rec : StepRecord) → IfSome rec.access (λ a. is_mapped a ≡ true) → KnowsAccess (mask_at x.masks) rec.access → KnowsBytes core x own others masks
    → IsTouched (record { saves = false; swaps = false; reply = all_bits }) rec (either own others) masks
touched_known core x own others masks rec served known k = by rec.access refl served known
  where
    at : (o : Option Access) → rec.access ≡ o → touches_save_area (either own others) o ≡ false → swaps_unknown masks o ≡ false → reply_mask masks o ≡ all_bits → IsTouched (record { saves = false; swaps = false; reply = all_bits }) rec (either own others) masks
    at o e p q r = record {
      saves = ap (touches_save_area (either own others)) e ∙ p;
      swaps = ap (swaps_unknown masks) e ∙ q;
      reply = ap (reply_mask masks) e ∙ r;
    }

    by : (o : Option Access) → rec.access ≡ o → IfSome o (λ a. is_mapped a ≡ true) → KnowsAccess (mask_at x.masks) o → IsTouched (record { saves = false; swaps = false; reply = all_bits }) rec (either own others) masks
    by None e s n = at None e refl refl refl
    by (Some a) e s n = at (Some a) e (saves_none core x own others masks k a s n) (swaps_none core x own others masks k a s n a.kind refl) (reply_all core x own others masks k a s n)

-- there are such bytes, whatever the access: all known, and none live
pub touched_some : (rec : StepRecord) → IsTouched (record { saves = false; swaps = false; reply = all_bits }) rec (λ a. false) (λ a. 255)
touched_some rec = by rec.access refl
  where
    none : (b : Bool) (a n : ℕ) → (b && some_byte (λ x. false) a n) ≡ false
    none true a n = none_passes (λ x. false) a n (λ x l u. refl)
    none false a n = refl

    whole : (b : Bool) (a n : ℕ) → (b && some_byte (λ x. not (eqb 255 255)) a n) ≡ false
    whole true a n = differs_none (λ x. 255) a n (λ x l u. refl)
    whole false a n = refl

    reply : (b : Bool) (a n : ℕ) → cond b (complement (unknown_bits (λ x. 255) a n)) all_bits ≡ all_bits
    reply true a n = ap complement (lacks_none (λ x. 255) a n (λ x l u. refl))
    reply false a n = refl

    by : (o : Option Access) → rec.access ≡ o → IsTouched (record { saves = false; swaps = false; reply = all_bits }) rec (λ a. false) (λ a. 255)
    by None e = record { saves = ap (touches_save_area (λ a. false)) e; swaps = ap (swaps_unknown (λ a. 255)) e; reply = ap (reply_mask (λ a. 255)) e }
    by (Some a) e = record {
      saves = ap (touches_save_area (λ x. false)) e ∙ none (not (is_load a.kind)) a.addr a.size;
      swaps = ap (swaps_unknown (λ x. 255)) e ∙ whole (is_swap a) a.addr a.size;
      reply = ap (reply_mask (λ x. 255)) e ∙ reply (is_memory (region_of a.addr) && not (is_store a.kind)) a.addr a.size;
    }

-- ---- a store of a value that is known
pub few_bytes : (n : ℕ) → is_size n ≡ true → n ≤ 4
few_bytes n h = ⊎_elim (λ e. omega (arith, e)) (λ r. ⊎_elim (λ e. omega (arith, e)) (λ e. omega (arith, e)) r) (three_sizes n h)

all_byte : (k : ℕ) → k < 4 → all_bits / 2 ^ (8 * k) % 2 ^ 8 ≡ 255
all_byte zero h = refl
all_byte (suc zero) h = refl
all_byte (suc (suc zero)) h = refl
all_byte (suc (suc (suc zero))) h = refl
all_byte (suc (suc (suc (suc k)))) h = absurd (omega arith)

pub known_stored : (m : ByteMasks) (marks : List Held) (stored addr size : ℕ) → stored ≡ all_bits → size ≤ 4 → AreKnown (mask_at m) addr size → AreMasks m (stored_on marks stored addr size (mask_at m))
known_stored m marks stored addr size all few known a h = pick (is_live_byte marks a) (touches addr size a) refl
  where
    pick : (l t : Bool) → touches addr size a ≡ t → mask_at m a ≡ cond l (mask_at m a) (cond t (stored_byte stored addr a) (mask_at m a))
    pick true t e = refl
    pick false false e = refl
    pick false true e =
        let i = inside addr size a e in
        let low = i.0 in
        let up = i.1 in
        known a low up ∙ sym (ap (λ n. stored_byte n addr a) all ∙ all_byte (a - addr) (omega (arith, low, up, few)))
