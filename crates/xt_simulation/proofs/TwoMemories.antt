-- Real memory, and memory of which the judged accesses alone have written: bytes of which a bit is known are equal.
use Rattle.std.proofs.Common.{◌≡◌, ℕ, zero, suc, ◌+◌, ◌<◌, ◌≤◌, ◌≢◌, ◌⊎◌, inl, inr, true, false, ◌||◌, ◌&&◌, not, eqb, Option, Some, None, sym, ap, ◌∙◌, refl, arith, ⊎_elim, subst}
use Rattle.std.proofs.lemmas.Bool.{and_parts, both_ways, cases_Bool, cases_eq, cases_lt, eqb-true, false≢true, not-false, or_parts}
use Rattle.xt_map.specs.declared.access.Access.{Access}
use Rattle.xt_map.specs.declared.access.Kind.{Kind}
use Rattle.xt_map.specs.declared.access.Kind.TheVariants.{Load, Store, Cas}
use Rattle.xt_map.specs.declared.contents.MemoryContents.{MemoryContents}
use Rattle.xt_map.specs.Memory.{HasSizes, byte_at}
use Rattle.xt_map.specs.Serving.{memory_past}
use Rattle.xt_map.specs.Touching.{is_load, is_store, touches}
use Rattle.xt_map.proofs.Alike.{inside, touched_alike, untouched}
use Rattle.xt_trace.specs.declared.record.StepRecord.{StepRecord}
use Rattle.xt_exec.specs.TurnLaws.{IsServed}
use Rattle.xt_frames.specs.Breaches.{some_byte, stores_at}
use Rattle.xt_frames.specs.FirstBreach.{Course, IsJudgedTurn, LeavesByte}
use Rattle.xt_simulation.specs.Steps.{memory_after_step}
use Rattle.xt_uses.specs.FirstUse.{History, HasLeft, IsLive, IsMask, IsStored, Opens, StoresByte, live_at}
use Rattle.xt_uses.specs.UseBreaches.{is_swap, swaps_unknown}
use Rattle.xt_simulation.proofs.Bytes.{KnownEqual}
use Rattle.xt_simulation.proofs.Spared.{load_leaves}

-- ---- one access that both memories take
swap_byte : (kb : ℕ → ℕ) (addr n a : ℕ) → some_byte (λ b. not (eqb (kb b) 255)) addr n ≡ false → addr ≤ a → a < addr + n → kb a ≡ 255
swap_byte kb addr zero a h lo up = absurd (omega arith)
swap_byte kb addr (suc n) a h lo up =
    let p = or_parts (not (eqb (kb addr) 255)) (some_byte (λ b. not (eqb (kb b) 255)) (addr + 1) n) h in
    ⊎_elim
    (λ here. ap kb here ∙ eqb-true (kb addr) 255 (not-false _ p.0))
    (λ other. swap_byte kb (addr + 1) n a p.1 (omega arith) (omega arith))
    (cases_eq a addr)

load_stays : (m : MemoryContents) (access : Access) → access.kind ≡ Load → (a : ℕ) → byte_at (memory_past m access) a ≡ byte_at m a
load_stays m access e a =
    ap (λ (k : Kind). byte_at (memory_past m (record { addr = access.addr; size = access.size; kind = k })) a) e
    ∙ ap (λ (z : MemoryContents). byte_at z a) (load_leaves m access.addr access.size)

-- a byte that was equal or that the access stores is equal after it
pub alike_step : (kb : ℕ → ℕ) (real framed : MemoryContents) (o : Option Access) → HasSizes real → HasSizes framed → IsServed o → swaps_unknown kb o ≡ false → KnownEqual kb real framed → (a : ℕ)
    → (byte_at real a ≡ byte_at framed a) ⊎ (stores_at o a ≡ true) → byte_at (memory_after_step real o) a ≡ byte_at (memory_after_step framed o) a
alike_step kb real framed None s t served swaps known a h = ⊎_elim (λ e. e) (λ no. absurd (false≢true no)) h
alike_step kb real framed (Some access) s t served swaps known a h = by_kind access.kind refl
  where
    -- no load: the bytes that it touches are alike after it
    changes : (is_store access.kind ≡ false → (y : ℕ) → access.addr ≤ y → y < access.addr + access.size → byte_at real y ≡ byte_at framed y) → byte_at (memory_past real access) a ≡ byte_at (memory_past framed access) a
    changes equal = ⊎_elim
        (λ touched.
        let p = inside access.addr access.size a touched in
        touched_alike real framed access a s t served p.0 p.1 equal)
        (λ free.
        untouched real access a free
        ∙ (⊎_elim (λ e. e) (λ stores. absurd (both_ways _ free (and_parts (is_store access.kind) (touches access.addr access.size a) stores).1)) h
        ∙ sym (untouched framed access a free)))
        (cases_Bool (touches access.addr access.size a))

    by_kind : (k : Kind) → access.kind ≡ k → byte_at (memory_past real access) a ≡ byte_at (memory_past framed access) a
    by_kind Load e =
        let none : is_store access.kind ≡ false = ap is_store e in
        load_stays real access e a
        ∙ (⊎_elim (λ same. same) (λ stores. absurd (both_ways _ none (and_parts (is_store access.kind) (touches access.addr access.size a) stores).0)) h
        ∙ sym (load_stays framed access e a))
    by_kind (Store v) e = changes (λ other. absurd (both_ways _ other (ap is_store e)))
    by_kind (Cas expected new) e =
        let swap : is_swap access ≡ true = ap (λ (k : Kind). not (is_load k || is_store k)) e in
        let whole : some_byte (λ b. not (eqb (kb b) 255)) access.addr access.size ≡ false = subst (λ z. (z && some_byte (λ b. not (eqb (kb b) 255)) access.addr access.size) ≡ false) swap swaps in
        changes (λ other y lo up. known y (λ none. let full = swap_byte kb access.addr access.size y whole lo up in omega arith))

-- ---- the masks of bytes
-- a byte of which a bit is known after a turn: it was known before, and no judged store of that turn touches it; or one has stored it
pub data MaskBack (r : Course) (h : History) (p a mask : ℕ) : Type 0 where
  Stood : IsMask r h p a mask → LeavesByte r p a → MaskBack r h p a mask
  StoredNow : StoresByte r h p a mask → MaskBack r h p a mask

pub record Survives (r : Course) (h : History) (p a mask : ℕ) : Type 0 where
  pub back : MaskBack r h p a mask
  -- the byte is live neither before nor after the turn
  pub before : live_at r h p a ≡ false
  pub after : live_at r h (suc p) a ≡ false

pub mask_back : (r : Course) (h : History) (p a mask : ℕ) → IsMask r h (suc p) a mask → mask ≢ 0 → Survives r h p a mask
mask_back r h p a mask (IsLive live none) some = absurd (some none)
mask_back r h p a mask (HasLeft once earlier live free unstored none) some = absurd (some none)
mask_back r h p a mask (IsStored once earlier stores free held unstored) some = record {
  back = ⊎_elim
      (λ less. Stood (IsStored once less stores (λ i lo up. free i lo (omega arith)) (λ i lo up. held i lo (omega arith)) (λ i lo up. unstored i lo (omega arith))) (unstored p (omega arith) (omega arith)))
      (λ here. let same : once ≡ p = omega arith in StoredNow (subst (λ i. StoresByte r h i a mask) same stores))
      (cases_lt once p);
  before = free p (omega arith) (omega arith);
  after = free (suc p) (omega arith) (omega arith);
}
mask_back r h p a mask (Opens free held unstored whole) some = record {
  back = Stood (Opens (λ i lo up. free i lo (omega arith)) (λ i lo up. held i lo (omega arith)) (λ i lo up. unstored i lo (omega arith)) whole) (unstored p (omega arith) (omega arith));
  before = free p (omega arith) (omega arith);
  after = free (suc p) (omega arith) (omega arith);
}

-- ---- the invariant
abbrev pub MemoriesAlike : Course → History → ℕ → MemoryContents → MemoryContents → Type 0
MemoriesAlike r h p real framed = (a mask : ℕ) → IsMask r h p a mask → mask ≢ 0 → byte_at real a ≡ byte_at framed a

pub open_alike : (r : Course) (h : History) (m : MemoryContents) → MemoriesAlike r h 0 m m
open_alike r h m a mask is some = refl

pub known_equal : (r : Course) (h : History) (p : ℕ) (real framed : MemoryContents) → ((a : ℕ) → IsMask r h p a (h.mask p a)) → MemoriesAlike r h p real framed → KnownEqual (h.mask p) real framed
known_equal r h p real framed masks alike a some = alike a (h.mask p a) (masks a) some

-- a judged turn: both memories take the record's access
pub judged_alike : (r : Course) (h : History) (p core : ℕ) (rec : StepRecord) (real framed : MemoryContents) → IsJudgedTurn r p core rec
    → ((c : ℕ) (other : StepRecord) → IsJudgedTurn r p c other → other ≡ rec)
    → HasSizes real → HasSizes framed → IsServed rec.access → swaps_unknown (h.mask p) rec.access ≡ false → ((a : ℕ) → IsMask r h p a (h.mask p a))
    → MemoriesAlike r h p real framed → MemoriesAlike r h (suc p) (memory_after_step real rec.access) (memory_after_step framed rec.access)
judged_alike r h p core rec real framed turn one s t served swaps masks alike a mask is some =
    let v = mask_back r h p a mask is some in
    alike_step (h.mask p) real framed rec.access s t served swaps (known_equal r h p real framed masks alike) a (from_back v.back)
  where
    stores : (o : Option Access) (access : Access) → o ≡ Some access → is_store access.kind ≡ true → touches access.addr access.size a ≡ true → stores_at o a ≡ true
    stores None access e x y = absurd cc
    stores (Some z) access e x y =
        let same : access ≡ z = cc in
        let both : (is_store access.kind && touches access.addr access.size a) ≡ true = ap (λ b. b && touches access.addr access.size a) x ∙ y in
        subst (λ (w : Access). (is_store w.kind && touches w.addr w.size a) ≡ true) same both

    from_back : MaskBack r h p a mask → (byte_at real a ≡ byte_at framed a) ⊎ (stores_at rec.access a ≡ true)
    from_back (Stood before leaves) = inl (alike a mask before some)
    from_back (StoredNow q) = inr (stores rec.access q.access (sym (ap (λ (z : StepRecord). z.access) (one q.core q.rec q.turn)) ∙ q.made) q.store q.touched)

-- a turn that is not judged: what it changes is live
pub idle_alike : (r : Course) (h : History) (p : ℕ) (real next framed : MemoryContents) → ((core : ℕ) (rec : StepRecord) → IsJudgedTurn r p core rec → ⊥)
    → ((a : ℕ) → live_at r h p a ≡ false → byte_at next a ≡ byte_at real a)
    → MemoriesAlike r h p real framed → MemoriesAlike r h (suc p) next framed
idle_alike r h p real next framed idle same alike a mask is some =
    let v = mask_back r h p a mask is some in
    same a v.before ∙ from_back v.back
  where
    from_back : MaskBack r h p a mask → byte_at real a ≡ byte_at framed a
    from_back (Stood before leaves) = alike a mask before some
    from_back (StoredNow q) = absurd (idle q.core q.rec q.turn)
