-- Tests in a row, and what is shown of them.
use Rattle.std.proofs.Common.{◌≡◌, ℕ, zero, suc, ◌+◌, Bool, true, false, ◌||◌, ltb, Option, Some, None, List, [], ◌∷◌, ◌⊎◌, ⊎_elim, refl, sym, ◌∙◌, arith}
use Rattle.std.proofs.lemmas.Bool.{and_right, or_from, or_left, or_right, lt-ltb, cond-true, true≢false}
use Rattle.xt_isa.specs.declared.Insn.{Insn}
use Rattle.xt_isa.specs.Ranges.{in_range}
use Rattle.xt_map.specs.declared.access.Access.{Access}
use Rattle.xt_special.specs.Control.{Control}
use Rattle.xt_special.specs.Interrupts.{pending_of}
use Rattle.xt_trace.specs.declared.record.StepRecord.{StepRecord}
use Rattle.xt_map.specs.Fetching.{Fetched, Fetches, fetch_at}
use Rattle.xt_codec.specs.declared.fetch.Fetch.{Fetch}
use Rattle.xt_codec.specs.declared.fetch.Fetch.TheVariants as fetch
use Rattle.xt_codec.specs.Fetches.{IsFetched}
use Rattle.xt_frames.specs.declared.view.NextEvent.{NextEvent}
use Rattle.xt_frames.specs.declared.view.NextEvent.TheVariants as plan
use Rattle.xt_frames.specs.declared.kinds.BreachKind.{BreachKind}
use Rattle.xt_frames.specs.declared.breach.Tested.{Tested}
use Rattle.xt_frames.specs.Frames.{FrameState}
use Rattle.xt_frames.specs.Breaches.{Bounds, test, some_byte, touches_save_area, loads_stale, laid_breach, first_shown, vector_test}
use Rattle.xt_frames.specs.KeptFrameState.{IsPlan, shown_test}

pub row : {A : Type 0} {x y : A} {xs ys : List A} → x ≡ y → xs ≡ ys → (x ∷ xs) ≡ (y ∷ ys)
row p q = cc

pub last : {A : Type 0} {x y : A} → x ≡ y → (x ∷ []) ≡ (y ∷ [])
last p = cc

pub one : (t : Tested) (kind : BreachKind) (b shown : Bool) → t ≡ record { kind = kind; shown = b } → b ≡ shown → shown_test t ≡ test kind shown
one t kind b shown p q = cc

-- ---- where no byte is live or stale
pub no_byte : (addr n : ℕ) → some_byte (λ a. false) addr n ≡ false
no_byte addr zero = refl
no_byte addr (suc n) = no_byte (addr + 1) n

pub saves_nowhere : (access : Option Access) → touches_save_area (λ a. false) access ≡ false
saves_nowhere None = refl
saves_nowhere (Some a) = and_right _ _ (no_byte a.addr a.size)

pub loads_nowhere : (access : Option Access) → loads_stale (λ a. false) (λ a. false) access ≡ false
loads_nowhere None = refl
loads_nowhere (Some a) = and_right _ _ (or_from _ _ (no_byte a.addr a.size) (and_right _ _ (no_byte a.addr a.size)))

-- ---- an interrupt or a turn of waiting
pub alone : (b : Bounds) (fresh : Bool) (code : ℕ → ℕ) (live stale : ℕ → Bool) (rec : StepRecord) (f : FrameState) → (ltb 0 (pending_of f.control) || f.control.waits) ≡ true
    → laid_breach b fresh code live stale rec f ≡ first_shown (vector_test b f ∷ [])
unfolding laid_breach
alone b fresh code live stale rec f h = cond-true _ _ _ h

pub quiet : (p : NextEvent) (code : ℕ → ℕ) (c : Control) → (((x : ℕ) × (p ≡ plan.Interrupt x)) ⊎ (p ≡ plan.Waits)) → IsPlan p code c → (ltb 0 (pending_of c) || c.waits) ≡ true
quiet (plan.Interrupt level) code c h k = let e = k.0 in let l = k.1 in or_left _ _ (lt-ltb 0 (pending_of c) (omega (arith, e, l)))
quiet plan.Waits code c h k = or_right _ _ k.1
quiet (plan.Fetched f) code c h k = absurd (⊎_elim (λ e. let x = e.1 in cc) (λ e. cc) h)

-- ---- the instruction that is fetched
fetch_ranges : (x : Fetch) (f : Fetched) → IsFetched x f → (i : Insn) (len : ℕ) → f ≡ Fetches i len → in_range i ≡ true
fetch_ranges (fetch.Insn j n) f h i len e = let is = h.0 in let same : j ≡ i = cc in rw same at h.1
fetch_ranges (fetch.Fails a) f h i len e = absurd cc
fetch_ranges fetch.Nothing f h i len e = absurd cc

pub plan_ranges : (p : NextEvent) (code : ℕ → ℕ) (c : Control) → IsPlan p code c → (i : Insn) (len : ℕ) → ltb 0 (pending_of c) ≡ false → c.waits ≡ false → fetch_at code c.pc ≡ Fetches i len → in_range i ≡ true
plan_ranges (plan.Interrupt level) code c k i len q w e = let is = k.0 in let low = k.1 in absurd (true≢false (sym (lt-ltb 0 (pending_of c) (omega (arith, is, low))) ∙ q))
plan_ranges plan.Waits code c k i len q w e = absurd (true≢false (sym k.1 ∙ w))
plan_ranges (plan.Fetched f) code c k i len q w e = fetch_ranges f (fetch_at code c.pc) k.2 i len e
