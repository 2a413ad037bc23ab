-- Judged accesses keep the two memories equal outside save areas, and touch nothing that is saved.
use Rattle.xt_exec.specs.TurnLaws.{IsServed}
use Rattle.xt_map.proofs.Small.{past_memory, to_small}
use Rattle.xt_map.proofs.Alike.{inside, untouched, touched_alike, same_bytes, same_reply}
use Rattle.std.proofs.Common.{◌≡◌, ◌⊎◌, ⊎_elim, inl, inr, ℕ, zero, suc, ◌+◌, ◌^◌, ◌<◌, ◌≤◌, Bool, true, false, ◌||◌, ◌&&◌, not, refl, sym, ◌∙◌, ap, arith, Some, None, Option}
use Rattle.std.proofs.lemmas.Bool.{and_right, cases_eq, cases_Bool, or_parts, true≢false, both_ways, false_from_ne_true}
use Rattle.xt_map.specs.declared.access.Access.{Access}
use Rattle.xt_map.specs.declared.access.Kind.{Kind}
use Rattle.xt_map.specs.declared.access.Kind.TheVariants.{Load, Store, Cas}
use Rattle.xt_map.specs.declared.contents.MemoryContents.{MemoryContents}
use Rattle.xt_map.specs.Memory.{HasSizes, byte_at, little_endian}
use Rattle.xt_frames.specs.SaveAreas.{touches}
use Rattle.xt_frames.specs.Breaches.{is_store, is_load, some_byte, touches_save_area, loads_stale, stores_at, stale_after}
use Rattle.xt_map.proofs.Alike.{touched_at}
use Rattle.xt_simulation.specs.Steps.{reply_at, memory_after_step}
use Rattle.xt_simulation.specs.Memories.{Agree, KeepsAreas}
use Rattle.xt_map.specs.Touching.{IsMemory}

-- ---- replies
touched_equal : (live stale : ℕ → Bool) (real framed : MemoryContents) (access : Access) → Agree live stale real framed → KeepsAreas live stale (Some access) → is_store access.kind ≡ false → (a : ℕ) → access.addr ≤ a → a < access.addr + access.size → byte_at real a ≡ byte_at framed a
touched_equal live stale real framed access agree keeps other a lo up =
    let k = keeps a (touched_at access.addr access.size a lo up) in
    agree a k.0 (⊎_elim (λ s. absurd (both_ways _ other s)) (λ s. s) k.1)

pub replies_agree : (live stale : ℕ → Bool) (real framed : MemoryContents) (access : Option Access) → Agree live stale real framed → KeepsAreas live stale access → reply_at real access ≡ reply_at framed access
replies_agree live stale real framed None agree keeps = refl
replies_agree live stale real framed (Some access) agree keeps = same_reply real framed access (λ other. ap little_endian (same_bytes real framed access.size access.addr (touched_equal live stale real framed access agree keeps other)))

-- the byte was not live, and a byte that no store touched was not stale
fresh_byte : (now live stale stores : Bool) → now ≡ false → (not now && (live || (stale && not stores))) ≡ false → (live ≡ false) × (stores ≡ false → stale ≡ false)
fresh_byte true live stale stores n h = absurd (true≢false n)
fresh_byte false true stale stores n h = absurd (true≢false h)
fresh_byte false false true true n h = (refl, λ e. absurd (true≢false e))
fresh_byte false false true false n h = absurd (true≢false h)
fresh_byte false false false stores n h = (refl, λ e. refl)

not_stored : (k : Kind) (addr size a : ℕ) → touches addr size a ≡ false → (is_store k && touches addr size a) ≡ false
not_stored k addr size a h = and_right (is_store k) _ h

pub memories_agree : (live now stale : ℕ → Bool) (real framed : MemoryContents) (access : Option Access) → HasSizes real → HasSizes framed → IsServed access → Agree live stale real framed → KeepsAreas live stale access
    → Agree now (stale_after now live stale access) (memory_after_step real access) (memory_after_step framed access)
memories_agree live now stale real framed None s t served agree keeps a n st =
    let f = fresh_byte (now a) (live a) (stale a) false n st in agree a f.0 (f.1 refl)
memories_agree live now stale real framed (Some access) s t served agree keeps a n st =
    let f = fresh_byte (now a) (live a) (stale a) (stores_at (Some access) a) n st in
    ⊎_elim
    (λ touched.
    let p = inside access.addr access.size a touched in
    touched_alike real framed access a s t served p.0 p.1 (λ other y lo up. touched_equal live stale real framed access agree keeps other y lo up))
    (λ free. untouched real access a free ∙ (agree a f.0 (f.1 (not_stored access.kind access.addr access.size a free)) ∙ sym (untouched framed access a free)))
    (cases_Bool (touches access.addr access.size a))

-- ---- a byte that is live stays
pub live_kept : (live stale : ℕ → Bool) (m : MemoryContents) (access : Option Access) (a : ℕ) → KeepsAreas live stale access → live a ≡ true → byte_at (memory_after_step m access) a ≡ byte_at m a
live_kept live stale m None a keeps h = refl
live_kept live stale m (Some access) a keeps h = untouched m access a (false_from_ne_true (touches access.addr access.size a) (λ t. both_ways _ (keeps a t).0 h))

-- ---- SaveStore and StaleLoad as tests
byte_free : (test : ℕ → Bool) (addr n a : ℕ) → some_byte test addr n ≡ false → addr ≤ a → a < addr + n → test a ≡ false
byte_free test addr zero a h lo up = absurd (omega arith)
byte_free test addr (suc n) a h lo up =
    let p = or_parts (test addr) (some_byte test (addr + 1) n) h in
    ⊎_elim (λ here. rw here p.0) (λ other. byte_free test (addr + 1) n a p.1 (omega arith) (omega arith)) (cases_eq a addr)

kind_free : (live stale : ℕ → Bool) (k : Kind) (addr size : ℕ) → (not (is_load k) && some_byte live addr size) ≡ false → (not (is_store k) && (some_byte stale addr size || (is_load k && some_byte live addr size))) ≡ false
    → (some_byte live addr size ≡ false) × ((is_store k ≡ true) ⊎ (some_byte stale addr size ≡ false))
kind_free live stale Load addr size h g = let p = or_parts (some_byte stale addr size) (some_byte live addr size) g in (p.1, inr p.0)
kind_free live stale (Store v) addr size h g = (h, inl refl)
kind_free live stale (Cas expected new) addr size h g = (h, inr (or_parts (some_byte stale addr size) false g).0)

pub keeps_from : (live stale : ℕ → Bool) (o : Option Access) → touches_save_area live o ≡ false → loads_stale live stale o ≡ false → KeepsAreas live stale o
keeps_from live stale None h g = tt
keeps_from live stale (Some access) h g = λ a t.
    let f = kind_free live stale access.kind access.addr access.size h g in
    let p = inside access.addr access.size a t in
    (byte_free live access.addr access.size a f.0 p.0 p.1, ⊎_elim (λ s. inl s) (λ s. inr (byte_free stale access.addr access.size a s p.0 p.1)) f.1)

pub step_memory : (m : MemoryContents) (o : Option Access) → IsMemory m → IsMemory (memory_after_step m o)
step_memory m None i = i
step_memory m (Some access) i = past_memory m access i

pub reply_small : (m : MemoryContents) (o : Option Access) → IsMemory m → IsServed o → reply_at m o < 2 ^ 32
reply_small m None i s = omega arith
reply_small m (Some access) i s = to_small m access i s
