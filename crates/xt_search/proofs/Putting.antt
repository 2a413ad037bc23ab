-- Changed bytes in rising order of their addresses, with one byte more.
use Rattle.std.proofs.Common.{◌≡◌, ℕ, ◌<◌, ◌≤◌, Bool, true, false, List, [], ◌∷◌, refl, sym, ap, ◌∙◌, subst, arith, ltb-true, ltb-false, eqb-true, eq-eqb, ⊎_elim}
use Rattle.std.specs.Prelude.{◌==◌, nat_lt, if◌then◌else◌}
use Rattle.std.proofs.lemmas.Bool.{cases_lt}
use Rattle.xt_map.specs.Regions.{is_memory, region_of}
use Rattle.xt_map.specs.declared.contents.MemoryContents.{MemoryContents}
use Rattle.xt_map.specs.Memory.{HasSizes, byte_at, with_byte}
use Rattle.xt_map.proofs.Sent.{sent_of_byte}
use Rattle.xt_map.proofs.Stored.{byte_put, byte_elsewhere, byte_keeps_sizes}
use Rattle.xt_search.specs.declared.changes.Change.{Change}
use Rattle.xt_search.specs.Changed.{IsAbove, IsRising, byte_in, put_in, with_changes}
use Rattle.xt_search.proofs.Same.{put_over, swapped}

pub below_unless : (b a : ℕ) → a ≤ b → (b == a) ≡ false → a < b
below_unless b a h f = ⊎_elim (λ (less : a < b). less) (λ (no : b ≤ a). absurd (let e : b ≡ a = omega arith in let t : (b == a) ≡ true = eq-eqb b a e in cc)) (cases_lt a b)

pub changes_keep_sizes : (m : MemoryContents) (cs : List Change) → HasSizes m → HasSizes (with_changes m cs)
changes_keep_sizes m [] s = s
changes_keep_sizes m (c ∷ cs) s = changes_keep_sizes (with_byte m c.addr c.byte) cs (byte_keeps_sizes m c.addr c.byte s)

pub changes_send_none : (m : MemoryContents) (cs : List Change) → (with_changes m cs).sent ≡ m.sent
changes_send_none m [] = refl
changes_send_none m (c ∷ cs) = changes_send_none (with_byte m c.addr c.byte) cs ∙ sent_of_byte m c.addr c.byte

-- a byte below all others may be put last
pub put_below : (m : MemoryContents) (a b : ℕ) (cs : List Change) → HasSizes m → IsAbove a cs → with_changes (with_byte m a b) cs ≡ with_byte (with_changes m cs) a b
put_below m a b [] s h = refl
put_below m a b (c ∷ cs) s h =
    let below : a < c.addr = h.0 in
    ap (λ (n : MemoryContents). with_changes n cs) (swapped m a b c.addr c.byte s (λ (e : a ≡ c.addr). omega arith))
    ∙ put_below (with_byte m c.addr c.byte) a b cs (byte_keeps_sizes m c.addr c.byte s) h.1

-- the addresses above one are above a lower one
pub above_lower : (a b : ℕ) (cs : List Change) → a < b → IsAbove b cs → IsAbove a cs
above_lower a b [] h i = tt
above_lower a b (c ∷ cs) h i = let j : b < c.addr = i.0 in ((omega arith), above_lower a b cs h i.1)

above_choice : (a : ℕ) (c : Change) (cs : List Change) (x : Change) (s t : Bool) → a < x.addr → IsAbove a (c ∷ cs) → IsAbove a (put_in cs x) → IsAbove a (if s then c ∷ put_in cs x else (if t then x ∷ cs else x ∷ c ∷ cs))
above_choice a c cs x true t h i more = (i.0, more)
above_choice a c cs x false true h i more = (h, i.1)
above_choice a c cs x false false h i more = (h, i)

above_put : (a : ℕ) (cs : List Change) (x : Change) → a < x.addr → IsAbove a cs → IsAbove a (put_in cs x)
above_put a [] x h i = (h, tt)
above_put a (c ∷ cs) x h i = above_choice a c cs x (nat_lt c.addr x.addr) (c.addr == x.addr) h i (above_put a cs x h i.1)

rising_choice : (c : Change) (cs : List Change) (x : Change) (s t : Bool) → nat_lt c.addr x.addr ≡ s → (c.addr == x.addr) ≡ t → IsRising (c ∷ cs) → IsRising (put_in cs x)
    → IsRising (if s then c ∷ put_in cs x else (if t then x ∷ cs else x ∷ c ∷ cs))
rising_choice c cs x true t e f r more = (above_put c.addr cs x (ltb-true c.addr x.addr e) r.0, more)
rising_choice c cs x false true e f r more = let same : c.addr ≡ x.addr = eqb-true c.addr x.addr f in (subst (λ (a : ℕ). IsAbove a cs) same r.0, r.1)
rising_choice c cs x false false e f r more =
    let no : x.addr ≤ c.addr = ltb-false c.addr x.addr e in
    let less : x.addr < c.addr = below_unless c.addr x.addr no f in
    ((less, above_lower x.addr c.addr cs less r.0), r)

pub rising_put : (cs : List Change) (x : Change) → IsRising cs → IsRising (put_in cs x)
rising_put [] x r = (tt, tt)
rising_put (c ∷ cs) x r = rising_choice c cs x (nat_lt c.addr x.addr) (c.addr == x.addr) refl refl r (rising_put cs x r.1)

put_choice : (m : MemoryContents) (c : Change) (cs : List Change) (x : Change) (s t : Bool) → nat_lt c.addr x.addr ≡ s → (c.addr == x.addr) ≡ t → HasSizes m → IsRising (c ∷ cs)
    → with_changes (with_byte m c.addr c.byte) (put_in cs x) ≡ with_byte (with_changes (with_byte m c.addr c.byte) cs) x.addr x.byte
    → with_changes m (if s then c ∷ put_in cs x else (if t then x ∷ cs else x ∷ c ∷ cs)) ≡ with_byte (with_changes m (c ∷ cs)) x.addr x.byte
put_choice m c cs x true t e f s r more = more
put_choice m c cs x false true e f s r more =
    let same : c.addr ≡ x.addr = eqb-true c.addr x.addr f in
    let above : IsAbove x.addr cs = subst (λ (a : ℕ). IsAbove a cs) same r.0 in
    ap (λ (n : MemoryContents). with_changes n cs) (sym (put_over m x.addr x.byte c.byte s))
    ∙ put_below (with_byte m x.addr c.byte) x.addr x.byte cs (byte_keeps_sizes m x.addr c.byte s) above
    ∙ ap (λ (a : ℕ). with_byte (with_changes (with_byte m a c.byte) cs) x.addr x.byte) (sym same)
put_choice m c cs x false false e f s r more =
    let no : x.addr ≤ c.addr = ltb-false c.addr x.addr e in
    let less : x.addr < c.addr = below_unless c.addr x.addr no f in
    put_below m x.addr x.byte (c ∷ cs) s (less, above_lower x.addr c.addr cs less r.0)

-- a byte more is one that is put last
pub put_is : (m : MemoryContents) (cs : List Change) (x : Change) → HasSizes m → IsRising cs → with_changes m (put_in cs x) ≡ with_byte (with_changes m cs) x.addr x.byte
put_is m [] x s r = refl
put_is m (c ∷ cs) x s r = put_choice m c cs x (nat_lt c.addr x.addr) (c.addr == x.addr) refl refl s r (put_is (with_byte m c.addr c.byte) cs x (byte_keeps_sizes m c.addr c.byte s) r.1)

-- ---- the byte at an address

-- where all others are above
pub byte_below : (m : MemoryContents) (a : ℕ) (cs : List Change) → IsAbove a cs → byte_at (with_changes m cs) a ≡ byte_at m a
byte_below m a [] h = refl
byte_below m a (c ∷ cs) h =
    let below : a < c.addr = h.0 in
    byte_below (with_byte m c.addr c.byte) a cs h.1 ∙ byte_elsewhere m c.addr c.byte a (λ (e : c.addr ≡ a). omega arith)

byte_choice : (m : MemoryContents) (c : Change) (cs : List Change) (a : ℕ) (s t : Bool) → nat_lt c.addr a ≡ s → (c.addr == a) ≡ t → HasSizes m → is_memory (region_of a) ≡ true → IsRising (c ∷ cs)
    → byte_at (with_changes (with_byte m c.addr c.byte) cs) a ≡ byte_in cs a (byte_at (with_byte m c.addr c.byte) a)
    → byte_at (with_changes m (c ∷ cs)) a ≡ (if s then byte_in cs a (byte_at m a) else (if t then c.byte else byte_at m a))
byte_choice m c cs a true t e f s h r more =
    let less : c.addr < a = ltb-true c.addr a e in
    more ∙ ap (byte_in cs a) (byte_elsewhere m c.addr c.byte a (λ (e : c.addr ≡ a). omega arith))
byte_choice m c cs a false true e f s h r more =
    let same : c.addr ≡ a = eqb-true c.addr a f in
    byte_below (with_byte m c.addr c.byte) a cs (subst (λ (b : ℕ). IsAbove b cs) same r.0)
    ∙ ap (λ (b : ℕ). byte_at (with_byte m b c.byte) a) same ∙ byte_put m a c.byte s h
byte_choice m c cs a false false e f s h r more =
    let no : a ≤ c.addr = ltb-false c.addr a e in
    let less : a < c.addr = below_unless c.addr a no f in
    byte_below m a (c ∷ cs) (less, above_lower a c.addr cs less r.0)

-- the byte at an address of memory
pub byte_is : (m : MemoryContents) (cs : List Change) (a : ℕ) → HasSizes m → is_memory (region_of a) ≡ true → IsRising cs → byte_at (with_changes m cs) a ≡ byte_in cs a (byte_at m a)
byte_is m [] a s h r = refl
byte_is m (c ∷ cs) a s h r = byte_choice m c cs a (nat_lt c.addr a) (c.addr == a) refl refl s h r (byte_is (with_byte m c.addr c.byte) cs a (byte_keeps_sizes m c.addr c.byte s) h r.1)
