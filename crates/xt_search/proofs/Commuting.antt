-- Accesses that are apart may come in either order.
use Rattle.std.proofs.Common.{◌≡◌, ℕ, ◌+◌, ◌%◌, ◌<◌, ◌≤◌, Bool, true, false, List, [], ◌∷◌, ◌++◌, ◌⊎◌, inl, inr, ⊎_elim, refl, sym, ap, ◌∙◌, arith, eqb-true}
use Rattle.std.specs.Prelude.{◌==◌, if◌then◌else◌}
use Rattle.std.proofs.lemmas.Bool.{and_parts, cases_lt}
use Rattle.xt_map.specs.declared.access.Kind.{Kind}
use Rattle.xt_map.specs.declared.access.Kind.TheVariants.{Load, Store, Cas}
use Rattle.xt_map.specs.declared.access.Access.{Access}
use Rattle.xt_map.specs.declared.contents.MemoryContents.{MemoryContents}
use Rattle.xt_map.specs.Memory.{HasSizes, byte_at, little_endian, low_bytes, with_bytes}
use Rattle.xt_map.specs.Regions.{is_mapped, is_size, uart_status, uart_transmit}
use Rattle.xt_map.specs.Serving.{contents_after, memory_past, number_at, reply_to, with_sent}
use Rattle.xt_map.specs.Touching.{is_load}
use Rattle.xt_map.proofs.Alike.{same_bytes, same_reply, three_sizes, touched_alike}
use Rattle.xt_map.proofs.Sent.{sent_of_bytes}
use Rattle.xt_map.proofs.Stored.{access_elsewhere, access_keeps_sizes}
use Rattle.xt_search.proofs.Same.{same_memory}
use Rattle.xt_search.specs.Apart.{AreApart}

-- ---- loads

load_sends_none : (m : MemoryContents) (k : Kind) → is_load k ≡ true → with_sent m k ≡ m
load_sends_none m Load h = refl
load_sends_none m (Store v) h = absurd cc
load_sends_none m (Cas expected new) h = absurd cc

load_changes_none : (m : MemoryContents) (x size : ℕ) (k : Kind) → is_load k ≡ true → contents_after m x size k ≡ m
load_changes_none m x size Load h = refl
load_changes_none m x size (Store v) h = absurd cc
load_changes_none m x size (Cas expected new) h = absurd cc

if_same : (b : Bool) (x y z : MemoryContents) → x ≡ z → y ≡ z → (if b then x else y) ≡ z
if_same true x y z p q = p
if_same false x y z p q = q

pub load_keeps : (m : MemoryContents) (a : Access) → is_load a.kind ≡ true → memory_past m a ≡ m
unfolding memory_past
load_keeps m a h =
    if_same (a.addr == uart_transmit) (with_sent m a.kind) (if a.addr == uart_status then m else contents_after m a.addr a.size a.kind) m
    (load_sends_none m a.kind h)
    (if_same (a.addr == uart_status) m (contents_after m a.addr a.size a.kind) m refl (load_changes_none m a.addr a.size a.kind h))

-- ---- what is sent

sends : Kind → List ℕ
sends Load = []
sends (Store v) = v % 256 ∷ []
sends (Cas expected new) = []

abbrev sent_by : Access → List ℕ
sent_by a = if a.addr == uart_transmit then sends a.kind else []

nothing_more : (xs : List ℕ) → xs ++ [] ≡ xs
nothing_more [] = refl
nothing_more (x ∷ xs) = ap (λ (l : List ℕ). x ∷ l) (nothing_more xs)

sent_more : (m : MemoryContents) (k : Kind) → (with_sent m k).sent ≡ m.sent ++ sends k
unfolding sends
sent_more m Load = sym (nothing_more m.sent)
sent_more m (Store v) = refl
sent_more m (Cas expected new) = sym (nothing_more m.sent)

sent_if : (b : Bool) (x y : MemoryContents) (s : List ℕ) → x.sent ≡ s → y.sent ≡ s → (if b then x else y).sent ≡ s
sent_if true x y s p q = p
sent_if false x y s p q = q

sent_of_changed : (m : MemoryContents) (x size : ℕ) (k : Kind) → (contents_after m x size k).sent ≡ m.sent
sent_of_changed m x size Load = refl
sent_of_changed m x size (Store v) = sent_of_bytes m x (low_bytes size v)
sent_of_changed m x size (Cas expected new) =
    sent_if (number_at m x size == expected) (with_bytes m x (low_bytes size new)) m m.sent (sent_of_bytes m x (low_bytes size new)) refl

sent_choice : (b : Bool) (x y : MemoryContents) (s t : List ℕ) → x.sent ≡ s ++ t → y.sent ≡ s → (if b then x else y).sent ≡ s ++ (if b then t else [])
sent_choice true x y s t p q = p
sent_choice false x y s t p q = q ∙ sym (nothing_more s)

sent_past : (m : MemoryContents) (a : Access) → (memory_past m a).sent ≡ m.sent ++ sent_by a
unfolding memory_past
sent_past m a =
    sent_choice (a.addr == uart_transmit) (with_sent m a.kind) (if a.addr == uart_status then m else contents_after m a.addr a.size a.kind) m.sent (sends a.kind)
    (sent_more m a.kind)
    (sent_if (a.addr == uart_status) m (contents_after m a.addr a.size a.kind) m.sent refl (sent_of_changed m a.addr a.size a.kind))

-- ---- no byte in common

abbrev Disjoint : Access → Access → Type 0
Disjoint a b = (a.addr + a.size ≤ b.addr) ⊎ (b.addr + b.size ≤ a.addr)

turned : (a b : Access) → Disjoint a b → Disjoint b a
turned a b h = ⊎_elim (λ (l : a.addr + a.size ≤ b.addr). inr l) (λ (r : b.addr + b.size ≤ a.addr). inl r) h

-- each has a byte
has_byte : (a : Access) → is_mapped a ≡ true → 0 < a.size
has_byte a h = ⊎_elim (λ (e : a.size ≡ 1). omega arith) (λ (r : (a.size ≡ 2) ⊎ (a.size ≡ 4)). ⊎_elim (λ (e : a.size ≡ 2). omega arith) (λ (e : a.size ≡ 4). omega arith) r) (three_sizes a.size (and_parts (is_size a.size) _ h).0)

-- not both send
sends_choice : (b c : Bool) (s t : List ℕ) → (b ≡ true → c ≡ true → ⊥) → (if b then s else []) ++ (if c then t else []) ≡ (if c then t else []) ++ (if b then s else [])
sends_choice true true s t h = absurd (h refl refl)
sends_choice true false s t h = nothing_more s
sends_choice false true s t h = sym (nothing_more t)
sends_choice false false s t h = refl

one_sends : (a b : Access) → is_mapped a ≡ true → is_mapped b ≡ true → Disjoint a b → sent_by a ++ sent_by b ≡ sent_by b ++ sent_by a
one_sends a b ma mb h = sends_choice (a.addr == uart_transmit) (b.addr == uart_transmit) (sends a.kind) (sends b.kind)
    (λ e f.
    let i : a.addr ≡ uart_transmit = eqb-true a.addr uart_transmit e in
    let j : b.addr ≡ uart_transmit = eqb-true b.addr uart_transmit f in
    let x : 0 < a.size = has_byte a ma in
    let y : 0 < b.size = has_byte b mb in
    ⊎_elim (λ (l : a.addr + a.size ≤ b.addr). omega arith) (λ (r : b.addr + b.size ≤ a.addr). omega arith) h)

regrouped : (xs ys zs : List ℕ) → (xs ++ ys) ++ zs ≡ xs ++ (ys ++ zs)
regrouped [] ys zs = refl
regrouped (x ∷ xs) ys zs = ap (λ (l : List ℕ). x ∷ l) (regrouped xs ys zs)

sent_either : (m : MemoryContents) (a b : Access) → is_mapped a ≡ true → is_mapped b ≡ true → Disjoint a b → (memory_past (memory_past m a) b).sent ≡ (memory_past (memory_past m b) a).sent
sent_either m a b ma mb h =
    sent_past (memory_past m a) b ∙ ap (λ (s : List ℕ). s ++ sent_by b) (sent_past m a) ∙ regrouped m.sent (sent_by a) (sent_by b)
    ∙ ap (λ (s : List ℕ). m.sent ++ s) (one_sends a b ma mb h)
    ∙ sym (sent_past (memory_past m b) a ∙ ap (λ (s : List ℕ). s ++ sent_by a) (sent_past m b) ∙ regrouped m.sent (sent_by b) (sent_by a))

-- a byte of the first
bytes_of_first : (m : MemoryContents) (a b : Access) (y : ℕ) → HasSizes m → is_mapped a ≡ true → Disjoint a b → a.addr ≤ y → y < a.addr + a.size
    → byte_at (memory_past (memory_past m a) b) y ≡ byte_at (memory_past (memory_past m b) a) y
bytes_of_first m a b y s ma h lo hi =
    access_elsewhere (memory_past m a) b y (beside y lo hi)
    ∙ touched_alike m (memory_past m b) a y s (access_keeps_sizes m b s) ma lo hi (λ st z zlo zhi. sym (access_elsewhere m b z (beside z zlo zhi)))
  where
    beside : (z : ℕ) → a.addr ≤ z → z < a.addr + a.size → (z < b.addr) ⊎ (b.addr + b.size ≤ z)
    beside z zlo zhi = ⊎_elim (λ (l : a.addr + a.size ≤ b.addr). inl (omega arith)) (λ (r : b.addr + b.size ≤ a.addr). inr (omega arith)) h

abbrev Within : Access → ℕ → Type 0
Within a y = (a.addr ≤ y) × (y < a.addr + a.size)

abbrev Beside : Access → ℕ → Type 0
Beside a y = (y < a.addr) ⊎ (a.addr + a.size ≤ y)

within_or : (a : Access) (y : ℕ) → Within a y ⊎ Beside a y
within_or a y = ⊎_elim
    (λ (below : y < a.addr). inr (inl below))
    (λ (above : a.addr ≤ y). ⊎_elim (λ (i : y < a.addr + a.size). inl (above, i)) (λ (o : a.addr + a.size ≤ y). inr (inr o)) (cases_lt y (a.addr + a.size)))
    (cases_lt y a.addr)

bytes_either : (m : MemoryContents) (a b : Access) (y : ℕ) → HasSizes m → is_mapped a ≡ true → is_mapped b ≡ true → Disjoint a b
    → byte_at (memory_past (memory_past m a) b) y ≡ byte_at (memory_past (memory_past m b) a) y
bytes_either m a b y s ma mb h = ⊎_elim
    (λ (i : Within a y). bytes_of_first m a b y s ma h i.0 i.1)
    (λ (o : Beside a y). ⊎_elim
    (λ (i : Within b y). sym (bytes_of_first m b a y s mb (turned a b h) i.0 i.1))
    (λ (p : Beside b y).
    access_elsewhere (memory_past m a) b y p ∙ access_elsewhere m a y o
    ∙ sym (access_elsewhere (memory_past m b) a y o ∙ access_elsewhere m b y p))
    (within_or b y))
    (within_or a y)

-- ---- both laws

pub accesses_commute : (m : MemoryContents) (a b : Access) → HasSizes m → is_mapped a ≡ true → is_mapped b ≡ true → AreApart a b → memory_past (memory_past m a) b ≡ memory_past (memory_past m b) a
accesses_commute m a b s ma mb h = ⊎_elim
    (λ (d : Disjoint a b).
    same_memory (memory_past (memory_past m a) b) (memory_past (memory_past m b) a)
    (access_keeps_sizes (memory_past m a) b (access_keeps_sizes m a s)) (access_keeps_sizes (memory_past m b) a (access_keeps_sizes m b s))
    (sent_either m a b ma mb d)
    (λ y. bytes_either m a b y s ma mb d))
    (λ (l : (is_load a.kind ≡ true) × (is_load b.kind ≡ true)).
    ap (λ (n : MemoryContents). memory_past n b) (load_keeps m a l.0) ∙ load_keeps m b l.1
    ∙ sym (ap (λ (n : MemoryContents). memory_past n a) (load_keeps m b l.1) ∙ load_keeps m a l.0))
    h

pub replies_stay : (m : MemoryContents) (a b : Access) → AreApart a b → reply_to (memory_past m a) b ≡ reply_to m b
replies_stay m a b h = ⊎_elim
    (λ (d : Disjoint a b).
    same_reply (memory_past m a) m b
    (λ st. ap little_endian (same_bytes (memory_past m a) m b.size b.addr
    (λ x lo hi. access_elsewhere m a x (⊎_elim (λ (l : a.addr + a.size ≤ b.addr). inr (omega arith)) (λ (r : b.addr + b.size ≤ a.addr). inl (omega arith)) d)))))
    (λ (l : (is_load a.kind ≡ true) × (is_load b.kind ≡ true)). ap (λ (n : MemoryContents). reply_to n b) (load_keeps m a l.0))
    h
