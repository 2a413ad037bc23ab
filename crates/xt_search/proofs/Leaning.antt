-- Bytes that differ from those that memory opened with: one more, one less, and that equal memories have
-- equal bytes.
use Rattle.std.proofs.Common.{◌≡◌, ◌≢◌, ℕ, ◌<◌, ◌≤◌, Bool, true, false, List, [], ◌∷◌, ⊎_elim, refl, sym, ap, ◌∙◌, subst, arith, ltb-true, ltb-false, eqb-true, eq-eqb, ne_eqb}
use Rattle.std.specs.Prelude.{◌==◌, nat_lt, if◌then◌else◌}
use Rattle.std.proofs.lemmas.Bool.{cases_lt, le-ltb, lt-ltb, true≢false}
use Rattle.xt_map.specs.Regions.{is_memory, region_of}
use Rattle.xt_map.specs.declared.contents.MemoryContents.{MemoryContents}
use Rattle.xt_map.specs.Memory.{HasSizes, byte_at, with_byte}
use Rattle.xt_map.proofs.Sent.{sent_of_byte}
use Rattle.xt_map.proofs.Stored.{byte_elsewhere, byte_keeps_sizes}
use Rattle.xt_search.specs.declared.changes.Change.{Change}
use Rattle.xt_search.specs.Changed.{AreNew, ChangesState, IsAbove, IsLean, IsRising, byte_in, contents_of, put_in, with_changes, without}
use Rattle.xt_search.proofs.Putting.{above_lower, below_unless, byte_below, changes_keep_sizes, changes_send_none, put_below}
use Rattle.xt_search.proofs.Same.{by_region, put_over, put_same, same_memory}
use Rattle.xt_search.proofs.Sending.{byte_of_contents, byte_of_sending, sending, sending_sizes}

-- ---- without a byte

above_without_choice : (a : ℕ) (c : Change) (cs ds : List Change) (s t : Bool) → IsAbove a (c ∷ cs) → IsAbove a ds → IsAbove a (if s then c ∷ ds else (if t then cs else c ∷ cs))
above_without_choice a c cs ds true t h i = (h.0, i)
above_without_choice a c cs ds false true h i = h.1
above_without_choice a c cs ds false false h i = h

above_without : (a : ℕ) (cs : List Change) (b : ℕ) → IsAbove a cs → IsAbove a (without cs b)
above_without a [] b h = tt
above_without a (c ∷ cs) b h = above_without_choice a c cs (without cs b) (nat_lt c.addr b) (c.addr == b) h (above_without a cs b h.1)

rising_without_choice : (c : Change) (cs ds : List Change) (s t : Bool) → IsRising (c ∷ cs) → IsAbove c.addr ds → IsRising ds → IsRising (if s then c ∷ ds else (if t then cs else c ∷ cs))
rising_without_choice c cs ds true t r i more = (i, more)
rising_without_choice c cs ds false true r i more = r.1
rising_without_choice c cs ds false false r i more = r

pub rising_without : (cs : List Change) (b : ℕ) → IsRising cs → IsRising (without cs b)
rising_without [] b r = tt
rising_without (c ∷ cs) b r = rising_without_choice c cs (without cs b) (nat_lt c.addr b) (c.addr == b) r (above_without c.addr cs b r.0) (rising_without cs b r.1)

without_choice : (m : MemoryContents) (c : Change) (cs : List Change) (a : ℕ) (s t : Bool) → nat_lt c.addr a ≡ s → (c.addr == a) ≡ t → HasSizes m → IsRising (c ∷ cs)
    → with_changes (with_byte m c.addr c.byte) (without cs a) ≡ with_byte (with_changes (with_byte m c.addr c.byte) cs) a (byte_at (with_byte m c.addr c.byte) a)
    → with_changes m (if s then c ∷ without cs a else (if t then cs else c ∷ cs)) ≡ with_byte (with_changes m (c ∷ cs)) a (byte_at m a)
without_choice m c cs a true t e f s r more =
    let less : c.addr < a = ltb-true c.addr a e in
    more ∙ ap (with_byte (with_changes (with_byte m c.addr c.byte) cs) a) (byte_elsewhere m c.addr c.byte a (λ (e : c.addr ≡ a). omega arith))
without_choice m c cs a false true e f s r more =
    let same : c.addr ≡ a = eqb-true c.addr a f in
    let above : IsAbove a cs = subst (λ (b : ℕ). IsAbove b cs) same r.0 in
    let v = byte_at m a in
    ap (λ (n : MemoryContents). with_changes n cs) (sym (put_over m a v c.byte s ∙ put_same m a v s refl))
    ∙ put_below (with_byte m a c.byte) a v cs (byte_keeps_sizes m a c.byte s) above
    ∙ ap (λ (b : ℕ). with_byte (with_changes (with_byte m b c.byte) cs) a v) (sym same)
without_choice m c cs a false false e f s r more =
    let no : a ≤ c.addr = ltb-false c.addr a e in
    let less : a < c.addr = below_unless c.addr a no f in
    sym (put_same (with_changes m (c ∷ cs)) a (byte_at m a) (changes_keep_sizes m (c ∷ cs) s) (byte_below m a (c ∷ cs) (less, above_lower a c.addr cs less r.0)))

-- without a byte is with the byte that memory opened with
without_is : (m : MemoryContents) (cs : List Change) (a : ℕ) → HasSizes m → IsRising cs → with_changes m (without cs a) ≡ with_byte (with_changes m cs) a (byte_at m a)
without_is m [] a s r = sym (put_same m a (byte_at m a) s refl)
without_is m (c ∷ cs) a s r = without_choice m c cs a (nat_lt c.addr a) (c.addr == a) refl refl s r (without_is (with_byte m c.addr c.byte) cs a (byte_keeps_sizes m c.addr c.byte s) r.1)

pub without_contents : (m : MemoryContents) (s : ChangesState) (a b : ℕ) → HasSizes m → IsRising s.bytes → byte_at m a ≡ b
    → contents_of m (record s { bytes = without s.bytes a }) ≡ with_byte (contents_of m s) a b
without_contents m s a b h r e =
    without_is (sending m s.sent) s.bytes a (sending_sizes m s.sent h) r
    ∙ ap (with_byte (contents_of m s) a) (byte_of_sending m s.sent a ∙ e)

-- a byte outside memory changes nothing
pub put_outside : (m : MemoryContents) (a b : ℕ) → HasSizes m → is_memory (region_of a) ≡ false → with_byte m a b ≡ m
put_outside m a b s out =
    same_memory (with_byte m a b) m (byte_keeps_sizes m a b s) s (sent_of_byte m a b)
    (λ y. by_region (with_byte m a b) m y (λ mem. byte_elsewhere m a b y (λ (e : a ≡ y).
    true≢false (sym mem ∙ ap (λ (z : ℕ). is_memory (region_of z)) (sym e) ∙ out))))

pub contents_sizes : (m : MemoryContents) (s : ChangesState) → HasSizes m → HasSizes (contents_of m s)
contents_sizes m s h = changes_keep_sizes (sending m s.sent) s.bytes (sending_sizes m s.sent h)

-- ---- bytes that are new

new_put_choice : (m : MemoryContents) (c : Change) (cs ds : List Change) (x : Change) (s t : Bool) → AreNew m (c ∷ cs) → is_memory (region_of x.addr) ≡ true → byte_at m x.addr ≢ x.byte → AreNew m ds
    → AreNew m (if s then c ∷ ds else (if t then x ∷ cs else x ∷ c ∷ cs))
new_put_choice m c cs ds x true t h mem isnt more = (h.0, h.1, more)
new_put_choice m c cs ds x false true h mem isnt more = (mem, isnt, h.2)
new_put_choice m c cs ds x false false h mem isnt more = (mem, isnt, h)

pub new_put : (m : MemoryContents) (cs : List Change) (x : Change) → AreNew m cs → is_memory (region_of x.addr) ≡ true → byte_at m x.addr ≢ x.byte → AreNew m (put_in cs x)
new_put m [] x h mem isnt = (mem, isnt, tt)
new_put m (c ∷ cs) x h mem isnt = new_put_choice m c cs (put_in cs x) x (nat_lt c.addr x.addr) (c.addr == x.addr) h mem isnt (new_put m cs x h.2 mem isnt)

new_without_choice : (m : MemoryContents) (c : Change) (cs ds : List Change) (s t : Bool) → AreNew m (c ∷ cs) → AreNew m ds → AreNew m (if s then c ∷ ds else (if t then cs else c ∷ cs))
new_without_choice m c cs ds true t h more = (h.0, h.1, more)
new_without_choice m c cs ds false true h more = h.2
new_without_choice m c cs ds false false h more = h

pub new_without : (m : MemoryContents) (cs : List Change) (a : ℕ) → AreNew m cs → AreNew m (without cs a)
new_without m [] a h = tt
new_without m (c ∷ cs) a h = new_without_choice m c cs (without cs a) (nat_lt c.addr a) (c.addr == a) h (new_without m cs a h.2)

-- ---- memories with the same bytes have the same changes

before_head : (c : Change) (cs : List Change) (a b : ℕ) → a < c.addr → byte_in (c ∷ cs) a b ≡ b
before_head c cs a b less =
    rw (le-ltb c.addr a (let l : a ≤ c.addr = omega arith in l), ne_eqb c.addr a (λ (e : c.addr ≡ a). omega arith)) refl

-- the byte at an address below all others
other_below : (a low b : ℕ) (cs : List Change) → a ≤ low → IsAbove low cs → byte_in cs a b ≡ b
other_below a low b [] l h = refl
other_below a low b (c ∷ cs) l h = let less : low < c.addr = h.0 in before_head c cs a b (omega arith)

at_head : (c : Change) (cs : List Change) (b : ℕ) → byte_in (c ∷ cs) c.addr b ≡ c.byte
at_head c cs b = rw (le-ltb c.addr c.addr (omega arith), eq-eqb c.addr c.addr refl) refl

past_head : (c : Change) (cs : List Change) (a b : ℕ) → c.addr < a → byte_in (c ∷ cs) a b ≡ byte_in cs a b
past_head c cs a b less = rw (lt-ltb c.addr a less) refl

abbrev Agree : MemoryContents → List Change → List Change → Type 0
Agree m xs ys = (a : ℕ) → is_memory (region_of a) ≡ true → byte_in xs a (byte_at m a) ≡ byte_in ys a (byte_at m a)

tails_agree : (m : MemoryContents) (x : Change) (xs : List Change) (y : Change) (ys : List Change) → x.addr ≡ y.addr → IsRising (x ∷ xs) → IsRising (y ∷ ys) → Agree m (x ∷ xs) (y ∷ ys) → Agree m xs ys
tails_agree m x xs y ys e rx ry h a mem = ⊎_elim
    (λ (past : x.addr < a). sym (past_head x xs a (byte_at m a) past) ∙ h a mem ∙ past_head y ys a (byte_at m a) (omega arith))
    (λ (upto : a ≤ x.addr). other_below a x.addr (byte_at m a) xs upto rx.0 ∙ sym (other_below a y.addr (byte_at m a) ys (omega arith) ry.0))
    (cases_lt x.addr a)

heads_agree : (m : MemoryContents) (x : Change) (xs : List Change) (y : Change) (ys : List Change) → x.addr ≡ y.addr → is_memory (region_of x.addr) ≡ true → Agree m (x ∷ xs) (y ∷ ys) → x ≡ y
heads_agree m x xs y ys e mem h =
    let b = byte_at m x.addr in
    let bytes : x.byte ≡ y.byte = sym (at_head x xs b) ∙ h x.addr mem ∙ ap (λ (a : ℕ). byte_in (y ∷ ys) a b) e ∙ at_head y ys b in
    let make : ℕ → ℕ → Change = λ a v. record { addr = a; byte = v } in
    ap (λ (a : ℕ). make a x.byte) e ∙ ap (make y.addr) bytes

same_lists : (m : MemoryContents) (xs ys : List Change) → IsRising xs → IsRising ys → AreNew m xs → AreNew m ys → Agree m xs ys → xs ≡ ys
same_lists m [] [] rx ry nx ny h = refl
same_lists m [] (y ∷ ys) rx ry nx ny h = absurd (ny.1 (h y.addr ny.0 ∙ at_head y ys (byte_at m y.addr)))
same_lists m (x ∷ xs) [] rx ry nx ny h = absurd (nx.1 (sym (h x.addr nx.0) ∙ at_head x xs (byte_at m x.addr)))
same_lists m (x ∷ xs) (y ∷ ys) rx ry nx ny h =
    ⊎_elim
    (λ (less : x.addr < y.addr). absurd (nx.1 (sym (before_head y ys x.addr (byte_at m x.addr) less) ∙ sym (h x.addr nx.0) ∙ at_head x xs (byte_at m x.addr))))
    (λ (no : y.addr ≤ x.addr). ⊎_elim
    (λ (less : y.addr < x.addr). absurd (ny.1 (sym (before_head x xs y.addr (byte_at m y.addr) less) ∙ h y.addr ny.0 ∙ at_head y ys (byte_at m y.addr))))
    (λ (more : x.addr ≤ y.addr).
    let e : x.addr ≡ y.addr = omega arith in
    ap (λ (c : Change). c ∷ xs) (heads_agree m x xs y ys e nx.0 h)
    ∙ ap (λ (l : List Change). y ∷ l) (same_lists m xs ys rx.1 ry.1 nx.2 ny.2 (tails_agree m x xs y ys e rx ry h)))
    (cases_lt y.addr x.addr))
    (cases_lt x.addr y.addr)

pub lean_same : (m : MemoryContents) (s t : ChangesState) → HasSizes m → IsLean m s → IsLean m t → contents_of m s ≡ contents_of m t → s ≡ t
lean_same m s t h ls lt e =
    let bytes : s.bytes ≡ t.bytes = same_lists m s.bytes t.bytes ls.0 lt.0 ls.1 lt.1 (λ a mem.
    byte_of_contents m s a h mem ls.0 ∙ ap (λ (n : MemoryContents). byte_at n a) e ∙ sym (byte_of_contents m t a h mem lt.0)) in
    let sent : s.sent ≡ t.sent = sym (changes_send_none (sending m s.sent) s.bytes) ∙ ap (λ (n : MemoryContents). n.sent) e ∙ changes_send_none (sending m t.sent) t.bytes in
    let make : List Change → List ℕ → ChangesState = λ b q. record { bytes = b; sent = q } in
    ap (λ (b : List Change). make b s.sent) bytes ∙ ap (make t.bytes) sent
