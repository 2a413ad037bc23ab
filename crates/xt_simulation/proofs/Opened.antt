-- The opening states are related.
use Rattle.std.proofs.Common.{◌≡◌, ℕ, zero, suc, ◌+◌, ◌-◌, ◌%◌, ◌^◌, ◌<◌, ◌≤◌, ◌⊎◌, Bool, true, false, eqb, List, [], ◌∷◌, Option, Some, None, sym, ap, ◌∙◌, refl, arith, inl, inr, ⊎_elim, subst, length, get_or, cond, replicate}
use Rattle.std.proofs.Math.ListN.{set}
use Rattle.std.proofs.lemmas.Bool.{agree_below_at, and_right, cases_lt, false≢true, or_from}
use Rattle.std.proofs.lemmas.List.{get_or_past, get_or-set_same, length-set, length-replicate, get_or-replicate}
use Rattle.xt_map.specs.declared.segment.Segment.{Segment}
use Rattle.xt_map.specs.declared.contents.MemoryContents.{MemoryContents}
use Rattle.xt_map.specs.Memory.{HasSizes, byte_at, zeros, cleared_memory, with_segments, with_byte, with_bytes, low_bytes, byte_in, opening_memory, is_loaded}
use Rattle.xt_map.specs.declared.regions.Region.{Region}
use Rattle.xt_map.specs.declared.regions.Region.TheVariants.{RtcFastData, Dram, RtcSlow}
use Rattle.xt_map.specs.Regions.{region_of}
use Rattle.xt_map.proofs.Small.{put_small, low_memory}
use Rattle.xt_map.proofs.Stored.{bytes_keep_sizes, byte_keeps_sizes, cleared_has_sizes, segments_keep_sizes}
use Rattle.xt_special.specs.Control.{Control, special_of}
use Rattle.xt_special.specs.Opening.{no_special, opening_special, opening_control}
use Rattle.xt_window.specs.Ring.{visible, bit, cleared_regs}
use Rattle.xt_exec.specs.State.{State, opening_state, opening_regs, prid_of}
use Rattle.xt_exec.specs.TurnLaws.{IsShaped}
use Rattle.xt_exec.proofs.Shapes.{opening_shaped}
use Rattle.xt_frames.specs.Frames.{value_or_zero}
use Rattle.xt_frames.specs.SaveAreas.{Range}
use Rattle.xt_frames.specs.Breaches.{lost_of, Bounds}
use Rattle.xt_frames.specs.Frames.{all_set}
use Rattle.xt_frames.specs.Stacks.{IsRange}
use Rattle.xt_simulation.specs.Relation.{Level, lost_at}
use Rattle.xt_simulation.specs.Cores.{word, Related}
use Rattle.xt_simulation.proofs.RingLemmas.{some_within}
use Rattle.xt_handlers.specs.Running.{with_word, is_access}
use Rattle.xt_handlers.specs.Machines.{word_at}
use Rattle.xt_handlers.proofs.Words.{word_at-same, word_at-other, access_from}
use Rattle.xt_map.specs.Touching.{IsMemory}
use Rattle.xt_simulation.specs.Handling.{InDram}
use Rattle.xt_simulation.proofs.Words.{bytes_stored}
use Rattle.xt_simulation.specs.Opening.{values_from, frame_of, IsStack, AreSmall}
use Rattle.xt_simulation.proofs.Judges.{lay}

-- ---- registers
values_length : (f : ℕ → ℕ) (i n : ℕ) → length (values_from f i n) ≡ n
values_length f i zero = refl
values_length f i (suc n) = ap suc (values_length f (suc i) n)

value_is : (f : ℕ → ℕ) (i n k v : ℕ) → get_or (values_from f i n) k None ≡ Some v → f (i + k) ≡ v
value_is f i zero k v e = absurd cc
value_is f i (suc n) zero v e = let z : i + 0 ≡ i = omega arith in let q : f i ≡ v = cc in rw z q
value_is f i (suc n) (suc k) v e = let z : suc i + k ≡ i + suc k = omega arith in rw z at (value_is f (suc i) n k v e)

one_bit : (k : ℕ) → k < 16 → bit 1 k ≡ eqb k 0
unfolding bit
one_bit k h = agree_below_at (λ k. bit 1 k) (λ k. eqb k 0) 16 k refl h

-- ---- special registers
opening_vecbase : (prid vecbase : ℕ) → get_or (opening_special prid vecbase) 231 0 ≡ vecbase
unfolding opening_special no_special
opening_vecbase prid vecbase = get_or-set_same (set no_special 235 prid) 231 vecbase 0 (let l = length-set no_special 235 prid in let r = length-replicate {A = ℕ} 256 0 in omega arith)

-- ---- no special register is lost
all_false : (n i : ℕ) → get_or (replicate n false) i false ≡ false
all_false n i = ⊎_elim (λ h. get_or-replicate {A = Bool} n i false false h) (λ h. let xs : List Bool = replicate n false in get_or_past xs i false (let l = length-replicate {A = Bool} n false in omega arith)) (cases_lt i n)

none_unset : (k : ℕ) → get_or all_set k false ≡ false
unfolding all_set
none_unset k = all_false 256 k

none_lost : (s : State) (k : ℕ) → lost_at true (frame_of s) k ≡ false
none_lost s k = or_from (lost_of true k) (get_or all_set k false) (and_right (eqb k 177) false refl) (none_unset k)

module _ (core pc vecbase hi : ℕ) where
  abbrev s : State
  s = opening_state core pc vecbase hi

  opens_at : (s.base ≡ 0) × (s.start ≡ 1) × (s.control ≡ opening_control pc (prid_of core) vecbase)
  unfolding opening_state
  opens_at = (refl, refl, refl)

  opening_sp : visible s.regs s.base 1 ≡ hi - 64
  unfolding opening_state opening_regs cleared_regs
  opening_sp = refl

  opening_level : length s.regs ≡ 64 → Level vecbase (lost_at true (frame_of s)) s (frame_of s) [] []
  opening_level size =
      let zero_base = opens_at.0 in
      let one = opens_at.1 in
      let control = opens_at.2 in
      record {
        windows = record {
          size = size;
          wide = values_length (visible s.regs s.base) 0 16;
          shaped = tt;
          fits = omega arith;
          based = (let e : s.base ≡ 0 = zero_base in omega arith);
          bits = λ k lo up. (let e : s.start ≡ 1 = one in rw e (one_bit k (omega arith)));
          kept = tt;
          visible = λ i v e.
              let zi : 0 + i ≡ i = omega arith in
              let at : visible s.regs s.base i ≡ v = rw zi at (value_is (visible s.regs s.base) 0 16 i v e) in
              let b : s.base ≡ 0 = zero_base in
              let z : 0 + 0 ≡ 0 = omega arith in
              rw z (subst (λ x. visible s.regs x i ≡ v) b at);
          room = λ i v e. let w = values_length (visible s.regs s.base) 0 16 in let narrow = some_within (values_from (visible s.regs s.base) 0 16) i v e in omega arith;
        };
        frames = refl;
        older = tt;
        even = record { pc = refl; ps = refl; threadptr = refl; waits = refl; special = record { size = refl; only = λ k h. absurd (false≢true (sym (none_lost s k) ∙ h)); at = λ k h. refl } };
        woe = ap (λ (c : Control). c.ps.woe) control;
        calls = (let e : s.control.ps.callinc ≡ 2 = ap (λ (c : Control). c.ps.callinc) control in omega arith);
        vectors = ap (λ (c : Control). special_of c 231) control ∙ opening_vecbase (prid_of core) vecbase;
      }

pub range_of : (r : Range) → IsStack r → IsRange r.lo r.hi
range_of r i = record { low = i.low_aligned; high = i.high_aligned; room = i.room; top = i.high }

pub dram_of : (b : Bounds) → IsStack b.range → InDram b
dram_of b i = record { low = i.low; high = i.high }

pub opening_related : (core pc : ℕ) (b : Bounds) (m : ℕ → ℕ) → IsStack b.range → IsShaped (opening_state core pc b.vecbase b.range.hi) → word m (b.range.hi - 76) ≡ b.range.hi
    → Related m b (lost_at true (frame_of (opening_state core pc b.vecbase b.range.hi))) (opening_state core pc b.vecbase b.range.hi) (frame_of (opening_state core pc b.vecbase b.range.hi)) [] []
opening_related core pc b m i shaped link =
    let sp = opening_sp core pc b.vecbase b.range.hi in
    record {
      plain = lay (opening_level core pc b.vecbase b.range.hi shaped.count);
      stack = record {
        range = range_of b.range i;
        wide = values_length (visible (opening_state core pc b.vecbase b.range.hi).regs (opening_state core pc b.vecbase b.range.hi).base) 0 16;
        shaped = tt;
        sp = refl;
        chain = (let r = i.room in let e : value_or_zero (frame_of (opening_state core pc b.vecbase b.range.hi)).seen 1 ≡ b.range.hi - 64 = sp in omega arith);
      };
      saved = link;
    }

pub stack_shaped : (core pc vecbase : ℕ) (r : Range) → IsStack r → pc < 2 ^ 32 → vecbase % 2 ^ 10 ≡ 0 → vecbase < 2 ^ 32 → IsShaped (opening_state core pc vecbase r.hi)
stack_shaped core pc vecbase r i small aligned word_ = let h = i.high in let l = i.low in let m = i.room in opening_shaped core pc vecbase r.hi small aligned word_ (omega arith) (omega arith)

-- ---- the word below each stack
link_access : (r : Range) → IsStack r → is_access (r.hi - 76) ≡ true
link_access r i = let l = i.low in let h = i.high in let a = i.high_aligned in let m = i.room in access_from (r.hi - 76) (omega arith) (omega arith) (omega arith)

same_word : (m : MemoryContents) (a v x : ℕ) → HasSizes m → is_access a ≡ true → word (byte_at (with_bytes m a (low_bytes 4 v))) x ≡ word_at (with_word (byte_at m) a v) x
same_word m a v x sizes h =
    let e0 = bytes_stored m a v x sizes h in
    let e1 = bytes_stored m a v (x + 1) sizes h in
    let e2 = bytes_stored m a v (x + 2) sizes h in
    let e3 = bytes_stored m a v (x + 3) sizes h in
    rw (e0, e1, e2, e3) refl

two_words : (m : MemoryContents) (a b v w : ℕ) → HasSizes m → is_access a ≡ true → is_access b ≡ true → v < 4294967296 → w < 4294967296 → (a + 4 ≤ b) ⊎ (b + 4 ≤ a)
    → (word (byte_at (with_bytes (with_bytes m a (low_bytes 4 v)) b (low_bytes 4 w))) a ≡ v) × (word (byte_at (with_bytes (with_bytes m a (low_bytes 4 v)) b (low_bytes 4 w))) b ≡ w)
two_words m a b v w sizes ha hb sv sw apart =
    let s1 : HasSizes (with_bytes m a (low_bytes 4 v)) = bytes_keep_sizes m a (low_bytes 4 v) sizes in (
      same_word (with_bytes m a (low_bytes 4 v)) b w a s1 hb ∙ (word_at-other (byte_at (with_bytes m a (low_bytes 4 v))) b w a (⊎_elim (λ p. inr p) (λ p. inl p) apart) ∙ (same_word m a v a sizes ha ∙ word_at-same (byte_at m) a v sv)),
      same_word (with_bytes m a (low_bytes 4 v)) b w b s1 hb ∙ word_at-same (byte_at (with_bytes m a (low_bytes 4 v))) b w sw,
    )

pub opening_links : (segments : List Segment) (r q : Range) → IsStack r → IsStack q → (r.hi ≤ q.lo) ⊎ (q.hi ≤ r.lo)
    → (word (byte_at (opening_memory segments ((r.hi - 76, r.hi) ∷ (q.hi - 76, q.hi) ∷ []))) (r.hi - 76) ≡ r.hi) × (word (byte_at (opening_memory segments ((r.hi - 76, r.hi) ∷ (q.hi - 76, q.hi) ∷ []))) (q.hi - 76) ≡ q.hi)
unfolding opening_memory
opening_links segments r q i j apart =
    let sizes : HasSizes (with_segments cleared_memory segments) = segments_keep_sizes cleared_memory segments cleared_has_sizes in
    let rr = i.room in let qr = j.room in let rh = i.high in let qh = j.high in
    two_words (with_segments cleared_memory segments) (r.hi - 76) (q.hi - 76) r.hi q.hi sizes (link_access r i) (link_access q j) (omega arith) (omega arith)
    (⊎_elim (λ p. inl (omega arith)) (λ p. inr (omega arith)) apart)

-- ---- memory is of bytes
zero_is : (n i : ℕ) → get_or (zeros n) i 0 ≡ 0
unfolding zeros
zero_is n i = ⊎_elim (λ h. get_or-replicate {A = ℕ} n i 0 0 h) (λ h. let zs : List ℕ = replicate n 0 in get_or_past zs i 0 (let l = length-replicate {A = ℕ} n 0 in omega arith)) (cases_lt i n)

zero_small : (n i : ℕ) → get_or (zeros n) i 0 < 256
zero_small n i = let e = zero_is n i in omega (arith, e)

cleared_small : (a : ℕ) → byte_at cleared_memory a < 256
unfolding byte_at cleared_memory
cleared_small a = in_region (region_of a)
  where
    in_region : (r : Option Region) → byte_in r cleared_memory a < 256
    in_region (Some RtcFastData) = zero_small 8192 (a - 0x3FF80000)
    in_region (Some Dram) = zero_small 335872 (a - 0x3FFAE000)
    in_region (Some RtcSlow) = zero_small 8192 (a - 0x50000000)
    in_region _ = omega arith

bytes_memory : (bs : List ℕ) (m : MemoryContents) (a : ℕ) → ((k : ℕ) → get_or bs k 0 < 256) → IsMemory m → IsMemory (with_bytes m a bs)
bytes_memory [] m a small i = i
bytes_memory (b ∷ bs) m a small i = bytes_memory bs (with_byte m a b) (a + 1) (λ k. small (suc k)) (record { sizes = byte_keeps_sizes m a b i.sizes; small = λ x. put_small m a b x i (small 0) })

if_memory : (b : Bool) (m n : MemoryContents) → IsMemory m → IsMemory n → IsMemory (cond b m n)
if_memory true m n i j = i
if_memory false m n i j = j

segments_memory : (segments : List Segment) (m : MemoryContents) → AreSmall segments → IsMemory m → IsMemory (with_segments m segments)
segments_memory [] m small i = i
segments_memory (s ∷ rest) m small i = segments_memory rest (cond (is_loaded s) (with_bytes m s.addr s.bytes) m) small.1 (if_memory (is_loaded s) (with_bytes m s.addr s.bytes) m (bytes_memory s.bytes m s.addr small.0 i) i)

pub opening_is_memory : (segments : List Segment) (r q : Range) → AreSmall segments → IsMemory (opening_memory segments ((r.hi - 76, r.hi) ∷ (q.hi - 76, q.hi) ∷ []))
unfolding opening_memory
opening_is_memory segments r q small =
    let i : IsMemory (with_segments cleared_memory segments) = segments_memory segments cleared_memory small (record { sizes = cleared_has_sizes; small = cleared_small }) in
    low_memory 4 q.hi (with_bytes (with_segments cleared_memory segments) (r.hi - 76) (low_bytes 4 r.hi)) (q.hi - 76) (low_memory 4 r.hi (with_segments cleared_memory segments) (r.hi - 76) i)
