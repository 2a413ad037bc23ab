-- What is kept past one more entry.
use Rattle.std.proofs.Common.{◌≡◌, ℕ, zero, suc, ◌+◌, ◌<◌, Bool, true, false, ◌&&◌, ◌||◌, not, cond, Option, Some, List, refl, sym, ap, ap₂, ◌∙◌, arith}
use Rattle.std.specs.Prelude.{max, nat_lt, slice_get}
use Rattle.xt_map.specs.Regions.{region_of, is_memory}
use Rattle.xt_race.specs.declared.event.Event.{Event}
use Rattle.xt_race.specs.declared.finder.Finder.{Finder}
use Rattle.xt_race.specs.declared.latest.Latest.{Latest}
use Rattle.xt_race.specs.declared.latest.Mark.{Mark}
use Rattle.xt_race.specs.declared.latest.Note.{Note}
use Rattle.xt_race.specs.declared.marks.Marks.{Marks}
use Rattle.xt_race.specs.declared.releases.Releases.{Releases}
use Rattle.xt_race.specs.Races.{acquires, synchronises, touches_byte, writes}
use Rattle.xt_race.specs.Tables.{IsNoted, acquired_by, is_side, mark_at, note_of, mark_after_note, other, released_at, rival_of, seen_in, some_byte, with_seen}
use Rattle.xt_race.specs.Found.{IsTaken, Knows, is_plain, later, latest, latest_mark, meets, releases_at, acquired_count, seen_past}

-- ---- marks

abbrev past_side : Bool → Bool → Bool → Bool → ℕ → Latest → Latest
past_side d t s w k l = record {
  any = cond (d && t) k l.any;
  plain = cond ((d && t) && not s) k l.plain;
  write = cond ((d && t) && w) k l.write;
  plain_write = cond ((d && t) && (not s && w)) k l.plain_write;
}

abbrev past_mark : ℕ → Bool → Bool → Bool → ℕ → Mark → Mark
past_mark c t s w k m = record { zero = past_side (is_side 0 c) t s w k m.zero; one = past_side (is_side 1 c) t s w k m.one }

abbrev note : ℕ → Bool → Bool → ℕ → Note
note c s w k = record { core = c; writes = w; plain = not s; upto = k }

noted_past : (c : ℕ) (t s w : Bool) (k : ℕ) (m : Mark) → c < 2 → cond t (mark_after_note (note c s w k) m) m ≡ past_mark c t s w k m
noted_past zero true true true k m low = refl
noted_past zero true true false k m low = refl
noted_past zero true false true k m low = refl
noted_past zero true false false k m low = refl
noted_past zero false s w k m low = refl
noted_past (suc zero) true true true k m low = refl
noted_past (suc zero) true true false k m low = refl
noted_past (suc zero) true false true k m low = refl
noted_past (suc zero) true false false k m low = refl
noted_past (suc zero) false s w k m low = refl
noted_past (suc (suc c)) t s w k m low = absurd (omega arith)

abbrev latest_past : ℕ → ℕ → List Event → ℕ → Option Event → Latest
latest_past c a es n o = record {
  any = later (λ e. meets c a e) o n (latest (λ e. meets c a e) es n);
  plain = later (λ e. meets c a e && is_plain e) o n (latest (λ e. meets c a e && is_plain e) es n);
  write = later (λ e. meets c a e && writes e) o n (latest (λ e. meets c a e && writes e) es n);
  plain_write = later (λ e. meets c a e && (is_plain e && writes e)) o n (latest (λ e. meets c a e && (is_plain e && writes e)) es n);
}

abbrev marked_past : List Event → ℕ → ℕ → Option Event → Mark
marked_past es n a o = record { zero = latest_past 0 a es n o; one = latest_past 1 a es n o }

marked_more : (es : List Event) (n a : ℕ) (e : Event) (x : Mark) → slice_get es n ≡ Some e → e.entry.core < 2
    → x ≡ cond (touches_byte e a && is_memory (region_of a)) (mark_after_note (note_of e (suc n)) (latest_mark es n a)) (latest_mark es n a) → x ≡ latest_mark es (suc n) a
marked_more es n a e x at low is =
    let t : Bool = touches_byte e a && is_memory (region_of a) in
    let m : Mark = latest_mark es n a in
    let one : cond t (mark_after_note (note_of e (suc n)) m) m ≡ past_mark e.entry.core t (synchronises e) (writes e) (suc n) m = noted_past e.entry.core t (synchronises e) (writes e) (suc n) m low in
    let two : marked_past es n a (slice_get es n) ≡ marked_past es n a (Some e) = ap (marked_past es n a) at in
    is ∙ one ∙ sym two

-- ---- releases

released_more : (es : List Event) (n c q : ℕ) (e : Event) (x : ℕ) → slice_get es n ≡ Some e → x ≡ cond (releases_at c q e) (suc n) (latest (releases_at c q) es n) → x ≡ latest (releases_at c q) es (suc n)
released_more es n c q e x at is = is ∙ sym (ap (λ (o : Option Event). later (releases_at c q) o n (latest (releases_at c q) es n)) at)

-- ---- what was acquired

seen_more : (c : ℕ) (es : List Event) (n : ℕ) (e : Event) → slice_get es n ≡ Some e
    → acquired_count c es (suc n) ≡ cond (is_side c e.entry.core && acquires e) (max (acquired_count c es n) (latest (releases_at (other c) e.entry.access.addr) es n)) (acquired_count c es n)
seen_more c es n e at = ap (seen_past c (λ addr. latest (releases_at (other c) addr) es n) (acquired_count c es n)) at

gained : (c k : ℕ) (t : Bool) (addr : ℕ) (es : List Event) (n : ℕ) (f : Finder) → Knows f es n → k ≡ c → c < 2
    → cond t (max (seen_in f c) (released_at f.releases (other c) addr)) (seen_in f c) ≡ cond (is_side c k && t) (max (acquired_count c es n) (latest (releases_at (other c) addr) es n)) (acquired_count c es n)
gained zero k t addr es n f h e low =
    ap₂ (λ (s r : ℕ). cond t (max s r) s) h.seen0 (h.releases1 addr)
    ∙ sym (ap (λ (i : ℕ). cond (is_side 0 i && t) (max (acquired_count 0 es n) (latest (releases_at 1 addr) es n)) (acquired_count 0 es n)) e)
gained (suc zero) k t addr es n f h e low =
    ap₂ (λ (s r : ℕ). cond t (max s r) s) h.seen1 (h.releases0 addr)
    ∙ sym (ap (λ (i : ℕ). cond (is_side 1 i && t) (max (acquired_count 1 es n) (latest (releases_at 0 addr) es n)) (acquired_count 1 es n)) e)
gained (suc (suc c)) k t addr es n f h e low = absurd (omega arith)

acquired_is : (es : List Event) (n : ℕ) (e : Event) (f : Finder) → Knows f es n → slice_get es n ≡ Some e → e.entry.core < 2 → acquired_by f e ≡ acquired_count e.entry.core es (suc n)
acquired_is es n e f h at low =
    gained e.entry.core e.entry.core (acquires e) e.entry.access.addr es n f h refl low ∙ sym (seen_more e.entry.core es n e at)

seen_kept : (c k : ℕ) (es : List Event) (n : ℕ) (e : Event) → slice_get es n ≡ Some e → e.entry.core ≡ k → is_side c k ≡ false → acquired_count c es n ≡ acquired_count c es (suc n)
seen_kept c k es n e at is out =
    let b : Bool = is_side c e.entry.core in
    let off : b ≡ false = ap (is_side c) is ∙ out in
    sym (seen_more c es n e at ∙ ap (λ (t : Bool). cond (t && acquires e) (max (acquired_count c es n) (latest (releases_at (other c) e.entry.access.addr) es n)) (acquired_count c es n)) off)

seens : (c s : ℕ) (es : List Event) (n : ℕ) (e : Event) (f : Finder) → slice_get es n ≡ Some e → e.entry.core ≡ c → c < 2 → s ≡ acquired_count c es (suc n) → f.seen0 ≡ acquired_count 0 es n → f.seen1 ≡ acquired_count 1 es n
    → ((with_seen c s f).seen0 ≡ acquired_count 0 es (suc n)) × ((with_seen c s f).seen1 ≡ acquired_count 1 es (suc n))
seens zero s es n e f at is low here zero_is one_is = (here, one_is ∙ seen_kept 1 0 es n e at is refl)
seens (suc zero) s es n e f at is low here zero_is one_is = (zero_is ∙ seen_kept 0 1 es n e at is refl, here)
seens (suc (suc c)) s es n e f at is low here zero_is one_is = absurd (omega arith)

rest_kept : (c s : ℕ) (f : Finder) → ((with_seen c s f).marks ≡ f.marks) × ((with_seen c s f).releases ≡ f.releases)
rest_kept zero s f = (refl, refl)
rest_kept (suc c) s f = (refl, refl)

-- ---- all

some_same : (f g : ℕ → Bool) → ((a : ℕ) → f a ≡ g a) → (addr n : ℕ) → some_byte f addr n ≡ some_byte g addr n
some_same f g h addr zero = refl
some_same f g h addr (suc n) = ap₂ (λ (x y : Bool). x || y) (h addr) (some_same f g h (addr + 1) n)

up_is : (upto count n : ℕ) → upto ≡ count + 1 → count ≡ n → upto ≡ suc n
up_is upto count n h e = omega arith

pub taken : (old mid new : Finder) (es : List Event) (n : ℕ) (e : Event) (upto s : ℕ) (found : Bool) → Knows old es n → slice_get es n ≡ Some e → e.entry.core < 2
    → upto ≡ old.count + 1 → s ≡ acquired_by old e
    → found ≡ some_byte (λ a. nat_lt s (rival_of (note_of e upto) (mark_at old.marks a))) e.entry.access.addr e.entry.access.size
    → IsNoted (note_of e upto) e.entry.access.addr e.entry.access.size old.marks mid.marks
    → ((c q : ℕ) → released_at mid.releases c q ≡ cond (releases_at c q e) upto (released_at old.releases c q))
    → mid.seen0 ≡ old.seen0 → mid.seen1 ≡ old.seen1
    → new ≡ record (with_seen e.entry.core s mid) { count = upto }
    → IsTaken es n e new (record { hit = found; seen = s })
taken old mid new es n e upto s found h at low up acq hit marks rel same0 same1 is =
    let c : ℕ = e.entry.core in
    let next : upto ≡ suc n = up_is upto old.count n up h.count in
    let seen_is : s ≡ acquired_count c es (suc n) = acq ∙ acquired_is es n e old h at low in
    let last : Finder = with_seen c s mid in
    let both = seens c s es n e mid at refl low seen_is (same0 ∙ h.seen0) (same1 ∙ h.seen1) in
    let rest = rest_kept c s mid in
    let mark_is : (a : ℕ) → mark_at mid.marks a ≡ latest_mark es (suc n) a = λ a.
    marked_more es n a e (mark_at mid.marks a) at low
    (marks a ∙ ap₂ (λ (k : ℕ) (m : Mark). cond (touches_byte e a && is_memory (region_of a)) (mark_after_note (note_of e k) m) m) next (h.marks a)) in
    let rel_is : (d q b : ℕ) → released_at old.releases d q ≡ b → b ≡ latest (releases_at d q) es n → released_at mid.releases d q ≡ latest (releases_at d q) es (suc n) = λ d q b x y.
    released_more es n d q e (released_at mid.releases d q) at (rel d q ∙ ap₂ (λ (k i : ℕ). cond (releases_at d q e) k i) next (x ∙ y)) in
    record {
      knows = record {
        count = ap (λ (f : Finder). f.count) is ∙ next;
        marks = λ a. ap (λ (f : Finder). mark_at f.marks a) is ∙ ap (λ (m : Marks). mark_at m a) rest.0 ∙ mark_is a;
        releases0 = λ q. ap (λ (f : Finder). released_at f.releases 0 q) is ∙ ap (λ (r : Releases). released_at r 0 q) rest.1 ∙ rel_is 0 q _ refl (h.releases0 q);
        releases1 = λ q. ap (λ (f : Finder). released_at f.releases 1 q) is ∙ ap (λ (r : Releases). released_at r 1 q) rest.1 ∙ rel_is 1 q _ refl (h.releases1 q);
        seen0 = ap (λ (f : Finder). f.seen0) is ∙ both.0;
        seen1 = ap (λ (f : Finder). f.seen1) is ∙ both.1;
      };
      hit_is = hit ∙ some_same _ _ (λ a. ap₂ (λ (i : ℕ) (m : Mark). nat_lt i (rival_of (note_of e upto) m)) seen_is (h.marks a)) e.entry.access.addr e.entry.access.size;
      seen_is = seen_is;
    }
