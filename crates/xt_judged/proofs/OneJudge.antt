-- A judge of one core sees what the judge of both sees, if the core does not come to the other core's stack.
use Rattle.std.proofs.Common.{◌≡◌, ℕ, zero, suc, ◌+◌, ◌<◌, ◌≤◌, ◌⊎◌, inl, inr, ⊎_elim, Bool, true, false, cond, not, ◌&&◌, ◌||◌, nat_le, nat_lt, Option, Some, None, refl, sym, ap, ◌∙◌, subst, arith}
use Rattle.std.proofs.lemmas.Bool.{and_from, and_parts, false_from_ne_true, leb-true, lt-ltb, ltb-true, true≢false}
use Rattle.xt_map.specs.declared.access.Access.{Access}
use Rattle.xt_map.specs.Touching.{is_load, is_store, touches}
use Rattle.xt_trace.specs.declared.record.StepRecord.{StepRecord}
use Rattle.xt_frames.specs.Frames.{FrameState}
use Rattle.xt_frames.specs.SaveAreas.{Range, is_live}
use Rattle.xt_frames.specs.Breaches.{Bounds, loads_stale, some_byte, stale_after, stores_at, touches_save_area}
use Rattle.xt_frames.specs.Judging.{Standing, Seen, Handled, Judges, Breaks, live_of, seen_record}
use Rattle.xt_judged.specs.OwnJudges.{Judge, comes_to, goes, is_within, judge_past, judge_seen, with_known}
use Rattle.xt_judged.specs.declared.watched.Fate.TheVariants as fate
use Rattle.xt_judged.proofs.Quiet.{IsLike, seen_like}
use Rattle.xt_judged.proofs.Within.{In, live_in}

-- ---- one byte

-- live after, live before, live for the other core, stale here, stale there, stored
mix : (l k o s t w : Bool) → (o ≡ true → (l ≡ false) × (k ≡ false) × (s ≡ false)) → (t ≡ true → (l ≡ false) × (k ≡ false) × (s ≡ false) × (w ≡ false) × (o ≡ false))
    → (not (l || o) && ((k || o) || ((s || t) && not w))) ≡ ((not (l || false) && ((k || false) || (s && not w))) || t)
mix l k true s true w h i = absurd (true≢false (i refl).4)
mix true k true s false w h i = absurd (true≢false (h refl).0)
mix false true true s false w h i = absurd (true≢false (h refl).1)
mix false false true true false w h i = absurd (true≢false (h refl).2)
mix false false true false false w h i = refl
mix true k false s true w h i = absurd (true≢false (i refl).0)
mix false true false s true w h i = absurd (true≢false (i refl).1)
mix false false false true true w h i = absurd (true≢false (i refl).2)
mix false false false false true true h i = absurd (true≢false (i refl).3)
mix false false false false true false h i = refl
mix true k false s false w h i = refl
mix false true false s false w h i = refl
mix false false false true false true h i = refl
mix false false false true false false h i = refl
mix false false false false false w h i = refl

-- a byte that is stale after a step was live or stale before it, and is not live
not_live : (l k s w : Bool) → (not (l || false) && ((k || false) || (s && not w))) ≡ true → l ≡ false
not_live true k s w h = absurd (true≢false (sym h))
not_live false k s w h = refl

was_there : (l k s w : Bool) → (not (l || false) && ((k || false) || (s && not w))) ≡ true → (k ≡ true) ⊎ (s ≡ true)
was_there l true s w h = inl refl
was_there l false true w h = inr refl
was_there true false false w h = absurd (true≢false (sym h))
was_there false false false w h = absurd (true≢false (sym h))

-- ---- bytes that an access touches

same_some : (f g : ℕ → Bool) (addr n : ℕ) → ((a : ℕ) → addr ≤ a → a < addr + n → f a ≡ g a) → some_byte f addr n ≡ some_byte g addr n
same_some f g addr zero h = refl
same_some f g addr (suc n) h =
    let here : f addr ≡ g addr = h addr (omega arith) (omega arith) in
    let rest : some_byte f (addr + 1) n ≡ some_byte g (addr + 1) n = same_some f g (addr + 1) n (λ a lo up. h a (omega (arith, lo)) (omega (arith, up))) in
    λ i. here i || rest i

outside : (r : Range) (x : Access) (a : ℕ) → comes_to r (Some x) ≡ false → x.addr ≤ a → a < x.addr + x.size → In r a → ⊥
outside r x a e lo up h =
    let low : r.lo ≤ a = h.0 in
    let high : a < r.hi = h.1 in
    let there : comes_to r (Some x) ≡ true = and_from (nat_lt x.addr r.hi) (nat_lt r.lo (x.addr + x.size)) (lt-ltb x.addr r.hi (omega (arith, lo, high))) (lt-ltb r.lo (x.addr + x.size) (omega (arith, low, up))) in
    true≢false (sym there ∙ e)

store_outside : (r : Range) (access : Option Access) (a : ℕ) → comes_to r access ≡ false → In r a → stores_at access a ≡ false
store_outside r None a e h = refl
store_outside r (Some x) a e h = false_from_ne_true (is_store x.kind && touches x.addr x.size a) (λ t.
    let p = and_parts (is_store x.kind) (touches x.addr x.size a) t in
    let q = and_parts (nat_le x.addr a) (nat_lt a (x.addr + x.size)) p.1 in
    outside r x a e (leb-true x.addr a q.0) (ltb-true a (x.addr + x.size) q.1) h)

-- ---- both judges

or_none : (x y : Bool) → y ≡ false → (x || y) ≡ (x || false)
or_none x y e = ap (λ (z : Bool). x || z) e

or_nothing : (x y : Bool) → y ≡ false → (x || y) ≡ x
or_nothing true y e = refl
or_nothing false y e = e

abbrev pub none : ℕ → Bool
none a = false

-- what the other core has, bytes that are live for it and bytes that it left stale, lies in its stack
module _ (b : Bounds) (r : Range) (others rest : ℕ → Bool) (stale own : ℕ → Bool) (access : Option Access)
    (theirs : (a : ℕ) → others a ≡ true → In r a) (left : (a : ℕ) → rest a ≡ true → In r a) (both : (a : ℕ) → stale a ≡ (own a || rest a)) (spares : comes_to r access ≡ false) where
  module _ (f : FrameState) where
    other_none : (x : Access) (a : ℕ) → comes_to r (Some x) ≡ false → x.addr ≤ a → a < x.addr + x.size → live_of b f others a ≡ live_of b f none a
    other_none x a e lo up = or_none (is_live b.range f a) (others a) (false_from_ne_true (others a) (λ t. outside r x a e lo up (theirs a t)))

    stale_own : (x : Access) (a : ℕ) → comes_to r (Some x) ≡ false → x.addr ≤ a → a < x.addr + x.size → stale a ≡ own a
    stale_own x a e lo up = both a ∙ or_nothing (own a) (rest a) (false_from_ne_true (rest a) (λ t. outside r x a e lo up (left a t)))

    saves_by : (access : Option Access) → comes_to r access ≡ false → touches_save_area (live_of b f others) access ≡ touches_save_area (live_of b f none) access
    saves_by None e = refl
    saves_by (Some x) e = ap (λ (t : Bool). not (is_load x.kind) && t) (same_some (live_of b f others) (live_of b f none) x.addr x.size (λ a lo up. other_none x a e lo up))

    loads_by : (access : Option Access) → comes_to r access ≡ false → loads_stale (live_of b f others) stale access ≡ loads_stale (live_of b f none) own access
    loads_by None e = refl
    loads_by (Some x) e =
        let p = same_some stale own x.addr x.size (λ a lo up. stale_own x a e lo up) in
        let q = same_some (live_of b f others) (live_of b f none) x.addr x.size (λ a lo up. other_none x a e lo up) in
        λ i. not (is_store x.kind) && (p i || (is_load x.kind && q i))

    pub same_saves : touches_save_area (live_of b f others) access ≡ touches_save_area (live_of b f none) access
    same_saves = saves_by access spares

    pub same_loads : loads_stale (live_of b f others) stale access ≡ loads_stale (live_of b f none) own access
    same_loads = loads_by access spares

  module _ (apart : (a : ℕ) → In b.range a → In r a → ⊥) (dead : (a : ℕ) → rest a ≡ true → others a ≡ false) (inside : (a : ℕ) → own a ≡ true → In b.range a)
      (f g : FrameState) (before : is_within b.range f ≡ true) (after : is_within b.range g ≡ true) where
    abbrev own_after : ℕ → Bool
    own_after a = stale_after (live_of b g none) (live_of b f none) own access a

    own_live : (h : FrameState) (a : ℕ) → is_within b.range h ≡ true → In r a → is_live b.range h a ≡ false
    own_live h a w i = false_from_ne_true (is_live b.range h a) (λ t. apart a (live_in b.range h a w t) i)

    own_stale : (a : ℕ) → In r a → own a ≡ false
    own_stale a i = false_from_ne_true (own a) (λ t. apart a (inside a t) i)

    pub both_after : (a : ℕ) → stale_after (live_of b g others) (live_of b f others) stale access a ≡ (own_after a || rest a)
    both_after a =
        ap (λ (s : Bool). not (live_of b g others a) && (live_of b f others a || (s && not (stores_at access a)))) (both a)
        ∙ mix (is_live b.range g a) (is_live b.range f a) (others a) (own a) (rest a) (stores_at access a)
        (λ t. let i = theirs a t in (own_live g a after i, own_live f a before i, own_stale a i))
        (λ t. let i = left a t in (own_live g a after i, own_live f a before i, own_stale a i, store_outside r access a spares i, dead a t))

    pub inside_after : (a : ℕ) → own_after a ≡ true → In b.range a
    inside_after a h = ⊎_elim
        (λ (l : is_live b.range f a ≡ true). live_in b.range f a before l)
        (λ (s : own a ≡ true). inside a s)
        (was_there (is_live b.range g a) (is_live b.range f a) (own a) (stores_at access a) h)

    pub dead_after : (a : ℕ) → own_after a ≡ true → is_live b.range g a ≡ false
    dead_after a h = not_live (is_live b.range g a) (is_live b.range f a) (own a) (stores_at access a) h

-- ---- one record

-- what is known of the core past it, if it shows no breach
abbrev pub standing_past : Seen → Standing → Standing
standing_past (Handled st) old = st
standing_past (Judges st stale) old = st
standing_past (Breaks kind) old = old

abbrev pub stale_past : Seen → (ℕ → Bool) → ℕ → Bool
stale_past (Handled st) old = old
stale_past (Judges st stale) old = stale
stale_past (Breaks kind) old = old

abbrev pub is_calm : Seen → Bool
is_calm (Handled st) = true
is_calm (Judges st stale) = true
is_calm (Breaks kind) = false

-- the judge of one core knows what it can know of its core
pub record IsSound (r : Range) (j : Judge) : Type 0 where
  pub within : is_within j.bounds.range j.standing.frame ≡ true
  pub inside : (a : ℕ) → j.stale a ≡ true → In j.bounds.range a
  pub dead : (a : ℕ) → j.stale a ≡ true → is_live j.bounds.range j.standing.frame a ≡ false
  pub apart : (a : ℕ) → In j.bounds.range a → In r a → ⊥

-- it sees the same as the judge of both, past which it stands as that
pub record IsNext (r : Range) (j new : Judge) (seen : Seen) (rest stale : ℕ → Bool) : Type 0 where
  pub calm : is_calm seen ≡ true
  pub standing : standing_past seen j.standing ≡ new.standing
  pub bytes : (a : ℕ) → stale_past seen stale a ≡ (new.stale a || rest a)
  pub sound : IsSound r new
  pub bounds : new.bounds ≡ j.bounds

abbrev crossed : Judge → Judge
crossed j = record j { fate = fate.Crossed }

chosen_goes : (c : Bool) (j k : Judge) → goes (cond c (crossed j) k).fate ≡ true → c ≡ false
chosen_goes true j k h = absurd (true≢false (sym h))
chosen_goes false j k h = refl

known_goes : (st : Standing) (stale : ℕ → Bool) (j : Judge) (w : Bool) → is_within j.bounds.range st.frame ≡ w → goes (with_known st stale j).fate ≡ true
    → (w ≡ true) × (with_known st stale j ≡ record { standing = st; bounds = j.bounds; stale = stale; fate = j.fate })
known_goes st stale j true e h = (refl, ap (λ (b : Bool). let k : Judge = cond b (record { standing = st; bounds = j.bounds; stale = stale; fate = j.fate }) (crossed j) in k) e)
known_goes st stale j false e h =
    absurd (true≢false (sym h ∙ ap (λ (b : Bool). let k : Judge = cond b (record { standing = st; bounds = j.bounds; stale = stale; fate = j.fate }) (crossed j) in goes k.fate) e))

module _ (code : ℕ → ℕ) (r : Range) (c : ℕ) (j : Judge) (sound : IsSound r j) (others rest stale : ℕ → Bool) (rec : StepRecord)
    (theirs : (a : ℕ) → others a ≡ true → In r a) (left : (a : ℕ) → rest a ≡ true → In r a) (dead : (a : ℕ) → rest a ≡ true → others a ≡ false)
    (both : (a : ℕ) → stale a ≡ (j.stale a || rest a)) (goes_on : goes (judge_past code r c j rec).fate ≡ true) where
  abbrev alone : Seen
  alone = seen_record code j.bounds j.standing none j.stale rec

  spares : comes_to r rec.access ≡ false
  spares = chosen_goes (comes_to r rec.access) j (judge_seen c rec j alone) goes_on

  past_is : judge_past code r c j rec ≡ judge_seen c rec j alone
  past_is = ap (λ (b : Bool). let k : Judge = cond b (crossed j) (judge_seen c rec j alone) in k) spares

  seen_goes : goes (judge_seen c rec j alone).fate ≡ true
  seen_goes = sym (ap (λ (k : Judge). goes k.fate) past_is) ∙ goes_on

  saves : touches_save_area (live_of j.bounds j.standing.frame others) rec.access ≡ touches_save_area (live_of j.bounds j.standing.frame none) rec.access
  saves = same_saves j.bounds r others rest stale j.stale rec.access theirs left both spares j.standing.frame

  loads : loads_stale (live_of j.bounds j.standing.frame others) stale rec.access ≡ loads_stale (live_of j.bounds j.standing.frame none) j.stale rec.access
  loads = same_loads j.bounds r others rest stale j.stale rec.access theirs left both spares j.standing.frame

  by_both : (s t : Seen) → IsLike code j.bounds j.standing others stale none j.stale rec saves loads s t → goes (judge_seen c rec j t).fate ≡ true → IsNext r j (judge_seen c rec j t) s rest stale
  by_both (Handled st) (Handled su) h g =
      let k = known_goes su j.stale j (is_within j.bounds.range su.frame) refl g in
      let new : Judge = record { standing = su; bounds = j.bounds; stale = j.stale; fate = j.fate } in
      subst (λ (n : Judge). IsNext r j n (Handled st) rest stale) (sym k.1) (record {
        calm = refl;
        standing = h.0;
        bytes = both;
        sound = record {
          within = k.0;
          inside = sound.inside;
          dead = λ a t. ap (λ (f : FrameState). is_live j.bounds.range f a) h.1 ∙ sound.dead a t;
          apart = sound.apart;
        };
        bounds = refl;
      })
  by_both (Judges st x) (Judges su y) h g =
      let k = known_goes su y j (is_within j.bounds.range su.frame) refl g in
      let within : is_within j.bounds.range su.frame ≡ true = k.0 in
      let f = j.standing.frame in
      subst (λ (n : Judge). IsNext r j n (Judges st x) rest stale) (sym k.1) (record {
        calm = refl;
        standing = h.0;
        bytes = λ a.
            ap (λ (z : ℕ → Bool). z a) h.1
            ∙ both_after j.bounds r others rest stale j.stale rec.access theirs left both spares sound.apart dead sound.inside f su.frame sound.within within a
            ∙ sym (ap (λ (z : ℕ → Bool). z a || rest a) h.2);
        sound = record {
          within = within;
          inside = λ a t. inside_after j.bounds r others rest stale j.stale rec.access theirs left both spares sound.apart dead sound.inside f su.frame sound.within within a (sym (ap (λ (z : ℕ → Bool). z a) h.2) ∙ t);
          dead = λ a t. dead_after j.bounds r others rest stale j.stale rec.access theirs left both spares sound.apart dead sound.inside f su.frame sound.within within a (sym (ap (λ (z : ℕ → Bool). z a) h.2) ∙ t);
          apart = sound.apart;
        };
        bounds = refl;
      })
  by_both (Breaks k) (Breaks l) h g = absurd (true≢false (sym g))
  by_both (Handled st) (Judges su y) h g = absurd h
  by_both (Handled st) (Breaks l) h g = absurd h
  by_both (Judges st x) (Handled su) h g = absurd h
  by_both (Judges st x) (Breaks l) h g = absurd h
  by_both (Breaks k) (Handled su) h g = absurd h
  by_both (Breaks k) (Judges su y) h g = absurd h

  pub next_is : IsNext r j (judge_past code r c j rec) (seen_record code j.bounds j.standing others stale rec) rest stale
  next_is =
      subst (λ (n : Judge). IsNext r j n (seen_record code j.bounds j.standing others stale rec) rest stale) (sym past_is)
      (by_both (seen_record code j.bounds j.standing others stale rec) alone (seen_like code j.bounds j.standing others stale none j.stale rec saves loads) seen_goes)
