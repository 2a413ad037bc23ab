-- What is known of the bytes, past a judged step.
use Rattle.std.proofs.Common.{◌≡◌, ℕ, zero, suc, Bool, true, false, not, ◌||◌, ◌&&◌, leb, ltb, cond, List, length, ◌+◌, Option, Some, None, refl, sym, ◌∙◌, ap}
use Rattle.std.proofs.lemmas.Bool.{true≢false, and_right, cond-false}
use Rattle.xt_map.specs.declared.access.Access.{Access}
use Rattle.xt_map.specs.Touching.{is_load, is_store}
use Rattle.xt_frames.specs.Breaches.{loads_stale, some_byte, stale_after, stores_at, touches_save_area}
use Rattle.xt_discipline.specs.declared.bytes.Held.{Held}
use Rattle.xt_discipline.specs.declared.bytes.Change.{Change}
use Rattle.xt_discipline.specs.declared.bytes.Change.TheVariants.{Enters, Leaves, Stored}
use Rattle.xt_discipline.specs.ByteMarks.{Agrees, AreChanged, KnowsOf, byte_after_change, either, first, held_at, is_marked, other_live, own_live}
use Rattle.xt_discipline.proofs.Marks.{some_same}

-- ---- the marks as a core and as the other one sees them
or_turned : (x y : Bool) → (x || y) ≡ (y || x)
or_turned true true = refl
or_turned true false = refl
or_turned false true = refl
or_turned false false = refl

pub turned : (marks : List Held) (own others stale : ℕ → Bool) → KnowsOf 0 marks own others stale → KnowsOf 1 marks others own stale
turned marks own others stale k = record {
  own_is = k.others_is;
  others_is = k.own_is;
  stale_is = k.stale_is;
  fresh = λ a e. k.fresh a (or_turned (own a) (others a) ∙ e);
}

pub turned_back : (marks : List Held) (own others stale : ℕ → Bool) → KnowsOf 1 marks own others stale → KnowsOf 0 marks others own stale
turned_back marks own others stale k = record {
  own_is = k.others_is;
  others_is = k.own_is;
  stale_is = k.stale_is;
  fresh = λ a e. k.fresh a (or_turned (own a) (others a) ∙ e);
}

-- ---- a change is made twice
pub twice : (change : Change) (h : Held) → byte_after_change change (byte_after_change change h) ≡ byte_after_change change h
twice (Enters zero) h = refl
twice (Enters (suc core)) h = refl
twice (Leaves zero) h = refl
twice (Leaves (suc core)) h = refl
twice Stored h = refl

over_two : (t u b : Bool) (f : Held → Held) (x y z : Held) → ((h : Held) → f (f h) ≡ f h) → y ≡ cond (t && b) (f x) x → z ≡ cond (u && b) (f y) y → z ≡ cond ((t || u) && b) (f x) x
over_two true true true f x y z i p q = q ∙ (ap f p ∙ i x)
over_two true true false f x y z i p q = q ∙ p
over_two true false true f x y z i p q = q ∙ p
over_two true false false f x y z i p q = q ∙ p
over_two false true true f x y z i p q = q ∙ ap f p
over_two false true false f x y z i p q = q ∙ p
over_two false false true f x y z i p q = q ∙ p
over_two false false false f x y z i p q = q ∙ p

pub both_changed : (change : Change) (t u : ℕ → Bool) (old mid new : List Held) → length mid ≡ length old → AreChanged change t old mid → AreChanged change u mid new → AreChanged change (λ a. t a || u a) old new
both_changed change t u old mid new len h g a =
    let same : is_marked mid a ≡ is_marked old a = ap (λ (n : ℕ). leb first a && ltb a (first + n)) len in
    let q : held_at new a ≡ cond (u a && is_marked old a) (byte_after_change change (held_at mid a)) (held_at mid a) =
    g a ∙ ap (λ (b : Bool). cond (u a && b) (byte_after_change change (held_at mid a)) (held_at mid a)) same in
    over_two (t a) (u a) (is_marked old a) (byte_after_change change) (held_at old a) (held_at mid a) (held_at new a) (twice change) (h a) q

-- ---- a judged store
unmarked : (marks : List Held) (a : ℕ) → is_marked marks a ≡ false → (held_at marks a).stale ≡ false
unmarked marks a e = ap (λ (h : Held). h.stale) (cond-false (is_marked marks a) _ _ e)

and_true : (x : Bool) → x ≡ (x && true)
and_true true = refl
and_true false = refl

stored_own : (core : ℕ) (t m : Bool) (h : Held) → own_live core (cond (t && m) (byte_after_change Stored h) h) ≡ own_live core h
stored_own zero true true h = refl
stored_own zero true false h = refl
stored_own zero false m h = refl
stored_own (suc core) true true h = refl
stored_own (suc core) true false h = refl
stored_own (suc core) false m h = refl

stored_other : (core : ℕ) (t m : Bool) (h : Held) → other_live core (cond (t && m) (byte_after_change Stored h) h) ≡ other_live core h
stored_other zero true true h = refl
stored_other zero true false h = refl
stored_other zero false m h = refl
stored_other (suc core) true true h = refl
stored_other (suc core) true false h = refl
stored_other (suc core) false m h = refl

stored_stale : (t m : Bool) (h : Held) → (m ≡ false → h.stale ≡ false) → (cond (t && m) (byte_after_change Stored h) h).stale ≡ (h.stale && not t)
stored_stale true true h e = sym (and_right h.stale (not true) refl)
stored_stale true false h e = e refl ∙ sym (and_right h.stale (not true) refl)
stored_stale false m h e = and_true h.stale

less_fresh : (l s t : Bool) → (l ≡ true → s ≡ false) → l ≡ true → (s && not t) ≡ false
less_fresh l s t f e = ap (λ (b : Bool). b && not t) (f e)

-- bytes that a store touches are no longer stale
pub known_stored : (core : ℕ) (old new : List Held) (own others stale test : ℕ → Bool) → KnowsOf core old own others stale → AreChanged Stored test old new → KnowsOf core new own others (λ a. stale a && not (test a))
known_stored core old new own others stale test k c = record {
  own_is = λ a. ap (own_live core) (c a) ∙ (stored_own core (test a) (is_marked old a) (held_at old a) ∙ k.own_is a);
  others_is = λ a. ap (other_live core) (c a) ∙ (stored_other core (test a) (is_marked old a) (held_at old a) ∙ k.others_is a);
  stale_is = λ a. ap (λ (h : Held). h.stale) (c a) ∙ (stored_stale (test a) (is_marked old a) (held_at old a) (unmarked old a) ∙ ap (λ (b : Bool). b && not (test a)) (k.stale_is a));
  fresh = λ a. less_fresh (own a || others a) (stale a) (test a) (k.fresh a);
}

-- ---- a call and a return
marked : (o m : Bool) → (o ≡ true → m ≡ true) → (o && m) ≡ o
marked true m f = f refl
marked false m f = refl

-- the marked bytes are all that are changed
pub all_changed : (change : Change) (test : ℕ → Bool) (old new : List Held) → AreChanged change test old new → ((a : ℕ) → test a ≡ true → is_marked old a ≡ true) → (a : ℕ) → held_at new a ≡ cond (test a) (byte_after_change change (held_at old a)) (held_at old a)
all_changed change test old new c inside a = c a ∙ ap (λ (b : Bool). cond b (byte_after_change change (held_at old a)) (held_at old a)) (marked (test a) (is_marked old a) (inside a))

pub enters_own : (core : ℕ) (o : Bool) (h : Held) → own_live core (cond o (byte_after_change (Enters core) h) h) ≡ (o || own_live core h)
enters_own zero true h = refl
enters_own zero false h = refl
enters_own (suc core) true h = refl
enters_own (suc core) false h = refl

pub enters_other : (core : ℕ) (o : Bool) (h : Held) → other_live core (cond o (byte_after_change (Enters core) h) h) ≡ other_live core h
enters_other zero true h = refl
enters_other zero false h = refl
enters_other (suc core) true h = refl
enters_other (suc core) false h = refl

pub enters_stale : (core : ℕ) (o : Bool) (h : Held) → (cond o (byte_after_change (Enters core) h) h).stale ≡ (not o && h.stale)
enters_stale zero true h = refl
enters_stale zero false h = refl
enters_stale (suc core) true h = refl
enters_stale (suc core) false h = refl

pub leaves_own : (core : ℕ) (o : Bool) (h : Held) → own_live core (cond o (byte_after_change (Leaves core) h) h) ≡ (not o && own_live core h)
leaves_own zero true h = refl
leaves_own zero false h = refl
leaves_own (suc core) true h = refl
leaves_own (suc core) false h = refl

pub leaves_other : (core : ℕ) (o : Bool) (h : Held) → other_live core (cond o (byte_after_change (Leaves core) h) h) ≡ other_live core h
leaves_other zero true h = refl
leaves_other zero false h = refl
leaves_other (suc core) true h = refl
leaves_other (suc core) false h = refl

leaves_stale : (core : ℕ) (o : Bool) (h : Held) → (cond o (byte_after_change (Leaves core) h) h).stale ≡ cond o (not (other_live core h)) h.stale
leaves_stale zero true h = refl
leaves_stale zero false h = refl
leaves_stale (suc core) true h = refl
leaves_stale (suc core) false h = refl

-- ---- stale bytes by their definition, over a byte that is live (l), live for the other core (k), stale (s) and stored to (t)
pub stays_stale : (l k s t : Bool) → ((l || k) ≡ true → s ≡ false) → (s && not t) ≡ (not (l || k) && ((l || k) || (s && not t)))
stays_stale true k true t f = absurd (true≢false (f refl))
stays_stale true k false t f = refl
stays_stale false true true t f = absurd (true≢false (f refl))
stays_stale false true false t f = refl
stays_stale false false s t f = refl

call_stale : (o l k s t : Bool) → ((l || k) ≡ true → s ≡ false) → (not o && (s && not t)) ≡ (not ((o || l) || k) && ((l || k) || (s && not t)))
call_stale true l k s t f = refl
call_stale false l k s t f = stays_stale l k s t f

pub return_own : (o l : Bool) → (o ≡ true → l ≡ false) → (not o && (o || l)) ≡ l
return_own true l f = sym (f refl)
return_own false l f = refl

return_stale : (o l k s t : Bool) → (o ≡ true → l ≡ false) → (((o || l) || k) ≡ true → s ≡ false) → cond o (not k) (s && not t) ≡ (not (l || k) && (((o || l) || k) || (s && not t)))
return_stale true true k s t g f = absurd (true≢false (g refl))
return_stale true false k s t g f = and_true (not k)
return_stale false l k s t g f = stays_stale l k s t f

not_both : (l r : Bool) → l ≡ true → (not l && r) ≡ false
not_both true r e = refl
not_both false r e = absurd (true≢false (sym e))

-- no frame more and none less
pub known_stays : (core : ℕ) (old new : List Held) (own own_now others stale : ℕ → Bool) (access : Option Access)
    → KnowsOf core old own others stale → AreChanged Stored (stores_at access) old new → ((a : ℕ) → own_now a ≡ own a)
    → KnowsOf core new own_now others (stale_after (λ a. own_now a || others a) (λ a. own a || others a) stale access)
known_stays core old new own own_now others stale access k c same =
    let s = known_stored core old new own others stale (stores_at access) k c in
    record {
      own_is = λ a. s.own_is a ∙ sym (same a);
      others_is = s.others_is;
      stale_is = λ a. s.stale_is a ∙ (stays_stale (own a) (others a) (stale a) (stores_at access a) (k.fresh a) ∙ ap (λ (b : Bool). not (b || others a) && ((own a || others a) || (stale a && not (stores_at access a)))) (sym (same a)));
      fresh = λ a e. not_both (own_now a || others a) ((own a || others a) || (stale a && not (stores_at access a))) e;
    }

-- one frame more, whose areas are these bytes
pub known_calls : (core : ℕ) (old mid new : List Held) (own own_now others stale opened : ℕ → Bool) (access : Option Access)
    → KnowsOf core old own others stale → AreChanged Stored (stores_at access) old mid → AreChanged (Enters core) opened mid new
    → ((a : ℕ) → opened a ≡ true → is_marked mid a ≡ true) → ((a : ℕ) → own_now a ≡ (opened a || own a))
    → KnowsOf core new own_now others (stale_after (λ a. own_now a || others a) (λ a. own a || others a) stale access)
known_calls core old mid new own own_now others stale opened access k c d inside more =
    let s = known_stored core old mid own others stale (stores_at access) k c in
    let e = all_changed (Enters core) opened mid new d inside in
    record {
      own_is = λ a. ap (own_live core) (e a) ∙ (enters_own core (opened a) (held_at mid a) ∙ (ap (λ (b : Bool). opened a || b) (s.own_is a) ∙ sym (more a)));
      others_is = λ a. ap (other_live core) (e a) ∙ (enters_other core (opened a) (held_at mid a) ∙ s.others_is a);
      stale_is = λ a. ap (λ (h : Held). h.stale) (e a) ∙ (enters_stale core (opened a) (held_at mid a) ∙ (ap (λ (b : Bool). not (opened a) && b) (s.stale_is a)
          ∙ (call_stale (opened a) (own a) (others a) (stale a) (stores_at access a) (k.fresh a)
          ∙ ap (λ (b : Bool). not (b || others a) && ((own a || others a) || (stale a && not (stores_at access a)))) (sym (more a)))));
      fresh = λ a e. not_both (own_now a || others a) ((own a || others a) || (stale a && not (stores_at access a))) e;
    }

-- one frame less, whose areas were these bytes
pub known_returns : (core : ℕ) (old mid new : List Held) (own own_now others stale opened : ℕ → Bool) (access : Option Access)
    → KnowsOf core old own others stale → AreChanged Stored (stores_at access) old mid → AreChanged (Leaves core) opened mid new
    → ((a : ℕ) → opened a ≡ true → is_marked mid a ≡ true) → ((a : ℕ) → opened a ≡ true → own_now a ≡ false) → ((a : ℕ) → own a ≡ (opened a || own_now a))
    → KnowsOf core new own_now others (stale_after (λ a. own_now a || others a) (λ a. own a || others a) stale access)
known_returns core old mid new own own_now others stale opened access k c d inside apart less =
    let s = known_stored core old mid own others stale (stores_at access) k c in
    let e = all_changed (Leaves core) opened mid new d inside in
    record {
      own_is = λ a. ap (own_live core) (e a) ∙ (leaves_own core (opened a) (held_at mid a) ∙ (ap (λ (b : Bool). not (opened a) && b) (s.own_is a ∙ less a) ∙ return_own (opened a) (own_now a) (apart a)));
      others_is = λ a. ap (other_live core) (e a) ∙ (leaves_other core (opened a) (held_at mid a) ∙ s.others_is a);
      stale_is = λ a. ap (λ (h : Held). h.stale) (e a) ∙ (leaves_stale core (opened a) (held_at mid a) ∙ (ap (λ (b : Bool). cond (opened a) (not b) (held_at mid a).stale) (s.others_is a)
          ∙ (ap (λ (b : Bool). cond (opened a) (not (others a)) b) (s.stale_is a)
          ∙ (return_stale (opened a) (own_now a) (others a) (stale a) (stores_at access a) (apart a) (λ l. k.fresh a (ap (λ (b : Bool). b || others a) (less a) ∙ l))
          ∙ ap (λ (b : Bool). not (own_now a || others a) && ((b || others a) || (stale a && not (stores_at access a)))) (sym (less a))))));
      fresh = λ a e. not_both (own_now a || others a) ((own a || others a) || (stale a && not (stores_at access a))) e;
    }

-- ---- what an access touches, by the marks
either_turned : (f g : ℕ → Bool) (a : ℕ) → either f g a ≡ either g f a
either_turned f g a = or_turned (f a) (g a)

pub saves_turned : (f g : ℕ → Bool) (access : Option Access) → touches_save_area (either f g) access ≡ touches_save_area (either g f) access
saves_turned f g None = refl
saves_turned f g (Some x) = ap (λ (b : Bool). not (is_load x.kind) && b) (some_same (either f g) (either g f) (either_turned f g) x.addr x.size)

loads_turned : (f g stale : ℕ → Bool) (access : Option Access) → loads_stale (either f g) stale access ≡ loads_stale (either g f) stale access
loads_turned f g stale None = refl
loads_turned f g stale (Some x) = ap (λ (b : Bool). not (is_store x.kind) && (some_byte stale x.addr x.size || (is_load x.kind && b))) (some_same (either f g) (either g f) (either_turned f g) x.addr x.size)

abbrev pub AnswersSaves : List Held → Option Access → Bool → Type 0
AnswersSaves marks access r = (live0 live1 stale : ℕ → Bool) → Agrees marks live0 live1 stale → touches_save_area (either live0 live1) access ≡ r

abbrev pub AnswersLoads : List Held → Option Access → Bool → Type 0
AnswersLoads marks access r = (live0 live1 stale : ℕ → Bool) → Agrees marks live0 live1 stale → loads_stale (either live0 live1) stale access ≡ r

pub saves_for : (core : ℕ) (marks : List Held) (own others stale : ℕ → Bool) (access : Option Access) (r : Bool) → AnswersSaves marks access r → KnowsOf core marks own others stale → touches_save_area (either own others) access ≡ r
saves_for zero marks own others stale access r s k = s own others stale (record { first_core = k.own_is; second_core = k.others_is; no_longer = k.stale_is })
saves_for (suc core) marks own others stale access r s k = saves_turned own others access ∙ s others own stale (record { first_core = k.others_is; second_core = k.own_is; no_longer = k.stale_is })

pub loads_for : (core : ℕ) (marks : List Held) (own others stale : ℕ → Bool) (access : Option Access) (r : Bool) → AnswersLoads marks access r → KnowsOf core marks own others stale → loads_stale (either own others) stale access ≡ r
loads_for zero marks own others stale access r s k = s own others stale (record { first_core = k.own_is; second_core = k.others_is; no_longer = k.stale_is })
loads_for (suc core) marks own others stale access r s k = loads_turned own others stale access ∙ s others own stale (record { first_core = k.others_is; second_core = k.own_is; no_longer = k.stale_is })
