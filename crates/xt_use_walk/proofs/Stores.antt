-- The masks of bytes after a judged store.
use Rattle.std.proofs.Common.{◌≡◌, ◌≢◌, ◌⊎◌, ⊎_elim, ℕ, ◌+◌, ◌-◌, ◌/◌, ◌%◌, ◌*◌, ◌^◌, Bool, true, false, ◌&&◌, cond, eqb, Option, Some, None, List, refl, sym, ◌∙◌, ap, subst, arith}
use Rattle.std.proofs.lemmas.Bool.{true≢false, cases_Bool, cases_eq, cond-true, cond-false, ne_eqb}
use Rattle.std.proofs.lemmas.Bool.Decides.{nat_tests}
use Rattle.xt_map.specs.declared.access.Access.{Access}
use Rattle.xt_map.specs.Regions.{is_mapped, is_memory, region_of}
use Rattle.xt_map.specs.Touching.{is_store, touches}
use Rattle.xt_discipline.specs.declared.bytes.Held.{Held}
use Rattle.xt_uses.specs.FirstUse.{stored_byte}
use Rattle.xt_uses.specs.UseWalk.{mask_stored}
use Rattle.xt_use_walk.specs.declared.bytes.ByteMasks.{ByteMasks}
use Rattle.xt_use_walk.specs.MaskedBytes.{AreMasks, is_byte, is_live_byte, mask_at, put_at, put_free, stored_on, stored_over}
use Rattle.xt_use_walk.proofs.Places.{touches_nothing}
use Rattle.xt_use_walk.proofs.Served.{touches_no_byte}

-- ---- one byte more
touches_next : (from k a : ℕ) → touches from (k + 1) a ≡ cond (eqb a (from + k)) true (touches from k a)
touches_next from k a = grind (arith, nat_tests)

touches_not : (from k : ℕ) → touches from k (from + k) ≡ false
touches_not from k = grind (arith, nat_tests)

same_branch : (b : Bool) (x : ℕ) → x ≡ cond b x x
same_branch true x = refl
same_branch false x = refl

pub none_stored : (m : ByteMasks) (marks : List Held) (stored addr : ℕ) → AreMasks m (stored_on marks stored addr 0 (mask_at m))
none_stored m marks stored addr a h =
    same_branch (is_live_byte marks a) (mask_at m a)
    ∙ ap (λ (t : Bool). cond (is_live_byte marks a) (mask_at m a) (cond t (stored_byte stored addr a) (mask_at m a))) (sym (touches_nothing addr a))

-- it is live, and keeps its mask
live_pick : (l e t : Bool) (x s m : ℕ) → (e ≡ true → l ≡ true) → x ≡ cond l m (cond t s m) → x ≡ cond l m (cond (cond e true t) s m)
live_pick true e t x s m f h = h
live_pick false true t x s m f h = absurd (true≢false (sym (f refl)))
live_pick false false t x s m f h = h

pub live_kept : (f : ℕ → ℕ) (mid : ByteMasks) (marks : List Held) (stored addr k : ℕ) → is_live_byte marks (addr + k) ≡ true → AreMasks mid (stored_on marks stored addr k f) → AreMasks mid (stored_on marks stored addr (k + 1) f)
live_kept f mid marks stored addr k live before a h =
    live_pick (is_live_byte marks a) (eqb a (addr + k)) (touches addr k a) (mask_at mid a) (stored_byte stored addr a) (f a) (at (cases_eq a (addr + k))) (before a h)
    ∙ ap (λ (t : Bool). cond (is_live_byte marks a) (f a) (cond t (stored_byte stored addr a) (f a))) (sym (touches_next addr k a))
  where
    at : (a ≡ addr + k) ⊎ (a ≢ addr + k) → eqb a (addr + k) ≡ true → is_live_byte marks a ≡ true
    at c e = ⊎_elim (λ s. ap (is_live_byte marks) s ∙ live) (λ n. absurd (true≢false (sym e ∙ ne_eqb a (addr + k) n))) c

-- it is not live, and gets that of the value
free_pick : (l e t : Bool) (x y s m p : ℕ) → (e ≡ true → l ≡ false) → (e ≡ true → p ≡ s) → y ≡ cond l m (cond t s m) → x ≡ cond e p y → x ≡ cond l m (cond (cond e true t) s m)
free_pick true true t x y s m p f g h k = absurd (true≢false (f refl))
free_pick true false t x y s m p f g h k = k ∙ h
free_pick false true t x y s m p f g h k = k ∙ g refl
free_pick false false t x y s m p f g h k = k ∙ h

pub free_stored : (f : ℕ → ℕ) (mid new : ByteMasks) (marks : List Held) (stored addr k p : ℕ) → is_live_byte marks (addr + k) ≡ false → p ≡ stored_byte stored addr (addr + k) → AreMasks mid (stored_on marks stored addr k f)
    → AreMasks new (put_at (addr + k) p (mask_at mid)) → AreMasks new (stored_on marks stored addr (k + 1) f)
free_stored f mid new marks stored addr k p free byte before put a h =
    free_pick (is_live_byte marks a) (eqb a (addr + k)) (touches addr k a) (mask_at new a) (mask_at mid a) (stored_byte stored addr a) (f a) p
    (λ e. ap (is_live_byte marks) (at e) ∙ free) (λ e. byte ∙ ap (stored_byte stored addr) (sym (at e))) (before a h) (put a h)
    ∙ ap (λ (t : Bool). cond (is_live_byte marks a) (f a) (cond t (stored_byte stored addr a) (f a))) (sym (touches_next addr k a))
  where
    at : eqb a (addr + k) ≡ true → a ≡ addr + k
    at e = ⊎_elim (λ s. s) (λ n. absurd (true≢false (sym e ∙ ne_eqb a (addr + k) n))) (cases_eq a (addr + k))

pub one_stored : (f : ℕ → ℕ) (mid new : ByteMasks) (marks mid_marks : List Held) (stored addr k p : ℕ) → mid_marks ≡ marks → p ≡ stored_byte stored addr (addr + k) → AreMasks mid (stored_on marks stored addr k f)
    → AreMasks new (put_free mid_marks (addr + k) p (mask_at mid)) → AreMasks new (stored_on marks stored addr (k + 1) f)
one_stored f mid new marks mid_marks stored addr k p same byte before put = ⊎_elim
    (λ live. live_kept f new marks stored addr k live (λ a h. put_at_marks a h ∙ (cond-true (is_live_byte marks (addr + k)) _ _ live ∙ before a h)))
    (λ free. free_stored f mid new marks stored addr k p free byte before (λ a h. put_at_marks a h ∙ cond-false (is_live_byte marks (addr + k)) _ _ free))
    (cases_Bool (is_live_byte marks (addr + k)))
  where
    put_at_marks : (a : ℕ) → is_byte a ≡ true → mask_at new a ≡ cond (is_live_byte marks (addr + k)) (mask_at mid a) (put_at (addr + k) p (mask_at mid) a)
    put_at_marks a h = put a h ∙ ap (λ (m : List Held). cond (is_live_byte m (addr + k)) (mask_at mid a) (put_at (addr + k) p (mask_at mid) a)) same

-- ---- an access
pub stores_nothing : (f : ℕ → ℕ) (m : ByteMasks) (marks : List Held) (stored : ℕ) → AreMasks m f → AreMasks m (stored_over marks stored None f)
stores_nothing f m marks stored are a h = are a h ∙ same_branch (is_live_byte marks a) (f a)

pub no_store : (f : ℕ → ℕ) (m : ByteMasks) (marks : List Held) (stored : ℕ) (access : Access) → is_store access.kind ≡ false → AreMasks m f → AreMasks m (stored_over marks stored (Some access) f)
no_store f m marks stored access loads are a h =
    are a h ∙ (same_branch (is_live_byte marks a) (f a)
    ∙ ap (λ (b : Bool). cond (is_live_byte marks a) (f a) (cond (b && touches access.addr access.size a) (stored_byte stored access.addr a) (f a))) (sym loads))

pub sends : (f : ℕ → ℕ) (m : ByteMasks) (marks : List Held) (stored : ℕ) (access : Access) → is_mapped access ≡ true → is_memory (region_of access.addr) ≡ false → is_store access.kind ≡ true → AreMasks m f → AreMasks m (stored_over marks stored (Some access) f)
sends f m marks stored access mapped none stores_it are a h =
    are a h ∙ (same_branch (is_live_byte marks a) (f a)
    ∙ (ap (λ (b : Bool). cond (is_live_byte marks a) (f a) (cond b (stored_byte stored access.addr a) (f a))) (sym (touches_no_byte access a mapped none h))
    ∙ ap (λ (b : Bool). cond (is_live_byte marks a) (f a) (cond (b && touches access.addr access.size a) (stored_byte stored access.addr a) (f a))) (sym stores_it)))

pub stores : (f : ℕ → ℕ) (m : ByteMasks) (marks : List Held) (stored : ℕ) (access : Access) → is_store access.kind ≡ true → AreMasks m (stored_on marks stored access.addr access.size f) → AreMasks m (stored_over marks stored (Some access) f)
stores f m marks stored access yes_store are a h =
    are a h ∙ ap (λ (b : Bool). cond (is_live_byte marks a) (f a) (cond (b && touches access.addr access.size a) (stored_byte stored access.addr a) (f a))) (sym yes_store)

-- ---- of masks that are the same for a byte
pub stored_same : (stored : ℕ) (access : Option Access) (f g : ℕ → ℕ) (a : ℕ) → f a ≡ g a → mask_stored stored access f a ≡ mask_stored stored access g a
stored_same stored None f g a e = e
stored_same stored (Some x) f g a e = ap (λ (n : ℕ). cond (is_store x.kind && touches x.addr x.size a) (stored_byte stored x.addr a) n) e

-- ---- a byte of a value by its number
pub byte_number : (stored addr k x : ℕ) → x ≡ stored / 2 ^ (8 * k) % 2 ^ 8 → x ≡ stored_byte stored addr (addr + k)
byte_number stored addr k x e = let n : k ≡ (addr + k) - addr = omega arith in e ∙ ap (λ (m : ℕ). stored / 2 ^ (8 * m) % 2 ^ 8) n

-- an access that was told apart
pub stored_at : (f : ℕ → ℕ) (m : ByteMasks) (marks : List Held) (stored : ℕ) (o : Option Access) (a : Access) → o ≡ Some a → AreMasks m (stored_over marks stored (Some a) f) → AreMasks m (stored_over marks stored o f)
stored_at f m marks stored o a e are = subst (λ (x : Option Access). AreMasks m (stored_over marks stored x f)) (sym e) are
