-- Outcomes of one row over two lists of values agree.
use Rattle.std.proofs.Common.{◌≡◌, ℕ, ℤ, ◌*◌, ◌%◌, Bool, true, false, ◌&&◌, ◌||◌, cond, eqb, Option, Some, None, refl, sym, subst, ap, ◌∙◌, ◌^◌, ◌==◌}
use Rattle.std.specs.Prelude.{if◌then◌else◌, nat_lt}
use Rattle.std.proofs.lemmas.Bool.{lt-ltb}
use Rattle.std.proofs.lemmas.Nat.{mod_below, pow_pos}
use Rattle.xt_isa.specs.declared.Insn.{Insn}
use Rattle.xt_special.specs.declared.ps.Ps.{Ps}
use Rattle.xt_map.specs.declared.access.Access.{Access}
use Rattle.xt_map.specs.declared.access.Kind.TheVariants.{Load, Store, Cas}
use Rattle.xt_map.specs.Regions.{is_mapped, is_constant, is_memory, is_size, is_uart, region_of}
use Rattle.xt_special.specs.Access.{no_sets, no_set, set_to, SpecialWrites}
use Rattle.xt_map.specs.Code.{code_number}
use Rattle.xt_rows.specs.declared.outcome.ReplyTarget.{ReplyTarget}
use Rattle.xt_rows.specs.declared.outcome.Flow.TheVariants.{Goes}
use Rattle.xt_rows.specs.declared.outcome.Outcome.{Outcome}
use Rattle.xt_rows.specs.declared.outcome.Outcome.TheVariants.{Does, Raises, Asks}
use Rattle.xt_rows.specs.Numbers.{minus, loaded_value, address_behind, branch_target, return_address}
use Rattle.xt_rows.specs.Effects.{no_change, write_to, puts, moves, divides, goes, branches, calls, loops, asks, if_aligned, loads, stores, swaps, sets_special}
use Rattle.xt_rows.specs.Kinds.{moved_to}
use Rattle.xt_uses.specs.declared.discipline.Discipline.{Discipline}
use Rattle.xt_uses.specs.UseLaws.{AgreeIn, RowMasks, SetsAgree, AccessesAgree, OutcomesAgree}
use Rattle.xt_uses.proofs.Agreeing.{rest_agrees}

pub either_agrees : (by : Discipline) (i : Insn) (m : RowMasks) (b : Bool) (o p q r : Outcome) → OutcomesAgree by i m o q → OutcomesAgree by i m p r → OutcomesAgree by i m (cond b o p) (cond b q r)
either_agrees by i m true o p q r h g = h
either_agrees by i m false o p q r h g = g

module _ (by : Discipline) (i : Insn) (m : RowMasks) (ps : Ps) (t k : ℕ) (g : AgreeIn m.pointer t k) (calm : moved_to i ≡ None) where
  no_sets_agree : SetsAgree by (moved_to i) m.given no_sets no_sets
  no_sets_agree = rw calm refl

  pub nothing_agrees : OutcomesAgree by i m (Does (no_change ps t)) (Does (no_change ps k))
  nothing_agrees = record { write = tt; sets = no_sets_agree; ps = refl; threadptr = g; flow = refl; waits = refl }

  pub puts_agree : (number x y : ℕ) → AgreeIn m.result x y → OutcomesAgree by i m (puts number x (no_change ps t)) (puts number y (no_change ps k))
  puts_agree number x y h = record { write = (refl, h); sets = no_sets_agree; ps = refl; threadptr = g; flow = refl; waits = refl }

  same_moves : (b : Bool) (number x y : ℕ) → AgreeIn m.result x y → OutcomesAgree by i m (moves b number x (no_change ps t)) (moves b number y (no_change ps k))
  same_moves true number x y h = puts_agree number x y h
  same_moves false number x y h = nothing_agrees

  pub moves_agree : (b c : Bool) → b ≡ c → (number x y : ℕ) → AgreeIn m.result x y → OutcomesAgree by i m (moves b number x (no_change ps t)) (moves c number y (no_change ps k))
  moves_agree b c same number x y h = subst (λ z. OutcomesAgree by i m (moves b number x (no_change ps t)) (moves z number y (no_change ps k))) same (same_moves b number x y h)

  pub divides_agree : (p q : ℕ) → p ≡ q → (number x y : ℕ) → AgreeIn m.result x y → OutcomesAgree by i m (divides p number x (no_change ps t)) (divides q number y (no_change ps k))
  divides_agree p q same number x y h =
      subst (λ z. OutcomesAgree by i m (divides p number x (no_change ps t)) (divides z number y (no_change ps k))) same
      (either_agrees by i m (eqb p 0) (Raises 6 None) (puts number x (no_change ps t)) (Raises 6 None) (puts number y (no_change ps k)) refl (puts_agree number x y h))

  same_branches : (b : Bool) (pc : ℕ) (offset : ℤ) → OutcomesAgree by i m (branches b pc offset (no_change ps t)) (branches b pc offset (no_change ps k))
  same_branches true pc offset = record { write = tt; sets = no_sets_agree; ps = refl; threadptr = g; flow = refl; waits = refl }
  same_branches false pc offset = nothing_agrees

  pub branches_agree : (b c : Bool) → b ≡ c → (pc : ℕ) (offset : ℤ) → OutcomesAgree by i m (branches b pc offset (no_change ps t)) (branches c pc offset (no_change ps k))
  branches_agree b c same pc offset = subst (λ z. OutcomesAgree by i m (branches b pc offset (no_change ps t)) (branches z pc offset (no_change ps k))) same (same_branches b pc offset)

  pub goes_agree : (x y : ℕ) → x ≡ y → OutcomesAgree by i m (goes x (no_change ps t)) (goes y (no_change ps k))
  goes_agree x y same = record { write = tt; sets = no_sets_agree; ps = refl; threadptr = g; flow = ap (λ n. Goes n) same; waits = refl }

  same_calls : (size x pc : ℕ) → OutcomesAgree by i m (calls size x pc (no_change ps t)) (calls size x pc (no_change ps k))
  same_calls size x pc =
      either_agrees by i m (eqb size 0)
      (Does (record (no_change ps t) { write = write_to 0 (address_behind pc); flow = Goes x }))
      (Does (record (no_change ps t) { write = write_to (4 * size) (return_address size pc); ps = record ps { callinc = size }; flow = Goes x }))
      (Does (record (no_change ps k) { write = write_to 0 (address_behind pc); flow = Goes x }))
      (Does (record (no_change ps k) { write = write_to (4 * size) (return_address size pc); ps = record ps { callinc = size }; flow = Goes x }))
      (record { write = (refl, refl); sets = no_sets_agree; ps = refl; threadptr = g; flow = refl; waits = refl })
      (record { write = (refl, refl); sets = no_sets_agree; ps = refl; threadptr = g; flow = refl; waits = refl })

  pub calls_agree : (size x y pc : ℕ) → x ≡ y → OutcomesAgree by i m (calls size x pc (no_change ps t)) (calls size y pc (no_change ps k))
  calls_agree size x y pc same = subst (λ z. OutcomesAgree by i m (calls size x pc (no_change ps t)) (calls size z pc (no_change ps k))) same (same_calls size x pc)

  -- ---- special registers
  equal_sets : (s : SpecialWrites) → SetsAgree by (moved_to i) m.given s s
  equal_sets s = rw calm refl

  pub sets_agree : (number x y : ℕ) → x ≡ y → OutcomesAgree by i m (sets_special number x (no_change ps t)) (sets_special number y (no_change ps k))
  sets_agree number x y same =
      subst (λ z. OutcomesAgree by i m (sets_special number x (no_change ps t)) (sets_special number z (no_change ps k))) same
      (record { write = tt; sets = equal_sets (set_to number x, no_set, no_set); ps = refl; threadptr = g; flow = refl; waits = refl })

  same_loops : (b : Bool) (count pc : ℕ) (offset : ℤ) → OutcomesAgree by i m (loops b count pc offset (no_change ps t)) (loops b count pc offset (no_change ps k))
  same_loops b count pc offset =
      record {
        write = tt;
        sets = equal_sets (set_to 2 (minus count 1), set_to 0 (address_behind pc), set_to 1 (branch_target pc offset));
        ps = refl;
        threadptr = g;
        flow = refl;
        waits = refl;
      }

  pub loops_agree : (r : ℕ → Bool) (x y pc : ℕ) (offset : ℤ) → x ≡ y → OutcomesAgree by i m (loops (r x) x pc offset (no_change ps t)) (loops (r y) y pc offset (no_change ps k))
  loops_agree r x y pc offset same = subst (λ z. OutcomesAgree by i m (loops (r x) x pc offset (no_change ps t)) (loops (r z) z pc offset (no_change ps k))) same (same_loops (r x) x pc offset)

  -- ---- accesses
  asks_agree : (a b : Access) (w : Option ReplyTarget) → a.addr ≡ b.addr → is_mapped a ≡ is_mapped b → AccessesAgree m.stored a b → OutcomesAgree by i m (asks a w (no_change ps t)) (asks b w (no_change ps k))
  asks_agree a b w place mapped h = by_tests (is_mapped a) (is_mapped b) mapped
    where
      by_tests : (p q : Bool) → p ≡ q → OutcomesAgree by i m (cond p (Asks a w (no_change ps t)) (Raises 3 (Some a.addr))) (cond q (Asks b w (no_change ps k)) (Raises 3 (Some b.addr)))
      by_tests true true e = (h, refl, nothing_agrees)
      by_tests false false e = ap (λ n. Raises 3 (Some n)) place
      by_tests true false e = absurd cc
      by_tests false true e = absurd cc

  aligned_agree : (size addr : ℕ) (o p : Outcome) → OutcomesAgree by i m o p → OutcomesAgree by i m (if_aligned size addr o) (if_aligned size addr p)
  aligned_agree size addr o p h = either_agrees by i m (eqb (addr % size) 0) o (Raises 9 (Some addr)) p (Raises 9 (Some addr)) h refl

  abbrev load_at : ℕ → ℕ → Access
  load_at size addr = record { addr = addr; size = size; kind = Load }

  abbrev awaited_in : ℕ → Bool → Option ReplyTarget
  awaited_in number signed = Some (record { number = number; signed = signed })

  same_loads : (code : ℕ → ℕ) (size : ℕ) (signed : Bool) (number addr : ℕ) → OutcomesAgree by i m (loads code size signed number addr (no_change ps t)) (loads code size signed number addr (no_change ps k))
  same_loads code size signed number addr =
      aligned_agree size addr
      (if is_constant (region_of addr) then puts number (loaded_value signed (code_number code addr size)) (no_change ps t) else asks (load_at size addr) (awaited_in number signed) (no_change ps t))
      (if is_constant (region_of addr) then puts number (loaded_value signed (code_number code addr size)) (no_change ps k) else asks (load_at size addr) (awaited_in number signed) (no_change ps k))
      (either_agrees by i m (is_constant (region_of addr))
      (puts number (loaded_value signed (code_number code addr size)) (no_change ps t)) (asks (load_at size addr) (awaited_in number signed) (no_change ps t))
      (puts number (loaded_value signed (code_number code addr size)) (no_change ps k)) (asks (load_at size addr) (awaited_in number signed) (no_change ps k))
      (puts_agree number (loaded_value signed (code_number code addr size)) (loaded_value signed (code_number code addr size)) refl)
      (asks_agree (load_at size addr) (load_at size addr) (awaited_in number signed) refl refl (refl, refl, refl)))

  pub loads_agree : (code : ℕ → ℕ) (size : ℕ) (signed : Bool) (number x y : ℕ) → x ≡ y → OutcomesAgree by i m (loads code size signed number x (no_change ps t)) (loads code size signed number y (no_change ps k))
  loads_agree code size signed number x y same =
      subst (λ z. OutcomesAgree by i m (loads code size signed number x (no_change ps t)) (loads code size signed number z (no_change ps k))) same (same_loads code size signed number x)

  abbrev store_at : ℕ → ℕ → ℕ → Access
  store_at size addr v = record { addr = addr; size = size; kind = Store (v % 2 ^ (8 * size)) }

  store_fits : (size v : ℕ) → nat_lt (v % 2 ^ (8 * size)) (2 ^ (8 * size)) ≡ true
  store_fits size v = lt-ltb (v % 2 ^ (8 * size)) (2 ^ (8 * size)) (mod_below v (2 ^ (8 * size)) (pow_pos (8 * size)))

  stores_mapped : (size addr v w : ℕ) → is_mapped (store_at size addr v) ≡ is_mapped (store_at size addr w)
  stores_mapped size addr v w =
      ap (λ b. is_size size && (b && ((is_memory (region_of addr) && addr % size == 0) || (is_uart addr && true))))
      (store_fits size v ∙ sym (store_fits size w))

  same_stores : (size v w addr : ℕ) → AgreeIn m.stored v w → OutcomesAgree by i m (stores size v addr (no_change ps t)) (stores size w addr (no_change ps k))
  same_stores size v w addr h =
      aligned_agree size addr (asks (store_at size addr v) None (no_change ps t)) (asks (store_at size addr w) None (no_change ps k))
      (asks_agree (store_at size addr v) (store_at size addr w) None refl (stores_mapped size addr v w) (refl, refl, rest_agrees m.stored v w (8 * size) h))

  pub stores_agree : (size v w x y : ℕ) → x ≡ y → AgreeIn m.stored v w → OutcomesAgree by i m (stores size v x (no_change ps t)) (stores size w y (no_change ps k))
  stores_agree size v w x y same h =
      subst (λ z. OutcomesAgree by i m (stores size v x (no_change ps t)) (stores size w z (no_change ps k))) same (same_stores size v w x h)

  abbrev swap_at : ℕ → ℕ → ℕ → Access
  swap_at addr expected new = record { addr = addr; size = 4; kind = Cas expected new }

  same_swaps : (expected new number addr : ℕ) → OutcomesAgree by i m (swaps expected new number addr (no_change ps t)) (swaps expected new number addr (no_change ps k))
  same_swaps expected new number addr =
      aligned_agree 4 addr (asks (swap_at addr expected new) (awaited_in number false) (no_change ps t)) (asks (swap_at addr expected new) (awaited_in number false) (no_change ps k))
      (asks_agree (swap_at addr expected new) (swap_at addr expected new) (awaited_in number false) refl refl (refl, refl, refl))

  pub swaps_agree : (expected v w number x y : ℕ) → x ≡ y → v ≡ w → OutcomesAgree by i m (swaps expected v number x (no_change ps t)) (swaps expected w number y (no_change ps k))
  swaps_agree expected v w number x y same equal =
      subst (λ z. OutcomesAgree by i m (swaps expected v number x (no_change ps t)) (swaps expected w number z (no_change ps k))) same
      (subst (λ z. OutcomesAgree by i m (swaps expected v number x (no_change ps t)) (swaps expected z number x (no_change ps k))) equal (same_swaps expected v number x))
