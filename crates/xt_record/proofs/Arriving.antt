-- The local turns of a core up to its next access.
use Rattle.std.proofs.Common.{◌≡◌, ℕ, ◌+◌, ◌-◌, ◌<◌, ◌≤◌, Option, Some, None, List, [], ◌∷◌, ◌++◌, replicate, refl, sym, ap, ◌∙◌, subst, arith}
use Rattle.std.proofs.lemmas.List.{append-nil, replicate_more}
use Rattle.xt_map.specs.declared.access.Access.{Access}
use Rattle.xt_map.specs.declared.contents.MemoryContents.{MemoryContents}
use Rattle.xt_trace.specs.Short.{short_advance, short_give}
use Rattle.xt_trace.specs.Worlds.{left_past}
use Rattle.xt_trace.proofs.Ends.{left_at_most}
use Rattle.xt_trace.specs.Schedule.{place_before}
use Rattle.xt_exec.specs.Chips.{processor, turn_asks}
use Rattle.xt_exec.specs.Turn.{demand, turn}
use Rattle.xt_map.specs.declared.segment.Segment.{Segment}
use Rattle.xt_map.specs.Memory.{constant_byte}
use Rattle.xt_core.specs.declared.begin.Begin.TheVariants as begin
use Rattle.xt_core.specs.Cores.{Asks, Begins, CoreState, core_after_turn}
use Rattle.xt_record.specs.Walking.{Arrives, Going, Went, beside, due_beside, points_along}
use Rattle.xt_record.proofs.Turns.{advance_append, local_turn}
use Rattle.xt_record.proofs.Pointing.{adds_more, adds_none}

pub going_start : (code : ℕ → ℕ) (number : ℕ) (before other : CoreState) (m : MemoryContents) (entries : ℕ) (old : List (List ℕ)) → before.waiting ≡ None
    → Going code number before other before m entries old old
going_start code number before other m entries old free = record {
  turns = 0;
  went = record { free_is = free; core_is = refl; count_is = omega arith; places_is = refl; left_is = omega arith; leads = λ b. refl };
  adds = adds_none code number before other m entries old;
}

pub went_more : (code : ℕ → ℕ) (number : ℕ) (before other now next : CoreState) (turns : ℕ) → Went code number before other now turns
    → 0 < now.left → demand code now.state ≡ None → next ≡ core_after_turn code 0 now → Went code number before other next (turns + 1)
went_more code number before other now next turns h some asks is =
    let P = processor code in
    let made = (turn code now.state 0).0 in
    let left : next.left ≡ left_past made (now.left - 1) = ap (λ (k : CoreState). k.left) is in
    let fewer : left_past made (now.left - 1) ≤ now.left - 1 = left_at_most made (now.left - 1) (now.left - 1) (omega arith) in
    let count : next.count ≡ now.count + 1 = ap (λ (k : CoreState). k.count) is in
    record {
      free_is = ap (λ (k : CoreState). k.waiting) is;
      core_is = ap (λ (k : CoreState). k.core) is ∙ h.core_is;
      count_is = omega (arith, count, h.count_is);
      places_is = ap (λ (k : CoreState). k.places) is
          ∙ ap (λ (d : Option Access). now.places ++ place_before d now.count []) (turn_asks code now.state 0 ∙ asks)
          ∙ append-nil now.places ∙ h.places_is;
      left_is = omega (arith, left, fewer, h.left_is);
      leads = λ b.
          ap (λ (k : CoreState). beside number k other b) is
          ∙ local_turn code number now other b some asks
          ∙ ap (short_give P number) (h.leads b)
          ∙ sym (advance_append P (replicate turns number) (number ∷ []) (beside number before other b))
          ∙ ap (λ (l : List ℕ). short_advance P l (beside number before other b)) (replicate_more turns number);
    }

pub going_local : (code : ℕ → ℕ) (number : ℕ) (before other now next : CoreState) (m : MemoryContents) (entries : ℕ) (old mid new : List (List ℕ))
    → Going code number before other now m entries old mid → new ≡ mid ++ due_beside number entries now other m
    → 0 < now.left → demand code now.state ≡ None → next ≡ core_after_turn code 0 now → Going code number before other next m entries old new
going_local code number before other now next m entries old mid new h grown some asks is = record {
  turns = h.turns + 1;
  went = went_more code number before other now next h.turns h.went some asks is;
  adds = adds_more code number before other now m entries h.turns old mid new h.went h.adds grown;
}

pub going_asks : (code : ℕ → ℕ) (number : ℕ) (before other now after : CoreState) (m : MemoryContents) (entries : ℕ) (a : Access) (old mid new : List (List ℕ))
    → Going code number before other now m entries old mid → new ≡ mid ++ due_beside number entries now other m → Asks code now after a
    → Arrives code number before other after m entries (Some a) old new
going_asks code number before other now after m entries a old mid new h grown asks = record {
  turns = h.turns;
  free = now;
  went = h.went;
  next_is = asks;
  adds = adds_more code number before other now m entries h.turns old mid new h.went h.adds grown;
}

pub going_ended : (code : ℕ → ℕ) (number : ℕ) (before other now : CoreState) (m : MemoryContents) (entries : ℕ) (old new : List (List ℕ))
    → Going code number before other now m entries old new → now.left ≡ 0 → Arrives code number before other now m entries None old new
going_ended code number before other now m entries old new h none = record {
  turns = h.turns;
  free = now;
  went = h.went;
  next_is = (none, refl);
  adds = λ hs list w size world counted is.
      h.adds hs list w size world counted is
      ∙ ap (λ (n : ℕ). points_along (processor code) w (list ++ replicate n number)) (let e : h.turns ≡ h.turns + 0 = omega arith in e);
}

-- ---- the same over the constants and the memory as they are now

pub local_here : (now_code code : List Segment) (number : ℕ) (before other now next : CoreState) (m now_m : MemoryContents) (entries : ℕ) (old mid new : List (List ℕ))
    → Going (constant_byte code) number before other now m entries old mid → now_code ≡ code → now_m ≡ m → new ≡ mid ++ due_beside number entries now other now_m
    → Begins begin.Local (constant_byte now_code) now next → Going (constant_byte code) number before other next m entries old new
local_here now_code code number before other now next m now_m entries old mid new h same is grown begins =
    let b : Begins begin.Local (constant_byte code) now next = subst (λ (s : List Segment). Begins begin.Local (constant_byte s) now next) same begins in
    going_local (constant_byte code) number before other now next m entries old mid new h
    (grown ∙ ap (λ (x : MemoryContents). mid ++ due_beside number entries now other x) is) b.0 b.1 b.2

pub bus_here : (now_code code : List Segment) (number : ℕ) (before other now next : CoreState) (m now_m : MemoryContents) (entries : ℕ) (a : Access) (old mid new : List (List ℕ))
    → Going (constant_byte code) number before other now m entries old mid → now_code ≡ code → now_m ≡ m → new ≡ mid ++ due_beside number entries now other now_m
    → Begins (begin.Bus a) (constant_byte now_code) now next → Arrives (constant_byte code) number before other next m entries (Some a) old new
bus_here now_code code number before other now next m now_m entries a old mid new h same is grown begins =
    going_asks (constant_byte code) number before other now next m entries a old mid new h
    (grown ∙ ap (λ (x : MemoryContents). mid ++ due_beside number entries now other x) is)
    (subst (λ (s : List Segment). Begins (begin.Bus a) (constant_byte s) now next) same begins)
