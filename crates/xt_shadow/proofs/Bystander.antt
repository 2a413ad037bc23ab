-- What an instruction that does not name EPC1 does goes past EPC1.
use Rattle.std.proofs.Common.{◌≡◌, ℕ, ◌+◌, ◌-◌, ◌%◌, ◌^◌, ◌≢◌, Bool, true, false, cond, eqb, List, Option, Some, None, sym, ap, ◌∙◌, refl, arith, get_or, bit_or}
use Rattle.std.proofs.Math.ListN.{set}
use Rattle.std.proofs.lemmas.List.{get_or-set_other, set_comm}
use Rattle.xt_special.specs.Numbers as number
use Rattle.xt_special.specs.Control.{Control, special_of}
use Rattle.xt_special.specs.Timers.{with_timer, ticked_special, after_tick}
use Rattle.xt_special.specs.Interrupts.{pending_of}
use Rattle.xt_special.specs.Looping.{loops_back}
use Rattle.xt_special.specs.declared.writes.SpecialWrite.{SpecialWrite}
use Rattle.xt_special.specs.Access.{SpecialWrites, with_set, with_sets}
use Rattle.xt_rows.specs.declared.outcome.Flow.{Flow}
use Rattle.xt_rows.specs.declared.outcome.Flow.TheVariants.{Falls, Goes}
use Rattle.xt_rows.specs.declared.outcome.Effect.{Effect}
use Rattle.xt_rows.specs.Settling.{after_flow, after_effect}
use Rattle.xt_rows.specs.Kinds.{AllSpare, Spares}
use Rattle.xt_frames.specs.Levels.{with_epc1}

-- another special register has its value
pub other_is : (x : ℕ) (c : Control) (k : ℕ) → k ≢ 177 → special_of (with_epc1 x c) k ≡ special_of c k
other_is x c k other = get_or-set_other c.special 177 k x 0 other

pub pending_is : (x : ℕ) (c : Control) → pending_of (with_epc1 x c) ≡ pending_of c
pending_is x c =
    let a = other_is x c 226 (λ e. omega arith) in
    let b = other_is x c 228 (λ e. omega arith) in
    rw (a, b) refl

-- ---- writes of special registers
one_past : (w : Option SpecialWrite) (xs : List ℕ) (x : ℕ) → Spares 177 w → with_set w (set xs 177 x) ≡ set (with_set w xs) 177 x
one_past None xs x spare = refl
one_past (Some w) xs x spare = set_comm xs 177 w.number x w.value (λ e. spare (sym e))

sets_past : (ws : SpecialWrites) (xs : List ℕ) (x : ℕ) → AllSpare 177 ws → with_sets ws (set xs 177 x) ≡ set (with_sets ws xs) 177 x
sets_past ws xs x spare =
    ap (λ (l : List ℕ). with_set ws.2 (with_set ws.1 l)) (one_past ws.0 xs x spare.0)
    ∙ (ap (λ (l : List ℕ). with_set ws.2 l) (one_past ws.1 (with_set ws.0 xs) x spare.1)
    ∙ one_past ws.2 (with_set ws.1 (with_set ws.0 xs)) x spare.2)

-- ---- the flow
if_past : (x : ℕ) (b : Bool) (c d : Control) → cond b (with_epc1 x c) (with_epc1 x d) ≡ with_epc1 x (cond b c d)
if_past x true c d = refl
if_past x false c d = refl

flow_past : (flow : Flow) (len x : ℕ) (c : Control) → after_flow flow len (with_epc1 x c) ≡ with_epc1 x (after_flow flow len c)
flow_past (Goes target) len x c = refl
flow_past Falls len x c =
    let next = (c.pc + len) % 2 ^ 32 in
    let a : get_or (set c.special 177 x) 0 0 ≡ get_or c.special 0 0 = other_is x c 0 (λ e. omega arith) in
    let b : get_or (set c.special 177 x) 1 0 ≡ get_or c.special 1 0 = other_is x c 1 (λ e. omega arith) in
    let d : get_or (set c.special 177 x) 2 0 ≡ get_or c.special 2 0 = other_is x c 2 (λ e. omega arith) in
    let back : ℕ → ℕ → Control = λ begin count. record c { pc = begin; special = set (set c.special 177 x) 2 (count - 1) } in
    let on : Control = record c { pc = next; special = set c.special 177 x } in
    let F : ℕ → ℕ → ℕ → Control = λ begin end count. cond (loops_back end count c.ps.excm next) (back begin count) on in
    let same : F (get_or (set c.special 177 x) 0 0) (get_or (set c.special 177 x) 1 0) (get_or (set c.special 177 x) 2 0) ≡ F (get_or c.special 0 0) (get_or c.special 1 0) (get_or c.special 2 0) = λ i. F (a i) (b i) (d i) in
    let count = get_or c.special 2 0 in
    let swapped : set (set c.special 177 x) 2 (count - 1) ≡ set (set c.special 2 (count - 1)) 177 x = set_comm c.special 177 2 x (count - 1) (λ e. omega arith) in
    let B : Bool = loops_back (get_or c.special 1 0) count c.ps.excm next in
    same
    ∙ (ap (λ (l : List ℕ). cond B (record c { pc = get_or c.special 0 0; special = l }) on) swapped
    ∙ if_past x B (record c { pc = get_or c.special 0 0; special = set c.special 2 (count - 1) }) (record c { pc = next }))

-- ---- the tick
timer_if : (x : ℕ) (b : Bool) (xs : List ℕ) (v w : ℕ) → v ≡ w → cond b (set (set xs 177 x) 226 v) (set xs 177 x) ≡ set (cond b (set xs 226 w) xs) 177 x
timer_if x true xs v w e = ap (λ (n : ℕ). set (set xs 177 x) 226 n) e ∙ set_comm xs 177 226 x w (λ e. omega arith)
timer_if x false xs v w e = refl

timer_past : (timer mask : ℕ) (xs : List ℕ) (x : ℕ) → number.ccompare timer ≢ 177 → with_timer timer mask (set xs 177 x) ≡ set (with_timer timer mask xs) 177 x
timer_past timer mask xs x other =
    let a = get_or-set_other xs 177 (number.ccompare timer) x 0 other in
    let b = get_or-set_other xs 177 234 x 0 (λ e. omega arith) in
    let d = get_or-set_other xs 177 226 x 0 (λ e. omega arith) in
    let F : ℕ → ℕ → List ℕ = λ m n. cond (eqb m n) (set (set xs 177 x) 226 (bit_or (get_or (set xs 177 x) 226 0) mask)) (set xs 177 x) in
    let same : F (get_or (set xs 177 x) (number.ccompare timer) 0) (get_or (set xs 177 x) 234 0) ≡ F (get_or xs (number.ccompare timer) 0) (get_or xs 234 0) = λ i. F (a i) (b i) in
    same ∙ timer_if x (eqb (get_or xs (number.ccompare timer) 0) (get_or xs 234 0)) xs (bit_or (get_or (set xs 177 x) 226 0) mask) (bit_or (get_or xs 226 0) mask) (ap (λ (n : ℕ). bit_or n mask) d)

abbrev counted : List ℕ → List ℕ
counted xs = set xs 234 ((get_or xs 234 0 + 1) % 2 ^ 32)

count_past : (xs : List ℕ) (x : ℕ) → counted (set xs 177 x) ≡ set (counted xs) 177 x
count_past xs x =
    let b = get_or-set_other xs 177 234 x 0 (λ e. omega arith) in
    ap (λ (n : ℕ). set (set xs 177 x) 234 ((n + 1) % 2 ^ 32)) b ∙ set_comm xs 177 234 x _ (λ e. omega arith)

pub tick_past : (x : ℕ) (c : Control) → after_tick (with_epc1 x c) ≡ with_epc1 x (after_tick c)
unfolding ticked_special
tick_past x c =
    let xs = c.special in
    let t0 = with_timer 0 (2 ^ 6) (counted xs) in
    let t1 = with_timer 1 (2 ^ 15) t0 in
    let same : with_timer 2 (2 ^ 16) (with_timer 1 (2 ^ 15) (with_timer 0 (2 ^ 6) (counted (set xs 177 x)))) ≡ set (with_timer 2 (2 ^ 16) t1) 177 x =
    ap (λ (l : List ℕ). with_timer 2 (2 ^ 16) (with_timer 1 (2 ^ 15) (with_timer 0 (2 ^ 6) l))) (count_past xs x)
    ∙ (ap (λ (l : List ℕ). with_timer 2 (2 ^ 16) (with_timer 1 (2 ^ 15) l)) (timer_past 0 (2 ^ 6) (counted xs) x (λ e. omega arith))
    ∙ (ap (λ (l : List ℕ). with_timer 2 (2 ^ 16) l) (timer_past 1 (2 ^ 15) t0 x (λ e. omega arith))
    ∙ timer_past 2 (2 ^ 16) t1 x (λ e. omega arith))) in
    ap (λ (l : List ℕ). record c { special = l }) same

-- ---- an effect and the tick
pub effect_past : (e : Effect) (len x : ℕ) (c : Control) → AllSpare 177 e.sets → after_tick (after_effect e len (with_epc1 x c)) ≡ with_epc1 x (after_tick (after_effect e len c))
unfolding after_effect
effect_past e len x c spare =
    let d : List ℕ → Control = λ l. record { pc = c.pc; special = l; ps = e.ps; threadptr = e.threadptr; waits = e.waits } in
    ap (λ (l : List ℕ). after_tick (after_flow e.flow len (d l))) (sets_past e.sets c.special x spare)
    ∙ (ap (λ (y : Control). after_tick y) (flow_past e.flow len x (d (with_sets e.sets c.special)))
    ∙ tick_past x (after_flow e.flow len (d (with_sets e.sets c.special))))
