-- What a nested step that moves no mark does to the registers, and to the special registers.
use Rattle.std.proofs.Common.{◌≡◌, ℕ, ◌<◌, ◌≢◌, Bool, true, false, ◌||◌, cond, List, Option, Some, None, sym, ap, ◌∙◌, refl, arith, inl, inr, ⊎_elim, subst, length, get_or}
use Rattle.std.specs.Prelude.{is_some}
use Rattle.std.proofs.Math.ListN.{set}
use Rattle.std.proofs.lemmas.Bool.{cases_eq, cases_Bool, both_ways, or_cases, or_left, or_right, and_parts, and_from, eqb-true, leb-true, le-leb, false_from_ne_true}
use Rattle.std.proofs.lemmas.List.{get_or-set_other, length-set}
use Rattle.xt_special.specs.Control.{Control, special_of}
use Rattle.xt_special.specs.declared.writes.SpecialWrite.{SpecialWrite}
use Rattle.xt_special.specs.Access.{SpecialWrites, with_set, with_sets}
use Rattle.xt_special.specs.Timers.{after_tick}
use Rattle.xt_special.proofs.Kept.{ticked_other}
use Rattle.xt_window.specs.Ring.{place, visible}
use Rattle.xt_trace.specs.declared.record.RegWrite.{RegWrite}
use Rattle.xt_rows.specs.declared.outcome.Flow.{Flow}
use Rattle.xt_rows.specs.declared.outcome.Flow.TheVariants.{Falls, Goes}
use Rattle.xt_rows.specs.declared.outcome.Effect.{Effect}
use Rattle.xt_rows.specs.Kinds.{is_saved, Spares, AllSpare, SetsOne}
use Rattle.xt_rows.specs.Settling.{after_flow, after_effect}
use Rattle.xt_exec.specs.State.{State}
use Rattle.xt_exec.specs.Turn.{with_write}
use Rattle.xt_frames.specs.Frames.{seen_after_write}
use Rattle.xt_frames.specs.Marks.{marks_after, saved_by, unset_by}
use Rattle.xt_frames.specs.Breaches.{lost_of}
use Rattle.xt_simulation.specs.Relation.{Same, can_be_lost}
use Rattle.xt_simulation.specs.Nested.{IsSpare}
use Rattle.xt_simulation.proofs.Kept.{set_there, written_numbers}
use Rattle.xt_simulation.proofs.RingLemmas.{some_within}
use Rattle.xt_simulation.proofs.Evenly.{cleared, lost_in, same_sets, set_even}

-- ---- lists
abbrev no_mark : Option ℕ
no_mark = None

-- ---- a write of a0, a2 or a3, or of no register
abbrev pub IsNarrow : Option RegWrite → Type 0
IsNarrow None = Unit {0}
IsNarrow (Some w) = (w.reg < 4) × (w.reg ≢ 1)

abbrev pub after_write : Option RegWrite → Control → State → State
after_write w c s = with_write w (record s { control = c })

pub spare_place : (base r : ℕ) → r < 4 → r ≢ 1 → IsSpare base (place base r)
spare_place base r small other =
    ⊎_elim
    (λ e. inl (ap (place base) e))
    (λ a. ⊎_elim
    (λ e. inr (inl (ap (place base) e)))
    (λ b. inr (inr (ap (place base) (let k : r ≡ 3 = omega arith in k))))
    (cases_eq r 2))
    (cases_eq r 0)

-- a number in place of a mark
pub written_marks : (regs : List ℕ) (seen marks : List (Option ℕ)) (base r v w : ℕ) (held : ℕ → ℕ) → length marks ≡ 16 → r < 16
    → ((i k : ℕ) → get_or marks i None ≡ Some k → (visible regs base i ≡ held k) × (get_or seen i None ≡ None))
    → (i k : ℕ) → get_or (set marks r no_mark) i None ≡ Some k → (visible (set regs (place base r) v) base i ≡ held k) × (get_or (set seen r (Some w)) i None ≡ None)
written_marks regs seen marks base r v w held wide narrow old i k e =
    let within = some_within (set marks r no_mark) i k e in
    let l = length-set marks r no_mark in
    ⊎_elim
    (λ same. let at : get_or (set marks r no_mark) i None ≡ None = rw same (cleared marks r no_mark) in absurd cc)
    (λ other.
    let before = old i k (sym (get_or-set_other marks r i no_mark None other) ∙ e) in
    (set_there regs base r v i narrow (omega arith) other ∙ before.0, get_or-set_other seen r i (Some w) None other ∙ before.1))
    (cases_eq i r)

module _ (c : Control) (s : State) where
  pub write_size : (w : Option RegWrite) → length (after_write w c s).regs ≡ length s.regs
  write_size None = refl
  write_size (Some w) = length-set s.regs (place s.base w.reg) w.value

  pub write_others : (w : Option RegWrite) → IsNarrow w → (p : ℕ) → (IsSpare (after_write w c s).base p → ⊥) → get_or (after_write w c s).regs p 0 ≡ get_or s.regs p 0
  write_others None narrow p other = refl
  write_others (Some w) narrow p other =
      let apart : p ≢ place s.base w.reg = λ e. other (subst (λ q. IsSpare s.base q) (sym e) (spare_place s.base w.reg narrow.0 narrow.1)) in
      get_or-set_other s.regs (place s.base w.reg) p w.value 0 apart

  pub write_numbers : (w : Option RegWrite) → IsNarrow w → length s.regs ≡ 64 → (seen : List (Option ℕ)) → length seen ≡ 16 → ((i v : ℕ) → get_or seen i None ≡ Some v → visible s.regs s.base i ≡ v)
      → (i v : ℕ) → get_or (seen_after_write w seen) i None ≡ Some v → visible (after_write w c s).regs (after_write w c s).base i ≡ v
  write_numbers None narrow count seen wide old i v e = old i v e
  write_numbers (Some w) narrow count seen wide old i v e = let small = narrow.0 in written_numbers s.regs seen s.base w.reg w.value count wide (omega arith) old i v e

  pub write_marks : (w : Option RegWrite) → IsNarrow w → (held : ℕ → ℕ) (seen marks : List (Option ℕ)) → length marks ≡ 16
      → ((i k : ℕ) → get_or marks i None ≡ Some k → (visible s.regs s.base i ≡ held k) × (get_or seen i None ≡ None))
      → (i k : ℕ) → get_or (marks_after None w marks) i None ≡ Some k → (visible (after_write w c s).regs (after_write w c s).base i ≡ held k) × (get_or (seen_after_write w seen) i None ≡ None)
  write_marks None narrow held seen marks wide old i k e = old i k e
  write_marks (Some w) narrow held seen marks wide old i k e = let small = narrow.0 in written_marks s.regs seen marks s.base w.reg w.value w.value held wide (omega arith) old i k e

-- ---- registers that have no number
pub can_saved : (k : ℕ) → can_be_lost k ≡ true → is_saved k ≡ true
can_saved k h =
    ⊎_elim
    (λ a. let e = eqb-true k 177 a in rw e refl)
    (λ h. ⊎_elim
    (λ a. let e = eqb-true k 181 a in rw e refl)
    (λ h. ⊎_elim
    (λ a.
    let q = and_parts _ _ a in
    let low = leb-true 194 k q.0 in
    let high = leb-true k 199 q.1 in
    or_left _ _ (and_from _ _ (le-leb 177 k (omega arith)) (le-leb k 215 (omega arith))))
    (λ h. ⊎_elim
    (λ p.
    let q = and_parts _ _ p in
    let low = leb-true 209 k q.0 in
    let high = leb-true k 215 q.1 in
    or_left _ _ (and_from _ _ (le-leb 177 k (omega arith)) (le-leb k 215 high)))
    (λ p. or_right _ _ p)
    (or_cases _ _ h))
    (or_cases _ _ h))
    (or_cases _ _ h))
    (or_cases _ _ h)

-- those that a WSR or XSR does not write
abbrev pub Elsewhere : Option (ℕ × ℕ) → ℕ → Type 0
Elsewhere None n = Unit {0}
Elsewhere (Some p) n = p.1 ≢ n

-- what it reads is no mark
abbrev pub ReadsNumber : Option (ℕ × ℕ) → List (Option ℕ) → Type 0
ReadsNumber None marks = Unit {0}
ReadsNumber (Some p) marks = get_or marks p.0 None ≡ None

moved_unset : (p : ℕ × ℕ) (marks : List (Option ℕ)) (unset : List Bool) → get_or marks p.0 None ≡ None → unset_by (Some p) marks unset ≡ set unset p.1 false
moved_unset p marks unset none = ap (λ (o : Option ℕ). set unset p.1 (is_some o)) none

lost_less : (p : ℕ × ℕ) (unset : List Bool) (k : ℕ) → lost_in false (set unset p.1 false) k ≡ true → lost_in false unset k ≡ true
lost_less p unset k e =
    ⊎_elim
    (λ first. or_left _ _ first)
    (λ last. ⊎_elim
    (λ same. let z : get_or (set unset p.1 false) k false ≡ false = rw same (cleared unset p.1 false) in absurd (both_ways _ z last))
    (λ other. or_right _ _ (sym (get_or-set_other unset p.1 k false false other) ∙ last))
    (cases_eq k p.1))
    (or_cases (lost_of false k) (get_or (set unset p.1 false) k false) e)

lost_other : (p : ℕ × ℕ) (unset : List Bool) (k : ℕ) → k ≢ p.1 → lost_in false (set unset p.1 false) k ≡ false → lost_in false unset k ≡ false
lost_other p unset k other e = ap (λ v. lost_of false k || v) (sym (get_or-set_other unset p.1 k false false other)) ∙ e

set_one : (p : ℕ × ℕ) (sets : SpecialWrites) (xs ys : List ℕ) (k : ℕ) → length xs ≡ length ys → k ≡ p.1 → SetsOne (Some p) k sets → get_or (with_sets sets xs) k 0 ≡ get_or (with_sets sets ys) k 0
set_one p sets xs ys k len same one =
    let is = one.0 (sym same) in
    subst (λ (st : SpecialWrites). get_or (with_sets st xs) k 0 ≡ get_or (with_sets st ys) k 0) (sym is.1) (set_even xs ys k is.0 k len (λ other. absurd (other refl)))

-- a special register that is written has a number then
pub same_moved : (o : Option (ℕ × ℕ)) (sets : SpecialWrites) (marks : List (Option ℕ)) (unset : List Bool) {xs ys : List ℕ} → Same (lost_in false unset) xs ys → ReadsNumber o marks → ((n : ℕ) → is_saved n ≡ true → SetsOne o n sets)
    → Same (lost_in false (unset_by o marks unset)) (with_sets sets xs) (with_sets sets ys)
same_moved None sets marks unset s reads saved = same_sets sets s
same_moved (Some p) sets marks unset {xs = xs} {ys = ys} s reads saved =
    let t = same_sets sets s in
    let now : Same (lost_in false (set unset p.1 false)) (with_sets sets xs) (with_sets sets ys) = record {
      size = t.size;
      only = λ k e. s.only k (lost_less p unset k e);
      at = λ k e. ⊎_elim
          (λ same. ⊎_elim
          (λ is. set_one p sets xs ys k s.size same (saved k is))
          (λ isnt. t.at k (false_from_ne_true (lost_in false unset k) (λ h. both_ways (is_saved k) isnt (can_saved k (s.only k h)))))
          (cases_Bool (is_saved k)))
          (λ other. t.at k (lost_other p unset k other e))
          (cases_eq k p.1);
    } in
    subst (λ (u : List Bool). Same (lost_in false u) (with_sets sets xs) (with_sets sets ys)) (sym (moved_unset p marks unset reads)) now

-- ---- an effect
flow_if : (b : Bool) (x y : Control) (k : ℕ) (v : ℕ) → special_of x k ≡ v → special_of y k ≡ v → special_of (cond b x y) k ≡ v
flow_if true x y k v p q = p
flow_if false x y k v p q = q

flow_other : (flow : Flow) (len : ℕ) (c : Control) (k : ℕ) → k ≢ 2 → special_of (after_flow flow len c) k ≡ special_of c k
flow_other (Goes target) len c k other = refl
flow_other Falls len c k other = flow_if _ _ _ k (special_of c k) (get_or-set_other c.special 2 k _ 0 other) refl

set_spares : (w : Option SpecialWrite) (xs : List ℕ) (k : ℕ) → Spares k w → get_or (with_set w xs) k 0 ≡ get_or xs k 0
set_spares None xs k h = refl
set_spares (Some w) xs k h = get_or-set_other xs w.number k w.value 0 (λ e. h (sym e))

sets_spare : (ws : SpecialWrites) (xs : List ℕ) (k : ℕ) → AllSpare k ws → get_or (with_sets ws xs) k 0 ≡ get_or xs k 0
sets_spare ws xs k h =
    set_spares ws.2 (with_set ws.1 (with_set ws.0 xs)) k h.2
    ∙ (set_spares ws.1 (with_set ws.0 xs) k h.1 ∙ set_spares ws.0 xs k h.0)

saved_apart : (k n : ℕ) → is_saved k ≡ true → is_saved n ≡ false → k ≢ n
saved_apart k n h other e = both_ways (is_saved n) other (subst (λ j. is_saved j ≡ true) e h)

-- a register that saves another, and is not written
pub ticked_saved : (c : Control) (k : ℕ) → is_saved k ≡ true → special_of (after_tick c) k ≡ special_of c k
ticked_saved c k h = ticked_other c.special k (saved_apart k 226 h refl) (saved_apart k 234 h refl)

pub effect_spares : (e : Effect) (len : ℕ) (c : Control) (k : ℕ) → is_saved k ≡ true → AllSpare k e.sets → special_of (after_effect e len c) k ≡ special_of c k
unfolding after_effect
effect_spares e len c k h spare =
    flow_other e.flow len (record { pc = c.pc; special = with_sets e.sets c.special; ps = e.ps; threadptr = e.threadptr; waits = e.waits }) k (saved_apart k 2 h refl)
    ∙ sets_spare e.sets c.special k spare

flow_mode : (flow : Flow) (len : ℕ) (c : Control) → ((after_flow flow len c).ps ≡ c.ps) × ((after_flow flow len c).waits ≡ c.waits)
flow_mode (Goes target) len c = (refl, refl)
flow_mode Falls len c = if_mode _ _ _ c (refl, refl) (refl, refl)
  where
    if_mode : (b : Bool) (x y d : Control) → (x.ps ≡ d.ps) × (x.waits ≡ d.waits) → (y.ps ≡ d.ps) × (y.waits ≡ d.waits) → ((cond b x y).ps ≡ d.ps) × ((cond b x y).waits ≡ d.waits)
    if_mode true x y d p q = p
    if_mode false x y d p q = q

pub effect_mode : (e : Effect) (len : ℕ) (c : Control) → ((after_effect e len c).ps ≡ e.ps) × ((after_effect e len c).waits ≡ e.waits)
unfolding after_effect
effect_mode e len c = flow_mode e.flow len (record { pc = c.pc; special = with_sets e.sets c.special; ps = e.ps; threadptr = e.threadptr; waits = e.waits })

pub all_spare : (o : Option (ℕ × ℕ)) (n : ℕ) (sets : SpecialWrites) → SetsOne o n sets → Elsewhere o n → AllSpare n sets
all_spare None n sets h e = h
all_spare (Some p) n sets h e = h.1 e

-- ---- marks in special registers
pub saved_left : (o : Option (ℕ × ℕ)) (marks saved : List (Option ℕ)) (unset : List Bool) (n k : ℕ) → ReadsNumber o marks → get_or (saved_by o marks saved) n None ≡ Some k
    → (get_or saved n None ≡ Some k) × Elsewhere o n × (get_or (unset_by o marks unset) n false ≡ get_or unset n false)
saved_left None marks saved unset n k reads e = (e, tt, refl)
saved_left (Some p) marks saved unset n k reads e =
    let f : get_or (set saved p.1 no_mark) n None ≡ Some k = ap (λ (o : Option ℕ). get_or (set saved p.1 o) n None) (sym reads) ∙ e in
    ⊎_elim
    (λ same. let at : get_or (set saved p.1 no_mark) n None ≡ None = rw same (cleared saved p.1 no_mark) in absurd cc)
    (λ other. (
      sym (get_or-set_other saved p.1 n no_mark None other) ∙ f,
      (λ h. other (sym h)),
      ap (λ (u : List Bool). get_or u n false) (moved_unset p marks unset reads) ∙ get_or-set_other unset p.1 n false false other,
    ))
    (cases_eq n p.1)
