-- What a search keeps of a core goes on without its dead registers as it does with them.
use Rattle.std.proofs.Common.{◌≡◌, ℕ, zero, suc, ◌+◌, ◌*◌, ◌/◌, ◌%◌, ◌^◌, Bool, true, false, cond, not, ◌&&◌, ◌||◌, Option, Some, None, List, [], ◌∷◌, bit_and, refl, sym, ap, ◌∙◌, subst, ⊎_elim, arith, eqb-true, ne_eqb, ◌≢◌, slice_set, slice_index}
use Rattle.std.specs.Prelude.{◌==◌}
use Rattle.std.proofs.lemmas.Bool.{and_parts, not-true, or_cases, or_parts, true≢false}
use Rattle.xt_map.specs.declared.access.Access.{Access}
use Rattle.xt_map.specs.declared.contents.MemoryContents.{MemoryContents}
use Rattle.xt_window.specs.Ring.{bit, place, visible}
use Rattle.xt_trace.specs.Calls.{is_stop}
use Rattle.xt_trace.specs.declared.record.RegWrite.{RegWrite}
use Rattle.xt_trace.specs.declared.record.StepKind.{StepKind}
use Rattle.xt_trace.specs.declared.record.StepRecord.{StepRecord}
use Rattle.xt_trace.specs.Runs.{Opening, world_at_start}
use Rattle.xt_trace.specs.Worlds.{answer, left_past, memory_left}
use Rattle.xt_map.specs.Code.{AreBytes}
use Rattle.xt_map.specs.Fetching.{fetch_at}
use Rattle.xt_rows.specs.RowLaws.{AgreeAt, AgreeOn}
use Rattle.xt_rows.specs.declared.outcome.ReplyTarget.{ReplyTarget}
use Rattle.xt_rows.specs.Settling.{write_with_reply}
use Rattle.xt_search.specs.Meetings.{after}
use Rattle.xt_special.specs.Control.{special_of}
use Rattle.xt_special.specs.Numbers as number
use Rattle.xt_exec.specs.Chips.{processor}
use Rattle.xt_exec.specs.State.{State}
use Rattle.xt_exec.specs.Turn.{Planned, demand, planned_turn, reply_where, turn, with_write}
use Rattle.xt_special.specs.Access.{without_bits}
use Rattle.std.proofs.lemmas.List.{get_or-set_other, set-set, set_comm}
use Rattle.xt_timeless.specs.Time.{executes, fetches_compare, fetches_time, fetches_write, special_without_time, timer_bits, uses_time}
use Rattle.xt_timeless.specs.TimeLaws.{DifferInCompare, with_compare}
use Rattle.xt_timeless.proofs.Comparing.{compare_is_written, compare_waits}
use Rattle.xt_outcomes.specs.Dead.{are_fit, cleared, compare_cleared, dead_at, fits, forgotten, has_compare, is_compare_fit, is_live, is_written, reads_of, registers_in, side_forgotten, spot_forgotten, stay_dead}
use Rattle.xt_outcomes.specs.Nexts.{TurnsFit, misfits, next_bars, side_next, spot_next}
use Rattle.xt_outcomes.specs.Orders.{world_after}
use Rattle.xt_outcomes.specs.SpotRaces.{next_of}
use Rattle.xt_outcomes.specs.Spots.{Side, Spot, TurnsAreFree, memory_given, more_kept, side_bars, side_given, side_of, side_past, spot_in, spot_past, state_kept}
use Rattle.xt_outcomes.proofs.Clearing.{cleared_other, none_cleared, put, same_cleared}
use Rattle.xt_outcomes.proofs.Reading.{planned_with, regs_stay, turn_with, with_regs}
use Rattle.xt_outcomes.proofs.Untimed.{gone_after}

-- ---- masks and writes

-- visible registers at one place are one register of a mask
same_bit : (mask base i r : ℕ) → place base i ≡ place base r → bit mask i ≡ bit mask r
unfolding bit
same_bit mask base i r e =
    let f : (4 * base + i) % 64 ≡ (4 * base + r) % 64 = e in
    let g : i % 16 ≡ r % 16 = omega arith in
    ap (λ (k : ℕ). (mask / 2 ^ k % 2) == 1) g

not_both : (b : Bool) → not b ≡ true → b ≡ true → ⊥
not_both true h e = absurd (true≢false (sym h))
not_both false h e = absurd (true≢false (sym e))

agree_at : (mask base : ℕ) (xs : List ℕ) (o : Option ℕ) → is_live mask o ≡ true → AgreeAt (visible (cleared mask base xs 16) base) (visible xs base) o
agree_at mask base xs None h = tt
agree_at mask base xs (Some r) h =
    cleared_other mask base xs (place base r) 16 (λ i below b e. not_both (bit mask r) h (sym (same_bit mask base i r e) ∙ b))

-- which register a reply is written to is known before it
pub same_written : (write : Option RegWrite) (awaited : Option ReplyTarget) (a b i : ℕ) → is_written (write_with_reply write awaited a) i ≡ is_written (write_with_reply write awaited b) i
same_written write None a b i = refl
same_written write (Some target) a b i = refl

pub same_stay : (w v : Option RegWrite) (before later n : ℕ) → ((i : ℕ) → is_written w i ≡ is_written v i) → stay_dead w before later n ≡ stay_dead v before later n
same_stay w v before later zero h = refl
same_stay w v before later (suc n) h = λ j. same_stay w v before later n h j && (not (bit before n) || (h n j || bit later n))

written_state : (write : Option RegWrite) (s : State) (xs : List ℕ) → with_write write (record s { regs = xs }) ≡ record s { regs = put write s.base xs }
written_state None s xs = refl
written_state (Some w) s xs = refl

no_zero : (n : ℕ) → (suc n == 0) ≡ false
no_zero n = ne_eqb (suc n) 0 (λ (e : suc n ≡ 0). omega arith)

fit_of : (b c : Bool) → b ≡ false → (not b && not c) ≡ false → c ≡ true
fit_of true c e h = absurd (true≢false e)
fit_of false true e h = refl
fit_of false false e h = absurd (true≢false h)

-- ---- SCOMPARE1 among special registers

compare_stays : (b : Bool) (k : ℕ) (xs : List ℕ) → k ≢ 12 → slice_index (compare_cleared b xs) k ≡ slice_index xs k
compare_stays true k xs h = get_or-set_other xs 12 k 0 0 h
compare_stays false k xs h = refl

-- without time too
time_cleared : (b : Bool) (xs : List ℕ) → special_without_time (compare_cleared b xs) ≡ compare_cleared b (special_without_time xs)
time_cleared false xs = refl
time_cleared true xs =
    let on : (k v : ℕ) (ys : List ℕ) → 12 ≢ k → slice_set (slice_set ys 12 0) k v ≡ slice_set (slice_set ys k v) 12 0 = λ k v ys h. set_comm ys 12 k 0 v h in
    let a = slice_set xs 234 0 in
    let b = slice_set a 240 0 in
    let c = slice_set b 241 0 in
    let d = slice_set c 242 0 in
    let n = without_bits (slice_index xs 226) timer_bits in
    let last : List ℕ → List ℕ = λ ys. slice_set ys 226 (without_bits (slice_index (slice_set xs 12 0) 226) timer_bits) in
    ap (λ (ys : List ℕ). last (slice_set (slice_set (slice_set ys 240 0) 241 0) 242 0)) (on 234 0 xs (λ e. omega arith))
    ∙ ap (λ (ys : List ℕ). last (slice_set (slice_set ys 241 0) 242 0)) (on 240 0 a (λ e. omega arith))
    ∙ ap (λ (ys : List ℕ). last (slice_set ys 242 0)) (on 241 0 b (λ e. omega arith))
    ∙ ap last (on 242 0 c (λ e. omega arith))
    ∙ ap (λ (m : ℕ). slice_set (slice_set d 12 0) 226 (without_bits m timer_bits)) (get_or-set_other xs 12 226 0 0 (λ e. omega arith))
    ∙ on 226 n d (λ e. omega arith)

-- ---- one turn

module _ (code : ℕ → ℕ) (ms : List ℕ) where
  -- two states make the same turn, and after it they are the same but for dead registers
  pub record MakeOneTurn (t s : State) : Type 0 where
    pub kind : (planned_turn code t).kind ≡ (planned_turn code s).kind
    pub asks : demand code t ≡ demand code s
    pub rec : (reply : ℕ) → (turn code t reply).0 ≡ (turn code s reply).0
    pub state : (reply : ℕ) → forgotten ms (turn code t reply).1 ≡ forgotten ms (turn code s reply).1

  one_state : (t s : State) → t ≡ s → MakeOneTurn t s
  one_state t s e = record {
    kind = ap (λ (u : State). (planned_turn code u).kind) e;
    asks = ap (demand code) e;
    rec = λ reply. ap (λ (u : State). (turn code u reply).0) e;
    state = λ reply. ap (λ (u : State). forgotten ms (turn code u reply).1) e;
  }

  then_same : (t u s : State) → MakeOneTurn t u → MakeOneTurn u s → MakeOneTurn t s
  then_same t u s h k = record {
    kind = h.kind ∙ k.kind;
    asks = h.asks ∙ k.asks;
    rec = λ reply. h.rec reply ∙ k.rec reply;
    state = λ reply. h.state reply ∙ k.state reply;
  }

  -- ---- SCOMPARE1

  -- a state without SCOMPARE1, if it is dead
  abbrev pub rest : State → State
  rest u = record u { control = record u.control { special = compare_cleared (has_compare (dead_at ms u.control.pc)) u.control.special } }

  -- what the checks see of a turn
  record IsSeenAlike (q p : Planned) : Type 0 where
    kind : q.kind ≡ p.kind
    write : q.write ≡ p.write
    awaited : q.awaited ≡ p.awaited
    base : q.after.base ≡ p.after.base
    pc : q.after.control.pc ≡ p.after.control.pc

  seen_same : (q p : Planned) → q ≡ p → IsSeenAlike q p
  seen_same q p e = record {
    kind = ap (λ (x : Planned). x.kind) e;
    write = ap (λ (x : Planned). x.write) e;
    awaited = ap (λ (x : Planned). x.awaited) e;
    base = ap (λ (x : Planned). x.after.base) e;
    pc = ap (λ (x : Planned). x.after.control.pc) e;
  }

  module _ (u : State) where
    abbrev v : State
    v = with_compare 0 u

    other_special : (k : ℕ) → k ≢ 12 → special_of v.control k ≡ special_of u.control k
    other_special k h = get_or-set_other u.control.special 12 k 0 0 h

    same_record : (D : DifferInCompare (planned_turn code u) (planned_turn code v)) (reply : ℕ) → (turn code v reply).0 ≡ (turn code u reply).0
    unfolding turn demand
    same_record D reply =
        let make : StepKind → Option RegWrite → Option Access → ℕ → ℕ → ℕ → StepRecord = λ kind write access answer ccount interrupt. record {
          pc = u.control.pc;
          kind = kind;
          write = write;
          access = access;
          reply = answer;
          ccount = ccount;
          owb = u.control.ps.owb;
          interrupt = interrupt;
        } in
        λ i. make (sym D.kind i) (write_with_reply (sym D.write i) (sym D.awaited i) reply) (sym D.access i) (reply_where (sym D.access i) reply)
        (other_special 234 (λ e. omega arith) i) (other_special 226 (λ e. omega arith) i)

    cleared_twice : (b : Bool) (k : ℕ) (xs : List ℕ) → b ≡ true → compare_cleared b (slice_set xs 12 k) ≡ compare_cleared b xs
    cleared_twice true k xs h = set-set xs 12 k 0
    cleared_twice false k xs h = absurd (true≢false (sym h))

    -- two states after a turn that differ in SCOMPARE1, which is dead then
    after_alike : (w : Option RegWrite) (p : State) (k : ℕ) → has_compare (dead_at ms p.control.pc) ≡ true → forgotten ms (with_write w (with_compare k p)) ≡ forgotten ms (with_write w p)
    after_alike None p k h =
        ap
        (λ (xs : List ℕ). let x : State = record p {
          regs = cleared (registers_in (dead_at ms p.control.pc)) p.base p.regs 16;
          control = record p.control { special = xs };
        } in
        x)
        (cleared_twice (has_compare (dead_at ms p.control.pc)) k p.control.special h)
    after_alike (Some w) p k h =
        ap
        (λ (xs : List ℕ). let x : State = record p {
          regs = cleared (registers_in (dead_at ms p.control.pc)) p.base (put (Some w) p.base p.regs) 16;
          control = record p.control { special = xs };
        } in
        x)
        (cleared_twice (has_compare (dead_at ms p.control.pc)) k p.control.special h)

    same_after : (D : DifferInCompare (planned_turn code u) (planned_turn code v)) (reply : ℕ) → has_compare (dead_at ms (planned_turn code u).after.control.pc) ≡ true
        → forgotten ms (turn code v reply).1 ≡ forgotten ms (turn code u reply).1
    unfolding turn
    same_after D reply h =
        let p = planned_turn code u in
        (λ i. forgotten ms (with_write (write_with_reply (sym D.write i) (sym D.awaited i) reply) (D.after i)))
        ∙ after_alike (write_with_reply p.write p.awaited reply) p.after D.compare h

    asked : (x : State) → demand code x ≡ (planned_turn code x).access
    unfolding demand
    asked x = refl

    written_after : (reply : ℕ) → planned_turn code v ≡ planned_turn code u → forgotten ms (turn code v reply).1 ≡ forgotten ms (turn code u reply).1
    unfolding turn
    written_after reply e = ap (λ (x : Planned). forgotten ms (with_write (write_with_reply x.write x.awaited reply) x.after)) e

    -- a turn that does not read it makes the same, where it is written or dead then
    compare_turn : fetches_compare (fetch_at code u.control.pc) ≡ false
        → ((executes (planned_turn code v).kind && fetches_write (fetch_at code u.control.pc)) || has_compare (dead_at ms (planned_turn code v).after.control.pc)) ≡ true
        → MakeOneTurn v u × IsSeenAlike (planned_turn code v) (planned_turn code u)
    compare_turn free h =
        let D = compare_waits code u 0 free in
        let p = planned_turn code u in
        let q = planned_turn code v in
        let written = executes q.kind && fetches_write (fetch_at code u.control.pc) in
        let pc : q.after.control.pc ≡ p.after.control.pc = ap (λ (x : State). x.control.pc) D.after in (
          record {
            kind = sym D.kind;
            asks = asked v ∙ sym D.access ∙ sym (asked u);
            rec = same_record D;
            state = λ reply. ⊎_elim
                (λ (w : written ≡ true).
                let e = compare_is_written code u 0 (ap (λ (k : StepKind). executes k && fetches_write (fetch_at code u.control.pc)) D.kind ∙ w) in
                written_after reply e)
                (λ (x : has_compare (dead_at ms q.after.control.pc) ≡ true). same_after D reply (ap (λ (k : ℕ). has_compare (dead_at ms k)) (sym pc) ∙ x))
                (or_cases written (has_compare (dead_at ms q.after.control.pc)) h);
          },
          record {
            kind = sym D.kind;
            write = sym D.write;
            awaited = sym D.awaited;
            base = ap (λ (x : State). x.base) D.after;
            pc = pc;
          },
        )

    -- by whether it is dead
    compare_same : (b : Bool) → has_compare (dead_at ms u.control.pc) ≡ b
        → (let q = planned_turn code (rest u) in is_compare_fit (dead_at ms u.control.pc) (fetches_compare (fetch_at code u.control.pc)) (executes q.kind && fetches_write (fetch_at code u.control.pc)) (dead_at ms q.after.control.pc) ≡ true)
        → MakeOneTurn (rest u) u × IsSeenAlike (planned_turn code (rest u)) (planned_turn code u)
    compare_same true e h =
        let at = fetch_at code u.control.pc in
        let is : rest u ≡ v = ap (λ (b : Bool). let x : State = record u { control = record u.control { special = compare_cleared b u.control.special } } in x) e in
        let fit : State → Bool = λ x. let q = planned_turn code x in not (fetches_compare at) && ((executes q.kind && fetches_write at) || has_compare (dead_at ms q.after.control.pc)) in
        let k : fit v ≡ true =
        ap fit (sym is) ∙ sym (ap (λ (b : Bool). not b || fit (rest u)) e) ∙ h in
        let parts = and_parts (not (fetches_compare at)) ((executes (planned_turn code v).kind && fetches_write at) || has_compare (dead_at ms (planned_turn code v).after.control.pc)) k in
        subst (λ (x : State). MakeOneTurn x u × IsSeenAlike (planned_turn code x) (planned_turn code u)) (sym is) (compare_turn (not-true (fetches_compare at) parts.0) parts.1)
    compare_same false e h =
        let is : rest u ≡ u = ap (λ (b : Bool). let x : State = record u { control = record u.control { special = compare_cleared b u.control.special } } in x) e in
        (one_state (rest u) u is, seen_same (planned_turn code (rest u)) (planned_turn code u) (ap (planned_turn code) is))

  -- ---- visible registers

  module _ (s : State) where
    abbrev d : ℕ
    d = registers_in (dead_at ms s.control.pc)

    abbrev R : List ℕ
    R = cleared d s.base s.regs 16

    abbrev cut : State
    cut = record s { regs = R }

    abbrev p : Planned
    p = planned_turn code s

    abbrev later : ℕ
    later = registers_in (dead_at ms p.after.control.pc)

    none_dead : d ≡ 0 → cut ≡ s
    none_dead e =
        ap (λ (mask : ℕ). let u : State = record s { regs = cleared mask s.base s.regs 16 } in u) e
        ∙ ap (λ (xs : List ℕ). let u : State = record s { regs = xs } in u) (none_cleared s.base s.regs)

    pub state_is : (reply : ℕ) → (turn code s reply).1 ≡ with_write (turn code s reply).0.write p.after
    unfolding turn
    state_is reply = refl

    pub write_is : (reply : ℕ) → (turn code s reply).0.write ≡ write_with_reply p.write p.awaited reply
    unfolding turn
    write_is reply = refl

    asks_is : (u : State) → demand code u ≡ (planned_turn code u).access
    unfolding demand
    asks_is u = refl

    -- the registers after the turn, without those that are dead then
    same_regs : (write : Option RegWrite) → p.after.base ≡ s.base → stay_dead write d later 16 ≡ true
        → cleared later p.after.base (put write p.after.base R) 16 ≡ cleared later p.after.base (put write p.after.base p.after.regs) 16
    same_regs write base stay =
        ap (λ (b : ℕ). cleared later b (put write b R) 16) base
        ∙ same_cleared write d later s.base s.regs stay
        ∙ ap (λ (xs : List ℕ). cleared later s.base (put write s.base xs) 16) (sym (regs_stay code s))
        ∙ ap (λ (b : ℕ). cleared later b (put write b p.after.regs) 16) (sym base)

    same_state : (write : Option RegWrite) → p.after.base ≡ s.base → stay_dead write d later 16 ≡ true
        → forgotten ms (with_write write (record p.after { regs = R })) ≡ forgotten ms (with_write write p.after)
    same_state write base stay =
        ap (forgotten ms) (written_state write p.after R)
        ∙ ap (λ (xs : List ℕ). rest (let u : State = record p.after { regs = xs } in u)) (same_regs write base stay)
        ∙ sym (ap (forgotten ms) (written_state write p.after p.after.regs))

    module _ (agree : AgreeOn (visible R s.base) (visible s.regs s.base) (reads_of (fetch_at code s.control.pc)))
        (base : p.after.base ≡ s.base) (stay : stay_dead (write_with_reply p.write p.awaited 0) d later 16 ≡ true) where
      e : planned_turn code cut ≡ with_regs R p
      e = planned_with R code s agree

      dead_stay : (reply : ℕ) → stay_dead (turn code s reply).0.write d later 16 ≡ true
      dead_stay reply =
          ap (λ (w : Option RegWrite). stay_dead w d later 16) (write_is reply)
          ∙ same_stay (write_with_reply p.write p.awaited reply) (write_with_reply p.write p.awaited 0) d later 16 (same_written p.write p.awaited reply 0)
          ∙ stay

      one_turn : MakeOneTurn cut s
      one_turn = record {
        kind = ap (λ (q : Planned). q.kind) e;
        asks = asks_is cut ∙ ap (λ (q : Planned). q.access) e ∙ sym (asks_is s);
        rec = λ reply. ap (λ (x : StepRecord × State). x.0) (turn_with R code s reply agree);
        state = λ reply.
            ap (λ (x : StepRecord × State). forgotten ms x.1) (turn_with R code s reply agree)
            ∙ same_state (turn code s reply).0.write base (dead_stay reply)
            ∙ sym (ap (forgotten ms) (state_is reply));
      }

    registers_fit : (let q = planned_turn code cut in are_fit d (reads_of (fetch_at code s.control.pc)) (q.after.base == s.base) (write_with_reply q.write q.awaited 0) (registers_in (dead_at ms q.after.control.pc)) ≡ true)
        → MakeOneTurn cut s
    registers_fit h =
        let q = planned_turn code cut in
        let o = reads_of (fetch_at code s.control.pc) in
        let stays = q.after.base == s.base in
        let write = write_with_reply q.write q.awaited 0 in
        let stay = stay_dead write d (registers_in (dead_at ms q.after.control.pc)) 16 in
        ⊎_elim
        (λ (none : (d == 0) ≡ true). one_state cut s (none_dead (eqb-true d 0 none)))
        (λ (some : (is_live d o.0 && (is_live d o.1 && (stays && stay))) ≡ true).
        let x = and_parts (is_live d o.0) (is_live d o.1 && (stays && stay)) some in
        let y = and_parts (is_live d o.1) (stays && stay) x.1 in
        let z = and_parts stays stay y.1 in
        let agree : AgreeOn (visible R s.base) (visible s.regs s.base) o = (agree_at d s.base s.regs o.0 x.0, agree_at d s.base s.regs o.1 y.0) in
        let f = planned_with R code s agree in
        one_turn agree
        (sym (ap (λ (u : Planned). u.after.base) f) ∙ eqb-true q.after.base s.base z.0)
        (ap (λ (u : Planned). stay_dead (write_with_reply u.write u.awaited 0) d (registers_in (dead_at ms u.after.control.pc)) 16) (sym f) ∙ z.1))
        (or_cases (d == 0) (is_live d o.0 && (is_live d o.1 && (stays && stay))) h)

    -- a turn that fits is the same without the dead registers
    pub fit_turn : fits code ms (forgotten ms s) ≡ true → MakeOneTurn (forgotten ms s) s
    fit_turn h =
        let t = forgotten ms s in
        let q = planned_turn code t in
        let r = planned_turn code cut in
        let at = fetch_at code s.control.pc in
        let o = reads_of at in
        let registers : Planned → Bool = λ x. are_fit d o (x.after.base == s.base) (write_with_reply x.write x.awaited 0) (registers_in (dead_at ms x.after.control.pc)) in
        let parts = and_parts (registers q) (is_compare_fit (dead_at ms s.control.pc) (fetches_compare at) (executes q.kind && fetches_write at) (dead_at ms q.after.control.pc)) h in
        let same = compare_same cut (has_compare (dead_at ms s.control.pc)) refl parts.1 in
        let k = same.1 in
        let back : registers q ≡ registers r = λ i. are_fit d o (k.base i == s.base) (write_with_reply (k.write i) (k.awaited i) 0) (registers_in (dead_at ms (k.pc i))) in
        then_same t cut s same.0 (registers_fit (sym back ∙ parts.0))

    fit_uses : fits code ms (forgotten ms s) ≡ true → uses_time code (forgotten ms s) ≡ uses_time code s
    fit_uses h =
        ap (λ (n : ℕ). not (bit_and n timer_bits == 0) || (executes (planned_turn code (forgotten ms s)).kind && fetches_time (fetch_at code s.control.pc)))
        (compare_stays (has_compare (dead_at ms s.control.pc)) 228 s.control.special (λ e. omega arith))
        ∙ ap (λ (k : StepKind). not (bit_and (special_of s.control number.intenable) timer_bits == 0) || (executes k && fetches_time (fetch_at code s.control.pc))) (fit_turn h).kind

  -- ---- what is kept of a core

  kept_forgets : (timed : Bool) (u : State) → forgotten ms (state_kept timed u) ≡ state_kept timed (forgotten ms u)
  kept_forgets true u = refl
  kept_forgets false u =
      let mask = dead_at ms u.control.pc in
      ap
      (λ (xs : List ℕ). let x : State = record u { regs = cleared (registers_in mask) u.base u.regs 16; control = record u.control { special = xs } } in x)
      (sym (time_cleared (has_compare mask) u.control.special))

  module _ (timed : Bool) where
    abbrev F : Side State → Side State
    F k = side_forgotten ms k

    same_past : (k : Side State) → MakeOneTurn (forgotten ms k.state) k.state → (n reply : ℕ) → F (side_past (processor code) timed (F k) n reply) ≡ F (side_past (processor code) timed k n reply)
    same_past k a n reply =
        let t = forgotten ms k.state in
        let make : StepRecord → State → Side State = λ x u. record { state = u; left = left_past x (more_kept timed n); stopped = k.stopped || is_stop x.kind } in
        let same : forgotten ms (state_kept timed (turn code t reply).1) ≡ forgotten ms (state_kept timed (turn code k.state reply).1) =
        kept_forgets timed (turn code t reply).1 ∙ ap (state_kept timed) (a.state reply) ∙ sym (kept_forgets timed (turn code k.state reply).1)
        in
        λ j. make (a.rec reply j) (same j)

    stepped : (n : ℕ) (k : Side State) (m : MemoryContents) → (not (n == 0) && not (fits code ms (forgotten ms k.state))) ≡ false
        → (side_next (processor code) timed ms n (F k) m ≡ F (side_given (processor code) timed n k m)) × (memory_given (processor code) n (forgotten ms k.state) m ≡ memory_given (processor code) n k.state m)
    stepped zero k m h = (refl, refl)
    stepped (suc n) k m h =
        let a = fit_turn k.state (fit_of (suc n == 0) (fits code ms (forgotten ms k.state)) (no_zero n) h) in (
          ap (λ (x : Option Access). F (side_past (processor code) timed (F k) n (answer x m))) a.asks ∙ same_past k a n (answer (demand code k.state) m),
          ap (λ (x : Option Access). memory_left x m) a.asks,
        )

    -- ---- what is tested of a core

    side_forgot : (c : ℕ) (q : Spot State) → side_of c (spot_forgotten ms q) ≡ F (side_of c q)
    side_forgot zero q = refl
    side_forgot (suc c) q = refl

    when_left : (b : Bool) (x y : Bool) → (b ≡ false → x ≡ y) → (not b && x) ≡ (not b && y)
    when_left true x y h = refl
    when_left false x y h = h refl

    same_bars : (k : Side State) → misfits code ms (F k) ≡ false → side_bars code timed (F k) ≡ side_bars code timed k
    same_bars k h = by_time timed
      where
        by_time : (b : Bool) → side_bars code b (F k) ≡ side_bars code b k
        by_time true = refl
        by_time false =
            when_left (k.left == 0) (uses_time code (forgotten ms k.state)) (uses_time code k.state)
            (λ e. fit_uses k.state (fit_of (k.left == 0) (fits code ms (forgotten ms k.state)) e h))

    -- by what is tested without the dead registers, a turn uses no time
    pub free_forgetting : (c : ℕ) (q : Spot State) → next_bars code timed ms (side_of c (spot_forgotten ms q)) ≡ false → (side_bars code timed (side_of c q) ≡ false) × (misfits code ms (F (side_of c q)) ≡ false)
    free_forgetting c q h =
        let k = side_of c q in
        let g = or_parts (side_bars code timed (F k)) (misfits code ms (F k)) (ap (next_bars code timed ms) (sym (side_forgot c q)) ∙ h) in
        (sym (same_bars k g.1) ∙ g.0, g.1)

    -- or it uses time, and fits
    pub used_forgetting : (c : ℕ) (q : Spot State) → side_bars code timed (side_of c (spot_forgotten ms q)) ≡ true → fits code ms (side_of c (spot_forgotten ms q)).state ≡ true → side_bars code timed (side_of c q) ≡ true
    used_forgetting c q h f =
        let k = side_of c q in
        let e = side_forgot c q in
        let fit : fits code ms (forgotten ms k.state) ≡ true = ap (λ (x : Side State). fits code ms x.state) (sym e) ∙ f in
        sym (same_bars k (fitting (k.left == 0) (fits code ms (forgotten ms k.state)) fit)) ∙ ap (side_bars code timed) (sym e) ∙ h
      where
        fitting : (b c : Bool) → c ≡ true → (not b && not c) ≡ false
        fitting true c g = refl
        fitting false true g = refl
        fitting false false g = absurd (true≢false (sym g))

    pub next_forgetting : (k : Side State) → misfits code ms (F k) ≡ false → next_of code (F k) ≡ next_of code k
    next_forgetting k h = by_left (k.left == 0) refl
      where
        by_left : (b : Bool) → (k.left == 0) ≡ b → cond b None (demand code (forgotten ms k.state)) ≡ cond b None (demand code k.state)
        by_left true e = refl
        by_left false e = (fit_turn k.state (fit_of (k.left == 0) (fits code ms (forgotten ms k.state)) e h)).asks

    -- ---- orders

    went_forgetting : (c : ℕ) (q : Spot State) → misfits code ms (F (side_of c q)) ≡ false → spot_next (processor code) timed ms c (spot_forgotten ms q) ≡ spot_forgotten ms (spot_past (processor code) timed c q)
    went_forgetting zero q h =
        let e = stepped q.side0.left q.side0 q.memory h in
        let make : Side State → MemoryContents → Spot State = λ x m. record { side0 = x; side1 = F q.side1; memory = m } in
        λ j. make (e.0 j) (e.1 j)
    went_forgetting (suc c) q h =
        let e = stepped q.side1.left q.side1 q.memory h in
        let make : Side State → MemoryContents → Spot State = λ x m. record { side0 = F q.side0; side1 = x; memory = m } in
        λ j. make (e.0 j) (e.1 j)

    pub forgot_after : (order : List ℕ) (q : Spot State) → TurnsFit code timed ms order (spot_forgotten ms q)
        → (after (spot_next (processor code) timed ms) order (spot_forgotten ms q) ≡ spot_forgotten ms (after (spot_past (processor code) timed) order q)) × TurnsAreFree code timed order q
    forgot_after [] q h = (refl, tt)
    forgot_after (c ∷ cs) q h =
        let f = free_forgetting c q h.0 in
        let e = went_forgetting c q f.1 in
        let rest = forgot_after cs (spot_past (processor code) timed c q) (subst (TurnsFit code timed ms cs) e h.1) in
        (ap (after (spot_next (processor code) timed ms) cs) e ∙ rest.0, (f.0, rest.1))

    -- what is kept of the world after an order whose turns use no time and fit
    pub kept_forgetting : AreBytes code → (o : Opening State) (order : List ℕ) → TurnsFit code timed ms order (spot_forgotten ms (spot_in timed (world_at_start o)))
        → after (spot_next (processor code) timed ms) order (spot_forgotten ms (spot_in timed (world_at_start o))) ≡ spot_forgotten ms (spot_in timed (world_after (processor code) timed o order))
    kept_forgetting bytes o order h =
        let g = forgot_after order (spot_in timed (world_at_start o)) h in
        g.0 ∙ ap (spot_forgotten ms) (gone_after code bytes timed o order g.1)
