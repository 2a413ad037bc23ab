-- Worlds that come to one of a kind after turns that were made already.
use Rattle.std.proofs.Common.{◌≡◌, ℕ, zero, suc, ◌<◌, Bool, true, false, cond, eqb, not, ◌&&◌, Option}
use Rattle.std.proofs.Common.{None, List, [], ◌∷◌, ◌++◌, length, bit_and, bit_or, refl, sym}
use Rattle.std.proofs.Common.{ap, ◌∙◌, subst, arith}
use Rattle.std.proofs.lemmas.Bool.{and_parts, true≢false}
use Rattle.std.proofs.lemmas.Nat.{and_comm}
use Rattle.std.proofs.lemmas.List.{length-set}
use lib.Bits.{and_zero_r}
use Rattle.xt_map.specs.declared.access.Access.{Access}
use Rattle.xt_map.specs.declared.contents.MemoryContents.{MemoryContents}
use Rattle.xt_map.specs.Code.{AreBytes}
use Rattle.xt_special.specs.Access.{without_bits}
use Rattle.xt_special.specs.Control.{special_of}
use Rattle.xt_special.specs.Numbers as number
use Rattle.xt_trace.specs.Calls.{is_stop}
use Rattle.xt_trace.specs.Worlds.{answer, memory_left}
use Rattle.xt_rows.specs.RowLaws.{IsWord}
use Rattle.xt_exec.specs.State.{State}
use Rattle.xt_exec.specs.Turn.{demand, turn}
use Rattle.xt_moments.specs.Moments.{IsMove, MomentCore, MomentWorld, arms, core_fired, core_past}
use Rattle.xt_moments.specs.Moments.{core_turned, is_armed, memory_past, moved, with_special}
use Rattle.xt_moments.specs.Moments.{with_timers, world_past}
use Rattle.xt_moments.specs.declared.moves.Move.{Move}
use Rattle.xt_moments.specs.declared.moves.Move.TheVariants as move
use Rattle.xt_moments.specs.Awaiting.{Awaits, IsApart, IsDeaf, IsReady, Made, bit_of, turn_in}
use Rattle.xt_moments.specs.Awaiting.{turns_in}
use Rattle.xt_moments.proofs.Waiting.{differ, same_after, same_demand, turn_waits}

-- ---- one core

-- a timer that is not armed does not fire
unarmed : (timer : ℕ) (k : MomentCore) → is_armed timer k ≡ false → core_fired timer k ≡ k
unarmed timer k e =
    ap (λ (b : Bool). cond b (record {
      state = with_special number.interrupt (bit_or (special_of k.state.control number.interrupt)
          (bit_of timer)) k.state;
      armed = without_bits k.armed (bit_of timer);
      stopped = k.stopped;
    }) k) e

armed_none : (timer : ℕ) (k : MomentCore) → k.armed ≡ 0 → is_armed timer k ≡ false
armed_none timer k e =
    ap (λ (a : ℕ). not (eqb (bit_and a (bit_of timer)) 0)) e
    ∙ ap (λ (a : ℕ). not (eqb a 0)) (and_comm 0 (bit_of timer) ∙ and_zero_r (bit_of timer))

fired_armed : (timer : ℕ) (k : MomentCore) → is_armed timer k ≡ true
    → (core_fired timer k).armed ≡ without_bits k.armed (bit_of timer)
fired_armed timer k e =
    ap (λ (b : Bool). (cond b (record {
      state = with_special number.interrupt (bit_or (special_of k.state.control number.interrupt)
          (bit_of timer)) k.state;
      armed = without_bits k.armed (bit_of timer);
      stopped = k.stopped;
    }) k).armed) e

-- a core that has stopped makes no turn
still : (code : ℕ → ℕ) (count : ℕ) (k : MomentCore) (m : MemoryContents) → k.stopped ≡ true
    → core_past code count k m ≡ k
still code count k m e = ap (λ (b : Bool). cond b k (core_turned code count k m)) e

still_memory : (code : ℕ → ℕ) (count : ℕ) (k : MomentCore) (m : MemoryContents)
    → k.stopped ≡ true → memory_past code count k m ≡ m
still_memory code count k m e = ap (λ (b : Bool). cond b m (memory_left (demand code
    (with_special 234 count k.state)) m)) e

module _ (code : ℕ → ℕ) (bytes : AreBytes code) where
  -- a turn that makes no access does not look at memory, and leaves it
  alike_turn : (count : ℕ) (k : MomentCore) (m n : MemoryContents)
      → demand code (with_special 234 count k.state) ≡ None
      → core_past code count k m ≡ core_past code count k n
  alike_turn count k m n none = past m ∙ sym (past n)
    where
      made : ℕ → MomentCore
      made reply =
          let t = with_special 234 count k.state in
          record {
            state = with_timers (special_of t.control 226) (arms code t) (turn code t reply).1;
            armed = bit_or k.armed (arms code t);
            stopped = is_stop (turn code t reply).0.kind;
          }

      past : (x : MemoryContents) → core_past code count k x ≡ cond k.stopped k (made 0)
      past x = ap (λ (d : Option Access). cond k.stopped k (made (answer d x))) none

  left_alone : (count : ℕ) (k : MomentCore) (m : MemoryContents)
      → demand code (with_special 234 count k.state) ≡ None
      → memory_past code count k m ≡ m
  left_alone count k m none =
      ap (λ (d : Option Access). cond k.stopped m (memory_left d m)) none ∙ either k.stopped
    where
      either : (b : Bool) → ◌≡◌ {A = MemoryContents} (cond b m m) m
      either true = refl
      either false = refl

  -- ---- a timer that fires before a turn of its core or after it

  module _ (count timer : ℕ) (small : IsWord count) (armed : ℕ) (alone : Bool)
      (k other : MomentCore) (m : MemoryContents)
      (ready : IsReady code armed alone k other m) (few : timer < 3) (is : is_armed timer k
      ≡ true) where
    abbrev j : MomentCore
    j = core_fired timer k

    deaf : IsDeaf code timer k
    deaf = (ready.deaf timer few is).0

    fired_is : j ≡ record {
      state = with_special 226 (bit_or (special_of k.state.control 226) (bit_of timer)) k.state;
      armed = without_bits k.armed (bit_of timer);
      stopped = k.stopped;
    }
    fired_is = ap (λ (b : Bool). cond b (record {
      state = with_special 226 (bit_or (special_of k.state.control 226) (bit_of timer)) k.state;
      armed = without_bits k.armed (bit_of timer);
      stopped = k.stopped;
    }) k) is

    pub asks_alike : demand code (with_special 234 count j.state)
        ≡ demand code (with_special 234 count k.state)
    asks_alike =
        ap (λ (x : MomentCore). demand code (with_special 234 count x.state)) fired_is
        ∙ same_demand code bytes count timer k deaf

    replies_small : (b : Bool) → IsApart code b k other m → IsWord (answer (demand code
        (with_special 234 count k.state)) m)
    replies_small true h = h.2 count small
    replies_small false h = subst (λ (d : Option Access). IsWord (answer d m)) (sym
        (h count small)) (omega arith)

    waits : core_turned code count j m ≡ core_fired timer (core_turned code count k m)
    waits = turn_waits code bytes count timer k deaf m ready.long
        (ready.after_long count (answer (demand code (with_special 234 count k.state)) m) small
        (replies_small alone ready.apart))

    pub core_waits : core_past code count j m ≡ core_fired timer (core_past code count k m)
    core_waits =
        (λ i. cond (stays i) j (core_turned code count j m))
        ∙ ap (cond k.stopped j) waits
        ∙ either k.stopped
      where
        stays : j.stopped ≡ k.stopped
        stays = ap (λ (x : MomentCore). x.stopped) fired_is

        either : (b : Bool) → cond b j (core_fired timer (core_turned code count k m))
            ≡ core_fired timer (cond b k (core_turned code count k m))
        either true = refl
        either false = refl

    pub memory_waits : memory_past code count j m ≡ memory_past code count k m
    memory_waits = λ i. cond (ap (λ (x : MomentCore). x.stopped) fired_is i) m (memory_left
        (asks_alike i) m)

    -- once it has fired, nothing of it is armed
    none_left : (other_timer : ℕ) → is_armed other_timer j ≡ true → ⊥
    none_left other_timer on =
        true≢false (sym on ∙ armed_none other_timer j (fired_armed timer k is
        ∙ (ready.deaf timer few is).1))

    long_fired : 226 < length j.state.control.special
    long_fired =
        let v = bit_or (special_of k.state.control 226) (bit_of timer) in
        let e : length j.state.control.special ≡ length k.state.control.special =
        ap (λ (x : MomentCore). length x.state.control.special) fired_is
        ∙ length-set k.state.control.special 226 v in
        let less = ready.long in omega (arith, e, less)

  after_fired : (count timer reply : ℕ) (k : MomentCore) (deaf : IsDeaf code timer k)
      → length (turn code (with_special 234 count (with_special 226 (bit_or
      (special_of k.state.control 226) (bit_of timer)) k.state)) reply).1.control.special
      ≡ length (turn code (with_special 234 count k.state) reply).1.control.special
  after_fired count timer reply k deaf =
      let s = with_special 234 count k.state in
      let t = with_special 234 count (with_special 226 (bit_or (special_of k.state.control 226)
      (bit_of timer)) k.state) in
      let d = differ code bytes count timer k deaf in
      ap (λ (u : State). length u.control.special) (same_after code s t reply d)
      ∙ length-set (turn code s reply).1.control.special 226 d.interrupt

  -- a core that is ready still is once the timer has fired
  fired_ready : (timer armed : ℕ) (alone : Bool) (k other : MomentCore) (m : MemoryContents)
      → IsReady code armed alone k other m
      → timer < 3 → is_armed timer k ≡ true → IsReady code (without_bits armed
      (bit_of timer)) alone (core_fired timer k) other m
  fired_ready timer armed alone k other m ready few is =
      let deaf = (ready.deaf timer few is).0 in record {
        armed_is = fired_armed timer k is ∙ ap (λ (a : ℕ). without_bits a
            (bit_of timer)) ready.armed_is;
        deaf = λ t less on. absurd (none_left 0 timer (omega arith) armed alone k other m ready few
            is t on);
        long = long_fired 0 timer (omega arith) armed alone k other m ready few is;
        after_long = λ count reply small word.
            let e : length (turn code (with_special 234 count
            (core_fired timer k).state) reply).1.control.special
            ≡ length (turn code (with_special 234 count k.state) reply).1.control.special =
            ap (λ (x : MomentCore). length (turn code (with_special 234 count x.state)
            reply).1.control.special) (fired_is 0 timer (omega arith) armed alone k other m
            ready few is)
            ∙ after_fired count timer reply k deaf in
            let less = ready.after_long count reply small word in omega (arith, e, less);
        apart = parts alone ready ready.apart;
      }
    where
      parts : (b : Bool) → IsReady code armed b k other m → IsApart code b k other m
          → IsApart code b (core_fired timer k) other m
      parts true r h = (
        h.0,
        h.1,
        λ count small. subst (λ (d : Option Access). IsWord
            (answer d m)) (sym (asks_alike count timer small armed true k other m r few is))
            (h.2 count small),
      )
      parts false r h = λ count small. asks_alike count timer small armed false k other m r few is
          ∙ h count small

  -- what another core does changes nothing of a turn that makes no access
  still_ready : (armed : ℕ) (k other another : MomentCore) (m n : MemoryContents)
      → IsReady code armed false k other m → IsReady code armed false k another n
  still_ready armed k other another m n r = record {
    armed_is = r.armed_is;
    deaf = r.deaf;
    long =
        r.long;
    after_long = r.after_long;
    apart = r.apart;
  }

  armed_as : (timer armed : ℕ) (alone : Bool) (k other : MomentCore) (m : MemoryContents)
      → IsReady code armed alone k other m
      → is_armed timer k ≡ not (eqb (bit_and armed (bit_of timer)) 0)
  armed_as timer armed alone k other m r = ap (λ (a : ℕ). not (eqb (bit_and a
      (bit_of timer)) 0)) r.armed_is

  -- ---- after these turns

  module _ (P : MomentWorld → Type 0) where
    -- turns change nothing once both cores have stopped
    pub once_stopped : (es : List Made) (u : MomentWorld) → (u.core0.stopped && u.core1.stopped) ≡ true
        → Awaits code P es u → P u
    once_stopped [] u ended a = a
    once_stopped (e ∷ es) u ended a = by_core e.core a.1 (λ b. once_stopped es u ended b)
      where
        both : (u.core0.stopped ≡ true) × (u.core1.stopped ≡ true)
        both = and_parts u.core0.stopped u.core1.stopped ended

        by_core : (c : ℕ)
            → ((count : ℕ) → IsWord count → Awaits code P es (moved code count (move.Turn c) u))
            → (Awaits code P es u → P u) → P u
        by_core zero f then =
            let same : moved code 0 (move.Turn 0) u ≡ u = λ i. record u {
              core0 = still code 0 u.core0 u.memory both.0 i;
              memory = still_memory code 0 u.core0 u.memory both.0 i;
            } in
            then (subst (Awaits code P es) same (f 0 (omega arith)))
        by_core (suc n) f then =
            let same : moved code 0 (move.Turn (suc n)) u ≡ u = λ i. record u {
              core1 = still code 0 u.core1 u.memory both.1 i;
              memory = still_memory code 0 u.core1 u.memory both.1 i;
            } in
            then (subst (Awaits code P es) same (f 0 (omega arith)))

    turned_as : (c count : ℕ) (u : MomentWorld)
        → moved code count (turn_in c) u ≡ moved code count (move.Turn c) u
    turned_as zero count u = refl
    turned_as (suc n) count u = refl

    pub after_turns : (es : List Made) (u : MomentWorld) (counts : ℕ → ℕ)
        → ((n : ℕ) → IsWord (counts n)) → Awaits code P es u
        → P (world_past code counts (turns_in es) u)
    after_turns [] u counts small a = a
    after_turns (e ∷ es) u counts small a =
        subst (λ (w : MomentWorld). P (world_past code (λ n. counts (suc n)) (turns_in es) w))
        (sym (turned_as e.core (counts 0) u))
        (after_turns es (moved code (counts 0) (move.Turn e.core) u) (λ n. counts (suc n))
        (λ n. small (suc n)) (a.1 (counts 0) (small 0)))

  -- what holds then may say less, or that one turn more may come before other moves
  pub awaits_less : (P Q : MomentWorld → Type 0) → ((w : MomentWorld) → P w → Q w)
      → (es : List Made) (u : MomentWorld) → Awaits code P es u → Awaits code Q es u
  awaits_less P Q f [] u a = f u a
  awaits_less P Q f (e ∷ es) u a =
      (a.0, λ count small. awaits_less P Q f es (moved code count (move.Turn e.core) u) (a.1 count small))

  pub awaits_more : (P Q : MomentWorld → Type 0) (e : Made)
      → ((w : MomentWorld) → P w → Awaits code Q (e ∷ []) w)
      → (es : List Made) (u : MomentWorld) → Awaits code P es u → Awaits code Q (es ++ e ∷ []) u
  awaits_more P Q e f [] u a = f u a
  awaits_more P Q e f (d ∷ ds) u a =
      (a.0, λ count small. awaits_more P Q e f ds (moved code count (move.Turn d.core) u) (a.1 count small))

  -- ---- what each move leads to

  module _ (X : Type 0) (Stands : X → MomentWorld → Type 0) where
    pub record Answer (es : List Made) (x : X) (made : Move) : Type 0 where
      pub next : X
      pub left : List Made
      pub leads : (count : ℕ) (u : MomentWorld) → IsWord count → Awaits code (Stands x) es u
          → Awaits code (Stands next) left (moved code count made u)

    abbrev entry : ℕ → ℕ → Bool → Made
    entry c armed alone = record { core = c; armed = armed; alone = alone }

    -- a move that changes nothing
    stays : (es : List Made) (x : X) (made : Move) → ((count : ℕ) (u : MomentWorld)
        → Awaits code (Stands x) es u → moved code count made u ≡ u) → Answer es x made
    stays es x made same = record {
      next = x;
      left = es;
      leads = λ count u small a. subst
          (Awaits code (Stands x) es) (sym (same count u a)) a;
    }

    -- ---- after a turn of core 0

    module _ (armed : ℕ) (es : List Made) (x : X) where
      other0_turns : (d : ℕ) (alone : Bool) → Answer es x (move.Turn (suc d))
          → Answer (entry zero armed alone ∷ es) x (move.Turn (suc d))
      other0_turns d true ih = stays (entry zero armed true ∷ es) x (move.Turn (suc d))
          (λ count u a. λ i. record u {
            core1 = still code count u.core1 u.memory a.0.apart.0 i;
            memory = still_memory code count u.core1 u.memory a.0.apart.0 i;
          })
      other0_turns d false ih = record {
        next = ih.next;
        left = entry zero armed false ∷ ih.left;
        leads = λ count u small a. (
          still_ready armed u.core0 u.core1 (core_past code count u.core1 u.memory) u.memory
              (memory_past code count u.core1 u.memory) a.0,
          λ again less. subst (Awaits code (Stands ih.next) ih.left) (either count again u
              (a.0.apart again less)) (ih.leads count (moved code again (move.Turn zero) u) small
              (a.1 again less)),
        );
      }
        where
          either : (count again : ℕ) (u : MomentWorld) → demand code
              (with_special 234 again u.core0.state) ≡ None
              → moved code count (move.Turn (suc d)) (moved code again (move.Turn zero) u)
              ≡ moved code again (move.Turn zero) (moved code count (move.Turn (suc d)) u)
          either count again u none =
              (λ i. record u {
                core0 = core_past code again u.core0 u.memory;
                core1 = core_past code count u.core1 (left_alone again u.core0 u.memory none i);
                memory = memory_past code count u.core1 (left_alone again u.core0 u.memory none i);
              })
              ∙ sym (λ i. record u {
                core0 = alike_turn again u.core0 (memory_past code count u.core1 u.memory) u.memory
                    none i;
                core1 = core_past code count u.core1 u.memory;
                memory = left_alone again u.core0 (memory_past code count u.core1 u.memory) none i;
              })

      other0_fires : (d : ℕ) (timer : ℕ) (alone : Bool) → Answer es x (move.Fires (suc d) timer)
          → Answer (entry zero armed alone ∷ es) x (move.Fires (suc d) timer)
      other0_fires d timer true ih = stays (entry zero armed true ∷ es) x (move.Fires (suc d) timer)
          (λ count u a. λ i. record u {
            core1 = unarmed timer u.core1
                (armed_none timer u.core1 a.0.apart.1) i;
          })
      other0_fires d timer false ih = record {
        next = ih.next;
        left = entry zero armed false ∷ ih.left;
        leads = λ count u small a. (
          still_ready armed u.core0 u.core1 (core_fired timer u.core1) u.memory u.memory a.0,
          λ again less. ih.leads count (moved code again (move.Turn zero) u) small (a.1 again less),
        );
      }

      own0_fires : (timer : ℕ) (alone : Bool) → timer < 3 → (b : Bool)
          → not (eqb (bit_and armed (bit_of timer)) 0) ≡ b
          → Answer es x (move.Fires zero timer) → Answer (entry zero armed alone ∷ es) x
          (move.Fires zero timer)
      own0_fires timer alone few false none ih = stays (entry zero armed alone ∷ es) x
          (move.Fires zero timer)
          (λ count u a. λ i. record u {
            core0 = unarmed timer u.core0
                (armed_as timer armed alone u.core0 u.core1 u.memory a.0 ∙ none) i;
          })
      own0_fires timer alone few true some ih = record {
        next = ih.next;
        left = entry zero (without_bits armed (bit_of timer)) alone ∷ ih.left;
        leads = λ count u small a.
            let is = armed_as timer armed alone u.core0 u.core1 u.memory a.0 ∙ some in (
              fired_ready timer armed alone u.core0 u.core1 u.memory a.0 few is,
              λ again less. subst (Awaits code (Stands ih.next) ih.left)
                  (either again less u a.0 is) (ih.leads count (moved code again
                  (move.Turn zero) u) small (a.1 again less)),
            );
      }
        where
          either : (again : ℕ) → IsWord again → (u : MomentWorld)
              → IsReady code armed alone u.core0 u.core1 u.memory → is_armed timer u.core0 ≡ true
              → moved code 0 (move.Fires zero timer) (moved code again (move.Turn zero) u)
              ≡ moved code again (move.Turn zero) (moved code 0 (move.Fires zero timer) u)
          either again less u ready is = sym (λ i. record u {
            core0 = core_waits again timer less armed alone u.core0 u.core1 u.memory ready few is i;
            memory = memory_waits again timer less armed alone u.core0 u.core1 u.memory ready few
                is i;
          })

    -- ---- after a turn of core 1

    module _ (n : ℕ) (armed : ℕ) (es : List Made) (x : X) where
      other1_turns : (alone : Bool) → Answer es x (move.Turn zero)
          → Answer (entry (suc n) armed alone ∷ es) x (move.Turn zero)
      other1_turns true ih = stays (entry (suc n) armed true ∷ es) x (move.Turn zero)
          (λ count u a. λ i. record u {
            core0 = still code count u.core0 u.memory a.0.apart.0 i;
            memory = still_memory code count u.core0 u.memory a.0.apart.0 i;
          })
      other1_turns false ih = record {
        next = ih.next;
        left = entry (suc n) armed false ∷ ih.left;
        leads = λ count u small a. (
          still_ready armed u.core1 u.core0 (core_past code count u.core0 u.memory) u.memory
              (memory_past code count u.core0 u.memory) a.0,
          λ again less. subst (Awaits code (Stands ih.next) ih.left) (either count again u
              (a.0.apart again less)) (ih.leads count (moved code again (move.Turn
              (suc n)) u) small (a.1 again less)),
        );
      }
        where
          either : (count again : ℕ) (u : MomentWorld) → demand code
              (with_special 234 again u.core1.state) ≡ None
              → moved code count (move.Turn zero) (moved code again (move.Turn (suc n)) u)
              ≡ moved code again (move.Turn (suc n)) (moved code count (move.Turn zero) u)
          either count again u none =
              (λ i. record u {
                core1 = core_past code again u.core1 u.memory;
                core0 = core_past code count u.core0 (left_alone again u.core1 u.memory none i);
                memory = memory_past code count u.core0 (left_alone again u.core1 u.memory none i);
              })
              ∙ sym (λ i. record u {
                core1 = alike_turn again u.core1 (memory_past code count u.core0 u.memory) u.memory
                    none i;
                core0 = core_past code count u.core0 u.memory;
                memory = left_alone again u.core1 (memory_past code count u.core0 u.memory) none i;
              })

      other1_fires : (timer : ℕ) (alone : Bool) → Answer es x (move.Fires zero timer)
          → Answer (entry (suc n) armed alone ∷ es) x (move.Fires zero timer)
      other1_fires timer true ih = stays (entry (suc n) armed true ∷ es) x (move.Fires zero timer)
          (λ count u a. λ i. record u {
            core0 = unarmed timer u.core0
                (armed_none timer u.core0 a.0.apart.1) i;
          })
      other1_fires timer false ih = record {
        next = ih.next;
        left = entry (suc n) armed false ∷ ih.left;
        leads = λ count u small a. (
          still_ready armed u.core1 u.core0 (core_fired timer u.core0) u.memory u.memory a.0,
          λ again less. ih.leads count (moved code again (move.Turn (suc n)) u) small
              (a.1 again less),
        );
      }

      own1_fires : (timer : ℕ) (alone : Bool) → timer < 3 → (b : Bool)
          → not (eqb (bit_and armed (bit_of timer)) 0) ≡ b
          → Answer es x (move.Fires (suc n) timer) → Answer (entry (suc n) armed alone ∷ es) x
          (move.Fires (suc n) timer)
      own1_fires timer alone few false none ih = stays (entry (suc n) armed alone ∷ es) x
          (move.Fires (suc n) timer)
          (λ count u a. λ i. record u {
            core1 = unarmed timer u.core1
                (armed_as timer armed alone u.core1 u.core0 u.memory a.0 ∙ none) i;
          })
      own1_fires timer alone few true some ih = record {
        next = ih.next;
        left = entry (suc n) (without_bits armed (bit_of timer)) alone ∷ ih.left;
        leads = λ count u small a.
            let is = armed_as timer armed alone u.core1 u.core0 u.memory a.0 ∙ some in (
              fired_ready timer armed alone u.core1 u.core0 u.memory a.0 few is,
              λ again less. subst (Awaits code (Stands ih.next) ih.left)
                  (either again less u a.0 is) (ih.leads count (moved code again (move.Turn
                  (suc n)) u) small (a.1 again less)),
            );
      }
        where
          either : (again : ℕ) → IsWord again → (u : MomentWorld)
              → IsReady code armed alone u.core1 u.core0 u.memory → is_armed timer u.core1 ≡ true
              → moved code 0 (move.Fires (suc n) timer) (moved code again (move.Turn (suc n)) u)
              ≡ moved code again (move.Turn (suc n)) (moved code 0 (move.Fires (suc n) timer) u)
          either again less u ready is = sym (λ i. record u {
            core1 = core_waits again timer less armed alone u.core1 u.core0 u.memory ready few is i;
            memory = memory_waits again timer less armed alone u.core1 u.core0 u.memory ready few
                is i;
          })

    own_turn : (e : Made) (es : List Made) (x : X) → Answer (e ∷ es) x (move.Turn e.core)
    own_turn e es x = record { next = x; left = es; leads = λ count u small a. a.1 count small }

    after0 : (armed : ℕ) (alone : Bool) (es : List Made) (x : X) (made : Move) → IsMove made
        → Answer es x made → Answer (entry 0 armed alone ∷ es) x made
    after0 armed alone es x (move.Turn zero) ok ih = own_turn (entry 0 armed alone) es x
    after0 armed alone es x (move.Turn (suc d)) ok ih = other0_turns armed es x d alone ih
    after0 armed alone es x (move.Fires zero timer) ok ih = own0_fires armed es x timer alone ok.1
        (not (eqb (bit_and armed (bit_of timer)) 0)) refl ih
    after0 armed alone es x (move.Fires (suc d) timer) ok ih = other0_fires armed es x d timer
        alone ih

    after1 : (n armed : ℕ) (alone : Bool) (es : List Made) (x : X) (made : Move) → IsMove made
        → Answer es x made → Answer (entry (suc n) armed alone ∷ es) x made
    after1 n armed alone es x (move.Turn zero) ok ih = other1_turns n armed es x alone ih
    after1 n armed alone es x (move.Turn (suc d)) ok ih = record {
      next = x;
      left = es;
      leads = λ
          count u small a. a.1 count small;
    }
    after1 n armed alone es x (move.Fires zero timer) ok ih = other1_fires n armed es x timer alone
        ih
    after1 n armed alone es x (move.Fires (suc d) timer) ok ih =
        let r = own1_fires n armed es x timer alone ok.1 (not (eqb (bit_and armed
        (bit_of timer)) 0)) refl (record { next = ih.next; left = ih.left; leads = ih.leads })
        in
        record { next = r.next; left = r.left; leads = r.leads }

    after : (e : Made) (es : List Made) (x : X) (made : Move) → IsMove made → Answer es x made
        → Answer (e ∷ es) x made
    after e es x made ok ih = by_core e.core
      where
        by_core : (c : ℕ) → Answer (entry c e.armed e.alone ∷ es) x made
        by_core zero = after0 e.armed e.alone es x made ok ih
        by_core (suc n) = after1 n e.armed e.alone es x made ok ih

    -- Let each move lead from what x stands for to what another one stands for after turns that were made
    -- already. Then it does so after such turns too.
    pub answers : ((x : X) (made : Move) → IsMove made → Answer [] x made)
        → (es : List Made) (x : X) (made : Move) → IsMove made → Answer es x made
    answers step [] x made ok = step x made ok
    answers step (e ∷ es) x made ok = after e es x made ok (answers step es x made ok)
