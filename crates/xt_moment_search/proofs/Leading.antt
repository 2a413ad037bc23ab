-- Where the moves of a kept world lead.
use Rattle.std.proofs.Common.{◌≡◌, ℕ, zero, suc, ◌-◌, ◌<◌, ◌^◌, Bool, true, false, cond, eqb, ◌||◌, refl, sym}
use Rattle.std.proofs.Common.{List, [], ◌∷◌, ◌++◌, ap, ◌∙◌, subst, ⊎_elim, arith}
use Rattle.std.proofs.lemmas.Bool.{cases_Bool}
use Rattle.xt_map.specs.declared.contents.MemoryContents.{MemoryContents}
use Rattle.xt_map.specs.Memory.{byte_at}
use Rattle.xt_map.specs.Touching.{IsMemory}
use Rattle.xt_map.proofs.Alike.{outside_memory}
use Rattle.xt_trace.specs.Worlds.{memory_left}
use Rattle.xt_search.specs.Changed.{ChangesState, contents_of}
use Rattle.xt_map.specs.Code.{AreBytes}
use Rattle.xt_exec.specs.State.{State}
use Rattle.xt_exec.specs.Turn.{demand}
use Rattle.xt_exec.specs.TurnLaws.{IsShaped}
use Rattle.xt_uses.specs.Words.{masked}
use Rattle.xt_use_walk.specs.MaskedBytes.{is_byte}
use Rattle.xt_simulation.specs.Knowledge.{Knowledge, StatesAgree}
use Rattle.xt_simulation.specs.Learning.{stored_in}
use Rattle.xt_simulation.specs.SecretBytes.{MemoriesAgree, mask_stored}
use Rattle.xt_simulation.specs.SecretLaws.{executed}
use Rattle.xt_simulation.specs.SecretWorlds.{Learned}
use Rattle.xt_moments.specs.Moments.{MomentCore, MomentWorld, core_fired, core_past, core_turned}
use Rattle.xt_moments.specs.Moments.{memory_past, moved}
use Rattle.xt_moments.specs.Awaiting.{Awaits, Made, turn_in, turns_in}
use Rattle.xt_moments.specs.declared.moves.Move.{Move}
use Rattle.xt_moments.specs.declared.moves.Move.TheVariants as move
use Rattle.xt_moments.specs.MomentLaws.{IsMomentKnown, known_then, moment_used}
use Rattle.xt_moments.specs.WorldLaws.{AreAlike, CoresAgree, begun, bytes_known}
use Rattle.xt_moments.specs.WorldLaws.{core_known, core_used, reply_known, turn_of}
use Rattle.xt_moments.proofs.Awaited.{awaits_more}
use Rattle.xt_moments.proofs.Forced.{forced0, forced1}
use Rattle.xt_moments.proofs.MovedWorlds.{moves_go_on_alike}
use Rattle.xt_moment_search.specs.Covering.{Becomes, CoversAt, Forgets, HasRun, IsForcedAt, TurnsTo}
use Rattle.xt_moment_search.specs.Covering.{learned_at, side_at, snapshot_of, with_side, world_at}
use Rattle.xt_moment_search.specs.Forgetting.{ForgetsBytes, ForgetsSide}
use Rattle.xt_moment_search.specs.KnownCores.{core_of, known_byte, moment_known_of}
use Rattle.xt_moment_search.specs.Parts.{HasParts}
use Rattle.xt_moment_search.specs.Sides.{KnownCore}
use Rattle.xt_moment_search.specs.Turned.{IsTurned}
use Rattle.xt_moment_search.specs.declared.bytes.Bytes.{Bytes}
use Rattle.xt_moment_search.specs.declared.machine.Run.{Run}
use Rattle.xt_moment_search.specs.declared.snapshots.Snapshot.{Snapshot}
use Rattle.xt_moment_search.specs.declared.worlds.World.{World}

-- two states that agree with a third one agree
agree_too : (m : Knowledge) (r s t : State) → StatesAgree m r s → StatesAgree m r t
    → StatesAgree m s t
agree_too m r s t a b = record {
  pc = sym a.pc ∙ b.pc;
  base = sym a.base ∙ b.base;
  start = sym a.start ∙ b.start;
  ps = sym a.ps ∙ b.ps;
  waits = sym a.waits ∙ b.waits;
  regs = λ k. sym (a.regs k) ∙ b.regs k;
  special = λ n. sym (a.special n) ∙ b.special n;
  threadptr = sym a.threadptr ∙ b.threadptr;
}

known_small : (cleared : MemoryContents) (hidden : ChangesState) (a : ℕ)
    → known_byte cleared hidden a < 2 ^ 8
known_small cleared hidden a = by_test (is_byte a)
  where
    by_test : (b : Bool) → cond b (255 - byte_at (contents_of cleared hidden) a) 255 < 2 ^ 8
    by_test true = omega arith
    by_test false = omega arith

-- ---- a turn of a core

module _ (code : ℕ → ℕ) (opening cleared : MemoryContents) (old new : KnownCore) (b c : Bytes)
    (t : IsTurned code opening cleared old new b c) where
  abbrev core : MomentCore
  core = core_of old

  abbrev memory : MemoryContents
  memory = contents_of opening b.held

  abbrev bytes : ℕ → ℕ
  bytes = known_byte cleared b.hidden

  abbrev m : Knowledge
  m = moment_known_of old.masks

  abbrev State0 : State
  State0 = begun 0 core

  abbrev stored : ℕ → ℕ
  stored = mask_stored (stored_in (executed code State0 (turn_of code 0 core memory).0) m State0)
      (demand code State0) bytes

  core_is : core_past code 0 core memory ≡ core_turned code 0 core memory
  core_is = ap (λ (x : Bool). cond x core (core_turned code 0 core memory)) t.going

  memory_is : memory_past code 0 core memory ≡ contents_of opening c.held
  memory_is = ap (λ (x : Bool). cond x memory (memory_left (demand code State0) memory)) t.going
      ∙ sym t.memory

  bytes_are : bytes_known code 0 core memory bytes m ≡ stored
  bytes_are = ap (λ (x : Bool). let f : ℕ → ℕ = cond x bytes stored in f) t.going

  used : IsMemory (contents_of cleared b.hidden) → core_used code 0 core bytes m ≡ true
  used h = ap (λ (x : Bool). x || moment_used code (reply_known code 0 core bytes) m State0) t.going
      ∙ t.used h

  known : IsMemory (contents_of cleared b.hidden) → IsMomentKnown m
      → core_known code 0 core memory bytes m ≡ moment_known_of new.masks
  known h k = ap (λ (x : Bool). cond x m
      (known_then code (reply_known code 0 core bytes) m State0 (turn_of code 0 core memory)))
      t.going
      ∙ sym (t.known h k)

  core_agrees : IsMemory (contents_of cleared b.hidden) → IsMomentKnown m → (x : MomentCore)
      → CoresAgree (core_known code 0 core memory bytes m) (core_past code 0 core memory) x
      → CoresAgree (moment_known_of new.masks) (core_of new) x
  core_agrees h k x agree =
      let there = subst (λ (y : MomentCore). CoresAgree (moment_known_of new.masks) y x) core_is
      (subst (λ (f : Knowledge). CoresAgree f (core_past code 0 core memory) x) (known h k) agree) in
      record {
        state = agree_too (moment_known_of new.masks) (core_turned code 0 core memory).state
            new.state
            x.state t.state there.state;
        armed = t.armed ∙ there.armed;
        stopped = t.stopped ∙ there.stopped;
      }

  memories_agree : (y : MemoryContents)
      → MemoriesAgree (bytes_known code 0 core memory bytes m) (memory_past code 0 core memory) y
      → MemoriesAgree (known_byte cleared c.hidden) (contents_of opening c.held) y
  memories_agree y agree =
      let there : MemoriesAgree stored (contents_of opening c.held) y =
      subst (λ (x : MemoryContents). MemoriesAgree stored x y) memory_is
      (subst (λ (f : ℕ → ℕ). MemoriesAgree f (memory_past code 0 core memory) y) bytes_are agree) in
      record {
        bytes = λ a. ⊎_elim
            (λ is. ap (λ (x : ℕ). masked x (byte_at (contents_of opening c.held) a)) (t.bytes a is)
            ∙ there.bytes a
            ∙ sym (ap (λ (x : ℕ). masked x (byte_at y a)) (t.bytes a is)))
            (λ no. ap (masked (known_byte cleared c.hidden a))
            (outside_memory (contents_of opening c.held) a no ∙ sym (outside_memory y a no)))
            (cases_Bool (is_byte a));
        sent = there.sent;
      }

-- ---- less is known

module _ (opening cleared : MemoryContents) where
  pub forgets_more : (u v w : Snapshot) → Forgets opening cleared u v → Forgets opening cleared v w
      → Forgets opening cleared u w
  forgets_more u v w f g = λ x c. g x (f x c)

  pub forgets0 : (v w : Snapshot) → ForgetsSide v.side0 w.side0 → v.side1 ≡ w.side1
      → ForgetsBytes opening cleared v.bytes w.bytes → Forgets opening cleared v w
  forgets0 v w f same b = λ u c.
      let h = c.alike in
      let still = subst (λ (k : KnownCore). IsShaped k.state) same h.shaped.core1 in
      record {
        alike = record {
          shaped = record {
            core0 = f.shaped h.shaped.core0;
            core1 = still;
            memory = b.held h.shaped.memory;
          };
          other = h.other;
          learned = record {
            core0 = f.known h.learned.core0;
            core1 = subst (λ (k : KnownCore). IsMomentKnown (moment_known_of k.masks)) same
                h.learned.core1;
            bytes = known_small cleared w.bytes.hidden;
          };
          agree = record {
            core0 = f.agree u.core0 h.agree.core0;
            core1 = subst (λ (k : KnownCore). CoresAgree (moment_known_of k.masks) (core_of k)
                u.core1) same h.agree.core1;
            memory = b.agree u.memory h.agree.memory;
          };
        };
        hidden = b.hidden c.hidden;
      }

  pub forgets1 : (v w : Snapshot) → ForgetsSide v.side1 w.side1 → v.side0 ≡ w.side0
      → ForgetsBytes opening cleared v.bytes w.bytes → Forgets opening cleared v w
  forgets1 v w f same b = λ u c.
      let h = c.alike in
      let still = subst (λ (k : KnownCore). IsShaped k.state) same h.shaped.core0 in
      record {
        alike = record {
          shaped = record {
            core0 = still;
            core1 = f.shaped h.shaped.core1;
            memory = b.held h.shaped.memory;
          };
          other = h.other;
          learned = record {
            core0 = subst (λ (k : KnownCore). IsMomentKnown (moment_known_of k.masks)) same
                h.learned.core0;
            core1 = f.known h.learned.core1;
            bytes = known_small cleared w.bytes.hidden;
          };
          agree = record {
            core0 = subst (λ (k : KnownCore). CoresAgree (moment_known_of k.masks) (core_of k)
                u.core0) same h.agree.core0;
            core1 = f.agree u.core1 h.agree.core1;
            memory = b.agree u.memory h.agree.memory;
          };
        };
        hidden = b.hidden c.hidden;
      }

  -- of a core, by its number, and of memory
  pub forgets_at : (core : ℕ) → core < 2 → (v w : Snapshot) (side : KnownCore) (c : Bytes)
      → w ≡ with_side core side v → ForgetsSide (side_at core v) side
      → ForgetsBytes opening cleared w.bytes c
      → Forgets opening cleared v (record { side0 = w.side0; side1 = w.side1; bytes = c })
  forgets_at core few v w side c e f b =
      subst (λ (x : Snapshot). ForgetsBytes opening cleared x.bytes c → Forgets opening cleared v
      (record { side0 = x.side0; side1 = x.side1; bytes = c })) (sym e) (by_core core few f) b
    where
      by_core : (n : ℕ) → n < 2 → ForgetsSide (side_at n v) side
          → ForgetsBytes opening cleared v.bytes c → Forgets opening cleared v
          (record {
            side0 = (with_side n side v).side0;
            side1 = (with_side n side v).side1;
            bytes = c;
          })
      by_core zero less g d = forgets0 v (record { side0 = side; side1 = v.side1; bytes = c }) g
          refl d
      by_core (suc zero) less g d = forgets1 v (record { side0 = v.side0; side1 = side; bytes = c })
          g refl d
      by_core (suc (suc n)) less g d = absurd (omega (arith, less))

-- ---- a turn of a snapshot

module _ (code : ℕ → ℕ) (is_code : AreBytes code) (opening cleared : MemoryContents) where
  -- a core becomes `side`, and memory c
  abbrev next : ℕ → KnownCore → Bytes → Snapshot → Snapshot
  next core side c v = with_side core side (record v { bytes = c })

  pub turns0 : (v : Snapshot) (side : KnownCore) (c : Bytes)
      → IsTurned code opening cleared v.side0 side v.bytes c
      → TurnsTo code opening cleared 0 v (next 0 side c v)
  turns0 v side c t = record {
    used = used code opening cleared v.side0 side v.bytes c t;
    becomes = λ count u small covers.
        let h = covers.hidden in
        let k = covers.alike.learned.core0 in
        let a = moves_go_on_alike code 0 count (move.Turn 0) (world_at opening v) u
        (learned_at cleared v) is_code (omega arith) small (omega arith) covers.alike
        (used code opening cleared v.side0 side v.bytes c t h) in
        record {
          alike = record {
            shaped = record {
              core0 = t.shaped;
              core1 = a.shaped.core1;
              memory = subst IsMemory (memory_is code opening cleared v.side0 side v.bytes c t)
                  a.shaped.memory;
            };
            other = a.other;
            learned = record {
              core0 = subst IsMomentKnown (known code opening cleared v.side0 side v.bytes c t h k)
                  a.learned.core0;
              core1 = a.learned.core1;
              bytes = known_small cleared c.hidden;
            };
            agree = record {
              core0 = core_agrees code opening cleared v.side0 side v.bytes c t h k _
                  a.agree.core0;
              core1 = a.agree.core1;
              memory = memories_agree code opening cleared v.side0 side v.bytes c t _
                  a.agree.memory;
            };
          };
          hidden = t.hidden h;
        };
  }

  pub turns1 : (v : Snapshot) (side : KnownCore) (c : Bytes)
      → IsTurned code opening cleared v.side1 side v.bytes c
      → TurnsTo code opening cleared 1 v (next 1 side c v)
  turns1 v side c t = record {
    used = used code opening cleared v.side1 side v.bytes c t;
    becomes = λ count u small covers.
        let h = covers.hidden in
        let k = covers.alike.learned.core1 in
        let a = moves_go_on_alike code 0 count (move.Turn 1) (world_at opening v) u
        (learned_at cleared v) is_code (omega arith) small (omega arith) covers.alike
        (used code opening cleared v.side1 side v.bytes c t h) in
        record {
          alike = record {
            shaped = record {
              core0 = a.shaped.core0;
              core1 = t.shaped;
              memory = subst IsMemory (memory_is code opening cleared v.side1 side v.bytes c t)
                  a.shaped.memory;
            };
            other = a.other;
            learned = record {
              core0 = a.learned.core0;
              core1 = subst IsMomentKnown (known code opening cleared v.side1 side v.bytes c t h k)
                  a.learned.core1;
              bytes = known_small cleared c.hidden;
            };
            agree = record {
              core0 = a.agree.core0;
              core1 = core_agrees code opening cleared v.side1 side v.bytes c t h k _
                  a.agree.core1;
              memory = memories_agree code opening cleared v.side1 side v.bytes c t _
                  a.agree.memory;
            };
          };
          hidden = t.hidden h;
        };
  }

  -- by the number of the core
  pub turns : (core : ℕ) → core < 2 → (v : Snapshot) (side : KnownCore) (c : Bytes)
      → IsTurned code opening cleared (side_at core v) side v.bytes c
      → TurnsTo code opening cleared core v (next core side c v)
  turns zero few v side c t = turns0 v side c t
  turns (suc zero) few v side c t = turns1 v side c t
  turns (suc (suc n)) few v side c t = absurd (omega (arith, few))

  -- after it, less may be known
  pub turns_forgetting : (core : ℕ) (v w x : Snapshot) → TurnsTo code opening cleared core v w
      → Forgets opening cleared w x → TurnsTo code opening cleared core v x
  turns_forgetting core v w x t f = record {
    used = t.used;
    becomes = λ count u small c. f (moved code count (move.Turn core) u) (t.becomes count u small c);
  }

  -- ---- a timer that fires

  pub fires : (core timer : ℕ) → core < 2 → timer < 3 → (v : Snapshot) (side : KnownCore)
      → core_of side ≡ core_fired timer (core_of (side_at core v))
      → side.masks ≡ (side_at core v).masks
      → Becomes code opening cleared (move.Fires core timer) v (with_side core side v)
  fires zero timer few less v side is masks = λ count u small covers.
      let a = moves_go_on_alike code 0 count (move.Fires 0 timer) (world_at opening v) u
      (learned_at cleared v) is_code (omega arith) small (omega arith, less) covers.alike refl in
      let w = with_side 0 side v in
      let l : learned_at cleared w ≡ learned_at cleared v = λ i. record {
        core0 = moment_known_of (masks i);
        core1 = moment_known_of v.side1.masks;
        bytes = known_byte cleared v.bytes.hidden;
      } in
      let s : world_at opening w ≡ moved code 0 (move.Fires 0 timer) (world_at opening v) = λ i.
      record {
        core0 = is i;
        core1 = core_of v.side1;
        memory = contents_of opening v.bytes.held;
      } in
      record {
        alike = subst (λ (x : Learned). AreAlike x (world_at opening w)
            (moved code count (move.Fires 0 timer) u)) (sym l)
            (subst (λ (x : MomentWorld). AreAlike (learned_at cleared v) x
            (moved code count (move.Fires 0 timer) u)) (sym s) a);
        hidden = covers.hidden;
      }
  fires (suc zero) timer few less v side is masks = λ count u small covers.
      let a = moves_go_on_alike code 0 count (move.Fires 1 timer) (world_at opening v) u
      (learned_at cleared v) is_code (omega arith) small (omega arith, less) covers.alike refl in
      let w = with_side 1 side v in
      let l : learned_at cleared w ≡ learned_at cleared v = λ i. record {
        core0 = moment_known_of v.side0.masks;
        core1 = moment_known_of (masks i);
        bytes = known_byte cleared v.bytes.hidden;
      } in
      let s : world_at opening w ≡ moved code 0 (move.Fires 1 timer) (world_at opening v) = λ i.
      record {
        core0 = core_of v.side0;
        core1 = is i;
        memory = contents_of opening v.bytes.held;
      } in
      record {
        alike = subst (λ (x : Learned). AreAlike x (world_at opening w)
            (moved code count (move.Fires 1 timer) u)) (sym l)
            (subst (λ (x : MomentWorld). AreAlike (learned_at cleared v) x
            (moved code count (move.Fires 1 timer) u)) (sym s) a);
        hidden = covers.hidden;
      }
  fires (suc (suc n)) timer few less v side is masks = absurd (omega (arith, few))

  -- ---- a run

  -- a move alone
  pub begins : (made : Move) (v : Snapshot) (r : Run) → Becomes code opening cleared made v r.at
      → r.trail.items ≡ made ∷ [] → HasRun code opening cleared made v r
  begins made v r b trail = record {
    lead = record { turns = []; leads = b };
    trail = trail;
  }

  -- a turn that may come before all other moves, awaited by each world that v stands for
  awaited : (core : ℕ) (v w : Snapshot) (f : IsForcedAt code core v)
      → TurnsTo code opening cleared core v w → (u : MomentWorld) → CoversAt opening cleared v u
      → Awaits code (CoversAt opening cleared w)
      (record { core = core; armed = (side_at core v).armed; alone = f.1.alone } ∷ []) u
  awaited zero v w f t u c = (
    (forced0 code is_code v.side0.armed f.1.alone (world_at opening v) u (learned_at cleared v)
        c.alike f.1.forced (t.used c.hidden)).0,
    λ count small. t.becomes count u small c,
  )
  awaited (suc zero) v w f t u c = (
    (forced1 code is_code v.side1.armed f.1.alone (world_at opening v) u (learned_at cleared v)
        c.alike f.1.forced (t.used c.hidden)).0,
    λ count small. t.becomes count u small c,
  )
  awaited (suc (suc n)) v w f t u c = let few = f.0 in absurd (omega (arith, few))

  turn_of_few : (core : ℕ) → core < 2 → move.Turn core ≡ turn_in core
  turn_of_few zero few = refl
  turn_of_few (suc zero) few = refl
  turn_of_few (suc (suc n)) few = absurd (omega (arith, few))

  turns_more : (es : List Made) (e : Made) → turns_in (es ++ e ∷ [])
      ≡ turns_in es ++ turn_in e.core ∷ []
  turns_more [] e = refl
  turns_more (d ∷ es) e = ap (λ (l : List Move). turn_in d.core ∷ l) (turns_more es e)

  pub goes_on : (core : ℕ) (q r : Run) → IsForcedAt code core q.at
      → TurnsTo code opening cleared core q.at r.at
      → r.trail.items ≡ q.trail.items ++ move.Turn core ∷ []
      → (made : Move) (v : Snapshot) → HasRun code opening cleared made v q
      → HasRun code opening cleared made v r
  goes_on core q r f t trail made v h =
      let e : Made = record { core = core; armed = (side_at core q.at).armed; alone = f.1.alone } in
      record {
        lead = record {
          turns = h.lead.turns ++ e ∷ [];
          leads = λ count u small c. awaits_more code is_code (CoversAt opening cleared q.at)
              (CoversAt opening cleared r.at) e (awaited core q.at r.at f t) h.lead.turns
              (moved code count made u) (h.lead.leads count u small c);
        };
        trail = trail
            ∙ ap (λ (l : List Move). l ++ move.Turn core ∷ []) h.trail
            ∙ ap (λ (m : Move). made ∷ (turns_in h.lead.turns ++ m ∷ [])) (turn_of_few core f.0)
            ∙ ap (λ (l : List Move). made ∷ l) (sym (turns_more h.lead.turns e));
      }

-- ---- the parts of a kept world

pub parts_snapshot : (v : Snapshot) (w : World) → HasParts v.side0 v.side1 v.bytes w
    → v ≡ snapshot_of w
parts_snapshot v w h = sym (λ i. record {
  side0 = h.side0_is i;
  side1 = h.side1_is i;
  bytes = record { held = h.held i; hidden = h.hidden i };
})
