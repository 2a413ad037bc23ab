-- A replay goes on, or back to its start.
use Rattle.std.proofs.Common.{◌≡◌, ℕ, zero, suc, ◌+◌, ◌<◌, ◌≤◌, Option, Some, None, List, length, take, sym, ap, ◌∙◌, subst, arith}
use Rattle.std.specs.Prelude.{All, slice_get, slice_index_or}
use Rattle.std.proofs.lemmas.Option.{slice_get-get_or, slice_get_past}
use Rattle.xt_map.specs.declared.segment.Segment.{Segment}
use Rattle.xt_map.specs.Memory.{constant_byte}
use Rattle.xt_core.specs.Positions.{schedule_in, world_at}
use Rattle.xt_trace.specs.declared.run.Run.{Run}
use Rattle.xt_image.specs.declared.image.Image.{Image}
use Rattle.xt_core.specs.Runs.{IsRunOf}
use Rattle.xt_replay.specs.declared.pair.Checkpoint.{Checkpoint}
use Rattle.xt_replay.specs.declared.pair.Pair.{Pair}
use Rattle.xt_replay.specs.declared.replay.Replay.TheInside.{Inside}
use Rattle.xt_replay.specs.ReplayFields.{IsCopy, IsKept, replay_in}
use Rattle.xt_replay.specs.Places.{trace_in}
use Rattle.xt_replay.specs.Shown.{ReplayState, Shown, shown_at, step_in}
use Rattle.xt_replay.specs.Stands.{Comes, Copied, Fits, HasRoom, IsAsRoomy, Stand, made_in, mark_stand, stand_in, stand_of, stand_past}
use Rattle.xt_replay.proofs.Keeping.{Stands, Turns, core_next, named, one_next, zero_next}
use Rattle.xt_replay.proofs.Standing.{Bounds, bounds, fits_at, schedule_long, served_at}

stands : (b : Inside) → IsKept b → b.position < length (schedule_in b.run.now) → Stands b.image.now b.run.now b.position (stand_of b.pair)
stands b h more = record { run = h.run_is; more = more; is = h.stand }

pub zero_turn : (b : Inside) → IsKept b → b.position < length (schedule_in b.run.now) → core_next b.run.now (stand_of b.pair) ≡ 0
    → Turns b.image.now b.run.now b.position 0 (stand_of b.pair)
zero_turn b h more e = zero_next b.image.now b.run.now b.position (stand_of b.pair) (stands b h more) e

pub one_turn : (b : Inside) → IsKept b → b.position < length (schedule_in b.run.now) → (core_next b.run.now (stand_of b.pair) ≡ 0 → ⊥)
    → Turns b.image.now b.run.now b.position 1 (stand_of b.pair)
one_turn b h more e = one_next b.image.now b.run.now b.position (stand_of b.pair) (stands b h more) e

-- the room of a pair that may make a turn
pub room_for : (b : Inside) (core : ℕ) → IsKept b → Turns b.image.now b.run.now b.position core (stand_of b.pair) → length b.pair.memory.contents.sent < b.pair.memory.room
room_for b core h t = let room : length b.pair.memory.contents.sent < b.run.now.options.turns0 + b.run.now.options.turns1 = t.may.room in omega (arith, h.has_room.room)

room_kept : (b : Inside) (q : Pair) → IsKept b → IsAsRoomy b.pair q → HasRoom q b.run.now.options
room_kept b q h same = record {
  turns0 = same.turns0 ∙ h.has_room.turns0;
  turns1 = same.turns1 ∙ h.has_room.turns1;
  room = same.room ∙ h.has_room.room;
}

pub kept_on : (b : Inside) (q : Pair) (core n : ℕ) → IsKept b → b.position < length (schedule_in b.run.now) → n ≡ b.position + 1
    → Turns b.image.now b.run.now b.position core (stand_of b.pair) → stand_of q ≡ stand_past (constant_byte b.code) core (stand_of b.pair) → IsAsRoomy b.pair q
    → IsKept (record b { pair = q; position = n })
kept_on b q core n h more is t on same =
    let F : ℕ → Type 0 = λ k. stand_of q ≡ stand_in (world_at b.image.now b.run.now k) in
    record {
      run_is = h.run_is;
      placed = h.placed;
      code_is = h.code_is;
      stand = subst F (sym is) (t.on b.code (stand_of q) h.code_is on);
      opening_is = h.opening_is;
      copies = h.copies;
      near_is = h.near_is;
      near_room = h.near_room;
      has_room = room_kept b q h same;
      within = omega (arith, is, more);
    }

-- what the start has left finds room
pub start_fits : (b : Inside) → IsKept b → Fits (mark_stand b.opening) b.run.now.options.turns0 b.run.now.options.turns1
start_fits b h =
    let F : Stand → Type 0 = λ s. Fits s b.run.now.options.turns0 b.run.now.options.turns1 in
    subst F (sym h.opening_is) (fits_at b.image.now b.run.now h.run_is 0 (omega arith))

-- ---- copies

-- what a copy has left and has sent finds room in a replay
pub record FindsRoom (b : Inside) (m : Copied) : Type 0 where
  pub left0 : m.stand.side0.left ≤ b.pair.core0.turns
  pub left1 : m.stand.side1.left ≤ b.pair.core1.turns
  pub room : length m.stand.memory.sent ≤ b.pair.memory.room

pub finds_room : (b : Inside) (c : Checkpoint) → IsKept b → IsCopy b.image.now b.run.now c → FindsRoom b c.mark
finds_room b c h copy =
    let F : Stand → Type 0 = λ s. Fits s b.run.now.options.turns0 b.run.now.options.turns1 in
    let f : F (mark_stand c.mark) = subst F (sym copy.stand) (fits_at b.image.now b.run.now h.run_is c.position copy.within) in
    record {
      left0 = omega (arith, f.left0, h.has_room.turns0);
      left1 = omega (arith, f.left1, h.has_room.turns1);
      room = omega (arith, f.sent, h.has_room.room);
    }

-- one of the checkpoints
pub copy_in : (b : Inside) (xs : List Checkpoint) (k : ℕ) (c : Checkpoint) → IsKept b → xs ≡ b.checkpoints.items → k < length xs → c ≡ slice_index_or xs k c
    → IsCopy b.image.now b.run.now c
copy_in b xs k c h same lt is =
    let F : List Checkpoint → Type 0 = λ l. All (IsCopy b.image.now b.run.now) l in
    let G : Checkpoint → Type 0 = IsCopy b.image.now b.run.now in
    let all : F xs = subst F (sym same) h.copies in
    subst G (sym is) (all k c lt)

pub copy_finds_room : (b : Inside) (xs : List Checkpoint) (k : ℕ) (c : Checkpoint) → IsKept b → xs ≡ b.checkpoints.items → k < length xs
    → c ≡ slice_index_or xs k c → FindsRoom b c.mark
copy_finds_room b xs k c h same lt is = finds_room b c h (copy_in b xs k c h same lt is)

-- what was sent finds room
pub sent_fits : (b : Inside) → IsKept b → length b.pair.memory.contents.sent ≤ b.run.now.options.turns0 + b.run.now.options.turns1
sent_fits b h =
    let F : Stand → Type 0 = λ s. Fits s b.run.now.options.turns0 b.run.now.options.turns1 in
    let f : F (stand_of b.pair) = subst F (sym h.stand) (fits_at b.image.now b.run.now h.run_is b.position h.within) in
    omega (arith, f.sent)

-- a copy of where a replay stands
pub copy_here : (b : Inside) (m : Copied) → IsKept b → mark_stand m ≡ stand_of b.pair → IsCopy b.image.now b.run.now (record { position = b.position; mark = m })
copy_here b m h is = record { stand = is ∙ h.stand; within = h.within }

made_zero_at : (image : Image) (r : Run) (c : Checkpoint) (step count : ℕ) → IsCopy image r c → c.mark.stand.side0.step ≤ step → c.mark.stand.side0.step < count → count ≡ r.trace0.count
    → Comes image r 0 step c.position
made_zero_at image r c step count copy most left all =
    let made : c.mark.stand.side0.step ≡ step_in 0 (shown_at image r c.position) = ap (λ (s : Stand). s.side0.step) copy.stand in
    record { most = omega (arith, most, made); behind = λ last same. absurd (omega (arith, left, made, all, last, same)) }

made_one_at : (image : Image) (r : Run) (c : Checkpoint) (step count : ℕ) → IsCopy image r c → c.mark.stand.side1.step ≤ step → c.mark.stand.side1.step < count → count ≡ r.trace1.count
    → Comes image r 1 step c.position
made_one_at image r c step count copy most left all =
    let made : c.mark.stand.side1.step ≡ step_in 1 (shown_at image r c.position) = ap (λ (s : Stand). s.side1.step) copy.stand in
    record { most = omega (arith, most, made); behind = λ last same. absurd (omega (arith, left, made, all, last, same)) }

-- a copy from which it is a walk on to a core's step
pub comes_at_copy : (image : Image) (r : Run) (c : Checkpoint) (core step count : ℕ) → core < 2 → IsCopy image r c → made_in core c.mark ≤ step → made_in core c.mark < count
    → count ≡ (trace_in core r).count → Comes image r core step c.position
comes_at_copy image r c zero step count two copy most left all = made_zero_at image r c step count copy most left all
comes_at_copy image r c (suc zero) step count two copy most left all = made_one_at image r c step count copy most left all
comes_at_copy image r c (suc (suc core)) step count two copy most left all = absurd (omega (arith, two))

-- the core that is found is the schedule's
pub core_found : (b : Inside) (core : ℕ) → IsKept b → b.position < length (schedule_in b.run.now) → core ≡ core_next b.run.now (stand_of b.pair)
    → ◌≡◌ {A = Option ℕ} (Some core) (slice_get (schedule_in b.run.now) b.position)
core_found b core h more is =
    ap (λ (k : ℕ). let x : Option ℕ = Some k in x) (is ∙ named b.image.now b.run.now b.position (stand_of b.pair) (stands b h more))
    ∙ sym (slice_get-get_or (schedule_in b.run.now) b.position 0 more)

pub none_found : (b : Inside) → length (schedule_in b.run.now) ≤ b.position → ◌≡◌ {A = Option ℕ} None (slice_get (schedule_in b.run.now) b.position)
none_found b past = sym (slice_get_past (schedule_in b.run.now) b.position past)

-- the entries that were served
pub served_is : (b : Inside) → IsKept b → b.pair.used ≡ length (world_at b.image.now b.run.now b.position).line.history
served_is b h = ap (λ (s : Stand). s.entries) h.stand

pub served_are : (b : Inside) → IsKept b → (world_at b.image.now b.run.now b.position).line.history ≡ take b.pair.used b.run.now.history
served_are b h =
    served_at b.image.now b.run.now h.run_is b.position ∙ ap (λ (n : ℕ). take n b.run.now.history) (sym (served_is b h))

-- ---- what is shown

abbrev shown_of : Stand → List Segment → Shown
shown_of s segments = record {
  state0 = s.side0.state;
  step0 = s.side0.step;
  state1 = s.side1.state;
  step1 = s.side1.step;
  memory = s.memory;
  segments = segments;
}

pub shown_is : (b : Inside) → IsKept b → shown_of (stand_of b.pair) b.code ≡ shown_at b.image.now b.run.now b.position
shown_is b h =
    ap (λ (s : Stand). shown_of s b.code) h.stand ∙ ap (shown_of (stand_in (world_at b.image.now b.run.now b.position))) h.code_is

pub made_zero : (b : Inside) (core : ℕ) → IsKept b → core ≡ 0 → b.pair.step0 ≡ step_in core (shown_at b.image.now b.run.now b.position)
made_zero b core h e =
    ap (λ (s : Stand). s.side0.step) h.stand ∙ ap (λ (c : ℕ). step_in c (shown_at b.image.now b.run.now b.position)) (sym e)

pub made_one : (b : Inside) (core : ℕ) → IsKept b → core < 2 → (core ≡ 0 → ⊥) → b.pair.step1 ≡ step_in core (shown_at b.image.now b.run.now b.position)
made_one b core h two ne =
    ap (λ (s : Stand). s.side1.step) h.stand
    ∙ ap (λ (c : ℕ). step_in c (shown_at b.image.now b.run.now b.position)) (let e : 1 ≡ core = omega (arith, two, ne) in e)

-- ---- how long the schedule is

pub end_is : (b : Inside) → IsKept b → b.run.now.trace0.count + b.run.now.trace1.count ≡ length (schedule_in b.run.now)
end_is b h = sym (schedule_long b.image.now b.run.now h.run_is)

pub end_bounds : (b : Inside) → IsKept b → Bounds b.run.now
end_bounds b h = bounds b.image.now b.run.now h.run_is

pub end_most : (b : Inside) → IsKept b → length (schedule_in b.run.now) ≤ 8000000
end_most b h =
    let most = end_bounds b h in
    omega (arith, end_is b h, most.count0, most.count1)

-- ---- what a replay is known by

pub run_seen : (b : Inside) (s : ReplayState) → replay_in b ≡ s → IsKept b → IsRunOf s.image s.run
run_seen b s e h = let F : ReplayState → Type 0 = λ x. IsRunOf x.image x.run in subst F e h.run_is

pub within_seen : (b : Inside) (s : ReplayState) → replay_in b ≡ s → IsKept b → s.position ≤ length (schedule_in s.run)
within_seen b s e h = let F : ReplayState → Type 0 = λ x. x.position ≤ length (schedule_in x.run) in subst F e h.within
