-- What a replay keeps, step by step.
use Rattle.std.proofs.Common.{◌≡◌, ℕ, ◌+◌, ◌<◌, ◌≤◌, List, length, drop, get_or, sym, ap, ◌∙◌, subst, arith}
use Rattle.xt_map.specs.declared.segment.Segment.{Segment}
use Rattle.xt_map.specs.Memory.{constant_byte}
use Rattle.xt_trace.specs.declared.run.Run.{Run}
use Rattle.xt_image.specs.declared.image.Image.{Image}
use Rattle.xt_core.specs.Positions.{schedule_in, world_at}
use Rattle.xt_core.specs.Runs.{IsRunOf, code_of}
use Rattle.xt_replay.specs.Stands.{Fits, Stand, left_of, next_of, stand_in, stand_past}
use Rattle.xt_replay.proofs.Standing.{Step, Steps, fits_at, next_step, steps0, steps1}

-- the stand from which a step is made, and its core
pub record Stands (image : Image) (r : Run) (p : ℕ) (s : Stand) : Type 0 where
  pub run : IsRunOf image r
  pub more : p < length (schedule_in r)
  pub is : s ≡ stand_in (world_at image r p)

-- a core may make a turn
pub record MayTurn (core : ℕ) (s : Stand) (n m : ℕ) : Type 0 where
  pub left : 0 < left_of core s
  pub room : length s.memory.sent < n + m
  pub made0 : s.side0.step ≤ 4000000
  pub made1 : s.side1.step ≤ 4000000
  pub used : s.entries ≤ 8000000

may_zero : (s : Stand) (n m : ℕ) → n ≤ 4000000 → m ≤ 4000000 → 0 < left_of 0 s → Fits s n m → MayTurn 0 s n m
may_zero s n m le_n le_m left f = record {
  left = left;
  room = omega (arith, left, f.sent);
  made0 = omega (arith, f.left0, le_n);
  made1 = omega (arith, f.left1, le_m);
  used = omega (arith, f.left0, f.left1, f.used, le_n, le_m);
}

may_one : (s : Stand) (n m : ℕ) → n ≤ 4000000 → m ≤ 4000000 → 0 < left_of 1 s → Fits s n m → MayTurn 1 s n m
may_one s n m le_n le_m left f = record {
  left = left;
  room = omega (arith, left, f.sent);
  made0 = omega (arith, f.left0, le_n);
  made1 = omega (arith, f.left1, le_m);
  used = omega (arith, f.left0, f.left1, f.used, le_n, le_m);
}

abbrev pub core_next : Run → Stand → ℕ
core_next r s = next_of (drop s.entries r.history) s.side0.step r.trace0.count

-- what the next step of a core comes to
pub record Turns (image : Image) (r : Run) (p core : ℕ) (s : Stand) : Type 0 where
  pub may : MayTurn core s r.options.turns0 r.options.turns1
  pub on : (segments : List Segment) (t : Stand) → segments ≡ image.segments → t ≡ stand_past (constant_byte segments) core s → t ≡ stand_in (world_at image r (p + 1))

come_on : (image : Image) (r : Run) (p core : ℕ) (s : Stand) → s ≡ stand_in (world_at image r p) → stand_in (world_at image r (p + 1)) ≡ stand_past (code_of image) core (stand_in (world_at image r p))
    → (segments : List Segment) (t : Stand) → segments ≡ image.segments → t ≡ stand_past (constant_byte segments) core s → t ≡ stand_in (world_at image r (p + 1))
come_on image r p core s is on segments t same e =
    e ∙ ap (λ (x : List Segment). stand_past (constant_byte x) core s) same ∙ ap (stand_past (code_of image) core) is ∙ sym on

turns_zero : (image : Image) (r : Run) (p : ℕ) (s : Stand) → Stands image r p s → Steps image r p 0 → Turns image r p 0 s
turns_zero image r p s h n =
    let F : Stand → Type 0 = λ x. MayTurn 0 x r.options.turns0 r.options.turns1 in
    record {
      may = subst F (sym h.is) (may_zero (stand_in (world_at image r p)) r.options.turns0 r.options.turns1 h.run.valid.turns0 h.run.valid.turns1 n.left (fits_at image r h.run p (let more : p < length (schedule_in r) = h.more in omega arith)));
      on = come_on image r p 0 s h.is n.on;
    }

turns_one : (image : Image) (r : Run) (p : ℕ) (s : Stand) → Stands image r p s → Steps image r p 1 → Turns image r p 1 s
turns_one image r p s h n =
    let F : Stand → Type 0 = λ x. MayTurn 1 x r.options.turns0 r.options.turns1 in
    record {
      may = subst F (sym h.is) (may_one (stand_in (world_at image r p)) r.options.turns0 r.options.turns1 h.run.valid.turns0 h.run.valid.turns1 n.left (fits_at image r h.run p (let more : p < length (schedule_in r) = h.more in omega arith)));
      on = come_on image r p 1 s h.is n.on;
    }

by_zero : (image : Image) (r : Run) (p : ℕ) (s : Stand) → Stands image r p s → Step image r p → core_next r s ≡ 0 → Turns image r p 0 s
by_zero image r p s h (steps0 n) e = turns_zero image r p s h n
by_zero image r p s h (steps1 n) e = absurd (let no : 0 ≡ 1 = sym e ∙ ap (core_next r) h.is ∙ n.next in omega (arith, no))

by_one : (image : Image) (r : Run) (p : ℕ) (s : Stand) → Stands image r p s → Step image r p → (core_next r s ≡ 0 → ⊥) → Turns image r p 1 s
by_one image r p s h (steps0 n) e = absurd (e (ap (core_next r) h.is ∙ n.next))
by_one image r p s h (steps1 n) e = turns_one image r p s h n

pub zero_next : (image : Image) (r : Run) (p : ℕ) (s : Stand) → Stands image r p s → core_next r s ≡ 0 → Turns image r p 0 s
zero_next image r p s h e = by_zero image r p s h (next_step image r h.run p h.more) e

pub one_next : (image : Image) (r : Run) (p : ℕ) (s : Stand) → Stands image r p s → (core_next r s ≡ 0 → ⊥) → Turns image r p 1 s
one_next image r p s h e = by_one image r p s h (next_step image r h.run p h.more) e

-- the core that is found is the schedule's
named_by : (image : Image) (r : Run) (p : ℕ) (s : Stand) → Stands image r p s → Step image r p → core_next r s ≡ get_or (schedule_in r) p 0
named_by image r p s h (steps0 n) = ap (core_next r) h.is ∙ n.next ∙ sym n.here
named_by image r p s h (steps1 n) = ap (core_next r) h.is ∙ n.next ∙ sym n.here

pub named : (image : Image) (r : Run) (p : ℕ) (s : Stand) → Stands image r p s → core_next r s ≡ get_or (schedule_in r) p 0
named image r p s h = named_by image r p s h (next_step image r h.run p h.more)
