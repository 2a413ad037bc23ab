-- Runs of an image with other secrets: each number of turns up to the first leak, and each turn before it.
use Rattle.std.specs.Prelude.{slice_get, slice_index}
use Rattle.std.specs.List.{AllByRecursion}
use Rattle.std.proofs.Common.{◌≡◌, ℕ, zero, suc, ◌%◌, ◌<◌, ◌≤◌, Bool, true, cond, ◌||◌, Option, Some, List, [], ◌∷◌, ◌++◌, length, take, refl, sym, ap, ◌∙◌, subst, arith}
use Rattle.std.proofs.lemmas.List.Elements.{recursion_from_All}
use Rattle.std.proofs.lemmas.Option.{none-some, same_Some}
use Rattle.std.proofs.Math.Seq.{take-length}
use Rattle.xt_map.specs.declared.contents.MemoryContents.{MemoryContents}
use Rattle.xt_map.specs.declared.segment.Segment.{Segment}
use Rattle.xt_map.specs.Touching.{IsMemory}
use Rattle.xt_image.specs.declared.image.Image.{Image}
use Rattle.xt_image.specs.ImageParts.{FitsImage, FitsSegment}
use Rattle.xt_trace.specs.declared.options.Stack.{Stack}
use Rattle.xt_trace.specs.declared.record.StepKind.{StepKind}
use Rattle.xt_trace.specs.declared.record.StepRecord.{StepRecord}
use Rattle.xt_trace.specs.declared.run.Run.{Run}
use Rattle.xt_trace.specs.Calls.{is_stop}
use Rattle.xt_trace.specs.Chip.{Chip}
use Rattle.xt_trace.specs.Runs as runs
use Rattle.xt_trace.specs.Runs.{Opening, world_at_start}
use Rattle.xt_trace.specs.Schedule.{cores_of, schedule, schedule_in}
use Rattle.xt_trace.specs.Traces.{has_stopped}
use Rattle.xt_trace.specs.Validity.{IsValidStack}
use Rattle.xt_trace.specs.Walks.{IsWalk, next_record}
use Rattle.xt_trace.specs.Worlds.{Core, World, advance, core_given, give, left_past}
use Rattle.xt_trace.proofs.Own.{own_world}
use Rattle.xt_trace.proofs.Short.{stopped_push}
use Rattle.xt_trace.proofs.Walks.{own_walk}
use Rattle.xt_map.specs.Code.{AreBytes}
use Rattle.xt_rows.specs.RowLaws.{IsWord}
use Rattle.xt_exec.specs.Chips.{processor}
use Rattle.xt_exec.specs.State.{State, opening_state}
use Rattle.xt_exec.specs.Turn.{turn}
use Rattle.xt_exec.specs.TurnLaws.{IsShaped}
use Rattle.xt_exec.proofs.Shapes.{opening_shaped}
use Rattle.xt_core.specs.Runs.{IsRunOf, code_of, memory_of, opening_of, records_of}
use Rattle.xt_frames.specs.FirstBreach.{Turn, turn_of, turns}
use Rattle.xt_simulation.specs.Opening.{AreSmall, range_of}
use Rattle.xt_simulation.proofs.Opened.{opening_is_memory}
use Rattle.xt_uses.specs.UseStep.{reply_mask}
use Rattle.xt_simulation.proofs.ImageRuns.{code_bytes}
use Rattle.xt_simulation.specs.SecretBytes.{is_hidden}
use Rattle.xt_simulation.specs.SecretLaws.{TurnsAgree}
use Rattle.xt_simulation.specs.SecretWorlds.{Learned, core_in, given_learned, learned_over, opening_learned, turn_in}
use Rattle.xt_simulation.specs.WorldLaws.{IsLearned, IsShapedWorld, NextAgree, NextTurnsAgree, PublicAgree, PublicAgreeOver, TurnsAgreeOver, UsesAreKnown, WorldsAgree}
use Rattle.xt_simulation.specs.FirstLeak.{IsFirstLeak, Leak, Standing, Watched, known_uses, standing_before, standing_over}
use Rattle.xt_simulation.specs.LeakLaws.{DifferInBytes, IsRunFrom, with_memory}
use Rattle.xt_simulation.specs.WatchedRuns.{watched_of}
use Rattle.xt_simulation.specs.SecretRuns.{AreSameWorlds, HasNoTurnsLeft, IsSameTurn, run_world}
use Rattle.xt_simulation.specs.SecretRunLaws.{ImageRunsAreSameUpToTheLeak}
use Rattle.xt_simulation.proofs.Worlds.{agreed, given_shaped, next_is_learned, orders_go_on_alike}
use Rattle.xt_simulation.proofs.Leaks.{known_until, one_past, open_alike, opened, opens_learned, standing_in, until_leak, zero_past}

-- ---- cores that stop by the same turns

-- both have as many turns left, and have stopped or not
record Even (a b : Core State) : Type 0 where
  left : a.left ≡ b.left
  stopped : has_stopped a.records ≡ has_stopped b.records

record EvenWorlds (v w : World State) : Type 0 where
  first : Even v.core0 w.core0
  second : Even v.core1 w.core1

-- after a turn of the same kind
pushed : (n : ℕ) (a b : Core State) (x y : StepRecord) → Even a b → x.kind ≡ y.kind → (left_past x n ≡ left_past y n) × (has_stopped (a.records ++ x ∷ []) ≡ has_stopped (b.records ++ y ∷ []))
pushed n a b x y e kinds = (
  ap (λ (k : StepKind). cond (is_stop k) 0 n) kinds,
  stopped_push a.records x ∙ ((λ i. e.stopped i || is_stop (kinds i)) ∙ sym (stopped_push b.records y)),
)

module _ (code : ℕ → ℕ) (public : ℕ → Bool) where
  abbrev P : Chip State
  P = processor code

  even_zero : (left : ℕ) (k : Learned) (v w : World State) → Even v.core0 w.core0 → NextAgree code left 0 k v w → Even (core_given P left v.core0 v.line) (core_given P left w.core0 w.line)
  even_zero zero k v w e a = e
  even_zero (suc n) k v w e a = let p = pushed n v.core0 w.core0 (turn_in code 0 v).0 (turn_in code 0 w).0 e a.kind in record { left = p.0; stopped = p.1 }

  even_one : (c left : ℕ) (k : Learned) (v w : World State) → Even v.core1 w.core1 → NextAgree code left (suc c) k v w → Even (core_given P left v.core1 v.line) (core_given P left w.core1 w.line)
  even_one c zero k v w e a = e
  even_one c (suc n) k v w e a = let p = pushed n v.core1 w.core1 (turn_in code 1 v).0 (turn_in code 1 w).0 e a.kind in record { left = p.0; stopped = p.1 }

  even_given : (c : ℕ) (k : Learned) (v w : World State) → EvenWorlds v w → NextTurnsAgree code c k v w → EvenWorlds (give P c v) (give P c w)
  even_given zero k v w e a = record {
    first = subst (λ (n : ℕ). Even (core_given P v.core0.left v.core0 v.line) (core_given P n w.core0 w.line)) e.first.left (even_zero v.core0.left k v w e.first a);
    second = e.second;
  }
  even_given (suc c) k v w e a = record {
    first = e.first;
    second = subst (λ (n : ℕ). Even (core_given P v.core1.left v.core1 v.line) (core_given P n w.core1 w.line)) e.second.left (even_one c v.core1.left k v w e.second a);
  }

  even_over : (order : List ℕ) (k : Learned) (v w : World State) → EvenWorlds v w → TurnsAgreeOver code public order k v w → EvenWorlds (advance P order v) (advance P order w)
  even_over [] k v w e a = e
  even_over (c ∷ cs) k v w e a = even_over cs (given_learned code public c v k) (give P c v) (give P c w) (even_given c k v w e a.0) a.1

  -- ---- the turns of a walk

  -- what stands after them, by the records and by the worlds
  standing_walk : (order : List ℕ) (n : ℕ) (w : World State) (k : Learned) (xs ys : List StepRecord) → IsWalk P order w xs ys
      → standing_over code public (take n (turns order xs ys)) (standing_in w k) ≡ standing_in (advance P (take n order) w) (learned_over code public (take n order) w k)
  standing_walk [] zero w k xs ys walk = refl
  standing_walk [] (suc n) w k xs ys walk = refl
  standing_walk (c ∷ cs) zero w k xs ys walk = refl
  standing_walk (zero ∷ cs) (suc n) w k xs ys walk =
      subst (λ (l : List StepRecord). standing_over code public (take (suc n) (turns (zero ∷ cs) l ys)) (standing_in w k) ≡ standing_in (advance P (take (suc n) (zero ∷ cs)) w) (learned_over code public (take (suc n) (zero ∷ cs)) w k)) (sym walk.1)
      (ap (λ (b : Standing). standing_over code public (take n (turns cs walk.0 ys)) b) (zero_past code public w k walk.2) ∙ standing_walk cs n (give P 0 w) (given_learned code public 0 w k) walk.0 ys walk.3)
  standing_walk (suc c ∷ cs) (suc n) w k xs ys walk =
      subst (λ (l : List StepRecord). standing_over code public (take (suc n) (turns (suc c ∷ cs) xs l)) (standing_in w k) ≡ standing_in (advance P (take (suc n) (suc c ∷ cs)) w) (learned_over code public (take (suc n) (suc c ∷ cs)) w k)) (sym walk.1)
      (ap (λ (b : Standing). standing_over code public (take n (turns cs xs walk.0)) b) (one_past code public c w k walk.2) ∙ standing_walk cs n (give P (suc c) w) (given_learned code public (suc c) w k) xs walk.0 walk.3)

  length_turns : (order : List ℕ) (w : World State) (xs ys : List StepRecord) → IsWalk P order w xs ys → length (turns order xs ys) ≡ length order
  length_turns [] w xs ys walk = refl
  length_turns (zero ∷ cs) w xs ys walk = subst (λ (l : List StepRecord). length (turns (zero ∷ cs) l ys) ≡ suc (length cs)) (sym walk.1) (ap suc (length_turns cs (give P 0 w) walk.0 ys walk.3))
  length_turns (suc c ∷ cs) w xs ys walk = subst (λ (l : List StepRecord). length (turns (suc c ∷ cs) xs l) ≡ suc (length cs)) (sym walk.1) (ap suc (length_turns cs (give P (suc c) w) xs walk.0 walk.3))

  -- a turn is the next one of its core in the world before it
  record IsNextTurn (t : Turn) (w : World State) : Type 0 where
    left : 0 < (core_in t.core w).left
    own : t.rec ≡ (turn_in code t.core w).0

  turn_at : (order : List ℕ) (n : ℕ) (w : World State) (xs ys : List StepRecord) (t : Turn) → IsWalk P order w xs ys → slice_get (turns order xs ys) n ≡ Some t → IsNextTurn t (advance P (take n order) w)
  turn_at [] n w xs ys t walk at = absurd (none-some t at)
  turn_at (zero ∷ cs) zero w xs ys t walk at =
      let x = turn_of 0 (next_record P w.core0 w.line) in
      subst (λ (u : Turn). IsNextTurn u w) (same_Some x t (subst (λ (l : List StepRecord). slice_get (turns (zero ∷ cs) l ys) 0 ≡ Some t) walk.1 at)) (record { left = walk.2; own = refl })
  turn_at (suc c ∷ cs) zero w xs ys t walk at =
      let y = turn_of 1 (next_record P w.core1 w.line) in
      subst (λ (u : Turn). IsNextTurn u w) (same_Some y t (subst (λ (l : List StepRecord). slice_get (turns (suc c ∷ cs) xs l) 0 ≡ Some t) walk.1 at)) (record { left = walk.2; own = refl })
  turn_at (zero ∷ cs) (suc n) w xs ys t walk at = turn_at cs n (give P 0 w) walk.0 ys t walk.3 (subst (λ (l : List StepRecord). slice_get (turns (zero ∷ cs) l ys) (suc n) ≡ Some t) walk.1 at)
  turn_at (suc c ∷ cs) (suc n) w xs ys t walk at = turn_at cs n (give P (suc c) w) xs walk.0 t walk.3 (subst (λ (l : List StepRecord). slice_get (turns (suc c ∷ cs) xs l) (suc n) ≡ Some t) walk.1 at)

  -- ---- what stays

  shaped_over : AreBytes code → (order : List ℕ) (w : World State) → IsShapedWorld w → IsShapedWorld (advance P order w)
  shaped_over bytes [] w f = f
  shaped_over bytes (c ∷ cs) w f = shaped_over bytes cs (give P c w) (given_shaped code bytes c w f)

  learned_stays : AreBytes code → (order : List ℕ) (w : World State) (k : Learned) → IsLearned k → IsLearned (learned_over code public order w k)
  learned_stays bytes [] w k l = l
  learned_stays bytes (c ∷ cs) w k l = learned_stays bytes cs (give P c w) (given_learned code public c w k) (next_is_learned code bytes public (core_in c w).left c w k l)

  public_over : (order : List ℕ) (n : ℕ) (v w : World State) → ((i : ℕ) → i ≤ n → PublicAgree public (advance P (take i order) v) (advance P (take i order) w)) → PublicAgreeOver code public (take n order) v w
  public_over [] zero v w h = tt
  public_over [] (suc n) v w h = tt
  public_over (c ∷ cs) zero v w h = tt
  public_over (c ∷ cs) (suc n) v w h = (h (suc zero) (omega arith), public_over cs n (give P c v) (give P c w) (λ i less. h (suc i) (omega arith)))

  -- ---- one turn of two worlds that agree

  module _ (bytes : AreBytes code) (v w : World State) (k : Learned) (f : IsShapedWorld v) (g : IsShapedWorld w) (l : IsLearned k) (h : WorldsAgree k v w) where
    same_by : (c : ℕ) (rec : StepRecord) → IsNextTurn (turn_of c rec) v → known_uses code (turn_of c rec) (standing_in v k) ≡ true → IsSameTurn code k (turn_of c rec) v w
    unfolding turn
    same_by zero rec next used = record {
      left = (next.left, subst (λ (n : ℕ). 0 < n) h.left0 next.left);
      own = next.own;
      same = subst (λ (x : StepRecord). TurnsAgree code (reply_mask k.bytes x.access) k.core0 v.core0.state (turn_in code 0 v) (turn_in code 0 w)) (sym next.own)
          (agreed code bytes public k.core0 l.core0 k.bytes l.bytes v.core0 w.core0 v.line w.line f.core0 g.core0 h.core0 f.memory g.memory h.memory
          (subst (λ (x : StepRecord). known_uses code (turn_of 0 x) (standing_in v k) ≡ true) next.own used));
    }
    same_by (suc c) rec next used = record {
      left = (next.left, subst (λ (n : ℕ). 0 < n) h.left1 next.left);
      own = next.own;
      same = subst (λ (x : StepRecord). TurnsAgree code (reply_mask k.bytes x.access) k.core1 v.core1.state (turn_in code 1 v) (turn_in code 1 w)) (sym next.own)
          (agreed code bytes public k.core1 l.core1 k.bytes l.bytes v.core1 w.core1 v.line w.line f.core1 g.core1 h.core1 f.memory g.memory h.memory
          (subst (λ (x : StepRecord). known_uses code (turn_of 1 x) (standing_in v k) ≡ true) next.own used));
    }

-- ---- a run from a world, beside another world

module _ (r : Watched) (v w : World State) (order : List ℕ) (xs ys : List StepRecord) (p : ℕ) (found : Option Leak) (bytes : AreBytes r.code) (f : IsShapedWorld v) (g : IsShapedWorld w) (even : EvenWorlds v w)
    (run : IsRunFrom r v order xs ys) (first : IsFirstLeak r p found) (differ : DifferInBytes (is_hidden r.secret r.public) v w) where
  abbrev start : Learned
  start = opening_learned r.secret r.public

  abbrev known : ℕ → Learned
  known n = learned_over r.code r.public (take n order) v start

  abbrev mine : ℕ → World State
  mine n = advance (processor r.code) (take n order) v

  abbrev theirs : ℕ → World State
  theirs n = advance (processor r.code) (take n order) w

  standing_is : (n : ℕ) → standing_before r n ≡ standing_in (mine n) (known n)
  unfolding standing_before
  standing_is n = (λ i. standing_over r.code r.public (take n (run.turns i)) (opened r v order xs ys run i)) ∙ standing_walk r.code r.public order n v start xs ys run.walk

  uses_until : (n : ℕ) → n ≤ p → UsesAreKnown r.code r.public (take n order) v start
  uses_until n few =
      known_until r.code r.public order n v start xs ys run.walk
      (λ i t less at. until_leak r v order xs ys p found run first i t (omega (arith, less, few)) at)

  module _ (n : ℕ) (few : n ≤ p) (equal : (i : ℕ) → i ≤ n → PublicAgree r.public (mine i) (theirs i)) where
    both : TurnsAgreeOver r.code r.public (take n order) start v w × WorldsAgree (known n) (mine n) (theirs n)
    both =
        orders_go_on_alike r.code r.public (take n order) v w start bytes f g (opens_learned r.secret r.public) (open_alike r.secret r.public v w differ) (uses_until n few)
        (public_over r.code r.public order n v w equal)

    worlds_known : AreSameWorlds (known n) (mine n) (theirs n)
    worlds_known =
        let e = even_over r.code r.public (take n order) start v w even both.0 in
        record { agree = both.1; stopped0 = e.first.stopped; stopped1 = e.second.stopped }

    same_worlds : AreSameWorlds (standing_before r n).learned (mine n) (theirs n)
    same_worlds = subst (λ (b : Standing). AreSameWorlds b.learned (mine n) (theirs n)) (sym (standing_is n)) worlds_known

    same_turns : (t : Turn) → n < p → slice_get r.turns n ≡ Some t → IsSameTurn r.code (standing_before r n).learned t (mine n) (theirs n)
    same_turns t less at =
        let next = turn_at r.code r.public order n v xs ys t run.walk (subst (λ (ts : List Turn). slice_get ts n ≡ Some t) run.turns at) in
        let used = subst (λ (b : Standing). known_uses r.code t b ≡ true) (standing_is n) (first.before n t less at) in
        subst (λ (b : Standing). IsSameTurn r.code b.learned t (mine n) (theirs n)) (sym (standing_is n))
        (same_by r.code r.public bytes (mine n) (theirs n) (known n) (shaped_over r.code r.public bytes (take n order) v f) (shaped_over r.code r.public bytes (take n order) w g)
        (learned_stays r.code r.public bytes (take n order) v start (opens_learned r.secret r.public)) both.1 t.core t.rec next used)

-- ---- what an image opens with

bytes_small : (bytes : List ℕ) → AllByRecursion (λ b. b < 256) bytes → (k : ℕ) → slice_index bytes k < 256
bytes_small [] all k = omega arith
bytes_small (b ∷ bytes) all zero = all.0
bytes_small (b ∷ bytes) all (suc k) = bytes_small bytes all.1 k

segments_small : (segments : List Segment) → AllByRecursion FitsSegment segments → AreSmall segments
segments_small [] all = tt
segments_small (s ∷ rest) all = (bytes_small s.bytes (recursion_from_All (λ b. b < 256) s.bytes (all.0).bytes), segments_small rest all.1)

stack_shaped : (core pc vecbase : ℕ) (s : Stack) → IsValidStack s → IsWord pc → vecbase % 1024 ≡ 0 → IsWord vecbase → IsShaped (opening_state core pc vecbase s.hi)
stack_shaped core pc vecbase s valid small aligned word =
    let low = valid.low in
    let high = valid.high in
    let size = valid.size in
    opening_shaped core pc vecbase s.hi small aligned word (omega arith) (omega arith)

module _ (image : Image) (r : Run) (fits : FitsImage image) (vecbase : IsWord r.options.vecbase) (entry1 : IsWord r.options.entry1) (run : IsRunOf image r) where
  abbrev o : Opening State
  o = opening_of image r.options

  small : AreSmall image.segments
  small = segments_small image.segments (recursion_from_All FitsSegment image.segments fits.segments)

  opens_shaped : (m : MemoryContents) → IsMemory m → IsShapedWorld (world_at_start (with_memory m o))
  opens_shaped m memory = record {
    core0 = stack_shaped 0 image.entry r.options.vecbase r.options.stack0 run.valid.stack0 fits.entry run.valid.vecbase vecbase;
    core1 = stack_shaped 1 r.options.entry1 r.options.vecbase r.options.stack1 run.valid.stack1 entry1 run.valid.vecbase vecbase;
    memory = memory;
  }

  memory_is : IsMemory (memory_of image r.options)
  memory_is = opening_is_memory image.segments (range_of r.options.stack0) (range_of r.options.stack1) small

  -- ---- its schedule walks its records

  abbrev whole : runs.Run State
  whole = record { history = r.history; trace0 = records_of 0 image r; trace1 = records_of 1 image r }

  whole_run : runs.IsRunOf (processor (code_of image)) o whole
  whole_run = record { legal = run.legal; cores = run.cores; trace0 = refl; trace1 = refl; calls0 = run.calls0; calls1 = run.calls1 }

  schedule_is : runs.schedule_of whole ≡ schedule_in r
  schedule_is = λ i. schedule (cores_of r.history) (sym run.trace0.places_are i) (sym run.trace0.count_is i) (sym run.trace1.places_are i) (sym run.trace1.count_is i)

  image_walk : IsWalk (processor (code_of image)) (schedule_in r) (world_at_start o) (records_of 0 image r).records (records_of 1 image r).records
  image_walk =
      subst (λ (cores : List ℕ). IsWalk (processor (code_of image)) cores (world_at_start o) (records_of 0 image r).records (records_of 1 image r).records) schedule_is
      (own_walk (processor (code_of image)) o whole whole_run)

  watched_run : (secret public : ℕ → Bool) → IsRunFrom (watched_of image r secret public) (world_at_start o) (schedule_in r) (records_of 0 image r).records (records_of 1 image r).records
  watched_run secret public = record { opening0 = refl; opening1 = refl; walk = image_walk; turns = refl }

  -- after all turns of its schedule
  world_ended : (secret public : ℕ → Bool) (n : ℕ) → n ≡ length (watched_of image r secret public).turns → HasNoTurnsLeft (run_world image r n)
  world_ended secret public n e =
      let P = processor (code_of image) in
      let order = schedule_in r in
      let all : take n order ≡ order = ap (λ (m : ℕ). take m order) (e ∙ length_turns (code_of image) public order (world_at_start o) (records_of 0 image r).records (records_of 1 image r).records image_walk) ∙ take-length order in
      let ends = own_world P o whole whole_run in
      let path = ap (λ (cores : List ℕ). advance P cores (world_at_start o)) (all ∙ sym schedule_is) ∙ ends in
      (ap (λ (w : World State). w.core0.left) path, ap (λ (w : World State). w.core1.left) path)

even_openings : (o : Opening State) (m : MemoryContents) → EvenWorlds (world_at_start o) (world_at_start (with_memory m o))
even_openings o m = record { first = record { left = refl; stopped = refl }; second = record { left = refl; stopped = refl } }

pub image_runs_are_same_up_to_the_leak : ImageRunsAreSameUpToTheLeak
image_runs_are_same_up_to_the_leak image r secret public p found fits vecbase entry1 run first other secrets n few equal =
    let t = watched_of image r secret public in
    let o = opening_of image r.options in
    let v = world_at_start o in
    let w = world_at_start (with_memory other o) in
    let order = schedule_in r in
    let xs = (records_of 0 image r).records in
    let ys = (records_of 1 image r).records in
    let bytes = code_bytes image.segments (small image r fits vecbase entry1 run) in
    let f = opens_shaped image r fits vecbase entry1 run (memory_of image r.options) (memory_is image r fits vecbase entry1 run) in
    let g = opens_shaped image r fits vecbase entry1 run other secrets.regions in
    let own = watched_run image r fits vecbase entry1 run secret public in
    let differ : DifferInBytes (is_hidden secret public) v w = record { state0 = refl; state1 = refl; left0 = refl; left1 = refl; sent = secrets.sent; bytes = secrets.bytes } in
    let worlds = same_worlds t v w order xs ys p found bytes f g (even_openings o other) own first differ n few equal in
    record {
      worlds = worlds;
      turn = same_turns t v w order xs ys p found bytes f g (even_openings o other) own first differ n few equal;
      end = λ e. let mine = world_ended image r fits vecbase entry1 run secret public n e in (mine, (sym worlds.agree.left0 ∙ mine.0, sym worlds.agree.left1 ∙ mine.1));
    }
