-- A walk over all entries of a run, and its end.
use Rattle.std.proofs.Common.{◌≡◌, ℕ, Option, Some, None, List, Ok, Err, length, refl, sym, ap, ◌∙◌, subst, arith}
use Rattle.xt_map.specs.declared.access.Access.{Access}
use Rattle.xt_map.specs.declared.access.Entry.{Entry}
use Rattle.xt_map.specs.declared.contents.MemoryContents.{MemoryContents}
use Rattle.xt_map.specs.declared.segment.Segment.{Segment}
use Rattle.xt_map.specs.Memory.{constant_byte}
use Rattle.xt_trace.specs.declared.options.Options.{Options}
use Rattle.xt_trace.specs.declared.run.Run.{Run}
use Rattle.xt_trace.specs.Validity.{IsValid}
use Rattle.xt_image.specs.declared.image.Image.{Image}
use Rattle.xt_bus.specs.States.{MemoryState}
use Rattle.xt_core.specs.Cores.{CoreState, trace_of}
use Rattle.xt_core.specs.Runs.{code_of}
use Rattle.xt_record.specs.declared.fault.RecordFault.{RecordFault}
use Rattle.xt_record.specs.declared.fault.RecordFault.TheVariants as fault
use Rattle.xt_record.specs.declared.walk.Walk.{Walk}
use Rattle.xt_record.specs.declared.walk.Walked.{Walked}
use Rattle.xt_record.specs.Format.{run_with}
use Rattle.xt_image.specs.Findings.{first, or_else}
use Rattle.xt_record.specs.Rules.{Finding}
use Rattle.xt_record.specs.TurnRules.{rest_finding, walk_finding}
use Rattle.xt_record.specs.Walking.{Arrives}
use Rattle.xt_record.specs.Standing.{EndsAt, HasStopped, IsWalked, Walks, WentOn, WentThrough, turn_rules}
use Rattle.xt_record.proofs.Finals.{HasEnded, has_ended, more_one, more_zero}

carried : (P : Image → Options → Type 0) (i j : Image) (o p : Options) → i ≡ j → o ≡ p → P i o → P j p
carried P i j o p is same h = subst (λ (x : Options). P j x) same (subst (λ (x : Image). P x o) is h)

by_turns : (image : Image) (r : Run) (a b c : Finding) → walk_finding image r 0 r.history ≡ a → rest_finding image r 0 ≡ b → rest_finding image r 1 ≡ c
    → first (turn_rules image r) ≡ or_else a (or_else b (or_else c None))
by_turns image r a b c is_walk is_zero is_one =
    ap (λ (x : Finding). or_else x (or_else (rest_finding image r 0) (or_else (rest_finding image r 1) None))) is_walk
    ∙ ap (λ (x : Finding). or_else a (or_else x (or_else (rest_finding image r 1) None))) is_zero
    ∙ ap (λ (x : Finding). or_else a (or_else b (or_else x None))) is_one

-- ---- an entry that is not the run's

pub fails_at_entry : (image : Image) (o : Options) (es : List Entry) (w v : Walk) (f : RecordFault) → w.image.now ≡ image → w.options ≡ o → WentThrough (Err f) es w v
    → Walks (Err f) image o es
fails_at_entry image o es w v f is same h other =
    let found : walk_finding image (run_with image o es) 0 es ≡ Some f =
    carried (λ (i : Image) (p : Options). walk_finding i (run_with i p es) 0 es ≡ Some f) w.image.now image w.options o is same (h other) in
    let r = run_with image o es in by_turns image r (Some f) (rest_finding image r 0) (rest_finding image r 1) found refl refl

-- ---- a core that asks for more

none_found : (image : Image) (o : Options) (es : List Entry) (w : Walk) → w.image.now ≡ image → w.options ≡ o
    → walk_finding w.image.now (run_with w.image.now w.options es) 0 es ≡ None → walk_finding image (run_with image o es) 0 es ≡ None
none_found image o es w is same h =
    carried (λ (i : Image) (p : Options). walk_finding i (run_with i p es) 0 es ≡ None) w.image.now image w.options o is same h

pub fails_at_zero : (image : Image) (o : Options) (es : List Entry) (w v u : Walk) (x : Unit) (f : RecordFault) → w.image.now ≡ image → w.options ≡ o
    → WentThrough (Ok x) es w v → EndsAt (Err f) 0 v u (length es) → Walks (Err f) image o es
fails_at_zero image o es w v u x f is same h e other =
    let r = run_with image o es in
    let got = e.0 other in
    let arrives : Arrives (code_of v.image.now) 0 v.core0 v.core1 u.core0 v.setting.memory.contents (length es) (Some got.0) v.setting.points.items u.setting.points.items =
    subst (λ (s : List Segment). Arrives (constant_byte s) 0 v.core0 v.core1 u.core0 v.setting.memory.contents (length es) (Some got.0) v.setting.points.items u.setting.points.items)
    h.1.code_is got.1 in
    let rest : rest_finding image r 0 ≡ Some (fault.Turn 0 u.core0.count) =
    carried (λ (i : Image) (p : Options). rest_finding i (run_with i p es) 0 ≡ Some (fault.Turn 0 u.core0.count)) v.image.now image v.options o
    (h.2.image_is ∙ is) (h.2.options_are ∙ same)
    (more_zero v.image.now v.options es v.core0 v.core1 u.core0 v.setting got.0 u.setting.points.items h.1 arrives) in
    by_turns image r None (Some f) (rest_finding image r 1) (none_found image o es w is same h.0) (rest ∙ ap Some (sym got.2)) refl

-- core 1's last turns, over what core 0 left
turns_of_one : (v u t : Walk) (n : ℕ) (next : Option Access) (mid points : List (List ℕ)) → u.setting.code ≡ v.image.now.segments → u.core1 ≡ v.core1
    → u.setting.memory ≡ v.setting.memory
    → Arrives (constant_byte u.setting.code) 1 u.core1 u.core0 t.core1 u.setting.memory.contents n next mid points
    → Arrives (code_of v.image.now) 1 v.core1 u.core0 t.core1 v.setting.memory.contents n next mid points
turns_of_one v u t n next mid points code core memory h =
    subst (λ (m : MemoryState). Arrives (code_of v.image.now) 1 v.core1 u.core0 t.core1 m.contents n next mid points) memory
    (subst (λ (k : CoreState). Arrives (code_of v.image.now) 1 k u.core0 t.core1 u.setting.memory.contents n next mid points) core
    (subst (λ (s : List Segment). Arrives (constant_byte s) 1 u.core1 u.core0 t.core1 u.setting.memory.contents n next mid points) code h))

turns_of_zero : (v u : Walk) (n : ℕ) (next : Option Access) (mid : List (List ℕ)) → v.setting.code ≡ v.image.now.segments
    → Arrives (constant_byte v.setting.code) 0 v.core0 v.core1 u.core0 v.setting.memory.contents n next v.setting.points.items mid
    → Arrives (code_of v.image.now) 0 v.core0 v.core1 u.core0 v.setting.memory.contents n next v.setting.points.items mid
turns_of_zero v u n next mid code h =
    subst (λ (s : List Segment). Arrives (constant_byte s) 0 v.core0 v.core1 u.core0 v.setting.memory.contents n next v.setting.points.items mid) code h

pub fails_at_one : (image : Image) (o : Options) (es : List Entry) (w v u t : Walk) (x y : Unit) (f : RecordFault) → w.image.now ≡ image → w.options ≡ o
    → WentThrough (Ok x) es w v → EndsAt (Ok y) 0 v u (length es) → EndsAt (Err f) 1 u t (length es) → Walks (Err f) image o es
fails_at_one image o es w v u t x y f is same h e0 e1 other =
    let r = run_with image o es in
    let got = e1.0 other in
    let both = more_one v.image.now v.options es v.core0 v.core1 u.core0 t.core1 v.setting got.0 u.setting.points.items t.setting.points.items h.1
    (turns_of_zero v u (length es) None u.setting.points.items h.1.code_is e0.0.0)
    (turns_of_one v u t (length es) (Some got.0) u.setting.points.items t.setting.points.items (e0.0.2 ∙ h.1.code_is) e0.1 e0.0.1 got.1) in
    let image_is : v.image.now ≡ image = h.2.image_is ∙ is in
    let options_are : v.options ≡ o = h.2.options_are ∙ same in
    let zero : rest_finding image r 0 ≡ None =
    carried (λ (i : Image) (p : Options). rest_finding i (run_with i p es) 0 ≡ None) v.image.now image v.options o image_is options_are both.0 in
    let one : rest_finding image r 1 ≡ Some (fault.Turn 1 t.core1.count) =
    carried (λ (i : Image) (p : Options). rest_finding i (run_with i p es) 1 ≡ Some (fault.Turn 1 t.core1.count)) v.image.now image v.options o image_is options_are both.1 in
    by_turns image r None None (Some f) (none_found image o es w is same h.0) zero (one ∙ ap Some (sym got.2))

-- ---- the whole run

pub is_walked : (image : Image) (o : Options) (es : List Entry) (w v u t : Walk) (x y z : Unit) (made : Walked) → w.image.now ≡ image → w.options ≡ o → IsValid o
    → WentThrough (Ok x) es w v → EndsAt (Ok y) 0 v u (length es) → EndsAt (Ok z) 1 u t (length es)
    → made.trace0 ≡ trace_of t.core0 → made.trace1 ≡ trace_of t.core1 → made.points.items ≡ t.setting.points.items
    → IsWalked made image (run_with image o es)
is_walked image o es w v u t x y z made is same valid h e0 e1 trace0 trace1 points =
    let r = run_with image o es in
    let image_is : v.image.now ≡ image = h.2.image_is ∙ is in
    let options_are : v.options ≡ o = h.2.options_are ∙ same in
    let there : HasEnded v.image.now v.options es u.core0 t.core1 t.setting.points.items =
    has_ended v.image.now v.options es v.core0 v.core1 u.core0 t.core1 v.setting u.setting.points.items t.setting.points.items
    (subst IsValid (sym options_are) valid) h.1
    (turns_of_zero v u (length es) None u.setting.points.items h.1.code_is e0.0.0)
    (turns_of_one v u t (length es) None u.setting.points.items t.setting.points.items (e0.0.2 ∙ h.1.code_is) e0.1 e0.0.1 e1.0.0) in
    let ended : HasEnded image o es u.core0 t.core1 t.setting.points.items =
    carried (λ (i : Image) (p : Options). HasEnded i p es u.core0 t.core1 t.setting.points.items) v.image.now image v.options o image_is options_are there in
    record {
      good = by_turns image r None None None (none_found image o es w is same h.0) ended.rest0 ended.rest1;
      trace0_is = trace0 ∙ ap trace_of e1.1 ∙ ended.trace0;
      trace1_is = trace1 ∙ ended.trace1;
      run_is = ended.run;
      points_are = points ∙ ended.points_are;
      few_entries = ended.few_entries;
      few_points = omega (arith, ap length points, ended.few_points);
    }

-- the walk of a run of the image from its options on

pub went_not : (image : Image) (o : Options) (es : List Entry) (w v : Walk) (f : RecordFault) → w.image.now ≡ image → w.options ≡ o → WentOn (Err f) es w v
    → Walks (Err f) image o es
went_not image o es w v f is same h other =
    carried (λ (i : Image) (p : Options). first (turn_rules i (run_with i p es)) ≡ Some f) w.image.now image w.options o is same (h other)

pub went_all : (image : Image) (o : Options) (es : List Entry) (w v : Walk) (x : Unit) (made : Walked) → w.image.now ≡ image → w.options ≡ o → WentOn (Ok x) es w v
    → made.trace0 ≡ trace_of v.core0 → made.trace1 ≡ trace_of v.core1 → made.points.items ≡ v.setting.points.items → IsWalked made image (run_with image o es)
went_all image o es w v x made is same h trace0 trace1 points =
    carried (λ (i : Image) (p : Options). IsWalked made i (run_with i p es)) w.image.now image w.options o is same (h.2 made trace0 trace1 points)

pub stopped : (code : ℕ → ℕ) (number : ℕ) (before other after : CoreState) (m : MemoryContents) (entries : ℕ) (old new : List (List ℕ)) → Arrives code number before other after m entries None old new
    → HasStopped after
stopped code number before other after m entries old new h = (
  ap (λ (k : CoreState). k.left) h.next_is.1 ∙ h.next_is.0,
  ap (λ (k : CoreState). k.waiting) h.next_is.1 ∙ h.went.free_is,
)
