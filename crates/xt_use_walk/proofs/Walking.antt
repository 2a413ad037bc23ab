-- The walk over the records of both cores is that of the definition.
use Rattle.std.proofs.Common.{◌≡◌, ℕ, suc, ◌+◌, ◌<◌, Bool, Option, Some, Result, Ok, Err, List, [], ◌∷◌, slice_get, refl, sym, ◌∙◌, ap, subst, arith}
use Rattle.xt_map.specs.Memory.{constant_byte}
use Rattle.xt_trace.specs.declared.record.StepRecord.{StepRecord}
use Rattle.xt_frames.specs.declared.kinds.Breach.{Breach}
use Rattle.xt_frames.specs.Breaches.{Bounds}
use Rattle.xt_frames.specs.SaveAreas.{is_live}
use Rattle.xt_discipline.specs.Ended.{records_left}
use Rattle.xt_uses.specs.declared.told.JudgeError.{JudgeError}
use Rattle.xt_uses.specs.declared.told.JudgeError.TheVariants as stopped
use Rattle.xt_uses.specs.Lacks.{lacks_before}
use Rattle.xt_uses.specs.UseState.{UseState}
use Rattle.xt_uses.specs.UseWalk.{UseBroken, UseHandled, UseJudged, UseJudgement, UseKnown, UseSeen, UseStanding, use_judgement, use_passed_0, use_passed_1, use_seen}
use Rattle.xt_use_walk.specs.declared.side.Bytes.{Bytes}
use Rattle.xt_use_walk.specs.declared.side.Side.{Side}
use Rattle.xt_use_walk.specs.declared.walk.FirstUse.{FirstUse}
use Rattle.xt_use_walk.specs.MaskedBytes.{KnowsBytes}
use Rattle.xt_use_walk.specs.Sides.{IsUsePast, IsUseSeen, live_in, standing_of}
use Rattle.xt_use_walk.specs.Walks.{Advances, AreTaken, IsKnown, IsShown, IsTurned, Knows, NoRecord, Shows, Turns, Walk, WalkEnd, standing_in}
use Rattle.xt_use_walk.proofs.Sideways.{turned_bytes}

-- ---- a core past one record more
known_past : (old new : Side) (bytes : Bytes) (others : ℕ → Bool) (masks : ℕ → ℕ) (st was : UseStanding) (core : ℕ) (b : Bounds) → IsKnown old core b was → IsUsePast old new bytes others masks st → IsKnown new core b st
known_past old new bytes others masks st was core b k p = record {
  side = p.side;
  core_is = p.core_is ∙ k.core_is;
  bounds_are = p.bounds_are ∙ k.bounds_are;
  standing_is = p.standing_is;
}

-- the bytes are known by its own live bytes
bytes_past : (old new : Side) (bytes : Bytes) (others : ℕ → Bool) (masks : ℕ → ℕ) (st : UseStanding) (core : ℕ) → old.core ≡ core → IsUsePast old new bytes others masks st → KnowsBytes core bytes (live_in new.uses) others masks
bytes_past old new bytes others masks st core is p =
    let B : Bounds → Type 0 = λ b. KnowsBytes old.core bytes (is_live b.range st.state.frame) others masks in
    let F : UseStanding → Type 0 = λ s. KnowsBytes old.core bytes (is_live new.uses.bounds.range s.state.frame) others masks in
    let C : ℕ → Type 0 = λ c. KnowsBytes c bytes (live_in new.uses) others masks in
    subst C is (subst F (sym p.standing_is) (subst B (sym p.bounds_are) p.bytes_are))

pub steps_known : (s : Side) (core : ℕ) (b : Bounds) (st : UseStanding) → IsKnown s core b st → s.steps ≡ st.steps
steps_known s core b st k = ap (λ (x : UseStanding). x.steps) k.standing_is

pub carried_known : (s : Side) (core : ℕ) (b : Bounds) (st : UseStanding) → IsKnown s core b st → s.carried ≡ st.carried
carried_known s core b st k = ap (λ (x : UseStanding). x.carried) k.standing_is

state_known : (s : Side) (core : ℕ) (b : Bounds) (st : UseStanding) → IsKnown s core b st → s.uses.state ≡ st.state
state_known s core b st k = ap (λ (x : UseStanding). x.state) k.standing_is

-- it has seen one record more, the first of those that were left
taken_one : (old new : Side) (bytes : Bytes) (others : ℕ → Bool) (masks : ℕ → ℕ) (st was : UseStanding) (core : ℕ) (b : Bounds) (x : StepRecord) (xs left : List StepRecord) → left ≡ xs → IsKnown old core b was → IsUsePast old new bytes others masks st → AreTaken 1 was.steps st.steps (x ∷ xs) left
taken_one old new bytes others masks st was core b x xs left is k p =
    let before : old.steps ≡ was.steps = steps_known old core b was k in
    let after : new.steps ≡ st.steps = ap (λ (s : UseStanding). s.steps) p.standing_is in
    let more : new.steps ≡ suc old.steps = p.steps_are in
    record { left_are = is; steps_are = omega (arith, before, after, more) }

taken_none : (steps : ℕ) (xs : List StepRecord) → AreTaken 0 steps steps xs xs
taken_none steps xs = record { left_are = refl; steps_are = (let e : steps ≡ steps + 0 = omega arith in e) }

-- ---- the definition's words for what a core knows
live_is : (s : Side) (core : ℕ) (b : Bounds) (st : UseStanding) → IsKnown s core b st → live_in s.uses ≡ is_live b.range st.state.frame
live_is s core b st k =
    ap (λ (x : Bounds). is_live x.range s.uses.state.frame) k.bounds_are ∙ ap (λ (x : UseStanding). is_live b.range x.state.frame) k.standing_is

seen_is : (code : ℕ → ℕ) (s other : Side) (core core' : ℕ) (b b' : Bounds) (st st' : UseStanding) (masks : ℕ → ℕ) (x : StepRecord) → IsKnown s core b st → IsKnown other core' b' st'
    → use_seen code s.uses.bounds (standing_of s) (live_in other.uses) masks x ≡ use_seen code b st (is_live b'.range st'.state.frame) masks x
seen_is code s other core core' b b' st st' masks x k o =
    ap (λ (v : Bounds). use_seen code v (standing_of s) (live_in other.uses) masks x) k.bounds_are
    ∙ (ap (λ (v : UseStanding). use_seen code b v (live_in other.uses) masks x) k.standing_is
    ∙ ap (λ (v : ℕ → Bool). use_seen code b st v masks x) (live_is other core' b' st' o))

-- ---- a breach
shown : (core : ℕ) (code : ℕ → ℕ) (j : UseJudgement) (k : UseKnown) (xs ys : List StepRecord) (x : StepRecord) (s : UseState) (first : FirstUse) → core < 2 → j.breach ≡ Some first.breach → j.known ≡ k
    → first.breach.core ≡ core → first.breach.step ≡ (standing_in core k).steps → slice_get (records_left core xs ys) 0 ≡ Some x → first.rec ≡ x → first.lacks ≡ lacks_before code x s → s ≡ (standing_in core k).state
    → IsShown code j k xs ys first
shown core code j k xs ys x s first two found known core_is step taken rec lacks state =
    let N : ℕ → Type 0 = λ c. first.breach.step ≡ (standing_in c k).steps + 0 in
    let T : ℕ → Type 0 = λ c. slice_get (records_left c xs ys) 0 ≡ Some first.rec in
    let L : ℕ → Type 0 = λ c. first.lacks ≡ lacks_before code first.rec (standing_in c j.known).state in
    let some : StepRecord → Option StepRecord = λ y. Some y in
    let here : first.breach.step ≡ (standing_in core k).steps + 0 = omega (arith, step) in
    let there : first.lacks ≡ lacks_before code first.rec (standing_in core j.known).state =
    lacks
    ∙ (ap (λ (y : StepRecord). lacks_before code y s) (sym rec)
    ∙ (ap (lacks_before code first.rec) state
    ∙ ap (λ (n : UseKnown). lacks_before code first.rec (standing_in core n).state) (sym known))) in
    record {
      found = found;
      core = subst (λ (c : ℕ). c < 2) (sym core_is) two;
      count = 0;
      number = subst N (sym core_is) here;
      taken = subst T (sym core_is) (taken ∙ ap some (sym rec));
      lacks = subst L (sym core_is) there;
    }

abbrev IsBreachOf : Side → UseJudgement → UseKnown → Breach → Type 0
IsBreachOf s j k b = (j.breach ≡ Some b) × (j.known ≡ k) × (b.core ≡ s.core) × (b.step ≡ s.steps)

zero_two : 0 < 2
zero_two = omega arith

one_two : 1 < 2
one_two = omega arith

-- ---- core 0
abbrev Passes0 : Walk → Bounds → Bounds → UseKnown → List StepRecord → List StepRecord → List StepRecord → UseSeen → Type 0
Passes0 new b0 b1 k xs left ys s = (n : UseKnown) × Knows new b0 b1 n × Advances 1 k n xs ys left ys × ((rest : UseKnown → UseJudgement) → use_passed_0 s k rest ≡ rest n)

passes_0 : (w new : Walk) (b0 b1 : Bounds) (k n : UseKnown) (st : UseStanding) (masks : ℕ → ℕ) (x : StepRecord) (xs left ys : List StepRecord) → n ≡ record { first = st; second = k.second; masks = masks } → Knows w b0 b1 k → new.side1 ≡ w.side1 → left ≡ xs
    → IsUsePast w.side0 new.side0 new.bytes (live_in w.side1.uses) masks st → Knows new b0 b1 n × Advances 1 k n (x ∷ xs) ys left ys
passes_0 w new b0 b1 k n st masks x xs left ys made h same is p =
    let C : Side → Type 0 = λ s. IsKnown s 1 b1 k.second in
    let M : Side → Type 0 = λ s. KnowsBytes 0 new.bytes (live_in new.side0.uses) (live_in s.uses) masks in
    let next : UseKnown = record { first = st; second = k.second; masks = masks } in
    let P : UseKnown → Type 0 = λ m. Knows new b0 b1 m × Advances 1 k m (x ∷ xs) ys left ys in
    let knows : Knows new b0 b1 next = record {
      zero = known_past w.side0 new.side0 new.bytes (live_in w.side1.uses) masks st k.first 0 b0 h.zero p;
      one = subst C (sym same) h.one;
      bytes = subst M (sym same) (bytes_past w.side0 new.side0 new.bytes (live_in w.side1.uses) masks st 0 h.zero.core_is p);
    } in
    let advances : Advances 1 k next (x ∷ xs) ys left ys = record {
      count0 = 1;
      count1 = 0;
      zero = taken_one w.side0 new.side0 new.bytes (live_in w.side1.uses) masks st k.first 0 b0 x xs left is h.zero p;
      one = taken_none k.second.steps ys;
      turns_are = refl;
    } in
    subst P (sym made) (knows, advances)

passed_0 : (w new : Walk) (b0 b1 : Bounds) (k : UseKnown) (x : StepRecord) (xs left ys : List StepRecord) (u : Unit) → Knows w b0 b1 k → new.side1 ≡ w.side1 → left ≡ xs
    → (s : UseSeen) → IsUseSeen w.side0 new.side0 new.bytes (live_in w.side1.uses) k.masks s (Ok u) → Passes0 new b0 b1 k (x ∷ xs) left ys s
passed_0 w new b0 b1 k x xs left ys u h same is (UseHandled st) p =
    let n : UseKnown = record k { first = st } in
    let q = passes_0 w new b0 b1 k n st k.masks x xs left ys refl h same is p in
    (n, q.0, q.1, λ rest. refl)
passed_0 w new b0 b1 k x xs left ys u h same is (UseJudged st masks) p =
    let n : UseKnown = record k { first = st; masks = masks } in
    let q = passes_0 w new b0 b1 k n st masks x xs left ys refl h same is p in
    (n, q.0, q.1, λ rest. refl)
passed_0 w new b0 b1 k x xs left ys u h same is (UseBroken kind) p = absurd p

breaks_0 : (w : Walk) (new : Side) (bytes : Bytes) (b0 b1 : Bounds) (k : UseKnown) (b : Breach) → Knows w b0 b1 k
    → (s : UseSeen) → IsUseSeen w.side0 new bytes (live_in w.side1.uses) k.masks s (Err (stopped.Breaks b)) → (rest : UseKnown → UseJudgement) → IsBreachOf w.side0 (use_passed_0 s k rest) k b
breaks_0 w new bytes b0 b1 k b h (UseHandled st) p rest = absurd p
breaks_0 w new bytes b0 b1 k b h (UseJudged st masks) p rest = absurd p
breaks_0 w new bytes b0 b1 k b h (UseBroken kind) p rest =
    let at : ℕ → ℕ → Option Breach = λ c s. Some (record { core = c; step = s; kind = kind }) in
    let some : Breach → Option Breach = λ v. Some v in (
      sym (ap some p.0 ∙ (ap (λ (c : ℕ). at c w.side0.steps) h.zero.core_is ∙ ap (at 0) (steps_known w.side0 0 b0 k.first h.zero))),
      refl,
      ap (λ (v : Breach). v.core) p.0,
      ap (λ (v : Breach). v.step) p.0,
    )

pub turned_0 : (code : ℕ → ℕ) (w new : Walk) (b0 b1 : Bounds) (k : UseKnown) (xs left ys : List StepRecord) (r : Result Unit WalkEnd) → Knows w b0 b1 k
    → new.side1 ≡ w.side1 → constant_byte new.code ≡ code
    → Turns code w.side0 new.side0 new.bytes (live_in w.side1.uses) k.masks xs left r → IsTurned code b0 b1 0 k xs ys new left ys r
turned_0 code w new b0 b1 k [] left ys (Ok u) h same code_is t = absurd t
turned_0 code w new b0 b1 k [] left ys (Err NoRecord) h same code_is t = λ cs. record {
  none = refl;
  counts0 = ap (λ (s : Side). s.carried) t ∙ carried_known w.side0 0 b0 k.first h.zero;
  counts1 = ap (λ (s : Side). s.carried) same ∙ carried_known w.side1 1 b1 k.second h.one;
}
turned_0 code w new b0 b1 k [] left ys (Err (Shows first)) h same code_is t = absurd t
turned_0 code w new b0 b1 k (x ∷ xs) left ys (Ok u) h same code_is t =
    let e = seen_is code w.side0 w.side1 0 1 b0 b1 k.first k.second k.masks x h.zero h.one in
    let s = use_seen code b0 k.first (is_live b1.range k.second.state.frame) k.masks x in
    let p = passed_0 w new b0 b1 k x xs left ys u h same t.0 s (subst (λ (v : UseSeen). IsUseSeen w.side0 new.side0 new.bytes (live_in w.side1.uses) k.masks v (Ok u)) e t.1) in
    (p.0, p.1, p.2, code_is, λ cs. p.3 (λ n. use_judgement code b0 b1 cs xs ys n) ∙ ap (λ (v : List StepRecord). use_judgement code b0 b1 cs v ys p.0) (sym t.0))
turned_0 code w new b0 b1 k (x ∷ xs) left ys (Err NoRecord) h same code_is t = absurd t
turned_0 code w new b0 b1 k (x ∷ xs) left ys (Err (Shows first)) h same code_is t =
    let e = seen_is code w.side0 w.side1 0 1 b0 b1 k.first k.second k.masks x h.zero h.one in
    let s = use_seen code b0 k.first (is_live b1.range k.second.state.frame) k.masks x in
    let r : Result Unit JudgeError = Err (stopped.Breaks first.breach) in
    let broken = breaks_0 w new.side0 new.bytes b0 b1 k first.breach h s (subst (λ (v : UseSeen). IsUseSeen w.side0 new.side0 new.bytes (live_in w.side1.uses) k.masks v r) e t.2) in
    λ cs.
    let b = broken (λ n. use_judgement code b0 b1 cs xs ys n) in
    shown 0 code (use_judgement code b0 b1 (0 ∷ cs) (x ∷ xs) ys k) k (x ∷ xs) ys x w.side0.uses.state first zero_two b.0 b.1 (b.2 ∙ h.zero.core_is) (b.3 ∙ steps_known w.side0 0 b0 k.first h.zero) refl t.0 t.1 (state_known w.side0 0 b0 k.first h.zero)

-- ---- core 1
abbrev Passes1 : Walk → Bounds → Bounds → UseKnown → List StepRecord → List StepRecord → List StepRecord → UseSeen → Type 0
Passes1 new b0 b1 k ys left xs s = (n : UseKnown) × Knows new b0 b1 n × Advances 1 k n xs ys xs left × ((rest : UseKnown → UseJudgement) → use_passed_1 s k rest ≡ rest n)

passes_1 : (w new : Walk) (b0 b1 : Bounds) (k n : UseKnown) (st : UseStanding) (masks : ℕ → ℕ) (y : StepRecord) (ys left xs : List StepRecord) → n ≡ record { first = k.first; second = st; masks = masks } → Knows w b0 b1 k → new.side0 ≡ w.side0 → left ≡ ys
    → IsUsePast w.side1 new.side1 new.bytes (live_in w.side0.uses) masks st → Knows new b0 b1 n × Advances 1 k n xs (y ∷ ys) xs left
passes_1 w new b0 b1 k n st masks y ys left xs made h same is p =
    let C : Side → Type 0 = λ s. IsKnown s 0 b0 k.first in
    let M : Side → Type 0 = λ s. KnowsBytes 0 new.bytes (live_in s.uses) (live_in new.side1.uses) masks in
    let next : UseKnown = record { first = k.first; second = st; masks = masks } in
    let P : UseKnown → Type 0 = λ m. Knows new b0 b1 m × Advances 1 k m xs (y ∷ ys) xs left in
    let knows : Knows new b0 b1 next = record {
      zero = subst C (sym same) h.zero;
      one = known_past w.side1 new.side1 new.bytes (live_in w.side0.uses) masks st k.second 1 b1 h.one p;
      bytes = subst M (sym same) (turned_bytes 1 new.bytes (live_in new.side1.uses) (live_in w.side0.uses) masks (bytes_past w.side1 new.side1 new.bytes (live_in w.side0.uses) masks st 1 h.one.core_is p));
    } in
    let advances : Advances 1 k next xs (y ∷ ys) xs left = record {
      count0 = 0;
      count1 = 1;
      zero = taken_none k.first.steps xs;
      one = taken_one w.side1 new.side1 new.bytes (live_in w.side0.uses) masks st k.second 1 b1 y ys left is h.one p;
      turns_are = refl;
    } in
    subst P (sym made) (knows, advances)

passed_1 : (w new : Walk) (b0 b1 : Bounds) (k : UseKnown) (y : StepRecord) (ys left xs : List StepRecord) (u : Unit) → Knows w b0 b1 k → new.side0 ≡ w.side0 → left ≡ ys
    → (s : UseSeen) → IsUseSeen w.side1 new.side1 new.bytes (live_in w.side0.uses) k.masks s (Ok u) → Passes1 new b0 b1 k (y ∷ ys) left xs s
passed_1 w new b0 b1 k y ys left xs u h same is (UseHandled st) p =
    let n : UseKnown = record k { second = st } in
    let q = passes_1 w new b0 b1 k n st k.masks y ys left xs refl h same is p in
    (n, q.0, q.1, λ rest. refl)
passed_1 w new b0 b1 k y ys left xs u h same is (UseJudged st masks) p =
    let n : UseKnown = record k { second = st; masks = masks } in
    let q = passes_1 w new b0 b1 k n st masks y ys left xs refl h same is p in
    (n, q.0, q.1, λ rest. refl)
passed_1 w new b0 b1 k y ys left xs u h same is (UseBroken kind) p = absurd p

breaks_1 : (w : Walk) (new : Side) (bytes : Bytes) (b0 b1 : Bounds) (k : UseKnown) (b : Breach) → Knows w b0 b1 k
    → (s : UseSeen) → IsUseSeen w.side1 new bytes (live_in w.side0.uses) k.masks s (Err (stopped.Breaks b)) → (rest : UseKnown → UseJudgement) → IsBreachOf w.side1 (use_passed_1 s k rest) k b
breaks_1 w new bytes b0 b1 k b h (UseHandled st) p rest = absurd p
breaks_1 w new bytes b0 b1 k b h (UseJudged st masks) p rest = absurd p
breaks_1 w new bytes b0 b1 k b h (UseBroken kind) p rest =
    let at : ℕ → ℕ → Option Breach = λ c s. Some (record { core = c; step = s; kind = kind }) in
    let some : Breach → Option Breach = λ v. Some v in (
      sym (ap some p.0 ∙ (ap (λ (c : ℕ). at c w.side1.steps) h.one.core_is ∙ ap (at 1) (steps_known w.side1 1 b1 k.second h.one))),
      refl,
      ap (λ (v : Breach). v.core) p.0,
      ap (λ (v : Breach). v.step) p.0,
    )

pub turned_1 : (code : ℕ → ℕ) (w new : Walk) (b0 b1 : Bounds) (k : UseKnown) (ys left xs : List StepRecord) (r : Result Unit WalkEnd) → Knows w b0 b1 k
    → new.side0 ≡ w.side0 → constant_byte new.code ≡ code
    → Turns code w.side1 new.side1 new.bytes (live_in w.side0.uses) k.masks ys left r → IsTurned code b0 b1 1 k xs ys new xs left r
turned_1 code w new b0 b1 k [] left xs (Ok u) h same code_is t = absurd t
turned_1 code w new b0 b1 k [] left xs (Err NoRecord) h same code_is t = λ cs. record {
  none = refl;
  counts0 = ap (λ (s : Side). s.carried) same ∙ carried_known w.side0 0 b0 k.first h.zero;
  counts1 = ap (λ (s : Side). s.carried) t ∙ carried_known w.side1 1 b1 k.second h.one;
}
turned_1 code w new b0 b1 k [] left xs (Err (Shows first)) h same code_is t = absurd t
turned_1 code w new b0 b1 k (y ∷ ys) left xs (Ok u) h same code_is t =
    let e = seen_is code w.side1 w.side0 1 0 b1 b0 k.second k.first k.masks y h.one h.zero in
    let s = use_seen code b1 k.second (is_live b0.range k.first.state.frame) k.masks y in
    let p = passed_1 w new b0 b1 k y ys left xs u h same t.0 s (subst (λ (v : UseSeen). IsUseSeen w.side1 new.side1 new.bytes (live_in w.side0.uses) k.masks v (Ok u)) e t.1) in
    (p.0, p.1, p.2, code_is, λ cs. p.3 (λ n. use_judgement code b0 b1 cs xs ys n) ∙ ap (λ (v : List StepRecord). use_judgement code b0 b1 cs xs v p.0) (sym t.0))
turned_1 code w new b0 b1 k (y ∷ ys) left xs (Err NoRecord) h same code_is t = absurd t
turned_1 code w new b0 b1 k (y ∷ ys) left xs (Err (Shows first)) h same code_is t =
    let e = seen_is code w.side1 w.side0 1 0 b1 b0 k.second k.first k.masks y h.one h.zero in
    let s = use_seen code b1 k.second (is_live b0.range k.first.state.frame) k.masks y in
    let r : Result Unit JudgeError = Err (stopped.Breaks first.breach) in
    let broken = breaks_1 w new.side1 new.bytes b0 b1 k first.breach h s (subst (λ (v : UseSeen). IsUseSeen w.side1 new.side1 new.bytes (live_in w.side0.uses) k.masks v r) e t.2) in
    λ cs.
    let b = broken (λ n. use_judgement code b0 b1 cs xs ys n) in
    shown 1 code (use_judgement code b0 b1 (1 ∷ cs) xs (y ∷ ys) k) k xs (y ∷ ys) y w.side1.uses.state first one_two b.0 b.1 (b.2 ∙ h.one.core_is) (b.3 ∙ steps_known w.side1 1 b1 k.second h.one) refl t.0 t.1 (state_known w.side1 1 b1 k.second h.one)

-- ---- a turn of the walk
pub turned_zero : (w : Walk) (side : Side) (bytes : Bytes) (b0 b1 : Bounds) (k : UseKnown) (core : ℕ) (xs left ys : List StepRecord) (r : Result Unit WalkEnd) → core ≡ 0 → Knows w b0 b1 k
    → (KnowsBytes w.side0.core w.bytes (live_in w.side0.uses) (live_in w.side1.uses) k.masks → Turns (constant_byte w.code) w.side0 side bytes (live_in w.side1.uses) k.masks xs left r)
    → IsTurned (constant_byte w.code) b0 b1 core k xs ys (record { code = w.code; side0 = side; side1 = w.side1; bytes = bytes }) left ys r
turned_zero w side bytes b0 b1 k core xs left ys r none h turns =
    let code = constant_byte w.code in
    let new : Walk = record { code = w.code; side0 = side; side1 = w.side1; bytes = bytes } in
    let K : ℕ → Type 0 = λ c. KnowsBytes c w.bytes (live_in w.side0.uses) (live_in w.side1.uses) k.masks in
    let C : ℕ → Type 0 = λ n. IsTurned code b0 b1 n k xs ys new left ys r in
    subst C (sym none) (turned_0 code w new b0 b1 k xs left ys r h refl refl (turns (subst K (sym h.zero.core_is) h.bytes)))

pub turned_one : (w : Walk) (side : Side) (bytes : Bytes) (b0 b1 : Bounds) (k : UseKnown) (core : ℕ) (xs ys left : List StepRecord) (r : Result Unit WalkEnd) → core ≡ 1 → Knows w b0 b1 k
    → (KnowsBytes w.side1.core w.bytes (live_in w.side1.uses) (live_in w.side0.uses) k.masks → Turns (constant_byte w.code) w.side1 side bytes (live_in w.side0.uses) k.masks ys left r)
    → IsTurned (constant_byte w.code) b0 b1 core k xs ys (record { code = w.code; side0 = w.side0; side1 = side; bytes = bytes }) xs left r
turned_one w side bytes b0 b1 k core xs ys left r one h turns =
    let code = constant_byte w.code in
    let new : Walk = record { code = w.code; side0 = w.side0; side1 = side; bytes = bytes } in
    let K : ℕ → Type 0 = λ c. KnowsBytes c w.bytes (live_in w.side1.uses) (live_in w.side0.uses) k.masks in
    let C : ℕ → Type 0 = λ n. IsTurned code b0 b1 n k xs ys new xs left r in
    subst C (sym one) (turned_1 code w new b0 b1 k ys left xs r h refl refl (turns (subst K (sym h.one.core_is) (turned_bytes 0 w.bytes (live_in w.side0.uses) (live_in w.side1.uses) k.masks h.bytes))))
