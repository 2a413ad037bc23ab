-- A judged step of the machine of frames over a filling, beside that of the machine of uses.
use Rattle.std.specs.Prelude.{if◌then◌else◌, is_some, min}
use Rattle.std.specs.Int.{bit_at}
use Rattle.std.proofs.Common.{◌≡◌, ℕ, ◌%◌, ◌^◌, ◌<◌, Bool, true, false, ◌&&◌, not, cond, List, [], ◌∷◌, Option, Some, None, sym, ap, ◌∙◌, refl, arith, ⊎_elim, subst}
use Rattle.std.proofs.lemmas.Bool.{and_right, cases_Bool, cases_lt, cond-false}
use Rattle.std.proofs.lemmas.Nat.{and_le_r, or_lt}
use Rattle.std.proofs.lemmas.Nat.Bits.{bit_at_above, bit_at_and, bit_at_or, bit_at-lt}
use Rattle.xt_isa.specs.declared.Insn.{Insn}
use Rattle.xt_map.specs.declared.access.Access.{Access}
use Rattle.xt_map.specs.declared.access.Kind.{Kind}
use Rattle.xt_map.specs.declared.access.Kind.TheVariants.{Load, Store, Cas}
use Rattle.xt_map.specs.Touching.{is_store}
use Rattle.xt_special.specs.declared.ps.Ps.{Ps}
use Rattle.xt_special.specs.Shape.{IsPs}
use Rattle.xt_trace.specs.declared.record.StepKind.{StepKind}
use Rattle.xt_trace.specs.declared.record.StepRecord.{StepRecord}
use Rattle.xt_map.specs.Code.{AreBytes}
use Rattle.xt_map.specs.Fetching.{Fetched, fetch_at}
use Rattle.xt_frames.specs.declared.holes.Nested.{Nested}
use Rattle.xt_frames.specs.Frames.{Frame, FrameState}
use Rattle.xt_frames.specs.FrameStep.{FrameTurn, Inputs, with_inputs, step_with_inputs}
use Rattle.xt_frames.specs.Nesting.{begins, current, current_in, is_nesting}
use Rattle.xt_frames.specs.Breaches.{Bounds, inputs_of}
use Rattle.xt_frames.specs.Judging.{place_on, value_in}
use Rattle.xt_uses.specs.declared.discipline.Discipline.{Discipline}
use Rattle.xt_uses.specs.declared.discipline.Discipline.TheVariants.{Strict, Lenient}
use Rattle.xt_uses.specs.Words.{masked, complement}
use Rattle.xt_uses.specs.Used.{low_bits}
use Rattle.xt_uses.specs.UseBreaches.{use_breach}
use Rattle.xt_uses.specs.UseState.{UseState}
use Rattle.xt_uses.specs.UseStep.{UseTurn, step_insn, forgets_registers, full_step, leave_results, left_after, reply_mask, use_step, value_step}
use Rattle.xt_uses.specs.UseLaws.{AccessFits, AgreeIn, IsSent, KindFits, KindsAgree, RepliesAgree, RowsAgree}
use Rattle.xt_uses.proofs.Agreeing.{agree_at, agree_from}
use Rattle.xt_uses.proofs.Bits.{flipped_at, flipped_word}
use Rattle.xt_uses.proofs.Constant.{step_same as uses_keep}
use Rattle.xt_uses.proofs.CutStates.{IsCut}
use Rattle.xt_uses.proofs.CutWords.{AreInputs, IsShapedFrame, IsShapedNested}
use Rattle.xt_simulation.specs.Knowing.{Knows, NestedFit}
use Rattle.xt_simulation.proofs.Following.{sent_back}
use Rattle.xt_simulation.proofs.Leaves.{knows_left}
use Rattle.xt_simulation.proofs.MaskWords.{MaskWords}
use Rattle.xt_simulation.proofs.Seen.{cut_twice}
use Rattle.xt_simulation.specs.Fillings.{Numbers, filled_number, filled_record, filled_step, filled_write}
use Rattle.xt_simulation.specs.FillingLaws.{AsksSame, DoesSame, SendsSame}
use Rattle.xt_simulation.proofs.Numbered.{Held, filled_held, left_held, left_in, left_shaped, numbered_knows, numbered_shaped, results_knows}
use Rattle.xt_simulation.proofs.Outside.{Goes, outside_goes}
use Rattle.xt_simulation.proofs.OwbNested.{inside_near}
use Rattle.xt_simulation.proofs.OwbPlain.{begins_near, mask_for, plain_near}
use Rattle.xt_simulation.proofs.OwbSteps.{StepsNear, laid_near, told}
use Rattle.xt_simulation.proofs.OwbTests.{laid_same}
use Rattle.xt_simulation.proofs.OwbUses.{UsesNear, follows_near, shown_mask}
use Rattle.xt_simulation.proofs.Within.{begins_goes, within_goes}
use Rattle.xt_simulation.proofs.UseWords.{value_leaves}

-- ---- a reply
pub filled_agrees : (mask a b : ℕ) → mask < 2 ^ 32 → AgreeIn mask (filled_number mask a b) a
filled_agrees mask a b small = agree_from mask (filled_number mask a b) a
    (λ i one. ⊎_elim
    (λ low.
    let o = bit_at_or (masked mask a) (masked (complement mask) b) i in
    let x : bit_at (masked mask a) i ≡ min (bit_at a i) (bit_at mask i) = bit_at_and a mask i in
    let y : bit_at (masked (complement mask) b) i ≡ min (bit_at b i) (bit_at (complement mask) i) = bit_at_and b (complement mask) i in
    let z = flipped_at mask i low in
    omega (arith, o, x, y, z, one, bit_at-lt a i))
    (λ high. let z = bit_at_above mask 32 i small high in absurd (omega (arith, one, z)))
    (cases_lt i 32))

pub filled_word : (mask a b : ℕ) → mask < 2 ^ 32 → filled_number mask a b < 2 ^ 32
filled_word mask a b small =
    let f = flipped_word mask small in
    or_lt 32 (masked mask a) (masked (complement mask) b) (omega (arith, and_le_r a mask, small)) (omega (arith, and_le_r b (complement mask), f))

-- ---- what is sent
kinds_same : (m : ℕ) (k l : Kind) → KindFits m k l → KindsAgree m k l
kinds_same m (Store v) (Store w) h = sym (cut_twice m v) ∙ ap (masked m) h
kinds_same m Load l h = h
kinds_same m (Cas e n) l h = h
kinds_same m (Store v) Load h = h
kinds_same m (Store v) (Cas e n) h = h

pub asks_same : (m : ℕ) (a b : Option Access) → AccessFits m a b → AsksSame m a b
asks_same m None None h = tt
asks_same m (Some a) (Some b) h = (h.0, h.1, kinds_same m a.kind b.kind h.2)
asks_same m None (Some b) h = absurd h
asks_same m (Some a) None h = absurd h

low_known : (m i : ℕ) → masked m (low_bits 8) ≡ low_bits 8 → bit_at (low_bits 8) i ≡ 1 → bit_at m i ≡ 1
low_known m i known one =
    let e : bit_at (masked m (low_bits 8)) i ≡ min (bit_at (low_bits 8) i) (bit_at m i) = bit_at_and (low_bits 8) m i in
    let k = ap (λ n. bit_at n i) known in
    omega (arith, e, k, one, bit_at-lt m i)

pub sends_same : (m : ℕ) (a b : Option Access) → AsksSame m a b → IsSent m a → SendsSame a b
sends_same m None None h s = tt
sends_same m (Some a) (Some b) h s = λ v w ka kb at.
    let known : masked m (low_bits 8) ≡ low_bits 8 = s (ap is_store ka) at in
    let q : KindsAgree m (Store v) (Store w) = subst (λ k. KindsAgree m k (Store w)) ka (subst (λ k. KindsAgree m a.kind k) kb h.2) in
    agree_from (low_bits 8) v w (λ i one. agree_at m v w i q (low_known m i known one))
sends_same m None (Some b) h s = absurd h
sends_same m (Some a) None h s = absurd h

-- ---- both states
-- the machine of uses in the state s knows the frame state f of the filling
pub record Beside (f : FrameState) (s : UseState) : Type 0 where
  pub knows : Knows f s
  pub shaped : IsShapedFrame f
  pub held : Held f

same_some : (inner : List ℕ) (o p : Option Nested) → NestedFit inner o p → is_some o ≡ is_some p
same_some inner None None k = refl
same_some inner (Some x) (Some y) k = refl
same_some inner None (Some y) k = absurd k
same_some inner (Some x) None k = absurd k

begins_same : {f : FrameState} {s : UseState} → Knows f s → (nested : Bool) (kind : StepKind) → begins nested kind f ≡ begins nested kind s.frame
begins_same {f = f} {s = s} k nested kind = ap (λ z. nested && (is_nesting kind && not z)) (same_some s.masks.inner f.nested s.frame.nested k.nested)

pub pc_same : {f : FrameState} {s : UseState} → Knows f s → (current f).control.pc ≡ (current s.frame).control.pc
pc_same {f = f} {s = s} k = by f.nested s.frame.nested k.nested
  where
    by : (o p : Option Nested) → NestedFit s.masks.inner o p → (current_in o f).control.pc ≡ (current_in p s.frame).control.pc
    by None None h = k.control.even.pc
    by (Some x) (Some y) h = h.pc
    by None (Some y) h = absurd h
    by (Some x) None h = absurd h

pub place_same : {f : FrameState} {s : UseState} → Knows f s → (nested : Bool) (rec : StepRecord) → place_on nested rec f ≡ place_on nested rec s.frame
place_same {f = f} {s = s} k nested rec = λ i. if begins_same k nested rec.kind i then rec.pc else pc_same k i

-- ---- the step over a filling, with PS.OWB as the record tells it
abbrev told_record : ℕ → Numbers → StepRecord → StepRecord
told_record mask n rec = record rec { reply = filled_number mask rec.reply n.reply; write = filled_write n.register rec.write }

module _ (rows : RowsAgree) (replies : RepliesAgree) (code : ℕ → ℕ) (bytes : AreBytes code) (b : Bounds) (fresh : Bool) (live : ℕ → Bool) (kb : ℕ → ℕ) (rec : StepRecord) (words : AreInputs (inputs_of rec))
    (mask_word : reply_mask kb rec.access < 2 ^ 32) (n : Numbers) (us : UseState) (masks : MaskWords us.masks) (is_cut : IsCut us.frame us.masks) {f : FrameState} (k : Beside f us) where
  abbrev reply : ℕ
  reply = filled_number (reply_mask kb rec.access) rec.reply n.reply

  abbrev rec2 : StepRecord
  rec2 = told_record (reply_mask kb rec.access) n rec

  abbrev inp : Inputs
  inp = inputs_of rec2

  abbrev value : ℕ
  value = value_in rec2.write

  abbrev goal : Bool → Type 0
  goal nested = Goes (full_step code nested rec kb us) (value_step code (begins nested rec.kind f) value inp f)

  -- where nothing begins, it does not matter whether the record is nested
  full_same : (one other : Bool) → begins one rec.kind us.frame ≡ false → begins other rec.kind us.frame ≡ false → full_step code one rec kb us ≡ full_step code other rec kb us
  full_same one other p q = cond-false (begins one rec.kind us.frame) _ _ p ∙ sym (cond-false (begins other rec.kind us.frame) _ _ q)

  breach_same : (one other : Bool) → begins one rec.kind us.frame ≡ false → begins other rec.kind us.frame ≡ false → use_breach b fresh code live kb one rec us ≡ use_breach b fresh code live kb other rec us
  breach_same one other p q = cond-false (begins one rec.kind us.frame) None _ p ∙ sym (cond-false (begins other rec.kind us.frame) None _ q)

  rest : (one other : Bool) → begins one rec.kind us.frame ≡ false → begins other rec.kind us.frame ≡ false → Goes (full_step code one rec kb us) (value_step code false value inp f) → goal other
  rest one other p q g =
      subst (λ z. Goes (full_step code other rec kb us) (value_step code z value inp f)) (sym (begins_same k.knows other rec.kind ∙ q))
      (subst (λ z. Goes z (value_step code false value inp f)) (full_same one other p q) g)

  outside : us.frame.nested ≡ None → f.nested ≡ None → (nested : Bool) → begins nested rec.kind us.frame ≡ false → use_breach b fresh code live kb nested rec us ≡ None → goal nested
  outside sn fn nested e none =
      rest false nested refl e
      (outside_goes rows replies code bytes b fresh live kb rec words reply value mask_word (filled_word (reply_mask kb rec.access) rec.reply n.reply mask_word) (filled_agrees (reply_mask kb rec.access) rec.reply n.reply mask_word) us sn masks k.knows fn k.shaped k.held
      (breach_same false nested refl e ∙ none))

  within : (x y : Nested) → f.nested ≡ Some x → us.frame.nested ≡ Some y → (nested : Bool) → use_breach b fresh code live kb nested rec us ≡ None → goal nested
  within x y fx sy nested none =
      rest true nested (off true) (off nested)
      (within_goes rows replies code bytes b fresh live kb rec words reply value mask_word (filled_word (reply_mask kb rec.access) rec.reply n.reply mask_word) (filled_agrees (reply_mask kb rec.access) rec.reply n.reply mask_word) us masks is_cut k.knows k.shaped k.held x y fx sy
      (breach_same true nested (off true) (off nested) ∙ none))
    where
      off : (z : Bool) → begins z rec.kind us.frame ≡ false
      off z = ap (λ (o : Option Nested). z && (is_nesting rec.kind && not (is_some o))) sy ∙ and_right z _ (and_right (is_nesting rec.kind) _ refl)

  starts : us.frame.nested ≡ None → f.nested ≡ None → is_nesting rec.kind ≡ true → goal true
  starts sn fn nesting =
      let on : begins true rec.kind f ≡ true = ap (λ (o : Option Nested). is_nesting rec.kind && not (is_some o)) fn ∙ ap (λ z. z && true) nesting in
      subst (λ z. Goes (full_step code true rec kb us) (value_step code z value inp f)) (sym on) (begins_goes code kb rec inp value us refl k.knows nesting sn k.held)

  pub value_goes : (nested : Bool) → use_breach b fresh code live kb nested rec us ≡ None → goal nested
  value_goes nested none = by_nested f.nested us.frame.nested refl refl k.knows.nested
    where
      plain : us.frame.nested ≡ None → f.nested ≡ None → (z : Bool) → use_breach b fresh code live kb z rec us ≡ None → goal z
      plain sn fn false q = outside sn fn false refl q
      plain sn fn true q = ⊎_elim
          (λ is. starts sn fn is)
          (λ isnt. outside sn fn true (ap (λ z. z && not (is_some us.frame.nested)) isnt) q)
          (cases_Bool (is_nesting rec.kind))

      by_nested : (o p : Option Nested) → f.nested ≡ o → us.frame.nested ≡ p → NestedFit us.masks.inner o p → goal nested
      by_nested None None fo sp h = plain sp fo nested none
      by_nested (Some x) (Some y) fo sp h = within x y fo sp nested none
      by_nested None (Some y) fo sp h = absurd h
      by_nested (Some x) None fo sp h = absurd h

-- ---- a step of the machine of uses over another PS.OWB
left_same : (z : Bool) (frames : List Frame) (u : UseState) → (cond z (leave_results frames u) u).masks.discipline ≡ u.masks.discipline
left_same true [] u = refl
left_same true (g ∷ rest) u = refl
left_same false frames u = refl

full_discipline : (code : ℕ → ℕ) (nested : Bool) (rec : StepRecord) (kb : ℕ → ℕ) (s : UseState) → (full_step code nested rec kb s).after.masks.discipline ≡ s.masks.discipline
full_discipline code nested rec kb s =
    let t = full_step code nested rec kb s in
    let h = with_inputs (inputs_of rec) (current s.frame) in
    sym (left_same (forgets_registers s.masks.discipline (step_insn t.turn.kind (fetch_at code h.control.pc))) s.frame.frames t.after) ∙ uses_keep code nested rec kb s

ps_with : (p q : Ps) (w : ℕ) → w < 16 → IsPs p → p ≡ record q { owb = p.owb } → IsPs (record q { owb = w })
ps_with p q w small is e =
    let k : IsPs (record q { owb = p.owb }) = subst IsPs e is in
    record { intlevel_fits = k.intlevel_fits; ring_fits = k.ring_fits; owb_fits = small; callinc_fits = k.callinc_fits }

module _ (code : ℕ → ℕ) (b : Bounds) (fresh : Bool) (live : ℕ → Bool) (kb : ℕ → ℕ) (rec : StepRecord) (w : ℕ) (us : UseState) (strict : us.masks.discipline ≡ Strict) {f : FrameState} (k : Beside f us) where
  abbrev rec1 : StepRecord
  rec1 = record rec { owb = w }

  abbrev finds : FrameState
  finds = with_inputs (inputs_of rec1) (current us.frame)

  abbrev at : Fetched
  at = fetch_at code finds.control.pc

  abbrev its_mask : ℕ
  its_mask = mask_for (reply_mask kb rec.access) us finds at

  low : (n : ℕ) → n % 16 < 16
  low n = omega arith

  shaped_ps : IsPs finds.control.ps
  shaped_ps = by f.nested us.frame.nested k.knows.nested k.shaped.nested
    where
      by : (o p : Option Nested) → NestedFit us.masks.inner o p → IsShapedNested o → IsPs (with_inputs (inputs_of rec1) (current_in p us.frame)).control.ps
      by None None h s = ps_with f.control.ps us.frame.control.ps (w % 16) (low w) k.shaped.control.ps k.knows.control.even.ps
      by (Some x) (Some y) h s = ps_with x.ps y.ps (w % 16) (low w) s.ps h.ps
      by None (Some y) h s = absurd h
      by (Some x) None h s = absurd h

  steps_near : StepsNear finds.nested its_mask at (step_with_inputs code rec.reply finds) (step_with_inputs code rec.reply (told (rec.owb % 16) finds))
  steps_near = laid_near its_mask code rec.reply (rec.owb % 16) finds shaped_ps (low rec.owb) (λ i len e shows. ap (mask_for (reply_mask kb rec.access) us finds) e ∙ shown_mask i (reply_mask kb rec.access) us finds strict shows)

  no_breach : (nested : Bool) → use_breach b fresh code live kb nested rec us ≡ None → use_breach b fresh code live kb nested rec1 us ≡ None
  no_breach nested none = ap (λ z. cond (begins nested rec.kind us.frame) None z) (laid_same b fresh live kb rec1 (rec.owb % 16) rec.owb us finds code its_mask steps_near) ∙ none

  abbrev IsNear : Bool → Type 0
  IsNear nested = UsesNear (full_step code nested rec1 kb us) (full_step code nested rec kb us)

  near_either : (one other : Bool) → begins one rec.kind us.frame ≡ false → begins other rec.kind us.frame ≡ false → IsNear one → IsNear other
  near_either one other p q n =
      let a : full_step code one rec1 kb us ≡ full_step code other rec1 kb us = cond-false (begins one rec.kind us.frame) _ _ p ∙ sym (cond-false (begins other rec.kind us.frame) _ _ q) in
      let c : full_step code one rec kb us ≡ full_step code other rec kb us = cond-false (begins one rec.kind us.frame) _ _ p ∙ sym (cond-false (begins other rec.kind us.frame) _ _ q) in
      subst (λ z. UsesNear z (full_step code other rec kb us)) a (subst (UsesNear (full_step code one rec1 kb us)) c n)

  uses_near : (nested : Bool) → IsNear nested
  uses_near nested = by us.frame.nested refl
    where
      in_place : (p : Option Nested) → us.frame.nested ≡ p → IsPs (with_inputs (inputs_of rec1) (current_in p us.frame)).control.ps
      in_place p e = subst (λ o. IsPs (with_inputs (inputs_of rec1) (current_in o us.frame)).control.ps) e shaped_ps

      outer : us.frame.nested ≡ None → IsNear false
      outer sn = plain_near code rec1 rec.owb kb us strict sn (in_place None sn) (low rec.owb)

      plain : us.frame.nested ≡ None → (z : Bool) → IsNear z
      plain sn false = outer sn
      plain sn true = ⊎_elim
          (λ is. begins_near code rec1 rec.owb kb us strict sn (in_place None sn) (low rec.owb) is)
          (λ isnt. near_either false true refl (ap (λ z. z && not (is_some us.frame.nested)) isnt) (outer sn))
          (cases_Bool (is_nesting rec.kind))

      by : (p : Option Nested) → us.frame.nested ≡ p → IsNear nested
      by None sn = plain sn nested
      by (Some y) sy = near_either true nested (off true) (off nested) (inside_near code rec1 rec.owb kb us strict y sy (in_place (Some y) sy) (low rec.owb))
        where
          off : (z : Bool) → begins z rec.kind us.frame ≡ false
          off z = ap (λ (o : Option Nested). z && (is_nesting rec.kind && not (is_some o))) sy ∙ and_right z _ (and_right (is_nesting rec.kind) _ refl)

  goes_near : (nested : Bool) (u : FrameTurn) → Goes (full_step code nested rec1 kb us) u → Goes (full_step code nested rec kb us) u
  goes_near nested u g = record { follows = follows_near (full_discipline code nested rec1 kb us ∙ strict) (uses_near nested) g.follows; held = g.held }

-- ---- the step as a whole
module _ (rows : RowsAgree) (replies : RepliesAgree) (code : ℕ → ℕ) (bytes : AreBytes code) (b : Bounds) (fresh : Bool) (live : ℕ → Bool) (kb : ℕ → ℕ) (rec : StepRecord) (words : AreInputs (inputs_of rec))
    (mask_word : reply_mask kb rec.access < 2 ^ 32) (n : Numbers) (us : UseState) (masks : MaskWords us.masks) (is_cut : IsCut us.frame us.masks) {f : FrameState} (k : Beside f us)
    (d : Discipline) (same : us.masks.discipline ≡ d) (nested : Bool) (none : use_breach b fresh code live kb nested rec us ≡ None) where
  abbrev t : UseTurn
  t = full_step code nested rec kb us

  abbrev filling : StepRecord
  filling = filled_record d (reply_mask kb rec.access) n rec

  abbrev u : FrameTurn
  u = value_step code (begins nested rec.kind f) (value_in filling.write) (inputs_of filling) f

  abbrev h : FrameState
  h = with_inputs (inputs_of rec) (current us.frame)

  abbrev o : Option Insn
  o = step_insn t.turn.kind (fetch_at code h.control.pc)

  goes : Goes t u
  goes = by d same
    where
      by : (d : Discipline) → us.masks.discipline ≡ d → Goes t (value_step code (begins nested rec.kind f) (value_in (filled_record d (reply_mask kb rec.access) n rec).write) (inputs_of (filled_record d (reply_mask kb rec.access) n rec)) f)
      by Lenient known = value_goes rows replies code bytes b fresh live kb rec words mask_word n us masks is_cut k nested none
      by Strict strict =
          goes_near code b fresh live kb rec n.owb us strict k nested _
          (value_goes rows replies code bytes b fresh live kb (record rec { owb = n.owb }) (record { ccount = words.ccount; interrupt = words.interrupt; owb = omega arith; reply = words.reply }) mask_word n us masks is_cut k nested
          (no_breach code b fresh live kb rec n.owb us strict k nested none))

  insn_same : step_insn u.kind (fetch_at code (current f).control.pc) ≡ o
  insn_same = ap (λ z. step_insn z (fetch_at code (current f).control.pc)) goes.follows.kind ∙ ap (λ z. step_insn t.turn.kind (fetch_at code z)) (pc_same k.knows)

  abbrev forgets : Bool
  forgets = forgets_registers d (step_insn u.kind (fetch_at code (current f).control.pc))

  forgets_same : forgets ≡ forgets_registers us.masks.discipline o
  forgets_same = ap (forgets_registers d) insn_same ∙ ap (λ z. forgets_registers z o) (sym same)

  left_knows : Knows (left_in forgets f.frames u.after) (left_after o us t.after)
  left_knows =
      let first : Knows u.after (left_after o us t.after) = knows_left o f us k.knows k.held.framed u.after t.after goes.follows.knows in
      subst (λ z. Knows (left_in z f.frames u.after) (left_after o us t.after)) (sym forgets_same) (results_knows o f us k.knows k.held.framed u.after t.after first)

  shaped_after : IsShapedFrame u.after
  shaped_after = value_leaves code nested filling f bytes (record { ccount = words.ccount; interrupt = words.interrupt; owb = omega arith; reply = filled_word (reply_mask kb rec.access) rec.reply n.reply mask_word }) k.shaped

  left_is_held : Held (left_in forgets f.frames u.after)
  left_is_held = left_held forgets f.frames u.after k.held.framed goes.held

  pub step_beside : Beside (filled_step d code nested rec kb n f).after (use_step code nested rec kb us).after
  step_beside = record {
    knows = numbered_knows n.register left_is_held.pointer left_knows;
    shaped = numbered_shaped n.register (left_in forgets f.frames u.after) (left_shaped forgets f.frames u.after shaped_after);
    held = filled_held n.register (left_in forgets f.frames u.after) left_is_held;
  }

  pub step_same : DoesSame (use_step code nested rec kb us) (filled_step d code nested rec kb n f)
  step_same =
      let w = goes.follows in
      record {
        kind = w.kind;
        write = w.write;
        access = w.access;
        sent = sends_same t.stored u.access t.turn.access (asks_same t.stored u.access t.turn.access w.access) (sent_back t.stored u.access t.turn.access w.access w.sent);
      }
