-- A core of which fewer registers are known makes the step of one of which more are known, if its step shows no breach.
use Rattle.std.proofs.Common.{◌≡◌, ℕ, zero, suc, ◌+◌, ◌*◌, ◌-◌, ◌/◌, ◌%◌, ◌^◌, Bool, true, false, not, cond, eqb, ltb, ◌&&◌, ◌||◌, ⊎_elim, Option, Some, None, List, [], ◌∷◌, ◌++◌, get_or, take, drop, replicate, refl, sym, ap, ◌∙◌, subst}
use Rattle.std.proofs.Math.ListN.{set}
use Rattle.std.specs.Prelude.{is_some, unwrap_or}
use Rattle.std.proofs.lemmas.Bool.{cases_Bool, cond-false, cond-true, or_from, or_left, or_parts, or_right, true≢false}
use Rattle.std.proofs.lemmas.Option.{none-some}
use Rattle.xt_isa.specs.declared.Insn.{Insn}
use Rattle.xt_isa.specs.declared.Insn.TheVariants as insn
use Rattle.xt_isa.specs.declared.control.Control.TheVariants as control
use Rattle.xt_isa.specs.declared.control.ReturnName.TheVariants as ReturnName
use Rattle.xt_isa.specs.declared.density.Density.TheVariants as density
use Rattle.xt_isa.specs.declared.density.BareName.TheVariants as BareName
use Rattle.xt_special.specs.Control.{Control, special_of}
use Rattle.xt_special.specs.Interrupts.{pending_of}
use Rattle.xt_special.specs.Numbers as number
use Rattle.xt_trace.specs.declared.record.RegWrite.{RegWrite}
use Rattle.xt_trace.specs.declared.record.StepKind.{StepKind}
use Rattle.xt_trace.specs.declared.record.StepKind.TheVariants as kind
use Rattle.xt_trace.specs.declared.record.StepRecord.{StepRecord}
use Rattle.xt_map.specs.Fetching.{Fetched, Fetches, Fails, SpellsNothing, fetch_at}
use Rattle.xt_rows.specs.declared.outcome.Outcome.{Outcome}
use Rattle.xt_rows.specs.declared.outcome.Outcome.TheVariants.{Does, Raises, Asks, Stops, Windowed}
use Rattle.xt_rows.specs.declared.outcome.WindowStep.TheVariants.{Enters, Returns, EndsOverflow, EndsUnderflow, Rotates, MovesStack, Reads, Sets, Exchanges}
use Rattle.xt_rows.specs.Effects.{fetch_error, illegal_instruction}
use Rattle.xt_rows.specs.Numbers.{minus, natural}
use Rattle.xt_rows.specs.Operands.{reads, special_reads}
use Rattle.xt_rows.specs.Outcomes.{outcome_at, value_of}
use Rattle.xt_rows.specs.RowLaws.{AgreeAt, AgreeOn}
use Rattle.xt_rows.specs.Settling.{Settled, after_outcome, settled_interrupt, settled_wait, write_with_reply}
use Rattle.xt_frames.specs.Frames.{Frame, FrameState, seen_after_call, seen_after_return, seen_after_write, value_or_zero}
use Rattle.xt_frames.specs.FrameStep.{FrameTurn, done_in_frame, entry_in_frame, exception_in_frame, fetched_step, in_frame, return_in_frame, return_to_frame, step_with_inputs, with_inputs}
use Rattle.xt_frames.specs.Nesting.{unset_after}
use Rattle.xt_frames.specs.SaveAreas.{Area, areas, before, is_live, live_areas, sp_of, covers_byte}
use Rattle.xt_frames.specs.Breaches.{Bounds, Test, breach_of, fetched_tests, first_shown, has_no_caller, inputs_of, insn_tests, is_empty, is_return, is_unset, lacks, laid_breach, leaves_range, misaligns_sp, mismatches, opens_nothing, other_frame_size, other_tests, outside, reads_unset, return_tests, returns_elsewhere, fetched_return_breach, is_underflow, vector_test, window_breach, writes_sp}
use Rattle.xt_frames.specs.Judging.{step_on}
use Rattle.xt_frames.specs.Stacks.{Chain, Stack}
use Rattle.xt_judged.specs.Forgotten.{AreFewer, AreFramesFewer}
use Rattle.xt_frames.proofs.Shown.{NoneShown, none_shown}
use Rattle.xt_frames.proofs.StackSteps.{breach_fetches, step_fetches, step_taken, step_waits}

-- ---- what is known here is known there
fewer_at : (xs ys : List (Option ℕ)) → AreFewer xs ys → (i v : ℕ) → get_or xs i None ≡ Some v → get_or ys i None ≡ Some v
fewer_at [] [] h i v e = e
fewer_at (None ∷ xs) (y ∷ ys) h zero v e = absurd (none-some v e)
fewer_at (Some x ∷ xs) (y ∷ ys) h zero v e = h.0 ∙ e
fewer_at (x ∷ xs) (y ∷ ys) h (suc i) v e = fewer_at xs ys h.1 i v e
fewer_at [] (y ∷ ys) h i v e = absurd h
fewer_at (x ∷ xs) [] h i v e = absurd h

fewer_set : (xs ys : List (Option ℕ)) → AreFewer xs ys → (k v : ℕ) → AreFewer (set xs k (Some v)) (set ys k (Some v))
fewer_set [] [] h k v = tt
fewer_set (x ∷ xs) (y ∷ ys) h zero v = (refl, h.1)
fewer_set (x ∷ xs) (y ∷ ys) h (suc k) v = (h.0, fewer_set xs ys h.1 k v)
fewer_set [] (y ∷ ys) h k v = absurd h
fewer_set (x ∷ xs) [] h k v = absurd h

fewer_take : (n : ℕ) (xs ys : List (Option ℕ)) → AreFewer xs ys → AreFewer (take n xs) (take n ys)
fewer_take zero xs ys h = tt
fewer_take (suc n) [] [] h = tt
fewer_take (suc n) (x ∷ xs) (y ∷ ys) h = (h.0, fewer_take n xs ys h.1)
fewer_take (suc n) [] (y ∷ ys) h = absurd h
fewer_take (suc n) (x ∷ xs) [] h = absurd h

fewer_drop : (n : ℕ) (xs ys : List (Option ℕ)) → AreFewer xs ys → AreFewer (drop n xs) (drop n ys)
fewer_drop zero xs ys h = h
fewer_drop (suc n) [] [] h = tt
fewer_drop (suc n) (x ∷ xs) (y ∷ ys) h = fewer_drop n xs ys h.1
fewer_drop (suc n) [] (y ∷ ys) h = absurd h
fewer_drop (suc n) (x ∷ xs) [] h = absurd h

fewer_append : (xs ys us vs : List (Option ℕ)) → AreFewer xs ys → AreFewer us vs → AreFewer (xs ++ us) (ys ++ vs)
fewer_append [] [] us vs h k = k
fewer_append (x ∷ xs) (y ∷ ys) us vs h k = (h.0, fewer_append xs ys us vs h.1 k)
fewer_append [] (y ∷ ys) us vs h k = absurd h
fewer_append (x ∷ xs) [] us vs h k = absurd h

none_known : (n : ℕ) → AreFewer (replicate n None) (replicate n None)
none_known zero = tt
none_known (suc n) = (tt, none_known n)

fewer_write : (w : Option RegWrite) (xs ys : List (Option ℕ)) → AreFewer xs ys → AreFewer (seen_after_write w xs) (seen_after_write w ys)
fewer_write None xs ys h = h
fewer_write (Some w) xs ys h = fewer_set xs ys h w.reg w.value

-- ---- stack pointers, which are known
known_same : (xs ys : List (Option ℕ)) (i v : ℕ) → AreFewer xs ys → get_or xs i None ≡ Some v → value_or_zero xs i ≡ value_or_zero ys i
known_same xs ys i v h e = ap (λ (o : Option ℕ). unwrap_or o 0) (e ∙ sym (fewer_at xs ys h i v e))

before_same : (lo hi sp : ℕ) (fs gs : List Frame) → AreFramesFewer fs gs → Chain lo hi sp fs → before hi fs ≡ before hi gs
before_same lo hi sp [] [] k c = refl
before_same lo hi sp (f ∷ fs) (g ∷ gs) k c = known_same f.kept g.kept 1 (sp_of f) k.1 c.0.kept
before_same lo hi sp [] (g ∷ gs) k c = absurd k
before_same lo hi sp (f ∷ fs) [] k c = absurd k

areas_same : (lo hi sp n : ℕ) (fs gs : List Frame) → AreFramesFewer fs gs → Chain lo hi sp fs → areas hi sp n fs ≡ areas hi sp n gs
areas_same lo hi sp n [] [] k c = refl
areas_same lo hi sp n (f ∷ fs) (g ∷ gs) k c =
    let p : sp_of f ≡ sp_of g = known_same f.kept g.kept 1 (sp_of f) k.1 c.0.kept in
    let rest : areas hi (sp_of f) f.by fs ≡ areas hi (sp_of g) g.by gs = areas_same lo hi (sp_of f) f.by fs gs k.2 c.1 ∙ (λ i. areas hi (p i) (k.0 i) gs) in
    let first : Area = record { from = sp - 16; size = 16 } in
    λ i. first ∷ record { from = p i - 16 * n; size = 16 * (n - 1) } ∷ rest i
areas_same lo hi sp n [] (g ∷ gs) k c = absurd k
areas_same lo hi sp n (f ∷ fs) [] k c = absurd k

empty_same : (fs gs : List Frame) → AreFramesFewer fs gs → is_empty fs ≡ is_empty gs
empty_same [] [] k = refl
empty_same (f ∷ fs) (g ∷ gs) k = refl
empty_same [] (g ∷ gs) k = absurd k
empty_same (f ∷ fs) [] k = absurd k

mismatch_same : (fs gs : List Frame) (a b : ℕ) → AreFramesFewer fs gs → a ≡ b → mismatches fs a ≡ mismatches gs b
mismatch_same [] [] a b k e = refl
mismatch_same (f ∷ fs) (g ∷ gs) a b k e = λ i. not (eqb (e i / 2 ^ 30) (k.0 i))
mismatch_same [] (g ∷ gs) a b k e = absurd k
mismatch_same (f ∷ fs) [] a b k e = absurd k

-- ---- tests that are not shown
none_first : (ts : List Test) → NoneShown ts → first_shown ts ≡ None
none_first [] h = refl
none_first (t ∷ ts) h = cond-false t.shown (Some t.kind) (first_shown ts) h.0 ∙ none_first ts h.1

laid_other : (b : Bounds) (fresh : Bool) (code : ℕ → ℕ) (live stale : ℕ → Bool) (rec : StepRecord) (f : FrameState) → (ltb 0 (pending_of f.control) || f.control.waits) ≡ true
    → laid_breach b fresh code live stale rec f ≡ first_shown (vector_test b f ∷ [])
unfolding laid_breach
laid_other b fresh code live stale rec f e = cond-true (ltb 0 (pending_of f.control) || f.control.waits) _ _ e

-- ---- two steps that are the same but for what is known after them
pub record IsLike (t v : FrameTurn) : Type 0 where
  pub kind : t.kind ≡ v.kind
  pub write : t.write ≡ v.write
  pub access : t.access ≡ v.access
  pub control : t.after.control ≡ v.after.control
  pub unset : t.after.unset ≡ v.after.unset
  pub plain : t.after.nested ≡ None
  pub other : v.after.nested ≡ None
  pub seen : AreFewer t.after.seen v.after.seen
  pub frames : AreFramesFewer t.after.frames v.after.frames

like_if : (b : Bool) (s t u v : FrameTurn) → IsLike s u → IsLike t v → IsLike (cond b s t) (cond b u v)
like_if true s t u v h k = h
like_if false s t u v h k = k

same_value : (f g : ℕ → ℕ) (o : Option ℕ) → AgreeAt f g o → value_of f o ≡ value_of g o
same_value f g None h = refl
same_value f g (Some number) h = h

same_outcome : (code : ℕ → ℕ) (i : Insn) (f g : ℕ → ℕ) (c : Control) → AgreeOn f g (reads i) → outcome_at code i f c ≡ outcome_at code i g c
same_outcome code i f g c h =
    let x = same_value f g (reads i).0 h.0 in
    let y = same_value f g (reads i).1 h.1 in
    cc

module _ (S T : List (Option ℕ)) (seen : AreFewer S T) (c : Control) (unset : List Bool) where
  abbrev fewer : List Frame → FrameState
  fewer fs = record { seen = S; frames = fs; control = c; unset = unset; nested = None }

  abbrev more : List Frame → FrameState
  more gs = record { seen = T; frames = gs; control = c; unset = unset; nested = None }

  -- ---- the registers that are read are known
  agree : (o : Option ℕ) → lacks S o ≡ false → AgreeAt (value_or_zero S) (value_or_zero T) o
  agree None h = tt
  agree (Some r) h = by (get_or S r None) refl h
    where
      by : (x : Option ℕ) → get_or S r None ≡ x → not (is_some x) ≡ false → value_or_zero S r ≡ value_or_zero T r
      by None e k = absurd (true≢false k)
      by (Some v) e k = known_same S T r v seen e

  has : (o : Option ℕ) → lacks S o ≡ false → lacks T o ≡ false
  has None h = refl
  has (Some r) h = by (get_or S r None) refl h
    where
      by : (x : Option ℕ) → get_or S r None ≡ x → not (is_some x) ≡ false → lacks T (Some r) ≡ false
      by None e k = absurd (true≢false k)
      by (Some v) e k = ap (λ (o : Option ℕ). not (is_some o)) (fewer_at S T seen r v e)

  -- ---- steps
  module _ (fs gs : List Frame) (k : AreFramesFewer fs gs) where
    in_like : (t : Settled) (reply : ℕ) → IsLike (in_frame t reply (fewer fs)) (in_frame t reply (more gs))
    in_like t reply = record {
      kind = refl;
      write = refl;
      access = refl;
      control = refl;
      unset = refl;
      plain = refl;
      other = refl;
      seen = fewer_write (write_with_reply t.write t.awaited reply) S T seen;
      frames = k;
    }

    raise_like : (cause : ℕ) (address : Option ℕ) → IsLike (exception_in_frame cause address (fewer fs)) (exception_in_frame cause address (more gs))
    raise_like cause address = record {
      kind = refl;
      write = refl;
      access = refl;
      control = refl;
      unset = refl;
      plain = refl;
      other = refl;
      seen = seen;
      frames = k;
    }

    entry_like : (number value len : ℕ) → IsLike (entry_in_frame number value len (fewer fs)) (entry_in_frame number value len (more gs))
    unfolding entry_in_frame
    entry_like number value len =
        let n = c.ps.callinc in
        record {
          kind = refl;
          write = refl;
          access = refl;
          control = refl;
          unset = refl;
          plain = refl;
          other = refl;
          seen = fewer_set (seen_after_call S n) (seen_after_call T n) (fewer_append (drop (4 * n) S) (drop (4 * n) T) (replicate (4 * n) None) (replicate (4 * n) None) (fewer_drop (4 * n) S T seen) (none_known (4 * n))) number value;
          frames = (refl, fewer_take (4 * n) S T seen, k);
        }

  back_seen : (x y : Frame) → x.by ≡ y.by → AreFewer x.kept y.kept → AreFewer (seen_after_return x.kept S x.by) (seen_after_return y.kept T y.by)
  back_seen x y e h =
      subst (λ (n : ℕ). AreFewer (x.kept ++ take (16 - 4 * x.by) S) (y.kept ++ take (16 - 4 * n) T)) e
      (fewer_append x.kept y.kept (take (16 - 4 * x.by) S) (take (16 - 4 * x.by) T) h (fewer_take (16 - 4 * x.by) S T seen))

  return_like : (fs gs : List Frame) (a0 : ℕ) → AreFramesFewer fs gs → IsLike (return_to_frame fs a0 (fewer fs)) (return_to_frame gs a0 (more gs))
  return_like [] [] a0 k = raise_like [] [] k illegal_instruction None
  return_like (x ∷ xs) (y ∷ ys) a0 k = record {
    kind = refl;
    write = refl;
    access = refl;
    control = refl;
    unset = refl;
    plain = refl;
    other = refl;
    seen = back_seen x y k.0 k.1;
    frames = k.2;
  }
  return_like [] (y ∷ ys) a0 k = absurd k
  return_like (x ∷ xs) [] a0 k = absurd k

  module _ (fs gs : List Frame) (k : AreFramesFewer fs gs) (len reply : ℕ) where
    done_like : (o : Outcome) → IsLike (done_in_frame o len reply (fewer fs)) (done_in_frame o len reply (more gs))
    unfolding return_in_frame
    done_like (Does e) = in_like fs gs k (after_outcome (Does e) len c) reply
    done_like (Raises cause addr) = in_like fs gs k (after_outcome (Raises cause addr) len c) reply
    done_like (Asks access awaited e) = in_like fs gs k (after_outcome (Asks access awaited e) len c) reply
    done_like Stops = in_like fs gs k (after_outcome Stops len c) reply
    done_like (Windowed (Enters number value)) =
        like_if c.ps.excm (exception_in_frame illegal_instruction None (fewer fs)) (entry_in_frame number value len (fewer fs))
        (exception_in_frame illegal_instruction None (more gs)) (entry_in_frame number value len (more gs))
        (raise_like fs gs k illegal_instruction None) (entry_like fs gs k number value len)
    done_like (Windowed (Returns a0)) =
        like_if c.ps.excm (exception_in_frame illegal_instruction None (fewer fs)) (return_to_frame fs a0 (fewer fs))
        (exception_in_frame illegal_instruction None (more gs)) (return_to_frame gs a0 (more gs))
        (raise_like fs gs k illegal_instruction None) (return_like fs gs a0 k)
    done_like (Windowed (EndsOverflow epc1)) = in_like fs gs k (after_outcome (Windowed (EndsOverflow epc1)) len c) reply
    done_like (Windowed (EndsUnderflow epc1)) = in_like fs gs k (after_outcome (Windowed (EndsUnderflow epc1)) len c) reply
    done_like (Windowed (Rotates n)) = in_like fs gs k (after_outcome (Windowed (Rotates n)) len c) reply
    done_like (Windowed (MovesStack number value)) = in_like fs gs k (after_outcome (Windowed (MovesStack number value)) len c) reply
    done_like (Windowed (Reads register number)) = in_like fs gs k (after_outcome (Windowed (Reads register number)) len c) reply
    done_like (Windowed (Sets register value)) = in_like fs gs k (after_outcome (Windowed (Sets register value)) len c) reply
    done_like (Windowed (Exchanges register number value)) = in_like fs gs k (after_outcome (Windowed (Exchanges register number value)) len c) reply

  -- ---- tests
  module _ (b : Bounds) (fs gs : List Frame) (k : AreFramesFewer fs gs) (stack : Stack b.range.lo b.range.hi S fs) where
    sp_same : value_or_zero S 1 ≡ value_or_zero T 1
    sp_same = known_same S T 1 (value_or_zero S 1) seen stack.sp

    before_is : before b.range.hi fs ≡ before b.range.hi gs
    before_is = before_same b.range.lo b.range.hi (value_or_zero S 1) fs gs k stack.chain

    pub places_same : live_areas b.range (fewer fs) ≡ live_areas b.range (more gs)
    places_same = areas_same b.range.lo b.range.hi (value_or_zero S 1) 1 fs gs k stack.chain ∙ ap (λ (sp : ℕ). areas b.range.hi sp 1 gs) sp_same

    pub live_same : is_live b.range (fewer fs) ≡ is_live b.range (more gs)
    live_same = λ i a. covers_byte (places_same i) a

    size_same : (i : Insn) → other_frame_size b.range i (fewer fs) ≡ other_frame_size b.range i (more gs)
    unfolding other_frame_size
    size_same (insn.Control (control.Entry number size)) = λ j. not (eqb number 1) || (ltb (natural size) 16 || ltb (before_is j) (sp_same j + 16 * c.ps.callinc))
    size_same _ = refl

    low_same : (i : Insn) → leaves_range b.range i (fewer fs) ≡ leaves_range b.range i (more gs)
    unfolding leaves_range
    low_same (insn.Control (control.Entry number size)) = λ j. outside b.range.lo b.range.hi (minus (sp_same j) (natural size))
    low_same _ = refl

    align_same : (i : Insn) → misaligns_sp i (fewer fs) ≡ misaligns_sp i (more gs)
    unfolding misaligns_sp
    align_same (insn.Control (control.Entry number size)) = λ j. not (eqb (minus (sp_same j) (natural size) % 16) 0)
    align_same _ = refl

    opens_same : (i : Insn) → opens_nothing i (fewer fs) ≡ opens_nothing i (more gs)
    unfolding opens_nothing
    opens_same (insn.Control (control.Entry number size)) = refl
    opens_same _ = refl

    returns_same : (i : Insn) → AgreeOn (value_or_zero S) (value_or_zero T) (reads i) → returns_elsewhere i (fewer fs) ≡ returns_elsewhere i (more gs)
    unfolding is_return reads
    returns_same (insn.Control (control.Return ReturnName.Retw)) h = mismatch_same fs gs (value_or_zero S 0) (value_or_zero T 0) k h.0
    returns_same (insn.Density (density.Bare BareName.Retw)) h = mismatch_same fs gs (value_or_zero S 0) (value_or_zero T 0) k h.0
    returns_same _ h = refl

    caller_same : (i : Insn) → has_no_caller i (fewer fs) ≡ has_no_caller i (more gs)
    caller_same i = λ j. is_return i && empty_same fs gs k j

    module _ (i : Insn) (h : reads_unset i (fewer fs) ≡ false) where
      abbrev rest : Bool
      rest = is_unset unset (special_reads i).0 || is_unset unset (special_reads i).1

      first : (lacks S (reads i).0 ≡ false) × ((lacks S (reads i).1 || rest) ≡ false)
      first = or_parts (lacks S (reads i).0) (lacks S (reads i).1 || rest) h

      second : (lacks S (reads i).1 ≡ false) × (rest ≡ false)
      second = or_parts (lacks S (reads i).1) rest first.1

      known : AgreeOn (value_or_zero S) (value_or_zero T) (reads i)
      known = (agree (reads i).0 first.0, agree (reads i).1 second.0)

      reads_more : reads_unset i (more gs) ≡ false
      reads_more = or_from (lacks T (reads i).0) (lacks T (reads i).1 || rest) (has (reads i).0 first.0) (or_from (lacks T (reads i).1) rest (has (reads i).1 second.0) second.1)

    module _ (fresh : Bool) (live stale : ℕ → Bool) (rec : StepRecord) where
      insn_quiet : (i : Insn) (t v : FrameTurn) → IsLike t v → NoneShown (insn_tests b fresh live stale i rec (fewer fs) t) → NoneShown (insn_tests b fresh live stale i rec (more gs) v)
      insn_quiet i t v l (r, (written, (size, (low, (align, (opens, (mismatch, (caller, (saves, (loads, (high, (windowing, (window_register, (woe, (vectors, (lost, (moves, (vector, (nested, end))))))))))))))))))) = (
        reads_more i r,
        (
          sym (ap (λ (w : Option RegWrite). writes_sp i rec.write w) l.write) ∙ written,
          (
            sym (size_same i) ∙ size,
            (
              sym (low_same i) ∙ low,
              (
                sym (align_same i) ∙ align,
                (
                  sym (opens_same i) ∙ opens,
                  (
                    sym (returns_same i (known i r)) ∙ mismatch,
                    (
                      sym (caller_same i) ∙ caller,
                      (
                        saves,
                        (
                          loads,
                          (
                            high,
                            (
                              windowing,
                              (
                                window_register,
                                (
                                  sym (ap (λ (d : Control). not d.ps.woe) l.control) ∙ woe,
                                  (sym (ap (λ (d : Control). not (eqb (special_of d number.vecbase) b.vecbase)) l.control) ∙ vectors, (lost, (moves, (vector, (refl, tt))))),
                                ),
                              ),
                            ),
                          ),
                        ),
                      ),
                    ),
                  ),
                ),
              ),
            ),
          ),
        ),
      )

      other_quiet : (t v : FrameTurn) → IsLike t v → NoneShown (other_tests b live stale rec (fewer fs) t) → NoneShown (other_tests b live stale rec (more gs) v)
      other_quiet t v l (saves, (loads, (woe, (vectors, (vector, (nested, end)))))) =
          (saves, (loads, (sym (ap (λ (d : Control). not d.ps.woe) l.control) ∙ woe, (sym (ap (λ (d : Control). not (eqb (special_of d number.vecbase) b.vecbase)) l.control) ∙ vectors, (vector, (refl, tt))))))

      abbrev ShowsNone : Fetched → FrameState → FrameTurn → Type 0
      ShowsNone at f t = first_shown (fetched_tests b fresh live stale at rec f t) ≡ None

      fetched_like : (code : ℕ → ℕ) (at : Fetched) (reply : ℕ) → ShowsNone at (fewer fs) (fetched_step at code reply (fewer fs))
          → IsLike (fetched_step at code reply (fewer fs)) (fetched_step at code reply (more gs)) × ShowsNone at (more gs) (fetched_step at code reply (more gs))
      fetched_like code (Fails address) reply e =
          let t = fetched_step (Fails address) code reply (fewer fs) in
          let v = fetched_step (Fails address) code reply (more gs) in
          let l : IsLike t v = raise_like fs gs k fetch_error (Some address) in
          (l, none_first (other_tests b live stale rec (more gs) v) (other_quiet t v l (none_shown (other_tests b live stale rec (fewer fs) t) e)))
      fetched_like code SpellsNothing reply e =
          let t = fetched_step SpellsNothing code reply (fewer fs) in
          let v = fetched_step SpellsNothing code reply (more gs) in
          let l : IsLike t v = raise_like fs gs k illegal_instruction None in
          (l, none_first (other_tests b live stale rec (more gs) v) (other_quiet t v l (none_shown (other_tests b live stale rec (fewer fs) t) e)))
      fetched_like code (Fetches i len) reply e =
          let t = fetched_step (Fetches i len) code reply (fewer fs) in
          let v = fetched_step (Fetches i len) code reply (more gs) in
          let n = none_shown (insn_tests b fresh live stale i rec (fewer fs) t) e in
          let o = same_outcome code i (value_or_zero S) (value_or_zero T) c (known i n.0) in
          let l : IsLike t v = subst (λ (x : Outcome). IsLike t (done_in_frame x len reply (more gs))) o (done_like fs gs k len reply (outcome_at code i (value_or_zero S) c)) in
          (l, none_first (insn_tests b fresh live stale i rec (more gs) v) (insn_quiet i t v l n))

      laid_like : (code : ℕ → ℕ) → laid_breach b fresh code live stale rec (fewer fs) ≡ None
          → IsLike (step_with_inputs code rec.reply (fewer fs)) (step_with_inputs code rec.reply (more gs)) × (laid_breach b fresh code live stale rec (more gs) ≡ None)
      laid_like code none =
          let at = fetch_at code c.pc in
          ⊎_elim
          (λ taken.
          let l = in_like fs gs k (settled_interrupt (pending_of c) c) rec.reply in
          let e : (ltb 0 (pending_of c) || c.waits) ≡ true = or_left (ltb 0 (pending_of c)) c.waits taken in (
            subst (λ (t : FrameTurn). IsLike t (step_with_inputs code rec.reply (more gs))) (sym (step_taken code rec.reply (fewer fs) taken)) (subst (IsLike (in_frame (settled_interrupt (pending_of c) c) rec.reply (fewer fs))) (sym (step_taken code rec.reply (more gs) taken)) l),
            laid_other b fresh code live stale rec (more gs) e ∙ sym (laid_other b fresh code live stale rec (fewer fs) e) ∙ none,
          ))
          (λ quiet. ⊎_elim
          (λ waits.
          let l = in_like fs gs k (settled_wait c) rec.reply in
          let e : (ltb 0 (pending_of c) || c.waits) ≡ true = or_right (ltb 0 (pending_of c)) c.waits waits in (
            subst (λ (t : FrameTurn). IsLike t (step_with_inputs code rec.reply (more gs))) (sym (step_waits code rec.reply (fewer fs) quiet waits)) (subst (IsLike (in_frame (settled_wait c) rec.reply (fewer fs))) (sym (step_waits code rec.reply (more gs) quiet waits)) l),
            laid_other b fresh code live stale rec (more gs) e ∙ sym (laid_other b fresh code live stale rec (fewer fs) e) ∙ none,
          ))
          (λ goes.
          let p = step_fetches code rec.reply (fewer fs) quiet goes in
          let q = step_fetches code rec.reply (more gs) quiet goes in
          let shown : ShowsNone at (fewer fs) (fetched_step at code rec.reply (fewer fs)) =
          subst (ShowsNone at (fewer fs)) p (sym (breach_fetches b fresh code live stale rec (fewer fs) quiet goes) ∙ none) in
          let r = fetched_like code at rec.reply shown in (
            subst (λ (t : FrameTurn). IsLike t (step_with_inputs code rec.reply (more gs))) (sym p) (subst (IsLike (fetched_step at code rec.reply (fewer fs))) (sym q) r.0),
            breach_fetches b fresh code live stale rec (more gs) quiet goes ∙ subst (ShowsNone at (more gs)) (sym q) r.1,
          ))
          (cases_Bool c.waits))
          (cases_Bool (ltb 0 (pending_of c)))

      return_quiet : (i : Insn) → NoneShown (return_tests i (fewer fs)) → NoneShown (return_tests i (more gs))
      return_quiet i (r, (mismatch, (caller, end))) = (reads_more i r, (sym (returns_same i (known i r)) ∙ mismatch, (sym (caller_same i) ∙ caller, tt)))

      return_like_breach : (at : Fetched) → fetched_return_breach at (fewer fs) ≡ None → fetched_return_breach at (more gs) ≡ None
      return_like_breach (Fails address) e = refl
      return_like_breach SpellsNothing e = refl
      return_like_breach (Fetches i len) e = by (is_return i) e
        where
          by : (r : Bool) → cond r (first_shown (return_tests i (fewer fs))) None ≡ None → cond r (first_shown (return_tests i (more gs))) None ≡ None
          by true d = none_first (return_tests i (more gs)) (return_quiet i (none_shown (return_tests i (fewer fs)) d))
          by false d = refl

      pub window_like : (code : ℕ → ℕ) (kind : StepKind) → window_breach code kind (fewer fs) ≡ None → window_breach code kind (more gs) ≡ None
      unfolding window_breach
      window_like code (kind.Window vector) e = by (is_underflow vector) e
        where
          by : (r : Bool) → cond r (fetched_return_breach (fetch_at code c.pc) (fewer fs)) None ≡ None → cond r (fetched_return_breach (fetch_at code c.pc) (more gs)) None ≡ None
          by true d = return_like_breach (fetch_at code c.pc) d
          by false d = refl
      window_like code _ e = refl

-- ---- one judged step
module _ (S T : List (Option ℕ)) (seen : AreFewer S T) (c : Control) (unset : List Bool) (fs gs : List Frame) (k : AreFramesFewer fs gs) (b : Bounds) (stack : Stack b.range.lo b.range.hi S fs) where
  abbrev poorer : FrameState
  poorer = record { seen = S; frames = fs; control = c; unset = unset; nested = None }

  abbrev richer : FrameState
  richer = record { seen = T; frames = gs; control = c; unset = unset; nested = None }

  pub fewer_judged : (fresh : Bool) (code : ℕ → ℕ) (live stale : ℕ → Bool) (rec : StepRecord) → breach_of b fresh code live stale false rec poorer ≡ None
      → IsLike (step_on code false rec poorer) (step_on code false rec richer) × (breach_of b fresh code live stale false rec richer ≡ None)
  fewer_judged fresh code live stale rec none =
      let d : Control = (with_inputs (inputs_of rec) poorer).control in
      let r = laid_like S T seen d unset b fs gs k stack fresh live stale rec code none in
      let l = r.0 in (
        record {
          kind = l.kind;
          write = l.write;
          access = l.access;
          control = l.control;
          unset = ap (λ (kind : StepKind). unset_after kind (fetch_at code d.pc) unset) l.kind;
          plain = l.plain;
          other = l.other;
          seen = l.seen;
          frames = l.frames;
        },
        r.1,
      )
