-- Whatever the filling, each judged step before the first breach of uses does the same at the same place.
use Rattle.std.proofs.Common.{◌≡◌, ℕ, zero, suc, ◌^◌, ◌<◌, ◌≤◌, Bool, true, false, ◌==◌, ◌&&◌, not, Option, Some, None, sym, ap, ◌∙◌, refl, arith, ⊎_elim, subst, cond, length, get_or, replicate, slice_get}
use Rattle.std.proofs.lemmas.Bool.{and_from, and_parts, cases_Bool, cond-false, cond-true, eq-eqb, eqb-true}
use Rattle.std.proofs.lemmas.List.{length-replicate}
use Rattle.xt_map.specs.declared.access.Access.{Access}
use Rattle.xt_map.specs.declared.access.Kind.{Kind}
use Rattle.xt_map.specs.declared.access.Kind.TheVariants.{Load, Store, Cas}
use Rattle.xt_map.specs.Regions.{is_memory, region_of}
use Rattle.xt_map.specs.Touching.{is_store}
use Rattle.xt_trace.specs.declared.record.RegWrite.{RegWrite}
use Rattle.xt_trace.specs.declared.record.StepRecord.{StepRecord}
use Rattle.xt_rows.specs.Numbers.{loaded_value}
use Rattle.xt_frames.specs.declared.kinds.Breach.{Breach}
use Rattle.xt_frames.specs.declared.kinds.BreachKind.{BreachKind}
use Rattle.xt_frames.specs.Frames.{FrameState, opening_frame, opening_seen}
use Rattle.xt_frames.specs.FrameStep.{FrameTurn}
use Rattle.xt_frames.specs.Verdict.{is_nested}
use Rattle.xt_frames.specs.FirstBreach.{Course, IsJudgedTurn, Turn, is_judged, phase_before, turn_of}
use Rattle.xt_uses.specs.declared.discipline.Discipline.{Discipline}
use Rattle.xt_uses.specs.Words.{all_bits, complement}
use Rattle.xt_uses.specs.UseState.{UseState, opening_use, whole_masks}
use Rattle.xt_uses.specs.UseStep.{reply_mask, unknown_bits}
use Rattle.xt_uses.specs.UseBreaches.{use_breach}
use Rattle.xt_uses.specs.FirstUse.{History, IsFirstUse, IsHistory, IsIdle, Shows, handler_use, live_at, use_at}
use Rattle.xt_uses.specs.UseLaws.{AccessFits, IsCutAt, IsOrdinary, KindFits, KindsAgree, RepliesAgree, RowsAgree, WriteFits, WritesAgree}
use Rattle.xt_uses.proofs.Agreeing.{moved_agrees}
use Rattle.xt_uses.proofs.Bits.{flipped_word}
use Rattle.xt_uses.proofs.Constant.{discipline_is}
use Rattle.xt_uses.proofs.CutLists.{cut_at, cut_value}
use Rattle.xt_uses.proofs.CutRuns.{cut_before, cut_opens}
use Rattle.xt_uses.proofs.CutStates.{IsCut}
use Rattle.xt_uses.proofs.CutWords.{IsShapedFrame, frame_shaped, inputs_words}
use Rattle.xt_uses.proofs.LaterHistories.{judged_or_idle}
use Rattle.xt_uses.proofs.Moves.{extended_moves}
use Rattle.xt_uses.proofs.RowsAll.{all_agree}
use Rattle.xt_uses.proofs.WholeIdle.{opening_at}
use Rattle.xt_simulation.specs.Knowing.{Knows}
use Rattle.xt_simulation.proofs.MaskStep.{step_small, unknown_small}
use Rattle.xt_simulation.proofs.MaskWords.{MaskWords, opening_small}
use Rattle.xt_simulation.proofs.Specials.{partial_lost}
use Rattle.xt_simulation.specs.Fillings.{Filling, filled_at, filled_before, filled_past, step_with}
use Rattle.xt_simulation.specs.FillingLaws.{AsksSame, RecordsAreFollowed, StepsSame, UnknownDecidesNothing}
use Rattle.xt_simulation.proofs.Numbered.{HasPointer, Held}
use Rattle.xt_simulation.proofs.FilledSteps.{Beside, place_same, sends_same, step_beside, step_same}

-- ---- the mask of a reply is a word
pub sized_small : (kb : ℕ → ℕ) (o : Option Access) → ((a : Access) → o ≡ Some a → a.size ≤ 4) → reply_mask kb o < 2 ^ 32
sized_small kb None sizes = omega arith
sized_small kb (Some a) sizes = by_region (is_memory (region_of a.addr) && not (is_store a.kind))
  where
    by_region : (t : Bool) → cond t (complement (unknown_bits kb a.addr a.size)) all_bits < 2 ^ 32
    by_region true = flipped_word (unknown_bits kb a.addr a.size) (unknown_small kb a.addr a.size (sizes a refl))
    by_region false = omega arith

-- ---- the opening
wide_seen : (stack_end : ℕ) → length (opening_seen stack_end) ≡ 16
unfolding opening_seen
wide_seen stack_end = refl

pub opens_pointer : (stack_end : ℕ) → HasPointer (opening_seen stack_end)
unfolding opening_seen
opens_pointer stack_end = refl

pub opens_beside : (d : Discipline) (core pc vecbase stack_end : ℕ) → IsCut (opening_frame core pc vecbase stack_end) (whole_masks d) → IsShapedFrame (opening_frame core pc vecbase stack_end) → Knows (opening_frame core pc vecbase stack_end) (opening_use d (opening_frame core pc vecbase stack_end))
opens_beside d core pc vecbase stack_end c k = record {
  seen = record {
    size = wide_seen stack_end;
    wide = wide_seen stack_end;
    spread = length-replicate 16 all_bits;
    fits = λ i. cut_value (opening_seen stack_end) (replicate 16 all_bits) c.seen_cut i;
    lacks = λ i e. let z : IsCutAt None (get_or (replicate 16 all_bits) i 0) = subst (λ o. IsCutAt o (get_or (replicate 16 all_bits) i 0)) e (cut_at (opening_seen stack_end) (replicate 16 all_bits) c.seen_cut i) in z;
  };
  sp = refl;
  frames = tt;
  control = record {
    even = record { pc = refl; ps = refl; threadptr = refl; waits = refl; special = record { size = refl; only = partial_lost; at = λ n known. refl } };
    pointer = c.pointer;
    spread = c.count;
    words = λ n h. k.control.words n;
    fits = c.special_cut;
    saved = λ n h. refl;
  };
  unset = record { size = c.holes; wide = c.holes; equal = λ n h. refl; lacks = c.lost };
  nested = tt;
}

-- ---- the machine over a filling
module _ (d : Discipline) (r : Course) (h : History) (n : Filling) where
  filled_steps : (p core : ℕ) (rec : StepRecord) → IsJudgedTurn r p core rec → filled_before d r h n core (suc p) ≡ (filled_at d r h n p core rec).after
  filled_steps p core rec j =
      let f = filled_before d r h n core p in
      let on : ((core == core) && is_judged (phase_before r core p) rec.kind) ≡ true = and_from (core == core) (is_judged (phase_before r core p) rec.kind) (eq-eqb core core refl) j.judged in
      ap (λ o. filled_past d r h n p core o f) j.turn ∙ cond-true ((core == core) && is_judged (phase_before r core p) rec.kind) (step_with d r h n p core rec f).after f on

  filled_stays : (p core : ℕ) → IsIdle r core p → filled_before d r h n core (suc p) ≡ filled_before d r h n core p
  filled_stays p core idle = by (slice_get r.turns p) refl
    where
      by : (o : Option Turn) → slice_get r.turns p ≡ o → filled_past d r h n p core o (filled_before d r h n core p) ≡ filled_before d r h n core p
      by None e = refl
      by (Some t) e = ⊎_elim
          (λ on.
          let parts = and_parts (t.core == core) (is_judged (phase_before r core p) t.rec.kind) on in
          absurd (idle t.rec (record { turn = e ∙ ap (λ c. Some (turn_of c t.rec)) (eqb-true t.core core parts.0); judged = parts.1 })))
          (λ off. cond-false ((t.core == core) && is_judged (phase_before r core p) t.rec.kind) (step_with d r h n p core t.rec (filled_before d r h n core p)).after (filled_before d r h n core p) off)
          (cases_Bool ((t.core == core) && is_judged (phase_before r core p) t.rec.kind))

-- ---- before each turn
module _ (rows : RowsAgree) (replies : RepliesAgree) (d : Discipline) (r : Course) (h : History) (n : Filling) (q : ℕ) (found : Option Breach) (ordinary : IsOrdinary r) (is : IsHistory d r h) (first : IsFirstUse r h q found) where
  pub record Stands (core p : ℕ) : Type 0 where
    pub beside : Beside (filled_before d r h n core p) (h.state core p)
    pub masks : MaskWords (h.state core p).masks

  opens : (core : ℕ) → Stands core 0
  opens core =
      let o = ordinary.opens core in
      let shaped : IsShapedFrame (r.opening core) = subst (λ f. IsShapedFrame f) (opening_at r core) (frame_shaped r ordinary core 0) in
      let knows : Knows (r.opening core) (opening_use d (r.opening core)) = subst (λ f. Knows f (opening_use d f)) (sym o.opens) (opens_beside d o.core o.pc o.vecbase o.stack_end (cut_opens o.core o.pc o.vecbase o.stack_end o.stack_word d) (subst (λ f. IsShapedFrame f) o.opens shaped)) in
      record {
        beside = record {
          knows = subst (λ s. Knows (r.opening core) s) (sym (is.opens core)) knows;
          shaped = shaped;
          held = subst (λ (f : FrameState). Held f) (sym o.opens) (record { framed = tt; pointer = opens_pointer o.stack_end; kept = tt });
        };
        masks = subst (λ (s : UseState). MaskWords s.masks) (sym (is.opens core)) (opening_small d);
      }

  module _ (p core : ℕ) (rec : StepRecord) (low : p < q) (j : IsJudgedTurn r p core rec) (k : Stands core p) where
    shows : Shows r h p core rec None
    shows = first.before p core rec low j.turn

    abbrev nested : Bool
    nested = is_nested (phase_before r core p)

    none : use_breach (r.bounds core) (not shows.lost) r.code (live_at r h p) (h.mask p) nested rec (h.state core p) ≡ None
    none =
        let breach : Option BreachKind = use_breach (r.bounds core) (not shows.lost) r.code (live_at r h p) (h.mask p) nested rec (h.state core p) in
        sym (cond-true (is_judged (phase_before r core p) rec.kind) breach (handler_use r.code (phase_before r core p) rec (h.state core p)) j.judged) ∙ shows.shown

    small : reply_mask (h.mask p) rec.access < 2 ^ 32
    small = sized_small (h.mask p) rec.access (λ a e. ordinary.sizes p core rec a j.turn e)

    is_cut : IsCut (h.state core p).frame (h.state core p).masks
    is_cut = cut_before r h ordinary.opens d is p (λ i c z l t. first.before i c z (omega (arith, l, low)) t) core

    pub here : StepsSame d r h n p core rec
    here = record {
      place = place_same k.beside.knows nested rec;
      does = step_same rows replies r.code ordinary.code (r.bounds core) (not shows.lost) (live_at r h p) (h.mask p) rec (inputs_words rec (ordinary.inputs p core rec j.turn)) small (n p) (h.state core p) k.masks is_cut k.beside d (discipline_is d r h is p core) nested none;
    }

    after : Stands core (suc p)
    after = record {
      beside =
          subst (λ f. Beside f (h.state core (suc p))) (sym (filled_steps d r h n p core rec j))
          (subst (λ s. Beside (filled_at d r h n p core rec).after s) (sym (is.steps p core rec j))
          (step_beside rows replies r.code ordinary.code (r.bounds core) (not shows.lost) (live_at r h p) (h.mask p) rec (inputs_words rec (ordinary.inputs p core rec j.turn)) small (n p) (h.state core p) k.masks is_cut k.beside d (discipline_is d r h is p core) nested none));
      masks = subst (λ (s : UseState). MaskWords s.masks) (sym (is.steps p core rec j)) (step_small r.code ordinary.code nested rec (h.mask p) (h.state core p) small k.masks);
    }

  stands : (p core : ℕ) → p ≤ q → Stands core p
  stands zero core low = opens core
  stands (suc p) core low =
      let k = stands p core (omega (arith, low)) in
      ⊎_elim
      (λ j. after p core j.0 (omega (arith, low)) j.1 k)
      (λ idle. record {
        beside = subst (λ f. Beside f (h.state core (suc p))) (sym (filled_stays d r h n p core idle)) (subst (λ s. Beside (filled_before d r h n core p) s) (sym (is.stays p core idle)) k.beside);
        masks = subst (λ (s : UseState). MaskWords s.masks) (sym (is.stays p core idle)) k.masks;
      })
      (judged_or_idle r p core)

  pub steps_same : (p core : ℕ) (rec : StepRecord) → p < q → IsJudgedTurn r p core rec → StepsSame d r h n p core rec
  steps_same p core rec low j = here p core rec low j (stands p core (omega (arith, low)))

-- ---- beside the records
writes_meet : (m : ℕ) (a b c : Option RegWrite) → WriteFits m a c → WriteFits m b c → WritesAgree m a b
writes_meet m None None None h k = tt
writes_meet m (Some a) (Some b) (Some c) h k = (h.0 ∙ sym k.0, h.1 ∙ sym k.1)
writes_meet m None (Some b) None h k = absurd k
writes_meet m (Some a) b None h k = absurd h
writes_meet m None b (Some c) h k = absurd h
writes_meet m (Some a) None (Some c) h k = absurd k

kinds_meet : (m : ℕ) (a b c : Kind) → KindFits m a c → KindFits m b c → KindsAgree m a b
kinds_meet m (Store v) (Store w) (Store z) h k = h ∙ sym k
kinds_meet m Load Load c h k = refl
kinds_meet m (Cas e z) (Cas g y) c h k = h ∙ sym k
kinds_meet m (Store v) Load (Store z) h k = absurd cc
kinds_meet m (Store v) (Cas e y) (Store z) h k = absurd cc
kinds_meet m (Store v) b Load h k = absurd cc
kinds_meet m (Store v) b (Cas e y) h k = absurd cc
kinds_meet m Load (Store w) Load h k = absurd cc
kinds_meet m Load (Store w) (Store z) h k = absurd cc
kinds_meet m Load (Store w) (Cas e y) h k = absurd cc
kinds_meet m Load (Cas e z) c h k = h ∙ sym k
kinds_meet m (Cas e z) Load c h k = h ∙ sym k
kinds_meet m (Cas e z) (Store w) Load h k = absurd cc
kinds_meet m (Cas e z) (Store w) (Store x) h k = absurd cc
kinds_meet m (Cas e z) (Store w) (Cas g y) h k = absurd cc

asks_meet : (m : ℕ) (a b c : Option Access) → AccessFits m a c → AccessFits m b c → AsksSame m a b
asks_meet m None None None h k = tt
asks_meet m (Some a) (Some b) (Some c) h k = (h.0 ∙ sym k.0, h.1 ∙ sym k.1, kinds_meet m a.kind b.kind c.kind h.2 k.2)
asks_meet m None (Some b) None h k = absurd k
asks_meet m (Some a) b None h k = absurd h
asks_meet m None b (Some c) h k = absurd h
asks_meet m (Some a) None (Some c) h k = absurd k

pub replies_hold : RepliesAgree
replies_hold signed reply n m a b d h = moved_agrees (λ k. loaded_value signed k) reply n m a b d h (extended_moves signed)

pub unknown_decides : UnknownDecidesNothing
unknown_decides d r h n q found ordinary is first p core rec low j = steps_same all_agree replies_hold d r h n q found ordinary is first p core rec low j

pub records_followed : RecordsAreFollowed
records_followed d r opening h n q found ordinary run is first p core rec low j =
    let s = unknown_decides d r h n q found ordinary is first p core rec low j in
    let f = run d h q found is first p core rec low j in
    let t = use_at r h p core rec in
    let u : FrameTurn = filled_at d r h n p core rec in
    let asks : AsksSame t.stored rec.access u.access = asks_meet t.stored rec.access u.access t.turn.access f.access s.does.access in
    record {
      place = f.place ∙ sym s.place;
      kind = f.kind ∙ sym s.does.kind;
      write = writes_meet t.mask rec.write u.write t.turn.write f.write s.does.write;
      access = asks;
      sent = sends_same t.stored rec.access u.access asks f.sent;
    }
