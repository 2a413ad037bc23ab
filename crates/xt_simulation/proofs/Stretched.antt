-- A whole stretch of handler steps keeps the relation.
use Rattle.std.proofs.Common.{◌≡◌, ℕ, ◌+◌, ◌-◌, ◌*◌, ◌%◌, ◌≤◌, Bool, true, false, List, [], ◌∷◌, ◌++◌, ◌∙◌, refl, arith, ⊎_elim, get_or, append_assoc}
use Rattle.std.proofs.Math.ListN.{set}
use Rattle.std.proofs.lemmas.Bool.{cases_lt}
use Rattle.std.proofs.lemmas.List.{get_or-set_same, get_or-set_other, length-set}
use Rattle.xt_special.proofs.Kept.{ticked_other, ticked_length}
use Rattle.xt_exec.specs.State.{State}
use Rattle.xt_frames.specs.Frames.{Frame, windows_moved, FrameState, value_or_zero}
use Rattle.xt_frames.specs.SaveAreas.{sp_of, before}
use Rattle.xt_simulation.specs.Cores.{word, Related}
use Rattle.xt_simulation.specs.Ring.{InRing}
use Rattle.xt_simulation.specs.InHandlers.{Holds}
use Rattle.xt_frames.specs.Stacks.{AreFrames}
use Rattle.xt_frames.specs.Stacks.{Chain, IsRange}
use Rattle.xt_simulation.specs.Stacks.{Saved, sp_under}
use Rattle.xt_handlers.specs.Joined.{Finds}
use Rattle.xt_simulation.specs.Stretches.{OverflowsFindFrames, UnderflowsFindFrames, OverflowsKeepRelated, UnderflowsKeepRelated, StretchesBegin, StretchesGoOn, StretchesEnd}
use Rattle.xt_special.specs.declared.ps.Ps.{Ps}
use Rattle.xt_window.specs.Ring.{place, visible}
use Rattle.xt_frames.specs.Breaches.{Bounds}
use Rattle.xt_simulation.proofs.RingLemmas.{some_within}
use Rattle.xt_simulation.proofs.Closed.{spills, fills, moved_end, in_ring_end}
use Rattle.xt_frames.proofs.Stacked.{chain_top}
use Rattle.xt_simulation.proofs.Stacked.{links_are_saved, spills_are_saved}
use Rattle.xt_simulation.proofs.Chains.{chain_end, frames_after}

-- ---- stack pointers in the ring
-- the frame that the last of these callers called has its stack pointer in its window's a1
callee_sp : (regs : List ℕ) (lo hi sp : ℕ) (ring spilled : List Frame) (low : ℕ) → get_or regs (place (windows_moved ring + low) 1) 0 ≡ sp → Chain lo hi sp (ring ++ spilled) → InRing regs ring low → get_or regs (place low 1) 0 ≡ sp_under sp ring
callee_sp regs lo hi sp [] spilled low at c h = let e : 0 + low ≡ low = omega arith in rw e at at
callee_sp regs lo hi sp (f ∷ fs) spilled low at c h = callee_sp regs lo hi (sp_of f) fs spilled low (h.0 1 (sp_of f) c.0.kept) c.1 h.1

under_end : (sp : ℕ) (ring : List Frame) (g : Frame) → sp_under sp (ring ++ g ∷ []) ≡ sp_of g
under_end sp [] g = refl
under_end sp (f ∷ fs) g = under_end (sp_of f) fs g

-- what stands where an overflow begins
pub record Oldest (old : ℕ → ℕ) (b : Bounds) (s : State) (f : FrameState) (ring : List Frame) (g : Frame) (spilled : List Frame) : Type 0 where
  pub these : AreFrames (g ∷ spilled)
  pub whole : f.frames ≡ ring ++ g ∷ spilled
  pub chain : Chain b.range.lo b.range.hi (sp_under (value_or_zero f.seen 1) ring) (g ∷ spilled)
  pub holds : Holds s.regs g.kept (windows_moved spilled)
  pub callee : visible s.regs (windows_moved spilled) (4 * g.by + 1) ≡ sp_under (value_or_zero f.seen 1) ring
  pub own : visible s.regs (windows_moved spilled) 1 ≡ sp_of g
  pub saved : Saved (word old) b.range.hi (sp_of g) spilled
  pub top : word old (visible s.regs (windows_moved spilled) 1 - 12) ≡ before b.range.hi spilled

pub oldest : {lost : ℕ → Bool} {s : State} (b : Bounds) (f : FrameState) (ring : List Frame) (g : Frame) (spilled : List Frame) (old : ℕ → ℕ) → Related old b lost s f (ring ++ g ∷ []) spilled → Oldest old b s f ring g spilled
oldest {s = s} b f ring g spilled old l =
    let low = windows_moved spilled in
    let w = l.plain.windows in
    let k = l.stack in
    let whole : f.frames ≡ ring ++ g ∷ spilled = l.plain.frames ∙ append_assoc ring (g ∷ []) spilled in
    let chain : Chain b.range.lo b.range.hi (value_or_zero f.seen 1) (ring ++ g ∷ spilled) = rw whole at k.chain in
    let shape : AreFrames (ring ++ g ∷ spilled) = rw whole at k.shaped in
    let last = chain_end b.range.lo b.range.hi (value_or_zero f.seen 1) ring (g ∷ spilled) chain in
    let halves = in_ring_end s.regs ring g low w.kept in
    let own : visible s.regs low 1 ≡ sp_of g = halves.1 1 (sp_of g) last.0.kept in
    let newest = w.visible 1 (value_or_zero f.seen 1) k.sp in
    let higher : windows_moved (ring ++ g ∷ []) + low ≡ windows_moved ring + (g.by + low) = (let m = moved_end ring g in omega arith) in
    let callee0 = callee_sp s.regs b.range.lo b.range.hi (value_or_zero f.seen 1) ring (g ∷ spilled) (g.by + low) (rw higher at newest) chain halves.0 in
    let same_place : place (g.by + low) 1 ≡ place low (4 * g.by + 1) = omega arith in
    let saved : Saved (word old) b.range.hi (sp_of g) spilled = rw (under_end (value_or_zero f.seen 1) ring g) at l.saved in
    record {
      these = frames_after ring (g ∷ spilled) shape;
      whole = whole;
      chain = last;
      holds = halves.1;
      callee = rw same_place at callee0;
      own = own;
      saved = saved;
      top = rw own (links_are_saved (word old) b.range.lo b.range.hi (sp_of g) spilled k.range last.1 saved);
    }

chain_aligned : (lo hi sp : ℕ) (frames : List Frame) → IsRange lo hi → Chain lo hi sp frames → sp % 16 ≡ 0
chain_aligned lo hi sp [] r c = let h = r.high in let a = r.room in omega arith
chain_aligned lo hi sp (f ∷ fs) r c = c.0.aligned

before_aligned : (lo hi sp : ℕ) (frames : List Frame) → IsRange lo hi → Chain lo hi sp frames → (before hi frames % 16 ≡ 0) × (before hi frames ≤ hi)
before_aligned lo hi sp [] r c = (r.high, omega arith)
before_aligned lo hi sp (f ∷ fs) r c = (chain_aligned lo hi (sp_of f) fs r c.1, (chain_top lo hi (sp_of f) fs r c.1).0)

finds : (lo hi callee own top : ℕ) (g : Frame) (rest : List Frame) (sp : ℕ) → IsRange lo hi → Chain lo hi sp (g ∷ rest) → callee ≡ sp → own ≡ sp_of g → top ≡ before hi rest → Finds lo hi g.by callee own top
finds lo hi callee own top g rest sp r c e f h =
    let b = before_aligned lo hi (sp_of g) rest r c.1 in
    let low = c.0.low in
    let a = c.0.aligned in
    let under = c.0.under in
    let large = c.0.large in
    record {
      low = omega arith;
      callee_aligned = rw e a;
      under = omega arith;
      own_aligned = rw f (chain_aligned lo hi (sp_of g) rest r c.1);
      large = omega arith;
      top_aligned = rw h b.0;
      high = rw h b.1;
    }

pub overflows_find_frames : OverflowsFindFrames
overflows_find_frames b lost s f ring g spilled m l =
    let o = oldest b f ring g spilled m l in
    finds b.range.lo b.range.hi _ _ _ g spilled (sp_under (value_or_zero f.seen 1) ring) l.stack.range o.chain o.callee o.own o.top

pub overflows_keep_related : OverflowsKeepRelated
overflows_keep_related b lost s t f ring g spilled old new l c start st =
    let o = oldest b f ring g spilled old l in
    let callee = o.callee in
    let top = o.top in
    let keeps = o.these.0.keeps in
    record {
      plain = spills b.vecbase lost s t f ring g spilled l.plain c start;
      stack = l.stack;
      saved = spills_are_saved (word old) (word new) b.range.lo b.range.hi (sp_under (value_or_zero f.seen 1) ring) g spilled l.stack.range o.these o.chain o.saved
          (λ i v small e. rw callee at (st.low i small) ∙ o.holds i v e)
          (λ i v big e. let n = some_within g.kept i v e in rw top at (st.high i big (omega arith)) ∙ o.holds i v e)
          (λ a h. st.others a (rw (callee, top) h));
    }

-- what stands where an underflow begins
pub record Newest (m : ℕ → ℕ) (b : Bounds) (s : State) (f : FrameState) (g : Frame) (rest : List Frame) : Type 0 where
  pub chain : Chain b.range.lo b.range.hi (value_or_zero f.seen 1) (g ∷ rest)
  pub callee : visible s.regs (windows_moved rest) (4 * g.by + 1) ≡ value_or_zero f.seen 1
  pub own : word m (value_or_zero f.seen 1 - 12) ≡ sp_of g
  pub top : word m (sp_of g - 12) ≡ before b.range.hi rest

pub newest_of : {lost : ℕ → Bool} {s : State} (b : Bounds) (f : FrameState) (g : Frame) (rest : List Frame) (m : ℕ → ℕ) → Related m b lost s f [] (g ∷ rest) → Newest m b s f g rest
newest_of b f g rest m l =
    let low = windows_moved rest in
    let k = l.stack in
    let chain : Chain b.range.lo b.range.hi (value_or_zero f.seen 1) (g ∷ rest) = rw l.plain.frames at k.chain in
    let newest = l.plain.windows.visible 1 (value_or_zero f.seen 1) k.sp in
    let same_place : place (0 + (g.by + low)) 1 ≡ place low (4 * g.by + 1) = omega arith in
    let saved = l.saved in
    record {
      chain = chain;
      callee = rw same_place at newest;
      own = links_are_saved (word m) b.range.lo b.range.hi (value_or_zero f.seen 1) (g ∷ rest) k.range chain saved;
      top = links_are_saved (word m) b.range.lo b.range.hi (sp_of g) rest k.range chain.1 saved.2;
    }

pub underflows_find_frames : UnderflowsFindFrames
underflows_find_frames b lost s f g rest m l =
    let n = newest_of b f g rest m l in
    finds b.range.lo b.range.hi _ _ _ g rest (value_or_zero f.seen 1) l.stack.range n.chain n.callee (rw n.callee n.own) (rw (n.callee, n.own) n.top)

pub underflows_keep_related : UnderflowsKeepRelated
underflows_keep_related b lost s t f g rest m l c start ld =
    let low = windows_moved rest in
    let n = newest_of b f g rest m l in
    let callee = n.callee in
    let link = n.own in
    let link2 = n.top in
    let saved = l.saved in
    let keeps = l.plain.older.0.keeps in
    let back : Holds t.regs g.kept low = λ i v e. ⊎_elim
    (λ small. rw callee at (ld.low i small) ∙ saved.0 i v small e)
    (λ big. let n = some_within g.kept i v e in rw (callee, link, link2) at (ld.high i big (omega arith)) ∙ saved.1 i v big e)
    (cases_lt i 4) in
    record {
      plain = fills b.vecbase lost s t f g rest l.plain c back start;
      stack = l.stack;
      saved = saved.2;
    }

-- ---- PC, PS and the special registers
pub stretches_begin : StretchesBegin
stretches_begin c base vector long = record {
  ps = refl;
  epc1 = ticked_other (set c.special 177 c.pc) 177 (λ e. omega arith) (λ e. omega arith) ∙ get_or-set_same c.special 177 c.pc 0 long;
  threadptr = refl;
  waits = refl;
  size = ticked_length (set c.special 177 c.pc) ∙ length-set c.special 177 c.pc;
  special = λ k not_epc not_int not_count. ticked_other (set c.special 177 c.pc) k not_int not_count ∙ get_or-set_other c.special 177 k c.pc 0 not_epc;
}

pub stretches_go_on : StretchesGoOn
stretches_go_on old now base pc h = record {
  ps = h.ps;
  epc1 = ticked_other now.special 177 (λ e. omega arith) (λ e. omega arith) ∙ h.epc1;
  threadptr = h.threadptr;
  waits = h.waits;
  size = ticked_length now.special ∙ h.size;
  special = λ k not_epc not_int not_count. ticked_other now.special k not_int not_count ∙ h.special k not_epc not_int not_count;
}

low_excm : (p q : Ps) (base : ℕ) → p.excm ≡ false → q ≡ record p { owb = base; excm = true } → (let z : Ps = record q { excm = false } in z) ≡ record p { owb = q.owb }
low_excm p q base low e = rw (e, low) refl

pub stretches_end : StretchesEnd
stretches_end old now base low h = record {
  pc = h.epc1;
  ps = low_excm old.ps now.ps base low h.ps;
  threadptr = h.threadptr;
  waits = h.waits;
  size = ticked_length now.special ∙ h.size;
  special = λ k not_epc not_int not_count. ticked_other now.special k not_int not_count ∙ h.special k not_epc not_int not_count;
}
