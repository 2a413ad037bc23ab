-- The callers of a core, which lie on its stack and have room.
use Rattle.std.proofs.Common.{◌≡◌, ℕ, ◌+◌, ◌-◌, ◌/◌, ◌<◌, ◌≤◌, Option, Some, None, List, [], ◌++◌, sym, ◌∙◌, ap, arith, length, subst}
use Rattle.xt_frames.specs.declared.view.Caller.{Caller}
use Rattle.xt_frames.specs.Frames.{value_or_zero, opening_seen}
use Rattle.std.specs.Prelude.{option_to_list, MatchOption}
use Rattle.std.proofs.lemmas.List.{length-append}
use Rattle.xt_frames.specs.KeptFrameState.{AreKept, Upper, frames_of, without_newest}
use Rattle.xt_frames.specs.Stacks.{IsRange, Stack}
use Rattle.xt_frames.proofs.Newest.{frames_length, frames_none, frames_snoc}
use Rattle.xt_frames.proofs.Stacked.{chain_depth, chain_top, opening_stack}

pub kept_open : (lo hi : ℕ) (v : Upper) (cs : List Caller) (capacity : ℕ) → IsRange lo hi → v.seen ≡ opening_seen hi → cs ≡ [] → (hi - lo) / 16 + 2 ≤ capacity → AreKept lo hi v cs capacity
kept_open lo hi v cs capacity r s e room = record {
  stack = subst (λ seen. Stack lo hi seen (frames_of cs)) (sym s) (subst (λ fs. Stack lo hi (opening_seen hi) fs) (sym (frames_none cs (ap length e))) (opening_stack lo hi r));
  room = room;
}

pub kept_room : (lo hi : ℕ) (v : Upper) (cs : List Caller) (capacity : ℕ) → AreKept lo hi v cs capacity → length cs < capacity
kept_room lo hi v cs capacity k =
    let s = k.stack in
    let top = (chain_top lo hi (value_or_zero v.seen 1) (frames_of cs) s.range s.chain).1 in
    let deep = chain_depth lo hi (value_or_zero v.seen 1) (frames_of cs) s.chain in
    let l = frames_length cs in
    let room = k.room in
    omega (arith, top, deep, l, room)

-- ---- a caller more, or one less
pub frames_popped : (old new : List Caller) (r : Option Caller) (n m : ℕ) → old ≡ new ++ option_to_list r → MatchOption r ((n ≡ 0) × (m ≡ 0)) (λ _. m + 1 ≡ n) → n ≡ length old → frames_of new ≡ without_newest (frames_of old)
frames_popped old new (Some x) n m e h l = sym (ap without_newest (ap frames_of e ∙ frames_snoc new x))
frames_popped old new None n m e h l =
    let z = h.0 in
    let none : length old ≡ 0 = omega (arith, z, l) in
    let some : length old ≡ length new + 0 = ap length e ∙ length-append new [] in
    frames_none new (omega (arith, none, some)) ∙ sym (ap without_newest (frames_none old none))
