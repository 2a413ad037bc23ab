-- The chain of stack pointers is kept by calls and returns, and its save areas share no byte.
use Rattle.std.proofs.Common.{◌≡◌, ℕ, ◌+◌, ◌-◌, ◌*◌, ◌^◌, ◌<◌, ◌≤◌, ltb, List, [], ◌∷◌, Option, Some, None, refl, ap, ◌∙◌, arith, length, get_or, take, drop, replicate}
use Rattle.std.proofs.Math.ListN.{set}
use Rattle.std.proofs.lemmas.Bool.{eqb-true, or_parts, ltb-false}
use Rattle.std.proofs.lemmas.List.{get_or-set_same, length-set, length-append, length-take, length-drop, length-replicate, get_or-take, get_or_append_left}
use Rattle.xt_frames.specs.Frames.{Frame, seen_after_call, seen_after_return, value_or_zero, opening_seen}
use Rattle.xt_frames.specs.SaveAreas.{sp_of, before, Area, areas}
use Rattle.xt_rows.specs.Numbers.{minus}
use Rattle.xt_frames.specs.Stacks.{AreFrames, Chain, Stack, IsRange, EntersStack, LeavesStack, Rise, AreasRise}
use Rattle.std.specs.Prelude.{unwrap_or}

abbrev no_value : Option ℕ
no_value = None

pub known_is : (seen : List (Option ℕ)) (i v : ℕ) → get_or seen i None ≡ Some v → value_or_zero seen i ≡ v
known_is seen i v e = ap (λ o. unwrap_or o 0) e

-- the stack pointer after ENTRY does not wrap
lower_sp : (lo hi sp size : ℕ) → hi ≤ 2 ^ 30 → sp ≤ hi → size < 2 ^ 16 → lo + 16 ≤ minus sp size → minus sp size ≤ hi → minus sp size + size ≡ sp
unfolding minus
lower_sp lo hi sp size top at small low high = omega arith

pub chain_top : (lo hi sp : ℕ) (frames : List Frame) → IsRange lo hi → Chain lo hi sp frames → (sp ≤ hi) × (lo + 16 ≤ sp) × (sp + 16 ≤ before hi frames)
chain_top lo hi sp [] r c = let a = r.room in (omega arith, omega arith, omega arith)
chain_top lo hi sp (f ∷ fs) r c = let t = chain_top lo hi (sp_of f) fs r c.1 in let l = c.0 in (omega arith, l.low, l.under)

pub enters_stack : EntersStack
enters_stack lo hi seen frames n size k pos small_n small_size frame range align =
    let wide = k.wide in
    let d = length-drop (4 * n) seen in
    let r = length-replicate (4 * n) no_value in
    let a = length-append (drop (4 * n) seen) (replicate (4 * n) no_value) in
    let t = length-take (4 * n) seen in
    let len : length (seen_after_call seen n) ≡ 16 = omega arith in
    let sp1 = get_or-set_same (seen_after_call seen n) 1 (Some (minus (value_or_zero seen 1) size)) None (omega arith) in
    let at = known_is (set (seen_after_call seen n) 1 (Some (minus (value_or_zero seen 1) size))) 1 (minus (value_or_zero seen 1) size) sp1 in
    let top = chain_top lo hi (value_or_zero seen 1) frames k.range k.chain in
    let f1 = or_parts (ltb size 16) (ltb (before hi frames) (value_or_zero seen 1 + 16 * n)) frame in
    let f2 = or_parts (ltb (minus (value_or_zero seen 1) size) (lo + 16)) (ltb hi (minus (value_or_zero seen 1) size)) range in
    let b1 = ltb-false _ _ f1.0 in
    let b2 = ltb-false _ _ f1.1 in
    let b3 = ltb-false _ _ f2.0 in
    let b4 = ltb-false _ _ f2.1 in
    let down = lower_sp lo hi (value_or_zero seen 1) size k.range.top top.0 small_size b3 b4 in
    let old : get_or (take (4 * n) seen) 1 None ≡ Some (value_or_zero seen 1) = get_or-take (4 * n) seen 1 None (omega arith) ∙ k.sp in
    let old_sp = known_is (take (4 * n) seen) 1 (value_or_zero seen 1) old in
    record {
      range = k.range;
      wide = length-set (seen_after_call seen n) 1 (Some (minus (value_or_zero seen 1) size)) ∙ len;
      shaped = (record { moves = pos; within = small_n; keeps = (let q : length (take (4 * n) seen) ≡ 4 * n = omega arith in q) }, k.shaped);
      sp = rw at sp1;
      chain = rw (at, old_sp) (record { aligned = eqb-true _ _ align; low = b3; under = omega arith; large = rw old_sp b2; kept = rw old_sp old }, k.chain);
    }

pub leaves_stack : LeavesStack
leaves_stack lo hi seen f frames k =
    let wide = k.wide in
    let shape = k.shaped.0 in
    let keeps = shape.keeps in
    let pos = shape.moves in
    let small = shape.within in
    let a = length-append f.kept (take (16 - 4 * f.by) seen) in
    let t = length-take (16 - 4 * f.by) seen in
    let len : length (seen_after_return f.kept seen f.by) ≡ 16 = omega arith in
    let sp1 : get_or (seen_after_return f.kept seen f.by) 1 None ≡ Some (sp_of f) = get_or_append_left f.kept (take (16 - 4 * f.by) seen) None 1 (omega arith) ∙ k.chain.0.kept in
    let at = known_is (seen_after_return f.kept seen f.by) 1 (sp_of f) sp1 in
    record {
      range = k.range;
      wide = len;
      shaped = k.shaped.1;
      sp = rw at sp1;
      chain = rw at k.chain.1;
    }

-- ---- areas
rise_from : (x y : ℕ) (more : List Area) → y ≤ x → Rise x more → Rise y more
rise_from x y [] le h = tt
rise_from x y (a ∷ more) le h = let b = h.0 in (omega arith, h.1)

pub rise_more : (lo hi sp n : ℕ) (frames : List Frame) → IsRange lo hi → AreFrames frames → Chain lo hi sp frames → 0 < n → n ≤ 3 → sp + 16 * n ≤ before hi frames → Rise (sp - 16) (areas hi sp n frames)
rise_more lo hi sp n [] r shaped c pos small room = let a = r.room in (omega arith, (omega arith, tt))
rise_more lo hi sp n (f ∷ fs) r shaped c pos small room =
    let l = c.0 in
    let low = l.low in
    let s = shaped.0 in
    let up = rise_more lo hi (sp_of f) f.by fs r shaped.1 c.1 s.moves s.within l.large in
    (omega arith, (omega arith, rise_from (sp_of f - 16) (sp_of f - 16 * n + 16 * (n - 1)) (areas hi (sp_of f) f.by fs) (omega arith) up))

pub areas_rise : AreasRise
areas_rise lo hi seen frames k =
    let t = chain_top lo hi (value_or_zero seen 1) frames k.range k.chain in
    rise_from (value_or_zero seen 1 - 16) lo (areas hi (value_or_zero seen 1) 1 frames) (omega arith) (rise_more lo hi (value_or_zero seen 1) 1 frames k.range k.shaped k.chain (omega arith) (omega arith) (omega arith))

-- ---- how many frames can stand, and the stack as it opens
pub chain_depth : (lo hi sp : ℕ) (frames : List Frame) → Chain lo hi sp frames → sp + 16 * length frames + 64 ≤ hi
chain_depth lo hi sp [] c = omega (arith, c)
chain_depth lo hi sp (f ∷ fs) c =
    let l = c.0 in
    let under = l.under in
    let more = chain_depth lo hi (sp_of f) fs c.1 in
    omega (arith, under, more)

pub opening_stack : (lo hi : ℕ) → IsRange lo hi → Stack lo hi (opening_seen hi) []
unfolding opening_seen
opening_stack lo hi r =
    let room = r.room in
    record { range = r; wide = refl; shaped = tt; sp = refl; chain = omega (arith, room) }
