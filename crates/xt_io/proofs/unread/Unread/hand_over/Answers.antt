use Rattle.std.proofs.Common.{◌≡◌, ◌≤◌, ◌+◌, ◌++◌, ◌∙◌, ℕ, List, length, take, drop, sym, ap, subst, arith, take-append-drop, length-take, length-take-le, length-drop}
use Rattle.std.proofs.lemmas.List.{drop-drop, take_rest}
use Rattle.std.proofs.Math.Seq.{take-append_seam}
use Rattle.xt_io.proofs.unread.Unread.hand_over.Goals as goal

-- the first n of what is left were copied to the front of a buffer
front_moved : (bytes copied past : List ℕ) (at n : ℕ) → copied ≡ take n (drop at bytes) → n ≤ length (drop at bytes)
    → drop at bytes ≡ take n (copied ++ past) ++ drop (at + n) bytes
front_moved bytes copied past at n same within =
    let rest = drop at bytes in
    let len : length copied ≡ n = ap length same ∙ length-take-le n rest within in
    let front : take n (copied ++ past) ≡ copied = subst (λ (k : ℕ). take k (copied ++ past) ≡ copied) len (take-append_seam copied past) in
    sym (ap (λ l. l ++ drop (at + n) bytes) (front ∙ same) ∙ ap (λ l. take n rest ++ l) (sym (drop-drop n at bytes)) ∙ take-append-drop n rest)

pub returns-clause-front : goal.returns-clause-front
returns-clause-front c =
    let bytes = c.args.self.now.bytes.items in
    let at = c.args.self.now.at in
    let n = c.min-count.result in
    let list : c.deref.result.now ≡ bytes = c.deref.ensures.value in
    let same : c.copy_from_slice.new.self ≡ take n (drop at bytes) = grind (arith, take_rest, c.copy_from_slice.ensures.after, list) in
    let within : n ≤ length (drop at bytes) = omega (arith, ap length list, length-take {A = ℕ}, length-drop {A = ℕ}) in
    front_moved bytes c.copy_from_slice.new.self (drop n c.args.buf.now) at n same within
