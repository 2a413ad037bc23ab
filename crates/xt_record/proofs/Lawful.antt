-- Carries a proof; nothing that a reader must believe.
-- A run of an image breaks no rule of the turns.
use Rattle.std.proofs.Common.{◌≡◌, ℕ, zero, suc, ◌<◌, Bool, true, false, cond, Option, Some, None, List, [], ◌∷◌, ◌++◌, ◌&&◌, length, take, refl, sym, ap, ap₂, ◌∙◌, append_assoc, arith}
use Rattle.std.specs.Prelude.{option_map, not}
use Rattle.std.specs.Option.{option_map_or}
use Rattle.std.specs.List.{slice_get}
use Rattle.std.specs.Str.{bytes_eq}
use Rattle.std.proofs.Math.Dec.{eqb}
use Rattle.std.proofs.lemmas.Bool.{cond-true, eq-eqb}
use Rattle.std.proofs.lemmas.List.{length_push, take_at}
use Rattle.std.proofs.lemmas.Option.{slice_get_past}
use Rattle.std.proofs.lemmas.Slice.Eq.{bytes_eq-Decides}
use Rattle.xt_map.specs.declared.access.Access.{Access}
use Rattle.xt_map.specs.declared.access.Entry.{Entry}
use Rattle.xt_map.specs.declared.access.Kind.{Kind}
use Rattle.xt_map.specs.declared.access.Kind.TheVariants.{Load, Store, Cas}
use Rattle.xt_map.specs.History.{calls_of}
use Rattle.xt_trace.specs.declared.run.Run.{Run}
use Rattle.xt_trace.specs.Calls.{calls_in}
use Rattle.xt_image.specs.declared.image.Image.{Image}
use Rattle.xt_trace.specs.Schedule.{places_from}
use Rattle.xt_core.specs.Runs.{IsRunOf, records_of}
use Rattle.xt_record.specs.declared.fault.RecordFault.{RecordFault}
use Rattle.xt_record.specs.declared.fault.RecordFault.TheVariants as fault
use Rattle.xt_record.specs.Format.{run_with}
use Rattle.xt_image.specs.Findings.{fails, first, or_else}
use Rattle.xt_record.specs.Rules.{Finding}
use Rattle.xt_record.specs.Standing.{turn_rules}
use Rattle.xt_record.specs.TurnRules.{calls_before, entry_finding, first_difference, is_call, place_of, rest_finding, right_reply, same_access, same_kind, walk_finding}
use Rattle.xt_record.proofs.Again.{run_again}
use Rattle.xt_record.proofs.Prefix.{places_many}

-- ---- an entry is its core's next access

same_kind_refl : (k : Kind) → same_kind k k ≡ true
same_kind_refl Load = refl
same_kind_refl (Store v) = eq-eqb v v refl
same_kind_refl (Cas e n) = ap₂ (λ x y. x && y) (eq-eqb e e refl) (eq-eqb n n refl)

same_access_refl : (a : Access) → same_access a a ≡ true
same_access_refl a =
    ap₂ (λ x y. x && y) (eq-eqb a.addr a.addr refl)
    (ap₂ (λ x y. x && y) (eq-eqb a.size a.size refl) (same_kind_refl a.kind))

-- the call of an entry after the calls before it
call_at : (c : ℕ) (done : List Entry) (e : Entry) (es : List Entry) → e.core ≡ c
    → slice_get (calls_of c (done ++ e ∷ es)) (length (calls_of c done)) ≡ Some (e.access, e.reply)
call_at c [] e es is =
    let l = calls_of c es in
    ap (λ (b : Bool). slice_get (cond b ((e.access, e.reply) ∷ l) l) 0) (eq-eqb e.core c is)
call_at c (x ∷ done) e es is =
    let l = calls_of c (done ++ e ∷ es) in
    let m = calls_of c done in
    let h : slice_get l (length m) ≡ Some (e.access, e.reply) = call_at c done e es is in
    elim (eqb x.core c) as (λ b. slice_get (cond b ((x.access, x.reply) ∷ l) l) (length (cond b ((x.access, x.reply) ∷ m) m)) ≡ Some (e.access, e.reply))
    [ true ↦ h | false ↦ h ]

get_at : (done : List Entry) (e : Entry) (es : List Entry) → slice_get (done ++ e ∷ es) (length done) ≡ Some e
get_at [] e es = refl
get_at (x ∷ done) e es = get_at done e es

calls_are : (image : Image) (r : Run) (c : ℕ) → IsRunOf image r → c < 2 → calls_of c r.history ≡ calls_in (records_of c image r).records
calls_are image r zero h lt = h.calls0
calls_are image r (suc zero) h lt = h.calls1
calls_are image r (suc (suc c)) h lt = absurd (omega arith)

entry_none : (image : Image) (r : Run) (i : ℕ) (done : List Entry) (e : Entry) (es : List Entry) → IsRunOf image r → length done ≡ i → r.history ≡ done ++ e ∷ es
    → entry_finding image r i e ≡ None
entry_none image r i done e es h long split =
    let c = e.core in
    let z = records_of c image r in
    let there : slice_get r.history i ≡ Some e = ap₂ slice_get split (sym long) ∙ get_at done e es in
    let taken : take i r.history ≡ done = ap (take i) split ∙ take_at done (e ∷ es) i long in
    let call : slice_get (calls_in z.records) (calls_before r c i) ≡ Some (e.access, e.reply) =
    ap₂ slice_get (sym (calls_are image r c h (h.cores i e there)) ∙ ap (calls_of c) split) (ap (λ (l : List Entry). length (calls_of c l)) taken)
    ∙ call_at c done e es refl in
    let asks : is_call z (calls_before r c i) e.access ≡ true =
    ap (λ (x : Option (Access × ℕ)). option_map_or (λ (y : Access × ℕ). same_access y.0 e.access) x false) call ∙ same_access_refl e.access in
    let right = right_reply image r i e.access in
    cond-true (is_call z (calls_before r c i) e.access) (fails (not (eqb e.reply right)) (fault.Illegal i e.reply right)) (Some (fault.Turn c (place_of z (calls_before r c i)))) asks
    ∙ ap (λ (b : Bool). fails (not b) (fault.Illegal i e.reply right)) (eq-eqb e.reply right (h.legal i e there))

walk_from : (image : Image) (r : Run) (i : ℕ) (done es : List Entry) → IsRunOf image r → length done ≡ i → r.history ≡ done ++ es → walk_finding image r i es ≡ None
walk_from image r i done [] h long split = refl
walk_from image r i done (e ∷ es) h long split =
    ap₂ or_else (entry_none image r i done e es h long split)
    (walk_from image r (suc i) (done ++ e ∷ []) es h (omega (arith, long, length_push done e)) (split ∙ sym (append_assoc done (e ∷ []) es)))

pub walk_none : (image : Image) (r : Run) → IsRunOf image r → walk_finding image r 0 r.history ≡ None
walk_none image r h = walk_from image r 0 [] r.history h refl refl

rest_none : (image : Image) (r : Run) (c : ℕ) → IsRunOf image r → c < 2 → rest_finding image r c ≡ None
rest_none image r c h lt =
    let rs = (records_of c image r).records in
    let many : length (places_from 0 rs) ≡ length (calls_of c r.history) = places_many 0 rs ∙ sym (ap length (calls_are image r c h lt)) in
    ap (option_map (fault.Turn c)) (slice_get_past (places_from 0 rs) (length (calls_of c r.history)) (omega (arith, many)))

pub no_turn_rule : (image : Image) (r : Run) → IsRunOf image r → first (turn_rules image r) ≡ None
no_turn_rule image r h =
    ap (λ (x : Finding). or_else x (or_else (rest_finding image r 0) (or_else (rest_finding image r 1) None))) (walk_none image r h)
    ∙ ap (λ (x : Finding). or_else x (or_else (rest_finding image r 1) None)) (rest_none image r 0 h (omega arith))
    ∙ ap (λ (x : Finding). or_else x None) (rest_none image r 1 h (omega arith))

-- so a fault is none of the turns
pub no_fault : (image : Image) (r : Run) (e : RecordFault) → IsRunOf image r → first (turn_rules image (run_with image r.options r.history)) ≡ Some e → ⊥
no_fault image r e h is =
    let none : Some e ≡ None = sym is ∙ ap (λ (x : Run). first (turn_rules image x)) (run_again image r h) ∙ no_turn_rule image r h in absurd cc

-- ---- equal checkpoints

pub no_difference : (points : List (List ℕ)) → first_difference points points ≡ None
no_difference [] = refl
no_difference (p ∷ ps) =
    cond-true (bytes_eq p p) (option_map suc (first_difference ps ps)) (Some 0) ((bytes_eq-Decides p p).1 refl)
    ∙ ap (option_map suc) (no_difference ps)
