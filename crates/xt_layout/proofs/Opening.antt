-- The first literal without a position, line by line.
use Rattle.std.proofs.Common.{◌≡◌, Bool, true, false, ◌||◌, List, [], ◌∷◌, ◌++◌, refl, sym, ap, ◌∙◌, cond, ℕ, ◌+◌, ◌<◌, ◌≤◌, length, take, drop, get_or, Option, Some, None, if◌then◌else◌}
use Rattle.std.specs.Prelude.{find, reverse}
use Rattle.std.specs.Option.{option_map_or}
use Rattle.std.proofs.lemmas.List.{drop_more, drop_all, take_more, reverse-append}
use Rattle.xt_lex.specs.declared.fault.AsmPlace.{AsmPlace}
use Rattle.xt_parse.specs.declared.line.Line.{Line}
use Rattle.xt_layout.specs.Around.{each_after}
use Rattle.xt_layout.specs.Findings.{Finding, first, or_else}
use Rattle.xt_layout.specs.Pools.{ends_pool, is_position, is_segment, is_open, has_no_pool, missing_pool, pool_fault}
use Rattle.xt_layout.specs.Seen.{is_open_behind}

chosen : (p g : Bool) (l : Line) (found : Option Line) → is_position l.statement ≡ p →
    option_map_or (λ l. is_position l.statement) (cond (p || g) (Some l) found) false ≡ (if p then true else (if g then false else option_map_or (λ l. is_position l.statement) found false))
chosen true g l found is = is
chosen false true l found is = is
chosen false false l found is = refl

open_more : (before : List Line) (l : Line) → is_open (before ++ l ∷ []) ≡ is_open_behind (is_open before) l
open_more before l = ap (λ ls. option_map_or (λ l. is_position l.statement) (find ends_pool ls) false) (reverse-append before (l ∷ []))
    ∙ chosen (is_position l.statement) (is_segment l.statement) l (find ends_pool (reverse before)) refl

-- the flag is right, and the first fault is that of the lines that follow
pub record Finds (flag : Bool) (k : ℕ) (lines : List Line) (fault : Finding) : Type 0 where
  pub flag_is : flag ≡ is_open (take k lines)
  pub rest : first (each_after has_no_pool (take k lines) (drop k lines)) ≡ fault

-- what the lines from here on find
found : (flag : Bool) (k : ℕ) (lines : List Line) (l : Line) (fault : Finding) → k < length lines → l ≡ get_or lines k l → Finds flag k lines fault →
    or_else (missing_pool flag l) (first (each_after has_no_pool (take k lines ++ l ∷ []) (drop (k + 1) lines))) ≡ fault
found flag k lines l fault lt is finds =
    let here : drop k lines ≡ l ∷ drop (k + 1) lines = drop_more lines k l lt ∙ ap (λ x. x ∷ drop (k + 1) lines) (sym is) in
    ap (λ b. or_else (missing_pool b l) (first (each_after has_no_pool (take k lines ++ l ∷ []) (drop (k + 1) lines)))) finds.flag_is
    ∙ ap (λ ls. first (each_after has_no_pool (take k lines) ls)) (sym here) ∙ finds.rest

pub finds_here : (flag : Bool) (k : ℕ) (lines : List Line) (l : Line) (fault : Finding) (place : AsmPlace) → k < length lines → l ≡ get_or lines k l → Finds flag k lines fault →
    Some place ≡ missing_pool flag l → Some place ≡ fault
finds_here flag k lines l fault place lt is finds this =
    ap (λ f. or_else f (first (each_after has_no_pool (take k lines ++ l ∷ []) (drop (k + 1) lines)))) this ∙ found flag k lines l fault lt is finds

pub finds_more : (flag now : Bool) (k : ℕ) (lines : List Line) (l : Line) (fault : Finding) → k < length lines → l ≡ get_or lines k l → Finds flag k lines fault →
    None ≡ missing_pool flag l → now ≡ is_open_behind flag l → Finds now (k + 1) lines fault
finds_more flag now k lines l fault lt is finds none behind =
    let next : take (k + 1) lines ≡ take k lines ++ l ∷ [] = take_more lines k l lt ∙ ap (λ x. take k lines ++ x ∷ []) (sym is) in
    record {
      flag_is = behind ∙ ap (λ b. is_open_behind b l) finds.flag_is ∙ sym (open_more (take k lines) l) ∙ ap is_open (sym next);
      rest = ap (λ ls. first (each_after has_no_pool ls (drop (k + 1) lines))) next
          ∙ ap (λ f. or_else f (first (each_after has_no_pool (take k lines ++ l ∷ []) (drop (k + 1) lines)))) none ∙ found flag k lines l fault lt is finds;
    }

pub finds_none : (lines : List Line) → Finds false 0 lines (pool_fault lines)
unfolding pool_fault
finds_none lines = record { flag_is = refl; rest = refl }

pub finds_all : (flag : Bool) (k : ℕ) (lines : List Line) (fault : Finding) → length lines ≤ k → Finds flag k lines fault → None ≡ fault
finds_all flag k lines fault le finds = ap (λ ls. first (each_after has_no_pool (take k lines) ls)) (sym (drop_all k lines le)) ∙ finds.rest
