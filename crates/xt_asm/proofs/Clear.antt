-- What follows for a line that has no fault of its own.
use Rattle.std.proofs.Common.{subst, ◌≡◌, Bool, true, false, ◌||◌, List, [], ◌∷◌, Option, Some, None, Result, Ok, Err, refl, sym, ap, ◌∙◌}
use Rattle.std.specs.Prelude.{map, pos, is_none}
use Rattle.std.specs.List.{list_any}
use Rattle.std.specs.Option.{option_map}
use Rattle.xt_isa.specs.declared.Insn.{Insn}
use Rattle.xt_lex.specs.declared.fault.AsmPlace.{AsmPlace}
use Rattle.xt_names.specs.declared.mnemonic.Mnemonic.{Mnemonic}
use Rattle.xt_names.specs.declared.forms.Access.{Access}
use Rattle.xt_names.specs.declared.argument.Argument.{Argument}
use Rattle.xt_names.specs.declared.argument.Argument.TheVariants as argument
use Rattle.xt_names.specs.declared.argument.OperandFault.{OperandFault}
use Rattle.xt_names.specs.declared.argument.OperandFault.TheVariants as operand_fault
use Rattle.xt_names.specs.Making.{instruction_of}
use Rattle.xt_names.specs.Forms.{access_of}
use Rattle.xt_lex.specs.Values.{value_of}
use Rattle.xt_parse.specs.declared.line.Line.{Line}
use Rattle.xt_parse.specs.declared.statement.Operand.{Operand}
use Rattle.xt_parse.specs.declared.statement.Operand.TheVariants as operand
use Rattle.xt_parse.specs.declared.statement.Statement.{Statement}
use Rattle.xt_parse.specs.declared.statement.Statement.TheVariants as statement
use Rattle.xt_layout.specs.Findings.{Finding, at_statement, fails, first, or_else}
use Rattle.xt_asm.specs.Contexts.{IsWhole, own_fault}
use Rattle.xt_asm.specs.Kinds.{has_misfit, has_no_word, has_unknown, is_misaligned_target, is_out_of_reach, is_range, is_stray_entry, is_unknown_operand, lacks_word}
use Rattle.xt_names.specs.Operands.{all_known}
use Rattle.xt_asm.specs.Operands.{Site, argument_of, arguments_of, insn_at, special_in}

-- ---- the tests that fail

pub or_else_none : (x y : Finding) → or_else x y ≡ None → (x ≡ None) × (y ≡ None)
or_else_none None y e = (refl, e)
or_else_none (Some place) y e = absurd (cc)

pub not_failed : (b : Bool) (place : AsmPlace) → fails b place ≡ None → b ≡ false
not_failed true place e = absurd (cc)
not_failed false place e = refl

pub neither : (a b : Bool) → (a || b) ≡ false → (a ≡ false) × (b ≡ false)
neither false b e = (refl, e)
neither true b e = absurd (cc)

pub record IsClear (site : Site) (s : Statement) (made : Option (Result Insn OperandFault)) : Type 0 where
  pub known : has_unknown site.labels s ≡ false
  pub fits : has_misfit site s ≡ false
  pub ranged : is_range made ≡ false
  pub aligned : is_misaligned_target made ≡ false
  pub executable : is_stray_entry site.labels s ≡ false
  pub served : has_no_word site s ≡ false
  pub reached : is_out_of_reach made ≡ false

pub clear_line : (site : Site) (l : Line) (made : Option (Result Insn OperandFault)) → own_fault site l made ≡ None → IsClear site l.statement made
clear_line site l made e =
    let a = or_else_none (fails (has_unknown site.labels l.statement) (at_statement l 1)) (first (fails (has_misfit site l.statement || is_range made) (at_statement l 2) ∷ fails (is_misaligned_target made) (at_statement l 5)
    ∷ fails (is_stray_entry site.labels l.statement) (at_statement l 6) ∷ fails (has_no_word site l.statement || is_out_of_reach made) (at_statement l 3) ∷ [])) e in
    let b = or_else_none (fails (has_misfit site l.statement || is_range made) (at_statement l 2)) (first (fails (is_misaligned_target made) (at_statement l 5)
    ∷ fails (is_stray_entry site.labels l.statement) (at_statement l 6) ∷ fails (has_no_word site l.statement || is_out_of_reach made) (at_statement l 3) ∷ [])) a.1 in
    let d = or_else_none (fails (is_misaligned_target made) (at_statement l 5)) (first (fails (is_stray_entry site.labels l.statement) (at_statement l 6) ∷ fails (has_no_word site l.statement || is_out_of_reach made) (at_statement l 3) ∷ [])) b.1 in
    let f = or_else_none (fails (is_stray_entry site.labels l.statement) (at_statement l 6)) (first (fails (has_no_word site l.statement || is_out_of_reach made) (at_statement l 3) ∷ [])) d.1 in
    let g = or_else_none (fails (has_no_word site l.statement || is_out_of_reach made) (at_statement l 3)) None f.1 in
    let range = neither (has_misfit site l.statement) (is_range made) (not_failed (has_misfit site l.statement || is_range made) (at_statement l 2) b.0) in
    let reach = neither (has_no_word site l.statement) (is_out_of_reach made) (not_failed (has_no_word site l.statement || is_out_of_reach made) (at_statement l 3) g.0) in
    record {
      known = not_failed (has_unknown site.labels l.statement) (at_statement l 1) a.0;
      fits = range.0;
      ranged = range.1;
      aligned = not_failed (is_misaligned_target made) (at_statement l 5) d.0;
      executable = not_failed (is_stray_entry site.labels l.statement) (at_statement l 6) f.0;
      served = reach.0;
      reached = reach.1;
    }

-- ---- an instruction is made

some_mapped : {A B : Type 0} (f : A → B) (o : Option A) → is_none o ≡ false → is_none (option_map f o) ≡ false
some_mapped f None e = e
some_mapped f (Some x) e = refl

known_argument : (site : Site) (access : Option Access) (o : Operand) → is_unknown_operand site.labels access o ≡ false → lacks_word site o ≡ false → is_none (argument_of site access o) ≡ false
known_argument site access (operand.Reg n) u w = refl
known_argument site (Some access) (operand.Value e) u w = some_mapped argument.Special (special_in access e) u
known_argument site None (operand.Value e) u w = some_mapped argument.Value (value_of site.labels e) u
known_argument site None (operand.Pool e) u w = some_mapped argument.Value site.target w
known_argument site (Some access) (operand.Pool e) u w = some_mapped argument.Value site.target w

both_known : (x : Option Argument) (xs : List (Option Argument)) → is_none x ≡ false → is_none (all_known xs) ≡ false → is_none (all_known (x ∷ xs)) ≡ false
both_known None xs a b = a
both_known (Some x) xs a b = some_mapped (λ known. x ∷ known) (all_known xs) b

known_arguments : (site : Site) (access : Option Access) (operands : List Operand) → list_any (is_unknown_operand site.labels access) operands ≡ false → list_any (lacks_word site) operands ≡ false →
    is_none (all_known (map (argument_of site access) operands)) ≡ false
known_arguments site access [] u w = refl
known_arguments site access (o ∷ operands) u w =
    let a = neither (is_unknown_operand site.labels access o) (list_any (is_unknown_operand site.labels access) operands) u in
    let b = neither (lacks_word site o) (list_any (lacks_word site) operands) w in
    both_known (argument_of site access o) (map (argument_of site access) operands) (known_argument site access o a.0 b.0) (known_arguments site access operands a.1 b.1)

whole_by : (name : Mnemonic) (operands : List Operand) (made : Option (Result Insn OperandFault)) → is_none made ≡ false → is_range made ≡ false → is_misaligned_target made ≡ false → is_out_of_reach made ≡ false →
    IsWhole (statement.Insn name operands) made
whole_by name operands None n r m o = absurd (cc)
whole_by name operands (Some (Ok i)) n r m o = tt
whole_by name operands (Some (Err operand_fault.Range)) n r m o = absurd (cc)
whole_by name operands (Some (Err operand_fault.Misaligned)) n r m o = absurd (cc)
whole_by name operands (Some (Err operand_fault.OutOfReach)) n r m o = absurd (cc)

whole_statement : (site : Site) (s : Statement) → IsClear site s (insn_at site s) → IsWhole s (insn_at site s)
whole_statement site (statement.Insn name operands) clear =
    whole_by name operands (insn_at site (statement.Insn name operands))
    (some_mapped (λ arguments. instruction_of name arguments (pos site.at)) (arguments_of site name operands) (known_arguments site (access_of name) operands clear.known clear.served))
    clear.ranged clear.aligned clear.reached
whole_statement site _ clear = tt

pub whole_line : (site : Site) (l : Line) (made : Option (Result Insn OperandFault)) → made ≡ insn_at site l.statement → own_fault site l made ≡ None → IsWhole l.statement made
whole_line site l made is e =
    let P : Option (Result Insn OperandFault) → Type 0 = λ m. IsWhole l.statement m in
    subst P (sym is) (whole_statement site l.statement (clear_line site l (insn_at site l.statement) (ap (λ m. own_fault site l m) (sym is) ∙ e)))
