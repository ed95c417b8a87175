-- How operators group: one that binds more tightly first, and those of one level from the left. And what else is asked
-- of the phrases of a program.
use Rattle.std.specs.Prelude.{ℕ, ◌<◌, ◌≤◌, List, [], ◌∷◌, Option, Some, None, ⊤}
use Rattle.label_lattice.specs.Written.{TrustIsLast}
use Rattle.jif_grammar.specs.Phrases.{LabelPhrase, ExprPhrase, number, variable, element, parenthesized, signed, binary}
use Rattle.jif_grammar.specs.Phrases.{relabelled, BlockPhrase, end, declaration, assignment, element_assignment, call}
use Rattle.jif_grammar.specs.Phrases.{call_into, branch, branch_else, loop, FieldEnd, unset, sized, set}
use Rattle.jif_grammar.specs.Phrases.{ParamPhrase, ItemPhrase, field, method, ProgramPhrase}
use Rattle.jif_grammar.specs.Operators.{operator_level, tightest_level}

-- how tightly an expression holds together
abbrev pub level : ExprPhrase → ℕ
level (binary operator left right) = operator_level operator
level _ = tightest_level

-- The operand on the left binds at least as tightly as the operator, and the one on the right more tightly. A sign
-- stands before what no binary operator makes.
abbrev pub IsGrouped : ExprPhrase → Type 0
IsGrouped (number n) = ⊤
IsGrouped (variable name) = ⊤
IsGrouped (element name index) = IsGrouped index
IsGrouped (parenthesized inner) = IsGrouped inner
IsGrouped (signed sign operand) = (tightest_level ≤ level operand) × IsGrouped operand
IsGrouped (binary operator left right) =
    (operator_level operator ≤ level left) × (operator_level operator < level right)
    × IsGrouped left × IsGrouped right
IsGrouped (relabelled change inner label) = IsGrouped inner × TrustIsLast label

abbrev pub AreGrouped : List ExprPhrase → Type 0
AreGrouped [] = ⊤
AreGrouped (arg ∷ args) = IsGrouped arg × AreGrouped args

abbrev pub IsOptionalLabel : Option LabelPhrase → Type 0
IsOptionalLabel None = ⊤
IsOptionalLabel (Some label) = TrustIsLast label

abbrev pub IsBlock : BlockPhrase → Type 0
IsBlock end = ⊤
IsBlock (declaration label name value rest) = IsOptionalLabel label × IsGrouped value × IsBlock rest
IsBlock (assignment name value rest) = IsGrouped value × IsBlock rest
IsBlock (element_assignment name index value rest) = IsGrouped index × IsGrouped value × IsBlock rest
IsBlock (call name args rest) = AreGrouped args × IsBlock rest
IsBlock (call_into into name args rest) = AreGrouped args × IsBlock rest
IsBlock (branch guard first rest) = IsGrouped guard × IsBlock first × IsBlock rest
IsBlock (branch_else guard first second rest) = IsGrouped guard × IsBlock first × IsBlock second × IsBlock rest
IsBlock (loop guard body rest) = IsGrouped guard × IsBlock body × IsBlock rest

-- an array has an element
abbrev pub IsFieldEnd : FieldEnd → Type 0
IsFieldEnd unset = ⊤
IsFieldEnd (sized size) = 0 < size
IsFieldEnd (set negative first) = ⊤

abbrev pub AreParams : List ParamPhrase → Type 0
AreParams [] = ⊤
AreParams (param ∷ params) = TrustIsLast param.label × AreParams params

abbrev pub IsResult : Option ExprPhrase → Type 0
IsResult None = ⊤
IsResult (Some value) = IsGrouped value

abbrev pub IsItem : ItemPhrase → Type 0
IsItem (field phrase) = TrustIsLast phrase.label × IsFieldEnd phrase.ending
IsItem (method phrase) =
    IsOptionalLabel phrase.kind × TrustIsLast phrase.begin × AreParams phrase.params × IsBlock phrase.body
    × IsResult phrase.result

-- the phrases are those of a program, whatever its size
abbrev pub IsProgram : ProgramPhrase → Type 0
IsProgram [] = ⊤
IsProgram (item ∷ items) = IsItem item × IsProgram items
