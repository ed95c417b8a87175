-- Arguments of calls, one by one.
use Rattle.std.proofs.Common.{◌≡◌, ◌∙◌, ℕ, suc, ◌+◌, ◌<◌, List, [], ◌∷◌, ◌++◌, length, drop, map, get_or, add-one, ap}
use Rattle.std.proofs.Common.{Some, sym, refl, arith}
use Rattle.std.proofs.Math.Seq.{drop-cons}
use Rattle.js_base.specs.declared.ids.HostId.{HostId}
use Rattle.js_base.specs.declared.ids.StmtId.{StmtId}
use Rattle.js_base.specs.declared.ids.VarId.{VarId}
use Rattle.label_lattice.specs.declared.label.Label.{Label}
use Rattle.jif_tree.specs.declared.program.Expr.{Expr}
use Rattle.jif_tree.specs.Trees.{ExprTree, expr_tree}
use Rattle.host_code.specs.declared.instruction.Op.TheVariants as op
use Rattle.split_rules.specs.Expressions.{nodes_of, released_by}
use Rattle.split_rules.specs.Walk.{Walked, expr_emissions, pass_emissions, argument_emissions, releasing}
use Rattle.control_split.specs.Trace.{TraceShape, traced}
use Rattle.control_split.proofs.Traces.{traced_append}
use Rattle.control_split.proofs.Operands.{no_parameters}

none_below : (left : List VarId) → length left < 1 → left ≡ []
none_below [] short = refl
none_below (first ∷ others) short = absurd (omega (arith, short))

-- no parameter is left
pub none_left : (walked : Walked) (host home : HostId) (label : Label) (statement : StmtId)
    (start before after : TraceShape)
    (left more : List VarId) (one two : List ExprTree) → length left < 1 → more ≡ left → after ≡ before →
    traced before (argument_emissions walked host home label statement left one) ≡ start →
    traced after (argument_emissions walked host home label statement more two) ≡ start
none_left walked host home label statement start before after left more one two short same is so =
    let none = none_below left short in
    ap (λ params. traced after (argument_emissions walked host home label statement params two)) (same ∙ none)
    ∙ ap (traced after) (no_parameters walked host home label statement two) ∙ is
    ∙ sym (ap (traced before) (no_parameters walked host home label statement one))
    ∙ sym (ap (λ params. traced before (argument_emissions walked host home label statement params one)) none) ∙ so

pub one_argument : (walked : Walked) (host home : HostId) (label : Label) (statement : StmtId)
    (start before after : TraceShape) (left more : List VarId) (param : VarId) (args : List Expr) (index : ℕ)
    (arg : Expr) → left ≡ param ∷ more → index < length args → arg ≡ get_or args index arg →
    after ≡ traced before (expr_emissions host label statement 0 (expr_tree arg)
    ++ releasing host label statement (op.Arg param (nodes_of 0 (expr_tree arg))) (released_by 0 (expr_tree arg))
    ∷ pass_emissions walked.planned host label statement param (Some home)) →
    traced before (argument_emissions walked host home label statement left (map expr_tree (drop index args))) ≡ start →
    traced after (argument_emissions walked host home label statement more (map expr_tree (drop (index + 1) args))) ≡
    start
one_argument walked host home label statement start before after left more param args index arg first within arg_is is
    so =
    let own = expr_emissions host label statement 0 (expr_tree arg)
    ++ releasing host label statement (op.Arg param (nodes_of 0 (expr_tree arg))) (released_by 0 (expr_tree arg))
    ∷ pass_emissions walked.planned host label statement param (Some home) in
    let rest = argument_emissions walked host home label statement more (map expr_tree (drop (index + 1) args)) in
    let here : drop index args ≡ arg ∷ drop (index + 1) args =
    drop-cons args index arg within
    ∙ ap (λ (one : Expr). one ∷ drop (suc index) args) (sym arg_is)
    ∙ ap (λ count. arg ∷ drop count args) (sym (add-one index)) in
    ap (λ (trace : TraceShape). traced trace rest) is ∙ sym (traced_append before own rest)
    ∙ sym (ap (λ some. traced before (argument_emissions walked host home label statement (param ∷ more)
    (map expr_tree some))) here)
    ∙ sym (ap (λ params. traced before (argument_emissions walked host home label statement params
    (map expr_tree (drop index args)))) first)
    ∙ so
