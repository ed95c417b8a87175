use Rattle.std.proofs.Common.{◌≡◌, ◌∙◌, ℕ, ◌+◌, List, [], ◌∷◌, map, drop, get_or, refl, sym, ap, subst₂, arith}
use Rattle.std.proofs.lemmas.List.{drop_all, drop_more}
use Rattle.js_base.specs.declared.ids.VarId.{VarId}
use Rattle.jif_tree.specs.declared.program.Expr.{Expr}
use Rattle.jif_tree.specs.LabelRules.{variable_label}
use Rattle.label_reasons.specs.declared.reason.Wanted.TheVariants.{Given}
use Rattle.js_base.specs.declared.ids.MethodId.{MethodId}
use Rattle.js_base.specs.declared.ids.StmtId.{StmtId}
use Rattle.jif_tree.specs.Trees.{ExprTree, expr_tree}
use Rattle.label_reasons.specs.Asks.{StatementSpot, value_ask, argument_asks}
use Rattle.label_reasons.specs.Search.{authority_at, spot_at, Finds}
use Rattle.label_reasons.proofs.Searching.{finds_none, finds_two}
use Rattle.label_reasons.proofs.search.search_params.Goals as goal

no_params : (spot : StatementSpot) (here : StmtId) (method : MethodId) (place : ℕ) (values : List ExprTree) →
    argument_asks spot here method place values [] ≡ []
no_params spot here method place [] = refl
no_params spot here method place (value ∷ values) = refl

pub returns : goal.returns
returns c =
    c.loop-number.invariant c.loop-number.found (λ of_pc causes sees.
    rw (
      drop_all c.loop-number.number c.args.params.now c.loop-number-test.false,
      no_params (spot_at c.args.place.now c.args.stand.now c.args.known.now of_pc causes) c.args.here c.args.method
          c.loop-number.number
          (map expr_tree (drop c.loop-number.number c.args.args.now)),
    )
    (finds_none c.args.place.now.principals.now c.args.place.now.held (authority_at c.args.place.now)
    c.loop-number.found))

pub loop-number-preserved : goal.loop-number-preserved
loop-number-preserved c =
    let n = c.loop-number.number in
    let arg = c.index-args-number.result in
    let here = c.args.here in
    let labels = c.args.known.now.labels.items in
    let args_left : drop n c.args.args.now ≡ arg ∷ drop (n + 1) c.args.args.now =
    drop_more c.args.args.now n arg (omega (arith, c.if-number-args.false))
    ∙ ap (λ one. one ∷ drop (n + 1) c.args.args.now) (sym c.index-args-number.is) in
    let param : VarId = get_or c.args.params.now n (record { 0 = 0 }) in
    let params_left : drop n c.args.params.now ≡ param ∷ drop (n + 1) c.args.params.now =
    drop_more c.args.params.now n (record { 0 = 0 }) (omega (arith, c.loop-number-test.true)) in
    λ end at. c.loop-number.invariant end (λ of_pc causes sees.
    let spot : StatementSpot = spot_at c.args.place.now c.args.stand.now c.args.known.now of_pc causes in
    let Q : List Expr → List VarId → Type 0 = λ xs ps. Finds c.args.place.now.principals.now c.args.place.now.held
    (authority_at c.args.place.now) (argument_asks spot here c.args.method n (map expr_tree xs) ps) c.loop-number.found
    end in
    subst₂ Q (sym args_left) (sym params_left)
    (finds_two c.args.place.now (value_ask spot here (Given n param c.args.method) (expr_tree arg)
    (variable_label labels param) ∷ [])
    (argument_asks spot here c.args.method (n + 1) (map expr_tree (drop (n + 1) c.args.args.now))
    (drop (n + 1) c.args.params.now)) c.loop-number.found c.search_flow.new.found end
    ((rw c.variable_in-to.ensures at c.search_flow.ensures) of_pc causes sees) (at of_pc causes sees)))
