use Rattle.std.proofs.Common.{suc, List, map, flat_map, drop, sym, subst, add-one}
use Rattle.std.proofs.lemmas.List.{drop_all}
use Rattle.js_base.proofs.Lists.{next_of}
use Rattle.jif_tree.specs.declared.program.Expr.{Expr}
use Rattle.jif_tree.specs.Trees.{expr_tree}
use Rattle.label_reasons.specs.Asks.{expr_asks}
use Rattle.label_reasons.specs.Search.{FindsAt, authority_at}
use Rattle.label_reasons.proofs.Searching.{finds_none, at_then}
use Rattle.label_reasons.proofs.search.search_arguments.Goals as goal

pub loop-arg-preserved : goal.loop-arg-preserved
loop-arg-preserved c =
    let rest = drop (suc c.loop-arg.arg-index) c.args.args.now in
    rw add-one (λ end at.
    let Q : List Expr → Type 0 = λ left. FindsAt c.args.place.now c.args.stand.now c.args.known.now
    (λ spot. flat_map (expr_asks spot c.args.here) (map expr_tree left)) c.loop-arg.found end in
    c.loop-arg.invariant end (subst Q (sym (next_of c.args.args.now c.loop-arg.arg-index c.arg-item.result
    c.loop-arg-test.true c.arg-item.is))
    (at_then c.args.place.now c.args.stand.now c.args.known.now
    (λ spot. expr_asks spot c.args.here (expr_tree c.arg-item.result))
    (λ spot. flat_map (expr_asks spot c.args.here) (map expr_tree rest)) c.loop-arg.found c.search_expr.new.found end
    c.search_expr.ensures at)))

pub returns : goal.returns
returns c =
    let Q : List Expr → Type 0 = λ left. FindsAt c.args.place.now c.args.stand.now c.args.known.now
    (λ spot. flat_map (expr_asks spot c.args.here) (map expr_tree left)) c.loop-arg.found c.loop-arg.found in
    c.loop-arg.invariant c.loop-arg.found
    (subst Q (sym (drop_all c.loop-arg.arg-index c.args.args.now c.loop-arg-test.false))
    (λ of_pc causes sees. finds_none c.args.place.now.principals.now c.args.place.now.held
    (authority_at c.args.place.now) c.loop-arg.found))
