use Rattle.std.proofs.Common.{[], ◌∷◌, ◌++◌, map, flat_map, refl, sym, ap}
use Rattle.jif_tree.specs.Trees.{expr_tree, program_tree}
use Rattle.jif_tree.specs.LabelRules.{method_at, params_of, result_of, may_begin}
use Rattle.label_reasons.specs.Asks.{StatementSpot, begin_ask}
use Rattle.label_reasons.specs.Asks.{expr_asks, argument_asks, result_asks}
use Rattle.label_reasons.specs.Search.{spot_at}
use Rattle.label_reasons.proofs.Searching.{at_then}
use Rattle.label_reasons.proofs.search.search_call.Goals as goal

pub returns : goal.returns
returns c =
    let args = map expr_tree c.args.args.now in
    let called = method_at (program_tree c.args.place.now.program.now) c.args.method in
    at_then c.args.place.now c.args.stand.now c.args.known.now
    (λ spot. flat_map (expr_asks spot c.args.here) args)
    (λ spot. begin_ask spot c.args.here c.args.method ∷ argument_asks spot c.args.here c.args.method 0 args
    (params_of called) ++ result_asks spot c.args.here c.args.method (result_of called) c.args.into) c.args.found.now
    c.search_arguments.new.found c.search_result.new.found c.search_arguments.ensures
    (at_then c.args.place.now c.args.stand.now c.args.known.now
    (λ spot. begin_ask spot c.args.here c.args.method ∷ [])
    (λ spot. argument_asks spot c.args.here c.args.method 0 args (params_of called)
    ++ result_asks spot c.args.here c.args.method (result_of called) c.args.into) c.search_arguments.new.found
    c.offered.result c.search_result.new.found
    (λ of_pc causes sees.
    let spot : StatementSpot = spot_at c.args.place.now c.args.stand.now c.args.known.now of_pc causes in
    c.offered.ensures (begin_ask spot c.args.here c.args.method) (record {
      statement = refl;
      wanted = refl;
      constraint = ap (λ begin. may_begin c.args.stand.now.pc begin) c.begin_label.ensures;
      cause = sym sees.of_pc_is;
    }))
    (at_then c.args.place.now c.args.stand.now c.args.known.now
    (λ spot. argument_asks spot c.args.here c.args.method 0 args (params_of called))
    (λ spot. result_asks spot c.args.here c.args.method (result_of called) c.args.into) c.offered.result
    c.search_params.new.found c.search_result.new.found (rw c.params_of.ensures.tree at c.search_params.ensures)
    c.search_result.ensures))
