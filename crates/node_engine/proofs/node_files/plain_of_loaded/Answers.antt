use Rattle.std.proofs.Common.{[], None, ap, inl}
use Rattle.front_end.specs.Stages.{given}
use Rattle.front_end.proofs.Stages.{handed_on, then_stops}
use Rattle.node_engine.specs.ReadyNodes.{NodeStarts, Sealed, ready_node}
use Rattle.node_starts.specs.NodeSources.{node_start}
use Rattle.front_end.specs.Stages.{Then}
use Rattle.node_engine.specs.Options.{asked_shape}
use Rattle.node_engine.proofs.node_files.plain_of_loaded.Goals as goal

pub returns-in_err-start-clause-due : goal.returns-in_err-start-clause-due
returns-in_err-start-clause-due c = λ k h s loaded_k loaded_h loaded_s.
    let starts = NodeStarts (asked_shape c.args.options.now) k h s in
    handed_on ready_node (Then starts (Sealed None [])) c.in_err-start.field-0.0 c.from_residual.result
    c.from_residual.ensures
    (then_stops starts (Sealed None []) c.in_err-start.field-0.0
    (c.in_err-start.ensures.due k h s loaded_k loaded_h loaded_s))

pub returns-clause-due : goal.returns-clause-due
returns-clause-due c = λ k h s loaded_k loaded_h loaded_s.
    let start = node_start c.in_ok-start.start in
    inl (
      start,
      c.in_ok-start.ensures.due k h s loaded_k loaded_h loaded_s,
      ap (λ seals. given (record { start = start; seals = seals })) c.none.ensures,
    )
