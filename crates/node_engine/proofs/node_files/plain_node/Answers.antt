use Rattle.node_engine.specs.Options.{asked_shape}
use Rattle.node_engine.proofs.LoadedNodes.{plain_loaded}
use Rattle.node_engine.proofs.node_files.plain_node.Goals as goal

pub returns-clause-due : goal.returns-clause-due
returns-clause-due g c =
    plain_loaded (asked_shape c.args.options.now) _ c.source_file.result c.host_file.result c.script_file.result
    c.in_ok-loaded.loaded.items c.source-item.result c.hosts-item.result c.start-item.result c.plain_of_loaded.result
    c.requires c.in_ok-loaded.ensures.loaded (rw c.as_slice.ensures.value at c.source-item.is)
    (rw c.as_slice.ensures.value at c.hosts-item.is) (rw c.as_slice.ensures.value at c.start-item.is)
    c.source_file.ensures.name c.source_file.ensures.most c.host_file.ensures.name c.host_file.ensures.most
    c.script_file.ensures.name c.script_file.ensures.most
    (record { loads = c.in_ok-loaded.ensures.loads; no_fault = c.in_ok-loaded.ensures.faults })
    c.plain_of_loaded.ensures.due
