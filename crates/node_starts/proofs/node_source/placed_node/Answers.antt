use Rattle.node_starts.proofs.node_source.placed_node.Goals as goal

pub returns : goal.returns
returns c = λ s loaded.
    rw (c.in_ok-code.ensures, c.into_hosts-hosts.ensures) at c.valued.ensures s loaded
