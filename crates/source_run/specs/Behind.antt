-- Configurations with more to do.
use Rattle.std.specs.Prelude.{List, ◌++◌}
use Rattle.jif_tree.specs.SourceRun.{Item, Configuration}

-- a configuration with items behind those that are pending
abbrev pub with_behind : Configuration → List Item → Configuration
with_behind c behind = record { store = c.store; calls = c.calls; pending = c.pending ++ behind }
