use Rattle.std.proofs.Common.{◌<◌}
use Rattle.js_base.specs.declared.ids.HostId.{HostId}
use Rattle.net_world.specs.Fits.{states_of}
use Rattle.net_world.specs.Secret.{IsMisbehavingReader}
use Rattle.net_world.proofs.readers.is_read.Given as goal

-- none of the hosts so far may see the label
abbrev pub invariant-loop-host : goal.invariant-loop-host
invariant-loop-host l = record {
  none : (earlier : HostId) → earlier.0 < l.host → ¬ IsMisbehavingReader l.code (states_of l.hosts) l.label earlier;
}
