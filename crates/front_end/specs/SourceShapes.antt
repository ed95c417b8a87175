-- What was read of a program and a host file, as contracts see it, and what holds of it always.
use Rattle.std.specs.Prelude.{◌≡◌}
use Rattle.host_decl.specs.Hosts.{HostsShape}
use Rattle.jif_tree.specs.declared.program.Checked.{Checked}
use Rattle.jif_tree.specs.Trees.{program_tree}
use Rattle.label_check.specs.Checking.{AreAuthorities}
use Rattle.need_labels.specs.Labelled.{labelled_of}
use Rattle.front_end.specs.PlacedSources.{labelled_source}
use Rattle.front_end.specs.ReadPrograms.{AreShort, IsReadProgram}
use Rattle.front_end.specs.Sources.{Source}

-- an accepted program with its labels, and the hosts that it is for
pub record SourceModel : Type 0 where
  pub hosts : HostsShape
  pub checked : Checked

abbrev pub source_shape : SourceModel → Source
source_shape source = record { file = source.hosts; tree = program_tree source.checked.program }

-- its labels are those that the label check finds, and program and hosts are as they are read
pub record IsAccepted (source : SourceModel) : Type 0 where
  pub labelled : labelled_of source.checked ≡ labelled_source (source_shape source)
  pub read : IsReadProgram (program_tree source.checked.program)
  pub authorities : AreAuthorities source.hosts.principals (program_tree source.checked.program)
  pub short : AreShort source.hosts
