-- The exit codes and the names of statuses, tables that users and scripts rely on.
use Rattle.std.specs.Prelude.{ℕ, List, codes}
use Rattle.js_base.specs.declared.status.Status.{Status}
use Rattle.js_base.specs.declared.status.Status.TheVariants.{Done, Usage, SourceRefused, InputRefused, Differ}
use Rattle.js_base.specs.declared.status.Status.TheVariants.{FileFault, OutFault, NoMemory, Spent, LinkFault}
use Rattle.js_base.specs.declared.status.Status.TheVariants.{ChildFault, ChildEnded}

abbrev pub exit_code : Status → ℕ
exit_code Done = 0
exit_code Usage = 2
exit_code SourceRefused = 3
exit_code InputRefused = 4
exit_code Differ = 5
exit_code FileFault = 6
exit_code OutFault = 7
exit_code NoMemory = 8
exit_code Spent = 9
exit_code LinkFault = 10
exit_code ChildFault = 11
exit_code ChildEnded = 12

abbrev pub status_name : Status → List ℕ
status_name Done = codes "Done"
status_name Usage = codes "Usage"
status_name SourceRefused = codes "SourceRefused"
status_name InputRefused = codes "InputRefused"
status_name Differ = codes "Differ"
status_name FileFault = codes "FileFault"
status_name OutFault = codes "OutFault"
status_name NoMemory = codes "NoMemory"
status_name Spent = codes "Spent"
status_name LinkFault = codes "LinkFault"
status_name ChildFault = codes "ChildFault"
status_name ChildEnded = codes "ChildEnded"
