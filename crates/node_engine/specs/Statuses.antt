-- With which status a node ends.
use Rattle.std.specs.Prelude.{⊤, Result, Ok, Err}
use Rattle.js_base.specs.declared.status.Status.{Status}
use Rattle.js_base.specs.declared.status.Status.TheVariants as status
use Rattle.node_engine.specs.declared.node_error.NodeError.{NodeError}
use Rattle.node_engine.specs.declared.node_error.NodeError.TheVariants as node_error

-- the status of an error
abbrev pub status_of : NodeError → Status
status_of node_error.OutOfMemory = status.NoMemory
status_of node_error.LinkFault = status.LinkFault
status_of node_error.OutFault = status.OutFault

-- that of a result: where no error came, all went well so far
abbrev pub status_in : {T : Type 0} → Result T NodeError → Status
status_in (Ok value) = status.Done
status_in (Err error) = status_of error

-- with these a node ends that has begun, or was to begin
abbrev pub IsServed : Status → Type 0
IsServed status.Done = ⊤
IsServed status.Spent = ⊤
IsServed status.LinkFault = ⊤
IsServed status.OutFault = ⊤
IsServed status.NoMemory = ⊤
IsServed _ = ⊥

-- with these a node ends where nothing outside fails
abbrev pub IsEnded : Status → Type 0
IsEnded status.Done = ⊤
IsEnded status.Spent = ⊤
IsEnded status.NoMemory = ⊤
IsEnded _ = ⊥
