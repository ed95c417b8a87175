-- Threads of a host, as the host table speaks of them.
use Rattle.std.specs.Prelude.{ℕ, ℤ, List, Option}
use Rattle.js_base.specs.declared.ids.HostId.{HostId}
use Rattle.js_base.specs.declared.ids.FrameId.{FrameId}
use Rattle.js_base.specs.declared.ids.RequestId.{RequestId}
use Rattle.capability.specs.declared.token.Token.{Token}

-- A thread: the number of its next instruction, its frame, the frame that it made last for a call (its own where it
-- made none), its temporaries in the order in which they were read, and the token that it holds. A thread that has sent
-- its token with a request holds none until the answer comes.
pub record ThreadShape : Type 0 where
  pub at : ℕ
  pub frame : FrameId
  pub new_frame : FrameId
  pub temporaries : List ℤ
  pub held : Option Token

-- what a thread waits for
pub data Awaited : Type 0 where
  value_of_field : Awaited
  acknowledgement : Awaited
  token_of_entry : Awaited

-- a thread that waits for an answer to its request from the host that it asked
pub record WaitingShape : Type 0 where
  pub thread : ThreadShape
  pub awaited : Awaited
  pub request : RequestId
  pub asked : HostId
