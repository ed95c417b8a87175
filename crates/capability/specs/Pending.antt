-- An entry that was taken off a control stack, and whose thread has still to start.
use Rattle.js_base.specs.declared.ids.FrameId.{FrameId}
use Rattle.js_base.specs.declared.ids.EntryId.{EntryId}
use Rattle.capability.specs.declared.token.Token.{Token}

-- the entry at which the thread starts, its frame, and the token that was kept with the entry
pub record PendingShape : Type 0 where
  pub entry : EntryId
  pub frame : FrameId
  pub kept : Token
