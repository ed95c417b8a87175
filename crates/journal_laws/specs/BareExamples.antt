-- A host with one entry on its stack, and two tokens that are alike, to see what a journal does not tell.
use Rattle.std.specs.Prelude.{ℕ, pos, List, [], ◌∷◌, replicate, None, false, true}
use Rattle.js_base.specs.declared.ids.FrameId.{FrameId}
use Rattle.capability.specs.declared.tags.TheConstants.{TAG_BYTES}
use Rattle.capability.specs.declared.token.Token.{Token}
use Rattle.host_code.specs.Code.{halt}
use Rattle.host_core.specs.Host.{HostState}

abbrev pub frame : FrameId
frame = record { site = record { 0 = 0 }; count = 0 }

-- a token of host 0 for the entry that ends the program
abbrev token_with : List ℕ → Token
token_with tag = record { host = record { 0 = 0 }; frame = frame; entry = halt; serial = 0; tag = tag }

abbrev pub right : Token
right = token_with (replicate TAG_BYTES 7)

abbrev pub wrong : Token
wrong = token_with (replicate TAG_BYTES 8)

-- host 0, on whose stack is the entry of the right token
abbrev pub stacked : HostState
stacked = record {
  me = record { 0 = 0 };
  key = [];
  rows = [];
  variables = λ frame x. pos 0;
  running = None;
  waiting = [];
  entries = record { token = right; entry = halt; frame = frame; kept = right } ∷ [];
  serials = 1 ∷ [];
  frames = [];
  requests = [];
  ignored = 0;
  halted = false;
}

-- the entry was taken off, which ended the program
abbrev pub ended : HostState
ended = record stacked { entries = []; halted = true }
