-- What a message names is there.
use Rattle.std.specs.Prelude.{⊤, List}
use Rattle.std.specs.List.{AllByRecursion}
use Rattle.host_code.specs.declared.message.Message.{Message}
use Rattle.host_code.specs.declared.message.Message.TheVariants as message
use Rattle.host_code.specs.Code.{CodeShape}
use Rattle.host_code.specs.Riders.{Rider}
use Rattle.host_code.specs.Sound.{IsHost, IsField, IsVariable}

-- each variable that rides is one of the code's
abbrev pub AreOfCode : CodeShape → List Rider → Type 0
AreOfCode code riders = AllByRecursion (λ rider. IsVariable code rider.0) riders

-- each token names a host of the code, and each field and variable is one of the code's
abbrev pub MessageFits : CodeShape → Message → Type 0
MessageFits code (message.Get request field index) = IsField code field
MessageFits code (message.Set request field index value) = IsField code field
MessageFits code (message.Forward request frame variable value) = IsVariable code variable
MessageFits code (message.Sync request frame entry token) = IsHost code token.host
MessageFits code (message.Rgoto frame entry token) = IsHost code token.host
MessageFits code (message.RgotoWith frame entry token riders) = IsHost code token.host × AreOfCode code riders
MessageFits code (message.Lgoto token) = IsHost code token.host
MessageFits code (message.Value request value) = ⊤
MessageFits code (message.Ack request) = ⊤
MessageFits code (message.Token request token) = IsHost code token.host
