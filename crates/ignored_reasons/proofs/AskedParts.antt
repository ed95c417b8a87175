-- A message that gives a token back, or answers, has a check of one part, which the state of the host decides.
use Rattle.std.proofs.Common.{◌≡◌}
use Rattle.std.specs.Prelude.{◌↔◌}
use Rattle.js_base.specs.declared.ids.HostId.{HostId}
use Rattle.host_code.specs.declared.message.Message.{Message}
use Rattle.host_code.specs.declared.message.Message.TheVariants as message
use Rattle.host_code.specs.Code.{CodeShape}
use Rattle.host_core.specs.Host.{HostState}
use Rattle.host_core.specs.Taking.{PassesCheck}
use Rattle.ignored_reasons.specs.declared.asked.Asked.TheVariants as asked
use Rattle.ignored_reasons.specs.Parts.{GivesTop, IsAwaited}
use Rattle.ignored_reasons.specs.Reasons.{asked_of}

pub gives_back : (code : CodeShape) (host : HostState) (from : HostId) (taken : Message) →
    asked_of taken ≡ asked.GiveBack → (PassesCheck code host from taken ↔ GivesTop host taken)
gives_back code host from (message.Lgoto token) is = (λ passes. passes, λ gives. gives)
gives_back code host from (message.Get request field index) is = absurd (cc is)
gives_back code host from (message.Set request field index value) is = absurd (cc is)
gives_back code host from (message.Forward request frame variable value) is = absurd (cc is)
gives_back code host from (message.Sync request frame entry token) is = absurd (cc is)
gives_back code host from (message.Rgoto frame entry token) is = absurd (cc is)
gives_back code host from (message.RgotoWith frame entry token riders) is = absurd (cc is)
gives_back code host from (message.Value request value) is = absurd (cc is)
gives_back code host from (message.Ack request) is = absurd (cc is)
gives_back code host from (message.Token request token) is = absurd (cc is)

pub answers : (code : CodeShape) (host : HostState) (from : HostId) (taken : Message) →
    asked_of taken ≡ asked.Answer → (PassesCheck code host from taken ↔ IsAwaited host from taken)
answers code host from (message.Value request value) is = (λ passes. passes, λ awaited. awaited)
answers code host from (message.Ack request) is = (λ passes. passes, λ awaited. awaited)
answers code host from (message.Token request token) is = (λ passes. passes, λ awaited. awaited)
answers code host from (message.Get request field index) is = absurd (cc is)
answers code host from (message.Set request field index value) is = absurd (cc is)
answers code host from (message.Forward request frame variable value) is = absurd (cc is)
answers code host from (message.Sync request frame entry token) is = absurd (cc is)
answers code host from (message.Rgoto frame entry token) is = absurd (cc is)
answers code host from (message.RgotoWith frame entry token riders) is = absurd (cc is)
answers code host from (message.Lgoto token) is = absurd (cc is)
