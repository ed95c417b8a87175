-- What a misbehaving host asks. That does not depend on the token that it presents, so it is known before the token is.
use Rattle.event_text.specs.declared.event.BadMessage.{BadMessage}
use Rattle.event_text.specs.declared.event.BadMessage.TheVariants as bad
use Rattle.ignored_reasons.specs.declared.asked.Asked.{Asked}
use Rattle.ignored_reasons.specs.declared.asked.Asked.TheVariants as asked

abbrev pub asked_in : BadMessage → Asked
asked_in (bad.Get request field index) = asked.Get field
asked_in (bad.Set request field index value) = asked.Set field
asked_in (bad.Forward request frame variable value) = asked.Forward variable
asked_in (bad.Sync request frame entry token) = asked.Enter entry
asked_in (bad.Rgoto frame entry token) = asked.Enter entry
asked_in (bad.RgotoWith frame entry token riders) = asked.EnterWith entry riders
asked_in (bad.Lgoto token) = asked.GiveBack
asked_in (bad.Value request value) = asked.Answer
asked_in (bad.Ack request) = asked.Answer
asked_in (bad.Token request token) = asked.Answer
