-- Which thread waits for an answer.
use Rattle.std.specs.Prelude.{Bool, true, false, ◌==◌, ◌&&◌}
use Rattle.js_base.specs.declared.ids.HostId.{HostId}
use Rattle.js_base.specs.declared.ids.RequestId.{RequestId}
use Rattle.host_code.specs.Thread as shape
use Rattle.host_code.specs.Thread.{WaitingShape}
use Rattle.host_code.specs.Thread.Awaited.{value_of_field, acknowledgement, token_of_entry}
use Rattle.host_core.specs.declared.thread.Awaited.{Awaited}
use Rattle.host_core.specs.declared.thread.Awaited.TheVariants.{Value, Ack, Token}

abbrev pub awaited_shape : Awaited → shape.Awaited
awaited_shape Value = value_of_field
awaited_shape Ack = acknowledgement
awaited_shape Token = token_of_entry

abbrev pub is_same_answer : shape.Awaited → shape.Awaited → Bool
is_same_answer value_of_field value_of_field = true
is_same_answer acknowledgement acknowledgement = true
is_same_answer token_of_entry token_of_entry = true
is_same_answer _ _ = false

-- whether a thread waits for such an answer to this request from this host
abbrev pub awaits : shape.Awaited → RequestId → HostId → WaitingShape → Bool
awaits awaited request from waiting =
    (is_same_answer waiting.awaited awaited
    && (waiting.request.at == request.at && waiting.request.count == request.count)) && waiting.asked.0 == from.0
