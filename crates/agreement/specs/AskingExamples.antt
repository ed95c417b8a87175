-- What is seen where a host of the small code asks the other for an element of its field.
use Rattle.std.specs.Prelude.{◌==◌, if◌then◌else◌, ℤ, [], ◌∷◌}
use Rattle.js_base.specs.declared.ids.FrameId.{FrameId}
use Rattle.capability.specs.declared.token.Token.{Token}
use Rattle.host_code.specs.declared.message.Message.TheVariants as message
use Rattle.host_code.specs.Thread.Awaited.{value_of_field}
use Rattle.net_world.specs.Flying.{with_flights}
use Rattle.token_laws.specs.TokenExamples.{host_id, a_field, first_request, second_token}
use Rattle.agreement.specs.Views.{LowView, with_host}
use Rattle.agreement.specs.Worked.{idle, runs_at, came_to}

-- a token of the other host, for a frame that no thread here is in
abbrev pub other_frame : FrameId
other_frame = record { site = record { 0 = 0 }; count = 5 }

abbrev pub other_token : Token
other_token = record second_token { host = host_id 1; frame = other_frame }

-- The thread waits, its instruction has asked once, and a get for this element is in flight.
abbrev pub asked_for : ℤ → LowView
asked_for index = record (with_host (came_to 1) (host_id 0) (record (idle.hosts (host_id 0)) {
  waiting = record {
    thread = runs_at 2;
    awaited = value_of_field;
    request = first_request;
    asked = host_id 1;
  }
      ∷ [];
  requests = λ number. if number == 1 then 1 else 0;
})) {
  flying = with_flights idle.flying (host_id 0) (host_id 1)
      (record { message = message.Get first_request a_field index; label = 0 } ∷ []);
}
