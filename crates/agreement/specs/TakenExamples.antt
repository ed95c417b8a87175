-- Messages that are taken by hosts of which little is seen.
use Rattle.std.specs.Prelude.{ℤ, [], ◌∷◌}
use Rattle.host_code.specs.declared.message.Message.TheVariants as message
use Rattle.host_code.specs.Thread.{WaitingShape}
use Rattle.host_code.specs.Thread.Awaited.{acknowledgement}
use Rattle.host_core.specs.Start.{main_frame}
use Rattle.net_world.specs.Flying.{Flight}
use Rattle.token_laws.specs.TokenExamples.{host_id, first_request}
use Rattle.agreement.specs.Taken.{answer_view}
use Rattle.agreement.specs.Turns.{variable_shown}
use Rattle.agreement.specs.Views.{LowView, HostView, with_host, host_with_thread}
use Rattle.agreement.specs.Worked.{small_eyes, idle, runs_at, a_variable}

-- the message that host 1 acknowledged
abbrev pub an_ack : Flight
an_ack = record { message = message.Ack first_request; label = 0 }

-- a thread of host 0 waits for that, and goes on at a place that may be seen
abbrev pub a_waiting : WaitingShape
a_waiting = record { thread = runs_at 3; awaited = acknowledgement; request = first_request; asked = host_id 1 }

-- it is seen waiting, and the message in flight from host 1
abbrev pub waits_seen : LowView
waits_seen = record (with_host idle (host_id 0) (record (idle.hosts (host_id 0)) { waiting = a_waiting ∷ [] })) {
  flying = λ from to. an_ack ∷ [];
}

-- it was woken on a host of which this was seen
abbrev pub woken_on : LowView → LowView
woken_on view =
    let rested : HostView = record (view.hosts (host_id 0)) { waiting = [] } in
    with_host (with_host view (host_id 0) rested) (host_id 0) (host_with_thread rested (runs_at 3))

-- a variable was set for host 1, which is answered
abbrev pub set_for : ℤ → LowView
set_for value =
    answer_view small_eyes
    (with_host idle (host_id 0) (variable_shown (idle.hosts (host_id 0)) main_frame a_variable value)) (host_id 1)
    (host_id 0) 0 (message.Ack first_request)
