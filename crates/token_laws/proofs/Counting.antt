-- How many messages and waiting threads there are of a kind.
use Rattle.std.proofs.Common.{ℕ, zero, suc, ◌+◌, List}
use Rattle.std.specs.Prelude.{◌==◌, ◌&&◌, Bool, true, false, if◌then◌else◌, sum_by, Option, Some, None}
use Rattle.js_base.specs.declared.ids.HostId.{HostId}
use Rattle.js_base.specs.declared.ids.RequestId.{RequestId}
use Rattle.host_code.specs.declared.message.Message.{Message}
use Rattle.host_code.specs.Thread.{WaitingShape}
use Rattle.net_world.specs.Flying.{Flying}
use Rattle.token_laws.specs.Requests.{number_asked, number_answered}

abbrev pub one_if : Bool → ℕ
one_if holds = if holds then 1 else 0

-- what numbers below a count come to
abbrev pub sum_below : ℕ → (ℕ → ℕ) → ℕ
sum_below zero worth = 0
sum_below (suc count) worth = worth count + sum_below count worth

abbrev pub host_of : ℕ → HostId
host_of number = record { 0 = number }

-- ---- requests

abbrev pub is_request : RequestId → RequestId → Bool
is_request one other = one.at == other.at && one.count == other.count

abbrev pub is_number : RequestId → Option RequestId → Bool
is_number request None = false
is_number request (Some number) = is_request number request

-- whether a message is the request of this number, or an answer to it
abbrev pub asks : RequestId → Message → Bool
asks request m = is_number request (number_asked m)

abbrev pub answers : RequestId → Message → Bool
answers request m = is_number request (number_answered m)

-- how many messages of a kind are in flight from a host to another
abbrev pub between : (Message → Bool) → Flying → HostId → HostId → ℕ
between kind flying from to = sum_by (λ flight. one_if (kind flight.message)) (flying from to)

abbrev pub any : Message → Bool
any m = true

-- how many threads wait for the number, of any host or of one
abbrev pub waiting_for : RequestId → List WaitingShape → ℕ
waiting_for request threads = sum_by (λ waiting. one_if (is_request waiting.request request)) threads

abbrev pub waiting_for_from : RequestId → HostId → List WaitingShape → ℕ
waiting_for_from request asked threads =
    sum_by (λ waiting. one_if (is_request waiting.request request && waiting.asked.0 == asked.0)) threads
