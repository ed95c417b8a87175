-- What the tokens of a world come to, where each counts as much as it is worth.
use Rattle.std.proofs.Common.{ℕ, ◌+◌, length}
use Rattle.std.specs.Prelude.{◌==◌, ◌&&◌, Option, Some, None, Bool, sum_by}
use Rattle.std.specs.Str.{bytes_eq}
use Rattle.capability.specs.declared.token.Token.{Token}
use Rattle.host_code.specs.Thread.{ThreadShape}
use Rattle.host_core.specs.Host.{HostState}
use Rattle.net_world.specs.Flying.{Flying}
use Rattle.net_world.specs.Told.{token_in}
use Rattle.net_world.specs.World.{WorldShape, tokens_sent}
use Rattle.token_laws.proofs.Counting.{sum_below, host_of, one_if}

abbrev pub worth_held : (Token → ℕ) → Option Token → ℕ
worth_held worth None = 0
worth_held worth (Some token) = worth token

abbrev pub worth_running : (Token → ℕ) → Option ThreadShape → ℕ
worth_running worth None = 0
worth_running worth (Some thread) = worth_held worth thread.held

-- what a host holds: the tokens of its running thread and of those that wait, and those that are kept with entries
abbrev pub worth_state : (Token → ℕ) → HostState → ℕ
worth_state worth state =
    worth_running worth state.running + sum_by (λ waiting. worth_held worth waiting.thread.held) state.waiting
    + sum_by (λ on_stack. worth on_stack.kept) state.entries

abbrev pub worth_host : (Token → ℕ) → Option HostState → ℕ
worth_host worth None = 0
worth_host worth (Some state) = worth_state worth state

-- what is in flight from one host to another
abbrev pub worth_between : (Token → ℕ) → Flying → ℕ → ℕ → ℕ
worth_between worth flying from to =
    sum_by (λ flight. worth_held worth (token_in flight.message)) (flying (host_of from) (host_of to))

-- what is in flight between so many hosts
abbrev pub worth_flying : (Token → ℕ) → ℕ → Flying → ℕ
worth_flying worth count flying = sum_below count (λ from. sum_below count (worth_between worth flying from))

-- what hosts hold, and what is in flight
abbrev pub worth_world : (Token → ℕ) → WorldShape → ℕ
worth_world worth world =
    sum_by (worth_host worth) world.hosts + worth_flying worth (length world.hosts) world.flying

-- what misbehaving hosts were sent
abbrev pub worth_sent : (Token → ℕ) → WorldShape → ℕ
worth_sent worth world = sum_by worth (tokens_sent world)

-- ---- one token

-- whether two tokens are the same in all their parts
abbrev pub is_token : Token → Token → Bool
is_token one other =
    (one.host.0 == other.host.0 && (one.frame.site.0 == other.frame.site.0 && one.frame.count == other.frame.count))
    && ((one.entry.0 == other.entry.0 && one.serial == other.serial) && bytes_eq one.tag other.tag)

-- one for this token, and nothing for all others
abbrev pub one_of : Token → Token → ℕ
one_of token other = one_if (is_token token other)
