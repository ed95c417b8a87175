-- What a misbehaving host may present as its own: a token that was not sent names a host of the code that misbehaves.
--
-- A tag of an own token is sixteen zeros. Nobody looks at the tag of a token that names a misbehaving host: no obeying
-- host has it on its stack. So the script writes none, and the event is determined by its line.
use Rattle.std.specs.Prelude.{◌≡◌, ◌<◌, ℕ, List, length, ⊤}
use Rattle.std.specs.Int.{bit_at}
use Rattle.host_code.specs.Code.{CodeHostShape}
use Rattle.event_text.specs.declared.event.Event.{Event}
use Rattle.event_text.specs.declared.event.Event.TheVariants.{Act}
use Rattle.event_text.specs.declared.event.BadMessage.{BadMessage}
use Rattle.event_text.specs.declared.event.BadMessage.TheVariants as bad
use Rattle.event_text.specs.declared.event.BadToken.{BadToken}
use Rattle.event_text.specs.declared.event.BadToken.TheVariants.{Own}

abbrev pub IsOwnToken : List CodeHostShape → ℕ → BadToken → Type 0
IsOwnToken hosts word (Own token) = (token.host.0 < length hosts) × (bit_at word token.host.0 ≡ 1)
IsOwnToken hosts word _ = ⊤

abbrev pub IsOwnMessage : List CodeHostShape → ℕ → BadMessage → Type 0
IsOwnMessage hosts word (bad.Sync request frame entry token) = IsOwnToken hosts word token
IsOwnMessage hosts word (bad.Rgoto frame entry token) = IsOwnToken hosts word token
IsOwnMessage hosts word (bad.RgotoWith frame entry token riders) = IsOwnToken hosts word token
IsOwnMessage hosts word (bad.Lgoto token) = IsOwnToken hosts word token
IsOwnMessage hosts word (bad.Token request token) = IsOwnToken hosts word token
IsOwnMessage hosts word _ = ⊤

-- bit h of the word says that host h misbehaves
abbrev pub IsOwnEvent : List CodeHostShape → ℕ → Event → Type 0
IsOwnEvent hosts word (Act from to made) = IsOwnMessage hosts word made
IsOwnEvent hosts word _ = ⊤
