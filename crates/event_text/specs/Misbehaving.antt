-- The lines that name the hosts that misbehave.
--
-- Scripts name misbehaving hosts before they set values. So the word of misbehaving hosts is known when the first act
-- is read, and a token that an act calls its own can be refused by its line alone, before any event happens.
use Rattle.std.specs.Prelude.{ℕ, ◌^◌, if◌then◌else◌, List, [], ◌∷◌, Option, Some, None, bit_or, codes, is_some}
use Rattle.std.specs.Option.{option_and_then}
use Rattle.std.specs.Str.{bytes_eq}
use Rattle.js_base.specs.declared.ids.HostId.{HostId}
use Rattle.host_code.specs.Code.{CodeHostShape}
use Rattle.event_text.specs.Lines.{LineShape}
use Rattle.event_text.specs.Parts.{host_named}
use Rattle.event_text.specs.Words.{Word, one_word}

-- the host that the words name: `bad HOST`
abbrev pub bad_of : List CodeHostShape → List Word → Option HostId
bad_of hosts [] = None
bad_of hosts (verb ∷ words) =
    if bytes_eq verb (codes "bad") then option_and_then (λ host. host_named hosts host) (one_word words) else None

abbrev pub and_host : Option HostId → List HostId → List HostId
and_host None others = []
and_host (Some host) others = host ∷ others

-- the hosts that the lines name, up to the first line that names none
abbrev pub bad_in_front : List CodeHostShape → List LineShape → List HostId
bad_in_front hosts [] = []
bad_in_front hosts (line ∷ others) = and_host (bad_of hosts line.words) (bad_in_front hosts others)

-- the lines from the first on that names none
abbrev pub past_bad : List CodeHostShape → List LineShape → List LineShape
past_bad hosts [] = []
past_bad hosts (line ∷ others) = if is_some (bad_of hosts line.words) then past_bad hosts others else line ∷ others

-- a word with the bits that it had, and that of each of these hosts
abbrev pub with_hosts : ℕ → List HostId → ℕ
with_hosts word [] = word
with_hosts word (host ∷ hosts) = with_hosts (bit_or word (2 ^ host.0)) hosts
