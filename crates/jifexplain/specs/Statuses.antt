-- With which status a verdict ends, and with which `jifsplit check` ends for a program and a host file; and files that
-- hold a host file that is TOML.
use Rattle.std.specs.Prelude.{◌≡◌, ℕ, List, Option, Some}
use Rattle.host_decl.specs.Refusal.{not_toml}
use Rattle.front_end.specs.PlacedSources.{PlacedSource}
use Rattle.front_end.specs.Refusals.{refusal_status}
use Rattle.front_end.specs.Sources.{HostsRead}
use Rattle.front_end.specs.Stages.{StageEnd, given, stopped}
use Rattle.front_end.specs.Verdicts.{VerdictShape, Refuse, Print, hosts_refused}
use Rattle.js_base.specs.declared.status.Status.{Status}
use Rattle.js_base.specs.declared.status.Status.TheVariants.{Done}
use Rattle.jifexplain.specs.Due.{AskFor}

abbrev pub verdict_status : VerdictShape → Status
verdict_status (Refuse refusal) = refusal_status refusal
verdict_status (Print status text) = status

-- `check` prints the places of an accepted program, and otherwise puts the refusal
abbrev pub checked_status : StageEnd PlacedSource → Status
checked_status (given placed) = Done
checked_status (stopped refused) = verdict_status refused

-- What the words name as a host file is TOML, where it is held. Of one that is not, the place is told at which a reader
-- of TOML stopped, and of that place no more is known than that it lies in the file.
abbrev pub HoldsToml : List (List ℕ) → (List ℕ → Option (List ℕ)) → Type 0
HoldsToml words holds =
    (program hosts h : List ℕ) (asked : Option (List ℕ)) → AskFor words program hosts asked → holds hosts ≡ Some h →
    ¬ HostsRead h (stopped (hosts_refused not_toml))
