-- The options of a node, and the words that ask for one.
--
-- Options are `clap`'s. What words ask for is said over `clap`'s own definition of one simple command. It takes
-- `--start=` with an empty word; such a name is a file that is missing.
use Rattle.std.specs.Prelude.{◌≡◌, ℕ, List, [], Option, Some, None, true, codes}
use Rattle.std.specs.Fmt.{decimal}
use Rattle.std.specs.Option.{option_map}
use Rattle.clap.specs.Words.{App, Rule, Text, fault_of, first_of, matches_of, new_app, new_rule, with_rule}
use Rattle.clap.specs.declared.builder.action.ArgAction.TheVariants.{Set}
use Rattle.front_end.specs.StepCounts.{IsStepCount}
use Rattle.node_engine.specs.declared.options.Options.{Options}
use Rattle.node_starts.specs.SourceNames.{SourceName, Program, Code, source_name}

-- ---- the command

-- an option that takes one value
abbrev pub set_option : Text → Rule
set_option name = record (new_rule name) { long = Some name; action = Some Set }

-- one that has to be given
abbrev pub required_option : Text → Rule
required_option name = record (set_option name) { required = true }

-- a command whose words begin behind the program's name
abbrev pub without_name : App → App
without_name app = record app { top = record app.top { no_binary_name = true } }

-- the command of just the options of a node
abbrev pub node_command : App
node_command = with_rule (with_rule (with_rule (with_rule (with_rule (with_rule (with_rule
    (without_name (new_app (codes "jifhost")))
    (required_option (codes "hosts"))) (required_option (codes "host"))) (required_option (codes "start")))
    (required_option (codes "turns"))) (set_option (codes "program"))) (set_option (codes "code")))
    (set_option (codes "seals"))

-- the value that words give an option
abbrev pub value_of : List Text → Text → Option Text
value_of words name = first_of name (matches_of node_command words)

-- ---- what is asked for

pub record Asked : Type 0 where
  pub source : SourceName
  pub hosts : List ℕ
  pub host : List ℕ
  pub start : List ℕ
  pub turns : ℕ
  pub seals : Option (List ℕ)

-- exactly one of both is given, and it is this source
abbrev pub IsSource : Option Text → Option Text → SourceName → Type 0
IsSource program code (Program name) = (program ≡ Some name) × (code ≡ None)
IsSource program code (Code name) = (program ≡ None) × (code ≡ Some name)

-- the words ask for this node
pub record IsAsked (words : List (List ℕ)) (asked : Asked) : Type 0 where
  pub parses : fault_of node_command words ≡ []
  pub hosts : value_of words (codes "hosts") ≡ Some asked.hosts
  pub host : value_of words (codes "host") ≡ Some asked.host
  pub start : value_of words (codes "start") ≡ Some asked.start
  pub turns : value_of words (codes "turns") ≡ Some (decimal asked.turns)
  pub count : IsStepCount asked.turns
  pub seals : value_of words (codes "seals") ≡ asked.seals
  pub source : IsSource (value_of words (codes "program")) (value_of words (codes "code")) asked.source

-- ---- the options that were read, as contracts see them

abbrev pub asked_shape : Options → Asked
asked_shape options = record {
  source = source_name options.source;
  hosts = options.hosts.now;
  host = options.host.now;
  start = options.start.now;
  turns = options.turns;
  seals = option_map (λ name. name.now) options.seals;
}
