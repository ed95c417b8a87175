-- Where the walk over the bodies of the methods starts: the entries of all methods are there, and stand one after the
-- other.
use Rattle.std.specs.Prelude.{◌≡◌, ℕ, suc, List, [], ◌∷◌, ◌++◌, map, length}
use Rattle.std.specs.List.{flat_map}
use Rattle.host_decl.specs.Hosts.{HostsShape}
use Rattle.jif_tree.specs.Trees.{MethodTree}
use Rattle.jif_tree.specs.LabelRules.{method_at}
use Rattle.need_labels.specs.Labelled.{Labelled}
use Rattle.need_labels.specs.Plan.{PlanShape}
use Rattle.msg_cost.specs.Moves.{PlannedShape, home_of, called_home}
use Rattle.split_rules.specs.Emissions.{Emission}
use Rattle.split_rules.specs.Flow.{Scope, State, Pending, stopped}
use Rattle.split_rules.specs.Positions.{all_due, body, calm, Entrance}
use Rattle.split_rules.specs.SplitCode.{site_hosts}
use Rattle.split_rules.specs.Typing.{need_of_method, nowhere, WalkKnown}
use Rattle.split_rules.specs.Walk.{need_of, halt_entries, method_entry}

-- what the code of a program has
abbrev pub scope_of : Labelled → HostsShape → PlanShape → Scope
scope_of labelled hosts plan = record {
  hosts = length hosts.hosts;
  fields = length labelled.program.fields;
  variables = length labelled.program.vars;
  sites = flat_map (λ method. site_hosts plan method.body) labelled.program.methods;
}

-- what is given before the bodies of the methods
abbrev pub front_emissions : Labelled → PlannedShape → List Emission
front_emissions labelled planned =
    halt_entries planned (method_at labelled.program labelled.program.main)
    ++ map (method_entry planned) labelled.program.methods

-- the entries of methods of which the first has this number
abbrev pub method_entries : PlannedShape → ℕ → List MethodTree → List Pending
method_entries planned number [] = []
method_entries planned number (method ∷ methods) =
    record { host = home_of planned method; number = suc number } ∷ method_entries planned (suc number) methods

-- what is known before the bodies of the methods
abbrev pub walk_start : Labelled → PlannedShape → State
walk_start labelled planned = record {
  flow = stopped;
  named =
      called_home planned (method_at labelled.program labelled.program.main)
      ∷ map (home_of planned) labelled.program.methods;
  branches = 0;
  owed = method_entries planned 0 labelled.program.methods;
  opened = [];
}

-- what is known where a walk ends: nothing goes on, and nothing is left to stand or to land
pub record IsEnd (state : State) : Type 0 where
  pub stopped : state.flow ≡ stopped
  pub owed : state.owed ≡ []
  pub opened : state.opened ≡ []

-- the entries of methods of which the first has this number, where all of their bodies is due
abbrev pub method_entrances : PlannedShape → ℕ → List MethodTree → List Entrance
method_entrances planned number [] = []
method_entrances planned number (method ∷ methods) =
    record {
      position = calm (body (record { 0 = number })) (all_due method.body);
      need = need_of planned (method.head ∷ []);
    } ∷ method_entrances planned (suc number) methods

-- what is known of all entries before the bodies of the methods: nothing is due behind the program
abbrev pub known_start : PlannedShape → WalkKnown
known_start planned = record {
  place = nowhere;
  entries = record {
    position = calm (body planned.program.main) [];
    need = need_of_method planned (method_at planned.program planned.program.main);
  } ∷ method_entrances planned 0 planned.program.methods;
  branches = [];
}
