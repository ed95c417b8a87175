-- The words with which the node of a host is started, and what is printed of how nodes ended.
use Rattle.std.specs.Prelude.{ℕ, pos, ◌++◌, Bool, true, false, not, if◌then◌else◌, List, [], ◌∷◌, codes, map}
use Rattle.std.specs.List.{flat_map, list_any, zip}
use Rattle.std.specs.Fmt.{signed_decimal}
use Rattle.std.specs.Ordering.{int_eq}
use Rattle.js_base.specs.declared.status.Status.{Status}
use Rattle.js_base.specs.declared.status.Status.TheVariants as status
use Rattle.host_decl.specs.Hosts.{HostsShape}
use Rattle.launch.specs.declared.child_end.ChildEnd.{ChildEnd}
use Rattle.launch.specs.declared.node_words.Run.{Run}
use Rattle.launch.specs.declared.child_end.ChildEnd.TheVariants.{Ended, NotStarted, NotWaited, NoMemory}

-- the names of the files of a run, and how many turns each node may make
pub record RunWords : Type 0 where
  pub program : List ℕ
  pub hosts : List ℕ
  pub start : List ℕ
  pub turns : List ℕ

abbrev pub run_words : Run → RunWords
run_words run = record {
  program = run.program.now;
  hosts = run.hosts.now;
  start = run.start.now;
  turns = run.turns.now;
}

-- the words for the node of a host of this name
abbrev pub node_words : RunWords → List ℕ → List (List ℕ)
node_words run name =
    codes "--program" ∷ run.program ∷ codes "--hosts" ∷ run.hosts ∷ codes "--host" ∷ name
    ∷ codes "--start" ∷ run.start ∷ codes "--turns" ∷ run.turns ∷ []

-- the names of the hosts of a host file, in order
abbrev pub host_names : HostsShape → List (List ℕ)
host_names file = map (λ host. host.name) file.hosts

-- the words for the node of each of its hosts
abbrev pub all_words : RunWords → HostsShape → List (List (List ℕ))
all_words run file = map (λ host. node_words run host.name) file.hosts

-- how a node ended
abbrev pub end_text : ChildEnd → List ℕ
end_text (Ended status) = codes "ended " ++ signed_decimal status
end_text NotStarted = codes "not started"
end_text NotWaited = codes "not waited"
end_text NoMemory = codes "no memory"

abbrev pub end_line : List ℕ → ChildEnd → List ℕ
end_line name end = codes "host " ++ (name ++ (codes " " ++ (end_text end ++ codes "\n")))

-- a line for each host, in the order of the host file
abbrev pub report : List (List ℕ) → List ChildEnd → List ℕ
report names ends = flat_map (λ one. end_line one.0 one.1) (zip names ends)

-- ---- the status

abbrev pub wants_memory : ChildEnd → Bool
wants_memory (Ended code) = false
wants_memory NotStarted = false
wants_memory NotWaited = false
wants_memory NoMemory = true

abbrev pub has_failed : ChildEnd → Bool
has_failed (Ended code) = false
has_failed NotStarted = true
has_failed NotWaited = true
has_failed NoMemory = false

abbrev pub ended_otherwise : ChildEnd → Bool
ended_otherwise (Ended code) = not (int_eq code (pos 0))
ended_otherwise NotStarted = false
ended_otherwise NotWaited = false
ended_otherwise NoMemory = false

-- The status of a run whose report was put: want of memory at some child, then a child that was not started or not
-- waited for, then one that ended otherwise than with 0.
abbrev pub status_of_ends : List ChildEnd → Status
status_of_ends ends =
    if list_any wants_memory ends then status.NoMemory else
    (if list_any has_failed ends then status.ChildFault else
    (if list_any ended_otherwise ends then status.ChildEnded else status.Done))
