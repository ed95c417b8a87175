-- The host file that is made, read as TOML.
use Rattle.std.proofs.Common.{◌≡◌, refl, Some, codes, ℕ, List}
use Rattle.toml.specs.Data.{Data, string, array, table, no_items, item, Members, no_members, member}
use Rattle.toml.specs.Parse.{parse_document}
use Rattle.toml.proofs.OnLiterals.{toml_on_literals}
use Rattle.made_laws.specs.MadePrograms.{made_hosts}

-- a table of a host with this label and this name
abbrev pub host_table : List ℕ → List ℕ → Data
host_table label name =
    table (member (codes "label") (string label) (member (codes "name") (string name) no_members))

abbrev pub made_members : Members
made_members =
    member (codes "host") (array (item (host_table (codes "{?:Alice, Bob}") (codes "T"))
    (item (host_table (codes "{Alice:; ?:Alice}") (codes "A"))
    (item (host_table (codes "{Bob:; ?:Bob}") (codes "B")) no_items))))
    (member (codes "principals") (array (item (string (codes "Alice")) (item (string (codes "Bob")) no_items)))
    no_members)

pub reads_members : parse_document made_hosts ≡ Some made_members
unfolding toml_on_literals
reads_members = refl
