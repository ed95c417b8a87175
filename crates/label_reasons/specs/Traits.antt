-- What is held against a label: an owner keeps it from a reader, or a principal does not trust it.
--
-- A label may flow to another one exactly where nothing is held against the first that is not held against the second.
-- A join has a trait exactly where a part has it, for pairs and for principals alike. So one walk over the parts of a
-- label finds what brought the trait in, whichever it is.
use Rattle.std.specs.Prelude.{◌<◌, Bool, not, IsTrue, length}
use Rattle.js_base.specs.declared.limits.TheConstants.{PRINCIPALS}
use Rattle.principals.specs.ActsFor.{Declared}
use Rattle.label_lattice.specs.declared.label.Label.{Label}
use Rattle.label_lattice.specs.declared.label.TheConstants.{READERS}
use Rattle.label_lattice.specs.Printed.{forbids, is_trusted_by}
use Rattle.label_reasons.specs.declared.reason.Trait.{Trait}
use Rattle.label_reasons.specs.declared.reason.Trait.TheVariants.{Keeps, Distrusts}

-- whether it is held against a label
abbrev pub has : Trait → Label → Bool
has (Keeps owner reader) label = forbids label owner reader
has (Distrusts principal) label = not (is_trusted_by label principal)

-- a label has a place for it
abbrev pub IsTrait : Trait → Type 0
IsTrait (Keeps owner reader) = (owner < PRINCIPALS) × (reader < READERS)
IsTrait (Distrusts principal) = principal < READERS

-- And a principal that does not trust is declared: whoever is not trusts no label, not even the bottom.
abbrev pub IsDeclaredTrait : Declared → Trait → Type 0
IsDeclaredTrait principals (Keeps owner reader) = IsTrait (Keeps owner reader)
IsDeclaredTrait principals (Distrusts principal) =
    IsTrait (Distrusts principal) × (principal < length principals.names)

-- the first label has it, and the second has not
abbrev pub TraitIsLacking : Trait → Label → Label → Type 0
TraitIsLacking trait from to = IsTrue (has trait from) × ¬ IsTrue (has trait to)
