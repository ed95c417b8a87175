-- What is at hand for the lines of a program.
use Rattle.std.specs.Prelude.{◌≡◌, ◌<◌, ◌^◌, List, All, length, ⊤}
use Rattle.std.specs.List.{AllZip}
use Rattle.principals.specs.ActsFor.{Declared, AreDeclared}
use Rattle.host_decl.specs.Hosts.{HostShape}
use Rattle.jif_tree.specs.Trees.{ProgramTree, program_tree}
use Rattle.explain_texts.specs.DraftPlaces.{places_shape}
use Rattle.explain_texts.specs.Sheets.{SheetShape}
use Rattle.need_labels.specs.Labelled.{Labelled, all_labels, labelled_of}
use Rattle.place_reasons.specs.Search.{AreTold}
use Rattle.place_texts.specs.declared.lines.Holding.{Holding}
use Rattle.place_texts.specs.declared.lines.HostTold.{HostTold}
use Rattle.place_texts.specs.Parts.{PartShape, field, head, statement}

-- what names the parts of the program
abbrev pub sheet_of : Holding → SheetShape
sheet_of holding = record {
  tokens = holding.tokens.now;
  places = places_shape holding.places.now;
  principals = holding.hosts.now.principals;
  tree = program_tree holding.checked.now.program;
}

-- for each host, what the reads of the program tell it
abbrev pub AreToldHosts : Declared → Labelled → List HostShape → List HostTold → Type 0
AreToldHosts principals labelled hosts told =
    AllZip (λ host one. AreTold principals labelled host.label one.fields.items) hosts told

-- the labels at hand are those of the program, and so is what its reads tell
pub record IsHolding (holding : Holding) : Type 0 where
  pub labels : holding.labels.now ≡ all_labels (labelled_of holding.checked.now)
  pub few : length holding.checked.now.program.vars.items < 2 ^ 32
  pub few_methods : length holding.checked.now.program.methods.items < 2 ^ 32
  pub told : AreToldHosts holding.hosts.now.principals (labelled_of holding.checked.now) holding.hosts.now.hosts
      holding.told.now

-- a part of the program: a field that is there, and a statement of a method with declared authority
abbrev pub IsProgramPart : Declared → ProgramTree → PartShape → Type 0
IsProgramPart principals tree (field number) = number.0 < length tree.fields
IsProgramPart principals tree (head method) = ⊤
IsProgramPart principals tree (statement method block) = AreDeclared principals method.authority

abbrev pub ArePartsOf : Declared → ProgramTree → List PartShape → Type 0
ArePartsOf principals tree parts = All (IsProgramPart principals tree) parts
