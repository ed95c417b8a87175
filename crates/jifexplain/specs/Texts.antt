-- What texts and parts of a program are told by.
use Rattle.std.specs.Prelude.{ℕ, nat_lt, if◌then◌else◌, List, [], length}
use Rattle.js_base.specs.declared.limits.TheConstants.{HOSTS_BYTES, PROGRAM_BYTES}
use Rattle.jif_lex.specs.declared.token.Token.{Token}
use Rattle.jif_grammar.specs.DraftShapes.{DraftShape}
use Rattle.jif_tree.specs.Trees.{ProgramTree}
use Rattle.host_decl.specs.Hosts.{HostsShape}
use Rattle.place_rules.specs.declared.place_error.PlaceError.{PlaceError}
use Rattle.place_rules.specs.declared.place_error.PlaceError.TheVariants as place
use Rattle.explain_texts.specs.DraftPlaces.{draft_places}
use Rattle.explain_texts.specs.Heads.{no_memory}
use Rattle.explain_texts.specs.Sheets.{SheetShape}
use Rattle.explain_texts.specs.Told.{ToldShape, told_text}
use Rattle.explain_texts.specs.Unheld.{field_told, statement_told}
use Rattle.front_end.specs.Refusals as refusals
use Rattle.front_end.specs.Verdicts.{VerdictShape, Refuse}

-- what is read of a program: nothing of one that is too long
abbrev pub readable : List ℕ → List ℕ
readable p = if nat_lt PROGRAM_BYTES (length p) then [] else p

-- a program of this name and text is refused, and this is told of it
abbrev pub told_of : (name text : List ℕ) → ToldShape → VerdictShape
told_of name text told = Refuse (refusals.SourceExplained (told_text name text told))

-- what is read of a host file: nothing of one that is too long
abbrev pub readable_hosts : List ℕ → List ℕ
readable_hosts h = if nat_lt HOSTS_BYTES (length h) then [] else h

-- a host file of this name and these bytes is refused, and this is told of it
abbrev pub told_hosts : (name h : List ℕ) → ToldShape → VerdictShape
told_hosts name h told = Refuse (refusals.InputExplained (told_text name (readable_hosts h) told))

-- what names the parts of a program
abbrev pub sheet_of : List Token → DraftShape → HostsShape → ProgramTree → SheetShape
sheet_of list draft file tree = record {
  tokens = list;
  places = draft_places draft;
  principals = file.principals;
  tree = tree;
}

-- what is told of a part that no host may hold
abbrev pub unheld_told : List Token → DraftShape → PlaceError → ToldShape
unheld_told list draft place.OutOfMemory = no_memory
unheld_told list draft (place.NoHostForField field) = field_told list draft field
unheld_told list draft (place.NoHostForStatement statement) = statement_told list draft statement
