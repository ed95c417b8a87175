-- What becomes of the program that is made for a number of statements, and of its host file: they are read, each part
-- of the program has a host that may hold it, and the program runs to its end.
use Rattle.std.specs.Prelude.{◌≡◌, ℕ, ◌≤◌, ℤ, List, length, map}
use Rattle.js_base.specs.declared.limits.TheConstants.{PROGRAM_BYTES}
use Rattle.jif_lex.specs.declared.token.Token.{Token}
use Rattle.jif_lex.specs.Tokens.{ReadsAs, tokens}
use Rattle.jif_grammar.specs.DraftShapes.{DraftShape}
use Rattle.jif_grammar.specs.Programs as grammar
use Rattle.host_decl.specs.Hosts.{HostsShape}
use Rattle.host_decl.specs.Reading.{ReadsHosts}
use Rattle.jif_tree.specs.declared.program.Program.{Program}
use Rattle.jif_tree.specs.LabelRules.{IsWellLabelled, program_labels, variable_labels}
use Rattle.jif_tree.specs.SourceRun.{HasLength}
use Rattle.jif_tree.specs.Trees.{ProgramTree, program_tree}
use Rattle.jif_resolve.specs.Verdicts.{IsProgramOf}
use Rattle.need_labels.specs.Labelled.{Labelled}
use Rattle.need_labels.specs.Needs.{NeedsShape, AreNeedsOf}
use Rattle.place_rules.specs.Allowed.{AllowedShape}
use Rattle.place_rules.specs.PlaceRules.{AreAllowed}
use Rattle.made_laws.specs.MadePrograms.{made_hosts, made_program}

-- a program of these hosts with the labels that the label check finds
abbrev pub labelled_with : HostsShape → ProgramTree → Labelled
labelled_with file tree = record {
  program = tree;
  var_labels = variable_labels file.principals tree;
  pc = map (λ statement. statement.pc) (program_labels file.principals tree);
}

-- The text has tokens, which are a draft, and the host file says hosts. The names of the draft stand for a program, its
-- labels keep the rules, and each of its parts has one of the hosts at least that may hold it.
pub record IsMadeAccepted (statements : ℕ) : Type 0 where
  pub few : length (made_program statements) ≤ PROGRAM_BYTES
  pub list : List Token
  pub read : ReadsAs (made_program statements) (tokens list)
  pub draft : DraftShape
  pub parsed : grammar.IsProgramOf list draft
  pub file : HostsShape
  pub hosts : ReadsHosts made_hosts file
  pub tree : ProgramTree
  pub resolved : IsProgramOf file.principals draft tree
  pub labelled : IsWellLabelled file.principals tree
  pub needs : NeedsShape
  pub needs_are : AreNeedsOf file.principals (labelled_with file tree) needs
  pub allowed : AllowedShape
  pub allowed_are : AreAllowed (labelled_with file tree) needs file allowed
  -- from any starting values its plain run takes a step for each statement
  pub runs : (program : Program) (values : List (List ℤ)) → program_tree program ≡ tree →
      HasLength program values statements
