-- What is known of a program that was read and checked, for whoever makes its code.
use Rattle.std.specs.Prelude.{◌≤◌, List, All, length}
use Rattle.js_base.specs.declared.limits.TheConstants.{HOSTS_BYTES}
use Rattle.host_decl.specs.Hosts.{HostsShape}
use Rattle.jif_lex.specs.declared.token.Token.{Token}
use Rattle.jif_lex.specs.TokenLists.{AreTokens}
use Rattle.jif_grammar.specs.DraftShapes.{DraftShape}
use Rattle.jif_grammar.specs.Programs as grammar
use Rattle.jif_tree.specs.Limits.{IsWithinLimits}
use Rattle.jif_tree.specs.Named.{AreNamed}
use Rattle.jif_tree.specs.Numbering.{CountsFrom, site_numbers, statement_numbers}
use Rattle.jif_tree.specs.Trees.{ProgramTree}
use Rattle.jif_tree.specs.WellNumbered.{IsWellNumbered}

-- no name of a host is longer than a host file may be
abbrev pub AreShort : HostsShape → Type 0
AreShort hosts = All (λ host. length host.name ≤ HOSTS_BYTES) hosts.hosts

-- the draft was parsed of the tokens of some text
pub record IsReadDraft (draft : DraftShape) : Type 0 where
  pub list : List Token
  pub tokens : AreTokens list
  pub parsed : grammar.IsProgramOf list draft

-- its statements and sites are numbered, all has names, and it is within the limits
pub record IsReadProgram (program : ProgramTree) : Type 0 where
  pub numbered : IsWellNumbered program
  pub statements : CountsFrom 0 (statement_numbers program)
  pub sites : CountsFrom 1 (site_numbers program)
  pub named : AreNamed program
  pub within : IsWithinLimits program
