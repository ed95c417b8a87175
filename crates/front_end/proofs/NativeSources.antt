-- The tree of a source that was read is that of a program of the code.
use Rattle.std.proofs.Common.{ℕ, ◌≤◌, List, length, arith}
use Rattle.js_base.specs.declared.limits.TheConstants.{PROGRAM_BYTES}
use Rattle.principals.specs.ActsFor.{Declared}
use Rattle.jif_lex.specs.declared.token.Token.{Token}
use Rattle.jif_lex.specs.TokenLists.{AreTokens}
use Rattle.jif_lex.specs.Tokens.{ReadsAs, tokens}
use Rattle.jif_grammar.specs.DraftShapes.{DraftShape}
use Rattle.jif_grammar.specs.Programs as grammar
use Rattle.jif_tree.specs.Limits.{IsWithinLimits}
use Rattle.jif_tree.specs.Named.{AreNamed}
use Rattle.jif_tree.specs.Numbering.{CountsFrom, site_numbers, statement_numbers}
use Rattle.jif_tree.specs.Trees.{ProgramTree, program_tree}
use Rattle.jif_tree.specs.WellNumbered.{IsWellNumbered}
use Rattle.jif_resolve.specs.Sizes.{KeepsLimits}
use Rattle.jif_resolve.specs.Verdicts.{IsProgramOf}
use Rattle.front_end.specs.ReadPrograms.{IsReadProgram}
use Rattle.front_end.specs.Sources.{Source, Sources}
use Rattle.front_end.specs.Stages.{given}
use Rattle.front_end.proofs.ListLimits.{short_variables, short_authorities}
use Rattle.front_end.proofs.NativeParts.{IsSeen}
use Rattle.front_end.proofs.NativePrograms.{program_seen}
use Rattle.front_end.proofs.ReadSources.{read_source}

-- what is known of the lists and names of programs that were read
pub record NativeLaws : Type 0 where
  pub small : (text : List ℕ) (list : List Token) → length text ≤ PROGRAM_BYTES → ReadsAs text (tokens list) →
      AreTokens list
  pub named : (list : List Token) (principals : Declared) (draft : DraftShape) (program : ProgramTree) →
      AreTokens list → grammar.IsProgramOf list draft → IsProgramOf principals draft program → AreNamed program
  pub kept : (list : List Token) (draft : DraftShape) → grammar.IsProgramOf list draft → KeepsLimits draft
  pub within : (principals : Declared) (draft : DraftShape) (tree : ProgramTree) → KeepsLimits draft →
      IsProgramOf principals draft tree → IsWithinLimits tree
  pub numbered : (principals : Declared) (draft : DraftShape) (tree : ProgramTree) →
      IsProgramOf principals draft tree → IsWellNumbered tree

-- what is known of a source, with the numbers of its statements and call sites
pub is_read : NativeLaws → (program hosts : List ℕ) (source : Source) →
    CountsFrom 0 (statement_numbers source.tree) → CountsFrom 1 (site_numbers source.tree) →
    Sources program hosts (given source) → IsReadProgram source.tree
is_read laws program hosts source statements sites accepted =
    let read = read_source program hosts source accepted in
    let principals = source.file.principals in
    let small = laws.small program read.list read.few read.read in
    let keeps = laws.kept read.list read.draft read.parsed in
    record {
      numbered = laws.numbered principals read.draft source.tree read.resolved;
      statements = statements;
      sites = sites;
      named = laws.named read.list principals read.draft source.tree small read.parsed read.resolved;
      within = laws.within principals read.draft source.tree keeps read.resolved;
    }

pub source_seen : NativeLaws → (program hosts : List ℕ) (source : Source) → Sources program hosts (given source) →
    IsSeen program_tree source.tree
source_seen laws program hosts source accepted =
    let read = read_source program hosts source accepted in
    let principals = source.file.principals in
    let small = laws.small program read.list read.few read.read in
    let keeps = laws.kept read.list read.draft read.parsed in
    program_seen source.tree (record {
      named = laws.named read.list principals read.draft source.tree small read.parsed read.resolved;
      within = laws.within principals read.draft source.tree keeps read.resolved;
      numbered = laws.numbered principals read.draft source.tree read.resolved;
      variables = omega (arith, short_variables principals read.draft source.tree keeps read.resolved);
      authorities = short_authorities read.list principals read.draft source.tree small.0 read.parsed read.resolved;
    })
