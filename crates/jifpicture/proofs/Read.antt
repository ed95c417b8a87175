-- What is known of a program that was read, for the texts and the marks of its statements.
use Rattle.std.proofs.Common.{◌≡◌, ◌↔◌, ◌≤◌, ℕ, Bool, true, false, List, Option, Some, None, refl, sym, ap, ◌∙◌, length}
use Rattle.std.specs.Prelude.{slice_get, slice_index, unwrap_or}
use Rattle.std.specs.List.{Contains}
use Rattle.js_base.specs.declared.limits.TheConstants.{PROGRAM_BYTES}
use Rattle.principals.specs.ActsFor.{Declared, IsDeclared}
use Rattle.jif_lex.specs.declared.token.Token.{Token}
use Rattle.jif_lex.specs.Tokens.{ReadsAs, tokens}
use Rattle.jif_grammar.specs.DraftShapes.{DraftShape}
use Rattle.jif_grammar.specs.Programs as grammar
use Rattle.jif_resolve.specs.Verdicts.{IsProgramOf}
use Rattle.jif_tree.specs.Named.{AreNamed}
use Rattle.jif_tree.specs.Numbering.{CountsFrom, statement_lines, statement_numbers}
use Rattle.jif_tree.specs.Trees.{ProgramTree}
use Rattle.host_decl.specs.Hosts.{AreHosts, HostsShape}
use Rattle.host_decl.specs.Reading.{ReadsHosts}
use Rattle.front_end.specs.PlacedSources.{PlacedSource, PlacedSources}
use Rattle.front_end.specs.Stages.{given}
use Rattle.front_end.proofs.ReadSources.{read_source, source_given}
use Rattle.releasing_statements.specs.Marks.{released_statements}
use Rattle.releasing_statements.specs.Releases.{program_releases}
use Rattle.statement_texts.specs.Texts.{StatementTextShape}
use Rattle.plan_picture.specs.Boxes.{statement_of, statement_text, statement_there}
use Rattle.plan_picture.specs.declared.boxes.Place.{Place}
use Rattle.jifpicture.specs.Picture.{sheet_of}

-- what is known of whatever was read
pub record ReadLaws : Type 0 where
  pub named : (text : List ℕ) (list : List Token) (principals : Declared) (draft : DraftShape) (program : ProgramTree) →
      length text ≤ PROGRAM_BYTES → ReadsAs text (tokens list) → grammar.IsProgramOf list draft →
      IsProgramOf principals draft program → AreNamed program
  pub numbered : (principals : Declared) (draft : DraftShape) (tree : ProgramTree) →
      IsProgramOf principals draft tree → CountsFrom 0 (statement_numbers tree)
  pub hosts : (bytes : List ℕ) (hosts : HostsShape) → ReadsHosts bytes hosts → AreHosts hosts

-- the names of the program, the numbers of its statements, and the principals of its host file
pub record IsReadPlaced (placed : PlacedSource) : Type 0 where
  pub declared : IsDeclared placed.source.file.principals
  pub named : AreNamed placed.source.tree
  pub numbered : CountsFrom 0 (statement_numbers placed.source.tree)

pub read_placed : ReadLaws → (program hosts : List ℕ) (placed : PlacedSource) →
    PlacedSources program hosts (given placed) → IsReadPlaced placed
read_placed laws program hosts placed accepted =
    let read = read_source program hosts placed.source (source_given program hosts placed accepted) in
    let file = placed.source.file in
    record {
      declared = (laws.hosts hosts file read.file).declared;
      named = laws.named program read.list file.principals read.draft placed.source.tree read.few read.read read.parsed
          read.resolved;
      numbered = laws.numbered file.principals read.draft placed.source.tree read.resolved;
    }

-- ---- marks

-- whether there is a mark
there_or_not : (found : Option Bool) → (unwrap_or found false ≡ true) ↔ (found ≡ Some true)
there_or_not None = (λ is. absurd (let no = is in cc), λ is. absurd (let no = is in cc))
there_or_not (Some true) = (λ is. refl, λ is. refl)
there_or_not (Some false) = (λ is. absurd (let no = is in cc), λ is. absurd (let no = is in cc))

pub marked : (placed : PlacedSource) (number : ℕ) (text : StatementTextShape) (room : ℕ) (place : Place) →
    ((slice_get (released_statements placed.source.tree) number ≡ Some true)
    ↔ Contains (program_releases placed.source.tree) number) →
    slice_get (sheet_of placed).texts number ≡ Some text →
    (mark : Bool) × ((mark ≡ true) ↔ Contains (program_releases placed.source.tree) number)
    × (statement_of (sheet_of placed) (record { 0 = number }) room place
    ≡ statement_text text number (slice_index (statement_lines placed.source.tree) number) mark room place)
marked placed number text room place both here =
    let sheet = sheet_of placed in
    let found = slice_get (released_statements placed.source.tree) number in
    let mark = unwrap_or found false in
    let either = there_or_not found in
    let line = slice_index (statement_lines placed.source.tree) number in (
      mark,
      (λ is. both.0 (either.0 is), λ there. either.1 (both.1 there)),
      ap (λ (one : Option StatementTextShape). statement_there one number line mark room place) here,
    )
