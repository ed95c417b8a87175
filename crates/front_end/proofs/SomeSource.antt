-- A program and a host file have some outcome, whatever bytes they are.
use Rattle.std.proofs.Common.{◌≡◌, ◌≢◌, ℕ, ◌≤◌, List, length, refl, ◌⊎◌, ⊎_elim, Option, Some, None}
use Rattle.js_base.specs.declared.limits.TheConstants.{PROGRAM_BYTES}
use Rattle.principals.specs.ActsFor.{Declared, IsDeclared}
use Rattle.jif_lex.specs.declared.token.Token.{Token}
use Rattle.jif_lex.specs.declared.lexer.LexError.{LexError}
use Rattle.jif_lex.specs.declared.lexer.LexError.TheVariants as lex
use Rattle.jif_lex.specs.Tokens.{ReadsAs, tokens}
use Rattle.jif_lex.specs.Lexing.{LexFails}
use Rattle.jif_grammar.specs.DraftShapes.{DraftShape}
use Rattle.jif_grammar.specs.Drafts.{draft_of}
use Rattle.jif_grammar.specs.Phrases.{ProgramPhrase}
use Rattle.jif_grammar.specs.Programs as grammar
use Rattle.jif_grammar.specs.Verdicts.{refusal_of}
use Rattle.jif_parse.specs.declared.parse_error.ParseError.TheVariants as parse
use Rattle.host_decl.specs.declared.error.HostsError.{HostsError}
use Rattle.host_decl.specs.declared.error.HostsError.TheVariants as hosts_error
use Rattle.host_decl.specs.Hosts.{HostsShape, AreHosts}
use Rattle.host_decl.specs.Reading.{ReadsHosts, RefusesHosts}
use Rattle.host_decl.specs.Refusal.{refusal_shape}
use Rattle.jif_tree.specs.Trees.{ProgramTree}
use Rattle.jif_tree.specs.Numbering.{statement_lines}
use Rattle.jif_tree.specs.LabelRules.{IsWellLabelled}
use Rattle.jif_resolve.specs.declared.fault.FaultKind.{FaultKind}
use Rattle.jif_resolve.specs.declared.fault.FaultKind.TheVariants as kind
use Rattle.jif_resolve.specs.declared.resolve_error.ResolveError.TheVariants as resolve
use Rattle.jif_resolve.specs.Verdicts as verdicts
use Rattle.jif_resolve.specs.Verdicts.{IsProgramOf}
use Rattle.label_check.specs.declared.check_error.CheckError.{CheckError}
use Rattle.label_check.specs.declared.check_error.CheckError.TheVariants as check
use Rattle.label_check.specs.Checking as labels
use Rattle.front_end.specs.Stages.{given, stopped}
use Rattle.front_end.specs.Sources.{Lexed, Parsed, HostsRead, Resolved, ProgramLabelled, Drafted, DraftAccepted}
use Rattle.front_end.specs.Sources.{AcceptedWith}
use Rattle.front_end.specs.Sources.{Sources}
use Rattle.front_end.specs.Verdicts.{hosts_refused, labels_refused, not_lexed, not_parsed, not_resolved}
use Rattle.front_end.proofs.SomeStages.{HasOutcome, some_then}

-- ---- what is known of the stages

abbrev pub SomeTokens : Type 0
SomeTokens = (text : List ℕ) →
    ((list : List Token) × (length text ≤ PROGRAM_BYTES) × ReadsAs text (tokens list))
    ⊎ ((why : LexError) × (why ≢ lex.OutOfMemory) × LexFails text why)

pub record SomeDraft : Type 0 where
  pub refused : (list : List Token) (refusal : grammar.Refusal) → refusal_of list ≡ Some refusal →
      grammar.IsRefused list refusal
  pub whole : (list : List Token) → refusal_of list ≡ None →
      (program : ProgramPhrase) × grammar.IsProgramText list program

pub record SomeHosts : Type 0 where
  pub some : (bytes : List ℕ) → ((hosts : HostsShape) × ReadsHosts bytes hosts)
      ⊎ ((why : HostsError) × (why ≢ hosts_error.OutOfMemory) × RefusesHosts bytes why)
  pub sound : (bytes : List ℕ) (hosts : HostsShape) → ReadsHosts bytes hosts → AreHosts hosts

abbrev pub SomeProgram : Type 0
SomeProgram = (principals : Declared) (draft : DraftShape) → IsDeclared principals →
    ((tree : ProgramTree) × IsProgramOf principals draft tree)
    ⊎ ((refusal : verdicts.Refusal) × verdicts.IsRefused principals draft refusal)

abbrev pub SomeCheck : Type 0
SomeCheck = (principals : Declared) (tree : ProgramTree) → IsWellLabelled principals tree
    ⊎ ((why : CheckError) × (why ≢ check.OutOfMemory) × labels.IsLabelRefusedFor principals tree why)

pub record SourceCauses : Type 0 where
  pub lexing : SomeTokens
  pub grammar : SomeDraft
  pub hosts : SomeHosts
  pub names : SomeProgram
  pub labels : SomeCheck

-- ---- each stage

lexed_some : SomeTokens → (text : List ℕ) → HasOutcome (Lexed text)
lexed_some law text =
    ⊎_elim
    (λ read. (given read.0, (read.1, read.2)))
    (λ fails. let why = fails.0 in
    (stopped (not_lexed why), (why, fails.2, fails.1, refl)))
    (law text)

refused_some : (list : List Token) (refusal : grammar.Refusal) → grammar.IsRefused list refusal →
    HasOutcome (Parsed list)
refused_some list (grammar.unexpected n) refused = (
  stopped (not_parsed (parse.Unexpected n)),
  (parse.Unexpected n, refused, (λ same. let no = same in cc), refl),
)
refused_some list (grammar.too_deep n) refused = (
  stopped (not_parsed (parse.TooDeep n)),
  (parse.TooDeep n, refused, (λ same. let no = same in cc), refl),
)
refused_some list (grammar.too_many counted n) refused = (
  stopped (not_parsed (parse.TooMany counted n)),
  (parse.TooMany counted n, refused, (λ same. let no = same in cc), refl),
)

parsed_by : SomeDraft → (list : List Token) (refusal : Option grammar.Refusal) → refusal_of list ≡ refusal →
    HasOutcome (Parsed list)
parsed_by law list None is =
    let whole = law.whole list is in
    (given (draft_of (grammar.line_at list) whole.0), record { program = whole.0; text = whole.1; draft_is = refl })
parsed_by law list (Some refusal) is = refused_some list refusal (law.refused list refusal is)

parsed_some : SomeDraft → (list : List Token) → HasOutcome (Parsed list)
parsed_some law list = parsed_by law list (refusal_of list) refl

hosts_some : SomeHosts → (bytes : List ℕ) → HasOutcome (HostsRead bytes)
hosts_some law bytes =
    ⊎_elim
    (λ read. (given read.0, read.1))
    (λ fails. let why = fails.0 in (stopped (hosts_refused (refusal_shape why)), (why, fails.2, fails.1, refl)))
    (law.some bytes)

fault_refused : (file : HostsShape) (draft : DraftShape) (at : ℕ) (which : FaultKind) →
    verdicts.IsRefused file.principals draft (verdicts.for_fault (record { at = at; kind = which })) →
    HasOutcome (Resolved file draft)
fault_refused file draft at kind.UnknownName refused = (
  stopped (not_resolved (resolve.UnknownName at)),
  (resolve.UnknownName at, refused, (λ same. let no = same in cc), refl),
)
fault_refused file draft at kind.Twice refused = (
  stopped (not_resolved (resolve.Twice at)),
  (resolve.Twice at, refused, (λ same. let no = same in cc), refl),
)
fault_refused file draft at kind.WrongType refused = (
  stopped (not_resolved (resolve.WrongType at)),
  (resolve.WrongType at, refused, (λ same. let no = same in cc), refl),
)
fault_refused file draft at kind.WrongCount refused = (
  stopped (not_resolved (resolve.WrongCount at)),
  (resolve.WrongCount at, refused, (λ same. let no = same in cc), refl),
)

names_refused : (file : HostsShape) (draft : DraftShape) (refusal : verdicts.Refusal) →
    verdicts.IsRefused file.principals draft refusal → HasOutcome (Resolved file draft)
names_refused file draft (verdicts.for_fault fault) refused =
    fault_refused file draft fault.at fault.kind refused
names_refused file draft verdicts.no_main refused = (
  stopped (not_resolved resolve.NoMain),
  (resolve.NoMain, refused, (λ same. let no = same in cc), refl),
)

resolved_some : SomeProgram → (file : HostsShape) (draft : DraftShape) → IsDeclared file.principals →
    HasOutcome (Resolved file draft)
resolved_some law file draft declared =
    ⊎_elim
    (λ made. (given made.0, made.1))
    (λ refused. names_refused file draft refused.0 refused.1)
    (law file.principals draft declared)

labelled_some : SomeCheck → (file : HostsShape) (tree : ProgramTree) → HasOutcome (ProgramLabelled file tree)
labelled_some law file tree =
    ⊎_elim
    (λ well. (given (record { file = file; tree = tree }), (well, refl)))
    (λ refused. let why = refused.0 in
    (stopped (labels_refused file.principals (statement_lines tree) why), (why, refused.2, refused.1, refl)))
    (law file.principals tree)

-- ---- all stages

drafted_some : SourceCauses → (program : List ℕ) → HasOutcome (Drafted program)
drafted_some laws program =
    some_then (Lexed program) Parsed (lexed_some laws.lexing program) (λ list was. parsed_some laws.grammar list)

accepted_some : SourceCauses → (file : HostsShape) (draft : DraftShape) → IsDeclared file.principals →
    HasOutcome (DraftAccepted file draft)
accepted_some laws file draft declared =
    some_then (Resolved file draft) (ProgramLabelled file) (resolved_some laws.names file draft declared)
    (λ tree was. labelled_some laws.labels file tree)

accepted_with_some : SourceCauses → (hosts : List ℕ) (draft : DraftShape) → HasOutcome (AcceptedWith hosts draft)
accepted_with_some laws hosts draft =
    some_then (HostsRead hosts) (λ file. DraftAccepted file draft) (hosts_some laws.hosts hosts)
    (λ file was. accepted_some laws file draft (laws.hosts.sound hosts file was).declared)

pub sources_some : SourceCauses → (program hosts : List ℕ) → HasOutcome (Sources program hosts)
sources_some laws program hosts =
    some_then (Drafted program) (AcceptedWith hosts) (drafted_some laws program)
    (λ draft was. accepted_with_some laws hosts draft)
