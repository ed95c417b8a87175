-- A program and a host file have one outcome: what they say, or the first cause for which one of them is refused.
use Rattle.std.proofs.Common.{◌≡◌, ◌≢◌, ℕ, ◌≤◌, List, length, refl, sym, ap, ◌∙◌, arith}
use Rattle.js_base.specs.declared.limits.TheConstants.{PROGRAM_BYTES}
use Rattle.principals.specs.ActsFor.{Declared, IsDeclared}
use Rattle.jif_lex.specs.declared.token.Token.{Token}
use Rattle.jif_lex.specs.declared.lexer.LexError.{LexError}
use Rattle.jif_lex.specs.declared.lexer.LexError.TheVariants as lex
use Rattle.jif_lex.specs.Tokens.{Reading, ReadsAs, tokens, bad_byte, bad_number}
use Rattle.jif_lex.specs.Lexing.{LexFails}
use Rattle.jif_grammar.specs.DraftShapes.{DraftShape}
use Rattle.jif_grammar.specs.Programs as grammar
use Rattle.jif_parse.specs.declared.parse_error.ParseError.{ParseError}
use Rattle.jif_parse.specs.declared.parse_error.ParseError.TheVariants as parse
use Rattle.jif_parse.specs.Parsing.{IsRefusedBy}
use Rattle.host_decl.specs.declared.error.HostsError.{HostsError}
use Rattle.host_decl.specs.declared.error.HostsError.TheVariants as hosts_error
use Rattle.host_decl.specs.Hosts.{HostsShape, AreHosts}
use Rattle.host_decl.specs.Reading.{ReadsHosts, RefusesHosts}
use Rattle.host_decl.specs.Refusal.{refusal_shape}
use Rattle.jif_tree.specs.Trees.{ProgramTree}
use Rattle.jif_tree.specs.Numbering.{statement_lines}
use Rattle.jif_tree.specs.LabelRules.{IsWellLabelled}
use Rattle.jif_resolve.specs.declared.fault.FaultKind.TheVariants as kind
use Rattle.jif_resolve.specs.declared.resolve_error.ResolveError.{ResolveError}
use Rattle.jif_resolve.specs.declared.resolve_error.ResolveError.TheVariants as resolve
use Rattle.jif_resolve.specs.Refusals as names
use Rattle.jif_resolve.specs.Verdicts as verdicts
use Rattle.jif_resolve.specs.Verdicts.{IsProgramOf}
use Rattle.label_check.specs.declared.check_error.CheckError.{CheckError}
use Rattle.label_check.specs.declared.check_error.CheckError.TheVariants as check
use Rattle.label_check.specs.Checking as labels
use Rattle.front_end.specs.Stages.{given, stopped}
use Rattle.front_end.specs.Sources.{Lexed, Parsed, HostsRead, Resolved, Source, ProgramLabelled, Drafted, DraftAccepted}
use Rattle.front_end.specs.Sources.{AcceptedWith}
use Rattle.front_end.specs.Sources.{Sources}
use Rattle.front_end.specs.Verdicts.{hosts_refused, labels_refused, not_lexed, not_parsed, not_resolved}
use Rattle.front_end.proofs.Stages.{IsOne, give, stop_with, one_then}

-- ---- what is known of the stages

pub record HostLaws : Type 0 where
  pub one_meaning : (bytes : List ℕ) (first second : HostsShape) → ReadsHosts bytes first →
      ReadsHosts bytes second → first ≡ second
  pub one_refusal : (bytes : List ℕ) (first second : HostsError) → RefusesHosts bytes first →
      RefusesHosts bytes second →
      first ≢ hosts_error.OutOfMemory → second ≢ hosts_error.OutOfMemory → refusal_shape first ≡ refusal_shape second
  pub never_both : (bytes : List ℕ) (hosts : HostsShape) (why : HostsError) → ReadsHosts bytes hosts →
      RefusesHosts bytes why → why ≡ hosts_error.OutOfMemory
  pub sound : (bytes : List ℕ) (hosts : HostsShape) → ReadsHosts bytes hosts → AreHosts hosts

pub record GrammarLaws : Type 0 where
  pub one_draft : (list : List Token) (first second : DraftShape) → grammar.IsProgramOf list first →
      grammar.IsProgramOf list second → first ≡ second
  pub one_refusal : (list : List Token) (first second : grammar.Refusal) → grammar.IsRefused list first →
      grammar.IsRefused list second → first ≡ second
  pub never_both : (list : List Token) (draft : DraftShape) (refusal : grammar.Refusal) →
      grammar.IsProgramOf list draft → ¬ grammar.IsRefused list refusal

pub record NameLaws : Type 0 where
  pub one_program : (principals : Declared) (draft : DraftShape) (first second : ProgramTree) →
      IsDeclared principals → IsProgramOf principals draft first → IsProgramOf principals draft second → first ≡ second
  pub one_refusal : (principals : Declared) (draft : DraftShape) (first second : verdicts.Refusal) →
      verdicts.IsRefused principals draft first → verdicts.IsRefused principals draft second → first ≡ second
  pub never_both : (principals : Declared) (draft : DraftShape) (tree : ProgramTree) (refusal : verdicts.Refusal) →
      IsProgramOf principals draft tree → ¬ verdicts.IsRefused principals draft refusal

pub record LabelLaws : Type 0 where
  pub one_refusal : (principals : Declared) (tree : ProgramTree) (first second : CheckError) →
      labels.IsLabelRefusedFor principals tree first → labels.IsLabelRefusedFor principals tree second →
      first ≢ check.OutOfMemory → second ≢ check.OutOfMemory → first ≡ second
  pub never_both : (principals : Declared) (tree : ProgramTree) (why : CheckError) →
      IsWellLabelled principals tree → labels.IsLabelRefusedFor principals tree why → why ≡ check.OutOfMemory

abbrev pub LexLaw : Type 0
LexLaw = (text : List ℕ) (first second : Reading) → ReadsAs text first → ReadsAs text second → first ≡ second

pub record SourceLaws : Type 0 where
  pub lexing : LexLaw
  pub grammar : GrammarLaws
  pub hosts : HostLaws
  pub names : NameLaws
  pub labels : LabelLaws

-- ---- tokens

one_lexing : LexLaw → (text : List ℕ) (first second : LexError) → LexFails text first → LexFails text second →
    first ≢ lex.OutOfMemory → second ≢ lex.OutOfMemory → first ≡ second
one_lexing law text lex.OutOfMemory second one two here there = absurd (here refl)
one_lexing law text lex.TooLong lex.OutOfMemory one two here there = absurd (there refl)
one_lexing law text lex.TooLong lex.TooLong one two here there = refl
one_lexing law text lex.TooLong (lex.BadByte at) one two here there = absurd (let short = two.0 in omega arith)
one_lexing law text lex.TooLong (lex.BadNumber at) one two here there = absurd (let short = two.0 in omega arith)
one_lexing law text (lex.BadByte at) lex.OutOfMemory one two here there = absurd (there refl)
one_lexing law text (lex.BadByte at) lex.TooLong one two here there = absurd (let short = one.0 in omega arith)
one_lexing law text (lex.BadByte at) (lex.BadByte other) one two here there =
    let same = law text (bad_byte at) (bad_byte other) one.1 two.1 in cc
one_lexing law text (lex.BadByte at) (lex.BadNumber other) one two here there =
    let same = law text (bad_byte at) (bad_number other) one.1 two.1 in cc
one_lexing law text (lex.BadNumber at) lex.OutOfMemory one two here there = absurd (there refl)
one_lexing law text (lex.BadNumber at) lex.TooLong one two here there = absurd (let short = one.0 in omega arith)
one_lexing law text (lex.BadNumber at) (lex.BadByte other) one two here there =
    let same = law text (bad_number at) (bad_byte other) one.1 two.1 in cc
one_lexing law text (lex.BadNumber at) (lex.BadNumber other) one two here there =
    let same = law text (bad_number at) (bad_number other) one.1 two.1 in cc

lexed_or_not : LexLaw → (text : List ℕ) (list : List Token) (why : LexError) → length text ≤ PROGRAM_BYTES →
    ReadsAs text (tokens list) → LexFails text why → why ≡ lex.OutOfMemory
lexed_or_not law text list lex.OutOfMemory short reads fails = refl
lexed_or_not law text list lex.TooLong short reads fails = absurd (omega arith)
lexed_or_not law text list (lex.BadByte at) short reads fails =
    let same = law text (tokens list) (bad_byte at) reads fails.1 in cc
lexed_or_not law text list (lex.BadNumber at) short reads fails =
    let same = law text (tokens list) (bad_number at) reads fails.1 in cc

pub lexed_once : LexLaw → (text : List ℕ) → IsOne (Lexed text)
lexed_once law text (given first) (given second) one two =
    let same = law text (tokens first) (tokens second) one.1 two.1 in cc
lexed_once law text (given first) (stopped verdict) one two =
    absurd (two.2 (lexed_or_not law text first two.0 one.0 one.1 two.1))
lexed_once law text (stopped verdict) (given second) one two =
    absurd (one.2 (lexed_or_not law text second one.0 two.0 two.1 one.1))
lexed_once law text (stopped verdict) (stopped other) one two =
    ap (stop_with {X = List Token}) (one.3
    ∙ ap not_lexed (one_lexing law text one.0 two.0 one.1 two.1 one.2 two.2)
    ∙ sym two.3)

-- ---- drafts

-- the error that tells a refusal of tokens
parse_error : grammar.Refusal → ParseError
parse_error (grammar.unexpected at) = parse.Unexpected at
parse_error (grammar.too_deep at) = parse.TooDeep at
parse_error (grammar.too_many counted at) = parse.TooMany counted at

record TellsRefusal (list : List Token) (why : ParseError) : Type 0 where
  refusal : grammar.Refusal
  refused : grammar.IsRefused list refusal
  told : why ≡ parse_error refusal

tells : (list : List Token) (why : ParseError) → IsRefusedBy list why → why ≢ parse.OutOfMemory → TellsRefusal list why
unfolding parse_error
tells list parse.OutOfMemory refused not = absurd (not refl)
tells list (parse.Unexpected at) refused not =
    record { refusal = grammar.unexpected at; refused = refused; told = refl }
tells list (parse.TooDeep at) refused not =
    record { refusal = grammar.too_deep at; refused = refused; told = refl }
tells list (parse.TooMany counted at) refused not =
    record { refusal = grammar.too_many counted at; refused = refused; told = refl }

pub parsed_once : GrammarLaws → (list : List Token) → IsOne (Parsed list)
parsed_once laws list (given first) (given second) one two =
    ap (give {X = DraftShape}) (laws.one_draft list first second one two)
parsed_once laws list (given first) (stopped verdict) one two =
    let told = tells list two.0 two.1 two.2 in absurd (laws.never_both list first told.refusal one told.refused)
parsed_once laws list (stopped verdict) (given second) one two =
    let told = tells list one.0 one.1 one.2 in absurd (laws.never_both list second told.refusal two told.refused)
parsed_once laws list (stopped verdict) (stopped other) one two =
    let here = tells list one.0 one.1 one.2 in
    let there = tells list two.0 two.1 two.2 in
    ap (stop_with {X = DraftShape}) (one.3
    ∙ ap not_parsed (here.told
    ∙ ap parse_error (laws.one_refusal list here.refusal there.refusal here.refused there.refused)
    ∙ sym there.told)
    ∙ sym two.3)

-- ---- hosts

pub hosts_once : HostLaws → (bytes : List ℕ) → IsOne (HostsRead bytes)
hosts_once laws bytes (given first) (given second) one two =
    ap (give {X = HostsShape}) (laws.one_meaning bytes first second one two)
hosts_once laws bytes (given first) (stopped verdict) one two =
    absurd (two.2 (laws.never_both bytes first two.0 one two.1))
hosts_once laws bytes (stopped verdict) (given second) one two =
    absurd (one.2 (laws.never_both bytes second one.0 two one.1))
hosts_once laws bytes (stopped verdict) (stopped other) one two =
    ap (stop_with {X = HostsShape}) (one.3
    ∙ ap hosts_refused (laws.one_refusal bytes one.0 two.0 one.1 two.1 one.2 two.2)
    ∙ sym two.3)

-- ---- names

-- the error that tells a refusal of names
name_error : verdicts.Refusal → ResolveError
name_error (verdicts.for_fault fault) = names.error_for fault
name_error verdicts.no_main = resolve.NoMain

record TellsName (principals : Declared) (draft : DraftShape) (why : ResolveError) : Type 0 where
  refusal : verdicts.Refusal
  refused : verdicts.IsRefused principals draft refusal
  told : why ≡ name_error refusal

tells_name : (principals : Declared) (draft : DraftShape) (why : ResolveError) →
    names.IsRefusedFor principals draft why → why ≢ resolve.OutOfMemory → TellsName principals draft why
unfolding name_error
tells_name principals draft resolve.OutOfMemory refused not = absurd (not refl)
tells_name principals draft (resolve.UnknownName at) refused not =
    record {
      refusal = verdicts.for_fault (record { at = at; kind = kind.UnknownName });
      refused = refused;
      told = refl;
    }
tells_name principals draft (resolve.Twice at) refused not =
    record { refusal = verdicts.for_fault (record { at = at; kind = kind.Twice }); refused = refused; told = refl }
tells_name principals draft (resolve.WrongType at) refused not =
    record { refusal = verdicts.for_fault (record { at = at; kind = kind.WrongType }); refused = refused; told = refl }
tells_name principals draft (resolve.WrongCount at) refused not =
    record { refusal = verdicts.for_fault (record { at = at; kind = kind.WrongCount }); refused = refused; told = refl }
tells_name principals draft resolve.NoMain refused not =
    record { refusal = verdicts.no_main; refused = refused; told = refl }

pub resolved_once : NameLaws → (file : HostsShape) (draft : DraftShape) → IsDeclared file.principals →
    IsOne (Resolved file draft)
resolved_once laws file draft declared (given first) (given second) one two =
    ap (give {X = ProgramTree}) (laws.one_program file.principals draft first second declared one two)
resolved_once laws file draft declared (given first) (stopped verdict) one two =
    let told = tells_name file.principals draft two.0 two.1 two.2 in
    absurd (laws.never_both file.principals draft first told.refusal one told.refused)
resolved_once laws file draft declared (stopped verdict) (given second) one two =
    let told = tells_name file.principals draft one.0 one.1 one.2 in
    absurd (laws.never_both file.principals draft second told.refusal two told.refused)
resolved_once laws file draft declared (stopped verdict) (stopped other) one two =
    let here = tells_name file.principals draft one.0 one.1 one.2 in
    let there = tells_name file.principals draft two.0 two.1 two.2 in
    ap (stop_with {X = ProgramTree}) (one.3
    ∙ ap not_resolved (here.told
    ∙ ap name_error (laws.one_refusal file.principals draft here.refusal there.refusal here.refused there.refused)
    ∙ sym there.told)
    ∙ sym two.3)

-- ---- labels

labelled_once : LabelLaws → (file : HostsShape) (tree : ProgramTree) → IsOne (ProgramLabelled file tree)
labelled_once laws file tree (given first) (given second) one two = ap (give {X = Source}) (one.1 ∙ sym two.1)
labelled_once laws file tree (given first) (stopped verdict) one two =
    absurd (two.2 (laws.never_both file.principals tree two.0 one.0 two.1))
labelled_once laws file tree (stopped verdict) (given second) one two =
    absurd (one.2 (laws.never_both file.principals tree one.0 two.0 one.1))
labelled_once laws file tree (stopped verdict) (stopped other) one two =
    ap (stop_with {X = Source}) (one.3
    ∙ ap (labels_refused file.principals (statement_lines tree))
    (laws.one_refusal file.principals tree one.0 two.0 one.1 two.1 one.2 two.2)
    ∙ sym two.3)

-- ---- all stages

pub drafted_once : SourceLaws → (program : List ℕ) → IsOne (Drafted program)
drafted_once laws program =
    one_then (Lexed program) Parsed (lexed_once laws.lexing program) (λ list was. parsed_once laws.grammar list)

accepted_once : SourceLaws → (file : HostsShape) (draft : DraftShape) → IsDeclared file.principals →
    IsOne (DraftAccepted file draft)
accepted_once laws file draft declared =
    one_then (Resolved file draft) (ProgramLabelled file) (resolved_once laws.names file draft declared)
    (λ tree was. labelled_once laws.labels file tree)

accepted_with_once : SourceLaws → (hosts : List ℕ) (draft : DraftShape) → IsOne (AcceptedWith hosts draft)
accepted_with_once laws hosts draft =
    one_then (HostsRead hosts) (λ file. DraftAccepted file draft) (hosts_once laws.hosts hosts)
    (λ file was. accepted_once laws file draft (laws.hosts.sound hosts file was).declared)

pub sources_once : SourceLaws → (program hosts : List ℕ) → IsOne (Sources program hosts)
sources_once laws program hosts =
    one_then (Drafted program) (AcceptedWith hosts) (drafted_once laws program)
    (λ draft was. accepted_with_once laws hosts draft)
