-- What explains a refusal of a program and a host file: the same cause, with the place in the text, the reasons, and
-- what to try.
--
-- What is refused is read once more, up to the stage before the one that refused it. So nothing has to be kept for what
-- is accepted.
use Rattle.std.specs.Prelude.{◌≡◌, ℕ, List, Option, Some, None}
use Rattle.jif_lex.specs.declared.token.Token.{Token}
use Rattle.jif_lex.specs.declared.lexer.LexError.{LexError}
use Rattle.jif_grammar.specs.DraftShapes.{DraftShape}
use Rattle.jif_parse.specs.declared.parse_error.ParseError.{ParseError}
use Rattle.jif_resolve.specs.declared.resolve_error.ResolveError.{ResolveError}
use Rattle.host_decl.specs.Hosts.{HostsShape}
use Rattle.host_decl.specs.Refusal.{HostsRefusal}
use Rattle.label_reasons.specs.Reasons.{Explained, explained}
use Rattle.explain_texts.specs.Heads.{lexed_told, parsed_told, resolved_told}
use Rattle.explain_texts.specs.Labels.{labels_told}
use Rattle.explain_texts.specs.Sheets.{SheetShape}
use Rattle.explain_texts.specs.Told.{ToldShape}
use Rattle.host_reasons.specs.HostsTold.{HostsTold}
use Rattle.front_end.specs.Refusals as refusals
use Rattle.front_end.specs.Refusals.{RefusalShape}
use Rattle.front_end.specs.Sources.{HostsRead, Lexed, Parsed, Resolved}
use Rattle.front_end.specs.Stages.{DueThen}
use Rattle.front_end.specs.Verdicts.{VerdictShape, Refuse}
use Rattle.jifexplain.specs.Places.{PlacesTold}
use Rattle.jifexplain.specs.Texts.{readable, readable_hosts, sheet_of, told_hosts, told_of}

-- ---- texts and names

abbrev pub LexExplained : (name p : List ℕ) → LexError → VerdictShape → Type 0
LexExplained name p why verdict = verdict ≡ told_of name (readable p) (lexed_told (readable p) why)

abbrev pub ParseExplained : (name p : List ℕ) → ParseError → VerdictShape → Type 0
ParseExplained name p why =
    DueThen (Lexed p)
    (λ list verdict. verdict ≡ told_of name (readable p) (parsed_told (readable p) list why))

abbrev pub ResolveExplained : (name p : List ℕ) → ResolveError → VerdictShape → Type 0
ResolveExplained name p why =
    DueThen (Lexed p) (λ list verdict. verdict ≡ told_of name (readable p) (resolved_told list why))

-- ---- host files

abbrev pub HostsExplained : (name h : List ℕ) → HostsRefusal → VerdictShape → Type 0
HostsExplained name h why verdict =
    (told : ToldShape) × HostsTold (readable_hosts h) why told × (verdict ≡ told_hosts name h told)

-- ---- labels

-- Labels that are refused have an explanation. Where none is found, the refusal stays as it was.
abbrev pub labels_verdict : (name text : List ℕ) → RefusalShape → SheetShape → Explained → VerdictShape
labels_verdict name text refusal sheet None = Refuse refusal
labels_verdict name text refusal sheet (Some why) = told_of name text (labels_told sheet why.0 why.1 why.2)

-- with the tokens, the draft and the hosts
abbrev pub TreeExplained : (name p : List ℕ) → RefusalShape → List Token → DraftShape → HostsShape → VerdictShape →
    Type 0
TreeExplained name p refusal list draft file =
    DueThen (Resolved file draft) (λ tree verdict.
    verdict ≡ labels_verdict name (readable p) refusal (sheet_of list draft file tree)
    (explained file.principals tree))

abbrev pub DraftExplained : (name p h : List ℕ) → RefusalShape → List Token → DraftShape → VerdictShape → Type 0
DraftExplained name p h refusal list draft =
    DueThen (HostsRead h) (TreeExplained name p refusal list draft)

abbrev pub TokensExplained : (name p h : List ℕ) → RefusalShape → List Token → VerdictShape → Type 0
TokensExplained name p h refusal list = DueThen (Parsed list) (DraftExplained name p h refusal list)

abbrev pub LabelsExplained : (name p h : List ℕ) → RefusalShape → VerdictShape → Type 0
LabelsExplained name p h refusal = DueThen (Lexed p) (TokensExplained name p h refusal)

-- ---- all causes

-- what explains a refusal of a program and a host file of these names and bytes, where it is asked about these parts
abbrev pub Explains : (program hosts p h : List ℕ) (asked : Option (List ℕ)) → RefusalShape → VerdictShape → Type 0
Explains program hosts p h asked (refusals.Lex why) = LexExplained program p why
Explains program hosts p h asked (refusals.Parse why) = ParseExplained program p why
Explains program hosts p h asked (refusals.Resolve why) = ResolveExplained program p why
Explains program hosts p h asked (refusals.Labels why line words) =
    LabelsExplained program p h (refusals.Labels why line words)
Explains program hosts p h asked (refusals.Hosts why) = HostsExplained hosts h why
Explains program hosts p h asked (refusals.Places why words) = PlacesTold program p h asked (Some why)
Explains program hosts p h asked other = λ verdict. verdict ≡ Refuse other

-- the same of what is due
abbrev pub ExplainsVerdict : (program hosts p h : List ℕ) (asked : Option (List ℕ)) → VerdictShape → VerdictShape →
    Type 0
ExplainsVerdict program hosts p h asked (Refuse refusal) = Explains program hosts p h asked refusal
ExplainsVerdict program hosts p h asked other = λ verdict. verdict ≡ other
