-- What a program and a host file say: the hosts, and the program whose names are resolved and whose labels keep the
-- rules. Otherwise the first cause for which one of them is refused.
use Rattle.std.specs.Prelude.{◌≡◌, ◌≢◌, ℕ, ◌≤◌, List, length}
use Rattle.js_base.specs.declared.limits.TheConstants.{PROGRAM_BYTES}
use Rattle.jif_lex.specs.declared.token.Token.{Token}
use Rattle.jif_lex.specs.declared.lexer.LexError.{LexError}
use Rattle.jif_lex.specs.declared.lexer.LexError.TheVariants as lex
use Rattle.jif_lex.specs.Tokens.{ReadsAs, tokens}
use Rattle.jif_lex.specs.Lexing.{LexFails}
use Rattle.jif_grammar.specs.DraftShapes.{DraftShape}
use Rattle.jif_grammar.specs.Programs as grammar
use Rattle.jif_parse.specs.declared.parse_error.ParseError.{ParseError}
use Rattle.jif_parse.specs.declared.parse_error.ParseError.TheVariants as parse
use Rattle.jif_parse.specs.Parsing.{IsRefusedBy}
use Rattle.host_decl.specs.declared.error.HostsError.{HostsError}
use Rattle.host_decl.specs.declared.error.HostsError.TheVariants as hosts_error
use Rattle.host_decl.specs.Hosts.{HostsShape}
use Rattle.host_decl.specs.Reading.{ReadsHosts, RefusesHosts}
use Rattle.host_decl.specs.Refusal.{refusal_shape}
use Rattle.jif_tree.specs.Trees.{ProgramTree}
use Rattle.jif_tree.specs.Numbering.{statement_lines}
use Rattle.jif_tree.specs.LabelRules.{IsWellLabelled}
use Rattle.jif_resolve.specs.declared.resolve_error.ResolveError.{ResolveError}
use Rattle.jif_resolve.specs.declared.resolve_error.ResolveError.TheVariants as resolve
use Rattle.jif_resolve.specs.Refusals as names
use Rattle.jif_resolve.specs.Verdicts.{IsProgramOf}
use Rattle.label_check.specs.declared.check_error.CheckError.{CheckError}
use Rattle.label_check.specs.declared.check_error.CheckError.TheVariants as check
use Rattle.label_check.specs.Checking as labels
use Rattle.front_end.specs.Stages.{StageEnd, given, stopped, Then}
use Rattle.front_end.specs.Verdicts.{hosts_refused, labels_refused, not_lexed, not_parsed, not_resolved}

-- the tokens of a program
abbrev pub Lexed : List ℕ → StageEnd (List Token) → Type 0
Lexed bytes (given list) = (length bytes ≤ PROGRAM_BYTES) × ReadsAs bytes (tokens list)
Lexed bytes (stopped verdict) =
    (why : LexError) × LexFails bytes why × (why ≢ lex.OutOfMemory) × (verdict ≡ not_lexed why)

-- the draft that tokens are
abbrev pub Parsed : List Token → StageEnd DraftShape → Type 0
Parsed list (given draft) = grammar.IsProgramOf list draft
Parsed list (stopped verdict) =
    (why : ParseError) × IsRefusedBy list why × (why ≢ parse.OutOfMemory)
    × (verdict ≡ not_parsed why)

-- the hosts of a host file
abbrev pub HostsRead : List ℕ → StageEnd HostsShape → Type 0
HostsRead bytes (given file) = ReadsHosts bytes file
HostsRead bytes (stopped verdict) =
    (why : HostsError) × RefusesHosts bytes why × (why ≢ hosts_error.OutOfMemory)
    × (verdict ≡ hosts_refused (refusal_shape why))

-- the program of a draft
abbrev pub Resolved : HostsShape → DraftShape → StageEnd ProgramTree → Type 0
Resolved file draft (given tree) = IsProgramOf file.principals draft tree
Resolved file draft (stopped verdict) =
    (why : ResolveError) × names.IsRefusedFor file.principals draft why × (why ≢ resolve.OutOfMemory)
    × (verdict ≡ not_resolved why)

-- a program and the hosts that it is for
pub record Source : Type 0 where
  pub file : HostsShape
  pub tree : ProgramTree

-- a program is accepted with these hosts where its labels keep the rules
abbrev pub ProgramLabelled : HostsShape → ProgramTree → StageEnd Source → Type 0
ProgramLabelled file tree (given source) =
    IsWellLabelled file.principals tree × (source ≡ record { file = file; tree = tree })
ProgramLabelled file tree (stopped verdict) =
    (why : CheckError) × labels.IsLabelRefusedFor file.principals tree why × (why ≢ check.OutOfMemory)
    × (verdict ≡ labels_refused file.principals (statement_lines tree) why)

-- ---- the stages in order

-- a program, up to its draft
abbrev pub Drafted : List ℕ → StageEnd DraftShape → Type 0
Drafted program = Then (Lexed program) Parsed

-- a draft, with the hosts that were read
abbrev pub DraftAccepted : HostsShape → DraftShape → StageEnd Source → Type 0
DraftAccepted file draft = Then (Resolved file draft) (ProgramLabelled file)

-- a host file, and a draft with its hosts
abbrev pub AcceptedWith : List ℕ → DraftShape → StageEnd Source → Type 0
AcceptedWith hosts draft = Then (HostsRead hosts) (λ file. DraftAccepted file draft)

-- a program and a host file
abbrev pub Sources : List ℕ → List ℕ → StageEnd Source → Type 0
Sources program hosts = Then (Drafted program) (AcceptedWith hosts)
