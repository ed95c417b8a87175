-- Why words or files are refused: the cause, with its place. Each program says it under a name of its own. A word, a
-- name and a file are lists of bytes.
use Rattle.std.specs.Prelude.{ℕ, List, [], ◌∷◌, ◌++◌, codes, slice_get, slice_index, string_bytes, unwrap_or}
use Rattle.std.specs.Fmt.{decimal}
use Rattle.std.specs.Option.{option_map}
use Rattle.js_base.specs.declared.text.TheConstants.{LINE_FEED}
use Rattle.js_base.specs.declared.status.Status.{Status}
use Rattle.js_base.specs.declared.status.Status.TheVariants as status
use Rattle.js_base.specs.declared.ids.EntryId.{EntryId}
use Rattle.js_base.specs.declared.ids.FieldId.{FieldId}
use Rattle.js_base.specs.declared.ids.StmtId.{StmtId}
use Rattle.principals.specs.ActsFor.{Declared}
use Rattle.principals.specs.Refusal.{PrincipalRefusal}
use Rattle.principals.specs.Refusal as principals
use Rattle.host_decl.specs.Refusal.{HostsRefusal}
use Rattle.host_decl.specs.Refusal as hosts
use Rattle.jif_lex.specs.declared.lexer.LexError.{LexError}
use Rattle.jif_lex.specs.declared.lexer.LexError.TheVariants as lex
use Rattle.label_lattice.specs.Printed.{printed_label}
use Rattle.jif_grammar.specs.declared.what.What.{What}
use Rattle.jif_grammar.specs.declared.what.What.TheVariants as what
use Rattle.jif_parse.specs.declared.parse_error.ParseError.{ParseError}
use Rattle.jif_parse.specs.declared.parse_error.ParseError.TheVariants as parse
use Rattle.jif_resolve.specs.declared.resolve_error.ResolveError.{ResolveError}
use Rattle.jif_resolve.specs.declared.resolve_error.ResolveError.TheVariants as resolve
use Rattle.label_check.specs.declared.check_error.CheckError.{CheckError}
use Rattle.label_check.specs.declared.check_error.CheckError.TheVariants as check
use Rattle.jif_tree.specs.Numbering.{statement_lines}
use Rattle.jif_tree.specs.Trees.{ProgramTree}
use Rattle.place_rules.specs.declared.place_error.PlaceError.{PlaceError}
use Rattle.place_rules.specs.declared.place_error.PlaceError.TheVariants as place
use Rattle.split_file.specs.declared.error.SplitError.{SplitError}
use Rattle.split_file.specs.declared.error.SplitError.TheVariants as split
use Rattle.front_end.specs.declared.refusal.LineCause.{LineCause}
use Rattle.front_end.specs.declared.refusal.LineCause.TheVariants as line_cause
use Rattle.front_end.specs.declared.refusal.Refusal as native
use Rattle.front_end.specs.declared.refusal.Refusal.TheVariants as variants

-- Labels and places are refused for a cause of numbers, and in the words that name labels, fields and lines.
pub data RefusalShape : Type 0 where
  Usage : (forms : List ℕ) → RefusalShape
  NoSuchFile : (file : List ℕ) → RefusalShape
  FileFault : (file : List ℕ) → RefusalShape
  Lex : LexError → RefusalShape
  Parse : ParseError → RefusalShape
  Resolve : ResolveError → RefusalShape
  Labels : (why : CheckError) (line : ℕ) (words : List ℕ) → RefusalShape
  Hosts : HostsRefusal → RefusalShape
  Places : (why : PlaceError) (words : List ℕ) → RefusalShape
  TooLong : (file : List ℕ) → RefusalShape
  AtLine : (file : List ℕ) (line : ℕ) (why : LineCause) → RefusalShape
  BadDiffer : RefusalShape
  StartsDiffer : (field : List ℕ) → RefusalShape
  BadCode : (file : List ℕ) (why : SplitError) → RefusalShape
  NoHost : (name : List ℕ) → RefusalShape
  OtherHosts : (code hosts : List ℕ) → RefusalShape
  NoKey : (file host : List ℕ) → RefusalShape
  WeakEntry : (file : List ℕ) (entry : EntryId) (place : ℕ) → RefusalShape
  Reveals : (file : List ℕ) (place : ℕ) → RefusalShape
  WrongJournals : RefusalShape
  NoRun : (file : List ℕ) (line : ℕ) (host : List ℕ) → RefusalShape
  TwoFields : (file name : List ℕ) → RefusalShape
  TwoVariables : (file name : List ℕ) → RefusalShape
  SourceExplained : (text : List ℕ) → RefusalShape
  InputExplained : (text : List ℕ) → RefusalShape

-- what a refusal of the program says
abbrev pub refusal_shape : native.Refusal → RefusalShape
refusal_shape (variants.Usage forms) = Usage (string_bytes forms)
refusal_shape (variants.NoSuchFile file) = NoSuchFile (string_bytes file)
refusal_shape (variants.FileFault file) = FileFault (string_bytes file)
refusal_shape (variants.Lex why) = Lex why
refusal_shape (variants.Parse why) = Parse why
refusal_shape (variants.Resolve why) = Resolve why
refusal_shape (variants.Labels why line words) = Labels why line (string_bytes words)
refusal_shape (variants.Hosts why) = Hosts (hosts.refusal_shape why)
refusal_shape (variants.Places why words) = Places why (string_bytes words)
refusal_shape (variants.TooLong file) = TooLong (string_bytes file)
refusal_shape (variants.AtLine file line why) = AtLine (string_bytes file) line why
refusal_shape variants.BadDiffer = BadDiffer
refusal_shape (variants.StartsDiffer field) = StartsDiffer (string_bytes field)
refusal_shape (variants.BadCode file why) = BadCode (string_bytes file) why
refusal_shape (variants.NoHost name) = NoHost (string_bytes name)
refusal_shape (variants.OtherHosts code hosts) = OtherHosts (string_bytes code) (string_bytes hosts)
refusal_shape (variants.NoKey file host) = NoKey (string_bytes file) (string_bytes host)
refusal_shape (variants.WeakEntry file entry place) = WeakEntry (string_bytes file) entry place
refusal_shape (variants.Reveals file place) = Reveals (string_bytes file) place
refusal_shape variants.WrongJournals = WrongJournals
refusal_shape (variants.NoRun file line host) = NoRun (string_bytes file) line (string_bytes host)
refusal_shape (variants.TwoFields file name) = TwoFields (string_bytes file) (string_bytes name)
refusal_shape (variants.TwoVariables file name) = TwoVariables (string_bytes file) (string_bytes name)
refusal_shape (variants.SourceExplained text) = SourceExplained (string_bytes text)
refusal_shape (variants.InputExplained text) = InputExplained (string_bytes text)

-- the status with which a refused program ends
abbrev pub refusal_status : RefusalShape → Status
refusal_status (Usage forms) = status.Usage
refusal_status (FileFault file) = status.FileFault
refusal_status (Lex why) = status.SourceRefused
refusal_status (Parse why) = status.SourceRefused
refusal_status (Resolve why) = status.SourceRefused
refusal_status (Labels why line words) = status.SourceRefused
refusal_status (Places why words) = status.SourceRefused
refusal_status (NoSuchFile file) = status.InputRefused
refusal_status (Hosts why) = status.InputRefused
refusal_status (TooLong file) = status.InputRefused
refusal_status (AtLine file line why) = status.InputRefused
refusal_status BadDiffer = status.InputRefused
refusal_status (StartsDiffer field) = status.InputRefused
refusal_status (BadCode file why) = status.InputRefused
refusal_status (NoHost name) = status.InputRefused
refusal_status (OtherHosts code hosts) = status.InputRefused
refusal_status (NoKey file host) = status.InputRefused
refusal_status (WeakEntry file entry place) = status.InputRefused
refusal_status (Reveals file place) = status.InputRefused
refusal_status WrongJournals = status.InputRefused
refusal_status (NoRun file line host) = status.InputRefused
refusal_status (TwoFields file name) = status.InputRefused
refusal_status (TwoVariables file name) = status.InputRefused
refusal_status (SourceExplained text) = status.SourceRefused
refusal_status (InputExplained text) = status.InputRefused

-- ---- programs

-- why a text has no tokens
abbrev pub why_no_tokens : LexError → List ℕ
why_no_tokens lex.OutOfMemory = codes "no memory"
why_no_tokens (lex.BadByte at) = codes "bad byte at " ++ decimal at
why_no_tokens (lex.BadNumber at) = codes "bad number at " ++ decimal at
why_no_tokens lex.TooLong = codes "too long"

-- what there is too much of
abbrev pub name_of : What → List ℕ
name_of what.Fields = codes "fields"
name_of what.Methods = codes "methods"
name_of what.Parameters = codes "parameters"
name_of what.Locals = codes "locals"
name_of what.Statements = codes "statements"
name_of what.Nodes = codes "expression nodes"
name_of what.Elements = codes "array elements"

-- why tokens are no program
abbrev pub why_not_parsed : ParseError → List ℕ
why_not_parsed parse.OutOfMemory = codes "no memory"
why_not_parsed (parse.Unexpected at) = codes "unexpected token " ++ decimal at
why_not_parsed (parse.TooDeep at) = codes "nested past 64"
why_not_parsed (parse.TooMany counted at) = codes "too many " ++ name_of counted

-- why the names of a program are refused
abbrev pub why_not_resolved : ResolveError → List ℕ
why_not_resolved resolve.OutOfMemory = codes "no memory"
why_not_resolved (resolve.UnknownName at) = codes "unknown name at token " ++ decimal at
why_not_resolved (resolve.Twice at) = codes "name twice at token " ++ decimal at
why_not_resolved (resolve.WrongType at) = codes "wrong type at token " ++ decimal at
why_not_resolved (resolve.WrongCount at) = codes "wrong count at token " ++ decimal at
why_not_resolved resolve.NoMain = codes "no main"

-- the statement at which labels are refused
abbrev pub refused_statement : CheckError → StmtId
refused_statement check.OutOfMemory = record { 0 = 0 }
refused_statement (check.BadFlow statement from to) = statement
refused_statement (check.BadBegin statement pc begin) = statement
refused_statement (check.NoAuthority statement) = statement
refused_statement (check.WeakProgramLabel statement) = statement

-- why labels are refused
abbrev pub why_not_labelled : Declared → CheckError → List ℕ
why_not_labelled principals check.OutOfMemory = codes "no memory"
why_not_labelled principals (check.BadFlow statement from to) =
    printed_label principals from ++ codes " may not flow to " ++ printed_label principals to
why_not_labelled principals (check.BadBegin statement pc begin) =
    codes "program label " ++ printed_label principals pc ++ codes " may not flow to begin label "
    ++ printed_label principals begin
why_not_labelled principals (check.NoAuthority statement) = codes "no authority"
why_not_labelled principals (check.WeakProgramLabel statement) = codes "program label not trusted"

-- ---- host files

-- why principals are refused
abbrev pub why_no_principals : PrincipalRefusal → List ℕ
why_no_principals principals.out_of_memory = codes "no memory"
why_no_principals principals.too_many = codes "too many principals"
why_no_principals (principals.twice name) = codes "principal " ++ (name ++ codes " twice")
why_no_principals (principals.unknown name) = codes "unknown principal " ++ name

-- why a host file is refused
abbrev pub why_no_hosts : HostsRefusal → List ℕ
why_no_hosts hosts.out_of_memory = codes "no memory"
why_no_hosts hosts.not_toml = codes "not TOML"
why_no_hosts (hosts.bad_key name) = codes "bad key " ++ name
why_no_hosts (hosts.bad_label number name) = codes "bad label of host " ++ name
why_no_hosts (hosts.bad_principals why) = why_no_principals why
why_no_hosts hosts.too_many_hosts = codes "too many hosts"
why_no_hosts (hosts.host_twice name) = codes "host " ++ (name ++ codes " twice")
why_no_hosts hosts.no_host = codes "no host"
why_no_hosts (hosts.bad_link number) = codes "bad link " ++ decimal number
why_no_hosts hosts.too_long = codes "too long"

-- ---- places

abbrev pub name_of_field : ProgramTree → FieldId → List ℕ
name_of_field tree field = unwrap_or (option_map (λ one. one.name) (slice_get tree.fields field.0)) []

-- what of the program no host may hold
abbrev pub unheld : ProgramTree → PlaceError → List ℕ
unheld tree place.OutOfMemory = []
unheld tree (place.NoHostForField field) = codes "field " ++ name_of_field tree field
unheld tree (place.NoHostForStatement statement) =
    codes "statement " ++ decimal statement.0 ++ codes " (line "
    ++ decimal (slice_index (statement_lines tree) statement.0) ++ codes ")"

-- ---- scripts and split files

-- why a line of a script is refused
abbrev pub why_not_line : LineCause → List ℕ
why_not_line line_cause.NoForm = codes "no form"
why_not_line line_cause.NotThere = codes "not there"
why_not_line line_cause.HostBusy = codes "host busy"
why_not_line line_cause.NotMisbehaving = codes "not misbehaving"
why_not_line line_cause.EventsDiffer = codes "events differ"
why_not_line line_cause.NotPrompt = codes "not prompt"
why_not_line line_cause.NoMatch = codes "no list meets this"
why_not_line line_cause.NotEnded = codes "not ended"
why_not_line (line_cause.NoSuchToken number count) =
    codes "no such token " ++ (decimal number ++ (codes ", " ++ (decimal count ++ codes " sent")))

-- why a split file is refused
abbrev pub why_no_code : SplitError → List ℕ
why_no_code split.OutOfMemory = codes "no memory"
why_no_code split.Short = codes "short"
why_no_code split.BadMagic = codes "bad magic"
why_no_code split.BadVersion = codes "bad version"
why_no_code (split.BadField at) = codes "bad field at " ++ decimal at
why_no_code split.Trailing = codes "trailing bytes"

-- ---- the whole

-- the words of a refusal, which stand behind the program's name
abbrev pub refusal_text : RefusalShape → List ℕ
refusal_text (Usage forms) = codes "usage: " ++ forms
refusal_text (NoSuchFile file) = file ++ codes ": no such file"
refusal_text (FileFault file) = codes "file fault: " ++ file
refusal_text (Lex why) = codes "program: " ++ why_no_tokens why
refusal_text (Parse why) = codes "program: " ++ why_not_parsed why
refusal_text (Resolve why) = codes "program: " ++ why_not_resolved why
refusal_text (Labels why line words) =
    codes "statement " ++ (decimal (refused_statement why).0
    ++ (codes " (line " ++ (decimal line ++ (codes "): " ++ words))))
refusal_text (Hosts why) = codes "hosts: " ++ why_no_hosts why
refusal_text (Places why words) = codes "no host may hold " ++ words
refusal_text (TooLong file) = file ++ codes ": too long"
refusal_text (AtLine file line why) = file ++ (codes " line " ++ (decimal line ++ (codes ": " ++ why_not_line why)))
refusal_text BadDiffer = codes "the misbehaving hosts differ"
refusal_text (StartsDiffer field) = codes "starting values of " ++ (field ++ codes " differ")
refusal_text (BadCode file why) = file ++ (codes ": " ++ why_no_code why)
refusal_text (NoHost name) = codes "no host " ++ name
refusal_text (OtherHosts code hosts) = codes "the hosts of " ++ (code ++ (codes " are not those of " ++ hosts))
refusal_text (NoKey file host) = file ++ (codes ": no key for host " ++ host)
refusal_text (WeakEntry file entry place) =
    file ++ (codes ": instruction " ++ (decimal place
    ++ (codes " names more than the need of entry e" ++ decimal entry.0)))
refusal_text (Reveals file place) =
    file ++ (codes ": instruction " ++ (decimal place ++ codes " shows a host what it may not see"))
refusal_text WrongJournals = codes "wrong number of journals"
refusal_text (NoRun file line host) =
    file ++ (codes " line " ++ (decimal line ++ (codes ": no run of " ++ (host ++ codes " has this line here"))))
refusal_text (TwoFields file name) = file ++ (codes ": " ++ (name ++ codes " is the name of two fields"))
refusal_text (TwoVariables file name) = file ++ (codes ": " ++ (name ++ codes " is the name of two variables"))
refusal_text (SourceExplained text) = text
refusal_text (InputExplained text) = text

-- a line of a program of this name on the error output
abbrev pub error_line : (program text : List ℕ) → List ℕ
error_line program text = program ++ (codes ": " ++ (text ++ LINE_FEED ∷ []))

-- what is said where memory ran out
abbrev pub no_memory_line : (program : List ℕ) → List ℕ
no_memory_line program = error_line program (codes "no memory")
