-- What is told of a host file that is refused: what is wrong, where that can be said, and what to try.
use Rattle.std.specs.Prelude.{◌≡◌, ◌⊎◌, ℕ, ◌+◌, ◌≤◌, List, [], ◌++◌, codes, length, Some, None, IsUtf8, slice_get}
use Rattle.std.specs.Option.{option_and_then}
use Rattle.std.specs.Fmt.{decimal}
use Rattle.principals.specs.Refusal.{PrincipalRefusal}
use Rattle.principals.specs.Refusal as principals
use Rattle.toml.specs.Data.{Members}
use Rattle.toml.specs.Parse.{parse_document}
use Rattle.host_decl.specs.declared.schema.Form.{Form}
use Rattle.host_decl.specs.declared.schema.Form.TheVariants as form
use Rattle.host_decl.specs.declared.schema.TableKind.{TableKind}
use Rattle.host_decl.specs.declared.schema.TableKind.TheVariants.{File, Host, Link}
use Rattle.host_decl.specs.Draft.{or_empty, text_at}
use Rattle.host_decl.specs.Reading.{IsDocument}
use Rattle.host_decl.specs.Refusal.{HostsRefusal}
use Rattle.host_decl.specs.Refusal as hosts
use Rattle.front_end.specs.Refusals.{why_no_hosts}
use Rattle.explain_texts.specs.Heads.{told}
use Rattle.explain_texts.specs.Told.{ToldShape}
use Rattle.host_reasons.specs.declared.bad_key.KeyFault.{KeyFault}
use Rattle.host_reasons.specs.declared.bad_key.KeyFault.TheVariants.{Missing, Unknown, OtherForm}
use Rattle.host_reasons.specs.BadKeys.{BadKeyShape, IsBadKeyOf, tables_of_kind}

-- ---- keys

-- what the value at a key has to be
abbrev pub form_text : Form → List ℕ
form_text form.Name = codes "a name"
form_text form.Text = codes "a text"
form_text form.Key = codes "a text of 64 hexadecimal digits"
form_text form.Whole = codes "a whole number"
form_text form.Names = codes "an array of names"
form_text form.Pairs = codes "an array of pairs of texts"
form_text form.Tables = codes "an array of tables"

-- tables of an array are counted from 1
abbrev pub numbered_text : (array : List ℕ) → ℕ → List ℕ
numbered_text array number = codes "[[" ++ (array ++ (codes "]] number " ++ decimal (number + 1)))

abbrev pub table_text : TableKind → ℕ → List ℕ
table_text File number = codes "the file"
table_text Host number = numbered_text (codes "host") number
table_text Link number = numbered_text (codes "link") number

abbrev pub fault_text : (key : List ℕ) → KeyFault → List ℕ
fault_text key Missing = codes ": key '" ++ (key ++ codes "' is missing")
fault_text key Unknown = codes ": there is no key '" ++ (key ++ codes "'")
fault_text key (OtherForm form) = codes ": key '" ++ (key ++ (codes "' has to be " ++ form_text form))

abbrev pub key_message : BadKeyShape → List ℕ
key_message bad = table_text bad.kind bad.number ++ fault_text bad.key bad.fault

-- the bytes are a document with this bad key
abbrev pub HasBadKey : List ℕ → BadKeyShape → Type 0
HasBadKey bytes bad = (file : Members) × IsDocument bytes file × IsBadKeyOf file bad

-- ---- texts that are no TOML

abbrev pub IsToml : List ℕ → Type 0
IsToml bytes = IsUtf8 bytes × ((file : Members) × (parse_document bytes ≡ Some file))

-- ---- labels

-- the text of the label of a host, empty where there is none
abbrev pub label_in : Members → ℕ → List ℕ
label_in file number =
    or_empty (option_and_then (text_at (codes "label")) (slice_get (tables_of_kind Host file) number))

abbrev pub label_message : (name label : List ℕ) → List ℕ
label_message name label =
    codes "host " ++ (name ++ (codes ": '" ++ (label ++ codes "' is no label of these principals")))

-- ---- what to try

abbrev pub principals_remedy : PrincipalRefusal → List ℕ
principals_remedy principals.out_of_memory = []
principals_remedy principals.too_many = codes "try: principals that trust the same may be one\n"
principals_remedy (principals.twice name) = codes "try: drop one of the two\n"
principals_remedy (principals.unknown name) = codes "try: declare it among the principals, or mend the name\n"

abbrev pub remedy : HostsRefusal → List ℕ
remedy (hosts.bad_principals why) = principals_remedy why
remedy hosts.too_many_hosts = codes "try: drop hosts that need hold nothing\n"
remedy (hosts.host_twice name) = codes "try: rename one of the two\n"
remedy hosts.no_host = codes "try: give one [[host]] at least\n"
remedy (hosts.bad_link number) =
    codes "try: name two hosts of the file, each pair once, and a cost from 1 to 1000\n"
remedy other = []

-- ---- the whole

-- the words of the refusal alone
abbrev pub plain : HostsRefusal → ToldShape
plain why = told None (why_no_hosts why) (remedy why)

-- Where a reader of TOML stopped. No more is said of the place than that it lies in the text.
abbrev pub NotTomlTold : List ℕ → ToldShape → Type 0
NotTomlTold bytes what =
    ((at : ℕ) × (at ≤ length bytes) × (what ≡ told (Some at) (codes "not TOML") []))
    ⊎ (IsToml bytes × (what ≡ plain hosts.not_toml))

-- the first bad key, where a key is bad
abbrev pub KeyTold : List ℕ → (key : List ℕ) → ToldShape → Type 0
KeyTold bytes key what =
    ((bad : BadKeyShape) × HasBadKey bytes bad × (what ≡ told None (key_message bad) []))
    ⊎ (((bad : BadKeyShape) → ¬ HasBadKey bytes bad) × (what ≡ plain (hosts.bad_key key)))

-- the label of a host, where the bytes are a document
abbrev pub LabelTold : List ℕ → (number : ℕ) → (name : List ℕ) → ToldShape → Type 0
LabelTold bytes number name what =
    ((file : Members) × IsDocument bytes file × (what ≡ told None (label_message name (label_in file number)) []))
    ⊎ (((file : Members) → ¬ IsDocument bytes file) × (what ≡ plain (hosts.bad_label number name)))

-- this is told of these bytes, which are refused so
abbrev pub HostsTold : List ℕ → HostsRefusal → ToldShape → Type 0
HostsTold bytes hosts.not_toml what = NotTomlTold bytes what
HostsTold bytes (hosts.bad_key key) what = KeyTold bytes key what
HostsTold bytes (hosts.bad_label number name) what = LabelTold bytes number name what
HostsTold bytes hosts.too_long what = what ≡ told None (codes "the host file has more than 65536 bytes") []
HostsTold bytes other what = what ≡ plain other
