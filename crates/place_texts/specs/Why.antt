-- How it is told why a host of this name may not hold a part of a program.
use Rattle.std.specs.Prelude.{ℕ, ◌==◌, if◌then◌else◌, List, [], ◌++◌, codes, Option, Some, None}
use Rattle.std.specs.Fmt.{decimal}
use Rattle.js_base.specs.declared.ids.MethodId.{MethodId}
use Rattle.js_base.specs.declared.ids.StmtId.{StmtId}
use Rattle.principals.specs.ActsFor.{Declared}
use Rattle.label_reasons.specs.declared.reason.Trait.{Trait}
use Rattle.label_reasons.specs.declared.reason.Trait.TheVariants.{Keeps, Distrusts}
use Rattle.label_reasons.specs.declared.reason.Source.TheVariants.{OfBegin}
use Rattle.label_reasons.specs.declared.reason.Cause.{Cause}
use Rattle.explain_texts.specs.Causes.{cause_text, on_line, source_text}
use Rattle.explain_texts.specs.Names.{field_name, method_around, method_name, principal_name, variable_words}
use Rattle.explain_texts.specs.ReasonLines.{param_text, reader_name}
use Rattle.explain_texts.specs.Sheets.{SheetShape, part_line}
use Rattle.place_reasons.specs.declared.reason.Needed.{Needed}
use Rattle.place_reasons.specs.declared.reason.Needed.TheVariants as needed
use Rattle.place_reasons.specs.declared.reason.PlaceReason.{PlaceReason}
use Rattle.place_reasons.specs.declared.reason.PlaceReason.TheVariants as row

-- ---- pairs

abbrev pub owner_name : Declared → Trait → List ℕ
owner_name principals (Keeps owner reader) = principal_name principals owner
owner_name principals (Distrusts principal) = principal_name principals principal

-- behind a reason, what brings the pair in
abbrev pub cause_tail : SheetShape → Option Cause → List ℕ
cause_tail sheet None = []
cause_tail sheet (Some cause) = codes ": " ++ cause_text sheet cause

-- The owner keeps what is told from the reader, and the label of the host does not.
abbrev pub pair_text : SheetShape → (host : List ℕ) → Trait → (verb what tail : List ℕ) → List ℕ
pair_text sheet host pair verb what tail =
    owner_name sheet.principals pair ++ (verb ++ (reader_name sheet.principals pair ++ (what
    ++ (codes ", and the label of " ++ (host ++ (codes " does not" ++ tail))))))

-- it keeps the part itself
abbrev pub itself_text : SheetShape → (host : List ℕ) → Trait → List ℕ
itself_text sheet host pair = pair_text sheet host pair (codes " keeps it from ") [] []

-- it keeps what these words tell
abbrev pub told_text : SheetShape → (host : List ℕ) → Trait → (what tail : List ℕ) → List ℕ
told_text sheet host pair what tail = pair_text sheet host pair (codes " keeps from ") what tail

-- the line of a statement
abbrev pub statement_line : SheetShape → StmtId → ℕ
statement_line sheet here = part_line sheet sheet.places.statements here.0

-- what is told by a statement's read of a field: that it reads it, or which element
abbrev pub read_words : SheetShape → StmtId → List ℕ
read_words sheet here = codes " that line " ++ (decimal (statement_line sheet here) ++ codes " reads it")

abbrev pub index_words : SheetShape → StmtId → List ℕ
index_words sheet here = codes " which element line " ++ (decimal (statement_line sheet here) ++ codes " reads")

-- ---- calls

abbrev pub begins_words : (method : List ℕ) → List ℕ
begins_words method = codes " that " ++ (method ++ codes " begins")

abbrev pub gives_words : (method : List ℕ) → List ℕ
gives_words method = codes " what " ++ (method ++ codes " gives back")

-- the label that has it
abbrev pub begin_tail : SheetShape → MethodId → List ℕ
begin_tail sheet method = codes ": " ++ source_text sheet (OfBegin method)

abbrev pub result_tail : SheetShape → MethodId → List ℕ
result_tail sheet method =
    codes ": " ++ on_line (codes "the result of " ++ method_name sheet.tree method)
    (part_line sheet sheet.places.methods method.0)

-- ---- trust

-- the statement that is asked about, or one that stands in it
abbrev pub it_words : SheetShape → (own here : StmtId) → List ℕ
it_words sheet own here =
    if own.0 == here.0 then codes "it" else codes "line " ++ (decimal (statement_line sheet here) ++ codes " in it")

-- what a statement does with what is named so
abbrev pub which_text : (what it does : List ℕ) → List ℕ
which_text what it does = what ++ (codes ", which " ++ (it ++ does))

-- for what the host is to be trusted, where the statement at hand is `it`
abbrev pub needed_text : SheetShape → (it : List ℕ) → StmtId → Needed → List ℕ
needed_text sheet it here (needed.Variable x) = which_text (variable_words sheet.tree [] x) it (codes " sets")
needed_text sheet it here (needed.Field field) = which_text (field_name sheet.tree field) it (codes " sets")
needed_text sheet it here (needed.Begin method) =
    which_text (codes "how " ++ (method_name sheet.tree method ++ codes " begins")) it (codes " calls")
needed_text sheet it here (needed.Parameter x method) = which_text (param_text sheet x method) it (codes " sets")
needed_text sheet it here (needed.Result x) = which_text (variable_words sheet.tree [] x) it (codes " gives")
needed_text sheet it here needed.Head = codes "how " ++ (method_around sheet.tree here ++ codes " begins")

-- the principal trusts it, and not the host
abbrev pub trust_text : SheetShape → (host : List ℕ) → (principal : ℕ) → (what : List ℕ) → List ℕ
trust_text sheet host principal what =
    principal_name sheet.principals principal
    ++ (codes " trusts " ++ (what ++ (codes ", and does not trust " ++ host)))

-- the member's authority is used, which is that of the principal too
abbrev pub release_text : SheetShape → (host it : List ℕ) → (member principal : ℕ) → List ℕ
release_text sheet host it member principal =
    it ++ (codes " releases a value by the authority of " ++ (principal_name sheet.principals member
    ++ (codes ", and " ++ (principal_name sheet.principals principal ++ (codes " does not trust " ++ host)))))

-- ---- reasons

-- why a host of this name may not hold a part of this number
abbrev pub why_text : SheetShape → (host : List ℕ) → (own : StmtId) → PlaceReason → List ℕ
why_text sheet host own (row.Own pair) = itself_text sheet host pair
why_text sheet host own (row.Read pair here cause) =
    told_text sheet host pair (read_words sheet here) (cause_tail sheet cause)
why_text sheet host own (row.Index pair here cause) =
    told_text sheet host pair (index_words sheet here) (cause_tail sheet cause)
why_text sheet host own (row.Untrusted principal) = trust_text sheet host principal (codes "it")
why_text sheet host own (row.Begins pair) =
    told_text sheet host pair (begins_words (method_around sheet.tree own)) []
why_text sheet host own (row.Runs pair cause) =
    told_text sheet host pair (codes " that it runs") (cause_tail sheet cause)
why_text sheet host own (row.Uses pair cause) =
    told_text sheet host pair (codes " a value that it uses") (cause_tail sheet cause)
why_text sheet host own (row.CallBegins pair method) =
    told_text sheet host pair (begins_words (method_name sheet.tree method)) (begin_tail sheet method)
why_text sheet host own (row.CallGives pair method) =
    told_text sheet host pair (gives_words (method_name sheet.tree method)) (result_tail sheet method)
why_text sheet host own (row.Needs principal what here) =
    trust_text sheet host principal (needed_text sheet (it_words sheet own here) here what)
why_text sheet host own (row.Releases member principal here) =
    release_text sheet host (it_words sheet own here) member.0 principal
