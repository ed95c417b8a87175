-- The lines that say why labels are refused: one for each owner and each cause, which names all its readers, and one
-- for each principal.
use Rattle.std.specs.Prelude.{ℕ, Bool, false, ◌==◌, ◌&&◌, if◌then◌else◌, List, [], ◌∷◌, ◌++◌, codes, length, map}
use Rattle.std.specs.Prelude.{take, slice_get, Option, Some, None, string_bytes}
use Rattle.std.specs.List.{filter, flat_map, join_by, list_any, range_with_len}
use Rattle.js_base.specs.declared.text.TheConstants.{LINE_FEED}
use Rattle.js_base.specs.declared.ids.StmtId.{StmtId}
use Rattle.js_base.specs.declared.ids.VarId.{VarId}
use Rattle.js_base.specs.declared.ids.MethodId.{MethodId}
use Rattle.label_reasons.specs.declared.reason.Trait.{Trait}
use Rattle.label_reasons.specs.declared.reason.Trait.TheVariants.{Keeps, Distrusts}
use Rattle.label_reasons.specs.declared.reason.Source.{Source}
use Rattle.label_reasons.specs.declared.reason.Source.TheVariants.{OfField, OfVariable, OfBegin, Written}
use Rattle.label_reasons.specs.declared.reason.Via.{Via}
use Rattle.label_reasons.specs.declared.reason.Via.TheVariants.{Itself, ByLocal, ByGuard}
use Rattle.label_reasons.specs.declared.reason.Cause.{Cause}
use Rattle.label_reasons.specs.declared.reason.Reason.{Reason}
use Rattle.label_reasons.specs.declared.reason.Wanted.{Wanted}
use Rattle.label_reasons.specs.declared.reason.Wanted.TheVariants as wanted
use Rattle.principals.specs.ActsFor.{Declared}
use Rattle.explain_texts.specs.declared.asked.Asked.{Asked}
use Rattle.explain_texts.specs.declared.asked.Asking.{Asking}
use Rattle.explain_texts.specs.declared.asked.Asking.TheVariants.{Flowing, Beginning, Releasing, Trusting, Endorsing}
use Rattle.explain_texts.specs.Causes.{cause_text}
use Rattle.explain_texts.specs.Names.{field_name, method_around, method_name, principal_name, variable_name}
use Rattle.explain_texts.specs.Names.{variable_words}
use Rattle.explain_texts.specs.Sheets.{SheetShape}

-- ---- what is wanted

abbrev pub param_text : SheetShape → VarId → MethodId → List ℕ
param_text sheet param method =
    codes "parameter " ++ (variable_name sheet.tree param ++ (codes " of " ++ method_name sheet.tree method))

-- where a value is to go: empty where none is to
abbrev pub target_text : SheetShape → Wanted → List ℕ
target_text sheet (wanted.KeptInField field) = field_name sheet.tree field
target_text sheet (wanted.KeptInElement field) = field_name sheet.tree field
target_text sheet (wanted.KeptInLocal x) = variable_words sheet.tree [] x
target_text sheet (wanted.Given place param method) = param_text sheet param method
target_text sheet (wanted.ResultKept method into) = variable_words sheet.tree [] into
target_text sheet (wanted.GivenBack x) = variable_words sheet.tree [] x
target_text sheet (wanted.Begun method) = method_name sheet.tree method
target_text sheet wanted.Released = []
target_text sheet wanted.ReleaseTrusted = []
target_text sheet wanted.Endorsed = []

-- what its reasons are told by
abbrev pub asking_of : Wanted → Asking
asking_of (wanted.KeptInField field) = Flowing
asking_of (wanted.KeptInElement field) = Flowing
asking_of (wanted.KeptInLocal x) = Flowing
asking_of (wanted.Given place param method) = Flowing
asking_of (wanted.ResultKept method into) = Flowing
asking_of (wanted.GivenBack x) = Flowing
asking_of (wanted.Begun method) = Beginning
asking_of wanted.Released = Releasing
asking_of wanted.ReleaseTrusted = Trusting
asking_of wanted.Endorsed = Endorsing

-- what is asked for, with the names of where a value goes or which method begins, and of the method of the statement
pub record AskedShape : Type 0 where
  pub asking : Asking
  pub target : List ℕ
  pub method : List ℕ

abbrev pub asked_of : SheetShape → StmtId → Wanted → AskedShape
asked_of sheet statement what = record {
  asking = asking_of what;
  target = target_text sheet what;
  method = method_around sheet.tree statement;
}

abbrev pub asked_shape : Asked → AskedShape
asked_shape asked = record {
  asking = asked.asking;
  target = string_bytes asked.target;
  method = string_bytes asked.method;
}

-- ---- pairs

abbrev pub pair_verb : Asking → List ℕ
pair_verb Flowing = codes " keeps it from "
pair_verb Beginning = codes " keeps from "
pair_verb Releasing = codes " keeps it from "
pair_verb Trusting = codes " keeps it from "
pair_verb Endorsing = codes " keeps it from "

-- No pair is a reason where trust or an endorsement is asked for.
abbrev pub pair_rest : Asking → (target method : List ℕ) → List ℕ
pair_rest Flowing target method = codes ", and the label of " ++ (target ++ codes " does not: ")
pair_rest Beginning target method =
    codes " that it is called, and the begin label of " ++ (target ++ codes " does not: ")
pair_rest Releasing target method = codes ", and no authority of " ++ (method ++ codes " may release that: ")
pair_rest Trusting target method = codes ": "
pair_rest Endorsing target method = codes ": "

abbrev pub pair_line : AskedShape → (owner readers cause : List ℕ) → List ℕ
pair_line asked owner readers cause =
    owner ++ (pair_verb asked.asking ++ (readers ++ (pair_rest asked.asking asked.target asked.method
    ++ (cause ++ LINE_FEED ∷ []))))

-- ---- principals

-- No principal is a reason where a release is asked for.
abbrev pub principal_rest : Asking → (name target method : List ℕ) → List ℕ
principal_rest Flowing name target method = codes " trusts " ++ (target ++ codes ", and not what it is given: ")
principal_rest Beginning name target method =
    codes " trusts how " ++ (target ++ codes " begins, and not what leads here: ")
principal_rest Releasing name target method = codes ": "
principal_rest Trusting name target method =
    codes " does not trust what leads here, and has to, since the authority of " ++ (name ++ codes " is used: ")
principal_rest Endorsing name target method =
    codes " does not trust it yet, and no authority of " ++ (method ++ (codes " may say so for "
    ++ (name ++ codes ": ")))

abbrev pub principal_line : AskedShape → (name cause : List ℕ) → List ℕ
principal_line asked name cause =
    name ++ (principal_rest asked.asking name asked.target asked.method ++ (cause ++ LINE_FEED ∷ []))

-- ---- which reasons share a line

abbrev pub source_kind : Source → ℕ
source_kind (OfField field) = 0
source_kind (OfVariable x) = 1
source_kind (OfBegin method) = 2
source_kind (Written statement) = 3

abbrev pub source_number : Source → ℕ
source_number (OfField field) = field.0
source_number (OfVariable x) = x.0
source_number (OfBegin method) = method.0
source_number (Written statement) = statement.0

abbrev pub via_kind : Via → ℕ
via_kind Itself = 0
via_kind (ByLocal x statement) = 1
via_kind (ByGuard statement) = 2

abbrev pub via_variable : Via → ℕ
via_variable Itself = 0
via_variable (ByLocal x statement) = x.0
via_variable (ByGuard statement) = 0

abbrev pub via_statement : Via → ℕ
via_statement Itself = 0
via_statement (ByLocal x statement) = statement.0
via_statement (ByGuard statement) = statement.0

abbrev pub is_same_source : Source → Source → Bool
is_same_source one other = source_kind one == source_kind other && source_number one == source_number other

abbrev pub is_same_via : Via → Via → Bool
is_same_via one other =
    via_kind one == via_kind other && via_variable one == via_variable other
    && via_statement one == via_statement other

abbrev pub is_same_cause : Cause → Cause → Bool
is_same_cause one other = is_same_source one.source other.source && is_same_via one.via other.via

-- the pair is of this owner
abbrev pub is_owned : ℕ → Trait → Bool
is_owned owner (Keeps other reader) = other == owner
is_owned owner (Distrusts principal) = false

-- it stands in the line of this owner and this cause
abbrev pub shares_line : ℕ → Cause → Reason → Bool
shares_line owner cause reason = is_owned owner reason.held && is_same_cause cause reason.cause

-- ---- the lines

abbrev pub reader_name : Declared → Trait → List ℕ
reader_name principals (Keeps owner reader) = principal_name principals reader
reader_name principals (Distrusts principal) = principal_name principals principal

abbrev pub readers_text : Declared → ℕ → Cause → List Reason → List ℕ
readers_text principals owner cause reasons =
    join_by (λ text. text) (codes " and ")
    (map (λ reason. reader_name principals reason.held) (filter (shares_line owner cause) reasons))

-- the line of a reason, of all these
abbrev pub reason_line : SheetShape → AskedShape → List Reason → Trait → Cause → List ℕ
reason_line sheet asked all (Keeps owner reader) cause =
    pair_line asked (principal_name sheet.principals owner) (readers_text sheet.principals owner cause all)
    (cause_text sheet cause)
reason_line sheet asked all (Distrusts principal) cause =
    principal_line asked (principal_name sheet.principals principal) (cause_text sheet cause)

-- one of these names the reader of this already
abbrev pub is_named : List Reason → Trait → Cause → Bool
is_named before (Keeps owner reader) cause = list_any (shares_line owner cause) before
is_named before (Distrusts principal) cause = false

abbrev pub line_of : SheetShape → AskedShape → List Reason → ℕ → Option Reason → List ℕ
line_of sheet asked all place None = []
line_of sheet asked all place (Some reason) =
    if is_named (take place all) reason.held reason.cause
    then []
    else reason_line sheet asked all reason.held reason.cause

-- that of the reason at a place, or nothing
abbrev pub line_at : SheetShape → AskedShape → List Reason → ℕ → List ℕ
line_at sheet asked all place = line_of sheet asked all place (slice_get all place)

abbrev pub reason_lines : SheetShape → AskedShape → List Reason → List ℕ
reason_lines sheet asked all = flat_map (line_at sheet asked all) (range_with_len 0 (length all))
