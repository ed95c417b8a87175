-- What is told of a program whose labels are refused.
use Rattle.std.specs.Prelude.{ℕ, ◌+◌, Bool, true, false, if◌then◌else◌, List, [], ◌++◌, codes, slice_index}
use Rattle.std.specs.Fmt.{decimal}
use Rattle.std.specs.List.{list_any}
use Rattle.js_base.specs.declared.ids.StmtId.{StmtId}
use Rattle.label_reasons.specs.declared.reason.Trait.{Trait}
use Rattle.label_reasons.specs.declared.reason.Trait.TheVariants.{Keeps, Distrusts}
use Rattle.label_reasons.specs.declared.reason.Reason.{Reason}
use Rattle.label_reasons.specs.declared.reason.Wanted.{Wanted}
use Rattle.label_reasons.specs.declared.reason.Wanted.TheVariants as wanted
use Rattle.explain_texts.specs.declared.asked.Asking.{Asking}
use Rattle.explain_texts.specs.declared.asked.Asking.TheVariants.{Flowing, Beginning, Releasing, Trusting, Endorsing}
use Rattle.explain_texts.specs.Names.{method_name}
use Rattle.explain_texts.specs.ReasonLines.{AskedShape, asked_of, reason_lines, target_text}
use Rattle.explain_texts.specs.Sheets.{SheetShape}
use Rattle.explain_texts.specs.Told.{ToldShape}
use Rattle.explain_texts.specs.TokenTexts.{token_place}

-- what is wanted and may not be, where the target is named so
abbrev pub refused_text : SheetShape → (target : List ℕ) → Wanted → List ℕ
refused_text sheet target (wanted.KeptInField field) = codes "this value may not be kept in " ++ target
refused_text sheet target (wanted.KeptInElement field) =
    codes "this value, with its index, may not be kept in " ++ target
refused_text sheet target (wanted.KeptInLocal x) = codes "this value may not be kept in " ++ target
refused_text sheet target (wanted.Given place param method) =
    codes "argument " ++ (decimal (place + 1) ++ (codes " may not be given to " ++ target))
refused_text sheet target (wanted.ResultKept method into) =
    codes "the result of " ++ (method_name sheet.tree method ++ (codes " may not be kept in " ++ target))
refused_text sheet target (wanted.GivenBack x) = codes "this value may not be " ++ target
refused_text sheet target (wanted.Begun method) = target ++ codes " may not be called here"
refused_text sheet target wanted.Released = codes "this value may not be released here"
refused_text sheet target wanted.ReleaseTrusted = codes "no value may be released here"
refused_text sheet target wanted.Endorsed = codes "this value may not be endorsed here"

abbrev pub is_pair : Trait → Bool
is_pair (Keeps owner reader) = true
is_pair (Distrusts principal) = false

-- what to try: a line, or nothing
abbrev pub remedy_text : Asking → (target : List ℕ) → (pairs : Bool) → List ℕ
remedy_text Flowing target pairs =
    if pairs then codes "try: keep it where its label may flow, or release what may be known\n" else []
remedy_text Beginning target pairs =
    codes "try: call it before anything depends on the secret, or give "
    ++ (target ++ codes " a begin label that keeps as much\n")
remedy_text Releasing target pairs = codes "try: name them behind 'where authority', if they agree\n"
remedy_text Trusting target pairs =
    codes "try: have the begin label, and the guards around it, trusted by those whose authority is used\n"
remedy_text Endorsing target pairs = codes "try: name them behind 'where authority', if they agree\n"

-- the reasons, and what to try
abbrev pub lines_below : SheetShape → AskedShape → List Reason → List ℕ
lines_below sheet asked reasons =
    reason_lines sheet asked reasons
    ++ remedy_text asked.asking asked.target (list_any (λ reason. is_pair reason.held) reasons)

-- the first token of the statement, what may not be, and the lines behind it
abbrev pub labels_told : SheetShape → StmtId → Wanted → List Reason → ToldShape
labels_told sheet statement what reasons = record {
  at = token_place sheet.tokens (slice_index sheet.places.statements statement.0);
  message = refused_text sheet (target_text sheet what) what;
  lines = lines_below sheet (asked_of sheet statement what) reasons;
}
