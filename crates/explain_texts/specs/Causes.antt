-- How it is told what brings something into a label: where the label that has it is written, and what it came through.
use Rattle.std.specs.Prelude.{ℕ, List, [], ◌++◌, codes, slice_get}
use Rattle.std.specs.Fmt.{decimal}
use Rattle.label_reasons.specs.declared.reason.Source.{Source}
use Rattle.label_reasons.specs.declared.reason.Source.TheVariants.{OfField, OfVariable, OfBegin, Written}
use Rattle.label_reasons.specs.declared.reason.Via.{Via}
use Rattle.label_reasons.specs.declared.reason.Via.TheVariants.{Itself, ByLocal, ByGuard}
use Rattle.label_reasons.specs.declared.reason.Cause.{Cause}
use Rattle.explain_texts.specs.Names.{field_name, kind_of_field, method_name, variable_name, variable_words}
use Rattle.explain_texts.specs.Sheets.{SheetShape, part_line}

-- words, and the line of what they name
abbrev pub on_line : List ℕ → ℕ → List ℕ
on_line words line = words ++ (codes " (line " ++ (decimal line ++ codes ")"))

abbrev pub source_text : SheetShape → Source → List ℕ
source_text sheet (OfField field) =
    on_line (kind_of_field (slice_get sheet.tree.fields field.0) ++ field_name sheet.tree field)
    (part_line sheet sheet.places.fields field.0)
source_text sheet (OfVariable x) =
    on_line (variable_words sheet.tree (codes "local ") x) (part_line sheet sheet.places.variables x.0)
source_text sheet (OfBegin method) =
    on_line (codes "the begin label of " ++ method_name sheet.tree method)
    (part_line sheet sheet.places.methods method.0)
source_text sheet (Written statement) =
    codes "the label in line " ++ decimal (part_line sheet sheet.places.statements statement.0)

abbrev pub via_text : SheetShape → Via → List ℕ
via_text sheet Itself = []
via_text sheet (ByLocal x statement) =
    codes ", through local "
    ++ on_line (variable_name sheet.tree x) (part_line sheet sheet.places.statements statement.0)
via_text sheet (ByGuard statement) =
    codes ", through the guard of line " ++ decimal (part_line sheet sheet.places.statements statement.0)

abbrev pub cause_text : SheetShape → Cause → List ℕ
cause_text sheet cause = source_text sheet cause.source ++ via_text sheet cause.via
