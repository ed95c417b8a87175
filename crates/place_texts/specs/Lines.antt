-- The lines that say which hosts may not hold parts of a program: one for each part and each such host, parts in order
-- and for each the hosts in the order of the file.
use Rattle.std.specs.Prelude.{◌≡◌, ℕ, List, [], ◌∷◌, ◌++◌, codes, Option, Some, None, slice_get}
use Rattle.std.specs.Fmt.{decimal}
use Rattle.std.specs.List.{flat_map}
use Rattle.js_base.specs.declared.text.TheConstants.{LINE_FEED}
use Rattle.js_base.specs.declared.ids.StmtId.{StmtId}
use Rattle.host_decl.specs.Hosts.{HostShape}
use Rattle.explain_texts.specs.Causes.{on_line}
use Rattle.explain_texts.specs.Names.{field_name, kind_of_field}
use Rattle.explain_texts.specs.Sheets.{SheetShape}
use Rattle.jif_tree.specs.Trees.{ProgramTree}
use Rattle.need_labels.specs.Labelled.{Labelled}
use Rattle.place_reasons.specs.Programs.{labelled_by}
use Rattle.place_reasons.specs.declared.reason.PlaceReason.{PlaceReason}
use Rattle.place_texts.specs.Parts.{PartShape, field, head, statement, line_of, number_of, reason_of}
use Rattle.place_texts.specs.Why.{why_text}

abbrev pub own_of : PartShape → StmtId
own_of part = record { 0 = number_of part }

-- a statement by its number and its line
abbrev pub statement_words : (number line : ℕ) → List ℕ
statement_words number line = on_line (codes "statement " ++ decimal number) line

abbrev pub part_words : SheetShape → PartShape → List ℕ
part_words sheet (field number) =
    kind_of_field (slice_get sheet.tree.fields number.0) ++ field_name sheet.tree number
part_words sheet (head method) = statement_words method.head.0 method.line
part_words sheet (statement method block) =
    statement_words (number_of (statement method block)) (line_of (statement method block))

-- why a host of this name may not hold it
abbrev pub place_line : SheetShape → PartShape → (host : List ℕ) → PlaceReason → List ℕ
place_line sheet part host reason =
    part_words sheet part ++ (codes " not at " ++ (host ++ (codes ": "
    ++ (why_text sheet host (own_of part) reason ++ LINE_FEED ∷ []))))

abbrev pub line_for : SheetShape → PartShape → (host : List ℕ) → Option PlaceReason → List ℕ
line_for sheet part host None = []
line_for sheet part host (Some reason) = place_line sheet part host reason

-- nothing where the host may hold it
abbrev pub line_at : SheetShape → Labelled → PartShape → HostShape → List ℕ
line_at sheet labelled part host =
    line_for sheet part host.name (reason_of sheet.principals labelled host.label part)

abbrev pub part_lines : SheetShape → Labelled → List HostShape → PartShape → List ℕ
part_lines sheet labelled hosts part = flat_map (line_at sheet labelled part) hosts

abbrev pub parts_lines : SheetShape → Labelled → List HostShape → List PartShape → List ℕ
parts_lines sheet labelled hosts parts = flat_map (part_lines sheet labelled hosts) parts

-- no line for the part and the host, with the labels that the label check finds
abbrev pub HasNoLine : SheetShape → ProgramTree → HostShape → PartShape → Type 0
HasNoLine sheet program host part = line_at sheet (labelled_by sheet.principals program) part host ≡ []
