-- The note of a turn: the statement whose instruction ran, where the one before it on the host was another's.
use Rattle.std.specs.Prelude.{ℕ, ◌==◌, Bool, true, false, if◌then◌else◌, List, ◌++◌, codes}
use Rattle.std.specs.Prelude.{Option, Some, None, slice_get, slice_index}
use Rattle.std.specs.Fmt.{decimal}
use Rattle.std.specs.Str.{chars, encode_utf8_all}
use Rattle.js_base.specs.declared.ids.StmtId.{StmtId}
use Rattle.host_code.specs.declared.instruction.Instr.{Instr}
use Rattle.host_code.specs.declared.instruction.Op.{Op}
use Rattle.host_code.specs.declared.instruction.Op.TheVariants as op
use Rattle.run_chart.specs.Sheets.{ChartNoteShape}
use Rattle.statement_texts.specs.Short.{short}
use Rattle.statement_texts.specs.Texts.{StatementTextShape}

-- An instruction that computes, sends a value or calls is a step of its statement. One that pushes an entry, hands
-- control on or gives the token back is none.
abbrev pub is_step_of_statement : Op → Bool
is_step_of_statement (op.Push entry) = false
is_step_of_statement (op.Ask entry on) = false
is_step_of_statement (op.Go entry on) = false
is_step_of_statement (op.GoWith entry on riders) = false
is_step_of_statement op.Back = false
is_step_of_statement other = true

-- the statement of which an instruction is a step
abbrev pub statement_stepped : Option Instr → Option StmtId
statement_stepped None = None
statement_stepped (Some instruction) =
    if is_step_of_statement instruction.op then Some instruction.statement else None

-- `L: SHORT`
abbrev pub short_note : (line : ℕ) → StatementTextShape → List ℕ
short_note line text = decimal line ++ codes ": " ++ encode_utf8_all (short false (chars text.text))

-- `statement K line L: TEXT`
abbrev pub whole_note : (number line : ℕ) → StatementTextShape → List ℕ
whole_note number line text =
    codes "statement " ++ decimal number ++ codes " line " ++ decimal line ++ codes ": " ++ text.text

abbrev pub note_there : (number line : ℕ) → Option StatementTextShape → Option ChartNoteShape
note_there number line None = None
note_there number line (Some text) =
    Some (record { text = short_note line text; tip = whole_note number line text })

-- the note of a statement, by the texts and the lines of all statements
abbrev pub note_of_statement : List StatementTextShape → List ℕ → StmtId → Option ChartNoteShape
note_of_statement texts lines statement =
    note_there statement.0 (slice_index lines statement.0) (slice_get texts statement.0)

abbrev pub is_that_statement : Option StmtId → StmtId → Bool
is_that_statement None statement = false
is_that_statement (Some before) statement = before.0 == statement.0

-- the note of a turn that is a step of a statement, behind one on the host that was a step of another
abbrev pub turn_note : List StatementTextShape → List ℕ → (before now : Option StmtId) → Option ChartNoteShape
turn_note texts lines before None = None
turn_note texts lines before (Some statement) =
    if is_that_statement before statement then None else note_of_statement texts lines statement

-- the statement of which the host made the last step
abbrev pub statement_behind : (before now : Option StmtId) → Option StmtId
statement_behind before None = before
statement_behind before (Some statement) = Some statement

abbrev pub sample_statement : StatementTextShape
sample_statement = record {
  text = codes "int{A:} r = endorse(o, {?: A});";
  blocks = 1;
  loops = 0;
  begins_loop = false;
  otherwise = false;
}
