-- What a row's event was: its hosts, its text, and why it was ignored.
use Rattle.std.specs.Prelude.{ℕ, List, [], Option, Some, None, slice_get}
use Rattle.std.specs.Option.{option_map}
use Rattle.event_text.specs.EventText.{bad_message_text}
use Rattle.host_code.specs.Code.{CodeShape, instruction_at}
use Rattle.host_code.specs.InstructionText.{instruction_text}
use Rattle.host_code.specs.MessageText.{message_text}
use Rattle.host_code.specs.declared.instruction.Instr.{Instr}
use Rattle.js_base.specs.declared.ids.HostId.{HostId}
use Rattle.net_world.specs.Told.{SentMessage}
use Rattle.ignored_reasons.specs.declared.why.Why.{Why}
use Rattle.run_chart.specs.Sheets.{ChartToldShape}
use Rattle.run_rows.specs.declared.row.What.{What}
use Rattle.run_rows.specs.declared.row.What.TheVariants as what
use Rattle.run_sheet.specs.ChartStrokes.{message_stroke}
use Rattle.run_sheet.specs.ReasonWords.{reason_words}

-- the host whose step it was
abbrev pub host_moved : What → HostId
host_moved (what.Turn host at) = host
host_moved (what.Take from to taken) = to
host_moved (what.Act from to made) = to

-- who asked for it
abbrev pub host_asking : What → HostId
host_asking (what.Turn host at) = host
host_asking (what.Take from to taken) = from
host_asking (what.Act from to made) = from

abbrev pub instruction_words : CodeShape → Option Instr → List ℕ
instruction_words code None = []
instruction_words code (Some instruction) = instruction_text code instruction.op

-- the instruction that ran, the message that was taken, or what the misbehaving host sent as a script says it
abbrev pub event_words : CodeShape → What → List ℕ
event_words code (what.Turn host at) = instruction_words code (instruction_at code host at)
event_words code (what.Take from to taken) = message_text code taken
event_words code (what.Act from to made) = bad_message_text code made

abbrev pub ignored_words : CodeShape → What → Option Why → Option (List ℕ)
ignored_words code event ignored = option_map (reason_words code (host_asking event)) ignored

-- what a misbehaving host was sent, with its number
abbrev pub told_letter : CodeShape → ℕ → SentMessage → ChartToldShape
told_letter code number letter = record {
  number = number;
  to = letter.1;
  stroke = message_stroke letter.2;
  text = message_text code letter.2;
}

abbrev pub told_by : CodeShape → List SentMessage → Option ℕ → Option ChartToldShape
told_by code sent None = None
told_by code sent (Some number) = option_map (told_letter code number) (slice_get sent number)
