use Rattle.std.proofs.Common.{◌≡◌, ◌≤◌, ◌+◌, length, map}
use Rattle.std.specs.Str.Lines.{lines}
use Rattle.js_base.specs.declared.limits.TheConstants.{SCRIPT_BYTES}
use Rattle.event_text.specs.Lines.{said_from}
use Rattle.event_text.specs.Settings.{settings_in_front, past_settings, after_settings}
use Rattle.event_text.proofs.settings.take_settings.Given as goal

-- what the lines that are left set, and those after them, from here on
abbrev pub invariant-loop-line : goal.invariant-loop-line
invariant-loop-line g l = record {
  store :
      after_settings l.store
      (settings_in_front (map g.F.ScriptField.form l.fields) (said_from l.left.number (lines l.left.bytes.now)))
      ≡ after_settings l.initial.store
      (settings_in_front (map g.F.ScriptField.form l.fields) (said_from l.from.number (lines l.from.bytes.now)));
  past :
      past_settings (map g.F.ScriptField.form l.fields) (said_from l.left.number (lines l.left.bytes.now))
      ≡ past_settings (map g.F.ScriptField.form l.fields) (said_from l.from.number (lines l.from.bytes.now));
  few : l.left.number + length l.left.bytes.now ≤ SCRIPT_BYTES + 1;
}

abbrev pub decreases-loop-line : goal.decreases-loop-line
decreases-loop-line g l = length l.left.bytes.now
