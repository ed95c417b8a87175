use Rattle.std.proofs.Common.{◌≡◌, ◌++◌, ◌<◌, ◌^◌, drop, length, map}
use Rattle.std.specs.String.{string_bytes}
use Rattle.run_chart.specs.Foot.{fields_text}
use Rattle.run_chart.specs.Sheets.{chart_field_shape}
use Rattle.run_chart.proofs.foot.push_fields.Given as goal

-- what was written, and the fields that are left, are all of them
abbrev pub invariant-loop-number : goal.invariant-loop-number
invariant-loop-number l =
    record {
      text : string_bytes l.text
          ++ fields_text l.x l.y l.width l.number (map chart_field_shape (drop l.number l.fields))
          ≡ string_bytes l.initial.text ++ fields_text l.x l.y l.width 0 (map chart_field_shape l.fields);
      few : length l.fields < 2 ^ 32;
    }
