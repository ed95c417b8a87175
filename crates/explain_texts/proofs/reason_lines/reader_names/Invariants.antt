use Rattle.std.proofs.Common.{◌≡◌, map, take}
use Rattle.std.specs.List.{filter}
use Rattle.std.specs.String.{string_bytes}
use Rattle.label_reasons.specs.declared.reason.Reason.{Reason}
use Rattle.explain_texts.specs.ReasonLines.{reader_name, shares_line}
use Rattle.explain_texts.proofs.reason_lines.reader_names.Given as goal

-- the names so far
abbrev pub invariant-loop-reason : goal.invariant-loop-reason
invariant-loop-reason l =
    map string_bytes l.names.items
    ≡ map (λ (reason : Reason). reader_name l.principals reason.held)
    (filter (shares_line l.owner l.cause) (take l.reason-index l.reasons))
