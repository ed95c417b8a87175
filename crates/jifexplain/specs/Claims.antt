-- What the line of a part and a host claims.
use Rattle.principals.specs.ActsFor.{Declared}
use Rattle.label_lattice.specs.declared.label.Label.{Label}
use Rattle.need_labels.specs.Labelled.{Labelled}
use Rattle.place_reasons.specs.Refuted.{RefutesField, RefutesHead, RefutesStatement}
use Rattle.place_reasons.specs.declared.reason.PlaceReason.{PlaceReason}
use Rattle.place_texts.specs.Parts.{PartShape, field, head, statement}

abbrev pub RefutesPart : Declared → Labelled → Label → PartShape → PlaceReason → Type 0
RefutesPart principals labelled host (field number) = RefutesField principals labelled host number
RefutesPart principals labelled host (head method) = RefutesHead host method
RefutesPart principals labelled host (statement method block) =
    RefutesStatement principals labelled host method block
