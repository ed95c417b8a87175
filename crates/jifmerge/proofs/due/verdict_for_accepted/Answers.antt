use Rattle.std.proofs.Common.{inl, inr, map}
use Rattle.std.specs.Prelude.{string_bytes}
use Rattle.jif_grammar.specs.DraftShapes.{draft_shape}
use Rattle.front_end.specs.PlacedShapes.{placed_shape}
use Rattle.front_end.specs.PlacedSources.{OnHosts}
use Rattle.front_end.specs.SourceShapes.{source_shape}
use Rattle.front_end.specs.Sources.{DraftAccepted, Source}
use Rattle.front_end.specs.Stages.{DueThen, stopped}
use Rattle.front_end.proofs.Stages.{due_handed_on, due_stops, ends_weaker, stops_weaker}
use Rattle.jifmerge.specs.Due.{DueForAccepted}
use Rattle.jifmerge.specs.Merged.{DueForPlaced}
use Rattle.jifmerge.proofs.due.verdict_for_accepted.Goals as goal

pub returns-in_err-source : goal.returns-in_err-source
returns-in_err-source c = λ s js loaded_s loaded_js.
    due_handed_on
    (DueForAccepted c.args.name.now (map string_bytes c.args.names.now) s js c.args.hosts (draft_shape c.args.draft))
    c.in_err-source.field-0.0 c.from_residual.result c.from_residual.ensures
    (due_stops (DraftAccepted c.args.hosts (draft_shape c.args.draft))
    (λ (source : Source). DueThen (OnHosts source)
    (DueForPlaced c.args.name.now (map string_bytes c.args.names.now) s js)) c.in_err-source.field-0.0
    c.in_err-source.ensures)

pub returns-in_err-placed : goal.returns-in_err-placed
returns-in_err-placed c = λ s js loaded_s loaded_js.
    due_handed_on
    (DueForAccepted c.args.name.now (map string_bytes c.args.names.now) s js c.args.hosts (draft_shape c.args.draft))
    c.in_err-placed.field-0.0 c.from_residual-in_err-placed.result c.from_residual-in_err-placed.ensures
    (stops_weaker (λ verdict. OnHosts (source_shape c.in_ok-source.source) (stopped verdict))
    (DueForAccepted c.args.name.now (map string_bytes c.args.names.now) s js c.args.hosts (draft_shape c.args.draft))
    c.in_err-placed.field-0.0
    (λ verdict stops. inl (source_shape c.in_ok-source.source, c.in_ok-source.ensures, inr stops))
    c.in_err-placed.ensures)

pub returns : goal.returns
returns c = λ s js loaded_s loaded_js.
    ends_weaker (DueForPlaced c.args.name.now (map string_bytes c.args.names.now) s js
    (placed_shape c.in_ok-placed.placed))
    (DueForAccepted c.args.name.now (map string_bytes c.args.names.now) s js c.args.hosts (draft_shape c.args.draft))
    c.verdict_for_placed.result
    (λ verdict due. inl (
      source_shape c.in_ok-source.source,
      c.in_ok-source.ensures,
      inl (placed_shape c.in_ok-placed.placed, c.in_ok-placed.ensures, due),
    ))
    (c.verdict_for_placed.ensures s js loaded_s loaded_js)
