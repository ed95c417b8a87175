use Rattle.jif_grammar.specs.DraftShapes.{draft_shape}
use Rattle.front_end.specs.SourceShapes.{source_shape}
use Rattle.front_end.specs.Sources.{Drafted, HostsRead, DraftAccepted, AcceptedWith, Sources}
use Rattle.front_end.proofs.Stages.{handed_on, then_ends, then_stops}
use Rattle.front_end.proofs.Reading.{after_draft}
use Rattle.front_end.proofs.sources.read_sources.Goals as goal

pub returns-in_err-draft : goal.returns-in_err-draft
returns-in_err-draft c = λ p h loaded_p loaded_h.
    handed_on source_shape (Sources p h) c.in_err-draft.field-0.0 c.from_residual.result c.from_residual.ensures
    (then_stops (Drafted p) (AcceptedWith h) c.in_err-draft.field-0.0 (c.in_err-draft.ensures.drafted p loaded_p))

pub returns-in_err-hosts : goal.returns-in_err-hosts
returns-in_err-hosts c = λ p h loaded_p loaded_h.
    handed_on source_shape (Sources p h) c.in_err-hosts.field-0.0 c.from_residual-in_err-hosts.result
    c.from_residual-in_err-hosts.ensures
    (after_draft p h (draft_shape c.in_ok-draft.draft) c.in_err-hosts.field-0.0
    (c.in_ok-draft.ensures.drafted p loaded_p)
    (then_stops (HostsRead h) (λ file. DraftAccepted file (draft_shape c.in_ok-draft.draft)) c.in_err-hosts.field-0.0
    (c.in_err-hosts.ensures.read h loaded_h)))

pub returns : goal.returns
returns c = λ p h loaded_p loaded_h.
    let draft = draft_shape c.in_ok-draft.draft in
    then_ends draft_shape source_shape (Drafted p) (AcceptedWith h) c.in_ok-draft.draft c.accepted.result
    (c.in_ok-draft.ensures.drafted p loaded_p)
    (then_ends (λ file. file) source_shape (HostsRead h) (λ file. DraftAccepted file draft) c.in_ok-hosts.hosts
    c.accepted.result (c.in_ok-hosts.ensures.read h loaded_h) c.accepted.ensures)
