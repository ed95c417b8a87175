use Rattle.std.proofs.Common.{◌≡◌, Some}
use Rattle.principals.specs.ActsFor.{IsDeclared}
use Rattle.label_lattice.specs.declared.label.Label.{Label}
use Rattle.place_reasons.specs.declared.reason.PlaceReason.{PlaceReason}
use Rattle.place_reasons.specs.Refuted.{IsCauseTrue}
use Rattle.place_texts.specs.Parts.{PartShape, field, head, statement, reason_of}
use Rattle.front_end.specs.PlacedSources.{labelled_source}
use Rattle.front_end.specs.Sources.{Source}
use Rattle.jifexplain.specs.Claims.{RefutesPart}
use Rattle.jifexplain.specs.Places.{held_line}
use Rattle.jifexplain.specs.Texts.{sheet_of}
use Rattle.place_texts.specs.Lines.{parts_lines}
use Rattle.jifexplain.proofs.LineLaws.{GivesDeclared, accepted_over, explained_is, head_caused, held_when_none}
use Rattle.jifexplain.proofs.LineLaws.{lines_when_some}
use Rattle.jifexplain.proofs.line_laws.line_laws.Goals as goal

gives_declared : (c : goal.After-resolved_program_laws) → GivesDeclared
gives_declared c = λ h file was. (c.host_file_laws.ensures.sound h file was).declared

-- what the line of a part of an accepted program claims is so
claim_true : (c : goal.After-resolved_program_laws) (source : Source) (host : Label) (part : PartShape)
    (reason : PlaceReason) → IsDeclared source.file.principals →
    reason_of source.file.principals (labelled_source source) host part ≡ Some reason →
    RefutesPart source.file.principals (labelled_source source) host part reason × IsCauseTrue source.tree reason
claim_true c source host (field number) reason declared is = (
  c.refuted_laws.ensures.field_refuted source.file.principals (labelled_source source) host number reason declared is,
  c.refuted_laws.ensures.field_cause_true source.file.principals (labelled_source source) host number reason is,
)
claim_true c source host (head method) reason declared is =
    let refutes = c.refuted_laws.ensures.head_refuted source.file.principals host method reason declared is in
    (refutes, head_caused source.tree host method reason refutes)
claim_true c source host (statement method block) reason declared is = (
  c.refuted_laws.ensures.statement_refuted source.file.principals (labelled_source source) host method block reason
      declared is,
  c.refuted_laws.ensures.statement_cause_true source.file.principals (labelled_source source) host method block reason
      is,
)

pub returns-clause-place_true : goal.returns-clause-place_true
returns-clause-place_true c = λ p h source host part reason sources is.
    claim_true c source host part reason
    (accepted_over c.resolved_program_laws.ensures.labels_over (gives_declared c) p h source sources).declared is

pub returns-clause-field_lines : goal.returns-clause-field_lines
returns-clause-field_lines c = λ p h source needs host list draft sources needs_are.
    let over = accepted_over c.resolved_program_laws.ensures.labels_over (gives_declared c) p h source sources in
    c.line_laws.ensures.fields (sheet_of list draft source.file source.tree) source.tree needs host over.over
    needs_are

pub returns-clause-statement_lines : goal.returns-clause-statement_lines
returns-clause-statement_lines c = λ p h source needs host list draft sources needs_are.
    let over = accepted_over c.resolved_program_laws.ensures.labels_over (gives_declared c) p h source sources in
    c.line_laws.ensures.statements (sheet_of list draft source.file source.tree) source.tree needs host over.over
    needs_are

pub returns-clause-held_told : goal.returns-clause-held_told
returns-clause-held_told c = λ sheet labelled hosts asked parts none.
    held_when_none (held_line asked) (parts_lines sheet labelled hosts parts)
    ((c.line_laws.ensures.no_lines sheet labelled hosts parts).1 none)

pub returns-clause-lines_kept : goal.returns-clause-lines_kept
returns-clause-lines_kept c = λ sheet labelled hosts asked parts some.
    lines_when_some (held_line asked) (parts_lines sheet labelled hosts parts)
    (λ none. some ((c.line_laws.ensures.no_lines sheet labelled hosts parts).0 none))

pub returns-clause-label_lines : goal.returns-clause-label_lines
returns-clause-label_lines c = λ h file draft tree failed hosts resolved first.
    let declared = gives_declared c h file hosts in
    let over = c.resolved_program_laws.ensures.labels_over file.principals draft tree declared resolved in
    let told = c.refusal_laws.ensures.statement_due file.principals tree failed over first in (
      told.0,
      told.2,
      explained_is file.principals tree failed told.0 (record { found = told.1; same = told.2; some = told.3 }),
      told.3,
      c.reason_laws.ensures.reason_true file.principals told.0 declared,
    )

pub returns-clause-fields_written : goal.returns-clause-fields_written
returns-clause-fields_written c = λ h file draft tree hosts resolved.
    c.resolved_program_laws.ensures.fields file.principals draft tree resolved

pub returns-clause-statements_written : goal.returns-clause-statements_written
returns-clause-statements_written c = λ h file list draft tree hosts parsed resolved.
    c.resolved_program_laws.ensures.methods file.principals list draft tree parsed resolved
