use Rattle.std.proofs.Common.{◌∙◌, List, map, sym, Vec, Global}
use Rattle.std.specs.Prelude.{ℕ, string_bytes}
use Rattle.front_end.specs.declared.load.Loaded.{Loaded}
use Rattle.front_end.specs.PlacedShapes.{placed_shape}
use Rattle.record_merge.specs.Reading.{bytes_of}
use Rattle.jifmerge.specs.Merged.{StandsForJournal}
use Rattle.jifmerge.proofs.DueMerges.{cause_due, for_each_host, script_due}
use Rattle.jifmerge.proofs.Journals.{all_alike, merged_as, refused_as}
use Rattle.jifmerge.proofs.LoadedWords.{zip_length}
use Rattle.jifmerge.proofs.merged.verdict_for_values.Goals as goal

pub merge-requires-clause-count : goal.merge-requires-clause-count
merge-requires-clause-count c =
    rw c.deref.ensures.value
    (for_each_host (placed_shape c.args.placed.now) c.in_ok-code.code _ c.in_ok-code.ensures
    (sym (zip_length (λ (journal : Loaded) (bytes : Vec ℕ Global). StandsForJournal journal bytes.items)
    c.args.journals.now
    c.in_ok-bytes.bytes.items c.in_ok-bytes.ensures) ∙ c.requires.count))

pub returns-in-Ok : goal.returns-in-Ok
returns-in-Ok c = λ js loaded.
    script_due (map string_bytes c.args.names.now) js (placed_shape c.args.placed.now) c.in_ok-code.code
    c.args.start.now c.in-Ok.events.items (string_bytes c.in_ok-text-in-Ok.text) c.in_ok-code.ensures
    (merged_as c.in_ok-code.code _ (bytes_of c.in_ok-bytes.bytes.items) js c.in-Ok.events.items
    (all_alike c.args.journals.now js c.in_ok-bytes.bytes.items loaded c.in_ok-bytes.ensures)
    (rw (c.hosts.ensures, c.deref.ensures.value) at c.in-Ok.ensures.merged))
    (rw c.deref-in-Ok.ensures.value at c.in_ok-text-in-Ok.ensures)

pub returns : goal.returns
returns c = λ js loaded.
    cause_due (map string_bytes c.args.names.now) js (placed_shape c.args.placed.now) c.in_ok-code.code
    c.args.start.now c.in-Err.why c.refused.result c.stopped.result c.in_ok-code.ensures
    (refused_as c.in_ok-code.code _ (bytes_of c.in_ok-bytes.bytes.items) js c.in-Err.why
    (all_alike c.args.journals.now js c.in_ok-bytes.bytes.items loaded c.in_ok-bytes.ensures)
    (rw (c.hosts.ensures, c.deref.ensures.value) at c.in-Err.ensures.refused))
    c.refused.ensures.refused c.refused.ensures.not_memory c.stopped.ensures
