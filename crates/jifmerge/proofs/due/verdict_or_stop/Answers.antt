use Rattle.std.proofs.Common.{◌≡◌, ◌∙◌, ◌+◌, ◌≤◌, ℕ, List, length, map, sym, subst}
use Rattle.std.proofs.lemmas.List.{length-map}
use Rattle.std.specs.List.{AllZip}
use Rattle.std.specs.Prelude.{string_bytes}
use Rattle.front_end.specs.declared.load.Asked.{Asked}
use Rattle.front_end.proofs.Stages.{due_handed_on, memory_ran_out}
use Rattle.front_end.proofs.Stops.{GivesAsked}
use Rattle.jifmerge.specs.Due.{IsDue}
use Rattle.jifmerge.proofs.DueWords.{all_due, loading_stops}
use Rattle.jifmerge.proofs.LoadedWords.{as_many_asked, contents_of, names_same, zip_length}
use Rattle.jifmerge.proofs.due.verdict_or_stop.Goals as goal

pub returns-in_err-asked-clause-due : goal.returns-in_err-asked-clause-due
returns-in_err-asked-clause-due g c =
    memory_ran_out (IsDue (map string_bytes c.args.words.now) _) c.from_residual.result c.from_residual.ensures

pub returns-in_err-loaded-clause-due : goal.returns-in_err-loaded-clause-due
returns-in_err-loaded-clause-due g c =
    due_handed_on (IsDue (map string_bytes c.args.words.now) _) c.in_err-loaded.field-0.0
    c.from_residual-in_err-loaded.result c.from_residual-in_err-loaded.ensures
    (loading_stops (map string_bytes c.args.words.now) _ _ c.in_err-loaded.field-0.0
    (rw (length-map c.args.words.now string_bytes) c.requires)
    (rw c.deref.ensures.value (names_same 0 (map string_bytes c.args.words.now) _ c.in_ok-asked.ensures))
    c.in_err-loaded.ensures.stopped)

-- no more loads than words
few_words : (after before asked words : ℕ) → asked ≡ words → after ≤ before + asked → after ≤ before + words
few_words after before asked words same few = subst (λ (n : ℕ). after ≤ before + n) same few

pub returns-in_err-loaded-clause-loads : goal.returns-in_err-loaded-clause-loads
returns-in_err-loaded-clause-loads g c =
    let many : length c.deref.result.now ≡ length c.args.words.now = rw c.deref.ensures.value
    (as_many_asked (map string_bytes c.args.words.now) c.in_ok-asked.asked.items c.in_ok-asked.ensures
    ∙ length-map c.args.words.now string_bytes) in
    few_words _ _ _ _ many c.in_err-loaded.ensures.few

pub verdict_for_loaded-requires-clause-count : goal.verdict_for_loaded-requires-clause-count
verdict_for_loaded-requires-clause-count g c =
    let many : length c.deref.result.now ≡ length c.args.words.now = rw c.deref.ensures.value
    (as_many_asked (map string_bytes c.args.words.now) c.in_ok-asked.asked.items c.in_ok-asked.ensures
    ∙ length-map c.args.words.now string_bytes) in
    rw c.deref-2.ensures.value
    (sym (zip_length (GivesAsked (g.F.Files.held c.args.files.now)) c.deref.result.now c.in_ok-loaded.loaded.items
    c.in_ok-loaded.ensures.loaded) ∙ many)

pub returns-clause-loads : goal.returns-clause-loads
returns-clause-loads g c =
    let many : length c.deref.result.now ≡ length c.args.words.now = rw c.deref.ensures.value
    (as_many_asked (map string_bytes c.args.words.now) c.in_ok-asked.asked.items c.in_ok-asked.ensures
    ∙ length-map c.args.words.now string_bytes) in
    few_words _ _ _ _ many c.in_ok-loaded.ensures.few

pub returns-clause-due : goal.returns-clause-due
returns-clause-due g c =
    let held = g.F.Files.held c.args.files.now in
    let many : length c.deref.result.now ≡ length (map string_bytes c.args.words.now) = rw c.deref.ensures.value
    (as_many_asked (map string_bytes c.args.words.now) c.in_ok-asked.asked.items c.in_ok-asked.ensures) in
    all_due (map string_bytes c.args.words.now) _ c.in_ok-loaded.loaded.items (length c.deref.result.now)
    c.verdict_for_loaded.result (rw (length-map c.args.words.now string_bytes) c.requires)
    (contents_of held 0 (map string_bytes c.args.words.now) c.in_ok-asked.asked.items c.in_ok-loaded.loaded.items
    c.in_ok-asked.ensures
    (subst (λ (all : List Asked). AllZip (GivesAsked held) all c.in_ok-loaded.loaded.items) c.deref.ensures.value
    c.in_ok-loaded.ensures.loaded))
    many c.in_ok-loaded.ensures.loads c.in_ok-loaded.ensures.faults
    (λ bytes all. c.verdict_for_loaded.ensures bytes (rw c.deref-2.ensures.value all))
