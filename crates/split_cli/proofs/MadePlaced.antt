-- The program that is made is accepted and has places on its hosts, and these hosts come to rest.
use Rattle.std.proofs.Common.{◌≡◌, ◌<◌, ◌⊎◌, ℕ, ℤ, List, [], ◌∷◌, map, length, Option, None, Some, Ok, refl, sym}
use Rattle.std.proofs.Common.{subst, inl, inr, ⊎_elim, arith, codes}
use Rattle.std.specs.List.{AllZip}
use Rattle.std.proofs.lemmas.List.{length-map}
use Rattle.js_base.specs.Counts.{Rose}
use Rattle.js_base.specs.declared.limits.TheConstants.{STATEMENTS}
use Rattle.js_base.specs.declared.status.Status.{Status}
use Rattle.js_base.specs.declared.status.Status.TheVariants.{Done, NoMemory, OutFault}
use Rattle.event_text.specs.Lines.{said_lines}
use Rattle.event_text.specs.Settings.{FieldForm, settings_in_front, starting_rows, after_settings}
use Rattle.event_text.specs.Start.{program_form, start_of}
use Rattle.host_decl.specs.Hosts.{HostsShape, AreHosts}
use Rattle.host_decl.specs.Reading.{ReadsHosts}
use Rattle.need_labels.specs.Labelled.{Labelled}
use Rattle.need_labels.specs.Needs.{NeedsShape}
use Rattle.need_labels.specs.Plan.{PlanShape}
use Rattle.place_rules.specs.Allowed.{AllowedShape}
use Rattle.place_rules.specs.PlaceRules.{AreAllowed}
use Rattle.placement.specs.Placing.{IsPlaced}
use Rattle.made_laws.specs.Made.{IsMadeAccepted, labelled_with}
use Rattle.made_laws.specs.MadePrograms.{made_hosts, made_program}
use Rattle.front_end.specs.Answers.{SinkChange, IsAnswered}
use Rattle.front_end.specs.Loads.{FilesChange, Told}
use Rattle.front_end.specs.PlacedCode.{code_of, cost_of, program_of}
use Rattle.front_end.specs.PlacedSources.{PlacedSource, PlacedSources}
use Rattle.front_end.specs.Stages.{given}
use Rattle.front_end.specs.Starting as starting
use Rattle.front_end.specs.Verdicts.{VerdictShape, Print}
use Rattle.front_end.proofs.NativeSources.{NativeLaws, source_seen}
use Rattle.front_end.proofs.ReadSources.{source_given}
use Rattle.split_cli.specs.Answers.{AnswersTo}
use Rattle.split_words.specs.Commands.{CommandShape, IsCommand, IsMadeCount, Make, words_of}
use Rattle.split_cli.specs.Driven.{rested}
use Rattle.split_cli.specs.Due.{Due, DueForBytes, DueForCommand, IsDue, IsFault, no_words, for_command, absent, loaded}
use Rattle.split_cli.specs.Making.{DueForMake, made_text}
use Rattle.split_cli.proofs.Completeness.{OneVerdict}
use Rattle.split_cli.proofs.Faithful.{AllLaws, set_of}
use Rattle.split_cli.proofs.OneVerdict.{one_command}
use Rattle.split_cli.proofs.RestingDrives.{HaltsLaw}

-- what is known of made programs, and of hosts and plans
pub record MakingLaws : Type 0 where
  pub accepted : (statements : ℕ) → statements < STATEMENTS → IsMadeAccepted statements
  pub hosts : (bytes : List ℕ) (file : HostsShape) → ReadsHosts bytes file → AreHosts file
  pub some_plan : (labelled : Labelled) (needs : NeedsShape) (hosts : HostsShape) (allowed : AllowedShape) →
      0 < length hosts.hosts → AreAllowed labelled needs hosts allowed →
      (plan : PlanShape) × IsPlaced labelled needs hosts allowed plan
  pub native : NativeLaws

-- ---- places

pub made_placed : MakingLaws → (statements : ℕ) → IsMadeCount statements →
    (placed : PlacedSource) × PlacedSources (made_program statements) made_hosts (given placed)
made_placed laws statements count =
    let it = laws.accepted statements (omega (arith, count.most)) in
    let are = laws.hosts made_hosts it.file it.hosts in
    let some : 0 < length it.file.hosts =
    omega (arith, length-map it.file.hosts (λ host. host.name), are.names.some) in
    let plan = laws.some_plan (labelled_with it.file it.tree) it.needs it.file it.allowed some it.allowed_are in (
      record {
        source = record { file = it.file; tree = it.tree };
        needs = it.needs;
        allowed = it.allowed;
        plan = plan.0;
      },
      inl (
        record { file = it.file; tree = it.tree },
        inl (
          it.draft,
          inl (it.list, (it.few, it.read), it.parsed),
          inl (it.file, it.hosts, inl (it.tree, it.resolved, (it.labelled, refl))),
        ),
        record { same = refl; needs = it.needs_are; plan = plan.1 },
      ),
    )

-- ---- what is due

-- the values that the program gives its fields
abbrev own_values : List FieldForm → List (List ℤ)
own_values fields = after_settings (starting_rows fields) (settings_in_front fields (said_lines []))

no_settings : (fields : List FieldForm) → start_of fields [] ≡ Ok (own_values fields)
no_settings fields = refl

pub made_due : MakingLaws → AllLaws → HaltsLaw → (statements : ℕ) → IsMadeCount statements →
    (text : List ℕ) × DueForMake statements (Print Done text)
unfolding made_placed
made_due laws all halts statements count =
    let it = laws.accepted statements (omega (arith, count.most)) in
    let here = made_placed laws statements count in
    let placed = here.0 in
    let program = made_program statements in
    let seen = source_seen laws.native program made_hosts placed.source
    (source_given program made_hosts placed here.1) in
    let tree = seen.0 in
    let values = own_values (map program_form tree.fields.items) in
    let set = set_of all program made_hosts placed tree (record { accepted = here.1; tree_is = seen.1 }) in
    let end = halts tree (program_of placed) values statements set (it.runs tree values seen.1) in
    let code = code_of placed in
    let text = made_text statements (cost_of placed) code (length end.events) end.after in (
      text,
      inl (
        placed,
        here.1,
        (
          tree,
          seen.1,
          inl (
            values,
            starting.read values (omega arith) (no_settings (map program_form tree.fields.items)),
            record {
              events = end.events;
              last = end.after;
              status = Done;
              ends = rested (omega (arith, count.most, end.few)) end.driven end.at_rest;
              verdict_is = refl;
            },
          ),
        ),
      ),
    )

-- it is due for the words, whatever the files hold and whether they tell or not
verdict_for_words : (statements : ℕ) → IsMadeCount statements → (held : Option (List ℕ → Option (List ℕ)))
    (verdict : VerdictShape) → DueForMake statements verdict → Due (words_of (Make statements)) held 0 verdict
verdict_for_words statements count held verdict due =
    for_command (Make statements) 0 verdict count refl (loaded verdict (record { bytes = []; told = tt; due = due }))

pub made_done : MakingLaws → AllLaws → HaltsLaw → (statements : ℕ) (held : Option (List ℕ → Option (List ℕ))) →
    IsMadeCount statements → (text : List ℕ) × Due (words_of (Make statements)) held 0 (Print Done text)
made_done laws all halts statements held count =
    let due = made_due laws all halts statements count in
    (due.0, verdict_for_words statements count held (Print Done due.0) due.1)

-- ---- nothing else is due

no_file_is_absent : (statements : ℕ) (held : Option (List ℕ → Option (List ℕ))) (number : ℕ) (verdict : VerdictShape) →
    DueForCommand held (Make statements) number verdict → DueForMake statements verdict
no_file_is_absent statements held _ _ (absent place file first) = absurd (let no = first.here in cc)
no_file_is_absent statements held _ _ (loaded verdict due) = by due.bytes due.told due.due
  where
    by : (bytes : List (List ℕ)) → AllZip (λ file content. Told held file (Some content)) [] bytes →
        DueForBytes (Make statements) bytes verdict → DueForMake statements verdict
    by [] told due = due
    by (content ∷ bytes) told due = absurd told

due_of_words : (statements : ℕ) → IsMadeCount statements → (held : Option (List ℕ → Option (List ℕ))) (number : ℕ)
    (verdict : VerdictShape) → Due (words_of (Make statements)) held number verdict → DueForMake statements verdict
due_of_words statements count held _ _ (no_words none) = absurd (none (Make statements) count refl)
due_of_words statements count held _ _ (for_command command number verdict is same due) =
    no_file_is_absent statements held number verdict
    (subst (λ (asked : CommandShape). DueForCommand held asked number verdict)
    (sym (one_command (Make statements) command count is same)) due)

-- no file fails where none is loaded
never_fails : (statements : ℕ) (files : FilesChange) (verdict : VerdictShape) →
    ¬ IsFault (Make statements) files verdict
never_fails statements files verdict (inl fault) = let no = fault.0.here in cc
never_fails statements files verdict (inr fault) = fault

only_done : OneVerdict → (statements : ℕ) → IsMadeCount statements → (files : FilesChange) (text : List ℕ)
    (verdict : VerdictShape) → Due (words_of (Make statements)) (Some (λ name. None)) 0 (Print Done text) →
    IsDue (words_of (Make statements)) files verdict → verdict ≡ Print Done text
only_done one statements count files text verdict due (inl by_files) =
    (one (words_of (Make statements)) (λ name. None) 0 0 verdict (Print Done text)
    (verdict_for_words statements count (Some (λ name. None)) verdict
    (due_of_words statements count files.held by_files.0 verdict by_files.1)) due).1
only_done one statements count files text verdict due (inr fault) =
    absurd (never_fails statements files verdict
    (subst (λ (asked : CommandShape). IsFault asked files verdict)
    (sym (one_command (Make statements) fault.0 count fault.1 fault.2)) fault.3))

-- the answer is `Done`, or memory ran out, or the output counted a fault
pub made_answers : OneVerdict → (statements : ℕ) → IsMadeCount statements → (words : List (List ℕ))
    (files : FilesChange) (answer : Status) (out err : SinkChange) (text : List ℕ) →
    Due (words_of (Make statements)) (Some (λ name. None)) 0 (Print Done text) → words ≡ words_of (Make statements) →
    AnswersTo words files answer out err →
    (answer ≡ Done) ⊎ (answer ≡ NoMemory) ⊎ ((answer ≡ OutFault) × Rose out.faults_before out.faults_after)
made_answers one statements count words files answer out err text due asked answers =
    ⊎_elim (λ memory. inr (inl memory.0))
    (λ whole.
    let is_due = subst (λ (said : List (List ℕ)). IsDue said files whole.0) asked whole.1 in
    let answered = subst (λ (verdict : VerdictShape). IsAnswered (codes "jifsplit") verdict answer out err)
    (only_done one statements count files text whole.0 due is_due) whole.2 in
    ⊎_elim (λ put. inl put.0) (λ fault. inr (inr (fault.0, fault.1))) answered.1)
    answers
