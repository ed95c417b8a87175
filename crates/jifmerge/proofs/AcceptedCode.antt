-- What is asked of a code and of starting values whose script is read again holds of every accepted program.
use Rattle.std.proofs.Common.{◌≡◌, ◌∙◌, ◌+◌, ℕ, suc, ℤ, List, [], ◌∷◌, length, map, Ok, refl, ap, subst}
use Rattle.std.specs.Prelude.{All, FitsSigned}
use Rattle.std.specs.Int.{w64}
use Rattle.std.proofs.lemmas.List.Elements.{All-map}
use Rattle.host_code.specs.Sound.{IsSoundCode}
use Rattle.host_decl.specs.Hosts.{HostsShape, AreHosts}
use Rattle.host_decl.specs.Reading.{ReadsHosts}
use Rattle.label_lattice.specs.declared.label.Label.{Label}
use Rattle.jif_tree.specs.declared.program.Program.{Program}
use Rattle.jif_tree.specs.Trees.{FieldTree, ProgramTree, field_tree, program_tree}
use Rattle.need_labels.specs.Plan.{PlanShape}
use Rattle.event_text.specs.declared.event.Event.{Event}
use Rattle.event_text.specs.Lines.{LineShape, said_lines}
use Rattle.event_text.specs.Script.{script_of}
use Rattle.event_text.specs.ScriptText.{front_lines, on_lines, script_text}
use Rattle.event_text.specs.Settings.{FieldForm, HasRows, form_of, settings_in_front, past_settings, starting_rows}
use Rattle.event_text.specs.Settings.{after_settings}
use Rattle.event_text.specs.Start.{program_form, start_where_left}
use Rattle.event_text.proofs.Rows.{sizes_after}
use Rattle.net_world.specs.World.{AreHostsOf}
use Rattle.record_merge.specs.Merging.{IsMerged}
use Rattle.split_file.specs.File.{IsRealCode}
use Rattle.split_rules.specs.SplitCode.{placed_code_fields}
use Rattle.front_end.specs.PlacedCode.{code_of}
use Rattle.front_end.specs.PlacedSources.{PlacedSource, PlacedSources}
use Rattle.front_end.specs.Stages.{given}
use Rattle.front_end.specs.Starting.{StartingValues, read}
use Rattle.front_end.proofs.ReadSources.{read_source, source_given}
use Rattle.front_end.proofs.SeenItems.{map_seen}
use Rattle.jifmerge.specs.Merged.{first_world}
use Rattle.jifmerge.specs.Replays.{CanBeSaid}
use Rattle.jifmerge.proofs.AcceptedNames.{fields_distinct, hosts_distinct}
use Rattle.jifmerge.proofs.Replays.{ReplayLaws, read_again}
use Rattle.jifmerge.proofs.StartNumbers.{starts_fit}

-- what is known of accepted programs and of host files
pub record AcceptedLaws : Type 0 where
  pub real : (program hosts : List ℕ) (placed : PlacedSource) → PlacedSources program hosts (given placed) →
      IsRealCode (code_of placed)
  pub hosts : (bytes : List ℕ) (file : HostsShape) → ReadsHosts bytes file → AreHosts file

-- ---- fields

-- what scripts know of a field, by its tree
tree_form : FieldTree → FieldForm
tree_form tree = record { name = tree.name; size = tree.size; array = tree.array; first = tree.first }

forms_placed : (labels : List Label) (plan : PlanShape) (number : ℕ) (trees : List FieldTree) →
    map tree_form trees ≡ map form_of (placed_code_fields labels plan number trees)
unfolding tree_form
forms_placed labels plan number [] = refl
forms_placed labels plan number (tree ∷ trees) =
    ap (λ forms. tree_form tree ∷ forms) (forms_placed labels plan (suc number) trees)

-- a program and its code have the same fields
same_forms : (placed : PlacedSource) (tree : Program) → program_tree tree ≡ placed.source.tree →
    map program_form tree.fields.items ≡ map form_of (code_of placed).fields
unfolding tree_form
same_forms placed tree is =
    map_seen program_form field_tree tree_form (λ field. refl) tree.fields.items
    ∙ ap (λ (t : ProgramTree). map tree_form t.fields) is
    ∙ forms_placed (code_of placed).labels placed.plan 0 placed.source.tree.fields

-- ---- starting values

-- what a file leaves that was read
left_by : (start : List (List ℤ)) (lines : List LineShape) (values : List (List ℤ)) →
    start_where_left start lines ≡ Ok values → start ≡ values
left_by start [] values is = let same : start ≡ values = cc in same
left_by start (line ∷ lines) values is = absurd cc

values_are : (name start : List ℕ) (fields : List FieldForm) (values : List (List ℤ)) →
    StartingValues name start fields (given values) →
    after_settings (starting_rows fields) (settings_in_front fields (said_lines start)) ≡ values
values_are name start fields values (read _ short is) =
    left_by _ (past_settings fields (said_lines start)) values is

-- ---- the whole

pub can_be_said : AcceptedLaws → (program hosts name start : List ℕ) (placed : PlacedSource) (tree : Program)
    (values : List (List ℤ)) → PlacedSources program hosts (given placed) → program_tree tree ≡ placed.source.tree →
    StartingValues name start (map program_form tree.fields.items) (given values) →
    IsSoundCode (code_of placed) × AreHostsOf (code_of placed) placed.source.file.hosts
    × CanBeSaid (code_of placed) values
can_be_said laws program hosts name start placed tree values accepted is starts =
    let source = read_source program hosts placed.source (source_given program hosts placed accepted) in
    let real = laws.real program hosts placed accepted in
    let code = code_of placed in
    let forms : List FieldForm = map form_of code.fields in
    let lines : List LineShape = said_lines start in
    let same = values_are name start forms values
    (subst (λ (fields : List FieldForm). StartingValues name start fields (given values)) (same_forms placed tree is)
    starts) in (
      real.0,
      refl,
      record {
        hosts = hosts_distinct placed (laws.hosts hosts placed.source.file source.file);
        fields = fields_distinct program hosts placed source;
        sizes = subst (HasRows forms) same (sizes_after forms (settings_in_front forms lines));
        fit = subst (All (All (FitsSigned w64))) same
            (starts_fit forms lines
            (All-map (λ (form : FieldForm). FitsSigned w64 form.first) form_of code.fields real.1.fields));
      },
    )

-- so the script that is due is read again
pub accepted_again : AcceptedLaws → ReplayLaws → (program hosts name start : List ℕ) (placed : PlacedSource)
    (tree : Program) (values : List (List ℤ)) (journals : List (List ℕ)) (events : List Event) →
    PlacedSources program hosts (given placed) → program_tree tree ≡ placed.source.tree →
    StartingValues name start (map program_form tree.fields.items) (given values) →
    IsMerged (code_of placed) (first_world placed values) journals events →
    script_of (code_of placed) (script_text (code_of placed) 0 values events) ≡ Ok (record {
      bad = 0;
      start = values;
      events = on_lines (length (front_lines (code_of placed) 0 values) + 1) events;
    })
accepted_again laws replays program hosts name start placed tree values journals events accepted is starts merged =
    let can = can_be_said laws program hosts name start placed tree values accepted is starts in
    read_again replays (code_of placed) placed.source.file.hosts values journals events can.0 can.1 can.2 merged
