-- What the hosts of a script may affect by the program and its hosts is what the chart tells by the code and the world.
use Rattle.std.proofs.Common.{◌≡◌, ◌∙◌, ℕ, zero, suc, ◌+◌, Bool, true, false, List, [], ◌∷◌, ◌++◌, length, map}
use Rattle.std.proofs.Common.{Option, Some, None, refl, ap, sym, arith, inl, inr}
use Rattle.std.specs.Prelude.{ℤ, ◌==◌, filter, if◌then◌else◌, slice_get}
use Rattle.std.specs.Int.{bit_at}
use Rattle.std.specs.List.{cons_option, filter_map, flat_map, range_with_len}
use Rattle.std.specs.Option.{option_map}
use Rattle.std.proofs.lemmas.List.{length-map}
use Rattle.std.proofs.lemmas.Option.{slice_get-map}
use Rattle.js_base.specs.declared.ids.HostId.{HostId}
use Rattle.label_lattice.specs.declared.label.Label.{Label}
use Rattle.host_decl.specs.Hosts.{HostShape}
use Rattle.jif_tree.specs.Trees.{FieldTree}
use Rattle.entry_check.specs.Checks.{label_of_host}
use Rattle.event_text.specs.declared.event.Event.{Event}
use Rattle.host_code.specs.Code.{CodeFieldShape, CodeHostShape, CodeShape}
use Rattle.host_core.specs.Host as core
use Rattle.host_core.specs.Start.{host_at_start}
use Rattle.need_labels.specs.Plan.{PlanShape}
use Rattle.net_world.specs.World.{WorldShape, IsRun, IsStep, hosts_before, is_absent, misbehaves, named_host}
use Rattle.net_world.specs.World.{world_at_start}
use Rattle.split_rules.specs.Placed.{PlacedProgram}
use Rattle.split_rules.specs.SplitCode.{label_of_emission, label_place, placed_code_fields, split_code}
use Rattle.split_rules.specs.Walk.{program_emissions}
use Rattle.split_rules.proofs.CodeLabels.{IsLabelIn, label_left, label_placed}
use Rattle.integrity.specs.Exposed.{bad_labels, exposure_of}
use Rattle.run_sheet.specs.ChartLaws.{IsExposedTo}
use Rattle.run_sheet.specs.FieldMarks.{misbehaving_in}

abbrev as_host : ℕ → HostId
as_host number = record { 0 = number }

-- ---- who misbehaves stays so

abbrev pub KeepsBad : Type 0
KeepsBad = (code : CodeShape) (world after : WorldShape) (event : Event) (host : HostId) →
    IsStep code world event after → misbehaves after host ≡ misbehaves world host

kept_bad : KeepsBad → (code : CodeShape) (world last : WorldShape) (events : List Event) (host : HostId) →
    IsRun code world events last → misbehaves last host ≡ misbehaves world host
kept_bad law code world last [] host ran = ap (λ (w : WorldShape). misbehaves w host) (sym ran)
kept_bad law code world last (event ∷ events) host (next, step, ran) =
    kept_bad law code next last events host ran ∙ law code world next event host step

-- ---- who misbehaves at first

absent_where : (b : Bool) (state : core.HostState) → is_absent (Some (if b then None else Some state)) ≡ b
absent_where true state = refl
absent_where false state = refl

bad_before : (code : CodeShape) (store : List (List ℤ)) (bad number : ℕ) (rows : List HostShape) (place at : ℕ)
    (row : HostShape) → at ≡ number + place → slice_get rows place ≡ Some row →
    is_absent (slice_get (hosts_before code store bad number rows) place) ≡ (bit_at bad at == 1)
bad_before code store bad number [] place at row is there = absurd (cc)
bad_before code store bad number (first ∷ rows) zero at row is there =
    let here : at ≡ number = omega (arith, is) in
    absent_where (bit_at bad number == 1) (host_at_start code store first.key (record { 0 = number }))
    ∙ ap (λ (n : ℕ). bit_at bad n == 1) (sym here)
bad_before code store bad number (first ∷ rows) (suc place) at row is there =
    bad_before code store bad (number + 1) rows place at row (omega (arith, is)) there

-- ---- the labels of those that misbehave

-- of hosts from a number on, whether they misbehave and their labels are these
pub record AreTold (misbehaves : HostId → Bool) (label : HostId → Option Label) (bad number : ℕ)
    (rows : List HostShape) : Type 0 where
  pub bad_is : (place at : ℕ) (row : HostShape) → at ≡ number + place → slice_get rows place ≡ Some row →
      misbehaves (record { 0 = at }) ≡ (bit_at bad at == 1)
  pub label_is : (place at : ℕ) (row : HostShape) → at ≡ number + place → slice_get rows place ≡ Some row →
      label (record { 0 = at }) ≡ Some row.label

told_behind : (misbehaves : HostId → Bool) (label : HostId → Option Label) (bad number : ℕ) (row : HostShape)
    (rows : List HostShape) → AreTold misbehaves label bad number (row ∷ rows) →
    AreTold misbehaves label bad (number + 1) rows
told_behind misbehaves label bad number row rows told = record {
  bad_is = λ place at one is there. told.bad_is (suc place) at one (omega (arith, is)) there;
  label_is = λ place at one is there. told.label_is (suc place) at one (omega (arith, is)) there;
}

-- one host more, which misbehaves or not
one_label : (bad : Bool) (label : Label) (host : HostId) (test : HostId → Bool) (labels : HostId → Option Label)
    (hosts : List HostId) (others : List Label) → test host ≡ bad → labels host ≡ Some label →
    others ≡ filter_map labels (filter test hosts) →
    (if bad then label ∷ [] else []) ++ others ≡ filter_map labels (filter test (host ∷ hosts))
one_label true label host test labels hosts others tests has later =
    ap (λ (ls : List Label). label ∷ ls) later
    ∙ sym (ap (λ (found : Option Label). cons_option found (filter_map labels (filter test hosts))) has)
    ∙ sym (ap (λ (is : Bool). filter_map labels (if is then host ∷ filter test hosts else filter test hosts)) tests)
one_label false label host test labels hosts others tests has later =
    later
    ∙ sym (ap (λ (is : Bool). filter_map labels (if is then host ∷ filter test hosts else filter test hosts)) tests)

labels_told : (test : HostId → Bool) (labels : HostId → Option Label) (bad number : ℕ) (rows : List HostShape) →
    AreTold test labels bad number rows →
    bad_labels bad number rows
    ≡ filter_map labels (filter test (map as_host (range_with_len number (length rows))))
labels_told test labels bad number [] told = refl
labels_told test labels bad number (row ∷ rows) told =
    one_label (bit_at bad number == 1) row.label (record { 0 = number }) test labels
    (map as_host (range_with_len (number + 1) (length rows))) (bad_labels bad (number + 1) rows)
    (told.bad_is 0 number row (omega arith) refl) (told.label_is 0 number row (omega arith) refl)
    (labels_told test labels bad (number + 1) rows (told_behind test labels bad number row rows told))

label_of_row : (code : CodeShape) (rows : List HostShape) (place at : ℕ) (row : HostShape) →
    map named_host rows ≡ code.hosts → at ≡ 0 + place → slice_get rows place ≡ Some row →
    label_of_host code (record { 0 = at }) ≡ Some row.label
label_of_row code rows place at row are is there =
    let same : at ≡ place = omega (arith, is) in
    let label : CodeHostShape → Label = λ there. there.label in
    ap (λ (hosts : List CodeHostShape). option_map label (slice_get hosts at)) (sym are)
    ∙ ap (option_map label)
    (slice_get-map named_host rows at ∙ ap (λ (n : ℕ). option_map named_host (slice_get rows n)) same
    ∙ ap (option_map named_host) there)

bad_told : KeepsBad → (code : CodeShape) (rows : List HostShape) (bad : ℕ) (store : List (List ℤ))
    (events : List Event) (last : WorldShape) → map named_host rows ≡ code.hosts →
    IsRun code (world_at_start code rows bad store) events last →
    AreTold (misbehaves last) (label_of_host code) bad 0 rows
bad_told law code rows bad store events last are ran = record {
  bad_is = λ place at row is there.
      let same : at ≡ place = omega (arith, is) in
      kept_bad law code (world_at_start code rows bad store) last events (record { 0 = at }) ran
      ∙ ap (λ (n : ℕ). is_absent (slice_get (hosts_before code store bad 0 rows) n)) same
      ∙ bad_before code store bad 0 rows place at row is there;
  label_is = λ place at row is there. label_of_row code rows place at row are is there;
}

bad_exposed : KeepsBad → (code : CodeShape) (rows : List HostShape) (bad : ℕ) (store : List (List ℤ))
    (events : List Event) (last : WorldShape) → map named_host rows ≡ code.hosts →
    IsRun code (world_at_start code rows bad store) events last →
    bad_labels bad 0 rows ≡ filter_map (label_of_host code) (misbehaving_in code last)
bad_exposed law code rows bad store events last are ran =
    let long : length rows ≡ length code.hosts = sym (length-map rows named_host) ∙ ap length are in
    labels_told (misbehaves last) (label_of_host code) bad 0 rows (bad_told law code rows bad store events last are ran)
    ∙ ap (λ (n : ℕ). filter_map (label_of_host code)
    (filter (misbehaves last) (map as_host (range_with_len 0 n)))) long

-- ---- the labels of fields

fields_told : (labels : List Label) (plan : PlanShape) (number : ℕ) (fields : List FieldTree) →
    ((label : Label) → IsLabelIn label (map (λ (field : FieldTree). field.label) fields) →
    slice_get labels (label_place 0 label labels) ≡ Some label) →
    map (λ (label : Label). Some label) (map (λ (field : FieldTree). field.label) fields)
    ≡ map (λ (field : CodeFieldShape). slice_get labels field.label) (placed_code_fields labels plan number fields)
fields_told labels plan number [] placed = refl
fields_told labels plan number (field ∷ fields) placed =
    ap (λ (found : Option Label). found ∷ map (λ (label : Label). Some label) (map (λ (f : FieldTree). f.label) fields))
    (sym (placed field.label (inl refl)))
    ∙ ap (λ (others : List (Option Label)). slice_get labels (label_place 0 field.label labels) ∷ others)
    (fields_told labels plan (suc number) fields (λ label among. placed label (inr among)))

labels_placed : (placed : PlacedProgram) (label : Label) →
    IsLabelIn label (map (λ (field : FieldTree). field.label) placed.labelled.program.fields) →
    slice_get (split_code placed).labels (label_place 0 label (split_code placed).labels) ≡ Some label
labels_placed placed label among =
    let fields = map (λ (field : FieldTree). field.label) placed.labelled.program.fields in
    let given = flat_map label_of_emission (program_emissions placed) in
    label_placed label (fields ++ placed.labelled.var_labels ++ given)
    (label_left label (fields ++ placed.labelled.var_labels) given
    (label_left label fields placed.labelled.var_labels among))

-- ---- both

pub exposed : KeepsBad → (placed : PlacedProgram) (bad : ℕ) (store : List (List ℤ)) (events : List Event)
    (last : WorldShape) →
    IsRun (split_code placed) (world_at_start (split_code placed) placed.hosts.hosts bad store) events last →
    IsExposedTo (split_code placed) last (exposure_of placed bad)
exposed law placed bad store events last ran = record {
  bad = bad_exposed law (split_code placed) placed.hosts.hosts bad store events last refl ran;
  fields = fields_told (split_code placed).labels placed.plan 0 placed.labelled.program.fields (labels_placed placed);
}
