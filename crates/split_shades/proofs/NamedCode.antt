-- The entries that the instructions of split code name, and those of its methods, have the program labels of what they
-- are for.
use Rattle.std.proofs.Common.{◌≡◌, ◌∙◌, ℕ, suc, ◌+◌, inl, List, [], ◌∷◌, ◌++◌, map, length, refl, ap, sym, subst}
use Rattle.std.proofs.Common.{arith, zero, append_assoc}
use Rattle.std.specs.Prelude.{Some, slice_get}
use Rattle.std.specs.List.{AllByRecursion}
use Rattle.js_base.specs.declared.ids.HostId.{HostId}
use Rattle.js_base.specs.declared.ids.MethodId.{MethodId}
use Rattle.js_base.specs.declared.ids.StmtId.{StmtId}
use Rattle.label_lattice.specs.declared.label.Label.{Label}
use Rattle.host_decl.specs.Hosts.{HostsShape}
use Rattle.jif_tree.specs.Trees.{MethodTree}
use Rattle.jif_tree.specs.LabelRules.{begin_label, method_at}
use Rattle.host_code.specs.declared.instruction.Instr.{Instr}
use Rattle.host_code.specs.declared.instruction.Op.{Op}
use Rattle.host_code.specs.declared.instruction.Op.TheVariants as op
use Rattle.host_code.specs.Code.{CodeShape, instruction_at}
use Rattle.entry_check.specs.Checks.{label_at}
use Rattle.need_labels.specs.Labelled.{Labelled}
use Rattle.msg_cost.specs.Moves.{PlannedShape, home_of}
use Rattle.split_rules.specs.Placed.{PlacedProgram, planned_from}
use Rattle.split_rules.specs.Allowed.{IsAllowed}
use Rattle.split_rules.specs.Emissions.{Emission, instruction, entry, Counts, counts_after, counts_with}
use Rattle.split_rules.specs.Emissions.{one_more_branch, stands, lands, NamedEntry}
use Rattle.split_rules.specs.Held.{IsWellHeld}
use Rattle.split_rules.specs.Positions.{all_statements}
use Rattle.split_rules.specs.SplitCode.{landed, code_labels, code_of_emissions}
use Rattle.split_rules.specs.SplitCode.{split_code, entries_in}
use Rattle.split_rules.specs.Splittable.{IsSplittable}
use Rattle.split_rules.specs.Walk.{lane_on, method_entry, method_emissions, methods_emissions, program_emissions}
use Rattle.split_rules.specs.Walk.{need_of}
use Rattle.split_rules.proofs.AllowedTyping.{body_of_method}
use Rattle.split_rules.proofs.BackedLabels.{all_second}
use Rattle.split_rules.proofs.Fronts.{front_of, front_is}
use Rattle.split_rules.proofs.Places.{found, found_entry, entries_append}
use Rattle.split_rules.proofs.SoundInstructions.{instruction_made}
use Rattle.split_rules.proofs.SoundParts.{entry_there}
use Rattle.split_rules.proofs.ToldCode.{emission_labelled}
use Rattle.split_rules.proofs.CodeItems.{code_entry}
use Rattle.split_rules.proofs.WalkedMoves.{at_last}
use Rattle.split_rules.proofs.WalkedCalls.{still_there}
use Rattle.split_shades.specs.Basis.{Basis}
use Rattle.split_shades.specs.Carried.{NamesWell, EntryHasLabel, AreCarried}
use Rattle.split_shades.proofs.BasisLabels.{basis_of}
use Rattle.split_shades.proofs.CarriedCode.{MethodKept, from_first, program_kept, in_program, program_carried}
use Rattle.split_shades.proofs.CarriedCode.{instructions_carried}
use Rattle.split_shades.proofs.CarriedCode.{entries_there}
use Rattle.split_shades.proofs.NamedBlocks.{IsWellNamed, AllNamed, AreTold, AreNamed, then_named, block_named}

-- ---- methods

methods_named : (has : ℕ → Label → Type 0) (basis : Basis) (planned : PlannedShape) (counts : Counts) (number : ℕ)
    (methods : List MethodTree) →
    ((place : ℕ) (tree : MethodTree) → slice_get methods place ≡ Some tree →
    slice_get basis.labelled.program.methods (number + place) ≡ Some tree) →
    AllByRecursion (MethodKept basis.principals basis.labelled) methods →
    AreNamed has basis counts (methods_emissions basis.principals basis.labelled planned counts number methods)
methods_named has basis planned counts number [] there kept = λ told. tt
methods_named has basis planned counts number (method ∷ methods) there kept =
    let program = basis.labelled.program in
    let first = method_emissions basis.principals basis.labelled planned counts number method in
    let none : number + 0 ≡ number = omega arith in
    let P : ℕ → Type 0 = λ place. slice_get program.methods place ≡ Some method in
    let own = subst P none (there 0 method refl) in
    let id : MethodId = record { 0 = number } in
    then_named has basis counts first
    (methods_emissions basis.principals basis.labelled planned (counts_after counts first) (suc number) methods)
    (λ told. (
      tt,
      block_named has basis planned method (record { owner = method.head; pc = method.begin }) method.body
          (inl (number, method, own, refl, refl)) kept.0
          (in_program basis.labelled id (all_statements method.body) (body_of_method program id method own)) counts
          (lane_on (home_of planned method)) told.1,
    ))
    (methods_named has basis planned (counts_after counts first) (suc number) methods
    (λ place tree at.
    let R : ℕ → Type 0 = λ one. slice_get program.methods one ≡ Some tree in
    let next : number + suc place ≡ suc number + place = omega arith in
    subst R next (there (suc place) tree at)) kept.1)

entries_named : (has : ℕ → Label → Type 0) (basis : Basis) (planned : PlannedShape) (methods : List MethodTree) →
    AllNamed has basis (map (method_entry planned) methods)
entries_named has basis planned [] = tt
entries_named has basis planned (method ∷ methods) = (tt, entries_named has basis planned methods)

-- ---- programs

program_named : (has : ℕ → Label → Type 0) (placed : PlacedProgram) →
    IsSplittable placed → IsAllowed placed → IsWellHeld placed →
    let planned = planned_from placed in
    AreNamed has (basis_of placed.hosts.principals placed.labelled) (record { entries = 0; branches = 0 })
    (program_emissions placed)
program_named has placed splittable allowed held =
    let planned = planned_from placed in
    let basis = basis_of placed.hosts.principals placed.labelled in
    let program = placed.labelled.program in
    let main = splittable.numbered.main in
    let from_zero = from_first program.methods in
    let kept = program_kept placed allowed held in
    let front = front_of planned main.0 program.methods in
    let begun : AllNamed has basis front = (tt, (tt, entries_named has basis planned program.methods)) in
    let none : Counts = record { entries = 0; branches = 0 } in
    let P : List Emission → Type 0 = λ list. AreNamed has basis none
    (list ++ methods_emissions placed.hosts.principals placed.labelled planned (counts_after none list) 0
    program.methods) in
    subst P (sym (front_is placed.labelled planned main.0 main.1))
    (then_named has basis none front _ (λ told. begun)
    (methods_named has basis planned (counts_after none front) 0 program.methods from_zero kept))

-- ---- the code

more_entries : (counts : Counts) (what : Op) → (one_more_branch what counts).entries ≡ counts.entries
more_entries counts (op.Branch guard number) = refl
more_entries counts other = refl

-- what is told of all entries of a list is told of those of a walk behind these
told_behind : (has : ℕ → Label → Type 0) (front : List NamedEntry) (emissions : List Emission) (counts : Counts) →
    counts.entries ≡ length front →
    ((number : ℕ) (named : NamedEntry) → slice_get (front ++ entries_in emissions) number ≡ Some named →
    has number named.label) → AreTold has counts emissions
told_behind has front [] counts many all = tt
told_behind has front (instruction one ∷ others) counts many all =
    (tt, told_behind has front others (counts_with counts (instruction one)) (more_entries counts one.op ∙ many) all)
told_behind has front (entry named ∷ others) counts many all =
    let same = append_assoc front (named ∷ []) (entries_in others) in
    let P : ℕ → Type 0 = λ number. has number named.label in
    let long : length (front ++ named ∷ []) ≡ suc (length front) = one_longer front named in (
      subst P (sym many) (all (length front) named (at_last front named (entries_in others))),
      told_behind has (front ++ named ∷ []) others (counts_with counts (entry named)) (ap suc many ∙ sym long)
          (λ number one is. all number one (ap (λ list. slice_get list number) (sym same) ∙ is)),
    )
  where
    one_longer : (list : List NamedEntry) (one : NamedEntry) → length (list ++ one ∷ []) ≡ suc (length list)
    one_longer [] one = refl
    one_longer (first ∷ list) one = ap suc (one_longer list one)
told_behind has front (stands host number ∷ others) counts many all =
    (tt, told_behind has front others counts many all)
told_behind has front (lands host number ∷ others) counts many all =
    (tt, told_behind has front others counts many all)

has_label : (labelled : Labelled) (hosts : HostsShape) (planned : PlannedShape) (emissions : List Emission)
    (number : ℕ) (named : NamedEntry) → slice_get (entries_in emissions) number ≡ Some named →
    EntryHasLabel (code_of_emissions labelled hosts planned emissions) number named.label
has_label labelled hosts planned emissions number named is =
    let labels = code_labels labelled emissions in
    let so = found_entry emissions number named is in (
      code_entry labels emissions number named,
      entry_there labels emissions number named is,
      emission_labelled labelled hosts planned emissions so.before (entry named) so.behind so.is named.label
          (inl refl),
    )

pub instructions_named : (basis : Basis) (hosts : HostsShape) (planned : PlannedShape) (emissions : List Emission) →
    let code = code_of_emissions basis.labelled hosts planned emissions in
    AreNamed (EntryHasLabel code) basis (record { entries = 0; branches = 0 }) emissions →
    (me : HostId) (place : ℕ) (there : Instr) → instruction_at code me place ≡ Some there →
    (label : Label) × (label_at code there.label ≡ Some label)
    × NamesWell (EntryHasLabel code) basis label there.statement there.op
instructions_named basis hosts planned emissions named me place there is =
    let made = instruction_made basis.labelled hosts planned emissions me place there is in
    let one = made.1 in
    let so = found me emissions place one.0 one.1 in
    let P : List Emission → Type 0 = λ list. AllNamed has basis list in
    let own = (all_second (IsWellNamed has basis) so.before (instruction one.0 ∷ so.behind)
    (subst P so.is all)).0 in
    let label_is = emission_labelled basis.labelled hosts planned emissions so.before (instruction one.0) so.behind
    so.is one.0.label (inl refl) in
    subst Names one.2 (
      one.0.label,
      label_is,
      landed_names one.0.host one.0.label one.0.statement one.0.op own,
    )
  where
    code : CodeShape
    code = code_of_emissions basis.labelled hosts planned emissions

    has : ℕ → Label → Type 0
    has = EntryHasLabel (code_of_emissions basis.labelled hosts planned emissions)

    Names : Instr → Type 0
    Names it = (label : Label) × (label_at code it.label ≡ Some label)
        × NamesWell has basis label it.statement it.op

    all : AllNamed has basis emissions
    all = named (told_behind has [] emissions (record { entries = 0; branches = 0 }) refl
        (has_label basis.labelled hosts planned emissions))

    landed_names : (on : HostId) (label : Label) (statement : StmtId) (what : Op) →
        NamesWell has basis label statement what →
        NamesWell has basis label statement (landed on emissions what)
    landed_names on label statement (op.Branch guard number) names = names
    landed_names on label statement other names = names

pub split_named : (placed : PlacedProgram) → IsSplittable placed → IsAllowed placed → IsWellHeld placed →
    let code = split_code placed in
    (me : HostId) (place : ℕ) (there : Instr) → instruction_at code me place ≡ Some there →
    (label : Label) × (label_at code there.label ≡ Some label)
    × NamesWell (EntryHasLabel code) (basis_of placed.hosts.principals placed.labelled) label there.statement there.op
split_named placed splittable allowed held =
    let planned = planned_from placed in
    instructions_named (basis_of placed.hosts.principals placed.labelled) placed.hosts planned
    (program_emissions placed)
    (program_named (EntryHasLabel (split_code placed)) placed splittable allowed held)

-- ---- the entries of methods

method_label : (planned : PlannedShape) (methods : List MethodTree) (place : ℕ) (tree : MethodTree) →
    slice_get methods place ≡ Some tree →
    (named : NamedEntry) × (slice_get (entries_in (map (method_entry planned) methods)) place ≡ Some named)
    × (named.label ≡ tree.begin)
method_label planned [] place tree is = absurd (cc)
method_label planned (method ∷ methods) zero tree is =
    let same : method ≡ tree = cc in (
      record { host = home_of planned method; label = method.begin; need = need_of planned (method.head ∷ []) },
      refl,
      ap (λ one. one.begin) same,
    )
method_label planned (method ∷ methods) (suc place) tree is = method_label planned methods place tree is

front_labelled : (placed : PlacedProgram) → IsSplittable placed → (number : ℕ) (named : NamedEntry) →
    let planned = planned_from placed in
    (main : MethodTree) → method_at placed.labelled.program placed.labelled.program.main ≡ Some main →
    slice_get (entries_in (front_of planned main placed.labelled.program.methods)) number ≡ Some named →
    EntryHasLabel (split_code placed) number named.label
front_labelled placed splittable number named main main_is is =
    let planned = planned_from placed in
    let front = front_of planned main placed.labelled.program.methods in
    let none : Counts = record { entries = 0; branches = 0 } in
    let Q : List Emission → Type 0 = λ list. slice_get (entries_in
    (list ++ methods_emissions placed.hosts.principals placed.labelled planned (counts_after none list) 0
    placed.labelled.program.methods))
    number ≡ Some named in
    let rest = methods_emissions placed.hosts.principals placed.labelled planned (counts_after none front) 0
    placed.labelled.program.methods in
    has_label placed.labelled placed.hosts planned (program_emissions placed)
    number named
    (subst Q (sym (front_is placed.labelled planned main main_is))
    (ap (λ list. slice_get list number) (entries_append front rest)
    ∙ still_there (entries_in front) (entries_in rest) number named is))

pub method_named : (placed : PlacedProgram) → IsSplittable placed → (place : ℕ) (tree : MethodTree) →
    slice_get placed.labelled.program.methods place ≡ Some tree →
    EntryHasLabel (split_code placed) (suc place) tree.begin
method_named placed splittable place tree is =
    let planned = planned_from placed in
    let main = splittable.numbered.main in
    let own = method_label planned placed.labelled.program.methods place tree is in
    let P : Label → Type 0 = λ label. EntryHasLabel (split_code placed) (suc place) label in
    subst P own.2 (front_labelled placed splittable (suc place) own.0 main.0 main.1 own.1)

pub halt_named : (placed : PlacedProgram) → IsSplittable placed →
    EntryHasLabel (split_code placed) 0 (begin_label (method_at placed.labelled.program placed.labelled.program.main))
halt_named placed splittable =
    let planned = planned_from placed in
    let main = splittable.numbered.main in
    let named : NamedEntry = record {
      host = home_of planned main.0;
      label = main.0.begin;
      need = need_of planned (main.0.head ∷ []);
    } in
    let P : Label → Type 0 = λ label. EntryHasLabel (split_code placed) 0 label in
    subst P (sym (ap begin_label main.1)) (front_labelled placed splittable 0 named main.0 main.1
    refl)

-- ---- all of it

pub split_is_carried : (placed : PlacedProgram) → IsSplittable placed → IsAllowed placed → IsWellHeld placed →
    AreCarried (record { principals = placed.hosts.principals; labelled = placed.labelled }) (planned_from placed)
    (split_code placed)
split_is_carried placed splittable allowed held =
    let planned = planned_from placed in
    let basis = basis_of placed.hosts.principals placed.labelled in
    let emissions = program_emissions placed in
    let all = program_carried placed splittable allowed held in
    record {
      instructions = instructions_carried basis placed.hosts planned emissions all;
      entries = entries_there basis placed.hosts planned emissions all;
      halts = halt_named placed splittable;
      methods = method_named placed splittable;
      named = split_named placed splittable allowed held;
    }
