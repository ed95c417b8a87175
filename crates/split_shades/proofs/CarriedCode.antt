-- The instructions and entries of split code carry the program labels of statements and blocks.
use Rattle.std.proofs.Common.{◌≡◌, ℕ, suc, ◌+◌, inl, List, [], ◌∷◌, ◌++◌, map, refl, sym}
use Rattle.std.proofs.Common.{subst, arith}
use Rattle.std.specs.Prelude.{Some, slice_get}
use Rattle.std.specs.List.{AllByRecursion}
use Rattle.js_base.specs.declared.ids.HostId.{HostId}
use Rattle.js_base.specs.declared.ids.MethodId.{MethodId}
use Rattle.js_base.specs.declared.ids.StmtId.{StmtId}
use Rattle.principals.specs.ActsFor.{Declared}
use Rattle.label_lattice.specs.declared.label.Label.{Label}
use Rattle.host_decl.specs.Hosts.{HostsShape}
use Rattle.jif_tree.specs.Trees.{BlockTree, MethodTree}
use Rattle.jif_tree.specs.LabelRules.{VariableLabels, setting_of, labels_after, labels_after_methods, block_labels}
use Rattle.jif_tree.specs.LabelRules.{methods_labels, declared_labels}
use Rattle.jif_tree.specs.ValueLabels.{AreAllValuesLabelled}
use Rattle.jif_tree.proofs.LabelsKept.{Stay}
use Rattle.host_code.specs.declared.code.Entry.{Entry}
use Rattle.host_code.specs.declared.instruction.Instr.{Instr}
use Rattle.host_code.specs.declared.instruction.Op.{Op}
use Rattle.host_code.specs.declared.instruction.Op.TheVariants as op
use Rattle.host_code.specs.Code.{CodeShape, instruction_at}
use Rattle.entry_check.specs.Checks.{label_at}
use Rattle.need_labels.specs.Labelled.{Labelled}
use Rattle.msg_cost.specs.Moves.{PlannedShape, home_of}
use Rattle.split_rules.specs.Placed.{PlacedProgram, planned_from}
use Rattle.split_rules.specs.Allowed.{IsAllowed}
use Rattle.split_rules.specs.Emissions.{Emission, instruction, entry, Counts, counts_after}
use Rattle.split_rules.specs.Held.{IsWellHeld}
use Rattle.split_rules.specs.Positions.{IsStatementOfMethod, IsOf, all_statements}
use Rattle.split_rules.specs.SplitCode.{landed, code_labels}
use Rattle.split_rules.specs.SplitCode.{code_of_emissions}
use Rattle.split_rules.specs.Splittable.{IsSplittable}
use Rattle.split_rules.specs.Walk.{lane_on, method_entry, method_emissions, methods_emissions, program_emissions}
use Rattle.split_rules.proofs.AllowedTyping.{body_of_method, methods_stay}
use Rattle.split_rules.proofs.BackedLabels.{all_first, all_second}
use Rattle.split_rules.proofs.Fronts.{front_of, front_is}
use Rattle.split_rules.proofs.LabelsKept.{AreFinal}
use Rattle.split_rules.proofs.Places.{found, found_entry}
use Rattle.split_rules.proofs.SeenBlocks.{IsKept, AreLabelsKept}
use Rattle.split_rules.proofs.SeenPrograms.{labels_kept}
use Rattle.split_rules.proofs.SoundInstructions.{instruction_made}
use Rattle.split_rules.proofs.SoundParts.{entry_made}
use Rattle.split_rules.proofs.ToldCode.{emission_labelled}
use Rattle.split_shades.specs.Basis.{Basis}
use Rattle.split_shades.specs.Carried.{InstructionCarriesWell, IsCarried, IsBlockOf}
use Rattle.split_shades.proofs.BasisLabels.{basis_of}
use Rattle.split_shades.proofs.CarriedBlocks.{BlockKept, block_kept, AllCarried, then_carried, block_carried}

-- ---- methods

abbrev pub MethodKept : Declared → Labelled → MethodTree → Type 0
MethodKept principals labelled method =
    BlockKept labelled (setting_of principals labelled.program method) method.begin method.body

pub methods_kept : (principals : Declared) (labelled : Labelled) (final : VariableLabels) →
    AreFinal labelled final → (methods : List MethodTree) (labels : VariableLabels) →
    labels_after_methods principals labelled.program labels methods ≡ final →
    AreAllValuesLabelled principals labelled.program labels methods →
    AreLabelsKept labelled (methods_labels principals labelled.program labels methods) →
    AllByRecursion (MethodKept principals labelled) methods
methods_kept principals labelled final are [] labels end values kept = tt
methods_kept principals labelled final are (method ∷ methods) labels end values kept =
    let setting = setting_of principals labelled.program method in
    let after = labels_after setting method.begin labels method.body in
    let own = block_labels setting method.begin labels method.body in
    let stay = subst (Stay after) end (methods_stay principals labelled.program after methods) in (
      block_kept labelled setting final are method.begin labels method.body stay values.0
          (all_first (IsKept labelled) own _ kept.1),
      methods_kept principals labelled final are methods after end values.1 (all_second (IsKept labelled) own _ kept.1),
    )

-- what is in a method is of the program
pub in_program : (labelled : Labelled) (method : MethodId) (statements : List BlockTree) →
    AllByRecursion (IsStatementOfMethod labelled.program method) statements →
    AllByRecursion (IsOf labelled.program) statements
in_program labelled method [] all = tt
in_program labelled method (statement ∷ others) all = ((method, all.0), in_program labelled method others all.1)

methods_carried : (basis : Basis) (planned : PlannedShape) (counts : Counts) (number : ℕ) (methods : List MethodTree) →
    ((place : ℕ) (tree : MethodTree) → slice_get methods place ≡ Some tree →
    slice_get basis.labelled.program.methods (number + place) ≡ Some tree) →
    AllByRecursion (MethodKept basis.principals basis.labelled) methods →
    AllCarried basis planned (methods_emissions basis.principals basis.labelled planned counts number methods)
methods_carried basis planned counts number [] there kept = tt
methods_carried basis planned counts number (method ∷ methods) there kept =
    let program = basis.labelled.program in
    let first = method_emissions basis.principals basis.labelled planned counts number method in
    let none : number + 0 ≡ number = omega arith in
    let P : ℕ → Type 0 = λ place. slice_get program.methods place ≡ Some method in
    let own = subst P none (there 0 method refl) in
    let id : MethodId = record { 0 = number } in
    then_carried basis planned first
    (methods_emissions basis.principals basis.labelled planned (counts_after counts first) (suc number) methods) (
      tt,
      block_carried basis planned method (record { owner = method.head; pc = method.begin }) method.body
          (inl (number, method, own, refl, refl)) kept.0
          (in_program basis.labelled id (all_statements method.body) (body_of_method program id method own)) counts
          (lane_on (home_of planned method)),
    )
    (methods_carried basis planned (counts_after counts first) (suc number) methods
    (λ place tree at.
    let R : ℕ → Type 0 = λ one. slice_get program.methods one ≡ Some tree in
    let next : number + suc place ≡ suc number + place = omega arith in
    subst R next (there (suc place) tree at)) kept.1)

-- ---- entries of methods

entries_carried : (basis : Basis) (planned : PlannedShape) (number : ℕ) (methods : List MethodTree) →
    ((place : ℕ) (tree : MethodTree) → slice_get methods place ≡ Some tree →
    slice_get basis.labelled.program.methods (number + place) ≡ Some tree) →
    AllCarried basis planned (map (method_entry planned) methods)
entries_carried basis planned number [] there = tt
entries_carried basis planned number (method ∷ methods) there =
    let program = basis.labelled.program in
    let none : number + 0 ≡ number = omega arith in
    let P : ℕ → Type 0 = λ place. slice_get program.methods place ≡ Some method in (
      (method.head, inl (number, method, subst P none (there 0 method refl), refl, refl)),
      entries_carried basis planned (suc number) methods (λ place tree at.
          let R : ℕ → Type 0 = λ one. slice_get program.methods one ≡ Some tree in
          let next : number + suc place ≡ suc number + place = omega arith in
          subst R next (there (suc place) tree at)),
    )

-- ---- programs

pub from_first : (methods : List MethodTree) (place : ℕ) (tree : MethodTree) → slice_get methods place ≡ Some tree →
    slice_get methods (0 + place) ≡ Some tree
from_first methods place tree is =
    let none : place ≡ 0 + place = omega arith in
    let P : ℕ → Type 0 = λ one. slice_get methods one ≡ Some tree in
    subst P none is

pub program_kept : (placed : PlacedProgram) → IsAllowed placed → IsWellHeld placed →
    AllByRecursion (MethodKept placed.hosts.principals placed.labelled) placed.labelled.program.methods
program_kept placed allowed held =
    let program = placed.labelled.program in
    let declared = declared_labels program in
    let final = labels_after_methods placed.hosts.principals program declared program.methods in
    methods_kept placed.hosts.principals placed.labelled final allowed.var_labels program.methods declared refl
    held.values (labels_kept placed.labelled placed.hosts.principals allowed.statements held.pc)

pub program_carried : (placed : PlacedProgram) → IsSplittable placed → IsAllowed placed → IsWellHeld placed →
    let planned = planned_from placed in
    AllCarried (basis_of placed.hosts.principals placed.labelled) planned (program_emissions placed)
program_carried placed splittable allowed held =
    let planned = planned_from placed in
    let basis = basis_of placed.hosts.principals placed.labelled in
    let program = placed.labelled.program in
    let main = splittable.numbered.main in
    let from_zero = from_first program.methods in
    let kept = program_kept placed allowed held in
    let front = front_of planned main.0 program.methods in
    let begun : AllCarried basis planned front = (
      (main.0.head, inl (program.main.0, main.0, main.1, refl, refl)),
      (tt, entries_carried basis planned 0 program.methods from_zero),
    ) in
    let none : Counts = record { entries = 0; branches = 0 } in
    let P : List Emission → Type 0 = λ list. AllCarried basis planned
    (list ++ methods_emissions placed.hosts.principals placed.labelled planned (counts_after none list) 0
    program.methods) in
    subst P (sym (front_is placed.labelled planned main.0 main.1))
    (then_carried basis planned front _ begun
    (methods_carried basis planned (counts_after none front) 0 program.methods from_zero kept))

-- ---- the code

one_carried : (basis : Basis) (planned : PlannedShape) (before : List Emission) (one : Emission)
    (behind : List Emission) → AllCarried basis planned (before ++ one ∷ behind) → IsCarried basis planned one
one_carried basis planned before one behind all = (all_second (IsCarried basis planned) before (one ∷ behind) all).0

pub instructions_carried : (basis : Basis) (hosts : HostsShape) (planned : PlannedShape)
    (emissions : List Emission) → AllCarried basis planned emissions → (me : HostId) (place : ℕ) (there : Instr) →
    let code = code_of_emissions basis.labelled hosts planned emissions in
    instruction_at code me place ≡ Some there →
    (label : Label) × (label_at code there.label ≡ Some label)
    × InstructionCarriesWell basis planned me label there.statement there.op
instructions_carried basis hosts planned emissions all me place there is =
    let made = instruction_made basis.labelled hosts planned emissions me place there is in
    let one = made.1 in
    let so = found me emissions place one.0 one.1 in
    let P : List Emission → Type 0 = λ list. AllCarried basis planned list in
    let own = one_carried basis planned so.before (instruction one.0) so.behind (subst P so.is all) in
    let Q : HostId → Type 0 = λ host. InstructionCarriesWell basis planned host one.0.label one.0.statement one.0.op in
    let label_is = emission_labelled basis.labelled hosts planned emissions so.before (instruction one.0) so.behind
    so.is one.0.label (inl refl) in
    subst Carries one.2 (
      one.0.label,
      label_is,
      landed_carries one.0.host one.0.label one.0.statement one.0.op (subst Q so.own own),
    )
  where
    code : CodeShape
    code = code_of_emissions basis.labelled hosts planned emissions

    Carries : Instr → Type 0
    Carries it = (label : Label) × (label_at code it.label ≡ Some label)
        × InstructionCarriesWell basis planned me label it.statement it.op

    landed_carries : (on : HostId) (label : Label) (statement : StmtId) (what : Op) →
        InstructionCarriesWell basis planned me label statement what →
        InstructionCarriesWell basis planned me label statement (landed on emissions what)
    landed_carries on label statement (op.Branch guard number) carries = carries
    landed_carries on label statement other carries = carries

pub entries_there : (basis : Basis) (hosts : HostsShape) (planned : PlannedShape) (emissions : List Emission) →
    AllCarried basis planned emissions → (number : ℕ) (there : Entry) →
    let code = code_of_emissions basis.labelled hosts planned emissions in
    slice_get code.entries number ≡ Some there →
    (owner : StmtId) × (label : Label) × (label_at code there.label ≡ Some label) × IsBlockOf basis owner label
entries_there basis hosts planned emissions all number there is =
    let code = code_of_emissions basis.labelled hosts planned emissions in
    let made = entry_made (code_labels basis.labelled emissions) emissions number there is in
    let named = made.0 in
    let so = found_entry emissions number named made.1 in
    let P : List Emission → Type 0 = λ list. AllCarried basis planned list in
    let own = one_carried basis planned so.before (entry named) so.behind (subst P so.is all) in
    let label_is = emission_labelled basis.labelled hosts planned emissions so.before (entry named) so.behind so.is
    named.label (inl refl) in
    let Q : Entry → Type 0 = λ it. (owner : StmtId) × (label : Label) × (label_at code it.label ≡ Some label)
    × IsBlockOf basis owner label in
    subst Q (sym made.2) (own.0, named.label, label_is, own.1)
