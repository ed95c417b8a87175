-- The code of a real program is real.
use Rattle.std.proofs.Common.{◌≡◌, ℕ, suc, ◌≤◌, ◌<◌, ◌^◌, Bool, true, false, List, [], ◌∷◌, ◌++◌, map, length, Option}
use Rattle.std.proofs.Common.{Some, None}
use Rattle.std.proofs.Common.{refl, arith, All, subst, sym, nat_eq, get_or, zero, ◌+◌}
use Rattle.std.specs.Prelude.{FitsSigned, if◌then◌else◌}
use Rattle.std.specs.Int.{w64}
use Rattle.std.specs.List.{AllByRecursion, AllZip, flat_map, list_any, range_with_len}
use Rattle.std.proofs.lemmas.List.Elements.{All-head, All-tail, All-nil, All-cons, All-append, All-map, All-weaker}
use Rattle.js_base.specs.declared.ids.HostId.{HostId}
use Rattle.js_base.specs.declared.ids.StmtId.{StmtId}
use Rattle.principals.specs.ActsFor.{Declared}
use Rattle.label_lattice.specs.declared.label.Label.{Label}
use Rattle.label_lattice.specs.Label.{IsLabel}
use Rattle.label_lattice.specs.Over.{IsLabelOver}
use Rattle.host_decl.specs.Hosts.{HostShape}
use Rattle.jif_tree.specs.Trees.{FieldTree, MethodTree}
use Rattle.jif_tree.specs.LabelRules.{method_at}
use Rattle.jif_tree.specs.Numbering.{statement_numbers}
use Rattle.jif_tree.specs.Numbers.{IsNumber, HasNumbers}
use Rattle.host_code.specs.declared.code.Entry.{Entry}
use Rattle.host_code.specs.declared.instruction.Op.{Op}
use Rattle.host_code.specs.declared.instruction.Op.TheVariants as op
use Rattle.host_code.specs.Code.{CodeHostShape, CodeFieldShape}
use Rattle.need_labels.specs.Needs.{Backing, StatementUse, IsNeed, statement_uses}
use Rattle.need_labels.specs.Plan.{PlanShape}
use Rattle.msg_cost.specs.Moves.{PlannedShape}
use Rattle.split_file.specs.File.{HasExpressions, IsRealInstruction, IsRealCode}
use Rattle.split_rules.specs.Emissions.{Emission, instruction, entry, stands, lands, Emitted, NamedEntry, counts_after}
use Rattle.split_rules.specs.Placed.{PlacedProgram, planned_from}
use Rattle.split_rules.specs.SplitCode.{emitted_on, same_label, with_labels, label_of_emission, entries_in, landed}
use Rattle.split_rules.specs.SplitCode.{placed_instruction, part_on, placed_entries, placed_code_fields, split_code}
use Rattle.split_rules.specs.Allowed.{IsAllowed}
use Rattle.split_rules.specs.Splittable.{IsSplittable}
use Rattle.split_rules.specs.Walk.{need_of, walked_in, method_entry, halt_entries, program_emissions}
use Rattle.split_rules.proofs.NumberedLists.{at_all}
use Rattle.split_rules.proofs.SoundSplit.{split_is_sound}
use Rattle.saved_code.specs.ProgramLabels.{HasLabels}
use Rattle.saved_code.proofs.RealEmissions.{IsRealEmission, AreReal, none_real, more_real, both_real, IsRealWalk}
use Rattle.saved_code.proofs.RealEmissions.{IsRealMethod, IsSmall, methods_real}
use Rattle.saved_code.proofs.RealLabels.{need_real, field_real, variable_real}

-- ---- labels

all_with : (there needed : List Label) → All IsLabel there → All IsLabel needed → All IsLabel (with_labels there needed)
all_with there [] are all = are
all_with there (label ∷ needed) are all =
    let here = All-head IsLabel label needed all in
    let rest = All-tail IsLabel label needed all in
    by (list_any (same_label label) there) (all_with there needed are rest)
    (all_with (there ++ label ∷ []) needed
    (All-append IsLabel there (label ∷ []) are (All-cons IsLabel label [] here (All-nil IsLabel))) rest)
  where
    by : (b : Bool) → All IsLabel (with_labels there needed) → All IsLabel (with_labels (there ++ label ∷ []) needed) →
        All IsLabel (if b then with_labels there needed else with_labels (there ++ label ∷ []) needed)
    by true one two = one
    by false one two = two

labels_of : (xs : List Emission) → AllByRecursion IsRealEmission xs → All IsLabel (flat_map label_of_emission xs)
labels_of [] all = All-nil IsLabel
labels_of (instruction one ∷ xs) all =
    All-cons IsLabel one.label (flat_map label_of_emission xs) all.0.0 (labels_of xs all.1)
labels_of (entry named ∷ xs) all =
    All-cons IsLabel named.label (flat_map label_of_emission xs) all.0.0 (labels_of xs all.1)
labels_of (stands host number ∷ xs) all = labels_of xs all.1
labels_of (lands host number ∷ xs) all = labels_of xs all.1

-- ---- fields

abbrev IsRealField : FieldTree → Type 0
IsRealField field = IsNumber field.first

abbrev HasFirst : CodeFieldShape → Type 0
HasFirst field = FitsSigned w64 field.first

first_values : (labels : List Label) (plan : PlanShape) (number : ℕ) (fields : List FieldTree) →
    All IsRealField fields → All HasFirst (placed_code_fields labels plan number fields)
first_values labels plan number [] all = All-nil HasFirst
first_values labels plan number (field ∷ fields) all =
    All-cons HasFirst _ (placed_code_fields labels plan (suc number) fields) (All-head IsRealField field fields all)
    (first_values labels plan (suc number) fields (All-tail IsRealField field fields all))

-- ---- entries

abbrev IsSmallNeed : NamedEntry → Type 0
IsSmallNeed named = named.need < 2 ^ 64

named_real : (xs : List Emission) → AllByRecursion IsRealEmission xs → All IsSmallNeed (entries_in xs)
named_real [] all = All-nil IsSmallNeed
named_real (instruction one ∷ xs) all = named_real xs all.1
named_real (entry named ∷ xs) all = All-cons IsSmallNeed named (entries_in xs) all.0.1 (named_real xs all.1)
named_real (stands host number ∷ xs) all = named_real xs all.1
named_real (lands host number ∷ xs) all = named_real xs all.1

abbrev HasNeed : Entry → Type 0
HasNeed there = there.need < 2 ^ 64

entries_real : (labels : List Label) (all : List Emission) (number : ℕ) (named : List NamedEntry) →
    All IsSmallNeed named →
    All HasNeed (placed_entries labels all number named)
entries_real labels all number [] small = All-nil HasNeed
entries_real labels all number (one ∷ named) small =
    All-cons HasNeed _ (placed_entries labels all (suc number) named) (All-head IsSmallNeed one named small)
    (entries_real labels all (suc number) named (All-tail IsSmallNeed one named small))

-- ---- instructions

-- a branch that leads where it should has the same guard
landed_real : (host : HostId) (all : List Emission) (what : Op) → HasExpressions what →
    HasExpressions (landed host all what)
landed_real host all (op.Read field index) has = has
landed_real host all (op.Let variable value) has = has
landed_real host all (op.Put field index value) has = has
landed_real host all (op.Send variable to) has = has
landed_real host all (op.Frame site) has = has
landed_real host all (op.Arg variable value) has = has
landed_real host all (op.Pass variable to) has = has
landed_real host all (op.Push there) has = has
landed_real host all (op.Ask there on) has = has
landed_real host all (op.Go there on) has = has
landed_real host all (op.Call there on) has = has
landed_real host all (op.Ret variable value) has = has
landed_real host all op.Back has = has
landed_real host all (op.Branch guard target) has = has
landed_real host all (op.GoWith there on riders) has = has
landed_real host all (op.CallWith there on riders) has = has

abbrev IsRealEmitted : Emitted → Type 0
IsRealEmitted one = (one.statement.0 < 2 ^ 32) × HasExpressions one.op

emitted_real : (host : HostId) (xs : List Emission) → AllByRecursion IsRealEmission xs →
    All IsRealEmitted (emitted_on host xs)
emitted_real host [] all = All-nil IsRealEmitted
emitted_real host (instruction one ∷ xs) all = by (nat_eq one.host.0 host.0) (emitted_real host xs all.1)
  where
    by : (own : Bool) → All IsRealEmitted (emitted_on host xs) →
        All IsRealEmitted (if own then one ∷ emitted_on host xs else emitted_on host xs)
    by true rest = All-cons IsRealEmitted one (emitted_on host xs) (all.0.1, all.0.2) rest
    by false rest = rest
emitted_real host (entry named ∷ xs) all = emitted_real host xs all.1
emitted_real host (stands on number ∷ xs) all = emitted_real host xs all.1
emitted_real host (lands on number ∷ xs) all = emitted_real host xs all.1

part_real : (labels : List Label) (all : List Emission) (host : HostId) → AllByRecursion IsRealEmission all →
    All IsRealInstruction (part_on labels all host)
part_real labels all host real =
    All-map IsRealInstruction (placed_instruction labels all) (emitted_on host all)
    (All-weaker IsRealEmitted (λ one. IsRealInstruction (placed_instruction labels all one))
    (λ one has. (has.0, landed_real one.host all one.op has.1)) (emitted_on host all) (emitted_real host all real))

-- what is true of all things is true of each of a list
all_of : {X : Type 0} (P : X → Type 0) → ((x : X) → P x) → (xs : List X) → All P xs
all_of P holds xs k d within = holds (get_or xs k d)

-- ---- the whole

entries_of_methods : (planned : PlannedShape) → ((statements : List StmtId) → need_of planned statements < 2 ^ 64) →
    (methods : List MethodTree) → All IsRealMethod methods → AreReal (map (method_entry planned) methods)
entries_of_methods planned needs [] real = none_real
entries_of_methods planned needs (method ∷ methods) real =
    more_real ((All-head IsRealMethod method methods real).0, needs (method.head ∷ []))
    (entries_of_methods planned needs methods (All-tail IsRealMethod method methods real))

halt_real : (planned : PlannedShape) → ((statements : List StmtId) → need_of planned statements < 2 ^ 64) →
    (found : Option MethodTree) → ((main : MethodTree) → found ≡ Some main → IsRealMethod main) →
    AreReal (halt_entries planned found)
halt_real planned needs None real = none_real
halt_real planned needs (Some main) real =
    more_real ((real main refl).0, needs (main.head ∷ [])) (more_real tt none_real)

-- the needs of statements are words
words_of : {X : Type 0} (principals : Declared) (backing : X → List Backing) (uses : List X) (words : List ℕ) →
    AllZip (λ one word. IsNeed principals (backing one) word) uses words → All (λ word. word < 2 ^ 64) words
words_of principals backing [] [] all = All-nil (λ word. word < 2 ^ 64)
words_of principals backing [] (word ∷ words) all = absurd all
words_of principals backing (one ∷ uses) [] all = absurd all
words_of principals backing (one ∷ uses) (word ∷ words) all =
    All-cons (λ word. word < 2 ^ 64) word words (let need = all.0 in need.word)
    (words_of principals backing uses words all.1)

-- numbers that count up from the first
counted_small : (first count : ℕ) → first + count ≤ 2 ^ 32 → All IsSmall (range_with_len first count)
counted_small first zero few = All-nil IsSmall
counted_small first (suc count) few =
    All-cons IsSmall first (range_with_len (first + 1) count) (omega (arith, few))
    (counted_small (first + 1) count (omega (arith, few)))

statements_small : (placed : PlacedProgram) → IsSplittable placed → IsAllowed placed →
    All IsSmall (statement_numbers placed.labelled.program)
statements_small placed splittable allowed =
    let few = splittable.within.statements in
    subst (All IsSmall) (sym allowed.statements)
    (counted_small 0 (length (statement_numbers placed.labelled.program)) (omega (arith, few)))

emissions_real : (placed : PlacedProgram) → IsSplittable placed → IsAllowed placed →
    HasNumbers placed.labelled.program → HasLabels placed.labelled → AreReal (program_emissions placed)
emissions_real placed splittable allowed numbers real =
    let planned = planned_from placed in
    let labelled = placed.labelled in
    let program = labelled.program in
    let words = words_of placed.hosts.principals (λ (one : StatementUse). one.backing)
    (statement_uses placed.hosts.principals labelled) placed.needs.need allowed.needs_of.need in
    let needs = need_real planned words in
    let front = halt_entries planned (method_at program program.main) ++ map (method_entry planned) program.methods in
    let walk : (method : MethodTree) → IsRealWalk (walked_in placed.hosts.principals labelled planned method) =
    λ method. record {
      needs = needs;
      names = record {
        few = splittable.are_hosts.declared.names.few;
        fields = λ field. field_real program field real.fields;
        variables = λ x. variable_real labelled.var_labels x real.variables;
      };
    } in
    both_real (both_real (halt_real planned needs (method_at program program.main)
    (λ main is. at_all IsRealMethod program.methods program.main.0 main real.methods is))
    (entries_of_methods planned needs program.methods real.methods))
    (methods_real placed.hosts.principals labelled planned walk 0 program.methods real.methods numbers.methods
    splittable.within.nodes
    (statements_small placed splittable allowed)
    (counts_after (record { entries = 0; branches = 0 }) front))

pub real_code : (placed : PlacedProgram) → IsSplittable placed → IsAllowed placed →
    HasNumbers placed.labelled.program → HasLabels placed.labelled → IsRealCode (split_code placed)
real_code placed splittable allowed numbers real =
    let planned = planned_from placed in
    let program = placed.labelled.program in
    let all = program_emissions placed in
    let are = (emissions_real placed splittable allowed numbers real).all in
    let code = split_code placed in
    let shown : HostShape → CodeHostShape = λ host. record { name = host.name; label = host.label } in
    let own = map (λ (field : FieldTree). field.label) program.fields in
    let of_fields : All IsLabel own =
    All-map IsLabel (λ (field : FieldTree). field.label) program.fields
    real.fields in
    let needed = own ++ placed.labelled.var_labels ++ flat_map label_of_emission all in (
      split_is_sound placed splittable,
      record {
        hosts =
            All-map (λ (host : CodeHostShape). IsLabel host.label) shown placed.hosts.hosts
            (All-weaker (λ (host : HostShape). IsLabelOver placed.hosts.principals host.label)
            (λ host. IsLabel host.label) (λ host over. over.is_label) placed.hosts.hosts splittable.are_hosts.labels);
        labels =
            all_with [] needed (All-nil IsLabel)
            (All-append IsLabel (own ++ placed.labelled.var_labels) (flat_map label_of_emission all)
            (All-append IsLabel own placed.labelled.var_labels of_fields real.variables) (labels_of all are));
        fields = first_values code.labels planned.plan 0 program.fields numbers.fields;
        entries = entries_real code.labels all 0 (entries_in all) (named_real all are);
        parts =
            All-map (All IsRealInstruction) (λ number. part_on code.labels all (record { 0 = number }))
            (range_with_len 0 (length placed.hosts.hosts))
            (all_of (λ number. All IsRealInstruction (part_on code.labels all (record { 0 = number })))
            (λ number. part_real code.labels all (record { 0 = number }) are)
            (range_with_len 0 (length placed.hosts.hosts)));
      },
    )
