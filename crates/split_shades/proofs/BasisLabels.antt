-- The labels of values: the same in each method, and under a higher program label no more than that adds.
use Rattle.std.proofs.Common.{◌≡◌, ◌∙◌, refl, ap}
use Rattle.principals.specs.ActsFor.{Declared}
use Rattle.label_lattice.specs.declared.label.Label.{Label}
use Rattle.label_lattice.specs.Label.{ConfFlows}
use Rattle.label_lattice.specs.Lattice.{empty_label, bottom_of, join_of, meet_of}
use Rattle.label_lattice.proofs.Values.{empty_forbids, bottom_is}
use Rattle.jif_tree.specs.Trees.{ExprTree, number, local, scalar, element, inverted, negated, binary, declassified}
use Rattle.jif_tree.specs.Trees.{endorsed, MethodTree}
use Rattle.jif_tree.specs.LabelRules.{MethodSetting, VariableLabels, setting_of, field_label, expr_label, crossed}
use Rattle.need_labels.specs.Labelled.{Labelled, all_labels}
use Rattle.split_rules.proofs.SeenLabels.{flows_first, flows_second, flows_both}
use Rattle.split_shades.specs.Basis.{Basis, value_label}

-- ---- flows

pub flows_self : (label : Label) → ConfFlows label label
flows_self label owner reader owner_in reader_in forbids = forbids

pub flows_then : (first second third : Label) → ConfFlows first second → ConfFlows second third →
    ConfFlows first third
flows_then first second third one two owner reader owner_in reader_in forbids =
    two owner reader owner_in reader_in (one owner reader owner_in reader_in forbids)

pub bottom_flows : (principals : Declared) (to : Label) → ConfFlows (bottom_of principals) to
bottom_flows principals to owner reader owner_in reader_in forbids =
    absurd ((bottom_is principals).forbids owner reader owner_in reader_in forbids)

empty_flows : (to : Label) → ConfFlows empty_label to
empty_flows to owner reader owner_in reader_in forbids =
    absurd (empty_forbids owner reader owner_in reader_in forbids)

-- the confidentiality of a meet is that of its first part
meet_flows : (first second to : Label) → ConfFlows first to → ConfFlows (meet_of first second) to
unfolding meet_of
meet_flows first second to flows = flows

met_flows : (first second to : Label) → ConfFlows (meet_of first second) to → ConfFlows first to
unfolding meet_of
met_flows first second to flows = flows

crossed_flows : (first second to : Label) → ConfFlows first to → ConfFlows (crossed first second) to
crossed_flows first second to flows =
    meet_flows (join_of first empty_label) second to (flows_both first empty_label to flows (empty_flows to))

pub uncrossed_flows : (first second to : Label) → ConfFlows (crossed first second) to → ConfFlows first to
uncrossed_flows first second to flows =
    flows_then first (join_of first empty_label) to (flows_first first empty_label)
    (met_flows (join_of first empty_label) second to flows)

-- ---- a higher program label

-- What flows somewhere under one program label flows there under any other that flows there too.
pub value_under : (setting : MethodSetting) (labels : VariableLabels) (pc up to : Label) → ConfFlows up to →
    (value : ExprTree) → ConfFlows (expr_label setting pc labels value) to →
    ConfFlows (expr_label setting up labels value) to
value_under setting labels pc up to above (number value) flows = flows
value_under setting labels pc up to above (local x) flows = flows
value_under setting labels pc up to above (scalar field) flows = flows
value_under setting labels pc up to above (element field index) flows =
    let own = field_label setting.program field in
    let low = expr_label setting pc labels index in
    let high = expr_label setting up labels index in
    flows_both own high to (flows_then own (join_of own low) to (flows_first own low) flows)
    (value_under setting labels pc up to above index (flows_then low (join_of own low) to (flows_second own low) flows))
value_under setting labels pc up to above (inverted operand) flows =
    value_under setting labels pc up to above operand flows
value_under setting labels pc up to above (negated operand) flows =
    value_under setting labels pc up to above operand flows
value_under setting labels pc up to above (binary operator left right) flows =
    let one = expr_label setting pc labels left in
    let two = expr_label setting pc labels right in
    flows_both (expr_label setting up labels left) (expr_label setting up labels right) to
    (value_under setting labels pc up to above left (flows_then one (join_of one two) to (flows_first one two) flows))
    (value_under setting labels pc up to above right (flows_then two (join_of one two) to (flows_second one two) flows))
value_under setting labels pc up to above (declassified operand label) flows =
    let low = join_of label pc in
    let released = uncrossed_flows low (expr_label setting pc labels operand) to flows in
    crossed_flows (join_of label up) (expr_label setting up labels operand) to
    (flows_both label up to (flows_then label low to (flows_first label pc) released) above)
value_under setting labels pc up to above (endorsed operand label) flows =
    let low = expr_label setting pc labels operand in
    crossed_flows (expr_label setting up labels operand) (join_of label up) to
    (value_under setting labels pc up to above operand (uncrossed_flows low (join_of label pc) to flows))

-- ---- every method

abbrev pub basis_of : Declared → Labelled → Basis
basis_of principals labelled = record { principals = principals; labelled = labelled }

pub same_value : (principals : Declared) (labelled : Labelled) (tree : MethodTree) (pc : Label) (value : ExprTree) →
    expr_label (setting_of principals labelled.program tree) pc (all_labels labelled) value
    ≡ value_label (basis_of principals labelled) pc value
same_value principals labelled tree pc (number value) = refl
same_value principals labelled tree pc (local x) = refl
same_value principals labelled tree pc (scalar field) = refl
same_value principals labelled tree pc (element field index) =
    ap (λ label. join_of (field_label labelled.program field) label) (same_value principals labelled tree pc index)
same_value principals labelled tree pc (inverted operand) = same_value principals labelled tree pc operand
same_value principals labelled tree pc (negated operand) = same_value principals labelled tree pc operand
same_value principals labelled tree pc (binary operator left right) =
    ap (λ label. join_of label (expr_label (setting_of principals labelled.program tree) pc (all_labels labelled)
    right)) (same_value principals labelled tree pc left)
    ∙ ap (λ label. join_of (value_label (basis_of principals labelled) pc left) label)
    (same_value principals labelled tree pc right)
same_value principals labelled tree pc (declassified operand label) =
    ap (λ it. crossed (join_of label pc) it) (same_value principals labelled tree pc operand)
same_value principals labelled tree pc (endorsed operand label) =
    ap (λ it. crossed it (join_of label pc)) (same_value principals labelled tree pc operand)
