-- Assignments and results: what is kept is kept under a label to which it flows.
use Rattle.std.proofs.Common.{◌≡◌, ◌∙◌, ℕ, false, List, [], ◌∷◌, ◌++◌, refl, ap, subst}
use Rattle.std.specs.Prelude.{Option, Some, None, IsSomeAnd, slice_get, pos}
use Rattle.js_base.specs.declared.ids.HostId.{HostId}
use Rattle.js_base.specs.declared.ids.FieldId.{FieldId}
use Rattle.js_base.specs.declared.ids.VarId.{VarId}
use Rattle.js_base.specs.declared.ids.StmtId.{StmtId}
use Rattle.label_lattice.specs.declared.label.Label.{Label}
use Rattle.jif_tree.specs.Trees.{ExprTree, number, FieldTree, MethodTree}
use Rattle.jif_tree.specs.LabelRules.{field_label}
use Rattle.host_code.specs.declared.code_expr.Node.{Node}
use Rattle.host_code.specs.declared.instruction.Op.TheVariants as op
use Rattle.need_labels.specs.Needs.{label_of}
use Rattle.need_labels.specs.Plan.{field_host}
use Rattle.split_rules.specs.Emissions.{Emission}
use Rattle.split_rules.specs.Expressions.{reads_in, nodes_of, first_element, released_by}
use Rattle.split_rules.specs.Positions.{Level}
use Rattle.split_rules.specs.Walk.{Walked, walked_in, expr_emissions, told_readers, send_emissions, releasing}
use Rattle.split_rules.specs.Walk.{result_emissions}
use Rattle.split_rules.proofs.ToldEmissions.{Sees, Affects, PutsWell}
use Rattle.split_rules.proofs.ToldWalks.{AreReaders}
use Rattle.split_shades.specs.Flows.{IsSeenOn, ValueFlows, AnswerFlows}
use Rattle.split_shades.specs.Shades.{EntryShade, Begun, Ahead, calm_ahead}
use Rattle.split_shades.specs.Shading.{Scene, reads_tell, IsBelow, KeepsInShade, ShadeKnown, here, known_at, AreShaded}
use Rattle.split_shades.proofs.BasisLabels.{bottom_flows}
use Rattle.split_shades.proofs.ShadedStates.{shaded_on}
use Rattle.split_shades.proofs.ShadedValues.{Site, IsSite, MayBegin, shade_at, site_known, one_shaded}
use Rattle.split_shades.proofs.ShadedValues.{none_released, IsRead, ReadsTo, told_many, expr_shaded, sends_shaded}

-- ---- statements of a block

abbrev pub walked_of : Scene → MethodTree → Walked
walked_of scene tree = walked_in scene.basis.principals scene.basis.labelled scene.planned tree

abbrev pub site_in : HostId → Label → StmtId → Level → Site
site_in me pc id level = record {
  me = me;
  pc = pc;
  id = id;
  level = level;
  block = pc;
  guard = None;
  calls = false;
}

pub site_is : (scene : Scene) (entries : List EntryShade) (me : HostId) (pc : Label) (id : StmtId) (level : Level) →
    IsBelow entries level pc → IsSite scene entries (site_in me pc id level)
site_is scene entries me pc id level below = record { under_block = refl; below = below }

-- where a statement of a block may begin
abbrev pub block_known : HostId → Label → Level → List EntryShade → List Ahead → ShadeKnown
block_known me pc level entries branches = known_at (here me (calm_ahead level pc)) entries branches

-- what is read first, and what follows
pub reads_then : (scene : Scene) (site : Site) (entries : List EntryShade) (branches : List Ahead) →
    IsSite scene entries site → (begun : Option Begun) → MayBegin site begun → (value : ExprTree) →
    IsRead scene site.me site.pc value → (others : List Emission) (after : ShadeKnown) →
    ((last : Option Begun) → MayBegin site last →
    AreShaded scene (site_known site (reads_tell scene site.pc value) last entries branches) others after) →
    AreShaded scene (site_known site [] begun entries branches)
    (expr_emissions site.me site.pc site.id 0 value ++ others) after
reads_then scene site entries branches is begun may value read others after follows =
    let reads = expr_shaded scene site entries branches is [] begun may value read in
    shaded_on scene (site_known site [] begun entries branches) (expr_emissions site.me site.pc site.id 0 value) others
    (site_known site (reads_tell scene site.pc value) reads.last entries branches) after reads.shaded
    (follows reads.last reads.may)

-- what a value over all temporaries is kept under
pub value_keeps : (scene : Scene) (site : Site) (value : ExprTree) (label : Label) →
    ValueFlows scene.basis scene.planned site.pc value label →
    KeepsInShade scene (shade_at site (reads_tell scene site.pc value) (released_by 0 value)) (nodes_of 0 value) label
value_keeps scene site value label flows = record {
  value = value;
  is_value = record { temps = refl; nodes_are = refl; releases = refl };
  flows = flows;
}

-- ---- assignments

pub set_local_shaded : (scene : Scene) (me : HostId) (pc : Label) (id : StmtId) (level : Level)
    (entries : List EntryShade) (branches : List Ahead) → IsBelow entries level pc → (x : VarId) (value : ExprTree)
    (carried : Option HostId) → IsRead scene me pc value →
    ValueFlows scene.basis scene.planned pc value (label_of scene.basis.labelled x) →
    AreReaders scene.planned (label_of scene.basis.labelled x) (told_readers scene.planned me x carried) →
    AreShaded scene (block_known me pc level entries branches)
    (expr_emissions me pc id 0 value ++ releasing me pc id (op.Let x (nodes_of 0 value)) (released_by 0 value)
    ∷ send_emissions scene.planned me pc id x carried) (block_known me pc level entries branches)
set_local_shaded scene me pc id level entries branches below x value carried read flows see =
    let site = site_in me pc id level in
    let is = site_is scene entries me pc id level below in
    let next = block_known me pc level entries branches in
    reads_then scene site entries branches is None tt value read _ next (λ last may. (
      next,
      one_shaded scene site entries branches is (reads_tell scene pc value) (released_by 0 value)
          (λ none. none_released value (read.silent none) 0) last may (op.Let x (nodes_of 0 value)) next (
            calm_ahead level pc,
            (refl, refl, value_keeps scene site value (label_of scene.basis.labelled x) flows, refl),
            refl,
          ),
      sends_shaded scene site entries branches is refl refl x flows.program (told_readers scene.planned me x carried)
          see,
    ))

-- the host of a field that is set may see the program label
put_told : (scene : Scene) (me : HostId) (pc : Label) (field : FieldId) →
    PutsWell scene.basis.labelled scene.planned me pc field →
    IsSeenOn scene.planned (field_host scene.planned.plan field) pc
put_told scene me pc field well = by (slice_get scene.basis.labelled.program.fields field.0) well
  where
    by : (found : Option FieldTree) → IsSomeAnd found (λ tree. Affects scene.planned me tree.label
        × Sees scene.planned (field_host scene.planned.plan field) pc) →
        IsSeenOn scene.planned (field_host scene.planned.plan field) pc
    by None never = absurd never
    by (Some tree) both = both.1

pub set_field_shaded : (scene : Scene) (me : HostId) (pc : Label) (id : StmtId) (level : Level)
    (entries : List EntryShade) (branches : List Ahead) → IsBelow entries level pc → (field : FieldId)
    (value : ExprTree) → IsRead scene me pc value →
    ValueFlows scene.basis scene.planned pc value (field_label scene.basis.labelled.program field) →
    PutsWell scene.basis.labelled scene.planned me pc field →
    AreShaded scene (block_known me pc level entries branches)
    (expr_emissions me pc id 0 value ++ releasing me pc id (op.Put field first_element (nodes_of 0 value))
    (released_by 0 value) ∷ [])
    (block_known me pc level entries branches)
set_field_shaded scene me pc id level entries branches below field value read flows well =
    let site = site_in me pc id level in
    let is = site_is scene entries me pc id level below in
    let next = block_known me pc level entries branches in
    reads_then scene site entries branches is None tt value read _ next (λ last may. (
      next,
      one_shaded scene site entries branches is (reads_tell scene pc value) (released_by 0 value)
          (λ none. none_released value (read.silent none) 0) last may (op.Put field first_element (nodes_of 0 value))
          next (
            calm_ahead level pc,
            (
              refl,
              refl,
              record {
                index = number (pos 0);
                value = value;
                temps = refl;
                index_is = refl;
                nodes_are = refl;
                releases = refl;
                index_flows = record {
                  indexes = tt;
                  program = flows.program;
                  value_flows = bottom_flows scene.basis.principals (field_label scene.basis.labelled.program field);
                };
                flows = flows;
                told = put_told scene me pc field well;
              },
              refl,
            ),
            refl,
          ),
      refl,
    ))

both_none : (one two : List (List Node)) → one ≡ [] → two ≡ [] → one ++ two ≡ []
both_none one two first second = ap (λ list. list ++ two) first ∙ second

pub set_element_shaded : (scene : Scene) (me : HostId) (pc : Label) (id : StmtId) (level : Level)
    (entries : List EntryShade) (branches : List Ahead) → IsBelow entries level pc → (field : FieldId)
    (index value : ExprTree) → IsRead scene me pc index → IsRead scene me pc value →
    ValueFlows scene.basis scene.planned pc index (field_label scene.basis.labelled.program field) →
    ValueFlows scene.basis scene.planned pc value (field_label scene.basis.labelled.program field) →
    PutsWell scene.basis.labelled scene.planned me pc field →
    AreShaded scene (block_known me pc level entries branches)
    (expr_emissions me pc id 0 index ++ expr_emissions me pc id (reads_in index) value
    ++ releasing me pc id (op.Put field (nodes_of 0 index) (nodes_of (reads_in index) value))
    (released_by 0 index ++ released_by (reads_in index) value) ∷ [])
    (block_known me pc level entries branches)
set_element_shaded scene me pc id level entries branches below field index value read read_value index_flows flows
    well =
    let site = site_in me pc id level in
    let is = site_is scene entries me pc id level below in
    let next = block_known me pc level entries branches in
    let first = reads_tell scene pc index in
    let all = first ++ reads_tell scene pc value in
    let one = expr_emissions me pc id 0 index in
    let two = expr_emissions me pc id (reads_in index) value in
    let put = op.Put field (nodes_of 0 index) (nodes_of (reads_in index) value) in
    let reads = expr_shaded scene site entries branches is [] None tt index read in
    let P : ℕ → Type 0 = λ count. ReadsTo scene site entries branches first reads.last
    (expr_emissions me pc id count value) all in
    let more = subst P (told_many scene pc index)
    (expr_shaded scene site entries branches is first reads.last reads.may value read_value) in
    let released = released_by 0 index ++ released_by (reads_in index) value in
    shaded_on scene (block_known me pc level entries branches) (one ++ two) (releasing me pc id put released ∷ [])
    (site_known site all more.last entries branches) next
    (shaded_on scene (block_known me pc level entries branches) one two
    (site_known site first reads.last entries branches) (site_known site all more.last entries branches) reads.shaded
    more.shaded) (
      next,
      one_shaded scene site entries branches is all released
          (λ none. both_none (released_by 0 index) (released_by (reads_in index) value)
          (none_released index (read.silent none) 0)
          (none_released value (read_value.silent none) (reads_in index))) more.last more.may put next (
            calm_ahead level pc,
            (
              refl,
              refl,
              record {
                index = index;
                value = value;
                temps = refl;
                index_is = refl;
                nodes_are = refl;
                releases = refl;
                index_flows = index_flows;
                flows = flows;
                told = put_told scene me pc field well;
              },
              refl,
            ),
            refl,
          ),
      refl,
    )

-- ---- results

pub give_back_shaded : (scene : Scene) (tree : MethodTree) (me : HostId) (pc : Label) (id : StmtId) (level : Level)
    (entries : List EntryShade) (branches : List Ahead) → IsBelow entries level pc → (value : ExprTree) →
    IsRead scene me pc value → AnswerFlows scene.basis scene.planned pc tree.result value →
    AreShaded scene (block_known me pc level entries branches)
    (expr_emissions me pc id 0 value ++ result_emissions (walked_of scene tree) me pc id value)
    (block_known me pc level entries branches)
give_back_shaded scene tree me pc id level entries branches below value read flows = by tree.result refl flows
  where
    site : Site
    site = site_in me pc id level

    next : ShadeKnown
    next = block_known me pc level entries branches

    by : (result : Option VarId) → tree.result ≡ result → AnswerFlows scene.basis scene.planned pc result value →
        AreShaded scene (block_known me pc level entries branches)
        (expr_emissions me pc id 0 value ++ result_emissions (walked_of scene tree) me pc id value)
        (block_known me pc level entries branches)
    by None is none = absurd none
    by (Some result) is kept = rw is
        (reads_then scene site entries branches (site_is scene entries me pc id level below) None tt value read _ next
        (λ last may. (
          next,
          one_shaded scene site entries branches (site_is scene entries me pc id level below) (reads_tell scene pc
              value) (released_by 0 value) (λ none. none_released value (read.silent none) 0) last may
              (op.Ret result (nodes_of 0 value)) next (
                calm_ahead level pc,
                (refl, refl, value_keeps scene site value (label_of scene.basis.labelled result) kept, refl),
                refl,
              ),
          refl,
        )))
