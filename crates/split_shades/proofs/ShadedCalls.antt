-- Calls: arguments are kept in parameters, and a method is entered whose begin label is above that of the block.
use Rattle.std.proofs.Common.{◌≡◌, ℕ, suc, inl, inr, true, List, [], ◌∷◌, ◌++◌, length, refl, ap, sym, subst}
use Rattle.std.proofs.Common.{append-nil}
use Rattle.std.specs.Prelude.{Option, Some, None, slice_get, ⊤}
use Rattle.js_base.specs.declared.ids.HostId.{HostId}
use Rattle.js_base.specs.declared.ids.VarId.{VarId}
use Rattle.js_base.specs.declared.ids.SiteId.{SiteId}
use Rattle.js_base.specs.declared.ids.StmtId.{StmtId}
use Rattle.js_base.specs.declared.ids.MethodId.{MethodId}
use Rattle.label_lattice.specs.declared.label.Label.{Label}
use Rattle.label_lattice.specs.Label.{ConfFlows}
use Rattle.jif_tree.specs.Trees.{ExprTree, local, MethodTree}
use Rattle.jif_tree.specs.LabelRules.{method_at, params_of, result_of, begin_label}
use Rattle.host_code.specs.declared.code_expr.Node.TheVariants as node
use Rattle.host_code.specs.declared.instruction.Op.TheVariants as op
use Rattle.need_labels.specs.Needs.{label_of}
use Rattle.msg_cost.specs.Moves.{called_home}
use Rattle.split_rules.specs.Expressions.{nodes_of, released_by}
use Rattle.split_rules.specs.Positions.{Level, body}
use Rattle.split_rules.specs.Walk.{entry_id, expr_emissions, told_readers, pass_emissions, riding_params}
use Rattle.split_rules.specs.Walk.{call_with, argument_emissions, kept_emissions, call_emissions, releasing}
use Rattle.split_rules.proofs.ToldStatements.{EntersWell}
use Rattle.split_rules.proofs.ToldWalks.{told_see}
use Rattle.split_rules.proofs.WalkedCalls.{still_there}
use Rattle.split_rules.proofs.WalkedMoves.{at_last}
use Rattle.split_shades.specs.Flows.{IsSeenOn, ArgumentsFlow, ResultFlows, AllFlow}
use Rattle.split_shades.specs.Shades.{EntryShade, Ahead, calm_ahead}
use Rattle.split_shades.specs.Shading.{Scene, reads_tell, IsBelow, IsLevelOf, ShadeKnown, nowhere, here, known_at}
use Rattle.split_shades.specs.Shading.{AreShaded}
use Rattle.split_shades.specs.Shading.{method_shade}
use Rattle.split_shades.proofs.BasisLabels.{flows_self}
use Rattle.split_shades.proofs.ShadedMoves.{block_entry, block_entry_is, level_still}
use Rattle.split_shades.proofs.ShadedRiders.{params_told, call_with_shaded}
use Rattle.split_shades.proofs.ShadedStates.{counts_in, shaded_on, Leads}
use Rattle.split_shades.proofs.ShadedStatements.{walked_of, site_in, site_is, block_known, reads_then, value_keeps}
use Rattle.split_shades.proofs.ShadedValues.{Site, IsSite, ahead_at, shade_at, site_known, one_shaded, none_released}
use Rattle.split_shades.proofs.ShadedValues.{IsRead, sends_shaded, passes_shaded}

-- ---- entries of methods

abbrev pub AreMethodsNamed : Scene → List EntryShade → Type 0
AreMethodsNamed scene entries = (place : ℕ) (tree : MethodTree) →
    slice_get scene.basis.labelled.program.methods place ≡ Some tree →
    slice_get entries (suc place) ≡ Some (method_shade place tree)

pub methods_still : (scene : Scene) (entries more : List EntryShade) → AreMethodsNamed scene entries →
    AreMethodsNamed scene (entries ++ more)
methods_still scene entries more named place tree is = still_there entries more (suc place) _ (named place tree is)

-- ---- arguments

-- the expressions of a call read what they may
abbrev pub AreRead : Scene → HostId → Label → List VarId → List ExprTree → Type 0
AreRead scene me pc params [] = ⊤
AreRead scene me pc [] (argument ∷ others) = ⊤
AreRead scene me pc (param ∷ params) (argument ∷ others) =
    IsRead scene me pc argument × AreRead scene me pc params others

-- a statement of a block, between the frame of its call and the entering of the method
abbrev calling : HostId → Label → StmtId → Level → Site
calling me pc id level = record {
  me = me;
  pc = pc;
  id = id;
  level = level;
  block = pc;
  guard = None;
  calls = true;
}

calling_is : (scene : Scene) (entries : List EntryShade) (me : HostId) (pc : Label) (id : StmtId) (level : Level) →
    IsBelow entries level pc → IsSite scene entries (calling me pc id level)
calling_is scene entries me pc id level below = record { under_block = refl; below = below }

abbrev calling_known : HostId → Label → StmtId → Level → List EntryShade → List Ahead → ShadeKnown
calling_known me pc id level entries branches = site_known (calling me pc id level) [] None entries branches

arguments_shaded : (scene : Scene) (tree : MethodTree) → AllFlow scene.basis scene.planned → (me : HostId) (pc : Label)
    (id : StmtId) (level : Level) (entries : List EntryShade) (branches : List Ahead) → IsBelow entries level pc →
    (home : HostId) (params : List VarId) (arguments : List ExprTree) → AreRead scene me pc params arguments →
    ArgumentsFlow scene.basis scene.planned pc params arguments →
    AreShaded scene (calling_known me pc id level entries branches)
    (argument_emissions (walked_of scene tree) me home pc id params arguments)
    (calling_known me pc id level entries branches)
arguments_shaded scene tree all me pc id level entries branches below home params [] read flows = refl
arguments_shaded scene tree all me pc id level entries branches below home [] (argument ∷ others) read flows = refl
arguments_shaded scene tree all me pc id level entries branches below home (param ∷ params) (argument ∷ others) read
    flows =
    let site = calling me pc id level in
    let is = calling_is scene entries me pc id level below in
    let next = calling_known me pc id level entries branches in
    let label = label_of scene.basis.labelled param in
    let passes = pass_emissions scene.planned me pc id param (Some home) in
    let own = expr_emissions me pc id 0 argument ++ releasing me pc id (op.Arg param (nodes_of 0 argument))
    (released_by 0 argument) ∷ passes in
    shaded_on scene next own (argument_emissions (walked_of scene tree) me home pc id params others) next next
    (reads_then scene site entries branches is None tt argument read.0 _ next (λ last may. (
      next,
      one_shaded scene site entries branches is (reads_tell scene pc argument) (released_by 0 argument)
          (λ none. none_released argument (read.0.silent none) 0) last may (op.Arg param (nodes_of 0 argument)) next (
            ahead_at site [] None,
            (refl, refl, value_keeps scene site argument label flows.0, refl),
            refl,
          ),
      passes_shaded scene site entries branches is refl refl param flows.0.program
          (told_readers scene.planned me param (Some home))
          (told_see scene.planned label me param (Some home) (all.readers param)),
    )))
    (arguments_shaded scene tree all me pc id level entries branches below home params others read.1 flows.1)

-- ---- results

kept_shaded : (scene : Scene) (tree : MethodTree) → AllFlow scene.basis scene.planned → (me : HostId) (pc : Label)
    (id : StmtId) (level : Level) (entries : List EntryShade) (branches : List Ahead) → IsBelow entries level pc →
    (result into : Option VarId) (carried : Option HostId) → ResultFlows scene.basis scene.planned pc result into →
    AreShaded scene (block_known me pc level entries branches)
    (kept_emissions (walked_of scene tree) me pc id result into carried) (block_known me pc level entries branches)
kept_shaded scene tree all me pc id level entries branches below (Some result) (Some into) carried flows =
    let site = site_in me pc id level in
    let is = site_is scene entries me pc id level below in
    let next = block_known me pc level entries branches in
    let label = label_of scene.basis.labelled into in (
      next,
      one_shaded scene site entries branches is [] [] (λ none. refl) None tt (op.Let into (node.Var result ∷ [])) next (
        calm_ahead level pc,
        (refl, refl, value_keeps scene site (local result) label flows, refl),
        refl,
      ),
      sends_shaded scene site entries branches is refl refl into flows.program
          (told_readers scene.planned me into carried)
          (told_see scene.planned label me into carried (all.readers into)),
    )
kept_shaded scene tree all me pc id level entries branches below (Some result) None carried flows = refl
kept_shaded scene tree all me pc id level entries branches below None (Some into) carried flows = refl
kept_shaded scene tree all me pc id level entries branches below None None carried flows = refl

-- ---- calls

pub call_shaded : (scene : Scene) (tree : MethodTree) → AllFlow scene.basis scene.planned → (me : HostId) (pc : Label)
    (id : StmtId) (level : Level) (site : SiteId) (method : MethodId) (arguments : List ExprTree) (into : Option VarId)
    (carried : Option HostId) (left : List StmtId) (entries : List EntryShade) (branches : List Ahead) →
    AreMethodsNamed scene entries →
    IsLevelOf entries level pc → IsSeenOn scene.planned me pc → slice_get scene.sites site.0 ≡ Some pc →
    let called = method_at scene.basis.labelled.program method in
    AreRead scene me pc (params_of called) arguments → EntersWell scene.basis.labelled scene.planned me pc method →
    ConfFlows pc (begin_label called) → ArgumentsFlow scene.basis scene.planned pc (params_of called) arguments →
    ResultFlows scene.basis scene.planned pc (result_of called) into →
    Leads scene (block_known me pc level entries branches)
    (call_emissions (walked_of scene tree) (counts_in entries branches) me pc id site method arguments into carried
    left) (here me (calm_ahead level pc))
call_shaded scene tree all me pc id level site method arguments into carried left entries branches methods is sees
    site_there read enters begins arguments_flow result_flows = record {
      more = behind ∷ [];
      ahead = [];
      shaded = (
        block_known me pc level more branches,
        (behind, refl, block_entry_is scene entries me level pc (Some pc) (inr refl) is sees, refl),
        (
          calling_known me pc id level more branches,
          one_shaded scene (site_in me pc id level) more branches (site_is scene more me pc id level below) [] []
              (λ none. refl) None tt (op.Frame site) (calling_known me pc id level more branches) (
                ahead_at (calling me pc id level) [] None,
                (refl, refl, (refl, refl), site_there, refl),
                refl,
              ),
          shaded_on scene (calling_known me pc id level more branches)
              (argument_emissions (walked_of scene tree) me home pc id (params_of called) arguments) _
              (calling_known me pc id level more branches) _
              (arguments_shaded scene tree all me pc id level more branches below home (params_of called) arguments read
              arguments_flow) (
                calling_known me pc id (body method) more branches,
                one_shaded scene (calling me pc id level) more branches (calling_is scene more me pc id level below) []
                    [] (λ none. refl) None tt (op.Push (entry_id number))
                    (calling_known me pc id (body method) more branches) (
                      ahead_at (calling me pc id (body method)) [] None,
                      (
                        (refl, refl),
                        record {
                          names = record {
                            it = behind;
                            is = behind_there;
                            level = refl;
                            block = refl;
                            pushed = refl;
                          };
                          method = method;
                          begin = enters.tree.begin;
                          is_begin = begin_there;
                          sees = enters.sender;
                          no_guard = refl;
                          goes = refl;
                        },
                      ),
                      refl,
                    ),
                (
                  known_at nowhere more branches,
                  one_shaded scene (calling me pc id (body method)) more branches
                      (calling_is scene more me pc id (body method) (enters.tree.begin, begin_there, begin_above)) [] []
                      (λ none. refl) None tt (call_with riders (entry_id (suc method.0)) home)
                      (known_at nowhere more branches)
                      (call_with_shaded scene (calling_known me pc id (body method) more branches) me
                      (shade_at (calling me pc id (body method)) [] []) riders (entry_id (suc method.0)) home (
                        (refl, refl),
                        refl,
                        refl,
                        record {
                          method = method;
                          is_level = refl;
                          is_number = refl;
                          it = method_shade method.0 enters.tree;
                          is = method_there;
                          level = refl;
                          block = refl;
                          below = begin_above;
                        },
                        home_sees,
                      ) (params_told scene all pc me home (params_of called) arguments arguments_flow)),
                  (
                    block_known me pc level more branches,
                    (behind, behind_there, inl (refl, refl), refl),
                    kept,
                  ),
                ),
              ),
        ),
      );
    }
  where
    called : Option MethodTree
    called = method_at scene.basis.labelled.program method

    home : HostId
    home = called_home scene.planned called

    riders : List VarId
    riders = riding_params scene.planned me home (params_of called) arguments

    number : ℕ
    number = length entries

    behind : EntryShade
    behind = block_entry level pc (Some pc)

    more : List EntryShade
    more = entries ++ behind ∷ []

    below : IsBelow more level pc
    below = (pc, level_still entries (behind ∷ []) level pc is, flows_self pc)

    behind_there : slice_get more number ≡ Some behind
    behind_there = at_last entries behind []

    method_there : slice_get more (suc method.0) ≡ Some (method_shade method.0 enters.tree)
    method_there = methods_still scene entries (behind ∷ []) methods method.0 enters.tree enters.is

    begin_there : IsLevelOf more (body method) enters.tree.begin
    begin_there = (method_shade method.0 enters.tree, method_there, refl)

    begin_above : ConfFlows pc enters.tree.begin
    begin_above =
        let P : Option MethodTree → Type 0 = λ found. ConfFlows pc (begin_label found) in
        subst P enters.is begins

    home_sees : IsSeenOn scene.planned home pc
    home_sees =
        let P : HostId → Type 0 = λ host. IsSeenOn scene.planned host pc in
        subst P (sym (ap (called_home scene.planned) enters.is)) enters.receiver

    kept : AreShaded scene (block_known me pc level more branches)
        (kept_emissions (walked_of scene tree) me pc id (result_of called) into carried)
        (known_at (here me (calm_ahead level pc)) more (branches ++ []))
    kept =
        let P : List Ahead → Type 0 = λ one. AreShaded scene (block_known me pc level more branches)
        (kept_emissions (walked_of scene tree) me pc id (result_of called) into carried)
        (known_at (here me (calm_ahead level pc)) more one) in
        subst P (sym (append-nil branches))
        (kept_shaded scene tree all me pc id level more branches below (result_of called) into carried result_flows)
