-- What is asked of a program and a plan so that their split code is typed.
--
-- What is asked of trust is asked in the words of the splitting. `IsTypable` says of each statement that its host is
-- trusted for what the statement starts. It follows from labels, needs and allowed places, and does not mention them.
-- So the walk is typed with no look at labels, and the rules of labels can change without it. `trust_laws` then say it
-- of labels, by one induction over blocks.
use Rattle.std.specs.Prelude.{◌≡◌, true, [], ◌∷◌, ⊤}
use Rattle.std.specs.List.{AllByRecursion}
use Rattle.js_base.specs.declared.ids.StmtId.{StmtId}
use Rattle.jif_tree.specs.Trees.{BlockTree, done, set_local, set_field, set_element, branch, loop, call, give_back}
use Rattle.jif_tree.specs.Trees.{MethodTree}
use Rattle.jif_tree.specs.LabelRules.{method_at}
use Rattle.jif_tree.specs.Returns.{ReturnsLast}
use Rattle.need_labels.specs.Plan.{statement_host}
use Rattle.msg_cost.specs.Moves.{PlannedShape, is_trusted_for}
use Rattle.split_rules.specs.Positions.{all_due}
use Rattle.split_rules.specs.Typing.{AreDueOn, Covers, body_of}
use Rattle.split_rules.specs.Walk.{need_of}

-- the host of a statement is trusted for it
abbrev pub IsTrustedThere : PlannedShape → StmtId → Type 0
IsTrustedThere planned statement = is_trusted_for planned (statement_host planned.plan statement) statement ≡ true

-- and for these blocks
abbrev pub IsTrustedInside : PlannedShape → StmtId → BlockTree → Type 0
IsTrustedInside planned statement block =
    AreDueOn planned (statement_host planned.plan statement) (all_due block)

-- The host of each statement of a block is trusted for it, and for what it starts: the blocks in it, or the body of the
-- method that it calls.
abbrev pub AreTrusted : PlannedShape → BlockTree → Type 0
AreTrusted planned done = ⊤
AreTrusted planned (set_local heading x value rest) = IsTrustedThere planned heading.id × AreTrusted planned rest
AreTrusted planned (set_field heading field value rest) = IsTrustedThere planned heading.id × AreTrusted planned rest
AreTrusted planned (set_element heading field index value rest) =
    IsTrustedThere planned heading.id × AreTrusted planned rest
AreTrusted planned (branch heading guard first second rest) =
    IsTrustedThere planned heading.id × IsTrustedInside planned heading.id first
    × IsTrustedInside planned heading.id second × AreTrusted planned first × AreTrusted planned second
    × AreTrusted planned rest
AreTrusted planned (loop heading guard inner rest) =
    IsTrustedThere planned heading.id × IsTrustedInside planned heading.id inner × AreTrusted planned inner
    × AreTrusted planned rest
AreTrusted planned (call heading site method arguments into rest) =
    IsTrustedThere planned heading.id
    × IsTrustedInside planned heading.id (body_of (method_at planned.program method)) × AreTrusted planned rest
AreTrusted planned (give_back heading value rest) = IsTrustedThere planned heading.id × AreTrusted planned rest

-- a method's home is trusted for its body, and so is whoever is trusted for its head
pub record IsTypableMethod (planned : PlannedShape) (method : MethodTree) : Type 0 where
  pub returns : ReturnsLast true method.body
  pub trusted : AreTrusted planned method.body
  pub home : IsTrustedInside planned method.head method.body
  pub covers : Covers planned (need_of planned (method.head ∷ [])) (all_due method.body)

pub record IsTypable (planned : PlannedShape) : Type 0 where
  pub methods : AllByRecursion (IsTypableMethod planned) planned.program.methods
