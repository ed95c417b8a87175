-- What the parts of a program are while it is made: labels to which parts are added one by one, and statements before
-- those that follow them.
use Rattle.std.specs.Prelude.{List}
use Rattle.std.specs.List.{AllZip}
use Rattle.principals.specs.ActsFor.{Declared}
use Rattle.label_lattice.specs.declared.label.Label.{Label}
use Rattle.label_lattice.specs.Over.{IsLabelOver}
use Rattle.label_lattice.specs.Written.{Part, KnownPart, IsKnownPart, IsMadeOf}
use Rattle.jif_tree.specs.declared.program.Stmt.{Stmt}
use Rattle.jif_tree.specs.declared.program.StmtKind.{StmtKind}
use Rattle.jif_tree.specs.Trees.{BlockTree, statement_tree, head_of}
use Rattle.jif_grammar.specs.DraftShapes.{Start, BlockShape}
use Rattle.jif_resolve.specs.Places.{Setting, Place}
use Rattle.jif_resolve.specs.Resolved.{heading_of, IsBlockFor}

-- ---- labels

-- every name in the parts is that of a declared principal, and the label is made of the parts
pub record IsOfParts (principals : Declared) (parts : List Part) (label : Label) : Type 0 where
  pub known : List KnownPart
  pub are_known : AllZip (IsKnownPart principals) parts known
  pub over : IsLabelOver principals label
  pub means : IsMadeOf principals known label

-- ---- statements

-- a beginning, where it does not matter which
abbrev pub no_start : Start
no_start = record { at = 0; line = 0 }

-- whatever follows it at the next place, a statement of this shape becomes this kind of statement
abbrev pub IsKindFor : Setting → Place → Place → (Start → BlockShape → BlockShape) → StmtKind → Type 0
IsKindFor setting place next shape kind =
    (start : Start) (rest : BlockShape) (behind : BlockTree) → IsBlockFor setting next rest behind →
    IsBlockFor setting place (shape start rest) (statement_tree kind (heading_of place start) behind)

-- the same of a statement with its number and its line
abbrev pub IsStatementFor : Setting → Place → Place → (BlockShape → BlockShape) → Stmt → Type 0
IsStatementFor setting place next shape statement =
    (rest : BlockShape) (behind : BlockTree) → IsBlockFor setting next rest behind →
    IsBlockFor setting place (shape rest)
    (statement_tree statement.kind (head_of statement) behind)
