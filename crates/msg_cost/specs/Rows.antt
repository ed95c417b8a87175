-- Rows of pieces, one for each part: those that depend on it.
use Rattle.std.specs.Prelude.{◌≡◌, ◌↔◌, ℕ, ◌<◌, ◌≤◌, Bool, IsTrue, nat_eq, if◌then◌else◌, List, [], ◌∷◌, ◌++◌, map}
use Rattle.std.specs.Prelude.{filter, length, slice_index, slice_index_or}
use Rattle.std.specs.List.{list_any}
use Rattle.std.specs.Global.{Vec}
use Rattle.host_decl.specs.Hosts.{HostsShape}
use Rattle.jif_tree.specs.declared.program.Program.{Program}
use Rattle.jif_tree.specs.Trees.{ProgramTree, program_tree}
use Rattle.need_labels.specs.Needs.{NeedsShape}
use Rattle.msg_cost.specs.declared.index.Index.{Index}
use Rattle.msg_cost.specs.declared.index.Kind.{Kind}
use Rattle.msg_cost.specs.declared.index.Kind.TheVariants as kind
use Rattle.msg_cost.specs.declared.piece.Piece.{Piece as Kept}
use Rattle.msg_cost.specs.declared.step.Step.{Step}
use Rattle.msg_cost.specs.declared.step.Step.TheVariants as step
use Rattle.msg_cost.specs.Pieces.{CostPiece, program_pieces}
use Rattle.msg_cost.specs.PieceViews.{all_pieces}
use Rattle.msg_cost.specs.Tables.{RowsHaveTables, AreBodies}
use Rattle.msg_cost.specs.Touches.{statements_of, fields_of}

-- the numbers of the parts of a kind on which a piece depends
abbrev pub numbers_of : Kind → ProgramTree → NeedsShape → CostPiece → List ℕ
numbers_of kind.Fields program needs piece = map (λ field. field.0) (fields_of piece)
numbers_of kind.Statements program needs piece = map (λ statement. statement.0) (statements_of program needs piece)

abbrev pub has_number : ℕ → List ℕ → Bool
has_number number numbers = list_any (λ one. nat_eq one number) numbers

-- the pieces among these that depend on the part of this number
abbrev pub pieces_with : (CostPiece → List ℕ) → ℕ → List CostPiece → List CostPiece
pieces_with touched number pieces = filter (λ piece. has_number number (touched piece)) pieces

-- by number, the pieces that depend on a part
pub record AreRows (touched : CostPiece → List ℕ) (pieces : List CostPiece) (rows : List (List CostPiece)) : Type 0
  where
    pub rows_are : (number : ℕ) → number < length rows →
        slice_index_or rows number [] ≡ pieces_with touched number pieces

-- In its turn a piece was added to the rows of these numbers, once to each. A row is marked with the last turn in which
-- it got a piece.
pub record AreNoted (turn : ℕ) (piece : CostPiece) (numbers : List ℕ) (before after : List (List CostPiece))
    (marks : List ℕ) : Type 0 where
  pub long : length after ≡ length before
  pub marked : length marks ≡ length before
  pub added : (number : ℕ) → number < length before → slice_index_or after number []
      ≡ slice_index_or before number [] ++ (if has_number number numbers then piece ∷ [] else [])
  pub turns : (number : ℕ) → number < length before → slice_index marks number ≤ turn
  pub noted : (number : ℕ) → number < length before →
      (slice_index marks number ≡ turn) ↔ IsTrue (has_number number numbers)

abbrev pub rows_of : List (Vec Kept) → List (List CostPiece)
rows_of rows = map (λ row. all_pieces row.items) rows

-- the rows of the fields and of the statements of a program
pub record HasCostRows (program : ProgramTree) (needs : NeedsShape) (index : Index) : Type 0 where
  pub fields : AreRows (numbers_of kind.Fields program needs) (program_pieces program) (rows_of index.fields.items)
  pub statements : AreRows (numbers_of kind.Statements program needs) (program_pieces program)
      (rows_of index.statements.items)

-- these rows, whose walks know their blocks, and the tables of the bodies of all methods
pub record IsIndex (program : Program) (needs : NeedsShape) (hosts : HostsShape) (index : Index) : Type 0 where
  pub rows : HasCostRows (program_tree program) needs index
  pub long_fields : length index.fields.items ≡ length program.fields.items
  pub long_statements : length index.statements.items ≡ length needs.need
  pub field_tables : RowsHaveTables needs hosts index.fields.items
  pub statement_tables : RowsHaveTables needs hosts index.statements.items
  pub bodies : AreBodies needs hosts program.methods.items index.bodies.items

abbrev pub kind_of : Step → Kind
kind_of (step.Field field host) = kind.Fields
kind_of (step.Statement statement host) = kind.Statements

abbrev pub number_of : Step → ℕ
number_of (step.Field field host) = field.0
number_of (step.Statement statement host) = statement.0
