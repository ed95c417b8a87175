-- What contracts see of the pieces of the code.
use Rattle.std.specs.Prelude.{List, map, Option, Some, None}
use Rattle.js_base.specs.declared.ids.VarId.{VarId}
use Rattle.jif_tree.specs.declared.program.Stmt.{Stmt}
use Rattle.jif_tree.specs.declared.program.StmtKind.{StmtKind}
use Rattle.jif_tree.specs.declared.program.StmtKind as kind
use Rattle.msg_cost.specs.declared.piece.Piece.{Piece as Kept}
use Rattle.msg_cost.specs.declared.piece.Piece.TheVariants as kept
use Rattle.msg_cost.specs.declared.walk.Walk.{Walk}
use Rattle.msg_cost.specs.Pieces.{Given, CostPiece, access, giving, passing, calling, walk, ending}

-- the variable to which a statement gives a value
abbrev pub gives : StmtKind → Option VarId
gives (kind.Let x value) = Some x
gives (kind.SetField field value) = None
gives (kind.SetElement field index value) = None
gives (kind.If' guard m first n second) = None
gives (kind.While' guard m body) = None
gives (kind.Call site method args into) = into
gives (kind.Return value) = None

abbrev pub given_of : Stmt → Given
given_of statement = record { id = statement.id; gives = gives statement.kind }

abbrev pub givens_of : List Stmt → List Given
givens_of block = map given_of block

abbrev pub walk_shape : Walk → CostPiece
walk_shape one = walk one.weight one.home one.nested (givens_of one.block.now)

abbrev pub piece_shape : Kept → CostPiece
piece_shape (kept.Access weight statement field) = access weight statement field
piece_shape (kept.Giving one place statement variable) =
    giving one.weight statement variable one.home (givens_of one.block.now) place
piece_shape (kept.Passing weight statement method variable) = passing weight statement method variable
piece_shape (kept.Calling weight statement method kept) = calling weight statement method kept
piece_shape (kept.Walk one) = walk_shape one
piece_shape (kept.Ending method) = ending method

abbrev pub all_pieces : List Kept → List CostPiece
all_pieces pieces = map piece_shape pieces
