-- Which parts the cost of a piece depends on.
use Rattle.std.specs.Prelude.{List, [], ◌∷◌, ◌++◌, Option, Some, None, slice_get, unwrap_or}
use Rattle.js_base.specs.declared.ids.FieldId.{FieldId}
use Rattle.js_base.specs.declared.ids.StmtId.{StmtId}
use Rattle.jif_tree.specs.LabelRules.{method_at}
use Rattle.jif_tree.specs.Trees.{MethodTree, ProgramTree}
use Rattle.need_labels.specs.Needs.{NeedsShape}
use Rattle.msg_cost.specs.Moves.{own_statements}
use Rattle.msg_cost.specs.Pieces.{CostPiece, access, giving, passing, calling, walk, ending, given_ids}

-- the statements whose hosts say where a method begins and ends
abbrev pub statements_of_method : Option MethodTree → List StmtId
statements_of_method None = []
statements_of_method (Some method) = method.head ∷ own_statements method.body

-- the statement whose host is the home of a method
abbrev pub head_of_method : Option MethodTree → List StmtId
head_of_method None = []
head_of_method (Some method) = method.head ∷ []

-- The statements on whose hosts a piece depends. What a statement gives depends on more of its block, but only where
-- one of these is moved it is counted as a piece of its own.
abbrev pub statements_of : ProgramTree → NeedsShape → CostPiece → List StmtId
statements_of program needs (access weight statement field) = statement ∷ []
statements_of program needs (giving weight statement x home own place) =
    statement ∷ unwrap_or (slice_get needs.readers x.0) []
statements_of program needs (passing weight statement method x) =
    statement ∷ head_of_method (method_at program method) ++ unwrap_or (slice_get needs.readers x.0) []
statements_of program needs (calling weight statement method kept) =
    statement ∷ statements_of_method (method_at program method)
statements_of program needs (walk weight home nested own) = home ∷ given_ids own
statements_of program needs (ending method) = statements_of_method (method_at program method)

-- the fields on whose hosts it depends
abbrev pub fields_of : CostPiece → List FieldId
fields_of (access weight statement field) = field ∷ []
fields_of (giving weight statement x home own place) = []
fields_of (passing weight statement method x) = []
fields_of (calling weight statement method kept) = []
fields_of (walk weight home nested own) = []
fields_of (ending method) = []
