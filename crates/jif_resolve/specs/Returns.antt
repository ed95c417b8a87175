-- Where the statements of a draft return: last in a body, and in no block inside it.
use Rattle.std.specs.Prelude.{◌≡◌, ⊤, All}
use Rattle.jif_grammar.specs.DraftShapes.{BlockShape, end_shape, declaration_shape, assignment_shape}
use Rattle.jif_grammar.specs.DraftShapes.{element_assignment_shape, branch_shape, loop_shape, call_shape, return_shape}
use Rattle.jif_grammar.specs.DraftShapes.{MethodShape, DraftShape}

-- no statement is a `return`, in the blocks inside it neither
abbrev pub HasNoReturn : BlockShape → Type 0
HasNoReturn end_shape = ⊤
HasNoReturn (declaration_shape start label name value rest) = HasNoReturn rest
HasNoReturn (assignment_shape start name value rest) = HasNoReturn rest
HasNoReturn (element_assignment_shape start name index value rest) = HasNoReturn rest
HasNoReturn (branch_shape start guard first second rest) = HasNoReturn first × HasNoReturn second × HasNoReturn rest
HasNoReturn (loop_shape start guard body rest) = HasNoReturn body × HasNoReturn rest
HasNoReturn (call_shape start name args into rest) = HasNoReturn rest
HasNoReturn (return_shape start value rest) = ⊥

-- where a `return` stands, no statement follows it, and no block is around it
abbrev pub ReturnsLast : BlockShape → Type 0
ReturnsLast end_shape = ⊤
ReturnsLast (declaration_shape start label name value rest) = ReturnsLast rest
ReturnsLast (assignment_shape start name value rest) = ReturnsLast rest
ReturnsLast (element_assignment_shape start name index value rest) = ReturnsLast rest
ReturnsLast (branch_shape start guard first second rest) = HasNoReturn first × HasNoReturn second × ReturnsLast rest
ReturnsLast (loop_shape start guard body rest) = HasNoReturn body × ReturnsLast rest
ReturnsLast (call_shape start name args into rest) = ReturnsLast rest
ReturnsLast (return_shape start value rest) = rest ≡ end_shape

abbrev pub MethodReturnsLast : MethodShape → Type 0
MethodReturnsLast method = ReturnsLast method.body

abbrev pub AreReturnedLast : DraftShape → Type 0
AreReturnedLast draft = All MethodReturnsLast draft.methods
