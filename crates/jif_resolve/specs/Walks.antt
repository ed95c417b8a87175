-- The place that a walk over statements has come to.
use Rattle.std.specs.Prelude.{Bool, true, false}
use Rattle.jif_tree.specs.declared.draft.StmtKindDraft as kind
use Rattle.jif_tree.specs.declared.draft.StmtKindDraft.{StmtKindDraft}
use Rattle.jif_grammar.specs.DraftShapes.{BlockShape, end_shape, declaration_shape, assignment_shape}
use Rattle.jif_grammar.specs.DraftShapes.{element_assignment_shape, branch_shape, loop_shape, call_shape, return_shape}
use Rattle.jif_resolve.specs.Places.{Place, after_statement, after_call, after_declaration, after_block}

-- the place behind the statements of a block that has not ended
abbrev pub behind : Place → BlockShape → Place
behind place end_shape = place
behind place (declaration_shape start label name value rest) = behind (after_declaration place name) rest
behind place (assignment_shape start name value rest) = behind (after_statement place) rest
behind place (element_assignment_shape start name index value rest) = behind (after_statement place) rest
behind place (branch_shape start guard first second rest) =
    behind (after_block (after_block (after_statement place) first) second) rest
behind place (loop_shape start guard body rest) = behind (after_block (after_statement place) body) rest
behind place (call_shape start name args into rest) = behind (after_call place) rest
behind place (return_shape start value rest) = behind (after_statement place) rest

abbrev pub is_return : StmtKindDraft → Bool
is_return (kind.Return value) = true
is_return _ = false
