-- The draft of a program returns only where a method ends.
use Rattle.std.proofs.Common.{ℕ, All, List, [], ◌∷◌, Option, Some, None, refl, sym, subst}
use Rattle.std.proofs.lemmas.List.Elements.{All-nil, All-cons}
use Rattle.jif_lex.specs.declared.token.Token.{Token}
use Rattle.jif_grammar.specs.Phrases.{ExprPhrase, BlockPhrase, end, declaration, assignment}
use Rattle.jif_grammar.specs.Phrases.{element_assignment, call, call_into, branch, branch_else, loop}
use Rattle.jif_grammar.specs.Phrases.{field, method, ProgramPhrase}
use Rattle.jif_grammar.specs.DraftShapes.{BlockShape, end_shape, DraftShape}
use Rattle.jif_grammar.specs.Drafts.{block_at, result_at, method_at, after_item, methods_at}
use Rattle.jif_grammar.specs.Programs.{IsProgramOf, line_at}
use Rattle.jif_resolve.specs.Returns.{HasNoReturn, ReturnsLast, MethodReturnsLast, AreReturnedLast}

no_return : (lines : ℕ → ℕ) (block : BlockPhrase) (at : ℕ) → HasNoReturn (block_at lines at block end_shape)
no_return lines end at = tt
no_return lines (declaration label name value rest) at = no_return lines rest _
no_return lines (assignment name value rest) at = no_return lines rest _
no_return lines (element_assignment name index value rest) at = no_return lines rest _
no_return lines (call name args rest) at = no_return lines rest _
no_return lines (call_into into name args rest) at = no_return lines rest _
no_return lines (branch guard first rest) at = (no_return lines first _, tt, no_return lines rest _)
no_return lines (branch_else guard first second rest) at =
    (no_return lines first _, no_return lines second _, no_return lines rest _)
no_return lines (loop guard body rest) at = (no_return lines body _, no_return lines rest _)

returns_behind : (lines : ℕ → ℕ) (block : BlockPhrase) (behind : BlockShape) (at : ℕ) → ReturnsLast behind →
    ReturnsLast (block_at lines at block behind)
returns_behind lines end behind at last = last
returns_behind lines (declaration label name value rest) behind at last = returns_behind lines rest behind _ last
returns_behind lines (assignment name value rest) behind at last = returns_behind lines rest behind _ last
returns_behind lines (element_assignment name index value rest) behind at last =
    returns_behind lines rest behind _ last
returns_behind lines (call name args rest) behind at last = returns_behind lines rest behind _ last
returns_behind lines (call_into into name args rest) behind at last = returns_behind lines rest behind _ last
returns_behind lines (branch guard first rest) behind at last =
    (no_return lines first _, tt, returns_behind lines rest behind _ last)
returns_behind lines (branch_else guard first second rest) behind at last =
    (no_return lines first _, no_return lines second _, returns_behind lines rest behind _ last)
returns_behind lines (loop guard body rest) behind at last =
    (no_return lines body _, returns_behind lines rest behind _ last)

result_is_last : (lines : ℕ → ℕ) (at : ℕ) (result : Option ExprPhrase) → ReturnsLast (result_at lines at result)
result_is_last lines at None = tt
result_is_last lines at (Some value) = refl

methods_return : (lines : ℕ → ℕ) (at : ℕ) (program : ProgramPhrase) →
    All MethodReturnsLast (methods_at lines at program)
methods_return lines at [] = All-nil MethodReturnsLast
methods_return lines at (field phrase ∷ items) = methods_return lines (after_item at (field phrase)) items
methods_return lines at (method phrase ∷ items) =
    All-cons MethodReturnsLast (method_at lines at phrase) (methods_at lines (after_item at (method phrase)) items)
    (returns_behind lines phrase.body _ _ (result_is_last lines _ phrase.result))
    (methods_return lines (after_item at (method phrase)) items)

pub returned_last : (list : List Token) (draft : DraftShape) → IsProgramOf list draft → AreReturnedLast draft
returned_last list draft program =
    subst AreReturnedLast (sym program.draft_is) (methods_return (line_at list) 0 program.program)
