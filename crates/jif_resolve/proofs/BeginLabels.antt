-- The begin labels of a resolved program are over its principals, and those whose authority a method has are readers.
use Rattle.std.proofs.Common.{◌<◌, ◌≤◌, List, [], ◌∷◌, ◌++◌, All, length, sym, subst, arith}
use Rattle.std.proofs.lemmas.List.Elements.{All-nil, All-cons}
use Rattle.js_base.specs.declared.limits.TheConstants.{PRINCIPALS}
use Rattle.principals.specs.ActsFor.{Declared, IsDeclared}
use Rattle.label_lattice.specs.Over.{TrustsOver}
use Rattle.label_lattice.specs.declared.label.TheConstants.{READERS}
use Rattle.jif_tree.specs.Trees.{MethodTree, ProgramTree}
use Rattle.jif_grammar.specs.DraftShapes.{MethodShape, DraftShape}
use Rattle.jif_resolve.specs.Meanings.{Global, globals_of}
use Rattle.jif_resolve.specs.Resolved.{AreMethodsFor}
use Rattle.jif_resolve.specs.Verdicts.{IsProgramOf}
use Rattle.jif_resolve.proofs.Authorities.{authorities}

abbrev BeginsOver : Declared → MethodTree → Type 0
BeginsOver principals method = TrustsOver principals method.begin

methods_begin : (principals : Declared) (globals : List Global) (before methods : List MethodShape)
    (trees : List MethodTree) → AreMethodsFor principals globals before methods trees →
    All (BeginsOver principals) trees
methods_begin principals globals before [] trees none =
    subst (All (BeginsOver principals)) (sym none) (All-nil (BeginsOver principals))
methods_begin principals globals before (method ∷ methods) trees (first, others, same, one, behind) =
    subst (All (BeginsOver principals)) (sym same)
    (All-cons (BeginsOver principals) first others one.begin.over.trusts
    (methods_begin principals globals (before ++ method ∷ []) methods others behind))

pub begins_over : (principals : Declared) (draft : DraftShape) (tree : ProgramTree) →
    IsProgramOf principals draft tree → All (λ method. TrustsOver principals method.begin) tree.methods
begins_over principals draft tree is =
    methods_begin principals (globals_of draft) [] draft.methods tree.methods is.is_tree.methods

pub readers : (principals : Declared) (draft : DraftShape) (tree : ProgramTree) → IsDeclared principals →
    IsProgramOf principals draft tree →
    All (λ method. All (λ member. member.0 < READERS) method.authority) tree.methods
readers principals draft tree declared is k d less i e within =
    let few : length principals.names ≤ PRINCIPALS = declared.names.few in
    omega (arith, authorities principals draft tree is k d less i e within)
