-- The principals by whose authority methods of a resolved program release and endorse are declared.
use Rattle.std.proofs.Common.{ℕ, zero, suc, ◌<◌, List, [], ◌∷◌, ◌++◌, All, length, arith, sym, subst}
use Rattle.std.proofs.lemmas.Option.{slice_get_within}
use Rattle.js_base.specs.declared.ids.PrincipalId.{PrincipalId}
use Rattle.principals.specs.ActsFor.{Declared}
use Rattle.label_lattice.specs.Written.{AreKnown}
use Rattle.jif_tree.specs.Trees.{MethodTree, ProgramTree}
use Rattle.jif_grammar.specs.DraftShapes.{MethodShape, DraftShape}
use Rattle.jif_resolve.specs.Labels.{texts}
use Rattle.jif_resolve.specs.Meanings.{Global, globals_of}
use Rattle.jif_resolve.specs.Resolved.{AreMethodsFor}
use Rattle.jif_resolve.specs.Verdicts.{IsProgramOf}

all_none : {X : Type 0} (P : X → Type 0) → All P []
all_none P = λ k d less. absurd (omega arith)

all_more : {X : Type 0} (P : X → Type 0) (first : X) (others : List X) → P first → All P others →
    All P (first ∷ others)
all_more P first others holds rest zero d less = holds
all_more P first others holds rest (suc k) d less = rest k d (omega arith)

known_within : (principals : Declared) (names : List (List ℕ)) (known : List PrincipalId) →
    AreKnown principals names known → All (λ member. member.0 < length principals.names) known
known_within principals [] [] are = all_none (λ member. member.0 < length principals.names)
known_within principals [] (member ∷ members) are = absurd are
known_within principals (name ∷ names) [] are = absurd are
known_within principals (name ∷ names) (member ∷ members) (is, are) =
    all_more (λ member. member.0 < length principals.names) member members
    (slice_get_within principals.names member.0 name is) (known_within principals names members are)

abbrev IsWithin : Declared → MethodTree → Type 0
IsWithin principals method = All (λ member. member.0 < length principals.names) method.authority

methods_within : (principals : Declared) (globals : List Global) (before methods : List MethodShape)
    (trees : List MethodTree) → AreMethodsFor principals globals before methods trees →
    All (IsWithin principals) trees
methods_within principals globals before [] trees none =
    subst (All (IsWithin principals)) (sym none) (all_none (IsWithin principals))
methods_within principals globals before (method ∷ methods) trees (first, others, same, one, behind) =
    subst (All (IsWithin principals)) (sym same)
    (all_more (IsWithin principals) first others
    (known_within principals (texts method.authority) first.authority one.authority)
    (methods_within principals globals (before ++ method ∷ []) methods others behind))

pub authorities : (principals : Declared) (draft : DraftShape) (tree : ProgramTree) →
    IsProgramOf principals draft tree →
    All (λ method. All (λ member. member.0 < length principals.names) method.authority) tree.methods
authorities principals draft tree is =
    methods_within principals (globals_of draft) [] draft.methods tree.methods is.is_tree.methods
