-- What holds of the expressions of a program holds of those of its methods.
use Rattle.std.proofs.Common.{List, [], ◌∷◌, All}
use Rattle.std.specs.List.{flat_map}
use Rattle.std.proofs.lemmas.List.Elements.{All-cons, All-nil}
use Rattle.jif_tree.specs.Trees.{MethodTree}
use Rattle.jif_tree.specs.Sizes.{block_nodes}
use Rattle.control_split.specs.Views.{IsSizedBlock}
use Rattle.control_split.proofs.SizedBlocks.{IsFew, all_first, all_second}

pub sized_methods : (methods : List MethodTree) → All IsFew (flat_map (λ method. block_nodes method.body) methods) →
    All (λ method. IsSizedBlock method.body) methods
sized_methods [] all = All-nil (λ (method : MethodTree). IsSizedBlock method.body)
sized_methods (method ∷ methods) all =
    let rest = flat_map (λ (one : MethodTree). block_nodes one.body) methods in
    All-cons (λ (one : MethodTree). IsSizedBlock one.body) method methods
    (all_first (block_nodes method.body) rest all)
    (sized_methods methods (all_second (block_nodes method.body) rest all))
