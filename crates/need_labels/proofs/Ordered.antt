-- The statements of a program by their numbers.
use Rattle.std.proofs.Common.{ℕ, ◌<◌, ◌≡◌, ◌∙◌, sym, ap, refl, List, [], ◌∷◌, ◌++◌, map, length, get_or, arith}
use Rattle.std.specs.Prelude.{Some, slice_get}
use Rattle.std.specs.List.{flat_map}
use Rattle.std.proofs.lemmas.List.{map-append, length-map, get_or-map}
use Rattle.std.proofs.lemmas.List.FromFn.{get_or-range_with_len}
use Rattle.std.proofs.lemmas.Option.{slice_get_within, get_or_from_slice_get}
use Rattle.principals.specs.ActsFor.{Declared}
use Rattle.jif_tree.specs.Trees.{BlockTree, done, set_local, set_field, set_element, branch, loop, call, give_back}
use Rattle.jif_tree.specs.Trees.{MethodTree}
use Rattle.jif_tree.specs.LabelRules.{MethodSetting, setting_of}
use Rattle.jif_tree.specs.Numbering.{block_statements, statement_numbers, CountsFrom}
use Rattle.need_labels.specs.Labelled.{Labelled}
use Rattle.need_labels.specs.Needs.{StatementUse, block_uses, method_uses, statement_uses}

abbrev number_of : StatementUse → ℕ
number_of one = one.id.0

block_ordered : (labelled : Labelled) (setting : MethodSetting) (block : BlockTree) →
    map number_of (block_uses labelled setting block) ≡ block_statements block
block_ordered labelled setting done = refl
block_ordered labelled setting (set_local heading x value rest) =
    ap (λ (more : List ℕ). heading.id.0 ∷ more) (block_ordered labelled setting rest)
block_ordered labelled setting (set_field heading field value rest) =
    ap (λ (more : List ℕ). heading.id.0 ∷ more) (block_ordered labelled setting rest)
block_ordered labelled setting (set_element heading field index value rest) =
    ap (λ (more : List ℕ). heading.id.0 ∷ more) (block_ordered labelled setting rest)
block_ordered labelled setting (branch heading guard first second rest) =
    let uses : BlockTree → List StatementUse = block_uses labelled setting in
    ap (λ (more : List ℕ). heading.id.0 ∷ more)
    (map-append number_of (uses first ++ uses second) (uses rest)
    ∙ ap (λ (some : List ℕ). some ++ map number_of (uses rest))
    (map-append number_of (uses first) (uses second)
    ∙ ap (λ (some : List ℕ). some ++ map number_of (uses second)) (block_ordered labelled setting first)
    ∙ ap (λ (some : List ℕ). block_statements first ++ some) (block_ordered labelled setting second))
    ∙ ap (λ (some : List ℕ). block_statements first ++ block_statements second ++ some)
    (block_ordered labelled setting rest))
block_ordered labelled setting (loop heading guard body rest) =
    let uses : BlockTree → List StatementUse = block_uses labelled setting in
    ap (λ (more : List ℕ). heading.id.0 ∷ more)
    (map-append number_of (uses body) (uses rest)
    ∙ ap (λ (some : List ℕ). some ++ map number_of (uses rest)) (block_ordered labelled setting body)
    ∙ ap (λ (some : List ℕ). block_statements body ++ some) (block_ordered labelled setting rest))
block_ordered labelled setting (call heading site method arguments into rest) =
    ap (λ (more : List ℕ). heading.id.0 ∷ more) (block_ordered labelled setting rest)
block_ordered labelled setting (give_back heading value rest) =
    ap (λ (more : List ℕ). heading.id.0 ∷ more) (block_ordered labelled setting rest)

method_ordered : (principals : Declared) (labelled : Labelled) (method : MethodTree) →
    map number_of (method_uses principals labelled method) ≡ method.head.0 ∷ block_statements method.body
method_ordered principals labelled method =
    ap (λ (more : List ℕ). method.head.0 ∷ more)
    (block_ordered labelled (setting_of principals labelled.program method) method.body)

methods_ordered : (principals : Declared) (labelled : Labelled) (methods : List MethodTree) →
    map number_of (flat_map (method_uses principals labelled) methods)
    ≡ flat_map (λ method. method.head.0 ∷ block_statements method.body) methods
methods_ordered principals labelled [] = refl
methods_ordered principals labelled (method ∷ methods) =
    let others : List StatementUse = flat_map (method_uses principals labelled) methods in
    map-append number_of (method_uses principals labelled method) others
    ∙ ap (λ (some : List ℕ). some ++ map number_of others) (method_ordered principals labelled method)
    ∙ ap (λ (more : List ℕ). (method.head.0 ∷ block_statements method.body) ++ more)
    (methods_ordered principals labelled methods)

pub uses_ordered : (principals : Declared) (labelled : Labelled) →
    map number_of (statement_uses principals labelled) ≡ statement_numbers labelled.program
uses_ordered principals labelled = methods_ordered principals labelled labelled.program.methods

pub uses_counted : (principals : Declared) (labelled : Labelled) →
    length (statement_uses principals labelled) ≡ length (statement_numbers labelled.program)
uses_counted principals labelled =
    sym (length-map (statement_uses principals labelled) number_of) ∙ ap length (uses_ordered principals labelled)

pub use_numbered : (principals : Declared) (labelled : Labelled) (place : ℕ) (one : StatementUse) →
    CountsFrom 0 (statement_numbers labelled.program) →
    slice_get (statement_uses principals labelled) place ≡ Some one → one.id.0 ≡ place
use_numbered principals labelled place one counts is =
    let uses : List StatementUse = statement_uses principals labelled in
    let numbers : List ℕ = statement_numbers labelled.program in
    let within : place < length uses = slice_get_within uses place one is in
    sym (ap number_of (get_or_from_slice_get uses place one one is))
    ∙ sym (get_or-map number_of uses place one 0 within)
    ∙ ap (λ (all : List ℕ). get_or all place 0) (uses_ordered principals labelled ∙ counts)
    ∙ get_or-range_with_len 0 (length numbers) place 0 (omega (arith, uses_counted principals labelled, within))
    ∙ omega arith
