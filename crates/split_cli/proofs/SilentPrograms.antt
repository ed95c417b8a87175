-- A program has no statement that releases something exactly where it releases nothing.
use Rattle.std.proofs.Common.{◌≡◌, ◌∙◌, ℕ, Bool, true, false, List, [], ◌∷◌, ◌++◌, refl, ap}
use Rattle.std.specs.Prelude.{◌↔◌, if◌then◌else◌}
use Rattle.std.specs.List.{AllByRecursion, flat_map, list_any}
use Rattle.std.proofs.lemmas.Bool.{or_parts, or_from}
use Rattle.jif_tree.specs.Trees.{ExprTree, BlockTree, done, set_local, set_field, set_element, branch, loop, call}
use Rattle.jif_tree.specs.Trees.{give_back, MethodTree, ProgramTree}
use Rattle.need_labels.specs.Needs.{releases}
use Rattle.split_shades.specs.Sites.{IsKeptBack, IsSilentBlock, ReleasesNothing}
use Rattle.releasing_statements.specs.Releases.{if_releasing, block_releases, method_releases, program_releases}

-- ---- lists

both_empty : (xs ys : List ℕ) → xs ++ ys ≡ [] → (xs ≡ []) × (ys ≡ [])
both_empty [] ys none = (refl, none)
both_empty (x ∷ xs) ys none = absurd (let no : ⊥ = cc in no)

empty_with : (xs ys : List ℕ) → xs ≡ [] → ys ≡ [] → xs ++ ys ≡ []
empty_with xs ys first second = ap (λ (zs : List ℕ). zs ++ ys) first ∙ second

-- ---- the expressions of a statement

all_kept : (exprs : List ExprTree) → list_any releases exprs ≡ false → AllByRecursion IsKeptBack exprs
all_kept [] none = tt
all_kept (expr ∷ exprs) none =
    let parts = or_parts (releases expr) (list_any releases exprs) none in
    (parts.0, all_kept exprs parts.1)

none_released : (exprs : List ExprTree) → AllByRecursion IsKeptBack exprs → list_any releases exprs ≡ false
none_released [] kept = refl
none_released (expr ∷ exprs) kept =
    or_from (releases expr) (list_any releases exprs) kept.0 (none_released exprs kept.1)

own_kept : (number : ℕ) (exprs : List ExprTree) → if_releasing number exprs ≡ [] → AllByRecursion IsKeptBack exprs
own_kept number exprs none = all_kept exprs (by (list_any releases exprs) none)
  where
    by : (some : Bool) → (if some then number ∷ [] else []) ≡ [] → some ≡ false
    by true none = absurd (let no : ⊥ = cc in no)
    by false none = refl

own_silent : (number : ℕ) (exprs : List ExprTree) → AllByRecursion IsKeptBack exprs → if_releasing number exprs ≡ []
own_silent number exprs kept =
    ap (λ (some : Bool). if some then number ∷ [] else []) (none_released exprs kept)

-- ---- blocks

silent_block : (block : BlockTree) → block_releases block ≡ [] → IsSilentBlock block
silent_block done none = tt
silent_block (set_local heading x value rest) none =
    let parts = both_empty (if_releasing heading.id.0 (value ∷ [])) (block_releases rest) none in
    ((own_kept heading.id.0 (value ∷ []) parts.0).0, silent_block rest parts.1)
silent_block (set_field heading field value rest) none =
    let parts = both_empty (if_releasing heading.id.0 (value ∷ [])) (block_releases rest) none in
    ((own_kept heading.id.0 (value ∷ []) parts.0).0, silent_block rest parts.1)
silent_block (set_element heading field index value rest) none =
    let parts = both_empty (if_releasing heading.id.0 (index ∷ value ∷ [])) (block_releases rest) none in
    let kept = own_kept heading.id.0 (index ∷ value ∷ []) parts.0 in
    (kept.0, kept.1.0, silent_block rest parts.1)
silent_block (branch heading guard first second rest) none =
    let own = if_releasing heading.id.0 (guard ∷ []) in
    let parts = both_empty (own ++ block_releases first ++ block_releases second) (block_releases rest) none in
    let front = both_empty (own ++ block_releases first) (block_releases second) parts.0 in
    let begin = both_empty own (block_releases first) front.0 in (
      (own_kept heading.id.0 (guard ∷ []) begin.0).0,
      silent_block first begin.1,
      silent_block second front.1,
      silent_block rest parts.1,
    )
silent_block (loop heading guard body rest) none =
    let own = if_releasing heading.id.0 (guard ∷ []) in
    let parts = both_empty (own ++ block_releases body) (block_releases rest) none in
    let front = both_empty own (block_releases body) parts.0 in
    ((own_kept heading.id.0 (guard ∷ []) front.0).0, silent_block body front.1, silent_block rest parts.1)
silent_block (call heading site method args into rest) none =
    let parts = both_empty (if_releasing heading.id.0 args) (block_releases rest) none in
    (own_kept heading.id.0 args parts.0, silent_block rest parts.1)
silent_block (give_back heading value rest) none =
    let parts = both_empty (if_releasing heading.id.0 (value ∷ [])) (block_releases rest) none in
    ((own_kept heading.id.0 (value ∷ []) parts.0).0, silent_block rest parts.1)

no_releases : (block : BlockTree) → IsSilentBlock block → block_releases block ≡ []
no_releases done silent = refl
no_releases (set_local heading x value rest) silent =
    empty_with (if_releasing heading.id.0 (value ∷ [])) (block_releases rest)
    (own_silent heading.id.0 (value ∷ []) (silent.0, tt)) (no_releases rest silent.1)
no_releases (set_field heading field value rest) silent =
    empty_with (if_releasing heading.id.0 (value ∷ [])) (block_releases rest)
    (own_silent heading.id.0 (value ∷ []) (silent.0, tt)) (no_releases rest silent.1)
no_releases (set_element heading field index value rest) silent =
    empty_with (if_releasing heading.id.0 (index ∷ value ∷ [])) (block_releases rest)
    (own_silent heading.id.0 (index ∷ value ∷ []) (silent.0, (silent.1, tt))) (no_releases rest silent.2)
no_releases (branch heading guard first second rest) silent =
    let own = if_releasing heading.id.0 (guard ∷ []) in
    empty_with (own ++ block_releases first ++ block_releases second) (block_releases rest)
    (empty_with (own ++ block_releases first) (block_releases second)
    (empty_with own (block_releases first) (own_silent heading.id.0 (guard ∷ []) (silent.0, tt))
    (no_releases first silent.1)) (no_releases second silent.2)) (no_releases rest silent.3)
no_releases (loop heading guard body rest) silent =
    let own = if_releasing heading.id.0 (guard ∷ []) in
    empty_with (own ++ block_releases body) (block_releases rest)
    (empty_with own (block_releases body) (own_silent heading.id.0 (guard ∷ []) (silent.0, tt))
    (no_releases body silent.1)) (no_releases rest silent.2)
no_releases (call heading site method args into rest) silent =
    empty_with (if_releasing heading.id.0 args) (block_releases rest) (own_silent heading.id.0 args silent.0)
    (no_releases rest silent.1)
no_releases (give_back heading value rest) silent =
    empty_with (if_releasing heading.id.0 (value ∷ [])) (block_releases rest)
    (own_silent heading.id.0 (value ∷ []) (silent.0, tt)) (no_releases rest silent.1)

-- ---- programs

silent_methods : (methods : List MethodTree) → flat_map method_releases methods ≡ [] →
    AllByRecursion (λ (method : MethodTree). IsSilentBlock method.body) methods
silent_methods [] none = tt
silent_methods (method ∷ methods) none =
    let parts = both_empty (method_releases method) (flat_map method_releases methods) none in
    (silent_block method.body parts.0, silent_methods methods parts.1)

methods_release_none : (methods : List MethodTree) →
    AllByRecursion (λ (method : MethodTree). IsSilentBlock method.body) methods →
    flat_map method_releases methods ≡ []
methods_release_none [] silent = refl
methods_release_none (method ∷ methods) silent =
    empty_with (method_releases method) (flat_map method_releases methods) (no_releases method.body silent.0)
    (methods_release_none methods silent.1)

pub silent_program : (program : ProgramTree) → (program_releases program ≡ []) ↔ ReleasesNothing program
silent_program program = (silent_methods program.methods, methods_release_none program.methods)
