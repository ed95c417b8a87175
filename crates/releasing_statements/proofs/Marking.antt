-- Marks and numbers tell the same.
use Rattle.std.proofs.Common.{◌≡◌, ◌+◌, ◌↔◌, ℕ, zero, suc, Bool, true, false, List, [], ◌∷◌, ◌++◌}
use Rattle.std.proofs.Common.{length, refl, sym, ap, ap₂, ◌∙◌, arith, Some, slice_get, ◌⊎◌, inl, inr}
use Rattle.std.proofs.Common.{append_assoc, subst}
use Rattle.std.specs.Prelude.{if◌then◌else◌}
use Rattle.std.specs.List.{Contains, flat_map, list_any, range_with_len}
use Rattle.std.proofs.lemmas.List.{length-append}
use Rattle.std.proofs.lemmas.List.Elements.{Contains-append_cases, Contains-append_right, Contains-push_cases}
use Rattle.jif_tree.specs.Numbering.{CountsFrom, block_statements, statement_numbers}
use Rattle.jif_tree.specs.Trees.{ExprTree, BlockTree, done, set_local, set_field, set_element, branch, loop, call}
use Rattle.jif_tree.specs.Trees.{give_back, MethodTree, ProgramTree}
use Rattle.need_labels.specs.Needs.{releases}
use Rattle.releasing_statements.specs.Marks.{block_marks, marked, method_marks, released_statements}
use Rattle.releasing_statements.specs.Releases.{block_releases, if_releasing, method_releases, program_releases}

-- ---- as many

one_more : (numbers more : List ℕ) (marks others : List Bool) → length numbers ≡ length marks →
    length more ≡ length others → length (numbers ++ more) ≡ length (marks ++ others)
one_more numbers more marks others same rest =
    length-append numbers more ∙ ap₂ (λ (m n : ℕ). m + n) same rest ∙ sym (length-append marks others)

block_as_many : (block : BlockTree) → length (block_statements block) ≡ length (block_marks block)
block_as_many done = refl
block_as_many (set_local heading x value rest) = ap suc (block_as_many rest)
block_as_many (set_field heading field value rest) = ap suc (block_as_many rest)
block_as_many (set_element heading field index value rest) = ap suc (block_as_many rest)
block_as_many (branch heading guard first second rest) =
    ap suc (one_more (block_statements first ++ block_statements second) (block_statements rest)
    (block_marks first ++ block_marks second) (block_marks rest)
    (one_more (block_statements first) (block_statements second) (block_marks first) (block_marks second)
    (block_as_many first) (block_as_many second)) (block_as_many rest))
block_as_many (loop heading guard body rest) =
    ap suc (one_more (block_statements body) (block_statements rest) (block_marks body) (block_marks rest)
    (block_as_many body) (block_as_many rest))
block_as_many (call heading site method args into rest) = ap suc (block_as_many rest)
block_as_many (give_back heading value rest) = ap suc (block_as_many rest)

abbrev numbers_of : MethodTree → List ℕ
numbers_of method = method.head.0 ∷ block_statements method.body

methods_as_many : (methods : List MethodTree) →
    length (flat_map numbers_of methods) ≡ length (flat_map method_marks methods)
methods_as_many [] = refl
methods_as_many (method ∷ methods) =
    one_more (numbers_of method) (flat_map numbers_of methods) (method_marks method) (flat_map method_marks methods)
    (ap suc (block_as_many method.body)) (methods_as_many methods)

pub as_many_marks : (program : ProgramTree) →
    length (released_statements program) ≡ length (statement_numbers program)
as_many_marks program = sym (methods_as_many program.methods)

-- ---- numbers

marked_on : (numbers more : List ℕ) (marks others : List Bool) → length numbers ≡ length marks →
    marked (numbers ++ more) (marks ++ others) ≡ marked numbers marks ++ marked more others
marked_on [] more [] others same = refl
marked_on [] more (mark ∷ marks) others same = absurd (let no = same in cc)
marked_on (number ∷ numbers) more [] others same = absurd (let no = same in cc)
marked_on (number ∷ numbers) more (true ∷ marks) others same =
    ap (λ (xs : List ℕ). number ∷ xs) (marked_on numbers more marks others (let is = same in cc))
marked_on (number ∷ numbers) more (false ∷ marks) others same =
    marked_on numbers more marks others (let is = same in cc)

-- a number with its mark, and others
own_marked : (number : ℕ) (exprs : List ExprTree) (numbers : List ℕ) (marks : List Bool) (rest : List ℕ) →
    marked numbers marks ≡ rest →
    marked (number ∷ numbers) (list_any releases exprs ∷ marks) ≡ if_releasing number exprs ++ rest
own_marked number exprs numbers marks rest is = either (list_any releases exprs)
  where
    either : (mark : Bool) → marked (number ∷ numbers) (mark ∷ marks) ≡ (if mark then number ∷ [] else []) ++ rest
    either true = ap (λ (xs : List ℕ). number ∷ xs) is
    either false = is

block_numbers : (block : BlockTree) → marked (block_statements block) (block_marks block) ≡ block_releases block
block_numbers done = refl
block_numbers (set_local heading x value rest) =
    own_marked heading.id.0 (value ∷ []) _ _ _ (block_numbers rest)
block_numbers (set_field heading field value rest) =
    own_marked heading.id.0 (value ∷ []) _ _ _ (block_numbers rest)
block_numbers (set_element heading field index value rest) =
    own_marked heading.id.0 (index ∷ value ∷ []) _ _ _ (block_numbers rest)
block_numbers (branch heading guard first second rest) =
    let own = if_releasing heading.id.0 (guard ∷ []) in
    let one = block_as_many first in
    own_marked heading.id.0 (guard ∷ []) _ _ _
    (marked_on (block_statements first ++ block_statements second) (block_statements rest)
    (block_marks first ++ block_marks second) (block_marks rest)
    (one_more (block_statements first) (block_statements second) (block_marks first) (block_marks second) one
    (block_as_many second))
    ∙ ap (λ (xs : List ℕ). xs ++ marked (block_statements rest) (block_marks rest))
    (marked_on (block_statements first) (block_statements second) (block_marks first) (block_marks second) one
    ∙ ap₂ (λ (xs ys : List ℕ). xs ++ ys) (block_numbers first) (block_numbers second))
    ∙ ap (λ (xs : List ℕ). (block_releases first ++ block_releases second) ++ xs) (block_numbers rest))
    ∙ sym (append_assoc own (block_releases first ++ block_releases second) (block_releases rest))
    ∙ ap (λ (xs : List ℕ). xs ++ block_releases rest)
    (sym (append_assoc own (block_releases first) (block_releases second)))
block_numbers (loop heading guard body rest) =
    let own = if_releasing heading.id.0 (guard ∷ []) in
    own_marked heading.id.0 (guard ∷ []) _ _ _
    (marked_on (block_statements body) (block_statements rest) (block_marks body) (block_marks rest)
    (block_as_many body)
    ∙ ap₂ (λ (xs ys : List ℕ). xs ++ ys) (block_numbers body) (block_numbers rest))
    ∙ sym (append_assoc own (block_releases body) (block_releases rest))
block_numbers (call heading site method args into rest) =
    own_marked heading.id.0 args _ _ _ (block_numbers rest)
block_numbers (give_back heading value rest) =
    own_marked heading.id.0 (value ∷ []) _ _ _ (block_numbers rest)

methods_numbers : (methods : List MethodTree) →
    marked (flat_map numbers_of methods) (flat_map method_marks methods) ≡ flat_map method_releases methods
methods_numbers [] = refl
methods_numbers (method ∷ methods) =
    marked_on (numbers_of method) (flat_map numbers_of methods) (method_marks method) (flat_map method_marks methods)
    (ap suc (block_as_many method.body))
    ∙ ap₂ (λ (xs ys : List ℕ). xs ++ ys) (block_numbers method.body) (methods_numbers methods)

pub marked_numbers : (program : ProgramTree) →
    marked (statement_numbers program) (released_statements program) ≡ program_releases program
marked_numbers program = methods_numbers program.methods

-- ---- by number

-- what is in a list of one and others
first_or_more : (y : ℕ) (ys : List ℕ) (x : ℕ) → Contains (y ∷ ys) x → (y ≡ x) ⊎ Contains ys x
first_or_more y ys x there =
    elim (Contains-append_cases (y ∷ []) ys x there) [
      | inl one ↦ elim (Contains-push_cases [] y x one) [ inl none ↦ absurd (omega (arith, none.1)) | inr is ↦ inl is ]
      | inr more ↦ inr more
    ]

mark_is_told : (k : ℕ) (marks : List Bool) (i number : ℕ) → k + i ≡ number → slice_get marks i ≡ Some true →
    Contains (marked (range_with_len k (length marks)) marks) number
mark_is_told k [] i number sum is = absurd (let no = is in cc)
mark_is_told k (true ∷ marks) zero number sum is = (0, omega arith, let same : k ≡ number = omega arith in same)
mark_is_told k (false ∷ marks) zero number sum is = absurd (let no = is in cc)
mark_is_told k (true ∷ marks) (suc i) number sum is =
    Contains-append_right (k ∷ []) (marked (range_with_len (k + 1) (length marks)) marks) number
    (mark_is_told (k + 1) marks i number (omega arith) is)
mark_is_told k (false ∷ marks) (suc i) number sum is = mark_is_told (k + 1) marks i number (omega arith) is

-- a place in the list, which is so far behind the first number
abbrev IsMarkedAt : ℕ → List Bool → ℕ → Type 0
IsMarkedAt k marks number = (i : ℕ) × (k + i ≡ number) × (slice_get marks i ≡ Some true)

one_behind : (k : ℕ) (mark : Bool) (marks : List Bool) (number : ℕ) → IsMarkedAt (k + 1) marks number →
    IsMarkedAt k (mark ∷ marks) number
one_behind k mark marks number (i, sum, is) = (suc i, omega arith, is)

told_is_marked : (k : ℕ) (marks : List Bool) (number : ℕ) →
    Contains (marked (range_with_len k (length marks)) marks) number → IsMarkedAt k marks number
told_is_marked k [] number there = absurd (omega (arith, there.1))
told_is_marked k (true ∷ marks) number there =
    elim (first_or_more k (marked (range_with_len (k + 1) (length marks)) marks) number there) [
      | inl is ↦ (0, omega arith, refl)
      | inr more ↦ one_behind k true marks number (told_is_marked (k + 1) marks number more)
    ]
told_is_marked k (false ∷ marks) number there =
    one_behind k false marks number (told_is_marked (k + 1) marks number there)

pub marked_by_number : (program : ProgramTree) → CountsFrom 0 (statement_numbers program) → (number : ℕ) →
    (slice_get (released_statements program) number ≡ Some true) ↔ Contains (program_releases program) number
marked_by_number program counts number =
    let marks = released_statements program in
    let same : marked (range_with_len 0 (length marks)) marks ≡ program_releases program =
    ap (λ (n : ℕ). marked (range_with_len 0 n) marks) (as_many_marks program)
    ∙ ap (λ (numbers : List ℕ). marked numbers marks) (sym counts) ∙ marked_numbers program in
    let From : List ℕ → Type 0 = λ numbers. Contains numbers number in (
      λ is. subst From same (mark_is_told 0 marks number number (omega arith) is),
      λ there.
          let (i, sum, is) = told_is_marked 0 marks number (subst From (sym same) there) in
          let at : i ≡ number = omega arith in
          ap (slice_get marks) (sym at) ∙ is,
    )
