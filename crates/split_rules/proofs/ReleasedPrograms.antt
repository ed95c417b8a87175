-- Statements are found by their numbers, and so one pass over each host's instructions tells what all of them release.
use Rattle.std.proofs.Common.{◌≡◌, ◌∙◌, ℕ, zero, suc, ◌+◌, ◌<◌, arith, List, [], ◌∷◌, ◌++◌, map, length, refl, ap}
use Rattle.std.proofs.Common.{sym, subst}
use Rattle.std.proofs.Common.{append_assoc, append-nil, option_map, All}
use Rattle.std.proofs.lemmas.List.{map-append, length-map}
use Rattle.std.proofs.lemmas.List.Concat.{flat_map-cons}
use Rattle.std.proofs.lemmas.Option.{slice_get-map, slice_get_within}
use Rattle.std.specs.List.{AllByRecursion, flat_map, range_with_len}
use Rattle.std.specs.Prelude.{Option, Some, None, slice_get, unwrap_or}
use Rattle.js_base.specs.declared.ids.HostId.{HostId}
use Rattle.jif_tree.specs.Numbering.{block_statements, statement_numbers, CountsFrom}
use Rattle.jif_tree.specs.Trees.{BlockTree, done, set_local, set_field, set_element, branch, loop, call, give_back}
use Rattle.jif_tree.specs.Trees.{MethodTree, ProgramTree}
use Rattle.host_decl.specs.Hosts.{HostShape}
use Rattle.host_code.specs.Code.{CodeShape, CodeHostShape, part_of}
use Rattle.need_labels.specs.Labelled.{Labelled}
use Rattle.split_rules.specs.Placed.{PlacedProgram, planned_from}
use Rattle.split_rules.specs.Positions.{all_statements, number_of}
use Rattle.split_rules.specs.ReleaseRows.{statements_in, rows_told, parts_told}
use Rattle.split_rules.specs.Releases.{released_on, releases_of}
use Rattle.split_rules.specs.SplitCode.{code_labels, part_on, split_code}
use Rattle.split_rules.specs.Splittable.{IsSplittable}
use Rattle.split_rules.specs.Walk.{program_emissions}
use Rattle.split_rules.proofs.AddedStatements.{all_in}
use Rattle.split_rules.proofs.BackedLabels.{all_first, all_second}
use Rattle.split_rules.proofs.NumberedLists.{number_there}
use Rattle.split_rules.proofs.ReleasedBlocks.{IsThere, AreThere, program_tells}
use Rattle.split_rules.proofs.ReleasedRows.{Pass, Tells}
use Rattle.split_rules.proofs.SoundParts.{part_is}
use Rattle.split_rules.proofs.ToldRows.{IsFew, all_few}

-- ---- statements with their numbers

abbrev with_number : BlockTree → ℕ × BlockTree
with_number statement = ((number_of statement).0, statement)

-- those of a method, whose head does nothing
abbrev numbered_in : MethodTree → List (ℕ × BlockTree)
numbered_in method = (method.head.0, done) ∷ map with_number (all_statements method.body)

abbrev number_in : ℕ × BlockTree → ℕ
number_in pair = pair.0

abbrev statement_in : ℕ × BlockTree → BlockTree
statement_in pair = pair.1

block_numbers : (block : BlockTree) → map number_in (map with_number (all_statements block)) ≡ block_statements block
block_numbers done = refl
block_numbers (set_local heading x value rest) = ap (λ list. heading.id.0 ∷ list) (block_numbers rest)
block_numbers (set_field heading field value rest) = ap (λ list. heading.id.0 ∷ list) (block_numbers rest)
block_numbers (set_element heading field index value rest) = ap (λ list. heading.id.0 ∷ list) (block_numbers rest)
block_numbers (branch heading guard first second rest) =
    ap (λ list. heading.id.0 ∷ list)
    (three (all_statements first) (all_statements second) (all_statements rest)
    ∙ ap (λ list. list ++ shown (all_statements second) ++ shown (all_statements rest)) (block_numbers first)
    ∙ ap (λ list. block_statements first ++ list ++ shown (all_statements rest)) (block_numbers second)
    ∙ ap (λ list. block_statements first ++ block_statements second ++ list) (block_numbers rest))
  where
    shown : List BlockTree → List ℕ
    shown statements = map number_in (map with_number statements)

    two : (xs ys : List BlockTree) → shown (xs ++ ys) ≡ shown xs ++ shown ys
    two xs ys = ap (map number_in) (map-append with_number xs ys)
        ∙ map-append number_in (map with_number xs) (map with_number ys)

    three : (xs ys zs : List BlockTree) → shown (xs ++ (ys ++ zs)) ≡ shown xs ++ shown ys ++ shown zs
    three xs ys zs = two xs (ys ++ zs) ∙ ap (λ list. shown xs ++ list) (two ys zs)
        ∙ sym (append_assoc (shown xs) (shown ys) (shown zs))
block_numbers (loop heading guard inner rest) =
    ap (λ list. heading.id.0 ∷ list)
    (ap (map number_in) (map-append with_number (all_statements inner) (all_statements rest))
    ∙ map-append number_in (map with_number (all_statements inner)) (map with_number (all_statements rest))
    ∙ ap (λ list. list ++ map number_in (map with_number (all_statements rest))) (block_numbers inner)
    ∙ ap (λ list. block_statements inner ++ list) (block_numbers rest))
block_numbers (call heading site method arguments into rest) = ap (λ list. heading.id.0 ∷ list) (block_numbers rest)
block_numbers (give_back heading value rest) = ap (λ list. heading.id.0 ∷ list) (block_numbers rest)

without_number : (statements : List BlockTree) → map statement_in (map with_number statements) ≡ statements
without_number [] = refl
without_number (statement ∷ statements) = ap (λ list. statement ∷ list) (without_number statements)

abbrev numbers_in : MethodTree → List ℕ
numbers_in method = method.head.0 ∷ block_statements method.body

numbers_are : (methods : List MethodTree) →
    map number_in (flat_map numbered_in methods) ≡ flat_map numbers_in methods
numbers_are [] = refl
numbers_are (method ∷ methods) =
    ap (map number_in) (flat_map-cons numbered_in method methods)
    ∙ map-append number_in (numbered_in method) (flat_map numbered_in methods)
    ∙ ap (λ list. (method.head.0 ∷ list) ++ map number_in (flat_map numbered_in methods)) (block_numbers method.body)
    ∙ ap (λ list. numbers_in method ++ list) (numbers_are methods)
    ∙ sym (flat_map-cons numbers_in method methods)

statements_are : (methods : List MethodTree) →
    map statement_in (flat_map numbered_in methods) ≡ flat_map all_in methods
statements_are [] = refl
statements_are (method ∷ methods) =
    ap (map statement_in) (flat_map-cons numbered_in method methods)
    ∙ map-append statement_in (numbered_in method) (flat_map numbered_in methods)
    ∙ ap (λ list. (done ∷ list) ++ map statement_in (flat_map numbered_in methods))
    (without_number (all_statements method.body))
    ∙ ap (λ list. all_in method ++ list) (statements_are methods)
    ∙ sym (flat_map-cons all_in method methods)

-- ---- each is found by its number

all_of_places : {X : Type 0} (P : X → Type 0) (xs : List X) →
    ((place : ℕ) (x : X) → slice_get xs place ≡ Some x → P x) → AllByRecursion P xs
all_of_places P [] each = tt
all_of_places P (x ∷ xs) each = (each 0 x refl, all_of_places P xs (λ place y is. each (suc place) y is))

number_is_place : (pairs : List (ℕ × BlockTree)) → CountsFrom 0 (map number_in pairs) → (place : ℕ)
    (pair : ℕ × BlockTree) → slice_get pairs place ≡ Some pair → pair.0 ≡ place
number_is_place pairs counts place pair is =
    let numbers = map number_in pairs in
    let there : slice_get numbers place ≡ Some pair.0 = slice_get-map number_in pairs place ∙ ap (option_map number_in)
    is in
    let within = slice_get_within numbers place pair.0 there in
    let counted : slice_get numbers place ≡ Some place = ap (λ list. slice_get list place) counts
    ∙ number_there (length numbers) place within in
    let same : Some pair.0 ≡ Some place = sym there ∙ counted in
    ap (λ found. unwrap_or found 0) same

found_by_number : (program : ProgramTree) → CountsFrom 0 (statement_numbers program) →
    AllByRecursion (λ pair. unwrap_or (slice_get (statements_in program) pair.0) done ≡ pair.1)
    (flat_map numbered_in program.methods)
found_by_number program counts = all_of_places _ pairs found
  where
    pairs : List (ℕ × BlockTree)
    pairs = flat_map numbered_in program.methods

    counted : CountsFrom 0 (map number_in pairs)
    counted = subst (CountsFrom 0) (sym (numbers_are program.methods)) counts

    found : (place : ℕ) (pair : ℕ × BlockTree) → slice_get pairs place ≡ Some pair →
        unwrap_or (slice_get (statements_in program) pair.0) done ≡ pair.1
    found place pair is =
        let own : slice_get (statements_in program) place ≡ Some pair.1 =
        ap (λ list. slice_get list place) (sym (statements_are program.methods))
        ∙ slice_get-map statement_in pairs place ∙ ap (option_map statement_in) is in
        ap (λ at. unwrap_or (slice_get (statements_in program) at) done)
        (number_is_place pairs counted place pair is)
        ∙ ap (λ it. unwrap_or it done) own

of_mapped : {X Y : Type 0} (P : Y → Type 0) (f : X → Y) (xs : List X) → AllByRecursion P (map f xs) →
    AllByRecursion (λ x. P (f x)) xs
of_mapped P f [] all = tt
of_mapped P f (x ∷ xs) all = (all.0, of_mapped P f xs all.1)

methods_there : (pass : Pass) (methods : List MethodTree) →
    AllByRecursion (λ pair. unwrap_or (slice_get pass.statements pair.0) done ≡ pair.1)
    (flat_map numbered_in methods) → AllByRecursion (AreThere pass) methods
methods_there pass [] all = tt
methods_there pass (method ∷ methods) all =
    let P : ℕ × BlockTree → Type 0 = λ pair. unwrap_or (slice_get pass.statements pair.0) done ≡ pair.1 in
    let both = subst (AllByRecursion P) (flat_map-cons numbered_in method methods) all in (
      of_mapped P with_number (all_statements method.body)
          (all_first P (numbered_in method) (flat_map numbered_in methods) both).1,
      methods_there pass methods (all_second P (numbered_in method) (flat_map numbered_in methods) both),
    )

-- ---- the code

-- what a host's instructions are told to release is what they do
host_told : (placed : PlacedProgram) → IsSplittable placed → CountsFrom 0 (statement_numbers placed.labelled.program) →
    (host : HostId) → let emissions = program_emissions placed in
    rows_told (statements_in placed.labelled.program) []
    (part_on (code_labels placed.labelled emissions) emissions host) ≡ released_on emissions host
host_told placed splittable counts host =
    let emissions = program_emissions placed in
    let program = placed.labelled.program in
    let pass : Pass = record {
      statements = statements_in program;
      labels = code_labels placed.labelled emissions;
      all = emissions;
      host = host;
    } in
    let there = methods_there pass program.methods (found_by_number program counts) in
    let so = program_tells pass placed splittable.numbered.methods there in
    ap (rows_told pass.statements []) (sym (append-nil (part_on pass.labels emissions host)))
    ∙ so.rows [] ∙ append-nil (released_on emissions host)

same_below : {Y : Type 0} (f g : ℕ → Y) (first count : ℕ) → ((i : ℕ) → i < first + count → f i ≡ g i) →
    map f (range_with_len first count) ≡ map g (range_with_len first count)
same_below f g first zero each = refl
same_below f g first (suc count) each =
    ap (λ it. it ∷ map f (range_with_len (first + 1) count)) (each first (omega arith))
    ∙ ap (λ list. g first ∷ list) (same_below f g (first + 1) count (λ i within. each i (omega (arith, within))))

abbrev code_host : HostShape → CodeHostShape
code_host host = record { name = host.name; label = host.label }

-- one pass over the hosts by their numbers tells the table
pub code_told : (placed : PlacedProgram) → IsSplittable placed →
    CountsFrom 0 (statement_numbers placed.labelled.program) →
    parts_told (statements_in placed.labelled.program) (split_code placed) (length (split_code placed).hosts)
    ≡ releases_of placed
code_told placed splittable counts =
    let code = split_code placed in
    let statements = statements_in placed.labelled.program in
    let emissions = program_emissions placed in
    let planned = planned_from placed in
    let many : length code.hosts ≡ length placed.hosts.hosts =
    length-map placed.hosts.hosts (λ (host : HostShape). code_host host) in
    ap (parts_told statements code) many
    ∙ same_below (λ number. rows_told statements [] (part_of code (record { 0 = number })))
    (λ number. released_on emissions (record { 0 = number })) 0 (length placed.hosts.hosts)
    (λ number within. ap (rows_told statements [])
    (part_is placed.labelled placed.hosts planned emissions (record { 0 = number }) (omega (arith, within)))
    ∙ host_told placed splittable counts (record { 0 = number }))

-- and the statements have few nodes
pub program_few : (placed : PlacedProgram) → IsSplittable placed → All IsFew (statements_in placed.labelled.program)
program_few placed splittable = all_few placed.labelled.program.methods splittable.within.nodes

-- what the code is told to release by a program's statements
pub table_told : (placed : PlacedProgram) (labelled : Labelled) (code : CodeShape) (statements : List BlockTree) →
    placed.labelled ≡ labelled → IsSplittable placed → CountsFrom 0 (statement_numbers labelled.program) →
    code ≡ split_code placed → statements ≡ statements_in labelled.program →
    parts_told statements code (length code.hosts) ≡ releases_of placed
table_told placed labelled code statements labelled_is splittable counts code_is statements_are =
    let numbers : CountsFrom 0 (statement_numbers placed.labelled.program) =
    subst (λ (it : Labelled). CountsFrom 0 (statement_numbers it.program)) (sym labelled_is) counts in
    ap (λ list. parts_told list code (length code.hosts))
    (statements_are ∙ ap (λ (it : Labelled). statements_in it.program) (sym labelled_is))
    ∙ ap (λ (it : CodeShape). parts_told (statements_in placed.labelled.program) it (length it.hosts)) code_is
    ∙ code_told placed splittable numbers
