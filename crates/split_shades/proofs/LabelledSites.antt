-- Each call site has the program label of its call, where sites are numbered in the order of the text.
use Rattle.std.proofs.Common.{◌≡◌, ℕ, suc, ◌+◌, List, [], ◌∷◌, ◌++◌, length, refl, ap, sym, subst, arith}
use Rattle.std.proofs.Common.{append_assoc, length-append}
use Rattle.std.specs.Prelude.{Some, ⊤, slice_get, get_or, drop}
use Rattle.std.specs.List.{AllByRecursion, flat_map, range_with_len}
use Rattle.label_lattice.specs.declared.label.Label.{Label}
use Rattle.label_lattice.specs.Lattice.{empty_label}
use Rattle.jif_tree.specs.LabelRules.{MethodSetting, setting_of, guarded}
use Rattle.jif_tree.specs.Numbering.{CountsFrom, block_sites, site_numbers}
use Rattle.jif_tree.specs.Trees.{BlockTree, done, set_local, set_field, set_element, branch, loop, call, give_back}
use Rattle.jif_tree.specs.Trees.{MethodTree}
use Rattle.need_labels.specs.Labelled.{Labelled, all_labels}
use Rattle.split_rules.proofs.WalkedMoves.{at_last}
use Rattle.split_rules.proofs.WalkedSites.{range_moved, in_three}
use Rattle.split_shades.specs.Basis.{Basis}
use Rattle.split_shades.specs.Sites.{site_labels, program_sites}
use Rattle.split_shades.proofs.ShadedBlocks.{AreSitesLabelled}

-- sites have these labels, one by one
abbrev HaveLabels : List Label → List ℕ → List Label → Type 0
HaveLabels sites [] [] = ⊤
HaveLabels sites [] (label ∷ labels) = ⊥
HaveLabels sites (number ∷ numbers) [] = ⊥
HaveLabels sites (number ∷ numbers) (label ∷ labels) =
    (slice_get sites number ≡ Some label) × HaveLabels sites numbers labels

-- ---- sites that count up

counted : (before labels : List Label) (numbers : List ℕ) → length numbers ≡ length labels →
    numbers ≡ range_with_len (length before) (length numbers) → HaveLabels (before ++ labels) numbers labels
counted before [] [] long is = tt
counted before [] (number ∷ numbers) long is = absurd (omega arith)
counted before (label ∷ labels) [] long is = absurd (omega arith)
counted before (label ∷ labels) (number ∷ numbers) long is =
    let P : ℕ → Type 0 = λ one. slice_get (before ++ label ∷ labels) one ≡ Some label in
    let Q : List Label → Type 0 = λ sites. HaveLabels sites numbers labels in
    let first : number ≡ length before = ap (λ (all : List ℕ). get_or all 0 0) is in
    let others : numbers ≡ range_with_len (length before + 1) (length numbers) = ap (drop 1) is in
    let next : length before + 1 ≡ length (before ++ label ∷ []) = rw length-append (omega arith) in (
      subst P (sym first) (at_last before label labels),
      subst Q (append_assoc before (label ∷ []) labels)
          (counted (before ++ label ∷ []) labels numbers (omega arith) (range_moved numbers _ _ next others)),
    )

-- ---- as many labels as sites

as_many : (labelled : Labelled) (setting : MethodSetting) (pc : Label) (block : BlockTree) →
    length (block_sites block) ≡ length (site_labels labelled setting pc block)
as_many labelled setting pc done = refl
as_many labelled setting pc (set_local heading x value rest) = as_many labelled setting pc rest
as_many labelled setting pc (set_field heading field value rest) = as_many labelled setting pc rest
as_many labelled setting pc (set_element heading field index value rest) = as_many labelled setting pc rest
as_many labelled setting pc (branch heading guard first second rest) =
    let inside = guarded setting pc (all_labels labelled) guard in
    let one = as_many labelled setting inside first in
    let two = as_many labelled setting inside second in
    let three = as_many labelled setting pc rest in
    simp length-append (omega arith)
as_many labelled setting pc (loop heading guard inner rest) =
    let inside = guarded setting pc (all_labels labelled) guard in
    let one = as_many labelled setting inside inner in
    let two = as_many labelled setting pc rest in
    simp length-append (omega arith)
as_many labelled setting pc (call heading site method arguments into rest) = ap suc (as_many labelled setting pc rest)
as_many labelled setting pc (give_back heading value rest) = as_many labelled setting pc rest

-- the labels of the calls of a method
abbrev method_sites : Basis → MethodTree → List Label
method_sites basis method = site_labels basis.labelled
    (setting_of basis.principals basis.labelled.program method) method.begin method.body

as_many_in_all : (basis : Basis) (methods : List MethodTree) →
    length (flat_map (λ method. block_sites method.body) methods) ≡ length (flat_map (method_sites basis) methods)
as_many_in_all basis [] = refl
as_many_in_all basis (method ∷ methods) =
    let one = as_many basis.labelled (setting_of basis.principals basis.labelled.program method) method.begin
    method.body in
    let two = as_many_in_all basis methods in
    simp length-append (omega arith)

-- ---- the sites of each block

block_first : (sites : List Label) (labelled : Labelled) (setting : MethodSetting) (pc : Label) (block : BlockTree)
    (numbers : List ℕ) (labels : List Label) →
    HaveLabels sites (block_sites block ++ numbers) (site_labels labelled setting pc block ++ labels) →
    AreSitesLabelled sites labelled setting pc block × HaveLabels sites numbers labels
block_first sites labelled setting pc done numbers labels have = (tt, have)
block_first sites labelled setting pc (set_local heading x value rest) numbers labels have =
    block_first sites labelled setting pc rest numbers labels have
block_first sites labelled setting pc (set_field heading field value rest) numbers labels have =
    block_first sites labelled setting pc rest numbers labels have
block_first sites labelled setting pc (set_element heading field index value rest) numbers labels have =
    block_first sites labelled setting pc rest numbers labels have
block_first sites labelled setting pc (branch heading guard first second rest) numbers labels have =
    let inside = guarded setting pc (all_labels labelled) guard in
    let own_one = site_labels labelled setting inside first in
    let own_two = site_labels labelled setting inside second in
    let own_three = site_labels labelled setting pc rest in
    let P : List ℕ → Type 0 = λ all. HaveLabels sites all (own_one ++ own_two ++ own_three ++ labels) in
    let Q : List Label → Type 0 = λ all. HaveLabels sites
    (block_sites first ++ (block_sites second ++ (block_sites rest ++ numbers))) all in
    let apart = subst Q (in_three own_one own_two own_three labels)
    (subst P (in_three (block_sites first) (block_sites second) (block_sites rest) numbers) have) in
    let one = block_first sites labelled setting inside first (block_sites second ++ (block_sites rest ++ numbers))
    (own_two ++ (own_three ++ labels)) apart in
    let two = block_first sites labelled setting inside second (block_sites rest ++ numbers) (own_three ++ labels)
    one.1 in
    let three = block_first sites labelled setting pc rest numbers labels two.1 in
    ((one.0, two.0, three.0), three.1)
block_first sites labelled setting pc (loop heading guard inner rest) numbers labels have =
    let inside = guarded setting pc (all_labels labelled) guard in
    let own_one = site_labels labelled setting inside inner in
    let own_two = site_labels labelled setting pc rest in
    let P : List ℕ → Type 0 = λ all. HaveLabels sites all (own_one ++ own_two ++ labels) in
    let Q : List Label → Type 0 = λ all. HaveLabels sites (block_sites inner ++ (block_sites rest ++ numbers)) all in
    let apart = subst Q (append_assoc own_one own_two labels)
    (subst P (append_assoc (block_sites inner) (block_sites rest) numbers) have) in
    let one = block_first sites labelled setting inside inner (block_sites rest ++ numbers) (own_two ++ labels) apart in
    let two = block_first sites labelled setting pc rest numbers labels one.1 in
    ((one.0, two.0), two.1)
block_first sites labelled setting pc (call heading site method arguments into rest) numbers labels have =
    let behind = block_first sites labelled setting pc rest numbers labels have.1 in
    ((have.0, behind.0), behind.1)
block_first sites labelled setting pc (give_back heading value rest) numbers labels have =
    block_first sites labelled setting pc rest numbers labels have

abbrev pub MethodSitesLabelled : List Label → Basis → MethodTree → Type 0
MethodSitesLabelled sites basis method = AreSitesLabelled sites basis.labelled
    (setting_of basis.principals basis.labelled.program method) method.begin method.body

methods_first : (sites : List Label) (basis : Basis) (methods : List MethodTree) →
    HaveLabels sites (flat_map (λ method. block_sites method.body) methods) (flat_map (method_sites basis) methods) →
    AllByRecursion (MethodSitesLabelled sites basis) methods
methods_first sites basis [] have = tt
methods_first sites basis (method ∷ methods) have =
    let both = block_first sites basis.labelled (setting_of basis.principals basis.labelled.program method) method.begin
    method.body (flat_map (λ one. block_sites one.body) methods) (flat_map (method_sites basis) methods) have in
    (both.0, methods_first sites basis methods both.1)

pub sites_labelled : (basis : Basis) → CountsFrom 1 (site_numbers basis.labelled.program) →
    AllByRecursion (MethodSitesLabelled (program_sites basis) basis) basis.labelled.program.methods
sites_labelled basis counts =
    let methods = basis.labelled.program.methods in
    methods_first (program_sites basis) basis methods
    (counted (empty_label ∷ []) (flat_map (method_sites basis) methods) (site_numbers basis.labelled.program)
    (as_many_in_all basis methods) counts)
