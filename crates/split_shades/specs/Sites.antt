-- What is asked of the calls and the values of a program: under which program labels its calls stand, by their sites,
-- and that no value is released.
use Rattle.std.specs.Prelude.{◌≡◌, Bool, false, List, [], ◌∷◌, ◌++◌, ⊤}
use Rattle.std.specs.List.{AllByRecursion, flat_map}
use Rattle.label_lattice.specs.declared.label.Label.{Label}
use Rattle.label_lattice.specs.Lattice.{empty_label}
use Rattle.jif_tree.specs.Trees.{ExprTree, BlockTree, done, set_local, set_field, set_element, branch, loop, call}
use Rattle.jif_tree.specs.Trees.{give_back, ProgramTree}
use Rattle.jif_tree.specs.LabelRules.{MethodSetting, setting_of, guarded}
use Rattle.need_labels.specs.Labelled.{Labelled, all_labels}
use Rattle.need_labels.specs.Needs.{releases}
use Rattle.split_shades.specs.Basis.{Basis}
use Rattle.split_shades.specs.Shading.{Scene}
use Rattle.split_rules.specs.Placed.{PlacedProgram, planned_from}

-- ---- sites

-- the program labels of the calls of a block, with those in the blocks inside it, in the order of their sites
abbrev pub site_labels : Labelled → MethodSetting → Label → BlockTree → List Label
site_labels labelled setting pc done = []
site_labels labelled setting pc (set_local heading x value rest) = site_labels labelled setting pc rest
site_labels labelled setting pc (set_field heading field value rest) = site_labels labelled setting pc rest
site_labels labelled setting pc (set_element heading field index value rest) = site_labels labelled setting pc rest
site_labels labelled setting pc (branch heading guard first second rest) =
    let inside = guarded setting pc (all_labels labelled) guard in
    site_labels labelled setting inside first ++ site_labels labelled setting inside second
    ++ site_labels labelled setting pc rest
site_labels labelled setting pc (loop heading guard inner rest) =
    let inside = guarded setting pc (all_labels labelled) guard in
    site_labels labelled setting inside inner ++ site_labels labelled setting pc rest
site_labels labelled setting pc (call heading site method arguments into rest) =
    pc ∷ site_labels labelled setting pc rest
site_labels labelled setting pc (give_back heading value rest) = site_labels labelled setting pc rest

-- those of a program; sites count from 1, and what stands before them is of no call
abbrev pub program_sites : Basis → List Label
program_sites basis = empty_label ∷ flat_map
    (λ method. site_labels basis.labelled (setting_of basis.principals basis.labelled.program method) method.begin
    method.body) basis.labelled.program.methods

-- ---- releases

abbrev pub IsKeptBack : ExprTree → Type 0
IsKeptBack value = releases value ≡ false

-- no statement of a block releases anything
abbrev pub IsSilentBlock : BlockTree → Type 0
IsSilentBlock done = ⊤
IsSilentBlock (set_local heading x value rest) = IsKeptBack value × IsSilentBlock rest
IsSilentBlock (set_field heading field value rest) = IsKeptBack value × IsSilentBlock rest
IsSilentBlock (set_element heading field index value rest) =
    IsKeptBack index × IsKeptBack value × IsSilentBlock rest
IsSilentBlock (branch heading guard first second rest) =
    IsKeptBack guard × IsSilentBlock first × IsSilentBlock second × IsSilentBlock rest
IsSilentBlock (loop heading guard inner rest) = IsKeptBack guard × IsSilentBlock inner × IsSilentBlock rest
IsSilentBlock (call heading site method arguments into rest) =
    AllByRecursion IsKeptBack arguments × IsSilentBlock rest
IsSilentBlock (give_back heading value rest) = IsKeptBack value × IsSilentBlock rest

abbrev pub ReleasesNothing : ProgramTree → Type 0
ReleasesNothing program = AllByRecursion (λ method. IsSilentBlock method.body) program.methods

-- ---- programs

-- a program that is split by a plan, and whether it may release anything
abbrev pub scene_of : PlacedProgram → Bool → Scene
scene_of placed may_release =
    let basis : Basis = record { principals = placed.hosts.principals; labelled = placed.labelled } in
    record {
      basis = basis;
      planned = planned_from placed;
      sites = program_sites basis;
      may_release = may_release;
    }
