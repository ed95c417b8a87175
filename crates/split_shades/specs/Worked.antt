-- Small programs whose blocks have labels apart, and what they give.
use Rattle.std.specs.Prelude.{ℕ, List, [], ◌∷◌, map, true, false, None, pos, slice_set}
use Rattle.label_lattice.specs.declared.label.Label.{Label}
use Rattle.label_lattice.specs.Lattice.{free_rows}
use Rattle.jif_tree.specs.Trees.{ExprTree, number, scalar, element, declassified, BlockTree, done, set_field, branch}
use Rattle.jif_tree.specs.Trees.{loop}
use Rattle.host_code.specs.Code.{CodeShape}
use Rattle.msg_cost.specs.Moves.{PlannedShape}
use Rattle.split_rules.specs.Positions.{FieldRead, under}
use Rattle.split_rules.specs.SplitCode.{emitted_on, entries_in, code_of_emissions}
use Rattle.split_rules.specs.Worked.{host_id, field_id, heading, trusted_by, a_host, field_with, main_of, program_with}
use Rattle.split_rules.specs.Worked.{nobody, planned_for, placed_with, emissions_on}
use Rattle.split_shades.specs.Basis.{Basis}
use Rattle.split_shades.specs.Shades.{Shade, EntryShade}
use Rattle.split_shades.specs.Shading.{Scene}
use Rattle.split_shades.specs.Sites.{program_sites}

-- the label under which `main` begins, and that of its fields, which fewer principals trust
abbrev pub outer : Label
outer = trusted_by 3

abbrev pub guarding : Label
guarding = trusted_by 1

-- `main` on two hosts, each of which has one of two fields
abbrev pub apart : BlockTree → PlannedShape
apart body = planned_for
    (program_with (field_with guarding ∷ field_with guarding ∷ []) [] (record (main_of body) { begin = outer } ∷ []))
    (a_host 3 ∷ a_host 3 ∷ []) ((0 ∷ 1 ∷ []) ∷ (1 ∷ 0 ∷ []) ∷ []) (1 ∷ 1 ∷ 0 ∷ []) [] (host_id 0 ∷ host_id 1 ∷ [])
    (host_id 0 ∷ host_id 0 ∷ host_id 1 ∷ [])

-- the field of the other host is set
abbrev pub elsewhere : BlockTree
elsewhere = set_field (heading 2) (field_id 1) (number (pos 1)) done

-- `if (f) g = 1;`
abbrev pub branching : PlannedShape
branching = apart (branch (heading 1) (scalar (field_id 0)) elsewhere done done)

-- `while (f) g = 1;`
abbrev pub looping : PlannedShape
looping = apart (loop (heading 1) (scalar (field_id 0)) elsewhere done)

abbrev pub basis_on : PlannedShape → Basis
basis_on planned = record { principals = nobody; labelled = (placed_with planned []).labelled }

abbrev pub scene_on : PlannedShape → Scene
scene_on planned = record {
  basis = basis_on planned;
  planned = planned;
  sites = program_sites (basis_on planned);
  may_release = true;
}

abbrev pub code_on : PlannedShape → CodeShape
code_on planned =
    code_of_emissions (placed_with planned []).labelled planned.hosts planned (emissions_on planned)

-- the branch with the program labels of the head, of the branch and of what is inside
abbrev pub branching_basis : Basis
branching_basis = record {
  principals = nobody;
  labelled = record { program = branching.program; var_labels = []; pc = outer ∷ outer ∷ guarding ∷ [] };
}

-- the labels of the entries, and those of the instructions of a host, by the words of those who trust them
abbrev pub entry_words : PlannedShape → List ℕ
entry_words planned = map (λ named. named.label.trust) (entries_in (emissions_on planned))

abbrev pub instruction_words : PlannedShape → ℕ → List ℕ
instruction_words planned host = map (λ one. one.label.trust) (emitted_on (host_id host) (emissions_on planned))

-- an array with the label of `main`, beside a field that fewer principals trust
abbrev pub telling : PlannedShape
telling = planned_for
    (program_with (field_with guarding ∷ field_with outer ∷ []) [] (record (main_of done) { begin = outer } ∷ []))
    (a_host 3 ∷ []) ((0 ∷ []) ∷ []) (1 ∷ []) [] (host_id 0 ∷ host_id 0 ∷ []) (host_id 0 ∷ [])

-- `a[f]`, where `f` is that field
abbrev pub read_at : FieldRead
read_at = record { field = field_id 1; index = scalar (field_id 0) }

-- `a[..]`, and `declassify(f, {..})`
abbrev pub indexed_by : ExprTree → ExprTree
indexed_by index = element (field_id 1) index

abbrev pub released_field : ExprTree
released_field = declassified (scalar (field_id 0)) outer

-- ---- values that ride

-- trusted as `main`, but the first principal lets no other read it
abbrev pub secret : Label
secret = record outer { rows = slice_set free_rows 0 1 }

-- one variable has this label; the host may see what all may
abbrev pub scene_with : Label → Scene
scene_with label = record (scene_on telling) {
  basis = record { principals = nobody; labelled = (placed_with telling (label ∷ [])).labelled };
}

-- an instruction in a block of this program label; whose token is held does not matter here
abbrev pub shade_under : Label → Shade
shade_under pc = record {
  level = under 0;
  pc = pc;
  block = pc;
  guard = None;
  temps = [];
  calls = false;
  released = [];
}

-- an entry there
abbrev pub entry_under : Label → EntryShade
entry_under label = record { level = under 0; block = label; label = label; pushed = None; begun = None }
