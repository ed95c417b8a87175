-- The code that is put together is the one that is read off the emissions.
use Rattle.std.proofs.Common.{◌≡◌, ℕ, suc, ◌+◌, ◌<◌, inl, inr, List, [], ◌∷◌, ◌++◌, All, map, length, replicate}
use Rattle.std.proofs.Common.{Option, Some, None, option_map, unwrap_or, refl, sym, ap, ◌∙◌, arith}
use Rattle.std.specs.Prelude.{⊤}
use Rattle.std.specs.List.{AllByRecursion}
use Rattle.std.proofs.lemmas.List.{get_or-replicate, get_or_default, length-replicate, length-map}
use Rattle.std.proofs.lemmas.List.Elements.{All-head, All-tail}
use Rattle.std.proofs.lemmas.Bool.Decides.{eqb_tells}
use Rattle.js_base.specs.declared.ids.HostId.{HostId}
use Rattle.label_lattice.specs.declared.label.Label.{Label}
use Rattle.host_code.specs.declared.instruction.Instr.{Instr}
use Rattle.host_code.specs.declared.instruction.Op.{Op}
use Rattle.host_code.specs.declared.instruction.Op.TheVariants as op
use Rattle.control_split.specs.declared.parts.TheConstants.{HOST_NUMBERS}
use Rattle.split_rules.specs.Emissions.{Emission, instruction, entry, stands, lands, Emitted, NamedEntry, Counts}
use Rattle.split_rules.specs.SplitCode.{emitted_on, before_entry, before_landing, label_place}
use Rattle.split_rules.specs.SplitCode.{placed_instruction, part_on, placed_entries, landed}
use Rattle.control_split.specs.Assembly.{AssemblyShape, first_assembly, list_on, assembled, noted_place}
use Rattle.control_split.specs.Assembly.{settled_entries, settled_instruction, settled_part}
use Rattle.control_split.specs.Assembly.{settled_operation}
use Rattle.split_rules.specs.Settled.{host_standing, host_landing, IsOnSomeHost, IsOn, BranchIsOn}
use Rattle.control_split.proofs.Placing.{raw_instruction, raw_entry, items_of, lists_after, settle}
use Rattle.control_split.proofs.Standing.{standing_place, landing_place, standing_after, landing_after}
use Rattle.control_split.proofs.Standing.{length_standing, length_landing}

pub none_before_entry : (number : ℕ) (emissions : List Emission) → host_standing number emissions ≡ None →
    before_entry number emissions ≡ emissions
none_before_entry number [] none = refl
none_before_entry number (instruction one ∷ others) none =
    ap (λ rest. instruction one ∷ rest) (none_before_entry number others none)
none_before_entry number (entry named ∷ others) none =
    ap (λ rest. entry named ∷ rest) (none_before_entry number others none)
none_before_entry number (lands on other ∷ others) none =
    ap (λ rest. lands on other ∷ rest) (none_before_entry number others none)
none_before_entry number (stands on other ∷ others) none = elim (eqb_tells other number) [
  | inl same ↦ absurd (grind (arith, rw same.0 at none))
  | inr apart ↦ rw apart.0
      (ap (λ rest. stands on other ∷ rest) (none_before_entry number others (rw apart.0 at none)))
]

none_before_landing : (number : ℕ) (emissions : List Emission) → host_landing number emissions ≡ None →
    before_landing number emissions ≡ emissions
none_before_landing number [] none = refl
none_before_landing number (instruction one ∷ others) none =
    ap (λ rest. instruction one ∷ rest) (none_before_landing number others none)
none_before_landing number (entry named ∷ others) none =
    ap (λ rest. entry named ∷ rest) (none_before_landing number others none)
none_before_landing number (stands on other ∷ others) none =
    ap (λ rest. stands on other ∷ rest) (none_before_landing number others none)
none_before_landing number (lands on other ∷ others) none = elim (eqb_tells other number) [
  | inl same ↦ absurd (grind (arith, rw same.0 at none))
  | inr apart ↦ rw apart.0
      (ap (λ rest. lands on other ∷ rest) (none_before_landing number others (rw apart.0 at none)))
]

-- ---- where an entry stands

abbrev pub no_instructions : List Instr
no_instructions = []

abbrev no_place : Option ℕ
no_place = None

-- hosts have no instructions at first
abbrev no_lists : List (List Instr)
no_lists = replicate HOST_NUMBERS []

nothing_first : (host : HostId) → host.0 < HOST_NUMBERS → list_on no_lists host ≡ []
nothing_first host within = get_or-replicate HOST_NUMBERS host.0 [] [] within

-- an entry stands behind what its host was given before, and where it stands nowhere behind all
entry_at : (number : ℕ) (emissions : List Emission) (host : HostId) → host.0 < HOST_NUMBERS →
    IsOn host (host_standing number emissions) →
    unwrap_or (standing_place no_lists number emissions) (length (emitted_on host emissions))
    ≡ length (emitted_on host (before_entry number emissions))
entry_at number emissions host within on = placed (host_standing number emissions) refl on
  where
    placed : (there : Option HostId) → there ≡ host_standing number emissions → IsOn host there →
        unwrap_or (option_map (λ on. length (list_on no_lists on) + length
        (emitted_on on (before_entry number emissions)))
        there) (length (emitted_on host emissions))
        ≡ length (emitted_on host (before_entry number emissions))
    placed None is here = ap (λ before. length (emitted_on host before))
        (sym (none_before_entry number emissions (sym is)))
    placed (Some other) is here =
        rw (here, nothing_first host within) (omega arith)

branch_at : (number : ℕ) (emissions : List Emission) (host : HostId) → host.0 < HOST_NUMBERS →
    IsOn host (host_landing number emissions) →
    unwrap_or (landing_place no_lists number emissions) (length (emitted_on host emissions))
    ≡ length (emitted_on host (before_landing number emissions))
branch_at number emissions host within on = placed (host_landing number emissions) refl on
  where
    placed : (there : Option HostId) → there ≡ host_landing number emissions → IsOn host there →
        unwrap_or (option_map (λ on. length (list_on no_lists on) + length
        (emitted_on on (before_landing number emissions)))
        there) (length (emitted_on host emissions))
        ≡ length (emitted_on host (before_landing number emissions))
    placed None is here =
        ap (λ before. length (emitted_on host before)) (sym (none_before_landing number emissions (sym is)))
    placed (Some other) is here =
        rw (here, nothing_first host within) (omega arith)

-- ---- what is put together from nothing

abbrev pub assembly_from : Counts → List Label → List Emission → AssemblyShape
assembly_from counts labels emissions = assembled (first_assembly counts) (items_of labels emissions)

first_count : (counts : Counts) → length (first_assembly counts).lists ≡ HOST_NUMBERS
first_count counts = length-replicate HOST_NUMBERS no_instructions

final_list : (counts : Counts) (labels : List Label) (emissions : List Emission) (host : HostId) →
    host.0 < HOST_NUMBERS → AllByRecursion (IsOnSomeHost HOST_NUMBERS) emissions →
    list_on (assembly_from counts labels emissions).lists host
    ≡ map (raw_instruction labels) (emitted_on host emissions)
final_list counts labels emissions host there within =
    lists_after labels (first_assembly counts) emissions host (first_count counts) within
    ∙ ap (λ first. first ++ map (raw_instruction labels) (emitted_on host emissions)) (nothing_first host there)

-- what is noted for an entry that is there is where it stands
noted_entry : (counts : Counts) (labels : List Label) (emissions : List Emission) (number end : ℕ) →
    number < counts.entries → AllByRecursion (IsOnSomeHost HOST_NUMBERS) emissions →
    noted_place (assembly_from counts labels emissions).standing number end
    ≡ unwrap_or (standing_place no_lists number emissions) end
noted_entry counts labels emissions number end there within =
    let first = first_assembly counts in
    let known : number < length first.standing = rw (length-replicate counts.entries no_place) there in
    let inside : number < length (assembly_from counts labels emissions).standing =
    rw (length_standing labels first emissions) known in
    ap (λ place. unwrap_or place end)
    (get_or_default (assembly_from counts labels emissions).standing number None (Some 0) inside
    ∙ standing_after labels first emissions number known (first_count counts) within
    ∙ ap (λ before. settle before (standing_place no_lists number emissions))
    (get_or-replicate counts.entries number None (Some 0) there))

noted_branch : (counts : Counts) (labels : List Label) (emissions : List Emission) (number end : ℕ) →
    number < counts.branches → AllByRecursion (IsOnSomeHost HOST_NUMBERS) emissions →
    noted_place (assembly_from counts labels emissions).landing number end
    ≡ unwrap_or (landing_place no_lists number emissions) end
noted_branch counts labels emissions number end there within =
    let first = first_assembly counts in
    let known : number < length first.landing = rw (length-replicate counts.branches no_place) there in
    let inside : number < length (assembly_from counts labels emissions).landing =
    rw (length_landing labels first emissions) known in
    ap (λ place. unwrap_or place end)
    (get_or_default (assembly_from counts labels emissions).landing number None (Some 0) inside
    ∙ landing_after labels first emissions number known (first_count counts) within
    ∙ ap (λ before. settle before (landing_place no_lists number emissions))
    (get_or-replicate counts.branches number None (Some 0) there))

-- ---- entries

-- each entry has its place
abbrev pub HaveTheirs : List Emission → ℕ → List NamedEntry → Type 0
HaveTheirs emissions number [] = ⊤
HaveTheirs emissions number (named ∷ others) =
    (named.host.0 < HOST_NUMBERS) × IsOn named.host (host_standing number emissions)
    × HaveTheirs emissions (suc number) others

pub settled_from : (counts : Counts) (labels : List Label) (emissions : List Emission) (number : ℕ)
    (named : List NamedEntry) →
    number + length named ≡ counts.entries → AllByRecursion (IsOnSomeHost HOST_NUMBERS) emissions →
    HaveTheirs emissions number named →
    settled_entries (assembly_from counts labels emissions) number (map (raw_entry labels) named)
    ≡ placed_entries labels emissions number named
settled_from counts labels emissions number [] count within theirs = refl
settled_from counts labels emissions number (one ∷ others) count within theirs =
    let there : number < counts.entries = omega arith in
    let end = length (list_on (assembly_from counts labels emissions).lists one.host) in
    let list = final_list counts labels emissions one.host theirs.0 within in
    let length_is : end ≡ length (emitted_on one.host emissions) =
    ap length list ∙ length-map (emitted_on one.host emissions) (raw_instruction labels) in
    let at = noted_entry counts labels emissions number end there within
    ∙ ap (unwrap_or (standing_place no_lists number emissions)) length_is
    ∙ entry_at number emissions one.host theirs.0 theirs.1 in
    rw (at, settled_from counts labels emissions (suc number) others (omega arith) within theirs.2) refl

-- ---- instructions

settled_one : (counts : Counts) (labels : List Label) (emissions : List Emission) (host : HostId) (one : Emitted) →
    host.0 < HOST_NUMBERS → AllByRecursion (IsOnSomeHost HOST_NUMBERS) emissions → one.host ≡ host →
    BranchIsOn counts.branches emissions host one.op →
    settled_instruction (assembly_from counts labels emissions).landing (length (emitted_on host emissions))
    (raw_instruction labels one) ≡ placed_instruction labels emissions one
settled_one counts labels emissions host one there within same on =
    ap (λ (what : Op). record {
      label = label_place 0 one.label labels;
      statement = one.statement;
      op = what;
    }) (operation one.op on)
  where
    operation : (what : Op) → BranchIsOn counts.branches emissions host what →
        settled_operation (assembly_from counts labels emissions).landing (length (emitted_on host emissions)) what
        ≡ landed one.host emissions what
    operation (op.Branch guard number) on =
        rw same (ap (λ place. op.Branch guard place)
        (noted_branch counts labels emissions number (length (emitted_on host emissions)) on.0 within
        ∙ branch_at number emissions host there on.1))
    operation (op.Read field index) on = refl
    operation (op.Let variable value) on = refl
    operation (op.Put field index value) on = refl
    operation (op.Send variable to) on = refl
    operation (op.Frame site) on = refl
    operation (op.Arg variable value) on = refl
    operation (op.Pass variable to) on = refl
    operation (op.Push number) on = refl
    operation (op.Ask number to) on = refl
    operation (op.Go number to) on = refl
    operation (op.Call number to) on = refl
    operation (op.Ret variable value) on = refl
    operation op.Back on = refl
    operation (op.GoWith number to riders) on = refl
    operation (op.CallWith number to riders) on = refl

settled_list : (counts : Counts) (labels : List Label) (emissions : List Emission) (host : HostId) (count : ℕ)
    (list : List Emitted) → count ≡ length (emitted_on host emissions) → host.0 < HOST_NUMBERS →
    AllByRecursion (IsOnSomeHost HOST_NUMBERS) emissions →
    All (λ one. (one.host ≡ host) × BranchIsOn counts.branches emissions host one.op) list →
    map (settled_instruction (assembly_from counts labels emissions).landing count)
    (map (raw_instruction labels) list) ≡ map (placed_instruction labels emissions) list
settled_list counts labels emissions host count [] is there within each = refl
settled_list counts labels emissions host count (one ∷ others) is there within each =
    let P : Emitted → Type 0 = λ each_one. (each_one.host ≡ host)
    × BranchIsOn counts.branches emissions host each_one.op in
    let first = All-head P one others each in
    let one_is = ap (λ end. settled_instruction (assembly_from counts labels emissions).landing end
    (raw_instruction labels one)) is
    ∙ settled_one counts labels emissions host one there within first.0 first.1 in
    rw (one_is, settled_list counts labels emissions host count others is there within (All-tail P one others each))
    refl

-- the part of a host
pub settled_part_is : (counts : Counts) (labels : List Label) (emissions : List Emission) (host : HostId) →
    host.0 < HOST_NUMBERS → AllByRecursion (IsOnSomeHost HOST_NUMBERS) emissions →
    All (λ one. (one.host ≡ host) × BranchIsOn counts.branches emissions host one.op) (emitted_on host emissions) →
    settled_part (assembly_from counts labels emissions).landing
    (list_on (assembly_from counts labels emissions).lists host) ≡ part_on labels emissions host
settled_part_is counts labels emissions host there within each =
    ap (settled_part (assembly_from counts labels emissions).landing)
    (final_list counts labels emissions host there within)
    ∙ settled_list counts labels emissions host (length (map (raw_instruction labels) (emitted_on host emissions)))
    (emitted_on host emissions) (length-map (emitted_on host emissions) (raw_instruction labels)) there within each
