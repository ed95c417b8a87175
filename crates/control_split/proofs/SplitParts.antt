-- All parts of the code that is put together from a trace are those that are read off its emissions.
use Rattle.std.proofs.Common.{◌≡◌, ℕ, suc, ◌+◌, ◌<◌, ◌≤◌, List, [], ◌∷◌, map, length, take}
use Rattle.std.proofs.Common.{zero, Some, slice_get, unwrap_or, refl, sym, ap, ◌∙◌, subst, arith}
use Rattle.std.specs.List.{range_with_len, AllByRecursion}
use Rattle.std.proofs.lemmas.List.{ext_get_or, length-map, length-set, length-replicate, get_or-map, get_or-take}
use Rattle.std.proofs.lemmas.List.{length-take}
use Rattle.std.proofs.lemmas.List.FromFn.{get_or-map-range_with_len, length-map-range_with_len}
use Rattle.js_base.specs.declared.ids.HostId.{HostId}
use Rattle.label_lattice.specs.declared.label.Label.{Label}
use Rattle.host_code.specs.declared.instruction.Op.{Op}
use Rattle.host_code.specs.declared.instruction.Op.TheVariants as op
use Rattle.split_rules.specs.Emissions.{Emission, instruction, entry, stands, lands, NamedEntry, Counts, counts_after}
use Rattle.split_rules.specs.Emissions.{one_more_branch}
use Rattle.split_rules.specs.SplitCode.{entries_in, part_on, placed_entries}
use Rattle.control_split.specs.declared.parts.TheConstants.{HOST_NUMBERS}
use Rattle.control_split.specs.Assembly.{AssemblyShape, first_assembly, with_item, assembled}
use Rattle.control_split.specs.Assembly.{settled_part, settled_parts, settled_entries}
use Rattle.split_rules.specs.Settled.{AreSettled, IsOnSomeHost, IsOn, host_standing}
use Rattle.control_split.specs.Trace.{item_of}
use Rattle.control_split.proofs.Placing.{items_of, entries_after}
use Rattle.control_split.proofs.Whole.{no_instructions, assembly_from, settled_part_is, settled_from, HaveTheirs}

-- ---- parts

length_lists : (labels : List Label) (assembly : AssemblyShape) (emissions : List Emission) →
    length (assembled assembly (items_of labels emissions)).lists ≡ length assembly.lists
length_lists labels assembly [] = refl
length_lists labels assembly (instruction one ∷ others) =
    length_lists labels (with_item assembly (item_of labels (instruction one))) others
    ∙ length-set assembly.lists one.host.0 _
length_lists labels assembly (entry named ∷ others) =
    length_lists labels (with_item assembly (item_of labels (entry named))) others
length_lists labels assembly (stands on number ∷ others) =
    length_lists labels (with_item assembly (item_of labels (stands on number))) others
length_lists labels assembly (lands on number ∷ others) =
    length_lists labels (with_item assembly (item_of labels (lands on number))) others

-- what holds of few hosts holds of more
wider : (few many : ℕ) (emissions : List Emission) → few ≤ many → AllByRecursion (IsOnSomeHost few) emissions →
    AllByRecursion (IsOnSomeHost many) emissions
wider few many [] less within = within
wider few many (instruction one ∷ others) less within = (omega (arith, within.0), wider few many others less within.1)
wider few many (entry named ∷ others) less within = (omega (arith, within.0), wider few many others less within.1)
wider few many (stands on number ∷ others) less within = (omega (arith, within.0), wider few many others less within.1)
wider few many (lands on number ∷ others) less within = (omega (arith, within.0), wider few many others less within.1)

host_of : ℕ → HostId
host_of number = record { 0 = number }

pub parts_are : (counts : Counts) (labels : List Label) (emissions : List Emission) (hosts : ℕ) → hosts ≤ HOST_NUMBERS →
    AreSettled hosts counts.branches emissions →
    settled_parts (assembly_from counts labels emissions) hosts
    ≡ map (λ number. part_on labels emissions (record { 0 = number })) (range_with_len 0 hosts)
parts_are counts labels emissions hosts few settled =
    let assembly = assembly_from counts labels emissions in
    let part = settled_part assembly.landing in
    let within = wider hosts HOST_NUMBERS emissions few settled.within in
    let all = length_lists labels (first_assembly counts) emissions
    ∙ length-replicate HOST_NUMBERS no_instructions in
    let long : length (map part (take hosts assembly.lists)) ≡ hosts =
    length-map (take hosts assembly.lists) part ∙ length-take hosts assembly.lists ∙ omega (arith, all) in
    ext_get_or [] (map part (take hosts assembly.lists))
    (map (λ number. part_on labels emissions (record { 0 = number })) (range_with_len 0 hosts))
    (long ∙ sym (length-map-range_with_len (λ number. part_on labels emissions (record { 0 = number })) 0 hosts))
    (λ place inside.
    let below : place < hosts = rw long at inside in
    let there : place < HOST_NUMBERS = omega arith in
    get_or-map part (take hosts assembly.lists) place [] []
    (rw (length-map (take hosts assembly.lists) part) at inside)
    ∙ ap part (get_or-take hosts assembly.lists place [] below)
    ∙ settled_part_is counts labels emissions (record { 0 = place }) there within
    (settled.branches (record { 0 = place }))
    ∙ sym (get_or-map-range_with_len (λ number. part_on labels emissions (record { 0 = number })) 0 hosts place place []
    below (omega arith)))

-- ---- entries

-- what holds of each entry holds of all, from a number on
theirs_from : (emissions : List Emission) (number : ℕ) (named : List NamedEntry) →
    ((place : ℕ) (one : NamedEntry) → slice_get named place ≡ Some one →
    (one.host.0 < HOST_NUMBERS) × IsOn one.host (host_standing (number + place) emissions)) →
    HaveTheirs emissions number named
theirs_from emissions number [] each = tt
theirs_from emissions number (one ∷ others) each =
    let P : ℕ → Type 0 = λ place. IsOn one.host (host_standing place emissions) in (
      (each 0 one refl).0,
      subst P (omega arith) (each 0 one refl).1,
      theirs_from emissions (suc number) others (λ place other there.
          let Q : ℕ → Type 0 = λ at. IsOn other.host (host_standing at emissions) in
          let here = each (suc place) other there in
          (here.0, subst Q (omega arith) here.1)),
    )

-- an entry is on one of the hosts
entry_within : (count : ℕ) (emissions : List Emission) (place : ℕ) (one : NamedEntry) →
    AllByRecursion (IsOnSomeHost count) emissions → slice_get (entries_in emissions) place ≡ Some one →
    one.host.0 < count
entry_within count [] place one within there = absurd (grind (arith, there))
entry_within count (instruction other ∷ others) place one within there =
    entry_within count others place one within.1 there
entry_within count (stands on number ∷ others) place one within there =
    entry_within count others place one within.1 there
entry_within count (lands on number ∷ others) place one within there =
    entry_within count others place one within.1 there
entry_within count (entry named ∷ others) zero one within there =
    let same : named ≡ one = ap (λ found. unwrap_or found named) there in
    let P : NamedEntry → Type 0 = λ which. which.host.0 < count in
    subst P same within.0
entry_within count (entry named ∷ others) (suc place) one within there =
    entry_within count others place one within.1 there

pub entries_count : (counts : Counts) (emissions : List Emission) →
    (counts_after counts emissions).entries ≡ counts.entries + length (entries_in emissions)
entries_count counts [] = omega arith
entries_count counts (instruction one ∷ others) =
    entries_count (one_more_branch one.op counts) others ∙ ap (λ entries. entries + length (entries_in others))
    (same one.op)
  where
    same : (what : Op) → (one_more_branch what counts).entries ≡ counts.entries
    same (op.Branch guard number) = refl
    same (op.Read field index) = refl
    same (op.Let variable value) = refl
    same (op.Put field index value) = refl
    same (op.Send variable to) = refl
    same (op.Frame site) = refl
    same (op.Arg variable value) = refl
    same (op.Pass variable to) = refl
    same (op.Push number) = refl
    same (op.Ask number to) = refl
    same (op.Go number to) = refl
    same (op.Call number to) = refl
    same (op.Ret variable value) = refl
    same op.Back = refl
    same (op.GoWith number to riders) = refl
    same (op.CallWith number to riders) = refl
entries_count counts (entry named ∷ others) =
    entries_count (record { entries = suc counts.entries; branches = counts.branches }) others ∙ omega arith
entries_count counts (stands on number ∷ others) = entries_count counts others
entries_count counts (lands on number ∷ others) = entries_count counts others

pub entries_are : (counts : Counts) (labels : List Label) (emissions : List Emission) (hosts : ℕ) →
    hosts ≤ HOST_NUMBERS → counts.entries ≡ length (entries_in emissions) →
    AreSettled hosts counts.branches emissions →
    settled_entries (assembly_from counts labels emissions) 0 (assembly_from counts labels emissions).entries
    ≡ placed_entries labels emissions 0 (entries_in emissions)
entries_are counts labels emissions hosts few count settled =
    let within = wider hosts HOST_NUMBERS emissions few settled.within in
    ap (settled_entries (assembly_from counts labels emissions) 0)
    (entries_after labels (first_assembly counts) emissions)
    ∙ settled_from counts labels emissions 0 (entries_in emissions) (omega (arith, count)) within
    (theirs_from emissions 0 (entries_in emissions) (λ place one there. (
      entry_within HOST_NUMBERS emissions place one within there,
      (let P : ℕ → Type 0 = λ at. IsOn one.host (host_standing at emissions) in
          subst P (omega arith) (settled.entries place one there)),
    )))
