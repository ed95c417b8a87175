-- Each part of the code that is read off a walk fits.
use Rattle.std.proofs.Common.{◌≡◌, ◌∙◌, ℕ, suc, ◌+◌, ◌-◌, ◌<◌, ◌⊎◌, inl, inr, Bool, true, List}
use Rattle.std.proofs.Common.{[], ◌∷◌, ◌++◌, map, length, Some, slice_get, refl, ap, sym, subst, arith}
use Rattle.std.proofs.Common.{option_map, IsSomeAnd, ◌&&◌, ◌==◌}
use Rattle.std.specs.Prelude.{unwrap_or}
use Rattle.std.specs.List.{range_with_len}
use Rattle.std.proofs.lemmas.List.{length-map}
use Rattle.std.proofs.lemmas.List.Folds.{Any-from_list_any}
use Rattle.std.proofs.lemmas.Bool.{and_parts}
use Rattle.std.proofs.lemmas.Bool.Decides.{eqb_tells}
use Rattle.std.proofs.lemmas.Option.{slice_get-map, slice_get_read}
use Rattle.js_base.specs.declared.ids.HostId.{HostId}
use Rattle.label_lattice.specs.declared.label.Label.{Label}
use Rattle.host_decl.specs.Hosts.{HostsShape}
use Rattle.jif_tree.specs.Trees.{MethodTree}
use Rattle.host_code.specs.declared.code.Entry.{Entry}
use Rattle.host_code.specs.declared.instruction.Instr.{Instr}
use Rattle.host_code.specs.declared.instruction.Op.{Op}
use Rattle.host_code.specs.declared.instruction.Op.TheVariants as op
use Rattle.host_code.specs.Code.{CodeShape, part_of}
use Rattle.host_code.specs.Sound.{IsLeaving}
use Rattle.need_labels.specs.Labelled.{Labelled}
use Rattle.msg_cost.specs.Moves.{PlannedShape}
use Rattle.split_rules.specs.Emissions.{Emission, Emitted, NamedEntry}
use Rattle.split_rules.specs.SplitCode.{emitted_on, entries_in, before_entry, landed, placed_instruction}
use Rattle.split_rules.specs.SplitCode.{part_on, placed_entries, code_labels}
use Rattle.split_rules.specs.SplitCode.{code_of_emissions}
use Rattle.split_rules.specs.Flow.{State}
use Rattle.split_rules.proofs.Places.{same_host, emitted_append}
use Rattle.split_rules.proofs.Pendings.{of_entries}
use Rattle.split_rules.proofs.Standing.{Placed, LeavesLast}
use Rattle.split_rules.proofs.Temporaries.{HasEntrances}
use Rattle.split_rules.proofs.NumberedLists.{numbered_at, made, number_there}
use Rattle.split_rules.proofs.CodeItems.{code_entry, entries_numbered}
use Rattle.split_rules.proofs.Fronts.{front_of, front_emitted}
use Rattle.split_rules.proofs.Fronts.{IsWalk, all_stand}

-- all that is given for a program, and the code read off it
abbrev pub given : Labelled → PlannedShape → MethodTree → List Emission → List Emission
given labelled planned main emissions = front_of planned main labelled.program.methods ++ emissions

abbrev pub code_given : Labelled → HostsShape → PlannedShape → MethodTree → List Emission → CodeShape
code_given labelled hosts planned main emissions =
    code_of_emissions labelled hosts planned (given labelled planned main emissions)

-- ---- the last instruction

leaving_landed : (host : HostId) (emissions : List Emission) (what : Op) → IsLeaving what →
    IsLeaving (landed host emissions what)
leaving_landed host emissions (op.Branch guard number) leaving = leaving
leaving_landed host emissions other leaving = leaving

abbrev pub EndsLeaving : List Instr → Type 0
EndsLeaving part =
    (part ≡ []) ⊎ IsSomeAnd (slice_get part (length part - 1)) (λ last. IsLeaving last.op)

leaving_more : (first next : Instr) (others : List Instr) → EndsLeaving (next ∷ others) →
    EndsLeaving (first ∷ next ∷ others)
leaving_more first next others (inl none) = absurd (cc)
leaving_more first next others (inr so) =
    let P : ℕ → Type 0 = λ place. IsSomeAnd (slice_get (first ∷ next ∷ others) place) (λ last. IsLeaving last.op) in
    let same : suc (length (next ∷ others) - 1) ≡ length (first ∷ next ∷ others) - 1 = omega arith in
    inr (subst P same so)

pub ends_leaving : (labels : List Label) (emissions : List Emission) (emitted : List Emitted) → LeavesLast emitted →
    EndsLeaving (map (placed_instruction labels emissions) emitted)
ends_leaving labels emissions [] leaves = inl refl
ends_leaving labels emissions (one ∷ []) leaves = inr (leaving_landed one.host emissions one.op leaves)
ends_leaving labels emissions (one ∷ next ∷ others) leaves =
    leaving_more (placed_instruction labels emissions one) (placed_instruction labels emissions next)
    (map (placed_instruction labels emissions) others) (ends_leaving labels emissions (next ∷ others) leaves)

-- ---- parts

pub given_emitted : (host : HostId) (labelled : Labelled) (planned : PlannedShape) (main : MethodTree)
    (emissions : List Emission) →
    emitted_on host (given labelled planned main emissions) ≡ emitted_on host emissions
given_emitted host labelled planned main emissions =
    emitted_append host (front_of planned main labelled.program.methods) emissions
    ∙ ap (λ list. list ++ emitted_on host emissions) (front_emitted host planned main labelled.program.methods)

pub part_is : (labelled : Labelled) (hosts : HostsShape) (planned : PlannedShape) (emissions : List Emission)
    (host : HostId) → host.0 < length hosts.hosts →
    part_of (code_of_emissions labelled hosts planned emissions) host
    ≡ part_on (code_labels labelled emissions) emissions host
part_is labelled hosts planned emissions host within =
    let labels = code_labels labelled emissions in
    let make : ℕ → List Instr = λ number. part_on labels emissions (record { 0 = number }) in
    ap (λ there. unwrap_or there []) (slice_get-map make (range_with_len 0 (length hosts.hosts)) host.0
    ∙ ap (option_map make) (number_there (length hosts.hosts) host.0 within))

pub long_part : (labelled : Labelled) (hosts : HostsShape) (planned : PlannedShape) (emissions : List Emission)
    (host : HostId) → host.0 < length hosts.hosts →
    length (part_of (code_of_emissions labelled hosts planned emissions) host) ≡ length (emitted_on host emissions)
long_part labelled hosts planned emissions host within =
    ap length (part_is labelled hosts planned emissions host within)
    ∙ length-map (emitted_on host emissions) (placed_instruction (code_labels labelled emissions) emissions)

-- ---- entries

-- an entry of the code, by what it is made of
pub entry_made : (labels : List Label) (emissions : List Emission) (place : ℕ) (there : Entry) →
    slice_get (placed_entries labels emissions 0 (entries_in emissions)) place ≡ Some there →
    (named : NamedEntry) × (slice_get (entries_in emissions) place ≡ Some named)
    × (there ≡ code_entry labels emissions place named)
entry_made labels emissions place there is =
    let so = made (code_entry labels emissions) (entries_in emissions) place there
    (ap (λ list. slice_get list place) (sym (entries_numbered labels emissions 0 (entries_in emissions))) ∙ is) in
    (so.of, so.there, so.is)

pub entry_there : (labels : List Label) (emissions : List Emission) (place : ℕ) (named : NamedEntry) →
    slice_get (entries_in emissions) place ≡ Some named →
    slice_get (placed_entries labels emissions 0 (entries_in emissions)) place
    ≡ Some (code_entry labels emissions place named)
entry_there labels emissions place named is =
    let sum : 0 + place ≡ place = omega arith in
    ap (λ list. slice_get list place) (entries_numbered labels emissions 0 (entries_in emissions))
    ∙ numbered_at (code_entry labels emissions) 0 (entries_in emissions) place named is
    ∙ ap (λ at. Some (code_entry labels emissions at named)) sum

equal_of : (one other : ℕ) → (one == other) ≡ true → one ≡ other
equal_of one other same = elim (eqb_tells one other) [
  | inl so ↦ so.1
  | inr not_so ↦ let never = not_so.0 in absurd (cc)
]

pub entrances : (labelled : Labelled) (hosts : HostsShape) (planned : PlannedShape) (main : MethodTree)
    (emissions : List Emission) (last : State) (labels : List Label) (host : HostId) →
    IsWalk labelled hosts planned main emissions last →
    HasEntrances host (given labelled planned main emissions)
    (placed_entries labels (given labelled planned main emissions) 0
    (entries_in (given labelled planned main emissions)))
entrances labelled hosts planned main emissions last labels host walk spot enters =
    let all = given labelled planned main emissions in
    let entries = placed_entries labels all 0 (entries_in all) in
    let test : Entry → Bool = λ one. one.host.0 == host.0 && one.at == spot in
    let some = Any-from_list_any test entries enters in
    let there = slice_get_read entries (length entries) some.0 some.1 refl some.2 (sym some.3) in
    let so = entry_made labels all some.0 some.1 there in
    let both = and_parts (some.1.host.0 == host.0) (some.1.at == spot) some.4 in
    let on : some.1.host ≡ host = same_host some.1.host host (equal_of some.1.host.0 host.0 both.0) in
    let own : so.0.host ≡ host = sym (ap {A = Entry} (λ one. one.host) so.2) ∙ on in
    let place : length (emitted_on so.0.host (before_entry some.0 all)) ≡ spot =
    sym (ap {A = Entry} (λ one. one.at) so.2) ∙ equal_of some.1.at spot both.1 in
    let standing = all_stand labelled hosts planned main emissions last walk some.0 so.0 so.1 in (
      some.0,
      subst (λ (on_host : HostId). Placed of_entries on_host some.0 all) own standing.placed,
      ap (λ on_host. length (emitted_on on_host (before_entry some.0 all))) (sym own) ∙ place,
    )
