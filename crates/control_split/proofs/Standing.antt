-- Where the entries of a walk stand and its branches lead, once all is put together.
use Rattle.std.proofs.Common.{◌≡◌, ℕ, ◌+◌, ◌<◌, inl, inr, Bool, true, false, List, [], ◌∷◌, ◌++◌, length}
use Rattle.std.proofs.Common.{get_or, set, Option, Some, None, option_map, nat_eq, if◌then◌else◌, refl, sym, ap, ◌∙◌}
use Rattle.std.proofs.Common.{arith}
use Rattle.std.proofs.lemmas.List.{length-set, length-append, append-nil}
use Rattle.std.proofs.lemmas.Bool.Decides.{eqb_tells}
use Rattle.js_base.specs.declared.ids.HostId.{HostId}
use Rattle.label_lattice.specs.declared.label.Label.{Label}
use Rattle.host_code.specs.declared.instruction.Instr.{Instr}
use Rattle.split_rules.specs.Emissions.{Emission, instruction, entry, stands, lands, Emitted}
use Rattle.split_rules.specs.SplitCode.{emitted_on, before_entry, before_landing}
use Rattle.control_split.specs.Assembly.{AssemblyShape, list_on, noted, with_item, assembled}
use Rattle.std.specs.List.{AllByRecursion}
use Rattle.control_split.specs.declared.parts.TheConstants.{HOST_NUMBERS}
use Rattle.split_rules.specs.Settled.{host_standing, host_landing, IsOnSomeHost}
use Rattle.control_split.specs.Trace.{item_of}
use Rattle.control_split.proofs.Placing.{raw_instruction, items_of, list_on_more, settle, settle_none, noted_same}
use Rattle.control_split.proofs.Placing.{noted_other, length_noted}

-- the place behind the instructions that a host has and those of these emissions
abbrev count_on : List (List Instr) → List Emission → HostId → ℕ
count_on lists emissions host = length (list_on lists host) + length (emitted_on host emissions)

-- where the entry of a number stands, behind the instructions that hosts have
abbrev pub standing_place : List (List Instr) → ℕ → List Emission → Option ℕ
standing_place lists number emissions =
    option_map (count_on lists (before_entry number emissions)) (host_standing number emissions)

abbrev pub landing_place : List (List Instr) → ℕ → List Emission → Option ℕ
landing_place lists number emissions =
    option_map (count_on lists (before_landing number emissions)) (host_landing number emissions)

-- the lists of hosts with one instruction more
abbrev with_instruction : List Label → List (List Instr) → Emitted → List (List Instr)
with_instruction labels lists one =
    set lists one.host.0 (list_on lists one.host ++ raw_instruction labels one ∷ [])

-- an instruction counts the same among those that its host has as before others
counted_first : (labels : List Label) (lists : List (List Instr)) (one : Emitted) (others : List Emission) →
    one.host.0 < length lists → (host : HostId) →
    count_on (with_instruction labels lists one) others host ≡ count_on lists (instruction one ∷ others) host
counted_first labels lists one others within host =
    ap (λ list. length list + length (emitted_on host others))
    (list_on_more lists one.host host (raw_instruction labels one) within)
    ∙ counted (nat_eq one.host.0 host.0)
  where
    counted : (same : Bool) →
        length (list_on lists host ++ (if same then raw_instruction labels one ∷ [] else []))
        + length (emitted_on host others)
        ≡ length (list_on lists host)
        + length (if same then one ∷ emitted_on host others else emitted_on host others)
    counted true =
        let more = length-append (list_on lists host) (raw_instruction labels one ∷ []) in
        omega arith
    counted false = ap (λ list. length list + length (emitted_on host others)) (append-nil (list_on lists host))

same_places : (first second : HostId → ℕ) (host : Option HostId) → ((host : HostId) → first host ≡ second host) →
    option_map first host ≡ option_map second host
same_places first second None same = refl
same_places first second (Some host) same = ap Some (same host)

noted_at : (places : List (Option ℕ)) (other number place : ℕ) → other ≡ number → number < length places →
    get_or (noted places other place) number (Some 0) ≡ settle (get_or places number (Some 0)) (Some place)
noted_at places other number place same within =
    rw same (noted_same places number place within)

settled_first : (known : Option ℕ) (place : ℕ) (later : Option ℕ) →
    settle (settle known (Some place)) later ≡ settle known (Some place)
settled_first None place later = refl
settled_first (Some earlier) place later = refl

pub standing_after : (labels : List Label) (assembly : AssemblyShape) (emissions : List Emission) (number : ℕ) →
    number < length assembly.standing → length assembly.lists ≡ HOST_NUMBERS →
    AllByRecursion (IsOnSomeHost HOST_NUMBERS) emissions →
    get_or (assembled assembly (items_of labels emissions)).standing number (Some 0)
    ≡ settle (get_or assembly.standing number (Some 0)) (standing_place assembly.lists number emissions)
standing_after labels assembly [] number there count within =
    sym (settle_none (get_or assembly.standing number (Some 0)))
standing_after labels assembly (instruction one ∷ others) number there count within =
    standing_after labels (with_item assembly (item_of labels (instruction one))) others number there
    (length-set assembly.lists one.host.0 (list_on assembly.lists one.host ++ raw_instruction labels one ∷ []) ∙ count)
    within.1
    ∙ ap (settle (get_or assembly.standing number (Some 0)))
    (same_places (count_on (with_instruction labels assembly.lists one) (before_entry number others))
    (count_on assembly.lists (instruction one ∷ before_entry number others)) (host_standing number others)
    (counted_first labels assembly.lists one (before_entry number others) (rw count within.0)))
standing_after labels assembly (entry named ∷ others) number there count within =
    standing_after labels (with_item assembly (item_of labels (entry named))) others number there count within.1
    ∙ ap (settle (get_or assembly.standing number (Some 0)))
    (same_places (count_on assembly.lists (before_entry number others))
    (count_on assembly.lists (entry named ∷ before_entry number others)) (host_standing number others) (λ host. refl))
standing_after labels assembly (lands on other ∷ others) number there count within =
    standing_after labels (with_item assembly (item_of labels (lands on other))) others number there count within.1
    ∙ ap (settle (get_or assembly.standing number (Some 0)))
    (same_places (count_on assembly.lists (before_entry number others))
    (count_on assembly.lists (lands on other ∷ before_entry number others)) (host_standing number others)
    (λ host. refl))
standing_after labels assembly (stands on other ∷ others) number there count within = elim (eqb_tells other number) [
  | inl same ↦
      standing_after labels (with_item assembly (item_of labels (stands on other))) others number
      (rw (length_noted assembly.standing other _) there) count within.1
      ∙ ap (λ known. settle known (standing_place assembly.lists number others))
      (noted_at assembly.standing other number (length (list_on assembly.lists on)) same.1 there)
      ∙ settled_first (get_or assembly.standing number (Some 0)) (length (list_on assembly.lists on)) _
      ∙ ap (settle (get_or assembly.standing number (Some 0)))
      (rw same.0 (ap Some (omega arith)))
  | inr apart ↦
      standing_after labels (with_item assembly (item_of labels (stands on other))) others number
      (rw (length_noted assembly.standing other _) there) count within.1
      ∙ ap (λ known. settle known (standing_place assembly.lists number others))
      (noted_other assembly.standing number other _ (λ is. apart.1 (sym is)))
      ∙ ap (settle (get_or assembly.standing number (Some 0)))
      (rw apart.0 (same_places (count_on assembly.lists (before_entry number others))
      (count_on assembly.lists (stands on other ∷ before_entry number others)) (host_standing number others)
      (λ host. refl)))
]

pub landing_after : (labels : List Label) (assembly : AssemblyShape) (emissions : List Emission) (number : ℕ) →
    number < length assembly.landing → length assembly.lists ≡ HOST_NUMBERS →
    AllByRecursion (IsOnSomeHost HOST_NUMBERS) emissions →
    get_or (assembled assembly (items_of labels emissions)).landing number (Some 0)
    ≡ settle (get_or assembly.landing number (Some 0)) (landing_place assembly.lists number emissions)
landing_after labels assembly [] number there count within = sym (settle_none (get_or assembly.landing number (Some 0)))
landing_after labels assembly (instruction one ∷ others) number there count within =
    landing_after labels (with_item assembly (item_of labels (instruction one))) others number there
    (length-set assembly.lists one.host.0 (list_on assembly.lists one.host ++ raw_instruction labels one ∷ []) ∙ count)
    within.1
    ∙ ap (settle (get_or assembly.landing number (Some 0)))
    (same_places (count_on (with_instruction labels assembly.lists one) (before_landing number others))
    (count_on assembly.lists (instruction one ∷ before_landing number others)) (host_landing number others)
    (counted_first labels assembly.lists one (before_landing number others) (rw count within.0)))
landing_after labels assembly (entry named ∷ others) number there count within =
    landing_after labels (with_item assembly (item_of labels (entry named))) others number there count within.1
    ∙ ap (settle (get_or assembly.landing number (Some 0)))
    (same_places (count_on assembly.lists (before_landing number others))
    (count_on assembly.lists (entry named ∷ before_landing number others)) (host_landing number others) (λ host. refl))
landing_after labels assembly (stands on other ∷ others) number there count within =
    landing_after labels (with_item assembly (item_of labels (stands on other))) others number there count within.1
    ∙ ap (settle (get_or assembly.landing number (Some 0)))
    (same_places (count_on assembly.lists (before_landing number others))
    (count_on assembly.lists (stands on other ∷ before_landing number others)) (host_landing number others)
    (λ host. refl))
landing_after labels assembly (lands on other ∷ others) number there count within = elim (eqb_tells other number) [
  | inl same ↦
      landing_after labels (with_item assembly (item_of labels (lands on other))) others number
      (rw (length_noted assembly.landing other _) there) count within.1
      ∙ ap (λ known. settle known (landing_place assembly.lists number others))
      (noted_at assembly.landing other number (length (list_on assembly.lists on)) same.1 there)
      ∙ settled_first (get_or assembly.landing number (Some 0)) (length (list_on assembly.lists on)) _
      ∙ ap (settle (get_or assembly.landing number (Some 0)))
      (rw same.0 (ap Some (omega arith)))
  | inr apart ↦
      landing_after labels (with_item assembly (item_of labels (lands on other))) others number
      (rw (length_noted assembly.landing other _) there) count within.1
      ∙ ap (λ known. settle known (landing_place assembly.lists number others))
      (noted_other assembly.landing number other _ (λ is. apart.1 (sym is)))
      ∙ ap (settle (get_or assembly.landing number (Some 0)))
      (rw apart.0 (same_places (count_on assembly.lists (before_landing number others))
      (count_on assembly.lists (lands on other ∷ before_landing number others)) (host_landing number others)
      (λ host. refl)))
]

-- ---- how many there are

pub length_standing : (labels : List Label) (assembly : AssemblyShape) (emissions : List Emission) →
    length (assembled assembly (items_of labels emissions)).standing ≡ length assembly.standing
length_standing labels assembly [] = refl
length_standing labels assembly (instruction one ∷ others) =
    length_standing labels (with_item assembly (item_of labels (instruction one))) others
length_standing labels assembly (entry named ∷ others) =
    length_standing labels (with_item assembly (item_of labels (entry named))) others
length_standing labels assembly (stands on number ∷ others) =
    length_standing labels (with_item assembly (item_of labels (stands on number))) others
    ∙ length_noted assembly.standing number (length (list_on assembly.lists on))
length_standing labels assembly (lands on number ∷ others) =
    length_standing labels (with_item assembly (item_of labels (lands on number))) others

pub length_landing : (labels : List Label) (assembly : AssemblyShape) (emissions : List Emission) →
    length (assembled assembly (items_of labels emissions)).landing ≡ length assembly.landing
length_landing labels assembly [] = refl
length_landing labels assembly (instruction one ∷ others) =
    length_landing labels (with_item assembly (item_of labels (instruction one))) others
length_landing labels assembly (entry named ∷ others) =
    length_landing labels (with_item assembly (item_of labels (entry named))) others
length_landing labels assembly (stands on number ∷ others) =
    length_landing labels (with_item assembly (item_of labels (stands on number))) others
length_landing labels assembly (lands on number ∷ others) =
    length_landing labels (with_item assembly (item_of labels (lands on number))) others
    ∙ length_noted assembly.landing number (length (list_on assembly.lists on))
