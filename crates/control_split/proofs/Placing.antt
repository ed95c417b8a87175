-- Where the instructions of a walk go, and where its entries stand and its branches lead.
use Rattle.std.proofs.Common.{◌≡◌, ◌≢◌, ℕ, ◌<◌, ◌⊎◌, inl, inr, Bool, true, false, List, [], ◌∷◌, ◌++◌, map, length}
use Rattle.std.proofs.Common.{get_or, set}
use Rattle.std.proofs.Common.{Option, Some, None, nat_eq, refl, sym, ap, ◌∙◌, append_assoc}
use Rattle.std.proofs.Common.{if◌then◌else◌}
use Rattle.std.proofs.lemmas.List.{get_or-set_same, get_or-set_other, length-set, append-nil}
use Rattle.std.proofs.lemmas.Bool.Decides.{eqb_tells}
use Rattle.js_base.specs.declared.ids.HostId.{HostId}
use Rattle.label_lattice.specs.declared.label.Label.{Label}
use Rattle.host_code.specs.declared.instruction.Instr.{Instr}
use Rattle.host_code.specs.declared.code.Entry.{Entry}
use Rattle.split_rules.specs.Emissions.{Emission, instruction, entry, stands, lands, Emitted, NamedEntry}
use Rattle.split_rules.specs.SplitCode.{emitted_on, entries_in, label_place}
use Rattle.control_split.specs.Assembly.{AssemblyShape, list_on, noted, with_item, assembled}
use Rattle.std.specs.List.{AllByRecursion}
use Rattle.control_split.specs.declared.parts.TheConstants.{HOST_NUMBERS}
use Rattle.control_split.specs.declared.trace.TraceItem.{TraceItem}
use Rattle.split_rules.specs.Settled.{IsOnSomeHost}
use Rattle.control_split.specs.Trace.{item_of}

-- the instruction that a host gets, before it is known where branches lead
abbrev pub raw_instruction : List Label → Emitted → Instr
raw_instruction labels one = record {
  label = label_place 0 one.label labels;
  statement = one.statement;
  op = one.op;
}

-- an entry, before it is known where it stands
abbrev pub raw_entry : List Label → NamedEntry → Entry
raw_entry labels named = record {
  host = named.host;
  at = 0;
  label = label_place 0 named.label labels;
  need = named.need;
}

abbrev pub items_of : List Label → List Emission → List TraceItem
items_of labels emissions = map (item_of labels) emissions

-- ---- lists of instructions

-- an instruction more on its host
pub list_on_more : (lists : List (List Instr)) (on host : HostId) (one : Instr) → on.0 < length lists →
    list_on (set lists on.0 (list_on lists on ++ one ∷ [])) host
    ≡ list_on lists host ++ (if nat_eq on.0 host.0 then one ∷ [] else [])
list_on_more lists on host one within = elim (eqb_tells on.0 host.0) [
  | inl same ↦ rw (same.0) (subst_host lists on host one within same.1)
  | inr other ↦ rw (other.0)
      (get_or-set_other lists on.0 host.0 (list_on lists on ++ one ∷ []) [] (λ is. other.1 (sym is))
      ∙ sym (append-nil (list_on lists host)))
]
  where
    subst_host : (lists : List (List Instr)) (on host : HostId) (one : Instr) → on.0 < length lists → on.0 ≡ host.0 →
        list_on (set lists on.0 (list_on lists on ++ one ∷ [])) host ≡ list_on lists host ++ one ∷ []
    subst_host lists on host one within same =
        rw (sym same) (get_or-set_same lists on.0 (list_on lists on ++ one ∷ []) [] within)

-- the instructions of a host, with those that it had before
pub lists_after : (labels : List Label) (assembly : AssemblyShape) (emissions : List Emission) (host : HostId) →
    length assembly.lists ≡ HOST_NUMBERS → AllByRecursion (IsOnSomeHost HOST_NUMBERS) emissions →
    list_on (assembled assembly (items_of labels emissions)).lists host
    ≡ list_on assembly.lists host ++ map (raw_instruction labels) (emitted_on host emissions)
lists_after labels assembly [] host count within = sym (append-nil (list_on assembly.lists host))
lists_after labels assembly (instruction one ∷ others) host count within =
    lists_after labels (with_item assembly (item_of labels (instruction one))) others host
    (length-set assembly.lists one.host.0 (list_on assembly.lists one.host ++ raw_instruction labels one ∷ []) ∙ count)
    within.1
    ∙ ap (λ first. first ++ map (raw_instruction labels) (emitted_on host others))
    (list_on_more assembly.lists one.host host (raw_instruction labels one) (rw count within.0))
    ∙ joined (nat_eq one.host.0 host.0)
  where
    joined : (same : Bool) →
        (list_on assembly.lists host ++ (if same then raw_instruction labels one ∷ [] else []))
        ++ map (raw_instruction labels) (emitted_on host others)
        ≡ list_on assembly.lists host
        ++ map (raw_instruction labels) (if same then one ∷ emitted_on host others else emitted_on host others)
    joined true = append_assoc (list_on assembly.lists host) (raw_instruction labels one ∷ []) _
    joined false = ap (λ first. first ++ map (raw_instruction labels) (emitted_on host others))
        (append-nil (list_on assembly.lists host))
lists_after labels assembly (entry named ∷ others) host count within =
    lists_after labels (with_item assembly (item_of labels (entry named))) others host count within.1
lists_after labels assembly (stands on number ∷ others) host count within =
    lists_after labels (with_item assembly (item_of labels (stands on number))) others host count within.1
lists_after labels assembly (lands on number ∷ others) host count within =
    lists_after labels (with_item assembly (item_of labels (lands on number))) others host count within.1

-- the entries in order
pub entries_after : (labels : List Label) (assembly : AssemblyShape) (emissions : List Emission) →
    (assembled assembly (items_of labels emissions)).entries
    ≡ assembly.entries ++ map (raw_entry labels) (entries_in emissions)
entries_after labels assembly [] = sym (append-nil assembly.entries)
entries_after labels assembly (instruction one ∷ others) =
    entries_after labels (with_item assembly (item_of labels (instruction one))) others
entries_after labels assembly (entry named ∷ others) =
    entries_after labels (with_item assembly (item_of labels (entry named))) others
    ∙ append_assoc assembly.entries (raw_entry labels named ∷ []) _
entries_after labels assembly (stands on number ∷ others) =
    entries_after labels (with_item assembly (item_of labels (stands on number))) others
entries_after labels assembly (lands on number ∷ others) =
    entries_after labels (with_item assembly (item_of labels (lands on number))) others

-- ---- places

-- what is known first counts
abbrev pub settle : Option ℕ → Option ℕ → Option ℕ
settle (Some earlier) later = Some earlier
settle None later = later

pub settle_none : (known : Option ℕ) → settle known None ≡ known
settle_none None = refl
settle_none (Some place) = refl

known_or_not : (known : Option ℕ) → (known ≡ None) ⊎ ((earlier : ℕ) × (known ≡ Some earlier))
known_or_not None = inl refl
known_or_not (Some earlier) = inr (earlier, refl)

-- where there is a place for a number it stays, and otherwise it is noted
pub noted_same : (places : List (Option ℕ)) (number place : ℕ) → number < length places →
    get_or (noted places number place) number (Some 0) ≡ settle (get_or places number (Some 0)) (Some place)
noted_same places number place within = elim (known_or_not (get_or places number (Some 0))) [
  | inl unknown ↦ rw unknown (get_or-set_same places number (Some place) (Some 0) within)
  | inr known ↦ rw known.1 known.1
]

pub noted_other : (places : List (Option ℕ)) (number other place : ℕ) → number ≢ other →
    get_or (noted places other place) number (Some 0) ≡ get_or places number (Some 0)
noted_other places number other place apart = elim (known_or_not (get_or places other (Some 0))) [
  | inl unknown ↦ rw unknown (get_or-set_other places other number (Some place) (Some 0) apart)
  | inr known ↦ rw known.1 refl
]

pub length_noted : (places : List (Option ℕ)) (number place : ℕ) →
    length (noted places number place) ≡ length places
length_noted places number place = elim (known_or_not (get_or places number (Some 0))) [
  | inl unknown ↦ rw unknown (length-set places number (Some place))
  | inr known ↦ rw known.1 refl
]
