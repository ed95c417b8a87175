-- The entries of a host one after the other, with bounds that are kept from one to the next.
use Rattle.std.proofs.Common.{◌≡◌, ◌≢◌, ◌<◌, ◌≤◌, ◌+◌, ◌∙◌, ℕ, List, length, ap, refl, sym, subst, inl, inr, arith}
use Rattle.std.proofs.Common.{replicate}
use Rattle.std.specs.Prelude.{Some, None, slice_get, slice_index}
use Rattle.std.proofs.lemmas.Bool.{cases_eq}
use Rattle.std.proofs.lemmas.List.{get_or-replicate}
use Rattle.std.proofs.lemmas.Option.{slice_get_within}
use Rattle.js_base.specs.declared.ids.HostId.{HostId}
use Rattle.js_base.specs.declared.ids.EntryId.{EntryId}
use Rattle.js_base.specs.Bits.{BitsWithin}
use Rattle.js_base.proofs.Options.{some_same}
use Rattle.host_code.specs.declared.code.Entry.{Entry}
use Rattle.host_code.specs.declared.instruction.Instr.{Instr}
use Rattle.host_code.specs.Code.{CodeShape, halt, part_of, instruction_at}
use Rattle.part_verify.specs.declared.errors.VerifyError.TheVariants.{WeakEntry}
use Rattle.part_verify.specs.Paths.{IsUnder, PathLeads}
use Rattle.part_verify.specs.SoundPart.{NamesWithin, AreNeedsKept}
use Rattle.part_verify.specs.Bounds.{IsBounded, Found}
use Rattle.part_verify.specs.Refusing.{IsPartRefusedFor}
use Rattle.part_verify.proofs.Within.{all_set, in_all_set, names_in_all, names_in_larger}
use Rattle.part_verify.proofs.Walks.{led_within}

-- entries of one number are the same
pub same_number : (first second : EntryId) → first.0 ≡ second.0 → first ≡ second
same_number first second same = ap entry_of same
  where
    entry_of : ℕ → EntryId
    entry_of number = record { 0 = number }

-- what the entries below a number lead to names only what their needs have
abbrev pub ArePassed : CodeShape → HostId → ℕ → Type 0
ArePassed code me number = (there : EntryId) (place : ℕ) (one : Instr) (under : IsUnder code me there place) →
    there.0 < number → instruction_at code me place ≡ Some one → NamesWithin code under.entry.need one.op

pub bounds_begin : (code : CodeShape) (me : HostId) (count : ℕ) → count ≡ length (part_of code me) →
    IsBounded code me (replicate count all_set)
bounds_begin code me count long = record {
  named = λ place one is. subst (λ need. NamesWithin code need one.op)
      (sym (set_at place (slice_get_within (part_of code me) place one is))) (names_in_all code one.op);
  behind = λ place next edge. subst (BitsWithin (slice_index (replicate count all_set) next))
      (sym (set_at place (slice_get_within (part_of code me) place edge.0 edge.1)))
      (in_all_set (slice_index (replicate count all_set) next));
}
  where
    set_at : (place : ℕ) → place < length (part_of code me) → slice_index (replicate count all_set) place ≡ all_set
    set_at place within = get_or-replicate count place all_set 0 (omega (arith, within, long))

module _ (code : CodeShape) (me : HostId) where
  pub none_passed : ArePassed code me 1
  none_passed there place one under first is =
      absurd (under.not_halt (same_number there halt (omega (arith, first))))

  pub all_passed : (number : ℕ) → length code.entries ≤ number → ArePassed code me number → AreNeedsKept code me
  all_passed number past passed there place one under =
      passed there place one under (omega (arith, past, slice_get_within code.entries there.0 under.entry under.is))

  module _ (number : ℕ) (entry : Entry) (found : slice_get code.entries number ≡ Some entry) where
    abbrev this : EntryId
    this = record { 0 = number }

    same_entry : (there : EntryId) (place : ℕ) (under : IsUnder code me there place) → there.0 ≡ number →
        entry ≡ under.entry
    same_entry there place under is = some_same (slice_get code.entries number) entry under.entry found
        (subst (λ n. slice_get code.entries n ≡ Some under.entry) is under.is)

    -- one more, where the entry by this number passes
    one_passed : ((there : EntryId) (place : ℕ) (one : Instr) (under : IsUnder code me there place) →
        entry ≡ under.entry → instruction_at code me place ≡ Some one → NamesWithin code under.entry.need one.op) →
        ArePassed code me number → ArePassed code me (number + 1)
    one_passed passes passed there place one under below is = elim (cases_eq there.0 number) [
      | inl same ↦ passes there place one under (same_entry there place under same) is
      | inr apart ↦ passed there place one under (omega (arith, apart, below)) is
    ]

    pub passed_elsewhere : entry.host ≢ me → ArePassed code me number → ArePassed code me (number + 1)
    passed_elsewhere elsewhere = one_passed (λ there place one under same is.
        absurd (elsewhere (ap (λ (e : Entry). e.host) same ∙ under.here)))

    pub passed_here : (bound : List ℕ) → Found code me entry.at entry.need None bound → ArePassed code me number →
        ArePassed code me (number + 1)
    passed_here bound kept = one_passed (λ there place one under same is.
        let leads : PathLeads code me entry.at place = subst (λ (e : Entry). PathLeads code me e.at place) (sym same)
        under.leads in
        subst (λ (e : Entry). NamesWithin code e.need one.op) same
        (names_in_larger code (slice_index bound place) entry.need one.op
        (led_within code me entry.at entry.need bound kept.0.behind kept.1 leads.0 place leads.1)
        (kept.0.named place one is)))

    pub refused_here : (place : ℕ) (bound : List ℕ) → this ≢ halt → entry.host ≡ me →
        Found code me entry.at entry.need (Some place) bound → ArePassed code me number →
        IsPartRefusedFor code me (WeakEntry this place)
    refused_here place bound not_halt here weak passed = (
      (
        weak.1.0,
        record { entry = entry; is = found; not_halt = not_halt; here = here; leads = weak.0 },
        weak.1.1,
        weak.1.2,
      ),
      λ other before breaks.
          let same = same_entry this other breaks.1 refl in
          weak.2 other before (subst (λ (e : Entry). PathLeads code me e.at other) (sym same) breaks.1.leads) (
            breaks.0,
            breaks.2,
            λ names. breaks.3
                (subst (λ (e : Entry). NamesWithin code e.need breaks.0.op) same names),
          ),
      λ earlier other before breaks. breaks.3 (passed earlier other breaks.0 breaks.1 before breaks.2),
    )
