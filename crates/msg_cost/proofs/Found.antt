-- The hosts on which methods end, found one after the other.
use Rattle.std.proofs.Common.{◌≡◌, ◌≢◌, ◌∙◌, ℕ, ◌+◌, ◌<◌, ◌≤◌, inl, inr, refl, List, map, length, get_or, set}
use Rattle.std.proofs.Common.{replicate, ap, sym, subst, arith}
use Rattle.std.specs.Prelude.{Some, slice_get}
use Rattle.std.specs.Option.{option_map}
use Rattle.std.proofs.lemmas.Bool.{cases_lt, cases_eq}
use Rattle.std.proofs.lemmas.List.{get_or-set_same, get_or-set_other, get_or_past, length-set, length-replicate}
use Rattle.std.proofs.lemmas.List.{get_or-replicate}
use Rattle.std.proofs.lemmas.Option.{slice_get_past, slice_get_read, slice_get-map, unwrap_or-slice_get}
use Rattle.js_base.specs.declared.ids.HostId.{HostId}
use Rattle.jif_tree.specs.declared.program.Method.{Method}
use Rattle.jif_tree.specs.Trees.{method_tree}
use Rattle.need_labels.specs.Plan.{first_host}
use Rattle.msg_cost.specs.Moves.{PlannedShape, called_end}
use Rattle.msg_cost.specs.Kept.{AreEnds}

-- the ends of the methods below a place are found, and the others are the first host
pub record EndsBelow (planned : PlannedShape) (ends : List HostId) (place : ℕ) : Type 0 where
  pub long : length ends ≡ 128
  pub found : (number : ℕ) → number < place →
      get_or ends number first_host ≡ called_end planned (slice_get planned.program.methods number)
  pub others : (number : ℕ) → place ≤ number → get_or ends number first_host ≡ first_host

pub none_found : (planned : PlannedShape) (ends : List HostId) → ends ≡ replicate 128 first_host →
    EndsBelow planned ends 0
none_found planned ends all = record {
  long = ap length all ∙ length-replicate 128 first_host;
  found = λ number below. absurd (omega arith);
  others = λ number from. elim (cases_lt number 128) [
    | inl below ↦ ap (λ hosts. get_or hosts number first_host) all
        ∙ get_or-replicate 128 number first_host first_host below
    | inr past ↦ get_or_past ends number first_host (rw (ap length all ∙ length-replicate 128 first_host) past)
  ];
}

pub one_more_found : (planned : PlannedShape) (ends : List HostId) (place : ℕ) (end : HostId) → place < 128 →
    end ≡ called_end planned (slice_get planned.program.methods place) → EndsBelow planned ends place →
    EndsBelow planned (set ends place end) (place + 1)
one_more_found planned ends place end within is so_far = record {
  long = length-set ends place end ∙ so_far.long;
  found = λ number below. elim (cases_eq number place) [
    | inl same ↦ here number same
    | inr other ↦ get_or-set_other ends place number end first_host other
        ∙ so_far.found number (before number below other)
  ];
  others = λ number from. get_or-set_other ends place number end first_host (λ same. omega (arith, same))
      ∙ so_far.others number (omega arith);
}
  where
    before : (number : ℕ) → number < place + 1 → number ≢ place → number < place
    before number below other = elim (cases_lt number place) [
      | inl less ↦ less
      | inr more ↦ absurd (other (omega arith))
    ]

    here : (number : ℕ) → number ≡ place →
        get_or (set ends place end) number first_host ≡ called_end planned (slice_get planned.program.methods number)
    here number same =
        let P : ℕ → Type 0 = λ one. get_or (set ends place end) one first_host
        ≡ called_end planned (slice_get planned.program.methods one) in
        let long = so_far.long in
        subst P (sym same) (get_or-set_same ends place end first_host (omega arith) ∙ is)

pub all_found : (planned : PlannedShape) (ends : List HostId) (place : ℕ) →
    length planned.program.methods ≤ place → EndsBelow planned ends place → AreEnds planned ends
all_found planned ends place all so_far number =
    unwrap_or-slice_get ends number first_host
    ∙ elim (cases_lt number place) [
      | inl below ↦ so_far.found number below
      | inr past ↦ so_far.others number past
          ∙ sym (ap (called_end planned) (slice_get_past planned.program.methods number (omega arith)))
    ]

-- the method at a place, as its tree
pub method_there : (methods : List Method) (place : ℕ) (method : Method) → place < length methods →
    method ≡ get_or methods place method → slice_get (map method_tree methods) place ≡ Some (method_tree method)
method_there methods place method within is =
    slice_get-map method_tree methods place
    ∙ ap (option_map method_tree) (slice_get_read methods (length methods) place method refl within is)
