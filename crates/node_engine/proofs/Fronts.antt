-- Bytes that are put one after the other.
use Rattle.std.proofs.Common.{◌≡◌, ◌∙◌, ℕ, ◌+◌, List, ◌++◌, length, take, Option, Some, None, refl, sym, ap, subst}
use Rattle.std.proofs.Common.{append_assoc, arith, inl, inr, Result, Ok, Err}
use Rattle.std.specs.Prelude.{OnErr}
use Rattle.std.specs.Option.{option_map}
use Rattle.std.proofs.lemmas.Bool.{cases_lt}
use Rattle.std.proofs.lemmas.List.{take-append-le, take_all}
use Rattle.std.proofs.Math.Seq.{take-append-add, take-append_seam}
use Rattle.js_base.specs.Sink.{Takes, TakesFront}

again : (first others : List ℕ) (old : Option (List ℕ)) →
    option_map (λ taken. taken ++ others) (option_map (λ taken. taken ++ first) old)
    ≡ option_map (λ taken. taken ++ (first ++ others)) old
again first others None = refl
again first others (Some taken) = ap Some (append_assoc taken first others)

-- both are taken
pub takes_both : (first others : List ℕ) (old mid new : Option (List ℕ)) → Takes first old mid →
    Takes others mid new → Takes (first ++ others) old new
takes_both first others old mid new one two =
    two ∙ ap (option_map (λ taken. taken ++ others)) one ∙ again first others old

-- a front of the first is one of both
pub front_first : (first others : List ℕ) (old new : Option (List ℕ)) → TakesFront first old new →
    TakesFront (first ++ others) old new
front_first first others old new front = elim (cases_lt front.0 (length first)) [
  | inl less ↦ (
    front.0,
    subst (λ (bytes : List ℕ). Takes bytes old new) (sym (take-append-le front.0 first others (omega arith)))
        front.1,
  )
  | inr not ↦ (
    length first,
    subst (λ (bytes : List ℕ). Takes bytes old new)
        (take_all front.0 first (omega arith) ∙ sym (take-append_seam first others)) front.1,
  )
]

-- and so is a front of what stands behind it
pub front_behind : (first others : List ℕ) (old mid new : Option (List ℕ)) → Takes first old mid →
    TakesFront others mid new → TakesFront (first ++ others) old new
front_behind first others old mid new one front = (
  length first + front.0,
  subst (λ (bytes : List ℕ). Takes bytes old new) (sym (take-append-add first others front.0))
      (takes_both first (take front.0 others) old mid new one front.1),
)

-- what holds whether an error came or not
pub on_error : {T E P : Type 0} (result : Result T E) → P → OnErr result P
on_error (Ok value) holds = tt
on_error (Err error) holds = holds
