-- A list of riders that is read one by one.
use Rattle.std.proofs.Common.{◌≡◌, ◌≢◌, ◌<◌, ◌≤◌, ◌+◌, ◌&&◌, ℕ, Bool, true, false, List, [], ◌∷◌, ◌++◌, length, refl}
use Rattle.std.proofs.Common.{ap, sym, subst, ◌∙◌, inl, inr, arith}
use Rattle.std.specs.Prelude.{Option, Some, None, nat_le, if◌then◌else◌}
use Rattle.std.specs.Option.{option_and_then}
use Rattle.std.proofs.lemmas.Bool.Decides.{nat_tests}
use Rattle.std.proofs.lemmas.List.{length-append}
use Rattle.host_code.specs.declared.riders.TheConstants.{MOST_RIDERS}
use Rattle.host_code.specs.Code.{CodeShape}
use Rattle.host_code.specs.Riders.{Rider, riders_from}
use Rattle.event_text.specs.Acts.{rider_of, riders_in}
use Rattle.event_text.specs.Words.{Word, of_two}

-- these riders and others behind them, where both are few
abbrev pub with_front : List Rider → Option (List Rider) → Option (List Rider)
with_front front found = option_and_then (λ others. riders_from (front ++ others)) found

many_fail : (riders : List Rider) → MOST_RIDERS < length riders → riders_from riders ≡ None
many_fail riders many = grind (arith, nat_tests)

-- more words than 8 riders have say none
pub past_all : (code : CodeShape) (front : List Rider) (words : List Word) → length front ≡ MOST_RIDERS → words ≢ [] →
    with_front front (riders_in code words) ≡ None
past_all code front [] many some = absurd (some refl)
past_all code front (name ∷ []) many some = refl
past_all code front (name ∷ value ∷ words) many some = by (rider_of code name value) (riders_in code words)
  where
    by : (rider : Option Rider) (others : Option (List Rider)) →
        with_front front (of_two (λ rider others. rider ∷ others) rider others) ≡ None
    by None others = refl
    by (Some rider) None = refl
    by (Some rider) (Some others) =
        let long = length-append front (rider ∷ others) in
        many_fail (front ++ rider ∷ others) (omega (arith, long, many))
