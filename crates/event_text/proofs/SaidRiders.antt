-- What rides is printed as the words that say it.
use Rattle.std.proofs.Common.{◌≡◌, ◌&&◌, ℕ, List, [], ◌∷◌, ◌++◌, length, Option, Some, None, refl, ap, sym, subst, ◌∙◌}
use Rattle.std.proofs.Common.{inl, inr}
use Rattle.std.specs.Prelude.{codes, nat_le}
use Rattle.std.specs.Option.{option_and_then}
use Rattle.std.proofs.lemmas.List.{append_assoc, append-nil}
use Rattle.host_code.specs.declared.riders.TheConstants.{MOST_RIDERS}
use Rattle.host_code.specs.Code.{CodeShape}
use Rattle.host_code.specs.MessageText.{rider_text, riders_text}
use Rattle.host_code.specs.Riders.{Rider, riders_from}
use Rattle.event_text.specs.Acts.{rider_of, riders_in}
use Rattle.event_text.specs.Words.{Word}
use Rattle.event_text.proofs.MadeParts.{then_made, either_made, two_made}
use Rattle.event_text.proofs.SaidNumbers.{signed_text}
use Rattle.event_text.proofs.SaidParts.{variable_said}
use Rattle.event_text.proofs.SaidWords.{joined}

-- words with a space before each
abbrev pub spaced : List Word → List ℕ
spaced [] = []
spaced (word ∷ words) = codes " " ++ word ++ spaced words

pub joined_spaced : (word : Word) (words : List Word) → joined 32 (word ∷ words) ≡ word ++ spaced words
joined_spaced word [] = sym (append-nil word)
joined_spaced word (next ∷ words) = ap (λ (rest : List ℕ). word ++ 32 ∷ rest) (joined_spaced next words)

rider_said : (code : CodeShape) (name value : Word) (rider : Rider) → rider_of code name value ≡ Some rider →
    rider_text code rider ≡ codes " " ++ name ++ codes " " ++ value
rider_said code name value rider is =
    let (variable, number, one, two, same) = two_made (λ variable number. (variable, number)) _ _ rider is in
    ap (rider_text code) (sym same) ∙ rw (variable_said code name variable one, signed_text value number two) refl

pub pairs_said : (code : CodeShape) (words : List Word) (riders : List Rider) → riders_in code words ≡ Some riders →
    riders_text code riders ≡ spaced words
pairs_said code [] riders is = let same : ◌≡◌ {A = List Rider} [] riders = cc in subst (λ rs. riders_text code rs ≡ []) same refl
pairs_said code (name ∷ []) riders is = absurd cc
pairs_said code (name ∷ value ∷ words) riders is =
    let (rider, others, one, two, same) =
    two_made (λ rider riders. rider ∷ riders) (rider_of code name value) (riders_in code words) riders is in
    ap (riders_text code) (sym same)
    ∙ ap (λ (text : List ℕ). text ++ riders_text code others) (rider_said code name value rider one)
    ∙ ap (λ (text : List ℕ). codes " " ++ name ++ codes " " ++ value ++ text) (pairs_said code words others two)
    ∙ append_assoc (codes " " ++ name ++ codes " ") value (spaced words)
    ∙ append_assoc (codes " " ++ name) (codes " ") (value ++ spaced words)

-- few pairs are riders as they stand
from_are : (pairs riders : List Rider) → riders_from pairs ≡ Some riders → pairs ≡ riders
from_are pairs riders is =
    elim (either_made (nat_le 1 (length pairs) && nat_le (length pairs) MOST_RIDERS) (Some pairs) None riders is) [
      | inl (holds, same) ↦ cc
      | inr (fails, none) ↦ absurd cc
    ]

pub riders_said : (code : CodeShape) (words : List Word) (riders : List Rider) →
    option_and_then riders_from (riders_in code words) ≡ Some riders → riders_text code riders ≡ spaced words
riders_said code words riders is =
    let (pairs, found, of) = then_made riders_from (riders_in code words) riders is in
    pairs_said code words riders (found ∙ ap (λ (rs : List Rider). Some rs) (from_are pairs riders of))
