-- A test that no token passes a limit, which can be computed.
use Rattle.std.proofs.Common.{◌≡◌, ℕ, zero, suc, ◌+◌, ◌<◌, ◌≤◌, Bool, true, false, List, [], ◌∷◌, length, take, refl}
use Rattle.std.proofs.Common.{◌&&◌, inl, inr, subst, arith, length-take-le}
use Rattle.std.proofs.lemmas.Bool.{leb-true, and_parts}
use Rattle.std.proofs.lemmas.List.{take-take}
use Rattle.std.specs.Prelude.{leb}
use Rattle.js_base.specs.declared.limits.TheConstants.{FIELDS, METHODS, PARAMETERS, VARIABLES, STATEMENTS}
use Rattle.js_base.specs.declared.limits.TheConstants.{EXPRESSION_NODES, ARRAY_SIZE, ELEMENTS, NESTING}
use Rattle.jif_grammar.specs.declared.what.What.{What}
use Rattle.jif_grammar.specs.declared.what.What.TheVariants as counted
use Rattle.jif_grammar.specs.Phrases.{ProgramPhrase}
use Rattle.jif_grammar.specs.Marks.{Marked, Tally, tally_at_start, after_token, after_tokens, HasTooMany}
use Rattle.jif_grammar.specs.Spelling.{spelling}
use Rattle.jif_grammar.specs.Programs.{IsWithin, IsWithinUpTo}
use Rattle.jif_grammar.proofs.OneJoined.{Each}

-- each count with its limit
abbrev pub counts : Tally → List (ℕ × ℕ)
counts t =
    (t.nesting, NESTING) ∷ (t.methods, METHODS) ∷ (t.statements, STATEMENTS) ∷ (t.parameters, PARAMETERS)
    ∷ (t.variables, VARIABLES) ∷ (t.nodes, EXPRESSION_NODES) ∷ (t.fields, FIELDS) ∷ (t.size, ARRAY_SIZE)
    ∷ (t.elements, ELEMENTS) ∷ []

abbrev pub are_below : List (ℕ × ℕ) → Bool
are_below [] = true
are_below (count ∷ others) = leb count.0 count.1 && are_below others

-- no token passes a limit, where this has begun before
abbrev pub are_within : Tally → List Marked → Bool
are_within t [] = true
are_within t (token ∷ tokens) = are_below (counts (after_token t token)) && are_within (after_token t token) tokens

below_of : (list : List (ℕ × ℕ)) → are_below list ≡ true → Each (λ count. count.0 ≤ count.1) list
below_of [] is = tt
below_of (count ∷ others) is =
    let both = and_parts (leb count.0 count.1) (are_below others) is in
    (leb-true count.0 count.1 both.0, below_of others both.1)

not_too_many : (t : Tally) → Each (λ count. count.0 ≤ count.1) (counts t) → (what : What) → ¬ HasTooMany what t
not_too_many t below counted.Fields many = omega (arith, many, below.1.1.1.1.1.1.0)
not_too_many t below counted.Methods many = omega (arith, many, below.1.0)
not_too_many t below counted.Parameters many = omega (arith, many, below.1.1.1.0)
not_too_many t below counted.Locals many = omega (arith, many, below.1.1.1.1.0)
not_too_many t below counted.Statements many = omega (arith, many, below.1.1.0)
not_too_many t below counted.Nodes many = omega (arith, many, below.1.1.1.1.1.0)
not_too_many t below counted.Elements many = elim many [
  | inl large ↦ omega (arith, large, below.1.1.1.1.1.1.1.0)
  | inr more ↦ omega (arith, more, below.1.1.1.1.1.1.1.1.0)
]

within_of : (t : Tally) → are_below (counts t) ≡ true → IsWithin t
within_of t is =
    let below = below_of (counts t) is in
    record { nesting = λ deep. omega (arith, deep, below.0); counts = not_too_many t below }

up_to : (t : Tally) (tokens : List Marked) → are_within t tokens ≡ true → (m : ℕ) → m < length tokens →
    IsWithin (after_tokens t (take (m + 1) tokens))
up_to t [] is m less = absurd (omega (arith, less))
up_to t (token ∷ tokens) is zero less =
    within_of (after_token t token) (and_parts (are_below (counts (after_token t token)))
    (are_within (after_token t token) tokens) is).0
up_to t (token ∷ tokens) is (suc m) less =
    let one_more : suc (m + 1) ≡ suc m + 1 = omega arith in
    subst (λ n. IsWithin (after_tokens t (take n (token ∷ tokens)))) one_more
    (up_to (after_token t token) tokens (and_parts (are_below (counts (after_token t token)))
    (are_within (after_token t token) tokens) is).1 m (omega (arith, less)))

-- the first n tokens pass no limit where the test says so
pub within_up_to : (program : ProgramPhrase) (n : ℕ) → n ≤ length (spelling program) →
    are_within tally_at_start (take n (spelling program)) ≡ true → IsWithinUpTo program n
within_up_to program n there is m less =
    let few : length (take n (spelling program)) ≡ n = length-take-le n (spelling program) there in
    let within : m + 1 ≤ n = omega (arith, less) in
    subst (λ ts. IsWithin (after_tokens tally_at_start ts)) (take-take (m + 1) n (spelling program) within)
    (up_to tally_at_start (take n (spelling program)) is m (omega (arith, less, few)))
