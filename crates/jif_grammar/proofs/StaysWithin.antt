-- Marked tokens of which none passes a limit.
use Rattle.std.proofs.Common.{◌≡◌, ◌<◌, ℕ, zero, suc, ◌+◌, inl, inr, List, [], ◌∷◌, ◌++◌, length, take, refl}
use Rattle.std.proofs.Common.{subst, arith}
use Rattle.std.specs.Prelude.{⊤}
use Rattle.jif_grammar.specs.declared.what.What.{What}
use Rattle.jif_grammar.specs.declared.what.What.TheVariants as counted
use Rattle.jif_grammar.specs.Marks.{Marked, Tally, tally_at_start, after_token, after_tokens, HasTooMany}
use Rattle.jif_grammar.specs.Phrases.{ProgramPhrase}
use Rattle.jif_grammar.specs.Programs.{IsWithin, IsWithinLimits}
use Rattle.jif_grammar.specs.Spelling.{spelling}

pub tokens_behind : (t : Tally) (front more : List Marked) →
    after_tokens t (front ++ more) ≡ after_tokens (after_tokens t front) more
tokens_behind t [] more = refl
tokens_behind t (token ∷ front) more = tokens_behind (after_token t token) front more

-- no token passes a limit, where this has begun before
abbrev pub StaysWithin : Tally → List Marked → Type 0
StaysWithin t [] = ⊤
StaysWithin t (token ∷ tokens) = IsWithin (after_token t token) × StaysWithin (after_token t token) tokens

-- ---- token by token

stays_within : (t : Tally) (tokens : List Marked) →
    ((n : ℕ) → n < length tokens → IsWithin (after_tokens t (take (n + 1) tokens))) → StaysWithin t tokens
stays_within t [] each = tt
stays_within t (token ∷ tokens) each = (
  each 0 (omega arith),
  stays_within (after_token t token) tokens (λ n less.
      let one_more : suc n + 1 ≡ suc (n + 1) = omega arith in
      subst (λ k. IsWithin (after_tokens t (take k (token ∷ tokens)))) one_more (each (suc n) (omega (arith, less)))),
)

each_within : (t : Tally) (tokens : List Marked) → StaysWithin t tokens → (n : ℕ) → n < length tokens →
    IsWithin (after_tokens t (take (n + 1) tokens))
each_within t [] within n less = absurd (omega (arith, less))
each_within t (token ∷ tokens) within zero less = within.0
each_within t (token ∷ tokens) within (suc n) less =
    let one_more : suc (n + 1) ≡ suc n + 1 = omega arith in
    subst (λ k. IsWithin (after_tokens t (take k (token ∷ tokens)))) one_more
    (each_within (after_token t token) tokens within.1 n (omega (arith, less)))

-- the tokens of a program within the limits, and the other way
pub program_stays : (program : ProgramPhrase) → IsWithinLimits program → StaysWithin tally_at_start (spelling program)
program_stays program within = stays_within tally_at_start (spelling program) within

pub stays_program : (program : ProgramPhrase) → StaysWithin tally_at_start (spelling program) → IsWithinLimits program
stays_program program within = each_within tally_at_start (spelling program) within

-- ---- in parts

pub within_parts : (t : Tally) (front more : List Marked) → StaysWithin t (front ++ more) →
    StaysWithin t front × StaysWithin (after_tokens t front) more
within_parts t [] more within = (tt, within)
within_parts t (token ∷ front) more within =
    let rest = within_parts (after_token t token) front more within.1 in ((within.0, rest.0), rest.1)

pub within_joined : (t : Tally) (front more : List Marked) → StaysWithin t front →
    StaysWithin (after_tokens t front) more → StaysWithin t (front ++ more)
within_joined t [] more one two = two
within_joined t (token ∷ front) more one two = (one.0, within_joined (after_token t token) front more one.1 two)

-- ---- from the start to the end

pub within_at_start : IsWithin tally_at_start
within_at_start = record { nesting = λ deep. omega (arith, deep); counts = none_at_start }
  where
    none_at_start : (what : What) → ¬ HasTooMany what tally_at_start
    none_at_start counted.Fields many = omega (arith, many)
    none_at_start counted.Methods many = omega (arith, many)
    none_at_start counted.Parameters many = omega (arith, many)
    none_at_start counted.Locals many = omega (arith, many)
    none_at_start counted.Statements many = omega (arith, many)
    none_at_start counted.Nodes many = omega (arith, many)
    none_at_start counted.Elements (inl many) = omega (arith, many)
    none_at_start counted.Elements (inr many) = omega (arith, many)

pub within_at_end : (t : Tally) (tokens : List Marked) → IsWithin t → StaysWithin t tokens →
    IsWithin (after_tokens t tokens)
within_at_end t [] first within = first
within_at_end t (token ∷ tokens) first within = within_at_end (after_token t token) tokens within.0 within.1
