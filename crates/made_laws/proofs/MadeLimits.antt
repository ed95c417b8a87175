-- The program that is made as phrases of the grammar, and that it passes no limit.
use Rattle.std.proofs.Common.{◌≡◌, ℕ, pos, ◌+◌, ◌<◌, ◌≤◌, ◌&&◌, Bool, true, false, List, [], ◌∷◌, ◌++◌, length}
use Rattle.std.proofs.Common.{codes, refl, ap, sym, subst, arith, Option, Some, None, inl, inr}
use Rattle.std.proofs.lemmas.Bool.{and_parts}
use Rattle.std.proofs.lemmas.List.{append-nil}
use Rattle.jif_lex.specs.declared.token.Symbol.TheVariants.{LeftParenthesis, RightParenthesis, LeftBrace, RightBrace}
use Rattle.jif_lex.specs.declared.token.Symbol.TheVariants.{Assign, Plus, Semicolon}
use Rattle.jif_lex.specs.declared.token.TokenKind.TheVariants.{Name, Number}
use Rattle.js_base.specs.declared.binary_operator.BinOp.TheVariants as operator
use Rattle.js_base.specs.declared.limits.TheConstants.{STATEMENTS}
use Rattle.jif_lex.specs.declared.token.TokenKind.{TokenKind}
use Rattle.jif_lex.specs.Spelled.{spelled_kinds}
use Rattle.label_lattice.specs.Written.{policy, trust, symbol}
use Rattle.jif_grammar.specs.declared.what.What.{What}
use Rattle.jif_grammar.specs.declared.what.What.TheVariants as counted
use Rattle.jif_grammar.specs.Phrases.{LabelPhrase, ExprPhrase, number, variable, binary, BlockPhrase, end, assignment}
use Rattle.jif_grammar.specs.Phrases.{unset, field, method, MethodPhrase, ProgramPhrase}
use Rattle.jif_grammar.specs.Grouping.{IsBlock, IsProgram}
use Rattle.jif_grammar.specs.Marks.{Marked, plain, Tally, tally_at_start, after_token, after_tokens, HasTooMany}
use Rattle.jif_grammar.specs.Spelling.{block_spelling, item_spelling, head_spelling}
use Rattle.jif_grammar.specs.Unmarked.{program_then, block_then}
use Rattle.jif_grammar.specs.Programs.{IsWithin, IsWithinLimits}
use Rattle.jif_grammar.specs.Verdicts.{excess}
use Rattle.jif_grammar.proofs.ExcessOf.{IsFirst, excess_first}
use Rattle.jif_grammar.proofs.StaysWithin.{StaysWithin, stays_program, within_joined}
use Rattle.made_laws.specs.MadePrograms.{made_field}
use Rattle.made_laws.proofs.MadeTokens.{statements_parts, head_parts}

-- ---- phrases

abbrev pub alice_label : LabelPhrase
alice_label = policy (codes "Alice") [] ∷ trust (codes "Alice" ∷ []) ∷ []

abbrev pub bob_label : LabelPhrase
bob_label = policy (codes "Bob") [] ∷ trust (codes "Bob" ∷ []) ∷ []

abbrev pub both_label : LabelPhrase
both_label = trust (codes "Alice" ∷ codes "Bob" ∷ []) ∷ []

abbrev pub made_value : ℕ → ExprPhrase
made_value n = binary operator.Add (variable (made_field n)) (number n)

abbrev pub made_block : List ℕ → BlockPhrase
made_block [] = end
made_block (n ∷ numbers) = assignment (made_field n) (made_value n) (made_block numbers)

abbrev pub made_method : List ℕ → MethodPhrase
made_method numbers = record {
  kind = None;
  name = codes "main";
  begin = both_label;
  params = [];
  authority = [];
  body = made_block numbers;
  result = None;
}

abbrev pub made_phrases : List ℕ → ProgramPhrase
made_phrases numbers =
    field (record { label = alice_label; name = codes "a"; ending = unset })
    ∷ field (record { label = bob_label; name = codes "b"; ending = unset })
    ∷ method (made_method numbers) ∷ []

-- ---- they are those of a program

block_grouped : (numbers : List ℕ) → IsBlock (made_block numbers)
block_grouped [] = tt
block_grouped (n ∷ numbers) = ((omega arith, omega arith, tt, tt), block_grouped numbers)

pub phrases_grouped : (numbers : List ℕ) → IsProgram (made_phrases numbers)
phrases_grouped numbers = ((refl, tt), ((refl, tt), ((tt, refl, tt, block_grouped numbers, tt), tt)))

-- ---- their tokens are those of the text

block_written : (numbers : List ℕ) →
    spelled_kinds (statements_parts numbers) ≡ block_then (made_block numbers) (spelled_kinds (statements_parts []))
block_written [] = refl
block_written (n ∷ numbers) =
    ap (λ (rest : List TokenKind). Name (made_field n) ∷ symbol Assign ∷ Name (made_field n) ∷ symbol Plus
    ∷ Number (pos n) ∷ symbol Semicolon ∷ rest) (block_written numbers)

pub phrases_written : (numbers : List ℕ) →
    spelled_kinds (head_parts (statements_parts numbers)) ≡ program_then (made_phrases numbers) []
phrases_written numbers = ap (λ rest. spelled_kinds (head_parts []) ++ rest) (block_written numbers)

-- ---- limits

within_where : (t : Tally) → excess t ≡ None → IsWithin t
within_where t is = subst (λ found. IsFirst t found) is (excess_first t)

abbrev is_none : {X : Type 0} → Option X → Bool
is_none None = true
is_none (Some x) = false

-- no limit is passed at any of the tokens, as far as that can be computed
abbrev has_no_excess : Tally → List Marked → Bool
has_no_excess t [] = true
has_no_excess t (token ∷ tokens) = is_none (excess (after_token t token)) && has_no_excess (after_token t token) tokens

none_of : {X : Type 0} (found : Option X) → is_none found ≡ true → found ≡ None
none_of None is = refl
none_of (Some x) is = let never : ⊥ = cc in absurd never

stays_where : (t : Tally) (tokens : List Marked) → has_no_excess t tokens ≡ true → StaysWithin t tokens
stays_where t [] is = tt
stays_where t (token ∷ tokens) is =
    let both = and_parts (is_none (excess (after_token t token))) (has_no_excess (after_token t token) tokens) is in (
      within_where (after_token t token) (none_of (excess (after_token t token)) both.0),
      stays_where (after_token t token) tokens both.1,
    )

-- what has begun where so many statements have, and of the last so many nodes
abbrev during : (statements nodes : ℕ) → Tally
during statements nodes = record {
  nesting = 0;
  methods = 1;
  statements = statements;
  parameters = 0;
  variables = 0;
  nodes = nodes;
  fields = 2;
  size = 0;
  elements = 2;
}

within_during : (statements nodes : ℕ) → statements ≤ STATEMENTS → nodes ≤ 3 → IsWithin (during statements nodes)
within_during statements nodes some few = record { nesting = λ deep. omega (arith, deep); counts = none }
  where
    none : (what : What) → ¬ HasTooMany what (during statements nodes)
    none counted.Fields many = omega (arith, many)
    none counted.Methods many = omega (arith, many)
    none counted.Parameters many = omega (arith, many)
    none counted.Locals many = omega (arith, many)
    none counted.Statements many = omega (arith, many, some)
    none counted.Nodes many = omega (arith, many, few)
    none counted.Elements (inl many) = omega (arith, many)
    none counted.Elements (inr many) = omega (arith, many)

block_stays : (statements nodes : ℕ) (numbers : List ℕ) → statements + length numbers ≤ STATEMENTS →
    StaysWithin (during statements nodes) (block_spelling 0 (made_block numbers))
block_stays statements nodes [] few = tt
block_stays statements nodes (n ∷ numbers) few =
    let within : (k : ℕ) → k ≤ 3 → IsWithin (during (statements + 1) k) =
    λ k small. within_during (statements + 1) k (omega (arith, few)) small in (
      within 0 (omega arith),
      (
        within 0 (omega arith),
        (
          within 1 (omega arith),
          (
            within 2 (omega arith),
            (
              within 3 (omega arith),
              (
                within 3 (omega arith),
                block_stays (statements + 1) 3 numbers (omega (arith, few)),
              ),
            ),
          ),
        ),
      ),
    )

block_ends : (statements nodes : ℕ) (numbers : List ℕ) → statements + length numbers ≤ STATEMENTS → nodes ≤ 3 →
    StaysWithin (after_tokens (during statements nodes) (block_spelling 0 (made_block numbers)))
    (plain 0 (symbol RightBrace) ∷ [])
block_ends statements nodes [] few small = (within_during statements nodes (omega (arith, few)) small, tt)
block_ends statements nodes (n ∷ numbers) few small =
    block_ends (statements + 1) 3 numbers (omega (arith, few)) (omega arith)

-- the tokens up to the statements
abbrev head_marks : List Marked
head_marks =
    item_spelling (field (record { label = alice_label; name = codes "a"; ending = unset }))
    ++ (item_spelling (field (record { label = bob_label; name = codes "b"; ending = unset }))
    ++ (head_spelling None (codes "main") both_label
    ++ plain 0 (symbol LeftParenthesis) ∷ plain 0 (symbol RightParenthesis) ∷ plain 0 (symbol LeftBrace) ∷ []))

pub phrases_within : (numbers : List ℕ) → length numbers < STATEMENTS → IsWithinLimits (made_phrases numbers)
phrases_within numbers few =
    let block = block_spelling 0 (made_block numbers) in
    let end = plain 0 (symbol RightBrace) ∷ [] in
    let whole = append-nil block in
    let stays : StaysWithin (during 1 0) (block ++ []) =
    subst (λ tokens. StaysWithin (during 1 0) tokens) (sym whole) (block_stays 1 0 numbers (omega (arith, few))) in
    let ends : StaysWithin (after_tokens (during 1 0) (block ++ [])) end =
    subst (λ tokens. StaysWithin (after_tokens (during 1 0) tokens) end) (sym whole)
    (block_ends 1 0 numbers (omega (arith, few)) (omega arith)) in
    stays_program (made_phrases numbers)
    (within_joined tally_at_start head_marks (block ++ [] ++ end ++ []) (stays_where tally_at_start head_marks refl)
    (within_joined (during 1 0) (block ++ [] ++ end) [] (within_joined (during 1 0) (block ++ []) end stays ends) tt))
