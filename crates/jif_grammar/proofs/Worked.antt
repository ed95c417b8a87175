-- Whole token lists that are programs, and some that are refused: at the last number that is allowed and at the first
-- that is not.
use Rattle.std.proofs.Common.{◌≡◌, ◌≢◌, ℕ, zero, suc, ◌<◌, ◌≤◌, true, List, [], ◌∷◌, ◌++◌, length, take, drop, codes}
use Rattle.std.proofs.Common.{refl, ap, sym, ◌∙◌, Option, Some, None, arith}
use Rattle.std.proofs.lemmas.List.{map-append}
use Rattle.jif_lex.specs.declared.token.Token.{Token}
use Rattle.jif_lex.specs.declared.token.TokenKind.{TokenKind}
use Rattle.jif_lex.specs.declared.token.Symbol.TheVariants as symbols
use Rattle.label_lattice.specs.Written.{symbol, kinds, policy}
use Rattle.jif_grammar.specs.declared.what.What.{What}
use Rattle.jif_grammar.specs.declared.what.What.TheVariants as counted
use Rattle.jif_grammar.specs.Phrases.{LabelPhrase, ExprPhrase, number, parenthesized, BlockPhrase, end, assignment}
use Rattle.jif_grammar.specs.Phrases.{unset, ParamPhrase, ItemPhrase, field, method, ProgramPhrase}
use Rattle.jif_grammar.specs.Marks.{Marked, plain, tally_at_start, HasTooMany}
use Rattle.jif_grammar.specs.Spelling.{spelling}
use Rattle.jif_grammar.specs.Grouping.{IsProgram, IsGrouped}
use Rattle.jif_grammar.specs.Drafts.{draft_of}
use Rattle.jif_grammar.specs.Programs.{token_kinds, Spells, IsProgramOf, IsRefused, unexpected}
use Rattle.jif_grammar.specs.Programs.{too_deep, too_many, line_at, rank_of_what, tally_at}
use Rattle.jif_grammar.proofs.Marked.{spelled_program}
use Rattle.jif_grammar.specs.Unmarked.{head_then, tail_then, item_then, program_then}
use Rattle.jif_grammar.proofs.Continued.{program_unmarked}
use Rattle.jif_grammar.proofs.Continued.{unmarked_program}
use Rattle.jif_grammar.proofs.OneProgram.{rest_of_program}
use Rattle.jif_grammar.proofs.Refusing.{unexpected_at, too_deep_at, too_many_at}
use Rattle.jif_grammar.proofs.Within.{are_within, within_up_to}

-- ---- token lists of programs

-- tokens of these kinds, on one line
abbrev tokens_of : List TokenKind → List Token
tokens_of [] = []
tokens_of (kind ∷ others) = record { kind = kind; at = 0; line = 1 } ∷ tokens_of others

kinds_of : (list : List TokenKind) → kinds (tokens_of list) ≡ list
kinds_of [] = refl
kinds_of (kind ∷ others) = ap (λ ts. kind ∷ ts) (kinds_of others)

abbrev tokens_of_program : ProgramPhrase → List Token
tokens_of_program program = tokens_of (token_kinds (spelling program))

accepted : (program : ProgramPhrase) → IsProgram program → length (spelling program) ≤ length (spelling program) →
    are_within tally_at_start (take (length (spelling program)) (spelling program)) ≡ true →
    IsProgramOf (tokens_of_program program) (draft_of (line_at (tokens_of_program program)) program)
accepted program sound whole within = record {
  program = program;
  text = record {
    spells = record { is_program = sound; written = kinds_of (token_kinds (spelling program)) };
    limits = within_up_to program (length (spelling program)) whole within;
  };
  draft_is = refl;
}

abbrev main : List ParamPhrase → BlockPhrase → ItemPhrase
main params body = method (record {
  kind = None;
  name = codes "main";
  begin = [];
  params = params;
  authority = [];
  body = body;
  result = None;
})

-- ---- a program, and the same without its last brace

-- `int{Alice:} a; int{Bob:} b; void main{}() { a = 1; b = 2; }`
abbrev two_assignments : ProgramPhrase
two_assignments =
    field (record { label = policy (codes "Alice") [] ∷ []; name = codes "a"; ending = unset })
    ∷ field (record { label = policy (codes "Bob") [] ∷ []; name = codes "b"; ending = unset })
    ∷ main [] (assignment (codes "a") (number 1) (assignment (codes "b") (number 2) end)) ∷ []

its_phrases : IsProgram two_assignments
its_phrases = ((tt, tt), ((tt, tt), ((tt, tt, tt, (tt, (tt, tt)), tt), tt)))

it_is_a_program : IsProgramOf (tokens_of_program two_assignments)
    (draft_of (line_at (tokens_of_program two_assignments)) two_assignments)
it_is_a_program = accepted two_assignments its_phrases (omega arith) refl

brace_no_item : (item : ItemPhrase) (r t : List TokenKind) → (symbol symbols.RightBrace ∷ t) ≢ item_then item r
brace_no_item (field phrase) r t same = cc
brace_no_item (method phrase) r t same = by_kind phrase.kind same
  where
    by_kind : (kind : Option LabelPhrase) → (symbol symbols.RightBrace ∷ t)
        ≢ head_then kind phrase.name phrase.begin (tail_then phrase r)
    by_kind None is = cc
    by_kind (Some label) is = cc

brace_no_program : (program : ProgramPhrase) → (symbol symbols.RightBrace ∷ []) ≢ program_then program []
brace_no_program [] same = cc
brace_no_program (item ∷ items) same = brace_no_item item (program_then items []) [] same

-- a program without its last brace is no program
no_program_cut : (program : ProgramPhrase) (tokens : List Token) → IsProgram program →
    kinds tokens ++ symbol symbols.RightBrace ∷ [] ≡ token_kinds (spelling program) → (other : ProgramPhrase) →
    ¬ Spells tokens other
no_program_cut program tokens sound written other spells =
    let brace : List Marked = plain 0 (symbol symbols.RightBrace) ∷ [] in
    let whole : program_then other (symbol symbols.RightBrace ∷ []) ≡ program_then program [] =
    sym (unmarked_program other brace) ∙ ap token_kinds (sym (spelled_program other brace))
    ∙ map-append (λ token. token.kind) (spelling other) brace
    ∙ ap (λ ts. ts ++ symbol symbols.RightBrace ∷ []) (sym spells.written) ∙ written ∙ program_unmarked program in
    let rest = rest_of_program other program (symbol symbols.RightBrace ∷ []) spells.is_program sound whole in
    brace_no_program rest.0 rest.1

abbrev cut : List Token
cut = take 29 (tokens_of_program two_assignments)

cut_is_refused : IsRefused cut (unexpected 29)
cut_is_refused =
    unexpected_at cut 29 two_assignments (omega arith) (record {
      is_program = its_phrases;
      rest = symbol symbols.RightBrace ∷ [];
      written = refl;
    }) (within_up_to two_assignments 29 (omega arith) refl) (λ less. absurd (omega (arith, less)))
    (λ other whole. no_program_cut two_assignments cut its_phrases refl other)

-- ---- eight parameters, and nine

abbrev params : ℕ → List ParamPhrase
params zero = []
params (suc n) = record { label = []; name = codes "p" } ∷ params n

abbrev with_params : ℕ → ProgramPhrase
with_params n = main (params n) end ∷ []

eight_parameters : IsProgramOf (tokens_of_program (with_params 8))
    (draft_of (line_at (tokens_of_program (with_params 8))) (with_params 8))
eight_parameters = accepted (with_params 8) ((tt, tt, (tt, (tt, (tt, (tt, (tt, (tt, (tt, (tt, tt)))))))), tt, tt), tt)
    (omega arith) refl

-- the ninth begins at token 45
nine_parameters : IsRefused (tokens_of_program (with_params 9)) (too_many counted.Parameters 45)
nine_parameters =
    too_many_at (tokens_of_program (with_params 9)) 45 (with_params 9) counted.Parameters (omega arith) (record {
      is_program = ((tt, tt, (tt, (tt, (tt, (tt, (tt, (tt, (tt, (tt, (tt, tt))))))))), tt, tt), tt);
      rest = token_kinds (drop 46 (spelling (with_params 9)));
      written = refl;
    }) (within_up_to (with_params 9) 45 (omega arith) refl) (omega arith) (λ deep. omega (arith, deep)) fewer
  where
    fewer : (other : What) → rank_of_what other < 3 → ¬ HasTooMany other (tally_at (with_params 9) 45)
    fewer counted.Methods lower many = omega (arith, many)
    fewer counted.Statements lower many = omega (arith, many)
    fewer counted.Parameters lower many = omega (arith, lower)
    fewer counted.Locals lower many = omega (arith, lower)
    fewer counted.Nodes lower many = omega (arith, lower)
    fewer counted.Fields lower many = omega (arith, lower)
    fewer counted.Elements lower many = omega (arith, lower)

-- ---- 64 parentheses, and 65

abbrev nested : ℕ → ExprPhrase
nested zero = number 1
nested (suc n) = parenthesized (nested n)

nested_grouped : (n : ℕ) → IsGrouped (nested n)
nested_grouped zero = tt
nested_grouped (suc n) = nested_grouped n

abbrev with_nesting : ℕ → ProgramPhrase
with_nesting n = main [] (assignment (codes "x") (nested n) end) ∷ []

nesting_64 : IsProgramOf (tokens_of_program (with_nesting 64))
    (draft_of (line_at (tokens_of_program (with_nesting 64))) (with_nesting 64))
nesting_64 = accepted (with_nesting 64) ((tt, tt, tt, (nested_grouped 64, tt), tt), tt) (omega arith) refl

-- the first parenthesis is token 9, and the 65th token 73
nesting_65 : IsRefused (tokens_of_program (with_nesting 65)) (too_deep 73)
nesting_65 =
    too_deep_at (tokens_of_program (with_nesting 65)) 73 (with_nesting 65) (omega arith) (record {
      is_program = ((tt, tt, tt, (nested_grouped 65, tt), tt), tt);
      rest = token_kinds (drop 74 (spelling (with_nesting 65)));
      written = refl;
    }) (within_up_to (with_nesting 65) 73 (omega arith) refl) (omega arith)
