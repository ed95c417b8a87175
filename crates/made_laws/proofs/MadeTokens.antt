-- The text of a program that is made, as spellings of tokens, and the tokens that it has.
use Rattle.std.proofs.Common.{◌≡◌, ℕ, zero, suc, pos, ◌+◌, ◌*◌, ◌^◌, ◌%◌, ◌==◌, ◌<◌, ◌≤◌, ◌≤ℤ◌, Bool, true, false}
use Rattle.std.proofs.Common.{List, [], ◌∷◌, ◌++◌}
use Rattle.std.proofs.Common.{length, map, codes, refl, ap, ◌∙◌, arith, append_assoc, length-append, if◌then◌else◌}
use Rattle.std.specs.List.{range_with_len, AllByRecursion}
use Rattle.std.specs.Fmt.{decimal}
use Rattle.std.proofs.lemmas.Fmt.{length-decimal-le}
use Rattle.std.proofs.lemmas.List.FromFn.{length-range_with_len}
use Rattle.std.proofs.lemmas.Int.{ints}
use Rattle.js_base.specs.Name.{IsName}
use Rattle.js_base.specs.declared.limits.TheConstants.{LARGEST_NUMBER, PROGRAM_BYTES, STATEMENTS}
use Rattle.jif_lex.specs.declared.token.TokenKind.TheVariants.{Name, Number, Word, Symbol}
use Rattle.jif_lex.specs.declared.token.Word.TheVariants as word
use Rattle.jif_lex.specs.declared.token.Word as words
use Rattle.jif_lex.specs.declared.token.Symbol.TheVariants as symbol
use Rattle.jif_lex.specs.declared.token.Symbol as symbols
use Rattle.jif_lex.specs.Spelled.{Spelled, token_part, space_part, line_end_part, spelled_text}
use Rattle.jif_lex.specs.Spelled.{AreApart}
use Rattle.made_laws.specs.MadePrograms.{text_of, made_field, made_statement, made_statements, made_head}
use Rattle.made_laws.specs.MadePrograms.{made_program}

-- ---- parts of a text

abbrev said : symbols.Symbol → Spelled
said written = token_part (Symbol written)

abbrev said_word : words.Word → Spelled
said_word written = token_part (Word written)

abbrev said_name : List ℕ → Spelled
said_name name = token_part (Name name)

-- ---- the head

abbrev pub alice_field_parts : List Spelled → List Spelled
alice_field_parts rest =
    said_word word.Int ∷ said symbol.LeftBrace ∷ said_name (codes "Alice") ∷ said symbol.Colon ∷
    said symbol.Semicolon ∷ space_part ∷ said symbol.Question ∷ said symbol.Colon ∷ said_name (codes "Alice") ∷
    said symbol.RightBrace ∷ space_part ∷ said_name (codes "a") ∷ said symbol.Semicolon ∷ line_end_part ∷ rest

alice_field_apart : (rest : List Spelled) → AreApart rest → AreApart (alice_field_parts rest)
alice_field_apart rest is = (
  tt,
  refl,
  (
    tt,
    refl,
    (
      refl,
      refl,
      (
        tt,
        refl,
        (
          tt,
          refl,
          (
            tt,
            refl,
            (
              tt,
              refl,
              (
                refl,
                refl,
                (
                  tt,
                  refl,
                  (
                    refl,
                    refl,
                    (tt, refl, is),
                  ),
                ),
              ),
            ),
          ),
        ),
      ),
    ),
  ),
)

abbrev pub bob_field_parts : List Spelled → List Spelled
bob_field_parts rest =
    said_word word.Int ∷ said symbol.LeftBrace ∷ said_name (codes "Bob") ∷ said symbol.Colon ∷
    said symbol.Semicolon ∷ space_part ∷ said symbol.Question ∷ said symbol.Colon ∷ said_name (codes "Bob") ∷
    said symbol.RightBrace ∷ space_part ∷ said_name (codes "b") ∷ said symbol.Semicolon ∷ line_end_part ∷ rest

bob_field_apart : (rest : List Spelled) → AreApart rest → AreApart (bob_field_parts rest)
bob_field_apart rest is = (
  tt,
  refl,
  (
    tt,
    refl,
    (
      refl,
      refl,
      (
        tt,
        refl,
        (
          tt,
          refl,
          (
            tt,
            refl,
            (
              tt,
              refl,
              (
                refl,
                refl,
                (
                  tt,
                  refl,
                  (
                    refl,
                    refl,
                    (tt, refl, is),
                  ),
                ),
              ),
            ),
          ),
        ),
      ),
    ),
  ),
)

abbrev pub main_parts : List Spelled → List Spelled
main_parts rest =
    said_word word.Void ∷ space_part ∷ said_name (codes "main") ∷ said symbol.LeftBrace ∷ said symbol.Question ∷
    said symbol.Colon ∷ said_name (codes "Alice") ∷ said symbol.Comma ∷ space_part ∷ said_name (codes "Bob") ∷
    said symbol.RightBrace ∷ said symbol.LeftParenthesis ∷ said symbol.RightParenthesis ∷ space_part ∷
    said symbol.LeftBrace ∷ line_end_part ∷ rest

main_apart : (rest : List Spelled) → AreApart rest → AreApart (main_parts rest)
main_apart rest is = (
  tt,
  refl,
  (
    refl,
    refl,
    (
      tt,
      refl,
      (
        tt,
        refl,
        (
          tt,
          refl,
          (
            refl,
            refl,
            (
              tt,
              refl,
              (
                refl,
                refl,
                (
                  tt,
                  refl,
                  (
                    tt,
                    refl,
                    (tt, refl, (tt, refl, is)),
                  ),
                ),
              ),
            ),
          ),
        ),
      ),
    ),
  ),
)

abbrev pub alice_label_parts : List Spelled
alice_label_parts =
    said symbol.LeftBrace ∷ said_name (codes "Alice") ∷ said symbol.Colon ∷ said symbol.Semicolon ∷ space_part ∷
    said symbol.Question ∷ said symbol.Colon ∷ said_name (codes "Alice") ∷ said symbol.RightBrace ∷ []

pub alice_label_apart : AreApart alice_label_parts
alice_label_apart =
    (tt, refl, (refl, refl, (tt, refl, (tt, refl, (tt, refl, (tt, refl, (refl, refl, (tt, refl, tt))))))))

abbrev pub bob_label_parts : List Spelled
bob_label_parts =
    said symbol.LeftBrace ∷ said_name (codes "Bob") ∷ said symbol.Colon ∷ said symbol.Semicolon ∷ space_part ∷
    said symbol.Question ∷ said symbol.Colon ∷ said_name (codes "Bob") ∷ said symbol.RightBrace ∷ []

pub bob_label_apart : AreApart bob_label_parts
bob_label_apart =
    (tt, refl, (refl, refl, (tt, refl, (tt, refl, (tt, refl, (tt, refl, (refl, refl, (tt, refl, tt))))))))

abbrev pub both_label_parts : List Spelled
both_label_parts =
    said symbol.LeftBrace ∷ said symbol.Question ∷ said symbol.Colon ∷ said_name (codes "Alice") ∷
    said symbol.Comma ∷ space_part ∷ said_name (codes "Bob") ∷ said symbol.RightBrace ∷ []

pub both_label_apart : AreApart both_label_parts
both_label_apart =
    (tt, refl, (tt, refl, (tt, refl, (refl, refl, (tt, refl, (refl, refl, (tt, refl, tt)))))))

abbrev pub head_parts : List Spelled → List Spelled
head_parts rest = alice_field_parts (bob_field_parts (main_parts rest))

pub head_apart : (rest : List Spelled) → AreApart rest → AreApart (head_parts rest)
head_apart rest is =
    alice_field_apart (bob_field_parts (main_parts rest)) (bob_field_apart (main_parts rest) (main_apart rest is))

head_spelled : (rest : List Spelled) (behind : List (List ℕ)) → text_of behind ≡ spelled_text rest →
    text_of (made_head ++ behind) ≡ spelled_text (head_parts rest)
head_spelled rest behind is = ap (λ (text : List ℕ). text_of made_head ++ text) is

-- ---- statements

abbrev pub statement_parts : ℕ → List Spelled → List Spelled
statement_parts number rest =
    said_name (made_field number) ∷ space_part ∷ said symbol.Assign ∷ space_part
    ∷ said_name (made_field number) ∷ space_part ∷ said symbol.Plus ∷ space_part
    ∷ token_part (Number (pos number)) ∷ said symbol.Semicolon ∷ line_end_part ∷ rest

-- the statements of these numbers, and the end of the method
abbrev pub statements_parts : List ℕ → List Spelled
statements_parts [] = said symbol.RightBrace ∷ line_end_part ∷ []
statements_parts (number ∷ numbers) = statement_parts number (statements_parts numbers)

is_field_name : (even : Bool) → IsName (if even then codes "a" else codes "b")
is_field_name true = refl
is_field_name false = refl

-- the numbers are numbers of the language
abbrev pub AreSmall : List ℕ → Type 0
AreSmall numbers = AllByRecursion (λ number. pos number ≤ℤ LARGEST_NUMBER) numbers

pub statements_apart : (numbers : List ℕ) → AreSmall numbers → AreApart (statements_parts numbers)
statements_apart [] small = (tt, refl, tt)
statements_apart (number ∷ numbers) small = (
  is_field_name (number % 2 == 0),
  refl,
  (
    tt,
    refl,
    (
      is_field_name (number % 2 == 0),
      refl,
      (
        tt,
        refl,
        ((omega (arith, ints), small.0), refl, (tt, refl, statements_apart numbers small.1)),
      ),
    ),
  ),
)

statement_spelled : (field digits rest : List ℕ) →
    (field ++ codes " = " ++ field ++ codes " + " ++ digits ++ codes ";" ++ codes "\n") ++ rest
    ≡ field ++ (codes " = " ++ (field ++ (codes " + " ++ (digits ++ (codes ";\n" ++ rest)))))
statement_spelled field digits rest = simp append_assoc refl

statements_spelled : (numbers : List ℕ) →
    text_of (map made_statement numbers ++ codes "}" ∷ []) ≡ spelled_text (statements_parts numbers)
statements_spelled [] = refl
statements_spelled (number ∷ numbers) =
    statement_spelled (made_field number) (decimal number) (text_of (map made_statement numbers ++ codes "}" ∷ []))
    ∙ ap (λ (rest : List ℕ). made_field number ++ (codes " = " ++ (made_field number ++ (codes " + "
    ++ (decimal number ++ (codes ";\n" ++ rest)))))) (statements_spelled numbers)

-- ---- the program

abbrev pub program_parts : ℕ → List Spelled
program_parts statements = head_parts (statements_parts (range_with_len 0 statements))

pub program_spelled : (statements : ℕ) → made_program statements ≡ spelled_text (program_parts statements)
program_spelled statements =
    head_spelled (statements_parts (range_with_len 0 statements)) (made_statements statements ++ codes "}" ∷ [])
    (statements_spelled (range_with_len 0 statements))

-- ---- its size

-- the numbers are below a bound
abbrev pub AreBelow : ℕ → List ℕ → Type 0
AreBelow bound numbers = AllByRecursion (λ number. number < bound) numbers

pub range_below : (first count bound : ℕ) → first + count ≤ bound → AreBelow bound (range_with_len first count)
range_below first zero bound within = tt
range_below first (suc count) bound within =
    (omega (arith, within), range_below (first + 1) count bound (omega (arith, within)))

pub small_below : (bound : ℕ) (numbers : List ℕ) → bound ≤ 10 ^ 4 → AreBelow bound numbers → AreSmall numbers
small_below bound [] few below = tt
small_below bound (number ∷ numbers) few below =
    (omega (arith, ints, few, below.0), small_below bound numbers few below.1)

field_length : (even : Bool) → length (if even then codes "a" else codes "b") ≡ 1
field_length true = refl
field_length false = refl

statement_length : (field digits rest : List ℕ) →
    length (field ++ (codes " = " ++ (field ++ (codes " + " ++ (digits ++ (codes ";\n" ++ rest))))))
    ≡ 2 * length field + 8 + length digits + length rest
statement_length field digits rest = grind (arith, length-append)

statements_length : (numbers : List ℕ) → AreBelow (10 ^ 4) numbers →
    length (spelled_text (statements_parts numbers)) ≤ 14 * length numbers + 2
statements_length [] below = omega arith
statements_length (number ∷ numbers) below =
    let digits = length-decimal-le 4 number (omega arith) below.0 (omega (arith, below.0)) in
    omega (
      arith,
      digits,
      field_length (number % 2 == 0),
      statements_length numbers below.1,
      statement_length (made_field number) (decimal number) (spelled_text (statements_parts numbers)),
    )

head_length : (rest : List Spelled) → length (spelled_text (head_parts rest)) ≡ length (spelled_text rest) + 72
head_length rest = omega arith

-- the text of so many statements is no longer than a program may be
pub program_short : (statements : ℕ) → statements < STATEMENTS → length (made_program statements) ≤ PROGRAM_BYTES
program_short statements less =
    let numbers = range_with_len 0 statements in
    let rest = statements_length numbers (range_below 0 statements (10 ^ 4) (omega (arith, less))) in
    omega (
      arith,
      less,
      rest,
      ap length (program_spelled statements),
      head_length (statements_parts numbers),
      length-range_with_len 0 statements,
    )

pub program_apart : (statements : ℕ) → statements < STATEMENTS → AreApart (program_parts statements)
program_apart statements less =
    let numbers = range_with_len 0 statements in
    head_apart (statements_parts numbers) (statements_apart numbers
    (small_below (10 ^ 4) numbers (omega arith) (range_below 0 statements (10 ^ 4) (omega (arith, less)))))
