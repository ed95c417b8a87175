-- Each text has a reading.
use Rattle.std.proofs.Common.{◌≡◌, ◌≢◌, ℕ, zero, suc, pos, ◌≤ℤ◌, ◌<ℤ◌, ◌+◌, ◌^◌, ◌<◌, ◌≤◌, ◌⊎◌, ◌∙◌, sym, ap, refl}
use Rattle.std.proofs.Common.{subst}
use Rattle.std.proofs.Common.{inl, inr, Bool, true, false, List, [], ◌∷◌, ◌++◌, length, take, drop, get_or, codes}
use Rattle.std.proofs.Common.{arith}
use Rattle.std.specs.Prelude.{IsTrue, ◌==◌}
use Rattle.std.specs.Char.{is_ascii_digit}
use Rattle.std.specs.List.{prefix_len, position_or_len}
use Rattle.std.specs.Str.Parse.{digits_value}
use Rattle.std.proofs.lemmas.Bool.{cases_Bool, cases_eq, cases_lt, false≢true}
use Rattle.std.proofs.lemmas.Bool.Decides.{nat_tests}
use Rattle.std.proofs.lemmas.Int.{ints}
use Rattle.std.proofs.lemmas.List.{length-append, take-append-drop}
use Rattle.std.proofs.lemmas.List.Sums.{prefix_len-le-length}
use Rattle.js_base.specs.Name.{starts_name, continues_name}
use Rattle.js_base.specs.declared.limits.TheConstants.{LARGEST_NUMBER, PROGRAM_BYTES}
use Rattle.jif_lex.specs.declared.lexer.LexError.{LexError}
use Rattle.jif_lex.specs.declared.lexer.LexError.TheVariants.{OutOfMemory, BadByte, BadNumber, TooLong}
use Rattle.jif_lex.specs.declared.token.Token.{Token}
use Rattle.jif_lex.specs.declared.token.TokenKind.{TokenKind}
use Rattle.jif_lex.specs.declared.token.TokenKind.TheVariants as token
use Rattle.jif_lex.specs.Tokens.{FirstIs, IsBlank, OpensComment, Piece, skipped, lexeme, piece_text, IsPieceBefore}
use Rattle.jif_lex.specs.Tokens.{CutsTo, tokens_of, pieces_length, BeginsBadNumber, BeginsBadByte, Reading, tokens}
use Rattle.jif_lex.specs.Tokens.{bad_byte, bad_number, ReadsAs}
use Rattle.jif_lex.specs.Lexing.{HasFront, LacksFront, IsSkipped, IsTokenFront, EndsFirst, BeginsWord, BeginsDigits}
use Rattle.jif_lex.specs.Lexing.{LexFails}
use Rattle.jif_lex.proofs.Begins.{is_blank}
use Rattle.jif_lex.proofs.Cuts.{bad_number_some}
use Rattle.js_base.proofs.Decisions.{Decided}
use Rattle.jif_lex.proofs.FoundLexemes.{word_kind, first_symbol}
use Rattle.jif_lex.proofs.Fronts.{word_like, word_front, are_digits, number_front, bad_number_front, symbol_front}
use Rattle.jif_lex.proofs.Fronts.{no_lexeme, bad_byte_by, open_comment_fails}
use Rattle.jif_lex.proofs.Pieces.{comment_opens, piece_some}
use Rattle.jif_lex.proofs.Reading.{cut_length}
use Rattle.jif_lex.proofs.Skips.{ends_first, no_end, line_front, block_front, open_lacks}

-- ---- what a text begins with

-- a piece that it begins with, or why there is none
pub data Begins (text : List ℕ) : Type 0 where
  with_piece : (piece : Piece) (after : List ℕ) → text ≡ piece_text piece ++ after → IsPieceBefore piece after →
      Begins text
  with_bad_number : BeginsBadNumber text → Begins text
  with_bad_byte : BeginsBadByte text → Begins text

of_skipped : (text : List ℕ) (n : ℕ) → HasFront text n IsSkipped → Begins text
of_skipped text n front = with_piece (skipped (take n text)) (drop n text) (sym (take-append-drop n text)) front.1

of_lexeme : (text : List ℕ) (n : ℕ) (kind : TokenKind) → HasFront text n (IsTokenFront kind) → Begins text
of_lexeme text n kind front =
    with_piece (lexeme (take n text) kind) (drop n text) (sym (take-append-drop n text)) front.1

-- ---- comments

NoEnd : List ℕ → Type 0
NoEnd text = (body rest : List ℕ) → text ≢ body ++ codes "*/" ++ rest

NoneBefore : List ℕ → ℕ → Type 0
NoneBefore text place = (k : ℕ) → k < place → get_or text k 0 ≡ 42 → get_or text (k + 1) 0 ≡ 47 → ⊥

none_more : (text : List ℕ) (place : ℕ) → (get_or text place 0 ≡ 42 → get_or text (place + 1) 0 ≡ 47 → ⊥) →
    NoneBefore text place → NoneBefore text (place + 1)
unfolding NoneBefore
none_more text place here before k below star slash = elim (cases_lt k place) [
  | inl less ↦ before k less star slash
  | inr more ↦
      let is : k ≡ place = omega arith in
      here (subst (λ n. get_or text n 0 ≡ 42) is star) (subst (λ n. get_or text (n + 1) 0 ≡ 47) is slash)
]

find_end : (text : List ℕ) (place left : ℕ) → place + 1 + left ≡ length text → NoneBefore text place →
    ((n : ℕ) × HasFront text n EndsFirst) ⊎ NoEnd text
unfolding NoneBefore NoEnd
find_end text place zero is before = inr (no_end text (λ k within. before k (omega arith)))
find_end text place (suc left) is before =
    by (cases_eq (get_or text place 0) 42) (cases_eq (get_or text (place + 1) 0) 47)
    (λ here. find_end text (place + 1) left (omega arith) (none_more text place here before))
  where
    by : Decided (get_or text place 0 ≡ 42) → Decided (get_or text (place + 1) 0 ≡ 47) →
        ((get_or text place 0 ≡ 42 → get_or text (place + 1) 0 ≡ 47 → ⊥) →
        ((n : ℕ) × HasFront text n EndsFirst) ⊎ NoEnd text) → ((n : ℕ) × HasFront text n EndsFirst) ⊎ NoEnd text
    by (inl star) (inl slash) on =
        inl (
          place + 1 + 1,
          (
            omega arith,
            ends_first text place (place + 1) refl (omega arith) star slash
                (λ k within. before k (omega arith)),
          ),
        )
    by (inl star) (inr other) on = on (λ _ slash. other slash)
    by (inr other) slash on = on (λ star _. other star)

comment_end : (text : List ℕ) → ((n : ℕ) × HasFront text n EndsFirst) ⊎ NoEnd text
unfolding NoneBefore NoEnd
comment_end [] = inr (no_end [] (λ k within. absurd (omega arith)))
comment_end (byte ∷ bytes) = find_end (byte ∷ bytes) 0 (length bytes) (omega arith) (λ k below. absurd (omega arith))

of_line : (text body : List ℕ) → text ≡ codes "//" ++ body → Begins text
of_line text body is =
    let n = position_or_len (λ byte. byte == 10) body in
    of_skipped text (2 + n) (line_front text body n is refl (place_within body))
  where
    place_within : (xs : List ℕ) → position_or_len (λ byte. byte == 10) xs ≤ length xs
    place_within [] = omega arith
    place_within (x ∷ xs) = elim (cases_Bool (x == 10)) [
      | inl here ↦ rw here (omega arith)
      | inr later ↦ rw later (omega (arith, place_within xs))
    ]

of_block : (text body : List ℕ) → text ≡ codes "/*" ++ body → Begins text
unfolding NoEnd
of_block text body is = elim (comment_end body) [
  | inl ends ↦ of_skipped text (2 + ends.0) (block_front text body ends.0 is ends.1)
  | inr never ↦ with_bad_byte (open_comment_fails text (body, inr is) (open_lacks text body is never))
]

-- ---- a text that opens no comment

of_word : (text : List ℕ) → BeginsWord text → ¬ OpensComment text → Begins text
of_word text begins plain =
    let n = prefix_len continues_name text in
    let kind = word_kind (take n text) (word_like text n refl begins) in
    of_lexeme text n kind.0 (word_front text n kind.0 refl (prefix_len-le-length continues_name text)
    begins plain kind.1)

begins_decided : (p : ℕ → Bool) (text : List ℕ) → Decided (FirstIs (λ byte. IsTrue (p byte)) text)
begins_decided p [] = inr (λ begins. begins)
begins_decided p (byte ∷ bytes) = elim (cases_Bool (p byte)) [
  | inl passes ↦ inl passes
  | inr fails ↦ inr (λ passes. false≢true (sym fails ∙ passes))
]

fits : (n : ℕ) → (pos n ≤ℤ LARGEST_NUMBER) ⊎ (LARGEST_NUMBER <ℤ pos n)
fits n = elim (cases_lt n (2 ^ 63)) [
  | inl less ↦ inl (grind (arith, ints))
  | inr more ↦ inr (grind (arith, ints))
]

of_digits : (text : List ℕ) → BeginsDigits text → ¬ OpensComment text → Begins text
of_digits text begins plain = by (begins_decided starts_name (drop n text)) (fits value)
  where
    n : ℕ
    n = prefix_len is_ascii_digit text

    value : ℕ
    value = digits_value 10 (take n text)

    by : Decided (BeginsWord (drop n text)) → (pos value ≤ℤ LARGEST_NUMBER) ⊎ (LARGEST_NUMBER <ℤ pos value) →
        Begins text
    by (inl word) size = with_bad_number (bad_number_front text n refl begins (inr word))
    by (inr apart) (inr large) = with_bad_number (bad_number_front text n refl begins (inl large))
    by (inr apart) (inl small) =
        of_lexeme text n (token.Number (pos value)) (number_front text n (token.Number (pos value)) refl
        (prefix_len-le-length is_ascii_digit text) begins plain (are_digits text n refl begins, refl, small) apart)

blank_is : (byte : ℕ) → is_blank byte ≡ true → IsBlank (byte ∷ [])
blank_is byte is = elim (cases_eq byte 32) [
  | inl space ↦ inl (ap (λ b. b ∷ []) space)
  | inr no_space ↦ elim (cases_eq byte 9) [
    | inl tab ↦ inr (inl (ap (λ b. b ∷ []) tab))
    | inr no_tab ↦ elim (cases_eq byte 13) [
      | inl return ↦ inr (inr (inl (ap (λ b. b ∷ []) return)))
      | inr no_return ↦ inr (inr (inr (ap (λ b. b ∷ []) (feed no_space no_tab no_return))))
    ]
  ]
]
  where
    feed : ¬ (byte ≡ 32) → ¬ (byte ≡ 9) → ¬ (byte ≡ 13) → byte ≡ 10
    feed no_space no_tab no_return = grind (arith, nat_tests)

-- what does not open a comment, and begins with no blank, is not skipped
not_skipped : (byte : ℕ) (bytes : List ℕ) → is_blank byte ≡ false → ¬ OpensComment (byte ∷ bytes) →
    LacksFront (byte ∷ bytes) IsSkipped
not_skipped byte bytes fails plain front after is (inl one) = by front one is
  where
    no_blank : (b : ℕ) → IsBlank (b ∷ []) → is_blank b ≡ true
    no_blank b (inl is) = let same : b ≡ 32 = cc in ap is_blank same
    no_blank b (inr (inl is)) = let same : b ≡ 9 = cc in ap is_blank same
    no_blank b (inr (inr (inl is))) = let same : b ≡ 13 = cc in ap is_blank same
    no_blank b (inr (inr (inr is))) = let same : b ≡ 10 = cc in ap is_blank same

    by : (front : List ℕ) → IsBlank front → byte ∷ bytes ≡ front ++ after → ⊥
    by [] (inl none) same = cc
    by [] (inr (inl none)) same = cc
    by [] (inr (inr (inl none))) same = cc
    by [] (inr (inr (inr none))) same = cc
    by (b ∷ []) one same =
        let first : byte ≡ b = cc in
        false≢true (sym fails ∙ ap is_blank first ∙ no_blank b one)
    by (b ∷ c ∷ more) (inl two) same = cc
    by (b ∷ c ∷ more) (inr (inl two)) same = cc
    by (b ∷ c ∷ more) (inr (inr (inl two))) same = cc
    by (b ∷ c ∷ more) (inr (inr (inr two))) same = cc
not_skipped byte bytes fails plain front after is (inr comment) =
    plain (subst OpensComment (sym is) (comment_opens front after comment))

some_byte : (byte : ℕ) (bytes : List ℕ) → byte ∷ bytes ≢ []
some_byte byte bytes is = cc

of_plain : (byte : ℕ) (bytes : List ℕ) → ¬ OpensComment (byte ∷ bytes) → Begins (byte ∷ bytes)
of_plain byte bytes plain =
    by (begins_decided starts_name text) (begins_decided is_ascii_digit text) (cases_Bool (is_blank byte))
  where
    text : List ℕ
    text = byte ∷ bytes

    by : Decided (BeginsWord text) → Decided (BeginsDigits text) → (is_blank byte ≡ true) ⊎ (is_blank byte ≡ false) →
        Begins text
    by (inl word) digits other = of_word text word plain
    by (inr no_word) (inl digits) other = of_digits text digits plain
    by (inr no_word) (inr no_digits) (inl is) = of_skipped text 1 (omega arith, inl (blank_is byte is))
    by (inr no_word) (inr no_digits) (inr fails) = elim (first_symbol text) [
      | inl found ↦
          of_lexeme text found.1 (token.Symbol found.0) (symbol_front text found.0 found.1 found.2 plain)
      | inr no_symbol ↦ with_bad_byte (bad_byte_by text (some_byte byte bytes) (not_skipped byte bytes fails plain)
          (no_lexeme text no_word no_digits no_symbol))
    ]

-- ---- how a text opens

one_byte : (byte : ℕ) → ¬ OpensComment (byte ∷ [])
one_byte byte (rest, inl is) = cc
one_byte byte (rest, inr is) = cc

pub begins : (byte : ℕ) (bytes : List ℕ) → Begins (byte ∷ bytes)
begins byte [] = of_plain byte [] (one_byte byte)
begins byte (next ∷ bytes) = by (cases_eq byte 47) (cases_eq next 47) (cases_eq next 42)
  where
    text : List ℕ
    text = byte ∷ next ∷ bytes

    no_slash : ¬ (byte ≡ 47) → ¬ OpensComment text
    no_slash other (rest, inl is) = other cc
    no_slash other (rest, inr is) = other cc

    no_second : ¬ (next ≡ 47) → ¬ (next ≡ 42) → ¬ OpensComment text
    no_second no_line no_block (rest, inl is) = no_line cc
    no_second no_line no_block (rest, inr is) = no_block cc

    by : Decided (byte ≡ 47) → Decided (next ≡ 47) → Decided (next ≡ 42) → Begins text
    by (inr other) line block = of_plain byte (next ∷ bytes) (no_slash other)
    by (inl slash) (inl line) block = of_line text bytes cc
    by (inl slash) (inr no_line) (inl star) = of_block text bytes cc
    by (inl slash) (inr no_line) (inr no_block) = of_plain byte (next ∷ bytes) (no_second no_line no_block)

-- ---- the whole text

-- the pieces of a text up to its end, or up to its first fault
pub data Ends (text : List ℕ) : Type 0 where
  at_end : (pieces : List Piece) → CutsTo text pieces [] → Ends text
  at_bad_number : (pieces : List Piece) (rest : List ℕ) → CutsTo text pieces rest → BeginsBadNumber rest → Ends text
  at_bad_byte : (pieces : List Piece) (rest : List ℕ) → CutsTo text pieces rest → BeginsBadByte rest → Ends text

behind_piece : (text : List ℕ) (piece : Piece) (after : List ℕ) → text ≡ piece_text piece ++ after →
    IsPieceBefore piece after → Ends after → Ends text
behind_piece text piece after is before (at_end pieces cut) = at_end (piece ∷ pieces) (after, is, before, cut)
behind_piece text piece after is before (at_bad_number pieces rest cut bad) =
    at_bad_number (piece ∷ pieces) rest (after, is, before, cut) bad
behind_piece text piece after is before (at_bad_byte pieces rest cut bad) =
    at_bad_byte (piece ∷ pieces) rest (after, is, before, cut) bad

shorter : (text : List ℕ) (piece : Piece) (after : List ℕ) → text ≡ piece_text piece ++ after →
    IsPieceBefore piece after → length after < length text
shorter text piece after is before = by (piece_text piece) refl
  where
    by : (front : List ℕ) → piece_text piece ≡ front → length after < length text
    by [] none = absurd (piece_some piece after before none)
    by (byte ∷ bytes) some =
        omega (arith, ap length is, length-append (piece_text piece) after, ap length some)

first_then : (text : List ℕ) → Begins text → ((after : List ℕ) → length after < length text → Ends after) → Ends text
first_then text (with_piece piece after is before) behind =
    behind_piece text piece after is before (behind after (shorter text piece after is before))
first_then text (with_bad_number bad) behind = at_bad_number [] text refl bad
first_then text (with_bad_byte bad) behind = at_bad_byte [] text refl bad

ends : (room : ℕ) (text : List ℕ) → length text ≤ room → Ends text
ends room [] few = at_end [] refl
ends zero (byte ∷ bytes) few = absurd (omega arith)
ends (suc room) (byte ∷ bytes) few =
    first_then (byte ∷ bytes) (begins byte bytes) (λ after less. ends room after (omega arith))

pub some_reading : (text : List ℕ) → (reading : Reading) × ReadsAs text reading
some_reading text = by (ends (length text) text (omega arith))
  where
    by : Ends text → (reading : Reading) × ReadsAs text reading
    by (at_end pieces cut) = (tokens (tokens_of 0 1 pieces), (pieces, cut, refl))
    by (at_bad_number pieces rest cut bad) = (bad_number (pieces_length pieces), (pieces, rest, cut, bad, refl))
    by (at_bad_byte pieces rest cut bad) = (bad_byte (pieces_length pieces), (pieces, rest, cut, bad, refl))

-- ---- one or the other

not_bad_byte : (at : ℕ) → BadByte at ≢ OutOfMemory
not_bad_byte at is = cc

not_bad_number : (at : ℕ) → BadNumber at ≢ OutOfMemory
not_bad_number at is = cc

not_too_long : TooLong ≢ OutOfMemory
not_too_long is = cc

pub tokens_or_fault : (text : List ℕ) →
    ((list : List Token) × (length text ≤ PROGRAM_BYTES) × ReadsAs text (tokens list))
    ⊎ ((why : LexError) × (why ≢ OutOfMemory) × LexFails text why)
tokens_or_fault text = elim (cases_lt PROGRAM_BYTES (length text)) [
  | inl more ↦ inr (TooLong, not_too_long, more)
  | inr few ↦ by few (some_reading text).0 (some_reading text).1
]
  where
    by : length text ≤ PROGRAM_BYTES → (reading : Reading) → ReadsAs text reading →
        ((list : List Token) × (length text ≤ PROGRAM_BYTES) × ReadsAs text (tokens list))
        ⊎ ((why : LexError) × (why ≢ OutOfMemory) × LexFails text why)
    by few (tokens list) read = inl (list, few, read)
    by few (bad_byte at) read = inr (BadByte at, not_bad_byte at, (few, read))
    by few (bad_number at) read = inr (BadNumber at, not_bad_number at, (few, read))

-- ---- the place of a fault

some_left : (rest : List ℕ) → rest ≢ [] → 0 < length rest
some_left [] some = absurd (some refl)
some_left (byte ∷ bytes) some = omega arith

pub bad_byte_within : (text : List ℕ) (at : ℕ) → ReadsAs text (bad_byte at) → at < length text
bad_byte_within text at read =
    omega (arith, cut_length text read.1 read.0 read.2, some_left read.1 read.3.some, read.4)

pub bad_number_within : (text : List ℕ) (at : ℕ) → ReadsAs text (bad_number at) → at < length text
bad_number_within text at read =
    omega (arith, cut_length text read.1 read.0 read.2, some_left read.1 (bad_number_some read.1 read.3), read.4)
