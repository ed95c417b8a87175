-- What a TOML reader reads from a text is made of texts, and so is what it leaves.
use Rattle.std.proofs.Common.{◌≡◌, ◌⊎◌, ℕ, zero, suc, ◌+◌, ◌<◌, ◌≤◌, Bool, true, false, ◌&&◌, ◌||◌, ◌==◌}
use Rattle.std.proofs.Common.{if◌then◌else◌, List, [], ◌∷◌, ◌++◌, append_assoc, append-nil, length, take, drop}
use Rattle.std.proofs.Common.{get_or}
use Rattle.std.proofs.Common.{length-append, length-drop, Option, Some, None, is_some, IsUtf8, inl, inr, refl, sym}
use Rattle.std.proofs.Common.{ap}
use Rattle.std.proofs.Common.{subst, arith, eqb-true, lit<, lit≤}
use Rattle.std.specs.Prelude.{⊤, nat_lt, nat_le, encode_utf8, option_map, option_and_then, unwrap_or}
use Rattle.std.specs.Char.{is_digit, len_utf8, IsScalar}
use Rattle.std.specs.List.{list_all, prefix_len}
use Rattle.std.specs.Str.Parse.{digits_value}
use Rattle.std.proofs.lemmas.Bool.{cases_Bool, false≢true, and_parts}
use Rattle.std.proofs.lemmas.Bool.Decides.{nat_tests}
use Rattle.std.proofs.lemmas.Str.{IsUtf8-nil, IsUtf8-append, IsUtf8-take, IsUtf8-drop, IsUtf8-encode}
use Rattle.std.proofs.lemmas.Str.{IsCharBoundary-before_ascii, IsCharBoundary-after_ascii, length-encode}
use Rattle.std.proofs.lemmas.Str.{len_utf8_bounds}
use Rattle.std.proofs.lemmas.Str.{len_utf8_ascii, encode_ascii}
use Rattle.toml_parser.specs.Lexical.{first, is_ws, starts_newline, skip_ws, skip_turn}
use Rattle.toml_parser.specs.Lexical.{skip_from, skip_blank, skip_lines}
use Rattle.toml_parser.specs.Strings.{hex_len, simple_escape, is_scalar, hex_escape, escape_char, escape, is_plain}
use Rattle.toml_parser.specs.Strings.{at_delims, special, prepend, after_piece, body}
use Rattle.toml_parser.proofs.LexicalLemmas.{IsCharBoundary-ascii_run, skip_turn_ascii}
use Rattle.toml_parser.proofs.NumbersLemmas.{hex_digit_bounds}
use Rattle.host_decl.proofs.OwnedTexts.{IsText}

-- ---- cases and what may be read

pub by_test : {X : Type 0} (P : X → Type 0) (test : Bool) (first second : X) → (test ≡ true → P first) →
    (test ≡ false → P second) → P (if test then first else second)
by_test P true first second one two = one refl
by_test P false first second one two = two refl

-- there is none, or it has the property
abbrev pub If : {X : Type 0} → (X → Type 0) → Option X → Type 0
If P None = ⊤
If P (Some x) = P x

pub if_then : {X Y : Type 0} (P : X → Type 0) (Q : Y → Type 0) (found : Option X) (f : X → Option Y) → If P found →
    ((x : X) → P x → If Q (f x)) → If Q (option_and_then f found)
if_then P Q None f has then_has = tt
if_then P Q (Some x) f has then_has = then_has x has

pub if_map : {X Y : Type 0} (P : X → Type 0) (Q : Y → Type 0) (found : Option X) (f : X → Y) → If P found →
    ((x : X) → P x → Q (f x)) → If Q (option_map f found)
if_map P Q None f has then_has = tt
if_map P Q (Some x) f has then_has = then_has x has

-- ---- cuts at ASCII bytes

at_place : (front : List ℕ) (c : ℕ) (rest : List ℕ) → get_or (front ++ c ∷ rest) (length front) 0 ≡ c
at_place [] c rest = refl
at_place (x ∷ front) c rest = at_place front c rest

taken : (front rest : List ℕ) → take (length front) (front ++ rest) ≡ front
taken [] rest = refl
taken (x ∷ front) rest = ap (λ xs. x ∷ xs) (taken front rest)

dropped : (front rest : List ℕ) → drop (length front) (front ++ rest) ≡ rest
dropped [] rest = refl
dropped (x ∷ front) rest = dropped front rest

-- a text is cut before an ASCII byte
cut_before : (front : List ℕ) (c : ℕ) (rest : List ℕ) → c < 128 → IsUtf8 (front ++ c ∷ rest) →
    IsUtf8 front × IsUtf8 (c ∷ rest)
cut_before front c rest ascii utf8 =
    let whole : List ℕ = front ++ c ∷ rest in
    let long = length-append front (c ∷ rest) in
    let here = at_place front c rest in
    let edge = IsCharBoundary-before_ascii whole (length front) (omega arith) (omega arith) in (
      subst IsUtf8 (taken front (c ∷ rest)) (IsUtf8-take whole (length front) utf8 edge),
      subst IsUtf8 (dropped front (c ∷ rest)) (IsUtf8-drop whole (length front) utf8 edge),
    )

cut_after : (c : ℕ) (rest : List ℕ) → c < 128 → IsUtf8 (c ∷ rest) → IsUtf8 rest
cut_after c rest ascii utf8 =
    IsUtf8-drop (c ∷ rest) 1 utf8 (IsCharBoundary-after_ascii (c ∷ rest) 0 utf8 (omega arith) ascii)

without_one : (text : List ℕ) → first text < 128 → IsUtf8 text → IsUtf8 (drop 1 text)
without_one [] ascii utf8 = utf8
without_one (c ∷ rest) ascii utf8 = cut_after c rest ascii utf8

one_less : (text : List ℕ) → 0 < first text → length (drop 1 text) + 1 ≡ length text
one_less [] some = absurd (omega arith)
one_less (c ∷ rest) some = omega arith

no_longer : (text : List ℕ) → length (drop 1 text) ≤ length text
no_longer [] = omega arith
no_longer (c ∷ rest) = omega arith

small_code : (c : ℕ) → c < 128 → IsScalar c
small_code c ascii = grind (arith, nat_tests)

ascii_byte : (c : ℕ) → c < 128 → IsUtf8 (c ∷ [])
ascii_byte c ascii = subst IsUtf8 (encode_ascii c ascii) (IsUtf8-encode c (small_code c ascii))

-- behind a run of ASCII bytes
pub behind_run : (p : ℕ → Bool) (text : List ℕ) → ((c : ℕ) → p c ≡ true → c < 128) → IsUtf8 text →
    IsUtf8 (drop (prefix_len p text) text)
behind_run p text ascii utf8 =
    IsUtf8-drop text (prefix_len p text) utf8 (IsCharBoundary-ascii_run p text utf8 ascii)

-- ---- texts

pub drop_one : (most : ℕ) (text : List ℕ) → first text < 128 → IsText most text → IsText most (drop 1 text)
drop_one most text ascii is = (without_one text ascii is.0, omega (arith, no_longer text, is.1))

pub is_byte : (c byte : ℕ) → byte < 128 → (c == byte) ≡ true → c < 128
is_byte c byte ascii same = omega (arith, eqb-true c byte same)

pub skip_ws_text : (most : ℕ) (text : List ℕ) → IsText most text → IsText most (skip_ws text)
unfolding skip_ws
skip_ws_text most text is = (
  behind_run is_ws text (λ c passes. grind (arith, nat_tests)) is.0,
  omega (arith, length-drop (prefix_len is_ws text) text, is.1),
)

-- ---- blanks and comments

skip_from_shorter : (comments inside : Bool) (text : List ℕ) → length (skip_from comments inside text) ≤ length text
unfolding skip_from
skip_from_shorter comments inside [] = omega arith
skip_from_shorter comments inside (c ∷ cs) =
    by_test (λ t. length t ≤ length (c ∷ cs)) (is_some (skip_turn comments inside c (first cs)))
    (skip_from comments (unwrap_or (skip_turn comments inside c (first cs)) false) cs) (c ∷ cs)
    (λ turned. omega
    (arith, skip_from_shorter comments (unwrap_or (skip_turn comments inside c (first cs)) false) cs))
    (λ stopped. omega arith)

turn_stops : (comments : Bool) (c next : ℕ) → skip_turn comments true c next ≡ None → c < 128
turn_stops true c next e = grind (arith, nat_tests)
turn_stops false c next e = grind (arith, nat_tests)

-- inside a comment the front of a character may stand before the text
skip_from_utf8 : (comments inside : Bool) (front text : List ℕ) → (inside ≡ false → front ≡ []) →
    IsUtf8 (front ++ text) → IsUtf8 (skip_from comments inside text)
unfolding skip_from
skip_from_utf8 comments inside front [] outside utf8 = IsUtf8-nil
skip_from_utf8 comments inside front (c ∷ cs) outside utf8 =
    by (skip_turn comments inside c (first cs)) refl
    (λ new outside_new utf8_new. skip_from_utf8 comments true new cs outside_new utf8_new)
    (λ utf8_new. skip_from_utf8 comments false [] cs (λ _. refl) utf8_new)
  where
    none : (inside : Bool) → (inside ≡ false → front ≡ []) → skip_turn comments inside c (first cs) ≡ None →
        IsUtf8 (c ∷ cs)
    none true outside is = (cut_before front c cs (turn_stops comments c (first cs) is) utf8).1
    none false outside is = subst (λ f. IsUtf8 (f ++ c ∷ cs)) (outside refl) utf8

    by : (turn : Option Bool) → skip_turn comments inside c (first cs) ≡ turn →
        ((new : List ℕ) → (true ≡ false → new ≡ []) → IsUtf8 (new ++ cs) → IsUtf8 (skip_from comments true cs)) →
        (IsUtf8 cs → IsUtf8 (skip_from comments false cs)) →
        IsUtf8 (if is_some turn then skip_from comments (unwrap_or turn false) cs else c ∷ cs)
    by None is in_comment out = none inside outside is
    by (Some true) is in_comment out =
        in_comment (front ++ c ∷ []) (λ clash. absurd (false≢true (sym clash)))
        (subst IsUtf8 (sym (append_assoc front (c ∷ []) cs)) utf8)
    by (Some false) is in_comment out =
        let ascii = skip_turn_ascii comments inside c (first cs) is in
        out (cut_after c cs ascii (cut_before front c cs ascii utf8).1)

skip_utf8 : (comments : Bool) (text : List ℕ) → IsUtf8 text → IsUtf8 (skip_from comments false text)
skip_utf8 comments text utf8 = skip_from_utf8 comments false [] text (λ _. refl) utf8

pub skip_blank_text : (most : ℕ) (text : List ℕ) → IsText most text → IsText most (skip_blank text)
skip_blank_text most text is = (skip_utf8 true text is.0, omega (arith, skip_from_shorter true false text, is.1))

-- ---- escapes

-- what was read and what is left are texts, no longer than so many bytes together
abbrev Within : ℕ → List ℕ × List ℕ → Type 0
Within room read = IsUtf8 read.0 × IsUtf8 read.1 × (length read.0 + length read.1 ≤ room)

abbrev IsCharRead : ℕ → ℕ × List ℕ → Type 0
IsCharRead room read = (is_scalar read.0 ≡ true) × IsUtf8 read.1 × (len_utf8 read.0 + length read.1 ≤ room)

digits_ascii : (n : ℕ) (text : List ℕ) → list_all (λ c. is_digit c 16) (take n text) ≡ true → IsUtf8 text →
    IsUtf8 (drop n text)
digits_ascii zero text all utf8 = utf8
digits_ascii (suc n) [] all utf8 = utf8
digits_ascii (suc n) (c ∷ cs) all utf8 =
    let parts = and_parts (is_digit c 16) (list_all (λ d. is_digit d 16) (take n cs)) all in
    digits_ascii n cs parts.1 (cut_after c cs (hex_digit_bounds c parts.0).1 utf8)

hex_read : (n room : ℕ) (text : List ℕ) → 2 ≤ n → length text + 2 ≤ room → IsUtf8 text →
    If (IsCharRead room) (hex_escape n text)
unfolding hex_escape
hex_read n room text many fits utf8 =
    let digits = take n text in
    let enough = nat_le n (length text) && list_all (λ c. is_digit c 16) digits in
    by_test (If (IsCharRead room)) (enough && is_scalar (digits_value 16 digits))
    (Some (digits_value 16 digits, drop n text)) None
    (λ passes.
    let both = and_parts enough (is_scalar (digits_value 16 digits)) passes in
    let inner = and_parts (nat_le n (length text)) (list_all (λ c. is_digit c 16) digits) both.0 in
    let long : n ≤ length text = le_of n (length text) inner.0 in (
      both.1,
      digits_ascii n text inner.1 utf8,
      omega (arith, len_utf8_bounds (digits_value 16 digits), length-drop n text),
    ))
    (λ fails. tt)
  where
    le_of : (a b : ℕ) → nat_le a b ≡ true → a ≤ b
    le_of a b is = grind (arith, nat_tests)

small_scalar : (c : ℕ) → c < 128 → is_scalar c ≡ true
small_scalar c small = grind (arith, nat_tests)

abbrev AreSmall : ℕ → ℕ → Type 0
AreSmall from c = (from < 128) × (c < 128)

simple_small : (c : ℕ) → If (AreSmall c) (simple_escape c)
simple_small c =
    step 0x62 0x08 _ (lit< tt) (lit< tt) (step 0x65 0x1B _ (lit< tt) (lit< tt) (step 0x66 0x0C _ (lit< tt) (lit< tt)
    (step 0x6E 10 _ (lit< tt) (lit< tt) (step 0x72 13 _ (lit< tt) (lit< tt) (step 0x74 0x09 _ (lit< tt) (lit< tt)
    last)))))
  where
    step : (letter code : ℕ) (others : Option ℕ) → letter < 128 → code < 128 → If (AreSmall c) others →
        If (AreSmall c) (if c == letter then Some code else others)
    step letter code others small code_small rest =
        by_test (If (AreSmall c)) (c == letter) (Some code) others
        (λ same. (is_byte c letter small same, code_small)) (λ _. rest)

    last : If (AreSmall c) (if c == 34 || c == 92 then Some c else None)
    last =
        by_test (If (AreSmall c)) (c == 34 || c == 92) (Some c) None
        (λ same. let small : c < 128 = grind (arith, nat_tests) in (small, small)) (λ _. tt)

hex_is : (c : ℕ) → nat_lt 0 (hex_len c) ≡ true → (2 ≤ hex_len c) × (c < 128) × (0 < c)
hex_is c some = by_cases (cases_Bool (c == 0x78)) (cases_Bool (c == 0x75)) (cases_Bool (c == 0x55))
  where
    by_cases : ((c == 0x78) ≡ true) ⊎ ((c == 0x78) ≡ false) → ((c == 0x75) ≡ true) ⊎ ((c == 0x75) ≡ false) →
        ((c == 0x55) ≡ true) ⊎ ((c == 0x55) ≡ false) → (2 ≤ hex_len c) × (c < 128) × (0 < c)
    by_cases (inl x) u capital =
        (rw x (lit≤ tt), is_byte c 0x78 (lit< tt) x, omega (arith, eqb-true c 0x78 x))
    by_cases (inr x) (inl u) capital =
        (rw x (rw u (lit≤ tt)), is_byte c 0x75 (lit< tt) u, omega (arith, eqb-true c 0x75 u))
    by_cases (inr x) (inr u) (inl capital) =
        (rw x (rw u (rw capital (lit≤ tt))), is_byte c 0x55 (lit< tt) capital, omega (arith, eqb-true c 0x55 capital))
    by_cases (inr x) (inr u) (inr other) =
        let none : false ≡ true = rw (x, u, other) at some in absurd (false≢true none)

escape_char_read : (room : ℕ) (text : List ℕ) → length text + 1 ≤ room → IsUtf8 text →
    If (IsCharRead room) (escape_char text)
unfolding escape_char
escape_char_read room text fits utf8 =
    by_test (If (IsCharRead room)) (nat_lt 0 (hex_len (first text))) (hex_escape (hex_len (first text)) (drop 1 text))
    (option_map (λ c. (c, drop 1 text)) (simple_escape (first text)))
    (λ some.
    let is = hex_is (first text) some in
    hex_read (hex_len (first text)) room (drop 1 text) is.0 (omega (arith, one_less text is.2))
    (without_one text is.1 utf8))
    (λ other. if_map (AreSmall (first text)) (IsCharRead room) (simple_escape (first text)) (λ c. (c, drop 1 text))
    (simple_small (first text)) (λ c small. (
      small_scalar c small.1,
      without_one text small.0 utf8,
      omega (arith, len_utf8_ascii c small.1, no_longer text),
    )))

scalar_of : (c : ℕ) → is_scalar c ≡ true → IsScalar c
scalar_of c is = grind (arith, nat_tests)

-- what follows a backslash, which is one more byte of room
escape_read : (multi : Bool) (room : ℕ) (text : List ℕ) → length text + 1 ≤ room → IsUtf8 text →
    If (Within room) (escape multi text)
unfolding escape
escape_read multi room text fits utf8 =
    by_test (If (Within room)) (multi && starts_newline (skip_ws text)) (Some ([], skip_lines text))
    (option_map (λ p. (encode_utf8 p.0, p.1)) (escape_char text))
    (λ newline. (
      IsUtf8-nil,
      skip_utf8 false text utf8,
      omega (arith, skip_from_shorter false false text),
    ))
    (λ other. if_map (IsCharRead room) (Within room) (escape_char text) (λ p. (encode_utf8 p.0, p.1))
    (escape_char_read room text fits utf8) (λ p read. (
      IsUtf8-encode p.0 (scalar_of p.0 read.0),
      read.1,
      omega (arith, length-encode p.0, read.2),
    )))

-- ---- strings

-- the end of a string, or a piece of it, and what is left
abbrev IsPiece : ℕ → Option (List ℕ) × List ℕ → Type 0
IsPiece room (None, rest) = IsUtf8 rest × (length rest ≤ room)
IsPiece room (Some bytes, rest) = Within room (bytes, rest)

-- a delimiter
abbrev pub IsDelimiter : ℕ → Type 0
IsDelimiter delim = (0 < delim) × (delim < 128)

delims_read : (delim : ℕ) (text : List ℕ) → IsDelimiter delim → (first text == delim) ≡ true → IsUtf8 text →
    If (IsPiece (length text)) (at_delims delim text)
delims_read delim text is same utf8 =
    let count = prefix_len (λ c. c == delim) text in
    let here : first text ≡ delim = eqb-true (first text) delim same in
    by_test (If (IsPiece (length text))) (count == 3) (Some (None, drop 3 text))
    (if nat_lt count 6 then Some (Some (delim ∷ []), drop 1 text) else None)
    (λ three.
    let n : count ≡ 3 = eqb-true count 3 three in (
      subst (λ k. IsUtf8 (drop k text)) n
          (behind_run (λ c. c == delim) text (λ c passes. is_byte c delim is.1 passes) utf8),
      omega (arith, length-drop 3 text),
    ))
    (λ _. by_test (If (IsPiece (length text))) (nat_lt count 6) (Some (Some (delim ∷ []), drop 1 text)) None
    (λ few. (
      ascii_byte delim is.1,
      without_one text (omega arith) utf8,
      omega (arith, one_less text (omega arith)),
    ))
    (λ many. tt))

newline_is : (text : List ℕ) → starts_newline text ≡ true → (0 < first text) × (first text < 128)
newline_is text is = by_cases (cases_Bool (first text == 10)) (cases_Bool (first text == 13))
  where
    by_cases : ((first text == 10) ≡ true) ⊎ ((first text == 10) ≡ false) →
        ((first text == 13) ≡ true) ⊎ ((first text == 13) ≡ false) → (0 < first text) × (first text < 128)
    by_cases (inl feed) other =
        (omega (arith, eqb-true (first text) 10 feed), is_byte (first text) 10 (lit< tt) feed)
    by_cases (inr feed) (inl return) =
        (omega (arith, eqb-true (first text) 13 return), is_byte (first text) 13 (lit< tt) return)
    by_cases (inr feed) (inr return) =
        let none : false ≡ true = rw (feed, return) at is in absurd (false≢true none)

special_read : (delim : ℕ) (multi : Bool) (text : List ℕ) → IsDelimiter delim → IsUtf8 text →
    If (IsPiece (length text)) (special delim multi text)
unfolding special
special_read delim multi text is utf8 =
    by_test (If (IsPiece (length text))) (first text == delim)
    (if multi then at_delims delim text else Some (None, drop 1 text))
    (if first text == 92 then option_map (λ p. (Some p.0, p.1)) (escape multi (drop 1 text))
    else (if multi && starts_newline text then Some (Some (first text ∷ []), drop 1 text) else None))
    (λ same. by_test (If (IsPiece (length text))) multi (at_delims delim text) (Some (None, drop 1 text))
    (λ _. delims_read delim text is same utf8)
    (λ _. (without_one text (is_byte (first text) delim is.1 same) utf8, no_longer text)))
    (λ _. by_test (If (IsPiece (length text))) (first text == 92)
    (option_map (λ p. (Some p.0, p.1)) (escape multi (drop 1 text)))
    (if multi && starts_newline text then Some (Some (first text ∷ []), drop 1 text) else None)
    (λ slash.
    let here : first text ≡ 92 = eqb-true (first text) 92 slash in
    if_map (Within (length text)) (IsPiece (length text)) (escape multi (drop 1 text)) (λ p. (Some p.0, p.1))
    (escape_read multi (length text) (drop 1 text) (omega (arith, one_less text (omega arith)))
    (without_one text (omega arith) utf8)) (λ p read. read))
    (λ _. by_test (If (IsPiece (length text))) (multi && starts_newline text)
    (Some (Some (first text ∷ []), drop 1 text)) None
    (λ newline.
    let at = newline_is text (and_parts multi (starts_newline text) newline).1 in (
      ascii_byte (first text) at.1,
      without_one text at.1 utf8,
      omega (arith, one_less text at.0),
    ))
    (λ _. tt)))

-- What was read behind a front, which may end inside a character, makes a text with it.
abbrev pub IsBodyRead : List ℕ → ℕ → List ℕ × List ℕ → Type 0
IsBodyRead front room read =
    IsUtf8 (front ++ read.0) × IsUtf8 read.1 × (length read.0 + length read.1 ≤ room)

plain_is : (delim : ℕ) (multi : Bool) (c : ℕ) → IsDelimiter delim → is_plain delim multi c ≡ true → 0 < c
plain_is delim true c is plain = grind (arith, nat_tests)
plain_is delim false c is plain = grind (arith, nat_tests)

not_plain_is : (delim : ℕ) (multi : Bool) (c : ℕ) → IsDelimiter delim → is_plain delim multi c ≡ false → c < 128
not_plain_is delim multi c is plain = grind (arith, nat_tests)

split_front : (front text : List ℕ) → first text < 128 → IsUtf8 (front ++ text) → IsUtf8 front × IsUtf8 text
split_front front [] ascii utf8 = (subst IsUtf8 (append-nil front) utf8, IsUtf8-nil)
split_front front (c ∷ cs) ascii utf8 = cut_before front c cs ascii utf8

pub body_read : (delim : ℕ) (multi : Bool) (n : ℕ) (front text : List ℕ) → IsDelimiter delim → IsUtf8 (front ++ text) →
    If (IsBodyRead front (length text)) (body delim multi n text)
unfolding body
body_read delim multi zero front text is utf8 = tt
body_read delim multi (suc n) front text is utf8 =
    by_test (If (IsBodyRead front (length text))) (is_plain delim multi (first text))
    (prepend (first text ∷ []) (body delim multi n (drop 1 text)))
    (option_and_then (λ p. after_piece (body delim multi n) p.0 p.1) (special delim multi text))
    (λ plain. of_plain text (plain_is delim multi (first text) is plain) utf8
    (λ new rest utf8_new. body_read delim multi n new rest is utf8_new))
    (λ other.
    let parts = split_front front text (not_plain_is delim multi (first text) is other) utf8 in
    if_then (IsPiece (length text)) (IsBodyRead front (length text)) (special delim multi text)
    (λ p. after_piece (body delim multi n) p.0 p.1) (special_read delim multi text is parts.1)
    (λ p piece. of_piece parts.0 p.0 p.1 piece (λ rest utf8_rest. body_read delim multi n [] rest is utf8_rest)))
  where
    of_plain : (text : List ℕ) → 0 < first text → IsUtf8 (front ++ text) →
        ((new rest : List ℕ) → IsUtf8 (new ++ rest) → If (IsBodyRead new (length rest)) (body delim multi n rest)) →
        If (IsBodyRead front (length text)) (prepend (first text ∷ []) (body delim multi n (drop 1 text)))
    of_plain [] some utf8 later = absurd (omega arith)
    of_plain (c ∷ cs) some utf8 later =
        if_map (IsBodyRead (front ++ c ∷ []) (length cs)) (IsBodyRead front (length (c ∷ cs)))
        (body delim multi n cs) (λ p. ((c ∷ []) ++ p.0, p.1))
        (later (front ++ c ∷ []) cs (subst IsUtf8 (sym (append_assoc front (c ∷ []) cs)) utf8))
        (λ p read. (subst IsUtf8 (append_assoc front (c ∷ []) p.0) read.0, read.1, omega (arith, read.2)))

    of_piece : IsUtf8 front → (piece : Option (List ℕ)) (rest : List ℕ) → IsPiece (length text) (piece, rest) →
        ((rest : List ℕ) → IsUtf8 rest → If (IsBodyRead [] (length rest)) (body delim multi n rest)) →
        If (IsBodyRead front (length text)) (after_piece (body delim multi n) piece rest)
    of_piece front_is None rest is later = (subst IsUtf8 (sym (append-nil front)) front_is, is.0, omega (arith, is.1))
    of_piece front_is (Some bytes) rest is later =
        if_map (IsBodyRead [] (length rest)) (IsBodyRead front (length text)) (body delim multi n rest)
        (λ p. (bytes ++ p.0, p.1)) (later rest is.1) (λ p read. (
          IsUtf8-append front (bytes ++ p.0) front_is (IsUtf8-append bytes p.0 is.0 read.0),
          read.1,
          omega (arith, is.2, read.2, length-append bytes p.0),
        ))
