-- One piece only stands at the front of a text.
use Rattle.std.proofs.Common.{◌≡◌, ℕ, ℤ, pos, ◌<ℤ◌, ◌≤ℤ◌, ◌⊎◌, inl, inr, true, List, [], ◌∷◌, ◌++◌, codes, refl}
use Rattle.std.proofs.Common.{sym, ap, ◌∙◌, subst, arith}
use Rattle.std.specs.Prelude.{Contains, IsTrue}
use Rattle.std.specs.Char.{is_ascii_digit}
use Rattle.std.specs.Str.Parse.{digits_value}
use Rattle.js_base.specs.Name.{starts_name}
use Rattle.js_base.specs.declared.limits.TheConstants.{LARGEST_NUMBER}
use Rattle.std.proofs.lemmas.Int.{ints}
use Rattle.std.proofs.lemmas.List.{append_assoc, append_cancel_left}
use Rattle.std.specs.List.{list_all}
use Rattle.std.proofs.lemmas.Bool.{and_parts}
use Rattle.std.proofs.lemmas.List.Folds.{list_all-append}
use Rattle.jif_lex.specs.declared.token.TokenKind.{TokenKind}
use Rattle.jif_lex.specs.declared.token.TokenKind.TheVariants as token
use Rattle.jif_lex.specs.Tokens.{IsWordLike, AreDigits, IsSymbol, IsLexeme, IsKind, IsLongest, IsBlank, IsLineComment}
use Rattle.jif_lex.specs.Tokens.{IsBlockComment, OpensComment, FirstIs, Piece, skipped, lexeme, piece_text}
use Rattle.jif_lex.specs.Tokens.{IsPieceBefore, BeginsBadNumber}
use Rattle.js_base.proofs.Lists.{Contains-middle}
use Rattle.jif_lex.proofs.Lists.{same_front}
use Rattle.jif_lex.proofs.Begins.{Class, nothing, letter, digit, blank, other, class_of, word_class, digits_class}
use Rattle.jif_lex.proofs.Begins.{symbol_class, symbol_text_class, word_text_class, blank_class, class_of_front}
use Rattle.jif_lex.proofs.Meanings.{same_kind, clash, name_is_word}

-- ---- longest lexemes

pub same_longest : (a b x y : List ℕ) → IsLongest a x → IsLongest b y → a ++ x ≡ b ++ y → (a ≡ b) × (x ≡ y)
same_longest a b x y first second same =
    same_front a b x y same
    (λ more is after. second.longest more x after (let P : List ℕ → Type 0 = IsLexeme in subst P is first.lexeme))
    (λ more is after. first.longest more y after (let P : List ℕ → Type 0 = IsLexeme in subst P is second.lexeme))

-- ---- comments

line_ends : (body more after rest : List ℕ) → ¬ Contains (body ++ more) 10 → rest ≡ more ++ after →
    (rest ≡ []) ⊎ FirstIs (λ byte. byte ≡ 10) rest → more ≡ []
line_ends body [] after rest lacks is ends = refl
line_ends body (byte ∷ more) after rest lacks is ends = elim ends [
  | inl none ↦ absurd (let never : [] ≡ byte ∷ (more ++ after) = sym none ∙ is in cc)
  | inr first ↦ (
      let P : List ℕ → Type 0 = FirstIs (λ byte. byte ≡ 10) in
      let ten : byte ≡ 10 = subst P is first in
      let Q : ℕ → Type 0 = λ c. Contains (body ++ byte ∷ more) c in
      absurd (lacks (subst Q ten (Contains-middle body byte more))))
]

pub same_line : (a b x y : List ℕ) → IsLineComment a x → IsLineComment b y → a ++ x ≡ b ++ y → (a ≡ b) × (x ≡ y)
same_line a b x y first second same =
    let P : List ℕ → List ℕ → Type 0 = λ s t. s ++ x ≡ t ++ y in
    let whole : (codes "//" ++ first.body) ++ x ≡ (codes "//" ++ second.body) ++ y =
    sym (ap (λ (t : List ℕ). t ++ x) first.written) ∙ same ∙ ap (λ (t : List ℕ). t ++ y) second.written in
    let bodies : first.body ++ x ≡ second.body ++ y =
    append_cancel_left (codes "//") (first.body ++ x) (second.body ++ y) whole in
    let cut = same_front first.body second.body x y bodies
    (λ more is after. line_ends second.body more x y
    (let Q : List ℕ → Type 0 = λ t. ¬ Contains t 10 in subst Q is first.one_line) after second.to_its_end)
    (λ more is after. line_ends first.body more y x
    (let Q : List ℕ → Type 0 = λ t. ¬ Contains t 10 in subst Q is second.one_line) after first.to_its_end) in
    (first.written ∙ ap (λ (t : List ℕ). codes "//" ++ t) cut.0 ∙ sym second.written, cut.1)

pub same_block : (a b x y : List ℕ) → IsBlockComment a → IsBlockComment b → a ++ x ≡ b ++ y → (a ≡ b) × (x ≡ y)
same_block a b x y first second same =
    let start : List ℕ = codes "/*" in
    let ends : List ℕ = codes "*/" in
    let is : a ≡ start ++ (first.body ++ ends) = first.written ∙ append_assoc start first.body ends in
    let is' : b ≡ start ++ (second.body ++ ends) = second.written ∙ append_assoc start second.body ends in
    let whole : (start ++ (first.body ++ ends)) ++ x ≡ (start ++ (second.body ++ ends)) ++ y =
    sym (ap (λ (t : List ℕ). t ++ x) is) ∙ same ∙ ap (λ (t : List ℕ). t ++ y) is' in
    let bodies : (first.body ++ ends) ++ x ≡ (second.body ++ ends) ++ y =
    append_cancel_left start ((first.body ++ ends) ++ x) ((second.body ++ ends) ++ y) whole in
    let cut = same_front (first.body ++ ends) (second.body ++ ends) x y bodies
    (λ more is after. first.first_end second.body more is)
    (λ more is after. second.first_end first.body more is) in
    (is ∙ ap (λ (t : List ℕ). start ++ t) cut.0 ∙ sym is', cut.1)

-- ---- blanks

blank_byte : (text : List ℕ) → IsBlank text → (byte : ℕ) × (text ≡ byte ∷ [])
blank_byte text is = elim is [
  | inl a ↦ (32, a)
  | inr b ↦ elim b [ inl a ↦ (9, a) | inr b ↦ elim b [ inl a ↦ (13, a) | inr a ↦ (10, a) ] ]
]

pub same_blank : (a b x y : List ℕ) → IsBlank a → IsBlank b → a ++ x ≡ b ++ y → (a ≡ b) × (x ≡ y)
same_blank a b x y first second same =
    let one = blank_byte a first in
    let two = blank_byte b second in
    let whole : one.0 ∷ x ≡ two.0 ∷ y =
    sym (ap (λ (t : List ℕ). t ++ x) one.1) ∙ same ∙ ap (λ (t : List ℕ). t ++ y) two.1 in
    let heads : one.0 ≡ two.0 = cc in
    (one.1 ∙ ap (λ (c : ℕ). c ∷ []) heads ∙ sym two.1, cc)

-- ---- a blank, a comment and a lexeme are never the same

pub line_opens : (a x : List ℕ) → (is : IsLineComment a x) → a ++ x ≡ codes "//" ++ (is.body ++ x)
line_opens a x is = ap (λ (t : List ℕ). t ++ x) is.written

pub block_opens : (a x : List ℕ) → (is : IsBlockComment a) → a ++ x ≡ codes "/*" ++ ((is.body ++ codes "*/") ++ x)
block_opens a x is = ap (λ (t : List ℕ). t ++ x) (is.written ∙ append_assoc (codes "/*") is.body (codes "*/"))

blank_whole : (a x : List ℕ) → IsBlank a → class_of (a ++ x) ≡ blank
blank_whole a x is = class_of_front a x blank (blank_class a is) (λ e. cc)

line_no_block : (text body other_body : List ℕ) → text ≡ codes "//" ++ body → text ≡ codes "/*" ++ other_body → ⊥
line_no_block text body other_body is is' = let both : codes "//" ++ body ≡ codes "/*" ++ other_body =
    sym is ∙ is' in cc

comment_no_blank : (text : List ℕ) → OpensComment text → class_of text ≡ blank → ⊥
comment_no_blank text opens is = elim opens.1 [
  | inl a ↦ (let there = ap class_of a in let both : other ≡ blank = sym there ∙ is in cc)
  | inr b ↦ (let there = ap class_of b in let both : other ≡ blank = sym there ∙ is in cc)
]

lexeme_no_blank : (a x : List ℕ) → IsLexeme a → class_of (a ++ x) ≡ blank → ⊥
lexeme_no_blank a x is there = elim is [
  | inl word ↦ clash (a ++ x) letter blank (class_of_front a x letter (word_class a word) (λ e. cc)) there (λ e. cc)
  | inr b ↦ elim b [
    | inl digits ↦ clash (a ++ x) digit blank (class_of_front a x digit (digits_class a digits) (λ e. cc)) there
        (λ e. cc)
    | inr symbol ↦ clash (a ++ x) other blank (class_of_front a x other (symbol_class a symbol) (λ e. cc)) there
        (λ e. cc)
  ]
]

abbrev pub Comment : List ℕ → List ℕ → Type 0
Comment a x = IsLineComment a x ⊎ IsBlockComment a

pub comment_opens : (a x : List ℕ) → Comment a x → OpensComment (a ++ x)
comment_opens a x is = elim is [
  | inl line ↦ (line.body ++ x, inl (line_opens a x line))
  | inr block ↦ ((block.body ++ codes "*/") ++ x, inr (block_opens a x block))
]

same_comment : (a b x y : List ℕ) → Comment a x → Comment b y → a ++ x ≡ b ++ y → (a ≡ b) × (x ≡ y)
same_comment a b x y first second same = elim first [
  | inl line ↦ elim second [
    | inl line' ↦ same_line a b x y line line' same
    | inr block' ↦ absurd (line_no_block (a ++ x) (line.body ++ x) ((block'.body ++ codes "*/") ++ y)
        (line_opens a x line) (same ∙ block_opens b y block'))
  ]
  | inr block ↦ elim second [
    | inl line' ↦ absurd (line_no_block (a ++ x) (line'.body ++ y) ((block.body ++ codes "*/") ++ x)
        (same ∙ line_opens b y line') (block_opens a x block))
    | inr block' ↦ same_block a b x y block block' same
  ]
]

same_skipped : (a b x y : List ℕ) → IsPieceBefore (skipped a) x → IsPieceBefore (skipped b) y → a ++ x ≡ b ++ y →
    (a ≡ b) × (x ≡ y)
same_skipped a b x y first second same = elim first [
  | inl one ↦ elim second [
    | inl two ↦ same_blank a b x y one two same
    | inr two ↦ absurd (comment_no_blank (b ++ y) (comment_opens b y two)
        (sym (ap class_of same) ∙ blank_whole a x one))
  ]
  | inr one ↦ elim second [
    | inl two ↦ absurd (comment_no_blank (a ++ x) (comment_opens a x one) (ap class_of same ∙ blank_whole b y two))
    | inr two ↦ same_comment a b x y one two same
  ]
]

pub skipped_no_lexeme : (a b x y : List ℕ) (kind : TokenKind) → IsPieceBefore (skipped a) x →
    IsPieceBefore (lexeme b kind) y → a ++ x ≡ b ++ y → ⊥
skipped_no_lexeme a b x y kind first second same = elim first [
  | inl one ↦ lexeme_no_blank b y second.1.lexeme (sym (ap class_of same) ∙ blank_whole a x one)
  | inr one ↦ second.0 (let P : List ℕ → Type 0 = OpensComment in subst P same (comment_opens a x one))
]

pub same_piece : (p q : Piece) (x y : List ℕ) → IsPieceBefore p x → IsPieceBefore q y →
    piece_text p ++ x ≡ piece_text q ++ y → (p ≡ q) × (x ≡ y)
same_piece (skipped a) (skipped b) x y first second same =
    let cut = same_skipped a b x y first second same in (ap skipped cut.0, cut.1)
same_piece (skipped a) (lexeme b kind) x y first second same = absurd (skipped_no_lexeme a b x y kind first second same)
same_piece (lexeme a kind) (skipped b) x y first second same =
    absurd (skipped_no_lexeme b a y x kind second first (sym same))
same_piece (lexeme a kind) (lexeme b kind') x y first second same =
    let cut = same_longest a b x y first.1 second.1 same in
    let texts : a ≡ b = cut.0 in
    let P : List ℕ → Type 0 = λ t. IsKind t kind in
    let kinds : kind ≡ kind' = same_kind b kind kind' (subst P cut.0 first.2) second.2 in
    let whole : lexeme a kind ≡ lexeme b kind' = cc in
    (whole, cut.1)

-- ---- a bad number begins no piece

pub is_word : (text : List ℕ) → IsLexeme text → class_of text ≡ letter → IsWordLike text
is_word text is there = elim is [
  | inl word ↦ word
  | inr b ↦ elim b [
    | inl digits ↦ absurd (clash text digit letter (digits_class text digits) there (λ e. cc))
    | inr symbol ↦ absurd (clash text other letter (symbol_class text symbol) there (λ e. cc))
  ]
]

pub is_symbol : (text : List ℕ) → IsLexeme text → class_of text ≡ other → IsSymbol text
is_symbol text is there = elim is [
  | inl word ↦ absurd (clash text letter other (word_class text word) there (λ e. cc))
  | inr b ↦ elim b [
    | inl digits ↦ absurd (clash text digit other (digits_class text digits) there (λ e. cc))
    | inr symbol ↦ symbol
  ]
]

pub is_digits : (text : List ℕ) → IsLexeme text → class_of text ≡ digit → AreDigits text
is_digits text is there = elim is [
  | inl word ↦ absurd (clash text letter digit (word_class text word) there (λ e. cc))
  | inr b ↦ elim b [
    | inl digits ↦ digits
    | inr symbol ↦ absurd (clash text other digit (symbol_class text symbol) there (λ e. cc))
  ]
]

-- what a lexeme begins with, its text begins with
pub lexeme_whole : (text after : List ℕ) (kind : Class) → IsLexeme text → class_of (text ++ after) ≡ kind →
    class_of text ≡ kind
lexeme_whole text after kind is there = elim is [
  | inl word ↦ (let here = word_class text word in here ∙ sym (class_of_front text after letter here (λ e. cc)) ∙ there)
  | inr b ↦ elim b [
    | inl digits ↦ (let here =
        digits_class text digits in here ∙ sym (class_of_front text after digit here (λ e. cc)) ∙ there)
    | inr symbol ↦ (let here =
        symbol_class text symbol in here ∙ sym (class_of_front text after other here (λ e. cc)) ∙ there)
  ]
]

number_fits : (text : List ℕ) (kind : TokenKind) → AreDigits text → IsKind text kind →
    pos (digits_value 10 text) ≤ℤ LARGEST_NUMBER
number_fits text (token.Name n) digits is =
    absurd (clash text letter digit (word_class text (name_is_word text is.0)) (digits_class text digits) (λ e. cc))
number_fits text (token.Number n) digits is =
    let P : ℤ → Type 0 = λ value. value ≤ℤ LARGEST_NUMBER in
    subst P is.1 is.2
number_fits text (token.Word n) digits is =
    absurd (clash text letter digit (ap class_of is ∙ word_text_class n) (digits_class text digits) (λ e. cc))
number_fits text (token.Symbol n) digits is =
    absurd (clash text other digit (ap class_of is ∙ symbol_text_class n) (digits_class text digits) (λ e. cc))

not_above : (n m : ℕ) → n ≡ m → pos n ≤ℤ LARGEST_NUMBER → ¬ (LARGEST_NUMBER <ℤ pos m)
not_above n m same low high = grind (arith, ints)

pub all_digits : (text : List ℕ) → AreDigits text → list_all is_ascii_digit text ≡ true
all_digits [] is = absurd is
all_digits (byte ∷ bytes) is = is

no_more_digits : (digits more after rest : List ℕ) → AreDigits (digits ++ more) → rest ≡ more ++ after
    → ¬ FirstIs (λ byte. IsTrue (is_ascii_digit byte)) rest → more ≡ []
no_more_digits digits [] after rest all is stops = refl
no_more_digits digits (byte ∷ more) after rest all is stops =
    let both = sym (list_all-append is_ascii_digit digits (byte ∷ more)) ∙ all_digits (digits ++ byte ∷ more) all in
    let right = and_parts (list_all is_ascii_digit digits) (list_all is_ascii_digit (byte ∷ more)) both in
    let first = and_parts (is_ascii_digit byte) (list_all is_ascii_digit more) right.1 in
    let P : List ℕ → Type 0 = FirstIs (λ byte. IsTrue (is_ascii_digit byte)) in
    absurd (stops (subst P (sym is) first.0))

-- the digits of a bad number are those of the lexeme there
bad_run : (text digits after after' : List ℕ) → IsLongest text after → AreDigits text → AreDigits digits
    → ¬ FirstIs (λ byte. IsTrue (is_ascii_digit byte)) after' → text ++ after ≡ digits ++ after' →
    (text ≡ digits) × (after ≡ after')
bad_run text digits after after' longest all all' stops same =
    same_front text digits after after' same
    (λ more is rest. no_more_digits digits more after after' (let P : List ℕ → Type 0 = AreDigits in subst P is all)
    rest stops)
    (λ more is rest. longest.longest more after' rest
    (inr (inl (let P : List ℕ → Type 0 = AreDigits in subst P is all'))))

pub bad_number_no_piece : (text : List ℕ) (p : Piece) (after : List ℕ) → BeginsBadNumber text →
    text ≡ piece_text p ++ after → ¬ IsPieceBefore p after
bad_number_no_piece text (skipped a) after bad is piece =
    let there : class_of text ≡ digit =
    ap class_of bad.written
    ∙ class_of_front bad.digits bad.after digit (digits_class bad.digits bad.are_digits) (λ e. cc) in
    elim piece [
      | inl one ↦ clash text blank digit (ap class_of is ∙ blank_whole a after one) there (λ e. cc)
      | inr one ↦ (
          let opens = comment_opens a after one in
          elim opens.1 [
            | inl b ↦ (let here = ap class_of (is ∙ b) in let both : other ≡ digit = sym here ∙ there in cc)
            | inr b ↦ (let here = ap class_of (is ∙ b) in let both : other ≡ digit = sym here ∙ there in cc)
          ])
    ]
bad_number_no_piece text (lexeme a kind) after bad is piece =
    let there : class_of text ≡ digit =
    ap class_of bad.written
    ∙ class_of_front bad.digits bad.after digit (digits_class bad.digits bad.are_digits) (λ e. cc) in
    let longest : IsLongest a after = piece.1 in
    let here = lexeme_whole a after digit longest.lexeme (sym (ap class_of is) ∙ there) in
    let all = is_digits a longest.lexeme here in
    let cut = bad_run a bad.digits after bad.after longest all bad.are_digits bad.whole_run (sym is ∙ bad.written) in
    elim bad.bad [
      | inl large ↦ (
          let fits = number_fits a kind all piece.2 in
          absurd (not_above (digits_value 10 a) (digits_value 10 bad.digits) (ap (digits_value 10) cut.0) fits large))
      | inr letter_next ↦ piece.3 all
          (let P : List ℕ → Type 0 = FirstIs (λ byte. IsTrue (starts_name byte)) in subst P (sym cut.1) letter_next)
    ]

-- ---- a piece has some bytes

lexeme_some : (text : List ℕ) → IsLexeme text → text ≡ [] → ⊥
lexeme_some text is none = elim is [
  | inl word ↦ clash text letter nothing (word_class text word) (ap class_of none) (λ e. cc)
  | inr b ↦ elim b [
    | inl digits ↦ clash text digit nothing (digits_class text digits) (ap class_of none) (λ e. cc)
    | inr symbol ↦ clash text other nothing (symbol_class text symbol) (ap class_of none) (λ e. cc)
  ]
]

comment_some : (text after : List ℕ) → Comment text after → text ≡ [] → ⊥
comment_some text after is none = elim is [
  | inl line ↦ (let both : codes "//" ++ line.body ≡ [] = sym line.written ∙ none in cc)
  | inr block ↦ (let both : codes "/*" ++ (block.body ++ codes "*/") ≡ [] =
      sym (block.written ∙ append_assoc (codes "/*") block.body (codes "*/")) ∙ none in cc)
]

pub piece_some : (p : Piece) (after : List ℕ) → IsPieceBefore p after → piece_text p ≡ [] → ⊥
piece_some (skipped text) after is none = elim is [
  | inl one ↦ clash text blank nothing (blank_class text one) (ap class_of none) (λ e. cc)
  | inr one ↦ comment_some text after one none
]
piece_some (lexeme text kind) after is none = lexeme_some text is.1.lexeme none
