-- What follows the name of a field, put together from what was read.
use Rattle.std.proofs.Common.{◌≡◌, ◌<◌, ℕ, zero, suc, ◌+◌, List, [], ◌∷◌, length, Bool, true, false, Some, None, refl}
use Rattle.std.proofs.Common.{ap, ◌∙◌, arith, inr, ℤ, pos, negsuc}
use Rattle.std.specs.Prelude.{neg_ℤ}
use mir.Syntax.{w64}
use mir.Val.{SFits}
use Rattle.js_base.specs.declared.limits.TheConstants.{ARRAY_SIZE}
use Rattle.jif_lex.specs.declared.token.TokenKind.{TokenKind}
use Rattle.jif_lex.specs.declared.token.TokenKind.TheVariants as token
use Rattle.jif_lex.specs.declared.token.TokenKind.TheVariants.{Number}
use Rattle.jif_lex.specs.declared.token.Symbol.TheVariants.{LeftBrace, LeftBracket, RightBracket, Semicolon, Assign}
use Rattle.jif_lex.specs.declared.token.Symbol.TheVariants.{Minus}
use Rattle.label_lattice.specs.Written.{kinds, symbol}
use Rattle.jif_grammar.specs.declared.what.What.TheVariants.{Elements}
use Rattle.jif_grammar.specs.Phrases.{unset, sized, set}
use Rattle.jif_grammar.specs.Due as due
use Rattle.jif_grammar.specs.Due.{exactly, due_after_token}
use Rattle.jif_grammar.specs.Marks as marks
use Rattle.jif_grammar.specs.Programs.{too_many}
use Rattle.jif_grammar.specs.Nesting.{Nested, nested_at}
use Rattle.jif_grammar.specs.Spelling.{field_end_spelling, sign_of_number}
use Rattle.jif_parse.specs.declared.cursor.Cursor.{Cursor}
use Rattle.jif_parse.specs.declared.parse_error.ParseError.{ParseError}
use Rattle.jif_parse.specs.declared.parse_error.ParseError.TheVariants as fault
use Rattle.jif_parse.specs.Reading.{behind, IsNextKind, IsNextSymbol, Takes, Counted, IsOver}
use Rattle.jif_parse.specs.Phrases.{PassesSymbol}
use Rattle.jif_parse.specs.Fields.{ReadsFieldEnd, FailsFieldEnd, size_due, ReadsSize, FailsSize, ReadsFirst, FailsFirst}
use Rattle.jif_parse.specs.Fields.{ReadsNumber, FailsNumber}
use Rattle.jif_parse.proofs.Taking.{takes_then, takes_before, fails_then, fails_before, fails_at_limit}
use Rattle.jif_parse.proofs.Moving.{moves_then, moves_as, stepped, Stepped, takes_passed, takes_counted, fails_other}
use Rattle.jif_parse.proofs.Moving.{next_kind}
use Rattle.jif_parse.proofs.Fixed.{takes_fixed, fails_fixed, step_symbol}
use Rattle.jif_parse.proofs.MethodParts.{none_nested}

-- ---- sizes

abbrev behind_size : List Nested
behind_size = nested_at 0 (exactly due.right_bracket) ∷ nested_at 0 (exactly due.semicolon) ∷ []

size_none : (old : Cursor) (kind : TokenKind) → ((size : ℕ) → 0 < size → ¬ IsNextKind old (Number (pos size))) →
    IsNextKind old kind → due_after_token due.a_size kind ≡ None
size_none old (Number (pos (suc size))) other is = absurd (other (suc size) (omega arith) is)
size_none old (Number (pos zero)) other is = refl
size_none old (Number (negsuc size)) other is = refl
size_none old (token.Name name) other is = refl
size_none old (token.Word word) other is = refl
size_none old (token.Symbol written) other is = refl

pub no_size : {old : Cursor} {error : ParseError} → error ≡ fault.Unexpected old.at →
    ((size : ℕ) → 0 < size → ¬ IsNextKind old (Number (pos size))) → FailsSize old error
no_size {old} {error} tells other =
    fails_before behind_size
    (fails_other old error (nested_at 0 due.a_size) tells (λ kind is. size_none old kind other is))

pub no_number : {old : Cursor} {error : ParseError} → error ≡ fault.Unexpected old.at →
    ((size : ℕ) → ¬ IsNextKind old (Number (pos size))) → FailsSize old error
no_number tells other = no_size tells (λ size some. other size)

pub zero_size : {old : Cursor} {error : ParseError} (number : ℕ) → error ≡ fault.Unexpected old.at →
    IsNextKind old (Number (pos number)) → number ≡ 0 → FailsSize old error
zero_size number tells next none =
    no_size tells (λ size some is. let same : number ≡ size = cc in absurd (omega arith))

size_is_due : (size : ℕ) → 0 < size → due_after_token due.a_size (Number (pos size)) ≡ Some []
size_is_due zero some = absurd (omega arith)
size_is_due (suc size) some = refl

pub size_over : {old : Cursor} {error : ParseError} (size : ℕ) → 0 < size → IsNextKind old (Number (pos size)) →
    IsOver old 0 (marks.elements size) error → FailsSize old error
size_over {old} size some next over =
    fails_before behind_size (fails_at_limit (nested_at 0 due.a_size) (Number (pos size)) (kinds (behind old)) [] 0
    (marks.elements size) next over (size_is_due size some) refl)

size_taken : {old a : Cursor} (size : ℕ) → 0 < size → IsNextKind old (Number (pos size)) →
    Counted old a 0 (marks.elements size) → Takes old a size_due behind_size
size_taken size some next counted =
    takes_before behind_size (takes_counted (nested_at 0 due.a_size) (Number (pos size)) [] 0 (marks.elements size) next
    counted (size_is_due size some) refl)

-- a size within the limit fits 32 bits
pub size_fits : {old a : Cursor} {error : ParseError} (size : ℕ) → ARRAY_SIZE < size →
    Counted old a 0 (marks.elements size) → error ≡ fault.TooMany Elements old.at → FailsSize old error
size_fits {old} size large counted tells = record {
  why = inr (too_many Elements old.at, tells, λ later t is. absurd (omega (arith, (counted.counted t is).largest)));
}

pub size_bracket_fails : {old a : Cursor} {error : ParseError} (size : ℕ) → 0 < size →
    IsNextKind old (Number (pos size)) →
    Counted old a 0 (marks.elements size) → (error ≡ fault.Unexpected a.at) × (¬ IsNextSymbol a RightBracket) →
    FailsSize old error
size_bracket_fails {a = a} {error = error} size some next counted other =
    fails_then (size_taken size some next counted)
    (fails_before (nested_at 0 (exactly due.semicolon) ∷ []) (fails_fixed a error due.right_bracket 0 other))

bracket_taken : {old a b : Cursor} (size : ℕ) → 0 < size → IsNextKind old (Number (pos size)) →
    Counted old a 0 (marks.elements size) → PassesSymbol a b RightBracket →
    Takes old b size_due (nested_at 0 (exactly due.semicolon) ∷ [])
bracket_taken size some next counted passed =
    takes_then (size_taken size some next counted)
    (takes_before (nested_at 0 (exactly due.semicolon) ∷ []) (takes_fixed due.right_bracket 0 none_nested passed))

pub size_end_fails : {old a b : Cursor} {error : ParseError} (size : ℕ) → 0 < size →
    IsNextKind old (Number (pos size)) →
    Counted old a 0 (marks.elements size) → PassesSymbol a b RightBracket →
    (error ≡ fault.Unexpected b.at) × (¬ IsNextSymbol b Semicolon) → FailsSize old error
size_end_fails {b = b} {error = error} size some next counted passed other =
    fails_then (bracket_taken size some next counted passed) (fails_fixed b error due.semicolon 0 other)

pub size_read : {old a b new : Cursor} (size : ℕ) → 0 < size → IsNextKind old (Number (pos size)) →
    Counted old a 0 (marks.elements size) → PassesSymbol a b RightBracket → PassesSymbol b new Semicolon →
    ReadsSize old new size
size_read {old} {a} {b} {new} size some next counted bracket semicolon =
    let first = stepped (Number (pos size)) next counted.steps in
    let second = step_symbol bracket in
    let third = step_symbol semicolon in
    record {
      some = some;
      written = first.is_next ∙ ap (λ ks. Number (pos size) ∷ ks) (second.is_next
          ∙ ap (λ ks. symbol RightBracket ∷ ks) third.is_next);
      moves = moves_then (moves_then first.moves second.moves) third.moves;
      takes = takes_then (bracket_taken size some next counted bracket)
          (takes_fixed due.semicolon 0 none_nested semicolon);
    }

-- ---- first values

abbrev first_due : List Nested
first_due = nested_at 0 due.first_value ∷ []

abbrev semicolon_due : List Nested
semicolon_due = nested_at 0 (exactly due.semicolon) ∷ []

number_step : {old new : Cursor} {value : ℤ} (read : ReadsNumber old new value) →
    Stepped old new (Number (pos read.number))
number_step {old} {new} read =
    stepped (Number (pos read.number)) (next_kind old (Number (pos read.number)) (kinds new.rest.now) read.written)
    read.passes.steps

pub neg_fits : (n : ℕ) → SFits w64 (pos n) → SFits w64 (neg_ℤ (pos n))
neg_fits zero fits = record { sfits = omega (arith, fits.sfits) }
neg_fits (suc n) fits = record { sfits = omega (arith, fits.sfits) }

minus_taken : {old a : Cursor} → PassesSymbol old a Minus →
    Takes old a first_due (nested_at 0 due.a_number ∷ semicolon_due)
minus_taken passed =
    takes_passed (nested_at 0 due.first_value) (symbol Minus) (due.a_number ∷ exactly due.semicolon ∷ []) 0
    (step_symbol passed) passed.passes.counts none_nested refl refl

number_none : (old : Cursor) (kind : TokenKind) → ((number : ℕ) → ¬ IsNextKind old (Number (pos number))) →
    IsNextKind old kind → due_after_token due.a_number kind ≡ None
number_none old (Number (pos number)) other is = absurd (other number is)
number_none old (Number (negsuc number)) other is = refl
number_none old (token.Name name) other is = refl
number_none old (token.Word word) other is = refl
number_none old (token.Symbol written) other is = refl

pub negative_fails : {old a : Cursor} {error : ParseError} → PassesSymbol old a Minus → FailsNumber a error →
    FailsFirst old error
negative_fails {a = a} {error = error} passed fails =
    fails_then (minus_taken passed) (fails_before semicolon_due
    (fails_other a error (nested_at 0 due.a_number) fails.0 (λ kind is. number_none a kind fails.1 is)))

negative_taken : {old a b : Cursor} {value : ℤ} → PassesSymbol old a Minus → ReadsNumber a b value →
    Takes old b first_due semicolon_due
negative_taken passed read =
    takes_then (minus_taken passed) (takes_before semicolon_due (takes_passed (nested_at 0 due.a_number)
    (Number (pos read.number)) [] 0 (number_step read) read.passes.counts none_nested refl refl))

pub negative_end_fails : {old a b : Cursor} {value : ℤ} {error : ParseError} → PassesSymbol old a Minus →
    ReadsNumber a b value → (error ≡ fault.Unexpected b.at) × (¬ IsNextSymbol b Semicolon) → FailsFirst old error
negative_end_fails {b = b} {error = error} passed read other =
    fails_then (negative_taken passed read) (fails_fixed b error due.semicolon 0 other)

pub negative_read : {old a b new : Cursor} {value : ℤ} → PassesSymbol old a Minus → ReadsNumber a b value →
    PassesSymbol b new Semicolon → ReadsFirst old new (neg_ℤ value)
negative_read {old} {a} {b} {new} {value} passed read semicolon =
    let first = step_symbol passed in
    let second = number_step read in
    let third = step_symbol semicolon in
    record {
      negative = true;
      first = read.number;
      written = first.is_next ∙ ap (λ ks. symbol Minus ∷ ks) (second.is_next
          ∙ ap (λ ks. Number (pos read.number) ∷ ks) third.is_next);
      value_is = ap neg_ℤ read.value_is;
      moves = moves_then (moves_then first.moves second.moves) third.moves;
      takes = takes_then (negative_taken passed read) (takes_fixed due.semicolon 0 none_nested semicolon);
    }

first_none : (old : Cursor) (kind : TokenKind) → ¬ IsNextSymbol old Minus →
    ((number : ℕ) → ¬ IsNextKind old (Number (pos number))) → IsNextKind old kind →
    due_after_token due.first_value kind ≡ None
first_none old (token.Symbol Minus) no_sign other is = absurd (no_sign is)
first_none old (Number (pos number)) no_sign other is = absurd (other number is)
first_none old (Number (negsuc number)) no_sign other is = refl
first_none old _ no_sign other is = refl

pub first_fails : {old : Cursor} {error : ParseError} → ¬ IsNextSymbol old Minus → FailsNumber old error →
    FailsFirst old error
first_fails {old} {error} no_sign fails =
    fails_other old error (nested_at 0 due.first_value) fails.0 (λ kind is. first_none old kind no_sign fails.1 is)

first_taken : {old a : Cursor} {value : ℤ} → ReadsNumber old a value → Takes old a first_due semicolon_due
first_taken read =
    takes_passed (nested_at 0 due.first_value) (Number (pos read.number)) (exactly due.semicolon ∷ []) 0
    (number_step read)
    read.passes.counts none_nested refl refl

pub first_end_fails : {old a : Cursor} {value : ℤ} {error : ParseError} → ReadsNumber old a value →
    (error ≡ fault.Unexpected a.at) × (¬ IsNextSymbol a Semicolon) → FailsFirst old error
first_end_fails {a = a} {error = error} read other =
    fails_then (first_taken read) (fails_fixed a error due.semicolon 0 other)

pub first_read : {old a new : Cursor} {value : ℤ} → ReadsNumber old a value → PassesSymbol a new Semicolon →
    ReadsFirst old new value
first_read {old} {a} {new} {value} read semicolon =
    let first = number_step read in
    let second = step_symbol semicolon in
    record {
      negative = false;
      first = read.number;
      written = first.is_next ∙ ap (λ ks. Number (pos read.number) ∷ ks) second.is_next;
      value_is = read.value_is;
      moves = moves_then first.moves second.moves;
      takes = takes_then (first_taken read) (takes_fixed due.semicolon 0 none_nested semicolon);
    }

-- ---- all that may follow the name of a field

abbrev end_due : List Nested
end_due = nested_at 0 due.after_name ∷ []

pub unset_over : {old : Cursor} {error : ParseError} → IsNextSymbol old Semicolon →
    IsOver old 0 marks.plain_field error → FailsFieldEnd old error
unset_over {old} next over =
    fails_at_limit (nested_at 0 due.after_name) (symbol Semicolon) (kinds (behind old)) [] 0 marks.plain_field next over
    refl refl

pub unset_read : {old new : Cursor} → IsNextSymbol old Semicolon → Counted old new 0 marks.plain_field →
    ReadsFieldEnd old new (record { size = 1; array = false; first = pos 0 })
unset_read {old} {new} next counted =
    let step = stepped (symbol Semicolon) next counted.steps in
    record {
      ending = unset;
      sound = tt;
      written = step.is_next;
      size_is = refl;
      array_is = refl;
      first_is = refl;
      moves = step.moves;
      takes = takes_counted (nested_at 0 due.after_name) (symbol Semicolon) [] 0 marks.plain_field next counted refl
          refl;
    }

pub array_over : {old : Cursor} {error : ParseError} → IsNextSymbol old LeftBracket → IsOver old 0 marks.array error →
    FailsFieldEnd old error
array_over {old} next over =
    fails_at_limit (nested_at 0 due.after_name) (symbol LeftBracket) (kinds (behind old))
    (due.a_size ∷ exactly due.right_bracket ∷ exactly due.semicolon ∷ []) 0 marks.array next over refl refl

array_taken : {old a : Cursor} → IsNextSymbol old LeftBracket → Counted old a 0 marks.array →
    Takes old a end_due size_due
array_taken next counted =
    takes_counted (nested_at 0 due.after_name) (symbol LeftBracket)
    (due.a_size ∷ exactly due.right_bracket ∷ exactly due.semicolon ∷ []) 0 marks.array next counted refl refl

pub array_fails : {old a : Cursor} {error : ParseError} → IsNextSymbol old LeftBracket → Counted old a 0 marks.array →
    FailsSize a error → FailsFieldEnd old error
array_fails next counted fails = fails_then (array_taken next counted) fails

pub array_read : {old a new : Cursor} {size : ℕ} → IsNextSymbol old LeftBracket → Counted old a 0 marks.array →
    ReadsSize a new size → ReadsFieldEnd old new (record { size = size; array = true; first = pos 0 })
array_read {old} {a} {new} {size} next counted read =
    let step = stepped (symbol LeftBracket) next counted.steps in
    record {
      ending = sized size;
      sound = read.some;
      written = step.is_next ∙ ap (λ ks. symbol LeftBracket ∷ ks) read.written;
      size_is = refl;
      array_is = refl;
      first_is = refl;
      moves = moves_then step.moves read.moves;
      takes = takes_then (array_taken next counted) read.takes;
    }

end_none : (old : Cursor) (kind : TokenKind) → ¬ IsNextSymbol old LeftBrace → ¬ IsNextSymbol old Semicolon →
    ¬ IsNextSymbol old LeftBracket → ¬ IsNextSymbol old Assign → IsNextKind old kind →
    due_after_token due.after_name kind ≡ None
end_none old (token.Symbol LeftBrace) no_method no_end no_size other is = absurd (no_method is)
end_none old (token.Symbol Semicolon) no_method no_end no_size other is = absurd (no_end is)
end_none old (token.Symbol LeftBracket) no_method no_end no_size other is = absurd (no_size is)
end_none old (token.Symbol Assign) no_method no_end no_size other is = absurd (other is)
end_none old _ no_method no_end no_size other is = refl

pub no_end_fails : {old : Cursor} {error : ParseError} → ¬ IsNextSymbol old LeftBrace → ¬ IsNextSymbol old Semicolon →
    ¬ IsNextSymbol old LeftBracket → ¬ IsNextSymbol old Assign → error ≡ fault.Unexpected old.at →
    FailsFieldEnd old error
no_end_fails {old} {error} no_method no_end no_size other tells =
    fails_other old error (nested_at 0 due.after_name) tells
    (λ kind is. end_none old kind no_method no_end no_size other is)

pub set_over : {old : Cursor} {error : ParseError} → IsNextSymbol old Assign → IsOver old 0 marks.plain_field error →
    FailsFieldEnd old error
set_over {old} next over =
    fails_at_limit (nested_at 0 due.after_name) (symbol Assign) (kinds (behind old)) (due.first_value ∷ []) 0
    marks.plain_field next over refl refl

set_taken : {old a : Cursor} → IsNextSymbol old Assign → Counted old a 0 marks.plain_field →
    Takes old a end_due first_due
set_taken next counted =
    takes_counted (nested_at 0 due.after_name) (symbol Assign) (due.first_value ∷ []) 0 marks.plain_field next counted
    refl
    refl

pub set_fails : {old a : Cursor} {error : ParseError} → IsNextSymbol old Assign → Counted old a 0 marks.plain_field →
    FailsFirst a error → FailsFieldEnd old error
set_fails next counted fails = fails_then (set_taken next counted) fails

set_width : (negative : Bool) (first : ℕ) →
    length (field_end_spelling (set negative first)) ≡ length (sign_of_number negative) + 3
set_width false first = refl
set_width true first = refl

pub set_read : {old a new : Cursor} {value : ℤ} → IsNextSymbol old Assign → Counted old a 0 marks.plain_field →
    ReadsFirst a new value → ReadsFieldEnd old new (record { size = 1; array = false; first = value })
set_read {old} {a} {new} {value} next counted read =
    let step = stepped (symbol Assign) next counted.steps in
    record {
      ending = set read.negative read.first;
      sound = tt;
      written = step.is_next ∙ ap (λ ks. symbol Assign ∷ ks) read.written;
      size_is = refl;
      array_is = refl;
      first_is = read.value_is;
      moves = moves_as _ (omega (arith, set_width read.negative read.first)) (moves_then step.moves read.moves);
      takes = takes_then (set_taken next counted) read.takes;
    }
