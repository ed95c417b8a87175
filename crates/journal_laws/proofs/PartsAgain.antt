-- The parts of a message that is printed are read as these parts.
use Rattle.std.proofs.Common.{◌≡◌, ◌∙◌, ◌<◌, ◌≤◌, ◌^◌, ◌==◌, ◌&&◌, not, ℕ, suc, ℤ, pos, negsuc, Bool, true, false}
use Rattle.std.proofs.Common.{List, [], ◌∷◌, ◌++◌, length, Some, refl, ap, sym, subst, inl, inr, arith}
use Rattle.std.proofs.Common.{All, codes, append_assoc, slice_get}
use Rattle.std.specs.Prelude.{FitsSigned, nat_lt, ℕ}
use Rattle.std.specs.Fmt.{decimal, signed_decimal}
use Rattle.std.specs.Int.{w64}
use Rattle.std.specs.List.{list_all}
use Rattle.std.specs.Char.{is_ascii_digit}
use Rattle.std.proofs.lemmas.Bool.{and_parts}
use Rattle.std.proofs.lemmas.Bool.Decides.{nat_tests}
use Rattle.std.proofs.lemmas.Fmt.{decimal_is_IsNumeral}
use Rattle.std.proofs.lemmas.List.{length-append}
use Rattle.std.proofs.lemmas.List.Elements.{All-nil, All-cons, All-append}
use Rattle.std.proofs.lemmas.List.Splits.{slice_split_at, slice_split_none}
use Rattle.std.proofs.lemmas.Option.{slice_get_cases}
use Rattle.js_base.specs.Name.{IsName, continues_name}
use Rattle.js_base.specs.declared.ids.HostId.{HostId}
use Rattle.js_base.specs.declared.ids.FieldId.{FieldId}
use Rattle.js_base.specs.declared.ids.VarId.{VarId}
use Rattle.js_base.specs.declared.ids.EntryId.{EntryId}
use Rattle.js_base.specs.declared.ids.FrameId.{FrameId}
use Rattle.js_base.specs.declared.ids.RequestId.{RequestId}
use Rattle.js_base.proofs.NameTexts.{all_continue}
use Rattle.capability.specs.declared.token.Token.{Token}
use Rattle.host_code.specs.declared.code.TheConstants.{MOST_ITEMS}
use Rattle.host_code.specs.Code.{CodeShape, CodeHostShape, CodeFieldShape, CodeVariableShape}
use Rattle.host_code.specs.MessageText.{host_text, field_text, variable_text, request_text, frame_text, entry_text}
use Rattle.host_code.specs.MessageText.{token_text, name_of_host, name_of_field, name_of_variable}
use Rattle.host_code.specs.Sound.{IsSoundCode, IsHost, IsField, IsVariable, IsVariableName, FieldFits, VariableFits}
use Rattle.event_text.specs.declared.event.BadToken.TheVariants.{Own}
use Rattle.event_text.specs.Acts.{printed_token}
use Rattle.event_text.specs.Numbers.{number_of}
use Rattle.event_text.specs.Parts.{host_named, field_of, variable_of, pair_of, request_of, frame_of, entry_of, narrow}
use Rattle.event_text.specs.Parts.{parts}
use Rattle.event_text.specs.Words.{Word}
use Rattle.event_text.proofs.NamesAgain.{place_again}
use Rattle.event_text.proofs.NumbersAgain.{all_digits, number_again}
use Rattle.event_text.proofs.PrintedBytes.{all_weaker, at_place}
use Rattle.event_text.proofs.SaidWords.{IsPlain, IsWord}
use Rattle.wire_msg.specs.Frames.{IsWireRequest, IsFrameId, IsToken}
use Rattle.journal_laws.specs.Bare.{bare_token}
use Rattle.journal_laws.specs.Plays.{HaveOwnNames}

-- ---- words without colons

-- above a space, and no colon
abbrev is_solid : ℕ → Bool
is_solid byte = nat_lt 32 byte && not (byte == 58)

abbrev AreSolid : List ℕ → Type 0
AreSolid text = list_all is_solid text ≡ true

pub record IsPart (text : List ℕ) : Type 0 where
  pub some : 0 < length text
  pub solid : list_all is_solid text ≡ true

solid_both : (one other : List ℕ) → AreSolid one → AreSolid other → AreSolid (one ++ other)
solid_both [] other first second = second
solid_both (byte ∷ one) other first second =
    let both = and_parts (is_solid byte) (list_all is_solid one) first in
    rw both.0 (solid_both one other both.1 second)

-- two parts with a point between them
pointed : (one other : List ℕ) → IsPart one → IsPart other → IsPart (one ++ codes "." ++ other)
pointed one other first second =
    let front = length-append (one ++ codes ".") other in
    let some = second.some in
    record {
      some = omega (arith, front, some);
      solid = solid_both (one ++ codes ".") other (solid_both one (codes ".") first.solid refl) second.solid;
    }

plain_all : (text : List ℕ) → AreSolid text → All IsPlain text
plain_all [] solid = All-nil IsPlain
plain_all (byte ∷ text) solid =
    let both = and_parts (is_solid byte) (list_all is_solid text) solid in
    let here = and_parts (nat_lt 32 byte) (not (byte == 58)) both.0 in
    let dark = here.0 in
    All-cons IsPlain byte text (grind (arith, nat_tests)) (plain_all text both.1)

pub part_word : (text : List ℕ) → IsPart text → IsWord text
part_word text is = record { some = is.some; plain = plain_all text is.solid }

abbrev LacksColon : ℕ → Type 0
LacksColon byte = (byte == 58) ≡ false

no_colon : (text : List ℕ) → AreSolid text → All LacksColon text
no_colon [] solid = All-nil LacksColon
no_colon (byte ∷ text) solid =
    let both = and_parts (is_solid byte) (list_all is_solid text) solid in
    let here = and_parts (nat_lt 32 byte) (not (byte == 58)) both.0 in
    let other = here.1 in
    All-cons LacksColon byte text (grind (arith, nat_tests)) (no_colon text both.1)

-- ---- numbers

digit_solid : (byte : ℕ) → is_ascii_digit byte ≡ true → is_solid byte ≡ true
digit_solid byte is = grind (arith, nat_tests)

pub number_part : (n : ℕ) → n < 2 ^ 64 → IsPart (decimal n)
number_part n small =
    let numeral = (decimal_is_IsNumeral n small).0 in
    record {
      some = numeral.0;
      solid = all_weaker is_ascii_digit is_solid digit_solid (decimal n) (all_digits (decimal n) numeral.1);
    }

pub signed_part : (value : ℤ) → FitsSigned w64 value → IsPart (signed_decimal value)
signed_part (pos n) fits =
    let least : n < 2 ^ 63 = omega (arith, fits.sfits) in
    number_part n (omega (arith, least))
signed_part (negsuc n) fits =
    let least : n < 2 ^ 63 = omega (arith, fits.sfits) in
    let digits = number_part (suc n) (omega (arith, least)) in
    record { some = omega arith; solid = digits.solid }

abbrev LacksPoint : ℕ → Type 0
LacksPoint byte = (byte == 46) ≡ false

digits_pointless : (text : List ℕ) → list_all is_ascii_digit text ≡ true → All LacksPoint text
digits_pointless [] digits = All-nil LacksPoint
digits_pointless (byte ∷ text) digits =
    let both = and_parts (is_ascii_digit byte) (list_all is_ascii_digit text) digits in
    let here = both.0 in
    All-cons LacksPoint byte text (grind (arith, nat_tests)) (digits_pointless text both.1)

number_pointless : (n : ℕ) → n < 2 ^ 64 → All LacksPoint (decimal n)
number_pointless n small = digits_pointless (decimal n) (all_digits (decimal n) (decimal_is_IsNumeral n small).0.1)

abbrev is_mark : ℕ → ℕ → Bool
is_mark mark byte = byte == mark

pair_parts : (a b : ℕ) → a < 2 ^ 64 → b < 2 ^ 64 →
    parts 46 (decimal a ++ codes "." ++ decimal b) ≡ decimal a ∷ decimal b ∷ []
pair_parts a b first second =
    ap (parts 46) (append_assoc (decimal a) (codes ".") (decimal b))
    ∙ slice_split_at (is_mark 46) (decimal a) 46 (decimal b) (number_pointless a first) refl
    ∙ ap (λ (rest : List Word). decimal a ∷ rest)
    (slice_split_none (is_mark 46) (decimal b) (number_pointless b second))

narrow_again : (n : ℕ) → n < 2 ^ 32 → narrow (number_of (decimal n)) ≡ Some n
narrow_again n small =
    let fits : nat_lt n (2 ^ 32) ≡ true = grind (arith, nat_tests) in
    ap narrow (number_again n (omega arith)) ∙ rw fits refl

pair_again : (a b : ℕ) → a < 2 ^ 32 → b < 2 ^ 64 → pair_of (decimal a ++ codes "." ++ decimal b) ≡ Some (a, b)
pair_again a b first second =
    rw (pair_parts a b (omega arith) second)
    (rw (narrow_again a first) (rw (number_again b second) refl))

pub request_again : (request : RequestId) → IsWireRequest request → request_of (request_text request) ≡ Some request
request_again request is = rw (pair_again request.at request.count is.0 is.1) refl

pub frame_again : (frame : FrameId) → IsFrameId frame → frame_of (frame_text frame) ≡ Some frame
frame_again frame is = rw (pair_again frame.site.0 frame.count is.0 is.1) refl

pub entry_again : (entry : EntryId) → entry.0 < 2 ^ 32 → entry_of (entry_text entry) ≡ Some entry
entry_again entry small = rw (narrow_again entry.0 small) refl

pub request_part : (request : RequestId) → IsWireRequest request → IsPart (request_text request)
request_part request is = pointed (decimal request.at) (decimal request.count)
    (number_part request.at (omega (arith, is.0))) (number_part request.count is.1)

pub frame_part : (frame : FrameId) → IsFrameId frame → IsPart (frame_text frame)
frame_part frame is = pointed (decimal frame.site.0) (decimal frame.count)
    (number_part frame.site.0 (omega (arith, is.0))) (number_part frame.count is.1)

pub entry_part : (entry : EntryId) → entry.0 < 2 ^ 32 → IsPart (entry_text entry)
entry_part entry small =
    let digits = number_part entry.0 (omega arith) in record { some = omega arith; solid = digits.solid }

-- ---- names

continues_solid : (byte : ℕ) → continues_name byte ≡ true → is_solid byte ≡ true
continues_solid byte is = grind (arith, nat_tests)

some_name : (text : List ℕ) → IsName text → 0 < length text
some_name [] is = cc
some_name (byte ∷ text) is = omega arith

name_part : (text : List ℕ) → IsName text → IsPart text
name_part text is = record {
  some = some_name text is;
  solid = all_weaker continues_name is_solid continues_solid text (all_continue text is);
}

variable_part_of : (text : List ℕ) → IsVariableName text → IsPart text
variable_part_of text (method, name, is, inl named, whole) =
    subst IsPart (sym (whole ∙ sym (append_assoc method (codes ".") name)))
    (pointed method name (name_part method is) (name_part name named))
variable_part_of text (method, name, is, inr result, whole) =
    subst IsPart (sym (whole ∙ ap (λ (last : List ℕ). method ++ (codes "." ++ last)) result
    ∙ sym (append_assoc method (codes ".") (codes "return"))))
    (pointed method (codes "return") (name_part method is) (record { some = omega arith; solid = refl }))

-- two words with a colon between them
with_colon : (one other : List ℕ) → IsWord one → IsWord other → IsWord (one ++ codes ":" ++ other)
with_colon one other first second =
    let front = length-append (one ++ codes ":") other in
    let some = second.some in
    record {
      some = omega (arith, front, some);
      plain = All-append IsPlain (one ++ codes ":") other
          (All-append IsPlain one (codes ":") first.plain (All-cons IsPlain 58 [] refl (All-nil IsPlain))) second.plain;
    }

module _ (code : CodeShape) (sound : IsSoundCode code) (own : HaveOwnNames code) where
  -- a host that is there
  abbrev HostThere : HostId → Type 0
  HostThere host = (one : CodeHostShape) × (slice_get code.hosts host.0 ≡ Some one) × IsPart one.name

  host_there : (host : HostId) → IsHost code host → HostThere host
  host_there host within = elim (slice_get_cases code.hosts host.0).1 [
    | inl (one, there, is, same) ↦
        let P : CodeHostShape → Type 0 = λ one. IsName one.name × (length one.name ≤ MOST_ITEMS) in
        (one, is, name_part one.name (at_place P code.hosts host.0 one sound.host_names is).0)
    | inr (past, none) ↦ absurd (omega (arith, past, within))
  ]

  pub host_part : (host : HostId) → IsHost code host → IsPart (host_text code host)
  host_part host within =
      let there = host_there host within in subst IsPart (ap name_of_host (sym there.1)) there.2

  pub host_again : (host : HostId) → IsHost code host → host_named code.hosts (host_text code host) ≡ Some host
  host_again host within =
      let there = host_there host within in
      rw (there.1)
      (rw (place_again (λ (one : CodeHostShape). one.name) code.hosts host.0 there.0 own.hosts there.1) refl)

  field_there : (field : FieldId) → IsField code field →
      (one : CodeFieldShape) × (slice_get code.fields field.0 ≡ Some one) × IsPart one.name
  field_there field within = elim (slice_get_cases code.fields field.0).1 [
    | inl (one, there, is, same) ↦
        (one, is, name_part one.name (at_place (FieldFits code) code.fields field.0 one sound.fields is).name)
    | inr (past, none) ↦ absurd (omega (arith, past, within))
  ]

  pub field_part : (field : FieldId) → IsField code field → IsPart (field_text code field)
  field_part field within =
      let there = field_there field within in subst IsPart (ap name_of_field (sym there.1)) there.2

  pub field_again : (field : FieldId) → IsField code field → field_of code.fields (field_text code field) ≡ Some field
  field_again field within =
      let there = field_there field within in
      rw (there.1)
      (rw (place_again (λ (one : CodeFieldShape). one.name) code.fields field.0 there.0 own.fields there.1) refl)

  variable_there : (variable : VarId) → IsVariable code variable →
      (one : CodeVariableShape) × (slice_get code.variables variable.0 ≡ Some one) × IsPart one.name
  variable_there variable within = elim (slice_get_cases code.variables variable.0).1 [
    | inl (one, there, is, same) ↦ (
      one,
      is,
      variable_part_of one.name
          (at_place (VariableFits code) code.variables variable.0 one sound.variables is).name,
    )
    | inr (past, none) ↦ absurd (omega (arith, past, within))
  ]

  pub variable_part : (variable : VarId) → IsVariable code variable → IsPart (variable_text code variable)
  variable_part variable within =
      let there = variable_there variable within in subst IsPart (ap name_of_variable (sym there.1)) there.2

  pub variable_again : (variable : VarId) → IsVariable code variable →
      variable_of code.variables (variable_text code variable) ≡ Some variable
  variable_again variable within =
      let there = variable_there variable within in
      rw (there.1)
      (rw (place_again (λ (one : CodeVariableShape). one.name) code.variables variable.0 there.0 own.variables
      there.1) refl)

  -- ---- tokens

  token_parts : (token : Token) → IsHost code token.host → IsToken token →
      parts 58 (token_text code token)
      ≡ host_text code token.host ∷ frame_text token.frame ∷ entry_text token.entry ∷ decimal token.serial ∷ []
  token_parts token within is =
      let host = host_text code token.host in
      let frame = frame_text token.frame in
      let entry = entry_text token.entry in
      let serial = decimal token.serial in
      let whole : token_text code token ≡ host ++ 58 ∷ (frame ++ 58 ∷ (entry ++ 58 ∷ serial)) =
      append_assoc (host ++ codes ":" ++ frame ++ codes ":" ++ entry) (codes ":") serial
      ∙ append_assoc (host ++ codes ":" ++ frame ++ codes ":") entry (58 ∷ serial)
      ∙ append_assoc (host ++ codes ":" ++ frame) (codes ":") (entry ++ 58 ∷ serial)
      ∙ append_assoc (host ++ codes ":") frame (58 ∷ (entry ++ 58 ∷ serial))
      ∙ append_assoc host (codes ":") (frame ++ 58 ∷ (entry ++ 58 ∷ serial)) in
      ap (parts 58) whole
      ∙ slice_split_at (is_mark 58) host 58 _ (no_colon host (host_part token.host within).solid) refl
      ∙ ap (λ (rest : List Word). host ∷ rest)
      (slice_split_at (is_mark 58) frame 58 _ (no_colon frame (frame_part token.frame is.1.0).solid) refl
      ∙ ap (λ (rest : List Word). frame ∷ rest)
      (slice_split_at (is_mark 58) entry 58 _ (no_colon entry (entry_part token.entry is.1.1.0).solid) refl
      ∙ ap (λ (rest : List Word). entry ∷ rest)
      (slice_split_none (is_mark 58) serial (no_colon serial (number_part token.serial is.1.1.1.0).solid))))

  pub token_again : (token : Token) → IsHost code token.host → IsToken token →
      printed_token code.hosts (token_text code token) ≡ Some (Own (bare_token token))
  token_again token within is =
      rw (token_parts token within is)
      (rw (host_again token.host within) (rw (frame_again token.frame is.1.0)
      (rw (entry_again token.entry is.1.1.0) (rw (number_again token.serial is.1.1.1.0) refl))))

  -- with colons a token is a word all the same
  pub token_word : (token : Token) → IsHost code token.host → IsToken token → IsWord (token_text code token)
  token_word token within is =
      let host = host_text code token.host in
      let frame = frame_text token.frame in
      let entry = entry_text token.entry in
      let serial = decimal token.serial in
      let one = part_word host (host_part token.host within) in
      let two = part_word frame (frame_part token.frame is.1.0) in
      let three = part_word entry (entry_part token.entry is.1.1.0) in
      let four = part_word serial (number_part token.serial is.1.1.1.0) in
      with_colon (host ++ codes ":" ++ frame ++ codes ":" ++ entry) serial
      (with_colon (host ++ codes ":" ++ frame) entry (with_colon host frame one two) three) four
