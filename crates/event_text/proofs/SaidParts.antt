-- A part of an event is printed as the word that says it.
use Rattle.std.proofs.Common.{◌≡◌, ◌==◌, ◌^◌, ℕ, List, [], ◌∷◌, ◌++◌, get_or}
use Rattle.std.proofs.Common.{Option, Some, None, refl, ap, sym, subst, ◌∙◌, inl, inr, arith}
use Rattle.std.specs.Prelude.{position, slice_get, codes, nat_lt}
use Rattle.std.specs.Fmt.{decimal}
use Rattle.std.specs.Int.{bit_at}
use Rattle.std.specs.Option.{option_map}
use Rattle.std.specs.Str.{bytes_eq}
use Rattle.std.proofs.lemmas.Bool.Decides.{nat_tests}
use Rattle.std.proofs.lemmas.List.{append_assoc}
use Rattle.std.proofs.lemmas.List.Quantifiers.{position-Some}
use Rattle.std.proofs.lemmas.Option.{slice_get-get_or}
use Rattle.std.proofs.lemmas.Slice.Eq.{bytes_eq-Decides}
use Rattle.js_base.specs.declared.ids.HostId.{HostId}
use Rattle.js_base.specs.declared.ids.FieldId.{FieldId}
use Rattle.js_base.specs.declared.ids.VarId.{VarId}
use Rattle.js_base.specs.declared.ids.EntryId.{EntryId}
use Rattle.js_base.specs.declared.ids.FrameId.{FrameId}
use Rattle.js_base.specs.declared.ids.RequestId.{RequestId}
use Rattle.host_code.specs.Code.{CodeShape, CodeHostShape, CodeFieldShape, CodeVariableShape}
use Rattle.host_code.specs.MessageText.{host_text, field_text, variable_text, request_text, frame_text, entry_text}
use Rattle.host_code.specs.MessageText.{name_of_host, name_of_field, name_of_variable}
use Rattle.event_text.specs.declared.event.BadToken.{BadToken}
use Rattle.event_text.specs.declared.event.BadToken.TheVariants.{Sent}
use Rattle.event_text.specs.Acts.{among, own_token, own_in, token_of}
use Rattle.event_text.specs.EventText.{bad_token_text}
use Rattle.event_text.specs.Numbers.{number_of}
use Rattle.event_text.specs.Parts.{host_named, field_of, variable_of, narrow, parts, point, colon, pair_in, pair_of}
use Rattle.event_text.specs.Parts.{request_of, frame_of, entry_of}
use Rattle.event_text.specs.Words.{Word, one_word, two_words, three_words, four_words}
use Rattle.event_text.proofs.MadeParts.{mapped, then_made, either_made, two_made, four_made}
use Rattle.event_text.proofs.SaidNumbers.{number_text}
use Rattle.event_text.proofs.SaidWords.{joined, joined_parts}

-- ---- so many words

pub one_are : (said : List Word) (word : Word) → one_word said ≡ Some word → said ≡ word ∷ []
one_are [] word is = absurd cc
one_are (first ∷ []) word is = ap (λ (w : Word). w ∷ []) (let same : first ≡ word = cc in same)
one_are (first ∷ next ∷ others) word is = absurd cc

pub two_are : (said : List Word) (it : Word × Word) → two_words said ≡ Some it → said ≡ it.0 ∷ it.1 ∷ []
two_are [] it is = absurd cc
two_are (first ∷ others) it is =
    let (second, there, same) = mapped (λ second. (first, second)) (one_word others) it is in
    ap (λ (ws : List Word). first ∷ ws) (one_are others second there)
    ∙ ap (λ (p : Word × Word). p.0 ∷ p.1 ∷ []) same

pub three_are : (said : List Word) (it : Word × Word × Word) → three_words said ≡ Some it →
    said ≡ it.0 ∷ it.1 ∷ it.2 ∷ []
three_are [] it is = absurd cc
three_are (first ∷ others) it is =
    let (rest, there, same) = mapped (λ rest. (first, rest.0, rest.1)) (two_words others) it is in
    ap (λ (ws : List Word). first ∷ ws) (two_are others rest there)
    ∙ ap (λ (p : Word × Word × Word). p.0 ∷ p.1 ∷ p.2 ∷ []) same

pub four_are : (said : List Word) (it : Word × Word × Word × Word) → four_words said ≡ Some it →
    said ≡ it.0 ∷ it.1 ∷ it.2 ∷ it.3 ∷ []
four_are [] it is = absurd cc
four_are (first ∷ others) it is =
    let (rest, there, same) = mapped (λ rest. (first, rest.0, rest.1, rest.2)) (three_words others) it is in
    ap (λ (ws : List Word). first ∷ ws) (three_are others rest there)
    ∙ ap (λ (p : Word × Word × Word × Word). p.0 ∷ p.1 ∷ p.2 ∷ p.3 ∷ []) same

-- ---- names

-- what has the name at the place that was found
named_there : {X : Type 0} (name : X → List ℕ) (items : List X) (word : Word) (place : ℕ) →
    position (λ item. bytes_eq word (name item)) items ≡ Some place →
    (item : X) × (slice_get items place ≡ Some item) × (name item ≡ word)
named_there name [] word place is = absurd cc
named_there {X} name (first ∷ others) word place is =
    let items : List X = first ∷ others in
    let found = position-Some (λ item. bytes_eq word (name item)) items place first is in
    let item = get_or items place first in
    (item, slice_get-get_or items place first found.0, sym ((bytes_eq-Decides word (name item)).0 found.1))

pub host_said : (code : CodeShape) (word : Word) (host : HostId) → host_named code.hosts word ≡ Some host →
    host_text code host ≡ word
host_said code word host is =
    let (place, found, same) = mapped (λ n. record { 0 = n }) _ host is in
    let there = named_there (λ (one : CodeHostShape). one.name) code.hosts word place found in
    ap (host_text code) (sym same) ∙ ap name_of_host there.1 ∙ there.2

pub field_said : (code : CodeShape) (word : Word) (field : FieldId) → field_of code.fields word ≡ Some field →
    field_text code field ≡ word
field_said code word field is =
    let (place, found, same) = mapped (λ n. record { 0 = n }) _ field is in
    let there = named_there (λ (one : CodeFieldShape). one.name) code.fields word place found in
    ap (field_text code) (sym same) ∙ ap name_of_field there.1 ∙ there.2

pub variable_said : (code : CodeShape) (word : Word) (variable : VarId) →
    variable_of code.variables word ≡ Some variable → variable_text code variable ≡ word
variable_said code word variable is =
    let (place, found, same) = mapped (λ n. record { 0 = n }) _ variable is in
    let there = named_there (λ (one : CodeVariableShape). one.name) code.variables word place found in
    ap (variable_text code) (sym same) ∙ ap name_of_variable there.1 ∙ there.2

-- ---- numbers

narrow_said : (word : Word) (read : Option ℕ) (number : ℕ) → number_of word ≡ read → narrow read ≡ Some number →
    decimal number ≡ word
narrow_said word None number at is = absurd cc
narrow_said word (Some found) number at is = elim (either_made (nat_lt found (2 ^ 32)) (Some found) None number is) [
  | inl (holds, same) ↦ ap decimal (let one : number ≡ found = cc in one) ∙ number_text word found at
  | inr (fails, none) ↦ absurd cc
]

pair_said : (word : Word) (pair : ℕ × ℕ) → pair_of word ≡ Some pair →
    decimal pair.0 ++ codes "." ++ decimal pair.1 ≡ word
pair_said word pair is =
    by (two_words (parts point word)) refl is (joined_parts point word)
  where
    by : (found : Option (Word × Word)) → two_words (parts point word) ≡ found → pair_in found ≡ Some pair →
        joined point (parts point word) ≡ word → decimal pair.0 ++ codes "." ++ decimal pair.1 ≡ word
    by None at made whole = absurd cc
    by (Some both) at made whole =
        let (one, two, first, second, same) = two_made (λ a b. (a, b)) _ _ pair made in
        let Text : ℕ × ℕ → Type 0 = λ p. decimal p.0 ++ codes "." ++ decimal p.1 ≡ word in
        let front = narrow_said both.0 (number_of both.0) one refl first in
        let back = number_text both.1 two second in
        subst Text same
        (ap (λ (ds : List ℕ). ds ++ codes "." ++ decimal two) front
        ∙ ap (λ (ds : List ℕ). both.0 ++ codes "." ++ ds) back
        ∙ append_assoc both.0 (codes ".") both.1
        ∙ ap (joined point) (sym (two_are (parts point word) both at)) ∙ whole)

pub request_said : (word : Word) (request : RequestId) → request_of word ≡ Some request → request_text request ≡ word
request_said word request is =
    let (pair, found, same) = mapped (λ pair. record { at = pair.0; count = pair.1 }) (pair_of word) request is in
    ap request_text (sym same) ∙ pair_said word pair found

pub frame_said : (word : Word) (frame : FrameId) → frame_of word ≡ Some frame → frame_text frame ≡ word
frame_said word frame is =
    let (pair, found, same) =
    mapped (λ pair. record { site = record { 0 = pair.0 }; count = pair.1 }) (pair_of word) frame is in
    ap frame_text (sym same) ∙ pair_said word pair found

pub entry_said : (word : Word) (entry : EntryId) → entry_of word ≡ Some entry → entry_text entry ≡ word
entry_said [] entry is = absurd cc
entry_said (byte ∷ digits) entry is =
    elim (either_made (byte == 101) (option_map (λ n. record { 0 = n }) (narrow (number_of digits))) None entry is) [
      | inl (holds, made) ↦
          let (number, found, same) = mapped (λ n. record { 0 = n }) (narrow (number_of digits)) entry made in
          let letter : 101 ≡ byte = grind (arith, nat_tests) in
          ap entry_text (sym same)
          ∙ ap (λ (ds : List ℕ). 101 ∷ ds) (narrow_said digits (number_of digits) number refl found)
          ∙ ap (λ (b : ℕ). b ∷ digits) letter
      | inr (fails, none) ↦ absurd cc
    ]

-- ---- tokens

among_named : (bad : ℕ) (named : Option HostId) (host : HostId) → among bad named ≡ Some host → named ≡ Some host
among_named bad None host is = absurd cc
among_named bad (Some one) host is = elim (either_made (bit_at bad one.0 == 1) (Some one) None host is) [
  | inl (holds, same) ↦ same
  | inr (fails, none) ↦ absurd cc
]

own_said : (code : CodeShape) (bad : ℕ) (said : List Word) (token : BadToken) →
    own_in code.hosts bad said ≡ Some token → bad_token_text code token ≡ joined colon said
own_said code bad [] token is = absurd cc
own_said code bad (mark ∷ others) token is =
    elim (either_made (bytes_eq mark (codes "own")) _ None token is) [
      | inl (holds, made) ↦
          let (it, there, of) = then_made _ (four_words others) token made in
          let (host, frame, entry, serial, on, in_frame, at, of_serial, same) = four_made own_token _ _ _ _ token of in
          let named = among_named bad (host_named code.hosts it.0) host on in
          let own : codes "own" ≡ mark = sym ((bytes_eq-Decides mark (codes "own")).0 holds) in
          ap (bad_token_text code) (sym same)
          ∙ rw (
            host_said code it.0 host named,
            frame_said it.1 frame in_frame,
            entry_said it.2 entry at,
            number_text it.3 serial of_serial,
          ) (simp append_assoc refl)
          ∙ ap (λ (ws : List Word). joined colon (codes "own" ∷ ws)) (sym (four_are others it there))
          ∙ ap (λ (w : Word). joined colon (w ∷ others)) own
      | inr (fails, none) ↦ absurd cc
    ]

pub token_said : (code : CodeShape) (bad : ℕ) (word : Word) (token : BadToken) →
    token_of code.hosts bad word ≡ Some token → bad_token_text code token ≡ word
token_said code bad [] token is = absurd cc
token_said code bad (byte ∷ bytes) token is =
    elim (either_made (byte == 35) (option_map (λ number. Sent number) (number_of bytes)) _ token is) [
      | inl (holds, made) ↦
          let (number, found, same) = mapped (λ number. Sent number) (number_of bytes) token made in
          let mark : 35 ≡ byte = grind (arith, nat_tests) in
          ap (bad_token_text code) (sym same) ∙ ap (λ (ds : List ℕ). 35 ∷ ds) (number_text bytes number found)
          ∙ ap (λ (b : ℕ). b ∷ bytes) mark
      | inr (fails, made) ↦
          own_said code bad (parts colon (byte ∷ bytes)) token made
          ∙ joined_parts colon (byte ∷ bytes)
    ]
