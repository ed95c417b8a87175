-- What is printed of an event holds no byte that ends a line.
use Rattle.std.proofs.Common.{◌⊎◌, ◌≡◌, ◌≤◌, ◌+◌, ◌/◌, ◌%◌, ◌==◌, ℕ, zero, suc, ℤ, pos, negsuc, Bool, true, false}
use Rattle.std.proofs.Common.{List, [], ◌∷◌, ◌++◌, length, Option, Some, None, refl, sym, subst, inl, inr}
use Rattle.std.proofs.Common.{arith, All, slice_get, codes}
use Rattle.std.specs.Prelude.{nat_le, nat_lt, if◌then◌else◌}
use Rattle.std.specs.Fmt.{decimal, signed_decimal, digits, digits_onto, digit_glyph}
use Rattle.std.specs.List.{list_all}
use Rattle.std.proofs.lemmas.Bool.{and_parts, and_from}
use Rattle.std.proofs.lemmas.Bool.Decides.{nat_tests}
use Rattle.std.proofs.lemmas.List.Elements.{All-get_or}
use Rattle.std.proofs.lemmas.Option.{slice_get_within, get_or_from_slice_get}
use Rattle.js_base.specs.Name.{IsName, continues_name}
use Rattle.js_base.proofs.NameTexts.{all_continue}
use Rattle.js_base.specs.declared.ids.HostId.{HostId}
use Rattle.js_base.specs.declared.ids.FieldId.{FieldId}
use Rattle.js_base.specs.declared.ids.VarId.{VarId}
use Rattle.js_base.specs.declared.ids.EntryId.{EntryId}
use Rattle.js_base.specs.declared.ids.FrameId.{FrameId}
use Rattle.js_base.specs.declared.ids.RequestId.{RequestId}
use Rattle.capability.specs.declared.token.Token.{Token}
use Rattle.host_code.specs.Code.{CodeShape, CodeHostShape, CodeFieldShape, CodeVariableShape}
use Rattle.host_code.specs.MessageText.{host_text, field_text, variable_text, request_text, frame_text, entry_text}
use Rattle.host_code.specs.MessageText.{name_of_host, name_of_field, name_of_variable, token_text}
use Rattle.host_code.specs.MessageText.{rider_text, riders_text}
use Rattle.host_code.specs.Riders.{Rider}
use Rattle.host_code.specs.declared.code.TheConstants.{MOST_ITEMS}
use Rattle.host_code.specs.Sound.{IsSoundCode, IsVariableName, FieldFits, VariableFits}
use Rattle.event_text.specs.declared.event.Event.{Event}
use Rattle.event_text.specs.declared.event.Event.TheVariants.{Take, Turn, Act}
use Rattle.event_text.specs.declared.event.BadMessage.{BadMessage}
use Rattle.event_text.specs.declared.event.BadMessage.TheVariants as bad
use Rattle.event_text.specs.declared.event.BadToken.{BadToken}
use Rattle.event_text.specs.declared.event.BadToken.TheVariants.{Sent, Own}
use Rattle.event_text.specs.EventText.{bad_token_text, bad_message_text, event_text}

abbrev pub is_printed : ℕ → Bool
is_printed byte = nat_le 32 byte

-- bytes none of which is below a space
pub record IsPrinted (text : List ℕ) : Type 0 where
  pub all : list_all is_printed text ≡ true

both_all : (a b : List ℕ) → list_all is_printed a ≡ true → list_all is_printed b ≡ true →
    list_all is_printed (a ++ b) ≡ true
both_all [] b one two = two
both_all (x ∷ a) b one two =
    let parts = and_parts (is_printed x) (list_all is_printed a) one in
    and_from (is_printed x) (list_all is_printed (a ++ b)) parts.0 (both_all a b parts.1 two)

pub both_printed : {a b : List ℕ} → IsPrinted a → IsPrinted b → IsPrinted (a ++ b)
both_printed {a} {b} one two = record { all = both_all a b one.all two.all }

-- what passes a test passes another that asks no more
pub all_weaker : (p q : ℕ → Bool) → ((byte : ℕ) → p byte ≡ true → q byte ≡ true) → (text : List ℕ) →
    list_all p text ≡ true → list_all q text ≡ true
all_weaker p q less [] all = refl
all_weaker p q less (byte ∷ text) all =
    let parts = and_parts (p byte) (list_all p text) all in
    and_from (q byte) (list_all q text) (less byte parts.0) (all_weaker p q less text parts.1)

-- ---- numbers

glyph_printed : (d : ℕ) → is_printed (digit_glyph false d) ≡ true
glyph_printed d = by (nat_lt d 10)
  where
    by : (small : Bool) → is_printed (if small then 48 + d else (if false then 55 + d else 87 + d)) ≡ true
    by true = grind (arith, nat_tests)
    by false = grind (arith, nat_tests)

onto_printed : (k n : ℕ) (acc : List ℕ) → list_all is_printed acc ≡ true →
    list_all is_printed (digits_onto k 10 false n acc) ≡ true
onto_printed zero n acc all = all
onto_printed (suc k) n acc all =
    let more = and_from (is_printed (digit_glyph false (n % 10))) (list_all is_printed acc) (glyph_printed (n % 10)) all in
    by (n / 10 == 0) more (onto_printed k (n / 10) (digit_glyph false (n % 10) ∷ acc) more)
  where
    by : (last : Bool) → list_all is_printed (digit_glyph false (n % 10) ∷ acc) ≡ true →
        list_all is_printed (digits_onto k 10 false (n / 10) (digit_glyph false (n % 10) ∷ acc)) ≡ true →
        list_all is_printed (if last then digit_glyph false (n % 10) ∷ acc
        else digits_onto k 10 false (n / 10) (digit_glyph false (n % 10) ∷ acc)) ≡ true
    by true here later = here
    by false here later = later

pub number_printed : (n : ℕ) → IsPrinted (decimal n)
unfolding digits
number_printed n = record { all = onto_printed 64 n [] refl }

pub signed_printed : (z : ℤ) → IsPrinted (signed_decimal z)
signed_printed (pos n) = number_printed n
signed_printed (negsuc n) = let rest = number_printed (suc n) in record { all = rest.all }

-- ---- names

continues_printed : (byte : ℕ) → continues_name byte ≡ true → is_printed byte ≡ true
continues_printed byte is = grind (arith, nat_tests)

pub name_printed : (text : List ℕ) → IsName text → IsPrinted text
name_printed text is =
    record { all = all_weaker continues_name is_printed continues_printed text (all_continue text is) }

own_name_printed : (name : List ℕ) → IsName name ⊎ (name ≡ codes "return") → IsPrinted name
own_name_printed name (inl is) = name_printed name is
own_name_printed name (inr result) = subst IsPrinted (sym result) (record { all = refl })

variable_printed : (text : List ℕ) → IsVariableName text → IsPrinted text
variable_printed text (method, name, of_method, own, is) =
    let dot : IsPrinted (codes ".") = record { all = refl } in
    subst IsPrinted (sym is)
    (both_printed (name_printed method of_method) (both_printed dot (own_name_printed name own)))

-- what stands at a place of a list of which all is known
pub at_place : {X : Type 0} (P : X → Type 0) (items : List X) (place : ℕ) (item : X) → All P items →
    slice_get items place ≡ Some item → P item
at_place P items place item all there =
    subst P (get_or_from_slice_get items place item item there)
    (All-get_or P items place item (slice_get_within items place item there) all)

-- ---- what code has names of

space_printed : IsPrinted (codes " ")
space_printed = record { all = refl }

dot_printed : IsPrinted (codes ".")
dot_printed = record { all = refl }

colon_printed : IsPrinted (codes ":")
colon_printed = record { all = refl }

-- a part behind others and what parts them
then_printed : {front mark back : List ℕ} → IsPrinted front → IsPrinted mark → IsPrinted back →
    IsPrinted (front ++ mark ++ back)
then_printed one between two = both_printed (both_printed one between) two

pub two_printed : {kind a b : List ℕ} → IsPrinted kind → IsPrinted a → IsPrinted b →
    IsPrinted (kind ++ a ++ codes " " ++ b)
two_printed named one two = then_printed (both_printed named one) space_printed two

pub three_printed : {kind a b c : List ℕ} → IsPrinted kind → IsPrinted a → IsPrinted b → IsPrinted c →
    IsPrinted (kind ++ a ++ codes " " ++ b ++ codes " " ++ c)
three_printed named one two three = then_printed (two_printed named one two) space_printed three

four_printed : {kind a b c d : List ℕ} → IsPrinted kind → IsPrinted a → IsPrinted b → IsPrinted c →
    IsPrinted d → IsPrinted (kind ++ a ++ codes " " ++ b ++ codes " " ++ c ++ codes " " ++ d)
four_printed named one two three four = then_printed (three_printed named one two three) space_printed four

request_printed : (request : RequestId) → IsPrinted (request_text request)
request_printed request =
    then_printed {mark = codes "."} (number_printed request.at) dot_printed (number_printed request.count)

frame_printed : (frame : FrameId) → IsPrinted (frame_text frame)
frame_printed frame =
    then_printed {mark = codes "."} (number_printed frame.site.0) dot_printed (number_printed frame.count)

entry_printed : (entry : EntryId) → IsPrinted (entry_text entry)
entry_printed entry = let digits = number_printed entry.0 in record { all = digits.all }

module _ (code : CodeShape) (sound : IsSoundCode code) where
  host_printed : (host : HostId) → IsPrinted (host_text code host)
  host_printed host = by (slice_get code.hosts host.0) refl
    where
      by : (found : Option CodeHostShape) → slice_get code.hosts host.0 ≡ found → IsPrinted (name_of_host found)
      by None is = record { all = refl }
      by (Some one) is =
          name_printed one.name (at_place (λ (one : CodeHostShape). IsName one.name × (length one.name ≤ MOST_ITEMS))
          code.hosts host.0 one sound.host_names is).0

  field_printed : (field : FieldId) → IsPrinted (field_text code field)
  field_printed field = by (slice_get code.fields field.0) refl
    where
      by : (found : Option CodeFieldShape) → slice_get code.fields field.0 ≡ found → IsPrinted (name_of_field found)
      by None is = record { all = refl }
      by (Some one) is = name_printed one.name (at_place (FieldFits code) code.fields field.0 one sound.fields is).name

  variable_text_printed : (variable : VarId) → IsPrinted (variable_text code variable)
  variable_text_printed variable = by (slice_get code.variables variable.0) refl
    where
      by : (found : Option CodeVariableShape) → slice_get code.variables variable.0 ≡ found →
          IsPrinted (name_of_variable found)
      by None is = record { all = refl }
      by (Some one) is =
          variable_printed one.name
          (at_place (VariableFits code) code.variables variable.0 one sound.variables is).name

  own_printed : (token : Token) → IsPrinted (token_text code token)
  own_printed token =
      then_printed {mark = codes ":"}
      (then_printed {mark = codes ":"}
      (then_printed {mark = codes ":"} (host_printed token.host) colon_printed (frame_printed token.frame))
      colon_printed (entry_printed token.entry)) colon_printed (number_printed token.serial)

  token_printed : (token : BadToken) → IsPrinted (bad_token_text code token)
  token_printed (Sent number) = let digits = number_printed number in record { all = digits.all }
  token_printed (Own token) = let said = own_printed token in record { all = said.all }

  rider_printed : (rider : Rider) → IsPrinted (rider_text code rider)
  rider_printed rider =
      two_printed {kind = codes " "} space_printed (variable_text_printed rider.0) (signed_printed rider.1)

  riders_printed : (riders : List Rider) → IsPrinted (riders_text code riders)
  riders_printed [] = record { all = refl }
  riders_printed (rider ∷ riders) = both_printed (rider_printed rider) (riders_printed riders)

  message_printed : (made : BadMessage) → IsPrinted (bad_message_text code made)
  message_printed (bad.Get request field index) =
      three_printed {kind = codes "get "} (record { all = refl }) (request_printed request) (field_printed field) (signed_printed index)
  message_printed (bad.Set request field index value) =
      four_printed {kind = codes "set "} (record { all = refl }) (request_printed request) (field_printed field) (signed_printed index)
      (signed_printed value)
  message_printed (bad.Forward request frame variable value) =
      four_printed {kind = codes "forward "} (record { all = refl }) (request_printed request) (frame_printed frame)
      (variable_text_printed variable) (signed_printed value)
  message_printed (bad.Sync request frame entry token) =
      four_printed {kind = codes "sync "} (record { all = refl }) (request_printed request) (frame_printed frame) (entry_printed entry)
      (token_printed token)
  message_printed (bad.Rgoto frame entry token) =
      three_printed {kind = codes "rgoto "} (record { all = refl }) (frame_printed frame) (entry_printed entry) (token_printed token)
  message_printed (bad.RgotoWith frame entry token riders) =
      then_printed {mark = codes " with"}
      (three_printed {kind = codes "rgoto "} (record { all = refl }) (frame_printed frame) (entry_printed entry) (token_printed token))
      (record { all = refl }) (riders_printed riders)
  message_printed (bad.Lgoto token) = let said = token_printed token in record { all = said.all }
  message_printed (bad.Value request value) =
      two_printed {kind = codes "value "} (record { all = refl }) (request_printed request) (signed_printed value)
  message_printed (bad.Ack request) = let said = request_printed request in record { all = said.all }
  message_printed (bad.Token request token) =
      two_printed {kind = codes "token "} (record { all = refl }) (request_printed request) (token_printed token)

  pub event_printed : (event : Event) → IsPrinted (event_text code event)
  event_printed (Turn host) = let said = host_printed host in record { all = said.all }
  event_printed (Take from to place) =
      three_printed {kind = codes "take "} (record { all = refl }) (host_printed from) (host_printed to) (number_printed place)
  event_printed (Act from to made) =
      three_printed {kind = codes "act "} (record { all = refl }) (host_printed from) (host_printed to) (message_printed made)
