-- What a misbehaving host sends, as the words of a script say it.
use Rattle.std.specs.Prelude.{ℕ, ◌==◌, if◌then◌else◌, List, [], ◌∷◌, Option, Some, None, codes, replicate}
use Rattle.std.specs.Int.{bit_at}
use Rattle.std.specs.Option.{option_map, option_and_then}
use Rattle.std.specs.Str.{bytes_eq}
use Rattle.js_base.specs.declared.ids.HostId.{HostId}
use Rattle.js_base.specs.declared.ids.EntryId.{EntryId}
use Rattle.js_base.specs.declared.ids.FrameId.{FrameId}
use Rattle.capability.specs.declared.tags.TheConstants.{TAG_BYTES}
use Rattle.host_code.specs.Riders.{Rider, riders_from}
use Rattle.host_code.specs.Code.{CodeShape, CodeHostShape}
use Rattle.event_text.specs.declared.event.BadMessage.{BadMessage}
use Rattle.event_text.specs.declared.event.BadMessage.TheVariants as bad
use Rattle.event_text.specs.declared.event.BadToken.{BadToken}
use Rattle.event_text.specs.declared.event.BadToken.TheVariants.{Sent, Own}
use Rattle.event_text.specs.declared.tokens.Tokens.{Tokens}
use Rattle.event_text.specs.declared.tokens.Tokens.TheVariants.{Presented, Printed}
use Rattle.event_text.specs.Numbers.{number_of, signed_of}
use Rattle.event_text.specs.Parts.{host_named, field_of, variable_of, parts, colon, request_of, frame_of, entry_of}
use Rattle.event_text.specs.Words.{Word, one_word, two_words, three_words, four_words, of_two, of_three, of_four}
use Rattle.event_text.specs.Words.{or_else}

-- ---- tokens

-- a host whose bit is set in a word
abbrev pub among : ℕ → Option HostId → Option HostId
among word None = None
among word (Some host) = if bit_at word host.0 == 1 then Some host else None

-- a token of a misbehaving host, which has a tag of zeros
abbrev pub own_token : HostId → FrameId → EntryId → ℕ → BadToken
own_token host frame entry serial =
    Own (record { host = host; frame = frame; entry = entry; serial = serial; tag = replicate TAG_BYTES 0 })

abbrev pub own_in : List CodeHostShape → ℕ → List Word → Option BadToken
own_in hosts word [] = None
own_in hosts word (mark ∷ others) =
    if bytes_eq mark (codes "own")
    then option_and_then (λ it. of_four own_token (among word (host_named hosts it.0)) (frame_of it.1) (entry_of it.2)
    (number_of it.3)) (four_words others)
    else None

-- `#N`, the token with this number of those that misbehaving hosts were sent, or `own:HOST:FRAME:ENTRY:SERIAL`, one of
-- a misbehaving host; bit h of the word says that host h misbehaves
abbrev pub token_of : List CodeHostShape → ℕ → Word → Option BadToken
token_of hosts word [] = None
token_of hosts word (byte ∷ bytes) =
    if byte == 35
    then option_map (λ number. Sent number) (number_of bytes)
    else own_in hosts word (parts colon (byte ∷ bytes))

-- `HOST:FRAME:ENTRY:SERIAL`, a token of any host, as reports and journals print it
abbrev pub printed_token : List CodeHostShape → Word → Option BadToken
printed_token hosts word =
    option_and_then (λ it. of_four own_token (host_named hosts it.0) (frame_of it.1) (entry_of it.2) (number_of it.3))
    (four_words (parts colon word))

-- the token that a word writes, where tokens are written so
abbrev pub read_token : List CodeHostShape → Tokens → Word → Option BadToken
read_token hosts (Presented bad) = token_of hosts bad
read_token hosts Printed = printed_token hosts

-- ---- messages, by what stands behind their kind, and by what reads their tokens

abbrev pub get_of : CodeShape → List Word → Option BadMessage
get_of code words =
    option_and_then (λ it. of_three (λ request field index. bad.Get request field index)
    (request_of it.0) (field_of code.fields it.1) (signed_of it.2)) (three_words words)

abbrev pub set_of : CodeShape → List Word → Option BadMessage
set_of code words =
    option_and_then (λ it. of_four (λ request field index value. bad.Set request field index value)
    (request_of it.0) (field_of code.fields it.1) (signed_of it.2) (signed_of it.3)) (four_words words)

abbrev pub forward_of : CodeShape → List Word → Option BadMessage
forward_of code words =
    option_and_then (λ it. of_four (λ request frame variable value. bad.Forward request frame variable value)
    (request_of it.0) (frame_of it.1) (variable_of code.variables it.2) (signed_of it.3)) (four_words words)

abbrev pub sync_by : CodeShape → (Word → Option BadToken) → List Word → Option BadMessage
sync_by code reads words =
    option_and_then (λ it. of_four (λ request frame entry token. bad.Sync request frame entry token)
    (request_of it.0) (frame_of it.1) (entry_of it.2) (reads it.3)) (four_words words)

abbrev pub rgoto_by : CodeShape → (Word → Option BadToken) → List Word → Option BadMessage
rgoto_by code reads words =
    option_and_then (λ it. of_three (λ frame entry token. bad.Rgoto frame entry token)
    (frame_of it.0) (entry_of it.1) (reads it.2)) (three_words words)

-- a variable and a value for it
abbrev pub rider_of : CodeShape → Word → Word → Option Rider
rider_of code name value =
    of_two (λ variable number. (variable, number)) (variable_of code.variables name) (signed_of value)

-- words by two
abbrev pub riders_in : CodeShape → List Word → Option (List Rider)
riders_in code [] = Some []
riders_in code (name ∷ []) = None
riders_in code (name ∷ value ∷ words) =
    of_two (λ rider riders. rider ∷ riders) (rider_of code name value) (riders_in code words)

-- an rgoto with which 1 to 8 values ride
abbrev pub rgoto_with_by : CodeShape → (Word → Option BadToken) → List Word → Option BadMessage
rgoto_with_by code reads (frame ∷ entry ∷ token ∷ mark ∷ words) =
    if bytes_eq mark (codes "with")
    then of_four (λ frame entry token riders. bad.RgotoWith frame entry token riders) (frame_of frame) (entry_of entry)
    (reads token) (option_and_then riders_from (riders_in code words))
    else None
rgoto_with_by code reads words = None

-- an rgoto with riders or without
abbrev pub any_rgoto_by : CodeShape → (Word → Option BadToken) → List Word → Option BadMessage
any_rgoto_by code reads words = or_else (rgoto_by code reads words) (rgoto_with_by code reads words)

abbrev pub lgoto_by : CodeShape → (Word → Option BadToken) → List Word → Option BadMessage
lgoto_by code reads words =
    option_and_then (λ it. option_map (λ token. bad.Lgoto token) (reads it)) (one_word words)

abbrev pub value_of : List Word → Option BadMessage
value_of words =
    option_and_then (λ it. of_two (λ request value. bad.Value request value) (request_of it.0) (signed_of it.1))
    (two_words words)

abbrev pub ack_of : List Word → Option BadMessage
ack_of words = option_and_then (λ it. option_map (λ request. bad.Ack request) (request_of it)) (one_word words)

abbrev pub answer_by : CodeShape → (Word → Option BadToken) → List Word → Option BadMessage
answer_by code reads words =
    option_and_then (λ it. of_two (λ request token. bad.Token request token)
    (request_of it.0) (reads it.1)) (two_words words)

-- ---- all of them

-- a message, by its kind
abbrev pub message_by : CodeShape → (Word → Option BadToken) → List Word → Option BadMessage
message_by code reads [] = None
message_by code reads (kind ∷ words) =
    if bytes_eq kind (codes "get") then get_of code words
    else (if bytes_eq kind (codes "set") then set_of code words
    else (if bytes_eq kind (codes "forward") then forward_of code words
    else (if bytes_eq kind (codes "sync") then sync_by code reads words
    else (if bytes_eq kind (codes "rgoto") then any_rgoto_by code reads words
    else (if bytes_eq kind (codes "lgoto") then lgoto_by code reads words
    else (if bytes_eq kind (codes "value") then value_of words
    else (if bytes_eq kind (codes "ack") then ack_of words
    else (if bytes_eq kind (codes "token") then answer_by code reads words
    else None))))))))

-- a message of a script, where bit h of the word says that host h misbehaves
abbrev pub sync_of : CodeShape → ℕ → List Word → Option BadMessage
sync_of code word words = sync_by code (token_of code.hosts word) words

abbrev pub rgoto_of : CodeShape → ℕ → List Word → Option BadMessage
rgoto_of code word words = rgoto_by code (token_of code.hosts word) words

abbrev pub rgoto_with_of : CodeShape → ℕ → List Word → Option BadMessage
rgoto_with_of code word words = rgoto_with_by code (token_of code.hosts word) words

abbrev pub lgoto_of : CodeShape → ℕ → List Word → Option BadMessage
lgoto_of code word words = lgoto_by code (token_of code.hosts word) words

abbrev pub answer_of : CodeShape → ℕ → List Word → Option BadMessage
answer_of code word words = answer_by code (token_of code.hosts word) words

abbrev pub message_of : CodeShape → ℕ → List Word → Option BadMessage
message_of code word words = message_by code (token_of code.hosts word) words

-- a message as reports and journals print it, with a tag of zeros in its token
abbrev pub printed_message : CodeShape → List Word → Option BadMessage
printed_message code words = message_by code (printed_token code.hosts) words
