-- What one more line adds to the report of a world.
use Rattle.std.proofs.Common.{◌≡◌, ℕ, zero, suc, ◌+◌, ◌<◌, List, [], ◌∷◌, ◌++◌, length, get_or, take, map, refl, ap}
use Rattle.std.proofs.Common.{sym, ◌∙◌, add-one, arith, All, Option, Some, None}
use Rattle.std.specs.Prelude.{ℤ, pos, codes}
use Rattle.std.specs.Option.{option_map}
use Rattle.std.specs.List.{flat_map, range_with_len}
use Rattle.std.proofs.lemmas.List.{append-nil, append_assoc, flat_map_more, length-take-le, take_more}
use Rattle.std.proofs.lemmas.List.Concat.{flat_map-append}
use Rattle.std.proofs.lemmas.List.FromFn.{map-range_with_len_more}
use Rattle.jif_tree.specs.Store.{element_at, row_of}
use Rattle.std.proofs.lemmas.List.Elements.{All-nil, All-cons, All-head, All-tail}
use Rattle.js_base.specs.declared.ids.HostId.{HostId}
use Rattle.host_code.specs.declared.message.Message.{Message}
use Rattle.host_code.specs.Messages.{MessageFits}
use Rattle.host_code.specs.Code.{CodeShape, CodeFieldShape}
use Rattle.host_core.specs.Host.{HostModel, HostState, state_of}
use Rattle.net_world.specs.Fits.{FlightFits, WorldModel, host_at, world_of}
use Rattle.net_world.specs.Flying.{Flight}
use Rattle.net_world.specs.Told.{SentMessage}
use Rattle.net_world.specs.World.{WorldShape, state_at}
use Rattle.net_world.proofs.Present.{present_states}
use Rattle.split_cli.specs.Drive.{events_line, drive_text}
use Rattle.split_cli.specs.Replay.{replay_text}
use Rattle.front_end.specs.Text.{line_text, lines_text}
use Rattle.split_cli.specs.WorldReport.{halted_line, field_line, field_lines, host_lines, flying_line, queue_lines}
use Rattle.split_cli.specs.WorldReport.{flying_lines, sent_line, sent_lines, host_line, state_line, elements_of}
use Rattle.split_cli.specs.Making.{field_value, field_values}
use Rattle.split_cli.specs.Report.{row_line, row_text}
use Rattle.split_cli.proofs.ReportLines as report
use Rattle.run_comparison.proofs.ReleasedLines.{range_push}

-- F gives each element lines or bytes, by its number
numbered_push : {X Y : Type 0} (F : ℕ → List X → List Y) (f : ℕ → X → List Y) → ((n : ℕ) → F n [] ≡ []) →
    ((n : ℕ) (x : X) (xs : List X) → F n (x ∷ xs) ≡ f n x ++ F (n + 1) xs) →
    (n : ℕ) (xs : List X) (x : X) (place : ℕ) → place ≡ n + length xs → F n (xs ++ x ∷ []) ≡ F n xs ++ f place x
numbered_push F f nil cons n [] x place is =
    let same : n ≡ place = omega arith in
    rw (cons n x [], nil (n + 1), nil n) (append-nil (f n x) ∙ ap (λ m. f m x) same)
numbered_push F f nil cons n (y ∷ xs) x place is =
    rw (cons n y (xs ++ x ∷ []), cons n y xs)
    (ap (λ more. f n y ++ more) (numbered_push F f nil cons (n + 1) xs x place (omega arith))
    ∙ sym (append_assoc (f n y) (F (n + 1) xs) (f place x)))

-- so F of one element more adds what it gives that element
numbered_more : {X Y : Type 0} (F : ℕ → List X → List Y) (f : ℕ → X → List Y) → ((n : ℕ) → F n [] ≡ []) →
    ((n : ℕ) (x : X) (xs : List X) → F n (x ∷ xs) ≡ f n x ++ F (n + 1) xs) →
    (xs : List X) (i : ℕ) (d : X) → i < length xs → F 0 (take (i + 1) xs) ≡ F 0 (take i xs) ++ f i (get_or xs i d)
numbered_more F f nil cons xs i d lt =
    let count = length-take-le i xs (omega arith) in
    ap (λ front. F 0 front) (take_more xs i d lt)
    ∙ numbered_push F f nil cons 0 (take i xs) (get_or xs i d) i (omega arith)

-- and their text
pub all_numbered_more : {X : Type 0} (F : ℕ → List X → List (List ℕ)) (f : ℕ → X → List (List ℕ)) →
    ((n : ℕ) → F n [] ≡ []) → ((n : ℕ) (x : X) (xs : List X) → F n (x ∷ xs) ≡ f n x ++ F (n + 1) xs) →
    (xs : List X) (i : ℕ) (d : X) → i < length xs →
    lines_text (F 0 (take (i + 1) xs)) ≡ lines_text (F 0 (take i xs)) ++ lines_text (f i (get_or xs i d))
all_numbered_more F f nil cons xs i d lt =
    ap lines_text (numbered_more F f nil cons xs i d lt)
    ∙ flat_map-append line_text (F 0 (take i xs)) (f i (get_or xs i d))

pub field_lines_more : (w : WorldShape) (fields : List CodeFieldShape) (i : ℕ) (field : CodeFieldShape) →
    i < length fields → field ≡ get_or fields i field → lines_text (field_lines w 0 (take (i + 1) fields))
    ≡ lines_text (field_lines w 0 (take i fields)) ++ lines_text (field_line (state_at w field.host) i field)
field_lines_more w fields i field lt is =
    all_numbered_more (field_lines w) (λ n one. field_line (state_at w one.host) n one) (λ n. refl) (λ n x xs. refl)
    fields i field lt
    ∙ ap (λ f. lines_text (field_lines w 0 (take i fields)) ++ lines_text (field_line (state_at w f.host) i f)) (sym is)

pub field_values_more : (w : WorldShape) (fields : List CodeFieldShape) (i : ℕ) (field : CodeFieldShape) →
    i < length fields → field ≡ get_or fields i field → field_values w 0 (take (i + 1) fields)
    ≡ field_values w 0 (take i fields) ++ field_value (state_at w field.host) i field
field_values_more w fields i field lt is =
    numbered_more (field_values w) (λ n one. field_value (state_at w one.host) n one) (λ n. refl) (λ n x xs. refl)
    fields i field lt
    ∙ ap (λ f. field_values w 0 (take i fields) ++ field_value (state_at w f.host) i f) (sym is)

-- the item at a place, whatever stands past the end
pub item_at : {X : Type 0} (items : List X) (i : ℕ) → i < length items →
    (item : X) × ((d : X) → get_or items i d ≡ item)
item_at [] i lt = absurd (omega arith)
item_at (item ∷ items) zero lt = (item, λ d. refl)
item_at (item ∷ items) (suc i) lt = item_at items i (omega arith)

pub queue_lines_more : (code : CodeShape) (from to : ℕ) (queue : List Message) (i : ℕ) (message : Message) →
    i < length queue → get_or queue i message ≡ message →
    lines_text (queue_lines code from to 0 (take (i + 1) queue))
    ≡ lines_text (queue_lines code from to 0 (take i queue)) ++ (flying_line code from to i message ++ 10 ∷ [])
queue_lines_more code from to queue i message lt is =
    report.numbered_more (queue_lines code from to) (flying_line code from to) (λ n. refl)
    (λ n x xs. refl) queue i message lt
    ∙ ap (λ m. lines_text (queue_lines code from to 0 (take i queue)) ++ (flying_line code from to i m ++ 10 ∷ [])) is

pub sent_lines_more : (code : CodeShape) (sent : List SentMessage) (i : ℕ) (one : SentMessage) → i < length sent →
    get_or sent i one ≡ one →
    lines_text (sent_lines code 0 (take (i + 1) sent))
    ≡ lines_text (sent_lines code 0 (take i sent)) ++ (sent_line code i one ++ 10 ∷ [])
sent_lines_more code sent i one lt is =
    report.numbered_more (sent_lines code) (sent_line code) (λ n. refl) (λ n x xs. refl) sent i one lt
    ∙ ap (λ m. lines_text (sent_lines code 0 (take i sent)) ++ (sent_line code i m ++ 10 ∷ [])) is

-- the lines of the numbers below one more
pub range_more : (g : ℕ → List (List ℕ)) (n : ℕ) → lines_text (flat_map g (range_with_len 0 (n + 1)))
    ≡ lines_text (flat_map g (range_with_len 0 n)) ++ lines_text (g n)
range_more g n =
    rw add-one (ap (λ numbers. lines_text (flat_map g numbers)) (range_push 0 n n (omega arith))
    ∙ ap lines_text (sym (flat_map_more g [] (range_with_len 0 n) n))
    ∙ flat_map-append line_text (flat_map g (range_with_len 0 n)) (g n))

-- the parts of a report
pub drive_parts : (code : CodeShape) (made : ℕ) (w : WorldShape) →
    drive_text code made w ≡ (((((events_line made ++ 10 ∷ []) ++ (halted_line code w ++ 10 ∷ []))
    ++ lines_text (field_lines w 0 code.fields)) ++ lines_text (host_lines code w)) ++ lines_text (flying_lines code w))
    ++ lines_text (sent_lines code 0 w.sent)
drive_parts code made w = simp (flat_map-append, append_assoc)

pub replay_parts : (code : CodeShape) (w : WorldShape) →
    replay_text code w ≡ ((((halted_line code w ++ 10 ∷ []) ++ lines_text (field_lines w 0 code.fields))
    ++ lines_text (host_lines code w)) ++ lines_text (flying_lines code w)) ++ lines_text (sent_lines code 0 w.sent)
replay_parts code w = simp (flat_map-append, append_assoc)

-- ---- hosts that obey, and those that do not

state_there : (world : WorldModel) (number : HostId) (found : Option HostModel) → found ≡ host_at world number →
    state_at (world_of world) number ≡ option_map state_of found
state_there world number found is = present_states world.hosts number ∙ ap (option_map state_of) (sym is)

pub host_shown : (world : WorldModel) (number : HostId) (name other : List ℕ) (host : HostModel) →
    Some host ≡ host_at world number → name ≡ other →
    line_text (state_line name (state_of host)) ≡ lines_text (host_line other (state_at (world_of world) number))
host_shown world number name other host there same =
    ap (λ (one : List ℕ). line_text (state_line one (state_of host))) same
    ∙ sym (append-nil (line_text (state_line other (state_of host))))
    ∙ ap (λ (state : Option HostState). lines_text (host_line other state))
    (sym (state_there world number (Some host) there))

pub host_hidden : (world : WorldModel) (number : HostId) (name text : List ℕ) → None ≡ host_at world number →
    text ≡ text ++ lines_text (host_line name (state_at (world_of world) number))
host_hidden world number name text none =
    sym (append-nil text)
    ∙ ap (λ (state : Option HostState). text ++ lines_text (host_line name state))
    (sym (state_there world number None none))

-- ---- messages in flight

pub messages_fit : (code : CodeShape) (from to : HostId) (flights : List Flight) →
    All (FlightFits code from to) flights → All (MessageFits code) (map (λ flight. flight.message) flights)
messages_fit code from to [] all = All-nil (MessageFits code)
messages_fit code from to (flight ∷ flights) all =
    All-cons (MessageFits code) flight.message (map (λ (one : Flight). one.message) flights)
    (All-head (FlightFits code from to) flight flights all).message
    (messages_fit code from to flights (All-tail (FlightFits code from to) flight flights all))

-- ---- fields

-- what is told of the name and the elements of a field, by what its host holds
elements_shown : (tell : List ℕ → List ℤ → List ℕ) (field : CodeFieldShape) (place : ℕ) (name : List ℕ) (size : ℕ)
    (row : List ℤ) (host : HostModel) → name ≡ field.name → size ≡ field.size →
    row ≡ elements_of (state_of host) place size →
    tell name row ≡ tell field.name (elements_of (state_of host) place field.size)
elements_shown tell field place name size row host named sized are =
    ap (λ (one : List ℕ). tell one row) named
    ∙ ap (λ (one : List ℤ). tell field.name one)
    (are ∙ ap (λ (n : ℕ). elements_of (state_of host) place n) sized)

field_there : (world : WorldModel) (field : CodeFieldShape) (at : HostId) (host : HostModel) →
    Some host ≡ host_at world at → at ≡ field.host → state_at (world_of world) field.host ≡ Some (state_of host)
field_there world field at host there here =
    state_there world field.host (Some host) (there ∙ ap (λ (one : HostId). host_at world one) here)

pub value_shown : (world : WorldModel) (place : ℕ) (field : CodeFieldShape) (at : HostId) (name : List ℕ) (size : ℕ)
    (row : List ℤ) (host : HostModel) → Some host ≡ host_at world at → at ≡ field.host → name ≡ field.name →
    size ≡ field.size → row ≡ elements_of (state_of host) place size →
    codes " " ++ name ++ codes " " ++ row_text row ≡ field_value (state_at (world_of world) field.host) place field
value_shown world place field at name size row host there here named sized are =
    elements_shown (λ one elements. codes " " ++ one ++ codes " " ++ row_text elements) field place name size row host
    named sized are
    ∙ ap (λ (state : Option HostState). field_value state place field)
    (sym (field_there world field at host there here))

pub field_shown : (world : WorldModel) (place : ℕ) (field : CodeFieldShape) (at : HostId) (name : List ℕ) (size : ℕ)
    (row : List ℤ) (host : HostModel) → Some host ≡ host_at world at → at ≡ field.host → name ≡ field.name →
    size ≡ field.size → row ≡ elements_of (state_of host) place size →
    line_text (row_line name row) ≡ lines_text (field_line (state_at (world_of world) field.host) place field)
field_shown world place field at name size row host there here named sized are =
    elements_shown (λ one elements. line_text (row_line one elements)) field place name size row host named sized are
    ∙ sym (append-nil (line_text (row_line field.name (elements_of (state_of host) place field.size))))
    ∙ ap (λ (state : Option HostState). lines_text (field_line state place field))
    (sym (field_there world field at host there here))

pub one_element : (host : HostModel) (field : ℕ) (index : ℕ) (row next : List ℤ) (value : ℤ) →
    row ≡ elements_of (state_of host) field index → value ≡ element_at (row_of host.stores.rows field) (pos index) →
    next ≡ row ++ value ∷ [] → next ≡ elements_of (state_of host) field (index + 1)
one_element host field index row next value before is more =
    more ∙ ap (λ (r : List ℤ). r ++ value ∷ []) before
    ∙ ap (λ (v : ℤ). elements_of (state_of host) field index ++ v ∷ []) is
    ∙ sym (map-range_with_len_more (λ (k : ℕ). element_at (row_of host.stores.rows field) (pos k)) 0 index index
    (omega arith))
