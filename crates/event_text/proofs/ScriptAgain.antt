-- A script that is printed is read as that script.
use Rattle.std.proofs.Common.{◌≡◌, ◌∙◌, ◌≤◌, ◌+◌, ℕ, ℤ, Bool, true, false, List, [], ◌∷◌, ◌++◌, map, length}
use Rattle.std.proofs.Common.{Some, None, Ok, refl, ap, sym, subst, inl, inr, arith, All, slice_get, codes}
use Rattle.std.proofs.Common.{append_assoc, length-append}
use Rattle.std.specs.Prelude.{if◌then◌else◌, nat_eq, ◌==◌}
use Rattle.std.specs.Fmt.{decimal, signed_decimal}
use Rattle.std.specs.List.{AllByRecursion, IsDistinct, starts_with}
use Rattle.std.specs.Option.{option_map}
use Rattle.std.specs.Ordering.{int_eq}
use Rattle.std.specs.Int.{bit_at}
use Rattle.std.specs.Str.{bytes_eq}
use Rattle.std.proofs.lemmas.List.Elements.{All-head, All-tail}
use Rattle.std.proofs.lemmas.Option.{slice_get-map}
use Rattle.std.proofs.lemmas.Slice.Eq.{bytes_eq-Decides}
use Rattle.js_base.specs.Name.{IsName}
use Rattle.js_base.specs.declared.ids.HostId.{HostId}
use Rattle.host_code.specs.declared.code.TheConstants.{MOST_ITEMS}
use Rattle.host_code.specs.Code.{CodeShape, CodeHostShape, CodeFieldShape}
use Rattle.host_code.specs.Sound.{IsSoundCode, FieldFits}
use Rattle.event_text.specs.declared.event.Event.{Event}
use Rattle.event_text.specs.declared.settings.Setting.{Setting}
use Rattle.event_text.specs.EventText.{IsSaid, event_text}
use Rattle.event_text.specs.Events.{event_of, events_of}
use Rattle.event_text.specs.Lines.{LineShape, words, is_skipped, said_lines}
use Rattle.event_text.specs.Misbehaving.{bad_of, bad_in_front, past_bad, with_hosts}
use Rattle.event_text.specs.Script.{script_of, script_of_lines, with_start, script_behind_bad}
use Rattle.event_text.specs.ScriptText.{bad_lines, setting_text, row_lines, setting_lines, front_lines, script_text}
use Rattle.event_text.specs.ScriptText.{on_lines, text_of_lines, IsPrintable}
use Rattle.event_text.specs.Settings.{FieldForm, form_of, setting_of, settings_in_front, past_settings}
use Rattle.event_text.specs.Settings.{starting_rows, after_settings}
use Rattle.event_text.specs.Words.{Word}
use Rattle.event_text.proofs.BadAgain.{hosts_set, IsTold, hosts_told, Tell, tell_in_front, tell_past, word_again}
use Rattle.event_text.proofs.MadeParts.{either_made, mapped}
use Rattle.event_text.proofs.NamesAgain.{place_again}
use Rattle.event_text.proofs.PrintedBytes.{IsPrinted, event_printed, at_place, name_printed, both_printed, two_printed}
use Rattle.event_text.proofs.PrintedBytes.{three_printed, number_printed, signed_printed}
use Rattle.event_text.proofs.PrintedLines.{numbered_lines, numbered_both, IsSaying, said_again as lines_said_again}
use Rattle.event_text.proofs.SaidAgain.{said_again}
use Rattle.event_text.proofs.SettingsAgain.{IsSettable, Say, rows_settings, rows_say, say_in_front, say_past, rows_made}

-- ---- what no line of the kinds behind is

-- words that say an event are no comment, name no misbehaving host and set nothing
record IsEventAlone (hosts : List CodeHostShape) (fields : List FieldForm) (said : List Word) : Type 0 where
  saying : is_skipped said ≡ false
  no_host : bad_of hosts said ≡ None
  no_setting : setting_of fields said ≡ None

no_setting_by : (fields : List FieldForm) (verb : Word) (said : List Word) → bytes_eq verb (codes "set") ≡ false →
    setting_of fields (verb ∷ said) ≡ None
no_setting_by fields verb [] other = refl
no_setting_by fields verb (a ∷ []) other = refl
no_setting_by fields verb (a ∷ b ∷ []) other = rw other refl
no_setting_by fields verb (a ∷ b ∷ c ∷ []) other = rw other refl
no_setting_by fields verb (a ∷ b ∷ c ∷ d ∷ said) other = refl

alone_by : (hosts : List CodeHostShape) (fields : List FieldForm) (verb kind : Word) (said : List Word) →
    bytes_eq verb kind ≡ true → starts_with nat_eq kind (codes "//") ≡ false → bytes_eq kind (codes "bad") ≡ false →
    bytes_eq kind (codes "set") ≡ false → IsEventAlone hosts fields (verb ∷ said)
alone_by hosts fields verb kind said same comment bad set =
    let is : kind ≡ verb = sym ((bytes_eq-Decides verb kind).0 same) in
    subst (λ (w : Word). IsEventAlone hosts fields (w ∷ said)) is
    (record { saying = comment; no_host = rw bad refl; no_setting = no_setting_by fields kind said set })

event_alone : (code : CodeShape) (bad : ℕ) (fields : List FieldForm) (said : List Word) (event : Event) →
    event_of code bad said ≡ Some event → IsEventAlone code.hosts fields said
event_alone code bad fields [] event is = absurd cc
event_alone code bad fields (verb ∷ said) event is =
    elim (either_made (bytes_eq verb (codes "turn")) _ _ event is) [
      | inl (turn, made) ↦ alone_by code.hosts fields verb (codes "turn") said turn refl refl refl
      | inr (other, rest) ↦ elim (either_made (bytes_eq verb (codes "take")) _ _ event rest) [
        | inl (take, made) ↦ alone_by code.hosts fields verb (codes "take") said take refl refl refl
        | inr (another, last) ↦ elim (either_made (bytes_eq verb (codes "act")) _ _ event last) [
          | inl (act, made) ↦ alone_by code.hosts fields verb (codes "act") said act refl refl refl
          | inr (unlike, none) ↦ absurd cc
        ]
      ]
    ]

-- words that set something are no comment, and name no misbehaving host
record IsSettingAlone (hosts : List CodeHostShape) (said : List Word) : Type 0 where
  saying : is_skipped said ≡ false
  no_host : bad_of hosts said ≡ None

set_alone : (hosts : List CodeHostShape) (verb : Word) (said : List Word) → bytes_eq verb (codes "set") ≡ true →
    IsSettingAlone hosts (verb ∷ said)
set_alone hosts verb said same =
    let is : codes "set" ≡ verb = sym ((bytes_eq-Decides verb (codes "set")).0 same) in
    subst (λ (w : Word). IsSettingAlone hosts (w ∷ said)) is (record { saying = refl; no_host = refl })

setting_alone : (hosts : List CodeHostShape) (fields : List FieldForm) (said : List Word) (setting : Setting) →
    setting_of fields said ≡ Some setting → IsSettingAlone hosts said
setting_alone hosts fields [] setting is = absurd cc
setting_alone hosts fields (verb ∷ []) setting is = absurd cc
setting_alone hosts fields (verb ∷ a ∷ []) setting is = absurd cc
setting_alone hosts fields (verb ∷ a ∷ b ∷ []) setting is =
    elim (either_made (bytes_eq verb (codes "set")) _ None setting is) [
      | inl (same, made) ↦ set_alone hosts verb (a ∷ b ∷ []) same
      | inr (other, none) ↦ absurd cc
    ]
setting_alone hosts fields (verb ∷ a ∷ b ∷ c ∷ []) setting is =
    elim (either_made (bytes_eq verb (codes "set")) _ None setting is) [
      | inl (same, made) ↦ set_alone hosts verb (a ∷ b ∷ c ∷ []) same
      | inr (other, none) ↦ absurd cc
    ]
setting_alone hosts fields (verb ∷ a ∷ b ∷ c ∷ d ∷ said) setting is = absurd cc

bad_saying : (hosts : List CodeHostShape) (said : List Word) (host : HostId) → bad_of hosts said ≡ Some host →
    is_skipped said ≡ false
bad_saying hosts [] host is = absurd cc
bad_saying hosts (verb ∷ said) host is =
    elim (either_made (bytes_eq verb (codes "bad")) _ None host is) [
      | inl (same, made) ↦
          let own : codes "bad" ≡ verb = sym ((bytes_eq-Decides verb (codes "bad")).0 same) in
          subst (λ (w : Word). is_skipped (w ∷ said) ≡ false) own refl
      | inr (other, none) ↦ absurd cc
    ]

-- ---- what is known of each line

all_both : {X : Type 0} (P : X → Type 0) (xs ys : List X) → AllByRecursion P xs → AllByRecursion P ys →
    AllByRecursion P (xs ++ ys)
all_both P [] ys one two = two
all_both P (x ∷ xs) ys one two = (one.0, all_both P xs ys one.1 two)

-- a line behind those of misbehaving hosts
record IsBehind (hosts : List CodeHostShape) (text : List ℕ) : Type 0 where
  printed : IsPrinted text
  saying : IsSaying text
  no_host : bad_of hosts (words text) ≡ None

settings_behind : (hosts : List CodeHostShape) (fields : List FieldForm) (lines : List (List ℕ))
    (settings : List Setting) → Say fields lines settings → AllByRecursion IsPrinted lines →
    AllByRecursion (IsBehind hosts) lines
settings_behind hosts fields [] [] say printed = tt
settings_behind hosts fields [] (setting ∷ settings) say printed = tt
settings_behind hosts fields (line ∷ lines) [] say printed = absurd say
settings_behind hosts fields (line ∷ lines) (setting ∷ settings) say printed =
    let alone = setting_alone hosts fields (words line) setting say.0 in (
      record { printed = printed.0; saying = alone.saying; no_host = alone.no_host },
      settings_behind hosts fields lines settings say.1 printed.1,
    )

setting_printed : (field : FieldForm) → IsPrinted field.name → (index : ℕ) (value : ℤ) →
    IsPrinted (setting_text field index value)
setting_printed field name index value = by field.array
  where
    by : (array : Bool) → IsPrinted (if array
        then codes "set " ++ field.name ++ codes " " ++ decimal index ++ codes " " ++ signed_decimal value
        else codes "set " ++ field.name ++ codes " " ++ signed_decimal value)
    by true =
        three_printed {kind = codes "set "} (record { all = refl }) name (number_printed index) (signed_printed value)
    by false = two_printed {kind = codes "set "} (record { all = refl }) name (signed_printed value)

row_printed : (field : FieldForm) → IsPrinted field.name → (index : ℕ) (values : List ℤ) →
    AllByRecursion IsPrinted (row_lines field index values)
row_printed field name index [] = tt
row_printed field name index (value ∷ values) =
    by (int_eq value field.first) (setting_printed field name index value) (row_printed field name (index + 1) values)
  where
    by : (same : Bool) → IsPrinted (setting_text field index value) →
        AllByRecursion IsPrinted (row_lines field (index + 1) values) →
        AllByRecursion IsPrinted (if same then row_lines field (index + 1) values
        else setting_text field index value ∷ row_lines field (index + 1) values)
    by true here rest = rest
    by false here rest = (here, rest)

rows_printed : (left : List FieldForm) → AllByRecursion (λ field. IsPrinted field.name) left →
    (rows : List (List ℤ)) → AllByRecursion IsPrinted (setting_lines left rows)
rows_printed [] named rows = tt
rows_printed (field ∷ left) named [] = tt
rows_printed (field ∷ left) named (row ∷ rows) =
    all_both IsPrinted (row_lines field 0 row) (setting_lines left rows) (row_printed field named.0 0 row)
    (rows_printed left named.1 rows)

bad_printed : (word number : ℕ) (left : List CodeHostShape) → AllByRecursion (λ host. IsPrinted host.name) left →
    AllByRecursion IsPrinted (bad_lines word number left)
bad_printed word number [] named = tt
bad_printed word number (host ∷ left) named =
    by (bit_at word number == 1) (bad_printed word (number + 1) left named.1)
  where
    here : IsPrinted (codes "bad " ++ host.name)
    here = let own = named.0 in both_printed {a = codes "bad "} (record { all = refl }) own

    by : (is_set : Bool) → AllByRecursion IsPrinted (bad_lines word (number + 1) left) →
        AllByRecursion IsPrinted (if is_set then (codes "bad " ++ host.name) ∷ bad_lines word (number + 1) left
        else bad_lines word (number + 1) left)
    by true rest = (here, rest)
    by false rest = rest

told_saying : (all : List CodeHostShape) (lines : List (List ℕ)) (hosts : List HostId) → Tell all lines hosts →
    AllByRecursion IsSaying lines
told_saying all [] [] tell = tt
told_saying all [] (host ∷ hosts) tell = tt
told_saying all (line ∷ lines) [] tell = absurd tell
told_saying all (line ∷ lines) (host ∷ hosts) tell =
    (bad_saying all (words line) host tell.0, told_saying all lines hosts tell.1)

module _ (code : CodeShape) (bad : ℕ) (fields : List FieldForm) where
  -- a line that says an event
  record IsEventLine (text : List ℕ) : Type 0 where
    behind : IsBehind code.hosts text
    no_setting : setting_of fields (words text) ≡ None

  events_behind : IsSoundCode code → (events : List Event) → All (IsSaid code bad) events →
      AllByRecursion IsEventLine (map (event_text code) events)
  events_behind sound [] said = tt
  events_behind sound (event ∷ events) said =
      let (line, is) = All-head (IsSaid code bad) event events said in
      let alone = event_alone code bad fields (words (event_text code event)) event
      (said_again code bad line event is) in (
        record {
          behind = record {
            printed = event_printed code sound event;
            saying = alone.saying;
            no_host = alone.no_host;
          };
          no_setting = alone.no_setting;
        },
        events_behind sound events (All-tail (IsSaid code bad) event events said),
      )

  events_again : (number : ℕ) (events : List Event) → All (IsSaid code bad) events →
      events_of code bad (numbered_lines number (map (event_text code) events)) ≡ Ok (on_lines number events)
  events_again number [] said = refl
  events_again number (event ∷ events) said =
      let (line, is) = All-head (IsSaid code bad) event events said in
      let rest = events_again (number + 1) events (All-tail (IsSaid code bad) event events said) in
      rw (said_again code bad line event is, rest) refl

  all_printed : (lines : List (List ℕ)) → AllByRecursion (IsBehind code.hosts) lines → AllByRecursion IsPrinted lines
  all_printed [] all = tt
  all_printed (line ∷ lines) all = let here = all.0 in (here.printed, all_printed lines all.1)

  all_saying : (lines : List (List ℕ)) → AllByRecursion (IsBehind code.hosts) lines → AllByRecursion IsSaying lines
  all_saying [] all = tt
  all_saying (line ∷ lines) all = let here = all.0 in (here.saying, all_saying lines all.1)

  event_lines_behind : (lines : List (List ℕ)) → AllByRecursion IsEventLine lines →
      AllByRecursion (IsBehind code.hosts) lines
  event_lines_behind [] all = tt
  event_lines_behind (line ∷ lines) all = let here = all.0 in (here.behind, event_lines_behind lines all.1)

  -- the first of them stops what is in front
  no_bad_front : (number : ℕ) (lines : List (List ℕ)) → AllByRecursion (IsBehind code.hosts) lines →
      bad_in_front code.hosts (numbered_lines number lines) ≡ []
  no_bad_front number [] all = refl
  no_bad_front number (line ∷ lines) all = let here = all.0 in rw here.no_host refl

  no_bad_past : (number : ℕ) (lines : List (List ℕ)) → AllByRecursion (IsBehind code.hosts) lines →
      past_bad code.hosts (numbered_lines number lines) ≡ numbered_lines number lines
  no_bad_past number [] all = refl
  no_bad_past number (line ∷ lines) all = let here = all.0 in rw here.no_host refl

  no_set_front : (number : ℕ) (lines : List (List ℕ)) → AllByRecursion IsEventLine lines →
      settings_in_front fields (numbered_lines number lines) ≡ []
  no_set_front number [] all = refl
  no_set_front number (line ∷ lines) all = let here = all.0 in rw here.no_setting refl

  no_set_past : (number : ℕ) (lines : List (List ℕ)) → AllByRecursion IsEventLine lines →
      past_settings fields (numbered_lines number lines) ≡ numbered_lines number lines
  no_set_past number [] all = refl
  no_set_past number (line ∷ lines) all = let here = all.0 in rw here.no_setting refl

-- ---- the whole

same_names : (left : List CodeFieldShape) →
    map (λ (field : FieldForm). field.name) (map form_of left) ≡ map (λ field. field.name) left
same_names [] = refl
same_names (field ∷ left) = ap (λ (names : List (List ℕ)). field.name ∷ names) (same_names left)

module _ (code : CodeShape) (bad : ℕ) (start : List (List ℤ)) (events : List Event) (sound : IsSoundCode code)
    (printable : IsPrintable code bad start events) where
  abbrev fields : List FieldForm
  fields = map form_of code.fields

  abbrev bads : List (List ℕ)
  bads = bad_lines bad 0 code.hosts

  abbrev sets : List (List ℕ)
  sets = setting_lines fields start

  abbrev acts : List (List ℕ)
  acts = map (event_text code) events

  abbrev there : List HostId
  there = hosts_set bad 0 code.hosts

  abbrev settings : List Setting
  settings = rows_settings 0 fields start

  -- ---- what hosts and fields are

  host_is : (number : ℕ) (host : CodeHostShape) → slice_get code.hosts number ≡ Some host →
      IsTold code.hosts (0 + number) host
  host_is number host is =
      let P : CodeHostShape → Type 0 = λ one. IsName one.name × (length one.name ≤ MOST_ITEMS) in
      subst (λ n. IsTold code.hosts n host) (omega arith)
      (record {
        name = (at_place P code.hosts number host sound.host_names is).0;
        named =
            ap (option_map (λ n. record { 0 = n }))
            (place_again (λ (one : CodeHostShape). one.name) code.hosts number host printable.hosts is);
      })

  names_are : map (λ (field : FieldForm). field.name) fields ≡ map (λ field. field.name) code.fields
  names_are = same_names code.fields

  field_is : (place : ℕ) (field : FieldForm) → slice_get fields place ≡ Some field → IsSettable fields (0 + place) field
  field_is place field is =
      let (own, found, same) =
      mapped form_of (slice_get code.fields place) field (sym (slice_get-map form_of code.fields place) ∙ is) in
      let fits = at_place (FieldFits code) code.fields place own sound.fields found in
      let distinct = subst (IsDistinct bytes_eq) (sym names_are) printable.fields in
      let P : FieldForm → Type 0 = λ one. IsSettable fields (0 + place) one in
      let at : place ≡ 0 + place = omega arith in
      let own_there : slice_get fields (0 + place) ≡ Some (form_of own) =
      ap (slice_get fields) (sym at) ∙ is ∙ ap Some (sym same) in
      subst P same
      (record {
        there = own_there;
        named = place_again (λ (one : FieldForm). one.name) fields (0 + place) (form_of own) distinct own_there;
        name = fits.name;
        size = fits.size.1;
        plain = fits.size.2;
      })

  hosts_printed : (left : List CodeHostShape) →
      All (λ host. IsName host.name × (length host.name ≤ MOST_ITEMS)) left →
      AllByRecursion (λ host. IsPrinted host.name) left
  hosts_printed [] all = tt
  hosts_printed (host ∷ left) all =
      let P : CodeHostShape → Type 0 = λ one. IsName one.name × (length one.name ≤ MOST_ITEMS) in
      (name_printed host.name (All-head P host left all).0, hosts_printed left (All-tail P host left all))

  fields_printed : (left : List CodeFieldShape) → All (FieldFits code) left →
      AllByRecursion (λ field. IsPrinted field.name) (map form_of left)
  fields_printed [] all = tt
  fields_printed (field ∷ left) all = (
    name_printed field.name (All-head (FieldFits code) field left all).name,
    fields_printed left (All-tail (FieldFits code) field left all),
  )

  -- ---- what the lines say

  told : Tell code.hosts bads there
  told = hosts_told code.hosts bad 0 code.hosts host_is

  say : Say fields sets settings
  say = rows_say fields 0 fields field_is start printable.sizes printable.values

  event_lines : AllByRecursion (IsEventLine code bad fields) acts
  event_lines = events_behind code bad fields sound events printable.said

  behind : AllByRecursion (IsBehind code.hosts) (sets ++ acts)
  behind =
      all_both (IsBehind code.hosts) sets acts
      (settings_behind code.hosts fields sets settings say
      (rows_printed fields (fields_printed code.fields sound.fields) start))
      (event_lines_behind code bad fields acts event_lines)

  lines_are : said_lines (script_text code bad start events) ≡ numbered_lines 1 (bads ++ (sets ++ acts))
  lines_are =
      ap (λ (lines : List (List ℕ)). said_lines (text_of_lines lines)) (append_assoc bads sets acts)
      ∙ lines_said_again (bads ++ (sets ++ acts))
      (all_both IsPrinted bads (sets ++ acts) (bad_printed bad 0 code.hosts (hosts_printed code.hosts sound.host_names))
      (all_printed code bad fields (sets ++ acts) behind))
      (all_both IsSaying bads (sets ++ acts) (told_saying code.hosts bads there told)
      (all_saying code bad fields (sets ++ acts) behind))

  abbrev past : List LineShape
  past = numbered_lines (1 + length bads) (sets ++ acts)

  abbrev left : List LineShape
  left = numbered_lines (1 + length bads + length sets) acts

  parted : numbered_lines 1 (bads ++ (sets ++ acts)) ≡ numbered_lines 1 bads ++ past
  parted = numbered_both 1 bads (sets ++ acts)

  past_is : past ≡ numbered_lines (1 + length bads) sets ++ left
  past_is = numbered_both (1 + length bads) sets acts

  word_is : with_hosts 0 (bad_in_front code.hosts (numbered_lines 1 bads ++ past)) ≡ bad
  word_is =
      ap (with_hosts 0) (tell_in_front code.hosts 1 bads there past told
      (no_bad_front code bad fields (1 + length bads) (sets ++ acts) behind))
      ∙ word_again bad code.hosts printable.among

  behind_bad : past_bad code.hosts (numbered_lines 1 bads ++ past) ≡ past
  behind_bad =
      tell_past code.hosts 1 bads there past told
      (no_bad_past code bad fields (1 + length bads) (sets ++ acts) behind)

  settings_are : settings_in_front fields past ≡ settings
  settings_are =
      ap (settings_in_front fields) past_is
      ∙ say_in_front fields (1 + length bads) sets settings left say
      (no_set_front code bad fields (1 + length bads + length sets) acts event_lines)

  behind_settings : past_settings fields past ≡ left
  behind_settings =
      ap (past_settings fields) past_is
      ∙ say_past fields (1 + length bads) sets settings left say
      (no_set_past code bad fields (1 + length bads + length sets) acts event_lines)

  pub script_again : script_of code (script_text code bad start events)
      ≡ Ok (record {
        bad = bad;
        start = start;
        events = on_lines (length (front_lines code bad start) + 1) events;
      })
  script_again =
      let long = length-append bads sets in
      let number : 1 + length bads + length sets ≡ length (front_lines code bad start) + 1 = omega (arith, long) in
      ap (script_of_lines code fields) (lines_are ∙ parted)
      ∙ ap (λ n. script_behind_bad code fields n (past_bad code.hosts (numbered_lines 1 bads ++ past))) word_is
      ∙ ap (script_behind_bad code fields bad) behind_bad
      ∙ ap (λ (these : List Setting). with_start bad (after_settings (starting_rows fields) these)
      (events_of code bad (past_settings fields past))) settings_are
      ∙ ap (λ (rows : List (List ℤ)). with_start bad rows (events_of code bad (past_settings fields past)))
      (rows_made [] fields start printable.sizes)
      ∙ ap (λ (lines : List LineShape). with_start bad start (events_of code bad lines)) behind_settings
      ∙ ap (with_start bad start)
      (events_again code bad fields (1 + length bads + length sets) events printable.said)
      ∙ ap (λ n. Ok (record { bad = bad; start = start; events = on_lines n events })) number
