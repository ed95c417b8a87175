-- Settings that are printed are read as these settings, and make the rows that they were printed of.
use Rattle.std.proofs.Common.{◌≡◌, ◌∙◌, ◌<◌, ◌≤◌, ◌+◌, ◌^◌, ℕ, suc, ℤ, Bool, true, false, List, [], ◌∷◌, ◌++◌}
use Rattle.std.proofs.Common.{length, replicate, Some, refl, ap, sym, subst, arith, All, slice_get, codes}
use Rattle.std.proofs.Common.{append_assoc, length-append, add-zero}
use Rattle.std.specs.Prelude.{FitsSigned, if◌then◌else◌, nat_lt, slice_set}
use Rattle.std.specs.Fmt.{decimal, signed_decimal}
use Rattle.std.specs.Int.{w64}
use Rattle.std.specs.Ordering.{int_eq}
use Rattle.std.proofs.lemmas.Bool.Decides.{nat_tests, Decides-int_eq}
use Rattle.std.proofs.lemmas.List.Elements.{All-head, All-tail}
use Rattle.std.proofs.Math.Seq.{set-append_seam}
use Rattle.js_base.specs.Name.{IsName}
use Rattle.js_base.specs.declared.limits.TheConstants.{ARRAY_SIZE}
use Rattle.jif_tree.specs.Store.{row_of}
use Rattle.event_text.specs.declared.settings.Setting.{Setting}
use Rattle.event_text.specs.Lines.{LineShape, words}
use Rattle.event_text.specs.ScriptText.{setting_text, row_lines, setting_lines}
use Rattle.event_text.specs.Settings.{FieldForm, HasRows, field_named, setting_at}
use Rattle.event_text.specs.Settings.{setting_of, settings_in_front, past_settings, starting_rows}
use Rattle.event_text.specs.Settings.{after_setting, after_settings}
use Rattle.event_text.proofs.NumbersAgain.{number_again, signed_again}
use Rattle.event_text.proofs.PrintedLines.{numbered_lines}
use Rattle.event_text.proofs.PrintedWords.{name_word, number_word, signed_word, set_word, three_words_are, four_words_are}

-- ---- the settings that are printed

abbrev pub row_settings : ℕ → FieldForm → ℕ → List ℤ → List Setting
row_settings place field index [] = []
row_settings place field index (value ∷ values) =
    if int_eq value field.first
    then row_settings place field (index + 1) values
    else setting_at place index value ∷ row_settings place field (index + 1) values

abbrev pub rows_settings : ℕ → List FieldForm → List (List ℤ) → List Setting
rows_settings place [] rows = []
rows_settings place (field ∷ fields) [] = []
rows_settings place (field ∷ fields) (row ∷ rows) =
    row_settings place field 0 row ++ rows_settings (place + 1) fields rows

-- ---- what lines say

-- each line says the setting at its place
abbrev pub Say : List FieldForm → List (List ℕ) → List Setting → Type 0
Say fields [] [] = Unit {0}
Say fields [] (setting ∷ settings) = ⊥
Say fields (line ∷ lines) [] = ⊥
Say fields (line ∷ lines) (setting ∷ settings) =
    (setting_of fields (words line) ≡ Some setting) × Say fields lines settings

say_both : (fields : List FieldForm) (lines others : List (List ℕ)) (settings more : List Setting) →
    Say fields lines settings → Say fields others more → Say fields (lines ++ others) (settings ++ more)
say_both fields [] others [] more one two = two
say_both fields [] others (setting ∷ settings) more one two = absurd one
say_both fields (line ∷ lines) others [] more one two = absurd one
say_both fields (line ∷ lines) others (setting ∷ settings) more one two =
    (one.0, say_both fields lines others settings more one.1 two)

pub say_in_front : (fields : List FieldForm) (number : ℕ) (lines : List (List ℕ)) (settings : List Setting)
    (rest : List LineShape) → Say fields lines settings → settings_in_front fields rest ≡ [] →
    settings_in_front fields (numbered_lines number lines ++ rest) ≡ settings
say_in_front fields number [] [] rest say none = none
say_in_front fields number [] (setting ∷ settings) rest say none = absurd say
say_in_front fields number (line ∷ lines) [] rest say none = absurd say
say_in_front fields number (line ∷ lines) (setting ∷ settings) rest say none =
    rw say.0 (ap (λ (others : List Setting). setting ∷ others)
    (say_in_front fields (number + 1) lines settings rest say.1 none))

pub say_past : (fields : List FieldForm) (number : ℕ) (lines : List (List ℕ)) (settings : List Setting)
    (rest : List LineShape) → Say fields lines settings → past_settings fields rest ≡ rest →
    past_settings fields (numbered_lines number lines ++ rest) ≡ rest
say_past fields number [] [] rest say none = none
say_past fields number [] (setting ∷ settings) rest say none = absurd say
say_past fields number (line ∷ lines) [] rest say none = absurd say
say_past fields number (line ∷ lines) (setting ∷ settings) rest say none =
    rw say.0 (say_past fields (number + 1) lines settings rest say.1 none)

-- ---- one setting

-- a field that a script can set
pub record IsSettable (fields : List FieldForm) (place : ℕ) (field : FieldForm) : Type 0 where
  pub there : slice_get fields place ≡ Some field
  pub named : field_named fields field.name ≡ Some place
  pub name : IsName field.name
  pub size : field.size ≤ ARRAY_SIZE
  pub plain : (field.array ≡ false) → field.size ≡ 1

setting_says : (fields : List FieldForm) (place : ℕ) (field : FieldForm) → IsSettable fields place field →
    (index : ℕ) (value : ℤ) → index < field.size → FitsSigned w64 value →
    setting_of fields (words (setting_text field index value)) ≡ Some (setting_at place index value)
setting_says fields place field settable index value within fits = by field.array refl
  where
    small : index < 2 ^ 64
    small = let most = settable.size in omega (arith, most, within)

    by : (array : Bool) → field.array ≡ array →
        setting_of fields (words (if array
        then codes "set " ++ field.name ++ codes " " ++ decimal index ++ codes " " ++ signed_decimal value
        else codes "set " ++ field.name ++ codes " " ++ signed_decimal value))
        ≡ Some (setting_at place index value)
    by true is =
        let said = four_words_are (codes "set") field.name (decimal index) (signed_decimal value) set_word
        (name_word field.name settable.name) (number_word index small) (signed_word value fits) in
        let has : nat_lt index field.size ≡ true = grind (arith, nat_tests) in
        ap (setting_of fields) said
        ∙ rw (settable.named, number_again index small, signed_again value fits, settable.there, is, has) refl
    by false is =
        let said = three_words_are (codes "set") field.name (signed_decimal value) set_word
        (name_word field.name settable.name) (signed_word value fits) in
        let one = settable.plain is in
        let first : 0 ≡ index = omega (arith, one, within) in
        ap (setting_of fields) said
        ∙ rw (settable.named, signed_again value fits, settable.there, is) refl
        ∙ ap (λ n. Some (setting_at place n value)) first

-- ---- the settings of a row, and of all rows

pub row_says : (fields : List FieldForm) (place : ℕ) (field : FieldForm) → IsSettable fields place field →
    (index : ℕ) (values : List ℤ) → index + length values ≤ field.size → All (FitsSigned w64) values →
    Say fields (row_lines field index values) (row_settings place field index values)
row_says fields place field settable index [] within fit = tt
row_says fields place field settable index (value ∷ values) within fit =
    by (int_eq value field.first)
    (setting_says fields place field settable index value (omega (arith, within))
    (All-head (FitsSigned w64) value values fit))
    (row_says fields place field settable (index + 1) values (omega (arith, within))
    (All-tail (FitsSigned w64) value values fit))
  where
    by : (same : Bool) → setting_of fields (words (setting_text field index value))
        ≡ Some (setting_at place index value) →
        Say fields (row_lines field (index + 1) values) (row_settings place field (index + 1) values) →
        Say fields
        (if same then row_lines field (index + 1) values
        else setting_text field index value ∷ row_lines field (index + 1) values)
        (if same then row_settings place field (index + 1) values
        else setting_at place index value ∷ row_settings place field (index + 1) values)
    by true here rest = rest
    by false here rest = (here, rest)

-- the fields from a place on, with their rows
pub rows_say : (fields : List FieldForm) (place : ℕ) (left : List FieldForm) →
    ((k : ℕ) (field : FieldForm) → slice_get left k ≡ Some field → IsSettable fields (place + k) field) →
    (rows : List (List ℤ)) → HasRows left rows → All (All (FitsSigned w64)) rows →
    Say fields (setting_lines left rows) (rows_settings place left rows)
rows_say fields place [] settable rows sizes fit = tt
rows_say fields place (field ∷ left) settable [] sizes fit = tt
rows_say fields place (field ∷ left) settable (row ∷ rows) sizes fit =
    let here : IsSettable fields place field =
    subst (λ n. IsSettable fields n field) (add-zero place) (settable 0 field refl) in
    let size : length row ≡ field.size = cc in
    let others : HasRows left rows = cc in
    say_both fields (row_lines field 0 row) (setting_lines left rows) (row_settings place field 0 row)
    (rows_settings (place + 1) left rows)
    (row_says fields place field here 0 row (omega (arith, size))
    (All-head (All (FitsSigned w64)) row rows fit))
    (rows_say fields (place + 1) left (λ k one there.
    subst (λ n. IsSettable fields n one) (omega arith) (settable (suc k) one there)) rows others
    (All-tail (All (FitsSigned w64)) row rows fit))

-- ---- what they make

after_both : (rows : List (List ℤ)) (first second : List Setting) →
    after_settings rows (first ++ second) ≡ after_settings (after_settings rows first) second
after_both rows [] second = refl
after_both rows (setting ∷ first) second = after_both (after_setting rows setting) first second

row_there : (front back : List (List ℤ)) (row : List ℤ) → row_of (front ++ row ∷ back) (length front) ≡ row
row_there [] back row = refl
row_there (first ∷ front) back row = row_there front back row

-- one element becomes another
element_made : (front back : List (List ℤ)) (done rest : List ℤ) (first value : ℤ) →
    after_setting (front ++ (done ++ first ∷ rest) ∷ back) (setting_at (length front) (length done) value)
    ≡ front ++ (done ++ value ∷ rest) ∷ back
element_made front back done rest first value =
    let row : List ℤ = done ++ first ∷ rest in
    ap (λ (one : List ℤ). slice_set (front ++ row ∷ back) (length front) (slice_set one (length done) value))
    (row_there front back row)
    ∙ ap (λ (one : List ℤ). slice_set (front ++ row ∷ back) (length front) one)
    (set-append_seam done first rest value)
    ∙ set-append_seam front row back (done ++ value ∷ rest)

row_made : (front back : List (List ℤ)) (field : FieldForm) (done values : List ℤ) →
    after_settings (front ++ (done ++ replicate (length values) field.first) ∷ back)
    (row_settings (length front) field (length done) values)
    ≡ front ++ (done ++ values) ∷ back
row_made front back field done [] = refl
row_made front back field done (value ∷ values) =
    by (int_eq value field.first) refl
    (λ next. row_made front back field (done ++ next ∷ []) values)
  where
    left : List ℤ
    left = replicate (length values) field.first

    settings : List Setting
    settings = row_settings (length front) field (length done + 1) values

    long : (next : ℤ) → length (done ++ next ∷ []) ≡ length done + 1
    long next = length-append done (next ∷ [])

    grouped : (next : ℤ) (rest : List ℤ) → (done ++ next ∷ []) ++ rest ≡ done ++ next ∷ rest
    grouped next rest = append_assoc done (next ∷ []) rest

    rest_made : ((next : ℤ) → after_settings (front ++ ((done ++ next ∷ []) ++ left) ∷ back)
        (row_settings (length front) field (length (done ++ next ∷ [])) values)
        ≡ front ++ ((done ++ next ∷ []) ++ values) ∷ back) →
        (next : ℤ) → after_settings (front ++ (done ++ next ∷ left) ∷ back) settings
        ≡ front ++ (done ++ next ∷ values) ∷ back
    rest_made made next =
        ap (λ (row : List ℤ). after_settings (front ++ row ∷ back) settings) (sym (grouped next left))
        ∙ ap (λ n. after_settings (front ++ ((done ++ next ∷ []) ++ left) ∷ back)
        (row_settings (length front) field n values)) (sym (long next))
        ∙ made next
        ∙ ap (λ (row : List ℤ). front ++ row ∷ back) (grouped next values)

    by : (same : Bool) → int_eq value field.first ≡ same →
        ((next : ℤ) → after_settings (front ++ ((done ++ next ∷ []) ++ left) ∷ back)
        (row_settings (length front) field (length (done ++ next ∷ [])) values)
        ≡ front ++ ((done ++ next ∷ []) ++ values) ∷ back) →
        after_settings (front ++ (done ++ field.first ∷ left) ∷ back)
        (if same then settings else setting_at (length front) (length done) value ∷ settings)
        ≡ front ++ (done ++ value ∷ values) ∷ back
    by true is made =
        let own : value ≡ field.first = (Decides-int_eq value field.first).0 is in
        rest_made made field.first
        ∙ ap (λ (one : ℤ). front ++ (done ++ one ∷ values) ∷ back) (sym own)
    by false is made =
        ap (λ (rows : List (List ℤ)). after_settings rows settings)
        (element_made front back done left field.first value)
        ∙ rest_made made value

pub rows_made : (front : List (List ℤ)) (left : List FieldForm) (rows : List (List ℤ)) → HasRows left rows →
    after_settings (front ++ starting_rows left) (rows_settings (length front) left rows) ≡ front ++ rows
rows_made front [] [] sizes = refl
rows_made front [] (row ∷ rows) sizes = absurd cc
rows_made front (field ∷ left) [] sizes = absurd cc
rows_made front (field ∷ left) (row ∷ rows) sizes =
    let size : length row ≡ field.size = cc in
    let others : HasRows left rows = cc in
    let back = starting_rows left in
    let settings = row_settings (length front) field 0 row in
    let more = rows_settings (length front + 1) left rows in
    let longer : List (List ℤ) = front ++ row ∷ [] in
    after_both (front ++ replicate field.size field.first ∷ back) settings more
    ∙ ap (λ n. after_settings (after_settings (front ++ replicate n field.first ∷ back) settings) more) (sym size)
    ∙ ap (λ (made : List (List ℤ)). after_settings made more) (row_made front back field [] row)
    ∙ ap (λ (made : List (List ℤ)). after_settings made more) (sym (append_assoc front (row ∷ []) back))
    ∙ ap (λ n. after_settings (longer ++ back) (rows_settings n left rows)) (sym (length-append front (row ∷ [])))
    ∙ rows_made longer left rows others
    ∙ append_assoc front (row ∷ []) rows
