-- What fields start with has 64 bits, where what their elements start with has: lines set only such numbers.
use Rattle.std.proofs.Common.{◌≡◌, ℕ, zero, suc, ◌-◌, ◌^◌, ◌<◌, ◌≤◌, ◌==◌, ◌&&◌, ℤ, pos, negsuc, Bool, true, false, not}
use Rattle.std.proofs.Common.{List, [], ◌∷◌, Option, Some, None, refl, subst, inl, inr, arith}
use Rattle.std.specs.Prelude.{All, FitsSigned, nat_lt, nat_le, if◌then◌else◌, replicate, slice_get, codes}
use Rattle.std.specs.Int.{w64}
use Rattle.std.specs.List.{AllByRecursion}
use Rattle.std.specs.Str.{bytes_eq}
use Rattle.std.proofs.lemmas.Bool.{and_parts}
use Rattle.std.proofs.lemmas.Bool.Decides.{nat_tests}
use Rattle.std.proofs.lemmas.List.Elements.{All-nil, All-head, All-tail, All-map, All-weaker, All-replicate, All-set}
use Rattle.jif_tree.specs.Store.{row_of, with_element}
use Rattle.event_text.specs.declared.settings.Setting.{Setting}
use Rattle.event_text.specs.Lines.{LineShape}
use Rattle.event_text.specs.Numbers.{number_of, signed_of, not_below_zero, below_zero}
use Rattle.event_text.specs.Settings.{FieldForm, field_named, setting_at, of_plain, of_element, plain_setting}
use Rattle.event_text.specs.Settings.{element_setting, setting_of, and_settings, settings_in_front, starting_rows}
use Rattle.event_text.specs.Settings.{after_setting, after_settings}
use Rattle.event_text.proofs.MadeParts.{then_made, either_made}

abbrev pub Fits : ℤ → Type 0
Fits value = FitsSigned w64 value

-- ---- numbers

abbrev FitsIfAny : Option ℤ → Type 0
FitsIfAny found = (value : ℤ) → found ≡ Some value → Fits value

not_below : (size : Option ℕ) → FitsIfAny (not_below_zero size)
not_below None value is = absurd cc
not_below (Some size) value is = elim (either_made (nat_lt size (2 ^ 63)) (Some (pos size)) None value is) [
  | inl (holds, made) ↦
      let same : pos size ≡ value = cc in
      let small : size < 2 ^ 63 = grind (arith, nat_tests) in
      let fits : Fits (pos size) = record { sfits = small } in
      subst Fits same fits
  | inr (fails, none) ↦ absurd cc
]

below : (size : Option ℕ) → FitsIfAny (below_zero size)
below None value is = absurd cc
below (Some size) value is =
    elim (either_made (nat_lt 0 size && nat_le size (2 ^ 63)) (Some (negsuc (size - 1))) None value is) [
      | inl (holds, made) ↦
          let same : negsuc (size - 1) ≡ value = cc in
          let (some, few) = and_parts (nat_lt 0 size) (nat_le size (2 ^ 63)) holds in
          let least : 0 < size = grind (arith, nat_tests) in
          let most : size ≤ 2 ^ 63 = grind (arith, nat_tests) in
          let fits : Fits (negsuc (size - 1)) = record { sfits = omega (arith, least, most) } in
          subst Fits same fits
      | inr (fails, none) ↦ absurd cc
    ]

signed_fits : (word : List ℕ) → FitsIfAny (signed_of word)
signed_fits [] value is = absurd cc
signed_fits (byte ∷ digits) value is =
    elim (either_made (byte == 45) (below_zero (number_of digits)) (not_below_zero (number_of (byte ∷ digits))) value
    is) [
      | inl (holds, made) ↦ below (number_of digits) value made
      | inr (fails, made) ↦ not_below (number_of (byte ∷ digits)) value made
    ]

-- ---- settings

abbrev SetsFitting : Option Setting → Type 0
SetsFitting found = (setting : Setting) → found ≡ Some setting → Fits setting.value

set_where : (test : Bool) (found : Option Setting) → SetsFitting found → SetsFitting (if test then found else None)
set_where true found fits setting is = fits setting is
set_where false found fits setting is = absurd cc

set_at : (place index : ℕ) (value : ℤ) → Fits value → SetsFitting (Some (setting_at place index value))
set_at place index value fits setting is =
    let same : setting_at place index value ≡ setting = cc in
    subst (λ (it : Setting). Fits it.value) same fits

plain_fits : (fields : List FieldForm) (place : Option ℕ) (said : Option ℤ) → FitsIfAny said →
    SetsFitting (plain_setting fields place said)
plain_fits fields (Some place) (Some value) fits setting is =
    let (field, there, made) = then_made (of_plain place value) (slice_get fields place) setting is in
    set_where (not field.array) (Some (setting_at place 0 value)) (set_at place 0 value (fits value refl)) setting made
plain_fits fields (Some place) None fits setting is = absurd cc
plain_fits fields None said fits setting is = absurd cc

element_fits : (fields : List FieldForm) (place index : Option ℕ) (said : Option ℤ) → FitsIfAny said →
    SetsFitting (element_setting fields place index said)
element_fits fields (Some place) (Some index) (Some value) fits setting is =
    let (field, there, made) = then_made (of_element place index value) (slice_get fields place) setting is in
    set_where field.array _
    (set_where (nat_lt index field.size) (Some (setting_at place index value))
    (set_at place index value (fits value refl))) setting made
element_fits fields (Some place) (Some index) None fits setting is = absurd cc
element_fits fields (Some place) None said fits setting is = absurd cc
element_fits fields None index said fits setting is = absurd cc

setting_fits : (fields : List FieldForm) (words : List (List ℕ)) → SetsFitting (setting_of fields words)
setting_fits fields [] setting is = absurd cc
setting_fits fields (verb ∷ []) setting is = absurd cc
setting_fits fields (verb ∷ name ∷ []) setting is = absurd cc
setting_fits fields (verb ∷ name ∷ value ∷ []) setting is =
    set_where (bytes_eq verb (codes "set")) _
    (plain_fits fields (field_named fields name) (signed_of value) (signed_fits value)) setting is
setting_fits fields (verb ∷ name ∷ index ∷ value ∷ []) setting is =
    set_where (bytes_eq verb (codes "set")) _
    (element_fits fields (field_named fields name) (number_of index) (signed_of value) (signed_fits value)) setting is
setting_fits fields (verb ∷ name ∷ index ∷ value ∷ next ∷ others) setting is = absurd cc

abbrev AllFit : List Setting → Type 0
AllFit settings = AllByRecursion (λ setting. Fits setting.value) settings

and_fits : (found : Option Setting) (others : List Setting) → SetsFitting found → AllFit others →
    AllFit (and_settings found others)
and_fits None others first rest = tt
and_fits (Some setting) others first rest = (first setting refl, rest)

settings_fit : (fields : List FieldForm) (lines : List LineShape) → AllFit (settings_in_front fields lines)
settings_fit fields [] = tt
settings_fit fields (line ∷ lines) =
    and_fits (setting_of fields line.words) (settings_in_front fields lines) (setting_fits fields line.words)
    (settings_fit fields lines)

-- ---- rows

row_fits : (rows : List (List ℤ)) (place : ℕ) → All (All Fits) rows → All Fits (row_of rows place)
row_fits [] place fit = All-nil Fits
row_fits (row ∷ rows) zero fit = All-head (All Fits) row rows fit
row_fits (row ∷ rows) (suc place) fit = row_fits rows place (All-tail (All Fits) row rows fit)

rows_fit : (rows : List (List ℤ)) (settings : List Setting) → All (All Fits) rows → AllFit settings →
    All (All Fits) (after_settings rows settings)
rows_fit rows [] fit set = fit
rows_fit rows (setting ∷ settings) fit set =
    let place : ℕ = setting.field.0 in
    let row : List ℤ = row_of rows place in
    rows_fit (after_setting rows setting) settings
    (All-set (All Fits) rows place (with_element row (pos setting.index) setting.value)
    (All-set Fits row setting.index setting.value set.0 (row_fits rows place fit)) fit) set.1

first_rows_fit : (fields : List FieldForm) → All (λ field. Fits field.first) fields →
    All (All Fits) (starting_rows fields)
first_rows_fit fields fit =
    All-map (All Fits) (λ (field : FieldForm). replicate field.size field.first) fields
    (All-weaker (λ (field : FieldForm). Fits field.first)
    (λ (field : FieldForm). All Fits (replicate field.size field.first))
    (λ field first. All-replicate Fits field.size field.first first) fields fit)

-- what fields start with that lines set
pub starts_fit : (fields : List FieldForm) (lines : List LineShape) → All (λ field. Fits field.first) fields →
    All (All Fits) (after_settings (starting_rows fields) (settings_in_front fields lines))
starts_fit fields lines fit =
    rows_fit (starting_rows fields) (settings_in_front fields lines) (first_rows_fit fields fit)
    (settings_fit fields lines)
