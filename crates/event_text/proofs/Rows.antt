-- A store keeps the sizes of its rows.
use Rattle.std.proofs.Common.{◌≡◌, ℕ, zero, suc, ℤ, pos, List, [], ◌∷◌, map, length, refl, ap}
use Rattle.std.proofs.Common.{◌∙◌, length-set}
use Rattle.std.specs.Prelude.{slice_set}
use Rattle.std.proofs.lemmas.List.{length-replicate}
use Rattle.jif_tree.specs.Store.{row_of, with_element}
use Rattle.event_text.specs.declared.settings.Setting.{Setting}
use Rattle.event_text.specs.Settings.{FieldForm, HasRows, starting_rows, after_setting, after_settings}

starting_sizes : (fields : List FieldForm) → HasRows fields (starting_rows fields)
starting_sizes [] = refl
starting_sizes (field ∷ fields) = rw (length-replicate, starting_sizes fields) refl

same_sizes : (rows : List (List ℤ)) (k : ℕ) (row : List ℤ) → length row ≡ length (row_of rows k) →
    map length (slice_set rows k row) ≡ map length rows
same_sizes [] k row same = refl
same_sizes (first ∷ rows) zero row same = ap (λ n. n ∷ map length rows) same
same_sizes (first ∷ rows) (suc k) row same = ap (λ sizes. length first ∷ sizes) (same_sizes rows k row same)

setting_keeps : (rows : List (List ℤ)) (setting : Setting) →
    map length (after_setting rows setting) ≡ map length rows
setting_keeps rows setting =
    same_sizes rows setting.field.0 (with_element (row_of rows setting.field.0) (pos setting.index) setting.value)
    (length-set (row_of rows setting.field.0) setting.index setting.value)

settings_keep : (rows : List (List ℤ)) (settings : List Setting) →
    map length (after_settings rows settings) ≡ map length rows
settings_keep rows [] = refl
settings_keep rows (setting ∷ others) =
    settings_keep (after_setting rows setting) others ∙ setting_keeps rows setting

-- settings leave rows of the sizes that the fields have
pub sizes_after : (fields : List FieldForm) (settings : List Setting) →
    HasRows fields (after_settings (starting_rows fields) settings)
sizes_after fields settings = settings_keep (starting_rows fields) settings ∙ starting_sizes fields
