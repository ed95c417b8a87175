-- Worlds that start alike.
use Rattle.std.specs.Prelude.{◌≡◌, ℤ, true, false, List, Some}
use Rattle.js_base.specs.declared.ids.FieldId.{FieldId}
use Rattle.jif_tree.specs.Store.{row_of}
use Rattle.host_code.specs.Code.{CodeShape, CodeFieldShape, field_at}
use Rattle.net_world.specs.Secret.{IsReadable}
use Rattle.net_world.specs.World.{WorldShape, misbehaves}
use Rattle.seen_world.specs.Eyes.{Eyes, sees_at}

-- Two stores have the same rows for the fields that may be seen and stand on obeying hosts.
abbrev pub AreStartsAlike : Eyes → List (List ℤ) → List (List ℤ) → Type 0
AreStartsAlike eyes one other = (field : FieldId) (there : CodeFieldShape) → field_at eyes.code field ≡ Some there →
    sees_at eyes there.label ≡ true → eyes.bad there.host ≡ false → row_of one field.0 ≡ row_of other field.0

-- The same of code and a world of it, which tells who misbehaves.
abbrev pub AreStoresAlike : CodeShape → WorldShape → List (List ℤ) → List (List ℤ) → Type 0
AreStoresAlike code world one other = (field : FieldId) (there : CodeFieldShape) → field_at code field ≡ Some there →
    IsReadable code world there.label → misbehaves world there.host ≡ false → row_of one field.0 ≡ row_of other field.0
