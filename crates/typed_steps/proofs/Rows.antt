-- Rows of fields: that of a host after a step is that of the store after the same.
use Rattle.std.proofs.Common.{◌≡◌, ◌≢◌, ◌∙◌, ℕ, inl, inr, List, Some, refl, ap}
use Rattle.std.proofs.Common.{sym}
use Rattle.std.specs.Prelude.{ℤ, slice_get}
use Rattle.js_base.specs.declared.ids.HostId.{HostId}
use Rattle.js_base.specs.declared.ids.FieldId.{FieldId}
use Rattle.js_base.proofs.Options.{some_same}
use Rattle.jif_tree.specs.Store.{row_of, store_after_write}
use Rattle.host_code.specs.Code.{CodeFieldShape, field_at}
use Rattle.host_core.specs.Host.{HostState}
use Rattle.net_world.specs.Flying.{Flying}
use Rattle.net_world.specs.World.{WorldShape, state_at}
use Rattle.net_world.proofs.Moved.{Moved, either}
use Rattle.net_world.proofs.Rows.{row_kept, same_written}
use Rattle.typed_steps.specs.Requests.{FieldIsOn}
use Rattle.typed_steps.specs.Values.{AreRowsAlike}
use Rattle.typed_steps.specs.Variables.{HaveFields}
use Rattle.typed_steps.specs.Views.{Split}
use Rattle.typed_steps.proofs.Alike.{row_by, row_on, row_both}

-- what each field has after a step of a host
fields_moved : (split : Split) (world after : WorldShape) (host : HostId) (old state : HostState) (flying : Flying)
    (store now : List (List ℤ)) → HaveFields split world store → state_at world host ≡ Some old →
    Moved world host state flying after →
    ((number : ℕ) → AreRowsAlike split.exposure number (row_of old.rows number) (row_of store number) →
    AreRowsAlike split.exposure number (row_of state.rows number) (row_of now number)) →
    ((number : ℕ) (field : CodeFieldShape) → slice_get split.code.fields number ≡ Some field →
    field.host.0 ≢ host.0 → row_of now number ≡ row_of store number) →
    HaveFields split after now
fields_moved split world after host old state flying store now fields obeys moved own others number field there is
    obeyed =
    elim (either world after host old state flying obeys moved field.host there obeyed) [
      | inl mover ↦
          row_by split.exposure number _ _ _ (ap (λ (s : HostState). row_of s.rows number) mover.is)
          (own number (fields number field old is (ap (state_at world) mover.same ∙ obeys)))
      | inr other ↦
          row_on split.exposure number _ _ _ (fields number field there is other.obeys)
          (sym (others number field is other.apart))
    ]

-- a step that writes no field that may not be affected
pub fields_kept : (split : Split) (world after : WorldShape) (host : HostId) (old state : HostState)
    (flying : Flying) (store : List (List ℤ)) → HaveFields split world store → state_at world host ≡ Some old →
    Moved world host state flying after →
    ((number : ℕ) → AreRowsAlike split.exposure number (row_of state.rows number) (row_of old.rows number)) →
    HaveFields split after store
fields_kept split world after host old state flying store fields obeys moved rows =
    fields_moved split world after host old state flying store store fields obeys moved
    (λ number same. row_both split.exposure number _ _ _ (rows number) same) (λ number field is apart. refl)

-- a step that writes no field
pub fields_same : (split : Split) (world after : WorldShape) (host : HostId) (old state : HostState)
    (flying : Flying) (store : List (List ℤ)) → HaveFields split world store → state_at world host ≡ Some old →
    Moved world host state flying after → state.rows ≡ old.rows → HaveFields split after store
fields_same split world after host old state flying store fields obeys moved rows =
    fields_kept split world after host old state flying store fields obeys moved
    (λ number. inl (ap (λ list. row_of list number) rows))

-- a step that writes a field of the host
pub fields_written : (split : Split) (world after : WorldShape) (host : HostId) (old state : HostState)
    (flying : Flying) (store : List (List ℤ)) (field : FieldId) (index value : ℤ) → HaveFields split world store →
    state_at world host ≡ Some old → Moved world host state flying after → FieldIsOn split.code field host →
    state.rows ≡ store_after_write old.rows field.0 index value →
    HaveFields split after (store_after_write store field.0 index value)
fields_written split world after host old state flying store field index value fields obeys moved on rows =
    fields_moved split world after host old state flying store (store_after_write store field.0 index value) fields
    obeys moved
    (λ number same. row_by split.exposure number _ _ _ (ap (λ list. row_of list number) rows) (elim same [
      | inl is ↦ inl (same_written old.rows store field.0 index value number is)
      | inr far ↦ inr far
    ]))
    (λ number other is apart. row_kept store field.0 index value number
    (λ at. apart (ap (λ (f : CodeFieldShape). f.host.0)
    (some_same (field_at split.code field) other on.there (ap (slice_get split.code.fields) (sym at) ∙ is) on.is)
    ∙ ap (λ (h : HostId). h.0) on.on_host)))

-- the row of a field on its host
pub row_there : (split : Split) (world : WorldShape) (host : HostId) (state : HostState) (store : List (List ℤ))
    (field : FieldId) → HaveFields split world store → state_at world host ≡ Some state →
    FieldIsOn split.code field host →
    AreRowsAlike split.exposure field.0 (row_of state.rows field.0) (row_of store field.0)
row_there split world host state store field fields obeys on =
    fields field.0 on.there state on.is (ap (state_at world) on.on_host ∙ obeys)
