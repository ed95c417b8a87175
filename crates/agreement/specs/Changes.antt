-- What a host leaves of what may be seen of it, where it goes on unseen.
use Rattle.std.specs.Prelude.{◌≡◌, ℕ, true, false, Some, filter, slice_get, slice_index}
use Rattle.js_base.specs.declared.ids.HostId.{HostId}
use Rattle.js_base.specs.declared.ids.FieldId.{FieldId}
use Rattle.js_base.specs.declared.ids.FrameId.{FrameId}
use Rattle.js_base.specs.declared.ids.VarId.{VarId}
use Rattle.label_lattice.specs.declared.label.Label.{Label}
use Rattle.jif_tree.specs.Store.{row_of}
use Rattle.host_core.specs.Host.{HostState}
use Rattle.seen_world.specs.Eyes.{Eyes, is_open, is_hidden}
use Rattle.agreement.specs.Views.{sees_field, sees_variable, waits_open}

-- The key, fields, variables and counts stay where they may be seen, and so do the threads that may be seen and wait.
pub record StaysSeen (eyes : Eyes) (host : HostId) (old new : HostState) : Type 0 where
  pub key : new.key ≡ old.key
  pub rows : (field : FieldId) → sees_field eyes field ≡ true → row_of new.rows field.0 ≡ row_of old.rows field.0
  pub variables : (frame : FrameId) (x : VarId) → sees_variable eyes x ≡ true →
      new.variables frame x ≡ old.variables frame x
  pub waiting : filter (waits_open eyes host) new.waiting ≡ filter (waits_open eyes host) old.waiting
  pub serials : (number : ℕ) → is_hidden eyes number ≡ false →
      slice_index new.serials number ≡ slice_index old.serials number
  pub frames : (site : ℕ) (label : Label) → slice_get eyes.scene.sites site ≡ Some label → eyes.sees label ≡ true →
      slice_index new.frames site ≡ slice_index old.frames site
  pub requests : (place : ℕ) → is_open eyes host place ≡ true →
      slice_index new.requests place ≡ slice_index old.requests place
