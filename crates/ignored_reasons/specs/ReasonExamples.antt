-- A small code, and messages that hosts A and B send each other, for worked reasons.
use Rattle.std.specs.Prelude.{ℕ, pos, false, [], ◌∷◌, codes}
use Rattle.js_base.specs.declared.ids.HostId.{HostId}
use Rattle.js_base.specs.declared.ids.FieldId.{FieldId}
use Rattle.js_base.specs.declared.ids.VarId.{VarId}
use Rattle.js_base.specs.declared.ids.EntryId.{EntryId}
use Rattle.js_base.specs.declared.ids.RequestId.{RequestId}
use Rattle.label_lattice.specs.declared.label.Label.{Label}
use Rattle.capability.specs.declared.token.Token.{Token}
use Rattle.host_code.specs.declared.message.Message.{Message}
use Rattle.host_code.specs.declared.message.Message.TheVariants as message
use Rattle.host_code.specs.Code.{CodeShape}
use Rattle.host_core.specs.Host.{HostState}
use Rattle.host_core.specs.Start.{main_frame, last_token, idle_host}

abbrev pub host_a : HostId
host_a = record { 0 = 0 }

abbrev pub host_b : HostId
host_b = record { 0 = 1 }

abbrev pub the_field : FieldId
the_field = record { 0 = 0 }

abbrev pub the_variable : VarId
the_variable = record { 0 = 0 }

abbrev pub the_entry : EntryId
the_entry = record { 0 = 1 }

abbrev pub the_request : RequestId
the_request = record { at = 0; count = 0 }

abbrev pub the_token : Token
the_token = last_token host_a

-- Host B has a label of its own. A has a field, a variable and an entry of another label, which A has too. Who enters
-- has to be trusted by the principals of the need.
abbrev pub small_code : (label_of_b label : Label) (need : ℕ) → CodeShape
small_code label_of_b label need =
    record {
      hosts = record { name = codes "A"; label = label } ∷ record { name = codes "B"; label = label_of_b } ∷ [];
      labels = label ∷ [];
      fields = record { name = codes "f"; label = 0; size = 1; array = false; first = pos 0; host = host_a } ∷ [];
      variables = record { name = codes "main.x"; label = 0 } ∷ [];
      entries =
          record { host = host_a; at = 0; label = 0; need = 0 }
          ∷ record { host = host_a; at = 1; label = 0; need = need } ∷ [];
      sites = [];
      parts = [];
      root = host_a;
      main = the_entry;
    }

-- a host on which nothing was started
abbrev pub resting : CodeShape → HostId → HostState
resting code me = idle_host code [] [] me

abbrev pub gets : Message
gets = message.Get the_request the_field (pos 0)

abbrev pub sets : Message
sets = message.Set the_request the_field (pos 0) (pos 7)

abbrev pub forwards : Message
forwards = message.Forward the_request main_frame the_variable (pos 7)

abbrev pub enters : EntryId → Message
enters entry = message.Rgoto main_frame entry the_token

abbrev pub enters_with : EntryId → Message
enters_with entry = message.RgotoWith main_frame entry the_token ((the_variable, pos 7) ∷ [])
