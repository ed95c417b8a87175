-- A host that asks another one for a field, to see which journals are its own.
use Rattle.std.specs.Prelude.{ℕ, ℤ, pos, List, [], ◌∷◌, Some, None, false, codes}
use Rattle.js_base.specs.declared.ids.HostId.{HostId}
use Rattle.js_base.specs.declared.ids.RequestId.{RequestId}
use Rattle.label_lattice.specs.declared.label.Label.{Label}
use Rattle.host_code.specs.declared.code_expr.Node.TheVariants as node
use Rattle.host_code.specs.declared.instruction.Instr.{Instr}
use Rattle.host_code.specs.declared.instruction.Op.TheVariants as op
use Rattle.host_code.specs.declared.message.Message.{Message}
use Rattle.host_code.specs.declared.message.Message.TheVariants as message
use Rattle.host_code.specs.Code.{CodeShape, halt}
use Rattle.host_code.specs.Thread.{ThreadShape}
use Rattle.host_code.specs.Thread.Awaited.{value_of_field}
use Rattle.host_core.specs.Host.{HostState}
use Rattle.event_text.specs.Words.{Word}
use Rattle.journal_laws.specs.BareExamples.{frame, right}

abbrev pub host_a : HostId
host_a = record { 0 = 0 }

abbrev pub host_b : HostId
host_b = record { 0 = 1 }

abbrev pub read_f : Instr
read_f = record {
  label = 0;
  statement = record { 0 = 0 };
  op = op.Read (record { 0 = 0 }) (node.Number (pos 0) ∷ []);
}

-- Host A reads the field f, which stands on host B.
abbrev pub reading : Label → CodeShape
reading label = record {
  hosts = record { name = codes "A"; label = label } ∷ record { name = codes "B"; label = label } ∷ [];
  labels = [];
  fields = record { name = codes "f"; label = 0; size = 1; array = false; first = pos 0; host = host_b } ∷ [];
  variables = [];
  entries = [];
  sites = [];
  parts = (read_f ∷ []) ∷ [] ∷ [];
  root = host_a;
  main = halt;
}

abbrev pub thread_at : ℕ → List ℤ → ThreadShape
thread_at at temporaries =
    record { at = at; frame = frame; new_frame = frame; temporaries = temporaries; held = Some right }

-- before the question
abbrev pub asking : HostState
asking = record {
  me = host_a;
  key = [];
  rows = [] ∷ [];
  variables = λ frame x. pos 0;
  running = Some (thread_at 0 []);
  waiting = [];
  entries = [];
  serials = [];
  frames = [];
  requests = 0 ∷ [];
  ignored = 0;
  halted = false;
}

abbrev pub request : RequestId
request = record { at = 0; count = 0 }

-- behind it
abbrev pub waiting_for : HostState
waiting_for = record asking {
  running = None;
  waiting = record { thread = thread_at 1 []; awaited = value_of_field; request = request; asked = host_b } ∷ [];
  requests = 1 ∷ [];
}

abbrev pub answer : Message
answer = message.Value request (pos 7)

-- and behind the answer
abbrev pub answered : HostState
answered = record asking {
  running = Some (thread_at 1 (pos 7 ∷ []));
  requests = 1 ∷ [];
}

-- ---- lines

abbrev pub turn_line : List Word
turn_line = codes "turn" ∷ []

abbrev pub send_line : List Word
send_line = codes "send" ∷ codes "B" ∷ codes "get" ∷ codes "0.0" ∷ codes "f" ∷ codes "0" ∷ []

abbrev pub take_line : List Word
take_line = codes "take" ∷ codes "B" ∷ codes "value" ∷ codes "0.0" ∷ codes "7" ∷ []
