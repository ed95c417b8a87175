-- Some programs of Alice and Bob, to see why a host may not hold parts of them.
use Rattle.std.specs.Prelude.{ℕ, ◌+◌, ◌-◌, ◌^◌, pos, false, List, [], ◌∷◌, Option, Some, None, codes}
use Rattle.js_base.specs.declared.bits.TheConstants.{WORD_BITS}
use Rattle.js_base.specs.declared.binary_operator.BinOp.TheVariants.{Add}
use Rattle.js_base.specs.declared.ids.FieldId.{FieldId}
use Rattle.js_base.specs.declared.ids.VarId.{VarId}
use Rattle.js_base.specs.declared.ids.MethodId.{MethodId}
use Rattle.js_base.specs.declared.ids.StmtId.{StmtId}
use Rattle.js_base.specs.declared.ids.PrincipalId.{PrincipalId}
use Rattle.principals.specs.ActsFor.{outsider}
use Rattle.label_lattice.specs.declared.label.Label.{Label}
use Rattle.label_lattice.specs.Lattice.{first_bits, empty_label}
use Rattle.label_lattice.specs.PrintedExamples.{alice_and_bob}
use Rattle.jif_tree.specs.Trees.{Heading, local, scalar, element, binary, declassified, BlockTree}
use Rattle.jif_tree.specs.Trees.{done, set_local, set_field, branch, FieldTree, MethodTree}
use Rattle.label_reasons.specs.declared.reason.Trait.{Trait}
use Rattle.label_reasons.specs.declared.reason.Trait.TheVariants.{Keeps}
use Rattle.label_reasons.specs.declared.reason.Source.{Source}
use Rattle.label_reasons.specs.declared.reason.Via.{Via}
use Rattle.label_reasons.specs.declared.reason.Cause.{Cause}
use Rattle.need_labels.specs.Labelled.{Labelled}
use Rattle.place_reasons.specs.declared.reason.PlaceReason.{PlaceReason}
use Rattle.place_reasons.specs.ProgramReasons.{field_reasons, statement_reasons}
use Rattle.place_reasons.specs.Reasons.{field_reason, statement_reason, head_reason}

-- Alice is principal 0, and Bob principal 1
abbrev pub from_bob : Trait
from_bob = Keeps 0 1

abbrev pub from_alice : Trait
from_alice = Keeps 1 0

abbrev pub from_outsiders : Trait
from_outsiders = Keeps 0 outsider

abbrev pub caused : Source → Via → Option Cause
caused source via = Some (record { source = source; via = via })

-- ---- labels

-- a row that allows everybody, and those that allow Alice alone, Bob alone, and both of them
abbrev free_row : ℕ
free_row = first_bits WORD_BITS

abbrev for_alice : ℕ
for_alice = free_row - 2 ^ 1 - 2 ^ outsider

abbrev for_bob : ℕ
for_bob = free_row - 2 ^ 0 - 2 ^ outsider

abbrev for_both : ℕ
for_both = free_row - 2 ^ outsider

abbrev alices : Label
alices = record { rows = for_alice ∷ free_row ∷ []; trust = 0 }

abbrev bobs : Label
bobs = record { rows = free_row ∷ for_bob ∷ []; trust = 0 }

-- Alice lets Bob read
abbrev shared : Label
shared = record { rows = for_both ∷ free_row ∷ []; trust = 0 }

abbrev trusted_by_both : Label
trusted_by_both = record { rows = free_row ∷ free_row ∷ []; trust = 2 ^ 0 + 2 ^ 1 }

-- Alice keeps it and trusts it. This is also the label of her host.
abbrev pub host_a : Label
host_a = record alices { trust = 2 ^ 0 }

abbrev pub host_b : Label
host_b = record bobs { trust = 2 ^ 1 }

-- a host that may see all, and that nobody trusts
abbrev pub host_s : Label
host_s = record { rows = for_alice ∷ for_bob ∷ []; trust = 0 }

-- a host that may see all, and that both trust
abbrev pub host_t : Label
host_t = record host_s { trust = 2 ^ 0 + 2 ^ 1 }

-- a host that may see nothing that is kept
abbrev pub host_p : Label
host_p = record { rows = free_row ∷ free_row ∷ []; trust = 2 ^ 0 + 2 ^ 1 }

-- ---- programs

abbrev field : List ℕ → Label → FieldTree
field name label = record { name = name; label = label; size = 1; array = false; first = pos 0 }

abbrev pub first : FieldId
first = record { 0 = 0 }

abbrev pub second : FieldId
second = record { 0 = 1 }

abbrev pub q : FieldId
q = record { 0 = 2 }

abbrev pub o : VarId
o = record { 0 = 0 }

abbrev pub statement : ℕ → StmtId
statement place = record { 0 = place }

abbrev at : ℕ → Heading
at place = record { id = statement place; line = 1 }

abbrev pub main : MethodId
main = record { 0 = 0 }

abbrev pub alice : PrincipalId
alice = record { 0 = 0 }

abbrev main_of : Label → BlockTree → MethodTree
main_of begin body = record {
  name = codes "main";
  begin = begin;
  params = [];
  result = None;
  authority = alice ∷ [];
  head = statement 0;
  line = 1;
  body = body;
}

-- `main` over two fields of these labels and a field `q`, with a local `o`
abbrev program_of : Label → Label → Label → Label → List Label → BlockTree → Labelled
program_of one two of_q of_o pc body = record {
  program = record {
    fields = field (codes "a") one ∷ field (codes "b") two ∷ field (codes "q") of_q ∷ [];
    vars = record { method = main; name = codes "o"; label = None } ∷ [];
    methods = main_of empty_label body ∷ [];
    main = main;
  };
  var_labels = of_o ∷ [];
  pc = pc;
}

-- why a host of this label may not hold a field of a program
abbrev pub field_at : Labelled → Label → FieldId → Option PlaceReason
field_at labelled host wanted = field_reason alice_and_bob labelled host wanted

-- and why it may not hold a statement of its `main`
abbrev pub statement_at : Labelled → Label → BlockTree → Option PlaceReason
statement_at labelled host block = statement_reason alice_and_bob labelled host (main_of empty_label done) block

abbrev pub head_at : Label → Label → Option PlaceReason
head_at begin host = head_reason alice_and_bob host (main_of begin done)

-- and all of its fields, and all of its heads and statements, by their numbers
abbrev pub fields_at : Labelled → Label → List (Option PlaceReason)
fields_at labelled host = field_reasons alice_and_bob labelled host

abbrev pub statements_at : Labelled → Label → List (Option PlaceReason)
statements_at labelled host = statement_reasons alice_and_bob labelled host

-- `if (a) { q = b; }`, where Bob keeps `a`, and Alice keeps `b` and trusts it and `q`
abbrev pub read_inside : BlockTree
read_inside = set_field (at 2) q (scalar second) done

abbrev pub guarded_read : BlockTree
guarded_read = branch (at 1) (scalar first) read_inside done done

abbrev pub guarded_program : Labelled
guarded_program = program_of bobs host_a host_a empty_label (empty_label ∷ empty_label ∷ bobs ∷ []) guarded_read

-- `q = b[a];`, where Alice keeps `a`, and Bob keeps the array `b`
abbrev pub chosen : BlockTree
chosen = set_field (at 1) q (element second (scalar first)) done

abbrev pub chosen_program : Labelled
chosen_program = program_of alices bobs host_s empty_label (empty_label ∷ empty_label ∷ []) chosen

-- `q = a + b;`, where Alice keeps `a`, and Bob keeps `b`
abbrev pub sum : BlockTree
sum = set_field (at 1) q (binary Add (scalar first) (scalar second)) done

abbrev pub sum_program : Labelled
sum_program = program_of alices bobs host_s empty_label (empty_label ∷ empty_label ∷ []) sum

-- `int o = b; q = o;`, where Bob keeps `b`, and both trust `q`; Alice keeps `a` from outsiders alone
abbrev pub told_later : BlockTree
told_later = set_field (at 2) q (local o) done

abbrev pub local_program : Labelled
local_program = program_of shared bobs trusted_by_both bobs (empty_label ∷ empty_label ∷ empty_label ∷ [])
    (set_local (at 1) o (scalar second) told_later)

-- `q = declassify(a, {});` by the authority of Alice, who keeps `a`
abbrev pub released : BlockTree
released = set_field (at 1) q (declassified (scalar first) empty_label) done

abbrev pub released_program : Labelled
released_program = program_of alices bobs empty_label empty_label (empty_label ∷ empty_label ∷ []) released

-- the begin label `{Alice:}`
abbrev pub secret_begin : Label
secret_begin = alices

abbrev pub trusted_begin : Label
trusted_begin = trusted_by_both
