-- Some refused programs of Alice and Bob, to see what is told of them.
use Rattle.std.specs.Prelude.{ℕ, ◌+◌, ◌-◌, ◌^◌, pos, false, List, [], ◌∷◌, Some, None, codes}
use Rattle.js_base.specs.declared.bits.TheConstants.{WORD_BITS}
use Rattle.js_base.specs.declared.binary_operator.BinOp.TheVariants.{GreaterEqual}
use Rattle.js_base.specs.declared.ids.FieldId.{FieldId}
use Rattle.js_base.specs.declared.ids.VarId.{VarId}
use Rattle.js_base.specs.declared.ids.MethodId.{MethodId}
use Rattle.js_base.specs.declared.ids.StmtId.{StmtId}
use Rattle.js_base.specs.declared.ids.PrincipalId.{PrincipalId}
use Rattle.principals.specs.ActsFor.{Declared, outsider}
use Rattle.label_lattice.specs.declared.label.Label.{Label}
use Rattle.label_lattice.specs.Lattice.{first_bits, empty_label}
use Rattle.jif_tree.specs.Trees.{Heading, number, local, scalar, binary, declassified, endorsed, BlockTree}
use Rattle.jif_tree.specs.Trees.{done, set_local, set_field, branch, call, FieldTree, MethodTree, ProgramTree}
use Rattle.label_reasons.specs.declared.reason.Trait.{Trait}
use Rattle.label_reasons.specs.declared.reason.Trait.TheVariants.{Keeps, Distrusts}
use Rattle.label_reasons.specs.declared.reason.Source.{Source}
use Rattle.label_reasons.specs.declared.reason.Source.TheVariants.{OfField, OfBegin}
use Rattle.label_reasons.specs.declared.reason.Via.{Via}
use Rattle.label_reasons.specs.declared.reason.Via.TheVariants.{Itself, ByLocal, ByGuard}
use Rattle.label_reasons.specs.declared.reason.Reason.{Reason}
use Rattle.label_reasons.specs.declared.reason.Wanted.{Wanted}
use Rattle.label_reasons.specs.declared.reason.Wanted.TheVariants.{KeptInField, Begun, Released, ReleaseTrusted}
use Rattle.label_reasons.specs.Reasons.{Explained}

abbrev tells : ℕ → Wanted → List Reason → Explained
tells place wanted reasons = Some (record { 0 = place }, wanted, reasons)

abbrev because : Trait → Source → Via → Reason
because held source via = record { held = held; cause = record { source = source; via = via } }

-- ---- labels

-- a row that allows everybody, and one that allows Alice alone of these two
abbrev free_row : ℕ
free_row = first_bits WORD_BITS

abbrev for_alice : ℕ
for_alice = free_row - 2 ^ 1 - 2 ^ outsider

-- `{Alice:}`
abbrev secret : Label
secret = record { rows = for_alice ∷ free_row ∷ []; trust = 0 }

-- `{?: Alice}`
abbrev trusted_by_alice : Label
trusted_by_alice = record { rows = free_row ∷ free_row ∷ []; trust = 2 ^ 0 }

-- Alice acts for Bob. So `{Alice:}` keeps from Bob on behalf of Bob too, and `{Bob:}` lets Alice read.
abbrev pub alice_for_bob : Declared
alice_for_bob = record { names = codes "Alice" ∷ codes "Bob" ∷ []; pairs = (0, 1) ∷ [] }

abbrev alices : Label
alices = record { rows = for_alice ∷ for_alice ∷ []; trust = 0 }

abbrev bobs : Label
bobs = record { rows = free_row ∷ (free_row - 2 ^ outsider) ∷ []; trust = 0 }

-- ---- programs

abbrev field : List ℕ → Label → FieldTree
field name label = record { name = name; label = label; size = 1; array = false; first = pos 0 }

abbrev a : FieldId
a = record { 0 = 0 }

abbrev q : FieldId
q = record { 0 = 1 }

abbrev statement : ℕ → StmtId
statement place = record { 0 = place }

abbrev at : ℕ → Heading
at place = record { id = statement place; line = 1 }

abbrev main : MethodId
main = record { 0 = 0 }

abbrev alice : PrincipalId
alice = record { 0 = 0 }

abbrev bob : PrincipalId
bob = record { 0 = 1 }

abbrev method : List ℕ → Label → List VarId → List PrincipalId → ℕ → BlockTree → MethodTree
method name begin params authority head body = record {
  name = name;
  begin = begin;
  params = params;
  result = None;
  authority = authority;
  head = statement head;
  line = 1;
  body = body;
}

-- `main` alone, over fields `a` and `q` of these labels
abbrev program_of : Label → Label → Label → List PrincipalId → BlockTree → ProgramTree
program_of first second begin authority body = record {
  fields = field (codes "a") first ∷ field (codes "q") second ∷ [];
  vars = [];
  methods = method (codes "main") begin [] authority 0 body ∷ [];
  main = main;
}

-- `if (a) { q = 1; }`, where Alice keeps `a`
abbrev pub guarded_assignment : ProgramTree
guarded_assignment = program_of secret empty_label empty_label []
    (branch (at 1) (scalar a) (set_field (at 2) q (number (pos 1)) done) done done)

-- Alice keeps it from Bob, since the guard tells `a`. That she keeps it from the outsider goes without saying.
abbrev pub by_the_guard : Explained
by_the_guard = tells 2 (KeptInField q) (because (Keeps 0 1) (OfField a) (ByGuard (statement 1)) ∷ [])

-- `q = a;`, where `a` has the label `{Alice:}`, `q` the label `{Bob:}`, and Alice acts for Bob
abbrev pub acted_for : ProgramTree
acted_for = program_of alices bobs empty_label [] (set_field (at 1) q (scalar a) done)

-- not that Bob keeps it from Bob, which fails too
abbrev pub by_alice_alone : Explained
by_alice_alone = tells 1 (KeptInField q) (because (Keeps 0 1) (OfField a) Itself ∷ [])

-- `q = declassify(a, {});` in a `main` with this begin label and authority
abbrev pub released : Label → List PrincipalId → ProgramTree
released begin authority =
    program_of secret empty_label begin authority (set_field (at 1) q (declassified (scalar a) empty_label) done)

-- by the authority of Alice, who does not trust that `main` begins
abbrev pub released_for_nobody : ProgramTree
released_for_nobody = released empty_label (alice ∷ [])

abbrev pub by_the_begin_label : Explained
by_the_begin_label = tells 1 ReleaseTrusted (because (Distrusts 0) (OfBegin main) Itself ∷ [])

-- by nobody's authority
abbrev pub released_by_nobody : ProgramTree
released_by_nobody = released trusted_by_alice []

abbrev pub by_no_authority : Explained
by_no_authority = tells 1 Released (because (Keeps 0 1) (OfField a) Itself ∷ [])

-- `q = a;`, where Alice trusts `q` alone
abbrev pub not_trusted : ProgramTree
not_trusted = program_of empty_label trusted_by_alice trusted_by_alice [] (set_field (at 1) q (scalar a) done)

abbrev pub by_trust : Explained
by_trust = tells 1 (KeptInField q) (because (Distrusts 0) (OfField a) Itself ∷ [])

-- `void m{}(int{} n) {}` and `if (a) { m(1); }`, where Alice keeps `a`
abbrev pub guarded_call : ProgramTree
guarded_call = record {
  fields = field (codes "a") secret ∷ [];
  vars = record { method = main; name = codes "n"; label = Some empty_label } ∷ [];
  methods = method (codes "m") empty_label (record { 0 = 0 } ∷ []) [] 0 done
      ∷ method (codes "main") empty_label [] [] 1
      (branch (at 2) (scalar a) (call (at 3) (record { 0 = 1 }) main (number (pos 1) ∷ []) None done) done done) ∷ [];
  main = record { 0 = 1 };
}

abbrev pub by_the_guard_of_a_call : Explained
by_the_guard_of_a_call = tells 3 (Begun main) (because (Keeps 0 1) (OfField a) (ByGuard (statement 2)) ∷ [])

-- ---- two secrets that meet, and that nobody releases

-- Alice, Bob, and two whom each of them trusts
abbrev pub four : Declared
four = record { names = codes "Alice" ∷ codes "Bob" ∷ codes "Vault" ∷ codes "Purse" ∷ []; pairs = [] }

-- `{Alice:; ?: Alice, Vault}`
abbrev reserve : Label
reserve = record {
  rows = (free_row - 2 ^ 1 - 2 ^ 2 - 2 ^ 3 - 2 ^ outsider) ∷ free_row ∷ free_row ∷ free_row ∷ [];
  trust = 2 ^ 0 + 2 ^ 2;
}

-- `{Bob:; ?: Bob, Purse}`
abbrev offer : Label
offer = record {
  rows = free_row ∷ (free_row - 2 ^ 0 - 2 ^ 2 - 2 ^ 3 - 2 ^ outsider) ∷ free_row ∷ free_row ∷ [];
  trust = 2 ^ 1 + 2 ^ 3;
}

-- `{?: Alice, Bob}`
abbrev by_both : Label
by_both = record { rows = free_row ∷ free_row ∷ free_row ∷ free_row ∷ []; trust = 2 ^ 0 + 2 ^ 1 }

abbrev r : VarId
r = record { 0 = 0 }

abbrev o : VarId
o = record { 0 = 1 }

-- `int r = endorse(reserve, {?: Alice, Bob}); int o = endorse(offer, {?: Alice, Bob}); deal = o >= r;`
abbrev pub unreleased : ProgramTree
unreleased = record {
  fields = field (codes "reserve") reserve ∷ field (codes "offer") offer ∷ field (codes "deal") by_both ∷ [];
  vars = record { method = main; name = codes "r"; label = None }
      ∷ record { method = main; name = codes "o"; label = None } ∷ [];
  methods = method (codes "main") by_both [] (alice ∷ bob ∷ []) 0
      (set_local (at 1) r (endorsed (scalar (record { 0 = 0 })) by_both)
      (set_local (at 2) o (endorsed (scalar (record { 0 = 1 })) by_both)
      (set_field (at 3) (record { 0 = 2 }) (binary GreaterEqual (local o) (local r)) done))) ∷ [];
  main = main;
}

-- Each keeps from the other, and from Vault and Purse, what came through a local.
abbrev pub by_two_locals : Explained
by_two_locals = tells 3 (KeptInField (record { 0 = 2 }))
    (because (Keeps 0 1) (OfField (record { 0 = 0 })) (ByLocal r (statement 1))
    ∷ because (Keeps 0 2) (OfField (record { 0 = 0 })) (ByLocal r (statement 1))
    ∷ because (Keeps 0 3) (OfField (record { 0 = 0 })) (ByLocal r (statement 1))
    ∷ because (Keeps 1 0) (OfField (record { 0 = 1 })) (ByLocal o (statement 2))
    ∷ because (Keeps 1 2) (OfField (record { 0 = 1 })) (ByLocal o (statement 2))
    ∷ because (Keeps 1 3) (OfField (record { 0 = 1 })) (ByLocal o (statement 2)) ∷ [])
