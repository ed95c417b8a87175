-- Some programs of Alice, to see what the rules of labels ask for and in which order.
use Rattle.std.specs.Prelude.{ℕ, ◌-◌, ◌^◌, pos, false, List, [], ◌∷◌, Some, None, codes}
use Rattle.js_base.specs.declared.bits.TheConstants.{WORD_BITS}
use Rattle.js_base.specs.declared.binary_operator.BinOp.TheVariants.{Equal}
use Rattle.js_base.specs.declared.ids.FieldId.{FieldId}
use Rattle.js_base.specs.declared.ids.PrincipalId.{PrincipalId}
use Rattle.principals.specs.ActsFor.{Declared, outsider}
use Rattle.label_lattice.specs.declared.label.Label.{Label}
use Rattle.label_lattice.specs.Lattice.{first_bits, free_rows, empty_label, bottom_of, join_of}
use Rattle.jif_tree.specs.Trees.{Heading, number, scalar, binary, declassified, endorsed, BlockTree, done, set_field}
use Rattle.jif_tree.specs.Trees.{branch, loop, call, give_back, FieldTree, VarTree, ProgramTree}
use Rattle.jif_tree.specs.LabelRules.{Constraint, may_release, trusted, may_endorse, may_begin, may_flow, Obligation}
use Rattle.jif_tree.specs.LabelRules.{crossed}

abbrev pub only_alice : Declared
only_alice = record { names = codes "Alice" ∷ []; pairs = [] }

abbrev pub alice : PrincipalId
alice = record { 0 = 0 }

-- Alice forbids the outsider, and nobody trusts: `{Alice: Alice}`
abbrev pub secret : Label
secret = record { rows = (first_bits WORD_BITS - 2 ^ outsider) ∷ []; trust = 0 }

-- the same, trusted by Alice
abbrev pub trusted_secret : Label
trusted_secret = record { rows = (first_bits WORD_BITS - 2 ^ outsider) ∷ []; trust = 2 ^ 0 }

-- it forbids nothing, and Alice trusts it: `{<- Alice}`
abbrev pub trusted_only : Label
trusted_only = record { rows = free_rows; trust = 2 ^ 0 }

abbrev field : List ℕ → Label → FieldTree
field name label = record { name = name; label = label; size = 1; array = false; first = pos 0 }

abbrev at : ℕ → Heading
at place = record { id = record { 0 = place }; line = 1 }

-- `main` alone, which begins under the first label, over a field `a` of the second and a field `q` of the label `{}`
abbrev program_under : Label → Label → List PrincipalId → BlockTree → ProgramTree
program_under begin label authority body = record {
  fields = field (codes "a") label ∷ field (codes "q") empty_label ∷ [];
  vars = [];
  methods = record {
    name = codes "main";
    begin = begin;
    params = [];
    result = None;
    authority = authority;
    head = record { 0 = 0 };
    line = 1;
    body = body;
  } ∷ [];
  main = record { 0 = 0 };
}

abbrev program_of : Label → List PrincipalId → BlockTree → ProgramTree
program_of label authority body = program_under empty_label label authority body

abbrev a : FieldId
a = record { 0 = 0 }

abbrev q : FieldId
q = record { 0 = 1 }

-- `if (a == 1) { q = 1; }`
abbrev pub guarded_assignment : ProgramTree
guarded_assignment = program_of secret []
    (branch (at 1) (binary Equal (scalar a) (number (pos 1))) (set_field (at 2) q (number (pos 1)) done) done done)

-- `q = declassify(a, {});` by the authority of Alice
abbrev pub released_assignment : ProgramTree
released_assignment =
    program_of trusted_secret (alice ∷ []) (set_field (at 1) q (declassified (scalar a) empty_label) done)

abbrev asks : ℕ → Constraint → Obligation
asks statement constraint = record { statement = record { 0 = statement }; constraint = constraint }

-- the flow at the second statement, from the guard
abbrev pub guarded_flow : Obligation
guarded_flow = asks 2
    (may_flow
    (join_of (bottom_of only_alice) (join_of empty_label (join_of secret (bottom_of only_alice)))) empty_label)

-- the program label of the release, which nobody trusts
abbrev pub release_trust : Obligation
release_trust = asks 1 (trusted (alice ∷ []) empty_label)

-- the authority to release, the trust of who releases, and then the flow of what is released
abbrev pub release_asks : List Obligation
release_asks =
    asks 1 (may_release (alice ∷ []) trusted_secret empty_label) ∷ release_trust
    ∷ asks 1 (may_flow (join_of (crossed (join_of empty_label empty_label) trusted_secret) empty_label) empty_label)
    ∷ []

abbrev variable : ℕ → List ℕ → Label → VarTree
variable method name label = record { method = record { 0 = method }; name = name; label = Some label }

-- `y = sum(declassify(a, {}), 1);` in `main`, where `sum` has the parameters `x` and `z`, and a result
abbrev pub released_argument : ProgramTree
released_argument = record {
  fields = field (codes "a") trusted_secret ∷ [];
  vars = variable 0 (codes "x") empty_label ∷ variable 0 (codes "z") secret ∷ variable 0 (codes "return") secret
      ∷ variable 1 (codes "y") trusted_secret ∷ [];
  methods = record {
    name = codes "sum";
    begin = secret;
    params = record { 0 = 0 } ∷ record { 0 = 1 } ∷ [];
    result = Some (record { 0 = 2 });
    authority = [];
    head = record { 0 = 0 };
    line = 1;
    body = done;
  } ∷ record {
    name = codes "main";
    begin = empty_label;
    params = [];
    result = None;
    authority = alice ∷ [];
    head = record { 0 = 1 };
    line = 2;
    body = call (at 2) (record { 0 = 1 }) (record { 0 = 0 })
        (declassified (scalar a) empty_label ∷ number (pos 1) ∷ []) (Some (record { 0 = 3 })) done;
  } ∷ [];
  main = record { 0 = 1 };
}

-- what the arguments ask for, the begin label, the arguments from the left, and the result
abbrev pub call_asks_for : List Obligation
call_asks_for =
    asks 2 (may_release (alice ∷ []) trusted_secret empty_label)
    ∷ asks 2 (trusted (alice ∷ []) empty_label)
    ∷ asks 2 (may_begin empty_label secret)
    ∷ asks 2 (may_flow (join_of (crossed (join_of empty_label empty_label) trusted_secret) empty_label) empty_label)
    ∷ asks 2 (may_flow (join_of (bottom_of only_alice) empty_label) secret)
    ∷ asks 2 (may_flow (join_of secret empty_label) trusted_secret)
    ∷ []

-- `a = endorse(q, {<- Alice});` by this authority, where `a` has that label
abbrev pub endorsed_assignment : List PrincipalId → ProgramTree
endorsed_assignment authority = program_under trusted_only trusted_only authority
    (set_field (at 1) a (endorsed (scalar q) trusted_only) done)

-- the authority to endorse, and then the flow of what is endorsed
abbrev pub endorse_asks : List PrincipalId → List Obligation
endorse_asks authority =
    asks 1 (may_endorse authority empty_label trusted_only)
    ∷ asks 1 (may_flow (join_of (crossed empty_label (join_of trusted_only trusted_only)) trusted_only) trusted_only)
    ∷ []

-- Alice, and Bob, who acts for himself alone
abbrev pub alice_and_bob : Declared
alice_and_bob = record { names = codes "Alice" ∷ codes "Bob" ∷ []; pairs = [] }

abbrev pub bob : PrincipalId
bob = record { 0 = 1 }

-- Bob endorses what Alice is to trust
abbrev pub endorsed_by_bob : Obligation
endorsed_by_bob = asks 1 (may_endorse (bob ∷ []) empty_label trusted_only)

-- `while (declassify(a, {}) == 1) { q = 1; }` by the authority of Alice, who does not trust `a`
abbrev pub released_guard : ProgramTree
released_guard = program_under trusted_only secret (alice ∷ [])
    (loop (at 1) (binary Equal (declassified (scalar a) empty_label) (number (pos 1)))
    (set_field (at 2) q (number (pos 1)) done) done)

-- the program label of the loop joined with the label of its guard
abbrev pub in_loop : Label
in_loop =
    join_of trusted_only (join_of (crossed (join_of empty_label trusted_only) secret) (bottom_of only_alice))

-- the trust of Alice in the program label outside the loop, and in that inside it
abbrev pub outer_trust : Obligation
outer_trust = asks 1 (trusted (alice ∷ []) trusted_only)

abbrev pub inner_trust : Obligation
inner_trust = asks 1 (trusted (alice ∷ []) in_loop)

-- the guard under the outer program label and under the inner one, and the flow in the body
abbrev pub loop_asks : List Obligation
loop_asks =
    asks 1 (may_release (alice ∷ []) secret empty_label) ∷ outer_trust
    ∷ asks 1 (may_release (alice ∷ []) secret empty_label) ∷ inner_trust
    ∷ asks 2 (may_flow (join_of (bottom_of only_alice) in_loop) empty_label) ∷ []

-- `return a;` of a method that begins under `{<- Alice}`, whose result is the secret of Alice
abbrev pub returned_field : ProgramTree
returned_field = record {
  fields = field (codes "a") trusted_secret ∷ [];
  vars = variable 0 (codes "return") secret ∷ [];
  methods = record {
    name = codes "get";
    begin = trusted_only;
    params = [];
    result = Some (record { 0 = 0 });
    authority = [];
    head = record { 0 = 0 };
    line = 1;
    body = give_back (at 1) (scalar a) done;
  } ∷ record {
    name = codes "main";
    begin = empty_label;
    params = [];
    result = None;
    authority = [];
    head = record { 0 = 2 };
    line = 2;
    body = done;
  } ∷ [];
  main = record { 0 = 1 };
}

-- the label of the value joined with the program label, to that of the result
abbrev pub return_flow : Obligation
return_flow = asks 1 (may_flow (join_of trusted_secret trusted_only) secret)
