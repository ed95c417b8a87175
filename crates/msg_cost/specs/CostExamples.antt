-- Small programs under a plan, to see what they cost.
use Rattle.std.specs.Prelude.{ℕ, pos, List, [], ◌∷◌, map, Option, Some, None, codes}
use Rattle.js_base.specs.declared.binary_operator.BinOp.TheVariants.{Add, Less}
use Rattle.js_base.specs.declared.ids.FieldId.{FieldId}
use Rattle.js_base.specs.declared.ids.VarId.{VarId}
use Rattle.label_lattice.specs.Lattice.{empty_label}
use Rattle.host_decl.specs.Hosts.{HostShape, HostsShape}
use Rattle.jif_tree.specs.Trees.{Heading, number, local, scalar, binary, BlockTree, done, set_local, set_field, loop}
use Rattle.jif_tree.specs.Trees.{call, give_back, MethodTree}
use Rattle.need_labels.specs.Labelled.{Labelled}
use Rattle.need_labels.specs.Needs.{NeedsShape}
use Rattle.need_labels.specs.Plan.{PlanShape}

abbrev method_of : List VarId → Option VarId → ℕ → BlockTree → MethodTree
method_of params result head body = record {
  name = codes "m";
  begin = empty_label;
  params = params;
  result = result;
  authority = [];
  head = record { 0 = head };
  line = 1;
  body = body;
}

-- methods, of which the first is `main`, which are all that costs depend on
abbrev methods_of : List MethodTree → Labelled
methods_of methods = record {
  program = record { fields = []; vars = []; methods = methods; main = record { 0 = 0 } };
  var_labels = [];
  pc = [];
}

-- `main` alone
abbrev program_of : BlockTree → Labelled
program_of body = methods_of (method_of [] None 0 body ∷ [])

-- the principals that have to trust the host of each statement, and the statements that read each variable
abbrev needs_with : List ℕ → List (List ℕ) → NeedsShape
needs_with need readers = record {
  used = [];
  need = need;
  loc = [];
  readers = map (map (λ place. record { 0 = place })) readers;
}

-- no variables are there
abbrev needs_of : List ℕ → NeedsShape
needs_of need = needs_with need []

abbrev host : List ℕ → ℕ → HostShape
host name trust = record { name = name; label = record empty_label { trust = trust }; key = []; path = [] }

-- two hosts, of which these principals trust the first, and none the second, by the costs of a message from the first
-- to the second and of one back
abbrev hosts_apart : ℕ → ℕ → ℕ → HostsShape
hosts_apart trust there back = record {
  principals = record { names = codes "Alice" ∷ []; pairs = [] };
  hosts = host (codes "T") trust ∷ host (codes "A") 0 ∷ [];
  costs = (0 ∷ there ∷ []) ∷ (back ∷ 0 ∷ []) ∷ [];
}

-- where each link has the cost that it has where none is declared
abbrev hosts_of : ℕ → HostsShape
hosts_of trust = hosts_apart trust 1 1

abbrev plan_of : List ℕ → List ℕ → PlanShape
plan_of fields statements = record {
  fields = map (λ place. record { 0 = place }) fields;
  statements = map (λ place. record { 0 = place }) statements;
}

abbrev at : ℕ → Heading
at place = record { id = record { 0 = place }; line = 1 }

abbrev field : ℕ → FieldId
field place = record { 0 = place }

abbrev variable : ℕ → VarId
variable place = record { 0 = place }

-- `while (n < 4) { s = s + n; n = n + 1; }`, where Alice has to trust the hosts of all but the first assignment. The
-- second host holds `s` and runs that one, and Alice trusts the first host, which holds `n` and runs the others.
abbrev pub lent_in_a_loop : Labelled
lent_in_a_loop = program_of (loop (at 1) (binary Less (scalar (field 0)) (number (pos 4)))
    (set_field (at 2) (field 1) (binary Add (scalar (field 1)) (scalar (field 0)))
    (set_field (at 3) (field 0) (binary Add (scalar (field 0)) (number (pos 1))) done)) done)

abbrev pub loop_needs : NeedsShape
loop_needs = needs_of (1 ∷ 1 ∷ 0 ∷ 1 ∷ [])

abbrev pub loop_hosts : HostsShape
loop_hosts = hosts_of 1

abbrev pub loop_plan : PlanShape
loop_plan = plan_of (0 ∷ 1 ∷ []) (0 ∷ 0 ∷ 1 ∷ 0 ∷ [])

-- `p = p + v; q = q + w;`, where nobody has to trust a host. The second host holds `q` and runs the second assignment.
abbrev pub handed_on : Labelled
handed_on = program_of (set_field (at 1) (field 0) (binary Add (scalar (field 0)) (scalar (field 1)))
    (set_field (at 2) (field 3) (binary Add (scalar (field 3)) (scalar (field 2))) done))

abbrev pub handed_needs : NeedsShape
handed_needs = needs_of (0 ∷ 0 ∷ 0 ∷ [])

abbrev pub handed_hosts : HostsShape
handed_hosts = hosts_of 0

abbrev pub handed_plan : PlanShape
handed_plan = plan_of (0 ∷ 0 ∷ 0 ∷ 1 ∷ []) (0 ∷ 0 ∷ 1 ∷ [])

-- `p = p + 1; q = q + 1;`, each on another host, of three. The first is lent the right to go on. Its way back to where
-- that was costs 10, and over the second it costs 2.
abbrev pub told_ahead : Labelled
told_ahead = program_of (set_field (at 1) (field 0) (binary Add (scalar (field 0)) (number (pos 1)))
    (set_field (at 2) (field 1) (binary Add (scalar (field 1)) (number (pos 1))) done))

abbrev pub told_needs : NeedsShape
told_needs = needs_of (3 ∷ 0 ∷ 1 ∷ [])

abbrev pub told_hosts : HostsShape
told_hosts = record {
  principals = record { names = codes "Alice" ∷ codes "Bob" ∷ []; pairs = [] };
  hosts = host (codes "T") 3 ∷ host (codes "A") 0 ∷ host (codes "B") 1 ∷ [];
  costs = (0 ∷ 1 ∷ 1 ∷ []) ∷ (10 ∷ 0 ∷ 1 ∷ []) ∷ (1 ∷ 1 ∷ 0 ∷ []) ∷ [];
}

abbrev pub told_plan : PlanShape
told_plan = plan_of (1 ∷ 2 ∷ []) (0 ∷ 1 ∷ 2 ∷ [])

-- `x = m(3);` on the first host, and `m(y) { return y + 1; }` on the second. Nothing reads `x`.
abbrev pub called : Labelled
called = methods_of
    (method_of [] None 0
    (call (at 1) (record { 0 = 1 }) (record { 0 = 1 }) (number (pos 3) ∷ []) (Some (variable 0)) done)
    ∷ method_of (variable 1 ∷ []) (Some (variable 2)) 2
    (give_back (at 3) (binary Add (local (variable 1)) (number (pos 1))) done) ∷ [])

abbrev pub called_needs : NeedsShape
called_needs = needs_with (0 ∷ 0 ∷ 0 ∷ 0 ∷ []) ([] ∷ (3 ∷ []) ∷ [] ∷ [])

abbrev pub called_hosts : HostsShape
called_hosts = hosts_apart 0 3 5

abbrev pub called_plan : PlanShape
called_plan = plan_of [] (0 ∷ 0 ∷ 1 ∷ 1 ∷ [])

-- `x = 2; s = s + x;`, the first on the first host, and the second on the second, which holds `s`.
abbrev pub forwarded : Labelled
forwarded = program_of (set_local (at 1) (variable 0) (number (pos 2))
    (set_field (at 2) (field 0) (binary Add (scalar (field 0)) (local (variable 0))) done))

abbrev pub forwarded_needs : NeedsShape
forwarded_needs = needs_with (0 ∷ 0 ∷ 0 ∷ []) ((2 ∷ []) ∷ [])

abbrev pub forwarded_hosts : HostsShape
forwarded_hosts = hosts_apart 0 3 5

abbrev pub forwarded_plan : PlanShape
forwarded_plan = plan_of (1 ∷ []) (0 ∷ 0 ∷ 1 ∷ [])

-- `while (n < v) { while (k < 4) { v = k; k = k + 1; } n = n + 1; }` on the first host, where the second holds `v`.
abbrev pub nested : Labelled
nested = program_of (loop (at 1) (binary Less (scalar (field 0)) (scalar (field 2)))
    (loop (at 2) (binary Less (scalar (field 1)) (number (pos 4)))
    (set_field (at 3) (field 2) (scalar (field 1))
    (set_field (at 4) (field 1) (binary Add (scalar (field 1)) (number (pos 1))) done))
    (set_field (at 5) (field 0) (binary Add (scalar (field 0)) (number (pos 1))) done)) done)

abbrev pub nested_needs : NeedsShape
nested_needs = needs_of (0 ∷ 0 ∷ 0 ∷ 0 ∷ 0 ∷ 0 ∷ [])

abbrev pub nested_hosts : HostsShape
nested_hosts = hosts_of 0

abbrev pub nested_plan : PlanShape
nested_plan = plan_of (0 ∷ 0 ∷ 1 ∷ []) (0 ∷ 0 ∷ 0 ∷ 0 ∷ 0 ∷ 0 ∷ [])

-- where each message costs 1
abbrev pub plain_hosts : HostsShape
plain_hosts = hosts_of 0

-- `add(7);` on the first host, and `add(n) { b = b + n; }`, whose statement runs on the second, which holds `b`
abbrev pub added : Labelled
added = methods_of
    (method_of [] None 0 (call (at 1) (record { 0 = 1 }) (record { 0 = 1 }) (number (pos 7) ∷ []) None done)
    ∷ method_of (variable 0 ∷ []) None 2
    (set_field (at 3) (field 0) (binary Add (scalar (field 0)) (local (variable 0))) done) ∷ [])

abbrev pub added_needs : NeedsShape
added_needs = needs_with (0 ∷ 0 ∷ 0 ∷ 0 ∷ []) ((3 ∷ []) ∷ [])

-- the head of `add` on the second host, and on the first
abbrev pub added_plan : PlanShape
added_plan = plan_of (1 ∷ []) (0 ∷ 0 ∷ 1 ∷ 1 ∷ [])

abbrev pub apart_plan : PlanShape
apart_plan = plan_of (1 ∷ []) (0 ∷ 0 ∷ 0 ∷ 1 ∷ [])

-- `x = k; p = x;`, where the first host holds `k` and the second holds `p`
abbrev pub released : Labelled
released = program_of (set_local (at 1) (variable 0) (scalar (field 0))
    (set_field (at 2) (field 1) (local (variable 0)) done))

-- both on the first host, and each where its field is
abbrev pub first_plan : PlanShape
first_plan = plan_of (0 ∷ 1 ∷ []) (0 ∷ 0 ∷ 0 ∷ [])

abbrev pub second_plan : PlanShape
second_plan = plan_of (0 ∷ 1 ∷ []) (0 ∷ 0 ∷ 1 ∷ [])

-- `while (n < 4) { x = n; s = s + x; n = n + 1; }`, as the first loop, with `x` in between
abbrev pub read_in_a_loop : Labelled
read_in_a_loop = program_of (loop (at 1) (binary Less (scalar (field 0)) (number (pos 4)))
    (set_local (at 2) (variable 0) (scalar (field 0))
    (set_field (at 3) (field 1) (binary Add (scalar (field 1)) (local (variable 0)))
    (set_field (at 4) (field 0) (binary Add (scalar (field 0)) (number (pos 1))) done))) done)

abbrev pub read_needs : NeedsShape
read_needs = needs_with (1 ∷ 1 ∷ 1 ∷ 0 ∷ 1 ∷ []) ((3 ∷ []) ∷ [])

abbrev pub read_plan : PlanShape
read_plan = plan_of (0 ∷ 1 ∷ []) (0 ∷ 0 ∷ 0 ∷ 1 ∷ 0 ∷ [])

-- `x = 2; p = p + x; q = q + 1;`, each on another host, of three. The second is lent the right to go on.
abbrev pub read_ahead : Labelled
read_ahead = program_of (set_local (at 1) (variable 0) (number (pos 2))
    (set_field (at 2) (field 0) (binary Add (scalar (field 0)) (local (variable 0)))
    (set_field (at 3) (field 1) (binary Add (scalar (field 1)) (number (pos 1))) done)))

abbrev pub ahead_needs : NeedsShape
ahead_needs = needs_with (3 ∷ 0 ∷ 0 ∷ 1 ∷ []) ((2 ∷ []) ∷ [])

abbrev pub ahead_plan : PlanShape
ahead_plan = plan_of (1 ∷ 2 ∷ []) (0 ∷ 0 ∷ 1 ∷ 2 ∷ [])

-- the three hosts of `told_ahead`, where each message costs 1
abbrev pub near_hosts : HostsShape
near_hosts = record told_hosts { costs = (0 ∷ 1 ∷ 1 ∷ []) ∷ (1 ∷ 0 ∷ 1 ∷ []) ∷ (1 ∷ 1 ∷ 0 ∷ []) ∷ [] }

-- `x = 3; q = q + x;`, the first on a host that is lent the right to go on
abbrev pub lent_value : Labelled
lent_value = program_of (set_local (at 1) (variable 0) (number (pos 3))
    (set_field (at 2) (field 0) (binary Add (scalar (field 0)) (local (variable 0))) done))

abbrev pub lent_needs : NeedsShape
lent_needs = needs_with (3 ∷ 0 ∷ 1 ∷ []) ((2 ∷ []) ∷ [])

abbrev pub lent_plan : PlanShape
lent_plan = plan_of (2 ∷ []) (0 ∷ 1 ∷ 2 ∷ [])
