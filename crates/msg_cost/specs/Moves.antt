-- How the token of a method goes from host to host under a plan. The host that holds the token runs statements. A
-- statement on another host begins a segment, the statements in a row that stand on that host. Where that host is
-- trusted for all that remains of the block, it is handed the token. Otherwise it is lent the token: a host that is
-- named at the start of the segment gets it back at its end.
--
-- A walk over a block stands at a spot. A spot is a host, and perhaps the host to which it gives the right to go on
-- back. So the next statement decides whether a segment goes on, and no list of statements is cut. The splitting goes
-- over the same spots.
--
-- A value that a statement gives to a variable rides where the message that hands the token over from that statement's
-- host takes the value along to the host of the next statement. What rides depends on the two spots alone: a host that
-- does not read the variable is sent nothing, whether a value may ride to it or not.
use Rattle.std.specs.Prelude.{ℕ, ◌+◌, Bool, false, ◌&&◌, nat_eq, nat_lt, nat_le, if◌then◌else◌}
use Rattle.std.specs.Prelude.{List, [], ◌∷◌, Option, Some, None, slice_get, slice_index, option_map, unwrap_or}
use Rattle.std.specs.Int.{bit_at}
use Rattle.std.specs.List.{list_all, range_with_len}
use Rattle.js_base.specs.declared.ids.HostId.{HostId}
use Rattle.js_base.specs.declared.ids.StmtId.{StmtId}
use Rattle.label_lattice.specs.declared.label.Label.{Label}
use Rattle.label_lattice.specs.declared.label.TheConstants.{READERS}
use Rattle.host_decl.specs.Hosts.{HostShape, HostsShape, cost_at}
use Rattle.jif_tree.specs.Trees.{BlockTree, done, set_local, set_field, set_element, branch, loop, call, give_back}
use Rattle.jif_tree.specs.Trees.{MethodTree, ProgramTree}
use Rattle.need_labels.specs.Labelled.{Labelled}
use Rattle.need_labels.specs.Needs.{NeedsShape}
use Rattle.need_labels.specs.Plan.{PlanShape, first_host, statement_host}
use Rattle.msg_cost.specs.declared.spot.Spot.{Spot}

-- a program, what its statements need, the hosts, and a plan
pub record PlannedShape : Type 0 where
  pub program : ProgramTree
  pub needs : NeedsShape
  pub hosts : HostsShape
  pub plan : PlanShape

abbrev pub planned_of : Labelled → NeedsShape → HostsShape → PlanShape → PlannedShape
planned_of labelled needs hosts plan =
    record { program = labelled.program; needs = needs; hosts = hosts; plan = plan }

-- ---- hosts

abbrev pub is_same : HostId → HostId → Bool
is_same first second = nat_eq first.0 second.0

-- the cost of a message from the first host to the second
abbrev pub link_cost : HostsShape → HostId → HostId → ℕ
link_cost hosts from to = cost_at hosts.costs from.0 to.0

-- whether each principal of a word trusts the label
unfoldable pub is_trusted_by : Label → ℕ → Bool
is_trusted_by label word =
    list_all (λ principal. nat_le (bit_at word principal) (bit_at label.trust principal)) (range_with_len 0 READERS)

-- whether the principals that a statement needs trust the host
abbrev pub is_trusted_for : PlannedShape → HostId → StmtId → Bool
is_trusted_for planned host statement = trusts (slice_get planned.hosts.hosts host.0)
  where
    trusts : Option HostShape → Bool
    trusts None = false
    trusts (Some row) = is_trusted_by row.label (slice_index planned.needs.need statement.0)

abbrev pub is_trusted_for_all : PlannedShape → HostId → List StmtId → Bool
is_trusted_for_all planned host statements = list_all (is_trusted_for planned host) statements

-- ---- segments

-- The host of the first statement behind the segment on this host with which the statements begin; none where all of
-- them belong to it.
abbrev pub host_behind : PlannedShape → HostId → List StmtId → Option HostId
host_behind planned host [] = None
host_behind planned host (statement ∷ others) =
    if is_same (statement_host planned.plan statement) host then host_behind planned host others
    else Some (statement_host planned.plan statement)

-- The host that gets the token back of the segment on a host with which the statements begin, where another host held
-- the token before. It is that one, or the host of what follows, if that is trusted for all that remains and the way
-- over it is shorter than the way back.
abbrev pub return_host : PlannedShape → HostId → HostId → List StmtId → HostId
return_host planned from host statements = chosen (host_behind planned host statements)
  where
    chosen : Option HostId → HostId
    chosen None = from
    chosen (Some next) =
        if is_trusted_for_all planned next statements
        && nat_lt (link_cost planned.hosts next from + link_cost planned.hosts host next)
        (link_cost planned.hosts host from)
        then next else from

-- ---- spots

-- the host holds the token for the rest of the block
abbrev pub on : HostId → Spot
on host = record { host = host; back = None }

-- the host that holds the token once the spot is left
abbrev pub end_of : Spot → HostId
end_of spot = unwrap_or spot.back spot.host

-- where statements begin that stand on a host, behind one that held the token
abbrev pub entered : PlannedShape → HostId → HostId → List StmtId → Spot
entered planned from host statements =
    if is_same from host then on host
    else if is_trusted_for_all planned host statements then on host
    else record { host = host; back = Some (return_host planned from host statements) }

-- where a statement runs that has these others of its block behind it
abbrev pub next_spot : PlannedShape → Spot → StmtId → List StmtId → Spot
next_spot planned spot statement others =
    let host = statement_host planned.plan statement in
    if is_same spot.host host then spot else entered planned (end_of spot) host (statement ∷ others)

-- ---- what rides

-- The host to which the token goes from a spot straight to the next: it is handed on, or lent by the host that is to
-- get it back. There is none where the token stays, where a lent segment gives it back first, or where another host is
-- asked to take it back.
abbrev pub straight_to : Spot → Spot → Option HostId
straight_to spot next = if is_same spot.host next.host then None else leaves spot.back next.back
  where
    leaves : Option HostId → Option HostId → Option HostId
    leaves None None = Some next.host
    leaves None (Some back) = if is_same back spot.host then Some next.host else None
    leaves (Some back) other = None

-- the host to which a value rides that is given at a spot by a statement with these behind it
abbrev pub carried_to : PlannedShape → Spot → List StmtId → Option HostId
carried_to planned spot [] = None
carried_to planned spot (statement ∷ others) = straight_to spot (next_spot planned spot statement others)

-- whether it rides to the host of this number
abbrev pub is_to : Option HostId → ℕ → Bool
is_to None other = false
is_to (Some host) other = nat_eq other host.0

-- ---- ends

-- the host that holds the token behind the statements of a block
abbrev pub end_host : PlannedShape → Spot → List StmtId → HostId
end_host planned spot [] = end_of spot
end_host planned spot (statement ∷ others) = end_host planned (next_spot planned spot statement others) others

-- ---- blocks and methods

-- the statements of a block without those in the blocks inside it
abbrev pub own_statements : BlockTree → List StmtId
own_statements done = []
own_statements (set_local heading variable value rest) = heading.id ∷ own_statements rest
own_statements (set_field heading field value rest) = heading.id ∷ own_statements rest
own_statements (set_element heading field index value rest) = heading.id ∷ own_statements rest
own_statements (branch heading guard first second rest) = heading.id ∷ own_statements rest
own_statements (loop heading guard body rest) = heading.id ∷ own_statements rest
own_statements (call heading site method arguments into rest) = heading.id ∷ own_statements rest
own_statements (give_back heading value rest) = heading.id ∷ own_statements rest

-- the host that holds the token behind a block that begins on a host
abbrev pub block_end : PlannedShape → HostId → BlockTree → HostId
block_end planned host block = end_host planned (on host) (own_statements block)

-- the home of a method: the host of its head, on which its body begins
abbrev pub home_of : PlannedShape → MethodTree → HostId
home_of planned method = statement_host planned.plan method.head

-- the home of a method, and the host that holds the token behind its body; the first host where there is no such method
abbrev pub called_home : PlannedShape → Option MethodTree → HostId
called_home planned called = unwrap_or (option_map (home_of planned) called) first_host

abbrev pub called_end : PlannedShape → Option MethodTree → HostId
called_end planned called =
    unwrap_or (option_map (λ method. block_end planned (home_of planned method) method.body) called) first_host
