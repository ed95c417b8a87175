-- What a plan costs.
--
-- A cost is exact. Its inner sums stop at the largest number of 64 bits. A law says that no program within the limits
-- comes there, so the answer is the sum itself.
use Rattle.std.specs.Prelude.{ℕ, ◌+◌, ◌*◌, sum_by, List}
use Rattle.js_base.specs.declared.ids.HostId.{HostId}
use Rattle.host_decl.specs.Hosts.{HostsShape}
use Rattle.need_labels.specs.Labelled.{Labelled}
use Rattle.need_labels.specs.Needs.{NeedsShape}
use Rattle.need_labels.specs.Plan.{PlanShape}
use Rattle.msg_cost.specs.Moves.{planned_of, link_cost}
use Rattle.msg_cost.specs.Terms.{Way, one_way, round_trip, Term, program_terms}

abbrev pub way_cost : HostsShape → Way → HostId → HostId → ℕ
way_cost hosts one_way from to = link_cost hosts from to
way_cost hosts round_trip from to = link_cost hosts from to + link_cost hosts to from

abbrev pub term_cost : HostsShape → Term → ℕ
term_cost hosts term = term.weight * way_cost hosts term.way term.from term.to

abbrev pub cost_of : HostsShape → List Term → ℕ
cost_of hosts terms = sum_by (term_cost hosts) terms

-- the cost of the messages that a program sends under a plan
abbrev pub plan_cost : Labelled → NeedsShape → HostsShape → PlanShape → ℕ
plan_cost labelled needs hosts plan = cost_of hosts (program_terms (planned_of labelled needs hosts plan))
