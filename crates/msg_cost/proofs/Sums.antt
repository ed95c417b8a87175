-- Sums that stop at the largest number of 64 bits.
use Rattle.std.proofs.Common.{◌≡◌, ◌∙◌, ℕ, ◌+◌, ◌-◌, ◌^◌, ◌<◌, min, List, ◌++◌, ap, sym, arith}
use Rattle.std.proofs.lemmas.List.Sums.{sum_by-append}
use Rattle.host_decl.specs.Hosts.{HostsShape}
use Rattle.msg_cost.specs.Cost.{cost_of, term_cost}
use Rattle.msg_cost.specs.Terms.{Term}
use Rattle.msg_cost.specs.Views.{capped}
use Rattle.msg_cost.specs.Walks.{CostsWith}

pub cost-append : (hosts : HostsShape) (first second : List Term) →
    cost_of hosts (first ++ second) ≡ cost_of hosts first + cost_of hosts second
cost-append hosts first second = sum_by-append (term_cost hosts) first second

-- the cost of terms as the code keeps it
pub record Costs (hosts : HostsShape) (terms : List Term) (total : ℕ) : Type 0 where
  pub is : total ≡ capped (cost_of hosts terms)

capped_sum : (first second total other : ℕ) → total ≡ capped first → other ≡ capped second →
    min (total + other) (2 ^ 64 - 1) ≡ capped (first + second)
capped_sum first second total other one two = omega arith

pub costs_both : (hosts : HostsShape) (first second : List Term) (total other : ℕ) →
    Costs hosts first total → other ≡ capped (cost_of hosts second) →
    Costs hosts (first ++ second) (min (total + other) (2 ^ 64 - 1))
costs_both hosts first second total other one two = record {
  is = capped_sum (cost_of hosts first) (cost_of hosts second) total other one.is two
      ∙ ap capped (sym (cost-append hosts first second));
}

capped_step : (all total other first rest : ℕ) → all ≡ capped (total + (first + rest)) → other ≡ capped first →
    all ≡ capped (min (total + other) (2 ^ 64 - 1) + rest)
capped_step all total other first rest is one = omega arith

capped_fits : (number : ℕ) → capped number < 2 ^ 64
capped_fits number = omega arith

pub with_less : (hosts : HostsShape) (all first rest : List Term) (total other : ℕ) →
    CostsWith hosts all total (first ++ rest) → other ≡ capped (cost_of hosts first) →
    CostsWith hosts all (min (total + other) (2 ^ 64 - 1)) rest
with_less hosts all first rest total other so one = record {
  fits = capped_fits (total + other);
  is = capped_step (capped (cost_of hosts all)) total other (cost_of hosts first) (cost_of hosts rest)
      (so.is ∙ ap (λ sum. capped (total + sum)) (cost-append hosts first rest)) one;
}

pub sum_of_two : (hosts : HostsShape) (first second : List Term) (one two : ℕ) →
    one ≡ capped (cost_of hosts first) → two ≡ capped (cost_of hosts second) →
    min (one + two) (2 ^ 64 - 1) ≡ capped (cost_of hosts (first ++ second))
sum_of_two hosts first second one two is also =
    capped_sum (cost_of hosts first) (cost_of hosts second) one two is also
    ∙ ap capped (sym (cost-append hosts first second))
