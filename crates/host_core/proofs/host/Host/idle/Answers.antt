-- No variable is set at first.
use Rattle.std.proofs.Common.{◌≡◌, ℤ, pos, rules}
use Rattle.js_base.specs.declared.ids.FrameId.{FrameId}
use Rattle.js_base.specs.declared.ids.VarId.{VarId}
use Rattle.host_stores.specs.Stores.{variable_of}
use Rattle.host_core.proofs.host.Host.idle.Goals as goal

pub returns-clause-state : goal.returns-clause-state
returns-clause-state c =
    let unset : FrameId → VarId → ℤ = λ frame variable. pos 0 in
    let variables : variable_of c.in_ok-new.field-0 ≡ unset =
    λ i frame variable. c.in_ok-new.ensures.variables frame variable i in
    rw (
      c.in_ok-new.ensures.rows,
      c.in_ok-new-2.ensures.key,
      c.in_ok-new-2.ensures.empty,
      c.in_ok-new-2.ensures.serials,
      c.in_ok-zeros.ensures.zeros,
      c.in_ok-zeros-2.ensures.zeros,
      variables,
    ) (search rules)
