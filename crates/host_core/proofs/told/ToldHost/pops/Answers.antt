-- The token of the top entry names the entry.
use Rattle.std.proofs.Common.{rules, ◌≡◌, Some}
use Rattle.ics_stack.specs.Stack.{top_token}
use Rattle.host_core.proofs.ToldKept.{starts_thread}
use Rattle.host_core.proofs.told.ToldHost.pops.Goals as goal

pub returns-in-Some : goal.returns-in-Some
returns-in-Some c =
    let host = c.args.self.now in
    let top : top_token host.stack.entries ≡ Some c.in-Some.top = search rules in
    starts_thread host.stack.host host.stack.serials host.stack.entries c.in-Some.top _ (search rules) top (search rules)
