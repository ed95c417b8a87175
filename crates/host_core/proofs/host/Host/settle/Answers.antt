-- The host is kept as by any step.
use Rattle.std.proofs.Common.{rules, ◌≡◌, true}
use Rattle.host_core.specs.Host.{state_of}
use Rattle.host_core.specs.Told.{settled}
use Rattle.host_core.proofs.ToldKept.{settled_keeps}
use Rattle.host_core.proofs.host.Host.settle.Goals as goal

pub returns-then-passes-clause-keeps : goal.returns-then-passes-clause-keeps
returns-then-passes-clause-keeps c =
    let code = c.args.code.now in
    let before = c.args.self.now in
    let after = c.pop_or_ignore.new.self in
    let state : state_of after ≡ settled code (state_of before) true = search rules in
    let fits = settled_keeps code before after true c.code_laws.ensures c.requires.fits state (search rules) (search rules)
    in record {
      me = search rules;
      fits = fits;
      counted = search rules;
      err = tt;
      stopped = c.in_ok-begin.ensures.stopped;
      kept = λ none. cc;
      out_of_memory = λ none. cc;
    }
