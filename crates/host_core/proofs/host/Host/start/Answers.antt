-- The host fits the code at the start.
use Rattle.std.proofs.Common.{◌≡◌, ℕ, sym, subst, ap, ◌∙◌, refl, arith}
use Rattle.js_base.specs.declared.ids.HostId.{HostId}
use Rattle.host_core.specs.Host.{HostState, state_of}
use Rattle.host_core.specs.Fits.{StateFits}
use Rattle.host_core.specs.Start.{idle_host, root_host}
use Rattle.host_core.proofs.CallsKept.{same_checks}
use Rattle.host_core.proofs.StartKept.{idle_fits, root_fits}
use Rattle.host_core.proofs.host.Host.start.Goals as goal

pub returns-then-me-root-clause-fits : goal.returns-then-me-root-clause-fits
returns-then-me-root-clause-fits c =
    let code = c.args.code.now in
    let host = c.in_ok-host.host in
    record {
      state = subst (StateFits code) (sym c.in_ok-host.ensures.state)
          (idle_fits code c.args.store.now c.args.key c.args.me c.requires);
      checks =
          same_checks code c.args.me host.me host.checks host.checks c.in_ok-host.ensures.checks
          c.in_ok-host.ensures.new.0 refl;
    }

pub returns-clause-fits : goal.returns-clause-fits
returns-clause-fits c =
    let code = c.args.code.now in
    let host = c.in_ok-host.host in
    let after = c.begin_program.new.self in
    let idle : HostState = idle_host code c.args.store.now c.args.key c.args.me in
    let number : c.args.me.0 ≡ c.root.result.0 = grind arith in
    let make : ℕ → HostId = λ n. record { 0 = n } in
    let root : c.args.me ≡ code.root = ap make number ∙ c.root.ensures.root in
    let fits =
    root_fits code idle c.root.ensures.sound (idle_fits code c.args.store.now c.args.key c.args.me c.requires)
    root in
    let state : state_of after ≡ root_host code idle =
    c.in_ok-begin_program.ensures.ok.state_is ∙ ap (root_host code) c.in_ok-host.ensures.state in
    record {
      state = subst (StateFits code) (sym state) fits;
      checks = same_checks code c.args.me after.me host.checks after.checks c.in_ok-host.ensures.checks
          (c.in_ok-begin_program.ensures.ok.same.me ∙ c.in_ok-host.ensures.new.0)
          c.in_ok-begin_program.ensures.ok.same.checks;
    }
