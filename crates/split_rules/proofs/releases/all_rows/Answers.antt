use Rattle.std.proofs.Common.{◌≡◌, ◌∙◌, ℕ, [], ap, map, length, sym, arith, add-one}
use Rattle.host_code.specs.Code.{part_of}
use Rattle.split_rules.specs.ReleaseRows.{rows_told, parts_told, shown}
use Rattle.split_rules.proofs.ToldRows.{hosts_more}
use Rattle.split_rules.proofs.releases.all_rows.Goals as goal

pub loop-number-preserved : goal.loop-number-preserved
loop-number-preserved c =
    let statements = map shown c.args.statements.now in
    let count = ap length c.hosts-count.ensures.hosts in
    rw add-one (
      hosts_more (λ number. rows_told statements [] (part_of c.args.code.now (record { 0 = number }))) _ _ _
          c.loop-number.number c.in_ok-push.ensures.items
          (c.in_ok-host_rows.ensures ∙ ap (rows_told statements []) c.part-part.ensures) c.loop-number.invariant.0,
      omega (arith, c.loop-number-test.true, count),
    )

pub returns : goal.returns
returns c =
    let count = ap length c.hosts-count.ensures.hosts in
    let all : c.loop-number.number ≡ length c.args.code.now.hosts =
    omega (arith, c.loop-number-test.false, c.loop-number.invariant.1, count) in
    c.loop-number.invariant.0 ∙ ap (parts_told (map shown c.args.statements.now) c.args.code.now) all
