use Rattle.std.proofs.Common.{◌≡◌, ◌∙◌, ◌++◌, ap, arith, length, sym}
use Rattle.std.proofs.Common.{append-nil}
use Rattle.std.specs.Prelude.{max}
use Rattle.std.specs.String.{string_bytes}
use Rattle.run_comparison.specs.ReleaseLines.{first_lines}
use Rattle.run_comparison.proofs.ReleasedLines.{lines_more}
use Rattle.run_comparison.proofs.release_lines.push_release_lines.Goals as goal

pub loop-number-init : goal.loop-number-init
loop-number-init c = (sym (append-nil (string_bytes c.args.text.now)), omega arith)

pub loop-number-preserved : goal.loop-number-preserved
loop-number-preserved c = (
  lines_more c.args.one.now c.args.other.now c.loop-number.number _ _ _ _ _ c.value_at.ensures
      c.value_at-in-loop-number.ensures c.loop-number.invariant.0 c.in_ok-push_line.ensures,
  omega (arith, c.loop-number-test.true, c.longer_len-number-end.ensures),
)

pub returns : goal.returns
returns c =
    let all : c.loop-number.number ≡ max (length c.args.one.now) (length c.args.other.now) =
    omega (arith, c.loop-number-test.false, c.loop-number.invariant.1, c.longer_len-number-end.ensures) in
    c.loop-number.invariant.0
    ∙ ap (λ number. string_bytes c.args.text.now ++ first_lines c.args.one.now c.args.other.now number) all
