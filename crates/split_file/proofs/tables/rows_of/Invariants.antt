use Rattle.std.proofs.Common.{◌≡◌, ◌-◌, [], take, length}
use Rattle.std.specs.Int.{w64}
use Rattle.js_base.specs.declared.limits.TheConstants.{PRINCIPALS}
use Rattle.byte_format.specs.Reader.{items_at}
use Rattle.split_file.specs.Reader.{number_at}
use Rattle.split_file.proofs.tables.rows_of.Given as goal

abbrev pub invariant-loop-owner : goal.invariant-loop-owner
invariant-loop-owner l = record {
  long : length l.rows ≡ PRINCIPALS;
  read : items_at (λ _. number_at w64) (take l.owner l.rows) (PRINCIPALS - l.owner) l.rest
      ≡ items_at (λ _. number_at w64) [] PRINCIPALS l.bytes;
}
