use Rattle.std.proofs.Common.{◌≡◌, length}
use Rattle.host_code.specs.Code.{part_of}
use Rattle.part_verify.specs.Bounds.{IsBounded}
use Rattle.part_verify.proofs.Needs.{ArePassed}
use Rattle.part_verify.proofs.part.check_needs.Given as goal

-- the entries so far pass, and the bounds are bounds
abbrev pub invariant-loop-number : goal.invariant-loop-number
invariant-loop-number l = record {
  long : length l.bound.items ≡ length (part_of l.code l.me);
  bounds : IsBounded l.code l.me l.bound.items;
  passed : ArePassed l.code l.me l.number;
}
