use Rattle.std.proofs.Common.{◌≡◌, ◌∙◌, ℕ, zero, suc, ◌+◌, ◌^◌, ◌≤◌, min, refl, ap, arith}
use Rattle.msg_cost.specs.Moves.{planned_of}
use Rattle.msg_cost.specs.Terms.{inside}
use Rattle.msg_cost.proofs.Bounds.{program_small}
use Rattle.msg_cost.proofs.ByPieces.{by_pieces}
use Rattle.msg_cost.proofs.OneHost.{program_none}
use Rattle.msg_cost.proofs.Trusted.{test_decides}
use Rattle.msg_cost.proofs.laws.cost_laws.Goals as goal

one_deeper : (depth : ℕ) → depth ≤ 6 → inside (8 ^ depth) ≡ 8 ^ min (depth + 1) 6
one_deeper zero few = refl
one_deeper (suc zero) few = refl
one_deeper (suc (suc zero)) few = refl
one_deeper (suc (suc (suc zero))) few = refl
one_deeper (suc (suc (suc (suc zero)))) few = refl
one_deeper (suc (suc (suc (suc (suc zero))))) few = refl
one_deeper (suc (suc (suc (suc (suc (suc zero)))))) few = refl
one_deeper (suc (suc (suc (suc (suc (suc (suc depth))))))) few = absurd (omega arith)

deeper : (depth : ℕ) → inside (8 ^ min depth 6) ≡ 8 ^ min (depth + 1) 6
deeper depth =
    let same : min (min depth 6 + 1) 6 ≡ min (depth + 1) 6 = omega arith in
    one_deeper (min depth 6) (omega arith) ∙ ap (λ power. 8 ^ power) same

pub returns : goal.returns
returns c = record {
  own = λ labelled needs hosts plan host sound numbered stands.
      program_none (planned_of labelled needs hosts plan) sound numbered host stands;
  by_pieces = λ labelled needs hosts plan moved. by_pieces (planned_of labelled needs hosts plan) moved;
  fits = λ labelled needs hosts plan sound sized.
      let small = program_small (planned_of labelled needs hosts plan) sound sized in omega arith;
  trusted = λ label word. test_decides label word;
  weights = deeper;
}
