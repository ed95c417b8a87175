use Rattle.std.proofs.Common.{◌∙◌, sym, arith}
use Rattle.std.proofs.lemmas.Bool.{false≢true}
use Rattle.label_lattice.specs.Written.{symbol}
use Rattle.label_lattice.proofs.TokenCuts.{cut_here, lacks_in_front, none_before_more}
use Rattle.label_lattice.proofs.tokens.pieces.cut_at.Goals as goal

pub returns-then-is_symbol : goal.returns-then-is_symbol
returns-then-is_symbol c = (
  cut_here c.args.tokens.now (symbol c.args.separator) c.loop-place.place c.index-tokens-place.result (omega arith)
      c.index-tokens-place.is (c.is_symbol.ensures.0 c.if-is_symbol.true),
  lacks_in_front c.args.tokens.now (symbol c.args.separator) c.loop-place.place c.loop-place.invariant,
)

pub loop-place-preserved : goal.loop-place-preserved
loop-place-preserved c =
    none_before_more c.args.tokens.now (symbol c.args.separator) c.loop-place.place c.index-tokens-place.result
    (omega arith) c.index-tokens-place.is
    (λ is. false≢true (sym c.if-is_symbol.false ∙ c.is_symbol.ensures.1 is)) c.loop-place.invariant
