use Rattle.std.proofs.Common.{refl}
use Rattle.std.proofs.lemmas.Result.{err_from_is_err_and}
use Rattle.jif_lex.proofs.Fronts.{fails_at, open_comment_fails}
use Rattle.jif_lex.proofs.lexer.first_piece.Goals as goal

pub returns-then-opens_comment : goal.returns-then-opens_comment
returns-then-opens_comment c = (
  refl,
  open_comment_fails c.args.text.now (c.opens_comment.ensures.0 c.if-opens_comment.true)
      c.in_default.ensures.none,
)

pub returns-in_err-kind : goal.returns-in_err-kind
returns-in_err-kind c =
    let fails =
    fails_at c.args.text.now c.args.at c.in_err-kind.field-0.0 c.requires c.in_default.ensures.none
    c.in_err-kind.ensures in
    let p = err_from_is_err_and c.from_residual.result c.from_residual.ensures.1 in
    rw (p.1, p.2) fails
