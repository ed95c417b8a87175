use Rattle.std.proofs.lemmas.Bool.Decides.{Decides-eqb}
use Rattle.std.proofs.lemmas.Slice.Eq.{strip_prefix_is}
use Rattle.jif_lex.proofs.Skips.{line_front, block_front, open_lacks}
use Rattle.jif_lex.proofs.skipped.skipped_len.Goals as goal

pub returns-in-Some-clause-some : goal.returns-in-Some-clause-some
returns-in-Some-clause-some c =
    let cases =
    strip_prefix_is Decides-eqb c.args.text.now c.as_slice.result.now c.strip_prefix.result
    c.strip_prefix.ensures.cases in
    let is = rw c.in-Some.is at cases in
    line_front c.args.text.now c.in-Some.body.now c.line_len.result (rw c.as_slice.ensures at is)
    c.line_len.ensures.len c.line_len.ensures.within

pub returns-in-Some-strip_prefix-clause-some : goal.returns-in-Some-strip_prefix-clause-some
returns-in-Some-strip_prefix-clause-some c =
    let cases =
    strip_prefix_is Decides-eqb c.args.text.now c.as_slice-2.result.now c.strip_prefix-2.result
    c.strip_prefix-2.ensures.cases in
    let is = rw c.in-Some-strip_prefix.is at cases in
    block_front c.args.text.now c.in-Some-strip_prefix.body.now c.in_ok-len_with_end.field-0
    (rw c.as_slice-2.ensures at is) c.in_ok-len_with_end.ensures.some

pub returns-in_err-len_with_end-clause-none : goal.returns-in_err-len_with_end-clause-none
returns-in_err-len_with_end-clause-none c =
    let cases =
    strip_prefix_is Decides-eqb c.args.text.now c.as_slice-2.result.now c.strip_prefix-2.result
    c.strip_prefix-2.ensures.cases in
    let is = rw c.in-Some-strip_prefix.is at cases in
    let lacks =
    open_lacks c.args.text.now c.in-Some-strip_prefix.body.now (rw c.as_slice-2.ensures at is)
    c.in_err-len_with_end.ensures.none in
    rw c.from_residual.ensures lacks
