use Rattle.std.proofs.Common.{◌≡◌, List, [], sym, subst, arith}
use Rattle.std.proofs.lemmas.Grind.{common_steps}
use Rattle.std.proofs.lemmas.Result.{err_from_is_err_and}
use Rattle.std.proofs.lemmas.List.{length-drop, take_rest}
use Rattle.jif_lex.specs.declared.token.Token.{Token}
use Rattle.jif_lex.proofs.Reading.{IsRead, read_place, read_line, read_none, read_all, read_fails, taken_few}
use Rattle.jif_lex.proofs.Reading.{taken_some, read_taken}
use Rattle.jif_lex.proofs.lexer.lex.Goals as goal

pub take_piece-requires-clause-short : goal.take_piece-requires-clause-short
take_piece-requires-clause-short c =
    let place =
    read_place c.args.bytes.now c.loop-rest.rest.now c.loop-rest.found.items c.loop-rest.at c.loop-rest.line
    c.loop-rest.invariant in
    omega arith

pub overflow_cast-at : goal.overflow_cast-at
overflow_cast-at c =
    let place =
    read_place c.args.bytes.now c.loop-rest.rest.now c.loop-rest.found.items c.loop-rest.at c.loop-rest.line
    c.loop-rest.invariant in
    let few =
    taken_few c.loop-rest.rest.now c.loop-rest.at c.loop-rest.line c.loop-rest.found.items
    c.take_piece.new.found.items c.in_ok-len.len c.in_ok-len.feeds c.in_ok-len.ensures in
    omega arith

pub overflow_add-at : goal.overflow_add-at
overflow_add-at c =
    let place =
    read_place c.args.bytes.now c.loop-rest.rest.now c.loop-rest.found.items c.loop-rest.at c.loop-rest.line
    c.loop-rest.invariant in
    let few =
    taken_few c.loop-rest.rest.now c.loop-rest.at c.loop-rest.line c.loop-rest.found.items
    c.take_piece.new.found.items c.in_ok-len.len c.in_ok-len.feeds c.in_ok-len.ensures in
    omega arith

pub overflow_add-line : goal.overflow_add-line
overflow_add-line c =
    let place =
    read_place c.args.bytes.now c.loop-rest.rest.now c.loop-rest.found.items c.loop-rest.at c.loop-rest.line
    c.loop-rest.invariant in
    let line =
    read_line c.args.bytes.now c.loop-rest.rest.now c.loop-rest.found.items c.loop-rest.at c.loop-rest.line
    c.loop-rest.invariant in
    let few =
    taken_few c.loop-rest.rest.now c.loop-rest.at c.loop-rest.line c.loop-rest.found.items
    c.take_piece.new.found.items c.in_ok-len.len c.in_ok-len.feeds c.in_ok-len.ensures in
    omega arith

pub loop-rest-preserved : goal.loop-rest-preserved
loop-rest-preserved c =
    let read =
    read_taken c.args.bytes.now c.loop-rest.rest.now c.loop-rest.at c.loop-rest.line c.loop-rest.found.items
    c.take_piece.new.found.items c.in_ok-len.len c.in_ok-len.feeds c.loop-rest.invariant c.in_ok-len.ensures in
    rw take_rest read

pub loop-rest-init : goal.loop-rest-init
loop-rest-init c =
    let P : List Token → Type 0 = λ list. IsRead c.args.bytes.now c.args.bytes.now list 0 1 in
    subst P (sym c.new-found.ensures.items) (read_none c.args.bytes.now)

pub loop-rest-smaller : goal.loop-rest-smaller
loop-rest-smaller c =
    let some =
    taken_some c.loop-rest.rest.now c.loop-rest.at c.loop-rest.line c.loop-rest.found.items
    c.take_piece.new.found.items c.in_ok-len.len c.in_ok-len.feeds c.in_ok-len.ensures in
    let few =
    taken_few c.loop-rest.rest.now c.loop-rest.at c.loop-rest.line c.loop-rest.found.items
    c.take_piece.new.found.items c.in_ok-len.len c.in_ok-len.feeds c.in_ok-len.ensures in
    rw take_rest (omega (arith, length-drop c.in_ok-len.len c.loop-rest.rest.now))

pub returns-in_err-len : goal.returns-in_err-len
returns-in_err-len c =
    let fails =
    read_fails c.args.bytes.now c.loop-rest.rest.now c.loop-rest.found.items c.loop-rest.at c.loop-rest.line
    c.in_err-len.field-0.0 c.if-bytes-gt-PROGRAM_BYTES.false c.loop-rest.invariant c.in_err-len.ensures in
    let p = err_from_is_err_and c.from_residual.result c.from_residual.ensures.1 in
    rw (p.1, p.2) fails

pub returns : goal.returns
returns c =
    let none : c.loop-rest.rest.now ≡ [] = grind (arith, common_steps) in (
      c.if-bytes-gt-PROGRAM_BYTES.false,
      read_all c.args.bytes.now c.loop-rest.rest.now c.loop-rest.found.items
          c.loop-rest.at c.loop-rest.line c.loop-rest.invariant none,
    )
