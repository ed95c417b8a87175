use Rattle.std.proofs.Common.{arith, refl, rules}
use Rattle.std.proofs.lemmas.Bool.{false≢true}
use Rattle.jif_parse.specs.Statements.{FailsStatement, FailsBraced, FailsGuarded}
use Rattle.jif_parse.proofs.Exits.{handed_on}
use Rattle.jif_parse.proofs.Blocks.{no_statements, one_more, all_read, later_fails, falls, brace_fails}
use Rattle.jif_parse.proofs.Blocks.{block_fails, block_end_fails, braced_read, guard_opening_fails, guard_fails}
use Rattle.jif_parse.proofs.Blocks.{guarded_block_fails, guarded_read, while_fails, while_read, if_fails, if_read}
use Rattle.jif_parse.proofs.Blocks.{else_fails, else_read}
use Rattle.jif_parse.proofs.statements.+statements.Goals as goal

-- ---- nested blocks

pub braced-returns-then-not-is_next-clause-fails : goal.braced-returns-then-not-is_next-clause-fails
braced-returns-then-not-is_next-clause-fails t c =
    brace_fails c.unexpected.ensures (λ h. false≢true (c.if-not-is_next.ensures.1 h))

pub braced-statements-requires : goal.braced-statements-requires
braced-statements-requires t c = (omega arith, c.in_ok-take.ensures.counted.nested)

pub braced-returns-in_err-block-clause-fails : goal.braced-returns-in_err-block-clause-fails
braced-returns-in_err-block-clause-fails t c =
    handed_on (FailsBraced c.args.cursor.now c.args.depth) c.in_err-block.field-0.0
    c.from_residual-in_err-block.result c.from_residual-in_err-block.ensures
    (block_fails (c.if-not-is_next.ensures.0 refl) c.in_ok-take.ensures.counted c.in_err-block.ensures.fails)

pub braced-returns-in_err-expect-clause-fails : goal.braced-returns-in_err-expect-clause-fails
braced-returns-in_err-expect-clause-fails t c =
    handed_on (FailsBraced c.args.cursor.now c.args.depth) c.in_err-expect.field-0.0
    c.from_residual-in_err-expect.result c.from_residual-in_err-expect.ensures
    (block_end_fails (c.if-not-is_next.ensures.0 refl) c.in_ok-take.ensures.counted c.in_ok-block.ensures.read
    c.in_err-expect.ensures.other)

pub braced-returns-clause-read : goal.braced-returns-clause-read
braced-returns-clause-read t c =
    braced_read (c.if-not-is_next.ensures.0 refl) c.in_ok-take.ensures.counted c.in_ok-block.ensures.read
    c.in_ok-expect.ensures.passed

-- ---- guards

pub guarded-returns-in_err-expect-clause-fails : goal.guarded-returns-in_err-expect-clause-fails
guarded-returns-in_err-expect-clause-fails t c =
    handed_on (FailsGuarded c.args.cursor.now c.args.depth) c.in_err-expect.field-0.0
    c.from_residual.result c.from_residual.ensures
    (guard_opening_fails c.in_err-expect.ensures.other)

pub guarded-returns-in_err-guard-clause-fails : goal.guarded-returns-in_err-guard-clause-fails
guarded-returns-in_err-guard-clause-fails t c =
    handed_on (FailsGuarded c.args.cursor.now c.args.depth) c.in_err-guard.field-0.0
    c.from_residual-in_err-guard.result c.from_residual-in_err-guard.ensures
    (guard_fails c.requires c.in_ok-expect.ensures.passed c.in_err-guard.ensures.fails)

pub guarded-braced-requires : goal.guarded-braced-requires
guarded-braced-requires t c = (omega arith, omega arith)

pub guarded-returns-in_err-block-clause-fails : goal.guarded-returns-in_err-block-clause-fails
guarded-returns-in_err-block-clause-fails t c =
    handed_on (FailsGuarded c.args.cursor.now c.args.depth) c.in_err-block.field-0.0
    c.from_residual-in_err-block.result c.from_residual-in_err-block.ensures
    (guarded_block_fails c.requires c.in_ok-expect.ensures.passed c.in_ok-guard.ensures.read
    c.in_err-block.ensures.fails)

pub guarded-returns-clause-read : goal.guarded-returns-clause-read
guarded-returns-clause-read t c =
    guarded_read c.requires c.in_ok-expect.ensures.passed c.in_ok-guard.ensures.read c.in_ok-block.ensures.read

-- ---- `if`

pub branch-guarded-requires : goal.branch-guarded-requires
branch-guarded-requires t c = (omega arith, c.requires.nested)

pub branch-returns-in_err-guard-clause-fails : goal.branch-returns-in_err-guard-clause-fails
branch-returns-in_err-guard-clause-fails t c =
    handed_on (FailsStatement c.args.cursor.now c.args.depth) c.in_err-guard.field-0.0
    c.from_residual-in_err-guard.result c.from_residual-in_err-guard.ensures
    (if_fails c.requires.next c.in_ok-take.ensures.counted c.in_err-guard.ensures.fails)

pub branch-returns-then-not-is_word_next-clause-read :
    goal.branch-returns-then-not-is_word_next-clause-read
branch-returns-then-not-is_word_next-clause-read t c =
    if_read c.in_ok-guard.yes c.new-no.result c.widths_of_phrases.ensures c.requires.next c.in_ok-take.ensures.counted
    c.in_ok-guard.ensures.read
    (λ h. false≢true (c.if-not-is_word_next.ensures.1 h)) c.new-no.ensures.items

pub branch-braced-requires : goal.branch-braced-requires
branch-braced-requires t c = (omega arith, omega arith)

pub branch-returns-in_err-no-clause-fails : goal.branch-returns-in_err-no-clause-fails
branch-returns-in_err-no-clause-fails t c =
    handed_on (FailsStatement c.args.cursor.now c.args.depth) c.in_err-no.field-0.0
    c.from_residual-in_err-no.result c.from_residual-in_err-no.ensures
    (else_fails c.requires.nested c.requires.next c.in_ok-take.ensures.counted c.in_ok-guard.ensures.read
    (c.if-not-is_word_next.ensures.0 refl) c.pass.ensures c.in_err-no.ensures.fails)

pub branch-returns-clause-read : goal.branch-returns-clause-read
branch-returns-clause-read t c =
    else_read c.in_ok-guard.yes c.in_ok-no.no c.widths_of_phrases.ensures c.requires.nested c.requires.next
    c.in_ok-take.ensures.counted
    c.in_ok-guard.ensures.read (c.if-not-is_word_next.ensures.0 refl) c.pass.ensures c.in_ok-no.ensures.read

-- ---- `while`

pub repetition-guarded-requires : goal.repetition-guarded-requires
repetition-guarded-requires t c = (omega arith, c.requires.nested)

pub repetition-returns-in_err-guard-clause-fails :
    goal.repetition-returns-in_err-guard-clause-fails
repetition-returns-in_err-guard-clause-fails t c =
    handed_on (FailsStatement c.args.cursor.now c.args.depth) c.in_err-guard.field-0.0
    c.from_residual-in_err-guard.result c.from_residual-in_err-guard.ensures
    (while_fails c.requires.next c.in_ok-take.ensures.counted c.in_err-guard.ensures.fails)

pub repetition-returns-clause-read : goal.repetition-returns-clause-read
repetition-returns-clause-read t c =
    while_read c.in_ok-guard.body c.widths_of_phrases.ensures c.requires.next c.in_ok-take.ensures.counted
    c.in_ok-guard.ensures.read

-- ---- statements

pub statement-statement_kind-requires : goal.statement-statement_kind-requires
statement-statement_kind-requires t c = (omega arith, (c.requires.nested, c.requires.begins))

pub statement_kind-branch-alloc-requires : goal.statement_kind-branch-alloc-requires
statement_kind-branch-alloc-requires t c =
    (omega arith, (c.requires.nested, search rules))

pub statement_kind-repetition-requires : goal.statement_kind-repetition-requires
statement_kind-repetition-requires t c =
    (omega arith, (c.requires.nested, search rules))

pub statements-loop-alloc-init : goal.statements-loop-alloc-init
statements-loop-alloc-init t c = no_statements c.args.cursor.now c.args.depth _ c.new-drafts.ensures.items

pub statements-statement-requires : goal.statements-statement-requires
statements-statement-requires t c = (omega arith, (c.requires, c.loop-alloc-test.ensures.0 refl))

pub statements-returns-in_err-draft-clause-fails :
    goal.statements-returns-in_err-draft-clause-fails
statements-returns-in_err-draft-clause-fails t c =
    handed_on (FailsStatement c.args.cursor.now c.args.depth) c.in_err-draft.field-0.0
    c.from_residual.result c.from_residual.ensures
    (later_fails c.loop-alloc.invariant c.in_err-draft.ensures.fails)

pub statements-loop-alloc-smaller : goal.statements-loop-alloc-smaller
statements-loop-alloc-smaller t c = falls (c.loop-alloc-test.ensures.0 refl) c.in_ok-draft.ensures.read

pub statements-loop-alloc-preserved : goal.statements-loop-alloc-preserved
statements-loop-alloc-preserved t c =
    rw c.in_ok-push.ensures.items
    (one_more c.widths_of_phrases.ensures c.loop-alloc.invariant c.in_ok-draft.ensures.read)

pub statements-returns-clause-read : goal.statements-returns-clause-read
statements-returns-clause-read t c =
    all_read c.loop-alloc.invariant (λ h. false≢true (c.loop-alloc-test.ensures.1 h))
