use Rattle.std.proofs.Common.{sym, ◌∙◌}
use Rattle.std.proofs.lemmas.Bool.{false≢true}
use Rattle.std.proofs.lemmas.Result.{IfOk-weaker, IfErr-weaker}
use Rattle.jif_parse.specs.Phrases.{ReadsNames, FailsNames}
use Rattle.jif_parse.specs.Parts.{ReadsAnyNames, FailsAnyNames}
use Rattle.jif_parse.proofs.PartLists.{some_names, no_names, some_names_fail}
use Rattle.jif_parse.proofs.labels.names_or_none.Goals as goal

pub returns-then-is_name_next-clause-read : goal.returns-then-is_name_next-clause-read
returns-then-is_name_next-clause-read c =
    IfOk-weaker c.names.result (λ drafts. ReadsNames c.args.cursor.now c.names.new.cursor drafts.items)
    (λ drafts. ReadsAnyNames c.args.cursor.now c.names.new.cursor drafts.items)
    (λ drafts reads. some_names (c.is_name_next.ensures.0 c.if-is_name_next.true) reads) c.names.ensures.read

pub returns-then-is_name_next-clause-fails : goal.returns-then-is_name_next-clause-fails
returns-then-is_name_next-clause-fails c =
    IfErr-weaker c.names.result (FailsNames c.args.cursor.now) (FailsAnyNames c.args.cursor.now)
    (λ error fails. some_names_fail (c.is_name_next.ensures.0 c.if-is_name_next.true) fails) c.names.ensures.fails

pub returns-else-is_name_next-clause-read : goal.returns-else-is_name_next-clause-read
returns-else-is_name_next-clause-read c =
    rw c.new.ensures.items (no_names c.args.cursor.now
    (λ is. false≢true (sym c.if-is_name_next.false ∙ c.is_name_next.ensures.1 is)))
