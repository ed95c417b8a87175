use Rattle.std.proofs.Common.{sym, ◌∙◌}
use Rattle.std.proofs.lemmas.Bool.{false≢true}
use Rattle.jif_parse.specs.Phrases.{FailsNames}
use Rattle.jif_parse.proofs.Exits.{handed_on}
use Rattle.jif_parse.proofs.NameLists.{no_names, names_more, names_end, names_fail}
use Rattle.jif_parse.proofs.labels.names.Goals as goal

pub listed-init : goal.listed-init
listed-init c = rw c.new-names.ensures.items (no_names c.args.cursor.now)

pub returns-in_err-name-clause-fails : goal.returns-in_err-name-clause-fails
returns-in_err-name-clause-fails c =
    handed_on (FailsNames c.args.cursor.now) c.in_err-name.field-0.0 c.from_residual.result c.from_residual.ensures
    (names_fail c.listed.invariant c.in_err-name.ensures.other)

pub returns-then-not-is_next-clause-read : goal.returns-then-not-is_next-clause-read
returns-then-not-is_next-clause-read c =
    names_end c.listed.invariant c.in_ok-name.ensures.read
    (λ is. false≢true (sym c.if-not-is_next.true ∙ c.is_next.ensures.1 is)) c.push.new.self.items
    c.in_ok-push.ensures.items

pub listed-preserved : goal.listed-preserved
listed-preserved c =
    names_more c.listed.invariant c.in_ok-name.ensures.read (c.is_next.ensures.0 c.if-not-is_next.false)
    c.pass.ensures c.push.new.self.items c.in_ok-push.ensures.items
