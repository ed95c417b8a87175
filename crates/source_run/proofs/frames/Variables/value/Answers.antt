use Rattle.std.proofs.Common.{◌∙◌, sym, rules, w64}
use Rattle.std.proofs.lemmas.Int.{to_z-of_z}
use Rattle.source_run.proofs.OwnCells.{value-own, value-others}
use Rattle.source_run.proofs.frames.Variables.value.Goals as goal

pub returns-in-Some : goal.returns-in-Some
returns-in-Some c =
    let at = c.in-Some.ensures in
    let own = c.args.self.now.own.now in
    to_z-of_z w64 _ (search rules)
    ∙ sym (value-own own c.args.self.now.first c.in-Some.place c.args.var.0 c.args.self.now.others.now at.0 at.1)

pub returns-in-None : goal.returns-in-None
returns-in-None c =
    to_z-of_z w64 c.value_in.result (search rules) ∙ (c.value_in.ensures
    ∙ sym (value-others c.args.self.now.own.now c.args.self.now.first c.args.var.0 c.args.self.now.others.now
    c.in-None.ensures))
