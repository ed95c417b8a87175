use Rattle.std.proofs.Common.{◌≡◌, ◌∙◌, All, ap, map, length, sym, subst}
use Rattle.std.proofs.lemmas.Result.{IfOk-weaker}
use Rattle.need_labels.specs.Labelled.{Labelled, labelled_of}
use Rattle.host_code.specs.Code.{CodeShape}
use Rattle.jif_tree.specs.Numbering.{CountsFrom, statement_numbers}
use Rattle.jif_tree.specs.Trees.{BlockTree}
use Rattle.split_rules.specs.ReleaseRows.{parts_told, shown, statements_in}
use Rattle.split_rules.specs.Releases.{ReleasesShape, releases_of}
use Rattle.split_rules.proofs.ReleasedPrograms.{code_told, program_few, table_told}
use Rattle.split_rules.proofs.ToldRows.{IsFew}
use Rattle.split_rules.proofs.releases.releases_in.Goals as goal

pub all_rows-requires : goal.all_rows-requires
all_rows-requires c =
    let placed = c.requires.splits.0 in
    let few = program_few placed c.requires.splits.2 in
    let at = ap (λ (labelled : Labelled). statements_in labelled.program) c.requires.splits.1 in
    rw c.deref.ensures.value (subst (All IsFew) (at ∙ sym c.in_ok-statements.ensures) few)

pub returns : goal.returns
returns c = record {
  table = λ placed labelled_is splittable code_is.
      IfOk-weaker c.all_rows.result _ _ (λ table is. is
      ∙ table_told placed (labelled_of c.args.checked.now) c.args.code.now _ labelled_is splittable
      c.requires.numbered code_is (rw c.deref.ensures.value c.in_ok-statements.ensures)) c.all_rows.ensures;
}
