use Rattle.jif_grammar.specs.DraftShapes.{draft_shape}
use Rattle.jif_resolve.proofs.CleanDrafts.{clean_draft}
use Rattle.jif_resolve.proofs.program_of.program_of.Goals as goal

pub variables_of-requires-clause-labelled : goal.variables_of-requires-clause-labelled
variables_of-requires-clause-labelled c =
    rw c.deref.ensures.value (clean_draft c.args.principals.now (draft_shape c.args.draft) c.requires.sound).2

pub fields_of-requires : goal.fields_of-requires
fields_of-requires c = (clean_draft c.args.principals.now (draft_shape c.args.draft) c.requires.sound).0

pub methods_of-requires-clause-clean : goal.methods_of-requires-clause-clean
methods_of-requires-clause-clean c =
    rw c.requires.globals (clean_draft c.args.principals.now (draft_shape c.args.draft) c.requires.sound).1
