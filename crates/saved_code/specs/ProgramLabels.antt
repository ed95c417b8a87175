-- Programs whose labels are labels.
--
-- Every program in memory is such. A tree has labels of any length, so a law on trees asks for this.
use Rattle.std.specs.Prelude.{All}
use Rattle.label_lattice.specs.Label.{IsLabel}
use Rattle.jif_tree.specs.WrittenLabels.{written_in_block}
use Rattle.need_labels.specs.Labelled.{Labelled}

pub record HasLabels (labelled : Labelled) : Type 0 where
  pub fields : All (λ field. IsLabel field.label) labelled.program.fields
  pub variables : All IsLabel labelled.var_labels
  pub methods : All (λ method. IsLabel method.begin × All IsLabel (written_in_block method.body))
      labelled.program.methods
