use Rattle.std.proofs.Common.{refl, sym, subst}
use Rattle.host_decl.specs.LabelText.{IsLabelText}
use Rattle.host_decl.proofs.rows.row_of.Goals as goal

pub returns : goal.returns
returns c =
    let none = rw c.in-None.is at c.in_ok-label.ensures in (
      λ has. none.none has.0
          (subst (λ text. IsLabelText c.args.principals.now text has.0) (sym c.as_str.ensures.value) has.1),
      refl,
    )
