use Rattle.std.proofs.Common.{refl, subst}
use Rattle.std.specs.List.{IsDistinct}
use Rattle.std.specs.Str.{bytes_eq}
use Rattle.jiffields.proofs.CodeNames.{own_names}
use Rattle.jiffields.proofs.names.names_read.Goals as goal

pub returns-clause-own : goal.returns-clause-own
returns-clause-own c =
    own_names c.args.code.now c.args.hosts.now c.hosts-rows.ensures.sound c.requires
    (subst (IsDistinct bytes_eq) c.in_ok-fields.ensures (rw c.deref.ensures.value at c.in_default.ensures.none))
    (subst (IsDistinct bytes_eq) c.in_ok-variables.ensures
    (rw c.deref-2.ensures.value at c.in_default-repeated.ensures.none))

pub returns-clause-due : goal.returns-clause-due
returns-clause-due c = (refl, c.hosts-hosts.ensures.sound, returns-clause-own c)
