use Rattle.std.proofs.Common.{refl}
use Rattle.std.proofs.lemmas.Result.{err_from_is_err_and}
use Rattle.byte_format.specs.Reader.{sequel, given}
use Rattle.split_file.specs.Reading.{tables_at}
use Rattle.split_file.proofs.Items.{fails_on}
use Rattle.split_file.proofs.tables.tables_of.Goals as goal

pub returns-in_err-fields-clause-tables : goal.returns-in_err-fields-clause-tables
unfolding tables_at sequel
returns-in_err-fields-clause-tables c =
    let p = err_from_is_err_and c.from_residual-in_err-fields.result c.from_residual-in_err-fields.ensures.1 in
    let fails = rw (c.deref.ensures.value, c.deref-2.ensures.value) at c.in_err-fields.ensures in
    rw (p.1, p.2, c.in_ok-hosts.ensures.hosts, c.in_ok-labels.ensures) (fails_on _ _ _ fails)

pub returns-in_err-vars-clause-tables : goal.returns-in_err-vars-clause-tables
unfolding tables_at sequel
returns-in_err-vars-clause-tables c =
    let p = err_from_is_err_and c.from_residual-in_err-vars.result c.from_residual-in_err-vars.ensures.1 in
    let fields = rw (c.deref.ensures.value, c.deref-2.ensures.value) at c.in_ok-fields.ensures in
    let fails = rw c.deref-3.ensures.value at c.in_err-vars.ensures in
    rw (p.1, p.2, c.in_ok-hosts.ensures.hosts, c.in_ok-labels.ensures, fields) (fails_on _ _ _ fails)

pub returns-clause-tables : goal.returns-clause-tables
unfolding tables_at sequel given
returns-clause-tables c =
    let fields = rw (c.deref.ensures.value, c.deref-2.ensures.value) at c.in_ok-fields.ensures in
    let vars = rw c.deref-3.ensures.value at c.in_ok-vars.ensures in
    rw (c.in_ok-hosts.ensures.hosts, c.in_ok-labels.ensures, fields, vars) refl
