use Rattle.jif_parse.proofs.counts.Counts.with.Goals as goal

pub returns-in-Node-clause-counted : goal.returns-in-Node-clause-counted
returns-in-Node-clause-counted c = rw c.in-Node.is c.with_node.ensures.counted

pub returns-in-Statement-clause-counted : goal.returns-in-Statement-clause-counted
returns-in-Statement-clause-counted c = rw c.in-Statement.is c.with_statement.ensures.counted

pub returns-in-Local-clause-counted : goal.returns-in-Local-clause-counted
returns-in-Local-clause-counted c = rw c.in-Local.is c.with_local.ensures.counted

pub returns-in-Parameter-clause-counted : goal.returns-in-Parameter-clause-counted
returns-in-Parameter-clause-counted c = rw c.in-Parameter.is c.with_parameter.ensures.counted

pub returns-in-Method-clause-counted : goal.returns-in-Method-clause-counted
returns-in-Method-clause-counted c = rw c.in-Method.is c.with_method.ensures.counted

pub returns-in-PlainField-clause-counted : goal.returns-in-PlainField-clause-counted
returns-in-PlainField-clause-counted c = rw c.in-PlainField.is c.with_plain_field.ensures.counted

pub returns-in-Array-clause-counted : goal.returns-in-Array-clause-counted
returns-in-Array-clause-counted c = rw c.in-Array.is c.with_array.ensures.counted

pub returns-in-Elements-clause-counted : goal.returns-in-Elements-clause-counted
returns-in-Elements-clause-counted c = rw c.in-Elements.is c.with_elements.ensures.counted
