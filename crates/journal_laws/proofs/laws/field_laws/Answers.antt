use Rattle.journal_laws.proofs.SameFields.{determined, played_fields}
use Rattle.host_core.specs.Told.{told_key}
use Rattle.journal_laws.proofs.NoRuns.{barred}
use Rattle.journal_laws.proofs.RealRuns.{real_run}
use Rattle.journal_laws.proofs.laws.field_laws.Goals as goal

pub returns-clause-determined : goal.returns-clause-determined
returns-clause-determined c code values me key other lines steps others last end sound own there =
    determined code sound own values me key other lines steps others last end there

pub returns-clause-played : goal.returns-clause-played
returns-clause-played c code values me key other lines shown steps last sound own there =
    played_fields code sound own values me key other lines shown steps last there

pub returns-clause-barred : goal.returns-clause-barred
returns-clause-barred c code values me key front line steps last sound own there bar =
    barred code sound own values me key front line steps last there bar

pub returns-clause-real : goal.returns-clause-real
returns-clause-real c code values me lines shown sound own there played =
    let (steps, last, journal, rows) = real_run code sound own values me lines shown there played in
    (told_key, steps, last, journal, rows)
