-- Failures that are no refusals.
use Rattle.std.specs.Prelude.{◌≡◌}
use Rattle.jif_parse.specs.declared.parse_error.ParseError.{ParseError}
use Rattle.jif_parse.specs.declared.parse_error.ParseError.TheVariants as fault

abbrev pub IsOutOfMemory : ParseError → Type 0
IsOutOfMemory error = error ≡ fault.OutOfMemory
