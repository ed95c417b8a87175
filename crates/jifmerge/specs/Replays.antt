-- What is asked of a code and of starting values whose script is read again.
use Rattle.std.specs.Prelude.{ℤ, List, map, All, FitsSigned}
use Rattle.std.specs.Int.{w64}
use Rattle.std.specs.List.{IsDistinct}
use Rattle.std.specs.Str.{bytes_eq}
use Rattle.event_text.specs.Settings.{form_of, HasRows}
use Rattle.host_code.specs.Code.{CodeShape}

-- No two hosts and no two fields have one name, and the fields start with values of 64 bits, as many as they have
-- elements.
pub record CanBeSaid (code : CodeShape) (values : List (List ℤ)) : Type 0 where
  pub hosts : IsDistinct bytes_eq (map (λ host. host.name) code.hosts)
  pub fields : IsDistinct bytes_eq (map (λ field. field.name) code.fields)
  pub sizes : HasRows (map form_of code.fields) values
  pub fit : All (All (FitsSigned w64)) values
