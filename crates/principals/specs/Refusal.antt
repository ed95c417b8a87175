-- Why names and pairs are not declared, with names as the lists of their bytes.
use Rattle.std.specs.Prelude.{ℕ, List, string_bytes}
use Rattle.principals.specs.declared.principals.PrincipalError.{PrincipalError}
use Rattle.principals.specs.declared.principals.PrincipalError.TheVariants.{OutOfMemory, TooMany, Twice, Unknown}

pub data PrincipalRefusal : Type 0 where
  out_of_memory : PrincipalRefusal
  too_many : PrincipalRefusal
  twice : List ℕ → PrincipalRefusal
  unknown : List ℕ → PrincipalRefusal

abbrev pub refusal_shape : PrincipalError → PrincipalRefusal
refusal_shape OutOfMemory = out_of_memory
refusal_shape TooMany = too_many
refusal_shape (Twice name) = twice (string_bytes name)
refusal_shape (Unknown name) = unknown (string_bytes name)
