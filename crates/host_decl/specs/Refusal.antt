-- Why a host file is refused, with names as the lists of their bytes.
--
-- A bad label names its host twice over. The refusal of a host file has the number of the host and its name, so that
-- who prints it needs no file.
use Rattle.std.specs.Prelude.{ℕ, List, string_bytes}
use Rattle.principals.specs.Refusal.{PrincipalRefusal}
use Rattle.principals.specs.Refusal as principals
use Rattle.host_decl.specs.declared.error.HostsError.{HostsError}
use Rattle.host_decl.specs.declared.error.HostsError.TheVariants as error

pub data HostsRefusal : Type 0 where
  out_of_memory : HostsRefusal
  not_toml : HostsRefusal
  bad_key : List ℕ → HostsRefusal
  bad_label : ℕ → List ℕ → HostsRefusal
  bad_principals : PrincipalRefusal → HostsRefusal
  too_many_hosts : HostsRefusal
  host_twice : List ℕ → HostsRefusal
  no_host : HostsRefusal
  bad_link : ℕ → HostsRefusal
  too_long : HostsRefusal

abbrev pub refusal_shape : HostsError → HostsRefusal
refusal_shape error.OutOfMemory = out_of_memory
refusal_shape error.NotToml = not_toml
refusal_shape (error.BadKey key) = bad_key (string_bytes key)
refusal_shape (error.BadLabel host name) = bad_label host.0 (string_bytes name)
refusal_shape (error.Principals refusal) = bad_principals (principals.refusal_shape refusal)
refusal_shape error.TooManyHosts = too_many_hosts
refusal_shape (error.HostTwice name) = host_twice (string_bytes name)
refusal_shape error.NoHost = no_host
refusal_shape (error.BadLink number) = bad_link number
refusal_shape error.TooLong = too_long
