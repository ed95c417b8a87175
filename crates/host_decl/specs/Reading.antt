-- What becomes of the bytes of a host file.
use Rattle.std.specs.Prelude.{◌≡◌, ◌⊎◌, ℕ, ◌<◌, ◌≤◌, List, length, Some, IsUtf8, string_bytes}
use Rattle.std.specs.Prelude.{⊤}
use Rattle.js_base.specs.declared.limits.TheConstants.{HOSTS_BYTES}
use Rattle.toml.specs.Data.{Members}
use Rattle.toml.specs.Parse.{parse_document}
use Rattle.host_decl.specs.declared.error.HostsError.{HostsError}
use Rattle.host_decl.specs.declared.error.HostsError.TheVariants as error
use Rattle.host_decl.specs.Schema.{IsFirstBadKey, IsSoundFile, file_tables}
use Rattle.host_decl.specs.Draft.{draft_of}
use Rattle.host_decl.specs.Hosts.{HostsShape}
use Rattle.host_decl.specs.Meaning.{IsMeaningOf, RefusesFile}

-- the bytes are few enough, and are the text of a TOML document with these members
pub record IsDocument (bytes : List ℕ) (file : Members) : Type 0 where
  pub few : length bytes ≤ HOSTS_BYTES
  pub text : IsUtf8 bytes
  pub reads : parse_document bytes ≡ Some file

-- the bytes say these hosts
abbrev pub ReadsHosts : List ℕ → HostsShape → Type 0
ReadsHosts bytes hosts = (file : Members) × IsDocument bytes file × IsSoundFile file
    × IsMeaningOf (draft_of file) hosts

-- the bytes are not a document
abbrev pub DocumentFails : List ℕ → HostsError → Type 0
DocumentFails bytes error.OutOfMemory = ⊤
DocumentFails bytes error.NotToml = (file : Members) → ¬ IsDocument bytes file
DocumentFails bytes _ = ⊥

abbrev pub KeysFail : Members → HostsError → Type 0
KeysFail file (error.BadKey key) = IsFirstBadKey (file_tables file) (string_bytes key)
KeysFail file _ = ⊥

-- a key is bad, otherwise what the file says has no meaning
abbrev pub MembersFail : Members → HostsError → Type 0
MembersFail file refusal = KeysFail file refusal ⊎ (IsSoundFile file × RefusesFile (draft_of file) refusal)

-- Why bytes say no hosts: there are too many, otherwise they are not a document, otherwise the document is refused.
-- Memory may run out at any time.
abbrev pub RefusesHosts : List ℕ → HostsError → Type 0
RefusesHosts bytes refusal =
    ((refusal ≡ error.TooLong) × (HOSTS_BYTES < length bytes))
    ⊎ (((length bytes ≤ HOSTS_BYTES) × DocumentFails bytes refusal)
    ⊎ ((file : Members) × IsDocument bytes file × MembersFail file refusal))
