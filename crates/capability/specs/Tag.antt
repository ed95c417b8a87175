-- The tag of a token, with SHA-256 of FIPS 180-4. Who doesn't know a host's key can't guess the tags of its tokens,
-- which is a premise of the theorems and no theorem.
use Rattle.std.specs.Prelude.{ℕ, List, ◌∷◌, ◌++◌, take}
use Rattle.std.specs.Int.{to_be_bytes, w32, w64}
use Rattle.sha2.specs.Sha256.{sha256}
use Rattle.js_base.specs.declared.ids.HostId.{HostId}
use Rattle.js_base.specs.declared.ids.FrameId.{FrameId}
use Rattle.js_base.specs.declared.ids.EntryId.{EntryId}
use Rattle.capability.specs.declared.tags.TheConstants.{TAG_BYTES}

-- what the tag speaks for, in 25 bytes: the host, the site and the count of the frame, the entry and the serial number,
-- with the highest byte of each number first
abbrev pub token_bytes : HostId → FrameId → EntryId → ℕ → List ℕ
token_bytes host frame entry serial =
    host.0 ∷ (to_be_bytes w32 frame.site.0 ++ to_be_bytes w64 frame.count)
    ++ (to_be_bytes w32 entry.0 ++ to_be_bytes w64 serial)

-- the front of the digest of the host's key and these bytes
unfoldable pub tag_of : List ℕ → HostId → FrameId → EntryId → ℕ → List ℕ
tag_of key host frame entry serial = take TAG_BYTES (sha256 (key ++ token_bytes host frame entry serial))
