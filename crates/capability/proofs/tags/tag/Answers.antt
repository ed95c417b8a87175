-- The hasher was fed the parts one after the other.
use Rattle.std.proofs.Common.{◌≡◌, ℕ, List, ◌∷◌, [], ◌++◌, take, ap, ◌∙◌, w32, w64, append_assoc}
use Rattle.std.specs.Int.{to_be_bytes}
use Rattle.sha2.specs.Sha256.{sha256}
use Rattle.capability.specs.declared.tags.TheConstants.{TAG_BYTES}
use Rattle.capability.specs.Tag.{tag_of}
use Rattle.capability.proofs.tags.tag.Goals as goal

-- the parts one after the other are the parts together
regrouped : (key host site count entry serial : List ℕ)
    → ((((key ++ host) ++ site) ++ count) ++ entry) ++ serial ≡ key ++ (host ++ ((site ++ count) ++ (entry ++ serial)))
regrouped key host site count entry serial = simp append_assoc

pub returns : goal.returns
unfolding tag_of
returns c =
    let fed = c.update-6.ensures _ (c.update-5.ensures _ (c.update-4.ensures _
    (c.update-3.ensures _ (c.update-2.ensures _ (c.update.ensures _ c.new-hasher.ensures))))) in
    c.first_half.ensures
    ∙ ap (take TAG_BYTES) (c.finalize.ensures _ fed)
    ∙ ap (λ m. take TAG_BYTES (sha256 m))
    (rw (
      c.as_slice.ensures,
      c.as_slice-2.ensures,
      c.as_slice-3.ensures,
      c.as_slice-4.ensures,
      c.as_slice-5.ensures,
      c.as_slice-6.ensures,
      c.to_be_bytes.ensures,
      c.to_be_bytes-2.ensures,
      c.to_be_bytes-3.ensures,
      c.to_be_bytes-4.ensures,
    )
    (regrouped c.args.key.now (c.args.host.0 ∷ []) (to_be_bytes w32 c.args.frame.site.0)
    (to_be_bytes w64 c.args.frame.count)
    (to_be_bytes w32 c.args.entry.0) (to_be_bytes w64 c.args.serial)))
