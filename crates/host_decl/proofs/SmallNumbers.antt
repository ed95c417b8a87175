-- The numbers in a refusal are those of few hosts and links.
use Rattle.std.proofs.Common.{ℕ, ◌*◌, ◌<◌, ◌≤◌, List, length, String, Global, inl, inr, arith}
use Rattle.std.proofs.Math.Nat.{mul-le-mul}
use Rattle.std.proofs.lemmas.List.{length-map}
use Rattle.std.proofs.lemmas.Option.{slice_get_within}
use Rattle.js_base.specs.declared.ids.HostId.{HostId}
use Rattle.js_base.specs.declared.limits.TheConstants.{HOSTS}
use Rattle.principals.specs.ActsFor.{Declared}
use Rattle.host_decl.specs.declared.error.HostsError.TheVariants.{BadLabel, BadLink}
use Rattle.host_decl.specs.Draft.{HostsDraftShape, draft_of}
use Rattle.host_decl.specs.Meaning.{HostsFail, host_names}
use Rattle.host_decl.specs.Reading.{RefusesHosts}
use Rattle.host_decl.proofs.SoundLinks.{few_links}

squares : (count : ℕ) → count ≤ HOSTS → count * count ≤ HOSTS * HOSTS
squares count few = mul-le-mul {n₁ = count} {m₁ = count} {n₂ = HOSTS} {m₂ = HOSTS} few few

label_of_hosts : (principals : Declared) (file : HostsDraftShape) (host : HostId) (name : String Global) →
    HostsFail principals file (BadLabel host name) → host.0 < HOSTS
label_of_hosts principals file host name (inl none) = absurd none
label_of_hosts principals file host name (inr (names, inl first)) =
    let within = slice_get_within file.hosts host.0 first.host first.here in
    omega (arith, names.few, length-map file.hosts (λ h. h.name))
label_of_hosts principals file host name (inr (names, inr (labels, none))) = absurd none

link_of_hosts : (principals : Declared) (file : HostsDraftShape) (number : ℕ) →
    HostsFail principals file (BadLink number) → number ≤ HOSTS * HOSTS
link_of_hosts principals file number (inl none) = absurd none
link_of_hosts principals file number (inr (names, inl none)) = absurd none
link_of_hosts principals file number (inr (names, inr (labels, first))) =
    let within = slice_get_within file.links number first.link first.here in
    let most = few_links (host_names file) file.links number first.before (omega arith) in
    omega (arith, squares (length (host_names file)) names.few)

pub bad_label : (bytes : List ℕ) (host : HostId) (name : String Global) → RefusesHosts bytes (BadLabel host name) →
    host.0 < HOSTS
bad_label bytes host name (inl long) = absurd (let is = long.0 in cc)
bad_label bytes host name (inr (inl fails)) = absurd fails.1
bad_label bytes host name (inr (inr (file, document, inl none))) = absurd none
bad_label bytes host name (inr (inr (file, document, inr (sound, inl none)))) = absurd none
bad_label bytes host name (inr (inr (file, document, inr (sound, inr (principals, are, fails))))) =
    label_of_hosts principals (draft_of file) host name fails

pub bad_link : (bytes : List ℕ) (number : ℕ) → RefusesHosts bytes (BadLink number) → number ≤ HOSTS * HOSTS
bad_link bytes number (inl long) = absurd (let is = long.0 in cc)
bad_link bytes number (inr (inl fails)) = absurd fails.1
bad_link bytes number (inr (inr (file, document, inl none))) = absurd none
bad_link bytes number (inr (inr (file, document, inr (sound, inl none)))) = absurd none
bad_link bytes number (inr (inr (file, document, inr (sound, inr (principals, are, fails))))) =
    link_of_hosts principals (draft_of file) number fails
