-- A host file that is refused has one cause, and a file that has a meaning is refused only where memory ran out.
use Rattle.std.proofs.Common.{◌≡◌, ◌≢◌, ◌⊎◌, ℕ, ◌<◌, ◌≤◌, List, [], length, string_bytes, inl, inr, refl, sym}
use Rattle.std.proofs.Common.{subst, ap, ◌∙◌}
use Rattle.std.proofs.Common.{arith}
use Rattle.std.proofs.lemmas.Option.{slice_get_within}
use Rattle.std.specs.List.{AllByRecursion}
use Rattle.principals.specs.ActsFor.{Declared}
use Rattle.js_base.specs.Named.{IsFirstRepeated}
use Rattle.principals.specs.Declaring.{AreDeclaredAs, Refuses}
use Rattle.principals.specs.Refusal as principals
use Rattle.principals.specs.declared.principals.PrincipalError.{PrincipalError}
use Rattle.principals.specs.declared.principals.PrincipalError.TheVariants as principal_error
use Rattle.js_base.specs.declared.limits.TheConstants.{HOSTS_BYTES}
use Rattle.toml.specs.Data.{Members}
use Rattle.host_decl.specs.declared.error.HostsError.{HostsError}
use Rattle.host_decl.specs.declared.error.HostsError.TheVariants as error
use Rattle.host_decl.specs.Draft.{HostDraftShape, LinkDraftShape, HostsDraftShape, draft_of}
use Rattle.host_decl.specs.Hosts.{HostsShape, AreHostNames}
use Rattle.host_decl.specs.Meaning.{HasLabel, PrincipalsFail, NamesFail, LabelsFail, LinksFail, AreSoundLinks}
use Rattle.host_decl.specs.Meaning.{HostsFail, IsMeaningOf, RefusesFile, host_names}
use Rattle.host_decl.specs.Reading.{IsDocument, ReadsHosts, DocumentFails, KeysFail, MembersFail, RefusesHosts}
use Rattle.host_decl.specs.Refusal.{refusal_shape, bad_key, bad_principals}
use Rattle.host_decl.specs.Refusal.{host_twice, bad_link}
use Rattle.host_decl.specs.Schema.{IsSoundFile, file_tables}
use Rattle.js_base.proofs.Repeats.{none_repeated, one_repeated}
use Rattle.host_decl.proofs.FirstOnes.{without_label_once, all_labels_or_without}
use Rattle.host_decl.proofs.FirstOnes.{bad_link_once, sound_links_or_bad, bad_key_once, sound_keys_or_bad}
use Rattle.host_decl.proofs.HostRows.{all_have_labels}
use Rattle.host_decl.proofs.OneMeaning.{DeclaredOnce, document_once}

-- what the laws of principals say
abbrev pub RefusedOnce : Type 0
RefusedOnce = (names : List (List ℕ)) (pairs : List (List ℕ × List ℕ)) (first second : PrincipalError)
    → Refuses names pairs first → Refuses names pairs second → first ≢ principal_error.OutOfMemory
    → second ≢ principal_error.OutOfMemory → principals.refusal_shape first ≡ principals.refusal_shape second

abbrev pub NeverBoth : Type 0
NeverBoth = (names : List (List ℕ)) (pairs : List (List ℕ × List ℕ)) (principals : Declared) (why : PrincipalError)
    → AreDeclaredAs names pairs principals → Refuses names pairs why → why ≡ principal_error.OutOfMemory

pub record AreRefusals : Type 0 where
  pub declared : DeclaredOnce
  pub once : RefusedOnce
  pub never_both : NeverBoth

-- ---- stages

-- there is one cause of such a failure
abbrev pub IsOne : (HostsError → Type 0) → Type 0
IsOne Fails = (first second : HostsError) → Fails first → Fails second → first ≢ error.OutOfMemory
    → second ≢ error.OutOfMemory → refusal_shape first ≡ refusal_shape second

-- where this holds, only memory can run out
abbrev pub Excludes : Type 0 → (HostsError → Type 0) → Type 0
Excludes Holds Fails = (why : HostsError) → Fails why → Holds → why ≡ error.OutOfMemory

stage : (Fails Later : HostsError → Type 0) (Holds : Type 0) → IsOne Fails → Excludes Holds Fails
    → (Holds → IsOne Later)
    → IsOne (λ why. Fails why ⊎ (Holds × Later why))
stage Fails Later Holds one excludes later first second either also ample too =
    elim either [
      | inl here ↦ elim also [
        | inl there ↦ one first second here there ample too
        | inr there ↦ absurd (ample (excludes first here there.0))
      ]
      | inr here ↦ elim also [
        | inl there ↦ absurd (too (excludes second there here.0))
        | inr there ↦ later here.0 first second here.1 there.1 ample too
      ]
    ]

-- ---- principals

principals_once : AreRefusals → (names : List (List ℕ)) (pairs : List (List ℕ × List ℕ))
    → IsOne (PrincipalsFail names pairs)
principals_once laws names pairs error.OutOfMemory second one two ample too = absurd (ample refl)
principals_once laws names pairs first error.OutOfMemory one two ample too = absurd (too refl)
principals_once laws names pairs (error.Principals first) (error.Principals second) one two ample too =
    ap bad_principals (laws.once names pairs first second one.0 two.0 one.1 two.1)
principals_once laws names pairs (error.Principals first) second one two ample too = absurd two
principals_once laws names pairs first second one two ample too = absurd one

principals_exclude : AreRefusals → (names : List (List ℕ)) (pairs : List (List ℕ × List ℕ)) (principals : Declared)
    → Excludes (AreDeclaredAs names pairs principals) (PrincipalsFail names pairs)
principals_exclude laws names pairs principals error.OutOfMemory fails declared = refl
principals_exclude laws names pairs principals (error.Principals why) fails declared =
    absurd (fails.1 (laws.never_both names pairs principals why declared fails.0))
principals_exclude laws names pairs principals why fails declared = absurd fails

-- ---- names of hosts

none_is_few : (names : List (List ℕ)) (count : ℕ) → names ≡ [] → ¬ (count < length names)
none_is_few names count none = λ more. let long : length names ≡ 0 = ap length none in absurd (omega arith)

none_repeats : (names : List (List ℕ)) (name : List ℕ) → names ≡ [] → ¬ IsFirstRepeated names name
none_repeats names name none = λ first.
    let within = slice_get_within names first.place name first.here in none_is_few names first.place none within

names_once : (names : List (List ℕ)) → IsOne (NamesFail names)
names_once names error.OutOfMemory second one two ample too = absurd (ample refl)
names_once names first error.OutOfMemory one two ample too = absurd (too refl)
names_once names error.NoHost error.NoHost one two ample too = refl
names_once names error.NoHost error.TooManyHosts one two ample too = absurd (none_is_few names _ one two)
names_once names error.NoHost (error.HostTwice name) one two ample too = absurd (none_repeats names _ one two.1)
names_once names error.NoHost second one two ample too = absurd two
names_once names error.TooManyHosts error.NoHost one two ample too = absurd (none_is_few names _ two one)
names_once names error.TooManyHosts error.TooManyHosts one two ample too = refl
names_once names error.TooManyHosts (error.HostTwice name) one two ample too = absurd (let few = two.0 in omega arith)
names_once names error.TooManyHosts second one two ample too = absurd two
names_once names (error.HostTwice name) error.NoHost one two ample too = absurd (none_repeats names _ two one.1)
names_once names (error.HostTwice name) error.TooManyHosts one two ample too = absurd (let few = one.0 in omega arith)
names_once names (error.HostTwice name) (error.HostTwice other) one two ample too =
    ap host_twice (one_repeated names (string_bytes name) (string_bytes other) one.1 two.1)
names_once names (error.HostTwice name) second one two ample too = absurd two
names_once names first second one two ample too = absurd one

names_exclude : (names : List (List ℕ)) → Excludes (AreHostNames names) (NamesFail names)
names_exclude names error.OutOfMemory fails sound = refl
names_exclude names error.NoHost fails sound = absurd (none_is_few names 0 fails sound.some)
names_exclude names error.TooManyHosts fails sound = absurd (let few = sound.few in omega arith)
names_exclude names (error.HostTwice name) fails sound =
    absurd (none_repeated names (string_bytes name) sound.distinct fails.1)
names_exclude names why fails sound = absurd fails

-- ---- labels

labels_once : (principals : Declared) (hosts : List HostDraftShape) → IsOne (LabelsFail principals hosts)
labels_once principals hosts error.OutOfMemory second one two ample too = absurd (ample refl)
labels_once principals hosts first error.OutOfMemory one two ample too = absurd (too refl)
labels_once principals hosts (error.BadLabel first name) (error.BadLabel second other) one two ample too =
    let same = without_label_once principals hosts first.0 second.0 (string_bytes name) (string_bytes other) one two in
    let place = same.0 in let named = same.1 in cc
labels_once principals hosts (error.BadLabel first name) second one two ample too = absurd two
labels_once principals hosts first second one two ample too = absurd one

labels_exclude : (principals : Declared) (hosts : List HostDraftShape)
    → Excludes (AllByRecursion (HasLabel principals) hosts) (LabelsFail principals hosts)
labels_exclude principals hosts error.OutOfMemory fails all = refl
labels_exclude principals hosts (error.BadLabel place name) fails all =
    absurd (all_labels_or_without principals hosts place.0 (string_bytes name) all fails)
labels_exclude principals hosts why fails all = absurd fails

-- ---- links

links_once : (names : List (List ℕ)) (links : List LinkDraftShape) → IsOne (LinksFail names links)
links_once names links (error.BadLink first) (error.BadLink second) one two ample too =
    ap bad_link (bad_link_once names links first second one two)
links_once names links (error.BadLink first) second one two ample too = absurd two
links_once names links first second one two ample too = absurd one

links_exclude : (names : List (List ℕ)) (links : List LinkDraftShape)
    → Excludes (AreSoundLinks names links) (LinksFail names links)
links_exclude names links (error.BadLink place) fails sound = absurd (sound_links_or_bad names links place sound fails)
links_exclude names links why fails sound = absurd fails

-- ---- keys

keys_once : (file : Members) → IsOne (KeysFail file)
keys_once file (error.BadKey first) (error.BadKey second) one two ample too =
    ap bad_key (bad_key_once (file_tables file) (string_bytes first) (string_bytes second) one two)
keys_once file (error.BadKey first) second one two ample too = absurd two
keys_once file first second one two ample too = absurd one

keys_exclude : (file : Members) → Excludes (IsSoundFile file) (KeysFail file)
keys_exclude file (error.BadKey key) fails sound =
    absurd (sound_keys_or_bad (file_tables file) (string_bytes key) sound fails)
keys_exclude file why fails sound = absurd fails

-- ---- the document

document_fails_once : (bytes : List ℕ) → IsOne (DocumentFails bytes)
document_fails_once bytes error.OutOfMemory second one two ample too = absurd (ample refl)
document_fails_once bytes first error.OutOfMemory one two ample too = absurd (too refl)
document_fails_once bytes error.NotToml error.NotToml one two ample too = refl
document_fails_once bytes error.NotToml second one two ample too = absurd two
document_fails_once bytes first second one two ample too = absurd one

document_excludes : (bytes : List ℕ) (file : Members) → Excludes (IsDocument bytes file) (DocumentFails bytes)
document_excludes bytes file error.OutOfMemory fails document = refl
document_excludes bytes file error.NotToml fails document = absurd (fails file document)
document_excludes bytes file why fails document = absurd fails

-- ---- the file

hosts_once : (principals : Declared) (file : HostsDraftShape) → IsOne (HostsFail principals file)
hosts_once principals file =
    let names = host_names file in
    let labels = stage (LabelsFail principals file.hosts) (LinksFail names file.links)
    (AllByRecursion (HasLabel principals) file.hosts) (labels_once principals file.hosts)
    (labels_exclude principals file.hosts)
    (λ all. links_once names file.links) in
    stage (NamesFail names)
    (λ why. LabelsFail principals file.hosts why ⊎
    (AllByRecursion (HasLabel principals) file.hosts × LinksFail names file.links why))
    (AreHostNames names) (names_once names) (names_exclude names) (λ sound. labels)

file_once : AreRefusals → (file : HostsDraftShape) → IsOne (RefusesFile file)
file_once laws file first second either also ample too =
    elim either [
      | inl here ↦ elim also [
        | inl there ↦ principals_once laws file.names file.pairs first second here there ample too
        | inr there ↦
            absurd (ample (principals_exclude laws file.names file.pairs there.0 first here there.1))
      ]
      | inr here ↦ elim also [
        | inl there ↦
            absurd (too (principals_exclude laws file.names file.pairs here.0 second there here.1))
        | inr there ↦
            let same = laws.declared file.names file.pairs there.0 here.0 there.1 here.1 in
            let fails = subst (λ principals. HostsFail principals file second) same there.2 in
            hosts_once here.0 file first second here.2 fails ample too
      ]
    ]

members_once : AreRefusals → (file : Members) → IsOne (MembersFail file)
members_once laws file =
    stage (KeysFail file) (RefusesFile (draft_of file)) (IsSoundFile file) (keys_once file) (keys_exclude file)
    (λ sound. file_once laws (draft_of file))

abbrev IsReadAndFails : List ℕ → HostsError → Type 0
IsReadAndFails bytes why = (file : Members) × IsDocument bytes file × MembersFail file why

few_fail_once : AreRefusals → (bytes : List ℕ)
    → IsOne (λ why. ((length bytes ≤ HOSTS_BYTES) × DocumentFails bytes why) ⊎ IsReadAndFails bytes why)
few_fail_once laws bytes first second either also ample too =
    elim either [
      | inl here ↦ elim also [
        | inl there ↦ document_fails_once bytes first second here.1 there.1 ample too
        | inr there ↦ absurd (ample (document_excludes bytes there.0 first here.1 there.1))
      ]
      | inr here ↦ elim also [
        | inl there ↦ absurd (too (document_excludes bytes here.0 second there.1 here.1))
        | inr there ↦
            let same = document_once bytes there.0 here.0 there.1 here.1 in
            let fails = subst (λ file. MembersFail file second) same there.2 in
            members_once laws here.0 first second here.2 fails ample too
      ]
    ]

-- bytes that fail for another cause than their length are few
few_bytes : (bytes : List ℕ) (why : HostsError)
    → ((length bytes ≤ HOSTS_BYTES) × DocumentFails bytes why) ⊎ IsReadAndFails bytes why → length bytes ≤ HOSTS_BYTES
few_bytes bytes why (inl here) = here.0
few_bytes bytes why (inr here) = here.1.few

pub refuses_once : AreRefusals → (bytes : List ℕ) → IsOne (RefusesHosts bytes)
refuses_once laws bytes first second (inl long) (inl also) ample too = ap refusal_shape (long.0 ∙ sym also.0)
refuses_once laws bytes first second (inl long) (inr also) ample too =
    absurd (let few = few_bytes bytes second also in let more = long.1 in omega arith)
refuses_once laws bytes first second (inr either) (inl also) ample too =
    absurd (let few = few_bytes bytes first either in let more = also.1 in omega arith)
refuses_once laws bytes first second (inr either) (inr also) ample too =
    few_fail_once laws bytes first second either also ample too

-- ---- never both

names_of_meaning : (file : HostsDraftShape) (hosts : HostsShape) (principals : Declared) (why : HostsError)
    → hosts.principals ≡ principals → IsMeaningOf file hosts → HostsFail principals file why → why ≡ error.OutOfMemory
names_of_meaning file hosts principals why same means (inl fails) =
    names_exclude (host_names file) why fails means.names
names_of_meaning file hosts principals why same means (inr (sound, inl fails)) =
    let all = all_have_labels hosts.principals file.hosts hosts.hosts means.rows in
    labels_exclude principals file.hosts why fails (subst (λ held. AllByRecursion (HasLabel held) file.hosts) same all)
names_of_meaning file hosts principals why same means (inr (sound, inr (labels, fails))) =
    links_exclude (host_names file) file.links why fails means.links

file_excludes : AreRefusals → (file : HostsDraftShape) (hosts : HostsShape)
    → Excludes (IsMeaningOf file hosts) (RefusesFile file)
file_excludes laws file hosts why (inl fails) means =
    principals_exclude laws file.names file.pairs hosts.principals why fails means.principals
file_excludes laws file hosts why (inr fails) means =
    let same = laws.declared file.names file.pairs hosts.principals fails.0 means.principals fails.1 in
    names_of_meaning file hosts fails.0 why same means fails.2

members_exclude : AreRefusals → (file : Members) (hosts : HostsShape) (why : HostsError) → IsSoundFile file
    → IsMeaningOf (draft_of file) hosts → MembersFail file why → why ≡ error.OutOfMemory
members_exclude laws file hosts why sound means (inl fails) = keys_exclude file why fails sound
members_exclude laws file hosts why sound means (inr fails) = file_excludes laws (draft_of file) hosts why fails.1 means

pub never_refused : AreRefusals → (bytes : List ℕ) (hosts : HostsShape) (why : HostsError) → ReadsHosts bytes hosts
    → RefusesHosts bytes why → why ≡ error.OutOfMemory
never_refused laws bytes hosts why reads (inl long) =
    absurd (let few = reads.1.few in let more = long.1 in omega arith)
never_refused laws bytes hosts why reads (inr (inl fails)) = document_excludes bytes reads.0 why fails.1 reads.1
never_refused laws bytes hosts why reads (inr (inr fails)) =
    let same = document_once bytes fails.0 reads.0 fails.1 reads.1 in
    members_exclude laws reads.0 hosts why reads.2 reads.3 (subst (λ file. MembersFail file why) same fails.2)
