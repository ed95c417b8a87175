-- What is told of a host file that is refused is one thing, and something is told.
use Rattle.std.proofs.Common.{◌≡◌, ◌≢◌, ℕ, ◌≤◌, List, [], Option, Some, None, String, Global, refl, sym, ap, ◌∙◌, subst, inl}
use Rattle.std.proofs.Common.{⊎_elim, string_bytes, length, arith, zero}
use Rattle.std.specs.Prelude.{MatchOption}
use Rattle.js_base.specs.declared.ids.HostId.{HostId}
use Rattle.toml.specs.Data.{Members}
use Rattle.host_decl.specs.declared.error.HostsError.{HostsError}
use Rattle.host_decl.specs.declared.error.HostsError.TheVariants as error
use Rattle.host_decl.specs.Draft.{HostsDraftShape, draft_of}
use Rattle.host_decl.specs.Meaning.{RefusesFile}
use Rattle.host_decl.specs.Reading.{IsDocument, RefusesHosts}
use Rattle.host_decl.specs.Refusal.{HostsRefusal, refusal_shape}
use Rattle.host_decl.specs.Refusal as hosts
use Rattle.host_decl.specs.Schema.{IsSoundFile}
use Rattle.host_decl.proofs.OneMeaning.{document_once}
use Rattle.explain_texts.specs.Heads.{told}
use Rattle.explain_texts.specs.Told.{ToldShape}
use Rattle.host_reasons.specs.declared.bad_key.BadKey.{BadKey}
use Rattle.host_reasons.specs.BadKeys.{BadKeyShape, IsBadKeyOf, bad_key_shape}
use Rattle.host_reasons.specs.HostsTold.{HasBadKey, HostsTold, KeyTold, LabelTold, key_message, label_in, label_message}
use Rattle.host_reasons.proofs.BadKeys.{one_bad_key, some_bad_key, sound_has_none}

-- bytes have one bad key
bad_once : (bytes : List ℕ) (first second : BadKeyShape) → HasBadKey bytes first → HasBadKey bytes second →
    first ≡ second
bad_once bytes first second one two =
    one_bad_key one.0 first second one.2
    (subst (λ (file : Members). IsBadKeyOf file second) (sym (document_once bytes one.0 two.0 one.1 two.1)) two.2)

-- no key of a sound document is bad
pub sound_document : (bytes : List ℕ) (file : Members) (bad : BadKeyShape) → IsDocument bytes file →
    IsSoundFile file → HasBadKey bytes bad → ⊥
sound_document bytes file bad document sound has =
    sound_has_none file bad sound
    (subst (λ (f : Members). IsBadKeyOf f bad) (document_once bytes has.0 file has.1 document) has.2)

key_once : (bytes key : List ℕ) (first second : ToldShape) → KeyTold bytes key first → KeyTold bytes key second →
    first ≡ second
key_once bytes key first second one two =
    ⊎_elim
    (λ bad. ⊎_elim
    (λ also. bad.2 ∙ ap (λ (b : BadKeyShape). told None (key_message b) []) (bad_once bytes bad.0 also.0 bad.1 also.1)
    ∙ sym also.2)
    (λ none. absurd (none.0 bad.0 bad.1))
    two)
    (λ none. ⊎_elim
    (λ also. absurd (none.0 also.0 also.1))
    (λ also. none.1 ∙ sym also.1)
    two)
    one

label_once : (bytes : List ℕ) (number : ℕ) (name : List ℕ) (first second : ToldShape) →
    LabelTold bytes number name first → LabelTold bytes number name second → first ≡ second
label_once bytes number name first second one two =
    ⊎_elim
    (λ file. ⊎_elim
    (λ also. file.2
    ∙ ap (λ (f : Members). told None (label_message name (label_in f number)) [])
    (document_once bytes file.0 also.0 file.1 also.1) ∙ sym also.2)
    (λ none. absurd (none.0 file.0 file.1))
    two)
    (λ none. ⊎_elim
    (λ also. absurd (none.0 also.0 also.1))
    (λ also. none.1 ∙ sym also.1)
    two)
    one

pub told_once : (bytes : List ℕ) (why : HostsRefusal) (first second : ToldShape) → why ≢ hosts.not_toml →
    HostsTold bytes why first → HostsTold bytes why second → first ≡ second
told_once bytes hosts.not_toml first second not one two = absurd (not refl)
told_once bytes (hosts.bad_key key) first second not one two = key_once bytes key first second one two
told_once bytes (hosts.bad_label number name) first second not one two =
    label_once bytes number name first second one two
told_once bytes hosts.too_long first second not one two = one ∙ sym two
told_once bytes hosts.out_of_memory first second not one two = one ∙ sym two
told_once bytes (hosts.bad_principals why) first second not one two = one ∙ sym two
told_once bytes hosts.too_many_hosts first second not one two = one ∙ sym two
told_once bytes (hosts.host_twice name) first second not one two = one ∙ sym two
told_once bytes hosts.no_host first second not one two = one ∙ sym two
told_once bytes (hosts.bad_link number) first second not one two = one ∙ sym two

-- ---- something is told

-- the document of bytes that are refused for a key, and the bad key
pub record KeyRefused (bytes : List ℕ) (key : String Global) : Type 0 where
  pub bad : BadKeyShape
  pub has : HasBadKey bytes bad
  pub same : bad.key ≡ string_bytes key

-- what a sound file says is refused for no key
no_key_behind : (file : HostsDraftShape) (key : String Global) → RefusesFile file (error.BadKey key) → ⊥
no_key_behind file key refuses =
    ⊎_elim
    (λ principals. principals)
    (λ behind. ⊎_elim (λ names. names)
    (λ labels. ⊎_elim (λ label. label) (λ links. links.1) labels.1)
    behind.2)
    refuses

pub key_refused : (bytes : List ℕ) (key : String Global) → RefusesHosts bytes (error.BadKey key) →
    KeyRefused bytes key
key_refused bytes key refuses =
    ⊎_elim
    (λ long. absurd (let no : error.BadKey key ≡ error.TooLong = long.0 in cc))
    (λ short. ⊎_elim
    (λ fails. absurd fails.1)
    (λ document. ⊎_elim
    (λ keys. let bad = some_bad_key document.0 (string_bytes key) keys in
    record { bad = bad.0; has = (document.0, document.1, bad.1); same = bad.2 })
    (λ meaning. absurd (no_key_behind (draft_of document.0) key meaning.1))
    document.2)
    short)
    refuses

-- bytes that are refused for a label are a document
label_document : (bytes : List ℕ) (host : HostId) (name : String Global) →
    RefusesHosts bytes (error.BadLabel host name) → (file : Members) × IsDocument bytes file
label_document bytes host name refuses =
    ⊎_elim
    (λ long. absurd (let no : error.BadLabel host name ≡ error.TooLong = long.0 in cc))
    (λ short. ⊎_elim (λ fails. absurd fails.1) (λ document. (document.0, document.1)) short)
    refuses

pub some_told : (bytes : List ℕ) (why : HostsError) → RefusesHosts bytes why → why ≢ error.OutOfMemory →
    (what : ToldShape) × HostsTold bytes (refusal_shape why) what
some_told bytes error.OutOfMemory refuses not = absurd (not refl)
some_told bytes error.NotToml refuses not = (_, inl (zero, (let e : zero ≤ length bytes = omega arith in e), refl))
some_told bytes (error.BadKey key) refuses not =
    let has = key_refused bytes key refuses in (_, inl (has.bad, has.has, refl))
some_told bytes (error.BadLabel host name) refuses not =
    let file = label_document bytes host name refuses in (_, inl (file.0, file.1, refl))
some_told bytes (error.Principals why) refuses not = (_, refl)
some_told bytes error.TooManyHosts refuses not = (_, refl)
some_told bytes (error.HostTwice name) refuses not = (_, refl)
some_told bytes error.NoHost refuses not = (_, refl)
some_told bytes (error.BadLink number) refuses not = (_, refl)
some_told bytes error.TooLong refuses not = (_, refl)

-- it is the bad key that is told
pub key_is_told : (bytes : List ℕ) (key : String Global) (what : ToldShape) → RefusesHosts bytes (error.BadKey key) →
    HostsTold bytes (hosts.bad_key (string_bytes key)) what →
    (bad : BadKeyShape) × HasBadKey bytes bad × (bad.key ≡ string_bytes key) × (what ≡ told None (key_message bad) [])
key_is_told bytes key what refuses is =
    let has = key_refused bytes key refuses in
    ⊎_elim
    (λ bad. (
      bad.0,
      bad.1,
      ap (λ (b : BadKeyShape). b.key) (bad_once bytes bad.0 has.bad bad.1 has.has) ∙ has.same,
      bad.2,
    ))
    (λ none. absurd (none.0 has.bad has.has))
    is

-- ---- what the code found

-- what is said of an option is said of what it holds
pub some_matches : {A : Type 0} (Nothing : Type 0) (P : A → Type 0) (found : Option A) (x : A) → found ≡ Some x →
    MatchOption found Nothing P → P x
some_matches {A} Nothing P found x is matches = subst (λ (f : Option A). MatchOption f Nothing P) is matches

-- the bad key of a document is that of its bytes
pub found_in_document : (bytes : List ℕ) (file : Members) (found : Option BadKey) → IsDocument bytes file →
    MatchOption found (IsSoundFile file) (λ bad. IsBadKeyOf file (bad_key_shape bad)) →
    MatchOption found ((bad : BadKeyShape) → ¬ HasBadKey bytes bad) (λ bad. HasBadKey bytes (bad_key_shape bad))
found_in_document bytes file None document sound = λ bad has. sound_document bytes file bad document sound has
found_in_document bytes file (Some bad) document is = (file, document, is)
