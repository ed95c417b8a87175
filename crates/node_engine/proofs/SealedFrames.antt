-- What is sent and taken under seals.
use Rattle.std.proofs.Common.{◌≡◌, ◌∙◌, ℕ, zero, suc, ◌+◌, ◌<◌, ◌≤◌, Bool, true, false, List, length}
use Rattle.std.proofs.Common.{if◌then◌else◌, Option, Some, None, Result, Ok, Err, refl, sym, ap, subst, arith, inl, inr}
use Rattle.std.specs.Prelude.{nat_lt, slice_get, slice_set}
use Rattle.std.specs.Option.{option_map}
use Rattle.std.proofs.lemmas.Bool.{cases_eq}
use Rattle.std.proofs.lemmas.List.{get_or-set_same, length-set}
use Rattle.std.proofs.lemmas.Option.{slice_get-get_or, slice_get_within}
use Rattle.byte_format.specs.Numbers.{number_bytes}
use Rattle.js_base.specs.declared.ids.HostId.{HostId}
use Rattle.host_code.specs.Code.{CodeShape}
use Rattle.link_seal.specs.declared.errors.OpenError.{OpenError}
use Rattle.link_seal.specs.Links.{LinkShape, after_one, next_sealed, sealed}
use Rattle.link_seal.specs.Opening.{opens}
use Rattle.event_text.specs.Lines.{said_lines}
use Rattle.node_seals.specs.declared.seals_file.SealsError.{SealsError}
use Rattle.node_seals.specs.declared.seals_file.SealsError.TheVariants as error
use Rattle.node_seals.specs.declared.seals_file.TheConstants.{SEALS_BYTES}
use Rattle.node_seals.specs.Seals.{SealedLinks, SealsShape, link_in, link_of, opened_as, opened_by}
use Rattle.node_seals.specs.Seals.{opened_from, opened_of, raised, unsealed}
use Rattle.node_seals.specs.SealsFile.{behind_lines, first_lacking, lacks, no_links, seals_of, unless_lacking}
use Rattle.node_seals.specs.SealsFile.{whole_links}

-- ---- sending

pub sealed_for : (found : Option LinkShape) (frame bytes : List ℕ) →
    option_map (λ link. next_sealed link frame) found ≡ Some bytes →
    (link : LinkShape) × (found ≡ Some link) × (bytes ≡ next_sealed link frame)
sealed_for None frame bytes is = absurd (let never : ⊥ = cc in never)
sealed_for (Some link) frame bytes is = (link, refl, let same : bytes ≡ next_sealed link frame = cc in same)

-- ---- taking

-- the byte behind the length
fifth : (link : LinkShape) (frame : List ℕ) → slice_get (next_sealed link frame) 4 ≡ Some link.from.0
unfolding number_bytes
fifth link frame = refl

answer_is : (from host : HostId) (link : LinkShape) (bytes frame : List ℕ) (answer : Result (List ℕ) OpenError) →
    opens link bytes ≡ answer → opened_as host answer ≡ unsealed from frame →
    (host ≡ from) × (opens link bytes ≡ Ok frame)
answer_is from host link bytes frame (Ok found) opens_it is =
    let same : found ≡ frame = cc in
    let here : host ≡ from = cc in
    (here, opens_it ∙ ap Ok same)
answer_is from host link bytes frame (Err why) opens_it is = absurd (let never : ⊥ = cc in never)

-- a link of this host opens the bytes to this frame
abbrev Opens : SealedLinks → HostId → (bytes frame : List ℕ) → Type 0
Opens links from bytes frame =
    (link : LinkShape) × (link_of links.openers from ≡ Some link) × (opens link bytes ≡ Ok frame)

link_is : (links : SealedLinks) (from host : HostId) (bytes frame : List ℕ) (found : Option LinkShape) →
    link_of links.openers host ≡ found → opened_by host found bytes ≡ unsealed from frame →
    Opens links from bytes frame
link_is links from host bytes frame None there is = absurd (let never : ⊥ = cc in never)
link_is links from host bytes frame (Some link) there is =
    let answer = answer_is from host link bytes frame (opens link bytes) refl is in
    (link, subst (λ (h : HostId). link_of links.openers h ≡ Some link) answer.0 there, answer.1)

byte_is : (links : SealedLinks) (from : HostId) (bytes frame : List ℕ) (byte : Option ℕ) →
    opened_from byte links bytes ≡ unsealed from frame → Opens links from bytes frame
byte_is links from bytes frame None is = absurd (let never : ⊥ = cc in never)
byte_is links from bytes frame (Some number) is =
    link_is links from (record { 0 = number }) bytes frame (link_of links.openers (record { 0 = number })) refl is

pub opens_as : (links : SealedLinks) (from : HostId) (bytes frame : List ℕ) →
    opened_of (Some links) bytes ≡ unsealed from frame → Opens links from bytes frame
opens_as links from bytes frame is = byte_is links from bytes frame (slice_get bytes 4) is

-- what is sealed for the link from a host goes to its opener
to_opener : (links : SealedLinks) (link : LinkShape) (frame : List ℕ) →
    opened_of (Some links) (next_sealed link frame)
    ≡ opened_by link.from (link_of links.openers link.from) (next_sealed link frame)
to_opener links link frame = ap (λ byte. opened_from byte links (next_sealed link frame)) (fifth link frame)

pub taken_by : (links : SealedLinks) (link found : LinkShape) (frame : List ℕ) (answer : Result (List ℕ) OpenError) →
    link_of links.openers link.from ≡ Some found → opens found (next_sealed link frame) ≡ answer →
    opened_of (Some links) (next_sealed link frame) ≡ opened_as link.from answer
taken_by links link found frame answer there is =
    to_opener links link frame
    ∙ ap (λ it. opened_by link.from it (next_sealed link frame)) there
    ∙ ap (opened_as link.from) is

-- an item that was put is there
put_there : {X : Type 0} (items : List X) (place : ℕ) (old item : X) → slice_get items place ≡ Some old →
    slice_get (slice_set items place item) place ≡ Some item
put_there items place old item there =
    let within : place < length items = slice_get_within items place old there in
    slice_get-get_or (slice_set items place item) place item
    (subst (λ (n : ℕ). place < n) (sym (length-set items place item)) within)
    ∙ ap Some (get_or-set_same items place item item within)

link_there : (found : Option (Option LinkShape)) (link : LinkShape) → link_in found ≡ Some link →
    found ≡ Some (Some link)
link_there None link is = absurd (let never : ⊥ = cc in never)
link_there (Some it) link is = ap Some is

-- behind one frame of a link
pub raised_link : (links : List (Option LinkShape)) (host : HostId) (link : LinkShape) →
    link_of links host ≡ Some link → link_of (raised host links) host ≡ Some (after_one link)
raised_link links host link there =
    let place = link_there (slice_get links host.0) link there in
    ap link_in (put_there links host.0 (Some link) (option_map after_one (link_of links host)) place)
    ∙ ap (option_map after_one) there

-- ---- the keys of a file

lacks_none : (links : SealedLinks) (me : HostId) (number : ℕ) (left : ℕ) (found : Bool) →
    lacks links me (record { 0 = number }) ≡ found →
    (if found then Some (record { 0 = number }) else first_lacking links me (number + 1) left) ≡ None →
    (found ≡ false) × (first_lacking links me (number + 1) left ≡ None)
lacks_none links me number left true is none = absurd (let never : ⊥ = cc in never)
lacks_none links me number left false is none = (refl, none)

none_lacks : (links : SealedLinks) (me : HostId) (number left : ℕ) → first_lacking links me number left ≡ None →
    (place : ℕ) → number ≤ place → place < number + left → lacks links me (record { 0 = place }) ≡ false
none_lacks links me number zero none place from to = absurd (omega arith)
none_lacks links me number (suc left) none place from to =
    let both = lacks_none links me number left (lacks links me (record { 0 = number })) refl none in
    elim (cases_eq place number) [
      | inl same ↦ subst (λ (n : ℕ). lacks links me (record { 0 = n }) ≡ false) (sym same) both.0
      | inr other ↦ none_lacks links me (number + 1) left both.1 place (omega arith) (omega arith)
    ]

-- links of which none lacks
abbrev LacksNone : CodeShape → HostId → SealsShape → Type 0
LacksNone code me seals =
    (links : SealedLinks) × (seals ≡ Some links)
    × ((number : ℕ) → number < length code.hosts → lacks links me (record { 0 = number }) ≡ false)

by_lacking : (code : CodeShape) (me : HostId) (links : SealedLinks) (seals : SealsShape) (host : Option HostId) →
    first_lacking links me 0 (length code.hosts) ≡ host → unless_lacking links host ≡ Ok seals →
    LacksNone code me seals
by_lacking code me links seals None none is = (
  links,
  (let same : seals ≡ Some links = cc in same),
  λ number lt. none_lacks links me 0 (length code.hosts) none number (omega arith) (omega arith),
)
by_lacking code me links seals (Some host) some is = absurd (let never : ⊥ = cc in never)

by_lines : (code : CodeShape) (me : HostId) (seals : SealsShape) (lines : Result SealedLinks SealsError) →
    whole_links code me lines ≡ Ok seals → LacksNone code me seals
by_lines code me seals (Ok links) is =
    by_lacking code me links seals (first_lacking links me 0 (length code.hosts)) refl is
by_lines code me seals (Err why) is = absurd (let never : ⊥ = cc in never)

by_length : (code : CodeShape) (me : HostId) (seals : SealsShape) (long : Bool)
    (lines : Result SealedLinks SealsError) →
    (if long then Err error.TooLong else whole_links code me lines) ≡ Ok seals → LacksNone code me seals
by_length code me seals true lines is = absurd (let never : ⊥ = cc in never)
by_length code me seals false lines is = by_lines code me seals lines is

pub nothing_lacks : (code : CodeShape) (me : HostId) (bytes : List ℕ) (seals : SealsShape) →
    seals_of code me bytes ≡ Ok seals → LacksNone code me seals
nothing_lacks code me bytes seals is =
    by_length code me seals (nat_lt SEALS_BYTES (length bytes))
    (behind_lines code me (said_lines bytes) (Ok (no_links (length code.hosts)))) is
