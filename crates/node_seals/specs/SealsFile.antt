-- What the bytes of a file of keys say to a node.
use Rattle.std.specs.Prelude.{ℕ, zero, suc, ◌+◌, Bool, not, ◌==◌, ◌&&◌, ◌||◌, if◌then◌else◌, nat_lt, is_none}
use Rattle.std.specs.Prelude.{List, [], ◌∷◌, length, replicate, Option, Some, None, Result}
use Rattle.std.specs.Prelude.{Ok, Err, slice_get, slice_set}
use Rattle.std.specs.Option.{option_map}
use Rattle.js_base.specs.declared.ids.HostId.{HostId}
use Rattle.host_code.specs.Code.{CodeShape}
use Rattle.hex.specs.declared.error.FromHexError.{FromHexError}
use Rattle.hex.specs.Hex.{decode_sized}
use Rattle.link_seal.specs.declared.sizes.TheConstants.{KEY_BYTES}
use Rattle.link_seal.specs.Links.{LinkShape, new_link}
use Rattle.event_text.specs.Lines.{LineShape, said_lines}
use Rattle.event_text.specs.Parts.{host_named}
use Rattle.event_text.specs.Words.{Word, three_words}
use Rattle.node_seals.specs.declared.seals_file.SealsError.{SealsError}
use Rattle.node_seals.specs.declared.seals_file.SealsError.TheVariants as error
use Rattle.node_seals.specs.declared.seals_file.TheConstants.{SEALS_BYTES}
use Rattle.node_seals.specs.Seals.{SealedLinks, SealsShape, link_of}

-- ---- one line

-- the key that a word writes: two hexadecimal digits of either case for each byte
abbrev pub decoded_key : Result (List ℕ) FromHexError → Option (List ℕ)
decoded_key (Ok key) = Some key
decoded_key (Err why) = None

abbrev pub key_of : Word → Option (List ℕ)
key_of word = decoded_key (decode_sized word KEY_BYTES)

-- these links with that of a host, which may not have one yet
abbrev pub with_place : {X : Type 0} → Option (Option X) → HostId → X → List (Option X) → Option (List (Option X))
with_place None host link links = None
with_place (Some (Some other)) host link links = None
with_place (Some None) host link links = Some (slice_set links host.0 (Some link))

abbrev pub with_new : {X : Type 0} → HostId → X → List (Option X) → Option (List (Option X))
with_new host link links = with_place (slice_get links host.0) host link links

-- the links of a node with that of a key, which leads to the node or from it, and not from it to itself
abbrev pub with_key : HostId → HostId → HostId → List ℕ → SealedLinks → Option SealedLinks
with_key me from to key links =
    if from.0 == me.0
    then (if to.0 == me.0
    then None
    else option_map (λ sealers. record links { sealers = sealers }) (with_new to (new_link key from to) links.sealers))
    else (if to.0 == me.0
    then option_map (λ openers. record links { openers = openers }) (with_new from (new_link key from to) links.openers)
    else None)

abbrev pub with_parts : HostId → Option HostId → Option HostId → Option (List ℕ) → SealedLinks → Option SealedLinks
with_parts me (Some from) (Some to) (Some key) links = with_key me from to key links
with_parts me (Some from) (Some to) None links = None
with_parts me (Some from) None key links = None
with_parts me None to key links = None

abbrev pub with_words : CodeShape → HostId → Option (Word × Word × Word) → SealedLinks → Option SealedLinks
with_words code me None links = None
with_words code me (Some it) links =
    with_parts me (host_named code.hosts it.0) (host_named code.hosts it.1) (key_of it.2) links

-- the links of a node with that of a line `FROM TO KEY`, where the line has this form
abbrev pub with_line : CodeShape → HostId → List Word → SealedLinks → Option SealedLinks
with_line code me words links = with_words code me (three_words words) links

-- ---- all lines

abbrev pub or_bad_line : ℕ → Option SealedLinks → Result SealedLinks SealsError
or_bad_line number None = Err (error.BadLine number)
or_bad_line number (Some links) = Ok links

abbrev pub behind_line : CodeShape → HostId → Result SealedLinks SealsError → LineShape → Result SealedLinks SealsError
behind_line code me (Ok links) line = or_bad_line line.number (with_line code me line.words links)
behind_line code me (Err why) line = Err why

-- the links of all lines, or the first line that has no form, or says once more what a line before it says
abbrev pub behind_lines : CodeShape → HostId → List LineShape → Result SealedLinks SealsError →
    Result SealedLinks SealsError
behind_lines code me [] links = links
behind_lines code me (line ∷ others) links = behind_lines code me others (behind_line code me links line)

-- ---- the whole file

-- no link to so many hosts and from them
abbrev pub no_links : ℕ → SealedLinks
no_links count = record { sealers = replicate count None; openers = replicate count None }

-- there is no link to another host than the node's own, or none from it
abbrev pub lacks : SealedLinks → HostId → HostId → Bool
lacks links me host =
    not (host.0 == me.0) && (is_none (link_of links.sealers host) || is_none (link_of links.openers host))

-- the first such of so many hosts, from a number on
abbrev pub first_lacking : SealedLinks → HostId → ℕ → ℕ → Option HostId
first_lacking links me number zero = None
first_lacking links me number (suc left) =
    if lacks links me (record { 0 = number })
    then Some (record { 0 = number })
    else first_lacking links me (number + 1) left

abbrev pub unless_lacking : SealedLinks → Option HostId → Result SealsShape SealsError
unless_lacking links None = Ok (Some links)
unless_lacking links (Some host) = Err (error.NoKey host)

abbrev pub whole_links : CodeShape → HostId → Result SealedLinks SealsError → Result SealsShape SealsError
whole_links code me (Ok links) = unless_lacking links (first_lacking links me 0 (length code.hosts))
whole_links code me (Err why) = Err why

-- the seals of a node, or why the bytes give none
abbrev pub seals_of : CodeShape → HostId → List ℕ → Result SealsShape SealsError
seals_of code me bytes =
    if nat_lt SEALS_BYTES (length bytes)
    then Err error.TooLong
    else whole_links code me (behind_lines code me (said_lines bytes) (Ok (no_links (length code.hosts))))
