-- The seals of a node: the links for which it seals frames, and those whose frames it opens.
use Rattle.std.specs.Prelude.{◌≡◌, ℕ, List, Result, Ok, Err, Option, Some, None, slice_get, slice_set}
use Rattle.std.specs.Option.{option_map}
use Rattle.js_base.specs.declared.ids.HostId.{HostId}
use Rattle.link_seal.specs.declared.errors.OpenError.{OpenError}
use Rattle.link_seal.specs.Links.{LinkShape, after_one, next_sealed}
use Rattle.link_seal.specs.Opening.{opens}
use Rattle.node_seals.specs.declared.seals.SealedLinks as native
use Rattle.node_seals.specs.declared.seals.Opened.{Opened as NativeOpened}
use Rattle.node_seals.specs.declared.seals.Opened.TheVariants as native_opened

-- By the number of another host, the link that leads to it, and the link that leads from it. At the number of the
-- node's own host there is none.
pub record SealedLinks : Type 0 where
  pub sealers : List (Option LinkShape)
  pub openers : List (Option LinkShape)

-- where there are none, nothing is sealed, and frames are taken as they arrive
abbrev pub SealsShape : Type 0
SealsShape = Option SealedLinks

abbrev pub link_in : {X : Type 0} → Option (Option X) → Option X
link_in None = None
link_in (Some link) = link

-- the link of a host
abbrev pub link_of : {X : Type 0} → List (Option X) → HostId → Option X
link_of links host = link_in (slice_get links host.0)

-- these links behind one more frame of the link of a host, where there is one
abbrev pub raised : HostId → List (Option LinkShape) → List (Option LinkShape)
raised host links = slice_set links host.0 (option_map after_one (link_of links host))

-- ---- sealing

abbrev pub after_sealing : HostId → SealsShape → SealsShape
after_sealing to None = None
after_sealing to (Some links) = Some (record links { sealers = raised to links.sealers })

-- What goes out to a host for a frame: the frame itself where nothing is sealed; otherwise the frame as it is sealed,
-- where a link leads to the host, and else nothing.
abbrev pub string_for : SealsShape → HostId → List ℕ → Option (List ℕ)
string_for None to frame = Some frame
string_for (Some links) to frame = option_map (λ link. next_sealed link frame) (link_of links.sealers to)

-- ---- opening

-- What bytes come to that arrived: nothing is sealed, and they are a frame as they are; they are not the next frame of
-- a link to the node; or they are, and this is the host that the link leads from, and the frame.
pub data Opened : Type 0 where
  as_they_are : Opened
  refused : Opened
  unsealed : HostId → List ℕ → Opened

abbrev pub opened_as : HostId → Result (List ℕ) OpenError → Opened
opened_as from (Ok frame) = unsealed from frame
opened_as from (Err why) = refused

abbrev pub opened_by : HostId → Option LinkShape → List ℕ → Opened
opened_by from None bytes = refused
opened_by from (Some link) bytes = opened_as from (opens link bytes)

-- the byte behind the length is the number of the host that the link leads from
abbrev pub opened_from : Option ℕ → SealedLinks → List ℕ → Opened
opened_from None links bytes = refused
opened_from (Some number) links bytes =
    let from : HostId = record { 0 = number } in opened_by from (link_of links.openers from) bytes

abbrev pub opened_of : SealsShape → List ℕ → Opened
opened_of None bytes = as_they_are
opened_of (Some links) bytes = opened_from (slice_get bytes 4) links bytes

abbrev pub after_opening : HostId → SealsShape → SealsShape
after_opening from None = None
after_opening from (Some links) = Some (record links { openers = raised from links.openers })

-- the link behind what was opened of it
abbrev pub link_behind : Opened → Option LinkShape → Option LinkShape
link_behind as_they_are link = link
link_behind refused link = link
link_behind (unsealed from frame) link = option_map after_one link

-- the seals behind what was opened
abbrev pub after_opened : Opened → SealsShape → SealsShape
after_opened as_they_are seals = seals
after_opened refused seals = seals
after_opened (unsealed from frame) seals = after_opening from seals

-- ---- in the program

abbrev pub links_shape : native.SealedLinks → SealedLinks
links_shape links = record { sealers = links.sealers.items; openers = links.openers.items }

abbrev pub opened_shape : NativeOpened → Opened
opened_shape native_opened.AsTheyAre = as_they_are
opened_shape native_opened.Refused = refused
opened_shape (native_opened.Unsealed from frame) = unsealed from frame.items
