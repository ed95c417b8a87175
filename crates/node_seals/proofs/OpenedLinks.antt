-- The links of a node behind what was opened.
use Rattle.std.proofs.Common.{◌≡◌, ℕ, List, Option, Some, None, Result, Ok, Err, refl, sym, ap, subst}
use Rattle.std.specs.Prelude.{IsOk, slice_get, slice_set}
use Rattle.std.proofs.lemmas.Bool.{false≢true}
use Rattle.std.proofs.lemmas.List.{set-get_or}
use Rattle.std.proofs.lemmas.Option.{get_or_from_slice_get}
use Rattle.js_base.specs.declared.ids.HostId.{HostId}
use Rattle.link_seal.specs.declared.errors.OpenError.{OpenError}
use Rattle.link_seal.specs.Links.{LinkShape}
use Rattle.link_seal.specs.Opening.{opens}
use Rattle.node_seals.specs.Seals.{SealedLinks, unsealed, after_opened}
use Rattle.node_seals.specs.Seals.{link_behind, link_in, link_of, opened_as, opened_by}

-- an item that is put where it is
put_again : {X : Type 0} (items : List X) (place : ℕ) (item : X) → slice_get items place ≡ Some item →
    slice_set items place item ≡ items
put_again {X} items place item there =
    subst (λ (x : X). slice_set items place x ≡ items) (get_or_from_slice_get items place item item there)
    (set-get_or items place item)

-- behind an answer of the opener of a link
answered : (links : SealedLinks) (from : HostId) (link : LinkShape) (answer : Result (List ℕ) OpenError) →
    slice_get links.openers from.0 ≡ Some (Some link) →
    Some (record links {
      openers = slice_set links.openers from.0 (link_behind (opened_as from answer) (Some link));
    }) ≡ after_opened (opened_as from answer) (Some links)
answered links from link (Ok frame) there = rw there refl
answered links from link (Err why) there =
    ap (λ openers. Some (record links { openers = openers }))
    (put_again links.openers from.0 (Some link) there)

by_link : (links : SealedLinks) (from : HostId) (link : Option LinkShape) (bytes : List ℕ) →
    slice_get links.openers from.0 ≡ Some link →
    Some (record links {
      openers = slice_set links.openers from.0 (link_behind (opened_by from link bytes) link);
    }) ≡ after_opened (opened_by from link bytes) (Some links)
by_link links from None bytes there =
    ap (λ openers. Some (record links { openers = openers })) (put_again links.openers from.0 None there)
by_link links from (Some link) bytes there = answered links from link (opens link bytes) there

-- the link of a host goes on where it opened a frame
pub opener_behind : (links : SealedLinks) (from : HostId) (link after : Option LinkShape) (bytes : List ℕ) →
    slice_get links.openers from.0 ≡ Some link → after ≡ link_behind (opened_by from link bytes) link →
    Some (record links { openers = slice_set links.openers from.0 after })
    ≡ after_opened (opened_by from (link_of links.openers from) bytes) (Some links)
opener_behind links from link after bytes there is =
    subst (λ (found : Option (Option LinkShape)).
    Some (record links { openers = slice_set links.openers from.0 after })
    ≡ after_opened (opened_by from (link_in found) bytes) (Some links)) (sym there)
    (subst (λ (l : Option LinkShape).
    Some (record links { openers = slice_set links.openers from.0 l })
    ≡ after_opened (opened_by from link bytes) (Some links)) (sym is) (by_link links from link bytes there))

-- what it opens
pub opener_opens : (links : SealedLinks) (from : HostId) (link : Option LinkShape) (bytes : List ℕ) →
    slice_get links.openers from.0 ≡ Some link →
    ((frame : List ℕ) × (opened_by from link bytes ≡ unsealed from frame)) →
    (frame : List ℕ) × (opened_by from (link_of links.openers from) bytes ≡ unsealed from frame)
opener_opens links from link bytes there opens = rw there opens

-- what is Ok was a frame
pub ok_unsealed : (from : HostId) (answer : Result (List ℕ) OpenError) → IsOk answer →
    (frame : List ℕ) × (opened_as from answer ≡ unsealed from frame)
ok_unsealed from (Ok frame) ok = (frame, refl)
ok_unsealed from (Err why) ok = absurd (false≢true ok)
