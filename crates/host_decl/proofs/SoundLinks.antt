-- Which links are sound, and that among few hosts only few are.
use Rattle.std.proofs.Common.{◌≡◌, ℕ, zero, suc, ◌+◌, ◌*◌, ◌<◌, ◌≤◌, Bool, true, false, not, ◌&&◌, List, [], ◌∷◌, ◌++◌}
use Rattle.std.proofs.Common.{map, take, length, get_or, Some, slice_get, ◌⊎◌, inl, inr, pos, IsTrue, refl, sym, subst}
use Rattle.std.proofs.Common.{ap, ◌∙◌, arith, below_more}
use Rattle.std.proofs.lemmas.Bool.{cases_Bool, false≢true, and_parts, and_from}
use Rattle.std.proofs.lemmas.List.{get_or-map, length-map, length-append, length-take-le, get_or-take, map-append}
use Rattle.std.proofs.Math.Seq.{take-suc}
use Rattle.std.proofs.lemmas.List.Folds.{Any-from_list_any}
use Rattle.std.proofs.lemmas.Map.Keys.{IsDistinct-push}
use Rattle.std.proofs.lemmas.Map.Made.{length-le_from_is_member}
use Rattle.std.proofs.lemmas.Option.{slice_get-get_or, slice_get_within}
use Rattle.std.proofs.lemmas.Slice.Eq.{bytes_eq-Decides}
use Rattle.std.specs.Cmp.{IsEquivalence}
use Rattle.std.specs.List.{AllByRecursion, list_any, IsDistinct, take-map}
use Rattle.std.specs.Str.{bytes_eq}
use Rattle.js_base.proofs.Texts.{bytes_eq_laws}
use Rattle.host_decl.specs.declared.draft.LinkDraft.{LinkDraft}
use Rattle.host_decl.specs.Draft.{LinkDraftShape}
use Rattle.host_decl.specs.DraftView.{link_draft}
use Rattle.host_decl.specs.Meaning.{is_sound_link, has_sound_ends, have_same_ends, is_cost, AreSoundUpTo, AreSoundLinks}
use Rattle.host_decl.specs.Meaning.{IsFirstBadLink}
use Rattle.host_decl.proofs.Lists.{any_of_map}

-- ---- one link after the other

-- the link at a place, as it is written
link_here : (links : List LinkDraft) (place : ℕ) (link : LinkDraft) → place < length links
    → link ≡ get_or links place link
    → slice_get (map link_draft links) place ≡ Some (link_draft link)
link_here links place link within is =
    let inside : place < length (map link_draft links) = rw length-map within in
    slice_get-get_or (map link_draft links) place (link_draft link) inside
    ∙ ap Some (get_or-map link_draft links place link (link_draft link) within ∙ ap link_draft (sym is))

-- a test of the link after those before it
test_here : (names : List (List ℕ)) (links : List LinkDraft) (place : ℕ) (link : LinkDraft) (test : Bool)
    → test ≡ is_sound_link names (map link_draft (take place links)) (link_draft link)
    → is_sound_link names (take place (map link_draft links)) (link_draft link) ≡ test
test_here names links place link test is =
    ap (λ earlier. is_sound_link names earlier (link_draft link)) (take-map link_draft place links) ∙ sym is

same_link : (links : List LinkDraftShape) (place : ℕ) (first second : LinkDraftShape)
    → slice_get links place ≡ Some first → slice_get links place ≡ Some second → first ≡ second
same_link links place first second one two = let both : Some first ≡ Some second = sym one ∙ two in cc

pub sound_more : (names : List (List ℕ)) (links : List LinkDraft) (place : ℕ) (link : LinkDraft)
    → place < length links → link ≡ get_or links place link
    → true ≡ is_sound_link names (map link_draft (take place links)) (link_draft link)
    → AreSoundUpTo names (map link_draft links) place → AreSoundUpTo names (map link_draft links) (place + 1)
sound_more names links place link within is sound before =
    below_more (λ at. (other : LinkDraftShape) → slice_get (map link_draft links) at ≡ Some other
    → is_sound_link names (take at (map link_draft links)) other ≡ true) place before
    (λ other here.
    let same : link_draft link ≡ other =
    same_link (map link_draft links) place (link_draft link) other (link_here links place link within is) here in
    subst (λ at. is_sound_link names (take place (map link_draft links)) at ≡ true) same
    (test_here names links place link true sound))

pub bad_link : (names : List (List ℕ)) (links : List LinkDraft) (place : ℕ) (link : LinkDraft) → place < length links
    → link ≡ get_or links place link
    → false ≡ is_sound_link names (map link_draft (take place links)) (link_draft link)
    → AreSoundUpTo names (map link_draft links) place → IsFirstBadLink names (map link_draft links) place
bad_link names links place link within is unsound before =
    record {
      link = link_draft link;
      here = link_here links place link within is;
      bad = test_here names links place link false unsound;
      before = before;
    }

pub all_links : (names : List (List ℕ)) (links : List LinkDraft) (place : ℕ) → length links ≤ place
    → AreSoundUpTo names (map link_draft links) place → AreSoundLinks names (map link_draft links)
all_links names links place over sound =
    λ at below. sound at (let here : at < length links = rw length-map at below in omega arith)

-- ---- few hosts have few links

abbrev Ends : Type 0
Ends = List ℕ × List ℕ

abbrev ends : LinkDraftShape → Ends
ends link = (link.from, link.to)

abbrev same_ends : Ends → Ends → Bool
same_ends first second = bytes_eq first.0 second.0 && bytes_eq first.1 second.1

same_is : (first second : Ends) → same_ends first second ≡ true → first ≡ second
same_is first second same =
    let parts = and_parts (bytes_eq first.0 second.0) (bytes_eq first.1 second.1) same in
    let one : first.0 ≡ second.0 = (bytes_eq-Decides first.0 second.0).0 parts.0 in
    let two : first.1 ≡ second.1 = (bytes_eq-Decides first.1 second.1).0 parts.1 in
    ap (λ from. (from, first.1)) one ∙ ap (λ to. (second.0, to)) two

same_ends_laws : IsEquivalence same_ends
same_ends_laws = record {
  refl = λ x. and_from _ _ (bytes_eq_laws.refl x.0) (bytes_eq_laws.refl x.1);
  symm = λ x y. ap (λ b. b && bytes_eq x.1 y.1) (bytes_eq_laws.symm x.0 y.0)
      ∙ ap (λ b. bytes_eq y.0 x.0 && b) (bytes_eq_laws.symm x.1 y.1);
  congr = λ x y z is. ap (λ w. same_ends w z) (same_is x y is);
}

-- each of the first names with each of the second
abbrev each_with : List ℕ → List (List ℕ) → List Ends
each_with from names = map (λ to. (from, to)) names

abbrev pairings : List (List ℕ) → List (List ℕ) → List Ends
pairings [] names = []
pairings (from ∷ rest) names = each_with from names ++ pairings rest names

length_pairings : (first second : List (List ℕ)) → length (pairings first second) ≡ length first * length second
length_pairings [] second = let none : 0 ≡ 0 * length second = omega arith in none
length_pairings (from ∷ rest) second =
    length-append (each_with from second) (pairings rest second)
    ∙ ap (λ n. n + length (pairings rest second)) (length-map _ _)
    ∙ ap (λ n. length second + n) (length_pairings rest second) ∙ omega arith

any_append : {X : Type 0} (test : X → Bool) (xs ys : List X) → (list_any test xs ≡ true) ⊎ (list_any test ys ≡ true)
    → list_any test (xs ++ ys) ≡ true
any_append test [] ys (inl absent) = absurd (false≢true absent)
any_append test [] ys (inr there) = there
any_append test (x ∷ xs) ys either =
    elim (cases_Bool (test x)) [
      | inl here ↦ rw here refl
      | inr not_here ↦ rw not_here
          (any_append test xs ys (elim either [ inl first ↦ inl (rw not_here at first) | inr second ↦ inr second ]))
    ]

with_each : (from to : List ℕ) (other : List ℕ) (names : List (List ℕ)) → bytes_eq from other ≡ true
    → list_any (bytes_eq to) names ≡ true → list_any (same_ends (from, to)) (each_with other names) ≡ true
with_each from to other [] same known = absurd (false≢true known)
with_each from to other (name ∷ names) same known =
    elim (cases_Bool (bytes_eq to name)) [
      | inl here ↦ rw (same, here) refl
      | inr not_here ↦ rw (same, not_here) (with_each from to other names same (rw not_here at known))
    ]

among_pairings : (from to : List ℕ) (first second : List (List ℕ)) → list_any (bytes_eq from) first ≡ true
    → list_any (bytes_eq to) second ≡ true → list_any (same_ends (from, to)) (pairings first second) ≡ true
among_pairings from to [] second known also = absurd (false≢true known)
among_pairings from to (name ∷ rest) second known also =
    elim (cases_Bool (bytes_eq from name)) [
      | inl here ↦ any_append _ (each_with name second) (pairings rest second)
          (inl (with_each from to name second here also))
      | inr not_here ↦ any_append _ (each_with name second) (pairings rest second)
          (inr (among_pairings from to rest second (rw not_here at known) also))
    ]

-- what a sound link is
record Sound (names : List (List ℕ)) (earlier : List LinkDraftShape) (link : LinkDraftShape) : Type 0 where
  from : list_any (bytes_eq link.from) names ≡ true
  to : list_any (bytes_eq link.to) names ≡ true
  cost : is_cost link.cost ≡ true
  new : list_any (have_same_ends link) earlier ≡ false

not_true : (b : Bool) → not b ≡ true → b ≡ false
not_true true is = sym is
not_true false is = refl

sound_is : (names : List (List ℕ)) (earlier : List LinkDraftShape) (link : LinkDraftShape)
    → is_sound_link names earlier link ≡ true → Sound names earlier link
sound_is names earlier link sound =
    let outer = and_parts (has_sound_ends names link && is_cost link.cost)
    (not (list_any (have_same_ends link) earlier)) sound in
    let inner = and_parts (has_sound_ends names link) (is_cost link.cost) outer.0 in
    let known = and_parts (not (bytes_eq link.from link.to) && list_any (bytes_eq link.from) names)
    (list_any (bytes_eq link.to) names) inner.0 in
    let both = and_parts (not (bytes_eq link.from link.to)) (list_any (bytes_eq link.from) names) known.0 in
    record { from = both.1; to = known.1; cost = inner.1; new = not_true _ outer.1 }

link_at : (names : List (List ℕ)) (links : List LinkDraftShape) (count place : ℕ) (d : LinkDraftShape)
    → AreSoundUpTo names links count → place < count → place < length links
    → Sound names (take place links) (get_or links place d)
link_at names links count place d sound below within =
    sound_is names (take place links) (get_or links place d)
    (sound place below (get_or links place d) (slice_get-get_or links place d within))

distinct_ends : (names : List (List ℕ)) (links : List LinkDraftShape) (count : ℕ) (d : LinkDraftShape)
    → AreSoundUpTo names links count → count ≤ length links → IsDistinct same_ends (map ends (take count links))
unfolding IsDistinct
distinct_ends names links zero d sound within = tt
distinct_ends names links (suc count) d sound within =
    let P : List Ends → Type 0 = λ xs. IsDistinct same_ends xs in
    let link = get_or links count d in
    let is = link_at names links (suc count) count d sound (omega arith) (omega arith) in
    let cut : map ends (take count links) ++ ends link ∷ [] ≡ map ends (take (suc count) links) =
    sym (rw (take-suc links count d (omega arith), map-append) refl) in
    let new : list_any (same_ends (ends link)) (map ends (take count links)) ≡ false =
    any_of_map (same_ends (ends link)) ends (take count links) ∙ is.new in
    subst P cut (IsDistinct-push same_ends_laws (map ends (take count links)) (ends link)
    (distinct_ends names links count d (λ place below. sound place (omega arith)) (omega arith)) new)

ends_are_known : (names : List (List ℕ)) (links : List LinkDraftShape) (count : ℕ) → AreSoundUpTo names links count
    → count ≤ length links → (q : Ends)
    → list_any (same_ends q) (map ends (take count links)) ≡ true → list_any (same_ends q) (pairings names names) ≡ true
ends_are_known names links count sound within q among =
    let found = Any-from_list_any (same_ends q) (map ends (take count links)) among in
    let place = found.0 in
    let below : place < count = (let inside : place < length (map ends (take count links)) = found.2 in
    let long : length (map ends (take count links)) ≡ count = length-map _ _ ∙ length-take-le count links within in
    omega arith) in
    let d : LinkDraftShape = record { from = []; to = []; cost = pos 0 } in
    let inside : place < length (take count links) = rw (length-take-le count links within) below in
    let is = link_at names links count place d sound below (omega arith) in
    let same : found.1 ≡ ends (get_or links place d) =
    sym found.3 ∙ get_or-map ends (take count links) place d found.1 inside
    ∙ ap ends (get_or-take count links place d below) in
    let q_is : q ≡ ends (get_or links place d) = same_is q found.1 found.4 ∙ same in
    rw q_is (among_pairings (get_or links place d).from (get_or links place d).to names names is.from is.to)

-- so many links can be sound
pub few_links : (names : List (List ℕ)) (links : List LinkDraftShape) (count : ℕ) → AreSoundUpTo names links count
    → count ≤ length links → count ≤ length names * length names
few_links names links count sound within =
    let d : LinkDraftShape = record { from = []; to = []; cost = pos 0 } in
    let most = length-le_from_is_member same_ends_laws (map ends (take count links)) (pairings names names)
    (distinct_ends names links count d sound within) (ends_are_known names links count sound within) in
    let long : length (map ends (take count links)) ≡ count = length-map _ _ ∙ length-take-le count links within in
    rw (← length_pairings names names) (rw long at most)

-- what holds of the link at each place
all_of_links : (links : List LinkDraftShape)
    → ((place : ℕ) (link : LinkDraftShape) → slice_get links place ≡ Some link → is_cost link.cost ≡ true)
    → AllByRecursion (λ link. IsTrue (is_cost link.cost)) links
all_of_links [] each = tt
all_of_links (link ∷ links) each =
    (each zero link refl, all_of_links links (λ place other here. each (suc place) other here))

-- costs of sound links
pub sound_costs : (names : List (List ℕ)) (links : List LinkDraftShape) → AreSoundLinks names links
    → AllByRecursion (λ link. IsTrue (is_cost link.cost)) links
sound_costs names links sound = all_of_links links (λ place link here.
    (sound_is names (take place links) link (sound place (slice_get_within links place link here) link here)).cost)

pub costs_as_read : (links : List LinkDraft)
    → AllByRecursion (λ link. IsTrue (is_cost link.cost)) (map link_draft links)
    → AllByRecursion (λ link. IsTrue (is_cost link.cost)) links
costs_as_read [] all = tt
costs_as_read (link ∷ links) all = (all.0, costs_as_read links all.1)
