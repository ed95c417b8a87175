-- The first of its kind is one: the first host without a label, the first bad link, the first bad key.
use Rattle.std.proofs.Common.{◌≡◌, ℕ, zero, suc, ◌<◌, List, [], ◌∷◌, take, length}
use Rattle.std.proofs.Common.{Some, slice_get, inl, inr, sym, subst, ap, ◌∙◌, arith}
use Rattle.std.proofs.lemmas.Bool.{cases_order, false≢true}
use Rattle.std.proofs.lemmas.Option.{slice_get_within}
use Rattle.std.specs.List.{AllByRecursion}
use Rattle.principals.specs.ActsFor.{Declared}
use Rattle.toml.specs.Data.{Members}
use Rattle.host_decl.specs.declared.schema.TableKind.{TableKind}
use Rattle.host_decl.specs.Draft.{HostDraftShape, LinkDraftShape}
use Rattle.host_decl.specs.Meaning.{HasLabel, IsFirstWithoutLabel, AreSoundUpTo, AreSoundLinks, IsFirstBadLink}
use Rattle.host_decl.specs.Schema.{IsBadKey, IsLeast, IsFirstBadKey, IsSoundAs}
use Rattle.host_decl.proofs.Least.{not_after_both}

-- two places of which neither is before the other
same_place : (first second : ℕ) → ¬ (first < second) → ¬ (second < first) → first ≡ second
same_place first second not_before not_after =
    elim (cases_order first second) [
      | inl same ↦ same
      | inr apart ↦ elim apart [ inl before ↦ absurd (not_before before) | inr after ↦ absurd (not_after after) ]
    ]

-- what stands at a place is one
same_here : {A : Type 0} (xs : List A) (place other : ℕ) (x y : A) → place ≡ other → slice_get xs place ≡ Some x
    → slice_get xs other ≡ Some y → x ≡ y
same_here xs place other x y same one two =
    let both : Some x ≡ Some y = sym one ∙ ap (slice_get xs) same ∙ two in cc

-- what holds of all in front of a place
of_front : {A : Type 0} (P : A → Type 0) (xs : List A) (count place : ℕ) (x : A) → AllByRecursion P (take count xs)
    → place < count → slice_get xs place ≡ Some x → P x
of_front P [] count place x all below here = absurd (let within = slice_get_within [] place x here in omega arith)
of_front P (y ∷ ys) zero place x all below here = absurd (omega arith)
of_front P (y ∷ ys) (suc count) zero x all below here =
    let both : Some y ≡ Some x = here in let same : y ≡ x = cc in subst P same all.0
of_front P (y ∷ ys) (suc count) (suc place) x all below here = of_front P ys count place x all.1 (omega arith) here

of_all : {A : Type 0} (P : A → Type 0) (xs : List A) (place : ℕ) (x : A) → AllByRecursion P xs
    → slice_get xs place ≡ Some x → P x
of_all P [] place x all here = absurd (let within = slice_get_within [] place x here in omega arith)
of_all P (y ∷ ys) zero x all here =
    let both : Some y ≡ Some x = here in let same : y ≡ x = cc in subst P same all.0
of_all P (y ∷ ys) (suc place) x all here = of_all P ys place x all.1 here

-- ---- hosts without a label

pub without_label_once : (principals : Declared) (hosts : List HostDraftShape) (first second : ℕ) (name other : List ℕ)
    → IsFirstWithoutLabel principals hosts first name → IsFirstWithoutLabel principals hosts second other
    → (first ≡ second) × (name ≡ other)
without_label_once principals hosts first second name other one two =
    let P : HostDraftShape → Type 0 = HasLabel principals in
    let same = same_place first second
    (λ before. one.without (of_front P hosts second first one.host two.before before one.here))
    (λ after. two.without (of_front P hosts first second two.host one.before after two.here)) in
    let host : one.host ≡ two.host = same_here hosts first second one.host two.host same one.here two.here in
    (same, sym one.named ∙ ap (λ found. found.name) host ∙ two.named)

pub all_labels_or_without : (principals : Declared) (hosts : List HostDraftShape) (place : ℕ) (name : List ℕ)
    → AllByRecursion (HasLabel principals) hosts → ¬ IsFirstWithoutLabel principals hosts place name
all_labels_or_without principals hosts place name all = λ first.
    first.without (of_all (HasLabel principals) hosts place first.host all first.here)

-- ---- bad links

bad_or_sound : (names : List (List ℕ)) (links : List LinkDraftShape) (count place : ℕ) → AreSoundUpTo names links count
    → place < count → ¬ IsFirstBadLink names links place
bad_or_sound names links count place sound below = λ first.
    false≢true (sym first.bad ∙ sound place below first.link first.here)

pub bad_link_once : (names : List (List ℕ)) (links : List LinkDraftShape) (first second : ℕ)
    → IsFirstBadLink names links first → IsFirstBadLink names links second → first ≡ second
bad_link_once names links first second one two = same_place first second
    (λ before. bad_or_sound names links second first two.before before one)
    (λ after. bad_or_sound names links first second one.before after two)

pub sound_links_or_bad : (names : List (List ℕ)) (links : List LinkDraftShape) (place : ℕ) → AreSoundLinks names links
    → ¬ IsFirstBadLink names links place
sound_links_or_bad names links place sound = λ first.
    bad_or_sound names links (length links) place sound (slice_get_within links place first.link first.here) first

-- ---- bad keys

least_once : (P : List ℕ → Type 0) (first second : List ℕ) → IsLeast P first → IsLeast P second → first ≡ second
least_once P first second one two = not_after_both first second (one.least second two.holds) (two.least first one.holds)

pub bad_key_once : (tables : List (TableKind × Members)) (first second : List ℕ) → IsFirstBadKey tables first
    → IsFirstBadKey tables second → first ≡ second
bad_key_once [] first second one two = absurd one
bad_key_once (next ∷ rest) first second (inl one) (inl two) = least_once (IsBadKey next.0 next.1) first second one two
bad_key_once (next ∷ rest) first second (inl one) (inr later) = absurd (later.0 first one.holds)
bad_key_once (next ∷ rest) first second (inr later) (inl two) = absurd (later.0 second two.holds)
bad_key_once (next ∷ rest) first second (inr one) (inr two) = bad_key_once rest first second one.1 two.1

pub sound_keys_or_bad : (tables : List (TableKind × Members)) (key : List ℕ) → AllByRecursion IsSoundAs tables
    → ¬ IsFirstBadKey tables key
sound_keys_or_bad [] key all = λ bad. bad
sound_keys_or_bad (next ∷ rest) key all = λ bad.
    elim bad [ inl here ↦ all.0 key here.holds | inr later ↦ sound_keys_or_bad rest key all.1 later.1 ]
