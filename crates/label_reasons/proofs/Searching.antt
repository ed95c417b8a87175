-- What is found in parts is found in the whole.
use Rattle.std.proofs.Common.{◌≡◌, inl, inr, Bool, true, false, List, [], ◌∷◌, ◌++◌, filter, refl, sym, ◌∙◌, subst}
use Rattle.std.proofs.Common.{cond}
use Rattle.std.specs.Prelude.{Option, Some, None}
use Rattle.std.specs.List.{list_any}
use Rattle.std.proofs.lemmas.Bool.{or_parts, or_cases, cases_Bool, true≢false}
use Rattle.js_base.specs.declared.ids.PrincipalId.{PrincipalId}
use Rattle.principals.specs.ActsFor.{Declared}
use Rattle.jif_tree.specs.LabelRules.{Constraint}
use Rattle.js_base.proofs.Lists.{none_in_two}
use Rattle.label_reasons.specs.declared.reason.Trait.{Trait}
use Rattle.label_reasons.specs.declared.search_place.Found.{Found}
use Rattle.label_reasons.specs.declared.search_place.Place.{Place}
use Rattle.label_reasons.specs.declared.search_place.Stand.{Stand}
use Rattle.label_reasons.specs.declared.search_place.Known.{Known}
use Rattle.label_reasons.specs.Listed.{all_pairs, all_distrusts}
use Rattle.label_reasons.specs.Asks.{Ask, StatementSpot}
use Rattle.label_reasons.specs.Reasons.{fails_in, constraint_of, listed_in, refused_or, first_refused}
use Rattle.label_reasons.specs.Search.{authority_at, spot_at, some_fails_in, ShowsAsk, ShowsIfAny, Finds, FindsAt}
use Rattle.label_reasons.proofs.Listing.{none_listed, cons_some}

-- ---- what is refused

none_passes : {X : Type 0} (test : X → Bool) (xs : List X) → list_any test xs ≡ false → filter test xs ≡ []
none_passes test [] none = refl
none_passes test (x ∷ xs) none =
    let parts = or_parts (test x) (list_any test xs) none in
    rw parts.0 (none_passes test xs parts.1)

some_passes : {X : Type 0} (test : X → Bool) (xs : List X) → filter test xs ≡ [] → list_any test xs ≡ false
some_passes test [] none = refl
some_passes test (x ∷ xs) none = elim (cases_Bool (test x)) [
  | inl passes ↦
      let P : Bool → Type 0 = λ b. cond b (x ∷ filter test xs) (filter test xs) ≡ [] in
      absurd (cons_some x (filter test xs) (subst P passes none))
  | inr fails ↦
      let P : Bool → Type 0 = λ b. cond b (x ∷ filter test xs) (filter test xs) ≡ [] in
      rw fails (some_passes test xs (subst P fails none))
]

passed_over : (principals : Declared) (ask : Ask) → some_fails_in principals ask.constraint ≡ false →
    first_refused principals (ask ∷ []) ≡ None
passed_over principals ask none =
    let test = fails_in principals ask.constraint in
    let parts = or_parts (list_any test (all_pairs principals)) (list_any test (all_distrusts principals)) none in
    rw (none_passes test (all_pairs principals) parts.0, none_passes test (all_distrusts principals) parts.1) refl

refused : (principals : Declared) (ask : Ask) → some_fails_in principals ask.constraint ≡ true →
    first_refused principals (ask ∷ []) ≡ Some ask
refused principals ask some = by (listed_in principals ask) refl
  where
    test : Trait → Bool
    test = fails_in principals ask.constraint

    by : (traits : List Trait) → listed_in principals ask ≡ traits → refused_or ask (listed_in principals ask) None
        ≡ Some ask
    by (trait ∷ traits) is = rw is refl
    by [] is =
        let none = none_in_two (filter test (all_pairs principals)) (filter test (all_distrusts principals))
        (none_listed principals test is) in
        absurd (elim (or_cases (list_any test (all_pairs principals)) (list_any test (all_distrusts principals)) some) [
          | inl here ↦ true≢false (sym here ∙ some_passes test (all_pairs principals) none.0)
          | inr here ↦ true≢false (sym here ∙ some_passes test (all_distrusts principals) none.1)
        ])

pub offered_some : (principals : Declared) (held : Trait) (authority : List PrincipalId) (ask : Ask) (asked : Found) →
    ShowsAsk held authority ask asked → some_fails_in principals (constraint_of authority asked.demand) ≡ true →
    Finds principals held authority (ask ∷ []) None (Some asked)
offered_some principals held authority ask asked shows some =
    let P : Constraint → Type 0 = λ one. some_fails_in principals one ≡ true in
    let Q : Option Ask → Type 0 = λ one. ShowsIfAny held authority one (Some asked) in
    subst Q (sym (refused principals ask (subst P shows.constraint some))) shows

pub offered_none : (principals : Declared) (held : Trait) (authority : List PrincipalId) (ask : Ask) (asked : Found) →
    ShowsAsk held authority ask asked → some_fails_in principals (constraint_of authority asked.demand) ≡ false →
    Finds principals held authority (ask ∷ []) None None
offered_none principals held authority ask asked shows none =
    let P : Constraint → Type 0 = λ one. some_fails_in principals one ≡ false in
    let Q : Option Ask → Type 0 = λ one. ShowsIfAny held authority one None in
    subst Q (sym (passed_over principals ask (subst P shows.constraint none))) tt

pub offered_before : (principals : Declared) (held : Trait) (authority : List PrincipalId) (asks : List Ask)
    (before : Option Found) (found : Found) → before ≡ Some found → Finds principals held authority asks before before
offered_before principals held authority asks before found is = rw is refl

-- ---- what is found in parts

abbrev pub or_later : Option Ask → Option Ask → Option Ask
or_later None later = later
or_later (Some ask) later = Some ask

pub first_in_two : (principals : Declared) (first second : List Ask) →
    first_refused principals (first ++ second)
    ≡ or_later (first_refused principals first) (first_refused principals second)
first_in_two principals [] second = refl
first_in_two principals (ask ∷ first) second =
    by (listed_in principals ask) (first_in_two principals first second)
  where
    by : (traits : List Trait) →
        first_refused principals (first ++ second)
        ≡ or_later (first_refused principals first) (first_refused principals second) →
        refused_or ask traits (first_refused principals (first ++ second))
        ≡ or_later (refused_or ask traits (first_refused principals first)) (first_refused principals second)
    by [] later = later
    by (trait ∷ traits) later = refl

-- of the first that is refused
shows_in_two : (held : Trait) (authority : List PrincipalId) (first second : Option Ask) (mid new : Option Found) →
    ShowsIfAny held authority first mid →
    ((found : Found) → mid ≡ Some found → new ≡ Some found) → (mid ≡ None → ShowsIfAny held authority second new) →
    ShowsIfAny held authority (or_later first second) new
shows_in_two held authority None second None new shows stays later = later refl
shows_in_two held authority None second (Some found) new shows stays later = absurd shows
shows_in_two held authority (Some ask) second None new shows stays later = absurd shows
shows_in_two held authority (Some ask) second (Some found) new shows stays later =
    let P : Option Found → Type 0 = λ one. ShowsIfAny held authority (Some ask) one in
    subst P (sym (stays found refl)) shows

pub finds_none : (principals : Declared) (held : Trait) (authority : List PrincipalId) (found : Option Found) →
    Finds principals held authority [] found found
finds_none principals held authority None = tt
finds_none principals held authority (Some found) = refl

pub finds_then : (principals : Declared) (held : Trait) (authority : List PrincipalId) (first second : List Ask)
    (old mid new : Option Found) → Finds principals held authority first old mid →
    Finds principals held authority second mid new → Finds principals held authority (first ++ second) old new
finds_then principals held authority first second (Some found) mid new is also =
    let P : Option Found → Type 0 = λ one. Finds principals held authority second one new in
    subst P is also
finds_then principals held authority first second None mid new is also =
    let P : Option Ask → Type 0 = λ one. ShowsIfAny held authority one new in
    subst P (sym (first_in_two principals first second))
    (shows_in_two held authority (first_refused principals first) (first_refused principals second) mid new is
    (λ found same. let Q : Option Found → Type 0 = λ one. Finds principals held authority second one new in
    subst Q same also)
    (λ same. let Q : Option Found → Type 0 = λ one. Finds principals held authority second one new in
    subst Q same also))

pub at_then : (place : Place) (stand : Stand) (known : Known) (first second : StatementSpot → List Ask)
    (old mid new : Option Found) → FindsAt place stand known first old mid → FindsAt place stand known second mid new →
    FindsAt place stand known (λ spot. first spot ++ second spot) old new
at_then place stand known first second old mid new is also of_pc causes sees =
    let spot : StatementSpot = spot_at place stand known of_pc causes in
    finds_then place.principals.now place.held (authority_at place) (first spot) (second spot) old mid new
    (is of_pc causes sees) (also of_pc causes sees)

pub finds_two : (place : Place) (first second : List Ask) (old mid new : Option Found) →
    Finds place.principals.now place.held (authority_at place) first old mid →
    Finds place.principals.now place.held (authority_at place) second mid new →
    Finds place.principals.now place.held (authority_at place) (first ++ second) old new
finds_two place first second old mid new is also =
    finds_then place.principals.now place.held (authority_at place) first second old mid new is also
