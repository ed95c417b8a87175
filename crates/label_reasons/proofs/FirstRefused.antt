-- The first that has reasons is the first that fails.
use Rattle.std.proofs.Common.{◌≡◌, ◌≢◌, ◌==◌, Bool, true, List, [], ◌∷◌, ◌++◌, map, All, drop, filter_map}
use Rattle.std.proofs.Common.{inl, inr, refl, sym, ap, ◌∙◌, subst}
use Rattle.std.specs.Prelude.{Option, Some, None, unwrap_or}
use Rattle.std.proofs.lemmas.Bool.{cases_Bool, eq-eqb}
use Rattle.std.proofs.lemmas.List.Elements.{All-head, All-tail}
use Rattle.js_base.specs.declared.ids.StmtId.{StmtId}
use Rattle.principals.specs.ActsFor.{Declared, IsDeclared}
use Rattle.jif_tree.specs.LabelRules.{Obligation, Meets}
use Rattle.label_reasons.specs.declared.reason.Trait.{Trait}
use Rattle.label_reasons.specs.Asks.{Ask, obligation_of}
use Rattle.label_reasons.specs.Reasons.{listed_in, reason_of, label_reasons, refused_or, first_refused, asked_by}
use Rattle.label_reasons.proofs.TraitTests.{AreTrusted}
use Rattle.label_reasons.proofs.ActsTests.{ActsLaws}
use Rattle.label_reasons.proofs.ToldAsks.{IsAskOver}
use Rattle.label_reasons.proofs.Failing.{reasons_due, nothing_listed}
use Rattle.label_reasons.proofs.Listing.{cons_some}

abbrev head_or : {X : Type 0} → X → List X → X
head_or other [] = other
head_or other (x ∷ xs) = x

heads : {X : Type 0} (x y : X) (xs ys : List X) → x ∷ xs ≡ y ∷ ys → x ≡ y
heads {X} x y xs ys same = let f : List X → X = λ zs. head_or x zs in ap f same

refused_here : (ask : Ask) (traits : List Trait) (later : Option Ask) → traits ≢ [] →
    refused_or ask traits later ≡ Some ask
refused_here ask [] later some = absurd (some refl)
refused_here ask (trait ∷ traits) later some = refl

-- where there is a reason, something is listed
reasons_list : (principals : Declared) (ask : Ask) → label_reasons principals ask ≢ [] → listed_in principals ask ≢ []
reasons_list principals ask some none = some (ap (λ traits. filter_map (reason_of ask.cause) traits) none)

pub first_is : AreTrusted → (principals : Declared) → IsDeclared principals → ActsLaws principals →
    (asks : List Ask) (before behind : List Obligation) (failed : Obligation) → All (IsAskOver principals) asks →
    map obligation_of asks ≡ before ++ failed ∷ behind → All (Meets principals) before → ¬ Meets principals failed →
    (ask : Ask) × (first_refused principals asks ≡ Some ask) × (obligation_of ask ≡ failed)
    × (label_reasons principals ask ≢ [])
first_is tells principals declared laws [] [] behind failed all same met fails = absurd (cons_some _ _ (sym same))
first_is tells principals declared laws [] (one ∷ before) behind failed all same met fails =
    absurd (cons_some _ _ (sym same))
first_is tells principals declared laws (ask ∷ asks) [] behind failed all same met fails =
    let alike : obligation_of ask ≡ failed = heads _ _ _ _ same in
    let P : Obligation → Type 0 = λ one. ¬ Meets principals one in
    let known = All-head (IsAskOver principals) ask asks all in
    let due = reasons_due tells principals declared laws ask known.over known.told (subst P (sym alike) fails) in (
      ask,
      refused_here ask (listed_in principals ask) (first_refused principals asks)
          (reasons_list principals ask due),
      alike,
      due,
    )
first_is tells principals declared laws (ask ∷ asks) (one ∷ before) behind failed all same met fails =
    let alike : obligation_of ask ≡ one = heads _ _ _ _ same in
    let P : Obligation → Type 0 = λ each. Meets principals each in
    let none = nothing_listed tells principals declared laws ask
    (subst P (sym alike) (All-head (Meets principals) one before met)) in
    let rest : map obligation_of asks ≡ before ++ failed ∷ behind = ap (λ list. drop 1 list) same in
    rw none (first_is tells principals declared laws asks before behind failed
    (All-tail (IsAskOver principals) ask asks all) rest (All-tail (Meets principals) one before met) fails)

pub none_is : AreTrusted → (principals : Declared) → IsDeclared principals → ActsLaws principals → (asks : List Ask) →
    All (Meets principals) (map obligation_of asks) → first_refused principals asks ≡ None
none_is tells principals declared laws [] met = refl
none_is tells principals declared laws (ask ∷ asks) met =
    rw (nothing_listed tells principals declared laws ask
    (All-head (Meets principals) (obligation_of ask) (map obligation_of asks) met))
    (none_is tells principals declared laws asks
    (All-tail (Meets principals) (obligation_of ask) (map obligation_of asks) met))

-- It is also the first of those that its statement asks for.
pub first_asked : (principals : Declared) (here : StmtId) (asks : List Ask) (ask : Ask) →
    first_refused principals asks ≡ Some ask → ask.statement ≡ here →
    first_refused principals (asked_by here asks) ≡ Some ask
first_asked principals here [] ask is at = is
first_asked principals here (one ∷ asks) ask is at =
    by (λ later. first_asked principals here asks ask later at) (listed_in principals one) refl
  where
    kept : Ask → Bool
    kept other = other.statement.0 == here.0

    by : (first_refused principals asks ≡ Some ask → first_refused principals (asked_by here asks) ≡ Some ask) →
        (traits : List Trait) → listed_in principals one ≡ traits →
        first_refused principals (asked_by here (one ∷ asks)) ≡ Some ask
    by later [] none =
        let P : List Trait → Type 0 = λ list. refused_or one list (first_refused principals asks) ≡ Some ask in
        let rest = later (subst P none is) in
        elim (cases_Bool (one.statement.0 == here.0)) [ inl stays ↦ rw stays (rw none rest) | inr goes ↦ rw goes rest ]
    by later (trait ∷ traits) some =
        let P : List Trait → Type 0 = λ list. refused_or one list (first_refused principals asks) ≡ Some ask in
        let same : Some one ≡ Some ask = subst P some is in
        let alike : one ≡ ask = ap (λ found. unwrap_or found one) same in
        let stays : (one.statement.0 == here.0) ≡ true =
        eq-eqb one.statement.0 here.0 (ap (λ each. each.statement.0) alike ∙ ap (λ place. place.0) at) in
        rw stays (rw some same)
