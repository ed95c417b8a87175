-- The reasons that were found are those that are told.
use Rattle.std.proofs.Common.{◌≡◌, ℕ, ◌<◌, ◌+◌, List, [], ◌∷◌, ◌++◌, length, take, get_or, sym, ap, ◌∙◌, subst}
use Rattle.std.specs.Prelude.{All, Bool, Option, Some, None, unwrap_or}
use Rattle.std.specs.List.{filter_map, cons_option}
use Rattle.std.specs.Option.{option_map}
use Rattle.std.proofs.lemmas.List.{take_more}
use Rattle.std.proofs.lemmas.List.Elements.{filter_map-append}
use Rattle.js_base.specs.declared.ids.StmtId.{StmtId}
use Rattle.principals.specs.ActsFor.{Declared, IsDeclared}
use Rattle.jif_tree.specs.Trees.{ProgramTree}
use Rattle.label_reasons.specs.declared.reason.Trait.{Trait}
use Rattle.label_reasons.specs.declared.reason.Trait.TheVariants.{Keeps, Distrusts}
use Rattle.label_reasons.specs.declared.reason.Cause.{Cause}
use Rattle.label_reasons.specs.declared.reason.Reason.{Reason}
use Rattle.label_reasons.specs.declared.reason.Wanted.{Wanted}
use Rattle.label_reasons.specs.declared.search_place.Located.{Located}
use Rattle.label_reasons.specs.Traits.{IsTrait, IsDeclaredTrait}
use Rattle.label_reasons.specs.Asks.{Ask}
use Rattle.label_reasons.specs.Listed.{listed}
use Rattle.label_reasons.specs.Reasons.{fails_in, constraint_of, listed_in, reason_of, label_reasons}
use Rattle.label_reasons.specs.Reasons.{Explained, explained}
use Rattle.label_reasons.specs.Search.{ShowsIfAny, Locates, authority_of, found_cause, IsFirstRefused}
use Rattle.label_reasons.proofs.Failing.{listed_within}

-- ---- one reason

pub reason_is : (principals : Declared) (program : ProgramTree) (held : Trait) (located : Option Located) (ask : Ask) →
    Locates principals program held located → IsFirstRefused principals program ask →
    reason_of (λ _. found_cause located) held ≡ reason_of ask.cause held
reason_is principals program held None ask locates first =
    let P : Option Ask → Type 0 = λ one. ShowsIfAny held [] one None in
    absurd (subst P (sym locates ∙ first) tt)
reason_is principals program held (Some located) ask locates first =
    let same : locates.0 ≡ ask = ap (λ (one : Option Ask). unwrap_or one ask) (sym locates.1 ∙ first) in
    ap (λ (cause : Option Cause). reason_of (λ _. cause) held)
    (locates.2.cause ∙ ap (λ (one : Ask). one.cause held) same)

-- ---- reasons so far

pub reasons_more : (reason : Trait → Option Reason) (traits : List Trait) (place : ℕ) (d : Trait)
    (old new : List Reason) → place < length traits → old ≡ filter_map reason (take place traits) →
    new ≡ old ++ cons_option (reason (get_or traits place d)) [] → new ≡ filter_map reason (take (place + 1) traits)
reasons_more reason traits place d old new within so_far is =
    is ∙ ap (λ xs. xs ++ cons_option (reason (get_or traits place d)) []) so_far
    ∙ sym (filter_map-append reason (take place traits) (get_or traits place d ∷ []))
    ∙ ap (filter_map reason) (sym (take_more traits place d within))

-- ---- what is listed

is_trait : (principals : Declared) (trait : Trait) → IsDeclaredTrait principals trait → IsTrait trait
is_trait principals (Keeps owner reader) is = is
is_trait principals (Distrusts principal) is = is.0

pub listed_traits : (principals : Declared) → IsDeclared principals → (test : Trait → Bool) →
    All IsTrait (listed principals test)
listed_traits principals declared test k d within =
    is_trait principals (get_or (listed principals test) k d) (listed_within principals declared test k d within)

-- ---- what is told

pub is_told : (principals : Declared) (program : ProgramTree) (held : Trait) (located : Located) (traits : List Trait)
    (reasons : List Reason) → Locates principals program held (Some located) →
    traits ≡ listed principals (fails_in principals (constraint_of (authority_of program located.method)
    located.found.demand)) →
    ((ask : Ask) → IsFirstRefused principals program ask → reasons ≡ filter_map (reason_of ask.cause) traits) →
    Some (located.found.statement, located.found.wanted, reasons) ≡ explained principals program
is_told principals program held located traits reasons locates listed_are reasons_are =
    let ask : Ask = locates.0 in
    let told : StmtId → Wanted → List Reason → Explained = λ statement wanted list. Some (statement, wanted, list) in
    let same : traits ≡ listed_in principals ask = listed_are ∙ ap (λ one. listed principals (fails_in principals one))
    locates.2.constraint in
    let list : reasons ≡ label_reasons principals ask = reasons_are ask locates.1
    ∙ ap (filter_map (reason_of ask.cause)) same in
    ap (λ statement. told statement located.found.wanted reasons) locates.2.statement
    ∙ ap (λ wanted. told ask.statement wanted reasons) locates.2.wanted ∙ ap (told ask.statement ask.wanted) list
    ∙ sym (ap (option_map (λ (one : Ask). (one.statement, one.wanted, label_reasons principals one))) locates.1)
