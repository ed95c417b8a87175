-- A search along the methods of a program.
use Rattle.std.proofs.Common.{◌≡◌, ℕ, ◌<◌, ◌+◌, List, [], ◌∷◌, length, map, get_or, refl, sym, ap, ◌∙◌, subst}
use Rattle.std.specs.Prelude.{All, Option, Some, None, unwrap_or, slice_get}
use Rattle.std.specs.Option.{option_map}
use Rattle.std.proofs.lemmas.List.{length-map, get_or-map}
use Rattle.std.proofs.lemmas.Option.{slice_get-map, slice_get-get_or}
use Rattle.js_base.specs.declared.ids.PrincipalId.{PrincipalId}
use Rattle.js_base.specs.declared.ids.VarId.{VarId}
use Rattle.principals.specs.ActsFor.{Declared, AreDeclared}
use Rattle.jif_tree.specs.declared.program.Method.{Method}
use Rattle.jif_tree.specs.Trees.{BlockTree, done, MethodTree, ProgramTree, program_tree, method_tree}
use Rattle.jif_tree.specs.LabelRules.{setting_of, declared_labels}
use Rattle.label_reasons.specs.declared.reason.Trait.{Trait}
use Rattle.label_reasons.specs.declared.reason.Cause.{Cause}
use Rattle.label_reasons.specs.declared.search_place.Place.{Place}
use Rattle.label_reasons.specs.declared.search_place.Known.{Known}
use Rattle.label_reasons.specs.declared.search_place.Found.{Found}
use Rattle.label_reasons.specs.Causes.{begin_cause, causes_after, declared_causes}
use Rattle.label_reasons.specs.Asks.{Ask, StatementSpot, spot_after, block_asks, method_spot, methods_asks}
use Rattle.label_reasons.specs.Asks.{program_asks}
use Rattle.label_reasons.specs.Reasons.{first_refused}
use Rattle.label_reasons.specs.Search.{listed_cause, AreCausesKnown, ShowsAsk, ShowsIfAny, Walks, WalksMethod}
use Rattle.label_reasons.specs.Search.{authority_of, IsFirstRefused}
use Rattle.label_reasons.proofs.Searching.{or_later, first_in_two}
use Rattle.label_reasons.proofs.Walking.{found_in}

-- ---- a method

pub method_walks : (place : Place) (of_pc : Option Cause) (number : ℕ) (old new : Known) (found : Option Found)
    (body : BlockTree) → of_pc ≡ begin_cause place.held (record { 0 = number }) place.method.now.begin →
    body ≡ (method_tree place.method.now).body →
    Walks place (record { pc = place.method.now.begin; of_pc = of_pc }) old None body new found done →
    WalksMethod place.principals.now (program_tree place.program.now) place.held number (method_tree place.method.now)
    old new found
method_walks place of_pc number old new found body is same walks =
    let begin = place.method.now.begin in
    let cause : Option Cause = begin_cause place.held (record { 0 = number }) begin in
    let tree : BlockTree = (method_tree place.method.now).body in
    let P : Option Cause → Type 0 = λ one. Walks place (record { pc = begin; of_pc = one }) old None body new found done
    in
    let Q : BlockTree → Type 0 = λ one. Walks place (record { pc = begin; of_pc = cause }) old None one new found done
    in
    let all : Q tree = subst Q same (subst P is walks) in
    record {
      labels = all.labels;
      causes = all.causes;
      long = all.long;
      found = λ causes seen. found_in place (record { pc = begin; of_pc = cause }) old new None found tree all
          (λ trait. begin_cause trait (record { 0 = number }) begin) causes (record {
            of_pc_is = refl;
            causes_are = seen;
          });
    }

-- ---- from method to method

-- What is left is looked at from here, and nothing before it is refused.
pub record Reaches (principals : Declared) (program : ProgramTree) (held : Trait) (place : ℕ) (known : Known)
    (methods : List MethodTree) : Type 0 where
  pub causes : Trait → VarId → Option Cause
  pub seen : causes held ≡ listed_cause known.causes.items
  pub long : AreCausesKnown known
  pub left : first_refused principals (program_asks principals program)
      ≡ first_refused principals (methods_asks principals program place known.labels.items causes methods)

pub starts : (principals : Declared) (program : ProgramTree) (held : Trait) (known : Known) →
    known.labels.items ≡ declared_labels program →
    ((x : VarId) → listed_cause known.causes.items x ≡ declared_causes held (declared_labels program) x) →
    AreCausesKnown known → Reaches principals program held 0 known program.methods
starts principals program held known labels causes is =
    let declared : Trait → VarId → Option Cause = λ trait. declared_causes trait (declared_labels program) in
    let same : listed_cause known.causes.items ≡ declared held = λ t x. causes x t in
    record {
      causes = declared;
      seen = sym same;
      long = is;
      left = ap (λ list. first_refused principals (methods_asks principals program 0 list declared program.methods))
          (sym labels);
    }

none_shown : (held : Trait) (authority : List PrincipalId) (first : Option Ask) →
    ShowsIfAny held authority first None → first ≡ None
none_shown held authority None shows = refl
none_shown held authority (Some ask) shows = absurd shows

some_shown : (held : Trait) (authority : List PrincipalId) (first : Option Ask) (found : Found) →
    ShowsIfAny held authority first (Some found) → (ask : Ask) × (first ≡ Some ask) × ShowsAsk held authority ask found
some_shown held authority None found shows = absurd shows
some_shown held authority (Some ask) found shows = (ask, refl, shows)

pub goes_on : (principals : Declared) (program : ProgramTree) (held : Trait) (place : ℕ) (old new : Known)
    (method : MethodTree) (rest : List MethodTree) → Reaches principals program held place old (method ∷ rest) →
    WalksMethod principals program held place method old new None → Reaches principals program held (place + 1) new rest
goes_on principals program held place old new method rest reached walks =
    let spot : StatementSpot = method_spot principals program place old.labels.items reached.causes method in
    let after : StatementSpot = spot_after spot method.body in
    let asks : List Ask = block_asks spot method.body in
    let later : List Ask = methods_asks principals program (place + 1) after.labels after.causes rest in
    let none = none_shown held method.authority (first_refused principals asks)
    (walks.found reached.causes reached.seen)
    in
    record {
      causes = after.causes;
      seen = ap (λ list. causes_after held (setting_of principals program method) method.begin
          (begin_cause held (record { 0 = place }) method.begin) old.labels.items list method.body) reached.seen
          ∙ walks.causes;
      long = walks.long;
      left = reached.left ∙ first_in_two principals asks later
          ∙ ap (λ first. or_later first (first_refused principals later)) none
          ∙ ap (λ labels. first_refused principals
          (methods_asks principals program (place + 1) labels after.causes rest))
          walks.labels;
    }

pub is_found : (principals : Declared) (program : ProgramTree) (held : Trait) (place : ℕ) (old new : Known)
    (method : MethodTree) (rest : List MethodTree) (found : Found) →
    Reaches principals program held place old (method ∷ rest) →
    WalksMethod principals program held place method old new (Some found) →
    authority_of program place ≡ method.authority →
    (ask : Ask) × IsFirstRefused principals program ask × ShowsAsk held (authority_of program place) ask found
is_found principals program held place old new method rest found reached walks same =
    let spot : StatementSpot = method_spot principals program place old.labels.items reached.causes method in
    let after : StatementSpot = spot_after spot method.body in
    let asks : List Ask = block_asks spot method.body in
    let later : List Ask = methods_asks principals program (place + 1) after.labels after.causes rest in
    let some = some_shown held method.authority (first_refused principals asks) found
    (walks.found reached.causes reached.seen) in
    let P : List PrincipalId → Type 0 = λ authority. ShowsAsk held authority some.0 found in (
      some.0,
      reached.left ∙ first_in_two principals asks later
          ∙ ap (λ first. or_later first (first_refused principals later)) some.1,
      subst P (sym same) some.2,
    )

-- ---- methods at places

pub authority_there : (program : ProgramTree) (methods : List Method) (place : ℕ) (method : Method) →
    program.methods ≡ map method_tree methods → place < length methods → method ≡ get_or methods place method →
    authority_of program place ≡ method.authority.items
authority_there program methods place method same within is =
    let there : slice_get methods place ≡ Some method = slice_get-get_or methods place method within
    ∙ ap Some (sym is) in
    let found : slice_get program.methods place ≡ Some (method_tree method) =
    ap (λ list. slice_get list place) same ∙ slice_get-map method_tree methods place
    ∙ ap (option_map method_tree) there in
    ap (λ (one : Option MethodTree). unwrap_or (option_map (λ tree. tree.authority) one) []) found

pub declared_there : (principals : Declared) (methods : List Method) (place : ℕ) (method : Method) →
    All (λ tree. AreDeclared principals tree.authority) (map method_tree methods) → place < length methods →
    method ≡ get_or methods place method → AreDeclared principals method.authority.items
declared_there principals methods place method all within is =
    subst (λ (tree : MethodTree). AreDeclared principals tree.authority)
    (get_or-map method_tree methods place method (method_tree method) within ∙ ap method_tree (sym is))
    (all place (method_tree method) (rw length-map within))
