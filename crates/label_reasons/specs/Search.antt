-- What a search for the refused statement finds, step by step.
use Rattle.std.specs.Prelude.{◌≡◌, ◌||◌, ℕ, Bool, List, [], Option, Some, None, unwrap_or, slice_get, length, ⊤}
use Rattle.std.specs.List.{list_any}
use Rattle.std.specs.Option.{option_map}
use Rattle.js_base.specs.declared.ids.StmtId.{StmtId}
use Rattle.js_base.specs.declared.ids.VarId.{VarId}
use Rattle.js_base.specs.declared.ids.PrincipalId.{PrincipalId}
use Rattle.principals.specs.ActsFor.{Declared, AreDeclared}
use Rattle.label_lattice.specs.declared.label.Label.{Label}
use Rattle.jif_tree.specs.Trees.{ExprTree, BlockTree, MethodTree, ProgramTree, program_tree, method_tree}
use Rattle.jif_tree.specs.LabelRules.{Constraint, MethodSetting, setting_of, expr_label, guarded, labels_after}
use Rattle.label_reasons.specs.declared.reason.Trait.{Trait}
use Rattle.label_reasons.specs.declared.reason.Cause.{Cause}
use Rattle.label_reasons.specs.declared.search_place.Place.{Place}
use Rattle.label_reasons.specs.declared.search_place.Stand.{Stand}
use Rattle.label_reasons.specs.declared.search_place.Known.{Known}
use Rattle.label_reasons.specs.declared.search_place.Found.{Found}
use Rattle.label_reasons.specs.declared.search_place.Located.{Located}
use Rattle.label_reasons.specs.declared.refusal.Refusal.{Refusal}
use Rattle.label_reasons.specs.Traits.{IsTrait}
use Rattle.label_reasons.specs.Causes.{expr_cause, guarded_cause, causes_after, begin_cause}
use Rattle.label_reasons.specs.Listed.{all_pairs, all_distrusts}
use Rattle.label_reasons.specs.Asks.{StatementSpot, Ask, block_asks, method_spot, program_asks}
use Rattle.label_reasons.specs.Reasons.{fails_in, constraint_of, first_refused, Explained}

-- the cause of a variable in a list of causes
abbrev pub listed_cause : List (Option Cause) → VarId → Option Cause
listed_cause causes x = unwrap_or (slice_get causes x.0) None

-- what every place of its method has in common
abbrev pub setting_at : Place → MethodSetting
setting_at place = setting_of place.principals.now (program_tree place.program.now) (method_tree place.method.now)

abbrev pub authority_at : Place → List PrincipalId
authority_at place = place.method.now.authority.items

-- what is looked for may be held, and all that may be listed is at hand
pub record IsSearchPlace (place : Place) : Type 0 where
  pub held : IsTrait place.held
  pub authority : AreDeclared place.principals.now (authority_at place)
  pub pairs : place.pairs.now ≡ all_pairs place.principals.now
  pub distrusts : place.distrusts.now ≡ all_distrusts place.principals.now

-- whether something fails of a constraint
abbrev pub some_fails_in : Declared → Constraint → Bool
some_fails_in principals constraint =
    list_any (fails_in principals constraint) (all_pairs principals)
    || list_any (fails_in principals constraint) (all_distrusts principals)

-- ---- what is found

-- it shows what is asked for, by this authority, and what brings the trait in
pub record ShowsAsk (held : Trait) (authority : List PrincipalId) (ask : Ask) (found : Found) : Type 0 where
  pub statement : found.statement ≡ ask.statement
  pub wanted : found.wanted ≡ ask.wanted
  pub constraint : constraint_of authority found.demand ≡ ask.constraint
  pub cause : found.cause ≡ ask.cause held

abbrev pub ShowsIfAny : Trait → List PrincipalId → Option Ask → Option Found → Type 0
ShowsIfAny held authority None None = ⊤
ShowsIfAny held authority None (Some found) = ⊥
ShowsIfAny held authority (Some ask) None = ⊥
ShowsIfAny held authority (Some ask) (Some found) = ShowsAsk held authority ask found

-- What was found stays. Where nothing was, the first of these that is refused is found.
abbrev pub Finds : Declared → Trait → List PrincipalId → List Ask → Option Found → Option Found → Type 0
Finds principals held authority asks (Some found) new = new ≡ Some found
Finds principals held authority asks None new = ShowsIfAny held authority (first_refused principals asks) new

-- ---- spots

-- A spot is seen for one trait alone: its causes of the others are not known.
pub record Sees (held : Trait) (stand : Stand) (known : Known) (of_pc : Trait → Option Cause)
    (causes : Trait → VarId → Option Cause) : Type 0 where
  pub of_pc_is : of_pc held ≡ stand.of_pc
  pub causes_are : causes held ≡ listed_cause known.causes.items

abbrev pub spot_at : Place → Stand → Known → (Trait → Option Cause) → (Trait → VarId → Option Cause) → StatementSpot
spot_at place stand known of_pc causes = record {
  setting = setting_at place;
  pc = stand.pc;
  of_pc = of_pc;
  labels = known.labels.items;
  causes = causes;
}

-- the label of an expression, and what brings the trait in, where the spot is seen
abbrev pub label_is : Place → Stand → Known → ExprTree → Label
label_is place stand known value = expr_label (setting_at place) stand.pc known.labels.items value

abbrev pub cause_is : Place → StmtId → Stand → Known → ExprTree → Option Cause
cause_is place here stand known value =
    expr_cause place.held (setting_at place) here stand.of_pc (listed_cause known.causes.items) value

-- where the blocks inside a branch or a loop stand
abbrev pub stand_inside : Place → StmtId → Stand → Known → ExprTree → Stand
stand_inside place here stand known guard = record {
  pc = guarded (setting_at place) stand.pc known.labels.items guard;
  of_pc = guarded_cause place.held (setting_at place) here stand.of_pc (listed_cause known.causes.items) guard;
}

-- of what is asked for at the spot that is seen
abbrev pub FindsAt : Place → Stand → Known → (StatementSpot → List Ask) → Option Found → Option Found → Type 0
FindsAt place stand known asks old new =
    (of_pc : Trait → Option Cause) (causes : Trait → VarId → Option Cause) → Sees place.held stand known of_pc causes →
    Finds place.principals.now place.held (authority_at place) (asks (spot_at place stand known of_pc causes)) old new

-- as many causes as labels
abbrev pub AreCausesKnown : Known → Type 0
AreCausesKnown known = length known.causes.items ≡ length known.labels.items

-- From a block to one that is left of it: both leave the same labels and causes, and what is found in what is left is
-- found in the whole.
pub record Walks (place : Place) (stand : Stand) (old : Known) (old_found : Option Found) (block : BlockTree)
    (new : Known) (new_found : Option Found) (left : BlockTree) : Type 0 where
  pub labels : labels_after (setting_at place) stand.pc old.labels.items block
      ≡ labels_after (setting_at place) stand.pc new.labels.items left
  pub causes : causes_after place.held (setting_at place) stand.pc stand.of_pc old.labels.items
      (listed_cause old.causes.items) block
      ≡ causes_after place.held (setting_at place) stand.pc stand.of_pc new.labels.items
      (listed_cause new.causes.items) left
  pub long : AreCausesKnown new
  pub found : (end : Option Found) → FindsAt place stand new (λ spot. block_asks spot left) new_found end →
      FindsAt place stand old (λ spot. block_asks spot block) old_found end

-- ---- programs

-- Over the body of a method: its labels and causes are those behind it, and what is found is the first that is refused
-- of what it asks for.
pub record WalksMethod (principals : Declared) (program : ProgramTree) (held : Trait) (place : ℕ) (method : MethodTree)
    (old new : Known) (new_found : Option Found) : Type 0 where
  pub labels : labels_after (setting_of principals program method) method.begin old.labels.items method.body
      ≡ new.labels.items
  pub causes : causes_after held (setting_of principals program method) method.begin
      (begin_cause held (record { 0 = place }) method.begin) old.labels.items (listed_cause old.causes.items)
      method.body
      ≡ listed_cause new.causes.items
  pub long : AreCausesKnown new
  pub found : (causes : Trait → VarId → Option Cause) → causes held ≡ listed_cause old.causes.items →
      Finds principals held method.authority
      (block_asks (method_spot principals program place old.labels.items causes method) method.body) None
      new_found

-- the authority of the method at a place
abbrev pub authority_of : ProgramTree → ℕ → List PrincipalId
authority_of program place = unwrap_or (option_map (λ tree. tree.authority) (slice_get program.methods place)) []

-- What is found shows the first that is refused, by the authority of its method.
abbrev pub Locates : Declared → ProgramTree → Trait → Option Located → Type 0
Locates principals program held None = first_refused principals (program_asks principals program) ≡ None
Locates principals program held (Some located) =
    (ask : Ask) × (first_refused principals (program_asks principals program) ≡ Some ask)
    × ShowsAsk held (authority_of program located.method) ask located.found

-- what brings the trait in, where something was found
abbrev pub found_cause : Option Located → Option Cause
found_cause None = None
found_cause (Some located) = located.found.cause

-- the first that is refused of what a program asks for
abbrev pub IsFirstRefused : Declared → ProgramTree → Ask → Type 0
IsFirstRefused principals program ask = first_refused principals (program_asks principals program) ≡ Some ask

-- a refusal as it is told
abbrev pub seen_refusal : Option Refusal → Explained
seen_refusal refusal = option_map (λ told. (told.statement, told.wanted, told.reasons.items)) refusal
