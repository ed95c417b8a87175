-- A search along a block: what each statement does, and what is left.
use Rattle.std.proofs.Common.{◌≡◌, List, [], ◌∷◌, ◌++◌, refl, sym, ap, ap₂, ◌∙◌, subst}
use Rattle.std.specs.Prelude.{Option}
use Rattle.js_base.specs.declared.ids.StmtId.{StmtId}
use Rattle.js_base.specs.declared.ids.VarId.{VarId}
use Rattle.label_lattice.specs.Lattice.{join_of}
use Rattle.jif_tree.specs.Trees.{Heading, ExprTree, BlockTree, done, set_local, branch, loop}
use Rattle.jif_tree.specs.LabelRules.{labels_after, labels_after_assignment, variable_label}
use Rattle.label_reasons.specs.declared.reason.Trait.{Trait}
use Rattle.label_reasons.specs.declared.reason.Cause.{Cause}
use Rattle.label_reasons.specs.declared.reason.Wanted.TheVariants.{KeptInLocal}
use Rattle.label_reasons.specs.declared.search_place.Found.{Found}
use Rattle.label_reasons.specs.declared.search_place.Place.{Place}
use Rattle.label_reasons.specs.declared.search_place.Stand.{Stand}
use Rattle.label_reasons.specs.declared.search_place.Known.{Known}
use Rattle.label_reasons.specs.Causes.{or_else, expr_cause, guarded_cause, causes_after, causes_after_assignment}
use Rattle.label_reasons.specs.Asks.{Ask, StatementSpot, spot_after, spot_inside, spot_with, expr_asks, block_asks}
use Rattle.label_reasons.specs.Asks.{spot_assigned, value_ask}
use Rattle.label_reasons.specs.Search.{listed_cause, setting_at, authority_at, Finds, FindsAt, Sees, spot_at}
use Rattle.label_reasons.specs.Search.{AreCausesKnown}
use Rattle.label_reasons.specs.Search.{Walks, stand_inside, label_is, cause_is}
use Rattle.label_reasons.proofs.Searching.{finds_none, finds_two}

pub walks_none : (place : Place) (stand : Stand) (known : Known) (found : Option Found) (block : BlockTree) →
    AreCausesKnown known → Walks place stand known found block known found block
walks_none place stand known found block is = record {
  labels = refl;
  causes = refl;
  long = is;
  found = λ end at. at;
}

pub walks_on : (place : Place) (stand : Stand) (old mid new : Known) (old_found mid_found new_found : Option Found)
    (block between left : BlockTree) → Walks place stand old old_found block mid mid_found between →
    Walks place stand mid mid_found between new new_found left →
    Walks place stand old old_found block new new_found left
walks_on place stand old mid new old_found mid_found new_found block between left one other = record {
  labels = one.labels ∙ other.labels;
  causes = one.causes ∙ other.causes;
  long = other.long;
  found = λ end at. one.found end (other.found end at);
}

-- what is found in a whole block
pub found_in : (place : Place) (stand : Stand) (old new : Known) (old_found new_found : Option Found)
    (block : BlockTree) → Walks place stand old old_found block new new_found done →
    FindsAt place stand old (λ spot. block_asks spot block) old_found new_found
found_in place stand old new old_found new_found block walks =
    walks.found new_found
    (λ of_pc causes sees. finds_none place.principals.now place.held (authority_at place) new_found)

-- ---- statements without blocks

pub plain : (place : Place) (stand : Stand) (known : Known) (asks : StatementSpot → List Ask) (block rest : BlockTree)
    (old new : Option Found) → AreCausesKnown known → FindsAt place stand known asks old new →
    labels_after (setting_at place) stand.pc known.labels.items block
    ≡ labels_after (setting_at place) stand.pc known.labels.items rest →
    causes_after place.held (setting_at place) stand.pc stand.of_pc known.labels.items (listed_cause known.causes.items)
    block
    ≡ causes_after place.held (setting_at place) stand.pc stand.of_pc known.labels.items
    (listed_cause known.causes.items) rest →
    ((spot : StatementSpot) → block_asks spot block ≡ asks spot ++ block_asks spot rest) →
    Walks place stand known old block known new rest
plain place stand known asks block rest old new is finds labels causes parts = record {
  labels = labels;
  causes = causes;
  long = is;
  found = λ end at of_pc seen sees.
      let spot : StatementSpot = spot_at place stand known of_pc seen in
      let P : List Ask → Type 0 = λ all. Finds place.principals.now place.held (authority_at place) all old end in
      subst P (sym (parts spot)) (finds_two place (asks spot) (block_asks spot rest) old new end
      (finds of_pc seen sees) (at of_pc seen sees));
}

-- ---- what a block leaves

-- the causes behind a block
abbrev causes_behind : Place → Stand → Known → (Trait → Option Cause) → (Trait → VarId → Option Cause) → BlockTree →
    Trait → VarId → Option Cause
causes_behind place stand known of_pc causes block trait =
    causes_after trait (setting_at place) stand.pc (of_pc trait) known.labels.items (causes trait) block

-- from a spot to that behind a block
record Went (place : Place) (stand : Stand) (old : Known) (old_found : Option Found) (block : BlockTree)
    (new : Known) (new_found : Option Found) (of_pc : Trait → Option Cause)
    (causes : Trait → VarId → Option Cause) : Type 0 where
  finds : Finds place.principals.now place.held (authority_at place)
      (block_asks (spot_at place stand old of_pc causes) block) old_found new_found
  sees : Sees place.held stand new of_pc (causes_behind place stand old of_pc causes block)
  behind : spot_after (spot_at place stand old of_pc causes) block
      ≡ spot_at place stand new of_pc (causes_behind place stand old of_pc causes block)

went : (place : Place) (stand : Stand) (old new : Known) (old_found new_found : Option Found) (block : BlockTree)
    (of_pc : Trait → Option Cause) (causes : Trait → VarId → Option Cause) →
    Walks place stand old old_found block new new_found done → Sees place.held stand old of_pc causes →
    Went place stand old old_found block new new_found of_pc causes
went place stand old new old_found new_found block of_pc causes walks sees = record {
  finds = found_in place stand old new old_found new_found block walks of_pc causes sees;
  sees = record {
    of_pc_is = sees.of_pc_is;
    causes_are =
        ap₂ (λ pc list. causes_after place.held (setting_at place) stand.pc pc old.labels.items list block)
        sees.of_pc_is sees.causes_are ∙ walks.causes;
  };
  behind =
      ap (λ labels. record {
        setting = setting_at place;
        pc = stand.pc;
        of_pc = of_pc;
        labels = labels;
        causes = causes_behind place stand old of_pc causes block;
      }) walks.labels;
}

-- ---- branches and loops

inside_sees : (place : Place) (stand : Stand) (known : Known) (of_pc : Trait → Option Cause)
    (causes : Trait → VarId → Option Cause) (here : StmtId) (guard : ExprTree) →
    Sees place.held stand known of_pc causes →
    Sees place.held (stand_inside place here stand known guard) known
    (λ trait. guarded_cause trait (setting_at place) here (of_pc trait) (causes trait) guard) causes
inside_sees place stand known of_pc causes here guard sees = record {
  of_pc_is = ap₂ (λ pc list. guarded_cause place.held (setting_at place) here pc list guard) sees.of_pc_is
      sees.causes_are;
  causes_are = sees.causes_are;
}

pub branch_walks : (place : Place) (stand : Stand) (old mid new : Known)
    (old_found in_guard in_first new_found : Option Found) (heading : Heading) (guard : ExprTree)
    (first second rest : BlockTree) →
    FindsAt place stand old (λ spot. expr_asks spot heading.id guard) old_found in_guard →
    Walks place (stand_inside place heading.id stand old guard) old in_guard first mid in_first done →
    Walks place (stand_inside place heading.id stand old guard) mid in_first second new new_found done →
    Walks place stand old old_found (branch heading guard first second rest) new new_found rest
branch_walks place stand old mid new old_found in_guard in_first new_found heading guard first second rest finds one
    two =
    let setting = setting_at place in
    let inside : Stand = stand_inside place heading.id stand old guard in
    record {
      labels =
          ap (λ labels. labels_after setting stand.pc (labels_after setting inside.pc labels second) rest) one.labels
          ∙ ap (λ labels. labels_after setting stand.pc labels rest) two.labels;
      causes =
          ap₂ (λ labels causes. causes_after place.held setting stand.pc stand.of_pc
          (labels_after setting inside.pc labels second)
          (causes_after place.held setting inside.pc inside.of_pc labels causes second) rest) one.labels one.causes
          ∙ ap₂ (λ labels causes. causes_after place.held setting stand.pc stand.of_pc labels causes rest) two.labels
          two.causes;
      long = two.long;
      found = λ end at of_pc causes sees.
          let spot : StatementSpot = spot_at place stand old of_pc causes in
          let within = inside_sees place stand old of_pc causes heading.id guard sees in
          let told : Trait → Option Cause = λ trait. guarded_cause trait setting heading.id (of_pc trait) (causes trait)
          guard in
          let to_mid = went place inside old mid in_guard in_first first told causes one within in
          let to_new = went place inside mid new in_first new_found second told
          (causes_behind place inside old told causes first) two to_mid.sees in
          let between : StatementSpot = spot_after (spot_inside spot heading.id guard) first in
          let after : StatementSpot = spot_with spot (spot_after between second) in
          let P : StatementSpot → Type 0 = λ seen. Finds place.principals.now place.held (authority_at place)
          (block_asks seen second) in_first new_found in
          let Q : StatementSpot → Type 0 = λ seen. Finds place.principals.now place.held (authority_at place)
          (block_asks seen rest) new_found end in
          let reached = ap (λ seen. spot_with spot (spot_after seen second)) to_mid.behind
          ∙ ap (λ seen. spot_with spot seen) to_new.behind in
          finds_two place (expr_asks spot heading.id guard)
          (block_asks (spot_inside spot heading.id guard) first ++ block_asks between second ++ block_asks after rest)
          old_found in_guard end (finds of_pc causes sees)
          (finds_two place (block_asks (spot_inside spot heading.id guard) first ++ block_asks between second)
          (block_asks after rest) in_guard new_found end
          (finds_two place (block_asks (spot_inside spot heading.id guard) first) (block_asks between second) in_guard
          in_first new_found to_mid.finds (subst P (sym to_mid.behind) to_new.finds))
          (subst Q (sym reached) (at of_pc (causes_behind place inside mid told
          (causes_behind place inside old told causes first) second) (record {
            of_pc_is = sees.of_pc_is;
            causes_are = to_new.sees.causes_are;
          }))));
    }

pub loop_walks : (place : Place) (stand : Stand) (old new : Known)
    (old_found outside in_guard new_found : Option Found) (heading : Heading) (guard : ExprTree)
    (body rest : BlockTree) →
    FindsAt place stand old (λ spot. expr_asks spot heading.id guard) old_found outside →
    FindsAt place (stand_inside place heading.id stand old guard) old (λ spot. expr_asks spot heading.id guard) outside
    in_guard → Walks place (stand_inside place heading.id stand old guard) old in_guard body new new_found done →
    Walks place stand old old_found (loop heading guard body rest) new new_found rest
loop_walks place stand old new old_found outside in_guard new_found heading guard body rest finds again one =
    let setting = setting_at place in
    record {
      labels = ap (λ labels. labels_after setting stand.pc labels rest) one.labels;
      causes = ap₂ (λ labels causes. causes_after place.held setting stand.pc stand.of_pc labels causes rest) one.labels
          one.causes;
      long = one.long;
      found = λ end at of_pc causes sees.
          let spot : StatementSpot = spot_at place stand old of_pc causes in
          let within = inside_sees place stand old of_pc causes heading.id guard sees in
          let told : Trait → Option Cause = λ trait. guarded_cause trait setting heading.id (of_pc trait) (causes trait)
          guard in
          let inside : Stand = stand_inside place heading.id stand old guard in
          let to_new = went place inside old new in_guard new_found body told causes one within in
          let inner : StatementSpot = spot_inside spot heading.id guard in
          let after : StatementSpot = spot_with spot (spot_after inner body) in
          let Q : StatementSpot → Type 0 = λ seen. Finds place.principals.now place.held (authority_at place)
          (block_asks seen rest) new_found end in
          finds_two place (expr_asks spot heading.id guard ++ expr_asks inner heading.id guard)
          (block_asks inner body ++ block_asks after rest) old_found in_guard end
          (finds_two place (expr_asks spot heading.id guard) (expr_asks inner heading.id guard) old_found outside
          in_guard
          (finds of_pc causes sees) (again told causes within))
          (finds_two place (block_asks inner body) (block_asks after rest) in_guard new_found end to_new.finds
          (subst Q (sym (ap (λ seen. spot_with spot seen) to_new.behind))
          (at of_pc (causes_behind place inside old told causes body) (record {
            of_pc_is = sees.of_pc_is;
            causes_are = to_new.sees.causes_are;
          }))));
    }

-- ---- assignments

pub local_walks : (place : Place) (stand : Stand) (old new : Known) (old_found mid_found new_found : Option Found)
    (heading : Heading) (x : VarId) (value : ExprTree) (rest : BlockTree) →
    new.labels.items ≡ labels_after_assignment old.labels.items x (join_of (label_is place stand old value) stand.pc) →
    ((y : VarId) → listed_cause new.causes.items y
    ≡ causes_after_assignment old.labels.items (listed_cause old.causes.items) x heading.id
    (or_else (cause_is place heading.id stand old value) stand.of_pc) y) → AreCausesKnown new →
    FindsAt place stand old (λ spot. expr_asks spot heading.id value) old_found mid_found →
    FindsAt place stand old (λ spot. value_ask spot heading.id (KeptInLocal x) value
    (variable_label (spot_assigned spot heading.id x value).labels x) ∷ []) mid_found new_found →
    Walks place stand old old_found (set_local heading x value rest) new new_found rest
local_walks place stand old new old_found mid_found new_found heading x value rest labels causes is one two =
    let setting = setting_at place in
    let assigned : VarId → Option Cause = causes_after_assignment old.labels.items (listed_cause old.causes.items) x
    heading.id (or_else (cause_is place heading.id stand old value) stand.of_pc) in
    let same : listed_cause new.causes.items ≡ assigned = λ t y. causes y t in
    record {
      labels = ap (λ list. labels_after setting stand.pc list rest) (sym labels);
      causes = ap₂ (λ list behind. causes_after place.held setting stand.pc stand.of_pc list behind rest) (sym labels)
          (sym same);
      long = is;
      found = λ end at of_pc seen sees.
          let spot : StatementSpot = spot_at place stand old of_pc seen in
          let after : StatementSpot = spot_assigned spot heading.id x value in
          let ask : Ask = value_ask spot heading.id (KeptInLocal x) value (variable_label after.labels x) in
          let Q : StatementSpot → Type 0 = λ one. Finds place.principals.now place.held (authority_at place)
          (block_asks one rest)
          new_found end in
          let behind : after ≡ spot_at place stand new of_pc after.causes = ap (λ list. record {
            setting = setting;
            pc = stand.pc;
            of_pc = of_pc;
            labels = list;
            causes = after.causes;
          }) (sym labels) in
          finds_two place (expr_asks spot heading.id value ++ ask ∷ []) (block_asks after rest) old_found new_found end
          (finds_two place (expr_asks spot heading.id value) (ask ∷ []) old_found mid_found new_found
          (one of_pc seen sees) (two of_pc seen sees))
          (subst Q (sym behind) (at of_pc after.causes (record {
            of_pc_is = sees.of_pc_is;
            causes_are = ap₂ (λ pc list. causes_after_assignment old.labels.items list x heading.id
                (or_else (expr_cause place.held setting heading.id pc list value) pc)) sees.of_pc_is sees.causes_are
                ∙ sym same;
          })));
    }
