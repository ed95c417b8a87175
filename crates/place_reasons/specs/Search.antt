-- What walks over statements find, step by step.
use Rattle.std.specs.Prelude.{◌≡◌, ℕ, ◌<◌, ◌^◌, List, ◌∷◌, ◌++◌, length, Option, None, slice_get, unwrap_or}
use Rattle.js_base.specs.declared.ids.FieldId.{FieldId}
use Rattle.js_base.specs.declared.ids.StmtId.{StmtId}
use Rattle.js_base.specs.declared.ids.VarId.{VarId}
use Rattle.jif_tree.specs.Trees.{ExprTree, BlockTree, MethodTree, ProgramTree, method_tree}
use Rattle.principals.specs.ActsFor.{Declared}
use Rattle.label_lattice.specs.declared.label.Label.{Label}
use Rattle.label_lattice.specs.Lattice.{join_of}
use Rattle.jif_tree.specs.LabelRules.{VariableLabels, labels_after, labels_after_assignment, setting_of}
use Rattle.label_reasons.specs.declared.reason.Cause.{Cause}
use Rattle.label_reasons.specs.declared.reason.Trait.{Trait}
use Rattle.label_reasons.specs.declared.search_place.Place.{Place}
use Rattle.label_reasons.specs.declared.search_place.Stand.{Stand}
use Rattle.label_reasons.specs.declared.search_place.Known.{Known}
use Rattle.label_reasons.specs.Causes.{or_else, begin_cause, causes_after, causes_after_assignment}
use Rattle.label_reasons.specs.Search.{listed_cause, setting_at, label_is, cause_is, AreCausesKnown}
use Rattle.need_labels.specs.Labelled.{Labelled, labelled_of, all_labels}
use Rattle.place_reasons.specs.declared.question.Question.{Question}
use Rattle.place_reasons.specs.declared.site.HostSite.{HostSite}
use Rattle.place_reasons.specs.declared.site.Search.{Search}
use Rattle.place_reasons.specs.declared.told.Told.{Told}
use Rattle.place_reasons.specs.declared.told.Told.TheVariants.{Read, Index}
use Rattle.place_reasons.specs.Questions.{answer, block_answers}
use Rattle.place_reasons.specs.Firsts.{first_some}
use Rattle.place_reasons.specs.Reasons.{Site, site_of, method_told}

-- what is answered of a statement with these expressions where the walk stands
abbrev pub answer_is : Place → Question → StmtId → Stand → Known → List ExprTree → Option Cause
answer_is place question here stand known values =
    answer question place.held (setting_at place) here stand.of_pc (listed_cause known.causes.items) values

-- what is answered of the statements of a block from there on
abbrev pub answers_are : Place → Question → Stand → Known → BlockTree → List (Option Cause)
answers_are place question stand known block =
    block_answers question place.held (setting_at place) stand.pc stand.of_pc known.labels.items
    (listed_cause known.causes.items) block

-- the labels and causes behind an assignment to a variable
abbrev pub assigned_labels : Place → Stand → Known → VarId → ExprTree → VariableLabels
assigned_labels place stand known x value =
    labels_after_assignment known.labels.items x (join_of (label_is place stand known value) stand.pc)

abbrev pub assigned_causes : Place → StmtId → Stand → Known → VarId → ExprTree → VarId → Option Cause
assigned_causes place here stand known x value =
    causes_after_assignment known.labels.items (listed_cause known.causes.items) x here
    (or_else (cause_is place here stand known value) stand.of_pc)

-- From a block to one that is left of it: both leave the same labels and causes, and what was answered, with what is
-- left to answer, is the answer to the whole.
pub record AnswersInBlock (place : Place) (question : Question) (stand : Stand) (old : Known)
    (before : List (Option Cause)) (block : BlockTree) (new : Known) (behind : List (Option Cause))
    (left : BlockTree) : Type 0 where
  pub labels : labels_after (setting_at place) stand.pc old.labels.items block
      ≡ labels_after (setting_at place) stand.pc new.labels.items left
  pub causes : causes_after place.held (setting_at place) stand.pc stand.of_pc old.labels.items
      (listed_cause old.causes.items) block
      ≡ causes_after place.held (setting_at place) stand.pc stand.of_pc new.labels.items
      (listed_cause new.causes.items) left
  pub long : AreCausesKnown new
  pub answers : before ++ answers_are place question stand old block
      ≡ behind ++ answers_are place question stand new left

-- Over the body of a method: its labels and causes are those behind it, and all of its statements are answered.
pub record AnswersMethod (question : Question) (principals : Declared) (program : ProgramTree) (held : Trait)
    (place : ℕ) (method : MethodTree) (old : Known) (before : List (Option Cause)) (new : Known)
    (behind : List (Option Cause)) : Type 0 where
  pub labels : labels_after (setting_of principals program method) method.begin old.labels.items method.body
      ≡ new.labels.items
  pub causes : causes_after held (setting_of principals program method) method.begin
      (begin_cause held (record { 0 = place }) method.begin) old.labels.items (listed_cause old.causes.items)
      method.body
      ≡ listed_cause new.causes.items
  pub long : AreCausesKnown new
  pub answers : before ++ begin_cause held (record { 0 = place }) method.begin
      ∷ block_answers question held (setting_of principals program method) method.begin
      (begin_cause held (record { 0 = place }) method.begin) old.labels.items (listed_cause old.causes.items)
      method.body
      ≡ behind

-- ---- sites

abbrev pub site_is : HostSite → Site
site_is site = site_of site.principals.now (labelled_of site.checked.now) site.host.now (method_tree site.method.now)

-- the labels at hand are those of the program
abbrev pub IsSite : HostSite → Type 0
IsSite site = site.labels.now ≡ all_labels (labelled_of site.checked.now)

-- the labels at hand are those of the program, and what is numbered by 32 bits can be
pub record IsSearch (search : Search) : Type 0 where
  pub labels : search.labels.now ≡ all_labels (labelled_of search.checked.now)
  pub few : length search.checked.now.program.vars.items < 2 ^ 32
  pub few_methods : length search.checked.now.program.methods.items < 2 ^ 32

-- ---- what reads tell of fields

-- what was told of a field, by its number
abbrev pub told_for : List (Option Told) → FieldId → Option Told
told_for found field = unwrap_or (slice_get found field.0) None

-- for each field, the first that the reads of the program tell a host of this label
pub record AreTold (principals : Declared) (labelled : Labelled) (host : Label) (found : List (Option Told)) :
    Type 0 where
  pub each : length found ≡ length labelled.program.fields
  pub told : (field : FieldId) → field.0 < length found →
      told_for found field ≡ first_some (method_told principals labelled host field) labelled.program.methods

-- the pair that is told
abbrev pub told_pair : Told → Trait
told_pair (Read pair here) = pair
told_pair (Index pair here) = pair
