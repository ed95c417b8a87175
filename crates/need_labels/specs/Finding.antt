-- What is found on the way through a program, so that it can be put in a row.
use Rattle.std.specs.Prelude.{◌≡◌, ◌↔◌, ℕ, suc, ◌<◌, ◌≤◌, Bool, false, ◌||◌, cond, nat_eq}
use Rattle.std.specs.Prelude.{List, [], ◌∷◌, ◌++◌, map, length, All, Any, slice_index_or}
use Rattle.std.specs.List.{AllZip, range_with_len, fold, flat_map, list_any}
use Rattle.js_base.specs.declared.ids.VarId.{VarId}
use Rattle.js_base.specs.declared.ids.StmtId.{StmtId}
use Rattle.js_base.specs.declared.ids.PrincipalId.{PrincipalId}
use Rattle.principals.specs.ActsFor.{Declared}
use Rattle.label_lattice.specs.declared.label.Label.{Label}
use Rattle.label_lattice.specs.declared.label.TheConstants.{READERS}
use Rattle.label_lattice.specs.Label.{Trusts}
use Rattle.label_lattice.specs.Lattice.{join_of}
use Rattle.jif_tree.specs.Trees.{ExprTree, program_tree, method_tree}
use Rattle.jif_tree.specs.LabelRules.{MethodSetting, setting_of, part_labels}
use Rattle.need_labels.specs.declared.place.Place.{Place}
use Rattle.need_labels.specs.declared.place.Reads.{Reads}
use Rattle.need_labels.specs.declared.place.Found.{Found}
use Rattle.need_labels.specs.declared.place.Current.{Current}
use Rattle.need_labels.specs.Labelled.{Labelled, labelled_of, pc_of, all_labels}
use Rattle.need_labels.specs.Needs.{Backing, Backs, StatementUse, all_backing, Telling, tellings_in, variables_in}
use Rattle.need_labels.specs.Needs.{releases, IsNeed, told_of, readers_of}

-- what every place of its method has in common
abbrev pub setting_at : Place → MethodSetting
setting_at place =
    setting_of place.principals.now (program_tree place.checked.now.program) (method_tree place.method.now)

abbrev pub labelled_at : Place → Labelled
labelled_at place = labelled_of place.checked.now

-- just those trust the label who back
pub record IsBackedBy (principals : Declared) (backing : List Backing) (label : Label) : Type 0 where
  pub each : (principal : ℕ) → principal < READERS →
      (Trusts label principal ↔ Any (Backs principals principal) backing)

-- ---- reads

-- whether one of the reads is of the variable
abbrev pub is_read : List VarId → ℕ → Bool
is_read reads x = list_any (λ read. nat_eq read.0 x) reads

-- These are the rows of some statements, and of these first tellings and reads of one more. Its number in the order of
-- the text is `turn`, which marks each variable that it reads.
pub record AreReads (principals : Declared) (labelled : Labelled) (before : List StatementUse) (id : StmtId) (turn : ℕ)
    (tellings : List Telling) (reads : List VarId) (found : Reads) : Type 0 where
  pub loc : found.loc.items ≡ map (told_of principals (flat_map (λ one. one.tellings) before ++ tellings))
      (range_with_len 0 (length labelled.program.fields))
  pub readers : map (λ row. row.items) found.readers.items
      ≡ map (λ x. readers_of before x ++ cond (is_read reads x) (id ∷ []) [])
      (range_with_len 0 (length labelled.program.vars))
  pub long : length found.marks.items ≡ length labelled.program.vars
  pub marked : (x : ℕ) → x < length labelled.program.vars →
      nat_eq (slice_index_or found.marks.items x 0) turn ≡ is_read reads x
  pub earlier : (x : ℕ) → slice_index_or found.marks.items x 0 ≤ turn

-- these tellings and reads of the statement are added
pub record AddsReads (principals : Declared) (labelled : Labelled) (id : StmtId) (turn : ℕ)
    (old : Reads) (tellings : List Telling) (reads : List VarId) (new : Reads) : Type 0 where
  pub adds : (before : List StatementUse) (told : List Telling) (others : List VarId) →
      AreReads principals labelled before id turn told others old →
      AreReads principals labelled before id turn (told ++ tellings) (others ++ reads) new

-- these expressions of the statement are added
pub record AddsExprs (place : Place) (old : Current) (old_reads : Reads) (exprs : List ExprTree)
    (new : Current) (new_reads : Reads) : Type 0 where
  pub current : new ≡ record old {
    used = fold join_of old.used
        (flat_map (part_labels (setting_at place) old.pc (all_labels (labelled_at place))) exprs);
    releases = old.releases || list_any releases exprs;
  }
  pub reads : AddsReads place.principals.now (labelled_at place) old.id old.turn old_reads
      (flat_map (tellings_in (setting_at place) (labelled_at place) old.pc) exprs) (flat_map variables_in exprs)
      new_reads

-- ---- statements

-- a statement whose expressions are not walked yet, behind so many others
abbrev pub started : Labelled → ℕ → StmtId → Current
started labelled count id = record {
  id = id;
  turn = suc count;
  pc = pc_of labelled id;
  used = pc_of labelled id;
  releases = false;
}

-- The expressions of a statement were walked, which also tells some labels. Before them this was found, and now what
-- differs in the rows of the reads alone.
pub record IsWalked (place : Place) (old : Found) (id : StmtId) (exprs : List ExprTree) (told : List Label)
    (walked : Current) (new : Found) : Type 0 where
  pub same_used : new.used ≡ old.used
  pub same_need : new.need ≡ old.need
  pub current : walked ≡ record (started (labelled_at place) (length old.used.items) id) {
    used = fold join_of (pc_of (labelled_at place) id)
        (flat_map (part_labels (setting_at place) (pc_of (labelled_at place) id) (all_labels (labelled_at place))) exprs
        ++ told);
    releases = list_any releases exprs;
  }
  pub reads : AddsReads place.principals.now (labelled_at place) id (suc (length old.used.items)) old.reads
      (flat_map (tellings_in (setting_at place) (labelled_at place) (pc_of (labelled_at place) id)) exprs)
      (flat_map variables_in exprs) new.reads

-- this was found of these statements
pub record AreFound (principals : Declared) (labelled : Labelled) (uses : List StatementUse) (found : Found)
    : Type 0 where
  pub used : found.used.items ≡ map (λ one. one.used) uses
  pub need : AllZip (λ one word. IsNeed principals one.backing word) uses found.need.items
  pub reads : (id : StmtId) → AreReads principals labelled uses id (suc (length uses)) [] [] found.reads

-- these statements are added, and just those trust the label who back one of them
pub record AddsUses (principals : Declared) (labelled : Labelled) (old : Found) (uses : List StatementUse)
    (new : Found) (backing : Label) : Type 0 where
  pub adds : (before : List StatementUse) → AreFound principals labelled before old →
      AreFound principals labelled (before ++ uses) new
  pub backed : IsBackedBy principals (all_backing uses) backing

-- the same, whoever backs them
pub record AddsFound (principals : Declared) (labelled : Labelled) (old : Found) (uses : List StatementUse)
    (new : Found) : Type 0 where
  pub adds : (before : List StatementUse) → AreFound principals labelled before old →
      AreFound principals labelled (before ++ uses) new

-- a statement with these statements in it
abbrev pub enclosing : StatementUse → List StatementUse → StatementUse
enclosing one inside = record one { backing = one.backing ++ all_backing inside }
