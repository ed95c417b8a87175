-- What a walk of a draft collects: of each statement what is its own, and then what is in its blocks.
use Rattle.std.proofs.Common.{◌≡◌, ℕ, ◌<◌, ◌+◌, List, [], ◌∷◌, ◌++◌, length, take, get_or, Vec, Global}
use Rattle.std.proofs.Common.{refl, sym, ap, ◌∙◌}
use Rattle.std.proofs.Common.{◌≤◌, append_assoc, append-nil, map}
use Rattle.std.specs.List.{flat_map}
use Rattle.std.proofs.lemmas.List.{take_all, take_more, flat_map_more}
use mathlib.Core.Former.{Count}
use Rattle.std.proofs.lemmas.List.Folds.{flat_map-map}
use Rattle.jif_tree.specs.declared.draft.Draft.{Draft}
use Rattle.jif_tree.specs.declared.draft.FieldDraft.{FieldDraft}
use Rattle.jif_tree.specs.declared.draft.MethodDraft.{MethodDraft}
use Rattle.jif_tree.specs.declared.draft.StmtDraft.{StmtDraft}
use Rattle.jif_tree.specs.declared.draft.StmtKindDraft.{StmtKindDraft}
use Rattle.jif_tree.specs.declared.draft.StmtKindDraft as kind
use Rattle.jif_tree.specs.declared.draft.ExprDraft.{ExprDraft}
use Rattle.jif_grammar.specs.DraftShapes.{BlockShape, Start, statement_shape, row_shape, block_shape}
use Rattle.jif_grammar.specs.DraftShapes.{FieldShape, MethodShape, field_shape, method_shape, draft_shape}
use Rattle.explain_texts.specs.DraftPlaces.{block_starts, block_locals, kind_starts, kind_locals, PlacesShape}
use Rattle.explain_texts.specs.DraftPlaces.{draft_places, method_starts, method_variables}

-- ---- nested blocks, which a statement keeps as rows

row_of_list : {n : _} (row : kind.Row_of-StmtDraft n) → row_shape row ≡ block_shape (kind.items-the_row-StmtDraft n row)
row_of_list kind.end_of-StmtDraft = refl
row_of_list (kind.more_of-StmtDraft at line what rest) = ap (statement_shape what _) (row_of_list rest)

-- the first and the second nested block of a statement
abbrev pub first_row : StmtKindDraft → (n : Count) × kind.Row_of-StmtDraft n
first_row (kind.If' guard m first n second) = (_, first)
first_row (kind.While' guard m body) = (_, body)
first_row _ = (_, kind.end_of-StmtDraft)

abbrev pub second_row : StmtKindDraft → (n : Count) × kind.Row_of-StmtDraft n
second_row (kind.If' guard m first n second) = (_, second)
second_row _ = (_, kind.end_of-StmtDraft)

-- What is collected of a statement that has blocks is what is collected of these.
pub record AreNested (of_block : BlockShape → List ℕ) (of_kind : StmtKindDraft → List ℕ) : Type 0 where
  pub branch : (guard : ExprDraft) (first second : Vec StmtDraft Global) → of_kind (kind.If guard first second)
      ≡ of_block (row_shape (first_row (kind.If guard first second)).1)
      ++ of_block (row_shape (second_row (kind.If guard first second)).1)
  pub loop : (guard : ExprDraft) (body : Vec StmtDraft Global) →
      of_kind (kind.While guard body) ≡ of_block (row_shape (first_row (kind.While guard body)).1)

module _ (of_block : BlockShape → List ℕ) (of_kind : StmtKindDraft → List ℕ) (nested : AreNested of_block of_kind) where
  row_parts : (n : Count) (row : kind.Row_of-StmtDraft n) (items : List StmtDraft) →
      kind.items-the_row-StmtDraft n row ≡ items → of_block (row_shape row) ≡ of_block (block_shape items)
  row_parts n row items is = ap of_block (row_of_list row ∙ ap block_shape is)

  -- what was added for both blocks of a branch
  pub if_parts : (what : StmtKindDraft) (guard : ExprDraft) (first second : Vec StmtDraft Global)
      (before between after firsts seconds : List ℕ) → what ≡ kind.If guard first second →
      firsts ≡ of_block (block_shape first.items) → seconds ≡ of_block (block_shape second.items) →
      between ≡ before ++ firsts → after ≡ between ++ seconds → after ≡ before ++ of_kind what
  if_parts what guard first second before between after firsts seconds is first_is second_is one two =
      let row = first_row (kind.If guard first second) in
      let other = second_row (kind.If guard first second) in
      let rows = row_parts row.0 row.1 first.items (kind.items_hidden-the_row-StmtDraft-0 first) in
      let others = row_parts other.0 other.1 second.items (kind.items_hidden-the_row-StmtDraft-0 second) in
      two ∙ ap (λ (xs : List ℕ). xs ++ seconds) one ∙ append_assoc before firsts seconds
      ∙ ap (λ (xs : List ℕ). before ++ (xs ++ seconds)) (first_is ∙ sym rows)
      ∙ ap (λ (xs : List ℕ). before ++ (of_block (row_shape row.1) ++ xs)) (second_is ∙ sym others)
      ∙ ap (λ (xs : List ℕ). before ++ xs) (sym (nested.branch guard first second))
      ∙ ap (λ (w : StmtKindDraft). before ++ of_kind w) (sym is)

  -- what was added for the block of a loop
  pub while_parts : (what : StmtKindDraft) (guard : ExprDraft) (body : Vec StmtDraft Global)
      (before after bodies : List ℕ) → what ≡ kind.While guard body → bodies ≡ of_block (block_shape body.items) →
      after ≡ before ++ bodies → after ≡ before ++ of_kind what
  while_parts what guard body before after bodies is body_is one =
      let row = first_row (kind.While guard body) in
      let rows = row_parts row.0 row.1 body.items (kind.items_hidden-the_row-StmtDraft-0 body) in
      one ∙ ap (λ (xs : List ℕ). before ++ xs) (body_is ∙ sym rows)
      ∙ ap (λ (xs : List ℕ). before ++ xs) (sym (nested.loop guard body))
      ∙ ap (λ (w : StmtKindDraft). before ++ of_kind w) (sym is)

-- one more item, of which two parts were added
pub parts_more : {X : Type 0} (part head tail : X → List ℕ) (before now pushed after : List ℕ) (xs : List X) (i : ℕ)
    (x : X) → ((y : X) → part y ≡ head y ++ tail y) → i < length xs → x ≡ get_or xs i x →
    now ≡ before ++ flat_map part (take i xs) → pushed ≡ now ++ head x → after ≡ pushed ++ tail x →
    after ≡ before ++ flat_map part (take (i + 1) xs)
parts_more {X} part head tail before now pushed after xs i x part_is within is now_is pushed_is after_is =
    let more : take (i + 1) xs ≡ take i xs ++ x ∷ [] =
    take_more xs i x within ∙ ap (λ (y : X). take i xs ++ y ∷ []) (sym is) in
    after_is ∙ ap (λ (ys : List ℕ). ys ++ tail x) pushed_is ∙ append_assoc now (head x) (tail x)
    ∙ ap (λ (ys : List ℕ). now ++ ys) (sym (part_is x))
    ∙ ap (λ (ys : List ℕ). ys ++ part x) now_is
    ∙ flat_map_more part before (take i xs) x
    ∙ ap (λ (ys : List X). before ++ flat_map part ys) (sym more)

-- one more item, of which its part was added
pub part_more : {X : Type 0} (part : X → List ℕ) (before now after : List ℕ) (xs : List X) (i : ℕ) (x : X) →
    i < length xs → x ≡ get_or xs i x → now ≡ before ++ flat_map part (take i xs) → after ≡ now ++ part x →
    after ≡ before ++ flat_map part (take (i + 1) xs)
part_more part before now after xs i x within is now_is after_is =
    parts_more part (λ y. []) part before now now after xs i x (λ y. refl) within is now_is (sym (append-nil now))
    after_is

-- the parts of all statements were added
pub whole_parts : (part : StmtDraft → List ℕ) (of_block : BlockShape → List ℕ) (before after : List ℕ)
    (block : List StmtDraft) (i : ℕ) → ((body : List StmtDraft) → of_block (block_shape body) ≡ flat_map part body) →
    length block ≤ i → after ≡ before ++ flat_map part (take i block) →
    after ≡ before ++ of_block (block_shape block)
whole_parts part of_block before after block i parts_are all is =
    is ∙ ap (λ (xs : List StmtDraft). before ++ flat_map part xs) (take_all i block all)
    ∙ ap (λ (xs : List ℕ). before ++ xs) (sym (parts_are block))

-- ---- first tokens

abbrev pub starts_part : StmtDraft → List ℕ
starts_part statement = statement.at ∷ kind_starts statement.kind

first_starts : (what : StmtKindDraft) (start : Start) (rest : BlockShape) →
    block_starts (statement_shape what start rest) ≡ start.at ∷ (kind_starts what ++ block_starts rest)
first_starts (kind.Declare label name value) start rest = refl
first_starts (kind.Assign name value) start rest = refl
first_starts (kind.AssignElement name index value) start rest = refl
first_starts (kind.If' guard m first n second) start rest = refl
first_starts (kind.While' guard m body) start rest = refl
first_starts (kind.Call name args into) start rest = refl
first_starts (kind.Return value) start rest = refl

pub starts_are : (body : List StmtDraft) → block_starts (block_shape body) ≡ flat_map starts_part body
starts_are [] = refl
starts_are (s ∷ ss) =
    first_starts s.kind (record { at = s.at; line = s.line }) (block_shape ss)
    ∙ ap (λ (rest : List ℕ). s.at ∷ (kind_starts s.kind ++ rest)) (starts_are ss)

pub starts_nest : AreNested block_starts kind_starts
starts_nest = record { branch = λ guard first second. refl; loop = λ guard body. refl }

-- ---- locals

abbrev pub locals_part : StmtDraft → List ℕ
locals_part statement = kind_locals statement.kind

first_locals : (what : StmtKindDraft) (start : Start) (rest : BlockShape) →
    block_locals (statement_shape what start rest) ≡ kind_locals what ++ block_locals rest
first_locals (kind.Declare label name value) start rest = refl
first_locals (kind.Assign name value) start rest = refl
first_locals (kind.AssignElement name index value) start rest = refl
first_locals (kind.If' guard m first n second) start rest = refl
first_locals (kind.While' guard m body) start rest = refl
first_locals (kind.Call name args into) start rest = refl
first_locals (kind.Return value) start rest = refl

pub locals_are : (body : List StmtDraft) → block_locals (block_shape body) ≡ flat_map locals_part body
locals_are [] = refl
locals_are (s ∷ ss) =
    first_locals s.kind (record { at = s.at; line = s.line }) (block_shape ss)
    ∙ ap (λ (rest : List ℕ). kind_locals s.kind ++ rest) (locals_are ss)

pub locals_nest : AreNested block_locals kind_locals
locals_nest = record { branch = λ guard first second. refl; loop = λ guard body. refl }

-- ---- drafts

-- what was found of all parts of a draft
pub all_places : (draft : Draft) (fields variables methods statements : List ℕ) (a : List FieldDraft)
    (b c d : List MethodDraft) → a ≡ draft.fields.items → b ≡ draft.methods.items → c ≡ draft.methods.items →
    d ≡ draft.methods.items → fields ≡ map (λ (field : FieldShape). field.name.at) (map field_shape a) →
    methods ≡ map (λ (method : MethodShape). method.name.at) (map method_shape b) →
    variables ≡ flat_map (λ (one : MethodDraft). method_variables (method_shape one)) c →
    statements ≡ flat_map (λ (one : MethodDraft). method_starts (method_shape one)) d →
    let found : PlacesShape = record {
      fields = fields;
      variables = variables;
      methods = methods;
      statements = statements;
    } in
    found ≡ draft_places (draft_shape draft)
all_places draft fields variables methods statements a b c d a_is b_is c_is d_is fields_are methods_are variables_are
    statements_are =
    let one : fields ≡ (draft_places (draft_shape draft)).fields =
    fields_are ∙ ap (λ (xs : List FieldDraft). map (λ (field : FieldShape). field.name.at) (map field_shape xs)) a_is in
    let two : methods ≡ (draft_places (draft_shape draft)).methods =
    methods_are
    ∙ ap (λ (xs : List MethodDraft). map (λ (method : MethodShape). method.name.at) (map method_shape xs)) b_is in
    let three : variables ≡ (draft_places (draft_shape draft)).variables =
    variables_are
    ∙ ap (λ (xs : List MethodDraft). flat_map (λ (one : MethodDraft). method_variables (method_shape one)) xs) c_is
    ∙ sym (flat_map-map method_variables method_shape draft.methods.items) in
    let four : statements ≡ (draft_places (draft_shape draft)).statements =
    statements_are
    ∙ ap (λ (xs : List MethodDraft). flat_map (λ (one : MethodDraft). method_starts (method_shape one)) xs) d_is
    ∙ sym (flat_map-map method_starts method_shape draft.methods.items) in
    cc
