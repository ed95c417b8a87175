-- Where the parts of a program are written: the numbers of tokens, by the order of the draft, which is that of fields,
-- variables, methods and statements in the tree.
use Rattle.std.specs.Prelude.{ℕ, List, [], ◌∷◌, ◌++◌, map, Option, Some, None}
use Rattle.std.specs.List.{flat_map}
use Rattle.jif_tree.specs.declared.draft.StmtKindDraft.{StmtKindDraft}
use Rattle.jif_tree.specs.declared.draft.StmtKindDraft as kind
use Rattle.jif_grammar.specs.DraftShapes.{BlockShape, end_shape, declaration_shape, assignment_shape}
use Rattle.jif_grammar.specs.DraftShapes.{element_assignment_shape, branch_shape, loop_shape, call_shape}
use Rattle.jif_grammar.specs.DraftShapes.{return_shape, LabelShape, MethodShape, DraftShape, name_shape}
use Rattle.jif_grammar.specs.DraftShapes.{row_shape}
use Rattle.explain_texts.specs.declared.written.Places.{Places}

-- ---- blocks

-- the first token of each statement of a block, with those of the blocks inside it
abbrev pub block_starts : BlockShape → List ℕ
block_starts end_shape = []
block_starts (declaration_shape start label name value rest) = start.at ∷ block_starts rest
block_starts (assignment_shape start name value rest) = start.at ∷ block_starts rest
block_starts (element_assignment_shape start name index value rest) = start.at ∷ block_starts rest
block_starts (branch_shape start guard first second rest) =
    start.at ∷ (block_starts first ++ block_starts second) ++ block_starts rest
block_starts (loop_shape start guard body rest) = start.at ∷ block_starts body ++ block_starts rest
block_starts (call_shape start name args into rest) = start.at ∷ block_starts rest
block_starts (return_shape start value rest) = start.at ∷ block_starts rest

-- the name of each local that a block declares, in the same order
abbrev pub block_locals : BlockShape → List ℕ
block_locals end_shape = []
block_locals (declaration_shape start label name value rest) = name.at ∷ block_locals rest
block_locals (assignment_shape start name value rest) = block_locals rest
block_locals (element_assignment_shape start name index value rest) = block_locals rest
block_locals (branch_shape start guard first second rest) =
    (block_locals first ++ block_locals second) ++ block_locals rest
block_locals (loop_shape start guard body rest) = block_locals body ++ block_locals rest
block_locals (call_shape start name args into rest) = block_locals rest
block_locals (return_shape start value rest) = block_locals rest

-- ---- one statement of the code, with those in its blocks

-- those in its blocks
abbrev pub kind_starts : StmtKindDraft → List ℕ
kind_starts (kind.If' guard m first n second) = block_starts (row_shape first) ++ block_starts (row_shape second)
kind_starts (kind.While' guard m body) = block_starts (row_shape body)
kind_starts other = []

-- the local that it declares, or those that are declared in its blocks
abbrev pub kind_locals : StmtKindDraft → List ℕ
kind_locals (kind.Declare label name value) = (name_shape name).at ∷ []
kind_locals (kind.If' guard m first n second) = block_locals (row_shape first) ++ block_locals (row_shape second)
kind_locals (kind.While' guard m body) = block_locals (row_shape body)
kind_locals other = []

-- ---- methods and drafts

-- the result of a method is written where the method's name is
abbrev pub result_token : Option LabelShape → ℕ → List ℕ
result_token None name = []
result_token (Some label) name = name ∷ []

abbrev pub method_variables : MethodShape → List ℕ
method_variables method =
    map (λ param. param.name.at) method.params ++ (block_locals method.body
    ++ result_token method.result method.name.at)

-- a head is known by the method's name
abbrev pub method_starts : MethodShape → List ℕ
method_starts method = method.name.at ∷ block_starts method.body

-- the tokens of names, and for statements the first tokens
pub record PlacesShape : Type 0 where
  pub fields : List ℕ
  pub variables : List ℕ
  pub methods : List ℕ
  pub statements : List ℕ

abbrev pub draft_places : DraftShape → PlacesShape
draft_places draft = record {
  fields = map (λ field. field.name.at) draft.fields;
  variables = flat_map method_variables draft.methods;
  methods = map (λ method. method.name.at) draft.methods;
  statements = flat_map method_starts draft.methods;
}

abbrev pub places_shape : Places → PlacesShape
places_shape places = record {
  fields = places.fields.items;
  variables = places.variables.items;
  methods = places.methods.items;
  statements = places.statements.items;
}
