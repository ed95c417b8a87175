-- Where tokens lack a word, nothing in their draft is written with it.
use Rattle.std.proofs.Common.{◌≢◌, ℕ, suc, ◌+◌, true, false, List, [], ◌∷◌, Option, Some, None, ◌∙◌, ap}
use Rattle.std.proofs.Common.{subst, sym, arith}
use Rattle.std.specs.Prelude.{⊤}
use Rattle.std.specs.List.{AllByRecursion}
use Rattle.jif_lex.specs.declared.token.Token.{Token}
use Rattle.jif_lex.specs.declared.token.TokenKind.{TokenKind}
use Rattle.jif_lex.specs.declared.token.TokenKind.TheVariants as kind
use Rattle.jif_lex.specs.declared.token.Symbol.TheVariants.{Semicolon, Comma, RightBrace}
use Rattle.jif_lex.specs.declared.token.Word.{Word}
use Rattle.jif_lex.specs.declared.token.Word.TheVariants.{Declassify, Endorse}
use Rattle.label_lattice.specs.Written.{Part, policy, trust, symbol, kinds}
use Rattle.jif_grammar.specs.Phrases as phrase
use Rattle.jif_grammar.specs.Phrases.{LabelPhrase, ExprPhrase, BlockPhrase, FieldEnd, ParamPhrase, MethodPhrase}
use Rattle.jif_grammar.specs.Phrases.{ProgramPhrase, complement, minus, release, acceptance}
use Rattle.jif_grammar.specs.Unmarked.{joined_then, name_then, names_then, part_then, label_then, expr_then, args_then}
use Rattle.jif_grammar.specs.Unmarked.{optional_label_then, block_then, field_end_then, param_then}
use Rattle.jif_grammar.specs.Unmarked.{authority_then, result_then, head_then, item_then, program_then}
use Rattle.jif_grammar.specs.DraftShapes.{ExprShape, number_shape, variable_shape, element_shape, complement_shape}
use Rattle.jif_grammar.specs.DraftShapes.{negation_shape, binary_shape, release_shape, endorsement_shape}
use Rattle.jif_grammar.specs.DraftShapes.{BlockShape, end_shape, declaration_shape, assignment_shape}
use Rattle.jif_grammar.specs.DraftShapes.{element_assignment_shape, branch_shape, loop_shape, call_shape}
use Rattle.jif_grammar.specs.DraftShapes.{return_shape, MethodShape, DraftShape}
use Rattle.jif_grammar.specs.Drafts.{expr_at, expr_width, args_at, block_at, result_at, method_at, methods_at, after_item}
use Rattle.jif_grammar.specs.Programs as grammar
use Rattle.jif_grammar.specs.Programs.{line_at}
use Rattle.jif_grammar.proofs.Continued.{program_unmarked}
use Rattle.source_words.specs.Words.{LacksWord}

-- ---- drafts

-- nothing in a value is written with the word
abbrev pub ShapeLacks : Word → ExprShape → Type 0
ShapeLacks word (number_shape value) = ⊤
ShapeLacks word (variable_shape name) = ⊤
ShapeLacks word (element_shape name index) = ShapeLacks word index
ShapeLacks word (complement_shape operand) = ShapeLacks word operand
ShapeLacks word (negation_shape operand) = ShapeLacks word operand
ShapeLacks word (binary_shape operator left right) = ShapeLacks word left × ShapeLacks word right
ShapeLacks word (release_shape operand label) = (Declassify ≢ word) × ShapeLacks word operand
ShapeLacks word (endorsement_shape operand label) = (Endorse ≢ word) × ShapeLacks word operand

-- nor in a statement of a block, or of a block in it
abbrev pub BlockLacks : Word → BlockShape → Type 0
BlockLacks word end_shape = ⊤
BlockLacks word (declaration_shape start label name value rest) = ShapeLacks word value × BlockLacks word rest
BlockLacks word (assignment_shape start name value rest) = ShapeLacks word value × BlockLacks word rest
BlockLacks word (element_assignment_shape start name index value rest) =
    ShapeLacks word index × ShapeLacks word value × BlockLacks word rest
BlockLacks word (branch_shape start guard first second rest) =
    ShapeLacks word guard × BlockLacks word first × BlockLacks word second × BlockLacks word rest
BlockLacks word (loop_shape start guard body rest) =
    ShapeLacks word guard × BlockLacks word body × BlockLacks word rest
BlockLacks word (call_shape start name args into rest) = AllByRecursion (ShapeLacks word) args × BlockLacks word rest
BlockLacks word (return_shape start value rest) = ShapeLacks word value × BlockLacks word rest

-- nor in any method
abbrev pub MethodsLack : Word → List MethodShape → Type 0
MethodsLack word methods = AllByRecursion (λ method. BlockLacks word method.body) methods

-- ---- the tokens of phrases

module _ (word : Word) where
  abbrev Lack : List TokenKind → Type 0
  Lack tokens = AllByRecursion (λ token. token ≢ kind.Word word) tokens

  -- what holds of the phrase by its tokens, and of the tokens behind it
  abbrev Found : {X : Type 0} → (X → List TokenKind → List TokenKind) → (X → Type 0) → X → Type 0
  Found tokens R x = (rest : List TokenKind) → Lack (tokens x rest) → R x × Lack rest

  -- nothing is said of the phrase
  abbrev Passed : {X : Type 0} → (X → List TokenKind → List TokenKind) → X → Type 0
  Passed tokens x = Found tokens (λ it. ⊤) x

  joined_found : {X : Type 0} (separator : TokenKind) (tokens : X → List TokenKind → List TokenKind) (R : X → Type 0) →
      ((x : X) → Found tokens R x) → (items : List X) →
      Found (joined_then separator tokens) (AllByRecursion R) items
  joined_found separator tokens R each [] rest all = (tt, all)
  joined_found separator tokens R each (item ∷ []) rest all =
      let one = each item rest all in ((one.0, tt), one.1)
  joined_found separator tokens R each (item ∷ next ∷ items) rest all =
      let one = each item (separator ∷ joined_then separator tokens (next ∷ items) rest) all in
      let behind = joined_found separator tokens R each (next ∷ items) rest one.1.1 in
      ((one.0, behind.0), behind.1)

  joined_passed : {X : Type 0} (separator : TokenKind) (tokens : X → List TokenKind → List TokenKind) →
      ((x : X) → Passed tokens x) → (items : List X) (rest : List TokenKind) →
      Lack (joined_then separator tokens items rest) → Lack rest
  joined_passed separator tokens each items rest all =
      (joined_found separator tokens (λ it. ⊤) each items rest all).1

  names_passed : (names : List (List ℕ)) (rest : List TokenKind) → Lack (names_then names rest) → Lack rest
  names_passed names rest all = joined_passed (symbol Comma) name_then (λ name more each. (tt, each.1)) names rest all

  part_passed : (part : Part) → Passed part_then part
  part_passed (policy owner readers) rest all = (tt, names_passed readers rest all.1.1)
  part_passed (trust members) rest all = (tt, names_passed members rest all.1.1)

  label_passed : (label : LabelPhrase) (rest : List TokenKind) → Lack (label_then label rest) → Lack rest
  label_passed label rest all =
      (joined_passed (symbol Semicolon) part_then part_passed label (symbol RightBrace ∷ rest) all.1).1

  optional_passed : (label : Option LabelPhrase) (rest : List TokenKind) → Lack (optional_label_then label rest) →
      Lack rest
  optional_passed None rest all = all
  optional_passed (Some label) rest all = label_passed label rest all

  -- ---- expressions

  abbrev LacksAnywhere : ExprPhrase → Type 0
  LacksAnywhere e = (at : ℕ) → ShapeLacks word (expr_at at e)

  expr_found : (e : ExprPhrase) → Found expr_then LacksAnywhere e
  expr_found (phrase.number n) rest all = (λ at. tt, all.1)
  expr_found (phrase.variable name) rest all = (λ at. tt, all.1)
  expr_found (phrase.element name index) rest all =
      let inner = expr_found index _ all.1.1 in (λ at. inner.0 (at + 2), inner.1.1)
  expr_found (phrase.parenthesized inside) rest all =
      let inner = expr_found inside _ all.1 in (λ at. inner.0 (at + 1), inner.1.1)
  expr_found (phrase.signed complement inside) rest all =
      let inner = expr_found inside rest all.1 in (λ at. inner.0 (at + 1), inner.1)
  expr_found (phrase.signed minus inside) rest all =
      let inner = expr_found inside rest all.1 in (λ at. inner.0 (at + 1), inner.1)
  expr_found (phrase.binary operator left right) rest all =
      let one = expr_found left _ all in
      let two = expr_found right rest one.1.1 in
      (λ at. (one.0 at, two.0 (at + expr_width left + 1)), two.1)
  expr_found (phrase.relabelled release inside label) rest all =
      let inner = expr_found inside _ all.1.1 in
      (λ at. ((λ same. all.0 (ap kind.Word same)), inner.0 (at + 2)), (label_passed label _ inner.1.1).1)
  expr_found (phrase.relabelled acceptance inside label) rest all =
      let inner = expr_found inside _ all.1.1 in
      (λ at. ((λ same. all.0 (ap kind.Word same)), inner.0 (at + 2)), (label_passed label _ inner.1.1).1)

  args_found : (args : List ExprPhrase) → Found args_then (AllByRecursion LacksAnywhere) args
  args_found args rest all = joined_found (symbol Comma) expr_then LacksAnywhere expr_found args rest all

  args_lack : (args : List ExprPhrase) → AllByRecursion LacksAnywhere args → (at : ℕ) →
      AllByRecursion (ShapeLacks word) (args_at at args)
  args_lack [] lack at = tt
  args_lack (arg ∷ args) lack at = (lack.0 at, args_lack args lack.1 (at + expr_width arg + 1))

  -- ---- blocks

  abbrev LacksBefore : BlockPhrase → Type 0
  LacksBefore block = (lines : ℕ → ℕ) (at : ℕ) (behind : BlockShape) → BlockLacks word behind →
      BlockLacks word (block_at lines at block behind)

  block_found : (block : BlockPhrase) → Found block_then LacksBefore block
  block_found phrase.end rest all = (λ lines at behind lack. lack, all)
  block_found (phrase.declaration label name value more) rest all =
      let own = optional_passed label _ all.1 in
      let one = expr_found value _ own.1.1 in
      let two = block_found more rest one.1.1 in
      (λ lines at behind lack. (one.0 _, two.0 lines _ behind lack), two.1)
  block_found (phrase.assignment name value more) rest all =
      let one = expr_found value _ all.1.1 in
      let two = block_found more rest one.1.1 in
      (λ lines at behind lack. (one.0 (at + 2), two.0 lines _ behind lack), two.1)
  block_found (phrase.element_assignment name index value more) rest all =
      let one = expr_found index _ all.1.1 in
      let two = expr_found value _ one.1.1.1 in
      let three = block_found more rest two.1.1 in
      (λ lines at behind lack. (one.0 (at + 2), two.0 _, three.0 lines _ behind lack), three.1)
  block_found (phrase.call name args more) rest all =
      let one = args_found args _ all.1.1 in
      let two = block_found more rest one.1.1.1 in
      (λ lines at behind lack. (args_lack args one.0 (at + 2), two.0 lines _ behind lack), two.1)
  block_found (phrase.call_into into name args more) rest all =
      let one = args_found args _ all.1.1.1.1 in
      let two = block_found more rest one.1.1.1 in
      (λ lines at behind lack. (args_lack args one.0 (at + 4), two.0 lines _ behind lack), two.1)
  block_found (phrase.branch guard first more) rest all =
      let one = expr_found guard _ all.1.1 in
      let two = block_found first _ one.1.1.1 in
      let three = block_found more rest two.1.1 in (
        λ lines at behind lack. (one.0 (at + 2), two.0 lines _ end_shape tt, tt, three.0 lines _ behind lack),
        three.1,
      )
  block_found (phrase.branch_else guard first second more) rest all =
      let one = expr_found guard _ all.1.1 in
      let two = block_found first _ one.1.1.1 in
      let three = block_found second _ two.1.1.1.1 in
      let four = block_found more rest three.1.1 in (
        λ lines at behind lack.
            (one.0 (at + 2), two.0 lines _ end_shape tt, three.0 lines _ end_shape tt, four.0 lines _ behind lack),
        four.1,
      )
  block_found (phrase.loop guard body more) rest all =
      let one = expr_found guard _ all.1.1 in
      let two = block_found body _ one.1.1.1 in
      let three = block_found more rest two.1.1 in
      (λ lines at behind lack. (one.0 (at + 2), two.0 lines _ end_shape tt, three.0 lines _ behind lack), three.1)

  result_found : (result : Option ExprPhrase) →
      Found result_then (λ r. (lines : ℕ → ℕ) (at : ℕ) → BlockLacks word (result_at lines at r)) result
  result_found None rest all = (λ lines at. tt, all)
  result_found (Some value) rest all =
      let one = expr_found value _ all.1 in (λ lines at. (one.0 (at + 1), tt), one.1.1)

  -- ---- methods and fields

  param_passed : (param : ParamPhrase) → Passed param_then param
  param_passed param rest all = (tt, (label_passed param.label _ all.1).1)

  authority_passed : (names : List (List ℕ)) (rest : List TokenKind) → Lack (authority_then names rest) → Lack rest
  authority_passed [] rest all = all
  authority_passed (name ∷ names) rest all = (names_passed (name ∷ names) _ all.1.1.1).1

  head_passed : (kind : Option LabelPhrase) (name : List ℕ) (begin : LabelPhrase) (rest : List TokenKind) →
      Lack (head_then kind name begin rest) → Lack rest
  head_passed None name begin rest all = label_passed begin rest all.1.1
  head_passed (Some label) name begin rest all = label_passed begin rest (label_passed label _ all.1).1

  method_found : (method : MethodPhrase) (rest : List TokenKind) → Lack (item_then (phrase.method method) rest) →
      ((lines : ℕ → ℕ) (at : ℕ) → BlockLacks word (method_at lines at method).body) × Lack rest
  method_found method rest all =
      let head = head_passed method.kind method.name method.begin _ all in
      let params = joined_passed (symbol Comma) param_then param_passed method.params _ head.1 in
      let authority = authority_passed method.authority _ params.1 in
      let body = block_found method.body _ authority.1 in
      let result = result_found method.result _ body.1 in
      (λ lines at. body.0 lines _ _ (result.0 lines _), result.1.1)

  end_passed : (ending : FieldEnd) (rest : List TokenKind) → Lack (field_end_then ending rest) → Lack rest
  end_passed phrase.unset rest all = all.1
  end_passed (phrase.sized size) rest all = all.1.1.1.1
  end_passed (phrase.set false n) rest all = all.1.1.1
  end_passed (phrase.set true n) rest all = all.1.1.1.1

  items_found : (program : ProgramPhrase) → Lack (program_then program []) → (lines : ℕ → ℕ) (at : ℕ) →
      MethodsLack word (methods_at lines at program)
  items_found [] all lines at = tt
  items_found (phrase.field field ∷ items) all lines at =
      let name = label_passed field.label _ all.1 in
      items_found items (end_passed field.ending _ name.1) lines (after_item at (phrase.field field))
  items_found (phrase.method method ∷ items) all lines at =
      let own = method_found method _ all in
      (own.0 lines at, items_found items own.1 lines (after_item at (phrase.method method)))

  all_lack : (list : List Token) → LacksWord word list → Lack (kinds list)
  all_lack [] all = tt
  all_lack (token ∷ list) all =
      (all 0 token (omega arith), all_lack list (λ k d within. all (suc k) d (omega (arith, within))))

  -- nothing in the draft is written with the word
  pub draft_lacks : (list : List Token) (draft : DraftShape) → grammar.IsProgramOf list draft → LacksWord word list →
      MethodsLack word draft.methods
  draft_lacks list draft is lack =
      subst (λ (it : DraftShape). MethodsLack word it.methods) (sym is.draft_is)
      (items_found is.program
      (subst Lack (is.text.spells.written ∙ program_unmarked is.program) (all_lack list lack)) (line_at list) 0)
