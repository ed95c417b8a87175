-- The statements of a program are on the lines of the tokens where its draft has them.
use Rattle.std.proofs.Common.{◌≡◌, ℕ, zero, suc, List, [], ◌∷◌, ◌++◌, map, Option, Some, None, refl}
use Rattle.std.proofs.Common.{sym, ap, ◌∙◌, subst}
use Rattle.std.specs.Prelude.{⊤}
use Rattle.std.specs.List.{AllZip}
use Rattle.std.proofs.lemmas.List.{map-append}
use Rattle.principals.specs.ActsFor.{Declared}
use Rattle.jif_lex.specs.declared.token.Token.{Token}
use Rattle.jif_grammar.specs.DraftShapes.{BlockShape, end_shape, declaration_shape, assignment_shape}
use Rattle.jif_grammar.specs.DraftShapes.{element_assignment_shape, branch_shape, loop_shape, call_shape}
use Rattle.jif_grammar.specs.DraftShapes.{return_shape, DraftShape, FieldShape, MethodShape}
use Rattle.jif_grammar.specs.Drafts.{block_at, methods_at, result_at}
use Rattle.jif_grammar.specs.Phrases.{BlockPhrase, end, declaration, assignment, element_assignment, call, call_into}
use Rattle.jif_grammar.specs.Phrases.{branch, branch_else, loop, ExprPhrase, field as field_item, method as method_item, ProgramPhrase}
use Rattle.jif_grammar.specs.Programs as grammar
use Rattle.jif_grammar.specs.Programs.{line_at}
use Rattle.jif_resolve.specs.declared.meaning.Meaning.{Meaning}
use Rattle.jif_resolve.specs.declared.meaning.Meaning.TheVariants as sense
use Rattle.jif_resolve.specs.Faults.{setting_of}
use Rattle.jif_resolve.specs.Meanings.{Global, globals_of}
use Rattle.jif_resolve.specs.Places.{Place, Setting, after_block, after_call, after_declaration, after_statement}
use Rattle.jif_resolve.specs.Places.{body_place, head_after, meaning_at}
use Rattle.jif_resolve.specs.Resolved.{AreMethodsFor, IsBlockFor, IsFieldFor, assignment_tree, heading_of}
use Rattle.jif_resolve.specs.Verdicts.{IsProgramOf}
use Rattle.jif_tree.specs.Numbering.{block_lines}
use Rattle.jif_tree.specs.Trees.{BlockTree, ExprTree, FieldTree, Heading, MethodTree, ProgramTree, set_field, set_local}
use Rattle.explain_texts.specs.DraftPlaces.{block_starts}
use Rattle.explain_texts.specs.TokenTexts.{token_line}
use Rattle.resolved_laws.specs.Written.{IsWrittenAs}

-- ---- drafts

-- each statement begins on the line of its first token
abbrev AreLined : (ℕ → ℕ) → BlockShape → Type 0
AreLined lines end_shape = ⊤
AreLined lines (declaration_shape start label name value rest) = (start.line ≡ lines start.at) × AreLined lines rest
AreLined lines (assignment_shape start name value rest) = (start.line ≡ lines start.at) × AreLined lines rest
AreLined lines (element_assignment_shape start name index value rest) =
    (start.line ≡ lines start.at) × AreLined lines rest
AreLined lines (branch_shape start guard first second rest) =
    (start.line ≡ lines start.at) × AreLined lines first × AreLined lines second × AreLined lines rest
AreLined lines (loop_shape start guard body rest) =
    (start.line ≡ lines start.at) × AreLined lines body × AreLined lines rest
AreLined lines (call_shape start name args into rest) = (start.line ≡ lines start.at) × AreLined lines rest
AreLined lines (return_shape start value rest) = (start.line ≡ lines start.at) × AreLined lines rest

block_lined : (lines : ℕ → ℕ) (phrase : BlockPhrase) (behind : BlockShape) (at : ℕ) → AreLined lines behind →
    AreLined lines (block_at lines at phrase behind)
block_lined lines end behind at are = are
block_lined lines (declaration label name value rest) behind at are = (refl, block_lined lines rest behind _ are)
block_lined lines (assignment name value rest) behind at are = (refl, block_lined lines rest behind _ are)
block_lined lines (element_assignment name index value rest) behind at are =
    (refl, block_lined lines rest behind _ are)
block_lined lines (call name args rest) behind at are = (refl, block_lined lines rest behind _ are)
block_lined lines (call_into into name args rest) behind at are = (refl, block_lined lines rest behind _ are)
block_lined lines (branch guard first rest) behind at are =
    (refl, block_lined lines first end_shape _ tt, tt, block_lined lines rest behind _ are)
block_lined lines (branch_else guard first second rest) behind at are = (
  refl,
  block_lined lines first end_shape _ tt,
  block_lined lines second end_shape _ tt,
  block_lined lines rest behind _ are,
)
block_lined lines (loop guard body rest) behind at are =
    (refl, block_lined lines body end_shape _ tt, block_lined lines rest behind _ are)

result_lined : (lines : ℕ → ℕ) (at : ℕ) (result : Option ExprPhrase) → AreLined lines (result_at lines at result)
result_lined lines at None = tt
result_lined lines at (Some value) = (refl, tt)

-- so it is of all methods
abbrev AreAllLined : (ℕ → ℕ) → List MethodShape → Type 0
AreAllLined lines [] = ⊤
AreAllLined lines (method ∷ methods) = AreLined lines method.body × AreAllLined lines methods

methods_lined : (lines : ℕ → ℕ) (program : ProgramPhrase) (at : ℕ) → AreAllLined lines (methods_at lines at program)
methods_lined lines [] at = tt
methods_lined lines (field_item phrase ∷ items) at = methods_lined lines items _
methods_lined lines (method_item phrase ∷ items) at =
    (block_lined lines phrase.body _ _ (result_lined lines _ phrase.result), methods_lined lines items _)

-- ---- statements

-- the statements of a block, each on the line of its first token
abbrev AreOnLines : (ℕ → ℕ) → BlockShape → BlockTree → Type 0
AreOnLines lines shape tree = block_lines tree ≡ map lines (block_starts shape)

on_one : (lines : ℕ → ℕ) (line at : ℕ) (first : List ℕ) (starts : List ℕ) → line ≡ lines at →
    first ≡ map lines starts → line ∷ first ≡ map lines (at ∷ starts)
on_one lines line at first starts one rest = cc

on_two : (lines : ℕ → ℕ) (first second : List ℕ) (one two : List ℕ) → first ≡ map lines one →
    second ≡ map lines two → first ++ second ≡ map lines (one ++ two)
on_two lines first second one two is also =
    let both : map lines (one ++ two) ≡ map lines one ++ map lines two = map-append lines one two in cc

assigned_on : (lines : ℕ → ℕ) (heading : Heading) (meaning : Option Meaning) (value : ExprTree)
    (behind tree : BlockTree) (starts : List ℕ) → assignment_tree heading meaning value behind ≡ Some tree →
    heading.line ∷ block_lines behind ≡ map lines starts → block_lines tree ≡ map lines starts
assigned_on lines heading None value behind tree starts is on = absurd cc
assigned_on lines heading (Some (sense.Variable variable)) value behind tree starts is on =
    let same : tree ≡ set_local heading variable value behind = cc in ap block_lines same ∙ on
assigned_on lines heading (Some (sense.Plain field)) value behind tree starts is on =
    let same : tree ≡ set_field heading field value behind = cc in ap block_lines same ∙ on
assigned_on lines heading (Some (sense.Array field)) value behind tree starts is on = absurd cc
assigned_on lines heading (Some (sense.Method method params gives)) value behind tree starts is on = absurd cc

block_on : (lines : ℕ → ℕ) (setting : Setting) (place : Place) (shape : BlockShape) (tree : BlockTree) →
    AreLined lines shape → IsBlockFor setting place shape tree → AreOnLines lines shape tree
block_on lines setting place end_shape tree are is = ap block_lines is
block_on lines setting place (declaration_shape start written name value rest) tree are is =
    ap block_lines is.2
    ∙ on_one lines start.line start.at (block_lines is.1) (block_starts rest) are.0
    (block_on lines setting (after_declaration place name) rest is.1 are.1 is.4)
block_on lines setting place (assignment_shape start name value rest) tree are is =
    assigned_on lines (heading_of place start) (meaning_at setting place name.text) is.0 is.1 tree
    (start.at ∷ block_starts rest) is.2
    (on_one lines start.line start.at (block_lines is.1) (block_starts rest) are.0
    (block_on lines setting (after_statement place) rest is.1 are.1 is.4))
block_on lines setting place (element_assignment_shape start name index value rest) tree are is =
    ap block_lines is.4
    ∙ on_one lines start.line start.at (block_lines is.3) (block_starts rest) are.0
    (block_on lines setting (after_statement place) rest is.3 are.1 is.8)
block_on lines setting place (branch_shape start guard first second rest) tree are is =
    let inside = after_statement place in
    let between = after_block inside first in
    ap block_lines is.4
    ∙ on_one lines start.line start.at (block_lines is.1 ++ block_lines is.2 ++ block_lines is.3)
    ((block_starts first ++ block_starts second) ++ block_starts rest) are.0
    (on_two lines (block_lines is.1 ++ block_lines is.2) (block_lines is.3) (block_starts first ++ block_starts second)
    (block_starts rest)
    (on_two lines (block_lines is.1) (block_lines is.2) (block_starts first) (block_starts second)
    (block_on lines setting inside first is.1 are.1 is.6) (block_on lines setting between second is.2 are.2 is.7))
    (block_on lines setting (after_block between second) rest is.3 are.3 is.8))
block_on lines setting place (loop_shape start guard body rest) tree are is =
    let inside = after_statement place in
    ap block_lines is.3
    ∙ on_one lines start.line start.at (block_lines is.1 ++ block_lines is.2) (block_starts body ++ block_starts rest)
    are.0
    (on_two lines (block_lines is.1) (block_lines is.2) (block_starts body) (block_starts rest)
    (block_on lines setting inside body is.1 are.1 is.5)
    (block_on lines setting (after_block inside body) rest is.2 are.2 is.6))
block_on lines setting place (call_shape start name args into rest) tree are is =
    ap block_lines is.4
    ∙ on_one lines start.line start.at (block_lines is.3) (block_starts rest) are.0
    (block_on lines setting (after_call place) rest is.3 are.1 is.8)
block_on lines setting place (return_shape start value rest) tree are is =
    ap block_lines is.2
    ∙ on_one lines start.line start.at (block_lines is.1) (block_starts rest) are.0
    (block_on lines setting (after_statement place) rest is.1 are.1 is.4)

-- ---- the lines of tokens

line_is : (list : List Token) (n : ℕ) → line_at list n ≡ token_line list n
line_is [] n = refl
line_is (token ∷ list) zero = refl
line_is (token ∷ list) (suc n) = line_is list n

same_lines : (list : List Token) (starts : List ℕ) → map (line_at list) starts ≡ map (token_line list) starts
same_lines list [] = refl
same_lines list (start ∷ starts) =
    let first = line_is list start in
    let others = same_lines list starts in cc

-- ---- methods and fields

methods_written : (list : List Token) (principals : Declared) (globals : List Global)
    (before methods : List MethodShape) (trees : List MethodTree) → AreAllLined (line_at list) methods →
    AreMethodsFor principals globals before methods trees → AllZip (IsWrittenAs list) methods trees
methods_written list principals globals before [] trees lined are =
    subst (AllZip (IsWrittenAs list) []) (sym are) tt
methods_written list principals globals before (method ∷ methods) trees lined are =
    let setting = setting_of principals globals method in
    let head = head_after before in
    subst (AllZip (IsWrittenAs list) (method ∷ methods)) (sym are.2) (
      record {
        name = are.3.name;
        line = are.3.line;
        statements = block_on (line_at list) setting (body_place head method) method.body are.0.body lined.0 are.3.body
            ∙ same_lines list (block_starts method.body);
      },
      methods_written list principals globals (before ++ method ∷ []) methods are.1 lined.1 are.4,
    )

pub written : (principals : Declared) (list : List Token) (draft : DraftShape) (tree : ProgramTree) →
    grammar.IsProgramOf list draft → IsProgramOf principals draft tree →
    AllZip (IsWrittenAs list) draft.methods tree.methods
written principals list draft tree parsed is =
    let lined : AreAllLined (line_at list) draft.methods =
    subst (λ (d : DraftShape). AreAllLined (line_at list) d.methods) (sym parsed.draft_is)
    (methods_lined (line_at list) parsed.program 0) in
    methods_written list principals (globals_of draft) [] draft.methods tree.methods lined is.is_tree.methods

fields_named : (principals : Declared) (fields : List FieldShape) (trees : List FieldTree) →
    AllZip (IsFieldFor principals) fields trees → map (λ field. field.name) trees ≡ map (λ field. field.name.text) fields
fields_named principals [] [] are = refl
fields_named principals [] (tree ∷ trees) are = absurd are
fields_named principals (field ∷ fields) [] are = absurd are
fields_named principals (field ∷ fields) (tree ∷ trees) are =
    let first : tree.name ≡ field.name.text = are.0.name in
    let others = fields_named principals fields trees are.1 in cc

pub named : (principals : Declared) (draft : DraftShape) (tree : ProgramTree) → IsProgramOf principals draft tree →
    map (λ field. field.name) tree.fields ≡ map (λ field. field.name.text) draft.fields
named principals draft tree is = fields_named principals draft.fields tree.fields is.is_tree.fields
