-- What the phrases of a block are, read again: the same block, but for its lines.
use Rattle.std.proofs.Common.{◌≡◌, ℕ, ◌+◌, Bool, true, List, [], map, length, Option, Some, None, sym, subst}
use Rattle.std.specs.Prelude.{⊤}
use Rattle.std.specs.List.{AllZip, AllByRecursion}
use Rattle.js_base.specs.Name.{IsName}
use Rattle.js_base.specs.declared.ids.FieldId.{FieldId}
use Rattle.js_base.specs.declared.ids.VarId.{VarId}
use Rattle.principals.specs.ActsFor.{IsDeclared}
use Rattle.jif_tree.specs.Named.{IsNameInText}
use Rattle.jif_tree.specs.Trees.{ExprTree, Heading, BlockTree, set_local, set_field, ProgramTree}
use Rattle.jif_grammar.specs.Phrases as phrase
use Rattle.jif_grammar.specs.Phrases.{LabelPhrase, ExprPhrase, BlockPhrase}
use Rattle.jif_grammar.specs.DraftShapes.{NameShape, ExprShape, BlockShape, end_shape}
use Rattle.jif_grammar.specs.DraftShapes.{declaration_shape, assignment_shape, element_assignment_shape}
use Rattle.jif_grammar.specs.DraftShapes.{branch_shape, loop_shape, call_shape, return_shape}
use Rattle.jif_grammar.specs.Drafts.{block_at, result_at}
use Rattle.jif_resolve.specs.Counts.{locals_in, statements_in, calls_in}
use Rattle.jif_resolve.specs.Meanings.{Global}
use Rattle.jif_resolve.specs.Places.{Setting, Place, meaning_at}
use Rattle.jif_resolve.specs.Places.{after_statement, after_call, after_declaration, after_block}
use Rattle.jif_resolve.specs.Faults.{block_faults, ends_in_return}
use Rattle.jif_resolve.specs.Resolved.{assignment_tree, IsExprFor, heading_of, IsBlockFor}
use Rattle.jif_resolve.specs.Returns.{HasNoReturn, ReturnsLast}
use Rattle.jif_resolve.specs.declared.meaning.Meaning.{Meaning}
use Rattle.jif_resolve.specs.declared.meaning.Meaning.TheVariants as sense
use Rattle.jif_parse.specs.PrintedNames.{Naming}
use Rattle.jif_parse.specs.PrintedExprs.{expr_phrase}
use Rattle.jif_parse.specs.PrintedProgram.{seen_behind}
use Rattle.jif_parse.specs.PrintedBack.{block_without_lines}
use Rattle.jif_parse.proofs.PrintedApart.{IsNamedBlock, IsNamedResult}
use Rattle.jif_parse.proofs.PrintedPhrases.{branch_phrase, call_phrase, block_phrase, result_phrase}
use Rattle.jif_parse.proofs.PrintedSpelled.{HasNone, HasLast}
use Rattle.jif_parse.proofs.PrintedLabels.{Laws}
use Rattle.jif_parse.proofs.PrintedBackExprs.{SameGlobals, with_globals, naming_in, IsNamedShape}
use Rattle.jif_parse.proofs.PrintedKnown.{LocalsAre, GlobalsAre}

-- ---- what is asked of a block, and what is found

abbrev pub IsNamedInto : Option NameShape → Type 0
IsNamedInto None = ⊤
IsNamedInto (Some name) = IsName name.text

-- its names are names, those that it declares not too long, and its numbers small
abbrev pub IsNamedBlockShape : BlockShape → Type 0
IsNamedBlockShape end_shape = ⊤
IsNamedBlockShape (declaration_shape start label name value rest) =
    IsNameInText name.text × IsNamedShape value × IsNamedBlockShape rest
IsNamedBlockShape (assignment_shape start name value rest) =
    IsName name.text × IsNamedShape value × IsNamedBlockShape rest
IsNamedBlockShape (element_assignment_shape start name index value rest) =
    IsName name.text × IsNamedShape index × IsNamedShape value × IsNamedBlockShape rest
IsNamedBlockShape (branch_shape start guard first second rest) =
    IsNamedShape guard × IsNamedBlockShape first × IsNamedBlockShape second × IsNamedBlockShape rest
IsNamedBlockShape (loop_shape start guard body rest) =
    IsNamedShape guard × IsNamedBlockShape body × IsNamedBlockShape rest
IsNamedBlockShape (call_shape start name args into rest) =
    IsName name.text × AllByRecursion IsNamedShape args × IsNamedInto into × IsNamedBlockShape rest
IsNamedBlockShape (return_shape start value rest) = IsNamedShape value × IsNamedBlockShape rest

-- what all blocks of a method have in common
pub record Given : Type 0 where
  pub laws : Laws
  pub s : Setting
  pub declared : IsDeclared s.principals
  pub others : List Global
  pub same : SameGlobals s.globals others
  pub program : ProgramTree
  pub globals : GlobalsAre (naming_in s program) s.globals

abbrev pub naming_of : Given → Naming
naming_of g = naming_in g.s g.program

abbrev pub new : Given → Setting
new g = with_globals g.s g.others

abbrev pub local_names : BlockShape → List (List ℕ)
local_names b = map (λ local. local.name.text) (locals_in b)

-- The fresh shape is that of the same statements but for their lines, and leads to the same place.
pub record BlockBack (g : Given) (p : Place) (n : ℕ) (b : BlockShape) (tree : BlockTree) (fresh : BlockShape) :
    Type 0 where
  pub again : BlockTree
  pub is : IsBlockFor (new g) p fresh again
  pub same : block_without_lines again ≡ block_without_lines tree
  pub clean : block_faults (new g) p fresh ≡ []
  pub locals : LocalsAre (naming_of g) n (locals_in fresh)
  pub names : local_names fresh ≡ local_names b
  pub statements : statements_in fresh ≡ statements_in b
  pub calls : calls_in fresh ≡ calls_in b
  pub ends : ends_in_return fresh ≡ ends_in_return b

-- ---- phrases like a block

abbrev pub SameSome : {X Y : Type 0} → Option X → Option Y → Type 0
SameSome None None = ⊤
SameSome None (Some y) = ⊥
SameSome (Some x) None = ⊥
SameSome (Some x) (Some y) = ⊤

-- the shape is this expression at some place
abbrev pub IsSomewhere : ExprShape → ExprTree → Type 0
IsSomewhere shape e = (s : Setting) × (p : Place) × IsExprFor s p shape e

abbrev pub AreSomewhere : List ExprShape → List ExprTree → Type 0
AreSomewhere shapes values = (s : Setting) × (p : Place) × AllZip (IsExprFor s p) shapes values

-- The phrases have the same statements with expressions as they are printed, and what they return. An `else` stands
-- there exactly where its block has a statement.
abbrev pub Alike : Naming → BlockShape → BlockPhrase → Option ExprPhrase → Type 0
Alike naming end_shape block result = (block ≡ phrase.end) × (result ≡ None)
Alike naming (declaration_shape start label name value rest) block result =
    (own : Option LabelPhrase) × (printed : List ℕ) × (x : ExprTree) × (more : BlockPhrase)
    × (block ≡ phrase.declaration own printed (expr_phrase naming x) more) × SameSome label own
    × IsSomewhere value x × Alike naming rest more result
Alike naming (assignment_shape start name value rest) block result =
    (printed : List ℕ) × (x : ExprTree) × (more : BlockPhrase)
    × (block ≡ phrase.assignment printed (expr_phrase naming x) more)
    × IsSomewhere value x × Alike naming rest more result
Alike naming (element_assignment_shape start name index value rest) block result =
    (printed : List ℕ) × (i : ExprTree) × (x : ExprTree) × (more : BlockPhrase)
    × (block ≡ phrase.element_assignment printed (expr_phrase naming i) (expr_phrase naming x) more)
    × IsSomewhere index i × IsSomewhere value x × Alike naming rest more result
Alike naming (branch_shape start guard first second rest) block result =
    (is_empty : Bool) × (x : ExprTree) × (one : BlockPhrase) × (two : BlockPhrase) × (more : BlockPhrase)
    × (one_result : Option ExprPhrase) × (two_result : Option ExprPhrase)
    × (block ≡ branch_phrase is_empty (expr_phrase naming x) one two more)
    × (second ≡ end_shape → is_empty ≡ true) × (is_empty ≡ true → second ≡ end_shape)
    × IsSomewhere guard x × Alike naming first one one_result × Alike naming second two two_result
    × Alike naming rest more result
Alike naming (loop_shape start guard body rest) block result =
    (x : ExprTree) × (one : BlockPhrase) × (more : BlockPhrase) × (one_result : Option ExprPhrase)
    × (block ≡ phrase.loop (expr_phrase naming x) one more)
    × IsSomewhere guard x × Alike naming body one one_result × Alike naming rest more result
Alike naming (call_shape start name args into rest) block result =
    (kept : Option VarId) × (printed : List ℕ) × (values : List ExprTree) × (more : BlockPhrase)
    × (block ≡ call_phrase naming kept printed (map (expr_phrase naming) values) more) × SameSome into kept
    × AreSomewhere args values × Alike naming rest more result
Alike naming (return_shape start value rest) block result =
    (x : ExprTree) × (block ≡ phrase.end) × (result ≡ Some (expr_phrase naming x)) × IsSomewhere value x

-- the phrases of a block are that block again, wherever they stand
pub record BlockMade (g : Given) (p : Place) (n : ℕ) (b : BlockShape) (tree : BlockTree) : Type 0 where
  pub seen : seen_behind n tree ≡ n + length (locals_in b)
  pub named : IsNamedBlock (block_phrase (naming_of g) n tree)
  pub result : IsNamedResult (result_phrase (naming_of g) tree)
  pub alike : Alike (naming_of g) b (block_phrase (naming_of g) n tree) (result_phrase (naming_of g) tree)
  pub back : (lines : ℕ → ℕ) (at last : ℕ) →
      BlockBack g p n b tree (block_at lines at (block_phrase (naming_of g) n tree)
      (result_at lines last (result_phrase (naming_of g) tree)))

-- ---- where a block returns

pub assigned_tree : (Q : BlockTree → Type 0) (heading : Heading) (value : ExprTree) (rest tree : BlockTree) →
    ((v : VarId) → Q (set_local heading v value rest)) → ((f : FieldId) → Q (set_field heading f value rest)) →
    (means : Option Meaning) → assignment_tree heading means value rest ≡ Some tree → Q tree
assigned_tree Q heading value rest tree one two None made = absurd cc
assigned_tree Q heading value rest tree one two (Some (sense.Variable v)) made =
    let is : set_local heading v value rest ≡ tree = cc in subst Q is (one v)
assigned_tree Q heading value rest tree one two (Some (sense.Plain f)) made =
    let is : set_field heading f value rest ≡ tree = cc in subst Q is (two f)
assigned_tree Q heading value rest tree one two (Some (sense.Array f)) made = absurd cc
assigned_tree Q heading value rest tree one two (Some (sense.Method m params gives)) made = absurd cc

pub none_of : (s : Setting) (p : Place) (b : BlockShape) (tree : BlockTree) → HasNoReturn b → IsBlockFor s p b tree →
    HasNone tree
none_of s p end_shape tree none is = subst HasNone (sym is) tt
none_of s p (declaration_shape start written name value rest) tree none (x, r, is, one, behind) =
    subst HasNone (sym is) (none_of s (after_declaration p name) rest r none behind)
none_of s p (assignment_shape start name value rest) tree none (x, r, is, one, behind) =
    let rest_none = none_of s (after_statement p) rest r none behind in
    assigned_tree HasNone (heading_of p start) x r tree (λ v. rest_none) (λ f. rest_none) (meaning_at s p name.text) is
none_of s p (element_assignment_shape start name index value rest) tree none (f, i, x, r, is, array, at, one, behind) =
    subst HasNone (sym is) (none_of s (after_statement p) rest r none behind)
none_of s p (branch_shape start guard first second rest) tree none (x, t, u, r, is, one, inner, other, behind) =
    let inside = after_statement p in
    let between = after_block inside first in
    subst HasNone (sym is) (
      none_of s inside first t none.0 inner,
      none_of s between second u none.1 other,
      none_of s (after_block between second) rest r none.2 behind,
    )
none_of s p (loop_shape start guard body rest) tree none (x, t, r, is, one, inner, behind) =
    let inside = after_statement p in
    subst HasNone (sym is)
    (none_of s inside body t none.0 inner, none_of s (after_block inside body) rest r none.1 behind)
none_of s p (call_shape start name args into rest) tree none (m, values, kept, r, is, method, keeps, each, behind) =
    subst HasNone (sym is) (none_of s (after_call p) rest r none behind)
none_of s p (return_shape start value rest) tree none is = absurd none

pub last_of : (s : Setting) (p : Place) (b : BlockShape) (tree : BlockTree) → ReturnsLast b → IsBlockFor s p b tree →
    HasLast tree
last_of s p end_shape tree last is = subst HasLast (sym is) tt
last_of s p (declaration_shape start written name value rest) tree last (x, r, is, one, behind) =
    subst HasLast (sym is) (last_of s (after_declaration p name) rest r last behind)
last_of s p (assignment_shape start name value rest) tree last (x, r, is, one, behind) =
    let rest_last = last_of s (after_statement p) rest r last behind in
    assigned_tree HasLast (heading_of p start) x r tree (λ v. rest_last) (λ f. rest_last) (meaning_at s p name.text) is
last_of s p (element_assignment_shape start name index value rest) tree last (f, i, x, r, is, array, at, one, behind) =
    subst HasLast (sym is) (last_of s (after_statement p) rest r last behind)
last_of s p (branch_shape start guard first second rest) tree last (x, t, u, r, is, one, inner, other, behind) =
    let inside = after_statement p in
    let between = after_block inside first in
    subst HasLast (sym is) (
      none_of s inside first t last.0 inner,
      none_of s between second u last.1 other,
      last_of s (after_block between second) rest r last.2 behind,
    )
last_of s p (loop_shape start guard body rest) tree last (x, t, r, is, one, inner, behind) =
    let inside = after_statement p in
    subst HasLast (sym is)
    (none_of s inside body t last.0 inner, last_of s (after_block inside body) rest r last.1 behind)
last_of s p (call_shape start name args into rest) tree last (m, values, kept, r, is, method, keeps, each, behind) =
    subst HasLast (sym is) (last_of s (after_call p) rest r last behind)
last_of s p (return_shape start value rest) tree last (x, r, is, one, behind) =
    let ended : IsBlockFor s (after_statement p) end_shape r =
    subst (λ b. IsBlockFor s (after_statement p) b r) last behind in
    subst HasLast (sym is) ended

pub nested_last : (b : BlockShape) → HasNoReturn b → ReturnsLast b
nested_last end_shape none = tt
nested_last (declaration_shape start label name value rest) none = nested_last rest none
nested_last (assignment_shape start name value rest) none = nested_last rest none
nested_last (element_assignment_shape start name index value rest) none = nested_last rest none
nested_last (branch_shape start guard first second rest) none = (none.0, none.1, nested_last rest none.2)
nested_last (loop_shape start guard body rest) none = (none.0, nested_last rest none.1)
nested_last (call_shape start name args into rest) none = nested_last rest none
nested_last (return_shape start value rest) none = absurd none
