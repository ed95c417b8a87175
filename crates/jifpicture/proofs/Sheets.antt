-- What a picture is drawn by is what is defined.
use Rattle.std.proofs.Common.{◌≡◌, ℕ, Bool, List, [], ◌++◌, ap, ◌∙◌, Result, Ok, Err, String, Global}
use Rattle.std.specs.Prelude.{IfOk, string_bytes}
use Rattle.js_base.specs.declared.OutOfMemory.{OutOfMemory}
use Rattle.principals.specs.ActsFor.{Declared}
use Rattle.jif_tree.specs.Numbering.{statement_lines}
use Rattle.jif_tree.specs.Trees.{ProgramTree}
use Rattle.need_labels.specs.Plan.{PlanShape}
use Rattle.host_code.specs.Code.{CodeShape}
use Rattle.releasing_statements.specs.Marks.{released_statements}
use Rattle.statement_texts.specs.Texts.{StatementTextShape, statement_texts}
use Rattle.plan_ways.specs.Whole.{PlanWaysShape, ways_of}
use Rattle.plan_picture.specs.Picture.{plan_text}
use Rattle.plan_picture.specs.Sheets.{SheetShape}
use Rattle.front_end.specs.PlacedCode.{code_of, cost_of}
use Rattle.front_end.specs.PlacedSources.{PlacedSource}
use Rattle.jifpicture.specs.Picture.{picture_text, sheet_by, sheet_of}

-- what is drawn, by all that it is made of
abbrev pub sheet_with : ProgramTree → CodeShape → PlanShape → Declared → ℕ → List StatementTextShape → List ℕ →
    List Bool → PlanWaysShape → SheetShape
sheet_with tree code plan principals cost texts lines released found = record {
  program = tree;
  code = code;
  plan = plan;
  principals = principals;
  cost = cost;
  texts = texts;
  lines = lines;
  released = released;
  ways = found.ways;
  relays = found.relays;
}

pub sheet_is : (tree : ProgramTree) (code : CodeShape) (plan : PlanShape) (principals : Declared) (cost : ℕ)
    (texts : List StatementTextShape) (lines : List ℕ) (released : List Bool) (found : PlanWaysShape) →
    texts ≡ statement_texts principals tree → lines ≡ statement_lines tree →
    released ≡ released_statements tree → found ≡ ways_of code plan tree →
    sheet_with tree code plan principals cost texts lines released found ≡ sheet_by tree code plan principals cost
sheet_is tree code plan principals cost texts lines released found texts_are lines_are released_are found_is =
    ap (λ (ts : List StatementTextShape). sheet_with tree code plan principals cost ts lines released found) texts_are
    ∙ ap (λ (ls : List ℕ).
    sheet_with tree code plan principals cost (statement_texts principals tree) ls released found) lines_are
    ∙ ap (λ (bs : List Bool).
    sheet_with tree code plan principals cost (statement_texts principals tree) (statement_lines tree) bs found)
    released_are
    ∙ ap (sheet_with tree code plan principals cost (statement_texts principals tree) (statement_lines tree)
    (released_statements tree)) found_is

-- what was drawn on an empty text
pub drawn_is : (tree : ProgramTree) (code : CodeShape) (plan : PlanShape) (principals : Declared) (cost : ℕ)
    (texts : List StatementTextShape) (lines : List ℕ) (released : List Bool) (found : PlanWaysShape)
    (start text : List ℕ) → texts ≡ statement_texts principals tree → lines ≡ statement_lines tree →
    released ≡ released_statements tree → found ≡ ways_of code plan tree → start ≡ [] →
    text ≡ start ++ plan_text (sheet_with tree code plan principals cost texts lines released found) →
    text ≡ plan_text (sheet_by tree code plan principals cost)
drawn_is tree code plan principals cost texts lines released found start text texts_are lines_are released_are found_is
    start_is text_is =
    let drawn = sheet_with tree code plan principals cost texts lines released found in
    text_is ∙ ap (λ (front : List ℕ). front ++ plan_text drawn) start_is
    ∙ ap plan_text (sheet_is tree code plan principals cost texts lines released found texts_are lines_are released_are
    found_is)

-- what is drawn of a program in its places, by its parts
sheet_same : (placed : PlacedSource) (tree : ProgramTree) (code : CodeShape) (plan : PlanShape)
    (principals : Declared) (cost : ℕ) → tree ≡ placed.source.tree → code ≡ code_of placed → plan ≡ placed.plan →
    principals ≡ placed.source.file.principals → cost ≡ cost_of placed →
    sheet_by tree code plan principals cost ≡ sheet_of placed
sheet_same placed tree code plan principals cost tree_is code_is plan_is principals_are cost_is =
    ap (λ (t : ProgramTree). sheet_by t code plan principals cost) tree_is
    ∙ ap (λ (k : CodeShape). sheet_by placed.source.tree k plan principals cost) code_is
    ∙ ap (λ (p : PlanShape). sheet_by placed.source.tree (code_of placed) p principals cost) plan_is
    ∙ ap (λ (d : Declared). sheet_by placed.source.tree (code_of placed) placed.plan d cost) principals_are
    ∙ ap (sheet_by placed.source.tree (code_of placed) placed.plan placed.source.file.principals) cost_is

-- a text that is made of one thing is made of the same of another
moved : (make : SheetShape → List ℕ) (text : List ℕ) (one other : SheetShape) → one ≡ other → text ≡ make one →
    text ≡ make other
moved make text one other same is = is ∙ ap make same

pub picture_drawn : (result : Result (String Global) OutOfMemory) (placed : PlacedSource) (tree : ProgramTree)
    (code : CodeShape) (plan : PlanShape) (principals : Declared) (cost : ℕ) → tree ≡ placed.source.tree →
    code ≡ code_of placed → plan ≡ placed.plan → principals ≡ placed.source.file.principals → cost ≡ cost_of placed →
    IfOk result (λ text. string_bytes text ≡ plan_text (sheet_by tree code plan principals cost)) →
    IfOk result (λ text. string_bytes text ≡ picture_text placed)
picture_drawn (Ok text) placed tree code plan principals cost tree_is code_is plan_is principals_are cost_is drawn =
    moved plan_text (string_bytes text) (sheet_by tree code plan principals cost) (sheet_of placed)
    (sheet_same placed tree code plan principals cost tree_is code_is plan_is principals_are cost_is) drawn
picture_drawn (Err error) placed tree code plan principals cost tree_is code_is plan_is principals_are cost_is drawn =
    tt
