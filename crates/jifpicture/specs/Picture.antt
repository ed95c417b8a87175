-- The picture of a program in its places: what it is drawn by, and what is due for it.
use Rattle.std.specs.Prelude.{ℕ, List}
use Rattle.js_base.specs.declared.status.Status.TheVariants.{Done}
use Rattle.principals.specs.ActsFor.{Declared}
use Rattle.jif_tree.specs.Numbering.{statement_lines}
use Rattle.jif_tree.specs.Trees.{ProgramTree}
use Rattle.need_labels.specs.Plan.{PlanShape}
use Rattle.host_code.specs.Code.{CodeShape}
use Rattle.front_end.specs.PlacedCode.{code_of, cost_of}
use Rattle.front_end.specs.PlacedSources.{PlacedSource}
use Rattle.front_end.specs.Verdicts.{VerdictShape, Print}
use Rattle.releasing_statements.specs.Marks.{released_statements}
use Rattle.statement_texts.specs.Texts.{statement_texts}
use Rattle.plan_ways.specs.Whole.{ways_of}
use Rattle.plan_picture.specs.Picture.{plan_text}
use Rattle.plan_picture.specs.Sheets.{SheetShape}

-- what is drawn of a program, of its code and of the plan that this was made for, over these principals, where the plan
-- costs so much
abbrev pub sheet_by : ProgramTree → CodeShape → PlanShape → Declared → (cost : ℕ) → SheetShape
sheet_by tree code plan principals cost = record {
  program = tree;
  code = code;
  plan = plan;
  principals = principals;
  cost = cost;
  texts = statement_texts principals tree;
  lines = statement_lines tree;
  released = released_statements tree;
  ways = (ways_of code plan tree).ways;
  relays = (ways_of code plan tree).relays;
}

-- what is drawn of a program in its places
abbrev pub sheet_of : PlacedSource → SheetShape
sheet_of placed =
    sheet_by placed.source.tree (code_of placed) placed.plan placed.source.file.principals (cost_of placed)

-- the whole picture
abbrev pub picture_text : PlacedSource → List ℕ
picture_text placed = plan_text (sheet_of placed)

-- what is due for a program that is accepted and has places on its hosts
abbrev pub picture_report : PlacedSource → VerdictShape
picture_report placed = Print Done (picture_text placed)
