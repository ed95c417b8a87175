-- What a picture is drawn by.
use Rattle.std.specs.Prelude.{ℕ, Bool, List, map}
use Rattle.host_code.specs.Code.{CodeShape}
use Rattle.jif_tree.specs.Trees.{ProgramTree, program_tree}
use Rattle.need_labels.specs.Plan.{PlanShape}
use Rattle.principals.specs.ActsFor.{Declared}
use Rattle.statement_texts.specs.Texts.{StatementTextShape, statement_text_shape}
use Rattle.plan_ways.specs.declared.relays.Relay.{Relay}
use Rattle.plan_ways.specs.declared.ends.Way.{Way}
use Rattle.plan_picture.specs.declared.sheet.PictureSheet.{PictureSheet}

-- the program, its code and the plan that this was made for, who is declared, what the plan costs, the statements by
-- number with their lines and whether each releases a value, and the ways of control and values
pub record SheetShape : Type 0 where
  pub program : ProgramTree
  pub code : CodeShape
  pub plan : PlanShape
  pub principals : Declared
  pub cost : ℕ
  pub texts : List StatementTextShape
  pub lines : List ℕ
  pub released : List Bool
  pub ways : List Way
  pub relays : List Relay

abbrev pub sheet_shape : PictureSheet → SheetShape
sheet_shape sheet = record {
  program = program_tree sheet.program.now;
  code = sheet.code.now;
  plan = sheet.plan.now;
  principals = sheet.principals.now;
  cost = sheet.cost;
  texts = map statement_text_shape sheet.texts.now;
  lines = sheet.lines.now;
  released = sheet.released.now;
  ways = sheet.ways.now.ways.items;
  relays = sheet.ways.now.relays.items;
}
