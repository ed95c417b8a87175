-- What a chart is drawn by is what is defined.
use Rattle.std.proofs.Common.{◌≡◌, ◌∙◌, ℕ, Bool, List, [], ◌++◌, ap, sym, subst, Result, String, Global}
use Rattle.std.specs.Prelude.{IfOk, string_bytes}
use Rattle.std.proofs.lemmas.Result.{IfOk-weaker}
use Rattle.js_base.specs.declared.OutOfMemory.{OutOfMemory}
use Rattle.event_text.specs.declared.event.Event.{Event}
use Rattle.front_end.specs.PlacedCode.{code_of}
use Rattle.front_end.specs.PlacedSources.{PlacedSource}
use Rattle.front_end.specs.Stages.{given, stopped}
use Rattle.front_end.specs.Verdicts.{VerdictShape}
use Rattle.host_code.specs.Code.{CodeShape}
use Rattle.jif_tree.specs.Numbering.{statement_lines}
use Rattle.jif_tree.specs.Trees.{ProgramTree}
use Rattle.net_world.specs.Replay.{IsRefusedAt}
use Rattle.net_world.specs.World.{WorldShape}
use Rattle.principals.specs.ActsFor.{Declared}
use Rattle.run_chart.specs.Chart.{chart_text}
use Rattle.run_chart.specs.Sheets.{ChartSheetShape}
use Rattle.run_rows.specs.Rows.{IsPictured, Moment, first_moment}
use Rattle.run_rows.specs.declared.row.Row.{Row}
use Rattle.run_sheet.specs.Charts.{chart_of}
use Rattle.run_sheet.specs.RunSources.{RunSourceShape, running_in}
use Rattle.script_stages.specs.Scripts.{AreRefused}
use Rattle.statement_texts.specs.Texts.{StatementTextShape, statement_texts}
use Rattle.run_picture.specs.RunCharts.{source_by, source_with, text_of}
use Rattle.run_picture.specs.RunDue.{EventsDrawn, drawn, refused}

-- ---- a drawing

-- what is drawn by, by all that it is made of
abbrev pub source_made : Declared → CodeShape → List StatementTextShape → List ℕ → List Row → List (List ℕ) →
    List Bool → WorldShape → RunSourceShape
source_made principals code texts lines rows senders running last = record {
  code = code;
  principals = principals;
  texts = texts;
  lines = lines;
  rows = rows;
  senders = senders;
  running = running;
  world = last;
}

source_is : (tree : ProgramTree) (principals : Declared) (code : CodeShape) (texts : List StatementTextShape)
    (lines : List ℕ) (shown rows : List Row) (senders : List (List ℕ)) (running : List Bool) (last : WorldShape) →
    texts ≡ statement_texts principals tree → lines ≡ statement_lines tree → shown ≡ rows →
    source_made principals code texts lines shown senders running last
    ≡ source_by tree principals code rows senders running last
source_is tree principals code texts lines shown rows senders running last texts_are lines_are rows_are =
    ap (λ (ts : List StatementTextShape). source_made principals code ts lines shown senders running last) texts_are
    ∙ ap (λ (ls : List ℕ).
    source_made principals code (statement_texts principals tree) ls shown senders running last) lines_are
    ∙ ap (λ (rs : List Row). source_by tree principals code rs senders running last) rows_are

-- what was drawn on an empty text
pub drawn_is : (tree : ProgramTree) (principals : Declared) (code : CodeShape) (texts : List StatementTextShape)
    (lines : List ℕ) (shown rows : List Row) (senders : List (List ℕ)) (running : List Bool) (last : WorldShape)
    (sheet : ChartSheetShape) (start text : List ℕ) → texts ≡ statement_texts principals tree →
    lines ≡ statement_lines tree → shown ≡ rows →
    sheet ≡ chart_of (source_made principals code texts lines shown senders running last) → start ≡ [] →
    text ≡ start ++ chart_text sheet → text ≡ text_of (source_by tree principals code rows senders running last)
drawn_is tree principals code texts lines shown rows senders running last sheet start text texts_are lines_are rows_are
    sheet_is start_is text_is =
    text_is ∙ ap (λ (front : List ℕ). front ++ chart_text sheet) start_is
    ∙ ap chart_text sheet_is
    ∙ ap text_of
    (source_is tree principals code texts lines shown rows senders running last texts_are lines_are rows_are)

-- ---- of a program in its places

source_same : (placed : PlacedSource) (tree : ProgramTree) (principals : Declared) (code : CodeShape)
    (rows : List Row) (senders : List (List ℕ)) (running : List Bool) (last : WorldShape) →
    tree ≡ placed.source.tree → principals ≡ placed.source.file.principals → code ≡ code_of placed →
    source_by tree principals code rows senders running last ≡ source_with placed rows senders running last
source_same placed tree principals code rows senders running last tree_is principals_are code_is =
    ap (λ (t : ProgramTree). source_by t principals code rows senders running last) tree_is
    ∙ ap (λ (d : Declared). source_by placed.source.tree d code rows senders running last) principals_are
    ∙ ap (λ (c : CodeShape).
    source_by placed.source.tree placed.source.file.principals c rows senders running last) code_is

pub text_drawn : (result : Result (String Global) OutOfMemory) (placed : PlacedSource) (tree : ProgramTree)
    (principals : Declared) (code : CodeShape) (rows : List Row) (senders : List (List ℕ)) (running : List Bool)
    (last : WorldShape) → tree ≡ placed.source.tree → principals ≡ placed.source.file.principals →
    code ≡ code_of placed →
    IfOk result (λ text. string_bytes text ≡ text_of (source_by tree principals code rows senders running last)) →
    IfOk result (λ text. string_bytes text ≡ text_of (source_with placed rows senders running last))
text_drawn result placed tree principals code rows senders running last tree_is principals_are code_is draws =
    let same = source_same placed tree principals code rows senders running last tree_is principals_are code_is in
    IfOk-weaker result
    (λ text. string_bytes text ≡ text_of (source_by tree principals code rows senders running last))
    (λ text. string_bytes text ≡ text_of (source_with placed rows senders running last))
    (λ text is. is ∙ ap text_of same) draws

-- ---- events

pub drawn_as : (file : List ℕ) (placed : PlacedSource) (code : CodeShape) (first : WorldShape)
    (said : List (ℕ × Event)) (rows : List Row) (last : Moment) (running : List Bool) (text : List ℕ) →
    code ≡ code_of placed → running ≡ running_in code first → IsPictured code (first_moment first) said rows last →
    text ≡ text_of (source_with placed rows last.senders running last.world) →
    EventsDrawn file placed first said (given text)
drawn_as file placed code first said rows last running text code_is running_is is text_is =
    let runs : running ≡ running_in (code_of placed) first =
    running_is ∙ ap (λ (c : CodeShape). running_in c first) code_is in
    subst (λ (t : List ℕ). EventsDrawn file placed first said (given t))
    (sym (text_is ∙ ap (λ (r : List Bool). text_of (source_with placed rows last.senders r last.world)) runs))
    (drawn rows last (subst (λ (c : CodeShape). IsPictured c (first_moment first) said rows last) code_is is))

pub refused_as : (file : List ℕ) (placed : PlacedSource) (code : CodeShape) (first : WorldShape)
    (said : List (ℕ × Event)) (verdict : VerdictShape) → code ≡ code_of placed →
    AreRefused file code first said verdict → EventsDrawn file placed first said (stopped verdict)
refused_as file placed code first said verdict code_is (at, why, is, same) =
    subst (λ (v : VerdictShape). EventsDrawn file placed first said (stopped v)) (sym same)
    (refused at why (subst (λ (c : CodeShape). IsRefusedAt c first said at why) code_is is))
