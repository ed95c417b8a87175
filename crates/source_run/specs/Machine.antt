-- What the machine does that runs a program: tasks in place of items, and frames in place of calls.
use Rattle.std.specs.Prelude.{ℕ, ◌+◌, ℤ, pos, if◌then◌else◌, List, [], ◌∷◌, ◌++◌, map}
use Rattle.std.specs.Prelude.{reverse, take, length}
use Rattle.std.specs.Prelude.{Option, Some, None}
use Rattle.std.specs.Bool.{nat_lt}
use Rattle.js_base.specs.declared.ids.VarId.{VarId}
use Rattle.jif_tree.specs.declared.program.Program.{Program}
use Rattle.jif_tree.specs.declared.program.Stmt.{Stmt}
use Rattle.jif_tree.specs.declared.program.StmtKind.{StmtKind}
use Rattle.jif_tree.specs.declared.program.StmtKind as kind
use Rattle.jif_tree.specs.declared.program.Expr.{Expr}
use Rattle.jif_tree.specs.Operators.{is_true}
use Rattle.jif_tree.specs.Store.{store_after_write}
use Rattle.jif_tree.specs.SourceRun.{statements_of, method_at, body_of, params_of, result_of, main_body}
use Rattle.source_run.specs.declared.cells.Cell.{Cell}
use Rattle.source_run.specs.declared.frames.Target.{Target}
use Rattle.source_run.specs.declared.tasks.Task.{Task}
use Rattle.source_run.specs.declared.tasks.Task.TheVariants.{Run, Keep}
use Rattle.source_run.specs.Cells.{value_in}
use Rattle.source_run.specs.Values.{value_with}
use Rattle.source_run.specs.Windows.{with_cells}
use Rattle.source_run.specs.Frames.{FrameShape, cells_at, returns_at, with_variable}

-- something that is left to do in a frame
pub data Work : Type 0 where
  run_all : (frame : ℕ) (statements : List Stmt) → Work
  keep_in : (frame : ℕ) (into result : VarId) → Work

-- what is done first comes first
pub record MachineShape : Type 0 where
  pub tasks : List Work
  pub frames : List FrameShape
  pub store : List (List ℤ)

abbrev pub work_of : Task → Work
work_of (Run frame statements) = run_all frame statements.now
work_of (Keep frame into result) = keep_in frame into result

-- the last task is done first
abbrev pub tasks_of : List Task → List Work
tasks_of tasks = map work_of (reverse tasks)

-- ---- tasks

-- statements before other tasks; none where there are no statements
abbrev pub with_block : ℕ → List Stmt → List Work → List Work
with_block frame [] tasks = tasks
with_block frame (statement ∷ statements) tasks = run_all frame (statement ∷ statements) ∷ tasks

-- the assignment behind a call, where the method has a result and it is kept
abbrev pub with_keep : ℕ → Option VarId → Option VarId → List Work → List Work
with_keep frame (Some into) (Some result) tasks = keep_in frame into result ∷ tasks
with_keep frame into result tasks = tasks

-- the frames that are needed
abbrev pub kept_frames : List Work → List FrameShape → List FrameShape
kept_frames [] frames = []
kept_frames (run_all frame statements ∷ tasks) frames = take (frame + 1) frames
kept_frames (keep_in frame into result ∷ tasks) frames = take (frame + 1) frames

-- ---- calls

-- where the result of a method goes whose caller has this frame: nowhere where the frame was given back
abbrev pub target_of : ℕ → ℕ → Option VarId → Option Target
target_of frame kept None = None
target_of frame kept (Some result) =
    if nat_lt frame kept then Some (record { frame = frame; var = result }) else None

-- `blank` has the variables of each method before any of them was set
abbrev pub after_call : Program → (ℕ → List Cell) → MachineShape → ℕ → ℕ → List ℤ →
    Option VarId → List Work → MachineShape
after_call program blank m frame method values into behind =
    let called = method_at program method in
    let tasks = with_keep frame into (result_of called) behind in
    let kept = kept_frames tasks m.frames in
    record {
      tasks = with_block (length kept) (body_of called) tasks;
      frames = kept ++ record {
        cells = with_cells (blank method) (params_of called) values;
        returns = target_of frame (length kept) (result_of called);
      } ∷ [];
      store = m.store;
    }

-- the frames after a `return`
abbrev pub frames_after_return : List FrameShape → Option Target → ℤ → List FrameShape
frames_after_return frames None value = frames
frames_after_return frames (Some target) value = with_variable frames target.frame target.var value

-- ---- one step

-- the value of an expression in a frame
abbrev pub value_at_frame : MachineShape → ℕ → Expr → ℤ
value_at_frame m frame e = value_with (value_in (cells_at m.frames frame)) m.store e

-- What a statement of a frame leaves, where `behind` is to be done after it, and `again` begins with the statement
-- itself.
abbrev pub after_statement : Program → (ℕ → List Cell) → MachineShape → ℕ → StmtKind → List Work →
    List Work → MachineShape
after_statement program blank m frame (kind.Let x value) behind again = record {
  tasks = behind;
  frames = with_variable m.frames frame x (value_at_frame m frame value);
  store = m.store;
}
after_statement program blank m frame (kind.SetField field value) behind again = record {
  tasks = behind;
  frames = m.frames;
  store = store_after_write m.store field.0 (pos 0) (value_at_frame m frame value);
}
after_statement program blank m frame (kind.SetElement field index value) behind again = record {
  tasks = behind;
  frames = m.frames;
  store = store_after_write m.store field.0 (value_at_frame m frame index) (value_at_frame m frame value);
}
after_statement program blank m frame (kind.If' guard i first j second) behind again = record {
  tasks = with_block frame
      (if is_true (value_at_frame m frame guard) then statements_of first else statements_of second) behind;
  frames = m.frames;
  store = m.store;
}
after_statement program blank m frame (kind.While' guard i body) behind again = record {
  tasks = if is_true (value_at_frame m frame guard) then with_block frame (statements_of body) again else behind;
  frames = m.frames;
  store = m.store;
}
after_statement program blank m frame (kind.Call site method args into) behind again =
    after_call program blank m frame method.0 (map (value_at_frame m frame) args.items) into behind
after_statement program blank m frame (kind.Return value) behind again = record {
  tasks = behind;
  frames = frames_after_return m.frames (returns_at m.frames frame) (value_at_frame m frame value);
  store = m.store;
}

abbrev pub after_task : Program → (ℕ → List Cell) → MachineShape → List Work → MachineShape
after_task program blank m [] = m
after_task program blank m (keep_in frame into result ∷ tasks) = record {
  tasks = tasks;
  frames = with_variable m.frames frame into (value_in (cells_at m.frames frame) result.0);
  store = m.store;
}
after_task program blank m (run_all frame [] ∷ tasks) = record { tasks = tasks; frames = m.frames; store = m.store }
after_task program blank m (run_all frame (statement ∷ rest) ∷ tasks) =
    after_statement program blank m frame statement.kind (with_block frame rest tasks)
    (run_all frame (statement ∷ rest) ∷ tasks)

abbrev pub machine_step : Program → (ℕ → List Cell) → MachineShape → MachineShape
machine_step program blank m = after_task program blank m m.tasks

-- where the machine begins: in the frame of `main`
abbrev pub machine_at_start : Program → (ℕ → List Cell) → List (List ℤ) → MachineShape
machine_at_start program blank store = record {
  tasks = with_block 0 (main_body program) [];
  frames = record {
    cells = blank program.main.0;
    returns = target_of 0 1 (result_of (method_at program program.main.0));
  } ∷ [];
  store = store;
}
