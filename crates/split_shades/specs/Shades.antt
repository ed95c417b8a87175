-- What may be seen at a place of split code: under which program label its instruction runs, what its temporaries tell,
-- and whose token is held there.
use Rattle.std.specs.Prelude.{◌≡◌, ℕ, suc, Bool, false, List, [], Option, None, IfSome}
use Rattle.label_lattice.specs.declared.label.Label.{Label}
use Rattle.host_code.specs.declared.code_expr.Node.{Node}
use Rattle.split_rules.specs.Positions.{Level, body, under}

-- ---- places

pub record Shade : Type 0 where
  -- whose token is held
  pub level : Level
  -- the program label of the instruction, and that of the block to whose code it belongs
  pub pc : Label
  pub block : Label
  -- where the guard of a loop is evaluated, the number of the loop's branch
  pub guard : Option ℕ
  -- what the temporaries tell
  pub temps : List Label
  -- between the frame of a call and the entering of the method
  pub calls : Bool
  -- the operands that the instruction releases
  pub released : List (List Node)

-- a statement that has begun: its program label, and the number of the branch of a loop whose guard it is
pub record Begun : Type 0 where
  pub pc : Label
  pub guard : Option ℕ

-- What is known ahead of a place. Where no statement has begun, the next one may be a loop, whose guard has a program
-- label of its own.
pub record Ahead : Type 0 where
  pub level : Level
  pub block : Label
  pub temps : List Label
  pub calls : Bool
  pub begun : Option Begun

-- where a statement of a block may begin
abbrev pub calm_ahead : Level → Label → Ahead
calm_ahead level block = record { level = level; block = block; temps = []; calls = false; begun = None }

-- this may be at a place that is ahead
pub record MeetsShade (ahead : Ahead) (shade : Shade) : Type 0 where
  pub level : shade.level ≡ ahead.level
  pub block : shade.block ≡ ahead.block
  pub temps : shade.temps ≡ ahead.temps
  pub calls : shade.calls ≡ ahead.calls
  pub begun : IfSome ahead.begun (λ begun. begun ≡ record { pc = shade.pc; guard = shade.guard })

-- ---- entries

pub record EntryShade : Type 0 where
  -- whose token is held where it stands, and the program label of the block there
  pub level : Level
  pub block : Label
  pub label : Label
  -- the program label of the instructions that push it, where some do
  pub pushed : Option Label
  -- that of a loop stands at the loop's guard
  pub begun : Option Begun

abbrev pub ahead_of : EntryShade → Ahead
ahead_of entry = record {
  level = entry.level;
  block = entry.block;
  temps = [];
  calls = false;
  begun = entry.begun;
}

-- the entry with whose token a level is
abbrev pub level_entry : Level → ℕ
level_entry (body method) = suc method.0
level_entry (under place) = place
