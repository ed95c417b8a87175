-- What words ask for. A word is the list of its bytes.
--
-- A number of steps is part of the command. Words ask for `run` with a number exactly where the last word is how that
-- number is written, so no clause reads digits.
use Rattle.std.specs.Prelude.{◌≢◌, ℕ, ◌≤◌, List, [], ◌∷◌, ◌++◌, codes, ⊤}
use Rattle.std.specs.Fmt.{decimal}
use Rattle.front_end.specs.StepCounts.{IsStepCount}
use Rattle.split_words.specs.declared.words.TheConstants.{MADE_STATEMENTS}

-- a command with its files, and with its number of steps, events or statements; a split is saved under its last name
pub data CommandShape : Type 0 where
  Check : (program hosts : List ℕ) → CommandShape
  Run : (program hosts start : List ℕ) (steps : ℕ) → CommandShape
  Replay : (program hosts events : List ℕ) → CommandShape
  Drive : (program hosts start : List ℕ) (events : ℕ) → CommandShape
  Compare : (program hosts one other : List ℕ) → CommandShape
  Split : (program hosts out : List ℕ) → CommandShape
  Make : (statements : ℕ) → CommandShape

-- a number of statements of a program that can be made
pub record IsMadeCount (statements : ℕ) : Type 0 where
  pub least : 1 ≤ statements
  pub most : statements ≤ MADE_STATEMENTS

-- the command can be asked for
abbrev pub IsCommand : CommandShape → Type 0
IsCommand (Check program hosts) = ⊤
IsCommand (Run program hosts start steps) = IsStepCount steps
IsCommand (Replay program hosts events) = ⊤
IsCommand (Drive program hosts start events) = IsStepCount events
IsCommand (Compare program hosts one other) = ⊤
IsCommand (Split program hosts out) = ⊤
IsCommand (Make statements) = IsMadeCount statements

-- the words that ask for it: a number is written in decimal digits, without leading zeros
abbrev pub words_of : CommandShape → List (List ℕ)
words_of (Check program hosts) = codes "check" ∷ program ∷ hosts ∷ []
words_of (Run program hosts start steps) = codes "run" ∷ program ∷ hosts ∷ start ∷ decimal steps ∷ []
words_of (Replay program hosts events) = codes "replay" ∷ program ∷ hosts ∷ events ∷ []
words_of (Drive program hosts start events) = codes "drive" ∷ program ∷ hosts ∷ start ∷ decimal events ∷ []
words_of (Compare program hosts one other) = codes "compare" ∷ program ∷ hosts ∷ one ∷ other ∷ []
words_of (Split program hosts out) = codes "split" ∷ program ∷ hosts ∷ out ∷ []
words_of (Make statements) = codes "make" ∷ decimal statements ∷ []

-- the files that are loaded for it, in order
abbrev pub files_of : CommandShape → List (List ℕ)
files_of (Check program hosts) = program ∷ hosts ∷ []
files_of (Run program hosts start steps) = program ∷ hosts ∷ start ∷ []
files_of (Replay program hosts events) = program ∷ hosts ∷ events ∷ []
files_of (Drive program hosts start events) = program ∷ hosts ∷ start ∷ []
files_of (Compare program hosts one other) = program ∷ hosts ∷ one ∷ other ∷ []
files_of (Split program hosts out) = program ∷ hosts ∷ []
files_of (Make statements) = []

-- all forms of the words, as they are shown to who asks for no command
abbrev pub forms : List ℕ
forms =
    codes "check P H / split P H OUT / run P H START N / replay P H EVENTS / drive P H START N"
    ++ codes " / compare P H EVENTS1 EVENTS2 / make N"

-- the words ask for no command
abbrev pub HaveNoForm : List (List ℕ) → Type 0
HaveNoForm words = (command : CommandShape) → IsCommand command → words ≢ words_of command
