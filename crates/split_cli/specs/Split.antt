-- What `split` saves and prints of a program that is accepted and has places on its hosts.
use Rattle.std.specs.Prelude.{◌≡◌, ℕ, List, ◌++◌, string_bytes}
use Rattle.split_file.specs.Spelling.{split_file}
use Rattle.split_cli.specs.Check.{plan_lines}
use Rattle.split_cli.specs.CodeLines.{code_lines}
use Rattle.front_end.specs.PlacedCode.{code_of}
use Rattle.front_end.specs.PlacedSources.{PlacedSource, PlacedSources}
use Rattle.front_end.specs.Stages.{StageEnd, given, Then}
use Rattle.front_end.specs.Text.{lines_text}
use Rattle.split_cli.specs.declared.commands.split.Split.{Split}

-- the bytes that are saved, and the text that is printed
pub record SplitShape : Type 0 where
  pub bytes : List ℕ
  pub text : List ℕ

-- the code of all hosts, as its split file and in lines behind those of the plan
abbrev pub split_of : PlacedSource → SplitShape
split_of placed = record {
  bytes = split_file (code_of placed);
  text = lines_text (plan_lines placed ++ code_lines (code_of placed));
}

-- a program and a host file, up to their split
abbrev pub SplitSources : List ℕ → List ℕ → StageEnd SplitShape → Type 0
SplitSources program hosts = Then (PlacedSources program hosts) (λ placed end. end ≡ given (split_of placed))

-- ---- in the program

abbrev pub split_shape : Split → SplitShape
split_shape split = record { bytes = split.bytes.items; text = string_bytes split.text }
