-- What `check` prints of a program that is accepted and has places on its hosts.
use Rattle.std.specs.Prelude.{ℕ, List, [], ◌∷◌, ◌++◌, codes, length}
use Rattle.std.specs.Fmt.{decimal}
use Rattle.js_base.specs.declared.status.Status.TheVariants.{Done}
use Rattle.jif_tree.specs.Trees.{ProgramTree}
use Rattle.jif_tree.specs.Numbering.{statement_numbers}
use Rattle.front_end.specs.PlacedCode.{cost_of}
use Rattle.front_end.specs.PlacedSources.{PlacedSource}
use Rattle.split_cli.specs.PlaceLines.{place_lines}
use Rattle.front_end.specs.Text.{lines_text}
use Rattle.front_end.specs.Verdicts.{VerdictShape, Print}

-- `accepted F fields M methods S statements`, where the heads of methods count as statements
abbrev pub accepted_line : ProgramTree → List ℕ
accepted_line tree =
    codes "accepted " ++ decimal (length tree.fields) ++ codes " fields " ++ decimal (length tree.methods)
    ++ codes " methods " ++ decimal (length (statement_numbers tree)) ++ codes " statements"

-- `cost C`, of the plan
abbrev pub cost_line : PlacedSource → List ℕ
cost_line placed = codes "cost " ++ decimal (cost_of placed)

abbrev pub plan_lines : PlacedSource → List (List ℕ)
plan_lines placed = accepted_line placed.source.tree ∷ place_lines placed ++ cost_line placed ∷ []

abbrev pub plan_report : PlacedSource → VerdictShape
plan_report placed = Print Done (lines_text (plan_lines placed))
