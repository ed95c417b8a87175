-- What the program says of the end of a node.
use Rattle.std.specs.Prelude.{ℕ, List, [], ◌∷◌, ◌++◌, codes, Option, Some, None}
use Rattle.js_base.specs.Status.{status_name}
use Rattle.js_base.specs.declared.status.Status.{Status}
use Rattle.js_base.specs.declared.text.TheConstants.{LINE_FEED}
use Rattle.front_end.specs.Refusals.{RefusalShape, error_line, refusal_text}
use Rattle.node_engine.specs.Nodes.{End}

-- the name of the status, alone on its line
abbrev pub status_line : Status → List ℕ
status_line status = status_name status ++ LINE_FEED ∷ []

-- why its files are refused
abbrev pub refusal_line : RefusalShape → List ℕ
refusal_line refusal = error_line (codes "jifhost") (refusal_text refusal)

abbrev pub refusal_lines : Option RefusalShape → List ℕ
refusal_lines None = []
refusal_lines (Some refusal) = refusal_line refusal

abbrev pub end_text : End → List ℕ
end_text end = status_line end.status ++ refusal_lines end.refusal
