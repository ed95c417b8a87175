use Rattle.std.proofs.Common.{◌∙◌, ap, map, ◌++◌, ◌∷◌, [], List, ℕ}
use Rattle.std.specs.Prelude.{string_bytes}
use Rattle.label_lattice.specs.Printed.{printed_part, printed_parts}
use Rattle.label_lattice.proofs.PrintedLemmas.{texts_of_parts, joined_same}
use Rattle.label_lattice.proofs.printed.label_text.Goals as goal

pub returns : goal.returns
returns c =
    let principals = c.args.principals.now in
    let parts = texts_of_parts principals c.args.label.now c.in_ok-parts.ensures c.in_ok-push_trust.ensures in
    c.in_ok-format.ensures.ok
    ∙ ap (λ (inside : List ℕ). 123 ∷ inside ++ 125 ∷ [])
    (c.in_ok-inside.ensures.ok
    ∙ joined_same string_bytes printed_part (59 ∷ 32 ∷ []) c.deref.result.now
    (printed_parts principals c.args.label.now)
    (ap (map string_bytes) c.deref.ensures.value ∙ parts))
