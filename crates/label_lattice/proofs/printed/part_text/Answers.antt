use Rattle.std.proofs.Common.{ap, sym, ◌∙◌, ◌++◌, ◌∷◌, [], List, ℕ, map}
use Rattle.std.specs.Prelude.{string_bytes}
use Rattle.std.proofs.lemmas.List.{append_assoc}
use Rattle.label_lattice.specs.Printed.{joined}
use Rattle.label_lattice.proofs.PrintedLemmas.{joined_texts}
use Rattle.label_lattice.proofs.printed.part_text.Goals as goal

pub returns : goal.returns
returns c =
    c.in_ok-format.ensures.ok
    ∙ ap (λ (list : List ℕ). c.args.head.now ++ 58 ∷ 32 ∷ list)
    (c.in_ok-list.ensures.ok ∙ joined_texts string_bytes (44 ∷ 32 ∷ []) c.args.names.now)
    ∙ sym (append_assoc c.args.head.now (58 ∷ 32 ∷ []) (joined (44 ∷ 32 ∷ []) (map string_bytes c.args.names.now)))
