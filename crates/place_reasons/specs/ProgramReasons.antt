-- Why a host may not hold each field and each statement of a program, by their numbers. Where it may, there is no
-- reason.
use Rattle.std.specs.Prelude.{List, [], ◌∷◌, ◌++◌, map, length, Option}
use Rattle.std.specs.List.{flat_map, range_with_len}
use Rattle.principals.specs.ActsFor.{Declared}
use Rattle.label_lattice.specs.declared.label.Label.{Label}
use Rattle.jif_tree.specs.Trees.{BlockTree, done, set_local, set_field, set_element, branch, loop, call, give_back}
use Rattle.jif_tree.specs.Trees.{MethodTree}
use Rattle.need_labels.specs.Labelled.{Labelled}
use Rattle.place_reasons.specs.declared.reason.PlaceReason.{PlaceReason}
use Rattle.place_reasons.specs.Reasons.{field_reason, head_reason, statement_reason}

abbrev pub field_reasons : Declared → Labelled → Label → List (Option PlaceReason)
field_reasons principals labelled host =
    map (λ number. field_reason principals labelled host (record { 0 = number }))
    (range_with_len 0 (length labelled.program.fields))

-- Of the statements of a block and of the blocks in it, in the order of the text. Each is asked about as a block of its
-- own, so that nothing behind it counts.
abbrev pub block_reasons : Declared → Labelled → Label → MethodTree → BlockTree → List (Option PlaceReason)
block_reasons principals labelled host method done = []
block_reasons principals labelled host method (set_local heading x value rest) =
    statement_reason principals labelled host method (set_local heading x value done)
    ∷ block_reasons principals labelled host method rest
block_reasons principals labelled host method (set_field heading field value rest) =
    statement_reason principals labelled host method (set_field heading field value done)
    ∷ block_reasons principals labelled host method rest
block_reasons principals labelled host method (set_element heading field index value rest) =
    statement_reason principals labelled host method (set_element heading field index value done)
    ∷ block_reasons principals labelled host method rest
block_reasons principals labelled host method (branch heading guard first second rest) =
    statement_reason principals labelled host method (branch heading guard first second done)
    ∷ block_reasons principals labelled host method first
    ++ block_reasons principals labelled host method second
    ++ block_reasons principals labelled host method rest
block_reasons principals labelled host method (loop heading guard body rest) =
    statement_reason principals labelled host method (loop heading guard body done)
    ∷ block_reasons principals labelled host method body
    ++ block_reasons principals labelled host method rest
block_reasons principals labelled host method (call heading place called arguments into rest) =
    statement_reason principals labelled host method (call heading place called arguments into done)
    ∷ block_reasons principals labelled host method rest
block_reasons principals labelled host method (give_back heading value rest) =
    statement_reason principals labelled host method (give_back heading value done)
    ∷ block_reasons principals labelled host method rest

-- a method's head, and then its statements
abbrev pub method_reasons : Declared → Labelled → Label → MethodTree → List (Option PlaceReason)
method_reasons principals labelled host method =
    head_reason principals host method ∷ block_reasons principals labelled host method method.body

-- the statements of a program, in the order of the uses that needs are made of
abbrev pub statement_reasons : Declared → Labelled → Label → List (Option PlaceReason)
statement_reasons principals labelled host =
    flat_map (method_reasons principals labelled host) labelled.program.methods
