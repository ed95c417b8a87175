use Rattle.std.proofs.Common.{◌≡◌, map, take, string_bytes}
use Rattle.jif_parse.specs.PrintedNames.{naming_of, principal_name}
use Rattle.jif_parse.proofs.printed.methods.principals_text.Given as goal

-- the names of the principals so far
abbrev pub invariant-loop-principal : goal.invariant-loop-principal
invariant-loop-principal l =
    map string_bytes l.texts.items ≡ map (principal_name (naming_of l.names)) (take l.principal-index l.principals)
