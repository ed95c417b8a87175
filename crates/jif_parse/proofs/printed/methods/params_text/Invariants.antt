use Rattle.std.proofs.Common.{◌≡◌, map, take, string_bytes}
use Rattle.jif_parse.specs.PrintedNames.{naming_of}
use Rattle.jif_parse.specs.PrintedProgram.{declared_text}
use Rattle.jif_parse.proofs.printed.methods.params_text.Given as goal

-- the texts of the parameters so far
abbrev pub invariant-loop-param : goal.invariant-loop-param
invariant-loop-param l =
    map string_bytes l.texts.items ≡ map (declared_text (naming_of l.names)) (take l.param-index l.params)
