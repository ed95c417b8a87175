use Rattle.std.specs.Prelude.{string_bytes}
use Rattle.jif_parse.specs.PrintedNames.{naming_of}
use Rattle.jif_parse.specs.PrintedProgram.{declared_text}
use Rattle.jif_parse.proofs.PrintedTexts.{all_joined}
use Rattle.jif_parse.proofs.printed.methods.params_text.Goals as goal

pub returns : goal.returns
returns c =
    all_joined string_bytes (declared_text (naming_of c.args.names.now)) c.args.params.now c.loop-param.param-index
    c.deref.result.now
    c.loop-param.texts.items c.loop-param-test.false c.in_ok-join.ensures.ok c.deref.ensures.value
    c.loop-param.invariant
