use Rattle.std.specs.Prelude.{string_bytes}
use Rattle.jif_parse.specs.PrintedNames.{naming_of, principal_name}
use Rattle.jif_parse.proofs.PrintedTexts.{all_joined}
use Rattle.jif_parse.proofs.printed.methods.principals_text.Goals as goal

pub returns : goal.returns
returns c =
    all_joined string_bytes (principal_name (naming_of c.args.names.now)) c.args.principals.now
    c.loop-principal.principal-index c.deref.result.now
    c.loop-principal.texts.items c.loop-principal-test.false c.in_ok-join.ensures.ok c.deref.ensures.value
    c.loop-principal.invariant
