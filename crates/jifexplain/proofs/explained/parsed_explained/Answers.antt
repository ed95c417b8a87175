use Rattle.std.proofs.Common.{◌≡◌, List}
use Rattle.front_end.specs.Sources.{Lexed}
use Rattle.front_end.specs.Verdicts.{VerdictShape}
use Rattle.front_end.proofs.Stages.{due_handed_on, due_stops}
use Rattle.jif_lex.specs.declared.token.Token.{Token}
use Rattle.explain_texts.specs.Heads.{parsed_told}
use Rattle.jifexplain.specs.Explained.{ParseExplained}
use Rattle.jifexplain.specs.Texts.{readable, told_of}
use Rattle.jifexplain.proofs.explained.parsed_explained.Goals as goal

pub returns-in_err-tokens : goal.returns-in_err-tokens
returns-in_err-tokens c = λ p loaded_p.
    due_handed_on (ParseExplained c.args.name.now p c.args.why) c.in_err-tokens.field-0.0 c.from_residual.result
    c.from_residual.ensures
    (due_stops (Lexed p) (λ (list : List Token) (verdict : VerdictShape). verdict ≡ told_of c.args.name.now (readable p) (parsed_told (readable p) list c.args.why)) c.in_err-tokens.field-0.0
    (c.in_err-tokens.ensures.lexed p loaded_p))
