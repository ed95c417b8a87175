use Rattle.std.proofs.Common.{List, subst}
use Rattle.front_end.specs.Loading.{EndsIn}
use Rattle.front_end.specs.Refusals.{refusal_shape}
use Rattle.front_end.specs.Sources.{Lexed}
use Rattle.front_end.proofs.Stages.{due_handed_on, due_stops}
use Rattle.jif_lex.specs.declared.token.Token.{Token}
use Rattle.jifexplain.specs.Explained.{LabelsExplained, TokensExplained}
use Rattle.jifexplain.proofs.Rereading.{due_behind}
use Rattle.jifexplain.proofs.explained.labels_explained.Goals as goal

pub returns-in_err-tokens : goal.returns-in_err-tokens
returns-in_err-tokens c = λ p h loaded_p loaded_h.
    due_handed_on (LabelsExplained c.args.name.now p h (refusal_shape c.args.refusal)) c.in_err-tokens.field-0.0
    c.from_residual.result c.from_residual.ensures
    (due_stops (Lexed p) (TokensExplained c.args.name.now p h (refusal_shape c.args.refusal)) c.in_err-tokens.field-0.0
    (c.in_err-tokens.ensures.lexed p loaded_p))

pub returns : goal.returns
returns c = λ p h loaded_p loaded_h.
    due_behind (Lexed p) (TokensExplained c.args.name.now p h (refusal_shape c.args.refusal))
    c.in_ok-tokens.tokens.items c.tokens_explained.result (c.in_ok-tokens.ensures.lexed p loaded_p)
    (subst (λ (list : List Token).
    EndsIn (TokensExplained c.args.name.now p h (refusal_shape c.args.refusal) list) c.tokens_explained.result)
    c.deref.ensures.value (c.tokens_explained.ensures p h (c.readable-text.ensures.text p loaded_p) loaded_h))
