use Rattle.std.proofs.Common.{List, subst}
use Rattle.front_end.specs.Loading.{EndsIn}
use Rattle.front_end.specs.Sources.{Lexed}
use Rattle.front_end.proofs.Stages.{due_handed_on, due_stops}
use Rattle.jif_lex.specs.declared.token.Token.{Token}
use Rattle.jifexplain.specs.Places.{PlacesTold, TokensPlaced}
use Rattle.jifexplain.specs.Questions.{asked_shape}
use Rattle.jifexplain.proofs.Rereading.{due_behind}
use Rattle.jifexplain.proofs.places.places_told.Goals as goal

pub returns-in_err-tokens : goal.returns-in_err-tokens
returns-in_err-tokens c = λ p h loaded_p loaded_h.
    due_handed_on (PlacesTold c.args.name.now p h (asked_shape c.args.asked) c.args.why) c.in_err-tokens.field-0.0
    c.from_residual.result c.from_residual.ensures
    (due_stops (Lexed p) (TokensPlaced c.args.name.now p h (asked_shape c.args.asked) c.args.why)
    c.in_err-tokens.field-0.0 (c.in_err-tokens.ensures.lexed p loaded_p))

pub returns : goal.returns
returns c = λ p h loaded_p loaded_h.
    due_behind (Lexed p) (TokensPlaced c.args.name.now p h (asked_shape c.args.asked) c.args.why)
    c.in_ok-tokens.tokens.items c.tokens_placed.result (c.in_ok-tokens.ensures.lexed p loaded_p)
    (subst (λ (list : List Token).
    EndsIn (TokensPlaced c.args.name.now p h (asked_shape c.args.asked) c.args.why list) c.tokens_placed.result)
    c.deref.ensures.value (c.tokens_placed.ensures p h (c.readable-text.ensures.text p loaded_p) loaded_h))
