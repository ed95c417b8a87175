use Rattle.std.proofs.Common.{◌≡◌, [], map, refl, string_bytes, subst, true}
use Rattle.clap.specs.Words.{App, HasKind, HasMatchesOf, fault_of, is_simple_and_free}
use Rattle.node_engine.specs.Options.{node_command}
use Rattle.node_engine.proofs.Askings.{some_kind}
use Rattle.node_engine.proofs.options.parsed.Goals as goal

pub returns-in-Ok-clause-matches : goal.returns-in-Ok-clause-matches
returns-in-Ok-clause-matches c =
    subst (λ (app : App). HasMatchesOf app (map string_bytes c.args.words.now) c.in-Ok.matches)
    c.in_ok-command.ensures c.in-Ok.ensures.matches

pub returns-in-Ok-clause-accepted : goal.returns-in-Ok-clause-accepted
returns-in-Ok-clause-accepted c =
    subst (λ (app : App). is_simple_and_free app ≡ true → fault_of app (map string_bytes c.args.words.now) ≡ [])
    c.in_ok-command.ensures c.in-Ok.ensures.kinds refl

pub returns-in-Err-clause-usage : goal.returns-in-Err-clause-usage
returns-in-Err-clause-usage c = λ is_usage.
    let HasDueKind : App → Type 0 =
    λ app. is_simple_and_free app ≡ true → HasKind (fault_of app (map string_bytes c.args.words.now)) c.in-Err.error in
    some_kind (fault_of node_command (map string_bytes c.args.words.now)) c.in-Err.error
    (subst HasDueKind c.in_ok-command.ensures c.in-Err.ensures.kinds refl) (c.refusal.ensures is_usage)
