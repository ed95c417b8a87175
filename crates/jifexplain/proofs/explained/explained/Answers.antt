use Rattle.std.proofs.Common.{subst, sym}
use Rattle.front_end.specs.Loading.{EndsIn}
use Rattle.front_end.specs.Refusals.{refusal_shape}
use Rattle.front_end.specs.declared.refusal.Refusal.{Refusal}
use Rattle.jifexplain.specs.Explained.{Explains}
use Rattle.jifexplain.specs.Questions.{asked_shape}
use Rattle.jifexplain.proofs.explained.explained.Goals as goal

pub returns-in-Lex : goal.returns-in-Lex
returns-in-Lex c = λ p h loaded_p loaded_h.
    subst (λ (refusal : Refusal). EndsIn (Explains c.args.names.now.program.now c.args.names.now.hosts.now p h
    (asked_shape c.args.names.now.asked) (refusal_shape refusal)) c.lexed_explained.result) (sym c.in-Lex.is) (c.lexed_explained.ensures p loaded_p)

pub returns-in-Hosts : goal.returns-in-Hosts
returns-in-Hosts c = λ p h loaded_p loaded_h.
    subst (λ (refusal : Refusal). EndsIn (Explains c.args.names.now.program.now c.args.names.now.hosts.now p h
    (asked_shape c.args.names.now.asked) (refusal_shape refusal)) c.hosts_explained.result) (sym c.in-Hosts.is) (c.hosts_explained.ensures h loaded_h)

pub returns-in-Parse : goal.returns-in-Parse
returns-in-Parse c = λ p h loaded_p loaded_h.
    subst (λ (refusal : Refusal). EndsIn (Explains c.args.names.now.program.now c.args.names.now.hosts.now p h
    (asked_shape c.args.names.now.asked) (refusal_shape refusal)) c.parsed_explained.result) (sym c.in-Parse.is) (c.parsed_explained.ensures p loaded_p)

pub returns-in-Resolve : goal.returns-in-Resolve
returns-in-Resolve c = λ p h loaded_p loaded_h.
    subst (λ (refusal : Refusal). EndsIn (Explains c.args.names.now.program.now c.args.names.now.hosts.now p h
    (asked_shape c.args.names.now.asked) (refusal_shape refusal)) c.resolved_explained.result) (sym c.in-Resolve.is)
    (c.resolved_explained.ensures p loaded_p)

pub returns-in-Labels : goal.returns-in-Labels
returns-in-Labels c = λ p h loaded_p loaded_h.
    subst (λ (refusal : Refusal). EndsIn (Explains c.args.names.now.program.now c.args.names.now.hosts.now p h
    (asked_shape c.args.names.now.asked) (refusal_shape refusal)) c.labels_explained.result) (sym c.in-Labels.is)
    (c.labels_explained.ensures p h loaded_p loaded_h)

pub returns-in-Places : goal.returns-in-Places
returns-in-Places c = λ p h loaded_p loaded_h.
    subst (λ (refusal : Refusal). EndsIn (Explains c.args.names.now.program.now c.args.names.now.hosts.now p h
    (asked_shape c.args.names.now.asked) (refusal_shape refusal)) c.places_told.result) (sym c.in-Places.is)
    (c.places_told.ensures p h loaded_p loaded_h)
