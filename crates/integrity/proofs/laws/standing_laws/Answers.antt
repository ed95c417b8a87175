use Rattle.net_world.specs.Told.{message_made}
use Rattle.net_world.specs.World.{tokens_sent}
use Rattle.token_laws.specs.Numbers.{MessageHasNumbers}
use Rattle.integrity.proofs.ActMoves.{holder_acted}
use Rattle.integrity.proofs.Among.{if_of}
use Rattle.integrity.proofs.HolderLaws.{holder_turned}
use Rattle.integrity.proofs.LooseTurns.{holder_loosens, holder_goes}
use Rattle.integrity.proofs.StallMoves.{holder_sends}
use Rattle.integrity.proofs.StandsAtStart.{stands_at_start}
use Rattle.integrity.proofs.StandsOn.{stands_kept}
use Rattle.integrity.proofs.TakeLaws.{holder_taken}
use Rattle.integrity.proofs.TellMoves.{holder_told}
use Rattle.integrity.proofs.laws.standing_laws.Goals as goal

pub returns-clause-start : goal.returns-clause-start
returns-clause-start c = stands_at_start

pub returns-clause-kept : goal.returns-clause-kept
returns-clause-kept c =
    stands_kept (record { opens = c.opening_laws.ensures.opens; labels = c.opening_laws.ensures.labels })

pub returns-clause-turned : goal.returns-clause-turned
returns-clause-turned c = holder_turned

pub returns-clause-taken : goal.returns-clause-taken
returns-clause-taken c =
    λ split rows bad store events world after configuration view holder from to place same reach code_numbers
    store_numbers said stands step own.
    holder_taken split rows bad store events world after configuration view same reach code_numbers store_numbers said
    holder from to place stands step own

pub returns-clause-acted : goal.returns-clause-acted
returns-clause-acted c =
    λ split rows bad store events world after configuration view host waiting made same reach stands own step numbers
    its.
    holder_acted split rows bad store events world after configuration view same reach host waiting stands made own step
    (if_of (message_made (tokens_sent world) made) MessageHasNumbers step.message step.makes numbers) its

pub returns-clause-told : goal.returns-clause-told
returns-clause-told c = holder_told

pub returns-clause-stalled : goal.returns-clause-stalled
returns-clause-stalled c = holder_sends

pub returns-clause-handed : goal.returns-clause-handed
returns-clause-handed c =
    holder_loosens (record { opens = c.opening_laws.ensures.opens; labels = c.opening_laws.ensures.labels })

pub returns-clause-loosens : goal.returns-clause-loosens
returns-clause-loosens c =
    holder_goes (record { opens = c.opening_laws.ensures.opens; labels = c.opening_laws.ensures.labels })
