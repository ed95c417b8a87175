use Rattle.net_world.proofs.Shapes.{shape_step}
use Rattle.token_laws.proofs.HeldLaws.{known, held_once, held_before, sent_before, own_before, same_place, stays_gone}
use Rattle.token_laws.proofs.WorldTokens.{account}
use Rattle.token_laws.proofs.laws.holder_laws.Goals as goal

pub returns-clause-one_holder : goal.returns-clause-one_holder
returns-clause-one_holder c = λ code rows bad store events world token first second reach obeys unsent holds also.
    held_once code world token first second (known code rows bad store events world reach) obeys unsent holds also

pub returns-clause-held_old : goal.returns-clause-held_old
returns-clause-held_old c = λ code rows bad store events world token reach obeys named held.
    held_before code world token (known code rows bad store events world reach) obeys named held

pub returns-clause-sent_old : goal.returns-clause-sent_old
returns-clause-sent_old c = λ code rows bad store events world token reach obeys named sent.
    sent_before world token (known code rows bad store events world reach).held obeys named sent

pub returns-clause-own_old : goal.returns-clause-own_old
returns-clause-own_old c = λ code rows bad store events world host state place on_stack reach obeys there.
    own_before code world host state place on_stack (known code rows bad store events world reach).fits obeys there

pub returns-clause-own : goal.returns-clause-own
returns-clause-own c =
    λ code rows bad store events world host state first second one other reach obeys there also same.
    same_place code world host state first second one other (known code rows bad store events world reach).fits obeys
    there also same

pub returns-clause-gone : goal.returns-clause-gone
returns-clause-gone c = λ code rows bad store events world after event token reach own step before nobody unsent.
    let is = known code rows bad store events world reach in
    stays_gone code world after token (shape_step code world after event reach.sound is.fits own step)
    (account code world after event reach.sound is.fits own step) before nobody unsent
