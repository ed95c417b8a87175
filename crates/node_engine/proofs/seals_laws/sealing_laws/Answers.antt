use Rattle.std.proofs.Common.{Ok, Err, arith}
use Rattle.link_seal.specs.declared.errors.OpenError.TheVariants as refusal
use Rattle.link_seal.specs.Links.{after_one}
use Rattle.node_seals.specs.Seals.{link_of, raised}
use Rattle.node_engine.proofs.SealedFrames.{nothing_lacks, opens_as, raised_link, sealed_for, taken_by}
use Rattle.node_engine.proofs.seals_laws.sealing_laws.Goals as goal

pub returns-clause-sends_sealed : goal.returns-clause-sends_sealed
returns-clause-sends_sealed c = λ links to frame bytes is. sealed_for (link_of links.sealers to) frame bytes is

pub returns-clause-takes_sealed : goal.returns-clause-takes_sealed
returns-clause-takes_sealed c = λ links bytes from frame are is.
    let opens = opens_as links from bytes frame is in
    let was = c.seal_laws.ensures.opened opens.0 bytes frame are opens.2 in
    (opens.0, opens.1, was.0, was.1)

pub returns-clause-taken : goal.returns-clause-taken
returns-clause-taken c = λ links link frame there can.
    taken_by links link link frame (Ok frame) there (c.seal_laws.ensures.again link frame can)

pub returns-clause-taken_once : goal.returns-clause-taken_once
returns-clause-taken_once c = λ links link frame there can.
    let behind = after_one link in
    taken_by (record links { openers = raised link.from links.openers }) link behind frame
    (Err (refusal.WrongNumber behind.next)) (raised_link links.openers link.from link there)
    (c.seal_laws.ensures.out_of_turn behind link.next frame can (λ same. omega arith))

pub returns-clause-nothing_lacks : goal.returns-clause-nothing_lacks
returns-clause-nothing_lacks c = nothing_lacks
