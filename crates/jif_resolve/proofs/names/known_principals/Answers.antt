use Rattle.std.proofs.lemmas.List.Elements.{All-push}
use Rattle.std.proofs.Common.{◌<◌, length}
use Rattle.jif_grammar.specs.DraftShapes.{name_shape}
use Rattle.jif_resolve.specs.Faults.{principal_faults}
use Rattle.jif_resolve.proofs.Cleanly.{clean_at, known_more}
use Rattle.jif_resolve.proofs.names.known_principals.Goals as goal

pub known_principal-requires : goal.known_principal-requires
known_principal-requires c =
    clean_at name_shape (principal_faults c.args.principals.now) c.args.names.now c.loop-name.name-index
    c.name-item.result c.loop-name-test.true c.name-item.is c.requires

pub loop-name-preserved : goal.loop-name-preserved
loop-name-preserved c =
    let declared = c.args.principals.now.names in
    rw c.in_ok-push.ensures.items (record {
      known = known_more c.args.principals.now c.args.names.now c.loop-name.known.items c.loop-name.name-index
          c.name-item.result c.known_principal.result c.loop-name-test.true c.name-item.is c.loop-name.invariant.known
          c.known_principal.ensures.known;
      declared = All-push (λ named. named.0 < length declared) c.loop-name.known.items c.known_principal.result
          c.loop-name.invariant.declared c.known_principal.ensures.declared;
    })
