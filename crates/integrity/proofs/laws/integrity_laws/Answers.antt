use Rattle.integrity.proofs.AlteredLaws.{follows_always}
use Rattle.integrity.proofs.RootLaws.{AreSplitLaws}
use Rattle.integrity.proofs.laws.integrity_laws.Goals as goal

pub returns : goal.returns
returns c =
    let laws : AreSplitLaws =
    record {
      opening = record { opens = c.opening_laws.ensures.opens; labels = c.opening_laws.ensures.labels };
      typable = c.trust_laws.ensures.typable;
      typed = c.split_laws.ensures.typed;
    } in
    record { follows = follows_always laws }
