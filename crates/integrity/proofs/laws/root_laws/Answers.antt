use Rattle.integrity.proofs.RootLaws.{AreSplitLaws, starting, follows_nothing}
use Rattle.integrity.proofs.Starts.{outside_at_start}
use Rattle.integrity.proofs.laws.root_laws.Goals as goal

pub returns-clause-outside : goal.returns-clause-outside
returns-clause-outside c = λ placed table bad store misbehaves.
    outside_at_start _ placed.hosts.hosts bad store misbehaves

pub returns-clause-stands : goal.returns-clause-stands
returns-clause-stands c =
    let laws : AreSplitLaws =
    record {
      opening = record { opens = c.opening_laws.ensures.opens; labels = c.opening_laws.ensures.labels };
      typable = c.trust_laws.ensures.typable;
      typed = c.split_laws.ensures.typed;
    } in
    λ program placed bad store events world splittable allowed reach misbehaves.
    starting laws program placed bad store splittable allowed misbehaves events world reach

pub returns-clause-follows : goal.returns-clause-follows
returns-clause-follows c =
    let laws : AreSplitLaws =
    record {
      opening = record { opens = c.opening_laws.ensures.opens; labels = c.opening_laws.ensures.labels };
      typable = c.trust_laws.ensures.typable;
      typed = c.split_laws.ensures.typed;
    } in
    λ program placed bad store events world splittable allowed reach misbehaves.
    follows_nothing laws program placed bad store splittable allowed misbehaves events world reach
