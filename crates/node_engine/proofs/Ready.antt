-- A node and what it is lent, over several calls.
use Rattle.std.proofs.Common.{◌≡◌, ◌∙◌, subst, sym}
use Rattle.host_code.specs.Code.{CodeShape}
use Rattle.host_core.specs.Fits.{HostFits}
use Rattle.host_core.specs.Host.{HostModel}
use Rattle.node_engine.specs.declared.node.Node.{Node}
use Rattle.node_engine.specs.Told.{HasSameHost, IsNodeReady, IsSameNode}

pub same_later : {L R : Type 0} (old mid new : Node L R) → IsSameNode old mid → IsSameNode mid new →
    IsSameNode old new
same_later old mid new one two = record {
  code = two.code ∙ one.code;
  me = two.me ∙ one.me;
  host = two.host ∙ one.host;
  seals = two.seals ∙ one.seals;
  links = two.links ∙ one.links;
  journal = two.journal ∙ one.journal;
}

pub same_host_later : {L R : Type 0} (old mid new : Node L R) → HasSameHost old mid → HasSameHost mid new →
    HasSameHost old new
same_host_later old mid new one two = record {
  node = same_later old mid new one.node two.node;
  host_is = two.host_is ∙ one.host_is;
}

-- a node is ready yet whose host did not change
pub ready_later : {L R : Type 0} (mid new : Node L R) → HasSameHost mid new → IsNodeReady mid → IsNodeReady new
ready_later mid new same ready = record {
  fits = subst (λ (code : CodeShape). HostFits code new.host.now) (sym same.node.code)
      (subst (λ (host : HostModel). HostFits mid.code.now host) (sym same.host_is) ready.fits);
  me = let host : new.host.now.me ≡ mid.host.now.me = cc in host ∙ ready.me ∙ sym same.node.me;
}
