-- What stops a command stops it also behind the stages before.
use Rattle.std.proofs.Common.{ℕ, List, inl}
use Rattle.jif_grammar.specs.DraftShapes.{DraftShape}
use Rattle.host_decl.specs.Hosts.{HostsShape}
use Rattle.front_end.specs.declared.stop.Stop.{Stop}
use Rattle.front_end.specs.Stages.{given, stopped}
use Rattle.front_end.specs.Loading.{StopsWith}
use Rattle.front_end.specs.Sources.{Drafted, HostsRead, DraftAccepted, AcceptedWith, Sources}
use Rattle.front_end.proofs.Stages.{stops_weaker}

pub after_draft : (p h : List ℕ) (draft : DraftShape) (why : Stop) → Drafted p (given draft) →
    StopsWith (λ verdict. AcceptedWith h draft (stopped verdict)) why →
    StopsWith (λ verdict. Sources p h (stopped verdict)) why
after_draft p h draft why was stops =
    stops_weaker (λ verdict. AcceptedWith h draft (stopped verdict)) (λ verdict. Sources p h (stopped verdict)) why
    (λ verdict end. inl (draft, was, end)) stops

pub after_hosts : (h : List ℕ) (draft : DraftShape) (file : HostsShape) (why : Stop) → HostsRead h (given file) →
    StopsWith (λ verdict. DraftAccepted file draft (stopped verdict)) why →
    StopsWith (λ verdict. AcceptedWith h draft (stopped verdict)) why
after_hosts h draft file why was stops =
    stops_weaker (λ verdict. DraftAccepted file draft (stopped verdict))
    (λ verdict. AcceptedWith h draft (stopped verdict)) why (λ verdict end. inl (file, was, end)) stops
