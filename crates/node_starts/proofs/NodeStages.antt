-- A file of starting values ends the stages by which a node begins.
use Rattle.std.proofs.Common.{ℕ, List, inr, map, refl}
use Rattle.host_code.specs.Code.{CodeShape}
use Rattle.host_decl.specs.Hosts.{HostsShape}
use Rattle.event_text.specs.Settings.{form_of}
use Rattle.front_end.specs.declared.stop.Stop.{Stop}
use Rattle.front_end.specs.Loading.{StopsWith}
use Rattle.front_end.specs.Stages.{stopped}
use Rattle.front_end.specs.Starting.{StartingValues}
use Rattle.front_end.proofs.Stages.{stops_weaker}
use Rattle.node_starts.specs.NodeSources.{Valued}

-- it is refused
pub values_stop : (file start : List ℕ) (code : CodeShape) (hosts : HostsShape) (why : Stop) →
    StopsWith (λ verdict. StartingValues file start (map form_of code.fields) (stopped verdict)) why →
    StopsWith (λ verdict. Valued file start code hosts (stopped verdict)) why
values_stop file start code hosts why stops =
    stops_weaker (λ verdict. StartingValues file start (map form_of code.fields) (stopped verdict))
    (λ verdict. Valued file start code hosts (stopped verdict)) why (λ verdict was. inr (verdict, was, refl)) stops
