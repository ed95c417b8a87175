-- What is told of hosts that are driven, by the program and the hosts that were read.
use Rattle.std.proofs.Common.{◌≡◌, ℕ, List, sym, ap, ◌∙◌, subst}
use Rattle.std.specs.Prelude.{ℤ}
use Rattle.host_decl.specs.Hosts.{HostsShape}
use Rattle.host_code.specs.Code.{CodeShape}
use Rattle.net_world.specs.World.{WorldShape, AllObey, world_at_start}
use Rattle.split_cli.specs.declared.driving.Driven.{Driven}
use Rattle.script_stages.specs.FirstWorld.{first_world}
use Rattle.split_cli.specs.Drive.{TellsDrive}
use Rattle.front_end.specs.PlacedCode.{code_of}
use Rattle.split_cli.specs.Driven.{HasDriven}
use Rattle.front_end.specs.PlacedSources.{PlacedSource}
use Rattle.front_end.specs.Verdicts.{Print}
use Rattle.net_world.proofs.Obeying.{obey_at_start}

pub obey_from : (code : CodeShape) (hosts : HostsShape) (values : List (List ℤ)) (world : WorldShape) →
    world ≡ world_at_start code hosts.hosts 0 values → AllObey world
obey_from code hosts values world is = subst AllObey (sym is) (obey_at_start code hosts.hosts values)

report_of : (text : CodeShape → ℕ → WorldShape → List ℕ) (placed : PlacedSource) (values : List (List ℤ)) (most : ℕ)
    (last : WorldShape) (end : Driven) (told : List ℕ) →
    HasDriven (code_of placed) (first_world placed 0 values) most last end →
    told ≡ text (code_of placed) end.made last → TellsDrive text placed values most (Print end.status told)
report_of text placed values most last end told has is = record {
  events = has.events;
  last = last;
  status = end.status;
  ends = has.ends;
  verdict_is = ap (Print end.status) (is ∙ ap (λ (n : ℕ). text (code_of placed) n last) (sym has.made));
}

pub report_made : (text : CodeShape → ℕ → WorldShape → List ℕ) (placed : PlacedSource) (code : CodeShape)
    (values : List (List ℤ)) (most : ℕ) (first last : WorldShape) (end : Driven) (told : List ℕ) →
    code ≡ code_of placed → first ≡ world_at_start code placed.source.file.hosts 0 values →
    HasDriven code first most last end → told ≡ text code end.made last →
    TellsDrive text placed values most (Print end.status told)
report_made text placed code values most first last end told code_is starts has is =
    let world_is : first ≡ first_world placed 0 values =
    starts ∙ ap (λ (c : CodeShape). world_at_start c placed.source.file.hosts 0 values) code_is in
    report_of text placed values most last end told
    (subst (λ (w : WorldShape). HasDriven (code_of placed) w most last end) world_is
    (subst (λ (c : CodeShape). HasDriven c first most last end) code_is has))
    (is ∙ ap (λ (c : CodeShape). text c end.made last) code_is)
