-- The world before the first event.
use Rattle.std.proofs.Common.{◌≡◌, ℕ, List, [], length, replicate, ap, sym, subst, ◌∙◌, arith}
use Rattle.std.specs.Prelude.{ℤ}
use Rattle.host_decl.specs.Hosts as declared_hosts
use Rattle.host_code.specs.Code.{CodeShape}
use Rattle.net_world.specs.declared.flying.TheConstants.{PAIRS}
use Rattle.net_world.specs.Flying.{Flight, Flying, flights_of, flying_of}
use Rattle.net_world.specs.World.{world_at_start, hosts_before}
use Rattle.net_world.specs.Fits.{WorldModel, MailFits, world_of, states_of}
use Rattle.net_world.proofs.Letters.{flying_empty}

pub started : (code : CodeShape) (rows : List declared_hosts.HostShape) (bad : ℕ) (store : List (List ℤ))
    (world : WorldModel) → states_of world.hosts ≡ hosts_before code store bad 0 rows →
    flights_of world.queues ≡ replicate PAIRS [] → world.told.sent ≡ [] →
    world_of world ≡ world_at_start code rows bad store
started code rows bad store world states empty nothing =
    ap (λ (qs : List (List Flight)). record {
      hosts = states_of world.hosts;
      flying = flying_of (length world.hosts) qs;
      sent = world.told.sent;
    }) empty
    ∙ ap (λ (flying : Flying). record { hosts = states_of world.hosts; flying = flying; sent = world.told.sent })
    (flying_empty (length world.hosts) PAIRS)
    ∙ ap (λ sent. record { hosts = states_of world.hosts; flying = λ from to. []; sent = sent }) nothing
    ∙ ap (λ hosts. record { hosts = hosts; flying = λ from to. []; sent = [] }) states

pub nothing_sent : (code : CodeShape) (rows : List declared_hosts.HostShape) (bad : ℕ) (store : List (List ℤ)) →
    MailFits code (world_at_start code rows bad store)
nothing_sent code rows bad store = record {
  flying = λ from to k d lt. absurd (omega arith);
  sent = λ k d lt. absurd (omega arith);
}

pub mail_at_start : (code : CodeShape) (rows : List declared_hosts.HostShape) (bad : ℕ) (store : List (List ℤ))
    (world : WorldModel) → world_of world ≡ world_at_start code rows bad store → MailFits code (world_of world)
mail_at_start code rows bad store world same =
    subst (MailFits code) (sym same) (nothing_sent code rows bad store)
