-- What a script says is of misbehaving hosts is so in the first world.
use Rattle.std.proofs.Common.{◌≡◌, ◌<◌, ◌+◌, ◌==◌, ℕ, zero, suc, ℤ, Bool, true, false, List, [], ◌∷◌, length, map}
use Rattle.std.proofs.Common.{Option, Some, None, refl, ap, sym, subst, ◌∙◌, arith, eq-eqb}
use Rattle.std.specs.Prelude.{slice_get, IsTrue, if◌then◌else◌}
use Rattle.std.specs.Int.{bit_at}
use Rattle.std.proofs.lemmas.List.{length-map}
use Rattle.event_text.specs.declared.event.Event.{Event}
use Rattle.event_text.specs.declared.event.Event.TheVariants.{Take, Turn, Act}
use Rattle.event_text.specs.declared.event.BadMessage.{BadMessage}
use Rattle.event_text.specs.declared.event.BadMessage.TheVariants as bad
use Rattle.event_text.specs.declared.event.BadToken.{BadToken}
use Rattle.event_text.specs.declared.event.BadToken.TheVariants.{Sent, Own}
use Rattle.event_text.specs.OwnTokens.{IsOwnToken, IsOwnMessage, IsOwnEvent}
use Rattle.host_code.specs.Code.{CodeShape}
use Rattle.host_core.specs.Host.{HostState}
use Rattle.host_decl.specs.Hosts as declared_hosts
use Rattle.net_world.specs.Fits.{OwnToken, OwnTokenIn, HasOwnToken}
use Rattle.net_world.specs.World.{AreHostsOf, named_host, is_absent, host_before, hosts_before, world_at_start}

module _ (code : CodeShape) (store : List (List ℤ)) (word : ℕ) where
  absent_host : (number : ℕ) (row : declared_hosts.HostShape) → bit_at word number ≡ 1 →
      is_absent (Some (host_before code store word number row)) ≡ true
  absent_host number row set = rw (eq-eqb (bit_at word number) 1 set) refl

  absent_there : (number : ℕ) (rows : List declared_hosts.HostShape) (place : ℕ) → place < length rows →
      bit_at word (number + place) ≡ 1 →
      is_absent (slice_get (hosts_before code store word number rows) place) ≡ true
  absent_there number [] place within set = absurd (omega arith)
  absent_there number (row ∷ rows) zero within set =
      absent_host number row (ap (bit_at word) (let same : number ≡ number + 0 = omega arith in same) ∙ set)
  absent_there number (row ∷ rows) (suc place) within set =
      absent_there (number + 1) rows place (omega arith)
      (ap (bit_at word) (let same : number + 1 + place ≡ number + suc place = omega arith in same) ∙ set)

  module _ (rows : List declared_hosts.HostShape) (are : AreHostsOf code rows) where
    token_at_start : (token : BadToken) → IsOwnToken code.hosts word token →
        OwnToken (world_at_start code rows word store) token
    token_at_start (Sent number) own = tt
    token_at_start (Own token) own =
        let many : length code.hosts ≡ length rows = ap length (sym are) ∙ length-map rows named_host in
        absent_there 0 rows token.host.0 (omega (arith, own.0))
        (ap (bit_at word) (let same : 0 + token.host.0 ≡ token.host.0 = omega arith in same) ∙ own.1)

    message_at_start : (made : BadMessage) → IsOwnMessage code.hosts word made →
        OwnTokenIn (world_at_start code rows word store) made
    message_at_start (bad.Get request field index) own = tt
    message_at_start (bad.Set request field index value) own = tt
    message_at_start (bad.Forward request frame variable value) own = tt
    message_at_start (bad.Sync request frame entry token) own = token_at_start token own
    message_at_start (bad.Rgoto frame entry token) own = token_at_start token own
    message_at_start (bad.RgotoWith frame entry token riders) own = token_at_start token own
    message_at_start (bad.Lgoto token) own = token_at_start token own
    message_at_start (bad.Value request value) own = tt
    message_at_start (bad.Ack request) own = tt
    message_at_start (bad.Token request token) own = token_at_start token own

    pub own_at_start : (event : Event) → IsOwnEvent code.hosts word event →
        HasOwnToken (world_at_start code rows word store) event
    own_at_start (Take from to place) own = tt
    own_at_start (Turn host) own = tt
    own_at_start (Act from to made) own = message_at_start made own
