-- Starting values that misbehaving hosts may not tell apart, whoever of two runs comes first.
use Rattle.std.proofs.Common.{◌≡◌, ◌∙◌, ℕ, zero, suc, ◌+◌, ◌<◌, false, List, [], ◌∷◌, length}
use Rattle.std.proofs.Common.{Option, Some, None, slice_get, refl, sym, ap, subst, ⊎_elim, arith}
use Rattle.std.specs.Prelude.{◌≢◌, ℤ, unwrap_or, IsSome, IsSomeAnd}
use Rattle.std.proofs.lemmas.Bool.{true≢false}
use Rattle.std.proofs.lemmas.List.{length-map}
use Rattle.std.proofs.lemmas.Option.{slice_get_within, get_or_from_slice_get}
use Rattle.host_code.specs.Code.{CodeShape, CodeHostShape, CodeFieldShape}
use Rattle.host_code.specs.Sound.{IsSoundCode, FieldFits}
use Rattle.host_core.specs.Host.{HostState}
use Rattle.host_decl.specs.Hosts as declared_hosts
use Rattle.js_base.specs.declared.ids.HostId.{HostId}
use Rattle.net_world.specs.Secret.{IsReadable}
use Rattle.net_world.specs.World.{given, is_absent, state_at, misbehaves, named_host, AreHostsOf}
use Rattle.net_world.specs.World.{host_before, hosts_before, world_at_start}
use Rattle.agreement.proofs.SplitRuns.{same_absent}
use Rattle.agreement.specs.Alike.{AreStoresAlike}
use Rattle.run_comparison.specs.Compare.{StartsUnlike, StartAlike}
use Rattle.run_comparison.proofs.SameMessages.{same_option}
use Rattle.split_cli.proofs.SomeCompare.{same_list, same_int}

-- ---- who misbehaves at the start

-- a host that does not misbehave is there
stands_or_lacks : (found : Option HostState) → is_absent (Some found) ≡ false → IsSome (given (Some found))
stands_or_lacks None obeys = absurd (true≢false obeys)
stands_or_lacks (Some state) obeys = refl

stands : (code : CodeShape) (store : List (List ℤ)) (bad number : ℕ) (rows : List declared_hosts.HostShape)
    (place : ℕ) → place < length rows →
    is_absent (slice_get (hosts_before code store bad number rows) place) ≡ false →
    IsSome (given (slice_get (hosts_before code store bad number rows) place))
stands code store bad number [] place within obeys = absurd (omega arith)
stands code store bad number (row ∷ rows) zero within obeys =
    stands_or_lacks (host_before code store bad number row) obeys
stands code store bad number (row ∷ rows) (suc place) within obeys =
    stands code store bad (number + 1) rows place (omega arith) obeys

-- starting values play no part in who misbehaves
same_bad : (code : CodeShape) (rows : List declared_hosts.HostShape) (bad : ℕ) (store start : List (List ℤ))
    (host : HostId) →
    misbehaves (world_at_start code rows bad start) host ≡ misbehaves (world_at_start code rows bad store) host
same_bad code rows bad store start host = same_absent code store start bad 0 rows host.0

-- ---- fields

-- each host of a field has a row in the host file
field_within : (code : CodeShape) (rows : List declared_hosts.HostShape) (number : ℕ) (field : CodeFieldShape) →
    IsSoundCode code → AreHostsOf code rows → slice_get code.fields number ≡ Some field → field.host.0 < length rows
field_within code rows number field sound are there =
    let fits : FieldFits code field =
    subst (FieldFits code) (get_or_from_slice_get code.fields number field field there)
    (sound.fields number field (slice_get_within code.fields number field there)) in
    let as_many : length rows ≡ length code.hosts =
    sym (length-map rows named_host) ∙ ap (λ (hosts : List CodeHostShape). length hosts) are in
    let is_host = fits.host in
    omega (arith, is_host, as_many)

-- rows that are not unlike are the same
pub alike_stores : (code : CodeShape) (rows : List declared_hosts.HostShape) (bad : ℕ)
    (store start : List (List ℤ)) → IsSoundCode code → AreHostsOf code rows →
    StartAlike code (world_at_start code rows bad store) store start →
    AreStoresAlike code (world_at_start code rows bad store) store start
alike_stores code rows bad store start sound are alike field there is readable obeys =
    let world = world_at_start code rows bad store in
    let here : IsSome (state_at world there.host) =
    stands code store bad 0 rows there.host.0 (field_within code rows field.0 there sound are is) obeys in
    ⊎_elim
    (λ same. ap (λ (row : Option (List ℤ)). unwrap_or row []) same)
    (λ differ.
    let unlike : StartsUnlike code world store start field.0 =
    subst (λ (found : Option CodeFieldShape). IsSomeAnd found (λ it. IsReadable code world it.label
    × IsSome (state_at world it.host) × (slice_get store field.0 ≢ slice_get start field.0)))
    (sym is) (readable, here, differ) in
    absurd (alike field.0 unlike))
    (same_option (same_list same_int) (slice_get store field.0) (slice_get start field.0))

-- the runs in the other order
pub alike_swapped : (code : CodeShape) (rows : List declared_hosts.HostShape) (bad : ℕ)
    (store start : List (List ℤ)) → AreStoresAlike code (world_at_start code rows bad store) store start →
    AreStoresAlike code (world_at_start code rows bad start) start store
alike_swapped code rows bad store start alike field there is readable obeys =
    let first = world_at_start code rows bad store in
    let seen : IsReadable code first there.label =
    (readable.0, (sym (same_bad code rows bad store start readable.0) ∙ readable.1.0, readable.1.1)) in
    sym (alike field there is seen (sym (same_bad code rows bad store start there.host) ∙ obeys))
