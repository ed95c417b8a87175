use Rattle.std.proofs.Common.{◌≡◌, ◌<◌, true, false, ◌||◌, [], length, get_or, ap, sym, ◌∙◌, arith}
use Rattle.std.specs.Prelude.{if◌then◌else◌, unwrap_or}
use Rattle.std.proofs.lemmas.List.Folds.{list_any_at, list_any_more}
use Rattle.std.proofs.lemmas.Option.{slice_get-get_or}
use Rattle.split_file.specs.Spelling.{any_ride}
use Rattle.split_file.proofs.writing.version_of.Goals as goal

pub returns-then-any_ride : goal.returns-then-any_ride
returns-then-any_ride c =
    let code = c.args.code.now in
    let host = c.loop-host.host in
    let long = ap length c.hosts.ensures.hosts in
    let within : host < length code.parts =
    omega (arith, c.loop-host-test.true, long, c.hosts.ensures.sound.a_part_each) in
    let there = c.part.ensures
    ∙ ap (λ found. unwrap_or found []) (slice_get-get_or code.parts host [] within) in
    let rides : any_ride (get_or code.parts host []) ≡ true =
    ap any_ride (sym there) ∙ sym c.if-any_ride.ensures in
    sym (ap (λ b. if b then 2 else 1) (list_any_at any_ride code.parts host [] within rides))

pub loop-host-preserved : goal.loop-host-preserved
loop-host-preserved c =
    let code = c.args.code.now in
    let host = c.loop-host.host in
    let long = ap length c.hosts.ensures.hosts in
    let within : host < length code.parts =
    omega (arith, c.loop-host-test.true, long, c.hosts.ensures.sound.a_part_each) in
    let there = c.part.ensures
    ∙ ap (λ found. unwrap_or found []) (slice_get-get_or code.parts host [] within) in
    let stays : any_ride (get_or code.parts host []) ≡ false =
    ap any_ride (sym there) ∙ sym c.if-any_ride.ensures in
    list_any_more any_ride code.parts host [] within
    ∙ ap (λ before. before || any_ride (get_or code.parts host [])) c.loop-host.invariant ∙ stays
