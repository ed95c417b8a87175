-- What is seen after the event, beside what was seen before it, makes the row.
use Rattle.std.proofs.Common.{◌≡◌, ◌∙◌, length, ℕ, Some, None, ap, sym, subst, refl}
use Rattle.std.specs.Prelude.{nat_lt, if◌then◌else◌}
use Rattle.js_base.specs.declared.ids.HostId.{HostId}
use Rattle.net_world.specs.Fits.{world_of}
use Rattle.net_world.specs.World.{state_at, mover}
use Rattle.run_rows.specs.declared.seen.Seen.{Seen}
use Rattle.run_rows.specs.Rows.{IsTelling, seen_in}
use Rattle.run_rows.proofs.Ignoring.{ignoring}
use Rattle.run_rows.proofs.SeenAfter.{runs_is, waits_is, counted_as, halts_now}
use Rattle.run_rows.proofs.Tellings.{one_more, told}
use Rattle.run_rows.proofs.rows.row_after.Goals as goal

pub returns-clause-row : goal.returns-clause-row
returns-clause-row c = λ old fits before step changed.
    let code = c.args.code.now in
    let next = world_of c.args.world.now in
    let event = c.args.event.now in
    let host : c.seen_of-host.result ≡ seen_in (state_at next (mover event)) =
    c.seen_of-host.ensures ∙ ap (λ (h : HostId). seen_in (state_at next h)) c.mover.ensures in
    let ignored = ap (λ (s : Seen). s.ignored) host in
    let was = ap (λ (s : Seen). s.ignored) before.host in
    let sent : length c.sent.result.now ≡ length next.sent = ap length c.sent.ensures in
    let telling = told old.sent next.sent (one_more code old next event step) in
    record {
      line = refl;
      what = before.what;
      ignored = ignoring code old next event c.args.before.now.what _ c.why_not.result
          (c.reason_laws.ensures.seen code) fits step before.what c.why_not.ensures (counted_as _ _ _ _ ignored was);
      told = subst (IsTelling old.sent next.sent)
          (sym (c.number_told.ensures
          ∙ ap (λ (n : ℕ). if nat_lt n (length c.sent.result.now) then Some n else None) before.sent
          ∙ ap (λ (n : ℕ). if nat_lt (length old.sent) n then Some (length old.sent) else None) sent))
          telling;
      change = changed;
      halts = halts_now c.args.world.now.root code.root old next c.args.before.now.halted c.halted.result
          c.is_turn.result c.requires.root c.is_turn.ensures c.halted.ensures before.halted;
      runs = ap (λ (s : Seen). s.runs) host ∙ runs_is (state_at next (mover event));
      waits = ap (λ (s : Seen). s.waits) host ∙ waits_is (state_at next (mover event));
    }
