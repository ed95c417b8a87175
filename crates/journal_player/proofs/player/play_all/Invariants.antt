use Rattle.std.proofs.Common.{◌≡◌, ◌-◌, ◌≤◌, length}
use Rattle.std.specs.Prelude.{false}
use Rattle.host_core.specs.Fits.{HostFits}
use Rattle.host_core.specs.Host.{state_of}
use Rattle.host_core.specs.Start.{host_at_start}
use Rattle.host_core.specs.Told.{told_key}
use Rattle.record_merge.specs.JournalLines.{journal_of}
use Rattle.journal_player.proofs.Played.{IsPlayedTo}
use Rattle.journal_player.proofs.player.play_all.Given as goal

-- the lines before the place were played, a call for each at the most
abbrev pub invariant-loop-place : goal.invariant-loop-place
invariant-loop-place l = record {
  within : l.place ≤ length l.lines;
  own : l.host.me ≡ l.fn.me;
  fits : HostFits l.code l.host;
  calls : l.host.calls ≤ l.place;
  stopped : l.host.stopped ≡ false;
  played : IsPlayedTo l.code (host_at_start l.code l.store told_key l.fn.me) (journal_of l.lines) l.place
      (state_of l.host);
}

abbrev pub decreases-loop-place : goal.decreases-loop-place
decreases-loop-place l = length l.lines - l.place
