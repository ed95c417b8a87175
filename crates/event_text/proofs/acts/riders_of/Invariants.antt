use Rattle.std.proofs.Common.{◌≡◌, length}
use Rattle.std.specs.Option.{option_and_then}
use Rattle.host_code.specs.Riders.{riders_from}
use Rattle.event_text.specs.Acts.{riders_in}
use Rattle.event_text.specs.Lines.{words}
use Rattle.event_text.proofs.RiderLists.{with_front}
use Rattle.event_text.proofs.acts.riders_of.Given as goal

-- the riders so far, with those that the rest says, are those of the line
abbrev pub invariant-loop : goal.invariant-loop
invariant-loop l = record {
  whole : with_front l.riders (riders_in l.code (words l.rest))
      ≡ option_and_then riders_from (riders_in l.code (words l.line));
  many : length l.riders ≡ l.counter;
}
