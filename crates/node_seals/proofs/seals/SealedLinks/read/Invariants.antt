use Rattle.std.proofs.Common.{◌≡◌, ◌≤◌, ◌+◌, Ok, length}
use Rattle.std.specs.Str.Lines.{lines}
use Rattle.js_base.specs.declared.limits.TheConstants.{SCRIPT_BYTES}
use Rattle.event_text.specs.Lines.{said_from, said_lines}
use Rattle.node_seals.specs.Seals.{links_shape}
use Rattle.node_seals.specs.SealsFile.{behind_lines, no_links}
use Rattle.node_seals.proofs.seals.SealedLinks.read.Given as goal

-- what the lines that are left make of the links so far is what all lines make
abbrev pub invariant-loop-line : goal.invariant-loop-line
invariant-loop-line l = record {
  links :
      behind_lines l.code l.me (said_from l.left.number (lines l.left.bytes.now)) (Ok (links_shape l.links))
      ≡ behind_lines l.code l.me (said_lines l.bytes) (Ok (no_links (length l.code.hosts)));
  few : l.left.number + length l.left.bytes.now ≤ SCRIPT_BYTES + 1;
}

abbrev pub decreases-loop-line : goal.decreases-loop-line
decreases-loop-line l = length l.left.bytes.now
