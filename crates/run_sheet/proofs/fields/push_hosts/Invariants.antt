use Rattle.std.proofs.Common.{◌≡◌, ◌++◌, codes, flat_map, take, string_bytes}
use Rattle.host_code.specs.MessageText.{host_text}
use Rattle.run_sheet.proofs.fields.push_hosts.Given as goal

-- the names so far were added
abbrev pub invariant-loop-host : goal.invariant-loop-host
invariant-loop-host l =
    string_bytes l.text ≡ string_bytes l.initial.text ++ flat_map (λ host. codes ", " ++ host_text l.code host)
    (take l.host-index l.hosts)
