use Rattle.std.proofs.Common.{◌≡◌, ◌++◌, take}
use Rattle.std.specs.List.{flat_map}
use Rattle.split_file.specs.Spelling.{host_id_bytes}
use Rattle.split_file.proofs.writing.put_sites.Given as goal

abbrev pub invariant-loop-site : goal.invariant-loop-site
invariant-loop-site l = l.out.items ≡ l.initial.out.items ++ flat_map host_id_bytes (take l.site-index l.sites)
