-- The texts and numbers in what was read of a host file.
use Rattle.std.specs.Prelude.{map, string_bytes}
use Rattle.principals.specs.Declaring.{written_pairs}
use Rattle.host_decl.specs.declared.draft.HostDraft.{HostDraft}
use Rattle.host_decl.specs.declared.draft.LinkDraft.{LinkDraft}
use Rattle.host_decl.specs.declared.draft.HostsDraft.{HostsDraft}
use Rattle.host_decl.specs.Draft.{HostDraftShape, LinkDraftShape, HostsDraftShape}

abbrev pub host_draft : HostDraft → HostDraftShape
host_draft host =
    record {
      name = string_bytes host.name;
      label = string_bytes host.label;
      key = host.key;
      path = string_bytes host.path;
    }

abbrev pub link_draft : LinkDraft → LinkDraftShape
link_draft link = record { from = string_bytes link.from; to = string_bytes link.to; cost = link.cost }

abbrev pub hosts_draft : HostsDraft → HostsDraftShape
hosts_draft draft =
    record {
      names = map string_bytes draft.names.items;
      pairs = written_pairs draft.pairs.items;
      hosts = map host_draft draft.hosts.items;
      links = map link_draft draft.links.items;
    }
