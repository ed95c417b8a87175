-- What a file means keeps what all hosts keep.
use Rattle.std.proofs.Common.{◌≡◌, ℕ, List, All, length, sym, subst, ap, ◌∙◌, codes}
use Rattle.std.proofs.lemmas.List.{length-map}
use Rattle.std.proofs.lemmas.List.Elements.{All-from_recursion}
use Rattle.js_base.specs.Name.{IsName}
use Rattle.label_lattice.specs.Over.{IsLabelOver}
use Rattle.host_decl.specs.declared.key.TheConstants.{KEY_BYTES}
use Rattle.host_decl.specs.Draft.{HostsDraftShape, draft_of}
use Rattle.host_decl.specs.Hosts.{HostsShape, AreCosts, AreHostNames, AreHosts}
use Rattle.host_decl.specs.Meaning.{IsMeaningOf, host_names}
use Rattle.host_decl.specs.Reading.{ReadsHosts}
use Rattle.host_decl.specs.Schema.{tables_of, items_at}
use Rattle.host_decl.proofs.BadKeys.{sound_hosts}
use Rattle.host_decl.proofs.Costs.{table_of_costs}
use Rattle.host_decl.proofs.Declared.{are_declared}
use Rattle.host_decl.proofs.DeclaredNames.{principal_names, host_names_of}
use Rattle.host_decl.proofs.HostRows.{HaveWholeKeys, labels_over, same_names, whole_keys}
use Rattle.host_decl.proofs.SoundLinks.{sound_costs}
use Rattle.host_decl.proofs.WholeKeys.{keys_written}

-- what the schema gives: names are names of the language, and keys are whole
pub record IsSpelled (file : HostsDraftShape) : Type 0 where
  pub principals : All IsName file.names
  pub hosts : All IsName (host_names file)
  pub keys : HaveWholeKeys file.hosts

pub hosts_of_meaning : (file : HostsDraftShape) (hosts : HostsShape) → IsSpelled file → IsMeaningOf file hosts
    → AreHosts hosts
hosts_of_meaning file hosts spelled means =
    let same = same_names hosts.principals file.hosts hosts.hosts means.rows in
    let costs = table_of_costs (host_names file) file.links hosts.costs means.names.distinct
    (sound_costs (host_names file) file.links means.links) means.costs in
    let count : length (host_names file) ≡ length hosts.hosts = ap length (sym same) ∙ length-map _ _ in
    record {
      declared = are_declared file.names file.pairs hosts.principals spelled.principals means.principals;
      names = subst AreHostNames (sym same) means.names;
      named = subst (All IsName) (sym same) spelled.hosts;
      labels = All-from_recursion (λ host. IsLabelOver hosts.principals host.label) hosts.hosts
          (labels_over hosts.principals file.hosts hosts.hosts means.rows);
      keys = All-from_recursion (λ host. length host.key ≡ KEY_BYTES) hosts.hosts
          (whole_keys hosts.principals file.hosts hosts.hosts means.rows spelled.keys);
      table = subst (λ many. AreCosts many hosts.costs) count costs;
    }

pub hosts_read : (bytes : List ℕ) (hosts : HostsShape) → ReadsHosts bytes hosts → AreHosts hosts
hosts_read bytes hosts reads =
    let file = reads.0 in
    let tables = tables_of (items_at (codes "host") file) in
    let sound = sound_hosts file reads.2 in
    hosts_of_meaning (draft_of file) hosts
    (record {
      principals = principal_names file reads.2.0;
      hosts = All-from_recursion IsName _ (host_names_of tables sound);
      keys = keys_written tables sound;
    })
    reads.3
