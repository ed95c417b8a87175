use Rattle.std.proofs.Common.{◌≡◌, pos, map, All, string_bytes, sym, subst}
use Rattle.std.proofs.lemmas.List.{length-map}
use Rattle.std.proofs.lemmas.List.Elements.{All-map}
use Rattle.js_base.specs.Name.{IsName}
use Rattle.principals.specs.Declaring.{AreDeclaredAs}
use Rattle.host_decl.specs.DraftView.{hosts_draft}
use Rattle.host_decl.specs.Hosts.{AreHostNames, names_of}
use Rattle.host_decl.specs.Meaning.{IsMeaningOf, RefusesFile, AreSoundLinks, IsFirstBadLink, cost_table}
use Rattle.host_decl.proofs.HostRows.{keys_as_read}
use Rattle.host_decl.proofs.Meanings.{written_names, names_fail, labels_fail, link_fails, names_of_rows, means}
use Rattle.host_decl.proofs.Meanings.{passed_on}
use Rattle.host_decl.proofs.SoundHosts.{IsSpelled, hosts_of_meaning}
use Rattle.host_decl.proofs.SoundLinks.{costs_as_read, sound_costs}
use Rattle.host_decl.proofs.resolve.resolve.Goals as goal

pub returns-in_err-test_names : goal.returns-in_err-test_names
returns-in_err-test_names c =
    let file = hosts_draft c.args.draft in
    let declared : AreDeclaredAs file.names file.pairs c.in_ok-principals.principals =
    rw (c.deref.ensures.value, c.deref-2.ensures.value) at c.in_ok-principals.ensures in
    let fail = rw c.deref-3.ensures.value at c.in_err-test_names.ensures.err in
    passed_on (IsMeaningOf file)
    (RefusesFile file) c.in_err-test_names.field-0.0 c.from_residual-in_err-test_names.result
    c.from_residual-in_err-test_names.ensures
    (names_fail file c.in_ok-principals.principals _ c.in_err-test_names.field-0.0 declared
    (written_names c.args.draft.hosts.items) fail)

pub returns-in_err-rows : goal.returns-in_err-rows
returns-in_err-rows c =
    let file = hosts_draft c.args.draft in
    let declared : AreDeclaredAs file.names file.pairs c.in_ok-principals.principals =
    rw (c.deref.ensures.value, c.deref-2.ensures.value) at c.in_ok-principals.ensures in
    let named = written_names c.args.draft.hosts.items in
    let sound : AreHostNames (map (λ host. string_bytes host.name) c.args.draft.hosts.items) =
    rw c.deref-3.ensures.value at c.in_ok-test_names.ensures.ok in
    passed_on (IsMeaningOf file)
    (RefusesFile file) c.in_err-rows.field-0.0 c.from_residual-in_err-rows.result c.from_residual-in_err-rows.ensures
    (labels_fail file c.in_ok-principals.principals _ c.in_err-rows.field-0.0 declared named sound
    c.in_err-rows.ensures)

pub first_bad_link-requires : goal.first_bad_link-requires
first_bad_link-requires c =
    let file = hosts_draft c.args.draft in
    let named = written_names c.args.draft.hosts.items in
    let sound : AreHostNames (map (λ host. string_bytes host.name) c.args.draft.hosts.items) =
    rw c.deref-3.ensures.value at c.in_ok-test_names.ensures.ok in
    let few = (names_of_rows file c.in_ok-principals.principals _ c.in_ok-rows.rows.items named sound
    c.in_ok-rows.ensures).few in
    rw c.deref-4.ensures.value (rw length-map at few)

pub returns-in-Some : goal.returns-in-Some
returns-in-Some c =
    let file = hosts_draft c.args.draft in
    let declared : AreDeclaredAs file.names file.pairs c.in_ok-principals.principals =
    rw (c.deref.ensures.value, c.deref-2.ensures.value) at c.in_ok-principals.ensures in
    let named = written_names c.args.draft.hosts.items in
    let sound : AreHostNames (map (λ host. string_bytes host.name) c.args.draft.hosts.items) =
    rw c.deref-3.ensures.value at c.in_ok-test_names.ensures.ok in
    let bad : IsFirstBadLink (names_of c.in_ok-rows.rows.items) file.links c.in-Some.number =
    rw (c.deref-4.ensures.value, c.deref-5.ensures.value) at c.in-Some.ensures.some in
    link_fails file c.in_ok-principals.principals _ c.in_ok-rows.rows.items c.in-Some.number declared named sound
    c.in_ok-rows.ensures bad

pub costs_of-requires : goal.costs_of-requires
costs_of-requires c =
    let file = hosts_draft c.args.draft in
    let sound_links : AreSoundLinks (names_of c.in_ok-rows.rows.items) file.links =
    rw (c.deref-4.ensures.value, c.deref-5.ensures.value) at c.in_default.ensures.none in
    rw c.deref-7.ensures.value
    (costs_as_read c.args.draft.links.items (sound_costs (names_of c.in_ok-rows.rows.items) file.links sound_links))

pub new-requires : goal.new-requires
new-requires c =
    let file = hosts_draft c.args.draft in
    let named = written_names c.args.draft.hosts.items in
    let sound : AreHostNames (map (λ host. string_bytes host.name) c.args.draft.hosts.items) =
    rw c.deref-3.ensures.value at c.in_ok-test_names.ensures.ok in
    let sound_links : AreSoundLinks (names_of c.in_ok-rows.rows.items) file.links =
    rw (c.deref-4.ensures.value, c.deref-5.ensures.value) at c.in_default.ensures.none in
    let table : map (λ row. map pos row.items) c.in_ok-costs.costs.items ≡ cost_table
    (names_of c.in_ok-rows.rows.items) file.links =
    rw (c.deref-6.ensures.value, c.deref-7.ensures.value) at c.in_ok-costs.ensures in
    let declared : AreDeclaredAs file.names file.pairs c.in_ok-principals.principals =
    rw (c.deref.ensures.value, c.deref-2.ensures.value) at c.in_ok-principals.ensures in
    let spelled : IsSpelled file = record {
      principals = All-map IsName string_bytes c.args.draft.names.items c.requires.names;
      hosts = subst (All IsName) named c.requires.hosts;
      keys = keys_as_read c.args.draft.hosts.items;
    } in
    hosts_of_meaning file _ spelled
    (means file c.in_ok-principals.principals _ c.in_ok-rows.rows.items c.in_ok-costs.costs.items declared named sound
    c.in_ok-rows.ensures sound_links table)

pub returns : goal.returns
returns c =
    let file = hosts_draft c.args.draft in
    let declared : AreDeclaredAs file.names file.pairs c.in_ok-principals.principals =
    rw (c.deref.ensures.value, c.deref-2.ensures.value) at c.in_ok-principals.ensures in
    let named = written_names c.args.draft.hosts.items in
    let sound : AreHostNames (map (λ host. string_bytes host.name) c.args.draft.hosts.items) =
    rw c.deref-3.ensures.value at c.in_ok-test_names.ensures.ok in
    let sound_links : AreSoundLinks (names_of c.in_ok-rows.rows.items) file.links =
    rw (c.deref-4.ensures.value, c.deref-5.ensures.value) at c.in_default.ensures.none in
    let table : map (λ row. map pos row.items) c.in_ok-costs.costs.items ≡ cost_table
    (names_of c.in_ok-rows.rows.items) file.links =
    rw (c.deref-6.ensures.value, c.deref-7.ensures.value) at c.in_ok-costs.ensures in
    subst (IsMeaningOf file) (sym c.new.ensures)
    (means file c.in_ok-principals.principals _ c.in_ok-rows.rows.items c.in_ok-costs.costs.items declared named sound
    c.in_ok-rows.ensures sound_links table)
