-- A site by its parts.
use Rattle.std.proofs.Common.{◌≡◌, ◌∙◌, ap}
use Rattle.principals.specs.ActsFor.{Declared}
use Rattle.label_lattice.specs.declared.label.Label.{Label}
use Rattle.jif_tree.specs.declared.program.Checked.{Checked}
use Rattle.jif_tree.specs.declared.program.Method.{Method}
use Rattle.jif_tree.specs.Trees.{method_tree}
use Rattle.need_labels.specs.Labelled.{labelled_of}
use Rattle.place_reasons.specs.declared.site.HostSite.{HostSite}
use Rattle.place_reasons.specs.Reasons.{site_of}
use Rattle.place_reasons.specs.Search.{site_is}

pub same_site : (site : HostSite) (principals : Declared) (checked : Checked) (host : Label) (method : Method) →
    site.principals.now ≡ principals → site.checked.now ≡ checked → site.host.now ≡ host →
    site.method.now ≡ method → site_is site ≡ site_of principals (labelled_of checked) host (method_tree method)
same_site site principals checked host method one two three four =
    ap (λ (all : Declared). site_of all (labelled_of site.checked.now) site.host.now (method_tree site.method.now)) one
    ∙ ap (λ (all : Checked). site_of principals (labelled_of all) site.host.now (method_tree site.method.now)) two
    ∙ ap (λ (all : Label). site_of principals (labelled_of checked) all (method_tree site.method.now)) three
    ∙ ap (λ (all : Method). site_of principals (labelled_of checked) host (method_tree all)) four
