use Rattle.std.proofs.Common.{◌∙◌, sym}
use Rattle.need_labels.specs.Finding.{setting_at}
use Rattle.need_labels.proofs.Backings.{with_releases_back, without_releases_back}
use Rattle.need_labels.proofs.backing.with_releases.Goals as goal

pub returns-then-releasing : goal.returns-then-releasing
returns-then-releasing c parts exprs is backed =
    with_releases_back (setting_at c.args.place.now) parts exprs (sym c.if-releasing.true ∙ is)
    (rw c.deref.ensures.value at c.with_trust.ensures.trusts) backed

pub returns-else-releasing : goal.returns-else-releasing
returns-else-releasing c parts exprs is backed =
    without_releases_back (setting_at c.args.place.now) parts exprs (sym c.if-releasing.false ∙ is) backed
