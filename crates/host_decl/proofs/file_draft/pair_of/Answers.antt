use Rattle.std.proofs.Common.{◌≡◌, [], sym, ◌∙◌}
use Rattle.std.proofs.lemmas.Result.{IfOk-weaker}
use Rattle.toml.specs.View.{items_view}
use Rattle.host_decl.specs.Draft.{pair_of}
use Rattle.principals.specs.Declaring.{written_pair}
use Rattle.host_decl.proofs.Items.{no_pair}
use Rattle.host_decl.proofs.file_draft.pair_of.Goals as goal

pub returns-in_default : goal.returns-in_default
returns-in_default c =
    IfOk-weaker c.owned_pair.result (λ pair. written_pair pair ≡ ([], []))
    (λ pair. written_pair pair ≡ pair_of (items_view c.args.items.now))
    (λ pair is. is ∙ sym (no_pair c.args.items.now c.in_default.len_below)) c.owned_pair.ensures
