use Rattle.std.proofs.lemmas.Bool.{false≢true}
use Rattle.jif_parse.proofs.ItemLists.{item_unexpected}
use Rattle.jif_parse.proofs.items.item.Goals as goal

pub returns-clause-fails : goal.returns-clause-fails
returns-clause-fails c =
    item_unexpected c.requires (λ h. false≢true (c.if-is_word_next.ensures.1 h))
    (λ h. false≢true (c.if-is_word_next-2.ensures.1 h)) c.unexpected.ensures
