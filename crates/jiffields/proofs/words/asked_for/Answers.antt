use Rattle.std.proofs.Common.{◌≡◌, [], ◌∷◌, map, arith, sym, ◌∙◌}
use Rattle.std.specs.Prelude.{string_bytes}
use Rattle.std.proofs.lemmas.Option.{IfSome_then}
use Rattle.jiffields.proofs.SixWords.{six, six_same}
use Rattle.jiffields.proofs.words.asked_for.Goals as goal

six_words : (c : goal.After-asked_of_program) → map string_bytes c.args.words.now
    ≡ c.deref-in-len6.result.now ∷ c.deref-in-len6-2.result.now ∷ c.deref-in-len6-3.result.now
    ∷ c.deref-in-len6-4.result.now ∷ c.deref-in-len6-5.result.now ∷ c.deref-in-len6-6.result.now ∷ []
six_words c =
    six_same _ (string_bytes c.flag-item.result) (string_bytes c.program-item.result)
    (string_bytes c.hosts-item-then-words-lt7.result) (string_bytes c.host-item-then-words-lt7.result)
    (string_bytes c.start-item-then-words-lt7.result) (string_bytes c.journal-item-then-words-lt7.result)
    _ _ _ _ _ _
    (six c.args.words.now c.flag-item.result c.program-item.result c.hosts-item-then-words-lt7.result
    c.host-item-then-words-lt7.result c.start-item-then-words-lt7.result c.journal-item-then-words-lt7.result
    (omega arith) c.flag-item.is c.program-item.is c.hosts-item-then-words-lt7.is c.host-item-then-words-lt7.is
    c.start-item-then-words-lt7.is c.journal-item-then-words-lt7.is)
    (sym c.deref-in-len6.ensures) c.deref-in-len6-2.ensures c.deref-in-len6-3.ensures c.deref-in-len6-4.ensures
    c.deref-in-len6-5.ensures c.deref-in-len6-6.ensures

pub returns-in-len6-clause-found : goal.returns-in-len6-clause-found
returns-in-len6-clause-found c =
    IfSome_then c.asked_of_program.result c.asked_of_program.ensures.found (λ asked is. six_words c ∙ is)

pub returns-in-len6-clause-none : goal.returns-in-len6-clause-none
returns-in-len6-clause-none c = rw (six_words c) c.asked_of_program.ensures.none
