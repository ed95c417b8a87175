use Rattle.std.proofs.Common.{◌≡◌, [], ◌∷◌, map, arith, sym, ◌∙◌}
use Rattle.std.specs.Prelude.{string_bytes, codes}
use Rattle.std.proofs.lemmas.Option.{IfSome_then}
use Rattle.std.proofs.lemmas.Slice.Eq.{bytes_eq-Decides}
use Rattle.split_words.proofs.CommandWords.{two, three, four, five, two_same, three_same, four_same, five_same}
use Rattle.split_words.proofs.words.command_of.Goals as goal

two_words : (c : goal.After-command_of_two) → map string_bytes c.args.words.now
    ≡ c.deref.result.now ∷ c.deref-in-len2.result.now ∷ []
two_words c =
    two_same _ (string_bytes c.verb-item.result) (string_bytes c.last-item.result) _ _
    (two c.args.words.now c.verb-item.result c.last-item.result (omega arith) c.verb-item.is c.last-item.is)
    c.deref.ensures c.deref-in-len2.ensures

pub returns-in-len2-clause-found : goal.returns-in-len2-clause-found
returns-in-len2-clause-found c =
    IfSome_then c.command_of_two.result c.command_of_two.ensures.found (λ asked is. two_words c ∙ is)

pub returns-in-len2-clause-none : goal.returns-in-len2-clause-none
returns-in-len2-clause-none c = rw (two_words c) c.command_of_two.ensures.none

pub returns-in-len3-clause-found : goal.returns-in-len3-clause-found
returns-in-len3-clause-found c =
    three_same _ (string_bytes c.verb-item-then-words-lt4.result) (string_bytes c.program-item.result)
    (string_bytes c.hosts-item.result) _ _ _
    (three c.args.words.now c.verb-item-then-words-lt4.result c.program-item.result c.hosts-item.result (omega arith)
    c.verb-item-then-words-lt4.is c.program-item.is c.hosts-item.is)
    (sym c.as_str.ensures.value ∙ (bytes_eq-Decides c.as_str.result.now (codes "check")).0 (sym c.if-eq.ensures))
    c.deref-in-len3.ensures c.deref-in-len3-2.ensures

four_words : (c : goal.After-command_of_four) → map string_bytes c.args.words.now
    ≡ c.deref-in-len4.result.now ∷ c.deref-in-len4-2.result.now ∷ c.deref-in-len4-3.result.now
    ∷ c.deref-in-len4-4.result.now ∷ []
four_words c =
    four_same _ (string_bytes c.verb-item-then-words-lt5.result) (string_bytes c.program-item-then-words-lt5.result)
    (string_bytes c.hosts-item-then-words-lt5.result) (string_bytes c.last-item-then-words-lt5.result) _ _ _ _
    (four c.args.words.now c.verb-item-then-words-lt5.result c.program-item-then-words-lt5.result
    c.hosts-item-then-words-lt5.result c.last-item-then-words-lt5.result (omega arith) c.verb-item-then-words-lt5.is
    c.program-item-then-words-lt5.is c.hosts-item-then-words-lt5.is c.last-item-then-words-lt5.is)
    (sym c.deref-in-len4.ensures) c.deref-in-len4-2.ensures c.deref-in-len4-3.ensures c.deref-in-len4-4.ensures

pub returns-in-len4-clause-found : goal.returns-in-len4-clause-found
returns-in-len4-clause-found c =
    IfSome_then c.command_of_four.result c.command_of_four.ensures.found (λ asked is. four_words c ∙ is)

pub returns-in-len4-clause-none : goal.returns-in-len4-clause-none
returns-in-len4-clause-none c = rw (four_words c) c.command_of_four.ensures.none

five_words : (c : goal.After-command_of_five) → map string_bytes c.args.words.now
    ≡ c.deref-in-len5.result.now ∷ c.deref-in-len5-2.result.now ∷ c.deref-in-len5-3.result.now
    ∷ c.deref-in-len5-4.result.now ∷ c.deref-in-len5-5.result.now ∷ []
five_words c =
    five_same _ (string_bytes c.verb-item-then-words-lt6.result) (string_bytes c.program-item-then-words-lt6.result)
    (string_bytes c.hosts-item-then-words-lt6.result) (string_bytes c.third-item.result)
    (string_bytes c.last-item-then-words-lt6.result)
    _ _ _ _ _
    (five c.args.words.now c.verb-item-then-words-lt6.result c.program-item-then-words-lt6.result
    c.hosts-item-then-words-lt6.result
    c.third-item.result c.last-item-then-words-lt6.result
    (omega arith) c.verb-item-then-words-lt6.is c.program-item-then-words-lt6.is
    c.hosts-item-then-words-lt6.is c.third-item.is c.last-item-then-words-lt6.is)
    (sym c.deref-in-len5.ensures) c.deref-in-len5-2.ensures c.deref-in-len5-3.ensures c.deref-in-len5-4.ensures
    c.deref-in-len5-5.ensures

pub returns-in-len5-clause-found : goal.returns-in-len5-clause-found
returns-in-len5-clause-found c =
    IfSome_then c.command_of_five.result c.command_of_five.ensures.found (λ asked is. five_words c ∙ is)

pub returns-in-len5-clause-none : goal.returns-in-len5-clause-none
returns-in-len5-clause-none c = rw (five_words c) c.command_of_five.ensures.none
