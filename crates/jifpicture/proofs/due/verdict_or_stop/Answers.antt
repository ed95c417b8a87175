use Rattle.std.proofs.Common.{◌≢◌, ◌∙◌, List, length, map, refl, sym, arith, rules, String, Global}
use Rattle.std.proofs.lemmas.Grind.{common_steps}
use Rattle.std.proofs.lemmas.List.{length-map}
use Rattle.std.specs.Prelude.{string_bytes}
use Rattle.front_end.specs.Verdicts.{verdict_shape}
use Rattle.jifpicture.proofs.DueFiles.{three_words, two_words, usage_due, words_end}
use Rattle.jifpicture.proofs.due.verdict_or_stop.Goals as goal

pub returns-in-len2-clause-due : goal.returns-in-len2-clause-due
returns-in-len2-clause-due g c =
    words_end (map string_bytes c.args.words.now) _ _ c.verdict_for_plan.result
    (two_words c.args.words.now c.program-item.result c.hosts-item.result _ _ (omega arith) c.program-item.is
    c.hosts-item.is c.as_str.ensures.value c.as_str-in-len2.ensures.value)
    c.verdict_for_plan.ensures.due

pub returns-in-len3-clause-due : goal.returns-in-len3-clause-due
returns-in-len3-clause-due g c =
    words_end (map string_bytes c.args.words.now) _ _ c.verdict_for_run.result
    (three_words c.args.words.now c.program-item-then-words-lt4.result c.hosts-item-then-words-lt4.result
    c.events-item.result _ _ _ (omega arith) c.program-item-then-words-lt4.is c.hosts-item-then-words-lt4.is
    c.events-item.is c.as_str-in-len3.ensures.value c.as_str-in-len3-2.ensures.value c.as_str-in-len3-3.ensures.value)
    c.verdict_for_run.ensures.due

-- words of another number
none_asked : (words : List (String Global)) (number : _) → length words ≢ number →
    length (map string_bytes words) ≢ number
none_asked words number other = λ same. other (sym (length-map words string_bytes) ∙ same)

pub returns-in_ok-usage-in_default-clause-due : goal.returns-in_ok-usage-in_default-clause-due
returns-in_ok-usage-in_default-clause-due g c =
    let two : length c.args.words.now ≢ 2 = first_of (grind (arith, common_steps), search rules, grind arith) in
    let three : length c.args.words.now ≢ 3 = first_of (grind (arith, common_steps), search rules, grind arith) in
    usage_due _ _ (verdict_shape c.in_ok-usage-in_default.field-0)
    (none_asked c.args.words.now 2 two, none_asked c.args.words.now 3 three) refl refl c.in_ok-usage-in_default.ensures
