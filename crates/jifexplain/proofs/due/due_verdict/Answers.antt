use Rattle.std.proofs.Common.{◌≢◌, ◌∙◌, List, None, Some, length, map, refl, sym, arith, rules, String, Global}
use Rattle.std.proofs.lemmas.Grind.{common_steps}
use Rattle.std.proofs.lemmas.List.{length-map}
use Rattle.std.proofs.lemmas.Result.{IfOk-weaker}
use Rattle.std.specs.Prelude.{string_bytes}
use Rattle.front_end.specs.Verdicts.{verdict_shape}
use Rattle.jifexplain.proofs.DueFiles.{verdict_for_words, three_asked, two_asked, usage_due}
use Rattle.jifexplain.proofs.due.due_verdict.Goals as goal

pub returns-in-len2-clause-due : goal.returns-in-len2-clause-due
returns-in-len2-clause-due g c =
    let asks = two_asked c.args.words.now c.program-item.result c.hosts-item.result _ _ (omega arith) c.program-item.is
    c.hosts-item.is c.as_str.ensures.value c.as_str-in-len2.ensures.value in
    IfOk-weaker c.verdict_for_names.result _ _
    (λ verdict due. verdict_for_words _ _ _ None _ (verdict_shape verdict) asks due) c.verdict_for_names.ensures.due

pub returns-in-len3-clause-due : goal.returns-in-len3-clause-due
returns-in-len3-clause-due g c =
    let asks = three_asked c.args.words.now c.program-item-then-words-lt4.result c.hosts-item-then-words-lt4.result
    c.part-item.result _ _ _ (omega arith) c.program-item-then-words-lt4.is c.hosts-item-then-words-lt4.is c.part-item.is
    c.as_str-in-len3-2.ensures.value c.as_str-in-len3-3.ensures.value c.as_str-in-len3.ensures.value in
    IfOk-weaker c.verdict_for_names-in-len3.result _ _
    (λ verdict due. verdict_for_words _ _ _ (Some _) _ (verdict_shape verdict) asks due) c.verdict_for_names-in-len3.ensures.due

-- words of another number
none_asked : (words : List (String Global)) (number : _) → length words ≢ number → length (map string_bytes words) ≢ number
none_asked words number other = λ same. other (sym (length-map words string_bytes) ∙ same)

pub returns-in_default-clause-due : goal.returns-in_default-clause-due
returns-in_default-clause-due g c =
    let two : length c.args.words.now ≢ 2 = first_of (grind (arith, common_steps), search rules, grind arith) in
    let three : length c.args.words.now ≢ 3 = first_of (grind (arith, common_steps), search rules, grind arith) in
    IfOk-weaker c.usage.result _ _
    (λ verdict is. usage_due _ _ (verdict_shape verdict) (none_asked c.args.words.now 2 two)
    (none_asked c.args.words.now 3 three) refl refl is)
    c.usage.ensures
