-- What is asked has the parts of its check, of which the first that is false was found.
use Rattle.std.proofs.Common.{◌≡◌, List, [], ◌∷◌, ◌++◌, Option, subst, sym, ◌∙◌}
use Rattle.host_code.specs.Riders.{Rider, names_of}
use Rattle.ignored_reasons.specs.declared.asked.Asked.{Asked}
use Rattle.ignored_reasons.specs.declared.why.Why.{Why}
use Rattle.ignored_reasons.specs.declared.why.Why.TheVariants as reason
use Rattle.ignored_reasons.specs.Reasons.{PartHolds, IsFirstFalse, IsWhy, parts_asked, parts_at, parts_riding}
use Rattle.ignored_reasons.proofs.AskedParts.{gives_back, answers}
use Rattle.ignored_reasons.proofs.FirstFalse.{last_part}
use Rattle.ignored_reasons.proofs.reasons.why_ignored.Goals as goal

pub returns-in-Get : goal.returns-in-Get
returns-in-Get c = λ host taken here asks checked.
    subst (λ (asked : Asked). IsFirstFalse (PartHolds c.args.code.now host c.args.from taken) (parts_asked asked)
    c.why_not_get.result) (sym (asks ∙ c.in-Get.is)) (c.why_not_get.ensures host taken here)

pub returns-in-Set : goal.returns-in-Set
returns-in-Set c = λ host taken here asks checked.
    subst (λ (asked : Asked). IsFirstFalse (PartHolds c.args.code.now host c.args.from taken) (parts_asked asked)
    c.why_not_set.result) (sym (asks ∙ c.in-Set.is)) (c.why_not_set.ensures host taken here)

pub returns-in-Forward : goal.returns-in-Forward
returns-in-Forward c = λ host taken here asks checked.
    subst (λ (asked : Asked). IsFirstFalse (PartHolds c.args.code.now host c.args.from taken) (parts_asked asked)
    c.why_not_forward.result) (sym (asks ∙ c.in-Forward.is)) (c.why_not_forward.ensures host taken)

pub returns-in-Enter : goal.returns-in-Enter
returns-in-Enter c = λ host taken here asks checked.
    subst (λ (asked : Asked). IsFirstFalse (PartHolds c.args.code.now host c.args.from taken) (parts_asked asked)
    c.why_not_enter.result) (sym (asks ∙ c.in-Enter.is)) (c.why_not_enter.ensures host taken here)

pub returns-in-EnterWith : goal.returns-in-EnterWith
returns-in-EnterWith c = λ host taken here asks checked.
    subst (λ (asked : Asked). IsFirstFalse (PartHolds c.args.code.now host c.args.from taken) (parts_asked asked)
    c.why_not_enter_with.result) (sym (asks ∙ c.in-EnterWith.is))
    (subst (λ (riders : List Rider). IsFirstFalse (PartHolds c.args.code.now host c.args.from taken)
    (parts_at c.in-EnterWith.entry ++ parts_riding (names_of riders)) c.why_not_enter_with.result)
    c.pairs.ensures.pairs (c.why_not_enter_with.ensures host taken here))

pub returns-in-GiveBack : goal.returns-in-GiveBack
returns-in-GiveBack c = λ host taken here asks checked.
    let holds : Why → Type 0 = PartHolds c.args.code.now host c.args.from taken in
    let whole = gives_back c.args.code.now host c.args.from taken (asks ∙ c.in-GiveBack.is) in
    subst (λ (asked : Asked). IsFirstFalse holds (parts_asked asked) c.unless.result) (sym (asks ∙ c.in-GiveBack.is))
    (subst (λ (found : Option Why). IsFirstFalse holds (reason.NotOnTop ∷ []) found) (sym c.unless.ensures)
    (last_part holds reason.NotOnTop c.args.passes
    (λ passes. whole.0 (checked.0 passes), λ gives. checked.1 (whole.1 gives))))

pub returns-in-Answer : goal.returns-in-Answer
returns-in-Answer c = λ host taken here asks checked.
    let holds : Why → Type 0 = PartHolds c.args.code.now host c.args.from taken in
    let whole = answers c.args.code.now host c.args.from taken (asks ∙ c.in-Answer.is) in
    subst (λ (asked : Asked). IsFirstFalse holds (parts_asked asked) c.unless-in-Answer.result)
    (sym (asks ∙ c.in-Answer.is))
    (subst (λ (found : Option Why). IsFirstFalse holds (reason.NoneWaits ∷ []) found) (sym c.unless-in-Answer.ensures)
    (last_part holds reason.NoneWaits c.args.passes
    (λ passes. whole.0 (checked.0 passes), λ awaited. checked.1 (whole.1 awaited))))
