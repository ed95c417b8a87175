use Rattle.std.proofs.Common.{◌≡◌, ◌∙◌, Some, None, map, position, sym, ap, subst, inl, inr}
use Rattle.std.specs.List.{zip}
use Rattle.jif_tree.specs.Trees.{field_tree}
use Rattle.need_labels.specs.Labelled.{labelled_of}
use Rattle.place_rules.specs.Allowed.{AllowedShape}
use Rattle.place_rules.specs.PlaceRules.{MayHoldField, MayHoldStatement, AreAllowed, told_fields, needed_statements}
use Rattle.place_rules.specs.Refusal.{IsPlaceRefused}
use Rattle.place_rules.specs.declared.place_error.PlaceError.{PlaceError}
use Rattle.place_rules.proofs.Held.{AreWordsOf, is_empty, all_held, first_unheld, same_words}
use Rattle.place_rules.proofs.rules.allowed_on.Goals as goal

pub returns-in-Some-clause-refused : goal.returns-in-Some-clause-refused
returns-in-Some-clause-refused c =
    let labelled = labelled_of c.args.checked.now in
    let needs = c.args.needs.now in
    let hosts = c.args.hosts.now in
    let Refused : PlaceError → Type 0 = λ why. IsPlaceRefused labelled needs hosts why in
    let words : AreWordsOf MayHoldField hosts.hosts (told_fields labelled needs) c.in_ok-fields.fields.items =
    same_words MayHoldField hosts.hosts c.hosts-rows.result.now (told_fields labelled needs)
    (zip (map field_tree c.deref.result.now) c.loc.result.now) c.in_ok-fields.fields.items
    c.hosts-rows.ensures.hosts (cc) c.in_ok-fields.ensures in
    let found : position is_empty c.in_ok-fields.fields.items ≡ Some c.in-Some.number =
    ap (position is_empty) (sym c.deref-2.ensures.value) ∙ sym c.first_empty.ensures ∙ c.in-Some.is in
    elim c.no_host_for_field.ensures [
      | inl field ↦ subst Refused (sym field)
          (first_unheld MayHoldField hosts.hosts (told_fields labelled needs) c.in_ok-fields.fields.items
          c.in-Some.number words found)
      | inr memory ↦ subst Refused (sym memory) tt
    ]

pub returns-in-Some-first_empty-clause-refused : goal.returns-in-Some-first_empty-clause-refused
returns-in-Some-first_empty-clause-refused c =
    let labelled = labelled_of c.args.checked.now in
    let needs = c.args.needs.now in
    let hosts = c.args.hosts.now in
    let Refused : PlaceError → Type 0 = λ why. IsPlaceRefused labelled needs hosts why in
    let field_words : AreWordsOf MayHoldField hosts.hosts (told_fields labelled needs) c.in_ok-fields.fields.items =
    same_words MayHoldField hosts.hosts c.hosts-rows.result.now (told_fields labelled needs)
    (zip (map field_tree c.deref.result.now) c.loc.result.now) c.in_ok-fields.fields.items
    c.hosts-rows.ensures.hosts (cc) c.in_ok-fields.ensures in
    let no_field : position is_empty c.in_ok-fields.fields.items ≡ None =
    ap (position is_empty) (sym c.deref-2.ensures.value) ∙ sym c.first_empty.ensures ∙ c.in_default.is in
    let statement_words : AreWordsOf MayHoldStatement hosts.hosts (needed_statements needs)
    c.in_ok-statements.statements.items =
    same_words MayHoldStatement hosts.hosts c.hosts-rows.result.now (needed_statements needs)
    (zip c.used.result.now c.need.result.now) c.in_ok-statements.statements.items
    c.hosts-rows.ensures.hosts (cc) c.in_ok-statements.ensures in
    let found : position is_empty c.in_ok-statements.statements.items ≡ Some c.in-Some-first_empty.number =
    ap (position is_empty) (sym c.deref-3.ensures.value) ∙ sym c.first_empty-2.ensures ∙ c.in-Some-first_empty.is in
    elim c.no_host_for_statement.ensures [
      | inl statement ↦ subst Refused (sym statement) (
        all_held MayHoldField hosts.hosts (told_fields labelled needs) c.in_ok-fields.fields.items field_words no_field,
        first_unheld MayHoldStatement hosts.hosts (needed_statements needs) c.in_ok-statements.statements.items
            c.in-Some-first_empty.number statement_words found,
      )
      | inr memory ↦ subst Refused (sym memory) tt
    ]

pub returns-clause-allowed : goal.returns-clause-allowed
returns-clause-allowed c =
    let labelled = labelled_of c.args.checked.now in
    let needs = c.args.needs.now in
    let hosts = c.args.hosts.now in
    let Allows : AllowedShape → Type 0 = λ allowed. AreAllowed labelled needs hosts allowed in
    let field_words : AreWordsOf MayHoldField hosts.hosts (told_fields labelled needs) c.in_ok-fields.fields.items =
    same_words MayHoldField hosts.hosts c.hosts-rows.result.now (told_fields labelled needs)
    (zip (map field_tree c.deref.result.now) c.loc.result.now) c.in_ok-fields.fields.items
    c.hosts-rows.ensures.hosts (cc) c.in_ok-fields.ensures in
    let no_field : position is_empty c.in_ok-fields.fields.items ≡ None =
    ap (position is_empty) (sym c.deref-2.ensures.value) ∙ sym c.first_empty.ensures ∙ c.in_default.is in
    let statement_words : AreWordsOf MayHoldStatement hosts.hosts (needed_statements needs)
    c.in_ok-statements.statements.items =
    same_words MayHoldStatement hosts.hosts c.hosts-rows.result.now (needed_statements needs)
    (zip c.used.result.now c.need.result.now) c.in_ok-statements.statements.items
    c.hosts-rows.ensures.hosts (cc) c.in_ok-statements.ensures in
    let no_statement : position is_empty c.in_ok-statements.statements.items ≡ None =
    ap (position is_empty) (sym c.deref-3.ensures.value) ∙ sym c.first_empty-2.ensures
    ∙ c.in_default-first_empty.is in
    subst Allows (sym c.new.ensures) (record {
      fields = field_words;
      statements = statement_words;
      held_fields = all_held MayHoldField hosts.hosts (told_fields labelled needs) c.in_ok-fields.fields.items
          field_words no_field;
      held_statements = all_held MayHoldStatement hosts.hosts (needed_statements needs)
          c.in_ok-statements.statements.items statement_words no_statement;
    })
