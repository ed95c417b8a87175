use Rattle.std.proofs.Common.{◌≡◌, ◌≤ℤ◌, ◌∙◌, sym, subst, inl, inr, take, ℤ, pos}
use Rattle.std.specs.Str.Parse.{digits_value}
use Rattle.std.proofs.lemmas.Bool.{both_ways}
use Rattle.std.proofs.lemmas.List.{take_rest}
use mir.Syntax.{w64}
use mir.Val.{to_z, of_z}
use Rattle.js_base.specs.declared.limits.TheConstants.{LARGEST_NUMBER}
use Rattle.jif_lex.specs.declared.token.TokenKind.TheVariants.{Number}
use Rattle.jif_lex.proofs.Fronts.{are_digits, number_front, bad_number_front, kept_value}
use Rattle.jif_lex.proofs.lexemes.first_number.Goals as goal

pub returns-then-begins_word-clause-none : goal.returns-then-begins_word-clause-none
returns-then-begins_word-clause-none c =
    bad_number_front c.args.text.now c.digits_len-len.result c.digits_len-len.ensures.len c.requires.begins
    (inr (rw take_rest at (c.begins_word.ensures.0 c.if-begins_word.true)))

pub number-requires : goal.number-requires
number-requires c = are_digits c.args.text.now c.digits_len-len.result c.digits_len-len.ensures.len c.requires.begins

pub returns-in_err-number-clause-none : goal.returns-in_err-number-clause-none
returns-in_err-number-clause-none c =
    let bad =
    bad_number_front c.args.text.now c.digits_len-len.result c.digits_len-len.ensures.len c.requires.begins
    (inl c.in_err-number.ensures.none) in
    rw c.from_residual.ensures bad

pub returns-clause-some : goal.returns-clause-some
returns-clause-some c =
    let text = c.args.text.now in
    let len = c.digits_len-len.result in
    let value = c.in_ok-number.field-0 in
    let some : (value ≡ pos (digits_value 10 (take len text))) × (value ≤ℤ LARGEST_NUMBER) =
    c.in_ok-number.ensures.some in
    let is : to_z w64 (of_z w64 value) ≡ pos (digits_value 10 (take len text)) =
    kept_value value (digits_value 10 (take len text)) some.0 some.1 in
    let digits = are_digits text len c.digits_len-len.ensures.len c.requires.begins in
    number_front text len (Number (to_z w64 (of_z w64 value))) c.digits_len-len.ensures.len
    c.digits_len-len.ensures.within c.requires.begins c.requires.plain
    (digits, is, subst (λ (z : ℤ). z ≤ℤ LARGEST_NUMBER) (some.0 ∙ sym is) some.1)
    (λ begins. both_ways _ c.if-begins_word.false (c.begins_word.ensures.1 (rw take_rest begins)))
