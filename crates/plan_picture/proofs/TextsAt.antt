-- The text of a statement, as it is and as it is seen.
use Rattle.std.proofs.Common.{◌≡◌, ◌<◌, ◌≤◌, ℕ, List, get_or, length, map, ap, ◌∙◌, refl}
use Rattle.std.specs.Prelude.{Some, None, option_map, slice_get}
use Rattle.std.proofs.lemmas.Option.{slice_get-map, slice_get_past, slice_get_read}
use Rattle.statement_texts.specs.Texts.{statement_text_shape}
use Rattle.statement_texts.specs.declared.texts.StatementText.{StatementText}

pub no_text : (texts : List StatementText) (s : ℕ) → length texts ≤ s →
    slice_get (map statement_text_shape texts) s ≡ None
no_text texts s past =
    slice_get-map statement_text_shape texts s
    ∙ ap (option_map statement_text_shape) (slice_get_past texts s past)

pub text_there : (texts : List StatementText) (s : ℕ) (text : StatementText) → s < length texts →
    text ≡ get_or texts s text → slice_get (map statement_text_shape texts) s ≡ Some (statement_text_shape text)
text_there texts s text within is =
    slice_get-map statement_text_shape texts s
    ∙ ap (option_map statement_text_shape) (slice_get_read texts (length texts) s text refl within is)
