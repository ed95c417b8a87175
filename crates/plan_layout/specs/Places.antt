-- Where columns and rows begin.
use Rattle.std.specs.Prelude.{ℕ, List}
use Rattle.drawing_text.specs.Spans.{past_all, starts_from}
use Rattle.drawing_text.specs.declared.spans.Span.{Span}

-- where things in a row begin, and what is behind the last one
pub record PlacesShape : Type 0 where
  pub starts : List ℕ
  pub past : ℕ

abbrev pub places_of : ℕ → List Span → PlacesShape
places_of from spans = record { starts = starts_from from spans; past = past_all from spans }
