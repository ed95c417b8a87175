-- What was told of each field, before anything is told and after it is written back.
use Rattle.std.proofs.Common.{◌≡◌, ◌∙◌, ℕ, ◌<◌, List, ◌++◌, drop, length, replicate, ap, take}
use Rattle.std.specs.Prelude.{Option, None}
use Rattle.std.proofs.Math.Seq.{take-append_seam}
use Rattle.std.proofs.lemmas.List.{get_or-replicate}
use Rattle.std.proofs.lemmas.Option.{unwrap_or-slice_get}
use Rattle.js_base.specs.declared.ids.FieldId.{FieldId}
use Rattle.place_reasons.specs.declared.told.Told.{Told}
use Rattle.place_reasons.specs.Search.{told_for}

-- a list of the same length in the place of another
pub written_back : (new old : List (Option Told)) (len : ℕ) → len ≡ length new →
    take len (new ++ drop (length new) old) ≡ new
written_back new old len same =
    ap (λ n. take n (new ++ drop (length new) old)) same ∙ take-append_seam new (drop (length new) old)

pub nothing_told : (found : List (Option Told)) (count : ℕ) (field : FieldId) → found ≡ replicate count None →
    field.0 < count → told_for found field ≡ None
nothing_told found count field is below =
    ap (λ (all : List (Option Told)). told_for all field) is
    ∙ unwrap_or-slice_get (replicate count None) field.0 None ∙ get_or-replicate count field.0 None None below
