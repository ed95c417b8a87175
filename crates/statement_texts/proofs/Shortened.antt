-- One more letter of a text without labels.
use Rattle.std.proofs.Common.{◌≡◌, ◌<◌, ◌+◌, ◌++◌, ℕ, List, ap, ◌∙◌, sym, drop, get_or, length}
use Rattle.drawing_text.proofs.Walks.{left_cut, written}
use Rattle.statement_texts.specs.Short.{kept_of, place_behind, unlabelled}
use Rattle.statement_texts.specs.declared.short.Place.{Place}

pub letter_kept : (letters : List ℕ) (i : ℕ) (d x : ℕ) (place next : Place) (whole before after : List ℕ) →
    i < length letters → x ≡ get_or letters i d → before ++ unlabelled place (drop i letters) ≡ whole →
    after ≡ before ++ kept_of place x → next ≡ place_behind place x →
    after ++ unlabelled next (drop (i + 1) letters) ≡ whole
letter_kept letters i d x place next whole before after lt is was pushed goes =
    let left = unlabelled (place_behind place x) (drop (i + 1) letters) in
    ap (λ (p : Place). after ++ unlabelled p (drop (i + 1) letters)) goes
    ∙ written whole before (kept_of place x) left after
    (ap (λ (rest : List ℕ). before ++ unlabelled place rest) (sym (left_cut letters i d x lt is)) ∙ was) pushed
