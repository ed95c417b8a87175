-- One more line of a printed program.
use Rattle.std.proofs.Common.{◌≡◌, ◌<◌, ◌+◌, ◌++◌, ℕ, List, ap, ◌∙◌, sym, drop, get_or, length, map}
use Rattle.std.proofs.Common.{append_assoc, Bor}
use Rattle.std.proofs.lemmas.List.{drop-map}
use Rattle.std.specs.Str.Lines as text
use Rattle.drawing_text.proofs.Walks.{left_cut}
use Rattle.statement_texts.specs.Texts.{AroundShape, StatementTextShape, around_behind, outermost, said, texts_from}

abbrev pub lines_now : List (Bor (List ℕ)) → List (List ℕ)
lines_now lines = map (λ (line : Bor (List ℕ)). line.now) lines

pub line_said : (lines : List (Bor (List ℕ))) (i : ℕ) (d x : Bor (List ℕ)) (around next : AroundShape)
    (whole before after : List StatementTextShape) → i < length lines → x ≡ get_or lines i d →
    before ++ texts_from around (lines_now (drop i lines)) ≡ whole → after ≡ before ++ said around x.now →
    next ≡ around_behind around x.now → after ++ texts_from next (lines_now (drop (i + 1) lines)) ≡ whole
line_said lines i d x around next whole before after lt is was pushed goes =
    let left = texts_from (around_behind around x.now) (lines_now (drop (i + 1) lines)) in
    ap (λ (a : AroundShape). after ++ texts_from a (lines_now (drop (i + 1) lines))) goes
    ∙ ap (λ (front : List StatementTextShape). front ++ left) pushed
    ∙ append_assoc before (said around x.now) left
    ∙ ap (λ (rest : List (Bor (List ℕ))). before ++ texts_from around (lines_now rest))
    (sym (left_cut lines i d x lt is)) ∙ was

-- the statements of the lines behind those of the fields
pub behind_fields : (behind all items : List (Bor (List ℕ))) (count fields : ℕ) (held printed : List ℕ) →
    behind ≡ drop count all → all ≡ items → lines_now items ≡ text.lines held → held ≡ printed → count ≡ fields →
    texts_from outermost (lines_now behind) ≡ texts_from outermost (drop fields (text.lines printed))
behind_fields behind all items count fields held printed behind_is all_is items_are held_is count_is =
    ap (λ (lines : List (Bor (List ℕ))). texts_from outermost (lines_now lines)) behind_is
    ∙ ap (texts_from outermost) (sym (drop-map (λ (line : Bor (List ℕ)). line.now) count all)
    ∙ ap (λ (lines : List (Bor (List ℕ))). drop count (lines_now lines)) all_is
    ∙ ap (λ (lines : List (List ℕ)). drop count lines) (items_are ∙ ap text.lines held_is)
    ∙ ap (λ (n : ℕ). drop n (text.lines printed)) count_is)
