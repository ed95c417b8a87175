-- Things in a row stand in their order.
use Rattle.std.proofs.Common.{◌≡◌, ◌<◌, ◌≤◌, ◌+◌, ℕ, zero, suc, List, [], ◌∷◌, ◌++◌, length, refl, ap, sym, ◌∙◌}
use Rattle.std.proofs.Common.{Some, arith, append_assoc, drop, get_or}
use Rattle.std.specs.Prelude.{slice_get}
use Rattle.drawing_text.specs.Spans.{past, past_all, starts_from}
use Rattle.drawing_text.specs.declared.spans.Span.{Span}
use Rattle.drawing_text.proofs.Walks.{left_cut}

pub as_many : (from : ℕ) (spans : List Span) → length (starts_from from spans) ≡ length spans
as_many from [] = refl
as_many from (span ∷ spans) = ap suc (as_many (past from span) spans)

-- nothing begins before where there is room from
pub begins : (from i : ℕ) (spans : List Span) (one : Span) (start : ℕ) → slice_get spans i ≡ Some one →
    slice_get (starts_from from spans) i ≡ Some start → from + one.before ≤ start
begins from i [] one start here there = absurd (let no = here in cc)
begins from zero (span ∷ spans) one start here there =
    let is : Some span ≡ Some one = here in
    let same : span ≡ one = cc in
    let at : Some (from + span.before) ≡ Some start = there in
    let at_is : from + span.before ≡ start = cc in
    let free : span.before ≡ one.before = ap (λ (s : Span). s.before) same in
    omega (arith, at_is, free)
begins from (suc i) (span ∷ spans) one start here there =
    let more = begins (past from span) i spans one start here there in omega (arith, more)

-- what is behind all of them is no less than what is behind the first
behind_from : (from : ℕ) (spans : List Span) → from ≤ past_all from spans
behind_from from [] = omega arith
behind_from from (span ∷ spans) =
    let more = behind_from (past from span) spans in omega (arith, more)

pub ends : (from i : ℕ) (spans : List Span) (one : Span) (start : ℕ) → slice_get spans i ≡ Some one →
    slice_get (starts_from from spans) i ≡ Some start → start + one.length + one.after ≤ past_all from spans
ends from i [] one start here there = absurd (let no = here in cc)
ends from zero (span ∷ spans) one start here there =
    let is : Some span ≡ Some one = here in
    let same : span ≡ one = cc in
    let at : Some (from + span.before) ≡ Some start = there in
    let at_is : from + span.before ≡ start = cc in
    let long : span.length ≡ one.length = ap (λ (s : Span). s.length) same in
    let free : span.after ≡ one.after = ap (λ (s : Span). s.after) same in
    let more = behind_from (past from span) spans in
    omega (arith, at_is, long, free, more)
ends from (suc i) (span ∷ spans) one start here there = ends (past from span) i spans one start here there

pub apart : (from i j : ℕ) (spans : List Span) (one other : Span) (start later : ℕ) → i < j →
    slice_get spans i ≡ Some one → slice_get spans j ≡ Some other → slice_get (starts_from from spans) i ≡ Some start →
    slice_get (starts_from from spans) j ≡ Some later → start + one.length + one.after + other.before ≤ later
apart from i j [] one other start later lt here also there then = absurd (let no = here in cc)
apart from i zero (span ∷ spans) one other start later lt here also there then = absurd (omega (arith, lt))
apart from zero (suc j) (span ∷ spans) one other start later lt here also there then =
    let is : Some span ≡ Some one = here in
    let same : span ≡ one = cc in
    let at : Some (from + span.before) ≡ Some start = there in
    let at_is : from + span.before ≡ start = cc in
    let long : span.length ≡ one.length = ap (λ (s : Span). s.length) same in
    let free : span.after ≡ one.after = ap (λ (s : Span). s.after) same in
    let more = begins (past from span) j spans other later also then in
    omega (arith, at_is, long, free, more)
apart from (suc i) (suc j) (span ∷ spans) one other start later lt here also there then =
    apart (past from span) i j spans one other start later (omega (arith, lt)) here also there then

-- one more begins where there is room
pub start_more : (spans : List Span) (i : ℕ) (d x : Span) (at : ℕ) (found whole after : List ℕ) → i < length spans →
    x ≡ get_or spans i d → found ++ starts_from at (drop i spans) ≡ whole → after ≡ found ++ (at + x.before) ∷ [] →
    after ++ starts_from (past at x) (drop (i + 1) spans) ≡ whole
start_more spans i d x at found whole after lt is was pushed =
    ap (λ (front : List ℕ). front ++ starts_from (past at x) (drop (i + 1) spans)) pushed
    ∙ append_assoc found ((at + x.before) ∷ []) (starts_from (past at x) (drop (i + 1) spans))
    ∙ ap (λ (left : List Span). found ++ starts_from at left) (sym (left_cut spans i d x lt is)) ∙ was

pub past_more : (spans : List Span) (i : ℕ) (d x : Span) (at whole : ℕ) → i < length spans → x ≡ get_or spans i d →
    past_all at (drop i spans) ≡ whole → past_all (past at x) (drop (i + 1) spans) ≡ whole
past_more spans i d x at whole lt is was =
    ap (λ (left : List Span). past_all at left) (sym (left_cut spans i d x lt is)) ∙ was
