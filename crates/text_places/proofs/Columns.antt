-- The line and the column behind one byte more.
use Rattle.std.proofs.Common.{◌≡◌, ◌∙◌, ℕ, ◌+◌, ◌^◌, ◌<◌, ◌≤◌, List, [], ◌∷◌, ◌++◌, length, take, get_or}
use Rattle.std.proofs.Common.{Bool, true, false, refl, sym, ap, arith}
use Rattle.std.specs.Prelude.{◌==◌, if◌then◌else◌}
use Rattle.std.proofs.lemmas.List.{take_more, length-take-le}
use Rattle.jif_lex.specs.Tokens.{line_feeds}
use Rattle.text_places.specs.Places.{column_from, column_behind, line_behind}

column_more : (column : ℕ) (front : List ℕ) (byte : ℕ) →
    column_from column (front ++ byte ∷ []) ≡ (if byte == 10 then 1 else column_from column front + 1)
column_more column [] byte = refl
column_more column (b ∷ front) byte = column_more (if b == 10 then 1 else column + 1) front byte

feeds_more : (front : List ℕ) (byte : ℕ) →
    line_feeds (front ++ byte ∷ []) ≡ line_feeds front + (if byte == 10 then 1 else 0)
feeds_more [] byte = omega arith
feeds_more (b ∷ front) byte =
    let behind = feeds_more front byte in
    omega arith

-- neither is larger than the text is long, and one
one_if : (is : Bool) → (if is then 1 else 0) ≤ 1
one_if true = omega arith
one_if false = omega arith

few_feeds : (front : List ℕ) → line_feeds front ≤ length front
few_feeds [] = omega arith
few_feeds (b ∷ front) =
    let one = one_if (b == 10) in
    let few = few_feeds front in
    omega arith

first_or : (column : ℕ) (is : Bool) → 1 ≤ column → (1 ≤ (if is then 1 else column + 1))
    × ((if is then 1 else column + 1) ≤ column + 1)
first_or column true some = (omega arith, omega arith)
first_or column false some = (omega arith, omega arith)

few_columns : (column : ℕ) (front : List ℕ) → 1 ≤ column → column_from column front ≤ column + length front
few_columns column [] some = omega arith
few_columns column (b ∷ front) some =
    let next = first_or column (b == 10) some in
    let few = few_columns (if b == 10 then 1 else column + 1) front next.0 in
    omega arith

-- so both are small where the text is short
pub line_small : (text : List ℕ) (at line : ℕ) → at ≤ length text → length text ≤ 1048576 →
    line ≡ line_behind (take at text) → line < 2 ^ 32
line_small text at line within short is =
    let few = few_feeds (take at text) in
    let long = length-take-le at text within in
    omega arith

pub column_small : (text : List ℕ) (at column : ℕ) → at ≤ length text → length text ≤ 1048576 →
    column ≡ column_behind (take at text) → column < 2 ^ 32
column_small text at column within short is =
    let few = few_columns 1 (take at text) (omega arith) in
    let long = length-take-le at text within in
    omega arith

pub line_next : (text : List ℕ) (at d line next : ℕ) → at < length text → line ≡ line_behind (take at text) →
    next ≡ line + (if get_or text at d == 10 then 1 else 0) → next ≡ line_behind (take (at + 1) text)
line_next text at d line next lt is goes =
    let more = ap line_feeds (take_more text at d lt) ∙ feeds_more (take at text) (get_or text at d) in
    omega arith

pub column_next : (text : List ℕ) (at d column next : ℕ) → at < length text → column ≡ column_behind (take at text) →
    next ≡ (if get_or text at d == 10 then 1 else column + 1) → next ≡ column_behind (take (at + 1) text)
column_next text at d column next lt is goes =
    goes ∙ ap (λ c. if get_or text at d == 10 then 1 else c + 1) is
    ∙ sym (ap (column_from 1) (take_more text at d lt) ∙ column_more 1 (take at text) (get_or text at d))
