-- Blocks whose statements have ascending numbers, and where a statement stands in them.
use Rattle.std.proofs.Common.{◌≡◌, ◌≢◌, ◌∙◌, ℕ, suc, ◌+◌, ◌<◌, ◌≤◌, inl, inr, List, length, get_or, ap, sym, arith}
use Rattle.std.proofs.lemmas.Bool.{cases_lt, cases_eq}
use Rattle.std.proofs.lemmas.List.{get_or-map}
use Rattle.js_base.specs.declared.ids.StmtId.{StmtId}
use Rattle.jif_tree.specs.declared.program.Stmt.{Stmt}
use Rattle.msg_cost.specs.Walks.{number_at, IsAscending, IsPlaceFrom, IsAround}

pub number_is : (block : List Stmt) (place : ℕ) (statement : Stmt) → place < length block →
    statement ≡ get_or block place statement → number_at block place ≡ statement.id.0
number_is block place statement within is =
    get_or-map (λ (one : Stmt). one.id.0) block place statement 0 within
    ∙ ap (λ (one : Stmt). one.id.0) (sym is)

-- ---- ascending numbers

-- the numbers of the first statements, so many, ascend
abbrev pub AscendTo : List Stmt → ℕ → Type 0
AscendTo block place = (first second : ℕ) → first < second → second < place →
    number_at block first < number_at block second

pub one_ascends : (block : List Stmt) → AscendTo block 1
one_ascends block first second less below = absurd (omega arith)

pub more_ascend : (block : List Stmt) (place last : ℕ) → place ≡ suc last →
    number_at block last < number_at block place → AscendTo block place → AscendTo block (place + 1)
more_ascend block place last is above so first second less below = elim (cases_lt second place) [
  | inl before ↦ so first second less before
  | inr from ↦
      let same : second ≡ place = omega arith in
      let here = ap (number_at block) same in
      elim (cases_eq first last) [
        | inl end ↦ let there = ap (number_at block) end in omega arith
        | inr other ↦
            let earlier : first < last = apart other in
            let those = so first last earlier (omega arith) in
            omega arith
      ]
]
  where
    apart : first ≢ last → first < last
    apart other = elim (cases_lt first last) [
      | inl earlier ↦ earlier
      | inr later ↦ absurd (other (omega arith))
    ]

-- ---- the place of a number

abbrev pub AreBelow : List Stmt → ℕ → ℕ → Type 0
AreBelow block number place = (other : ℕ) → other < place → number_at block other < number

abbrev pub AreFrom : List Stmt → ℕ → ℕ → Type 0
AreFrom block number place = (other : ℕ) → place ≤ other → other < length block → number ≤ number_at block other

pub lower_half : (block : List Stmt) (number middle : ℕ) → IsAscending block → middle < length block →
    number_at block middle < number → AreBelow block number (middle + 1)
lower_half block number middle ascends within less other below = elim (cases_lt other middle) [
  | inl before ↦ let there = ascends other middle before within in omega arith
  | inr from ↦
      let same : other ≡ middle = omega arith in
      let there = ap (number_at block) same in
      omega arith
]

pub upper_half : (block : List Stmt) (number middle : ℕ) → IsAscending block → number ≤ number_at block middle →
    AreFrom block number middle
upper_half block number middle ascends more other from within = elim (cases_lt middle other) [
  | inl behind ↦ let there = ascends middle other behind within in omega arith
  | inr to ↦
      let same : other ≡ middle = omega arith in
      let there = ap (number_at block) same in
      omega arith
]

-- ---- around a statement

pub anywhere : (statement : StmtId) (block : List Stmt) →
    IsAround statement block (record { before = 0; behind = length block })
anywhere statement block = record {
  within = omega arith;
  before = λ place below same. absurd (omega arith);
  behind = λ place from within same. absurd (omega arith);
}

pub there : (statement : StmtId) (block : List Stmt) (place : ℕ) → IsAscending block →
    IsPlaceFrom block statement.0 place → place < length block → number_at block place ≡ statement.0 →
    IsAround statement block (record { before = place; behind = place + 1 })
there statement block place ascends is within here = record {
  within = omega arith;
  before = λ other below same. let less = is.before other below in absurd (omega arith);
  behind = λ other from inside same.
      let more = ascends place other (omega arith) inside in
      absurd (omega arith);
}

pub not_there : (statement : StmtId) (block : List Stmt) (place : ℕ) → IsAscending block →
    IsPlaceFrom block statement.0 place → (place < length block → number_at block place ≢ statement.0) →
    IsAround statement block (record { before = place; behind = place })
not_there statement block place ascends is apart = record {
  within = is.within;
  before = λ other below same. let less = is.before other below in absurd (omega arith);
  behind = λ other from inside same. elim (cases_eq other place) [
    | inl here ↦ apart (omega arith) (sym (ap (number_at block) here) ∙ same)
    | inr later ↦
        let behind : place < other = past other from later in
        let more = ascends place other behind inside in
        let least = is.from place (omega arith) (omega arith) in
        absurd (omega arith)
  ];
}
  where
    past : (other : ℕ) → place ≤ other → other ≢ place → place < other
    past other from later = elim (cases_lt place other) [
      | inl behind ↦ behind
      | inr to ↦ absurd (later (omega arith))
    ]
