-- Who reads a variable.
use Rattle.std.proofs.Common.{ℕ, ◌<◌, ◌≡◌, ◌↔◌, ◌∙◌, sym, ap, refl, subst, inl, inr, Bool, true, false, cond, List, []}
use Rattle.std.proofs.Common.{◌∷◌}
use Rattle.std.proofs.Common.{map, length, get_or, eqb, arith}
use Rattle.std.specs.Prelude.{Any, Contains, slice_get, unwrap_or}
use Rattle.std.specs.List.{filter}
use Rattle.std.proofs.lemmas.Bool.{eqb-true, eq-eqb}
use Rattle.std.proofs.lemmas.List.Folds.{Any-from_list_any, list_any-from_Any}
use Rattle.std.proofs.lemmas.List.FromFn.{get_or-map-range_with_len}
use Rattle.std.proofs.lemmas.Option.{unwrap_or-slice_get}
use Rattle.js_base.specs.declared.ids.VarId.{VarId}
use Rattle.js_base.specs.declared.ids.StmtId.{StmtId}
use Rattle.principals.specs.ActsFor.{Declared}
use Rattle.need_labels.specs.Labelled.{Labelled}
use Rattle.need_labels.specs.Needs.{StatementUse, NeedsShape, AreNeedsOf, readers_of, statement_uses}
use Rattle.need_labels.specs.Finding.{is_read}
use Rattle.need_labels.proofs.Somewhere.{any_here, any_later, any_first, any_none}

any_from_contains : {X : Type 0} (xs : List X) (x : X) → Contains xs x → Any (λ y. y ≡ x) xs
any_from_contains xs x (k, within, is) = (k, x, within, is, refl)

contains_from_any : {X : Type 0} (xs : List X) (x : X) → Any (λ y. y ≡ x) xs → Contains xs x
contains_from_any {X} xs x (k, y, within, is, same) =
    (k, within, subst (λ (z : X). get_or xs k z ≡ z) same is)

any_weaker : {X : Type 0} (P Q : X → Type 0) (xs : List X) → ((x : X) → P x → Q x) → Any P xs → Any Q xs
any_weaker P Q xs weaker (k, x, within, is, holds) = (k, x, within, is, weaker x holds)

read_from_test : (reads : List VarId) (x : VarId) → is_read reads x.0 ≡ true → Contains reads x
read_from_test reads x is =
    contains_from_any reads x (any_weaker (λ (read : VarId). eqb read.0 x.0 ≡ true) (λ read. read ≡ x) reads
    (λ read same. ap (λ (number : ℕ). record { 0 = number }) (eqb-true read.0 x.0 same))
    (Any-from_list_any (λ (read : VarId). eqb read.0 x.0) reads is))

test_from_read : (reads : List VarId) (x : VarId) → Contains reads x → is_read reads x.0 ≡ true
test_from_read reads x is =
    list_any-from_Any (λ (read : VarId). eqb read.0 x.0) reads
    (any_weaker (λ (read : VarId). read ≡ x) (λ read. eqb read.0 x.0 ≡ true) reads
    (λ read same. eq-eqb read.0 x.0 (ap (λ (one : VarId). one.0) same)) (any_from_contains reads x is))

abbrev Reads : VarId → StmtId → StatementUse → Type 0
Reads x id one = (one.id ≡ id) × Contains one.reads x

abbrev readers_if : Bool → StatementUse → List StatementUse → ℕ → List StmtId
readers_if test one uses x =
    map (λ each. each.id)
    (cond test (one ∷ filter (λ each. is_read each.reads x) uses) (filter (λ each. is_read each.reads x) uses))

first_or_later : (test : Bool) (one : StatementUse) (uses : List StatementUse) (x : VarId) (id : StmtId) →
    is_read one.reads x.0 ≡ test → Any (λ reader. reader ≡ id) (readers_if test one uses x.0) →
    (Any (λ reader. reader ≡ id) (readers_of uses x.0) → Any (Reads x id) uses) → Any (Reads x id) (one ∷ uses)
first_or_later true one uses x id is some later =
    elim (any_first (λ reader. reader ≡ id) one.id (readers_of uses x.0) some) [
      | inl same ↦ any_here (Reads x id) one uses (same, read_from_test one.reads x is)
      | inr other ↦ any_later (Reads x id) one uses (later other)
    ]
first_or_later false one uses x id is some later = any_later (Reads x id) one uses (later some)

some_reader : (uses : List StatementUse) (x : VarId) (id : StmtId) → Any (λ reader. reader ≡ id) (readers_of uses x.0) →
    Any (Reads x id) uses
some_reader [] x id some = absurd (any_none (λ reader. reader ≡ id) some)
some_reader (one ∷ uses) x id some =
    first_or_later (is_read one.reads x.0) one uses x id refl some (some_reader uses x id)

later_reader : (test : Bool) (one : StatementUse) (uses : List StatementUse) (x : VarId) (id : StmtId) →
    Any (λ reader. reader ≡ id) (readers_of uses x.0) → Any (λ reader. reader ≡ id) (readers_if test one uses x.0)
later_reader true one uses x id some = any_later (λ reader. reader ≡ id) one.id (readers_of uses x.0) some
later_reader false one uses x id some = some

reader_of_some : (uses : List StatementUse) (x : VarId) (id : StmtId) → Any (Reads x id) uses →
    Any (λ reader. reader ≡ id) (readers_of uses x.0)
reader_of_some [] x id some = absurd (any_none (Reads x id) some)
reader_of_some (one ∷ uses) x id some = elim (any_first (Reads x id) one uses some) [
  | inl here ↦
      subst (λ (test : Bool). Any (λ reader. reader ≡ id) (readers_if test one uses x.0))
      (sym (test_from_read one.reads x here.1))
      (any_here (λ reader. reader ≡ id) one.id (readers_of uses x.0) here.0)
  | inr later ↦ later_reader (is_read one.reads x.0) one uses x id (reader_of_some uses x id later)
]

pub readers_read : (principals : Declared) (labelled : Labelled) (needs : NeedsShape) (x : VarId) (id : StmtId) →
    AreNeedsOf principals labelled needs → x.0 < length labelled.program.vars →
    Contains (unwrap_or (slice_get needs.readers x.0) []) id ↔ Any (Reads x id) (statement_uses principals labelled)
readers_read principals labelled needs x id are within =
    let uses : List StatementUse = statement_uses principals labelled in
    let row : unwrap_or (slice_get needs.readers x.0) [] ≡ readers_of uses x.0 =
    unwrap_or-slice_get needs.readers x.0 [] ∙ ap (λ (rows : List (List StmtId)). get_or rows x.0 []) are.readers
    ∙ get_or-map-range_with_len (readers_of uses) 0 (length labelled.program.vars) x.0 x.0 [] within (omega arith) in (
      λ is. some_reader uses x id (any_from_contains (readers_of uses x.0) id
          (subst (λ (readers : List StmtId). Contains readers id) row is)),
      λ some. subst (λ (readers : List StmtId). Contains readers id) (sym row)
          (contains_from_any (readers_of uses x.0) id (reader_of_some uses x id some)),
    )
