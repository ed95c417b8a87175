-- Words with a bit for each host on which a statement reads a variable.
use Rattle.std.proofs.Common.{◌≡◌, ◌≢◌, ℕ, ◌<◌, ◌↔◌, ◌||◌, Bool, true, false, nat_eq, List, [], take, length}
use Rattle.std.proofs.Common.{get_or}
use Rattle.std.proofs.Common.{◌/◌, ◌^◌, sym, ◌∙◌, subst, ◌+◌, ◌⊎◌, inl, inr, arith}
use Rattle.std.proofs.Math.Nat.{zero-div}
use Rattle.std.specs.Int.{bit_at}
use Rattle.std.specs.List.{list_any}
use Rattle.std.proofs.Common.{set}
use Rattle.std.proofs.lemmas.Bool.{cases_eq}
use Rattle.std.proofs.lemmas.Bool.Decides.{eqb_tells}
use Rattle.std.proofs.lemmas.Grind.{get_or-set_at}
use Rattle.std.proofs.lemmas.List.{get_or-set_other}
use Rattle.std.proofs.lemmas.List.Folds.{list_any_more}
use Rattle.std.proofs.Math.Bool.{or-true, or-false}
use Rattle.js_base.specs.declared.bits.TheConstants.{WORD_BITS}
use Rattle.js_base.specs.declared.ids.StmtId.{StmtId}
use Rattle.need_labels.specs.Plan.{PlanShape, statement_host}
use Rattle.msg_cost.specs.Kept.{IsReadingWord, AreReadingWords}
use Rattle.msg_cost.specs.Moves.{PlannedShape}

abbrev stands_on : PlanShape → ℕ → StmtId → Bool
stands_on plan host statement = nat_eq (statement_host plan statement).0 host

pub record IsReadWord (plan : PlanShape) (statements : List StmtId) (word : ℕ) : Type 0 where
  pub bits : (host : ℕ) → host < WORD_BITS → (bit_at word host ≡ 1) ↔ (list_any (stands_on plan host) statements ≡ true)

clear : (host : ℕ) → bit_at 0 host ≡ 1 → ⊥
clear host set =
    let none : 0 / 2 ^ host ≡ 0 = zero-div (2 ^ host) in
    omega arith

pub no_readers : (plan : PlanShape) → IsReadWord plan [] 0
no_readers plan = record { bits = λ host within. ((λ set. absurd (clear host set)), (λ found. cc)) }

or_stands : (found stands : Bool) → stands ≡ true → (found || stands) ≡ true
or_stands found stands is = rw is (or-true found)

or_only : (found stands : Bool) → stands ≡ false → (found || stands) ≡ found
or_only found stands is = rw is (or-false found)

with_place : (old new place host : ℕ) (found stands : Bool) → bit_at new place ≡ 1 →
    (host ≢ place → bit_at new host ≡ bit_at old host) →
    ((stands ≡ true) × (place ≡ host)) ⊎ ((stands ≡ false) × (place ≢ host)) →
    ((bit_at old host ≡ 1) ↔ (found ≡ true)) → ((bit_at new host ≡ 1) ↔ ((found || stands) ≡ true))
with_place old new place host found stands set others (inl here) so =
    let P : ℕ → Type 0 = λ one. bit_at new one ≡ 1 in
    ((λ bit. or_stands found stands here.0), (λ any. subst P here.1 set))
with_place old new place host found stands set others (inr there) so =
    let same = others (λ is. there.1 (sym is)) in (
      (λ bit. or_only found stands there.0 ∙ so.0 (sym same ∙ bit)),
      (λ any. same ∙ so.1 (sym (or_only found stands there.0) ∙ any)),
    )

-- a statement more, with the bit of its host
pub one_more : (plan : PlanShape) (statements : List StmtId) (at : ℕ) (statement : StmtId) (old new : ℕ) →
    at < length statements → statement ≡ get_or statements at statement →
    bit_at new (statement_host plan statement).0 ≡ 1 →
    ((k : ℕ) → k ≢ (statement_host plan statement).0 → bit_at new k ≡ bit_at old k) →
    IsReadWord plan (take at statements) old → IsReadWord plan (take (at + 1) statements) new
one_more plan statements at statement old new within is set others so = record {
  bits = λ host small.
      let P : Bool → Type 0 = λ found. (bit_at new host ≡ 1) ↔ (found ≡ true) in
      let Q : StmtId → Type 0 = λ one. (bit_at new host ≡ 1)
      ↔ ((list_any (stands_on plan host) (take at statements) || stands_on plan host one) ≡ true) in
      subst P (sym (list_any_more (stands_on plan host) statements at statement within))
      (subst Q is (with_place old new (statement_host plan statement).0 host _ (stands_on plan host statement) set
      (others host) (eqb_tells _ host) (so.bits host small)));
}

-- the word of one more variable
pub words_more : (planned : PlannedShape) (words : List ℕ) (count word : ℕ) → count < length words →
    IsReadingWord planned (record { 0 = count }) word → AreReadingWords planned count words →
    AreReadingWords planned (count + 1) (set words count word)
words_more planned words count word within is so x below = elim (cases_eq x.0 count) [
  | inl same ↦
      let P : ℕ → Type 0 = λ number. IsReadingWord planned (record { 0 = number }) word in
      let Q : ℕ → Type 0 = λ one. IsReadingWord planned x one in
      subst Q (sym (get_or-set_at words count x.0 word 0 same within)) (subst P (sym same) is)
  | inr other ↦
      let Q : ℕ → Type 0 = λ one. IsReadingWord planned x one in
      subst Q (sym (get_or-set_other words count x.0 word 0 other)) (so x (omega (arith, other, below)))
]
