-- Up to where hosts are trusted.
use Rattle.std.proofs.Common.{◌≡◌, ◌∙◌, ℕ, zero, suc, ◌+◌, ◌<◌, ◌≤◌, ◌&&◌, inl, inr, Bool, true, false, max}
use Rattle.std.proofs.Common.{nat_le, List, [], ◌∷◌, length, get_or, set, drop, ap, sym, subst, refl, add-one}
use Rattle.std.proofs.Common.{arith}
use Rattle.std.proofs.Math.Seq.{drop-cons}
use Rattle.std.proofs.lemmas.Bool.{cases_lt, cases_eq, cases_Bool, le-leb, leb-true}
use Rattle.std.proofs.lemmas.List.{drop_all, get_or-set_same, get_or-set_other, get_or_past, length-set}
use Rattle.js_base.specs.declared.ids.HostId.{HostId}
use Rattle.js_base.specs.declared.ids.StmtId.{StmtId}
use Rattle.jif_tree.specs.declared.program.Stmt.{Stmt}
use Rattle.msg_cost.specs.Kept.{is_trusted_from, IsTrustedBetween, AreTrustedTo}
use Rattle.msg_cost.specs.Moves.{PlannedShape, is_trusted_for, is_trusted_for_all, next_spot, end_host}
use Rattle.msg_cost.specs.declared.spot.Spot.{Spot}
use Rattle.msg_cost.specs.declared.trust.Trust.{Trust}
use Rattle.msg_cost.specs.declared.trust.Trust.TheVariants as trust
use Rattle.msg_cost.specs.Tables.{IsRight}
use Rattle.msg_cost.specs.Views.{ids_of}

-- the statements that are left begin with the next
pub left : (planned : PlannedShape) (host : HostId) (block : List Stmt) (place : ℕ) (statement : Stmt) →
    place < length block → statement ≡ get_or block place statement →
    is_trusted_from planned host block place
    ≡ is_trusted_for planned host statement.id && is_trusted_from planned host block (suc place)
left planned host block place statement within is =
    ap (λ statements. is_trusted_for_all planned host (ids_of statements))
    (drop-cons block place statement within ∙ ap (λ (next : Stmt). next ∷ drop (suc place) block) (sym is))

pub both_true : (first second : Bool) → first ≡ true → (first && second) ≡ second
both_true true second is = refl
both_true false second is = absurd (not_true is)
  where
    not_true : false ≡ true → ⊥
    not_true same = grind (arith, same)

pub first_false : (first second : Bool) → first ≡ false → (first && second) ≡ false
first_false false second is = refl
first_false true second is = absurd (not_false is)
  where
    not_false : true ≡ false → ⊥
    not_false same = grind (arith, same)

pub too_far : (first second : ℕ) → second < first → nat_le first second ≡ false
too_far first second below = elim (cases_Bool (nat_le first second)) [
  | inl is ↦ absurd (omega (arith, leb-true first second is))
  | inr is ↦ is
]

pub one_more : (planned : PlannedShape) (host : HostId) (block : List Stmt) (first place : ℕ) (statement : Stmt) →
    place < length block → statement ≡ get_or block place statement →
    is_trusted_for planned host statement.id ≡ true → IsTrustedBetween planned host block first place →
    IsTrustedBetween planned host block first (place + 1)
one_more planned host block first place statement within is trusted so p from to = elim (cases_eq p (place + 1)) [
  | inl same ↦ ap (is_trusted_from planned host block) same
  | inr other ↦ so p from (before other) ∙ rw add-one (left planned host block place statement within is
      ∙ both_true (is_trusted_for planned host statement.id) (is_trusted_from planned host block (suc place)) trusted)
]
  where
    before : (p ≡ place + 1 → ⊥) → p ≤ place
    before other = elim (cases_lt place p) [
      | inl past ↦ absurd (other (omega arith))
      | inr below ↦ below
    ]

pub none_more : (planned : PlannedShape) (host : HostId) (block : List Stmt) (place : ℕ) →
    IsTrustedBetween planned host block place place
none_more planned host block place p from to = ap (is_trusted_from planned host block) (omega arith)

pub not_trusted : (planned : PlannedShape) (host : HostId) (block : List Stmt) (place : ℕ) (statement : Stmt) →
    place < length block → statement ≡ get_or block place statement →
    is_trusted_for planned host statement.id ≡ false →
    is_trusted_from planned host block place ≡ nat_le (length block) place
not_trusted planned host block place statement within is trusted =
    left planned host block place statement within is
    ∙ first_false (is_trusted_for planned host statement.id) (is_trusted_from planned host block (suc place)) trusted
    ∙ sym (too_far (length block) place within)

pub all_trusted : (planned : PlannedShape) (host : HostId) (block : List Stmt) (place : ℕ) → length block ≤ place →
    is_trusted_from planned host block place ≡ nat_le (length block) place
all_trusted planned host block place past =
    ap (λ statements. is_trusted_for_all planned host (ids_of statements)) (drop_all place block past)
    ∙ sym (le-leb (length block) place past)

-- what was known, and what was found from there on
pub joined : (planned : PlannedShape) (host : HostId) (block : List Stmt) (place known end : ℕ) →
    max known place ≤ end → IsTrustedBetween planned host block place known →
    IsTrustedBetween planned host block (max known place) end → IsTrustedBetween planned host block place end
joined planned host block place known end later before behind p from to = elim (cases_lt p (max known place)) [
  | inl below ↦ before p from (omega arith)
      ∙ ap (is_trusted_from planned host block) (omega arith) ∙ behind (max known place) (omega arith) later
  | inr past ↦ behind p past to
]

nothing : (planned : PlannedShape) (host : HostId) (block : List Stmt) (place : ℕ) →
    IsTrustedBetween planned host block place 0
nothing planned host block place p from to =
    let first : p ≡ 0 = omega arith in
    ap (is_trusted_from planned host block) first

-- the host's place is noted
pub noted_too : (planned : PlannedShape) (host : HostId) (block : List Stmt) (place end : ℕ) (ends : List ℕ) →
    IsTrustedBetween planned host block place end → AreTrustedTo planned block place ends →
    AreTrustedTo planned block place (set ends host.0 end)
noted_too planned host block place end ends here known other = elim (cases_eq other.0 host.0) [
  | inl same ↦ there same
  | inr apart ↦ subst (IsTrustedBetween planned other block place)
      (sym (get_or-set_other ends host.0 other.0 end 0 apart)) (known other)
]
  where
    there : other.0 ≡ host.0 → IsTrustedBetween planned other block place (get_or (set ends host.0 end) other.0 0)
    there same =
        let P : ℕ → Type 0 = λ number.
        IsTrustedBetween planned (record { 0 = number }) block place (get_or (set ends host.0 end) number 0) in
        subst P (sym same) (elim (cases_lt host.0 (length ends)) [
          | inl within ↦ subst (IsTrustedBetween planned host block place)
              (sym (get_or-set_same ends host.0 end 0 within)) here
          | inr past ↦ subst (IsTrustedBetween planned host block place)
              (sym (get_or_past (set ends host.0 end) host.0 0 (rw (length-set ends host.0 end) past)))
              (nothing planned host block place)
        ])

-- what is known at a place is right at the next one
pub right_on : (planned : PlannedShape) (block : List Stmt) (place : ℕ) (knows : Trust) →
    IsRight planned block place knows → IsRight planned block (place + 1) knows
right_on planned block place (trust.Noted ends) known = λ host p from to. known host p (omega arith) to
right_on planned block place (trust.Table table) known = known

-- the walk goes over the statement at a place
pub walked : (planned : PlannedShape) (block : List Stmt) (place : ℕ) (spot next : Spot) → place < length block →
    ((statement : StmtId) (others : List StmtId) → ids_of (drop place block) ≡ statement ∷ others →
    next ≡ next_spot planned spot statement others) →
    end_host planned spot (ids_of (drop place block)) ≡ end_host planned next (ids_of (drop (suc place) block))
walked planned [] place spot next within is = absurd (omega arith)
walked planned (first ∷ others) zero spot next within is =
    ap (λ (at : Spot). end_host planned at (ids_of others)) (sym (is first.id (ids_of others) refl))
walked planned (first ∷ others) (suc place) spot next within is =
    walked planned others place spot next (omega arith) is
