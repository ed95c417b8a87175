-- Parameters that ride with a call, one by one.
use Rattle.std.proofs.Common.{◌≡◌, ℕ, zero, suc, ◌<◌, ◌≤◌, min, List, [], ◌∷◌, ◌++◌, length, drop, map, get_or, Some}
use Rattle.std.proofs.Common.{refl, ap, sym, arith}
use Rattle.js_base.specs.declared.ids.HostId.{HostId}
use Rattle.js_base.specs.declared.ids.VarId.{VarId}
use Rattle.jif_tree.specs.declared.program.Expr.{Expr}
use Rattle.jif_tree.specs.Trees.{ExprTree, expr_tree}
use Rattle.msg_cost.specs.Moves.{PlannedShape}
use Rattle.split_rules.specs.Walk.{riders_to, riding_params}

-- those from a place on that have an argument
abbrev pub left_from : PlannedShape → HostId → HostId → List VarId → List Expr → ℕ → List VarId
left_from planned host home params args place =
    riding_params planned host home (drop place params) (map expr_tree (drop place args))

-- the first of them, and then the others
pub first_left : (planned : PlannedShape) (host home : HostId) (params : List VarId) (args : List Expr) (place : ℕ)
    (param other : VarId) → place < length params → place < length args → param ≡ get_or params place other →
    left_from planned host home params args place
    ≡ riders_to planned host param (Some home) ++ left_from planned host home params args (suc place)
first_left planned host home [] args place param other within few is = absurd (omega (arith, within))
first_left planned host home (first ∷ params) [] place param other within few is = absurd (omega (arith, few))
first_left planned host home (first ∷ params) (arg ∷ args) zero param other within few is =
    ap (λ one. riders_to planned host one (Some home) ++ riding_params planned host home params (map expr_tree args))
    (sym is)
first_left planned host home (first ∷ params) (arg ∷ args) (suc place) param other within few is =
    first_left planned host home params args place param other (omega (arith, within)) (omega (arith, few)) is

no_params : (planned : PlannedShape) (host home : HostId) (args : List ExprTree) →
    riding_params planned host home [] args ≡ []
no_params planned host home [] = refl
no_params planned host home (arg ∷ args) = refl

-- none is left where the parameters or the arguments end
pub none_left : (planned : PlannedShape) (host home : HostId) (params : List VarId) (args : List Expr) (place : ℕ) →
    min (length params) (length args) ≤ place → left_from planned host home params args place ≡ []
none_left planned host home [] [] zero past = refl
none_left planned host home [] (arg ∷ args) zero past = refl
none_left planned host home (first ∷ params) [] zero past = refl
none_left planned host home (first ∷ params) (arg ∷ args) zero past = absurd (omega (arith, past))
none_left planned host home [] [] (suc place) past = refl
none_left planned host home [] (arg ∷ args) (suc place) past =
    no_params planned host home (map expr_tree (drop place args))
none_left planned host home (first ∷ params) [] (suc place) past = refl
none_left planned host home (first ∷ params) (arg ∷ args) (suc place) past =
    none_left planned host home params args place (omega (arith, past))
