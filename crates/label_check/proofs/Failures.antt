-- The first failure among obligations.
use Rattle.std.proofs.Common.{◌≡◌, ◌∙◌, suc, List, [], ◌∷◌, ◌++◌, All, arith, sym, subst}
use Rattle.principals.specs.ActsFor.{Declared}
use Rattle.jif_tree.specs.LabelRules.{Obligation, Meets, IsFirstFailure}

all_behind : (principals : Declared) (one : Obligation) (others : List Obligation) →
    All (Meets principals) (one ∷ others) → All (Meets principals) others
all_behind principals one others all = λ k d lt. all (suc k) d (omega arith)

first_of : (principals : Declared) (before other : List Obligation) (failed second : Obligation)
    (behind rest : List Obligation) → before ++ failed ∷ behind ≡ other ++ second ∷ rest →
    All (Meets principals) before → All (Meets principals) other → ¬ Meets principals failed →
    ¬ Meets principals second → failed ≡ second
first_of principals [] [] failed second behind rest same met also fails too = cc
first_of principals [] (one ∷ other) failed second behind rest same met also fails too =
    let is : failed ≡ one = cc in
    absurd (fails (subst (Meets principals) (sym is) (also 0 one (omega arith))))
first_of principals (one ∷ before) [] failed second behind rest same met also fails too =
    let is : second ≡ one = cc in
    absurd (too (subst (Meets principals) (sym is) (met 0 one (omega arith))))
first_of principals (one ∷ before) (two ∷ other) failed second behind rest same met also fails too =
    first_of principals before other failed second behind rest (cc) (all_behind principals one before met)
    (all_behind principals two other also) fails too

pub one_failure : (principals : Declared) (all : List Obligation) (first second : Obligation) →
    IsFirstFailure principals all first → IsFirstFailure principals all second → first ≡ second
one_failure principals all first second one two =
    first_of principals one.before two.before first second one.behind two.behind (sym one.place ∙ two.place) one.met
    two.met one.fails two.fails

met_among : (principals : Declared) (before : List Obligation) (failed : Obligation) (behind : List Obligation) →
    All (Meets principals) (before ++ failed ∷ behind) → Meets principals failed
met_among principals [] failed behind all = all 0 failed (omega arith)
met_among principals (one ∷ before) failed behind all =
    met_among principals before failed behind (all_behind principals one (before ++ failed ∷ behind) all)

pub none_fails : (principals : Declared) (all : List Obligation) (failed : Obligation) →
    All (Meets principals) all → ¬ IsFirstFailure principals all failed
none_fails principals all failed met = λ first.
    first.fails (met_among principals first.before failed first.behind
    (subst (All (Meets principals)) first.place met))
