-- The first limit that is passed, and that no limit is passed where there is none.
use Rattle.std.proofs.Common.{◌≡◌, ◌<◌, inl, inr, ℕ, suc, Bool, true, false, ◌||◌, refl, sym, subst, arith, List, []}
use Rattle.std.proofs.Common.{◌∷◌}
use Rattle.std.proofs.Common.{Option, Some, None}
use Rattle.std.specs.Prelude.{Decides, nat_lt, if◌then◌else◌, ⊤}
use Rattle.std.proofs.lemmas.Bool.{cases_lt}
use Rattle.std.proofs.lemmas.Bool.Decides.{Decides-ltb, Decides-or, not_from_Decides}
use Rattle.js_base.specs.declared.limits.TheConstants.{FIELDS, METHODS, PARAMETERS, VARIABLES, STATEMENTS}
use Rattle.js_base.specs.declared.limits.TheConstants.{EXPRESSION_NODES, ARRAY_SIZE, ELEMENTS, NESTING}
use Rattle.jif_grammar.specs.declared.what.What.{What}
use Rattle.jif_grammar.specs.declared.what.What.TheVariants as counted
use Rattle.jif_grammar.specs.Marks.{Tally, IsTooDeep, HasTooMany}
use Rattle.jif_grammar.specs.Programs.{rank_of_what, IsWithin}
use Rattle.jif_grammar.specs.Verdicts.{Excess, of_nesting, of_count, excess}
use Rattle.jif_grammar.proofs.OneRefusal.{one_rank, rank_within}

-- a limit that is passed, and none that comes before it
abbrev pub IsExcess : Tally → Excess → Type 0
IsExcess t of_nesting = IsTooDeep t
IsExcess t (of_count what) =
    HasTooMany what t × (¬ IsTooDeep t)
    × ((other : What) → rank_of_what other < rank_of_what what → ¬ HasTooMany other t)

-- the first limit, or none
abbrev pub IsFirst : Tally → Option Excess → Type 0
IsFirst t None = IsWithin t
IsFirst t (Some found) = IsExcess t found

-- ---- the limits as a table

abbrev passes : Tally → What → Bool
passes t counted.Fields = nat_lt FIELDS t.fields
passes t counted.Methods = nat_lt METHODS t.methods
passes t counted.Parameters = nat_lt PARAMETERS t.parameters
passes t counted.Locals = nat_lt VARIABLES t.variables
passes t counted.Statements = nat_lt STATEMENTS t.statements
passes t counted.Nodes = nat_lt EXPRESSION_NODES t.nodes
passes t counted.Elements = nat_lt ARRAY_SIZE t.size || nat_lt ELEMENTS t.elements

passes_told : (t : Tally) (what : What) → Decides (passes t what) (HasTooMany what t)
passes_told t counted.Fields = Decides-ltb FIELDS t.fields
passes_told t counted.Methods = Decides-ltb METHODS t.methods
passes_told t counted.Parameters = Decides-ltb PARAMETERS t.parameters
passes_told t counted.Locals = Decides-ltb VARIABLES t.variables
passes_told t counted.Statements = Decides-ltb STATEMENTS t.statements
passes_told t counted.Nodes = Decides-ltb EXPRESSION_NODES t.nodes
passes_told t counted.Elements =
    Decides-or (nat_lt ARRAY_SIZE t.size) (nat_lt ELEMENTS t.elements) (Decides-ltb ARRAY_SIZE t.size)
    (Decides-ltb ELEMENTS t.elements)

-- in the order in which they come at one token
abbrev in_order : List What
in_order =
    counted.Methods ∷ counted.Statements ∷ counted.Parameters ∷ counted.Locals ∷ counted.Nodes ∷ counted.Fields
    ∷ counted.Elements ∷ []

-- their ranks are the numbers from n to 7
abbrev AreRanked : ℕ → List What → Type 0
AreRanked n [] = n ≡ 8
AreRanked n (what ∷ later) = (rank_of_what what ≡ n) × AreRanked (suc n) later

abbrev first_passed : Tally → List What → Option Excess
first_passed t [] = None
first_passed t (what ∷ later) = if passes t what then Some (of_count what) else first_passed t later

-- no limit before the n-th is passed
abbrev NoneBefore : Tally → ℕ → Type 0
NoneBefore t n = (other : What) → rank_of_what other < n → ¬ HasTooMany other t

none_here : (t : Tally) (what : What) → ¬ HasTooMany what t → NoneBefore t (rank_of_what what) →
    NoneBefore t (suc (rank_of_what what))
none_here t what not_many none other less many = elim (cases_lt (rank_of_what other) (rank_of_what what)) [
  | inl sooner ↦ none other sooner many
  | inr later ↦
      let same : other ≡ what = one_rank other what (omega (arith, less, later)) in
      not_many (subst (λ (one : What). HasTooMany one t) same many)
]

first_of : (t : Tally) (n : ℕ) (list : List What) → AreRanked n list → ¬ IsTooDeep t → NoneBefore t n →
    IsFirst t (first_passed t list)
first_of t n [] ranked shallow none = record {
  nesting = shallow;
  counts = λ what. none what (omega (arith, (rank_within what).1, ranked));
}
first_of t n (what ∷ later) ranked shallow none =
    by (passes t what) (passes_told t what) (λ not_many.
    first_of t (suc n) later ranked.1 shallow
    (subst (λ (k : ℕ). NoneBefore t (suc k)) ranked.0 (none_here t what not_many sooner)))
  where
    sooner : NoneBefore t (rank_of_what what)
    sooner = subst (NoneBefore t) (sym ranked.0) none

    by : (passed : Bool) → Decides passed (HasTooMany what t) →
        (¬ HasTooMany what t → IsFirst t (first_passed t later)) →
        IsFirst t (if passed then Some (of_count what) else first_passed t later)
    by true told further = (told.0 refl, shallow, sooner)
    by false told further = further (not_from_Decides false told refl)

-- what the tests find
pub excess_first : (t : Tally) → IsFirst t (excess t)
excess_first t = by (nat_lt NESTING t.nesting) (Decides-ltb NESTING t.nesting)
  where
    none : NoneBefore t 1
    none other less many = omega (arith, less, (rank_within other).0)

    by : (deep : Bool) → Decides deep (IsTooDeep t) →
        IsFirst t (if deep then Some of_nesting else first_passed t in_order)
    by true told = told.0 refl
    by false told =
        first_of t 1 in_order (refl, (refl, (refl, (refl, (refl, (refl, (refl, refl)))))))
        (not_from_Decides false told refl) none
