-- A program is accepted, or is refused for a cause.
use Rattle.std.proofs.Common.{◌≢◌, ◌⊎◌, zero, suc, List, [], ◌∷◌, All, Any, arith, inl, inr, refl, ap}
use Rattle.js_base.specs.declared.ids.StmtId.{StmtId}
use Rattle.principals.specs.ActsFor.{Declared, ActsFor}
use Rattle.js_base.proofs.Decisions.{Decided, all_below, all_of, any_of, implied, either}
use Rattle.principals.proofs.Decisions.{acts_for}
use Rattle.label_lattice.specs.declared.label.TheConstants.{READERS}
use Rattle.label_lattice.specs.Label.{Forbids, Trusts, PolicyForbids}
use Rattle.label_lattice.proofs.Decisions.{all_pairs, forbids, trusts, flows, policy_forbids}
use Rattle.jif_tree.specs.Trees.{ProgramTree}
use Rattle.jif_tree.specs.LabelRules.{Constraint, may_release, trusted, may_endorse, may_begin, may_flow, Holds}
use Rattle.jif_tree.specs.LabelRules.{Obligation, Meets, IsFirstFailure, IsWellLabelled, obligations}
use Rattle.label_check.specs.Checking.{IsRefusedAmong, IsLabelRefusedFor}
use Rattle.label_check.specs.declared.check_error.CheckError.{CheckError}
use Rattle.label_check.specs.declared.check_error.CheckError.TheVariants as error

-- ---- whether a constraint holds

holds : (principals : Declared) (what : Constraint) → Decided (Holds principals what)
holds principals (may_release authority from to) =
    all_pairs
    (λ owner reader. Forbids from owner reader →
    Forbids to owner reader ⊎ Any (λ member. PolicyForbids principals member [] owner reader) authority)
    (λ owner reader. implied _ _ (forbids from owner reader) (either _ _ (forbids to owner reader)
    (any_of (λ member. PolicyForbids principals member [] owner reader)
    (λ member. policy_forbids principals member [] owner reader) authority)))
holds principals (trusted authority pc) = all_of (λ member. Trusts pc member.0) (λ member. trusts pc member.0) authority
holds principals (may_endorse authority from to) =
    all_below READERS
    (λ principal. Trusts to principal →
    Trusts from principal ⊎ Any (λ member. ActsFor principals member.0 principal) authority)
    (λ principal. implied _ _ (trusts to principal) (either _ _ (trusts from principal)
    (any_of (λ member. ActsFor principals member.0 principal) (λ member. acts_for principals member.0 principal)
    authority)))
holds principals (may_begin pc begin) = flows pc begin
holds principals (may_flow from to) = flows from to

-- ---- the first that fails

all_more : (principals : Declared) (one : Obligation) (others : List Obligation) → Meets principals one →
    All (Meets principals) others → All (Meets principals) (one ∷ others)
all_more principals one others here behind zero d lt = here
all_more principals one others here behind (suc k) d lt = behind k d (omega arith)

met_or_fails : (principals : Declared) (all : List Obligation) →
    All (Meets principals) all ⊎ ((failed : Obligation) × IsFirstFailure principals all failed)
met_or_fails principals [] = inl (λ k d lt. absurd (omega arith))
met_or_fails principals (one ∷ others) = elim (holds principals one.constraint) [
  | inl here ↦ elim (met_or_fails principals others) [
    | inl behind ↦ inl (all_more principals one others here behind)
    | inr (failed, first) ↦ inr (
      failed,
      record {
        before = one ∷ first.before;
        behind = first.behind;
        place = ap (λ (list : List Obligation). one ∷ list) first.place;
        met = all_more principals one first.before here first.met;
        fails = first.fails;
      },
    )
  ]
  | inr not ↦ inr (
    one,
    record {
      before = [];
      behind = others;
      place = refl;
      met = λ k d lt. absurd (omega arith);
      fails = not;
    },
  )
]

-- ---- the refusal that tells it

refused : (principals : Declared) (all : List Obligation) (statement : StmtId) (what : Constraint) →
    IsFirstFailure principals all (record { statement = statement; constraint = what }) →
    (why : CheckError) × (why ≢ error.OutOfMemory) × IsRefusedAmong principals all why
refused principals all statement (may_release authority from to) first =
    (error.NoAuthority statement, (λ same. cc), (_, first, (refl, inl (authority, from, to, refl))))
refused principals all statement (trusted authority pc) first =
    (error.WeakProgramLabel statement, (λ same. cc), (_, first, (refl, (authority, pc, refl))))
refused principals all statement (may_endorse authority from to) first =
    (error.NoAuthority statement, (λ same. cc), (_, first, (refl, inr (authority, from, to, refl))))
refused principals all statement (may_begin pc begin) first =
    (error.BadBegin statement pc begin, (λ same. cc), (_, first, refl))
refused principals all statement (may_flow from to) first =
    (error.BadFlow statement from to, (λ same. cc), (_, first, refl))

pub accepted_or_refused : (principals : Declared) (program : ProgramTree) → IsWellLabelled principals program
    ⊎ ((why : CheckError) × (why ≢ error.OutOfMemory) × IsLabelRefusedFor principals program why)
accepted_or_refused principals program = elim (met_or_fails principals (obligations principals program)) [
  | inl met ↦ inl met
  | inr (failed, first) ↦
      inr (refused principals (obligations principals program) failed.statement failed.constraint first)
]
