-- The cause that a program is refused for.
use Rattle.std.proofs.Common.{◌≡◌, ◌≢◌, ◌∙◌, List, inl, inr, refl, ap, sym}
use Rattle.js_base.specs.declared.ids.StmtId.{StmtId}
use Rattle.principals.specs.ActsFor.{Declared}
use Rattle.jif_tree.specs.Trees.{ProgramTree}
use Rattle.jif_tree.specs.LabelRules.{Constraint, may_release, trusted, may_endorse, may_begin, may_flow, Obligation}
use Rattle.jif_tree.specs.LabelRules.{IsFirstFailure, IsWellLabelled, obligations}
use Rattle.label_check.specs.Checking.{Tells, IsRefusedAmong, IsLabelRefusedFor}
use Rattle.label_check.specs.declared.check_error.CheckError.{CheckError}
use Rattle.label_check.specs.declared.check_error.CheckError.TheVariants as error
use Rattle.label_check.proofs.Failures.{one_failure, none_fails}

-- the one refusal that tells an obligation
abbrev cause : StmtId → Constraint → CheckError
cause statement (may_release authority from to) = error.NoAuthority statement
cause statement (trusted authority pc) = error.WeakProgramLabel statement
cause statement (may_endorse authority from to) = error.NoAuthority statement
cause statement (may_begin pc begin) = error.BadBegin statement pc begin
cause statement (may_flow from to) = error.BadFlow statement from to

abbrev cause_of : Obligation → CheckError
cause_of failed = cause failed.statement failed.constraint

tells_cause : (why : CheckError) (failed : Obligation) → Tells why failed → why ≡ cause_of failed
tells_cause error.OutOfMemory failed tells = absurd tells
tells_cause (error.BadFlow statement from to) failed is = sym (ap cause_of is)
tells_cause (error.BadBegin statement pc begin) failed is = sym (ap cause_of is)
tells_cause (error.NoAuthority statement) failed (same, inl (authority, from, to, what)) =
    sym (ap (cause failed.statement) what ∙ ap error.NoAuthority same)
tells_cause (error.NoAuthority statement) failed (same, inr (authority, from, to, what)) =
    sym (ap (cause failed.statement) what ∙ ap error.NoAuthority same)
tells_cause (error.WeakProgramLabel statement) failed (same, (authority, pc, what)) =
    sym (ap (cause failed.statement) what ∙ ap error.WeakProgramLabel same)

-- the obligation that a refusal tells, where memory did not run out
abbrev Told : Declared → List Obligation → CheckError → Type 0
Told principals all why = (failed : Obligation) × IsFirstFailure principals all failed × Tells why failed

told : (principals : Declared) (all : List Obligation) (why : CheckError) → why ≢ error.OutOfMemory →
    IsRefusedAmong principals all why → Told principals all why
told principals all error.OutOfMemory other refused = absurd (other refl)
told principals all (error.BadFlow statement from to) other refused = refused
told principals all (error.BadBegin statement pc begin) other refused = refused
told principals all (error.NoAuthority statement) other refused = refused
told principals all (error.WeakProgramLabel statement) other refused = refused

pub one_refusal : (principals : Declared) (program : ProgramTree) (first second : CheckError) →
    IsLabelRefusedFor principals program first → IsLabelRefusedFor principals program second → first
    ≢ error.OutOfMemory →
    second ≢ error.OutOfMemory → first ≡ second
one_refusal principals program first second one two is other =
    let all : List Obligation = obligations principals program in
    let here : Told principals all first = told principals all first is one in
    let there : Told principals all second = told principals all second other two in
    tells_cause first here.0 here.2 ∙ ap cause_of (one_failure principals all here.0 there.0 here.1 there.1)
    ∙ sym (tells_cause second there.0 there.2)

pub never_both : (principals : Declared) (program : ProgramTree) (why : CheckError) →
    IsWellLabelled principals program → IsLabelRefusedFor principals program why → why ≡ error.OutOfMemory
never_both principals program error.OutOfMemory well refused = refl
never_both principals program (error.BadFlow statement from to) well (failed, first, tells) =
    absurd (none_fails principals (obligations principals program) failed well first)
never_both principals program (error.BadBegin statement pc begin) well (failed, first, tells) =
    absurd (none_fails principals (obligations principals program) failed well first)
never_both principals program (error.NoAuthority statement) well (failed, first, tells) =
    absurd (none_fails principals (obligations principals program) failed well first)
never_both principals program (error.WeakProgramLabel statement) well (failed, first, tells) =
    absurd (none_fails principals (obligations principals program) failed well first)
