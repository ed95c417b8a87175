-- The clauses of results that a function hands on.
use Rattle.std.proofs.Common.{◌≡◌, sym, subst, List, ◌++◌}
use Rattle.std.specs.Prelude.{Result, Ok, Err, OnOk, IfErr}
use Rattle.std.specs.Result.{IsErr, IsErrAnd}
use Rattle.js_base.specs.declared.ids.StmtId.{StmtId}
use Rattle.principals.specs.ActsFor.{Declared}
use Rattle.jif_tree.specs.LabelRules.{Constraint, Obligation}
use Rattle.label_check.specs.declared.check_error.CheckError.{CheckError}
use Rattle.label_check.specs.declared.check_error.CheckError.TheVariants as error
use Rattle.label_check.specs.Parts.{asked, AreMet, RefusesFor}
use Rattle.label_check.proofs.Asked.{asked_met, asked_behind, no_memory}

-- the error is handed on as it is
pub handed_on : {T : Type 0} {principals : Declared} {all : List Obligation} {why : CheckError}
    (result : Result T CheckError) → IsErr result × IsErrAnd result (λ other. other ≡ why) →
    RefusesFor principals all why → IfErr result (RefusesFor principals all)
handed_on (Ok value) is refused = absurd is.1
handed_on {principals = principals} {all = all} (Err other) is refused =
    subst (RefusesFor principals all) (sym is.1) refused

-- memory ran out
pub none_left : {T : Type 0} (principals : Declared) (all : List Obligation) (result : Result T CheckError) →
    IsErr result × IsErrAnd result (λ other. other ≡ error.OutOfMemory) → IfErr result (RefusesFor principals all)
none_left principals all result is = handed_on result is (no_memory principals all)

-- the result of a call that asks for the last, where the first is met
pub then_met : {T : Type 0} {principals : Declared} (statement : StmtId) (first second : List Constraint)
    (result : Result T CheckError) → AreMet principals (asked statement first) →
    OnOk result ((others : Declared) → AreMet others (asked statement second)) →
    OnOk result (AreMet principals (asked statement (first ++ second)))
then_met {principals = principals} statement first second (Ok value) met last =
    asked_met statement first second met (last principals)
then_met statement first second (Err why) met last = tt

pub then_refused : {T : Type 0} {principals : Declared} (statement : StmtId) (first second : List Constraint)
    (result : Result T CheckError) → AreMet principals (asked statement first) →
    IfErr result (λ why. (others : Declared) → RefusesFor others (asked statement second) why) →
    IfErr result (RefusesFor principals (asked statement (first ++ second)))
then_refused statement first second (Ok value) met last = tt
then_refused {principals = principals} statement first second (Err why) met last =
    asked_behind statement first second met (last principals)

-- ---- the same where it holds over whatever principals

pub handed_on_all : {T : Type 0} {all : List Obligation} {why : CheckError} (result : Result T CheckError) →
    IsErr result × IsErrAnd result (λ other. other ≡ why) → ((principals : Declared) → RefusesFor principals all why) →
    IfErr result (λ other. (principals : Declared) → RefusesFor principals all other)
handed_on_all (Ok value) is refused = absurd is.1
handed_on_all {all = all} (Err other) is refused =
    let Q : CheckError → Type 0 = λ error. (principals : Declared) → RefusesFor principals all error in
    subst Q (sym is.1) refused

pub then_all_met : {T : Type 0} (statement : StmtId) (first second : List Constraint)
    (result : Result T CheckError) → ((others : Declared) → AreMet others (asked statement first)) →
    OnOk result ((others : Declared) → AreMet others (asked statement second)) →
    OnOk result ((others : Declared) → AreMet others (asked statement (first ++ second)))
then_all_met statement first second (Ok value) met last = λ others. asked_met statement first second (met others)
    (last others)
then_all_met statement first second (Err why) met last = tt

pub then_all_refused : {T : Type 0} (statement : StmtId) (first second : List Constraint)
    (result : Result T CheckError) → ((others : Declared) → AreMet others (asked statement first)) →
    IfErr result (λ why. (others : Declared) → RefusesFor others (asked statement second) why) →
    IfErr result (λ why. (others : Declared) → RefusesFor others (asked statement (first ++ second)) why)
then_all_refused statement first second (Ok value) met last = tt
then_all_refused statement first second (Err why) met last =
    λ others. asked_behind statement first second (met others) (last others)
