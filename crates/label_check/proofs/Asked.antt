-- What is asked for by parts that stand one behind the other: the first failure of the first part is that of both, and
-- so is that of the second where all of the first is met.
use Rattle.std.proofs.Common.{◌≡◌, ◌∙◌, sym, ap, subst, inl, inr, List, [], ◌∷◌, ◌++◌, append_assoc, refl}
use Rattle.std.proofs.lemmas.List.Elements.{All-append, All-nil, All-cons}
use Rattle.js_base.specs.declared.ids.StmtId.{StmtId}
use Rattle.js_base.specs.declared.ids.PrincipalId.{PrincipalId}
use Rattle.principals.specs.ActsFor.{Declared}
use Rattle.label_lattice.specs.declared.label.Label.{Label}
use Rattle.label_lattice.specs.Label.{Flows}
use Rattle.jif_tree.specs.LabelRules.{Constraint, Obligation, Meets, Holds, IsFirstFailure}
use Rattle.jif_tree.specs.LabelRules.{may_release, trusted, may_endorse, may_begin, may_flow}
use Rattle.label_check.specs.declared.check_error.CheckError.{CheckError}
use Rattle.label_check.specs.declared.check_error.CheckError.TheVariants as error
use Rattle.label_check.specs.Checking.{IsRefusedAmong}
use Rattle.label_check.specs.Parts.{asked, AreMet, RefusesFor}

pub none_met : (principals : Declared) → AreMet principals []
none_met principals = record { each = All-nil (Meets principals) }

pub one_met : {principals : Declared} {one : Obligation} → Meets principals one → AreMet principals (one ∷ [])
one_met {principals} {one} met = record { each = All-cons (Meets principals) one [] met (All-nil (Meets principals)) }

pub both_met : {principals : Declared} {first second : List Obligation} → AreMet principals first →
    AreMet principals second → AreMet principals (first ++ second)
both_met {principals} {first} {second} met also =
    record { each = All-append (Meets principals) first second met.each also.each }

fails_before : {principals : Declared} {first : List Obligation} (second : List Obligation) {failed : Obligation} →
    IsFirstFailure principals first failed → IsFirstFailure principals (first ++ second) failed
fails_before second {failed} failure = record {
  before = failure.before;
  behind = failure.behind ++ second;
  place = ap (λ all. all ++ second) failure.place ∙ append_assoc failure.before (failed ∷ failure.behind) second;
  met = failure.met;
  fails = failure.fails;
}

fails_behind : {principals : Declared} {first second : List Obligation} {failed : Obligation} →
    AreMet principals first → IsFirstFailure principals second failed →
    IsFirstFailure principals (first ++ second) failed
fails_behind {principals} {first} {second} {failed} met failure = record {
  before = first ++ failure.before;
  behind = failure.behind;
  place = ap (λ all. first ++ all) failure.place
      ∙ sym (append_assoc first failure.before (failed ∷ failure.behind));
  met = All-append (Meets principals) first failure.before met.each failure.met;
  fails = failure.fails;
}

-- a refusal stays one where the first failure does
handed : {principals : Declared} {small large : List Obligation}
    (same : (failed : Obligation) → IsFirstFailure principals small failed → IsFirstFailure principals large failed)
    (why : CheckError) → IsRefusedAmong principals small why → IsRefusedAmong principals large why
handed same error.OutOfMemory refused = tt
handed same (error.BadFlow statement from to) refused = (refused.0, same refused.0 refused.1, refused.2)
handed same (error.BadBegin statement pc begin) refused = (refused.0, same refused.0 refused.1, refused.2)
handed same (error.NoAuthority statement) refused = (refused.0, same refused.0 refused.1, refused.2)
handed same (error.WeakProgramLabel statement) refused = (refused.0, same refused.0 refused.1, refused.2)

pub refused_before : {principals : Declared} {first : List Obligation} (second : List Obligation) {why : CheckError} →
    RefusesFor principals first why → RefusesFor principals (first ++ second) why
refused_before second {why} refused =
    record { among = handed (λ failed failure. fails_before second failure) why refused.among }

pub refused_behind : {principals : Declared} {first second : List Obligation} {why : CheckError} →
    AreMet principals first → RefusesFor principals second why → RefusesFor principals (first ++ second) why
refused_behind {why = why} met refused =
    record { among = handed (λ failed failure. fails_behind met failure) why refused.among }

-- the first of all is not met
pub first_fails : (principals : Declared) (failed : Obligation) (behind : List Obligation) →
    ¬ Meets principals failed → IsFirstFailure principals (failed ∷ behind) failed
first_fails principals failed behind fails = record {
  before = [];
  behind = behind;
  place = refl;
  met = All-nil (Meets principals);
  fails = fails;
}

pub no_memory : (principals : Declared) (all : List Obligation) → RefusesFor principals all error.OutOfMemory
no_memory principals all = record { among = tt }

-- ---- the same of what one statement asks for

pub asked_append : (statement : StmtId) (first second : List Constraint) →
    asked statement (first ++ second) ≡ asked statement first ++ asked statement second
asked_append statement [] second = refl
asked_append statement (one ∷ first) second =
    ap (λ all. (record { statement = statement; constraint = one }) ∷ all) (asked_append statement first second)

pub asked_met : {principals : Declared} (statement : StmtId) (first second : List Constraint) →
    AreMet principals (asked statement first) → AreMet principals (asked statement second) →
    AreMet principals (asked statement (first ++ second))
asked_met {principals} statement first second met also =
    let Q : List Obligation → Type 0 = λ all. AreMet principals all in
    subst Q (sym (asked_append statement first second)) (both_met met also)

pub asked_before : {principals : Declared} (statement : StmtId) (first : List Constraint)
    (second : List Constraint) {why : CheckError} → RefusesFor principals (asked statement first) why →
    RefusesFor principals (asked statement (first ++ second)) why
asked_before {principals} statement first second {why} refused =
    let Q : List Obligation → Type 0 = λ all. RefusesFor principals all why in
    subst Q (sym (asked_append statement first second)) (refused_before (asked statement second) refused)

pub asked_behind : {principals : Declared} (statement : StmtId) (first second : List Constraint) {why : CheckError} →
    AreMet principals (asked statement first) → RefusesFor principals (asked statement second) why →
    RefusesFor principals (asked statement (first ++ second)) why
asked_behind {principals} statement first second {why} met refused =
    let Q : List Obligation → Type 0 = λ all. RefusesFor principals all why in
    subst Q (sym (asked_append statement first second)) (refused_behind met refused)

-- ---- one refusal for each kind of constraint

pub no_flow : (principals : Declared) (statement : StmtId) (from to : Label) → ¬ Flows from to →
    RefusesFor principals (asked statement (may_flow from to ∷ [])) (error.BadFlow statement from to)
no_flow principals statement from to fails = record { among = (_, first_fails principals _ [] fails, refl) }

pub no_begin : (principals : Declared) (statement : StmtId) (pc begin : Label) → ¬ Flows pc begin →
    RefusesFor principals (asked statement (may_begin pc begin ∷ [])) (error.BadBegin statement pc begin)
no_begin principals statement pc begin fails = record { among = (_, first_fails principals _ [] fails, refl) }

pub no_endorsement : (principals : Declared) (statement : StmtId) (authority : List PrincipalId) (from to : Label) →
    ¬ Holds principals (may_endorse authority from to) →
    RefusesFor principals (asked statement (may_endorse authority from to ∷ [])) (error.NoAuthority statement)
no_endorsement principals statement authority from to fails =
    record { among = (_, first_fails principals _ [] fails, (refl, inr (authority, from, to, refl))) }

pub no_release : (principals : Declared) (statement : StmtId) (authority : List PrincipalId) (from to : Label)
    (behind : List Constraint) → ¬ Holds principals (may_release authority from to) →
    RefusesFor principals (asked statement (may_release authority from to ∷ behind)) (error.NoAuthority statement)
no_release principals statement authority from to behind fails =
    record { among = (_, first_fails principals _ _ fails, (refl, inl (authority, from, to, refl))) }

pub no_trust : (principals : Declared) (statement : StmtId) (authority : List PrincipalId) (pc : Label) →
    ¬ Holds principals (trusted authority pc) →
    RefusesFor principals (asked statement (trusted authority pc ∷ [])) (error.WeakProgramLabel statement)
no_trust principals statement authority pc fails =
    record { among = (_, first_fails principals _ [] fails, (refl, (authority, pc, refl))) }
