use Rattle.std.proofs.Common.{◌≡◌, ◌∙◌, zero, suc, refl, arith, ◌∷◌, [], Any}
use Rattle.msg_cost.specs.Moves.{is_trusted_by}
use Rattle.split_rules.specs.Positions.{IsStatementOfMethod}
use Rattle.split_rules.specs.Worked.{called, calling, returning, loop_end}
use Rattle.split_rules.proofs.laws.worked_laws.Goals as goal

pub returns-clause-rides : goal.returns-clause-rides
unfolding is_trusted_by
returns-clause-rides c = refl

pub returns-clause-rides_entries : goal.returns-clause-rides_entries
unfolding is_trusted_by
returns-clause-rides_entries c = refl

pub returns-clause-two_read : goal.returns-clause-two_read
unfolding is_trusted_by
returns-clause-two_read c = refl

pub returns-clause-rides_past : goal.returns-clause-rides_past
unfolding is_trusted_by
returns-clause-rides_past c = refl

pub returns-clause-sent_past : goal.returns-clause-sent_past
unfolding is_trusted_by
returns-clause-sent_past c = refl

pub returns-clause-sent_before : goal.returns-clause-sent_before
unfolding is_trusted_by
returns-clause-sent_before c = refl

pub returns-clause-sent_back : goal.returns-clause-sent_back
unfolding is_trusted_by
returns-clause-sent_back c = refl

pub returns-clause-result_rides : goal.returns-clause-result_rides
unfolding is_trusted_by
returns-clause-result_rides c = refl

pub returns-clause-past : goal.returns-clause-past
unfolding is_trusted_by
returns-clause-past c = refl

pub returns-clause-past_entries : goal.returns-clause-past_entries
unfolding is_trusted_by
returns-clause-past_entries c = refl

pub returns-clause-back : goal.returns-clause-back
unfolding is_trusted_by
returns-clause-back c = refl

pub returns-clause-back_entries : goal.returns-clause-back_entries
unfolding is_trusted_by
returns-clause-back_entries c = refl

pub returns-clause-loops : goal.returns-clause-loops
unfolding is_trusted_by
returns-clause-loops c = refl

pub returns-clause-loop_entries : goal.returns-clause-loop_entries
unfolding is_trusted_by
returns-clause-loop_entries c = refl

pub returns-clause-branches : goal.returns-clause-branches
unfolding is_trusted_by
returns-clause-branches c = refl

pub returns-clause-branches_to : goal.returns-clause-branches_to
unfolding is_trusted_by
returns-clause-branches_to c = refl

pub returns-clause-branch_entries : goal.returns-clause-branch_entries
unfolding is_trusted_by
returns-clause-branch_entries c = refl

pub returns-clause-calls : goal.returns-clause-calls
unfolding is_trusted_by
returns-clause-calls c = refl

pub returns-clause-gives_back : goal.returns-clause-gives_back
unfolding is_trusted_by
returns-clause-gives_back c = refl

pub returns-clause-call_entries : goal.returns-clause-call_entries
unfolding is_trusted_by
returns-clause-call_entries c = refl

returning_in : IsStatementOfMethod called.program (record { 0 = 1 }) returning
returning_in = (0, returning, omega arith, refl, refl)

pub returns-clause-is_in : goal.returns-clause-is_in
returns-clause-is_in c = returning_in

pub returns-clause-is_of : goal.returns-clause-is_of
returns-clause-is_of c = (record { 0 = 1 }, returning_in)

not_calling : ¬ Any (λ one. one ≡ returning) (calling ∷ [])
not_calling (zero, statement, within, read, same) =
    let both : calling ≡ returning = read ∙ same in
    absurd (cc)
not_calling (suc k, statement, within, read, same) = absurd (omega (arith, within))

pub returns-clause-is_not_in : goal.returns-clause-is_not_in
returns-clause-is_not_in c = not_calling

pub returns-clause-is_inside : goal.returns-clause-is_inside
returns-clause-is_inside c = (2, loop_end, omega arith, refl, refl)

pub returns-clause-indexes : goal.returns-clause-indexes
unfolding is_trusted_by
returns-clause-indexes c = refl

pub returns-clause-labels : goal.returns-clause-labels
unfolding is_trusted_by
returns-clause-labels c = refl
