-- The parts are looked at in order, over code that is written out.
use Rattle.std.proofs.Common.{◌≡◌, ap, arith, inl, inr, refl}
use Rattle.js_base.specs.declared.ids.HostId.{HostId}
use Rattle.js_base.specs.declared.ids.EntryId.{EntryId}
use Rattle.host_code.specs.Code.{halt}
use Rattle.ignored_reasons.specs.ReasonExamples.{host_a, host_b, the_entry}
use Rattle.ignored_reasons.proofs.laws.reason_examples.Goals as goal

two_hosts : host_a ≡ host_b → ⊥
two_hosts same = omega (arith, ap (λ (host : HostId). host.0) same)

two_entries : the_entry ≡ halt → ⊥
two_entries same = omega (arith, ap (λ (entry : EntryId). entry.0) same)

pub returns-clause-field_elsewhere : goal.returns-clause-field_elsewhere
returns-clause-field_elsewhere c = λ label_of_b label need. inr (two_hosts, refl)

pub returns-clause-may_not_see : goal.returns-clause-may_not_see
returns-clause-may_not_see c = λ label_of_b label need not. inl (refl, inr (not, refl))

pub returns-clause-may_see : goal.returns-clause-may_see
returns-clause-may_see c = λ label_of_b label need sees. inl (refl, inl (sees, refl))

pub returns-clause-may_not_set : goal.returns-clause-may_not_set
returns-clause-may_not_set c = λ label_of_b label need not. inl (refl, inr (not, refl))

pub returns-clause-may_not_forward : goal.returns-clause-may_not_forward
returns-clause-may_not_forward c = λ label_of_b label need not. inr (not, refl)

pub returns-clause-no_halt : goal.returns-clause-no_halt
returns-clause-no_halt c = λ label_of_b label need. inr (λ on. on.0 refl, refl)

pub returns-clause-no_entry : goal.returns-clause-no_entry
returns-clause-no_entry c = λ label_of_b label need. inr (λ on. two_hosts on.1, refl)

pub returns-clause-may_not_enter : goal.returns-clause-may_not_enter
returns-clause-may_not_enter c = λ label_of_b label need not. inl ((two_entries, refl), inr (not, refl))

pub returns-clause-may_not_know : goal.returns-clause-may_not_know
returns-clause-may_not_know c = λ label_of_b label need trusted not.
    inl ((two_entries, refl), inl (trusted, inr (not, refl)))

pub returns-clause-may_not_ride : goal.returns-clause-may_not_ride
returns-clause-may_not_ride c = λ label_of_b label need trusted sees not.
    inl ((two_entries, refl), inl (trusted, inl (sees, inr (not, refl))))

pub returns-clause-not_on_top : goal.returns-clause-not_on_top
returns-clause-not_on_top c = λ label_of_b label need. inr (λ same. cc, refl)

pub returns-clause-none_waits : goal.returns-clause-none_waits
returns-clause-none_waits c = λ label_of_b label need. inr (λ waits. cc, refl)
