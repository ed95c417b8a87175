use Rattle.typed_steps.proofs.Takes.{request_taken, result_taken, arrival_taken, answer_taken}
use Rattle.typed_steps.proofs.laws.take_laws.Goals as goal

pub returns-clause-request : goal.returns-clause-request
returns-clause-request c =
    λ split c view world holder owner waiting old asked outcome owns asks takes.
    request_taken split c view world holder owner waiting old owns asked asks outcome takes

pub returns-clause-result : goal.returns-clause-result
returns-clause-result c =
    λ split c view world holder owner waiting old request frame x value outcome owns awaited is may gives takes.
    result_taken split c view world holder owner waiting old owns request frame x value awaited is may gives outcome
    takes

pub returns-clause-arrival : goal.returns-clause-arrival
returns-clause-arrival c =
    λ split c view world from to old said arrival outcome owns arrives goes takes.
    arrival_taken split c view world from to old owns said arrival arrives goes outcome takes

pub returns-clause-answer : goal.returns-clause-answer
returns-clause-answer c =
    λ split c view holder owner waiting state place answer outcome first is takes.
    answer_taken split c view holder owner waiting state place first answer is outcome takes
