use Rattle.std.proofs.Common.{refl, arith}
use Rattle.token_laws.proofs.AskedLaws.{known_asked, ends_obey}
use Rattle.token_laws.proofs.Walks.{one_more, same_bad, bad_by_word, own_there, fits_there}
use Rattle.token_laws.proofs.laws.reached_laws.Goals as goal

pub returns-clause-start : goal.returns-clause-start
returns-clause-start c = λ code rows bad store sound hosts.
    record { sound = sound; hosts = hosts; own = λ k d lt. absurd (omega arith); ran = refl }

pub returns-clause-more : goal.returns-clause-more
returns-clause-more c = one_more

pub returns-clause-misbehaving : goal.returns-clause-misbehaving
returns-clause-misbehaving c = λ code rows bad store events world host reach.
    same_bad code rows bad store events world reach host

pub returns-clause-by_word : goal.returns-clause-by_word
returns-clause-by_word c = λ code rows bad store events world host reach is_host.
    bad_by_word code rows bad store events world host reach is_host

pub returns-clause-own : goal.returns-clause-own
returns-clause-own c = own_there

pub returns-clause-fits : goal.returns-clause-fits
returns-clause-fits c = fits_there

pub returns-clause-ends : goal.returns-clause-ends
returns-clause-ends c = λ code rows bad store events world from to place flight reach there.
    ends_obey code world from to place flight (fits_there code rows bad store events world reach)
    (known_asked code rows bad store events world reach) there
