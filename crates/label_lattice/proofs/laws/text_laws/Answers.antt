use Rattle.std.proofs.Common.{refl}
use Rattle.label_lattice.specs.Lattice.{empty_label, bottom_of}
use Rattle.label_lattice.proofs.PrintedMeaning.{reads_back, printed_once, allows_is, forbids_some_is, trusted_is}
use Rattle.label_lattice.proofs.laws.text_laws.Goals as goal

pub returns-clause-allows : goal.returns-clause-allows
returns-clause-allows c = allows_is

pub returns-clause-forbids_some : goal.returns-clause-forbids_some
returns-clause-forbids_some c = forbids_some_is

pub returns-clause-trusts : goal.returns-clause-trusts
returns-clause-trusts c = trusted_is

pub returns-clause-reads_back : goal.returns-clause-reads_back
returns-clause-reads_back c = reads_back c.acts_for_laws.ensures.reflexive c.spelled_laws.ensures.reads

pub returns-clause-printed_once : goal.returns-clause-printed_once
returns-clause-printed_once c principals first second declared one two =
    printed_once c.lex_laws.ensures c.label_laws.ensures.written_once principals first second declared one two
    (reads_back c.acts_for_laws.ensures.reflexive c.spelled_laws.ensures.reads principals first declared one)
    (reads_back c.acts_for_laws.ensures.reflexive c.spelled_laws.ensures.reads principals second declared two)

pub returns-clause-worked_empty : goal.returns-clause-worked_empty
unfolding empty_label
returns-clause-worked_empty c = refl

pub returns-clause-worked_bottom : goal.returns-clause-worked_bottom
unfolding bottom_of
returns-clause-worked_bottom c = refl
