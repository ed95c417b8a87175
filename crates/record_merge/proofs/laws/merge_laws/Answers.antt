use Rattle.record_merge.proofs.Beginnings.{start_single}
use Rattle.record_merge.proofs.Furthest.{end_meets, furthest}
use Rattle.record_merge.proofs.OneLeft.{never_met, one_left}
use Rattle.record_merge.proofs.OneMeeting.{one_meeting}
use Rattle.record_merge.proofs.OneMerge.{merged_or_refused, one_cause}
use Rattle.net_world.specs.World.{world_at_start}
use Rattle.record_merge.specs.Journals.{journal_lines}
use Rattle.record_merge.specs.Meeting.{words_in}
use Rattle.std.specs.Prelude.{map}
use Rattle.record_merge.proofs.laws.merge_laws.Goals as goal

pub returns-clause-one_list : goal.returns-clause-one_list
returns-clause-one_list c = λ code rows store journals events others one two.
    one_meeting code (world_at_start code rows 0 store) journals events others (start_single code rows store) one two

pub returns-clause-never_both : goal.returns-clause-never_both
returns-clause-never_both c = λ code world said host number events left.
    never_met code world said host number events left

pub returns-clause-one_refusal : goal.returns-clause-one_refusal
returns-clause-one_refusal c = λ code world said host other number another one two.
    one_left code world said host other number another one two

pub returns-clause-meets : goal.returns-clause-meets
returns-clause-meets c = λ code world journals places events end. end_meets code world journals places events end

pub returns-clause-furthest : goal.returns-clause-furthest
returns-clause-furthest c = λ code rows store journals places reached events others host end meets.
    furthest code (world_at_start code rows 0 store) journals places events (start_single code rows store) end others
    reached meets host

pub returns-clause-one_merge : goal.returns-clause-one_merge
returns-clause-one_merge c = λ code rows store journals events others one two.
    one_meeting code (world_at_start code rows 0 store) (words_in (map journal_lines journals)) events others
    (start_single code rows store) one.1 two.1

pub returns-clause-one_cause : goal.returns-clause-one_cause
returns-clause-one_cause c = one_cause

pub returns-clause-merged_or_refused : goal.returns-clause-merged_or_refused
returns-clause-merged_or_refused c = merged_or_refused
