use Rattle.std.proofs.Common.{◌≡◌, ◌∙◌, ◌++◌, ◌-◌, List, ap, arith, codes, length}
use Rattle.std.specs.List.{range_with_len}
use Rattle.event_text.specs.declared.event.Event.TheVariants.{Act}
use Rattle.net_world.specs.Told.{SentMessage}
use Rattle.net_world.specs.World.{WorldShape}
use Rattle.run_sheet.specs.ChartRows.{first_tracks}
use Rattle.run_sheet.specs.FieldMarks.{value_words}
use Rattle.run_sheet.specs.ReasonWords.{reason_words}
use Rattle.run_sheet.specs.RunEvents.{host_asking, host_moved}
use Rattle.run_sheet.specs.SendLanes.{send_lanes}
use Rattle.run_sheet.specs.StackNotes.{stack_behind}
use Rattle.run_sheet.proofs.KeptFields.{kept_exactly}
use Rattle.run_sheet.proofs.ShownRows.{all_shown, same_none, shown_lines, shown_on_stack, taken_text}
use Rattle.run_sheet.proofs.ToldLetters.{all_told}
use Rattle.run_sheet.proofs.laws.sheet_laws.Goals as goal

pub returns-clause-lines : goal.returns-clause-lines
returns-clause-lines c = λ source at last said is.
    shown_lines source (send_lanes source.rows) (first_tracks source.code) source.rows
    ∙ c.row_laws.ensures.lines source.code at last said source.rows is

pub returns-clause-hosts : goal.returns-clause-hosts
returns-clause-hosts c = λ source at last said is.
    all_shown source (send_lanes source.rows) (first_tracks source.code) at last said source.rows is

pub returns-clause-taken : goal.returns-clause-taken
returns-clause-taken c = λ source lanes track world next line place from to flight row its there.
    taken_text source.code world next line place from to flight row its there

pub returns-clause-crossed : goal.returns-clause-crossed
returns-clause-crossed c = λ source lanes track world next line place from to state flight row its there obeys.
    same_none (reason_words source.code (host_asking row.what)) row.ignored
    (c.row_laws.ensures.take_ignored source.code world next line place from to state flight row its there obeys)

pub returns-clause-crossed_act : goal.returns-clause-crossed_act
returns-clause-crossed_act c = λ source lanes track world next line from to made state taken row its makes obeys.
    same_none (reason_words source.code (host_asking row.what)) row.ignored
    (c.row_laws.ensures.act_ignored source.code world next line from to made state taken row its makes obeys)

pub returns-clause-stacks : goal.returns-clause-stacks
returns-clause-stacks c = λ source lanes track world next said row its.
    shown_on_stack source.code (host_moved row.what) (stack_behind row.change track.stack) _ _ row.change its.change

pub returns-clause-told_all : goal.returns-clause-told_all
returns-clause-told_all c = λ source at last said is nothing ends.
    let all : length last.world.sent - 0 ≡ length last.world.sent = omega arith in
    all_told source (send_lanes source.rows) (first_tracks source.code) source.rows
    (c.row_laws.ensures.told source.code at last said source.rows is
    ∙ ap (λ (sent : List SentMessage). range_with_len (length sent) (length last.world.sent - length sent)) nothing
    ∙ ap (range_with_len 0) all ∙ ap (λ (world : WorldShape). range_with_len 0 (length world.sent)) ends)

pub returns-clause-acts_again : goal.returns-clause-acts_again
returns-clause-acts_again c = λ code bad from to made said.
    c.script_laws.ensures.said_again code bad (Act from to made) said

pub returns-clause-values : goal.returns-clause-values
returns-clause-values c = λ code world bad number field state there.
    ap (λ found. field.name ++ codes " = " ++ value_words found number field.size) there

pub returns-clause-kept : goal.returns-clause-kept
returns-clause-kept c = λ code world exposure number field exposed is.
    kept_exactly code world exposure number field exposed is
