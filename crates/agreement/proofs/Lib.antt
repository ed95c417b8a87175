-- `Lists`: lists of which some elements are left out, and lists that are equal as far as both go
-- `Exits`: where it goes on behind loops whose guards may not be seen
-- `ViewLaws`: what is seen has one outcome, and what goes on unseen leaves it
-- `Places`: places that may not be seen, what is owed there, and what is set
-- `Steps`: from what one host leaves to the world, and what is in flight then
-- `Ends`: the ends of a step that goes on unseen: on the host, waiting, or with control handed over
-- `Turns`, `Transfers`, `Branches`, `GivesBack`: secret turns by their instructions; a branch and a token given back
--     may come into the open
-- `Takes`, `AnswersTaken`: secret takes by their messages
-- `HiddenTurns`, `HiddenTakes`, `HiddenEvents`: each secret event leads to the same view, and so does a row of them
-- `Starts`, `Quiet`: the first world leads to a view, worlds that start alike agree, and in a quiet world nothing goes
--     on unseen
-- `AnswersPass`: a secret answer passes its check
-- `Coming`, `ValueLaws`: for events that may be seen: a thread that comes to its place, and values of two threads
-- `SeenTurns`, `SeenOperations`, `SeenLeads`: turns that may be seen and change their host alone, by their
--     instructions, and what their world leads to
-- `SeenSendings`: what a world leads to after a turn that may be seen, leaves nothing running on its host and sends a
--     message
-- `SeenHandings`, `SeenAskings`: turns that may be seen and hand control over or ask another host, by their
--     instructions
-- `CarriedSame`, `SeenAgree`, `AskingsAgree`: in two worlds of one view they carry the same, and so they lead to one
--     view
-- `AnyTurns`: each turn is of one of the three kinds, and of no other
-- `Queues`, `AskedPlaces`: a message that is taken out of its queue; what is behind an instruction that asks another
--     host, and the thread that an answer wakes
-- `SeenTakes`, `TakesLead`, `TakesAgree`: takes that may be seen, by their messages, what their world leads to, and
--     that two worlds of one view lead to one view
-- `SeenActs`: the same of what misbehaving hosts make a host take
-- `ReleasedTurns`, `ReleasedRuns`: what turns and runs release by a table, and that an event releases as many values in
--     two worlds that agree
-- `RunsAgree`, `SplitRuns`: two runs of which the same is seen and released, event by event, and those of split
--     programs
-- `WorkedViews`, `AskingExamples`, `TakenWorked`, `ReleasedWorked`: small cases
pub mod Lists
pub mod Exits
pub mod ViewLaws
pub mod Steps
pub mod Places
pub mod Ends
pub mod Turns
pub mod Transfers
pub mod Branches
pub mod GivesBack
pub mod HiddenTurns
pub mod Takes
pub mod AnswersTaken
pub mod HiddenTakes
pub mod HiddenEvents
pub mod Quiet
pub mod WorkedViews
pub mod Starts
pub mod AnswersPass
pub mod ValueLaws
pub mod Coming
pub mod SeenTurns
pub mod SeenOperations
pub mod SeenLeads
pub mod SeenSendings
pub mod SeenHandings
pub mod CarriedSame
pub mod ReleasedTurns
pub mod SeenAskings
pub mod SeenAgree
pub mod AskingsAgree
pub mod AnyTurns
pub mod AskingExamples
pub mod Queues
pub mod AskedPlaces
pub mod SeenTakes
pub mod TakesLead
pub mod TakesAgree
pub mod SeenActs
pub mod TakenWorked
pub mod ReleasedRuns
pub mod ReleasedWorked
pub mod RunsAgree
pub mod SplitRuns
