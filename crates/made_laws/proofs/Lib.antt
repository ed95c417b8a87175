-- `MadeTokens`: the text as spellings of tokens that stand apart, and how long it is at most
-- `MadeLimits`: the phrases that these tokens are, within the limits
-- `HostFile`, `MadeHosts`: the host file as a TOML document, by computation, and the hosts that it says
-- `MadeLabels`: the three labels of the program: what they are made of, and that the label which both trust adds
--     nothing to a join
-- `MadeTrees`: the tree, whose labels keep the rules
-- `MadeDrafts`: the draft, without faults, whose names stand for this tree. `lines` has the line of each token, and
--     nothing depends on it
-- `MadePlaces`: what each part tells and needs is of one label, and the host of this label may hold it
-- `MadeRuns`: a body of statements that set fields takes a step for each
-- `Making`: all of it for one number of statements
mod HostFile
mod MadeTokens
mod MadeLimits
mod MadeLabels
mod MadeTrees
mod MadeRuns
mod MadeHosts
mod MadeDrafts
mod MadePlaces
mod Making
