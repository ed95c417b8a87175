use Rattle.run_sheet.proofs.stacks.+push_entries.Given as goal

-- fewer entries may be shown
abbrev pub decreases-push_entries : goal.decreases-push_entries
decreases-push_entries l = l.most
