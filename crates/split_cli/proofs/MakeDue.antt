-- What is due for a program that is made is due for the command that makes it.
use Rattle.std.proofs.Common.{ℕ, [], inl, Result}
use Rattle.front_end.specs.declared.stop.Stop.{Stop}
use Rattle.front_end.specs.declared.verdict.Verdict.{Verdict}
use Rattle.split_words.specs.Commands.{Make}
use Rattle.split_cli.specs.Due.{IsDueForCommand, loaded}
use Rattle.front_end.specs.Loading.{EndsIn}
use Rattle.front_end.specs.Loads.{FilesChange, AreKept, LoadsWell}
use Rattle.split_cli.specs.Making.{DueForMake}
use Rattle.front_end.proofs.Stages.{ends_weaker}

pub made_due : (statements : ℕ) (files : FilesChange) (result : Result Verdict Stop) → LoadsWell 0 files →
    AreKept files → EndsIn (DueForMake statements) result → EndsIn (IsDueForCommand (Make statements) files) result
made_due statements files result loads kept ends =
    ends_weaker (DueForMake statements) (IsDueForCommand (Make statements) files) result
    (λ verdict due. inl (0, loaded verdict (record { bytes = []; told = tt; due = due }), loads, kept)) ends
