use Rattle.std.proofs.Common.{◌≡◌, ◌++◌, drop}
use Rattle.statement_texts.specs.Short as short
use Rattle.statement_texts.specs.declared.short.Place.TheVariants.{Apart}
use Rattle.statement_texts.proofs.short.unlabelled.Given as goal

-- what stays so far, and of the letters that are left, make the whole
abbrev pub invariant-loop-letter : goal.invariant-loop-letter
invariant-loop-letter l =
    l.kept.items ++ short.unlabelled l.place (drop l.letter-index l.letters) ≡ short.unlabelled Apart l.letters
