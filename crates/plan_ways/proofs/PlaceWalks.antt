-- The ways at one more place.
use Rattle.std.proofs.Common.{◌≡◌, List, ◌++◌, Option, Some, None, ap, sym, ◌∙◌}
use Rattle.std.proofs.lemmas.List.{append-nil}
use Rattle.host_code.specs.declared.instruction.Instr.{Instr}
use Rattle.plan_ways.specs.Ends.{kept}
use Rattle.plan_ways.specs.Ways.{SheetShape, asked_by, given_by, instruction_ways}
use Rattle.plan_ways.specs.declared.ends.Way.{Way}
use Rattle.plan_ways.specs.declared.stands.Place.{Place}
use Rattle.plan_ways.proofs.WayWalks.{two_pieces}

pub nothing_there : (sheet : SheetShape) (place : Place) (found : Option Instr) (ways : List Way) → found ≡ None →
    ways ≡ ways ++ instruction_ways sheet place found
nothing_there sheet place found ways is =
    sym (append-nil ways) ∙ ap (λ (f : Option Instr). ways ++ instruction_ways sheet place f) (sym is)

pub something_there : (sheet : SheetShape) (place : Place) (found : Option Instr) (instruction : Instr)
    (asked : Option Way) (start between made : List Way) → found ≡ Some instruction →
    asked ≡ asked_by sheet place instruction → between ≡ start ++ kept asked →
    made ≡ between ++ given_by sheet place instruction → made ≡ start ++ instruction_ways sheet place found
something_there sheet place found instruction asked start between made is asked_is one two =
    two_pieces start (kept (asked_by sheet place instruction)) (given_by sheet place instruction) between made
    (one ∙ ap (λ (way : Option Way). start ++ kept way) asked_is) two
    ∙ ap (λ (f : Option Instr). start ++ instruction_ways sheet place f) (sym is)
