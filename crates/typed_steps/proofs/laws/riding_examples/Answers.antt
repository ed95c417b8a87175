use Rattle.typed_steps.proofs.RidingExamples as example
use Rattle.typed_steps.proofs.laws.riding_examples.Goals as goal

pub returns-clause-rides : goal.returns-clause-rides
returns-clause-rides c = example.rides

pub returns-clause-left_out : goal.returns-clause-left_out
returns-clause-left_out c =
    λ split c view to arrival first second rider is are riding.
    example.left_out split c view to arrival riding first second rider is are

pub returns-clause-none_left : goal.returns-clause-none_left
returns-clause-none_left c =
    λ split c view to arrival rider others is are riding.
    example.none_left split c view to arrival riding rider others is are

pub returns-clause-elsewhere : goal.returns-clause-elsewhere
returns-clause-elsewhere c =
    λ split c view to arrival forward is apart riding.
    example.elsewhere split c view to arrival riding forward is apart

pub returns-clause-other_value : goal.returns-clause-other_value
returns-clause-other_value c =
    λ split c view to arrival x value are apart unaffected riding.
    example.other_value split c view to arrival riding x value are apart unaffected

pub returns-clause-other_frame : goal.returns-clause-other_frame
returns-clause-other_frame c =
    λ split c view to arrival apart riding. example.other_frame split c view to arrival riding apart
