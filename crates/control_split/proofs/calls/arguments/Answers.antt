use Rattle.std.proofs.Common.{arith, get_or, refl, length, ◌-◌, ◌≡◌, ◌∙◌, ◌∷◌, drop, sym, ap, List}
use Rattle.std.proofs.Math.Seq.{drop-cons}
use Rattle.std.proofs.lemmas.List.{length-drop, take_all}
use Rattle.js_base.specs.declared.ids.VarId.{VarId}
use Rattle.control_split.specs.Views.{walked_of}
use Rattle.control_split.proofs.Arguments.{none_left, one_argument}
use Rattle.control_split.proofs.calls.arguments.Goals as goal
use Rattle.control_split.proofs.calls.arguments.Goals.{in_default, in-len1-up+in_ok-argument}

pub loop-arg-preserved : goal.loop-arg-preserved
loop-arg-preserved c =
    let place = c.args.place.now in
    let none : VarId = record { 0 = 0 } in
    let param = get_or c.loop-arg.left.now 0 none in
    elim c.if-left-lt1.branch [
      | in_default w ↦
          none_left (walked_of c.args.walk.now) place.host c.args.home place.label.now place.statement _
          c.loop-arg.trace
          c.if-left-lt1.trace c.loop-arg.left.now c.if-left-lt1.left.now _ _ w.in_default.len_below (rw w.left-is refl)
          w.trace-is c.loop-arg.invariant
      | in-len1-up+in_ok-argument w ↦
          let more : c.if-left-lt1.left.now ≡ drop 1 c.loop-arg.left.now =
          rw w.left-is (take_all (length c.loop-arg.left.now - 1) (drop 1 c.loop-arg.left.now)
          (let long = length-drop 1 c.loop-arg.left.now in omega arith)) in
          one_argument (walked_of c.args.walk.now) place.host c.args.home place.label.now place.statement _
          c.loop-arg.trace
          c.if-left-lt1.trace c.loop-arg.left.now c.if-left-lt1.left.now param c.args.args.now c.loop-arg.arg-index
          c.arg-item.result
          (drop-cons c.loop-arg.left.now 0 none w.in-len1-up.len_at_least
          ∙ ap (λ (others : List VarId). param ∷ others) (sym more))
          c.loop-arg-test.true c.arg-item.is (w.trace-is ∙ w.in_ok-argument.ensures) c.loop-arg.invariant
    ]
