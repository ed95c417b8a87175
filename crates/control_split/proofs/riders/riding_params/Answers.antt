use Rattle.std.proofs.Common.{◌≡◌, ◌∙◌, Bool, Vec, Global, List, [], ◌∷◌, ◌++◌, if◌then◌else◌, ap, sym, arith}
use Rattle.std.proofs.Common.{append_assoc, append-nil, add-one, ◌+◌, suc, refl, slice_index_or}
use Rattle.js_base.specs.declared.ids.VarId.{VarId}
use Rattle.control_split.specs.Views.{planned_in}
use Rattle.control_split.proofs.Ridden.{left_from, first_left, none_left}
use Rattle.control_split.proofs.riders.riding_params.Goals as goal
use Rattle.control_split.proofs.riders.riding_params.Goals.{then-rides_to+in_ok-push, else-rides_to}

pub loop-place-preserved : goal.loop-place-preserved
loop-place-preserved c =
    let planned = planned_in c.args.split.now in
    let host = c.args.host in
    let home = c.args.home in
    let params = c.args.params.now in
    let args = c.args.args.now in
    let place = c.loop-place.place in
    let so_far = c.loop-place.riders.items in
    let none : VarId = record { 0 = 0 } in
    let param = slice_index_or params place none in
    let left = left_from planned host home params args (place + 1) in
    let count = c.min-count.ensures in
    let first = first_left planned host home params args place param none (omega (arith, c.loop-place-test.true, count))
    (omega (arith, c.loop-place-test.true, count)) refl in
    let one : Bool → List VarId = λ b. if b then param ∷ [] else [] in
    let rides : left_from planned host home params args place ≡ one c.rides_to.result ++ left =
    first ∙ ap (λ some. some ++ left_from planned host home params args (suc place)) (sym c.rides_to.ensures)
    ∙ ap (λ at. one c.rides_to.result ++ left_from planned host home params args at) (sym (add-one place)) in
    let items : (one other : Vec VarId Global) → one ≡ other → one.items ≡ other.items =
    λ one other same. ap (λ (some : Vec VarId Global). some.items) same in
    let whole = sym (ap (λ more. so_far ++ more) rides) ∙ c.loop-place.invariant in
    elim c.if-rides_to.branch [
      | then-rides_to+in_ok-push w ↦
          ap (λ some. some ++ left) (items _ _ w.riders-is ∙ w.in_ok-push.ensures.items)
          ∙ append_assoc so_far (param ∷ []) left
          ∙ sym (ap (λ b. so_far ++ (one b ++ left)) w.if-rides_to.true) ∙ whole
      | else-rides_to w ↦
          ap (λ some. some ++ left) (items _ _ w.riders-is)
          ∙ sym (ap (λ b. so_far ++ (one b ++ left)) w.if-rides_to.false) ∙ whole
    ]

pub returns : goal.returns
returns c =
    let planned = planned_in c.args.split.now in
    let none = none_left planned c.args.host c.args.home c.args.params.now c.args.args.now c.loop-place.place
    (let count = c.min-count.ensures in omega (arith, count, c.loop-place-test.false)) in
    sym (append-nil c.loop-place.riders.items) ∙ sym (ap (λ more. c.loop-place.riders.items ++ more) none)
    ∙ c.loop-place.invariant
