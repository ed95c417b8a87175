use Rattle.std.proofs.Common.{rules, List, ◌≡◌, ◌<◌, ◌∙◌, ℕ, [], ◌∷◌, ◌++◌, length, ap, subst, slice_index, bit_and, get_or, not, arith}
use Rattle.std.specs.Prelude.{Some, slice_get}
use Rattle.std.proofs.lemmas.List.{length-set}
use Rattle.std.proofs.lemmas.Option.{slice_get-get_or}
use Rattle.js_base.specs.Bits.{BitsWithin}
use Rattle.host_code.specs.declared.instruction.Instr.{Instr}
use Rattle.host_code.specs.Code.{instruction_at}
use Rattle.part_verify.specs.SoundPart.{NamesWithin}
use Rattle.part_verify.proofs.Walks.{IsWalk, skips, visits, ends, visit_ends, not_so, is_so}
use Rattle.part_verify.proofs.weak.weak_at.Goals as goal

-- a bound that is open at a place
abbrev IsOpenAt : ℕ → ℕ → List ℕ → Type 0
IsOpenAt place need bound = (place < length bound) × (¬ BitsWithin (slice_index bound place) need)

pub loop-place-smaller-in-Continue-branch-2 : goal.loop-place-smaller-in-Continue-branch-2
loop-place-smaller-in-Continue-branch-2 c =
    let bound = c.loop-place.bound.items in
    let place = c.in-Some.place in
    let one = get_or c.part-part.result.now place c.index-part-place.result in
    let opens = subst (IsOpenAt place c.args.need) c.deref.ensures.value (c.is_open.ensures.open c.if-is_open.true) in
    visit_ends c.args.need bound place one.op c.pop.new.self.items c.lower.new.bound.items c.push_on.new.work.items
    c.loop-place.work.items opens.0 opens.1 c.lower.ensures c.in_ok-push_on.ensures c.in-Some.ensures.items

pub loop-place-preserved-in-Continue-branch-2 : goal.loop-place-preserved-in-Continue-branch-2
loop-place-preserved-in-Continue-branch-2 c =
    let bound = c.loop-place.bound.items in
    let place = c.in-Some.place in
    let code = c.args.code.now in
    let need = c.args.need in
    let one = get_or c.part-part.result.now place c.index-part-place.result in
    let told = c.names_within-counts.result in
    let opens = subst (IsOpenAt place need) c.deref.ensures.value (c.is_open.ensures.open c.if-is_open.true) in
    let there : instruction_at code c.args.me place ≡ Some one =
    subst (λ (list : List Instr). slice_get list place ≡ Some one) c.part-part.ensures
    (slice_get-get_or c.part-part.result.now place c.index-part-place.result
    (omega (arith, opens.0, c.loop-place.invariant.0, ap length c.part-part.ensures))) in
    let work : IsWalk code c.args.me c.args.at need bound (c.pop.new.self.items ++ place ∷ []) c.loop-place.least =
    subst (λ (list : List ℕ). IsWalk code c.args.me c.args.at need bound list c.loop-place.least)
    c.in-Some.ensures.items c.loop-place.invariant.1 in
    rw c.lower.ensures (
      length-set bound place (bit_and (slice_index bound place) need) ∙ c.loop-place.invariant.0,
      rw (c.lesser-least.ensures, c.in_ok-push_on.ensures)
          (visits code c.args.me c.args.at need bound c.pop.new.self.items place c.loop-place.least one (not told)
          opens.0 there (not_so told (NamesWithin code need one.op) c.names_within-counts.ensures)
          (is_so told (NamesWithin code need one.op) c.names_within-counts.ensures) work),
    )

pub loop-place-preserved : goal.loop-place-preserved
loop-place-preserved c =
    let bound = c.loop-place.bound.items in
    let place = c.in-Some.place in
    let closed = subst (λ (list : List ℕ). BitsWithin (slice_index list place) c.args.need) c.deref.ensures.value
    (c.is_open.ensures.closed c.if-is_open.false) in (
      c.loop-place.invariant.0,
      skips c.args.code.now c.args.me c.args.at c.args.need bound c.pop.new.self.items place c.loop-place.least closed
          (subst (λ (list : List ℕ). IsWalk c.args.code.now c.args.me c.args.at c.args.need bound list c.loop-place.least)
          c.in-Some.ensures.items c.loop-place.invariant.1),
    )

pub returns-clause-found : goal.returns-clause-found
returns-clause-found c =
    let empty : c.loop-place.work.items ≡ [] = search rules in
    ends c.args.code.now c.args.me c.args.at c.args.need c.loop-place.bound.items c.loop-place.least
    (subst (λ (list : List ℕ). IsWalk c.args.code.now c.args.me c.args.at c.args.need c.loop-place.bound.items list
    c.loop-place.least) empty c.loop-place.invariant.1)
