use Rattle.std.proofs.Common.{◌≡◌, ◌<◌, ◌∙◌, ℕ, List, length, ap, sym, subst, arith, replicate, get_or}
use Rattle.std.specs.Prelude.{Some, slice_get, Option, None}
use Rattle.std.proofs.lemmas.List.{length-replicate}
use Rattle.std.proofs.lemmas.Option.{slice_get-get_or}
use Rattle.js_base.specs.declared.ids.HostId.{HostId}
use Rattle.js_base.specs.declared.ids.EntryId.{EntryId}
use Rattle.host_code.specs.declared.code.Entry.{Entry}
use Rattle.part_verify.specs.Bounds.{IsBounded, Found}
use Rattle.part_verify.proofs.Within.{all_set}
use Rattle.part_verify.proofs.Needs.{bounds_begin, none_passed, all_passed, passed_elsewhere, passed_here, refused_here}
use Rattle.part_verify.proofs.part.check_needs.Goals.{then-entry-me+in_ok-place+in_default, else-entry-me}
use Rattle.part_verify.proofs.part.check_needs.Goals as goal

abbrev host_of : ℕ → HostId
host_of number = record { 0 = number }

-- the entry by the number of the loop
found_at : (entries own : List Entry) (number : ℕ) (default : Entry) → entries ≡ own → number < length entries →
    slice_get own number ≡ Some (get_or entries number default)
found_at entries own number default same within =
    subst (λ (list : List Entry). slice_get list number ≡ Some (get_or entries number default)) same
    (slice_get-get_or entries number default within)

pub loop-number-init : goal.loop-number-init
loop-number-init c =
    let code = c.args.code.now in
    let ones : c.in_ok-bound.bound.items ≡ replicate c.args.count all_set = c.in_ok-bound.ensures in
    record {
      long = ap length ones ∙ length-replicate c.args.count all_set ∙ c.requires.count;
      bounds = subst (IsBounded code c.args.me) (sym ones) (bounds_begin code c.args.me c.args.count c.requires.count);
      passed = none_passed code c.args.me;
    }

pub returns-in-Some-clause-refused : goal.returns-in-Some-clause-refused
returns-in-Some-clause-refused c =
    let code = c.args.code.now in
    let number = c.loop-number.number in
    let entry = get_or c.entries-entries.result.now number _ in
    let found = found_at c.entries-entries.result.now code.entries number _ c.entries-entries.ensures.entries
    c.loop-number-test.true in
    let bound = c.weak_at.new.bound.items in
    let weak : Found code c.args.me entry.at entry.need (Some c.in-Some.place) bound =
    subst (λ (place : Option ℕ). Found code c.args.me entry.at entry.need place bound) c.in-Some.is
    c.in_ok-place.ensures.found in
    refused_here code c.args.me number entry found c.in-Some.place bound
    (λ same. let zero_is : number ≡ 0 = ap (λ (e : EntryId). e.0) same in omega (arith, zero_is, c.loop-number.auto.number))
    (ap host_of c.if-entry-me.true) weak c.loop-number.invariant.passed

pub loop-number-preserved : goal.loop-number-preserved
loop-number-preserved c =
    let code = c.args.code.now in
    let number = c.loop-number.number in
    let entry = get_or c.entries-entries.result.now number _ in
    let found = found_at c.entries-entries.result.now code.entries number _ c.entries-entries.ensures.entries
    c.loop-number-test.true in
    elim c.if-entry-me.branch [
      | then-entry-me+in_ok-place+in_default w ↦
          let bound = w.weak_at.new.bound.items in
          let kept : Found code c.args.me entry.at entry.need None bound =
          subst (λ (place : Option ℕ). Found code c.args.me entry.at entry.need place bound) w.in_default.is
          w.in_ok-place.ensures.found in
          rw w.bound-is (record {
            long = w.in_ok-place.ensures.long;
            bounds = kept.0;
            passed = passed_here code c.args.me number entry found bound kept c.loop-number.invariant.passed;
          })
      | else-entry-me w ↦ rw w.bound-is (record {
        long = c.loop-number.invariant.long;
        bounds = c.loop-number.invariant.bounds;
        passed = passed_elsewhere code c.args.me number entry found
            (λ same. w.if-entry-me.false (ap (λ (h : HostId). h.0) same)) c.loop-number.invariant.passed;
      })
    ]

pub returns-clause-kept : goal.returns-clause-kept
returns-clause-kept c =
    all_passed c.args.code.now c.args.me c.loop-number.number
    (omega (arith, c.loop-number-test.false, ap length c.entries-entries.ensures.entries)) c.loop-number.invariant.passed
