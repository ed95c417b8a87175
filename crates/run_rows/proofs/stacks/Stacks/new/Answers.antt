-- The next host has its stack.
use Rattle.std.proofs.Common.{◌≡◌, ◌∙◌, ◌+◌, ℕ, List, [], ◌∷◌, ◌++◌, length, map, reverse, ap, sym, Vec, Global}
use Rattle.std.proofs.Common.{length-append}
use Rattle.std.proofs.lemmas.List.{map_push}
use Rattle.js_base.specs.declared.ids.HostId.{HostId}
use Rattle.js_base.specs.declared.ids.EntryId.{EntryId}
use Rattle.run_rows.specs.Stacks.{first_stack, stack_at}
use Rattle.run_rows.proofs.StackLists.{stack_more}
use Rattle.run_rows.proofs.stacks.Stacks.new.Goals as goal

abbrev top_first : Vec EntryId Global → List EntryId
top_first stack = reverse stack.items

pub loop-number-preserved : goal.loop-number-preserved
loop-number-preserved c =
    let code = c.args.code.now in
    let before = map top_first c.loop-number.stacks.items in
    let one = c.in_ok-first_of.field-0 in
    let same : map top_first c.push.new.self.items ≡ before ++ top_first one ∷ [] =
    ap (map top_first) c.in_ok-push.ensures.items ∙ map_push top_first c.loop-number.stacks.items one in
    record {
      count = ap length same ∙ length-append before (top_first one ∷ [])
          ∙ ap (λ (n : ℕ). n + 1) c.loop-number.invariant.count;
      first = λ host within.
          ap (λ (stacks : List (List EntryId)). stack_at stacks host) same
          ∙ stack_more before (top_first one) c.loop-number.number (first_stack code) c.loop-number.invariant.count
          c.loop-number.invariant.first
          (λ other at. c.in_ok-first_of.ensures
          ∙ ap (λ (n : ℕ). let it : HostId = record { 0 = n } in first_stack code it) (sym at)) host within;
    }
