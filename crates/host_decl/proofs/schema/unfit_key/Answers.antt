use Rattle.std.proofs.Common.{◌≡◌, [], true, false, ap, sym, subst, ◌∙◌, string_bytes}
use Rattle.std.proofs.lemmas.Map.Iter.{btree_map_turn, rest_more, rest_all}
use Rattle.std.specs.Map.Iter.{deref_pair}
use Rattle.std.specs.String.{string_cmp_total}
use Rattle.std.specs.List.{find}
use Rattle.toml.specs.View.{view, table_view}
use Rattle.host_decl.specs.Schema.{is_unfit, HoldsUnfit, IsLeast}
use Rattle.host_decl.proofs.BadKeys.{holds_unfit, key_bytes, entry_is_held, unfit_at, found_here, passed_here}
use Rattle.host_decl.proofs.BadKeys.{least_unfit, none_unfit}
use Rattle.host_decl.proofs.schema.unfit_key.Goals as goal

pub returns-then-is_unfit-clause-some : goal.returns-then-is_unfit-clause-some
returns-then-is_unfit-clause-some c =
    let turn = btree_map_turn deref_pair c.loop-key.yielded _ _ _ _
    (c.in-Some.key, c.in-Some.value) c.loop-key.yielded_by c.in-Some.is c.next.ensures.steps string_cmp_total
    c.args.table.now c.into_iter-key-iterator.ensures.into_iter_gives.0
    c.into_iter-key-iterator.ensures.into_iter_gives.5 in
    let held = entry_is_held c.in-Some.key.now c.in-Some.value.now c.args.table.now.entries turn.1 in
    let left = rest_more deref_pair c.loop-key.key-iterator c.next.new.self c.next.result
    (c.in-Some.key, c.in-Some.value) c.in-Some.is c.next.ensures.steps in
    let is : is_unfit c.args.kind (string_bytes c.in-Some.key.now) (view c.in-Some.value.now) ≡ true =
    ap (λ key. is_unfit c.args.kind key (view c.in-Some.value.now)) (sym c.as_str.ensures.value)
    ∙ sym c.is_unfit.ensures ∙ c.if-is_unfit.true in
    let unfit = unfit_at c.args.kind c.args.table.now.entries (string_bytes c.in-Some.key.now)
    (view c.in-Some.value.now) true held is in
    let found = found_here
    (holds_unfit c.args.kind (table_view c.args.table.now)) c.loop-key.key-iterator c.next.new.self
    (c.in-Some.key.now, c.in-Some.value.now) left unfit in
    subst (IsLeast (HoldsUnfit c.args.kind (table_view c.args.table.now))) (sym c.as_str-then-is_unfit.ensures.value)
    (least_unfit c.args.kind c.args.table.now.entries
    (string_bytes c.in-Some.key.now) c.into_iter-key-iterator.ensures.into_iter_gives.5 (sym c.loop-key.invariant
    ∙ found))

pub loop-key-preserved : goal.loop-key-preserved
loop-key-preserved c =
    let turn = btree_map_turn deref_pair c.loop-key.yielded _ _ _ _
    (c.in-Some.key, c.in-Some.value) c.loop-key.yielded_by c.in-Some.is c.next.ensures.steps string_cmp_total
    c.args.table.now c.into_iter-key-iterator.ensures.into_iter_gives.0
    c.into_iter-key-iterator.ensures.into_iter_gives.5 in
    let held = entry_is_held c.in-Some.key.now c.in-Some.value.now c.args.table.now.entries turn.1 in
    let left = rest_more deref_pair c.loop-key.key-iterator c.next.new.self c.next.result
    (c.in-Some.key, c.in-Some.value) c.in-Some.is c.next.ensures.steps in
    let is : is_unfit c.args.kind (string_bytes c.in-Some.key.now) (view c.in-Some.value.now) ≡ false =
    ap (λ key. is_unfit c.args.kind key (view c.in-Some.value.now)) (sym c.as_str.ensures.value)
    ∙ sym c.is_unfit.ensures ∙ c.if-is_unfit.false in
    let fit = unfit_at c.args.kind c.args.table.now.entries (string_bytes c.in-Some.key.now)
    (view c.in-Some.value.now) false held is in
    passed_here (holds_unfit c.args.kind (table_view c.args.table.now)) c.loop-key.key-iterator c.next.new.self
    (c.in-Some.key.now, c.in-Some.value.now) left fit ∙ c.loop-key.invariant

pub returns-clause-none : goal.returns-clause-none
returns-clause-none c =
    let over : c.loop-key.key-iterator ≡ [] = rest_all deref_pair _ _ _ c.in-None.is c.next.ensures.steps in
    none_unfit c.args.kind c.args.table.now.entries (sym c.loop-key.invariant
    ∙ ap (λ left. find (holds_unfit c.args.kind (table_view c.args.table.now)) (key_bytes left)) over)
