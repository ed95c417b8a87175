use Rattle.std.proofs.Common.{◌≡◌, ◌∙◌, ℕ, refl, ap, sym, arith}
use Rattle.std.specs.Prelude.{Option, unwrap_or, [], ◌∷◌, slice_get}
use Rattle.std.specs.Option.{option_map}
use Rattle.label_lattice.specs.declared.label.Label.{Label}
use Rattle.label_lattice.specs.Label.{ConfFlows}
use Rattle.label_lattice.specs.Lattice.{join_of}
use Rattle.msg_cost.specs.Moves.{is_trusted_by}
use Rattle.split_rules.specs.Worked.{host_id}
use Rattle.split_shades.specs.Shading.{HandsOn}
use Rattle.split_shades.specs.Worked.{branching, looping, scene_on, code_on, outer, secret, shade_under, entry_under}
use Rattle.split_shades.proofs.WorkedShades.{pushed_under, label_there, not_pushed}
use Rattle.split_shades.proofs.laws.worked_laws.Goals as goal

pub returns-clause-branch_entries : goal.returns-clause-branch_entries
unfolding is_trusted_by join_of
returns-clause-branch_entries c = refl

pub returns-clause-branch_words : goal.returns-clause-branch_words
unfolding is_trusted_by join_of
returns-clause-branch_words c = refl

pub returns-clause-branch_elsewhere : goal.returns-clause-branch_elsewhere
unfolding is_trusted_by join_of
returns-clause-branch_elsewhere c = refl

pub returns-clause-loop_entries : goal.returns-clause-loop_entries
unfolding is_trusted_by join_of
returns-clause-loop_entries c = refl

pub returns-clause-loop_words : goal.returns-clause-loop_words
unfolding is_trusted_by join_of
returns-clause-loop_words c = refl

pub returns-clause-in_index : goal.returns-clause-in_index
returns-clause-in_index c = refl

pub returns-clause-by_read : goal.returns-clause-by_read
returns-clause-by_read c = refl

-- the word of those who trust a label, where there is one
abbrev word : Option Label → ℕ
word found = unwrap_or (option_map (λ label. label.trust) found) 0

-- the words of both labels
apart_words : (one other : ℕ) → one ≡ 1 → other ≡ 3 → one ≡ other → ⊥
apart_words one other is_one is_three same = omega (arith, is_one, is_three, same)

pub returns-clause-join : goal.returns-clause-join
unfolding is_trusted_by join_of
returns-clause-join c shades it shaded is own =
    let push = shaded.instructions (host_id 0) 0 _ refl in
    let pushed = pushed_under (scene_on branching) shades (host_id 0) 0 2 push.law.0 it is push.law.1.1 in
    let entry = label_there (scene_on branching) (code_on branching) shades shaded 2 _ it refl is in
    apart_words 1 3 refl refl (ap word entry ∙ sym (ap word (push.label_is ∙ sym pushed ∙ own)))

pub returns-clause-pushed_inside : goal.returns-clause-pushed_inside
returns-clause-pushed_inside c = not_pushed

pub returns-clause-head : goal.returns-clause-head
unfolding is_trusted_by join_of
returns-clause-head c shades it shaded is own =
    let push = shaded.instructions (host_id 0) 2 _ refl in
    let pushed = pushed_under (scene_on looping) shades (host_id 0) 2 2 push.law.0 it is push.law.1.1 in
    apart_words 1 3 refl refl (ap word (push.label_is ∙ sym pushed ∙ own))

pub returns-clause-segment : goal.returns-clause-segment
unfolding is_trusted_by join_of
returns-clause-segment c shades it shaded is own =
    let entry = label_there (scene_on branching) (code_on branching) shades shaded 3 _ it refl is in
    apart_words 1 3 refl refl (ap word entry ∙ ap (λ label. label.trust) own)

pub returns-clause-guard_apart : goal.returns-clause-guard_apart
unfolding is_trusted_by join_of
returns-clause-guard_apart c shades shaded own =
    let read = shaded.instructions (host_id 0) 0 _ refl in
    apart_words 1 3 refl refl (ap word read.label_is ∙ ap (λ label. label.trust) own)

pub returns-clause-index_told : goal.returns-clause-index_told
unfolding join_of
returns-clause-index_told c same = apart_words 1 3 refl refl (ap (λ label. label.trust) same)

pub returns-clause-rides : goal.returns-clause-rides
returns-clause-rides c there first =
    let seen : ConfFlows outer outer = λ owner reader own read forbidden. forbidden in
    let hands : HandsOn (entry_under outer ∷ []) (shade_under outer) there.0 = record {
      it = entry_under outer;
      is = ap (slice_get (entry_under outer ∷ [])) first;
      level = refl;
      block = refl;
    } in
    (((refl, refl), refl, refl, hands, seen), ((seen, seen), tt))

-- what the first principal lets no other read, all may not see
no_bit : (bit : ℕ) → bit ≡ 1 → bit ≡ 0 → ⊥
no_bit bit is_one is_zero = omega (arith, is_one, is_zero)

apart_rows : ConfFlows secret outer → ⊥
apart_rows flows = no_bit _ refl (flows 0 1 (omega arith) (omega arith) refl)

pub returns-clause-rides_unseen : goal.returns-clause-rides_unseen
returns-clause-rides_unseen c entries there ends = apart_rows ends.1.0.1

pub returns-clause-rides_unseen_there : goal.returns-clause-rides_unseen_there
returns-clause-rides_unseen_there c entries there ends = apart_rows ends.1.0.1

pub returns-clause-rides_low : goal.returns-clause-rides_low
returns-clause-rides_low c rides = apart_rows rides.0.0
