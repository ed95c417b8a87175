use Rattle.std.proofs.Common.{◌≡◌, ℕ, zero, suc, refl, sym, subst, inl, inr, List, [], ◌∷◌, Any, lit<, arith}
use Rattle.std.proofs.lemmas.List.Elements.{All-nil, All-cons}
use Rattle.js_base.specs.declared.ids.PrincipalId.{PrincipalId}
use Rattle.principals.specs.ActsFor.{outsider, LeadsTo, ActsFor}
use Rattle.label_lattice.specs.Label.{Forbids, Trusts}
use Rattle.label_lattice.specs.Lattice.{join_of, meet_of, bottom_of, empty_label}
use Rattle.jif_tree.specs.LabelRules.{Meets}
use Rattle.label_check.specs.RuleExamples.{only_alice, alice, secret, guarded_flow, release_trust}
use Rattle.label_check.specs.RuleExamples.{alice_and_bob, bob, endorsed_by_bob, trusted_only, outer_trust, inner_trust}
use Rattle.label_check.proofs.laws.rule_examples.Goals as goal

not_both : (bit : ℕ) → bit ≡ 0 → bit ≡ 1 → ⊥
not_both bit clear set = omega arith

forbidden : Forbids (join_of (bottom_of only_alice) (join_of empty_label (join_of secret (bottom_of only_alice)))) 0
    outsider
unfolding join_of bottom_of empty_label
forbidden = refl

allowed : ¬ Forbids empty_label 0 outsider
unfolding empty_label
allowed forbids = not_both 1 forbids refl

flow_fails : ¬ Meets only_alice guarded_flow
flow_fails flows = allowed (flows.0 0 outsider (lit< tt) (lit< tt) forbidden)

trust_fails : ¬ Meets only_alice release_trust
unfolding empty_label
trust_fails trusts = not_both 0 refl (trusts 0 alice (lit< tt))

-- no pair leads from Bob to Alice
not_for : (between : List ℕ) → ¬ LeadsTo [] 1 between 0
not_for [] same = omega arith
not_for (next ∷ between) leads = omega (arith, leads.0.1)

nobody_acts : ¬ Any (λ member. ActsFor alice_and_bob member.0 0) (bob ∷ [])
nobody_acts (zero, member, within, read, acts) =
    let leads = subst (λ one. ActsFor alice_and_bob one.0 0) (sym read) acts in
    not_for leads.0 leads.1
nobody_acts (suc k, member, within, read, acts) = absurd (omega (arith, within))

endorse_fails : ¬ Meets alice_and_bob endorsed_by_bob
unfolding empty_label
endorse_fails endorses = elim (endorses 0 (lit< tt) refl) [
  | inl trusts ↦ not_both 0 refl trusts
  | inr acts ↦ nobody_acts acts
]

alice_trusts : Meets only_alice outer_trust
alice_trusts =
    let P : PrincipalId → Type 0 = λ member. Trusts trusted_only member.0 in
    All-cons P alice [] refl (All-nil P)

inner_fails : ¬ Meets only_alice inner_trust
unfolding join_of meet_of bottom_of empty_label
inner_fails trusts = not_both 0 refl (trusts 0 alice (lit< tt))

pub returns : goal.returns
returns c = record {
  guarded = refl;
  guarded_fails = record {
    before = [];
    behind = [];
    place = refl;
    met = All-nil (Meets only_alice);
    fails = flow_fails;
  };
  released = refl;
  release_fails = trust_fails;
  called = refl;
  endorsed = λ authority. refl;
  endorse_fails = endorse_fails;
  looped = refl;
  outer_met = alice_trusts;
  inner_fails = inner_fails;
  loop_labels = refl;
  given_back = refl;
}
