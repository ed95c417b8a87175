-- What a table of shades says of the entries and instructions of small programs, and what may be pushed in one.
use Rattle.std.proofs.Common.{◌≡◌, ◌∙◌, ℕ, zero, suc, ◌<◌, ◌⊎◌, inl, inr, List, [], ◌∷◌, Bool, true, false, refl, ap}
use Rattle.std.proofs.Common.{subst, arith}
use Rattle.std.specs.Prelude.{Option, Some, None, slice_get, slice_index_or}
use Rattle.js_base.specs.declared.ids.HostId.{HostId}
use Rattle.js_base.specs.declared.ids.StmtId.{StmtId}
use Rattle.label_lattice.specs.Lattice.{join_of}
use Rattle.jif_tree.specs.Trees.{BlockTree, done, branch, scalar, MethodTree}
use Rattle.host_code.specs.declared.code.Entry.{Entry}
use Rattle.host_code.specs.Code.{CodeShape}
use Rattle.entry_check.specs.Checks.{label_at}
use Rattle.split_rules.specs.Positions.{IsStatementOfMethod}
use Rattle.split_rules.specs.Worked.{field_id, heading, statement_id}
use Rattle.split_rules.proofs.TypedSplit.{same_there}
use Rattle.split_shades.specs.Carried.{IsInside, IsBehindCall, IsPushedFor}
use Rattle.split_shades.specs.ShadedCode.{Shades, IsShadedCode}
use Rattle.split_shades.specs.Shades.{Shade, EntryShade, Ahead}
use Rattle.split_shades.specs.Shading.{Scene, NamesInShade, PushesAt, PushesInShade}
use Rattle.split_shades.specs.Worked.{branching, branching_basis, elsewhere, outer}

-- whatever pushes an entry names it
at_names : (entries : List EntryShade) (guard : Option ℕ) (shade : Shade) (number : ℕ) (next : Ahead) →
    PushesAt guard entries shade number next → NamesInShade entries shade number
at_names entries None shade number next pushes = pushes.0
at_names entries (Some guard) shade number next pushes = pushes.0

push_names : (scene : Scene) (entries : List EntryShade) (me : HostId) (calls : Bool) (shade : Shade) (number : ℕ)
    (next : Ahead) → PushesInShade scene entries me calls shade number next → NamesInShade entries shade number
push_names scene entries me false shade number next pushes = at_names entries shade.guard shade number next pushes
push_names scene entries me true shade number next pushes = pushes.names

-- it is pushed under the program label of that instruction
pub pushed_under : (scene : Scene) (shades : Shades) (me : HostId) (place number : ℕ) (next : Ahead)
    (it : EntryShade) → slice_get shades.entries number ≡ Some it →
    PushesInShade scene shades.entries me (shades.at me place).calls (shades.at me place) number next →
    it.pushed ≡ Some (shades.at me place).pc
pushed_under scene shades me place number next it is pushes =
    let names = push_names scene shades.entries me (shades.at me place).calls (shades.at me place) number next pushes in
    ap (λ one. one.pushed) (same_there shades.entries number it names.it is names.is) ∙ names.pushed

-- an entry of the code has this label
pub label_there : (scene : Scene) (code : CodeShape) (shades : Shades) → IsShadedCode scene code shades → (number : ℕ)
    (entry : Entry) (it : EntryShade) → slice_get code.entries number ≡ Some entry →
    slice_get shades.entries number ≡ Some it → label_at code entry.label ≡ Some it.label
label_there scene code shades shaded number entry it is there =
    let own = shaded.entries number entry is in
    own.label_is ∙ ap (λ one. Some one.label) (same_there shades.entries number own.it it own.is there)

-- ---- what is pushed for a branch

-- the only statements of that program
abbrev branch_there : BlockTree
branch_there = branch (heading 1) (scalar (field_id 0)) elsewhere done done

one_of_both : (place : ℕ) (found statement : BlockTree) →
    slice_index_or (branch_there ∷ elsewhere ∷ []) place found ≡ found → place < 2 → found ≡ statement →
    (branch_there ≡ statement) ⊎ (elsewhere ≡ statement)
one_of_both zero found statement is within same = inl (is ∙ same)
one_of_both (suc zero) found statement is within same = inr (is ∙ same)
one_of_both (suc (suc place)) found statement is within same = absurd (omega arith)

branch_or_inside : (method : ℕ) (statement : BlockTree) →
    IsStatementOfMethod branching.program (record { 0 = method }) statement →
    (branch_there ≡ statement) ⊎ (elsewhere ≡ statement)
branch_or_inside zero statement there = one_of_both there.0 there.1 statement there.3 there.2 there.4
branch_or_inside (suc method) statement there = absurd there

-- the head of its method has another number
head_apart : (place : ℕ) (tree : MethodTree) → slice_get branching.program.methods place ≡ Some tree →
    tree.head ≡ statement_id 1 → ⊥
head_apart zero tree is same =
    let number : 0 ≡ 1 = ap (λ (one : MethodTree). one.head.0) (got is) ∙ ap (λ (id : StmtId). id.0) same in
    omega (arith, number)
  where
    got : {one : MethodTree} → Some one ≡ Some tree → one ≡ tree
    got so = cc
head_apart (suc place) tree is same = absurd (cc)

apart_trust : (one other : ℕ) → one ≡ 3 → other ≡ 1 → one ≡ other → ⊥
apart_trust one other is_three is_one same = omega (arith, is_one, is_three, same)

pub not_pushed : IsPushedFor branching_basis (statement_id 1) outer → ⊥
unfolding join_of
not_pushed pushed = elim pushed [
  | inl block ↦ elim block [
    | inl own ↦ head_apart own.0 own.1 own.2 own.3
    | inr inside ↦ elim (branch_or_inside inside.1.0.0 inside.0 inside.1.1) [
      | inl same ↦ subst P same (λ within. apart_trust 3 1 refl refl (ap (λ label. label.trust) within)) inside.3
      | inr same ↦ subst P same (λ within. within) inside.3
    ]
  ]
  | inr called ↦ elim (branch_or_inside called.1.0.0 called.0 called.1.1) [
    | inl same ↦ subst Q same (λ behind. behind) called.3
    | inr same ↦ subst Q same (λ behind. behind) called.3
  ]
]
  where
    P : BlockTree → Type 0
    P statement = IsInside branching_basis statement outer → ⊥

    Q : BlockTree → Type 0
    Q statement = IsBehindCall branching_basis statement outer → ⊥
