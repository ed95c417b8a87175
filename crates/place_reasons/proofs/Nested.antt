-- What is found of a statement with blocks in it.
use Rattle.std.proofs.Common.{◌≡◌, sym, ap, ◌∙◌}
use Rattle.std.specs.Prelude.{ℕ, Option}
use Rattle.js_base.specs.declared.ids.FieldId.{FieldId}
use Rattle.jif_tree.specs.Trees.{Heading, ExprTree, BlockTree, branch, loop}
use Rattle.place_reasons.specs.declared.backed.Backed.{Backed}
use Rattle.place_reasons.specs.declared.told.Told.{Told}
use Rattle.place_reasons.specs.Firsts.{or_first}
use Rattle.place_reasons.specs.Reasons.{Site, own_told, block_told, own_backed, block_backed}
use Rattle.place_reasons.proofs.Firsts.{two_in_row, three_in_row}

pub branch_told : (site : Site) (wanted : FieldId) (f0 f1 f2 f3 : Option Told) (heading : Heading) (guard : ExprTree)
    (first second rest tree : BlockTree) → tree ≡ branch heading guard first second rest →
    f1 ≡ or_first f0 (own_told site wanted tree) → f2 ≡ or_first f1 (block_told site wanted first) →
    f3 ≡ or_first f2 (block_told site wanted second) →
    or_first f3 (block_told site wanted rest) ≡ or_first f0 (block_told site wanted tree)
branch_told site wanted f0 f1 f2 f3 heading guard first second rest tree is one two three =
    let told : BlockTree → Option Told = block_told site wanted in
    three_in_row f0 f1 f2 f3 (own_told site wanted tree) (told first) (told second) (told rest) one two three
    ∙ ap (λ t. or_first f0
    (or_first (own_told site wanted t) (or_first (told first) (or_first (told second) (told rest))))) is
    ∙ sym (ap (λ t. or_first f0 (told t)) is)

pub loop_told : (site : Site) (wanted : FieldId) (f0 f1 f2 : Option Told) (heading : Heading) (guard : ExprTree)
    (body rest tree : BlockTree) → tree ≡ loop heading guard body rest →
    f1 ≡ or_first f0 (own_told site wanted tree) → f2 ≡ or_first f1 (block_told site wanted body) →
    or_first f2 (block_told site wanted rest) ≡ or_first f0 (block_told site wanted tree)
loop_told site wanted f0 f1 f2 heading guard body rest tree is one two =
    let told : BlockTree → Option Told = block_told site wanted in
    two_in_row f0 f1 f2 (own_told site wanted tree) (told body) (told rest) one two
    ∙ ap (λ t. or_first f0 (or_first (own_told site wanted t) (or_first (told body) (told rest)))) is
    ∙ sym (ap (λ t. or_first f0 (told t)) is)

pub branch_backed : (site : Site) (principal : ℕ) (f0 f1 f2 f3 : Option Backed) (heading : Heading) (guard : ExprTree)
    (first second rest tree : BlockTree) → tree ≡ branch heading guard first second rest →
    f1 ≡ or_first f0 (own_backed site principal tree) → f2 ≡ or_first f1 (block_backed site principal first) →
    f3 ≡ or_first f2 (block_backed site principal second) →
    or_first f3 (block_backed site principal rest) ≡ or_first f0 (block_backed site principal tree)
branch_backed site principal f0 f1 f2 f3 heading guard first second rest tree is one two three =
    let backed : BlockTree → Option Backed = block_backed site principal in
    three_in_row f0 f1 f2 f3 (own_backed site principal tree) (backed first) (backed second) (backed rest) one two three
    ∙ ap (λ t. or_first f0
    (or_first (own_backed site principal t) (or_first (backed first) (or_first (backed second) (backed rest))))) is
    ∙ sym (ap (λ t. or_first f0 (backed t)) is)

pub loop_backed : (site : Site) (principal : ℕ) (f0 f1 f2 : Option Backed) (heading : Heading) (guard : ExprTree)
    (body rest tree : BlockTree) → tree ≡ loop heading guard body rest →
    f1 ≡ or_first f0 (own_backed site principal tree) → f2 ≡ or_first f1 (block_backed site principal body) →
    or_first f2 (block_backed site principal rest) ≡ or_first f0 (block_backed site principal tree)
loop_backed site principal f0 f1 f2 heading guard body rest tree is one two =
    let backed : BlockTree → Option Backed = block_backed site principal in
    two_in_row f0 f1 f2 (own_backed site principal tree) (backed body) (backed rest) one two
    ∙ ap (λ t. or_first f0 (or_first (own_backed site principal t) (or_first (backed body) (backed rest)))) is
    ∙ sym (ap (λ t. or_first f0 (backed t)) is)
