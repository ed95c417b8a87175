-- A comparison of a program that releases nothing never says that two runs differ.
use Rattle.std.proofs.Common.{◌≡◌, ◌∙◌, ℕ, List, Option, Some, sym, subst}
use Rattle.js_base.specs.declared.status.Status.TheVariants.{Done, Differ}
use Rattle.split_shades.specs.Sites.{ReleasesNothing}
use Rattle.front_end.specs.PlacedSources.{PlacedSource, PlacedSources}
use Rattle.front_end.specs.Stages.{given}
use Rattle.front_end.specs.Verdicts.{Print}
use Rattle.front_end.proofs.Stages.{IsOne, give}
use Rattle.split_words.specs.Commands.{Compare, words_of}
use Rattle.split_cli.specs.Due.{Due}
use Rattle.split_cli.proofs.Compared.{PrivateLaws, compare_is_private}
use Rattle.split_cli.proofs.Faithful.{AllLaws}

pub same_bytes : (one other : List ℕ) → Some one ≡ Some other → one ≡ other
same_bytes one other same = cc

same_placed : (one other : PlacedSource) → give one ≡ give other → one ≡ other
same_placed one other same = cc

pub done_differs : Differ ≡ Done → ⊥
done_differs same = cc

pub never_differs : AllLaws → PrivateLaws → ((program hosts : List ℕ) → IsOne (PlacedSources program hosts)) →
    (program hosts one other p h : List ℕ) (holds : List ℕ → Option (List ℕ)) (number : ℕ) (text : List ℕ)
    (placed : PlacedSource) → holds program ≡ Some p → holds hosts ≡ Some h → PlacedSources p h (given placed) →
    ReleasesNothing placed.source.tree →
    ¬ Due (words_of (Compare program hosts one other)) (Some holds) number (Print Differ text)
never_differs sets laws once program hosts one other p h holds number text placed told_p told_h accepted silent due =
    let it = compare_is_private sets laws program hosts one other (Some holds) number Differ text due in
    let same_p : it.program_bytes ≡ p = same_bytes it.program_bytes p (sym it.program_told ∙ told_p) in
    let same_h : it.hosts_bytes ≡ h = same_bytes it.hosts_bytes h (sym it.hosts_told ∙ told_h) in
    let also : PlacedSources p h (given it.is.placed) =
    subst (λ (bytes : List ℕ). PlacedSources bytes h (given it.is.placed)) same_p
    (subst (λ (bytes : List ℕ). PlacedSources it.program_bytes bytes (given it.is.placed)) same_h
    it.is.is_placed.accepted) in
    let same : it.is.placed ≡ placed =
    same_placed it.is.placed placed (once p h (given it.is.placed) (given placed) also accepted) in
    done_differs
    (it.is.never_differs (subst (λ (there : PlacedSource). ReleasesNothing there.source.tree) (sym same) silent))
