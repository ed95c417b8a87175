-- A program has needs.
use Rattle.std.proofs.Common.{ℕ, List, [], ◌∷◌, map, length, refl, arith}
use Rattle.std.specs.Prelude.{Any}
use Rattle.std.specs.List.{AllZip, flat_map, range_with_len}
use Rattle.js_base.proofs.Decisions.{Decided, any_of}
use Rattle.principals.specs.ActsFor.{Declared, ActsFor}
use Rattle.principals.proofs.Decisions.{acts_for}
use Rattle.label_lattice.proofs.Decisions.{trusts}
use Rattle.label_lattice.proofs.MadeLabels.{some_word}
use Rattle.need_labels.specs.Labelled.{Labelled}
use Rattle.need_labels.specs.Needs.{NeedsShape, AreNeedsOf, IsNeed, Backing, for_label, for_release, Backs, told_of}
use Rattle.need_labels.specs.Needs.{StatementUse, statement_uses, readers_of}

backs : (principals : Declared) (principal : ℕ) (part : Backing) → Decided (Backs principals principal part)
backs principals principal (for_label label) = trusts label principal
backs principals principal (for_release authority) =
    any_of (λ member. ActsFor principals member.0 principal) (λ member. acts_for principals member.0 principal)
    authority

-- the word of those who back
some_need : (principals : Declared) (backing : List Backing) → (need : ℕ) × IsNeed principals backing need
some_need principals backing =
    let made = some_word (λ p. Any (Backs principals p) backing)
    (λ p. any_of (Backs principals p) (backs principals p) backing) 64 (omega arith) in
    (made.word, record { word = made.small; members = λ p less. made.bits.before p less })

need_words : (principals : Declared) (uses : List StatementUse) →
    (words : List ℕ) × AllZip (λ one word. IsNeed principals one.backing word) uses words
need_words principals [] = ([], tt)
need_words principals (one ∷ uses) =
    let first = some_need principals one.backing in
    let rest = need_words principals uses in
    (first.0 ∷ rest.0, (first.1, rest.1))

pub some_needs : (principals : Declared) (labelled : Labelled) →
    (needs : NeedsShape) × AreNeedsOf principals labelled needs
some_needs principals labelled =
    let uses = statement_uses principals labelled in
    let words = need_words principals uses in (
      record {
        used = map (λ (one : StatementUse). one.used) uses;
        need = words.0;
        loc = map (told_of principals (flat_map (λ one. one.tellings) uses))
            (range_with_len 0 (length labelled.program.fields));
        readers = map (readers_of uses) (range_with_len 0 (length labelled.program.vars));
      },
      record { used = refl; need = words.1; loc = refl; readers = refl },
    )
