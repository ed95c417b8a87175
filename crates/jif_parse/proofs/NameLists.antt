-- Names joined by commas.
use Rattle.std.proofs.Common.{◌≡◌, ℕ, ◌≤◌, List, [], ◌∷◌, ◌++◌, length, map, refl, ap, sym, subst, ◌∙◌, arith}
use Rattle.std.proofs.Common.{◌⊎◌}
use Rattle.std.specs.Prelude.{⊤}
use Rattle.std.proofs.lemmas.List.{map-append}
use Rattle.js_base.specs.declared.limits.TheConstants.{NESTING}
use Rattle.jif_lex.specs.declared.token.Symbol.TheVariants.{Comma}
use Rattle.label_lattice.specs.Written.{symbol, names_tokens}
use Rattle.jif_grammar.specs.Due.{a_name}
use Rattle.jif_grammar.specs.Nesting.{Nested, nested_at}
use Rattle.jif_grammar.specs.Unmarked.{name_then}
use Rattle.jif_grammar.specs.DraftShapes.{NameShape, name_shape}
use Rattle.jif_grammar.specs.Drafts.{name_at, names_at}
use Rattle.jif_tree.specs.declared.draft.NameDraft.{NameDraft}
use Rattle.jif_parse.specs.declared.cursor.Cursor.{Cursor}
use Rattle.jif_parse.specs.declared.parse_error.ParseError.{ParseError}
use Rattle.jif_parse.specs.declared.parse_error.ParseError.TheVariants as fault
use Rattle.jif_parse.specs.Reading.{IsNextSymbol, IsNextName, Passes, Takes}
use Rattle.jif_parse.specs.Phrases.{ReadsName, ReadsNames, FailsNames, NameList, of_readers, of_members, of_principals}
use Rattle.jif_parse.specs.Phrases.{after_name_of}
use Rattle.jif_parse.proofs.Taking.{takes_nothing, takes_then, takes_before, fails_then, fails_before}
use Rattle.jif_parse.proofs.Moving.{stepped, takes_passed}
use Rattle.jif_parse.proofs.Fixed.{step_name, takes_name, fails_name}
use Rattle.jif_parse.proofs.Lists.{ListForm, ItemsSoFar, no_items, one_more, last_item}

abbrev pub names_form : ListForm (List ℕ) NameShape
names_form = record {
  separator = symbol Comma;
  item_then = name_then;
  item_width = λ name. 1;
  width = λ names. length (names_tokens names);
  shape = name_at;
  shapes = names_at;
  IsSound = λ names. ⊤;
  width_one = λ name. refl;
  width_more = λ name next names. omega arith;
  shapes_none = λ at. refl;
  shapes_more = λ at name names. ap (λ n. name_at at name ∷ names_at n names) (omega arith);
}

-- what is due before each name
abbrev pub names_due : NameList → ℕ → List Nested
names_due list depth = nested_at depth a_name ∷ nested_at depth (after_name_of list) ∷ []

-- the names so far, each with a comma behind it
pub record NamesSoFar (old now : Cursor) (drafts : List NameDraft) : Type 0 where
  pub items : ItemsSoFar names_form old now (map name_shape drafts)
  pub takes : (list : NameList) (depth : ℕ) → depth ≤ NESTING →
      Takes old now (names_due list depth) (names_due list depth)

pub no_names : (old : Cursor) → NamesSoFar old old []
no_names old = record {
  items = no_items names_form old;
  takes =
      λ list depth nested. takes_nothing old (names_due list depth);
}

-- behind a name
behind_name : {old now new : Cursor} {drafts : List NameDraft} {draft : NameDraft} → NamesSoFar old now drafts →
    ReadsName now new draft → (list : NameList) (depth : ℕ) → depth ≤ NESTING →
    Takes old new (names_due list depth) (nested_at depth (after_name_of list) ∷ [])
behind_name so_far reads list depth nested =
    takes_then (so_far.takes list depth nested)
    (takes_before (nested_at depth (after_name_of list) ∷ []) (takes_name depth nested reads))

takes_comma : {old new : Cursor} (list : NameList) (depth : ℕ) → depth ≤ NESTING → IsNextSymbol old Comma →
    Passes old new → Takes old new (nested_at depth (after_name_of list) ∷ []) (names_due list depth)
takes_comma of_readers depth nested is passes =
    takes_passed (nested_at depth (after_name_of of_readers)) (symbol Comma)
    (a_name ∷ after_name_of of_readers ∷ []) depth
    (stepped (symbol Comma) is passes.steps) passes.counts nested refl refl
takes_comma of_members depth nested is passes =
    takes_passed (nested_at depth (after_name_of of_members)) (symbol Comma)
    (a_name ∷ after_name_of of_members ∷ []) depth
    (stepped (symbol Comma) is passes.steps) passes.counts nested refl refl
takes_comma of_principals depth nested is passes =
    takes_passed (nested_at depth (after_name_of of_principals)) (symbol Comma)
    (a_name ∷ after_name_of of_principals ∷ []) depth (stepped (symbol Comma) is passes.steps) passes.counts nested refl
    refl

pub names_more : {old now behind new : Cursor} {drafts : List NameDraft} {draft : NameDraft} →
    NamesSoFar old now drafts → ReadsName now behind draft → IsNextSymbol behind Comma → Passes behind new →
    (after : List NameDraft) → after ≡ drafts ++ draft ∷ [] → NamesSoFar old new after
names_more {old} {now} {behind} {new} {drafts} {draft} so_far reads is passes after are = record {
  items = subst (λ shapes. ItemsSoFar names_form old new shapes)
      (sym (ap (map name_shape) are ∙ map-append name_shape drafts (draft ∷ []) ∙ ap (λ s. map name_shape drafts
      ++ s ∷ [])
      reads.draft_is))
      (one_more {behind = behind} {new = new} reads.name so_far.items reads.written (step_name reads).moves tt
      (stepped (symbol Comma) is passes.steps)
      (λ items one all. tt));
  takes = λ list depth nested.
      takes_then (behind_name so_far reads list depth nested) (takes_comma list depth nested is passes);
}

pub names_end : {old now new : Cursor} {drafts : List NameDraft} {draft : NameDraft} →
    NamesSoFar old now drafts → ReadsName now new draft → ¬ IsNextSymbol new Comma →
    (after : List NameDraft) → after ≡ drafts ++ draft ∷ [] → ReadsNames old new after
names_end {old} {now} {new} {drafts} {draft} so_far reads ends after are =
    let all = last_item {new = new} reads.name so_far.items reads.written (step_name reads).moves tt in
    record {
      names = all.items;
      some = all.some;
      written = all.written;
      drafts_are =
          ap (map name_shape) are ∙ map-append name_shape drafts (draft ∷ [])
          ∙ ap (λ s. map name_shape drafts ++ s ∷ []) reads.draft_is ∙ all.drafts_are;
      moves = all.moves;
      ends = ends;
      takes = λ list depth nested. behind_name so_far reads list depth nested;
    }

pub names_fail : {old now : Cursor} {drafts : List NameDraft} {error : ParseError} → NamesSoFar old now drafts →
    (error ≡ fault.OutOfMemory) ⊎ ((error ≡ fault.Unexpected now.at) × ¬ IsNextName now) → FailsNames old error
names_fail {old} {now} {drafts} {error} so_far fails list depth nested =
    fails_then (so_far.takes list depth nested)
    (fails_before (nested_at depth (after_name_of list) ∷ []) (fails_name now error depth fails))
