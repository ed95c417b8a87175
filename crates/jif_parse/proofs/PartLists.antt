-- The parts of a label, read one by one.
use Rattle.std.proofs.Common.{◌≡◌, ℕ, ◌≤◌, ◌+◌, Bool, true, false, List, [], ◌∷◌, ◌++◌, length, map, Option, Some, None}
use Rattle.std.proofs.Common.{refl, ap, sym, subst, ◌∙◌, arith, ◌⊎◌, inl, inr, ◌≢◌, append_assoc}
use Rattle.std.proofs.lemmas.List.{map-append, length-append, length-map, append-nil}
use Rattle.js_base.specs.declared.limits.TheConstants.{NESTING}
use Rattle.jif_lex.specs.declared.token.TokenKind.{TokenKind}
use Rattle.jif_lex.specs.declared.token.TokenKind.TheVariants as token
use Rattle.jif_lex.specs.declared.token.Symbol.TheVariants as symbols
use Rattle.label_lattice.specs.Written.{kinds, symbol, Part, policy, trust, part_tokens, parts_tokens, names_tokens}
use Rattle.label_lattice.specs.Written.{TrustIsLast}
use Rattle.jif_grammar.specs.Due as due
use Rattle.jif_grammar.specs.Due.{Due, exactly, colon, a_name, a_part, first_part, readers, after_reader, members}
use Rattle.jif_grammar.specs.Due.{after_member, due_after_token, due_after_symbol}
use Rattle.jif_grammar.specs.Phrases.{LabelPhrase}
use Rattle.jif_grammar.specs.Marks.{plain}
use Rattle.jif_grammar.specs.Nesting.{nested_at}
use Rattle.jif_grammar.specs.Unmarked.{joined_then, part_then, names_then}
use Rattle.jif_grammar.specs.DraftShapes.{NameShape, PolicyShape, LabelShape, name_shape, policy_shape, label_shape}
use Rattle.jif_grammar.specs.Drafts.{name_at, names_at, policies_at, trust_at, after_part, label_width}
use Rattle.jif_tree.specs.declared.draft.NameDraft.{NameDraft}
use Rattle.jif_tree.specs.declared.draft.PolicyDraft.{PolicyDraft}
use Rattle.jif_tree.specs.declared.draft.LabelDraft.{LabelDraft}
use Rattle.jif_parse.specs.declared.cursor.Cursor.{Cursor}
use Rattle.jif_parse.specs.declared.parse_error.ParseError.{ParseError}
use Rattle.jif_parse.specs.declared.parse_error.ParseError.TheVariants as fault
use Rattle.jif_parse.specs.Reading.{IsNextKind, IsNextSymbol, IsNextName, Moves, Passes, Takes}
use Rattle.jif_parse.specs.Phrases.{PassesSymbol, ReadsName, ReadsNames, FailsNames, ReadsParts, FailsParts, ReadsLabel}
use Rattle.jif_parse.specs.Phrases.{FailsLabel, of_readers, of_members}
use Rattle.jif_parse.specs.Parts.{behind_readers, behind_members, EndsNames, ReadsAnyNames, FailsAnyNames, part_end}
use Rattle.jif_parse.specs.Parts.{parts_left, FailsPart, ReadsPolicy, ReadsTrust}
use Rattle.jif_parse.proofs.Taking.{takes_nothing, takes_alike, takes_then, takes_before, fails_then, fails_before}
use Rattle.jif_parse.proofs.Taking.{takes_same, SameStep, out_of_memory}
use Rattle.jif_parse.proofs.Moving.{stays, moves_then, moves_as, stepped, takes_passed, fails_other}
use Rattle.jif_parse.proofs.Fixed.{step_symbol, takes_fixed, fails_fixed, step_name}

-- ---- a policy or who trusts, in place of the first part

same_part : (old : Cursor) (depth : ℕ) (kind : TokenKind) → ¬ (kind ≡ token.Symbol symbols.RightBrace) →
    SameStep (nested_at depth first_part) (nested_at depth a_part) kind
same_part old depth (token.Name name) other later t n = refl
same_part old depth (token.Number number) other later t n = refl
same_part old depth (token.Word word) other later t n = refl
same_part old depth (token.Symbol symbols.RightBrace) other later t n = absurd (other refl)
same_part old depth (token.Symbol _) other later t n = refl

pub takes_as_part : (old : Cursor) (depth : ℕ) → ¬ IsNextSymbol old symbols.RightBrace →
    Takes old old (nested_at depth first_part ∷ []) (nested_at depth a_part ∷ [])
takes_as_part old depth other =
    takes_same old (nested_at depth first_part) (nested_at depth a_part)
    (λ kind is. same_part old depth kind (λ same. other (subst (IsNextKind old) same is)))

-- ---- names, or none

-- where a name is next, a name is due, and then what follows one
readers_as_names : (old : Cursor) (depth : ℕ) → IsNextName old →
    Takes old old (nested_at depth readers ∷ []) (nested_at depth a_name ∷ nested_at depth after_reader ∷ [])
readers_as_names old depth next =
    takes_alike old (nested_at depth readers) (nested_at depth a_name) (nested_at depth after_reader ∷ [])
    (token.Name next.0)
    next.1 (λ later t n. refl)

members_as_names : (old : Cursor) (depth : ℕ) → IsNextName old →
    Takes old old (nested_at depth members ∷ []) (nested_at depth a_name ∷ nested_at depth after_member ∷ [])
members_as_names old depth next =
    takes_alike old (nested_at depth members) (nested_at depth a_name) (nested_at depth after_member ∷ [])
    (token.Name next.0)
    next.1 (λ later t n. refl)

with_names : {old new : Cursor} {drafts : List NameDraft} → IsNextName old → ReadsNames old new drafts →
    (names : List (List ℕ)) → names ≢ [] → kinds old.rest.now ≡ names_then names (kinds new.rest.now) →
    map name_shape drafts ≡ names_at old.at names → Moves old new (length (names_tokens names)) →
    ReadsAnyNames old new drafts
with_names next reads [] some written drafts_are moves = absurd (some refl)
with_names {old} {new} {drafts} next reads (name ∷ names) some written drafts_are moves = record {
  names = name ∷ names;
  written = written;
  drafts_are = drafts_are;
  moves = moves;
  ends = reads.ends;
  takes_readers = λ depth nested. takes_then (readers_as_names old depth next) (reads.takes of_readers depth nested);
  takes_members = λ depth nested. takes_then (members_as_names old depth next) (reads.takes of_members depth nested);
}

pub some_names : {old new : Cursor} {drafts : List NameDraft} → IsNextName old → ReadsNames old new drafts →
    ReadsAnyNames old new drafts
some_names {old} {new} {drafts} next reads =
    with_names next reads reads.names reads.some reads.written reads.drafts_are reads.moves

pub no_names : (old : Cursor) → ¬ IsNextName old → ReadsAnyNames old old []
no_names old none = record {
  names = [];
  written = refl;
  drafts_are = refl;
  moves = stays old;
  ends = none;
  takes_readers = λ depth nested. takes_nothing old (nested_at depth readers ∷ []);
  takes_members = λ depth nested. takes_nothing old (nested_at depth members ∷ []);
}

pub some_names_fail : {old : Cursor} {error : ParseError} → IsNextName old → FailsNames old error →
    FailsAnyNames old error
some_names_fail {old} {error} next fails = record {
  readers = λ depth nested. fails_then (readers_as_names old depth next) (fails of_readers depth nested);
  members = λ depth nested. fails_then (members_as_names old depth next) (fails of_members depth nested);
}

-- ---- a policy

-- an owner, a colon and readers, but not yet what ends them
pub record BehindReaders (old now : Cursor) (draft : PolicyDraft) : Type 0 where
  pub owner : List ℕ
  pub readers : List (List ℕ)
  pub written : kinds old.rest.now ≡ part_then (policy owner readers) (kinds now.rest.now)
  pub draft_is : policy_shape draft ≡ record { owner = name_at old.at owner; readers = names_at (old.at + 2) readers }
  pub moves : Moves old now (length (part_tokens (policy owner readers)))
  pub ends : EndsNames readers now
  pub takes : (depth : ℕ) → depth ≤ NESTING →
      Takes old now (nested_at depth a_part ∷ []) (nested_at depth (behind_readers readers) ∷ [])

-- an owner with its colon
takes_owner : {old behind new : Cursor} {draft : NameDraft} (depth : ℕ) → depth ≤ NESTING → ReadsName old behind draft →
    PassesSymbol behind new symbols.Colon →
    Takes old new (nested_at depth a_part ∷ []) (nested_at depth due.readers ∷ [])
takes_owner depth nested name passes =
    takes_then (takes_passed (nested_at depth a_part) (token.Name name.name) (exactly colon ∷ due.readers ∷ []) depth
    (step_name name) name.passes.counts nested refl refl)
    (takes_before (nested_at depth due.readers ∷ []) (takes_fixed colon depth nested passes))

abbrev pub policy_of : NameShape → List NameShape → PolicyShape
policy_of who listed = record { owner = who; readers = listed }

pub behind_readers_of : {old first second now : Cursor} {owner : NameDraft} {drafts : List NameDraft} →
    ReadsName old first owner → PassesSymbol first second symbols.Colon → ReadsAnyNames second now drafts →
    (draft : PolicyDraft) → policy_shape draft ≡ record { owner = name_shape owner; readers = map name_shape drafts } →
    BehindReaders old now draft
behind_readers_of {old} {first} {second} {now} {owner} {drafts} name passes names draft is =
    let two = moves_then (step_name name).moves (step_symbol passes).moves in
    record {
      owner = name.name;
      readers = names.names;
      written =
          name.written ∙ ap (λ ks. token.Name name.name ∷ ks) ((step_symbol passes).is_next
          ∙ ap (λ ks. symbol symbols.Colon ∷ ks) names.written);
      draft_is =
          is ∙ ap (λ o. policy_of o (map name_shape drafts)) name.draft_is
          ∙ ap (λ rs. policy_of (name_at old.at name.name) rs) (names.drafts_are
          ∙ ap (λ n. names_at n names.names) (let e : second.at ≡ old.at + 2 = omega (arith, two.at) in e));
      moves = moves_as (length (part_tokens (policy name.name names.names))) (omega arith) (moves_then two names.moves);
      ends = names.ends;
      takes = λ depth nested. takes_then (takes_owner depth nested name passes) (names.takes_readers depth nested);
    }

owner_none : (old : Cursor) (kind : TokenKind) → ¬ IsNextSymbol old symbols.Question → ¬ IsNextName old →
    IsNextKind old kind → due_after_token a_part kind ≡ None
owner_none old (token.Name name) mark none is = absurd (none (name, is))
owner_none old (token.Number number) mark none is = refl
owner_none old (token.Word word) mark none is = refl
owner_none old (token.Symbol symbols.Question) mark none is = absurd (mark is)
owner_none old (token.Symbol _) mark none is = refl

pub owner_fails : (old : Cursor) (error : ParseError) → ¬ IsNextSymbol old symbols.Question →
    (error ≡ fault.OutOfMemory) ⊎ ((error ≡ fault.Unexpected old.at) × ¬ IsNextName old) → FailsPart old error
owner_fails old error mark (inl memory) depth nested = out_of_memory old (nested_at depth a_part ∷ []) error memory
owner_fails old error mark (inr other) depth nested =
    fails_other old error (nested_at depth a_part) other.0 (λ kind is. owner_none old kind mark other.1 is)

pub colon_fails : {old now : Cursor} {draft : NameDraft} {error : ParseError} → ReadsName old now draft →
    (error ≡ fault.Unexpected now.at) × ¬ IsNextSymbol now symbols.Colon → FailsPart old error
colon_fails {old} {now} {draft} {error} name other depth nested =
    fails_then (takes_passed (nested_at depth a_part) (token.Name name.name) (exactly colon ∷ due.readers ∷ []) depth
    (step_name name) name.passes.counts nested refl refl)
    (fails_before (nested_at depth due.readers ∷ []) (fails_fixed now error colon depth other))

pub readers_fail : {old first second : Cursor} {draft : NameDraft} {error : ParseError} → ReadsName old first draft →
    PassesSymbol first second symbols.Colon → FailsAnyNames second error → FailsPart old error
readers_fail name passes fails depth nested =
    fails_then (takes_owner depth nested name passes) (fails.readers depth nested)

takes_end : {old new : Cursor} (names : List (List ℕ)) (more : Bool) (depth : ℕ) → depth ≤ NESTING →
    PassesSymbol old new (part_end more) →
    Takes old new (nested_at depth (behind_readers names) ∷ []) (parts_left more depth)
takes_end [] true depth nested passes =
    takes_passed (nested_at depth due.readers) (symbol symbols.Semicolon) (a_part ∷ []) depth (step_symbol passes)
    passes.passes.counts nested refl refl
takes_end [] false depth nested passes =
    takes_passed (nested_at depth due.readers) (symbol symbols.RightBrace) [] depth (step_symbol passes)
    passes.passes.counts nested refl refl
takes_end (name ∷ names) true depth nested passes =
    takes_passed (nested_at depth after_reader) (symbol symbols.Semicolon) (a_part ∷ []) depth (step_symbol passes)
    passes.passes.counts nested refl refl
takes_end (name ∷ names) false depth nested passes =
    takes_passed (nested_at depth after_reader) (symbol symbols.RightBrace) [] depth (step_symbol passes)
    passes.passes.counts nested refl refl

pub policy_of_readers : {old now new : Cursor} {draft : PolicyDraft} (more : Bool) → BehindReaders old now draft →
    PassesSymbol now new (part_end more) → ReadsPolicy old new draft more
policy_of_readers {old} {now} {new} {draft} more reads passes = record {
  owner = reads.owner;
  readers = reads.readers;
  written = reads.written ∙ ap (part_then (policy reads.owner reads.readers)) (step_symbol passes).is_next;
  draft_is = reads.draft_is;
  moves = moves_then reads.moves (step_symbol passes).moves;
  takes = λ depth nested. takes_then (reads.takes depth nested) (takes_end reads.readers more depth nested passes);
}

end_none : (old : Cursor) (names : List (List ℕ)) (kind : TokenKind) → EndsNames names old →
    ¬ IsNextSymbol old symbols.Semicolon → ¬ IsNextSymbol old symbols.RightBrace → IsNextKind old kind →
    due_after_token (behind_readers names) kind ≡ None
end_none old [] (token.Name name) ends semicolon brace is = absurd (ends (name, is))
end_none old [] (token.Number number) ends semicolon brace is = refl
end_none old [] (token.Word word) ends semicolon brace is = refl
end_none old [] (token.Symbol symbols.Semicolon) ends semicolon brace is = absurd (semicolon is)
end_none old [] (token.Symbol symbols.RightBrace) ends semicolon brace is = absurd (brace is)
end_none old [] (token.Symbol _) ends semicolon brace is = refl
end_none old (first ∷ names) (token.Name name) ends semicolon brace is = refl
end_none old (first ∷ names) (token.Number number) ends semicolon brace is = refl
end_none old (first ∷ names) (token.Word word) ends semicolon brace is = refl
end_none old (first ∷ names) (token.Symbol symbols.Comma) ends semicolon brace is = absurd (ends is)
end_none old (first ∷ names) (token.Symbol symbols.Semicolon) ends semicolon brace is = absurd (semicolon is)
end_none old (first ∷ names) (token.Symbol symbols.RightBrace) ends semicolon brace is = absurd (brace is)
end_none old (first ∷ names) (token.Symbol _) ends semicolon brace is = refl

pub policy_end_fails : {old now : Cursor} {draft : PolicyDraft} {error : ParseError} → BehindReaders old now draft →
    ¬ IsNextSymbol now symbols.Semicolon → (error ≡ fault.Unexpected now.at) × ¬ IsNextSymbol now symbols.RightBrace →
    FailsPart old error
policy_end_fails {old} {now} {draft} {error} reads semicolon other depth nested =
    fails_then (reads.takes depth nested)
    (fails_other now error (nested_at depth (behind_readers reads.readers)) other.0
    (λ kind is. end_none now reads.readers kind reads.ends semicolon other.1 is))

-- ---- who trusts

takes_mark : {old first second : Cursor} (depth : ℕ) → depth ≤ NESTING → IsNextSymbol old symbols.Question →
    Passes old first → PassesSymbol first second symbols.Colon →
    Takes old second (nested_at depth a_part ∷ []) (nested_at depth due.members ∷ [])
takes_mark depth nested is mark passes =
    takes_then (takes_passed (nested_at depth a_part) (symbol symbols.Question) (exactly colon ∷ due.members ∷ []) depth
    (stepped (symbol symbols.Question) is mark.steps) mark.counts nested refl refl)
    (takes_before (nested_at depth due.members ∷ []) (takes_fixed colon depth nested passes))

pub mark_fails : {old now : Cursor} {error : ParseError} → IsNextSymbol old symbols.Question → Passes old now →
    (error ≡ fault.Unexpected now.at) × ¬ IsNextSymbol now symbols.Colon → FailsPart old error
mark_fails {old} {now} {error} is mark other depth nested =
    fails_then (takes_passed (nested_at depth a_part) (symbol symbols.Question) (exactly colon ∷ due.members ∷ []) depth
    (stepped (symbol symbols.Question) is mark.steps) mark.counts nested refl refl)
    (fails_before (nested_at depth due.members ∷ []) (fails_fixed now error colon depth other))

pub members_fail : {old first second : Cursor} {error : ParseError} → IsNextSymbol old symbols.Question →
    Passes old first → PassesSymbol first second symbols.Colon → FailsAnyNames second error → FailsPart old error
members_fail is mark passes fails depth nested =
    fails_then (takes_mark depth nested is mark passes) (fails.members depth nested)

takes_members_end : {old new : Cursor} (names : List (List ℕ)) (depth : ℕ) → depth ≤ NESTING →
    PassesSymbol old new symbols.RightBrace → Takes old new (nested_at depth (behind_members names) ∷ []) []
takes_members_end [] depth nested passes =
    takes_passed (nested_at depth due.members) (symbol symbols.RightBrace) [] depth (step_symbol passes)
    passes.passes.counts nested refl refl
takes_members_end (name ∷ names) depth nested passes =
    takes_passed (nested_at depth after_member) (symbol symbols.RightBrace) [] depth (step_symbol passes)
    passes.passes.counts nested refl refl

members_none : (old : Cursor) (names : List (List ℕ)) (kind : TokenKind) → EndsNames names old →
    ¬ IsNextSymbol old symbols.RightBrace → IsNextKind old kind →
    due_after_token (behind_members names) kind ≡ None
members_none old [] (token.Name name) ends brace is = absurd (ends (name, is))
members_none old [] (token.Number number) ends brace is = refl
members_none old [] (token.Word word) ends brace is = refl
members_none old [] (token.Symbol symbols.RightBrace) ends brace is = absurd (brace is)
members_none old [] (token.Symbol _) ends brace is = refl
members_none old (first ∷ names) (token.Name name) ends brace is = refl
members_none old (first ∷ names) (token.Number number) ends brace is = refl
members_none old (first ∷ names) (token.Word word) ends brace is = refl
members_none old (first ∷ names) (token.Symbol symbols.Comma) ends brace is = absurd (ends is)
members_none old (first ∷ names) (token.Symbol symbols.RightBrace) ends brace is = absurd (brace is)
members_none old (first ∷ names) (token.Symbol _) ends brace is = refl

pub trust_end_fails : {old first second now : Cursor} {drafts : List NameDraft} {error : ParseError} →
    IsNextSymbol old symbols.Question → Passes old first → PassesSymbol first second symbols.Colon →
    ReadsAnyNames second now drafts →
    (error ≡ fault.Unexpected now.at) × ¬ IsNextSymbol now symbols.RightBrace → FailsPart old error
trust_end_fails {old} {first} {second} {now} {drafts} {error} is mark passes names other depth nested =
    fails_then (takes_then (takes_mark depth nested is mark passes) (names.takes_members depth nested))
    (fails_other now error (nested_at depth (behind_members names.names)) other.0
    (λ kind next. members_none now names.names kind names.ends other.1 next))

pub trust_of_members : {old first second now new : Cursor} {drafts : List NameDraft} →
    IsNextSymbol old symbols.Question → Passes old first → PassesSymbol first second symbols.Colon →
    ReadsAnyNames second now drafts → PassesSymbol now new symbols.RightBrace → ReadsTrust old new drafts
trust_of_members {old} {first} {second} {now} {new} {drafts} is mark passes names brace =
    let one = stepped (symbol symbols.Question) is mark.steps in
    let two = moves_then one.moves (step_symbol passes).moves in
    record {
      members = names.names;
      written =
          one.is_next ∙ ap (λ ks. symbol symbols.Question ∷ ks) ((step_symbol passes).is_next
          ∙ ap (λ ks. symbol symbols.Colon ∷ ks) (names.written ∙ ap (names_then names.names)
          (step_symbol brace).is_next));
      drafts_are =
          names.drafts_are
          ∙ ap (λ n. names_at n names.names) (let e : second.at ≡ old.at + 2 = omega (arith, two.at) in e);
      moves =
          moves_as (length (part_tokens (trust names.names)) + 1) (omega arith)
          (moves_then two (moves_then names.moves (step_symbol brace).moves));
      takes = λ depth nested.
          takes_then (takes_mark depth nested is mark passes)
          (takes_then (names.takes_members depth nested) (takes_members_end names.names depth nested brace));
    }

-- the parts so far, each with a semicolon behind it
pub record PartsSoFar (old now : Cursor) (drafts : List PolicyDraft) : Type 0 where
  pub front : List Part → List Part
  pub count : ℕ
  pub written : (part : Part) (parts : List Part) (rest : List TokenKind) →
      kinds now.rest.now ≡ joined_then (symbol symbols.Semicolon) part_then (part ∷ parts) rest →
      kinds old.rest.now ≡ joined_then (symbol symbols.Semicolon) part_then (front (part ∷ parts)) rest
  pub policies : (parts : List Part) → policies_at old.at (front parts) ≡ map policy_shape drafts
      ++ policies_at now.at parts
  pub trust : (parts : List Part) → trust_at old.at (front parts) ≡ trust_at now.at parts
  pub moves : Moves old now count
  pub width : (part : Part) (parts : List Part) →
      length (parts_tokens (front (part ∷ parts))) ≡ count + length (parts_tokens (part ∷ parts))
  pub last : (parts : List Part) → TrustIsLast parts → TrustIsLast (front parts)
  pub takes : (depth : ℕ) → depth ≤ NESTING → Takes old now (nested_at depth first_part ∷ [])
      (nested_at depth a_part ∷ [])

pub no_parts : (old : Cursor) → ¬ IsNextSymbol old symbols.RightBrace → PartsSoFar old old []
no_parts old other = record {
  front = λ parts. parts;
  count = 0;
  written = λ part parts rest is. is;
  policies = λ parts. refl;
  trust = λ parts. refl;
  moves = stays old;
  width = λ part parts. omega arith;
  last = λ parts last. last;
  takes = λ depth nested. takes_as_part old depth other;
}

abbrev a_policy : {now new : Cursor} {draft : PolicyDraft} {more : Bool} → ReadsPolicy now new draft more → Part
a_policy reads = policy reads.owner reads.readers

shapes_with : (before : List PolicyShape) (drafts : List PolicyDraft) (draft : PolicyDraft) (after : List PolicyDraft)
    (shape : PolicyShape) (parts : List PolicyShape) → policy_shape draft ≡ shape → after ≡ drafts ++ draft ∷ [] →
    before ≡ map policy_shape drafts ++ shape ∷ parts → before ≡ map policy_shape after ++ parts
shapes_with before drafts draft after shape parts is are same =
    same ∙ ap (λ p. map policy_shape drafts ++ p ∷ parts) (sym is)
    ∙ sym (append_assoc (map policy_shape drafts) (policy_shape draft ∷ []) parts)
    ∙ ap (λ ps. ps ++ parts) (sym (ap (map policy_shape) are ∙ map-append policy_shape drafts (draft ∷ [])))

pub parts_more : {old now new : Cursor} {drafts : List PolicyDraft} {draft : PolicyDraft} → PartsSoFar old now drafts →
    ReadsPolicy now new draft true → (after : List PolicyDraft) → after ≡ drafts ++ draft ∷ [] →
    PartsSoFar old new after
parts_more {old} {now} {new} {drafts} {draft} so_far reads after are =
    let shape : PolicyShape = policy_of (name_at now.at reads.owner) (names_at (now.at + 2) reads.readers) in
    let place : after_part now.at (a_policy reads) ≡ new.at = omega (arith, reads.moves.at) in
    record {
      front = λ parts. so_far.front (a_policy reads ∷ parts);
      count = so_far.count + (length (part_tokens (a_policy reads)) + 1);
      written = λ part parts rest is.
          so_far.written (a_policy reads) (part ∷ parts) rest
          (reads.written ∙ ap (λ ks. part_then (a_policy reads) (symbol symbols.Semicolon ∷ ks)) is);
      policies = λ parts.
          shapes_with (policies_at old.at (so_far.front (a_policy reads ∷ parts))) drafts draft after shape
          (policies_at new.at parts) reads.draft_is are
          (so_far.policies (a_policy reads ∷ parts)
          ∙ ap (λ n. map policy_shape drafts ++ shape ∷ policies_at n parts) place);
      trust = λ parts. so_far.trust (a_policy reads ∷ parts) ∙ ap (λ n. trust_at n parts) place;
      moves = moves_then so_far.moves reads.moves;
      width = λ part parts.
          omega (
            arith,
            so_far.width (a_policy reads) (part ∷ parts),
            length-append (part_tokens (a_policy reads)) (symbol symbols.Semicolon ∷ parts_tokens (part ∷ parts)),
          );
      last = λ parts last. so_far.last (a_policy reads ∷ parts) last;
      takes = λ depth nested. takes_then (so_far.takes depth nested) (reads.takes depth nested);
    }

pub parts_fail : {old now : Cursor} {drafts : List PolicyDraft} {error : ParseError} → PartsSoFar old now drafts →
    FailsPart now error → FailsParts old error
parts_fail so_far fails depth nested = fails_then (so_far.takes depth nested) (fails depth nested)

abbrev pub label_of : List PolicyShape → Option (List NameShape) → LabelShape
label_of kept who = record { policies = kept; trust = who }

pub parts_end : {old now new : Cursor} {drafts : List PolicyDraft} {draft : PolicyDraft} → PartsSoFar old now drafts →
    ReadsPolicy now new draft false → (label : LabelDraft) (after : List PolicyDraft) → after ≡ drafts ++ draft ∷ [] →
    label_shape label ≡ label_of (map policy_shape after) None → ReadsParts old new label
parts_end {old} {now} {new} {drafts} {draft} so_far reads label after are is =
    let shape : PolicyShape = policy_of (name_at now.at reads.owner) (names_at (now.at + 2) reads.readers) in
    let parts = so_far.front (a_policy reads ∷ []) in
    record {
      label = parts;
      trust_is_last = so_far.last (a_policy reads ∷ []) tt;
      written = so_far.written (a_policy reads) [] (symbol symbols.RightBrace ∷ kinds new.rest.now) reads.written;
      draft_is =
          is ∙ ap (λ ps. label_of ps None) (sym (shapes_with (policies_at old.at parts) drafts draft after shape []
          reads.draft_is are (so_far.policies (a_policy reads ∷ [])) ∙ append-nil (map policy_shape after)))
          ∙ ap (label_of (policies_at old.at parts)) (sym (so_far.trust (a_policy reads ∷ [])));
      moves =
          moves_as (length (parts_tokens parts) + 1) (omega (arith, so_far.width (a_policy reads) []))
          (moves_then so_far.moves reads.moves);
      takes = λ depth nested. takes_then (so_far.takes depth nested) (reads.takes depth nested);
    }

pub parts_trust : {old now new : Cursor} {drafts : List PolicyDraft} {members : List NameDraft} →
    PartsSoFar old now drafts → ReadsTrust now new members → (label : LabelDraft) →
    label_shape label ≡ label_of (map policy_shape drafts) (Some (map name_shape members)) → ReadsParts old new label
parts_trust {old} {now} {new} {drafts} {members} so_far reads label is =
    let part = trust reads.members in
    let parts = so_far.front (part ∷ []) in
    record {
      label = parts;
      trust_is_last = so_far.last (part ∷ []) refl;
      written = so_far.written part [] (symbol symbols.RightBrace ∷ kinds new.rest.now) reads.written;
      draft_is =
          is ∙ ap (λ ps. label_of ps (Some (map name_shape members)))
          (sym (so_far.policies (part ∷ []) ∙ append-nil (map policy_shape drafts)))
          ∙ ap (λ ns. label_of (policies_at old.at parts) (Some ns)) reads.drafts_are
          ∙ ap (label_of (policies_at old.at parts)) (sym (so_far.trust (part ∷ [])));
      moves =
          moves_as (length (parts_tokens parts) + 1) (omega (arith, so_far.width part []))
          (moves_then so_far.moves reads.moves);
      takes = λ depth nested. takes_then (so_far.takes depth nested) (reads.takes depth nested);
    }

pub parts_none : {old new : Cursor} → IsNextSymbol old symbols.RightBrace → Passes old new → (label : LabelDraft) →
    label_shape label ≡ label_of [] None → ReadsParts old new label
parts_none {old} {new} next passes label is =
    let one = stepped (symbol symbols.RightBrace) next passes.steps in
    record {
      label = [];
      trust_is_last = tt;
      written = one.is_next;
      draft_is = is;
      moves = one.moves;
      takes = λ depth nested.
          takes_passed (nested_at depth first_part) (symbol symbols.RightBrace) [] depth one passes.counts nested refl
          refl;
    }

-- ---- whole labels

takes_brace : {old new : Cursor} (depth : ℕ) → depth ≤ NESTING → PassesSymbol old new symbols.LeftBrace →
    Takes old new (nested_at depth due.label ∷ []) (nested_at depth first_part ∷ [])
takes_brace depth nested passes =
    takes_passed (nested_at depth due.label) (symbol symbols.LeftBrace) (first_part ∷ []) depth (step_symbol passes)
    passes.passes.counts nested refl refl

width_of_label : (label : LabelPhrase) → label_width label ≡ 1 + (length (parts_tokens label) + 1)
width_of_label label =
    omega (
      arith,
      length-map (parts_tokens label ++ symbol symbols.RightBrace ∷ []) (plain 0),
      length-append (parts_tokens label) (symbol symbols.RightBrace ∷ []),
    )

pub whole_label : {old now new : Cursor} {draft : LabelDraft} → PassesSymbol old now symbols.LeftBrace →
    ReadsParts now new draft → ReadsLabel old new draft
whole_label {old} {now} {new} {draft} passes reads =
    let one = step_symbol passes in
    record {
      label = reads.label;
      trust_is_last = reads.trust_is_last;
      written = one.is_next ∙ ap (λ ks. symbol symbols.LeftBrace ∷ ks) reads.written;
      draft_is =
          reads.draft_is ∙ ap (λ n. label_of (policies_at n reads.label) (trust_at n reads.label)) one.moves.at;
      moves = moves_as (label_width reads.label) (sym (width_of_label reads.label)) (moves_then one.moves reads.moves);
      takes = λ depth nested. takes_then (takes_brace depth nested passes) (reads.takes depth nested);
    }

pub label_parts_fail : {old now : Cursor} {error : ParseError} → PassesSymbol old now symbols.LeftBrace →
    FailsParts now error → FailsLabel old error
label_parts_fail passes fails depth nested = fails_then (takes_brace depth nested passes) (fails depth nested)

label_none : (old : Cursor) (kind : TokenKind) → ¬ IsNextSymbol old symbols.LeftBrace → IsNextKind old kind →
    due_after_token due.label kind ≡ None
label_none old (token.Name name) other is = refl
label_none old (token.Number number) other is = refl
label_none old (token.Word word) other is = refl
label_none old (token.Symbol symbols.LeftBrace) other is = absurd (other is)
label_none old (token.Symbol _) other is = refl

pub label_fails : (old : Cursor) (error : ParseError) →
    (error ≡ fault.Unexpected old.at) × ¬ IsNextSymbol old symbols.LeftBrace → FailsLabel old error
label_fails old error other depth nested =
    fails_other old error (nested_at depth due.label) other.0 (λ kind is. label_none old kind other.1 is)
