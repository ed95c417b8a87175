-- The walk by what is due tells what tokens are refused for.
use Rattle.std.proofs.Common.{◌≡◌, ◌<◌, inl, inr, ℕ, suc, ◌+◌, List, [], ◌∷◌, ◌++◌, map, length, take, drop, refl}
use Rattle.std.proofs.Common.{ap, sym, ◌∙◌, subst, Option, Some, None, arith, append_assoc}
use Rattle.std.specs.Option.{option_map}
use Rattle.std.proofs.lemmas.List.{map-append, append-nil}
use Rattle.std.proofs.lemmas.Bool.{ltb-true, ltb-false}
use Rattle.std.specs.Prelude.{Bool, true, false, ltb, ◌⊎◌}
use Rattle.jif_lex.specs.declared.token.Token.{Token}
use Rattle.jif_lex.specs.declared.token.TokenKind.{TokenKind}
use Rattle.label_lattice.specs.Written.{kinds}
use Rattle.jif_grammar.specs.Phrases.{ProgramPhrase}
use Rattle.jif_grammar.specs.Due.{Due, due_after_token, item_due, before_due, due_next, after_all, due_after}
use Rattle.jif_grammar.specs.Marks.{Marked, Tally, tally_at_start, after_token, after_tokens, mark}
use Rattle.jif_grammar.specs.Spelling.{spelling}
use Rattle.jif_grammar.specs.Programs.{token_kinds, Spells, GoesOn, IsBeginning, tally_at, IsWithin, IsWithinUpTo}
use Rattle.jif_grammar.specs.Programs.{Refusal, unexpected, IsRefused, IsProgramText}
use Rattle.jif_grammar.specs.Nesting.{Nested, nested_all, nested_after, marked_by, begins_item, nested_next}
use Rattle.jif_grammar.specs.Verdicts.{Excess, of_nesting, of_count, excess_at, excess, going}
use Rattle.jif_grammar.specs.Verdicts.{walk_within, walk_behind, refusal_from, refusal_of}
use Rattle.jif_grammar.proofs.ExprMarks.{Goes}
use Rattle.jif_grammar.proofs.ProgramMarks.{goes_program}
use Rattle.jif_grammar.proofs.ExcessOf.{IsExcess, IsFirst, excess_first}
use Rattle.jif_grammar.proofs.SameMarks.{one_step}
use Rattle.jif_grammar.proofs.OneRefusal.{kinds_length, same_length}
use Rattle.jif_grammar.proofs.Refusing.{too_deep_at, too_many_at, unexpected_at}
use Rattle.jif_grammar.proofs.DueLaws.{due_at_beginning, beginning_of_due}
use Rattle.jif_grammar.proofs.DueEnds.{nothing_due_at_end, program_of_nothing_due}
use Rattle.jif_grammar.proofs.StaysWithin.{tokens_behind}

-- ---- what is due, without its nesting

abbrev dues : List Nested → List Due
dues first = map (λ one. one.due) first

abbrev step_dues : Marked × List Nested → List Due
step_dues step = dues step.1

dues_of_all : (depth : ℕ) (depths : List (ℕ × ℕ)) (list : List Due) → dues (nested_all depth depths list) ≡ list
dues_of_all depth depths [] = refl
dues_of_all depth [] (one ∷ list) = ap (λ ds. one ∷ ds) (dues_of_all depth [] list)
dues_of_all depth ((first, inner) ∷ depths) (one ∷ list) = ap (λ ds. one ∷ ds) (dues_of_all depth depths list)

dues_at_item : (kind : TokenKind) (made : Option (List Due)) →
    option_map step_dues (option_map (λ ds. (mark (begins_item kind) 0 kind, nested_all 0 [] ds)) made) ≡ made
dues_at_item kind None = refl
dues_at_item kind (Some list) = ap Some (dues_of_all 0 [] list)

dues_behind : (first : Nested) (later : List Nested) (kind : TokenKind) (made : Option (List Due)) →
    option_map step_dues (option_map (λ sooner. (marked_by first kind, nested_after first kind sooner ++ later)) made)
    ≡ before_due (dues later) made
dues_behind first later kind None = refl
dues_behind first later kind (Some sooner) =
    ap Some (map-append (λ one. one.due) (nested_after first kind sooner) later
    ∙ ap (λ ds. ds ++ dues later) (dues_of_all first.depth _ sooner))

dues_next : (first : List Nested) (kind : TokenKind) →
    option_map step_dues (nested_next first kind) ≡ due_next (dues first) kind
dues_next [] kind = dues_at_item kind (item_due kind)
dues_next (first ∷ later) kind = dues_behind first later kind (due_after_token first.due kind)

after_all_none : (kinds : List TokenKind) → after_all None kinds ≡ None
after_all_none [] = refl
after_all_none (kind ∷ kinds) = refl

after_all_behind : (made : Option (List Due)) (front more : List TokenKind) →
    after_all made (front ++ more) ≡ after_all (after_all made front) more
after_all_behind None [] more = refl
after_all_behind None (kind ∷ front) more = sym (after_all_none more)
after_all_behind (Some list) [] more = refl
after_all_behind (Some list) (kind ∷ front) more = after_all_behind (due_next list kind) front more

abbrev kinds_then : (front : List Token) (token : Token) →
    kinds (front ++ token ∷ []) ≡ kinds front ++ token.kind ∷ []
kinds_then front token = map-append (λ one. one.kind) front (token ∷ [])

one_more_due : (made : Option (List Due)) → after_all made [] ≡ made
one_more_due None = refl
one_more_due (Some list) = refl

due_then : (front : List Token) (token : Token) (first : List Nested) → due_after (kinds front) ≡ Some (dues first) →
    due_after (kinds (front ++ token ∷ [])) ≡ option_map step_dues (nested_next first token.kind)
due_then front token first is =
    ap (after_all (Some [])) (kinds_then front token)
    ∙ after_all_behind (Some []) (kinds front) (token.kind ∷ [])
    ∙ ap (λ made. after_all made (token.kind ∷ [])) is ∙ one_more_due (due_next (dues first) token.kind)
    ∙ sym (dues_next first token.kind)

-- ---- the marks of a program at a token

record AtToken (kind : TokenKind) (n : ℕ) (tokens : List Marked) : Type 0 where
  token : Marked
  behind : List Marked
  kind_is : token.kind ≡ kind
  dropped : drop n tokens ≡ token ∷ behind
  dropped_too : drop (suc n) tokens ≡ behind
  taken : take (suc n) tokens ≡ take n tokens ++ token ∷ []

at_token : (front : List TokenKind) (kind : TokenKind) (rest : List TokenKind) (tokens : List Marked) →
    front ++ kind ∷ rest ≡ token_kinds tokens → AtToken kind (length front) tokens
at_token front kind rest [] is = absurd (empty front is)
  where
    empty : (others : List TokenKind) → others ++ kind ∷ rest ≡ [] → ⊥
    empty [] same = cc
    empty (other ∷ others) same = cc
at_token [] kind rest (token ∷ tokens) is = record {
  token = token;
  behind = tokens;
  kind_is = (cc);
  dropped = refl;
  dropped_too = refl;
  taken = refl;
}
at_token (first ∷ front) kind rest (token ∷ tokens) is =
    let tail : front ++ kind ∷ rest ≡ token_kinds tokens = (cc) in
    let there = at_token front kind rest tokens tail in record {
      token = there.token;
      behind = there.behind;
      kind_is = there.kind_is;
      dropped = there.dropped;
      dropped_too = there.dropped_too;
      taken = ap (λ ts. token ∷ ts) there.taken;
    }

-- ---- how far the walk has come

-- the rest of the program is marked as what is due has it, and what has begun up to here passes no limit
record OnWay (program : ProgramPhrase) (n : ℕ) (first : List Nested) (t : Tally) : Type 0 where
  behind : Goes first (drop n (spelling program))
  tally_is : after_tokens tally_at_start (take n (spelling program)) ≡ t
  within : IsWithinUpTo program n

record Reached (front : List Token) (first : List Nested) (t : Tally) : Type 0 where
  due_is : due_after (kinds front) ≡ Some (dues first)
  on_way : (program : ProgramPhrase) → GoesOn front program → OnWay program (length front) first t

at_start : Reached [] [] tally_at_start
at_start = record {
  due_is = refl;
  on_way = λ program goes. record {
    behind = goes_program program goes.is_program;
    tally_is = refl;
    within = λ m less. absurd (omega (arith, less));
  };
}

written_from : (front : List Token) (token : Token) (program : ProgramPhrase)
    (goes : GoesOn (front ++ token ∷ []) program) →
    kinds front ++ token.kind ∷ goes.rest ≡ token_kinds (spelling program)
written_from front token program goes =
    sym (append_assoc (kinds front) (token.kind ∷ []) goes.rest)
    ∙ ap (λ ks. ks ++ goes.rest) (sym (kinds_then front token)) ∙ goes.written

goes_on_front : (front : List Token) (token : Token) (program : ProgramPhrase) →
    GoesOn (front ++ token ∷ []) program → GoesOn front program
goes_on_front front token program goes = record {
  is_program = goes.is_program;
  rest = token.kind ∷ goes.rest;
  written = written_from front token program goes;
}

-- one token on: the program's mark of it is the one that was due
record Stepped (program : ProgramPhrase) (n : ℕ) (next : List Nested) (t : Tally) : Type 0 where
  behind : Goes next (drop (suc n) (spelling program))
  tally_is : after_tokens tally_at_start (take (suc n) (spelling program)) ≡ t
  within : IsWithinUpTo program n

stepped : (front : List Token) (token : Token) (first next : List Nested) (t : Tally) (marked : Marked) →
    Reached front first t → nested_next first token.kind ≡ Some (marked, next) → (program : ProgramPhrase) →
    GoesOn (front ++ token ∷ []) program → Stepped program (length front) next (after_token t marked)
stepped front token first next t marked reached is program goes =
    let way = reached.on_way program (goes_on_front front token program goes) in
    let there = subst (λ n. AtToken token.kind n (spelling program)) (kinds_length front)
    (at_token (kinds front) token.kind goes.rest (spelling program) (written_from front token program goes)) in
    let passes = subst (Goes first) there.dropped way.behind in
    let same = one_step (marked, next) (there.token, passes.0)
    (sym is ∙ ap (nested_next first) (sym there.kind_is) ∙ passes.1) in
    let marked_is : marked ≡ there.token = ap (λ step. step.0) same in
    let next_is : next ≡ passes.0 = ap (λ step. step.1) same in
    let front_tokens = take (length front) (spelling program) in record {
      behind = subst (Goes next) (sym there.dropped_too)
          (subst (λ made. Goes made there.behind) (sym next_is) passes.2);
      tally_is = ap (after_tokens tally_at_start) there.taken
          ∙ tokens_behind tally_at_start front_tokens (there.token ∷ [])
          ∙ ap (λ u. after_token u there.token) way.tally_is ∙ ap (after_token t) (sym marked_is);
      within = way.within;
    }

tally_here : (program : ProgramPhrase) (n : ℕ) (t : Tally) →
    after_tokens tally_at_start (take (suc n) (spelling program)) ≡ t → tally_at program n ≡ t
tally_here program n t is =
    let one_more : n + 1 ≡ suc n = omega arith in
    ap (λ m. after_tokens tally_at_start (take m (spelling program))) one_more ∙ is

up_to_here : (n m : ℕ) → m < suc n → (b : Bool) → ltb m n ≡ b → (m < n) ⊎ (m ≡ n)
up_to_here n m less true is = inl (ltb-true m n is)
up_to_here n m less false is = let not_less = ltb-false m n is in inr (omega (arith, less, not_less))

length_then : (front : List Token) (token : Token) → length (front ++ token ∷ []) ≡ suc (length front)
length_then [] token = refl
length_then (first ∷ front) token = ap suc (length_then front token)

reached_on : (front : List Token) (token : Token) (first next : List Nested) (t : Tally) (marked : Marked) →
    Reached front first t → nested_next first token.kind ≡ Some (marked, next) →
    excess (after_token t marked) ≡ None → Reached (front ++ token ∷ []) next (after_token t marked)
reached_on front token first next t marked reached is fits = record {
  due_is = due_then front token first reached.due_is ∙ ap (option_map step_dues) is;
  on_way = on_way;
}
  where
    within : (program : ProgramPhrase) → Stepped program (length front) next (after_token t marked) →
        IsWithinUpTo program (suc (length front))
    within program step m less = elim (up_to_here (length front) m less (ltb m (length front)) refl) [
      | inl before ↦ step.within m before
      | inr here ↦ subst (λ n. IsWithin (tally_at program n)) (sym here)
          (subst IsWithin (sym (tally_here program (length front) (after_token t marked) step.tally_is))
          (subst (IsFirst (after_token t marked)) fits (excess_first (after_token t marked))))
    ]

    on_way : (program : ProgramPhrase) → GoesOn (front ++ token ∷ []) program →
        OnWay program (length (front ++ token ∷ [])) next (after_token t marked)
    on_way program goes =
        let step = stepped front token first next t marked reached is program goes in
        subst (λ n. OnWay program n next (after_token t marked)) (sym (length_then front token)) (record {
          behind = step.behind;
          tally_is = step.tally_is;
          within = within program step;
        })

-- ---- refusals

take_front : (front more : List Token) → take (length front) (front ++ more) ≡ front
take_front [] [] = refl
take_front [] (token ∷ more) = refl
take_front (token ∷ front) more = ap (λ ts. token ∷ ts) (take_front front more)

take_one_more : (front : List Token) (token : Token) (more : List Token) →
    take (length front + 1) (front ++ token ∷ more) ≡ front ++ token ∷ []
take_one_more front token more =
    let one_more : length front + 1 ≡ length (front ++ token ∷ []) = omega (arith, length_then front token) in
    ap (λ n. take n (front ++ token ∷ more)) one_more
    ∙ ap (take (length (front ++ token ∷ []))) (sym (append_assoc front (token ∷ []) more))
    ∙ take_front (front ++ token ∷ []) more

longer : (front : List Token) (token : Token) (more : List Token) → length front < length (front ++ token ∷ more)
longer [] token more = omega arith
longer (first ∷ front) token more = omega (arith, longer front token more)

at_end : (front : List Token) (one : Nested) (later : List Nested) (t : Tally) → Reached front (one ∷ later) t →
    IsRefused front (unexpected (length front))
at_end front one later t reached =
    let (program, goes) = beginning_of_due front (dues (one ∷ later)) reached.due_is in
    let all = ap (λ ts. take (length front) ts) (append-nil front) in
    let whole : take (length front) front ≡ front = sym all ∙ take_front front [] in
    unexpected_at front (length front) program (omega arith) (subst (λ ts. GoesOn ts program) (sym whole) goes)
    (reached.on_way program goes).within (λ less. absurd (omega (arith, less))) not_whole
  where
    not_whole : (other : ProgramPhrase) → length front ≡ length front → ¬ Spells front other
    not_whole other same spells =
        let nothing : Some (dues (one ∷ later)) ≡ Some [] =
        sym reached.due_is ∙ nothing_due_at_end front other spells in
        cc

none_due : (front : List Token) (token : Token) (more : List Token) (first : List Nested) (t : Tally) →
    Reached front first t → nested_next first token.kind ≡ None →
    IsRefused (front ++ token ∷ more) (unexpected (length front))
none_due front token more first t reached is =
    let (program, goes) = beginning_of_due front (dues first) reached.due_is in
    let there = longer front token more in
    unexpected_at (front ++ token ∷ more) (length front) program (omega (arith, there))
    (subst (λ ts. GoesOn ts program) (sym (take_front front (token ∷ more))) goes)
    (reached.on_way program goes).within no_further not_whole
  where
    no_further : length front < length (front ++ token ∷ more) →
        ¬ IsBeginning (take (length front + 1) (front ++ token ∷ more))
    no_further less begins =
        let here : IsBeginning (front ++ token ∷ []) = subst IsBeginning (take_one_more front token more) begins in
        let due = due_at_beginning (front ++ token ∷ []) here in
        let none : Some due.0 ≡ None =
        sym due.1 ∙ due_then front token first reached.due_is ∙ ap (option_map step_dues) is in
        cc

    not_whole : (other : ProgramPhrase) → length front ≡ length (front ++ token ∷ more) →
        ¬ Spells (front ++ token ∷ more) other
    not_whole other same spells = omega (arith, same, longer front token more)

passed : (front : List Token) (token : Token) (more : List Token) (first next : List Nested) (t : Tally)
    (marked : Marked) (found : Excess) → Reached front first t →
    nested_next first token.kind ≡ Some (marked, next) → IsExcess (after_token t marked) found →
    IsRefused (front ++ token ∷ more) (excess_at found (length front))
passed front token more first next t marked found reached is passes =
    let due_is : due_after (kinds (front ++ token ∷ [])) ≡ Some (dues next) =
    due_then front token first reached.due_is ∙ ap (option_map step_dues) is in
    let (program, goes) = beginning_of_due (front ++ token ∷ []) (dues next) due_is in
    let step = stepped front token first next t marked reached is program goes in
    let here = sym (tally_here program (length front) (after_token t marked) step.tally_is) in
    by_kind found program (subst (λ ts. GoesOn ts program) (sym (take_one_more front token more)) goes) step.within
    (subst (λ u. IsExcess u found) here passes)
  where
    by_kind : (found : Excess) (program : ProgramPhrase) →
        GoesOn (take (length front + 1) (front ++ token ∷ more)) program → IsWithinUpTo program (length front) →
        IsExcess (tally_at program (length front)) found →
        IsRefused (front ++ token ∷ more) (excess_at found (length front))
    by_kind of_nesting program goes within deep =
        too_deep_at (front ++ token ∷ more) (length front) program (longer front token more) goes within deep
    by_kind (of_count what) program goes within many =
        too_many_at (front ++ token ∷ more) (length front) program what (longer front token more) goes within many.0
        many.1 many.2

-- ---- the whole walk

abbrev Verdict : List Token → ProgramPhrase → Option Refusal → Type 0
Verdict tokens program None =
    (due_after (kinds tokens) ≡ Some []) × (Spells tokens program → IsWithinUpTo program (length tokens))
Verdict tokens program (Some refusal) = IsRefused tokens refusal

walked : (rest front : List Token) (first : List Nested) (t : Tally) (program : ProgramPhrase) →
    Reached front first t → Verdict (front ++ rest) program (refusal_from (going first t) (length front) (kinds rest))
walked [] front [] t program reached =
    let nil = append-nil front in
    subst (λ ts. Verdict ts program None) (sym nil) (
      reached.due_is,
      λ whole. (reached.on_way program (record {
        is_program = whole.is_program;
        rest = [];
        written = append-nil (kinds front) ∙ whole.written;
      })).within,
    )
walked [] front (one ∷ later) t program reached =
    subst (λ ts. IsRefused ts (unexpected (length front))) (sym (append-nil front)) (at_end front one later t reached)
walked (token ∷ more) front first t program reached =
    by_next (λ next u. walked more (front ++ token ∷ []) next u program) (nested_next first token.kind) refl
  where
    -- what is told of the tokens behind this one
    Behind : Type 0
    Behind =
        (next : List Nested) (u : Tally) → Reached (front ++ token ∷ []) next u →
        Verdict ((front ++ token ∷ []) ++ more) program
        (refusal_from (going next u) (length (front ++ token ∷ [])) (kinds more))

    by_excess : Behind → (marked : Marked) (next : List Nested) (found : Option Excess) →
        nested_next first token.kind ≡ Some (marked, next) → excess (after_token t marked) ≡ found →
        Verdict (front ++ token ∷ more) program
        (refusal_from (walk_within found next (after_token t marked) (length front)) (length front + 1) (kinds more))
    by_excess behind marked next (Some found) is passes =
        passed front token more first next t marked found reached is
        (subst (IsFirst (after_token t marked)) passes (excess_first (after_token t marked)))
    by_excess behind marked next None is fits =
        let one_more : length (front ++ token ∷ []) ≡ length front + 1 = omega (arith, length_then front token) in
        subst (λ n. Verdict (front ++ token ∷ more) program
        (refusal_from (going next (after_token t marked)) n (kinds more))) one_more
        (subst (λ ts. Verdict ts program
        (refusal_from (going next (after_token t marked)) (length (front ++ token ∷ [])) (kinds more)))
        (append_assoc front (token ∷ []) more)
        (behind next (after_token t marked) (reached_on front token first next t marked reached is fits)))

    by_next : Behind → (made : Option (Marked × List Nested)) → nested_next first token.kind ≡ made →
        Verdict (front ++ token ∷ more) program
        (refusal_from (walk_behind made t (length front)) (length front + 1) (kinds more))
    by_next behind None is = none_due front token more first t reached is
    by_next behind (Some (marked, next)) is = by_excess behind marked next (excess (after_token t marked)) is refl

-- ---- the laws

pub refused_by_walk : (tokens : List Token) (refusal : Refusal) → refusal_of tokens ≡ Some refusal →
    IsRefused tokens refusal
refused_by_walk tokens refusal is = subst (Verdict tokens []) is (walked tokens [] [] tally_at_start [] at_start)

pub within_by_walk : (tokens : List Token) (program : ProgramPhrase) → refusal_of tokens ≡ None →
    Spells tokens program → IsProgramText tokens program
within_by_walk tokens program is spells =
    let verdict = subst (Verdict tokens program) is (walked tokens [] [] tally_at_start program at_start) in
    let within = verdict.1 spells in
    record { spells = spells; limits = subst (IsWithinUpTo program) (same_length tokens program spells) within }

pub whole_by_walk : (tokens : List Token) → refusal_of tokens ≡ None →
    (program : ProgramPhrase) × IsProgramText tokens program
whole_by_walk tokens is =
    let verdict = subst (Verdict tokens []) is (walked tokens [] [] tally_at_start [] at_start) in
    let (program, spells) = program_of_nothing_due tokens verdict.0 in
    (program, within_by_walk tokens program is spells)
