-- The text of a program that was resolved is read as the same program, but for its lines.
use Rattle.std.proofs.Common.{◌≡◌, ◌≤◌, ℕ, pos, true, List, [], ◌∷◌, refl, ◌∙◌, subst, arith}
use Rattle.std.specs.List.{AllByRecursion}
use Rattle.std.proofs.lemmas.Int.{ints}
use Rattle.std.proofs.lemmas.List.Elements.{recursion_from_All}
use Rattle.js_base.specs.declared.limits.TheConstants.{ARRAY_SIZE}
use Rattle.principals.specs.ActsFor.{Declared, IsDeclared}
use Rattle.jif_lex.specs.declared.token.Token.{Token}
use Rattle.jif_lex.specs.Tokens.{ReadsAs, tokens}
use Rattle.jif_lex.specs.TokenLists.{AreTokens}
use Rattle.jif_lex.specs.Spelled.{Spelled}
use Rattle.label_lattice.specs.Written.{kinds}
use Rattle.jif_tree.specs.Trees.{ProgramTree}
use Rattle.jif_grammar.specs.Phrases as phrase
use Rattle.jif_grammar.specs.Phrases.{FieldEnd, ProgramPhrase}
use Rattle.jif_grammar.specs.Unmarked.{program_then}
use Rattle.jif_grammar.specs.Grouping.{IsProgram}
use Rattle.jif_grammar.specs.DraftShapes.{FieldShape, DraftShape}
use Rattle.jif_grammar.specs.Drafts.{is_array, first_value, fields_at, after_item, draft_of}
use Rattle.jif_grammar.specs.Programs as grammar
use Rattle.jif_grammar.specs.Programs.{Spells, line_at}
use Rattle.jif_resolve.specs.Returns.{MethodReturnsLast, AreReturnedLast}
use Rattle.jif_resolve.specs.Sizes.{IsSizedField, KeepsLimits}
use Rattle.jif_resolve.specs.Verdicts.{IsProgramOf}
use Rattle.jif_parse.specs.PrintedNames.{Naming}
use Rattle.jif_parse.specs.PrintedBack.{ReadsBack}
use Rattle.jif_parse.proofs.PrintedPieces.{program_pieces}
use Rattle.jif_parse.proofs.PrintedKinds.{program_kinds}
use Rattle.jif_parse.proofs.PrintedApart.{IsSmall, program_apart}
use Rattle.jif_parse.proofs.PrintedPhrases.{methods_phrases, program_phrase, program_grouped}
use Rattle.jif_parse.proofs.PrintedSpelled.{program_spelled}
use Rattle.jif_parse.proofs.PrintedLabels.{Laws}
use Rattle.jif_parse.proofs.PrintedBackGlobals.{ArePlainFields, globals_apart}
use Rattle.jif_parse.proofs.PrintedBackProgram.{IsNamedField, program_back}
use Rattle.jif_parse.proofs.PrintedNamesOf.{StartsSmall, phrases_found}
use Rattle.jif_parse.proofs.PrintedLimits.{printed_within}

-- ---- what the parser keeps of a draft

-- an array starts with zeros
abbrev StartsWithZeros : FieldShape → Type 0
StartsWithZeros field = field.array ≡ true → field.first ≡ pos 0

ending_zeros : (ending : FieldEnd) → is_array ending ≡ true → first_value ending ≡ pos 0
ending_zeros phrase.unset is = refl
ending_zeros (phrase.sized n) is = refl
ending_zeros (phrase.set b n) is = absurd cc

start_with_zeros : (program : ProgramPhrase) (at : ℕ) → AllByRecursion StartsWithZeros (fields_at at program)
start_with_zeros [] at = tt
start_with_zeros (phrase.field field ∷ items) at =
    (ending_zeros field.ending, start_with_zeros items (after_item at (phrase.field field)))
start_with_zeros (phrase.method method ∷ items) at = start_with_zeros items (after_item at (phrase.method method))

small_size : (n : ℕ) → n ≤ ARRAY_SIZE → IsSmall n
small_size n small = grind (arith, ints)

plain_fields : (fields : List FieldShape) → AllByRecursion IsSizedField fields →
    AllByRecursion StartsWithZeros fields → ArePlainFields fields
plain_fields [] sized zeros = tt
plain_fields (field ∷ fields) sized zeros = (
  record { some = omega (arith, sized.0.least); plain = sized.0.plain; unset = zeros.0 },
  plain_fields fields sized.1 zeros.1,
)

named_fields : (fields : List FieldShape) → AllByRecursion IsSizedField fields → AllByRecursion StartsSmall fields →
    AllByRecursion IsNamedField fields
named_fields [] sized starts = tt
named_fields (field ∷ fields) sized starts = (
  record { name = starts.0.0.name; size = small_size field.size sized.0.most; first = starts.0.1 },
  named_fields fields sized.1 starts.1,
)

-- ---- the laws of the grammar and of names

abbrev pub SpelledPrograms : Type 0
SpelledPrograms = (list : List Token) (program : ProgramPhrase) → IsProgram program →
    kinds list ≡ program_then program [] → Spells list program

-- a draft of the parser keeps its limits, and returns last
pub record DraftLaws : Type 0 where
  pub kept : (list : List Token) (draft : DraftShape) → grammar.IsProgramOf list draft → KeepsLimits draft
  pub returns : (list : List Token) (draft : DraftShape) → grammar.IsProgramOf list draft → AreReturnedLast draft

pub reads_back : Laws → SpelledPrograms → DraftLaws → (principals : Declared) (list : List Token)
    (draft : DraftShape) (tree : ProgramTree) → IsDeclared principals → AreTokens list →
    grammar.IsProgramOf list draft →
    IsProgramOf principals draft tree → ReadsBack principals tree
reads_back laws spelled_programs drafts principals list draft tree declared fits is_program resolved =
    let naming : Naming = record { principals = principals; program = tree } in
    let lines : ℕ → ℕ = line_at list in
    let q : ProgramPhrase = is_program.program in
    let own : DraftShape = draft_of lines q in
    let kept : KeepsLimits own = subst KeepsLimits is_program.draft_is (drafts.kept list draft is_program) in
    let returned : AreReturnedLast own =
    subst AreReturnedLast is_program.draft_is (drafts.returns list draft is_program) in
    let own_resolved : IsProgramOf principals own tree =
    subst (λ d. IsProgramOf principals d tree) is_program.draft_is resolved in
    let found = phrases_found list q fits is_program.text.spells lines in
    let sized = recursion_from_All IsSizedField own.fields kept.sizes in
    let made = program_back laws principals declared own tree (record {
      apart = globals_apart lines q;
      plain = plain_fields own.fields sized (start_with_zeros q 0);
      fields = named_fields own.fields sized found.0;
      methods = found.1;
      returns = recursion_from_All MethodReturnsLast own.methods returned;
    }) own_resolved in
    let program : ProgramPhrase = program_phrase principals tree in
    let pieces : List Spelled = program_pieces program [] in
    let has = laws.spelled pieces (program_apart program [] made.named tt) in
    let spells = spelled_programs has.0 program (program_grouped principals tree made.some)
    (has.2 ∙ program_kinds program []) in
    let within = printed_within principals naming lines q tree.fields (methods_phrases naming 0 tree.methods)
    is_program.text.spells.is_program is_program.text.limits own_resolved.is_tree.fields made.alike in
    let fresh = made.back (line_at has.0) in
    record {
      list = has.0;
      read = subst (λ t. ReadsAs t (tokens has.0)) (program_spelled principals tree made.printable) has.1;
      draft = draft_of (line_at has.0) program;
      is_program = record { program = program; text = record { spells = spells; limits = within }; draft_is = refl };
      again = fresh.again;
      resolved = fresh.is;
      same = fresh.same;
    }
