-- What the words that a program's text lacks say of the program.
use Rattle.std.proofs.Common.{◌≡◌, ◌∙◌, ℕ, List, Option, Some, sym, subst}
use Rattle.js_base.specs.declared.status.Status.TheVariants.{Differ}
use Rattle.principals.specs.ActsFor.{Declared}
use Rattle.jif_lex.specs.declared.token.Token.{Token}
use Rattle.jif_lex.specs.declared.token.Word.{Word}
use Rattle.jif_lex.specs.declared.token.Word.TheVariants.{Declassify, Endorse}
use Rattle.jif_lex.specs.Tokens.{Reading, ReadsAs, tokens}
use Rattle.jif_tree.specs.Trees.{ProgramTree}
use Rattle.jif_grammar.specs.DraftShapes.{DraftShape}
use Rattle.jif_grammar.specs.Programs as grammar
use Rattle.jif_resolve.specs.Verdicts.{IsProgramOf}
use Rattle.source_law.specs.Unendorsed.{EndorsesNothing}
use Rattle.source_words.specs.Words.{LacksWord}
use Rattle.split_shades.specs.Sites.{ReleasesNothing}
use Rattle.front_end.specs.PlacedSources.{PlacedSource, PlacedSources}
use Rattle.front_end.specs.Stages.{given}
use Rattle.front_end.specs.Verdicts.{Print}
use Rattle.front_end.proofs.ReadSources.{IsReadSource, source_given, read_source}
use Rattle.split_words.specs.Commands.{Compare, words_of}
use Rattle.split_cli.specs.Due.{Due}
use Rattle.split_cli.proofs.Compared.{PrivateLaws, compare_is_private}
use Rattle.split_cli.proofs.Faithful.{AllLaws}
use Rattle.split_cli.proofs.SilentComparisons.{same_bytes, done_differs}

-- what a program is by its tokens, for the law of one word
abbrev OfTokens : Word → (ProgramTree → Type 0) → Type 0
OfTokens word Is = (list : List Token) (principals : Declared) (draft : DraftShape) (program : ProgramTree) →
    grammar.IsProgramOf list draft → IsProgramOf principals draft program → LacksWord word list → Is program

-- what a program is by its text, for the law of one word
abbrev OfText : Word → (ProgramTree → Type 0) → Type 0
OfText word Is = (program hosts : List ℕ) (list : List Token) (placed : PlacedSource) →
    PlacedSources program hosts (given placed) → ReadsAs program (tokens list) → LacksWord word list →
    Is placed.source.tree

-- a text has one reading
abbrev OneReading : Type 0
OneReading = (text : List ℕ) (first second : Reading) → ReadsAs text first → ReadsAs text second → first ≡ second

pub record WordLaws : Type 0 where
  pub once : OneReading
  pub releases : OfTokens Declassify ReleasesNothing
  pub endorses : OfTokens Endorse EndorsesNothing

same_tokens : (one other : List Token) → tokens one ≡ tokens other → one ≡ other
same_tokens one other same = cc

-- the tokens of a text are those of which the program was made
by_text : OneReading → (word : Word) (Is : ProgramTree → Type 0) → OfTokens word Is → OfText word Is
by_text once word Is of_tokens program hosts list placed accepted reads lacks =
    let read : IsReadSource program hosts placed.source =
    read_source program hosts placed.source (source_given program hosts placed accepted) in
    let same : list ≡ read.list =
    same_tokens list read.list (once program (tokens list) (tokens read.list) reads read.read) in
    of_tokens read.list placed.source.file.principals read.draft placed.source.tree read.parsed read.resolved
    (subst (LacksWord word) same lacks)

pub text_releases : WordLaws → OfText Declassify ReleasesNothing
text_releases laws = by_text laws.once Declassify ReleasesNothing laws.releases

pub text_endorses : WordLaws → OfText Endorse EndorsesNothing
text_endorses laws = by_text laws.once Endorse EndorsesNothing laws.endorses

-- no comparison says that two runs of a program without the word differ
pub never_differs_by_text : AllLaws → PrivateLaws → WordLaws → (program hosts one other p : List ℕ) (list : List Token)
    (holds : List ℕ → Option (List ℕ)) (number : ℕ) (text : List ℕ) → holds program ≡ Some p →
    ReadsAs p (tokens list) → LacksWord Declassify list →
    ¬ Due (words_of (Compare program hosts one other)) (Some holds) number (Print Differ text)
never_differs_by_text sets laws words program hosts one other p list holds number text told reads lacks due =
    let it = compare_is_private sets laws program hosts one other (Some holds) number Differ text due in
    let same : p ≡ it.program_bytes = same_bytes p it.program_bytes (sym told ∙ it.program_told) in
    done_differs (it.is.never_differs
    (text_releases words it.program_bytes it.hosts_bytes list it.is.placed it.is.is_placed.accepted
    (subst (λ (bytes : List ℕ). ReadsAs bytes (tokens list)) same reads) lacks))
