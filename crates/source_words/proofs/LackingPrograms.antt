-- Where the tokens of a program lack a word, nothing of the program is made by it.
use Rattle.std.proofs.Common.{◌≡◌, suc, List, [], ◌∷◌, ◌++◌, arith}
use Rattle.principals.specs.ActsFor.{Declared}
use Rattle.jif_lex.specs.declared.token.Token.{Token}
use Rattle.jif_lex.specs.declared.token.TokenKind.TheVariants as kind
use Rattle.jif_lex.specs.declared.token.Word.{Word}
use Rattle.jif_lex.specs.declared.token.Word.TheVariants.{Declassify, Endorse}
use Rattle.jif_tree.specs.Trees.{ProgramTree}
use Rattle.jif_grammar.specs.DraftShapes.{DraftShape}
use Rattle.jif_grammar.specs.Programs as grammar
use Rattle.jif_resolve.specs.Meanings.{globals_of}
use Rattle.jif_resolve.specs.Verdicts.{IsProgramOf}
use Rattle.split_shades.specs.Sites.{ReleasesNothing}
use Rattle.source_law.specs.Unendorsed.{EndorsesNothing}
use Rattle.source_words.specs.Words.{LacksWord}
use Rattle.source_words.proofs.LackingDrafts.{draft_lacks}
use Rattle.source_words.proofs.LackingTrees.{all_silent, all_unendorsed}

pub releases_nothing : (list : List Token) (principals : Declared) (draft : DraftShape) (program : ProgramTree) →
    grammar.IsProgramOf list draft → IsProgramOf principals draft program → LacksWord Declassify list →
    ReleasesNothing program
releases_nothing list principals draft program parsed resolved lacks =
    all_silent principals (globals_of draft) draft.methods program.methods resolved.is_tree.methods
    (draft_lacks Declassify list draft parsed lacks)

pub endorses_nothing : (list : List Token) (principals : Declared) (draft : DraftShape) (program : ProgramTree) →
    grammar.IsProgramOf list draft → IsProgramOf principals draft program → LacksWord Endorse list →
    EndorsesNothing program
endorses_nothing list principals draft program parsed resolved lacks =
    all_unendorsed principals (globals_of draft) draft.methods program.methods resolved.is_tree.methods
    (draft_lacks Endorse list draft parsed lacks)

-- a word that stands among the tokens
pub word_found : (which : Word) (before after : List Token) (token : Token) → token.kind ≡ kind.Word which →
    ¬ LacksWord which (before ++ token ∷ after)
word_found which [] after token is lacks = lacks 0 token (omega arith) is
word_found which (first ∷ before) after token is lacks =
    word_found which before after token is (λ k d within. lacks (suc k) d (omega (arith, within)))
