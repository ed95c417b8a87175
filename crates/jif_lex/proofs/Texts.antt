-- Words as texts.
use Rattle.std.proofs.Common.{◌≡◌, ◌≢◌, ℕ, false, ◌&&◌, not, List, [], ◌∷◌}
use Rattle.std.proofs.Common.{refl}
use Rattle.std.specs.List.{list_all, list_any}
use Rattle.std.specs.Str.{bytes_eq}
use Rattle.std.proofs.lemmas.Slice.Eq.{bytes_eq-Decides}
use Rattle.std.proofs.lemmas.Bool.{and_from, or_from, false_from_ne_true, not_from_false}
use Rattle.js_base.specs.Name.{IsName, starts_name, continues_name, keywords}
use Rattle.jif_lex.specs.declared.token.Word.{Word}
use Rattle.jif_lex.specs.declared.token.Word.TheVariants.{Int, Void, If, Else, While, Return, Where, Authority}
use Rattle.jif_lex.specs.declared.token.Word.TheVariants.{Declassify, Endorse}
use Rattle.jif_lex.specs.Symbols.{word_text}
use Rattle.jif_lex.specs.Tokens.{IsWordLike}

-- what is like a word and is no keyword is a name
pub name_from_word : (text : List ℕ) → IsWordLike text → ((word : Word) → text ≢ word_text word) → IsName text
name_from_word [] is none = absurd is
name_from_word (byte ∷ bytes) is none =
    let text : List ℕ = byte ∷ bytes in
    let lacks : (word : Word) → bytes_eq text (word_text word) ≡ false =
    λ word. false_from_ne_true (bytes_eq text (word_text word))
    (λ e. none word ((bytes_eq-Decides text (word_text word)).0 e)) in
    let no_keyword : list_any (bytes_eq text) keywords ≡ false =
    or_from _ _ (lacks Int) (or_from _ _ (lacks Void)
    (or_from _ _ (lacks If) (or_from _ _ (lacks Else) (or_from _ _ (lacks While)
    (or_from _ _ (lacks Return)
    (or_from _ _ (lacks Where)
    (or_from _ _ (lacks Authority) (or_from _ _ (lacks Declassify) (or_from _ _ (lacks Endorse) refl))))))))) in
    and_from (starts_name byte && list_all continues_name bytes) (not (list_any (bytes_eq text) keywords))
    (and_from (starts_name byte) (list_all continues_name bytes) is.0 is.1)
    (not_from_false (list_any (bytes_eq text) keywords) no_keyword)
