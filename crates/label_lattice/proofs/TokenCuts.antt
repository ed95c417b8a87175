-- Cuts of lists of tokens.
use Rattle.std.proofs.Common.{ℕ, ◌≡◌, ◌≢◌, ◌<◌, ◌≤◌, ◌+◌, ◌-◌, ◌∙◌, sym, ap, subst, suc, inl, inr, List, ◌∷◌, ◌++◌}
use Rattle.std.proofs.Common.{length, take, drop, get_or, arith}
use Rattle.std.specs.Prelude.{Contains}
use Rattle.std.proofs.lemmas.Bool.{cases_lt}
use Rattle.std.specs.List.{take-map}
use Rattle.std.proofs.lemmas.List.{get_or-take, take-append-drop, take_all, map-append, get_or-map, length-map}
use Rattle.std.proofs.lemmas.List.{length-take, length-drop}
use Rattle.std.proofs.Math.Seq.{drop-cons}
use Rattle.jif_lex.specs.declared.token.Token.{Token}
use Rattle.jif_lex.specs.declared.token.TokenKind.{TokenKind}
use Rattle.label_lattice.specs.Written.{kinds}

-- no token before a place is the separator
abbrev pub NoneBefore : List Token → TokenKind → ℕ → Type 0
NoneBefore tokens separator place = (k : ℕ) → k < place → get_or (kinds tokens) k separator ≢ separator

pub none_before_more : (tokens : List Token) (separator : TokenKind) (place : ℕ) (token : Token) →
    place < length tokens → token ≡ get_or tokens place token → token.kind ≢ separator →
    NoneBefore tokens separator place → NoneBefore tokens separator (place + 1)
none_before_more tokens separator place token within read other so_far k below = elim (cases_lt k place) [
  | inl less ↦ so_far k less
  | inr more ↦
      let at : place ≡ k = omega arith in
      let P : ℕ → Type 0 = λ n. get_or (kinds tokens) n separator ≢ separator in
      let here : get_or (kinds tokens) place separator ≡ token.kind =
      get_or-map (λ t. t.kind) tokens place token separator within ∙ ap (λ t. t.kind) (sym read) in
      subst P at (λ is. other (sym here ∙ is))
]

pub lacks : (tokens : List Token) (separator : TokenKind) (place : ℕ) → length tokens ≤ place →
    NoneBefore tokens separator place → ¬ Contains (kinds tokens) separator
lacks tokens separator place all none found =
    none found.0 (omega (arith, found.1, length-map tokens (λ t. t.kind), all)) found.2

pub lacks_in_front : (tokens : List Token) (separator : TokenKind) (place : ℕ) → NoneBefore tokens separator place →
    ¬ Contains (kinds (take place tokens)) separator
lacks_in_front tokens separator place none found =
    let inside : found.0 < length (take place tokens) =
    omega (arith, found.1, length-map (take place tokens) (λ t. t.kind)) in
    let before : found.0 < place = omega (arith, inside, length-take place tokens) in
    let same : get_or (kinds (take place tokens)) found.0 separator ≡ get_or (kinds tokens) found.0 separator =
    ap (λ ks. get_or ks found.0 separator) (sym (take-map (λ t. t.kind) place tokens))
    ∙ get_or-take place (kinds tokens) found.0 separator before in
    none found.0 before (sym same ∙ found.2)

pub cut_here : (tokens : List Token) (separator : TokenKind) (place : ℕ) (token : Token) → place < length tokens →
    token ≡ get_or tokens place token → token.kind ≡ separator →
    kinds tokens ≡ kinds (take place tokens) ++ separator ∷ kinds
    (take (length tokens - (place + 1)) (drop (place + 1) tokens))
cut_here tokens separator place token within read is =
    let next : suc place ≡ place + 1 = omega arith in
    let rest : drop place tokens ≡ get_or tokens place token ∷ drop (suc place) tokens =
    drop-cons tokens place token within in
    let all : take (length tokens - (place + 1)) (drop (place + 1) tokens) ≡ drop (place + 1) tokens =
    take_all (length tokens - (place + 1)) (drop (place + 1) tokens)
    (omega (arith, length-drop (place + 1) tokens)) in
    let head : (get_or tokens place token).kind ≡ separator = ap (λ t. t.kind) (sym read) ∙ is in
    let tail : kinds (drop (suc place) tokens) ≡ kinds (take (length tokens - (place + 1)) (drop (place + 1) tokens))
    = ap (λ n. kinds (drop n tokens)) next ∙ ap kinds (sym all) in
    ap kinds (sym (take-append-drop place tokens)) ∙ map-append (λ t. t.kind) (take place tokens) (drop place tokens)
    ∙ ap (λ ts. kinds (take place tokens) ++ kinds ts) rest
    ∙ ap (λ k. kinds (take place tokens) ++ k ∷ kinds (drop (suc place) tokens)) head
    ∙ ap (λ ks. kinds (take place tokens) ++ separator ∷ ks) tail
