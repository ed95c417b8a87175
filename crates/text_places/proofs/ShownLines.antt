-- What is shown of a line, with one byte more.
use Rattle.std.proofs.Common.{◌≡◌, ◌∙◌, ℕ, ◌+◌, ◌<◌, List, [], ◌∷◌, ◌++◌, length, map, take, get_or, refl, sym, ap}
use Rattle.std.proofs.Common.{append-nil, Bool, false, ⊎_elim}
use Rattle.std.specs.Prelude.{◌≢◌, ◌==◌, if◌then◌else◌}
use Rattle.std.specs.List.{flat_map}
use Rattle.std.proofs.lemmas.List.{take_more, map-append}
use Rattle.std.proofs.lemmas.Bool.Decides.{eqb_tells}
use Rattle.std.proofs.lemmas.Grind.{flat_map-append}
use Rattle.text_places.specs.Excerpts.{front_from}

front_push : (line front : List ℕ) (byte : ℕ) →
    front_from line (front ++ byte ∷ []) ≡ (if byte == 10 then [] else front_from line front ++ byte ∷ [])
front_push line [] byte = refl
front_push line (b ∷ front) byte = front_push (if b == 10 then [] else line ++ b ∷ []) front byte

pub front_more : (text : List ℕ) (i d : ℕ) → i < length text →
    front_from [] (take (i + 1) text)
    ≡ (if get_or text i d == 10 then [] else front_from [] (take i text) ++ get_or text i d ∷ [])
front_more text i d lt = ap (front_from []) (take_more text i d lt) ∙ front_push [] (take i text) (get_or text i d)

pub mapped_more : (f : ℕ → ℕ) (bytes : List ℕ) (i d : ℕ) → i < length bytes →
    map f (take (i + 1) bytes) ≡ map f (take i bytes) ++ f (get_or bytes i d) ∷ []
mapped_more f bytes i d lt =
    ap (map f) (take_more bytes i d lt) ∙ map-append f (take i bytes) (get_or bytes i d ∷ [])

pub below_more : (f : ℕ → List ℕ) (bytes : List ℕ) (i d : ℕ) → i < length bytes →
    flat_map f (take (i + 1) bytes) ≡ flat_map f (take i bytes) ++ f (get_or bytes i d)
below_more f bytes i d lt =
    ap (flat_map f) (take_more bytes i d lt) ∙ flat_map-append f (take i bytes) (get_or bytes i d ∷ [])
    ∙ ap (λ last. flat_map f (take i bytes) ++ last) (append-nil (f (get_or bytes i d)))

not_same : (a b : ℕ) → a ≢ b → (a == b) ≡ false
not_same a b other = ⊎_elim (λ is. absurd (other is.1)) (λ is. is.0) (eqb_tells a b)

-- behind a line feed the line begins anew
pub front_ended : (text : List ℕ) (i d : ℕ) (after : List ℕ) → i < length text → get_or text i d ≡ 10 → after ≡ [] →
    after ≡ front_from [] (take (i + 1) text)
front_ended text i d after lt feed none =
    none
    ∙ sym (front_more text i d lt ∙ ap (λ b. if b == 10 then [] else front_from [] (take i text) ++ b ∷ []) feed)

-- any other byte belongs to it
pub front_goes : (text : List ℕ) (i d : ℕ) (before after : List ℕ) → i < length text → get_or text i d ≢ 10 →
    before ≡ front_from [] (take i text) → after ≡ before ++ get_or text i d ∷ [] →
    after ≡ front_from [] (take (i + 1) text)
front_goes text i d before after lt other was is =
    is ∙ ap (λ line. line ++ get_or text i d ∷ []) was
    ∙ sym (front_more text i d lt
    ∙ ap (λ (feed : Bool). if feed then [] else front_from [] (take i text) ++ get_or text i d ∷ [])
    (not_same (get_or text i d) 10 other))
