-- The names of variables.
use Rattle.std.proofs.Common.{◌≡◌, ℕ, suc, ◌+◌, ◌≤◌, ◌⊎◌, inl, inr, Bool, true, false, ◌&&◌, ◌||◌, List, [], ◌∷◌, ◌++◌}
use Rattle.std.proofs.Common.{length, get_or, take, drop, refl, sym, ap, subst, ◌∙◌, arith, rules}
use Rattle.std.specs.Prelude.{codes}
use Rattle.std.specs.List.{position_or_len, before_first, after_first}
use Rattle.std.specs.Str.{IsUtf8, bytes_eq}
use Rattle.std.proofs.lemmas.Bool.{cases_lt, eqb-true, and_parts, false_from_ne_true}
use Rattle.std.proofs.lemmas.List.{drop_all, drop-drop, drop_at, take_at, get_or_at, get_or_append_left, get_or_default}
use Rattle.std.proofs.lemmas.List.{length-append}
use Rattle.std.proofs.lemmas.List.Sums.{split_at_first, passes_at_first, position_or_len_is}
use Rattle.std.proofs.lemmas.Slice.Eq.{bytes_eq-Decides}
use Rattle.std.proofs.lemmas.Str.{IsUtf8-append}
use Rattle.js_base.specs.Name.{IsName, is_name}
use Rattle.js_base.proofs.NameTexts.{name_lacks, name_IsUtf8}
use Rattle.host_code.specs.Sound.{IsVariableName}
use Rattle.split_file.specs.Reading.{is_dot, is_variable_name}

either : (one other : Bool) → (one || other) ≡ true → (one ≡ true) ⊎ (other ≡ true)
either true other is = inl refl
either false other is = inr is

both : (one other : Bool) → one ≡ true → other ≡ true → (one && other) ≡ true
both one other first second = cc

-- where there is no dot, nothing is behind the first
nothing_called : (text : List ℕ) → length text ≤ position_or_len is_dot text →
    (is_name (after_first is_dot text) || bytes_eq (after_first is_dot text) (codes "return")) ≡ true → ⊥
nothing_called text past is =
    let none : after_first is_dot text ≡ [] = drop_all (position_or_len is_dot text + 1) text (omega arith) in
    let P : List ℕ → Type 0 = λ name. (is_name name || bytes_eq name (codes "return")) ≡ true in
    let at_none : P [] = subst P none is in
    absurd cc

pub variable_name_is : (text : List ℕ) → is_variable_name text ≡ true → IsVariableName text
variable_name_is text is =
    let parts = and_parts (is_name (before_first is_dot text))
    (is_name (after_first is_dot text) || bytes_eq (after_first is_dot text) (codes "return")) is in
    elim (cases_lt (position_or_len is_dot text) (length text)) [
      | inl lt ↦
          let dot : get_or text (position_or_len is_dot text) 0 ≡ 46 =
          eqb-true _ _ (passes_at_first is_dot text 0 lt) in
          let whole : text ≡ before_first is_dot text ++ (46 ∷ after_first is_dot text) =
          split_at_first is_dot text 0 lt
          ∙ ap (λ (b : ℕ). before_first is_dot text ++ (b ∷ after_first is_dot text)) dot in
          let called : IsName (after_first is_dot text) ⊎ (after_first is_dot text ≡ codes "return") =
          elim (either _ _ parts.1) [
            | inl name ↦ inl name
            | inr same ↦ inr ((bytes_eq-Decides (after_first is_dot text) (codes "return")).0 same)
          ] in
          (before_first is_dot text, after_first is_dot text, parts.0, called, whole)
      | inr past ↦ absurd (nothing_called text past parts.1)
    ]

called_IsUtf8 : (name : List ℕ) → IsName name ⊎ (name ≡ codes "return") → IsUtf8 name
called_IsUtf8 name (inl is) = name_IsUtf8 name is
called_IsUtf8 name (inr is) = subst IsUtf8 (sym is) (search rules)

-- the name of a variable is a text
pub variable_name_IsUtf8 : (text : List ℕ) → is_variable_name text ≡ true → IsUtf8 text
variable_name_IsUtf8 text is =
    let parts = variable_name_is text is in
    let dot : IsUtf8 (codes ".") = search rules in
    subst IsUtf8 (sym parts.4) (IsUtf8-append parts.0 (codes "." ++ parts.1) (name_IsUtf8 parts.0 parts.2)
    (IsUtf8-append (codes ".") parts.1 dot (called_IsUtf8 parts.1 parts.3)))

-- a name has no dot
before_dot : (method rest : List ℕ) → IsName method → position_or_len is_dot (method ++ (46 ∷ rest)) ≡ length method
before_dot method rest is =
    let whole = method ++ (46 ∷ rest) in
    let long : length whole ≡ length method + suc (length rest) = length-append method (46 ∷ rest) in
    let at : get_or whole (length method) 0 ≡ 46 = get_or_at method 46 rest 0 (length method) refl in
    position_or_len_is is_dot whole (length method) 0 (omega arith)
    (λ k below. false_from_ne_true _ (λ dot. name_lacks 46 method refl is (
      k,
      below,
      get_or_default method k _ 0 below ∙ sym (get_or_append_left method (46 ∷ rest) 0 k below)
          ∙ eqb-true _ _ dot,
    )))
    (λ below. rw at refl)

called_again : (name : List ℕ) → IsName name ⊎ (name ≡ codes "return") →
    (is_name name || bytes_eq name (codes "return")) ≡ true
called_again name (inl is) = cc
called_again name (inr is) = rw is refl

pub variable_name_again : (text : List ℕ) → IsVariableName text → is_variable_name text ≡ true
variable_name_again text parts =
    let whole = parts.0 ++ (46 ∷ parts.1) in
    let len = before_dot parts.0 parts.1 parts.2 in
    let front : before_first is_dot whole ≡ parts.0 = rw len (take_at parts.0 (46 ∷ parts.1) (length parts.0) refl) in
    let back : after_first is_dot whole ≡ parts.1 =
    rw len (sym (drop-drop 1 (length parts.0) whole) ∙ ap (drop 1)
    (drop_at parts.0 (46 ∷ parts.1) (length parts.0) refl)) in
    subst (λ (t : List ℕ). is_variable_name t ≡ true) (sym parts.4)
    (rw (front, back) (both _ _ parts.2 (called_again parts.1 parts.3)))

-- the test by parts
pub variable_tested : (text method name : List ℕ) (called : Bool) (len : ℕ) → len ≡ position_or_len is_dot text →
    method ≡ take len text → name ≡ drop 1 (drop len text) → is_name method ≡ true →
    called ≡ (is_name name || bytes_eq name (codes "return")) → called ≡ is_variable_name text
variable_tested text method name called len at front back first second =
    let before : before_first is_dot text ≡ method = sym (front ∙ ap (λ k. take k text) at) in
    let after : after_first is_dot text ≡ name =
    sym (back ∙ drop-drop 1 len text ∙ ap (λ k. drop (k + 1) text) at) in
    second ∙ rw (before, after, first) refl
