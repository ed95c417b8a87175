-- What blanks and comments make of the front of a text.
use Rattle.std.proofs.Common.{◌≡◌, ◌≢◌, ℕ, suc, ◌+◌, ◌<◌, ◌≤◌, ◌⊎◌, inl, inr, Bool, true, false, cond, ◌==◌, not, List}
use Rattle.std.proofs.Common.{[], ◌∷◌, ◌++◌, length, take, drop, get_or, codes, refl, sym, ap, ◌∙◌, subst, arith}
use Rattle.std.specs.Prelude.{Contains}
use Rattle.std.specs.List.{position_or_len, count_by}
use Rattle.std.proofs.lemmas.Bool.{cases_lt}
use Rattle.std.proofs.lemmas.Bool.Decides.{nat_tests}
use Rattle.std.proofs.lemmas.List.{take_more, drop_more, drop_all, get_or-take, length-take-le, length-take}
use Rattle.std.proofs.lemmas.List.{append_assoc, append_cancel_left}
use Rattle.std.proofs.lemmas.List.Sums.{prefix_len_passes, prefix_len_stops, sum_by-cons}
use Rattle.jif_lex.specs.Tokens.{line_feeds, FirstIs, IsLineComment, IsBlockComment}
use Rattle.jif_lex.specs.Lexing.{HasFront, LacksFront, IsSkipped, EndsFirst}
use Rattle.jif_lex.proofs.Begins.{blank, other, class_of, blank_class, class_of_front}
use Rattle.jif_lex.proofs.Pieces.{line_opens, block_opens}

-- ---- the end of a comment of many lines

star_at : (before rest : List ℕ) → get_or (before ++ codes "*/" ++ rest) (length before) 0 ≡ 42
star_at [] rest = refl
star_at (x ∷ before) rest = star_at before rest

slash_at : (before rest : List ℕ) → get_or (before ++ codes "*/" ++ rest) (suc (length before)) 0 ≡ 47
slash_at [] rest = refl
slash_at (x ∷ before) rest = slash_at before rest

end_length : (before rest : List ℕ) → length (before ++ codes "*/" ++ rest) ≡ length before + 2 + length rest
end_length [] rest = omega arith
end_length (x ∷ before) rest = omega (arith, end_length before rest)

no_earlier : (text before rest : List ℕ) (place : ℕ) → place < length text →
    take (place + 1) text ≡ before ++ codes "*/" ++ rest
    → ((k : ℕ) → k + 1 < place → get_or text k 0 ≡ 42 → get_or text (k + 1) 0 ≡ 47 → ⊥) → rest ≡ []
no_earlier text before [] place within is earlier = refl
no_earlier text before (x ∷ rest) place within is earlier =
    let k = length before in
    let long : place + 1 ≡ length before + 2 + length (x ∷ rest) =
    sym (length-take-le (place + 1) text (omega arith)) ∙ ap length is ∙ end_length before (x ∷ rest) in
    let star : get_or text k 0 ≡ 42 =
    sym (get_or-take (place + 1) text k 0 (omega arith)) ∙ ap (λ (t : List ℕ). get_or t k 0) is
    ∙ star_at before (x ∷ rest) in
    let slash : get_or text (suc k) 0 ≡ 47 =
    sym (get_or-take (place + 1) text (suc k) 0 (omega arith)) ∙ ap (λ (t : List ℕ). get_or t (suc k) 0) is
    ∙ slash_at before (x ∷ rest) in
    let next : k + 1 ≡ suc k = omega arith in
    absurd (earlier k (omega arith) star (ap (λ (i : ℕ). get_or text i 0) next ∙ slash))

-- the first `*/` ends at this place
pub ends_first : (text : List ℕ) (q place : ℕ) → q + 1 ≡ place → place < length text → get_or text q 0 ≡ 42 →
    get_or text place 0 ≡ 47
    → ((k : ℕ) → k + 1 < place → get_or text k 0 ≡ 42 → get_or text (k + 1) 0 ≡ 47 → ⊥)
    → EndsFirst (take (place + 1) text) (drop (place + 1) text)
ends_first text q place is within star slash earlier =
    let last : take (place + 1) text ≡ take place text ++ 47 ∷ [] =
    take_more text place 0 within ∙ ap (λ (c : ℕ). take place text ++ c ∷ []) slash in
    let before : take place text ≡ take q text ++ 42 ∷ [] =
    sym (ap (λ (i : ℕ). take i text) is) ∙ take_more text q 0 (omega arith)
    ∙ ap (λ (c : ℕ). take q text ++ c ∷ []) star in
    let whole : take (place + 1) text ≡ take q text ++ codes "*/" =
    last ∙ ap (λ (t : List ℕ). t ++ 47 ∷ []) before ∙ append_assoc (take q text) (42 ∷ []) (47 ∷ []) in
    (take q text, whole, λ front rest same. no_earlier text front rest place within (whole ∙ same) earlier)

-- where no `*/` was found there is none
pub no_end : (text : List ℕ) → ((k : ℕ) → k + 1 < length text → get_or text k 0 ≡ 42 → get_or text (k + 1) 0 ≡ 47 → ⊥)
    → (body rest : List ℕ) → text ≢ body ++ codes "*/" ++ rest
no_end text never body rest is =
    let k = length body in
    let long = ap length is ∙ end_length body rest in
    let next : k + 1 ≡ suc k = omega arith in
    let star : get_or text k 0 ≡ 42 = ap (λ (t : List ℕ). get_or t k 0) is ∙ star_at body rest in
    let slash : get_or text (suc k) 0 ≡ 47 = ap (λ (t : List ℕ). get_or t (suc k) 0) is ∙ slash_at body rest in
    never k (omega arith) star (ap (λ (i : ℕ). get_or text i 0) next ∙ slash)

-- ---- the end of a comment of one line

line_lacks : (body : List ℕ) → ¬ Contains (take (position_or_len (λ byte. byte == 10) body) body) 10
line_lacks body found =
    let n = position_or_len (λ (byte : ℕ). byte == 10) body in
    let p : ℕ → Bool = λ byte. not (byte == 10) in
    let k = found.0 in
    let short = length-take n body in
    let within : k < n = omega (arith, found.1) in
    let here : get_or body k 10 ≡ 10 = sym (get_or-take n body k 10 within) ∙ found.2 in
    let passes : p (get_or body k 10) ≡ true = prefix_len_passes p body k 10 within in
    let fails : p (get_or body k 10) ≡ false = ap p here in
    let never : true ≡ false = sym passes ∙ fails in cc

line_end : (body : List ℕ) (n : ℕ) → n ≡ position_or_len (λ byte. byte == 10) body →
    (drop n body ≡ []) ⊎ FirstIs (λ byte. byte ≡ 10) (drop n body)
line_end body n is = elim (cases_lt n (length body)) [
  | inl within ↦ (
      let p : ℕ → Bool = λ byte. not (byte == 10) in
      let stops : p (get_or body n 0) ≡ false =
      ap (λ (k : ℕ). p (get_or body k 0)) is
      ∙ prefix_len_stops p body 0 (let P : ℕ → Type 0 = λ k. k < length body in subst P is within) in
      let ten : get_or body n 0 ≡ 10 = grind (arith, nat_tests) in
      let P : List ℕ → Type 0 = FirstIs (λ byte. byte ≡ 10) in
      inr (subst P (sym (drop_more body n 0 within)) ten))
  | inr past ↦ inl (drop_all n body past)
]

-- ---- the front of a text

two_more : (a b : ℕ) (body : List ℕ) (n : ℕ) (P : List ℕ → List ℕ → Type 0) → n ≤ length body →
    P (a ∷ b ∷ take n body) (drop n body) → HasFront (a ∷ b ∷ body) (2 + n) P
two_more a b body n P within is =
    let e : suc (suc n) ≡ 2 + n = omega arith in
    let Q : ℕ → Type 0 = λ k. P (take k (a ∷ b ∷ body)) (drop k (a ∷ b ∷ body)) in
    (omega arith, subst Q e is)

-- a comment of one line is skipped
pub line_front : (text body : List ℕ) (n : ℕ) → text ≡ codes "//" ++ body →
    n ≡ position_or_len (λ byte. byte == 10) body → n ≤ length body → HasFront text (2 + n) IsSkipped
line_front text body n is len within =
    let P : List ℕ → Type 0 = λ t. HasFront t (2 + n) IsSkipped in
    let Q : ℕ → Type 0 = λ k. ¬ Contains (take k body) 10 in
    let comment : IsLineComment (47 ∷ 47 ∷ take n body) (drop n body) = record {
      body = take n body;
      written = refl;
      one_line = subst Q (sym len) (line_lacks body);
      to_its_end = line_end body n len;
    } in
    subst P (sym is) (two_more 47 47 body n IsSkipped within (inr (inl comment)))

-- a comment of many lines is skipped
pub block_front : (text body : List ℕ) (n : ℕ) → text ≡ codes "/*" ++ body → HasFront body n EndsFirst →
    HasFront text (2 + n) IsSkipped
block_front text body n is ends =
    let P : List ℕ → Type 0 = λ t. HasFront t (2 + n) IsSkipped in
    let comment : IsBlockComment (47 ∷ 42 ∷ take n body) = record {
      body = ends.1.0;
      written = ap (λ (t : List ℕ). 47 ∷ 42 ∷ t) ends.1.1;
      first_end = ends.1.2;
    } in
    subst P (sym is) (two_more 47 42 body n IsSkipped ends.0 (inr (inr comment)))

-- a comment that has no end is not skipped
pub open_lacks : (text body : List ℕ) → text ≡ codes "/*" ++ body →
    ((inside rest : List ℕ) → body ≢ inside ++ codes "*/" ++ rest) → LacksFront text IsSkipped
open_lacks text body is never front after same piece = elim piece [
  | inl one ↦ (let there =
      sym (ap class_of is) ∙ ap class_of same
      ∙ class_of_front front after blank (blank_class front one) (λ e. cc) in let both : other ≡ blank = there in cc)
  | inr b ↦ elim b [
    | inl line ↦ (let both : codes "/*" ++ body ≡ codes "//" ++ (line.body ++ after) =
        sym is ∙ same ∙ line_opens front after line in cc)
    | inr block ↦ (
        let both : codes "/*" ++ body ≡ codes "/*" ++ ((block.body ++ codes "*/") ++ after) =
        sym is ∙ same ∙ block_opens front after block in
        never block.body after (append_cancel_left (codes "/*") body ((block.body ++ codes "*/") ++ after) both))
  ]
]

-- ---- line feeds

pub line_feeds_count : (bytes : List ℕ) → line_feeds bytes ≡ count_by (λ byte. byte == 10) bytes
line_feeds_count [] = refl
line_feeds_count (byte ∷ bytes) =
    ap (λ (n : ℕ). cond (byte == 10) 1 0 + n) (line_feeds_count bytes)
    ∙ sym (sum_by-cons (λ (x : ℕ). cond (x == 10) 1 0) byte bytes)
