-- The parts of a label, added one after another.
use Rattle.std.proofs.Common.{ℕ, ◌≡◌, ◌⊎◌, ◌↔◌, ◌∙◌, sym, refl, subst, inl, inr, List, [], ◌∷◌, ◌++◌, Option, None}
use Rattle.std.proofs.Common.{Some, Result, Ok, Err, arith}
use Rattle.std.specs.Prelude.{Any, IfNone, IfOk, ⊤}
use Rattle.std.specs.List.{AllZip}
use Rattle.std.proofs.lemmas.List.{append_cancel_right}
use Rattle.std.proofs.lemmas.List.Quantifiers.{Any-push}
use Rattle.jif_lex.specs.declared.token.TokenKind.{TokenKind}
use Rattle.jif_lex.specs.declared.token.Symbol.TheVariants.{Semicolon, Question, LeftBrace, RightBrace}
use Rattle.jif_lex.specs.declared.token.Token.{Token}
use Rattle.js_base.proofs.Lists.{zip_push, zip_at}
use Rattle.js_base.specs.declared.OutOfMemory.{OutOfMemory}
use Rattle.principals.specs.ActsFor.{Declared}
use Rattle.label_lattice.specs.declared.label.Label.{Label}
use Rattle.label_lattice.specs.Label.{Forbids, Trusts, ForbidsNothing, IsUntrusted}
use Rattle.label_lattice.specs.Written.{symbol, Part, policy, trust, part_tokens, parts_tokens, TrustIsLast, KnownPart}
use Rattle.label_lattice.specs.Written.{IsKnownPart, PartForbids, PartTrusts, IsMadeOf, IsPartsOf, IsLabelOf, kinds}
use Rattle.label_lattice.specs.Reading.{CutsAt, IsAllLeft, MayStand, Adds, AddsPart, IsNoPart}
use Rattle.label_lattice.proofs.Joins.{IsLeft, LeftOf, Next, left_at_start, left_more, left_at_end, next_item}
use Rattle.label_lattice.proofs.AnyLemmas.{any_old, any_cases}
use Rattle.label_lattice.proofs.PartLemmas.{no_semicolon, a_part}

-- ---- what the parts so far make

pub made_of_none : (principals : Declared) (label : Label) → ForbidsNothing label → IsUntrusted label →
    IsMadeOf principals [] label
made_of_none principals label nothing untrusted = record {
  forbids = λ owner reader owner_in reader_in.
      (λ forbids. absurd (nothing owner reader owner_in reader_in forbids), λ some. absurd (omega (arith, some.2)));
  trusts = λ p within. (λ trusts. absurd (untrusted p within trusts), λ some. absurd (omega (arith, some.2)));
}

either_more : (A B C : Type 0) {X : Type 0} (P : X → Type 0) (xs : List X) (y : X) → (B ↔ Any P xs) →
    (A ↔ (B ⊎ P y)) → (A ↔ Any P (xs ++ y ∷ []))
either_more A B C P xs y old new = (there, back)
  where
    there : A → Any P (xs ++ y ∷ [])
    there a = elim (new.0 a) [ inl b ↦ any_old P xs y (old.0 b) | inr holds ↦ Any-push P xs y holds ]

    back : Any P (xs ++ y ∷ []) → A
    back some = elim (any_cases P xs y some) [ inl before ↦ new.1 (inl (old.1 before)) | inr holds ↦ new.1 (inr holds) ]

pub made_of_more : (principals : Declared) (known : List KnownPart) (part : KnownPart) (old new : Label) →
    IsMadeOf principals known old → Adds principals part old new → IsMadeOf principals (known ++ part ∷ []) new
made_of_more principals known part old new is adds = record {
  forbids = λ owner reader owner_in reader_in.
      either_more (Forbids new owner reader) (Forbids old owner reader) ⊤ (PartForbids principals owner reader) known
      part (is.forbids owner reader owner_in reader_in) (adds.forbids owner reader owner_in reader_in);
  trusts = λ p within. either_more (Trusts new p) (Trusts old p) ⊤ (PartTrusts principals p) known part
      (is.trusts p within) (adds.trusts p within);
}

-- ---- only the last part says who trusts

abbrev pub ArePolicies : List Part → Type 0
ArePolicies [] = ⊤
ArePolicies (policy owner readers ∷ parts) = ArePolicies parts
ArePolicies (trust members ∷ parts) = ⊥

-- the parts so far may be followed by those that are left
abbrev pub AreInOrder : List Part → Option (List TokenKind) → Type 0
AreInOrder parts None = TrustIsLast parts
AreInOrder parts (Some left) = ArePolicies parts

any_may_be_last : (parts : List Part) (part : Part) → ArePolicies parts → TrustIsLast (parts ++ part ∷ [])
any_may_be_last [] (policy owner readers) are = tt
any_may_be_last [] (trust members) are = refl
any_may_be_last (policy owner readers ∷ parts) part are = any_may_be_last parts part are
any_may_be_last (trust members ∷ parts) part are = absurd are

policies_more : (parts : List Part) (owner : List ℕ) (readers : List (List ℕ)) → ArePolicies parts →
    ArePolicies (parts ++ policy owner readers ∷ [])
policies_more [] owner readers are = tt
policies_more (policy other others ∷ parts) owner readers are = policies_more parts owner readers are
policies_more (trust members ∷ parts) owner readers are = absurd are

in_order_more : (parts : List Part) (part : Part) (front : List TokenKind) (after : Option (List TokenKind)) →
    ArePolicies parts → front ≡ part_tokens part → MayStand front after → AreInOrder (parts ++ part ∷ []) after
in_order_more parts part front None are written may = any_may_be_last parts part are
in_order_more parts (policy owner readers) front (Some left) are written may = policies_more parts owner readers are
in_order_more parts (trust members) front (Some left) are written may = absurd (may _ written)

trust_before_more : (before : List Part) (members : List (List ℕ)) (next : Part) (rest : List Part) →
    ¬ TrustIsLast (before ++ trust members ∷ next ∷ rest)
trust_before_more [] members next rest is = cc
trust_before_more (policy owner readers ∷ before) members next rest is = trust_before_more before members next rest is
trust_before_more (trust others ∷ []) members next rest is = cc
trust_before_more (trust others ∷ part ∷ before) members next rest is = cc

-- ---- the loop

-- The parts so far make the label, and the whole is written with these and those that are left.
pub record PartsSoFar (principals : Declared) (whole : List TokenKind) (label : Label)
    (left : Option (List TokenKind)) : Type 0 where
  pub parts : List Part
  pub known : List KnownPart
  pub are_known : AllZip (IsKnownPart principals) parts known
  pub in_order : AreInOrder parts left
  pub means : IsMadeOf principals known label
  pub reads : LeftOf (symbol Semicolon) part_tokens whole parts left

no_parts_in_order : (left : Option (List TokenKind)) → AreInOrder [] left
no_parts_in_order None = tt
no_parts_in_order (Some left) = tt

pub parts_at_start : (principals : Declared) (whole : List TokenKind) (label : Label)
    (left : Option (List TokenKind)) → ForbidsNothing label → IsUntrusted label → IsAllLeft whole left →
    PartsSoFar principals whole label left
parts_at_start principals whole label left nothing untrusted is = record {
  parts = [];
  known = [];
  are_known = tt;
  in_order = no_parts_in_order left;
  means = made_of_none principals label nothing untrusted;
  reads = left_at_start (symbol Semicolon) part_tokens whole left a_part is;
}

pub parts_more : (principals : Declared) (whole tokens front : List TokenKind) (after : Option (List TokenKind))
    (old new : Label) → CutsAt (symbol Semicolon) tokens front after → MayStand front after →
    AddsPart principals front old new → PartsSoFar principals whole old (Some tokens) →
    PartsSoFar principals whole new after
parts_more principals whole tokens front after old new cut may adds so_far = record {
  parts = so_far.parts ++ adds.part ∷ [];
  known = so_far.known ++ adds.known ∷ [];
  are_known = zip_push (IsKnownPart principals) so_far.parts so_far.known adds.part adds.known so_far.are_known
      adds.is_known;
  in_order = in_order_more so_far.parts adds.part front after so_far.in_order adds.written may;
  means = made_of_more principals so_far.known adds.known old new so_far.means adds.adds;
  reads = left_more (symbol Semicolon) part_tokens whole tokens front after so_far.parts adds.part no_semicolon cut
      adds.written so_far.reads;
}

-- the next front is no part with declared names
pub not_a_part : (principals : Declared) (whole tokens front : List TokenKind) (after : Option (List TokenKind))
    (label : Label) → CutsAt (symbol Semicolon) tokens front after → IsNoPart principals front →
    PartsSoFar principals whole label (Some tokens) → (parts : List Part) (known : List KnownPart) →
    whole ≡ parts_tokens parts → ¬ AllZip (IsKnownPart principals) parts known
not_a_part principals whole tokens front after label cut none so_far parts known written are =
    let next : Next (symbol Semicolon) part_tokens front after parts =
    next_item (symbol Semicolon) part_tokens whole tokens front after so_far.parts parts no_semicolon cut
    so_far.reads written in
    let P : List Part → Type 0 = λ ps. AllZip (IsKnownPart principals) ps known in
    let found = zip_at (IsKnownPart principals) next.before next.item next.rest known (subst P next.is are) in
    none next.item found.0 next.front_is found.1

-- the next front says who trusts, and more follows
pub not_last : (principals : Declared) (whole tokens front : List TokenKind) (after : Option (List TokenKind))
    (label : Label) → CutsAt (symbol Semicolon) tokens front after → ¬ MayStand front after →
    PartsSoFar principals whole label (Some tokens) → (parts : List Part) → whole ≡ parts_tokens parts →
    ¬ TrustIsLast parts
not_last principals whole tokens front None label cut misplaced so_far parts written last = misplaced tt
not_last principals whole tokens front (Some left) label cut misplaced so_far parts written last =
    misplaced (λ rest says. by next.before next.item next.rest rest (subst P next.is last) (sym says ∙ next.front_is)
    next.left)
  where
    P : List Part → Type 0
    P ps = TrustIsLast ps

    next : Next (symbol Semicolon) part_tokens front (Some left) parts
    next = next_item (symbol Semicolon) part_tokens whole tokens front (Some left) so_far.parts parts no_semicolon cut
        so_far.reads written

    by : (before : List Part) (item : Part) (others : List Part) (rest : List TokenKind) →
        TrustIsLast (before ++ item ∷ others) → symbol Question ∷ rest ≡ part_tokens item →
        IsLeft (symbol Semicolon) part_tokens (Some left) others → ⊥
    by before (policy owner readers) others rest is said more = cc
    by before (trust members) [] rest is said more = more.0 refl
    by before (trust members) (following ∷ others) rest is said more =
        trust_before_more before members following others is

pub parts_at_end : (principals : Declared) (whole : List TokenKind) (label : Label) →
    PartsSoFar principals whole label None → IsPartsOf principals whole label
parts_at_end principals whole label so_far = record {
  parts = so_far.parts;
  known = so_far.known;
  written = left_at_end (symbol Semicolon) part_tokens whole so_far.parts so_far.reads;
  trust_is_last = so_far.in_order;
  are_known = so_far.are_known;
  means = so_far.means;
}

-- ---- the braces

pub no_label_inside : (principals : Declared) (tokens : List Token) (inside : List TokenKind) (read : Option Label) →
    kinds tokens ≡ symbol LeftBrace ∷ inside ++ symbol RightBrace ∷ [] →
    IfNone read ((label : Label) → ¬ IsPartsOf principals inside label) →
    IfNone read ((label : Label) → ¬ IsLabelOf principals tokens label)
no_label_inside principals tokens inside (Some read) braces none = tt
no_label_inside principals tokens inside None braces none =
    λ label is.
    let both : symbol LeftBrace ∷ inside ++ symbol RightBrace ∷ [] ≡ symbol LeftBrace ∷ is.inside ++ symbol RightBrace
    ∷ [] = sym braces ∙ is.braces in
    let bodies : inside ++ symbol RightBrace ∷ [] ≡ is.inside ++ symbol RightBrace ∷ [] = cc in
    let same : is.inside ≡ inside = sym (append_cancel_right inside is.inside (symbol RightBrace ∷ []) bodies) in
    let P : List TokenKind → Type 0 = λ ts. IsPartsOf principals ts label in
    none label (subst P same is.parts)

pub not_ok_label : (principals : Declared) (tokens : List Token) (inside : List TokenKind)
    (read : Result (Option Label) OutOfMemory) → kinds tokens ≡ symbol LeftBrace ∷ inside ++ symbol RightBrace ∷ [] →
    IfOk read (λ r. IfNone r ((label : Label) → ¬ IsPartsOf principals inside label)) →
    IfOk read (λ r. IfNone r ((label : Label) → ¬ IsLabelOf principals tokens label))
not_ok_label principals tokens inside (Ok read) braces none = no_label_inside principals tokens inside read braces none
not_ok_label principals tokens inside (Err e) braces none = tt
