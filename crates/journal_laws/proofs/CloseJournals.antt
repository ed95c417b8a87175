-- Lists of all lines of one journal, of which either may have one line more for what was sent.
use Rattle.std.proofs.Common.{◌≡◌, ◌⊎◌, refl, sym, subst, List, [], ◌∷◌, ◌++◌, inl, inr}
use Rattle.std.specs.Prelude.{⊤}
use Rattle.event_text.specs.JournalText.{IsSendLine}
use Rattle.event_text.specs.Words.{Word}
use Rattle.journal_laws.specs.Plays.{AreNotedOf}

abbrev pub AreClose : List (List Word) → List (List Word) → Type 0
AreClose [] [] = ⊤
AreClose [] (line ∷ lines) = IsSendLine line × (lines ≡ [])
AreClose (line ∷ lines) [] = IsSendLine line × (lines ≡ [])
AreClose (line ∷ lines) (other ∷ others) =
    ((line ≡ other) × AreClose lines others)
    ⊎ (IsSendLine line × (lines ≡ []) × IsSendLine other × (others ≡ []))

-- ---- lines of one journal are close

self : (lines : List (List Word)) → AreClose lines lines
self [] = tt
self (line ∷ lines) = inl (refl, self lines)

one_more : (lines : List (List Word)) (sent : List Word) → IsSendLine sent → AreClose lines (lines ++ sent ∷ [])
one_more [] sent is = (is, refl)
one_more (line ∷ lines) sent is = inl (refl, one_more lines sent is)

one_less : (lines : List (List Word)) (sent : List Word) → IsSendLine sent → AreClose (lines ++ sent ∷ []) lines
one_less [] sent is = (is, refl)
one_less (line ∷ lines) sent is = inl (refl, one_less lines sent is)

both_more : (lines : List (List Word)) (sent other : List Word) → IsSendLine sent → IsSendLine other →
    AreClose (lines ++ sent ∷ []) (lines ++ other ∷ [])
both_more [] sent other is also = inr (is, refl, also, refl)
both_more (line ∷ lines) sent other is also = inl (refl, both_more lines sent other is also)

pub noted_close : (lines all others : List (List Word)) → AreNotedOf lines all → AreNotedOf lines others →
    AreClose all others
noted_close lines all others (inl one) (inl other) =
    subst (λ a. AreClose a others) one (subst (AreClose lines) other (self lines))
noted_close lines all others (inl one) (inr (sent, is, other)) =
    subst (λ a. AreClose a others) one (subst (AreClose lines) (sym other) (one_more lines sent is))
noted_close lines all others (inr (sent, is, one)) (inl other) =
    subst (λ a. AreClose a others) (sym one) (subst (AreClose (lines ++ sent ∷ [])) other (one_less lines sent is))
noted_close lines all others (inr (sent, is, one)) (inr (more, also, other)) =
    subst (λ a. AreClose a others) (sym one)
    (subst (AreClose (lines ++ sent ∷ [])) (sym other) (both_more lines sent more is also))

-- ---- cut at their front

-- behind a line that is not of what was sent
pub close_behind : (line other : List Word) (lines others : List (List Word)) → ¬ IsSendLine line →
    AreClose (line ∷ lines) (other ∷ others) → (line ≡ other) × AreClose lines others
close_behind line other lines others step (inl both) = both
close_behind line other lines others step (inr sent) = absurd (step sent.0)

-- behind lines that are the same
pub close_rest : (front lines others : List (List Word)) → AreClose (front ++ lines) (front ++ others) →
    AreClose lines others
close_rest [] lines others close = close
close_rest (line ∷ front) lines others (inl both) = close_rest front lines others both.1
close_rest (line ∷ []) lines others (inr (is, none, also, nothing)) =
    subst (λ a. AreClose a others) (sym none) (subst (AreClose []) (sym nothing) tt)
close_rest (line ∷ next ∷ front) lines others (inr (is, none, also, nothing)) = absurd cc

-- either way round
pub close_flipped : (lines others : List (List Word)) → AreClose lines others → AreClose others lines
close_flipped [] [] close = tt
close_flipped [] (other ∷ others) close = close
close_flipped (line ∷ lines) [] close = close
close_flipped (line ∷ lines) (other ∷ others) (inl both) = inl (sym both.0, close_flipped lines others both.1)
close_flipped (line ∷ lines) (other ∷ others) (inr (is, none, also, nothing)) = inr (also, nothing, is, none)
