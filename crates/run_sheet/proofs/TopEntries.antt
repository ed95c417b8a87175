-- Entries of a stack whose top is its last are written from the top on.
use Rattle.std.proofs.Common.{◌≡◌, ◌≢◌, ◌<◌, ◌≤◌, ℕ, zero, suc, ◌-◌, List, [], ◌∷◌, ◌++◌, length, take, get_or, reverse}
use Rattle.std.proofs.Common.{codes, ap, refl, sym, ◌∙◌, arith}
use Rattle.std.proofs.lemmas.List.{append_assoc}
use Rattle.std.proofs.lemmas.List.Concat.{flat_map-append}
use Rattle.std.proofs.lemmas.Option.{slice_get-get_or}
use Rattle.ics_stack.proofs.Tops.{reversed}
use Rattle.js_base.specs.declared.ids.EntryId.{EntryId}
use Rattle.host_code.specs.MessageText.{entry_text}
use Rattle.run_sheet.specs.StackNotes.{entries_listed}

first_taken : (top : EntryId) (below : List EntryId) (most : ℕ) → most ≢ 0 →
    take most (top ∷ below) ≡ top ∷ take (most - 1) below
first_taken top below zero some = absurd (some refl)
first_taken top below (suc most) some =
    let less : most ≡ suc most - 1 = omega arith in
    ap (λ (n : ℕ). top ∷ take n below) less

-- the top was written, and then the entries below it
pub top_written : (stack : List EntryId) (d : EntryId) (most : ℕ) (before between after : List ℕ) →
    1 ≤ length stack → most ≢ 0 → between ≡ before ++ entries_listed (get_or stack (length stack - 1) d ∷ []) →
    after ≡ between ++ entries_listed (take (most - 1) (reverse (take (length stack - 1) stack))) →
    after ≡ before ++ entries_listed (take most (reverse stack))
top_written stack d most before between after one some first others =
    let within : length stack - 1 < length stack = omega (arith, one) in
    let top = get_or stack (length stack - 1) d in
    let below = reverse (take (length stack - 1) stack) in
    let rest = take (most - 1) below in
    let listed : entries_listed (take most (reverse stack)) ≡ entries_listed (top ∷ []) ++ entries_listed rest =
    ap (λ (all : List EntryId). entries_listed (take most all))
    (reversed stack top (slice_get-get_or stack (length stack - 1) d within))
    ∙ ap entries_listed (first_taken top below most some)
    ∙ flat_map-append (λ (entry : EntryId). codes " " ++ entry_text entry) (top ∷ []) rest in
    others ∙ ap (λ (text : List ℕ). text ++ entries_listed rest) first
    ∙ append_assoc before (entries_listed (top ∷ [])) (entries_listed rest)
    ∙ ap (λ (text : List ℕ). before ++ text) (sym listed)
