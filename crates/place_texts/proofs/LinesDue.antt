-- A part has a line for a host exactly where the host may not hold it.
use Rattle.std.proofs.Common.{◌≡◌, ◌≢◌, ℕ, List, [], ◌∷◌, ◌++◌, map, refl, subst, sym, Option, Some, None}
use Rattle.std.specs.Prelude.{◌↔◌, All}
use Rattle.std.specs.List.{AllZip, flat_map}
use Rattle.std.proofs.lemmas.List.Elements.{All-cons, All-head, All-nil, All-tail}
use Rattle.host_decl.specs.Hosts.{HostShape}
use Rattle.explain_texts.specs.Sheets.{SheetShape}
use Rattle.need_labels.specs.Labelled.{Labelled}
use Rattle.place_reasons.specs.declared.reason.PlaceReason.{PlaceReason}
use Rattle.place_texts.specs.Lines.{line_at, line_for, part_lines, part_words, parts_lines}
use Rattle.place_texts.specs.Parts.{PartShape, reason_of}

-- ---- one line

not_empty : (front : List ℕ) (byte : ℕ) (behind : List ℕ) → front ++ byte ∷ behind ≢ []
not_empty [] byte behind is = cc
not_empty (first ∷ front) byte behind is = cc

no_line : (sheet : SheetShape) (part : PartShape) (host : List ℕ) (reason : Option PlaceReason) →
    (line_for sheet part host reason ≡ []) ↔ (reason ≡ None)
no_line sheet part host None = (λ _. refl, λ _. refl)
no_line sheet part host (Some reason) =
    (λ is. absurd (not_empty (part_words sheet part) 32 _ is), λ is. absurd (let no = is in cc))

-- ---- all parts of a kind

-- By a reason for each item, an item and what is said of it fit exactly where there is no reason.
pub lines_fit : {Y : Type 0} (sheet : SheetShape) (labelled : Labelled) (host : HostShape) (May : Y → Type 0)
    (parts : List PartShape) (rows : List Y) →
    AllZip (λ reason row. (reason ≡ None) ↔ May row)
    (map (reason_of sheet.principals labelled host.label) parts) rows →
    AllZip (λ part row. (line_at sheet labelled part host ≡ []) ↔ May row) parts rows
lines_fit sheet labelled host May [] [] all = all
lines_fit sheet labelled host May [] (row ∷ rows) all = all
lines_fit sheet labelled host May (part ∷ parts) [] all = all
lines_fit sheet labelled host May (part ∷ parts) (row ∷ rows) all =
    let one = no_line sheet part host.name (reason_of sheet.principals labelled host.label part) in
    ((λ is. all.0.0 (one.0 is), λ may. one.1 (all.0.1 may)), lines_fit sheet labelled host May parts rows all.1)

-- ---- no line at all

both_empty : {X : Type 0} (first second : List X) → first ++ second ≡ [] → (first ≡ []) × (second ≡ [])
both_empty [] second is = (refl, is)
both_empty (x ∷ first) second is = absurd (let no = is in cc)

flat_empty : {X Y : Type 0} (f : X → List Y) (items : List X) →
    (flat_map f items ≡ []) ↔ All (λ item. f item ≡ []) items
flat_empty {X} f [] = (λ _. All-nil (λ (item : X). f item ≡ []), λ _. refl)
flat_empty {X} f (item ∷ items) =
    let P : X → Type 0 = λ other. f other ≡ [] in
    let rest = flat_empty f items in (
      λ is. let parts = both_empty (f item) (flat_map f items) is in
          All-cons P item items parts.0 (rest.0 parts.1),
      λ all. subst (λ front. front ++ flat_map f items ≡ []) (sym (All-head P item items all))
          (rest.1 (All-tail P item items all)),
    )

all_alike : {X : Type 0} (P Q : X → Type 0) (items : List X) → ((x : X) → P x ↔ Q x) →
    All P items ↔ All Q items
all_alike P Q items alike =
    (λ all. λ k d lt. (alike _).0 (all k d lt), λ all. λ k d lt. (alike _).1 (all k d lt))

pub no_lines : (sheet : SheetShape) (labelled : Labelled) (hosts : List HostShape) (parts : List PartShape) →
    (parts_lines sheet labelled hosts parts ≡ [])
    ↔ All (λ part. All (λ host. line_at sheet labelled part host ≡ []) hosts) parts
no_lines sheet labelled hosts parts =
    let flat = flat_empty (part_lines sheet labelled hosts) parts in
    let each = all_alike (λ part. part_lines sheet labelled hosts part ≡ [])
    (λ part. All (λ host. line_at sheet labelled part host ≡ []) hosts) parts
    (λ part. flat_empty (line_at sheet labelled part) hosts) in
    (λ is. each.0 (flat.0 is), λ all. flat.1 (each.1 all))
