-- Items with a separator between each two, read one by one.
use Rattle.std.proofs.Common.{◌≡◌, ◌≢◌, ℕ, ◌+◌, List, [], ◌∷◌, ◌++◌, refl, ap, sym, ◌∙◌, arith, append_assoc}
use Rattle.jif_lex.specs.declared.token.TokenKind.{TokenKind}
use Rattle.label_lattice.specs.Written.{kinds}
use Rattle.jif_grammar.specs.Unmarked.{joined_then}
use Rattle.jif_parse.specs.declared.cursor.Cursor.{Cursor}
use Rattle.jif_parse.specs.Reading.{Moves}
use Rattle.jif_parse.proofs.Moving.{stays, moves_then, moves_as, Stepped}

-- Items of one kind: how they are written, how many tokens they are, and what becomes of them at a place.
pub record ListForm (X S : Type 0) : Type 1 where
  pub separator : TokenKind
  pub item_then : X → List TokenKind → List TokenKind
  pub item_width : X → ℕ
  pub width : List X → ℕ
  pub shape : ℕ → X → S
  pub shapes : ℕ → List X → List S
  pub IsSound : List X → Type 0
  pub width_one : (item : X) → width (item ∷ []) ≡ item_width item
  pub width_more : (item next : X) (items : List X) →
      width (item ∷ next ∷ items) ≡ item_width item + 1 + width (next ∷ items)
  pub shapes_none : (at : ℕ) → shapes at [] ≡ []
  pub shapes_more : (at : ℕ) (item : X) (items : List X) →
      shapes at (item ∷ items) ≡ shape at item ∷ shapes (at + item_width item + 1) items

-- The items so far, each with a separator behind it. `front` has them before those that follow.
pub record ItemsSoFar {X S : Type 0} (form : ListForm X S) (old now : Cursor) (drafts : List S) : Type 0 where
  pub front : List X → List X
  pub count : ℕ
  pub written : (item : X) (items : List X) (rest : List TokenKind) →
      kinds now.rest.now ≡ joined_then form.separator form.item_then (item ∷ items) rest →
      kinds old.rest.now ≡ joined_then form.separator form.item_then (front (item ∷ items)) rest
  pub drafts_are : (items : List X) → form.shapes old.at (front items) ≡ drafts ++ form.shapes now.at items
  pub moves : Moves old now count
  pub width : (item : X) (items : List X) → form.width (front (item ∷ items)) ≡ count + form.width (item ∷ items)
  pub some : (item : X) (items : List X) → front (item ∷ items) ≢ []
  pub sound : (items : List X) → form.IsSound items → form.IsSound (front items)

pub no_items : {X S : Type 0} (form : ListForm X S) (old : Cursor) → ItemsSoFar form old old []
no_items form old = record {
  front = λ items. items;
  count = 0;
  written = λ item items rest is. is;
  drafts_are = λ items. refl;
  moves = stays old;
  width = λ item items. omega arith;
  some = λ item items is. absurd (cc);
  sound = λ items sound. sound;
}

-- an item and a separator more
pub one_more : {X S : Type 0} {form : ListForm X S} {old now behind new : Cursor} {drafts : List S} (item : X) →
    ItemsSoFar form old now drafts → kinds now.rest.now ≡ form.item_then item (kinds behind.rest.now) →
    Moves now behind (form.item_width item) → form.IsSound (item ∷ []) → Stepped behind new form.separator →
    ((items : List X) → form.IsSound (item ∷ []) → form.IsSound items → form.IsSound (item ∷ items)) →
    ItemsSoFar form old new (drafts ++ form.shape now.at item ∷ [])
one_more {X} {S} {form} {old} {now} {behind} {new} {drafts} item so_far written moves sound steps joins = record {
  front = λ items. so_far.front (item ∷ items);
  count = so_far.count + (form.item_width item + 1);
  written = λ next items rest is.
      so_far.written item (next ∷ items) rest
      (written ∙ ap (form.item_then item) (steps.is_next ∙ ap (λ ks. form.separator ∷ ks) is));
  drafts_are = λ items.
      so_far.drafts_are (item ∷ items)
      ∙ ap (λ ss. drafts ++ ss) (form.shapes_more now.at item items
      ∙ ap (λ n. form.shape now.at item ∷ form.shapes n items)
      (let e : now.at + form.item_width item + 1 ≡ new.at = omega (arith, moves.at, steps.moves.at) in e))
      ∙ sym (append_assoc drafts (form.shape now.at item ∷ []) (form.shapes new.at items));
  moves = moves_then so_far.moves (moves_then moves steps.moves);
  width = λ next items. omega (arith, so_far.width item (next ∷ items), form.width_more item next items);
  some = λ next items. so_far.some item (next ∷ items);
  sound = λ items are. so_far.sound (item ∷ items) (joins items sound are);
}

-- the list that ends with an item
pub record AllItems {X S : Type 0} (form : ListForm X S) (old new : Cursor) (drafts : List S) : Type 0 where
  pub items : List X
  pub some : items ≢ []
  pub written : kinds old.rest.now ≡ joined_then form.separator form.item_then items (kinds new.rest.now)
  pub drafts_are : drafts ≡ form.shapes old.at items
  pub moves : Moves old new (form.width items)
  pub sound : form.IsSound items

pub last_item : {X S : Type 0} {form : ListForm X S} {old now new : Cursor} {drafts : List S} (item : X) →
    ItemsSoFar form old now drafts → kinds now.rest.now ≡ form.item_then item (kinds new.rest.now) →
    Moves now new (form.item_width item) → form.IsSound (item ∷ []) →
    AllItems form old new (drafts ++ form.shape now.at item ∷ [])
last_item {X} {S} {form} {old} {now} {new} {drafts} item so_far written moves sound = record {
  items = so_far.front (item ∷ []);
  some = so_far.some item [];
  written = so_far.written item [] (kinds new.rest.now) written;
  drafts_are =
      sym (so_far.drafts_are (item ∷ []) ∙ ap (λ ss. drafts ++ ss) (form.shapes_more now.at item []
      ∙ ap (λ ss. form.shape now.at item ∷ ss) (form.shapes_none (now.at + form.item_width item + 1))));
  moves =
      moves_as (form.width (so_far.front (item ∷ [])))
      (let e : so_far.count + form.item_width item ≡ form.width (so_far.front (item ∷ [])) =
      omega (arith, so_far.width item [], form.width_one item) in e) (moves_then so_far.moves moves);
  sound = so_far.sound (item ∷ []) sound;
}
