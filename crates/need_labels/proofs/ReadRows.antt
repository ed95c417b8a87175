-- What one read changes in the rows that reads leave.
use Rattle.std.proofs.Common.{ℕ, ◌<◌, ◌≤◌, ◌≡◌, ◌≢◌, ◌∙◌, ◌⊎◌, sym, ap, refl, subst, inl, inr, Bool, true, false, ◌||◌}
use Rattle.std.proofs.Common.{cond}
use Rattle.std.proofs.Common.{List, [], ◌∷◌, ◌++◌, map, length, get_or, set, arith, append_assoc, eqb}
use Rattle.std.specs.Global.{Vec}
use Rattle.std.specs.List.{fold, filter, flat_map, range_with_len}
use Rattle.std.proofs.lemmas.Bool.{cases_eq, eq-eqb, ne_eqb}
use Rattle.std.proofs.lemmas.List.{append-nil, map-append, length-map, length-set, get_or-map, get_or-set_same}
use Rattle.std.proofs.lemmas.List.{get_or-set_other, map-set}
use Rattle.std.proofs.lemmas.List.Elements.{filter-append}
use Rattle.std.proofs.lemmas.List.Folds.{list_any-append}
use Rattle.std.proofs.lemmas.List.Sums.{fold-append}
use Rattle.std.proofs.Math.Bool.{or-false, or-true}
use Rattle.std.proofs.lemmas.List.FromFn.{length-map-range_with_len, get_or-map-range_with_len}
use Rattle.js_base.specs.declared.ids.VarId.{VarId}
use Rattle.js_base.specs.declared.ids.StmtId.{StmtId}
use Rattle.principals.specs.ActsFor.{Declared}
use Rattle.label_lattice.specs.declared.label.Label.{Label}
use Rattle.label_lattice.specs.Lattice.{join_of, bottom_of}
use Rattle.need_labels.specs.declared.place.Reads.{Reads}
use Rattle.need_labels.specs.Labelled.{Labelled}
use Rattle.need_labels.specs.Needs.{Telling, StatementUse, told_of, readers_of}
use Rattle.need_labels.specs.Finding.{is_read, AreReads, AddsReads}
use Rattle.need_labels.proofs.Rows.{rows_agree, row_set}

-- ---- what is told

told_more : (principals : Declared) (before : List Telling) (telling : Telling) (field : ℕ) →
    told_of principals (before ++ telling ∷ []) field
    ≡ fold join_of (told_of principals before field)
    (map (λ one. one.label) (cond (eqb telling.field.0 field) (telling ∷ []) []))
told_more principals before telling field =
    let here : Telling → Bool = λ one. eqb one.field.0 field in
    let label : Telling → Label = λ one. one.label in
    ap (fold join_of (bottom_of principals))
    (ap (map label) (filter-append here before (telling ∷ [])) ∙ map-append label (filter here before) _)
    ∙ fold-append join_of (bottom_of principals) (map label (filter here before)) _

told_same : (principals : Declared) (before : List Telling) (telling : Telling) (field : ℕ) → telling.field.0 ≡ field →
    told_of principals (before ++ telling ∷ []) field ≡ join_of (told_of principals before field) telling.label
told_same principals before telling field is =
    told_more principals before telling field
    ∙ ap (λ (b : Bool). fold join_of (told_of principals before field)
    (map (λ one. one.label) (cond b (telling ∷ []) [])))
    (eq-eqb telling.field.0 field is)

told_other : (principals : Declared) (before : List Telling) (telling : Telling) (field : ℕ) → telling.field.0 ≢ field →
    told_of principals (before ++ telling ∷ []) field ≡ told_of principals before field
told_other principals before telling field other =
    told_more principals before telling field
    ∙ ap (λ (b : Bool). fold join_of (told_of principals before field)
    (map (λ one. one.label) (cond b (telling ∷ []) [])))
    (ne_eqb telling.field.0 field other)

-- a row of what is told
abbrev told_row : Declared → Labelled → List Telling → List Label
told_row principals labelled tellings = map (told_of principals tellings)
    (range_with_len 0 (length labelled.program.fields))

told_row_same : (principals : Declared) (labelled : Labelled) (before : List Telling) (telling : Telling)
    (d x : Label) →
    telling.field.0 < length labelled.program.fields →
    x ≡ join_of (get_or (told_row principals labelled before) telling.field.0 d) telling.label →
    set (told_row principals labelled before) telling.field.0 x ≡ told_row principals labelled (before ++ telling ∷ [])
told_row_same principals labelled before telling d x within is =
    row_set (told_of principals before) (told_of principals (before ++ telling ∷ []))
    (length labelled.program.fields) telling.field.0 x d within
    (told_same principals before telling telling.field.0 refl
    ∙ sym (is ∙ ap (λ old. join_of old telling.label) (get_or-map-range_with_len (told_of principals before) 0
    (length labelled.program.fields) telling.field.0 telling.field.0 d within (omega arith))))
    (λ k apart. sym (told_other principals before telling k (λ same. apart (sym same))))

told_row_past : (principals : Declared) (labelled : Labelled) (before : List Telling) (telling : Telling) →
    length labelled.program.fields ≤ telling.field.0 →
    told_row principals labelled before ≡ told_row principals labelled (before ++ telling ∷ [])
told_row_past principals labelled before telling past =
    rows_agree (told_of principals before) (told_of principals (before ++ telling ∷ []))
    (length labelled.program.fields) telling.label
    (λ k within. sym (told_other principals before telling k (λ same. omega (arith, past, within, same))))

-- the other rows stay
told_reads : (principals : Declared) (labelled : Labelled) (id : StmtId) (turn : ℕ) (old : Reads) (loc : Vec Label)
    (telling : Telling) (before : List StatementUse) (told : List Telling) (others : List VarId) →
    AreReads principals labelled before id turn told others old →
    loc.items ≡ told_row principals labelled ((flat_map (λ one. one.tellings) before ++ told) ++ telling ∷ []) →
    AreReads principals labelled before id turn (told ++ telling ∷ []) (others ++ [])
    (record { loc = loc; readers = old.readers; marks = old.marks })
told_reads principals labelled id turn old loc telling before told others are is =
    subst (λ (reads : List VarId). AreReads principals labelled before id turn (told ++ telling ∷ []) reads
    (record { loc = loc; readers = old.readers; marks = old.marks }))
    (sym (append-nil others)) (record {
      loc = is ∙ ap (told_row principals labelled)
          (append_assoc (flat_map (λ (one : StatementUse). one.tellings) before) told (telling ∷ []));
      readers = are.readers;
      long = are.long;
      marked = are.marked;
      earlier = are.earlier;
    })

-- a row changes by what one read tells
pub tell_adds : (principals : Declared) (labelled : Labelled) (id : StmtId) (turn : ℕ) (old : Reads) (loc : Vec Label)
    (telling : Telling) (d x : Label) → telling.field.0 < length old.loc.items →
    loc.items ≡ set old.loc.items telling.field.0 x →
    x ≡ join_of (get_or old.loc.items telling.field.0 d) telling.label →
    AddsReads principals labelled id turn old (telling ∷ []) []
    (record { loc = loc; readers = old.readers; marks = old.marks })
tell_adds principals labelled id turn old loc telling d x within is x_is = record {
  adds = λ before told others are.
      let all = flat_map (λ (one : StatementUse). one.tellings) before ++ told in
      let rows = are.loc in
      let below : telling.field.0 < length labelled.program.fields =
      omega (
        arith,
        ap length rows,
        length-map-range_with_len (told_of principals all) 0
            (length labelled.program.fields),
        within,
      ) in
      told_reads principals labelled id turn old loc telling before told others are
      (is ∙ ap (λ (row : List Label). set row telling.field.0 x) rows
      ∙ told_row_same principals labelled all telling d x below
      (x_is ∙ ap (λ (row : List Label). join_of (get_or row telling.field.0 d) telling.label) rows));
}

pub tell_past : (principals : Declared) (labelled : Labelled) (id : StmtId) (turn : ℕ) (old : Reads)
    (telling : Telling) → length old.loc.items ≤ telling.field.0 →
    AddsReads principals labelled id turn old (telling ∷ []) [] old
tell_past principals labelled id turn old telling past = record {
  adds = λ before told others are.
      let all = flat_map (λ (one : StatementUse). one.tellings) before ++ told in
      let rows = are.loc in
      told_reads principals labelled id turn old old.loc telling before told others are
      (rows ∙ told_row_past principals labelled all telling
      (omega (
        arith,
        ap length rows,
        length-map-range_with_len (told_of principals all) 0
            (length labelled.program.fields),
        past,
      )));
}

-- ---- what is read

read_more : (reads : List VarId) (x : VarId) (y : ℕ) →
    is_read (reads ++ x ∷ []) y ≡ (is_read reads y || (eqb x.0 y || false))
read_more reads x y = list_any-append (λ read. eqb read.0 y) reads (x ∷ [])

read_same : (reads : List VarId) (x : VarId) (y : ℕ) → x.0 ≡ y → is_read (reads ++ x ∷ []) y ≡ true
read_same reads x y is =
    read_more reads x y ∙ ap (λ (b : Bool). is_read reads y || (b || false)) (eq-eqb x.0 y is)
    ∙ or-true (is_read reads y)

read_other : (reads : List VarId) (x : VarId) (y : ℕ) → x.0 ≢ y → is_read (reads ++ x ∷ []) y ≡ is_read reads y
read_other reads x y other =
    read_more reads x y ∙ ap (λ (b : Bool). is_read reads y || (b || false)) (ne_eqb x.0 y other)
    ∙ or-false (is_read reads y)

-- the rows of readers, and the marks
abbrev reader_row : List StatementUse → StmtId → List VarId → ℕ → List StmtId
reader_row before id reads x = readers_of before x ++ cond (is_read reads x) (id ∷ []) []

abbrev items_of : Vec StmtId → List StmtId
items_of row = row.items

-- what is read otherwise changes nothing where each variable is read as before
read_kept : (principals : Declared) (labelled : Labelled) (before : List StatementUse) (id : StmtId) (turn : ℕ)
    (told : List Telling) (others reads : List VarId) (old : Reads) →
    ((y : ℕ) → y < length labelled.program.vars → is_read reads y ≡ is_read others y) →
    AreReads principals labelled before id turn told others old →
    AreReads principals labelled before id turn (told ++ []) reads old
read_kept principals labelled before id turn told others reads old same are =
    subst (λ (tellings : List Telling). AreReads principals labelled before id turn tellings reads old)
    (sym (append-nil told)) (record {
      loc = are.loc;
      readers = are.readers ∙ rows_agree (reader_row before id others) (reader_row before id reads)
          (length labelled.program.vars) []
          (λ y within. ap (λ (b : Bool). readers_of before y ++ cond b (id ∷ []) []) (sym (same y within)));
      long = are.long;
      marked = λ y within. are.marked y within ∙ sym (same y within);
      earlier = are.earlier;
    })

-- there is no such variable
pub read_past : (principals : Declared) (labelled : Labelled) (id : StmtId) (turn : ℕ) (old : Reads) (x : VarId) →
    (length old.marks.items ≤ x.0) ⊎ (length old.readers.items ≤ x.0) →
    AddsReads principals labelled id turn old [] (x ∷ []) old
read_past principals labelled id turn old x past = record {
  adds = λ before told others are.
      let vars = length labelled.program.vars in
      let rows : length old.readers.items ≡ vars =
      sym (length-map old.readers.items items_of) ∙ ap length are.readers
      ∙ length-map-range_with_len (reader_row before id others) 0 vars in
      let long = are.long in
      let beyond : vars ≤ x.0 = elim past [
        | inl marks ↦ omega (arith, long, marks)
        | inr readers ↦ omega (arith, rows, readers)
      ] in
      read_kept principals labelled before id turn told others (others ++ x ∷ []) old
      (λ y within. read_other others x y (λ same. omega (arith, beyond, within, same))) are;
}

-- it is read already
pub read_again : (principals : Declared) (labelled : Labelled) (id : StmtId) (turn : ℕ) (old : Reads) (x : VarId) →
    x.0 < length old.marks.items → get_or old.marks.items x.0 0 ≡ turn →
    AddsReads principals labelled id turn old [] (x ∷ []) old
read_again principals labelled id turn old x within is = record {
  adds = λ before told others are.
      let long = are.long in
      let already : is_read others x.0 ≡ true =
      sym (are.marked x.0 (omega (arith, long, within))) ∙ eq-eqb (get_or old.marks.items x.0 0) turn is in
      read_kept principals labelled before id turn told others (others ++ x ∷ []) old
      (λ y below. elim (cases_eq x.0 y) [
        | inl same ↦ read_same others x y same ∙ sym already ∙ ap (is_read others) same
        | inr other ↦ read_other others x y other
      ]) are;
}

-- it is read for the first time
pub read_first : (principals : Declared) (labelled : Labelled) (id : StmtId) (turn : ℕ) (old : Reads) (x : VarId)
    (readers : Vec (Vec StmtId)) (marks : Vec ℕ) (row : Vec StmtId) (d : Vec StmtId) →
    x.0 < length old.marks.items → x.0 < length old.readers.items → get_or old.marks.items x.0 0 ≢ turn →
    readers.items ≡ set old.readers.items x.0 row → row.items ≡ (get_or old.readers.items x.0 d).items ++ id ∷ [] →
    marks.items ≡ set old.marks.items x.0 turn →
    AddsReads principals labelled id turn old [] (x ∷ [])
    (record { loc = old.loc; readers = readers; marks = marks })
read_first principals labelled id turn old x readers marks row d marked within new readers_are row_is marks_are =
    record {
      adds = λ before told others are.
          let vars = length labelled.program.vars in
          let long = are.long in
          let below : x.0 < vars = omega (arith, long, marked) in
          let unread : is_read others x.0 ≡ false =
          sym (are.marked x.0 below) ∙ ne_eqb (get_or old.marks.items x.0 0) turn new in
          let old_row : (get_or old.readers.items x.0 d).items ≡ readers_of before x.0 =
          sym (get_or-map items_of old.readers.items x.0 d d.items within)
          ∙ ap (λ (rows : List (List StmtId)). get_or rows x.0 d.items) are.readers
          ∙ get_or-map-range_with_len (reader_row before id others) 0 vars x.0 x.0 d.items below (omega arith)
          ∙ ap (λ (b : Bool). readers_of before x.0 ++ cond b (id ∷ []) []) unread
          ∙ append-nil (readers_of before x.0) in
          let new_row : reader_row before id (others ++ x ∷ []) x.0 ≡ row.items =
          ap (λ (b : Bool). readers_of before x.0 ++ cond b (id ∷ []) []) (read_same others x x.0 refl)
          ∙ sym (row_is ∙ ap (λ (earlier : List StmtId). earlier ++ id ∷ []) old_row) in
          subst (λ (tellings : List Telling). AreReads principals labelled before id turn tellings (others ++ x ∷ [])
          (record { loc = old.loc; readers = readers; marks = marks }))
          (sym (append-nil told)) (record {
            loc = are.loc;
            readers = ap (map items_of) readers_are ∙ map-set items_of old.readers.items x.0 row
                ∙ ap (λ (rows : List (List StmtId)). set rows x.0 row.items) are.readers
                ∙ row_set (reader_row before id others) (reader_row before id (others ++ x ∷ [])) vars x.0 row.items []
                below new_row
                (λ k apart. ap (λ (b : Bool). readers_of before k ++ cond b (id ∷ []) [])
                (sym (read_other others x k (λ same. apart (sym same)))));
            long = ap length marks_are ∙ length-set old.marks.items x.0 turn ∙ are.long;
            marked = λ y under. ap (λ (all : List ℕ). eqb (get_or all y 0) turn) marks_are ∙ elim (cases_eq x.0 y) [
              | inl same ↦ eq-eqb _ turn (ap (λ (place : ℕ). get_or (set old.marks.items x.0 turn) place 0) (sym same)
                  ∙ get_or-set_same old.marks.items x.0 turn 0 marked) ∙ sym (read_same others x y same)
              | inr other ↦ ap (λ (mark : ℕ). eqb mark turn)
                  (get_or-set_other old.marks.items x.0 y turn 0 (λ same. other (sym same)))
                  ∙ are.marked y under ∙ sym (read_other others x y other)
            ];
            earlier = λ y. subst (λ (all : List ℕ). get_or all y 0 ≤ turn) (sym marks_are) (elim (cases_eq x.0 y) [
              | inl same ↦ omega (
                arith,
                ap (λ (place : ℕ). get_or (set old.marks.items x.0 turn) place 0) (sym same)
                    ∙ get_or-set_same old.marks.items x.0 turn 0 marked,
              )
              | inr other ↦ omega (
                arith,
                get_or-set_other old.marks.items x.0 y turn 0 (λ same. other (sym same)),
                are.earlier y,
              )
            ]);
          });
    }
