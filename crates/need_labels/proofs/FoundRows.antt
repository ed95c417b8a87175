-- What was found of some statements, and of more.
use Rattle.std.proofs.Common.{ℕ, zero, suc, ◌≤◌, ◌≡◌, ◌∙◌, sym, ap, refl, subst, Bool, true, false, cond, List, [], ◌∷◌}
use Rattle.std.proofs.Common.{◌++◌, map, length, set, arith, append_assoc}
use Rattle.std.specs.List.{AllZip, filter, flat_map, range_with_len}
use Rattle.std.proofs.lemmas.Bool.{ne_eqb}
use Rattle.std.proofs.lemmas.List.{append-nil, map-append, length-append, length-map}
use Rattle.std.proofs.lemmas.List.Concat.{flat_map-append}
use Rattle.std.proofs.lemmas.List.Elements.{filter-append}
use Rattle.js_base.specs.declared.ids.VarId.{VarId}
use Rattle.js_base.specs.declared.ids.StmtId.{StmtId}
use Rattle.js_base.proofs.Lists.{zip_push}
use Rattle.principals.specs.ActsFor.{Declared}
use Rattle.label_lattice.specs.declared.label.Label.{Label}
use Rattle.label_lattice.specs.Lattice.{IsIntegrityMeet}
use Rattle.need_labels.specs.declared.place.Reads.{Reads}
use Rattle.need_labels.specs.declared.place.Found.{Found}
use Rattle.need_labels.specs.Labelled.{Labelled}
use Rattle.need_labels.specs.Needs.{Telling, Backing, StatementUse, IsNeed, all_backing, told_of, readers_of}
use Rattle.need_labels.specs.Finding.{is_read, IsBackedBy, AreReads, AddsReads, AreFound, AddsUses, enclosing}
use Rattle.need_labels.proofs.Rows.{rows_agree}
use Rattle.need_labels.proofs.Backings.{both_back, twice_back}

-- ---- lists

pub zip_length : {A B : Type 0} (R : A → B → Type 0) (xs : List A) (ys : List B) → AllZip R xs ys →
    length xs ≡ length ys
zip_length R [] [] all = refl
zip_length R [] (b ∷ ys) all = absurd all
zip_length R (a ∷ xs) [] all = absurd all
zip_length R (a ∷ xs) (b ∷ ys) all = ap suc (zip_length R xs ys all.1)

-- one of each is another
zip_set : {A B : Type 0} (R : A → B → Type 0) (before : List A) (old new : A) (behind : List A) (ys : List B)
    (place : ℕ)
    (y : B) → length before ≡ place → AllZip R (before ++ old ∷ behind) ys → R new y →
    AllZip R (before ++ new ∷ behind) (set ys place y)
zip_set R [] old new behind [] place y is all here = absurd all
zip_set R [] old new behind (b ∷ ys) zero y is all here = (here, all.1)
zip_set R [] old new behind (b ∷ ys) (suc place) y is all here = absurd (omega (arith, is))
zip_set R (a ∷ before) old new behind [] place y is all here = absurd all
zip_set R (a ∷ before) old new behind (b ∷ ys) zero y is all here = absurd (omega (arith, is))
zip_set R (a ∷ before) old new behind (b ∷ ys) (suc place) y is all here =
    (all.0, zip_set R before old new behind ys place y (omega (arith, is)) all.1 here)

-- ---- readers

readers_of_both : (first second : List StatementUse) (x : ℕ) →
    readers_of (first ++ second) x ≡ readers_of first x ++ readers_of second x
readers_of_both first second x =
    let reads : StatementUse → Bool = λ one. is_read one.reads x in
    let id : StatementUse → StmtId = λ one. one.id in
    ap (map id) (filter-append reads first second) ∙ map-append id (filter reads first) (filter reads second)

first_reader : (test : Bool) (one : StatementUse) (others : List StatementUse) →
    map (λ each. each.id) (cond test (one ∷ others) others) ≡ cond test (one.id ∷ []) [] ++ map (λ each. each.id) others
first_reader true one others = refl
first_reader false one others = refl

readers_of_first : (one : StatementUse) (behind : List StatementUse) (x : ℕ) →
    readers_of (one ∷ behind) x ≡ cond (is_read one.reads x) (one.id ∷ []) [] ++ readers_of behind x
readers_of_first one behind x =
    first_reader (is_read one.reads x) one (filter (λ each. is_read each.reads x) behind)

-- statements with the same tellings and the same readers leave the same rows
reads_alike : {principals : Declared} {labelled : Labelled} (uses others : List StatementUse) {id : StmtId}
    {turn next : ℕ} {tellings : List Telling} {reads : List VarId} {found : Reads} →
    flat_map (λ one. one.tellings) uses ≡ flat_map (λ one. one.tellings) others →
    ((x : ℕ) → readers_of uses x ≡ readers_of others x) → turn ≡ next →
    AreReads principals labelled uses id turn tellings reads found →
    AreReads principals labelled others id next tellings reads found
reads_alike {principals} {labelled} uses others {id} {turn} {next} {tellings} {reads} {found} told readers is are =
    subst (λ (when : ℕ). AreReads principals labelled others id when tellings reads found) is (record {
      loc = are.loc ∙ ap (λ (before : List Telling). map (told_of principals (before ++ tellings))
          (range_with_len 0 (length labelled.program.fields))) told;
      readers = are.readers ∙ rows_agree (λ x. readers_of uses x ++ cond (is_read reads x) (id ∷ []) [])
          (λ x. readers_of others x ++ cond (is_read reads x) (id ∷ []) []) (length labelled.program.vars) []
          (λ x within. ap (λ (before : List StmtId). before ++ cond (is_read reads x) (id ∷ []) []) (readers x));
      long = are.long;
      marked = are.marked;
      earlier = are.earlier;
    })

-- the statement whose reads were added stands behind the others
reads_behind : {principals : Declared} {labelled : Labelled} (before : List StatementUse) (one : StatementUse)
    {turn : ℕ} {found : Reads} → turn ≡ suc (length before) →
    AreReads principals labelled before one.id turn one.tellings one.reads found →
    (id : StmtId) → AreReads principals labelled (before ++ one ∷ []) id (suc (length (before ++ one ∷ []))) [] [] found
reads_behind {principals} {labelled} before one {turn} {found} is are id =
    let longer : length (before ++ one ∷ []) ≡ suc (length before) = omega (arith, length-append before (one ∷ [])) in
    record {
      loc = are.loc ∙ ap (λ (all : List Telling). map (told_of principals all)
          (range_with_len 0 (length labelled.program.fields)))
          (sym (append-nil _ ∙ flat_map-append (λ (each : StatementUse). each.tellings) before (one ∷ [])
          ∙ ap (λ (more : List Telling). flat_map (λ (each : StatementUse). each.tellings) before ++ more)
          (append-nil one.tellings)));
      readers = are.readers ∙ rows_agree (λ x. readers_of before x ++ cond (is_read one.reads x) (one.id ∷ []) [])
          (λ x. readers_of (before ++ one ∷ []) x ++ []) (length labelled.program.vars) []
          (λ x within. sym (append-nil _ ∙ readers_of_both before (one ∷ []) x
          ∙ ap (λ (more : List StmtId). readers_of before x ++ more) (readers_of_first one [] x ∙ append-nil _)));
      long = are.long;
      marked = λ x within. ne_eqb _ _ (λ same. omega (arith, same, longer, is, are.earlier x));
      earlier = λ x. omega (arith, longer, is, are.earlier x);
    }

-- ---- statements

pub none_added : (principals : Declared) (labelled : Labelled) (found : Found) (label : Label) →
    IsBackedBy principals [] label → AddsUses principals labelled found [] found label
none_added principals labelled found label none = record {
  adds = λ before are.
      subst (λ (uses : List StatementUse). AreFound principals labelled uses found) (sym (append-nil before)) are;
  backed = none;
}

pub one_added : (principals : Declared) (labelled : Labelled) (start new : Found) (one : StatementUse) (word : ℕ)
    (backed : Label) → new.used.items ≡ start.used.items ++ one.used ∷ [] →
    new.need.items ≡ start.need.items ++ word ∷ [] → IsNeed principals one.backing word →
    AddsReads principals labelled one.id (suc (length start.used.items)) start.reads one.tellings one.reads new.reads →
    IsBackedBy principals one.backing backed → AddsUses principals labelled start (one ∷ []) new backed
one_added principals labelled start new one word backed used need is_need reads is_backed = record {
  adds = λ before are.
      let R : StatementUse → ℕ → Type 0 = λ each need. IsNeed principals each.backing need in
      let count : suc (length start.used.items) ≡ suc (length before) =
      ap suc (ap length are.used ∙ length-map before (λ each. each.used)) in
      record {
        used = used ∙ ap (λ (all : List Label). all ++ one.used ∷ []) are.used
            ∙ sym (map-append (λ (each : StatementUse). each.used) before (one ∷ []));
        need = subst (AllZip R (before ++ one ∷ [])) (sym need)
            (zip_push R before start.need.items one word are.need is_need);
        reads = reads_behind before one count
            (reads.adds before [] []
            (subst (λ (turn : ℕ). AreReads principals labelled before one.id turn [] [] start.reads) (sym count)
            (are.reads one.id)));
      };
  backed = subst (λ (parts : List Backing). IsBackedBy principals parts backed)
      (sym (append-nil one.backing)) is_backed;
}

pub both_added : {principals : Declared} {labelled : Labelled} {old between new : Found}
    (first second : List StatementUse) {left right both : Label} → IsIntegrityMeet left right both →
    AddsUses principals labelled old first between left → AddsUses principals labelled between second new right →
    AddsUses principals labelled old (first ++ second) new both
both_added {principals} {labelled} {old} {between} {new} first second {left} {right} {both} meet adds also = record {
  adds = λ before are.
      subst (λ (uses : List StatementUse). AreFound principals labelled uses new) (append_assoc before first second)
      (also.adds (before ++ first) (adds.adds before are));
  backed = subst (λ (parts : List Backing). IsBackedBy principals parts both)
      (sym (flat_map-append (λ (one : StatementUse). one.backing) first second))
      (both_back (all_backing first) (all_backing second) meet adds.backed also.backed);
}

-- ---- a statement with statements in it

-- those who back the statements in it back it
enclosing_backed : {principals : Declared} (one : StatementUse)
    (nested : List StatementUse) {own inside backing : Label} →
    IsIntegrityMeet own inside backing → IsBackedBy principals (one.backing ++ []) own →
    IsBackedBy principals (all_backing nested) inside →
    IsBackedBy principals (enclosing one nested).backing backing
enclosing_backed {principals} one nested {own} meet is also =
    both_back one.backing (all_backing nested) meet
    (subst (λ (parts : List Backing). IsBackedBy principals parts own) (append-nil one.backing) is) also

-- what was found of the statement by itself is found of it with those in it
enclosing_found : {principals : Declared} {labelled : Labelled} (before : List StatementUse) (one : StatementUse)
    (nested : List StatementUse) {old new : Found} (place word : ℕ) → length before ≡ place →
    new.used ≡ old.used → new.reads ≡ old.reads → new.need.items ≡ set old.need.items place word →
    IsNeed principals (enclosing one nested).backing word →
    AreFound principals labelled ((before ++ one ∷ []) ++ nested) old →
    AreFound principals labelled (before ++ enclosing one nested ∷ nested) new
enclosing_found {principals} {labelled} before one nested {old} {new} place word is used reads need is_need found =
    let R : StatementUse → ℕ → Type 0 = λ each word. IsNeed principals each.backing word in
    let are : AreFound principals labelled (before ++ one ∷ nested) old =
    subst (λ (uses : List StatementUse). AreFound principals labelled uses old)
    (append_assoc before (one ∷ []) nested) found in
    let all : List StatementUse = before ++ enclosing one nested ∷ nested in
    record {
      used = ap (λ (each : _). each.items) used ∙ are.used
          ∙ map-append (λ (each : StatementUse). each.used) before (one ∷ nested)
          ∙ sym (map-append (λ (each : StatementUse). each.used) before (enclosing one nested ∷ nested));
      need = subst (AllZip R all) (sym need)
          (zip_set R before one (enclosing one nested) nested old.need.items place word is are.need is_need);
      reads = λ id. subst (λ (rows : Reads). AreReads principals labelled all id (suc (length all)) [] [] rows)
          (sym reads)
          (reads_alike (before ++ one ∷ nested) all
          (flat_map-append (λ (each : StatementUse). each.tellings) before (one ∷ nested)
          ∙ sym (flat_map-append (λ (each : StatementUse). each.tellings) before (enclosing one nested ∷ nested)))
          (λ x. readers_of_both before (one ∷ nested) x
          ∙ ap (λ (more : List StmtId). readers_of before x ++ more)
          (readers_of_first one nested x ∙ sym (readers_of_first (enclosing one nested) nested x))
          ∙ sym (readers_of_both before (enclosing one nested ∷ nested) x))
          (ap suc (length-append before (one ∷ nested) ∙ sym (length-append before (enclosing one nested ∷ nested))))
          (are.reads id));
    }

pub enclosed : {principals : Declared} {labelled : Labelled} (start first old new : Found) (one : StatementUse)
    (nested : List StatementUse) (own inside backing : Label) (place word : ℕ) → place ≡ length start.need.items →
    new.used ≡ old.used → new.reads ≡ old.reads → new.need.items ≡ set old.need.items place word →
    ((parts : List Backing) → IsBackedBy principals parts backing → IsNeed principals parts word) →
    IsIntegrityMeet own inside backing → AddsUses principals labelled start (one ∷ []) first own →
    AddsUses principals labelled first nested old inside →
    AddsUses principals labelled start (enclosing one nested ∷ nested) new backing
enclosed {principals} start first old new one nested own inside backing place word is used reads need is_need meet adds
    also =
    let backed = enclosing_backed one nested meet adds.backed also.backed in
    record {
      adds = λ before are.
          enclosing_found before one nested place word
          (zip_length (λ (each : StatementUse) (need : ℕ). IsNeed principals each.backing need) before start.need.items
          are.need ∙ sym is)
          used reads need (is_need (enclosing one nested).backing backed)
          (also.adds (before ++ one ∷ []) (adds.adds before are));
      backed = twice_back (one.backing) (all_backing nested) backed;
    }

-- there is a row for the statement
pub enclosed_within : {principals : Declared} {labelled : Labelled} (start first old : Found) (one : StatementUse)
    (nested : List StatementUse) (own inside backing : Label) (place : ℕ) → place ≡ length start.need.items →
    length old.need.items ≤ place →
    IsIntegrityMeet own inside backing → AddsUses principals labelled start (one ∷ []) first own →
    AddsUses principals labelled first nested old inside →
    AddsUses principals labelled start (enclosing one nested ∷ nested) old backing
enclosed_within {principals} {labelled} start first old one nested own inside backing place is short meet adds also =
    record {
      adds = λ before are. absurd (too_short before are);
      backed = twice_back (one.backing) (all_backing nested)
          (enclosing_backed one nested meet adds.backed also.backed);
    }
  where
    too_short : (before : List StatementUse) → AreFound principals labelled before start → ⊥
    too_short before are =
        let R : StatementUse → ℕ → Type 0 = λ each need. IsNeed principals each.backing need in
        let here = zip_length R before start.need.items are.need in
        let all = zip_length R _ old.need.items (also.adds (before ++ one ∷ []) (adds.adds before are)).need in
        omega (arith, here, all, length-append (before ++ one ∷ []) nested, length-append before (one ∷ []))
