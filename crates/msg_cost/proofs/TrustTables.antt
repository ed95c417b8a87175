-- Tables of trust.
use Rattle.std.proofs.Common.{◌≡◌, ◌∙◌, ℕ, suc, ◌+◌, ◌<◌, ◌≤◌, ◌&&◌, inl, inr, Bool, true, false, nat_le}
use Rattle.std.proofs.Common.{List, [], ◌∷◌, ◌++◌, length, get_or, set, replicate, ap, sym, subst, refl, add-one, arith}
use Rattle.std.specs.Global.{Vec}
use Rattle.std.proofs.lemmas.Bool.{cases_lt, le-leb}
use Rattle.std.proofs.lemmas.List.{drop_all, get_or-set_same, get_or-set_other, get_or-map, map-set, set-get_or}
use Rattle.std.proofs.lemmas.List.{length-map, length-replicate, get_or-replicate, nil_from_length}
use Rattle.std.proofs.lemmas.List.{length_push, get_or_push, get_or_append_left, get_or_default}
use Rattle.std.proofs.lemmas.List.Elements.{All-nil, All-set, All-same, All-push}
use Rattle.js_base.specs.declared.ids.HostId.{HostId}
use Rattle.host_decl.specs.Hosts.{HostsShape}
use Rattle.jif_tree.specs.declared.program.Method.{Method}
use Rattle.jif_tree.specs.declared.program.Stmt.{Stmt}
use Rattle.need_labels.specs.Needs.{NeedsShape}
use Rattle.msg_cost.specs.declared.piece.Piece.{Piece as Kept}
use Rattle.msg_cost.specs.Kept.{is_trusted_from}
use Rattle.msg_cost.specs.Moves.{PlannedShape, is_trusted_for, is_trusted_for_all}
use Rattle.msg_cost.specs.PieceViews.{piece_shape, all_pieces}
use Rattle.msg_cost.specs.Pieces.{CostPiece}
use Rattle.msg_cost.specs.Rows.{rows_of}
use Rattle.msg_cost.specs.Tables.{IsTrustedSince, IsTable, HasTable, HaveTables, RowsHaveTables, AreBodies}
use Rattle.msg_cost.specs.Views.{ids_of}
use Rattle.msg_cost.proofs.Between.{left, both_true, first_false, too_far}

-- ---- the first place from which a host is trusted

-- As far as the statements before a place tell: from a place up to this one on the host is trusted where that is the
-- first or behind it, and where the host is trusted from this one on.
abbrev pub IsFirstSoFar : PlannedShape → HostId → List Stmt → ℕ → ℕ → Type 0
IsFirstSoFar planned host block first place = (p : ℕ) → p ≤ place →
    is_trusted_from planned host block p ≡ (nat_le first p && is_trusted_from planned host block place)

none_so_far : (test : Bool) → (test && false) ≡ false
none_so_far true = refl
none_so_far false = refl

all_so_far : (test : Bool) → (test && true) ≡ test
all_so_far true = refl
all_so_far false = refl

-- the place itself, where the first is no place behind it
here : (planned : PlannedShape) (host : HostId) (block : List Stmt) (first place : ℕ) → first ≤ place →
    is_trusted_from planned host block place ≡ (nat_le first place && is_trusted_from planned host block place)
here planned host block first place within =
    sym (both_true (nat_le first place) (is_trusted_from planned host block place) (le-leb first place within))

pub so_far_none : (planned : PlannedShape) (host : HostId) (block : List Stmt) →
    IsFirstSoFar planned host block 0 0
so_far_none planned host block p to =
    let is : p ≡ 0 = omega arith in
    subst (λ (n : ℕ). is_trusted_from planned host block n ≡ (nat_le 0 n && is_trusted_from planned host block 0))
    (sym is) (here planned host block 0 0 (omega arith))

pub so_far_trusted : (planned : PlannedShape) (host : HostId) (block : List Stmt) (first place : ℕ)
    (statement : Stmt) → place < length block → statement ≡ get_or block place statement →
    is_trusted_for planned host statement.id ≡ true → first ≤ place → IsFirstSoFar planned host block first place →
    IsFirstSoFar planned host block first (place + 1)
so_far_trusted planned host block first place statement within is trusted below so p to =
    elim (cases_lt place p) [
      | inl past ↦
          let same : p ≡ place + 1 = omega arith in
          subst (λ (n : ℕ). is_trusted_from planned host block n
          ≡ (nat_le first n && is_trusted_from planned host block (place + 1))) (sym same)
          (here planned host block first (place + 1) (omega arith))
      | inr before ↦ rw add-one (so p before
          ∙ ap (λ (test : Bool). nat_le first p && test)
          (left planned host block place statement within is
          ∙ both_true (is_trusted_for planned host statement.id) (is_trusted_from planned host block (suc place))
          trusted))
    ]

pub so_far_anew : (planned : PlannedShape) (host : HostId) (block : List Stmt) (first place : ℕ) (statement : Stmt) →
    place < length block → statement ≡ get_or block place statement →
    is_trusted_for planned host statement.id ≡ false → IsFirstSoFar planned host block first place →
    IsFirstSoFar planned host block (place + 1) (place + 1)
so_far_anew planned host block first place statement within is trusted so p to =
    elim (cases_lt place p) [
      | inl past ↦
          let same : p ≡ place + 1 = omega arith in
          subst (λ (n : ℕ). is_trusted_from planned host block n
          ≡ (nat_le (place + 1) n && is_trusted_from planned host block (place + 1))) (sym same)
          (here planned host block (place + 1) (place + 1) (omega arith))
      | inr before ↦
          so p before
          ∙ ap (λ (test : Bool). nat_le first p && test)
          (left planned host block place statement within is
          ∙ first_false (is_trusted_for planned host statement.id) (is_trusted_from planned host block (suc place))
          trusted)
          ∙ none_so_far (nat_le first p)
          ∙ sym (first_false (nat_le (place + 1) p) (is_trusted_from planned host block (place + 1))
          (too_far (place + 1) p (omega arith)))
    ]

behind : (planned : PlannedShape) (host : HostId) (block : List Stmt) (place : ℕ) → length block ≤ place →
    is_trusted_from planned host block place ≡ true
behind planned host block place past =
    ap (λ statements. is_trusted_for_all planned host (ids_of statements)) (drop_all place block past)

pub so_far_all : (planned : PlannedShape) (host : HostId) (block : List Stmt) (first place : ℕ) →
    length block ≤ place → first ≤ place → IsFirstSoFar planned host block first place → (p : ℕ) →
    is_trusted_from planned host block p ≡ nat_le first p
so_far_all planned host block first place past below so p = elim (cases_lt place p) [
  | inl later ↦ behind planned host block p (omega arith) ∙ sym (le-leb first p (omega arith))
  | inr before ↦ so p before
      ∙ ap (λ (test : Bool). nat_le first p && test) (behind planned host block place past)
      ∙ all_so_far (nat_le first p)
]

-- ---- the table of a block

pub table_more : (needs : NeedsShape) (hosts : HostsShape) (block : List Stmt) (table : List ℕ) (number first : ℕ) →
    number < length table →
    ((host : HostId) → host.0 < number → IsTrustedSince needs hosts host block (get_or table host.0 0)) →
    IsTrustedSince needs hosts (record { 0 = number }) block first → (host : HostId) → host.0 < number + 1 →
    IsTrustedSince needs hosts host block (get_or (set table number first) host.0 0)
table_more needs hosts block table number first within so is host below = elim (cases_lt host.0 number) [
  | inl before ↦ subst (IsTrustedSince needs hosts host block)
      (sym (get_or-set_other table number host.0 first 0 (λ same. omega (arith, same)))) (so host before)
  | inr past ↦ now (omega arith)
]
  where
    now : host.0 ≡ number → IsTrustedSince needs hosts host block (get_or (set table number first) host.0 0)
    now same =
        let P : ℕ → Type 0 = λ n.
        IsTrustedSince needs hosts (record { 0 = n }) block (get_or (set table number first) n 0) in
        subst P (sym same)
        (subst (IsTrustedSince needs hosts (record { 0 = number }) block)
        (sym (get_or-set_same table number first 0 within)) is)

-- ---- pieces with tables

-- a piece that is changed in its place keeps its shape
pub same_shapes : (pieces : List Kept) (place : ℕ) (piece next : Kept) → place < length pieces →
    piece ≡ get_or pieces place piece → piece_shape next ≡ piece_shape piece →
    all_pieces (set pieces place next) ≡ all_pieces pieces
same_shapes pieces place piece next within is same =
    map-set piece_shape pieces place next
    ∙ ap (λ (one : CostPiece). set (all_pieces pieces) place one)
    (same ∙ ap piece_shape is ∙ sym (get_or-map piece_shape pieces place piece (piece_shape piece) within))
    ∙ set-get_or (all_pieces pieces) place (piece_shape piece)

-- a piece of a list has its table
pub table_of : (needs : NeedsShape) (hosts : HostsShape) (pieces : List Kept) (place : ℕ) (piece : Kept) →
    place < length pieces → piece ≡ get_or pieces place piece → HaveTables needs hosts pieces →
    HasTable needs hosts piece
table_of needs hosts pieces place piece within is have =
    subst (HasTable needs hosts) (sym is) (have place piece within)

-- one more piece in a row
pub pushed_tables : (needs : NeedsShape) (hosts : HostsShape) (rows : List (Vec Kept)) (place : ℕ)
    (row pushed : Vec Kept) (piece : Kept) → place < length (rows_of rows) → row ≡ get_or rows place row →
    pushed.items ≡ row.items ++ piece ∷ [] → HasTable needs hosts piece → RowsHaveTables needs hosts rows →
    RowsHaveTables needs hosts (set rows place pushed)
pushed_tables needs hosts rows place row pushed piece within is more has have =
    let Has : Vec Kept → Type 0 = λ one. HaveTables needs hosts one.items in
    let long = length-map rows (λ (one : Vec Kept). all_pieces one.items) in
    let old : Has row = subst Has (sym is) (have place row (omega arith)) in
    All-set Has rows place pushed
    (All-same (HasTable needs hosts) pushed.items (row.items ++ piece ∷ []) more
    (All-push (HasTable needs hosts) row.items piece old has)) have

no_pieces : (items : List Kept) → all_pieces items ≡ [] → items ≡ []
no_pieces items none = nil_from_length items (sym (length-map items piece_shape) ∙ ap length none)

-- rows without pieces have no walk
pub empty_tables : (needs : NeedsShape) (hosts : HostsShape) (count : ℕ) (rows : List (Vec Kept)) →
    rows_of rows ≡ replicate count [] → RowsHaveTables needs hosts rows
empty_tables needs hosts count rows is k d within =
    let shape : Vec Kept → List CostPiece = λ one. all_pieces one.items in
    let long : length rows ≡ count = sym (length-map rows shape) ∙ ap length is ∙ length-replicate count [] in
    let none : all_pieces (get_or rows k d).items ≡ [] =
    sym (get_or-map shape rows k d [] within) ∙ ap (λ (all : List (List CostPiece)). get_or all k []) is
    ∙ get_or-replicate count k [] [] (omega arith) in
    All-same (HasTable needs hosts) (get_or rows k d).items [] (no_pieces (get_or rows k d).items none)
    (All-nil (HasTable needs hosts))

-- ---- the tables of the bodies of methods

-- the tables of the bodies of the first methods, so many
pub record BodiesTo (needs : NeedsShape) (hosts : HostsShape) (methods : List Method) (count : ℕ)
    (tables : List (List ℕ)) : Type 0 where
  pub long : length tables ≡ count
  pub are : (number : ℕ) (method : Method) → number < count → number < length methods →
      method ≡ get_or methods number method → IsTable needs hosts method.body.items (get_or tables number [])

pub no_bodies : (needs : NeedsShape) (hosts : HostsShape) (methods : List Method) (tables : List (List ℕ)) →
    tables ≡ [] → BodiesTo needs hosts methods 0 tables
no_bodies needs hosts methods tables none = record {
  long = ap length none;
  are = λ number method below within is. absurd (omega arith);
}

pub more_bodies : (needs : NeedsShape) (hosts : HostsShape) (methods : List Method) (count : ℕ)
    (tables next : List (List ℕ)) (last : Method) (table : List ℕ) → count < length methods →
    last ≡ get_or methods count last → IsTable needs hosts last.body.items table → next ≡ tables ++ table ∷ [] →
    BodiesTo needs hosts methods count tables → BodiesTo needs hosts methods (count + 1) next
more_bodies needs hosts methods count tables next last table within is has pushed so = record {
  long = ap length pushed ∙ length_push tables table ∙ ap (λ (n : ℕ). n + 1) so.long;
  are = λ number method below inside there. elim (cases_lt number count) [
    | inl before ↦ subst (IsTable needs hosts method.body.items)
        (sym (ap (λ (all : List (List ℕ)). get_or all number []) pushed
        ∙ get_or_append_left tables (table ∷ []) [] number (let long = so.long in omega arith)))
        (so.are number method before inside there)
    | inr from ↦ here number method inside there (omega arith)
  ];
}
  where
    here : (number : ℕ) (method : Method) → number < length methods → method ≡ get_or methods number method →
        number ≡ count → IsTable needs hosts method.body.items (get_or next number [])
    here number method inside there same =
        let one : last ≡ method =
        is ∙ get_or_default methods count last method within
        ∙ ap (λ (n : ℕ). get_or methods n method) (sym same) ∙ sym there in
        let kept : table ≡ get_or next number [] =
        sym (ap (λ (all : List (List ℕ)). get_or all number []) pushed
        ∙ get_or_push tables table [] number (so.long ∙ sym same)) in
        subst (IsTable needs hosts method.body.items) kept
        (subst (λ (m : Method). IsTable needs hosts m.body.items table) one has)

pub all_bodies : (needs : NeedsShape) (hosts : HostsShape) (methods : List Method) (count : ℕ)
    (tables : List (List ℕ)) → length methods ≡ count → BodiesTo needs hosts methods count tables →
    AreBodies needs hosts methods tables
all_bodies needs hosts methods count tables all so = record {
  long = so.long ∙ sym all;
  are = λ number method within is. so.are number method (omega arith) within is;
}
