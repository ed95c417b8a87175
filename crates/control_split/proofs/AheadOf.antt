-- What is ahead in a block, from one place to the next.
use Rattle.std.proofs.Common.{◌≡◌, ◌∙◌, ℕ, suc, ◌+◌, ◌<◌, ◌≤◌, true, false, bit_or, List, [], ◌∷◌, length, drop, get_or}
use Rattle.std.proofs.Common.{inl, inr, Option, Some, None, slice_index, take, set, ◌-◌, add-one, refl, sym, ap, arith}
use Rattle.std.proofs.lemmas.Bool.Decides.{eqb_tells}
use Rattle.std.proofs.lemmas.List.{drop-map, length-map, length-drop, take_all, get_or-set_same, get_or-set_other}
use Rattle.std.proofs.Math.Seq.{drop-cons}
use Rattle.std.specs.Int.Bits.{or_zero_r}
use Rattle.std.specs.Option.{is_none}
use Rattle.js_base.specs.declared.ids.HostId.{HostId}
use Rattle.js_base.specs.declared.ids.StmtId.{StmtId}
use Rattle.jif_tree.specs.declared.program.Stmt.{Stmt}
use Rattle.need_labels.specs.Plan.{statement_host}
use Rattle.msg_cost.specs.declared.spot.Spot.{Spot}
use Rattle.msg_cost.specs.Moves.{PlannedShape, is_same}
use Rattle.msg_cost.specs.Views.{ids_of}
use Rattle.split_rules.specs.Walk.{need_of, row_on, behind_row, under_token}
use Rattle.split_rules.proofs.Places.{same_host}
use Rattle.control_split.specs.declared.needs.Ahead.{Ahead}
use Rattle.control_split.specs.Ahead.{begins_on, ahead_of, IsAhead, AreAhead}

abbrev id_of : Stmt → StmtId
id_of statement = statement.id

same_self : (host : HostId) → is_same host host ≡ true
same_self host = elim (eqb_tells host.0 host.0) [
  | inl same ↦ same.0
  | inr apart ↦ absurd (apart.1 refl)
]

row_of_other : (planned : PlannedShape) (host : HostId) (ids : List StmtId) → begins_on planned host ids ≡ false →
    row_on planned host ids ≡ []
row_of_other planned host [] other = refl
row_of_other planned host (statement ∷ others) other = rw other refl

behind_other : (planned : PlannedShape) (host : HostId) (ids : List StmtId) → begins_on planned host ids ≡ false →
    behind_row planned host ids ≡ ids
behind_other planned host [] other = refl
behind_other planned host (statement ∷ others) other = rw other refl

-- a statement with others behind it on another host, or with none
pub ahead_apart : (planned : PlannedShape) (statement : StmtId) (others : List StmtId) (need : ℕ) (behind : Ahead) →
    need ≡ slice_index planned.needs.need statement.0 → behind ≡ ahead_of planned others →
    begins_on planned (statement_host planned.plan statement) others ≡ false →
    record { all = bit_or need behind.all; row = need; behind = behind.all }
    ≡ ahead_of planned (statement ∷ others)
ahead_apart planned statement others need behind needs is other =
    let host = statement_host planned.plan statement in
    let make : ℕ → ℕ → ℕ → Ahead = λ all row rest. record { all = all; row = row; behind = rest } in
    let all : bit_or need behind.all ≡ need_of planned (statement ∷ others) =
    ap (λ first. bit_or first behind.all) needs
    ∙ ap (bit_or (slice_index planned.needs.need statement.0)) (ap (λ (ahead : Ahead). ahead.all) is) in
    let row : need ≡ need_of planned (row_on planned host (statement ∷ others)) =
    rw (same_self host, row_of_other planned host others other)
    (needs ∙ sym (or_zero_r (slice_index planned.needs.need statement.0))) in
    let rest : behind.all ≡ need_of planned (behind_row planned host (statement ∷ others)) =
    rw (same_self host, behind_other planned host others other) (ap (λ (ahead : Ahead). ahead.all) is) in
    let whole = need_of planned (statement ∷ others) in
    ap (λ first. make first need behind.all) all
    ∙ ap (λ first. make whole first behind.all) row
    ∙ ap (make whole (need_of planned (row_on planned host (statement ∷ others)))) rest

row_lent : (planned : PlannedShape) (host : HostId) (back : Option HostId) (others : List StmtId) →
    is_none back ≡ false →
    under_token planned (record { host = host; back = back }) others ≡ row_on planned host others
row_lent planned host None others lent = cc
row_lent planned host (Some back) others lent = refl

row_first : (planned : PlannedShape) (host : HostId) (others : List StmtId) (ahead : Ahead) →
    ahead ≡ ahead_of planned others → begins_on planned host others ≡ true →
    ahead.row ≡ need_of planned (row_on planned host others)
row_first planned host [] ahead is begin = cc
row_first planned host (statement ∷ others) ahead is begin =
    elim (eqb_tells (statement_host planned.plan statement).0 host.0) [
      | inl same ↦
          ap (λ (some : Ahead). some.row) is
          ∙ ap (λ (there : HostId). need_of planned (row_on planned there (statement ∷ others)))
          (same_host (statement_host planned.plan statement) host same.1)
      | inr apart ↦ absurd (cc (begin, apart.0))
    ]

-- a spot where the token is lent, on whose host the statements begin
pub row_left : (planned : PlannedShape) (spot : Spot) (others : List StmtId) (ahead : Ahead) →
    ahead ≡ ahead_of planned others → is_none spot.back ≡ false → begins_on planned spot.host others ≡ true →
    ahead.row ≡ need_of planned (under_token planned spot others)
row_left planned spot others ahead is lent begin =
    row_first planned spot.host others ahead is begin
    ∙ sym (ap (need_of planned) (row_lent planned spot.host spot.back others lent))

-- what is noted for a place of a block
pub noted_ahead : (planned : PlannedShape) (block : List Stmt) (needs : List Ahead) (place : ℕ) (other : Ahead) →
    place ≤ length block → AreAhead planned (ids_of block) needs →
    get_or needs place other ≡ ahead_of planned (ids_of (drop place block))
noted_ahead planned block needs place other within are =
    let count = length-map block id_of in
    are.each place other (omega (arith, count, within)) ∙ ap (ahead_of planned) (drop-map id_of place block)

pub is_ahead : (planned : PlannedShape) (block : List Stmt) (needs : List Ahead) (place : ℕ) (other : Ahead)
    (statement : StmtId) (others : List StmtId) →
    place < length block → AreAhead planned (ids_of block) needs →
    ids_of (drop place block) ≡ statement ∷ others →
    IsAhead planned (statement_host planned.plan statement) (statement ∷ others) (get_or needs place other)
is_ahead planned block needs place other statement others within are here =
    let is = noted_ahead planned block needs place other (omega (arith, within)) are ∙ ap (ahead_of planned) here in
    record {
      all = ap (λ (ahead : Ahead). ahead.all) is;
      row = ap (λ (ahead : Ahead). ahead.row) is;
      behind = ap (λ (ahead : Ahead). ahead.behind) is;
    }

all_taken : (block : List Stmt) (place : ℕ) → take (length block - place) (drop place block) ≡ drop place block
all_taken block place =
    let long = length-drop place block in
    take_all (length block - place) (drop place block) (omega arith)

-- as code takes those behind
pub ids_behind : (block : List Stmt) (place : ℕ) →
    drop place (ids_of block) ≡ ids_of (take (length block - place) (drop place block))
ids_behind block place =
    drop-map id_of place block ∙ sym (ap ids_of (all_taken block place))

pub noted_behind : (planned : PlannedShape) (block : List Stmt) (needs : List Ahead) (place : ℕ) (other : Ahead) →
    place ≤ length block → AreAhead planned (ids_of block) needs →
    get_or needs place other ≡ ahead_of planned (ids_of (take (length block - place) (drop place block)))
noted_behind planned block needs place other within are =
    noted_ahead planned block needs place other within are
    ∙ sym (ap (λ statements. ahead_of planned (ids_of statements)) (all_taken block place))

-- those behind a statement
pub others_behind : (block : List Stmt) (place : ℕ) (statement : StmtId) (others : List StmtId) →
    place < length block → ids_of (drop place block) ≡ statement ∷ others →
    ids_of (take (length block - (place + 1)) (drop (place + 1) block)) ≡ others
others_behind [] place statement others within is = absurd (omega (arith, within))
others_behind (first ∷ rest) place statement others within is =
    let block : List Stmt = first ∷ rest in
    ap ids_of (all_taken block (place + 1)) ∙ ap (λ count. ids_of (drop count block)) (add-one place)
    ∙ ap (drop 1) (sym (ap ids_of (drop-cons block place first within)) ∙ is)

pub first_dropped : (block : List Stmt) (place : ℕ) (other : Stmt) → place < length block →
    drop place (ids_of block)
    ≡ (get_or block place other).id ∷ ids_of (take (length block - (place + 1)) (drop (place + 1) block))
first_dropped block place other within =
    drop-map id_of place block ∙ ap ids_of (drop-cons block place other within)
    ∙ ap (λ (rest : List Stmt). (get_or block place other).id ∷ ids_of rest)
    (sym (ap (λ count. drop count block) (add-one place)) ∙ sym (all_taken block (place + 1)))

-- what is ahead is noted for one place more, before those where it is
pub one_more_noted : (planned : PlannedShape) (block : List Stmt) (needs : List Ahead) (last next : ℕ) (one : Ahead)
    (first : Stmt) → next ≡ last + 1 → next ≤ length block → length needs ≡ suc (length block) →
    one ≡ ahead_of planned ((get_or block last first).id ∷ ids_of (take (length block - next) (drop next block))) →
    ((place : ℕ) (other : Ahead) → next ≤ place → place ≤ length block →
    get_or needs place other ≡ ahead_of planned (drop place (ids_of block))) →
    (place : ℕ) (other : Ahead) → last ≤ place → place ≤ length block →
    get_or (set needs last one) place other ≡ ahead_of planned (drop place (ids_of block))
one_more_noted planned block needs last next one first at_next within long is each place other from to =
    let here = is ∙ ap (λ count. ahead_of planned ((get_or block last first).id
    ∷ ids_of (take (length block - count) (drop count block)))) at_next
    ∙ ap (ahead_of planned) (sym (first_dropped block last first (omega (arith, at_next, within)))) in
    elim (eqb_tells place last) [
      | inl same ↦
          rw same.1 (get_or-set_same needs last one other (omega (arith, at_next, within, long)) ∙ here)
      | inr apart ↦
          get_or-set_other needs last place one other apart.1
          ∙ each place other (omega (arith, at_next, from, apart.1)) to
    ]

pub with_first : (planned : PlannedShape) (one other : Stmt) (others : List StmtId) → one ≡ other →
    ahead_of planned (one.id ∷ others) ≡ ahead_of planned (other.id ∷ others)
with_first planned one other others same =
    ap (λ (statement : Stmt). ahead_of planned (statement.id ∷ others)) same
