-- Typed walks in parts: one after another they go from the first place to the last, and what is known at the last
-- counts what the parts have.
use Rattle.std.proofs.Common.{◌≡◌, ◌∙◌, ℕ, suc, List, [], ◌∷◌, ◌++◌, length, ap, sym, subst, arith, append_assoc}
use Rattle.std.proofs.Common.{length-append, append-nil}
use Rattle.js_base.specs.declared.ids.HostId.{HostId}
use Rattle.host_code.specs.declared.instruction.Op.{Op}
use Rattle.host_code.specs.declared.instruction.Op.TheVariants as op
use Rattle.msg_cost.specs.Moves.{PlannedShape}
use Rattle.split_rules.specs.Emissions.{Emission, instruction, entry, stands, lands, Counts, one_more_branch}
use Rattle.split_rules.specs.Emissions.{counts_with, counts_after}
use Rattle.split_rules.specs.Positions.{Position, Entrance}
use Rattle.split_rules.specs.Typing.{WalkPlace, WalkKnown, TypedOp, Types, AreTyped}

abbrev pub known_at : WalkPlace → List Entrance → List Position → WalkKnown
known_at place entries branches = record { place = place; entries = entries; branches = branches }

abbrev pub counts_in : List Entrance → List Position → Counts
counts_in entries branches = record { entries = length entries; branches = length branches }

abbrev pub counts_of : WalkKnown → Counts
counts_of known = counts_in known.entries known.branches

pub typed_on : (planned : PlannedShape) (first : WalkKnown) (xs ys : List Emission) (middle last : WalkKnown) →
    AreTyped planned first xs middle → AreTyped planned middle ys last → AreTyped planned first (xs ++ ys) last
typed_on planned first [] ys middle last one two =
    let P : WalkKnown → Type 0 = λ known. AreTyped planned known ys last in
    subst P (sym one) two
typed_on planned first (x ∷ xs) ys middle last one two =
    (one.0, one.1, typed_on planned one.0 xs ys middle last one.2 two)

-- ---- counts

pub one_longer : {X : Type 0} (xs : List X) (x : X) → length (xs ++ x ∷ []) ≡ suc (length xs)
one_longer xs x = rw length-append (omega arith)

counts_op : (planned : PlannedShape) (known : WalkKnown) (me : HostId) (from : Position) (what : Op)
    (after : WalkKnown) →
    TypedOp planned known me from what after → counts_of after ≡ one_more_branch what (counts_of known)
counts_op planned known me from (op.Read field index) after typed = ap counts_of typed.2
counts_op planned known me from (op.Let x value) after typed = ap counts_of typed.2
counts_op planned known me from (op.Put field index value) after typed = ap counts_of typed.2
counts_op planned known me from (op.Send x to) after typed = ap counts_of typed.2
counts_op planned known me from (op.Frame site) after typed = ap counts_of typed.2
counts_op planned known me from (op.Arg x value) after typed = ap counts_of typed.2
counts_op planned known me from (op.Pass x to) after typed = ap counts_of typed.2
counts_op planned known me from (op.Push there) after typed = ap counts_of typed.2
counts_op planned known me from (op.Ask there on) after typed = ap counts_of typed.2
counts_op planned known me from (op.Go there on) after typed = ap counts_of typed.1
counts_op planned known me from (op.Call there on) after typed = ap counts_of typed.1
counts_op planned known me from (op.Ret x value) after typed = ap counts_of typed.2
counts_op planned known me from op.Back after typed = ap counts_of typed.1
counts_op planned known me from (op.Branch guard number) after typed =
    ap counts_of typed.4 ∙ ap more_branches (one_longer known.branches typed.1)
  where
    more_branches : ℕ → Counts
    more_branches many = record { entries = length known.entries; branches = many }
counts_op planned known me from (op.GoWith there on riders) after typed = ap counts_of typed.1
counts_op planned known me from (op.CallWith there on riders) after typed = ap counts_of typed.1

counts_one : (planned : PlannedShape) (known : WalkKnown) (x : Emission) (after : WalkKnown) →
    Types planned known x after →
    counts_of after ≡ counts_with (counts_of known) x
counts_one planned known (instruction one) after typed =
    counts_op planned known one.host typed.0 one.op after typed.3
counts_one planned known (entry named) after typed =
    ap counts_of typed.4
    ∙ ap more_entries (one_longer known.entries (record { position = typed.0; need = named.need }))
  where
    more_entries : ℕ → Counts
    more_entries many = record { entries = many; branches = length known.branches }
counts_one planned known (stands host number) after typed = ap counts_of typed.4
counts_one planned known (lands host number) after typed = ap counts_of typed.3

pub counts_behind : (planned : PlannedShape) (first : WalkKnown) (xs : List Emission) (last : WalkKnown) →
    AreTyped planned first xs last → counts_of last ≡ counts_after (counts_of first) xs
counts_behind planned first [] last typed = ap counts_of (sym typed)
counts_behind planned first (x ∷ xs) last typed =
    counts_behind planned typed.0 xs last typed.2
    ∙ ap (λ counts. counts_after counts xs) (counts_one planned first x typed.0 typed.1)

-- ---- parts

-- Emissions lead to a place. What was known stays known.
pub record Leads (planned : PlannedShape) (first : WalkKnown) (emissions : List Emission) (place : WalkPlace) : Type 0
  where
    pub more : List Entrance
    pub ahead : List Position
    pub typed : AreTyped planned first emissions (known_at place (first.entries ++ more) (first.branches ++ ahead))

-- where nothing is named and no branch begins
pub leads_still : (planned : PlannedShape) (place behind : WalkPlace) (entries : List Entrance)
    (branches : List Position)
    (emissions : List Emission) →
    AreTyped planned (known_at place entries branches) emissions (known_at behind entries branches) →
    Leads planned (known_at place entries branches) emissions behind
leads_still planned place behind entries branches emissions typed =
    let P : List Entrance → Type 0 = λ one. AreTyped planned (known_at place entries branches) emissions
    (known_at behind one branches) in
    let Q : List Position → Type 0 = λ one. AreTyped planned (known_at place entries branches) emissions
    (known_at behind (entries ++ []) one) in
    record {
      more = [];
      ahead = [];
      typed = subst Q (sym (append-nil branches)) (subst P (sym (append-nil entries)) typed);
    }

-- one part and what follows it, which may use what the first part made of the counts
pub leads_on : (planned : PlannedShape) (first : WalkKnown) (xs ys : List Emission) (place behind : WalkPlace) →
    Leads planned first xs place → ((more : List Entrance) (ahead : List Position) →
    counts_in (first.entries ++ more) (first.branches ++ ahead) ≡ counts_after (counts_of first) xs →
    Leads planned (known_at place (first.entries ++ more) (first.branches ++ ahead)) ys behind) →
    Leads planned first (xs ++ ys) behind
leads_on planned first xs ys place behind one follows =
    let middle = known_at place (first.entries ++ one.more) (first.branches ++ one.ahead) in
    let two = follows one.more one.ahead (counts_behind planned first xs middle one.typed) in
    let P : List Entrance → Type 0 = λ entries. AreTyped planned middle ys
    (known_at behind entries ((first.branches ++ one.ahead) ++ two.ahead)) in
    let Q : List Position → Type 0 = λ branches. AreTyped planned middle ys
    (known_at behind (first.entries ++ (one.more ++ two.more)) branches) in
    record {
      more = one.more ++ two.more;
      ahead = one.ahead ++ two.ahead;
      typed = typed_on planned first xs ys middle _ one.typed
          (subst Q (append_assoc first.branches one.ahead two.ahead)
          (subst P (append_assoc first.entries one.more two.more) two.typed));
    }

-- a part that names entries and opens no branch, and what follows it
pub moved_then : (planned : PlannedShape) (entries : List Entrance) (branches : List Position)
    (more : List Entrance) (place middle behind : WalkPlace)
    (xs ys : List Emission) →
    AreTyped planned (known_at place entries branches) xs (known_at middle (entries ++ more) branches) →
    Leads planned (known_at middle (entries ++ more) branches) ys behind →
    Leads planned (known_at place entries branches) (xs ++ ys) behind
moved_then planned entries branches more place middle behind xs ys one two =
    let between = known_at middle (entries ++ more) branches in
    let P : List Entrance → Type 0 = λ it. AreTyped planned between ys (known_at behind it (branches ++ two.ahead)) in
    record {
      more = more ++ two.more;
      ahead = two.ahead;
      typed = typed_on planned (known_at place entries branches) xs ys between _ one
          (subst P (append_assoc entries more two.more) two.typed);
    }
