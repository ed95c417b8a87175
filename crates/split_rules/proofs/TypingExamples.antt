-- Which code of some small programs is typed where values ride, and which is not.
use Rattle.std.proofs.Common.{◌≡◌, ◌∙◌, ℕ, zero, suc, true, List, [], ◌∷◌, refl, ap, sym, subst, inl, inr, arith}
use Rattle.std.specs.Prelude.{Some, slice_get, unwrap_or, drop, pos, ⊤}
use Rattle.js_base.specs.declared.ids.HostId.{HostId}
use Rattle.js_base.specs.declared.ids.FieldId.{FieldId}
use Rattle.jif_tree.specs.Trees.{BlockTree, MethodTree, number, local}
use Rattle.host_code.specs.declared.code.Entry.{Entry}
use Rattle.host_code.specs.declared.instruction.Instr.{Instr}
use Rattle.host_code.specs.declared.instruction.Op.{Op}
use Rattle.host_code.specs.declared.instruction.Op.TheVariants as op
use Rattle.host_code.specs.declared.code_expr.Node.TheVariants as node
use Rattle.host_code.specs.Code.{CodeShape}
use Rattle.msg_cost.specs.Moves.{PlannedShape, is_trusted_by}
use Rattle.split_rules.specs.Expressions.{first_element, nodes_of}
use Rattle.split_rules.specs.OpenExamples.{main_level, increase, setting, reading, tests_first}
use Rattle.split_rules.specs.Positions.{IsStatementOfMethod, IsOf, DueWork, run, keep, Level, body, under, all_due}
use Rattle.split_rules.specs.Positions.{own_reads, is_on}
use Rattle.split_rules.specs.Positions.{no_call, Position, Entrance, calm, with_reads, with_forwards, forwards_of}
use Rattle.split_rules.specs.TypedCode.{Table, IsTypedOp, IsTypedEntry, IsTypedCode}
use Rattle.split_rules.specs.Typing.{EntryIs, IsTrustedAt, AreDueOn, AreSourced, Covers, need_due, IsCalm, RidesAll}
use Rattle.split_rules.specs.Typing.{Reads, Pushes, Follows, Enters}
use Rattle.split_rules.specs.TypingExamples.{code_instead, CanBeTyped, as_given, sent_instead, rides, sent_and_rides}
use Rattle.split_rules.specs.TypingExamples.{kept_back}
use Rattle.split_rules.specs.TypingExamples.{kept_from_call, sent_first_table, ridden_table, lent_local}
use Rattle.split_rules.specs.TypingExamples.{lent_local_table, called_table}
use Rattle.split_rules.specs.TypingExamples.{called_level, local_out, lent_past_local, framed, argued, param_out}
use Rattle.split_rules.specs.Walk.{need_of}
use Rattle.split_rules.specs.Worked.{host_id, var_id, field_id, site_id, increased, sent_local, called, calling}
use Rattle.split_rules.specs.Worked.{returning}
use Rattle.split_rules.proofs.OneNext.{one_next}
use Rattle.split_rules.proofs.TypedRows.{covers_due}
use Rattle.split_rules.proofs.TypedSplit.{same_there}
use Rattle.split_rules.proofs.WalkedCalls.{nothing_there}

-- ---- what holds of each item of a list with its place

abbrev AllAt : {X : Type 0} → (ℕ → X → Type 0) → List X → Type 0
AllAt P [] = ⊤
AllAt P (one ∷ others) = P 0 one × AllAt (λ place. P (suc place)) others

each_at : {X : Type 0} (P : ℕ → X → Type 0) (list : List X) → AllAt P list → (place : ℕ) (x : X) →
    slice_get list place ≡ Some x → P place x
each_at P [] all place x is = absurd (nothing_there place x is)
each_at P (one ∷ others) all zero x is = let same : one ≡ x = cc in subst (P 0) same all.0
each_at P (one ∷ others) all (suc place) x is = each_at (λ at. P (suc at)) others all.1 place x is

-- the same of the instructions of each host
each_part : (P : ℕ → ℕ → Instr → Type 0) (parts : List (List Instr)) → AllAt (λ host part. AllAt (P host) part) parts →
    (host place : ℕ) (there : Instr) → slice_get (unwrap_or (slice_get parts host) []) place ≡ Some there →
    P host place there
each_part P [] all host place there is = absurd (nothing_there place there is)
each_part P (part ∷ parts) all zero place there is = each_at (P 0) part all.0 place there is
each_part P (part ∷ parts) all (suc host) place there is =
    each_part (λ at. P (suc at)) parts all.1 host place there is

abbrev IsTypedThere : PlannedShape → Table → ℕ → ℕ → Instr → Type 0
IsTypedThere planned table host place there =
    let me : HostId = record { 0 = host } in
    IsTrustedAt planned me (table.at host place) × IsTypedOp planned table me place there.op

abbrev IsMethodEntry : PlannedShape → Table → ℕ → MethodTree → Type 0
IsMethodEntry planned table place tree =
    EntryIs table.entries (suc place) (calm (body (record { 0 = place })) (all_due tree.body))
    (need_of planned (tree.head ∷ []))

-- of an entry, with its place behind the first
abbrev IsEntryBehind : PlannedShape → Table → ℕ → Entry → Type 0
IsEntryBehind planned table place entry = IsTypedEntry planned table (suc place) entry

-- an entry whose need is that of what is due there
enters : (planned : PlannedShape) (table : Table) (named : ℕ) (entry : Entry) (level : Level) (due : List DueWork) →
    EntryIs table.entries named (calm level due) entry.need → table.at entry.host.0 entry.at ≡ calm level due →
    AreDueOn planned entry.host due → entry.need ≡ need_due planned due → IsTypedEntry planned table named entry
enters planned table named entry level due is stands trusted need_is = record {
  position = calm level due;
  is = is;
  is_calm = refl;
  stands = stands;
  trusted = trusted;
  covers = subst (λ need. Covers planned need due) (sym need_is) (covers_due planned due);
}

-- ---- statements that read a field first

reads_first : (planned : PlannedShape) (me : HostId) (level : Level) (statement : BlockTree) (others : List DueWork)
    (field : FieldId) → is_on planned me statement ≡ true →
    own_reads statement ≡ record { field = field; index = number (pos 0) } ∷ [] →
    let from = calm level (run statement ∷ others) in
    Reads planned me from field first_element
    (with_reads from (record { field = field; index = number (pos 0) } ∷ []))
reads_first planned me level statement others field own is = record {
  first = run statement;
  others = others;
  due = refl;
  on_host = own;
  index = number (pos 0);
  behind = [];
  due_next = is;
  before = [];
  reads = refl;
  are = refl;
  goes = refl;
}

-- ---- a local rides

setting_of : IsOf sent_local.program setting
setting_of = (record { 0 = 0 }, (0, setting, omega arith, refl, refl))

reading_of : IsOf sent_local.program reading
reading_of = (record { 0 = 0 }, (1, reading, omega arith, refl, refl))

-- the local is given its value, and has then still to be sent
sets : (planned : PlannedShape) (entries : List Entrance) (others : List DueWork) → is_on planned (host_id 0) setting
    ≡ true
    →
    let from = calm main_level (run setting ∷ others) in
    Follows planned entries (host_id 0) from (op.Let (var_id 0) (node.Number (pos 7) ∷ [])) (record {
      level = main_level;
      due = others;
      reads = [];
      calling = no_call;
      forwards = forwards_of planned (host_id 0) setting (var_id 0);
    })
sets planned entries others own = (
  run setting,
  others,
  record { due = refl; on_host = own; forwards = refl },
  refl,
  (refl, record { reads = refl; are = refl }),
  refl,
)

-- and read and stored with what it is added to
stores : (planned : PlannedShape) (entries : List Entrance) (me : HostId) (level : Level) →
    is_on planned me reading ≡ true →
    Follows planned entries me (tests_first (calm level (run reading ∷ [])))
    (op.Put (field_id 0) first_element (nodes_of 0 (increased 0 (local (var_id 0))))) (calm level [])
stores planned entries me level own = (
  run reading,
  [],
  record { due = refl; on_host = own; forwards = refl },
  refl,
  (refl, refl, record { reads = refl; are = refl }),
  refl,
)

pub local_rides : CanBeTyped sent_local as_given
unfolding is_trusted_by
local_rides =
    let first = host_id 0 in
    let second = host_id 1 in
    let entries = ridden_table.entries in
    let both : AreDueOn sent_local first (run setting ∷ run reading ∷ []) =
    ((refl, setting_of), ((refl, reading_of), tt)) in
    let there : AreDueOn sent_local second (run reading ∷ []) = ((refl, reading_of), tt) in (
      ridden_table,
      record {
        many = refl;
        halts = refl;
        methods = each_at (IsMethodEntry sent_local ridden_table) sent_local.program.methods (refl, tt);
        entries = each_at (IsEntryBehind sent_local ridden_table)
            (drop 1 (code_instead sent_local as_given).entries) (
              enters sent_local ridden_table 1 _ main_level (run setting ∷ run reading ∷ []) refl refl both refl,
              (enters sent_local ridden_table 2 _ main_level (run reading ∷ []) refl refl there refl, tt),
            );
        instructions = λ host. each_part (IsTypedThere sent_local ridden_table)
            (code_instead sent_local as_given).parts (
              (
                ((both, tt), sets sent_local entries (run reading ∷ []) refl),
                (((both.1, ((refl, refl, setting_of, refl), tt)), ((refl, refl), (refl, (refl, tt)), refl)), tt),
              ),
              (
                (
                  ((there, tt), reads_first sent_local second main_level reading [] (field_id 0) refl refl),
                  (((there, tt), stores sent_local entries second main_level refl), (((tt, tt), refl), tt)),
                ),
                tt,
              ),
            ) host.0;
      },
    )

-- or is sent before
pub local_sent : CanBeTyped sent_local sent_instead
unfolding is_trusted_by
local_sent =
    let first = host_id 0 in
    let second = host_id 1 in
    let entries = sent_first_table.entries in
    let both : AreDueOn sent_local first (run setting ∷ run reading ∷ []) =
    ((refl, setting_of), ((refl, reading_of), tt)) in
    let there : AreDueOn sent_local second (run reading ∷ []) = ((refl, reading_of), tt) in (
      sent_first_table,
      record {
        many = refl;
        halts = refl;
        methods = each_at (IsMethodEntry sent_local sent_first_table) sent_local.program.methods (refl, tt);
        entries = each_at (IsEntryBehind sent_local sent_first_table)
            (drop 1 (code_instead sent_local sent_instead).entries) (
              enters sent_local sent_first_table 1 _ main_level (run setting ∷ run reading ∷ []) refl refl both refl,
              (enters sent_local sent_first_table 2 _ main_level (run reading ∷ []) refl refl there refl, tt),
            );
        instructions = λ host. each_part (IsTypedThere sent_local sent_first_table)
            (code_instead sent_local sent_instead).parts (
              (
                ((both, tt), sets sent_local entries (run reading ∷ []) refl),
                (
                  ((both.1, ((refl, refl, setting_of, refl), tt)), (refl, (refl, inl (refl, refl), refl))),
                  (((both.1, tt), (refl, refl)), tt),
                ),
              ),
              (
                (
                  ((there, tt), reads_first sent_local second main_level reading [] (field_id 0) refl refl),
                  (((there, tt), stores sent_local entries second main_level refl), (((tt, tt), refl), tt)),
                ),
                tt,
              ),
            ) host.0;
      },
    )

-- ---- and over the push of an entry

setting_lent : IsOf lent_local.program setting
setting_lent = (record { 0 = 0 }, (0, setting, omega arith, refl, refl))

reading_lent : IsOf lent_local.program reading
reading_lent = (record { 0 = 0 }, (1, reading, omega arith, refl, refl))

pub rides_past_push : CanBeTyped lent_local as_given
unfolding is_trusted_by
rides_past_push =
    let first = host_id 0 in
    let second = host_id 1 in
    let last = increase 3 1 in
    let entries = lent_local_table.entries in
    let last_of : IsOf lent_local.program last = (record { 0 = 0 }, (2, last, omega arith, refl, refl)) in
    let all : AreDueOn lent_local first (run setting ∷ run reading ∷ run last ∷ []) =
    ((refl, setting_lent), ((refl, reading_lent), ((refl, last_of), tt))) in
    let there : AreDueOn lent_local second (run reading ∷ []) = ((refl, reading_lent), tt) in
    let out : AreSourced lent_local first (local_out (calm main_level [])).forwards =
    ((refl, refl, setting_lent, refl), tt) in (
      lent_local_table,
      record {
        many = refl;
        halts = refl;
        methods = each_at (IsMethodEntry lent_local lent_local_table) lent_local.program.methods (refl, tt);
        entries = each_at (IsEntryBehind lent_local lent_local_table)
            (drop 1 (code_instead lent_local as_given).entries) (
              enters lent_local lent_local_table 1 _ main_level (run setting ∷ run reading ∷ run last ∷ []) refl refl
                  all refl,
              (
                enters lent_local lent_local_table 2 _ main_level (run last ∷ []) refl refl all.1.1 refl,
                (enters lent_local lent_local_table 3 _ (under 2) (run reading ∷ []) refl refl there refl, tt),
              ),
            );
        instructions = λ host. each_part (IsTypedThere lent_local lent_local_table)
            (code_instead lent_local as_given).parts (
              (
                ((all, tt), sets lent_local entries (run reading ∷ run last ∷ []) refl),
                (
                  (
                    (all.1, out),
                    record {
                      idle = (refl, refl);
                      behind = run last ∷ [];
                      pushed = refl;
                      due = refl;
                      goes =
                          refl;
                    },
                  ),
                  (
                    (((all.1.0, tt), out), ((refl, refl), (refl, (refl, tt)), refl)),
                    (
                      ((all.1.1, tt), reads_first lent_local first main_level last [] (field_id 1) refl refl),
                      (
                        (
                          (all.1.1, tt),
                          (
                            run last,
                            [],
                            record { due = refl; on_host = refl; forwards = refl },
                            refl,
                            (refl, refl, record { reads = refl; are = refl }),
                            refl,
                          ),
                        ),
                        (((tt, tt), refl), tt),
                      ),
                    ),
                  ),
                ),
              ),
              (
                (
                  ((there, tt), reads_first lent_local second (under 2) reading [] (field_id 0) refl refl),
                  (((there, tt), stores lent_local entries second (under 2) refl), (((tt, tt), refl), tt)),
                ),
                tt,
              ),
            ) host.0;
      },
    )

-- ---- a parameter rides

calling_of : IsOf called.program calling
calling_of = (record { 0 = 0 }, (0, calling, omega arith, refl, refl))

returning_in : IsStatementOfMethod called.program (record { 0 = 1 }) returning
returning_in = (0, returning, omega arith, refl, refl)

returning_of : IsOf called.program returning
returning_of = (record { 0 = 1 }, returning_in)

-- the new frame is made, and then the parameter is set in it
frames : (entries : List Entrance) →
    Follows called entries (host_id 0) (calm main_level (run calling ∷ [])) (op.Frame (site_id 1)) framed
frames entries = (run calling, [], record { due = refl; on_host = refl; forwards = refl }, refl, (refl, refl))

argues : (entries : List Entrance) →
    Follows called entries (host_id 0) framed (op.Arg (var_id 1) (node.Number (pos 3) ∷ [])) argued
argues entries = record {
  value = number (pos 3);
  others = [];
  is_next = refl;
  is_value = record { reads = refl; are = refl };
  on_host = refl;
  goes = refl;
}

pub parameter_rides : CanBeTyped called as_given
unfolding is_trusted_by
parameter_rides =
    let first = host_id 0 in
    let second = host_id 1 in
    let entries = called_table.entries in
    let calls : AreDueOn called first (run calling ∷ []) = ((refl, calling_of), tt) in
    let keeps : AreDueOn called first (keep calling ∷ []) = calls in
    let inside : AreDueOn called first (run returning ∷ []) = ((refl, returning_of), tt) in
    let there : AreDueOn called second (run returning ∷ []) = ((refl, returning_of), tt) in
    let out : AreSourced called first param_out = ((refl, refl, calling_of, inr (inl refl)), tt) in (
      called_table,
      record {
        many = refl;
        halts = refl;
        methods = each_at (IsMethodEntry called called_table) called.program.methods (refl, (refl, tt));
        entries = each_at (IsEntryBehind called called_table)
            (drop 1 (code_instead called as_given).entries) (
              enters called called_table 1 _ main_level (run calling ∷ []) refl refl calls refl,
              (
                enters called called_table 2 _ called_level (run returning ∷ []) refl refl there refl,
                (enters called called_table 3 _ main_level (keep calling ∷ []) refl refl keeps refl, tt),
              ),
            );
        instructions = λ host. each_part (IsTypedThere called called_table) (code_instead called as_given).parts (
          (
            ((calls, tt), frames entries),
            (
              ((calls, tt), argues entries),
              (
                (
                  (calls, out),
                  record {
                    others = [];
                    due = refl;
                    reads = refl;
                    all_set = refl;
                    pushed = refl;
                    goes =
                        refl;
                  },
                ),
                (
                  ((inside, out), (refl, refl, refl, (refl, (refl, tt)), refl)),
                  (
                    (
                      (keeps, tt),
                      (
                        keep calling,
                        [],
                        record { due = refl; on_host = refl; forwards = refl },
                        refl,
                        (var_id 2, refl, refl, refl, refl),
                        refl,
                      ),
                    ),
                    (((tt, tt), refl), tt),
                  ),
                ),
              ),
            ),
          ),
          (
            (
              (
                (there, tt),
                (
                  run returning,
                  record { 0 = 1 },
                  record { due = refl; on_host = refl; forwards = refl },
                  refl,
                  record { reads = refl; are = refl },
                  refl,
                  refl,
                  refl,
                  returning_in,
                ),
              ),
              (((tt, tt), refl), tt),
            ),
            tt,
          ),
        ) host.0;
      },
    )

-- ---- what is not typed, by the positions to which instructions lead

-- where `main` begins its body is due, by whatever table
begins : (planned : PlannedShape) (code : CodeShape) (table : Table) → IsTypedCode planned code table →
    (entry : Entry) → slice_get code.entries 1 ≡ Some entry → (tree : MethodTree) →
    slice_get planned.program.methods 0 ≡ Some tree →
    table.at entry.host.0 entry.at ≡ calm main_level (all_due tree.body)
begins planned code table typed entry is tree tree_is =
    let own = typed.entries 0 entry is in
    let one : Entrance = record { position = own.position; need = entry.need } in
    let other : Entrance =
    record { position = calm main_level (all_due tree.body); need = need_of planned (tree.head ∷ []) } in
    own.stands ∙ ap (λ (it : Entrance). it.position)
    (same_there table.entries 1 one other own.is (typed.methods 0 tree tree_is))

-- an instruction leads to one position
leads : (planned : PlannedShape) (entries : List Entrance) (me : HostId) (what : Op) (here from next other : Position) →
    here ≡ from → Follows planned entries me here what next → Follows planned entries me from what other → next ≡ other
leads planned entries me what here from next other same law own =
    let P : Position → Type 0 = λ it. Follows planned entries me it what next in
    one_next planned entries me from what next other (subst P same law) own

abbrev set_first : Op
set_first = op.Let (var_id 0) (node.Number (pos 7) ∷ [])

-- nothing that is left to be sent is nothing
not_none : {X : Type 0} (x : X) (xs : List X) → ¬ (x ∷ xs ≡ [])
not_none x xs same = absurd (cc)

-- the local is left to be sent where it was given its value
local_left : (planned : PlannedShape) (table : Table) (others : List DueWork) →
    is_on planned (host_id 0) setting ≡ true →
    forwards_of planned (host_id 0) setting (var_id 0) ≡ (local_out (calm main_level others)).forwards →
    table.at 0 0 ≡ calm main_level (run setting ∷ others) → IsTypedOp planned table (host_id 0) 0 set_first →
    table.at 0 1 ≡ local_out (calm main_level others)
local_left planned table others own are start law =
    leads planned table.entries (host_id 0) set_first (table.at 0 0) (calm main_level (run setting ∷ others))
    (table.at 0 1) (with_forwards (calm main_level others) (forwards_of planned (host_id 0) setting (var_id 0))) start
    law (sets planned table.entries others own)
    ∙ ap (with_forwards (calm main_level others)) are

pub not_kept_back : ¬ CanBeTyped sent_local kept_back
unfolding is_trusted_by
not_kept_back (table, typed) =
    let start = begins sent_local (code_instead sent_local kept_back) table typed _ refl _ refl in
    let first = (typed.instructions (host_id 0) 0 _ refl).1 in
    let second = (typed.instructions (host_id 0) 1 _ refl).1 in
    let left = local_left sent_local table (run reading ∷ []) refl refl start first in
    let calm_left = subst IsCalm left second.0 in
    not_none _ _ (ap (λ (it : Position). it.forwards) calm_left)

pub not_sent_and_rides : ¬ CanBeTyped sent_local sent_and_rides
unfolding is_trusted_by
not_sent_and_rides (table, typed) =
    let start = begins sent_local (code_instead sent_local sent_and_rides) table typed _ refl _ refl in
    let first = (typed.instructions (host_id 0) 0 _ refl).1 in
    let second = (typed.instructions (host_id 0) 1 _ refl).1 in
    let third = (typed.instructions (host_id 0) 2 _ refl).1 in
    let left = local_left sent_local table (run reading ∷ []) refl refl start first in
    let none = leads sent_local table.entries (host_id 0) (op.Send (var_id 0) (host_id 1)) (table.at 0 1)
    (local_out (calm main_level (run reading ∷ []))) (table.at 0 2) (calm main_level (run reading ∷ [])) left second
    (refl, (refl, inl (refl, refl), refl)) in
    let rides_none = subst (λ (it : Position). RidesAll (var_id 0 ∷ []) (host_id 1) it.forwards) none third.1 in
    not_none _ _ (sym rides_none.0)

pub not_past_ask : ¬ CanBeTyped lent_past_local rides
unfolding is_trusted_by
not_past_ask (table, typed) =
    let start = begins lent_past_local (code_instead lent_past_local rides) table typed _ refl _ refl in
    let first = (typed.instructions (host_id 0) 0 _ refl).1 in
    let second = (typed.instructions (host_id 0) 1 _ refl).1 in
    let left = local_left lent_past_local table (run reading ∷ run (increase 3 1) ∷ []) refl refl start first in
    not_none _ _ (sym (ap (λ (it : Position). it.forwards) left) ∙ second.2)

pub not_kept_from_call : ¬ CanBeTyped called kept_from_call
unfolding is_trusted_by
not_kept_from_call (table, typed) =
    let start = begins called (code_instead called kept_from_call) table typed _ refl _ refl in
    let first = (typed.instructions (host_id 0) 0 _ refl).1 in
    let second = (typed.instructions (host_id 0) 1 _ refl).1 in
    let third = (typed.instructions (host_id 0) 2 _ refl).1 in
    let fourth = (typed.instructions (host_id 0) 3 _ refl).1 in
    let one = leads called table.entries (host_id 0) (op.Frame (site_id 1)) (table.at 0 0)
    (calm main_level (run calling ∷ [])) (table.at 0 1) framed start first (frames table.entries) in
    let two = leads called table.entries (host_id 0) (op.Arg (var_id 1) (node.Number (pos 3) ∷ [])) (table.at 0 1)
    framed (table.at 0 2) argued one second (argues table.entries) in
    let pushes = subst (λ it. Pushes called table.entries it it.calling 3 (table.at 0 3)) two third in
    let ends = subst (λ it. Enters called table.entries it it.calling 2) pushes.goes fourth in
    not_none _ _ ends.3
