-- What hosts may bring about in some small programs, as it is computed.
use Rattle.std.proofs.Common.{◌≡◌, ℕ, zero, suc, ◌≤◌, List, [], ◌∷◌, refl, subst, ap, arith, inl, inr, lit<}
use Rattle.std.specs.Prelude.{Option, Some, None, IsSomeAnd}
use Rattle.std.specs.Int.{bit_at}
use Rattle.std.proofs.lemmas.Nat.Bits.{bit_at_or}
use Rattle.js_base.specs.declared.ids.EntryId.{EntryId}
use Rattle.js_base.specs.declared.ids.VarId.{VarId}
use Rattle.label_lattice.specs.declared.label.Label.{Label}
use Rattle.label_lattice.specs.Label.{IsTrustedBy}
use Rattle.label_lattice.specs.Lattice.{empty_label}
use Rattle.jif_tree.specs.Trees.{BlockTree}
use Rattle.host_code.specs.declared.code.Entry.{Entry}
use Rattle.host_code.specs.declared.code_expr.Node.{Node}
use Rattle.host_code.specs.declared.instruction.Op.TheVariants as op
use Rattle.host_code.specs.Code.{CodeShape, entry_at}
use Rattle.need_labels.proofs.Somewhere.{any_first, any_none}
use Rattle.msg_cost.specs.Moves.{is_trusted_by}
use Rattle.split_rules.specs.OpenExamples.{FirstOpens, code_of, untrusted, trusted_by_first, thread_on_first, increase}
use Rattle.split_rules.specs.OpenExamples.{reading, sent_table, lent_table, branched_table, looped_table, loop_start}
use Rattle.split_rules.specs.OpenExamples.{repetition}
use Rattle.split_rules.specs.Opening.{MayRun, IsOpenTo, HasNeed, MayChange, HasAllOf, NamesEntryWithin, IsCoveredBy}
use Rattle.split_rules.specs.Positions.{IsStatementOfMethod, IsOf}
use Rattle.split_rules.specs.Walk.{entry_id}
use Rattle.split_rules.specs.Worked.{lent_back, lent_past, branched, looped, called, calling, returning, loop_end}
use Rattle.split_rules.specs.Worked.{host_id, var_id, trusted_by, sent_local}
use Rattle.split_rules.proofs.TrustedNeeds.{none_needed}

not_both : (bit : ℕ) → bit ≡ 0 → ¬ (bit ≡ 1)
not_both bit clear set = omega arith

not_trusted : ¬ IsTrustedBy untrusted 1
not_trusted trusted = not_both 0 refl (trusted 0 (lit< tt) refl)

-- ---- an entry that is pushed or asked for

lent_first : IsOf lent_back.program (increase 1 0)
lent_first = (record { 0 = 0 }, (0, increase 1 0, omega arith, refl, refl))

first_open : (label : Label) → IsOpenTo lent_back label (lent_table.at 0 1)
first_open label = record { due = ((none_needed label, lent_first), tt); sent = tt; calls = tt; params = tt }

first_open_past : (label : Label) → IsOpenTo lent_past label (lent_table.at 0 1)
first_open_past label = record { due = ((none_needed label, lent_first), tt); sent = tt; calls = tt; params = tt }

pub before_pushed : IsOpenTo lent_back untrusted (lent_table.at 0 1)
before_pushed = first_open untrusted

not_pushed : ¬ HasNeed (code_of lent_back) untrusted (entry_id 2)
unfolding is_trusted_by
not_pushed has = not_trusted has

pub pushed_denied : ¬ FirstOpens lent_back lent_table untrusted 0 (op.Push (entry_id 2))
pushed_denied law = not_pushed law.0

pub pushed_own : HasNeed (code_of lent_back) (trusted_by 3) (entry_id 2)
unfolding is_trusted_by
pushed_own p p_in set = let both = bit_at_or 1 2 p in omega (arith, both, set)

has_pushed : HasNeed (code_of lent_back) trusted_by_first (entry_id 2)
unfolding is_trusted_by
has_pushed p p_in set = set

pub pushed : FirstOpens lent_back lent_table trusted_by_first 0 (op.Push (entry_id 2))
pushed = (has_pushed, first_open trusted_by_first)

not_asked : ¬ HasNeed (code_of lent_past) untrusted (entry_id 2)
unfolding is_trusted_by
not_asked has = not_trusted has

pub asked_denied : ¬ FirstOpens lent_past lent_table untrusted 0 (op.Ask (entry_id 2) (host_id 2))
asked_denied law = not_asked law.0

has_asked : HasNeed (code_of lent_past) trusted_by_first (entry_id 2)
unfolding is_trusted_by
has_asked p p_in set = set

pub asked : FirstOpens lent_past lent_table trusted_by_first 0 (op.Ask (entry_id 2) (host_id 2))
asked = (has_asked, first_open_past trusted_by_first)

-- ---- a variable that is sent

pub behind_sent : IsOpenTo sent_local untrusted (sent_table.at 0 2)
behind_sent =
    let own : IsOf sent_local.program reading = (record { 0 = 0 }, (1, reading, omega arith, refl, refl)) in
    record { due = ((none_needed untrusted, own), tt); sent = tt; calls = tt; params = tt }

not_sent : ¬ MayChange (code_of sent_local) untrusted (var_id 0)
unfolding is_trusted_by empty_label
not_sent may = not_both 0 refl (may 0 (lit< tt) refl)

pub sent_denied : ¬ FirstOpens sent_local sent_table untrusted 1 (op.Send (var_id 0) (host_id 1))
sent_denied law = not_sent law.0

may_send : MayChange (code_of sent_local) trusted_by_first (var_id 0)
unfolding is_trusted_by empty_label
may_send p p_in trusts = trusts

pub sent : FirstOpens sent_local sent_table trusted_by_first 1 (op.Send (var_id 0) (host_id 1))
sent =
    let own : IsOf sent_local.program reading = (record { 0 = 0 }, (1, reading, omega arith, refl, refl)) in (
      may_send,
      record { due = ((none_needed trusted_by_first, own), tt); sent = tt; calls = tt; params = tt },
    )

-- ---- a variable that rides

pub riding_denied : (there : EntryId) (others : List VarId) →
    ¬ FirstOpens sent_local sent_table untrusted 1 (op.GoWith there (host_id 1) (var_id 0 ∷ others))
riding_denied there others law = not_sent law.1.0

pub riding_called_denied : (there : EntryId) (first : VarId) (others : List VarId) →
    ¬ FirstOpens sent_local sent_table untrusted 1 (op.CallWith there (host_id 1) (first ∷ var_id 0 ∷ others))
riding_called_denied there first others law = not_sent law.1.1.0

-- ---- both places behind a branch

pub branch_next : IsOpenTo branched untrusted (branched_table.at 0 3)
branch_next =
    let own : IsOf branched.program (increase 2 1) = (record { 0 = 0 }, (1, increase 2 1, omega arith, refl, refl)) in
    record { due = ((none_needed untrusted, own), tt); sent = tt; calls = tt; params = tt }

pub branch_denied : (guard : List Node) →
    ¬ FirstOpens branched branched_table untrusted 2 (op.Branch guard 4)
branch_denied guard law = not_trusted law.1.due.0.0

pub loop_target : IsOpenTo looped untrusted (looped_table.at 0 8)
loop_target = record { due = tt; sent = tt; calls = tt; params = tt }

pub loop_denied : (guard : List Node) →
    ¬ FirstOpens looped looped_table untrusted 1 (op.Branch guard 8)
loop_denied guard law = not_trusted law.0.due.1.0.0

-- ---- statements of methods

pub of_method : MayRun called untrusted returning
of_method = (none_needed untrusted, (record { 0 = 1 }, (0, returning, omega arith, refl, refl)))

pub calling_denied : ¬ MayRun called untrusted calling
calling_denied may = not_trusted may.0

none_returns : (number : ℕ) → ¬ IsStatementOfMethod looped.program (record { 0 = number }) returning
none_returns zero some =
    let Same : BlockTree → Type 0 = λ one. one ≡ returning in
    elim (any_first Same repetition (loop_start ∷ loop_end ∷ []) some) [
      | inl same ↦ absurd (cc)
      | inr later ↦ elim (any_first Same loop_start (loop_end ∷ []) later) [
        | inl same ↦ absurd (cc)
        | inr last ↦ elim (any_first Same loop_end [] last) [
          | inl same ↦ absurd (cc)
          | inr none ↦ any_none Same none
        ]
      ]
    ]
none_returns (suc number) some = absurd some

pub of_none : (label : Label) → ¬ MayRun looped label returning
of_none label may = none_returns may.1.0.0 may.1.1

-- ---- what a need has

abbrev lent_code : CodeShape
lent_code = code_of lent_back

needs_first : IsSomeAnd (entry_at lent_code (entry_id 2)) (λ entry. entry.need ≡ 1)
unfolding is_trusted_by
needs_first = refl

pushed_need : (entry : Entry) → entry_at lent_code (entry_id 2) ≡ Some entry → entry.need ≡ 1
pushed_need entry is =
    let P : Option Entry → Type 0 = λ found. IsSomeAnd found (λ it. it.need ≡ 1) in
    subst P is needs_first

pub pushed_within : NamesEntryWithin lent_code 1 (op.Push (entry_id 2))
pushed_within entry is p p_in = let same = ap (λ need. bit_at need p) (pushed_need entry is) in omega (arith, same)

one_lacks : (bit : ℕ) → bit ≡ 1 → ¬ (bit ≤ 0)
one_lacks bit set less = omega arith

-- the entry has a need that nothing has
not_all : ¬ HasAllOf lent_code 0 (entry_id 2)
not_all all = by (entry_at lent_code (entry_id 2)) refl needs_first
  where
    by : (found : Option Entry) → entry_at lent_code (entry_id 2) ≡ found →
        IsSomeAnd found (λ entry. entry.need ≡ 1) → ⊥
    by None is never = never
    by (Some entry) is one =
        one_lacks (bit_at entry.need 0) (ap (λ need. bit_at need 0) one) (all entry is 0 (lit< tt))

pub pushed_without : ¬ NamesEntryWithin lent_code 0 (op.Push (entry_id 2))
pushed_without = not_all

pub asked_without : ¬ NamesEntryWithin lent_code 0 (op.Ask (entry_id 2) (host_id 0))
asked_without = not_all

pub gone_without : ¬ NamesEntryWithin lent_code 0 (op.Go (entry_id 2) (host_id 0))
gone_without = not_all

pub called_without : ¬ NamesEntryWithin lent_code 0 (op.Call (entry_id 2) (host_id 0))
called_without = not_all

pub gone_riding : (riders : List VarId) → ¬ NamesEntryWithin lent_code 0 (op.GoWith (entry_id 2) (host_id 0) riders)
gone_riding riders = not_all

pub called_riding : (riders : List VarId) → ¬ NamesEntryWithin lent_code 0 (op.CallWith (entry_id 2) (host_id 0) riders)
called_riding riders = not_all

pub due_without : ¬ IsCoveredBy lent_back lent_code lent_table 0 (thread_on_first 0)
due_without covered = one_lacks 1 refl (covered.due.1.0 0 (lit< tt))
