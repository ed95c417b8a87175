-- What a misbehaving host may affect in a small program and a small world, as it is computed.
use Rattle.std.proofs.Common.{
  ◌≡◌,
  ◌≢◌,
  ap,
  subst,
  ℕ,
  ℤ,
  pos,
  true,
  false,
  List,
  [],
  ◌∷◌,
  refl,
  inl,
  inr,
  arith,
  lit<,
  None,
}
use Rattle.std.specs.Prelude.{Any}
use Rattle.std.proofs.lemmas.List.Elements.{All-nil, All-push}
use Rattle.js_base.specs.declared.ids.EntryId.{EntryId}
use Rattle.js_base.specs.declared.ids.FrameId.{FrameId}
use Rattle.js_base.specs.declared.ids.RequestId.{RequestId}
use Rattle.label_lattice.specs.declared.label.Label.{Label}
use Rattle.label_lattice.specs.Label.{IntegFlows, IsTrustedBy}
use Rattle.label_lattice.specs.Lattice.{empty_label}
use Rattle.jif_tree.specs.Altered.{Exposure, FieldIsAffected, StatementIsAffected, VariableIsAffected}
use Rattle.jif_tree.specs.SourceRun.{Configuration}
use Rattle.need_labels.proofs.Somewhere.{any_here, any_first, any_none}
use Rattle.msg_cost.specs.Moves.{PlannedShape, is_trusted_by}
use Rattle.capability.specs.declared.token.Token.{Token}
use Rattle.host_code.specs.declared.message.Message.TheVariants as message
use Rattle.host_code.specs.Riders.{Rider}
use Rattle.host_code.specs.Code.{halt}
use Rattle.host_code.specs.Thread.{WaitingShape}
use Rattle.host_code.specs.Thread.Awaited.{acknowledgement}
use Rattle.host_core.specs.Start.{main_frame}
use Rattle.net_world.specs.World.{IsRun}
use Rattle.split_rules.specs.Opening.{HasNeed}
use Rattle.split_rules.specs.Walk.{entry_id}
use Rattle.split_rules.specs.Opening.{IsOpenTo}
use Rattle.split_rules.specs.OpenExamples.{untrusted, trusted_by_first, sent_table}
use Rattle.split_rules.specs.TypedCode.{Table}
use Rattle.split_rules.specs.Worked.{host_id, field_id, var_id, statement_id, sent_local}
use Rattle.split_rules.proofs.TrustedNeeds.{none_needed}
use Rattle.token_laws.specs.TokenExamples.{first_request, first_token, small, start}
use Rattle.integrity.specs.Altering.{StandsFor}
use Rattle.integrity.specs.Exposed.{FieldsStand, AreAsBefore}
use Rattle.integrity.specs.IntegrityExamples.{sent_threat, sending, waiting, two_fields, exposed_to, store, before_set}
use Rattle.integrity.specs.IntegrityExamples.{holder, sets_to_nine, setting, refusing, after_set, after_refused}
use Rattle.integrity.specs.Outside.{Threat, ThreadIsOpen, EntryIsOpen, MessageIsOpen, StateIsOpen, IsOutside}

only_one : (P : Label → Type 0) (label : Label) → Any P (label ∷ []) → P label
only_one P label some = elim (any_first P label [] some) [
  | inl holds ↦ holds
  | inr none ↦ absurd (any_none P none)
]

not_both : (bit : ℕ) → bit ≡ 0 → ¬ (bit ≡ 1)
not_both bit clear set = omega (arith, clear, set)

not_trusted : ¬ IsTrustedBy untrusted 1
not_trusted trusted = not_both 0 refl (trusted 0 (lit< tt) refl)

not_flowing : ¬ IntegFlows untrusted trusted_by_first
not_flowing flows = not_both 0 refl (flows 0 (lit< tt) refl)

-- ---- a program

pub affects : FieldIsAffected (sent_threat 2).exposure (field_id 0)
unfolding empty_label
affects = any_here (λ host. IntegFlows host empty_label) untrusted [] (λ principal within trusts. trusts)

pub denied_variable : ¬ VariableIsAffected (sent_threat 2).exposure (var_id 0)
denied_variable may = not_flowing (only_one (λ host. IntegFlows host trusted_by_first) untrusted may)

pub denied_statement : ¬ StatementIsAffected (sent_threat 2).exposure (statement_id 1)
denied_statement may = not_trusted (only_one (λ host. IsTrustedBy host 1) untrusted may)

pub sending_denied : ¬ StateIsOpen (sent_threat 2) sending
sending_denied open_state =
    not_trusted (only_one (λ label. IsOpenTo sent_local label
    (sent_table.at 0 1)) untrusted open_state.running).sent.0.0.0

pub waits : IsOpenTo sent_local untrusted (sent_table.at 0 2) → StateIsOpen (sent_threat 2) waiting
waits behind = record {
  running = tt;
  waiting = All-push (λ (one : WaitingShape). ThreadIsOpen (sent_threat 2) (host_id 0) one.thread) [] _ (All-nil _)
      (any_here (λ label. IsOpenTo sent_local label (sent_table.at 0 2)) untrusted [] behind);
  entries = All-nil _;
}

pub waiting_denied : ¬ StateIsOpen (sent_threat 0) waiting
waiting_denied open_state =
    any_none (λ label. IsOpenTo sent_local label (sent_table.at 0 2))
    (open_state.waiting 0 (record {
      thread = record { at = 2; frame = main_frame; new_frame = main_frame; temporaries = []; held = None };
      awaited = acknowledgement;
      request = first_request;
      asked = host_id 1;
    }) (omega arith))

pub forward_denied : (request : RequestId) (frame : FrameId) (value : ℤ) →
    ¬ MessageIsOpen (sent_threat 2) (message.Forward request frame (var_id 0) value)
forward_denied request frame value may = denied_variable may

pub main_denied : ¬ EntryIsOpen (sent_threat 2) (entry_id 1)
unfolding is_trusted_by
main_denied may = not_trusted (only_one (λ label. HasNeed (sent_threat 2).code label (entry_id 1)) untrusted may.1)

not_halt : entry_id 2 ≢ halt
not_halt same = omega (arith, ap (λ (e : EntryId). e.0) same)

pub enters : EntryIsOpen (sent_threat 2) (entry_id 2)
unfolding is_trusted_by
enters = (
  not_halt,
  any_here (λ label. HasNeed (sent_threat 2).code label (entry_id 2)) untrusted [] (none_needed untrusted),
)

pub halt_denied : (threat : Threat) → ¬ EntryIsOpen threat halt
halt_denied threat may = may.0 refl

pub riding_denied : (frame : FrameId) (token : Token) (value : ℤ) (others : List Rider) →
    ¬ MessageIsOpen (sent_threat 2) (message.RgotoWith frame (entry_id 2) token ((var_id 0, value) ∷ others))
riding_denied frame token value others may = denied_variable may.1.0

pub riding_behind_denied : (frame : FrameId) (token : Token) (value : ℤ) (first : Rider) (others : List Rider) →
    ¬ MessageIsOpen (sent_threat 2) (message.RgotoWith frame (entry_id 2) token (first ∷ (var_id 0, value) ∷ others))
riding_behind_denied frame token value first others may = denied_variable may.1.1.0

pub riding_entry_denied : (frame : FrameId) (token : Token) (riders : List Rider) →
    ¬ MessageIsOpen (sent_threat 2) (message.RgotoWith frame (entry_id 1) token riders)
riding_entry_denied frame token riders may = main_denied may.0

-- ---- a world

pub sets : IsRun two_fields before_set (sets_to_nine 0 ∷ []) after_set
sets = (
  after_set,
  record {
    state = holder;
    message = message.Set first_request (field_id 0) (pos 0) (pos 9);
    outcome = setting;
    bad = refl;
    obeys = refl;
    rests = refl;
    makes = refl;
    takes = (true, (λ t. (refl, λ principal within trusts. trusts), λ p. refl), refl);
    leaves = refl;
  },
  refl,
)

pub refuses : IsRun two_fields before_set (sets_to_nine 1 ∷ []) after_refused
refuses = (
  after_refused,
  record {
    state = holder;
    message = message.Set first_request (field_id 1) (pos 0) (pos 9);
    outcome = refusing;
    bad = refl;
    obeys = refl;
    rests = refl;
    makes = refl;
    takes = (false, (λ t. absurd (cc), λ may. absurd (not_flowing may.1)), refl);
    leaves = refl;
  },
  refl,
)

abbrev row : ℤ → List ℤ
row value = value ∷ []

nine_is_not_seven : ¬ (row (pos 9) ≡ row (pos 7))
nine_is_not_seven same = absurd (cc)

none_affects : ¬ FieldIsAffected (exposed_to 0) (field_id 0)
none_affects may = any_none (λ host. IntegFlows host untrusted) may

pub stands_denied : ¬ FieldsStand two_fields (exposed_to 0) after_set store
stands_denied stands = nine_is_not_seven (stands 0 _ setting.state refl refl none_affects)

pub stands_for_denied : (c : Configuration) → c.store ≡ store → ¬ StandsFor two_fields (exposed_to 0) after_set c
stands_for_denied c same stands =
    stands_denied (subst (FieldsStand two_fields (exposed_to 0) after_set) same stands.fields)

pub as_before_denied : ¬ AreAsBefore (exposed_to 0) before_set after_set
as_before_denied stays = elim ((stays (host_id 0) setting.state refl).rows (field_id 0)) [
  | inl same ↦ nine_is_not_seven same
  | inr may ↦ none_affects may
]

-- ---- an entry that ends the program

pub outside_denied : (planned : PlannedShape) (table : Table) (exposure : Exposure) →
    ¬ IsOutside (record { planned = planned; code = small; table = table; exposure = exposure }) start
outside_denied planned table exposure outside =
    ((outside.states (host_id 0)).entries 0
    (record { token = first_token; entry = halt; frame = main_frame; kept = first_token }) (omega arith)).0 refl
