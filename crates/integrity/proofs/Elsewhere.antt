-- What obeying hosts have of a configuration where a misbehaving host is told to write a field or to set a variable:
-- none of them has it.
use Rattle.std.proofs.Common.{◌≡◌, ◌∙◌, ◌⊎◌, inl, inr, ℕ, ℤ, ◌<◌, ◌≤◌, Bool, true, List, [], length, Option}
use Rattle.std.proofs.Common.{Some, refl, sym, ap, subst}
use Rattle.std.specs.Prelude.{slice_get, unwrap_or, if◌then◌else◌, ◌==◌}
use Rattle.std.proofs.lemmas.Bool.Decides.{eqb_tells}
use Rattle.js_base.specs.declared.ids.FieldId.{FieldId}
use Rattle.js_base.specs.declared.ids.HostId.{HostId}
use Rattle.js_base.specs.declared.ids.VarId.{VarId}
use Rattle.jif_tree.specs.SourceRun as plain
use Rattle.jif_tree.specs.SourceRun.{Configuration, calls_after}
use Rattle.jif_tree.specs.Store.{row_of, store_after_write}
use Rattle.host_code.specs.Code.{CodeFieldShape}
use Rattle.host_core.specs.Host.{HostState}
use Rattle.msg_cost.specs.Terms.{reads_on}
use Rattle.net_world.specs.World.{WorldShape, state_at, misbehaves}
use Rattle.net_world.proofs.Fitting.{bad_differs}
use Rattle.net_world.proofs.Present.{get_other}
use Rattle.split_rules.specs.Positions.{Forward, IsOut, without_forward}
use Rattle.typed_steps.specs.Threads.{NoneKept}
use Rattle.typed_steps.specs.Values.{AreRowsAlike}
use Rattle.typed_steps.specs.Variables.{HaveFields, HostsHold}
use Rattle.typed_steps.specs.Requests.{FieldIsOn}
use Rattle.typed_steps.specs.Views.{Split, View, values_set, with_out}
use Rattle.typed_steps.proofs.Alike.{alike_on}
use Rattle.typed_steps.proofs.Calls.{long_set, value_set, named_set}
use Rattle.typed_steps.proofs.Holding.{out_without}

-- ---- a field

rows_on : (split : Split) (number : ℕ) (has row now : List ℤ) → AreRowsAlike split.exposure number has row →
    now ≡ row → AreRowsAlike split.exposure number has now
rows_on split number has row now (inl is) same = inl (is ∙ sym same)
rows_on split number has row now (inr may) same = inr may

-- no obeying host has the field
fields_elsewhere : (split : Split) (world : WorldShape) (store : List (List ℤ)) (field : FieldId) (to : HostId)
    (index value : ℤ) → HaveFields split world store → FieldIsOn split.code field to → misbehaves world to ≡ true →
    HaveFields split world (store_after_write store field.0 index value)
fields_elsewhere split world store field to index value has on bad number one state there at =
    elim (eqb_tells number field.0) [
      | inl same ↦
          let both : Some on.there ≡ Some one = sym on.is ∙ ap (slice_get split.code.fields) (sym same.1) ∙ there in
          let is : on.there ≡ one = cc in
          let host_is : to ≡ one.host = sym on.on_host ∙ ap (λ (f : CodeFieldShape). f.host) is in
          absurd (bad_differs world to one.host state bad at host_is)
      | inr apart ↦
          rows_on split number (row_of state.rows number) (row_of store number)
          (row_of (store_after_write store field.0 index value) number) (has number one state there at)
          (ap (λ (o : Option (List ℤ)). unwrap_or o []) (get_other store field.0 number _ apart.1))
    ]

-- what all hosts have of a configuration after a step that writes a field of a misbehaving host
pub holds_elsewhere : (split : Split) (c now : Configuration) (view : View) (world : WorldShape) (field : FieldId)
    (to : HostId) (index value : ℤ) → HostsHold split c view world → FieldIsOn split.code field to →
    misbehaves world to ≡ true → now.store ≡ store_after_write c.store field.0 index value → now.calls ≡ c.calls →
    NoneKept now → HostsHold split now view world
holds_elsewhere split c now view world field to index value holds on bad store calls none = record {
  fields = subst (HaveFields split world) (sym store)
      (fields_elsewhere split world c.store field to index value holds.fields on bad);
  known = subst (λ list. length list ≤ view.naming.count) (sym calls) holds.known;
  apart = holds.apart;
  named = λ call made.
      let one = holds.named call (subst (λ list. call < length list) calls made) in
      record {
        made = one.made;
        is = ap (λ list. slice_get list call) calls ∙ one.is;
        caller = one.caller;
        method = one.method;
      };
  fresh = holds.fresh;
  valued = λ call x made.
      holds.valued call x (subst (λ list. call < length list) calls made)
      ∙ ap (λ list. plain.variable list call x) (sym calls);
  agree = holds.agree;
  result = λ call into kept behind there pending is. absurd (none call into kept behind pending);
}

-- ---- a variable

-- what is still to be sent, but for what was sent to a misbehaving host
out_elsewhere : (world : WorldShape) (x y : VarId) (to host : HostId) (state : HostState) (out : List Forward)
    (A B : Type 0) → misbehaves world to ≡ true → state_at world host ≡ Some state →
    (A × IsOut out y host) ⊎ B → (A × IsOut (without_forward x to out) y host) ⊎ B
out_elsewhere world x y to host state out A B bad there (inl (is, is_out)) =
    inl (is, out_without x to y host out (λ var here. bad_differs world to host state bad there (sym here)) is_out)
out_elsewhere world x y to host state out A B bad there (inr alike) = inr alike

-- a misbehaving host was sent a variable
pub holds_sent : (split : Split) (c : Configuration) (view : View) (world : WorldShape) (to : HostId) (x : VarId) →
    HostsHold split c view world → misbehaves world to ≡ true →
    HostsHold split c (with_out view (without_forward x to view.out)) world
holds_sent split c view world to x holds bad = record {
  fields = holds.fields;
  known = holds.known;
  apart = holds.apart;
  named = holds.named;
  fresh = holds.fresh;
  valued = holds.valued;
  agree = λ call host state y made there reads.
      out_elsewhere world x y to host state view.out _ _ bad there (holds.agree call host state y made there reads);
  result = holds.result;
}

-- a variable that is read on no host was set
value_unread : (split : Split) (values : ℕ → ℕ → ℤ) (call : ℕ) (x : VarId) (value : ℤ) →
    ((other : ℕ) → reads_on split.planned x other ≡ true → ⊥) → (k : ℕ) (y : VarId) (host : HostId) →
    reads_on split.planned y host.0 ≡ true → values k y.0 ≡ values_set values call x.0 value k y.0
value_unread split values call x value unread k y host reads =
    let now = λ (b : Bool). if b then plain.with_value (values k) x.0 value y.0 else values k y.0 in
    elim (eqb_tells k call) [
      | inl one ↦ elim (eqb_tells y.0 x.0) [
        | inl var ↦
            let var_of : ℕ → VarId = λ n. record { 0 = n } in
            absurd (unread host.0 (subst (λ z. reads_on split.planned z host.0 ≡ true) (ap var_of var.1) reads))
        | inr var ↦ ap (λ (b : Bool). if b then value else values k y.0) (sym var.0) ∙ ap now (sym one.0)
      ]
      | inr one ↦ ap now (sym one.0)
    ]

-- a misbehaving host was given the result of a call
pub holds_result_sent : (split : Split) (c now : Configuration) (view : View) (world : WorldShape) (to : HostId)
    (call : ℕ) (x : VarId) (value : ℤ) → HostsHold split c view world → misbehaves world to ≡ true →
    call < length c.calls → ((other : ℕ) → reads_on split.planned x other ≡ true → ⊥) → now.store ≡ c.store →
    now.calls ≡ calls_after c.calls call x.0 value →
    HostsHold split now (record view { values = values_set view.values call x.0 value; keeper = to }) world
holds_result_sent split c now view world to call x value holds bad made unread store calls =
    let many : length now.calls ≡ length c.calls = ap length calls ∙ long_set c.calls call x.0 value made in
    record {
      fields = subst (HaveFields split world) (sym store) holds.fields;
      known = subst (λ n. n ≤ view.naming.count) (sym many) holds.known;
      apart = holds.apart;
      named = λ k there.
          named_set c now view.naming call x.0 value made calls k (holds.named k (subst (λ n. k < n) many there));
      fresh = holds.fresh;
      valued = λ k y there.
          ap (λ v. if k == call then (if y == x.0 then value else v) else v)
          (holds.valued k y (subst (λ n. k < n) many there))
          ∙ sym (value_set c.calls call x.0 value made k y)
          ∙ ap (λ list. plain.variable list k y) (sym calls);
      agree = λ k host state y known there reads. elim (holds.agree k host state y known there reads) [
        | inl is_out ↦ inl is_out
        | inr same ↦
            inr (alike_on split.exposure y _ _ _ same (value_unread split view.values call x value unread k y host
            reads))
      ];
      result = λ k into kept behind state is at. absurd (bad_differs world to to state bad at refl);
    }
