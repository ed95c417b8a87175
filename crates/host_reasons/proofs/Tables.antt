-- The tables among the items of an array, beside the values that the code goes over.
use Rattle.std.proofs.Common.{◌≡◌, ℕ, ◌+◌, ◌<◌, suc, List, ◌∷◌, drop, length, get_or, Option, Some, None}
use Rattle.std.proofs.Common.{sym, ap, ◌∙◌, subst, arith}
use Rattle.std.specs.List.{AllByRecursion}
use Rattle.toml.specs.Data.{Members, as_table, get_member}
use Rattle.toml.specs.View.{view, items_view}
use Rattle.toml.specs.declared.value.Value.{Value}
use Rattle.host_decl.specs.declared.schema.TableKind.{TableKind}
use Rattle.host_decl.specs.Schema.{IsBadKey, IsLeast, IsSound, tables_of, with_first}
use Rattle.host_decl.proofs.Items.{selection_drop}
use Rattle.host_reasons.specs.declared.bad_key.KeyFault.{KeyFault}
use Rattle.host_reasons.specs.BadKeys.{IsBadAmong, key_fault}

-- the tables from a place on, where this stands there
tables_from : (items : List Value) (place : ℕ) (value : Value) (found : Option Members) → place < length items →
    value ≡ get_or items place value → found ≡ as_table (view value) →
    tables_of (items_view (drop place items))
    ≡ with_first found (tables_of (items_view (drop (place + 1) items)))
tables_from items place value found within here is =
    selection_drop as_table items place value within
    ∙ ap (λ (v : Value). with_first (as_table (view v)) (tables_of (items_view (drop (place + 1) items)))) (sym here)
    ∙ ap (λ (f : Option Members). with_first f (tables_of (items_view (drop (place + 1) items)))) (sym is)

-- a table, or another value
pub table_here : (items : List Value) (place : ℕ) (value : Value) (table : Members) → place < length items →
    value ≡ get_or items place value → Some table ≡ as_table (view value) →
    tables_of (items_view (drop place items)) ≡ table ∷ tables_of (items_view (drop (place + 1) items))
table_here items place value table within here is = tables_from items place value (Some table) within here is

pub no_table_here : (items : List Value) (place : ℕ) (value : Value) → place < length items →
    value ≡ get_or items place value → None ≡ as_table (view value) →
    tables_of (items_view (drop place items)) ≡ tables_of (items_view (drop (place + 1) items))
no_table_here items place value within here is = tables_from items place value None within here is

-- ---- the loop over items

-- what is known of the tables that are left is known of all
abbrev pub SoundOn : TableKind → List Members → List Members → Type 0
SoundOn kind left all = AllByRecursion (IsSound kind) left → AllByRecursion (IsSound kind) all

abbrev pub BadOn : TableKind → ℕ → List Members → List Members → Type 0
BadOn kind before left all =
    (number : ℕ) (key : List ℕ) (fault : KeyFault) → IsBadAmong kind left number key fault →
    IsBadAmong kind all (before + number) key fault

pub bad_found : (kind : TableKind) (before number : ℕ) (left all rest : List Members) (table : Members)
    (key : List ℕ) (fault : KeyFault) → BadOn kind before left all → left ≡ table ∷ rest → number ≡ before →
    IsLeast (IsBadKey kind table) key → fault ≡ key_fault kind key (get_member key table) →
    IsBadAmong kind all number key fault
bad_found kind before number left all rest table key fault on is same least how =
    subst (λ (n : ℕ). IsBadAmong kind all n key fault) (let e : before + 0 ≡ number = omega (arith, same) in e)
    (on 0 key fault (subst (λ (tables : List Members). IsBadAmong kind tables 0 key fault) (sym is) (least, how)))

pub bad_on : (kind : TableKind) (before : ℕ) (left all rest : List Members) (table : Members) →
    BadOn kind before left all → left ≡ table ∷ rest → IsSound kind table → BadOn kind (before + 1) rest all
bad_on kind before left all rest table on is sound number key fault bad =
    subst (λ (n : ℕ). IsBadAmong kind all n key fault)
    (let e : before + suc number ≡ before + 1 + number = omega arith in e)
    (on (suc number) key fault
    (subst (λ (tables : List Members). IsBadAmong kind tables (suc number) key fault) (sym is) (sound, bad)))

pub sound_on : (kind : TableKind) (left all rest : List Members) (table : Members) →
    SoundOn kind left all → left ≡ table ∷ rest → IsSound kind table → SoundOn kind rest all
sound_on kind left all rest table on is sound others =
    on (subst (λ (tables : List Members). AllByRecursion (IsSound kind) tables) (sym is) (sound, others))
