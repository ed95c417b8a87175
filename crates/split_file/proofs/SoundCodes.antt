-- Codes as they are read, and as they are sound.
use Rattle.std.proofs.Common.{◌≡◌, ℕ, zero, suc, ◌+◌, ◌-◌, ◌^◌, ◌<◌, ◌≤◌, ◌⊎◌, inl, inr, Bool, true, false, ◌||◌, List}
use Rattle.std.proofs.Common.{[], ◌∷◌, ◌++◌, length, get_or, take, drop, Option, Some, None, refl, sym, ap, subst, ◌∙◌}
use Rattle.std.proofs.Common.{append_assoc, arith}
use Rattle.std.specs.Prelude.{All, IsSomeAnd, slice_get, nat_lt, FitsSigned, unwrap_or}
use Rattle.std.specs.List.{AllByRecursion, list_any}
use Rattle.std.specs.Int.{w64}
use Rattle.std.proofs.lemmas.Bool.{cases_lt, lt-ltb, le-ltb}
use Rattle.std.proofs.lemmas.Option.{slice_get-get_or}
use Rattle.std.proofs.lemmas.List.{take-append-drop, length-take-le, append-nil}
use Rattle.std.proofs.lemmas.List.Elements.{All-from_recursion, recursion_from_All}
use Rattle.std.proofs.lemmas.List.Sums.{sum_by_push, sum_by-append}
use Rattle.js_base.specs.declared.ids.HostId.{HostId}
use Rattle.js_base.specs.declared.limits.TheConstants.{ELEMENTS}
use Rattle.host_code.specs.declared.code.Entry.{Entry}
use Rattle.host_code.specs.declared.instruction.Instr.{Instr}
use Rattle.host_code.specs.Code.{CodeShape, CodeFieldShape, part_of}
use Rattle.host_code.specs.Sound.{IsHost, IsLeaving, OperationFits, PartFits, FieldFits, EntryFits, temporaries_at}
use Rattle.byte_format.proofs.ItemLaws.{AllIn, all_of, in_all, all_weaker, at_place, by_place}
use Rattle.split_file.specs.Spelling.{has_riders, any_ride}
use Rattle.split_file.specs.Reading.{is_leaving, elements_of, is_empty, with_parts}
use Rattle.split_file.specs.File.{IsRealInstruction, IsRealCode}
use Rattle.split_file.proofs.TableLaws.{FieldIs}
use Rattle.split_file.proofs.StartLaws.{EntryIs}
use Rattle.split_file.proofs.OperandLaws.{IsFew, entry_there, entry_there_again, some_within}
use Rattle.split_file.proofs.PartLaws.{InstructionIs, InstructionBehind, PartIs, PartBehind}
use Rattle.split_file.proofs.FrontLaws.{FrontIs}
use Rattle.split_file.proofs.SoundParts.{operation_fits, operation_words, operation_is, leaving, leaves}
use Rattle.split_file.proofs.Temporaries.{temporaries_front, last_at}

-- ---- places

got_within : {A : Type 0} (xs : List A) (at : ℕ) (x : A) → slice_get xs at ≡ Some x → at < length xs
got_within [] at x is = absurd cc
got_within (y ∷ xs) zero x is = omega arith
got_within (y ∷ xs) (suc at) x is = omega (arith, got_within xs at x is)

got : {A : Type 0} (xs : List A) (at : ℕ) → at < length xs → (x : A) × (slice_get xs at ≡ Some x)
got [] at lt = absurd (omega arith)
got (x ∷ xs) zero lt = (x, refl)
got (x ∷ xs) (suc at) lt = got xs at (omega arith)

either_way : (one other : Bool) → (one ≡ true) ⊎ (other ≡ true) → (one || other) ≡ true
either_way true other is = refl
either_way false other (inl is) = absurd cc
either_way false other (inr is) = is

-- an item that passes the test is enough
any_at : {A : Type 0} (p : A → Bool) (xs : List A) (at : ℕ) (x : A) → slice_get xs at ≡ Some x → p x ≡ true →
    list_any p xs ≡ true
any_at p [] at x is passes = absurd cc
any_at p (y ∷ xs) zero x is passes =
    let same : y ≡ x = cc in
    either_way (p y) (list_any p xs) (inl (ap p same ∙ passes))
any_at p (y ∷ xs) (suc at) x is passes = either_way (p y) (list_any p xs) (inr (any_at p xs at x is passes))

-- the temporaries at a place of a part are those of what stands before it
temporaries_here : (entries : List Entry) (me : HostId) (part : List Instr) (at : ℕ) → at ≤ length part →
    temporaries_at entries me (take at part) (length (take at part)) ≡ temporaries_at entries me part at
temporaries_here entries me part at le =
    let len : length (take at part) ≡ at = length-take-le at part le in
    ap (temporaries_at entries me (take at part)) len
    ∙ sym (temporaries_front entries me (take at part) (drop at part) at (omega (arith, len)))
    ∙ ap (λ whole. temporaries_at entries me whole at) (take-append-drop at part)

-- ---- the last instruction

leaves_last : (one : Bool) (i : Instr) → one ≡ false → (one || is_leaving i.op) ≡ true → IsLeaving i.op
leaves_last one i is ends = leaving i.op (rw is at ends)

end_of : (part : List Instr) → ((at : ℕ) (i : Instr) → slice_get part at ≡ Some i →
    (nat_lt (suc at) (length part) || is_leaving i.op) ≡ true) →
    (part ≡ []) ⊎ IsSomeAnd (slice_get part (length part - 1)) (λ last. IsLeaving last.op)
end_of [] ends = inl refl
end_of (i ∷ part) ends =
    let last = got (i ∷ part) (length part) (omega arith) in
    let place : length (i ∷ part) - 1 ≡ length part = omega arith in
    let stops = leaves_last (nat_lt (suc (length part)) (length (i ∷ part))) last.0
    (le-ltb (suc (length part)) (length (i ∷ part)) (omega arith)) (ends (length part) last.0 last.1) in
    inr (subst (λ at. IsSomeAnd (slice_get (i ∷ part) at) (λ l. IsLeaving l.op)) (sym place)
    (subst (λ there. IsSomeAnd there (λ l. IsLeaving l.op)) (sym last.1) stops))

last_leaves : (part : List Instr) (x : Instr) (at : ℕ) → slice_get part at ≡ Some x → length part ≡ suc at →
    (part ≡ []) ⊎ IsSomeAnd (slice_get part (length part - 1)) (λ last. IsLeaving last.op) → is_leaving x.op ≡ true
last_leaves part x at found long (inl none) =
    let nothing : length part ≡ 0 = ap length none in
    absurd (omega (arith, nothing, long))
last_leaves part x at found long (inr leaving') =
    let place : length part - 1 ≡ at = omega (arith, long) in
    let there = subst (λ n. IsSomeAnd (slice_get part n) (λ l. IsLeaving l.op)) place leaving' in
    leaves x.op (subst (λ o. IsSomeAnd o (λ l. IsLeaving l.op)) found there)

-- ---- parts

-- the instruction at a place of a part that was read
here : (version : ℕ) (code : CodeShape) (me : HostId) (part : List Instr) (at : ℕ) (i : Instr) →
    PartIs version code me part →
    slice_get part at ≡ Some i →
    InstructionIs version code me (length part) (temporaries_at code.entries me part at) at i
here version code me part at i is found =
    let within = got_within part at i found in
    let fact = at_place (InstructionBehind version code me (length part)) [] part at i is.each found in
    let len : length (take at part) ≡ at = length-take-le at part (omega (arith, within)) in
    let count = temporaries_here code.entries me part at (omega (arith, within)) in
    subst (λ n. InstructionIs version code me (length part) (temporaries_at code.entries me part at) n i) len
    (subst (λ t. InstructionIs version code me (length part) t (length (take at part)) i) count fact)

pub part_fits : (version : ℕ) (code : CodeShape) (parts : List (List Instr)) (me : HostId) →
    PartIs version code me (part_of (with_parts code parts) me) → PartFits (with_parts code parts) me
part_fits version code parts me is =
    let part = part_of (with_parts code parts) me in
    record {
      few = omega (arith, is.short);
      instructions = λ at i found.
          let fact = here version code me part at i is found in
          record {
            label = fact.label;
            operation = operation_fits version code parts me (temporaries_at code.entries me part at)
                (length part) i.op refl
                fact.operation;
          };
      end = end_of part (λ at i found. (here version code me part at i is found).end);
    }

real_part : (version : ℕ) (code : CodeShape) (me : HostId) (part : List Instr) → PartIs version code me part →
    All IsRealInstruction part
real_part version code me part is at d within =
    let fact = here version code me part at (get_or part at d) is (slice_get-get_or part at d within) in (
      fact.statement,
      operation_words version code me (temporaries_at code.entries me part at) (length part)
          (get_or part at d).op fact.operation,
    )

pub part_is : (version : ℕ) (code : CodeShape) (me : HostId) → PartFits code me →
    All IsRealInstruction (part_of code me) →
    (any_ride (part_of code me) ≡ true → version ≡ 2) → PartIs version (with_parts code []) me (part_of code me)
part_is version code me fits real riding =
    let part = part_of code me in
    let bare = with_parts code [] in
    record {
      short = omega (arith, fits.few);
      each = by_place (InstructionBehind version bare me (length part)) part (λ front x back whole.
          let found : slice_get part (length front) ≡ Some x =
          subst (λ w. slice_get w (length front) ≡ Some x) whole (last_at front x back) in
          let within = got_within part (length front) x found in
          let fact = fits.instructions (length front) x found in
          let kept = at_place (λ _ i. IsRealInstruction i) [] part (length front) x
          (in_all IsRealInstruction [] part real) found in
          let count : temporaries_at code.entries me part (length front)
          ≡ temporaries_at code.entries me front (length front) =
          subst (λ w. temporaries_at code.entries me w (length front)
          ≡ temporaries_at code.entries me front (length front)) whole
          (temporaries_front code.entries me front (x ∷ back) (length front) (omega arith)) in
          record {
            label = fact.label;
            statement = kept.0;
            operation = operation_is version code me (temporaries_at code.entries me front (length front)) x.op
                (λ rides. riding (any_at (λ one. has_riders one.op) part (length front) x found rides))
                (subst (λ t. OperationFits code me t x.op) count fact.operation) kept.1;
            end = either_way (nat_lt (suc (length front)) (length part)) (is_leaving x.op)
                (elim (cases_lt (suc (length front)) (length part)) [
                  | inl lt ↦ inl (lt-ltb _ _ lt)
                  | inr le ↦ inr (last_leaves part x (length front) found (omega (arith, within, le)) fits.end)
                ]);
          }) [] part refl;
    }

-- ---- all parts

part_there : (version : ℕ) (code : CodeShape) (parts : List (List Instr)) (me : HostId) (part : List Instr) →
    AllIn (PartBehind version code) [] parts → slice_get parts me.0 ≡ Some part → PartIs version code me part
part_there version code parts me part all found =
    let within = got_within parts me.0 part found in
    let fact = at_place (PartBehind version code) [] parts me.0 part all found in
    let len : length (take me.0 parts) ≡ me.0 = length-take-le me.0 parts (omega (arith, within)) in
    let same : record { 0 = length (take me.0 parts) } ≡ me = ap (λ n. record { 0 = n }) len in
    subst (λ h. PartIs version code h part) same fact

parts_fit : (version : ℕ) (code : CodeShape) (parts : List (List Instr)) → length parts ≡ length code.hosts →
    AllIn (PartBehind version code) [] parts → (me : HostId) → IsHost code me → PartFits (with_parts code parts) me
parts_fit version code parts long all me is_host =
    let found = got parts me.0 (omega (arith, long)) in
    let same : part_of (with_parts code parts) me ≡ found.0 = ap (λ there. unwrap_or there []) found.1 in
    part_fits version code parts me (subst (λ p. PartIs version code me p) (sym same)
    (part_there version code parts me found.0 all found.1))

real_parts : (version : ℕ) (code : CodeShape) (parts : List (List Instr)) → AllIn (PartBehind version code) [] parts →
    All (All IsRealInstruction) parts
real_parts version code parts all at d within =
    real_part version code (record { 0 = at }) (get_or parts at d)
    (part_there version code parts (record { 0 = at }) (get_or parts at d) all (slice_get-get_or parts at d within))

-- ---- fields

field_fits : (code : CodeShape) (parts : List (List Instr)) (before : ℕ) (field : CodeFieldShape) →
    FieldIs (length code.hosts) (length code.labels) before field → FieldFits (with_parts code parts) field
field_fits code parts before field is = record {
  name = is.name;
  short = omega (arith, is.short);
  label = is.label;
  size = (is.shape.some, is.shape.few, is.shape.plain);
  host = is.host;
}

within_elements : (hosts labels : ℕ) (before xs : List CodeFieldShape) → elements_of before ≤ ELEMENTS →
    AllIn (λ front field. FieldIs hosts labels (elements_of front) field) before xs →
    elements_of (before ++ xs) ≤ ELEMENTS
within_elements hosts labels before [] within all =
    subst (λ w. elements_of w ≤ ELEMENTS) (sym (append-nil before)) within
within_elements hosts labels before (x ∷ xs) within all =
    let sum = sum_by_push (λ (field : CodeFieldShape). field.size) before x in
    let more : elements_of (before ++ x ∷ []) ≤ ELEMENTS = omega (arith, sum, all.0.shape.within) in
    subst (λ w. elements_of w ≤ ELEMENTS) (append_assoc before (x ∷ []) xs)
    (within_elements hosts labels (before ++ x ∷ []) xs more all.1)

-- ---- a code that was read is sound

entry_fits : (code : CodeShape) (parts : List (List Instr)) (is_first : Bool) (entry : Entry) →
    EntryIs (length code.hosts) (length code.labels) is_first entry →
    entry.at < length (part_of (with_parts code parts) entry.host) → EntryFits (with_parts code parts) entry
entry_fits code parts is_first entry is stands = record { host = is.host; at = stands; label = is.label }

both_of : (P Q R : Entry → Type 0) → ((e : Entry) → P e → Q e → R e) → (xs : List Entry) → All P xs → All Q xs →
    All R xs
both_of P Q R step xs one other k d lt = step (get_or xs k d) (one k d lt) (other k d lt)

halt_is : (there : Option Entry) (root : HostId) → IsSomeAnd there (λ e. e.host ≡ root) →
    ((e : Entry) → there ≡ Some e → e.at ≡ 0) → IsSomeAnd there (λ e. (e.host ≡ root) × (e.at ≡ 0))
halt_is None root on first = absurd on
halt_is (Some e) root on first = (on, first e refl)

first_entry : (hosts labels : ℕ) (entries : List Entry) (e : Entry) →
    AllIn (λ before entry. EntryIs hosts labels (is_empty before) entry) [] entries → slice_get entries 0 ≡ Some e →
    e.at ≡ 0
first_entry hosts labels entries e all found =
    (at_place (λ before entry. EntryIs hosts labels (is_empty before) entry) [] entries 0 e all found).first refl

abbrev pub Stand : CodeShape → List Entry → Type 0
Stand code entries = AllByRecursion (λ e. e.at < length (part_of code e.host)) entries

pub sound_code : (version : ℕ) (code : CodeShape) (parts : List (List Instr)) → FrontIs code →
    length parts ≡ length code.hosts →
    AllIn (PartBehind version code) [] parts → Stand (with_parts code parts) code.entries →
    IsRealCode (with_parts code parts)
sound_code version code parts front long all stand =
    let tables = front.tables in
    let starts = front.starts in
    let hosts = length code.hosts in
    let labels = length code.labels in
    let final = with_parts code parts in
    let each_entry = all_of (EntryIs hosts labels false) [] code.entries
    (all_weaker (λ before entry. EntryIs hosts labels (is_empty before) entry)
    (λ _ entry. EntryIs hosts labels false entry)
    (λ before entry is. record {
      host = is.host;
      short = is.short;
      first = λ no. absurd cc;
      label = is.label;
      need = is.need;
    }) [] code.entries starts.each_entry) in
    let stands = All-from_recursion (λ e. e.at < length (part_of final e.host)) code.entries stand in
    let each_field = all_weaker (λ before field. FieldIs hosts labels (elements_of before) field)
    (λ _ field. FieldFits final field × FitsSigned w64 field.first)
    (λ before field is. (field_fits code parts (elements_of before) field is, is.first)) [] code.fields
    tables.fields in
    let fields = all_of (λ field. FieldFits final field × FitsSigned w64 field.first) [] code.fields each_field in (
      record {
        some_host = tables.hosts.some;
        few_hosts = tables.hosts.few;
        host_names = λ k d lt. let is = tables.hosts.each k d lt in (is.name, omega (arith, is.short));
        few_labels = omega (arith, tables.few_labels);
        few_fields = omega (arith, tables.few_fields);
        fields = λ k d lt. (fields k d lt).0;
        elements = within_elements hosts labels [] code.fields (omega arith) tables.fields;
        few_variables = omega (arith, tables.few_variables);
        variables = λ k d lt. let is = tables.variables k d lt in
            record { name = is.name; short = omega (arith, is.short); label = is.label };
        few_entries = omega (arith, starts.few_entries);
        entries = both_of (EntryIs hosts labels false) (λ e. e.at < length (part_of final e.host)) (EntryFits final)
            (λ e is there. entry_fits code parts false e is there) code.entries each_entry stands;
        few_sites = omega (arith, starts.few_sites);
        sites = starts.each_site;
        a_part_each = long;
        parts = λ me is_host. parts_fit version code parts long all me is_host;
        halt_first = halt_is (slice_get code.entries 0) code.root (entry_there code.entries 0 code.root starts.root_is)
            (λ e found. first_entry hosts labels code.entries e starts.each_entry found);
        main = entry_there code.entries code.main.0 code.root starts.main_is;
      },
      record {
        hosts = λ k d lt. (tables.hosts.each k d lt).label;
        labels = tables.labels;
        fields = λ k d lt. (fields k d lt).1;
        entries = λ k d lt. (each_entry k d lt).need;
        parts = real_parts version code parts all;
      },
    )

-- ---- a sound code has such parts

elements_front : (front : List CodeFieldShape) (x : CodeFieldShape) (back : List CodeFieldShape) →
    elements_of front + x.size ≤ elements_of (front ++ x ∷ back)
elements_front front x back =
    let size = λ (field : CodeFieldShape). field.size in
    let one = sum_by-append size front (x ∷ back) in
    let two = sum_by-append size (x ∷ []) back in
    omega (arith, one, two)

-- the item of a list at which its front ends
item_behind : {A : Type 0} (front : List A) (x : A) (back whole : List A) → front ++ x ∷ back ≡ whole →
    slice_get whole (length front) ≡ Some x
item_behind front x back whole is = subst (λ w. slice_get w (length front) ≡ Some x) is (last_at front x back)

fact_behind : {A : Type 0} (P : A → Type 0) (front : List A) (x : A) (back whole : List A) →
    front ++ x ∷ back ≡ whole → All P whole → P x
fact_behind P front x back whole is all =
    at_place (λ _ y. P y) [] whole (length front) x (in_all P [] whole all) (item_behind front x back whole is)

fields_are : (code : CodeShape) → IsRealCode code →
    AllIn (λ before field. FieldIs (length code.hosts) (length code.labels) (elements_of before) field) [] code.fields
fields_are code sound =
    by_place (λ before field. FieldIs (length code.hosts) (length code.labels) (elements_of before) field) code.fields
    (λ front x back whole.
    let fits = fact_behind (FieldFits code) front x back code.fields whole sound.0.fields in
    let first = fact_behind (λ field. FitsSigned w64 field.first) front x back code.fields whole sound.1.fields in
    let within : elements_of front + x.size ≤ elements_of code.fields =
    subst (λ w. elements_of front + x.size ≤ elements_of w) whole (elements_front front x back) in
    record {
      short = omega (arith, fits.short);
      name = fits.name;
      label = fits.label;
      shape = record {
        some = fits.size.0;
        few = fits.size.1;
        within = omega (arith, within, sound.0.elements);
        plain = fits.size.2;
      };
      first = first;
      host = fits.host;
    }) [] code.fields refl

first_stands : (there : Option Entry) (root : HostId) (e : Entry) → there ≡ Some e →
    IsSomeAnd there (λ e. (e.host ≡ root) × (e.at ≡ 0)) → e.at ≡ 0
first_stands there root e found is =
    (subst (λ o. IsSomeAnd o (λ f. (f.host ≡ root) × (f.at ≡ 0))) found is).1

first_of : (front : List Entry) (x : Entry) (back whole : List Entry) (root : HostId) → front ++ x ∷ back ≡ whole →
    IsSomeAnd (slice_get whole 0) (λ e. (e.host ≡ root) × (e.at ≡ 0)) → is_empty front ≡ true → x.at ≡ 0
first_of [] x back whole root is there none =
    first_stands (slice_get whole 0) root x (item_behind [] x back whole is) there
first_of (y ∷ front) x back whole root is there none = absurd cc

entries_are : (code : CodeShape) → IsRealCode code →
    AllIn (λ before entry. EntryIs (length code.hosts) (length code.labels) (is_empty before) entry) [] code.entries
entries_are code sound =
    by_place (λ before entry. EntryIs (length code.hosts) (length code.labels) (is_empty before) entry) code.entries
    (λ front x back whole.
    let fits = fact_behind (EntryFits code) front x back code.entries whole sound.0.entries in
    let few = (sound.0.parts x.host fits.host).few in
    record {
      host = fits.host;
      short = omega (arith, fits.at, few);
      first = λ none. first_of front x back code.entries code.root whole sound.0.halt_first none;
      label = fits.label;
      need = fact_behind (λ entry. entry.need < 2 ^ 64) front x back code.entries whole sound.1.entries;
    }) [] code.entries refl

root_on : (there : Option Entry) (root : HostId) → IsSomeAnd there (λ e. (e.host ≡ root) × (e.at ≡ 0)) →
    IsSomeAnd there (λ e. e.host ≡ root)
root_on None root is = absurd is
root_on (Some e) root is = is.0

pub front_is : (code : CodeShape) → IsRealCode code → FrontIs code
front_is code sound =
    let is = sound.0 in
    let main_within = some_within code.entries code.main.0 (λ e. e.host ≡ code.root) is.main in
    record {
      tables = record {
        hosts = record {
          some = is.some_host;
          few = is.few_hosts;
          each = λ k d lt. let name = is.host_names k d lt in
              record { short = omega (arith, name.1); name = name.0; label = sound.1.hosts k d lt };
        };
        few_labels = omega (arith, is.few_labels);
        labels = sound.1.labels;
        few_fields = omega (arith, is.few_fields);
        fields = fields_are code sound;
        few_variables = omega (arith, is.few_variables);
        variables = λ k d lt. let fits = is.variables k d lt in
            record { short = omega (arith, fits.short); name = fits.name; label = fits.label };
      };
      starts = record {
        few_entries = omega (arith, is.few_entries);
        each_entry = entries_are code sound;
        few_sites = omega (arith, is.few_sites);
        each_site = is.sites;
        root_is = entry_there_again code.entries 0 code.root
            (root_on (slice_get code.entries 0) code.root is.halt_first);
        main_is = entry_there_again code.entries code.main.0 code.root is.main;
        main_short = omega (arith, main_within, is.few_entries);
      };
    }

pub few_items : (code : CodeShape) → IsRealCode code → IsFew (with_parts code [])
few_items code sound = record {
  labels = omega (arith, sound.0.few_labels);
  fields = omega (arith, sound.0.few_fields);
  variables = omega (arith, sound.0.few_variables);
  entries = omega (arith, sound.0.few_entries);
  sites = omega (arith, sound.0.few_sites);
}

-- in a file of a version in which all values may ride that do
pub parts_are : (version : ℕ) (code : CodeShape) → IsRealCode code →
    (list_any any_ride code.parts ≡ true → version ≡ 2) →
    AllIn (PartBehind version (with_parts code [])) [] code.parts
parts_are version code sound riding =
    by_place (PartBehind version (with_parts code [])) code.parts (λ front part back whole.
    let me : HostId = record { 0 = length front } in
    let found = item_behind front part back code.parts whole in
    let same : part_of code me ≡ part = ap (λ there. unwrap_or there []) found in
    let within = got_within code.parts (length front) part found in
    let is_host : IsHost code me = omega (arith, within, sound.0.a_part_each) in
    let real = fact_behind (All IsRealInstruction) front part back code.parts whole sound.1.parts in
    subst (λ p. PartIs version (with_parts code []) me p) same
    (part_is version code me (sound.0.parts me is_host) (subst (All IsRealInstruction) (sym same) real)
    (λ rides. riding (any_at any_ride code.parts (length front) part found (ap any_ride (sym same) ∙ rides)))))
    [] code.parts refl

pub entries_there : (code : CodeShape) → IsRealCode code → Stand code code.entries
entries_there code sound =
    recursion_from_All (λ e. e.at < length (part_of code e.host)) code.entries (λ k d lt. (sound.0.entries k d lt).at)
