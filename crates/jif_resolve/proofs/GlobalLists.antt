-- Lists of names of the whole program, one name more, and the first of those that are the same.
use Rattle.std.proofs.Common.{◌≡◌, ℕ, suc, ◌+◌, ◌<◌, Bool, true, false, ◌||◌, ◌&&◌, if◌then◌else◌, inl, inr, List, []}
use Rattle.std.proofs.Common.{◌∷◌, ◌++◌, map, length, take, get_or, Option, Some, None, refl, ap, sym, ◌∙◌, arith}
use Rattle.std.proofs.Common.{Global as Heap, is_some, ◌≤◌, ◌^◌, All, subst, append_assoc}
use Rattle.js_base.specs.declared.limits.TheConstants.{PARAMETERS}
use Rattle.std.specs.List.{list_any}
use Rattle.std.specs.Option.{option_map}
use Rattle.std.specs.Bool.{nat_lt}
use Rattle.std.specs.Str.{bytes_eq}
use Rattle.std.specs.declared.string.String.{String}
use Rattle.std.specs.String.{string_bytes, string_eq}
use Rattle.std.proofs.lemmas.Bool.{false≢true}
use Rattle.std.proofs.lemmas.Bool.Decides.{nat_tests}
use Rattle.std.proofs.lemmas.List.{map-append, length-map, length-take, get_or-map}
use Rattle.std.proofs.lemmas.Slice.Eq.{bytes_eq-Decides}
use Rattle.indexmap.specs.IndexMap.{insert_entry}
use Rattle.jif_tree.specs.declared.draft.FieldDraft.{FieldDraft}
use Rattle.jif_tree.specs.declared.draft.MethodDraft.{MethodDraft}
use Rattle.jif_grammar.specs.DraftShapes.{FieldShape, MethodShape, NameShape, name_shape, field_shape, method_shape}
use Rattle.jif_grammar.specs.DraftShapes.{param_shape}
use Rattle.jif_resolve.specs.declared.globals.DeclaredName.{DeclaredName}
use Rattle.jif_resolve.specs.declared.globals.FirstName.{FirstName}
use Rattle.jif_resolve.specs.Meanings.{Global, earlier_of, first_named, fields_from, methods_from, field_meaning}
use Rattle.jif_resolve.specs.Meanings.{method_meaning}
use Rattle.jif_resolve.specs.Faults.{is_global_before}
use Rattle.jif_resolve.specs.Sizes.{MethodKeepsLimits}
use Rattle.jif_resolve.specs.GlobalNames.{global_shape, first_name, FirstNames, name_in, HasFirst, IsAdded, is_sooner}
use Rattle.jif_resolve.proofs.Cleanly.{shapes_more}
use Rattle.jif_resolve.proofs.Usable.{true_or_false}

-- ---- one more field or method

fields_more : (n : ℕ) (xs : List FieldShape) (x : FieldShape) →
    fields_from n (xs ++ x ∷ [])
    ≡ fields_from n xs ++ record { name = x.name; meaning = field_meaning (n + length xs) x } ∷ []
fields_more n [] x =
    let same : n ≡ n + 0 = omega arith in
    ap (λ m. record { name = x.name; meaning = field_meaning m x } ∷ []) same
fields_more n (y ∷ xs) x =
    let same : suc n + length xs ≡ n + length (y ∷ xs) = omega arith in
    let head : Global = record { name = y.name; meaning = field_meaning n y } in
    ap (λ gs. head ∷ gs) (fields_more (suc n) xs x)
    ∙ ap (λ m. head ∷ fields_from (suc n) xs ++ record { name = x.name; meaning = field_meaning m x } ∷ []) same

methods_more : (n : ℕ) (xs : List MethodShape) (x : MethodShape) →
    methods_from n (xs ++ x ∷ [])
    ≡ methods_from n xs ++ record { name = x.name; meaning = method_meaning (n + length xs) x } ∷ []
methods_more n [] x =
    let same : n ≡ n + 0 = omega arith in
    ap (λ m. record { name = x.name; meaning = method_meaning m x } ∷ []) same
methods_more n (y ∷ xs) x =
    let same : suc n + length xs ≡ n + length (y ∷ xs) = omega arith in
    let head : Global = record { name = y.name; meaning = method_meaning n y } in
    ap (λ gs. head ∷ gs) (methods_more (suc n) xs x)
    ∙ ap (λ m. head ∷ methods_from (suc n) xs ++ record { name = x.name; meaning = method_meaning m x } ∷ []) same

shapes_long : {X Y : Type 0} (shape : X → Y) (xs : List X) (i : ℕ) → i < length xs →
    0 + length (map shape (take i xs)) ≡ i
shapes_long shape xs i less =
    let one : length (map shape (take i xs)) ≡ length (take i xs) = length-map _ _ in
    let two = length-take i xs in
    omega (arith, one, two)

fields_step : (fields : List FieldDraft) (i : ℕ) (x : FieldDraft) → i < length fields → x ≡ get_or fields i x →
    fields_from 0 (map field_shape (take (i + 1) fields))
    ≡ fields_from 0 (map field_shape (take i fields))
    ++ record { name = name_shape x.name; meaning = field_meaning i (field_shape x) } ∷ []
fields_step fields i x less read =
    let front = map field_shape (take i fields) in
    ap (fields_from 0) (shapes_more field_shape fields i x less read)
    ∙ fields_more 0 front (field_shape x)
    ∙ ap (λ n.
    fields_from 0 front ++ record { name = name_shape x.name; meaning = field_meaning n (field_shape x) } ∷ [])
    (shapes_long field_shape fields i less)

methods_step : (methods : List MethodDraft) (i : ℕ) (x : MethodDraft) → i < length methods → x ≡ get_or methods i x →
    methods_from 0 (map method_shape (take (i + 1) methods))
    ≡ methods_from 0 (map method_shape (take i methods))
    ++ record { name = name_shape x.name; meaning = method_meaning i (method_shape x) } ∷ []
methods_step methods i x less read =
    let front = map method_shape (take i methods) in
    ap (methods_from 0) (shapes_more method_shape methods i x less read)
    ∙ methods_more 0 front (method_shape x)
    ∙ ap (λ n.
    methods_from 0 front ++ record { name = name_shape x.name; meaning = method_meaning n (method_shape x) } ∷ [])
    (shapes_long method_shape methods i less)

-- a list of names that is one longer
one_longer : (done start : List DeclaredName) (x : DeclaredName) (so_far more : List Global) (g : Global) →
    map global_shape done ≡ map global_shape start ++ so_far → global_shape x ≡ g → more ≡ so_far ++ g ∷ [] →
    map global_shape (done ++ x ∷ []) ≡ map global_shape start ++ more
one_longer done start x so_far more g is x_is more_is =
    map-append global_shape done (x ∷ [])
    ∙ ap (λ gs. gs ++ global_shape x ∷ []) is
    ∙ ap (λ h. map global_shape start ++ so_far ++ h ∷ []) x_is
    ∙ append_assoc (map global_shape start) so_far (g ∷ [])
    ∙ ap (λ gs. map global_shape start ++ gs) (sym more_is)

pub field_pushed : (done start : List DeclaredName) (made : DeclaredName) (fields : List FieldDraft) (i : ℕ)
    (x : FieldDraft) → i < length fields →
    map global_shape done ≡ map global_shape start ++ fields_from 0 (map field_shape (take i fields)) →
    x ≡ get_or fields i x →
    global_shape made ≡ record { name = name_shape x.name; meaning = field_meaning i (field_shape x) } →
    map global_shape (done ++ made ∷ [])
    ≡ map global_shape start ++ fields_from 0 (map field_shape (take (i + 1) fields))
field_pushed done start made fields i x less is read made_is =
    one_longer done start made _ _ _ is made_is (fields_step fields i x less read)

pub method_pushed : (done start : List DeclaredName) (made : DeclaredName) (methods : List MethodDraft) (i : ℕ)
    (x : MethodDraft) → i < length methods →
    map global_shape done ≡ map global_shape start ++ methods_from 0 (map method_shape (take i methods)) →
    x ≡ get_or methods i x →
    global_shape made ≡ record { name = name_shape x.name; meaning = method_meaning i (method_shape x) } →
    map global_shape (done ++ made ∷ [])
    ≡ map global_shape start ++ methods_from 0 (map method_shape (take (i + 1) methods))
method_pushed done start made methods i x less is read made_is =
    one_longer done start made _ _ _ is made_is (methods_step methods i x less read)

pub few_params : (methods : List MethodDraft) → All MethodKeepsLimits (map method_shape methods) → (i : ℕ)
    (d : MethodDraft) → i < length methods → d ≡ get_or methods i d → length d.params.items < 2 ^ 32
few_params methods each i d less read =
    let within : i < length (map method_shape methods) = rw length-map less in
    let same : get_or (map method_shape methods) i (method_shape d) ≡ method_shape d =
    get_or-map method_shape methods i d (method_shape d) less ∙ ap method_shape (sym read) in
    let kept : MethodKeepsLimits (method_shape d) = subst MethodKeepsLimits same (each i (method_shape d) within) in
    let few : length (map param_shape d.params.items) ≤ PARAMETERS = kept.parameters in
    let long : length (map param_shape d.params.items) ≡ length d.params.items = length-map _ _ in
    omega (arith, few, long)

-- ---- the first of a name

abbrev later_of : Option Global → Global → Global
later_of None global = global
later_of (Some first) global = if nat_lt global.name.at first.name.at then global else first

in_any_order : (x f g : Global) →
    earlier_of x (Some (later_of (Some f) g)) ≡ later_of (Some (earlier_of x (Some f))) g
in_any_order x f g = grind (arith, nat_tests)

with_head : (here there : Bool) (rest : Option Global) (x g : Global) →
    (if here then Some (earlier_of x (if there then Some (later_of rest g) else rest))
    else (if there then Some (later_of rest g) else rest))
    ≡ (if there then Some (later_of (if here then Some (earlier_of x rest) else rest) g)
    else (if here then Some (earlier_of x rest) else rest))
with_head false there rest x g = refl
with_head true false rest x g = refl
with_head true true None x g = refl
with_head true true (Some f) x g = ap Some (in_any_order x f g)

first_named_more : (name : List ℕ) (xs : List Global) (g : Global) →
    first_named name (xs ++ g ∷ [])
    ≡ (if bytes_eq name g.name.text then Some (later_of (first_named name xs) g) else first_named name xs)
first_named_more name [] g = refl
first_named_more name (x ∷ xs) g =
    ap (λ rest. if bytes_eq name x.name.text then Some (earlier_of x rest) else rest) (first_named_more name xs g)
    ∙ with_head (bytes_eq name x.name.text) (bytes_eq name g.name.text) (first_named name xs) x g

one_has : (here there : Bool) (x : Global) (rest : Option Global) →
    is_some (option_map first_name rest) ≡ there →
    is_some (option_map first_name (if here then Some (earlier_of x rest) else rest)) ≡ here || there
one_has true there x rest is = refl
one_has false there x rest is = is

-- some declaration has the name where a first one has it
pub any_named : (name : List ℕ) (globals : List Global) →
    is_some (option_map first_name (first_named name globals))
    ≡ list_any (λ global. bytes_eq name global.name.text) globals
any_named name [] = refl
any_named name (x ∷ xs) =
    one_has (bytes_eq name x.name.text) (list_any (λ global. bytes_eq name global.name.text) xs) x (first_named name xs)
    (any_named name xs)

-- whether a declaration that was found stands before this token
abbrev pub is_later : ℕ → Option FirstName → Bool
is_later at None = false
is_later at (Some first) = nat_lt first.at at

one_before : (at : ℕ) (x : Global) (rest : Option Global) →
    is_later at (option_map first_name (Some (earlier_of x rest)))
    ≡ nat_lt x.name.at at || is_later at (option_map first_name rest)
one_before at x None = grind (arith, nat_tests)
one_before at x (Some other) = grind (arith, nat_tests)

before_head : (at : ℕ) (here there : Bool) (x : Global) (rest : Option Global) →
    is_later at (option_map first_name rest) ≡ there →
    is_later at (option_map first_name (if here then Some (earlier_of x rest) else rest))
    ≡ (here && nat_lt x.name.at at) || there
before_head at true there x rest is = one_before at x rest ∙ ap (λ b. nat_lt x.name.at at || b) is
before_head at false there x rest is = is

-- some declaration stands before where the first one does
before_named : (name : NameShape) (globals : List Global) →
    is_later name.at (option_map first_name (first_named name.text globals)) ≡ is_global_before globals name
before_named name [] = refl
before_named name (x ∷ xs) =
    before_head name.at (bytes_eq name.text x.name.text) (is_global_before xs name) x (first_named name.text xs)
    (before_named name xs)

pub before_is : (es : FirstNames) (globals : List Global) (name : NameShape) (text : List ℕ)
    (found : Option FirstName) → HasFirst es globals → text ≡ name.text → found ≡ name_in es text →
    is_later name.at found ≡ is_global_before globals name
before_is es globals name text found has text_is is =
    ap (is_later name.at) (is ∙ ap (name_in es) text_is ∙ has name.text) ∙ before_named name globals

-- ---- the map of first declarations

same_key : (name : List ℕ) (key other : String Heap) → string_eq key other ≡ true →
    bytes_eq name (string_bytes other) ≡ bytes_eq name (string_bytes key)
same_key name key other is = ap (bytes_eq name) (sym ((bytes_eq-Decides (string_bytes key) (string_bytes other)).0 is))

other_key : (name : List ℕ) (key other : String Heap) → string_eq key other ≡ false →
    bytes_eq name (string_bytes key) ≡ true → bytes_eq name (string_bytes other) ≡ false
other_key name key other apart here =
    elim (true_or_false (bytes_eq name (string_bytes other))) [
      | inl there ↦
          let one : name ≡ string_bytes key = (bytes_eq-Decides name (string_bytes key)).0 here in
          let two : name ≡ string_bytes other = (bytes_eq-Decides name (string_bytes other)).0 there in
          let same : string_eq key other ≡ true =
          (bytes_eq-Decides (string_bytes key) (string_bytes other)).1 (sym one ∙ two) in
          absurd (false≢true (sym apart ∙ same))
      | inr not_there ↦ not_there
    ]

put : (es : FirstNames) (key : String Heap) (v : FirstName) (name : List ℕ) →
    name_in (insert_entry string_eq es key v) name
    ≡ (if bytes_eq name (string_bytes key) then Some v else name_in es name)
put [] key v name = refl
put (e ∷ es) key v name =
    let here = bytes_eq name (string_bytes key) in
    let at_e = bytes_eq name (string_bytes e.0) in
    let after : Bool → Option FirstName =
    λ b. name_in (if b then (e.0, v) ∷ es else e ∷ insert_entry string_eq es key v) name in
    let found : Bool → Option FirstName → Option FirstName = λ b rest. if b then Some e.1 else rest in
    elim (true_or_false (string_eq key e.0)) [
      | inl same ↦
          let keys : at_e ≡ here = same_key name key e.0 same in
          ap after same
          ∙ ap (λ b. if b then Some v else name_in es name) keys
          ∙ kept here v (found at_e (name_in es name)) (name_in es name)
          (λ is. ap (λ b. found b (name_in es name)) (keys ∙ is))
      | inr apart ↦
          ap after apart ∙ ap (found at_e) (put es key v name)
          ∙ skipped here at_e v e.1 (name_in es name) (other_key name key e.0 apart)
    ]
  where
    kept : (here : Bool) (v : FirstName) (all rest : Option FirstName) → (here ≡ false → all ≡ rest) →
        (if here then Some v else rest) ≡ (if here then Some v else all)
    kept true v all rest same = refl
    kept false v all rest same = sym (same refl)

    skipped : (here at_e : Bool) (v w : FirstName) (rest : Option FirstName) → (here ≡ true → at_e ≡ false) →
        (if at_e then Some w else (if here then Some v else rest))
        ≡ (if here then Some v else (if at_e then Some w else rest))
    skipped false at_e v w rest apart = refl
    skipped true false v w rest apart = refl
    skipped true true v w rest apart = absurd (false≢true (sym (apart refl)))

-- where the next declaration stands first, and where it does not
abbrev with_first : Option FirstName → FirstName → Option FirstName
with_first None next = Some next
with_first (Some first) next = if nat_lt next.at first.at then Some next else Some first

first_is : (rest : Option Global) (g : Global) →
    option_map first_name (Some (later_of rest g)) ≡ with_first (option_map first_name rest) (first_name g)
first_is None g = refl
first_is (Some f) g = by (nat_lt g.name.at f.name.at)
  where
    by : (b : Bool) → option_map first_name (Some (if b then g else f))
        ≡ (if b then Some (first_name g) else Some (first_name f))
    by true = refl
    by false = refl

first_after : (name : List ℕ) (before : List Global) (g : Global) →
    option_map first_name (first_named name (before ++ g ∷ []))
    ≡ (if bytes_eq name g.name.text
    then with_first (option_map first_name (first_named name before)) (first_name g)
    else option_map first_name (first_named name before))
first_after name before g =
    ap (option_map first_name) (first_named_more name before g)
    ∙ by (bytes_eq name g.name.text) (first_named name before)
  where
    by : (b : Bool) (rest : Option Global) →
        option_map first_name (if b then Some (later_of rest g) else rest)
        ≡ (if b then with_first (option_map first_name rest) (first_name g) else option_map first_name rest)
    by true rest = first_is rest g
    by false rest = refl

sooner_is : (found : Option FirstName) (next : FirstName) → is_sooner next.at found ≡ true →
    with_first found next ≡ Some next
sooner_is None next is = refl
sooner_is (Some first) next is = ap (λ b. if b then Some next else Some first) is

not_sooner_is : (found : Option FirstName) (next : FirstName) → is_sooner next.at found ≡ false →
    with_first found next ≡ found
not_sooner_is None next is = absurd (false≢true (sym is))
not_sooner_is (Some first) next is = ap (λ b. if b then Some next else Some first) is

pub first_put : (es : FirstNames) (key : String Heap) (g : Global) → string_bytes key ≡ g.name.text →
    is_sooner g.name.at (name_in es g.name.text) ≡ true →
    IsAdded es (insert_entry string_eq es key (first_name g)) g
first_put es key g named is before has name =
    let next = first_name g in
    put es key next name
    ∙ ap (λ t. if bytes_eq name t then Some next else name_in es name) named
    ∙ elim (true_or_false (bytes_eq name g.name.text)) [
      | inl here ↦
          let same : name ≡ g.name.text = (bytes_eq-Decides name g.name.text).0 here in
          let sooner : is_sooner next.at (name_in es name) ≡ true =
          ap (λ t. is_sooner next.at (name_in es t)) same ∙ is in
          ap (λ b. if b then Some next else name_in es name) here
          ∙ sym (sooner_is (name_in es name) next sooner)
          ∙ ap (λ found. with_first found next) (has name)
          ∙ sym (ap (λ b. if b then with_first (option_map first_name (first_named name before)) next
          else option_map first_name (first_named name before)) here)
          ∙ sym (first_after name before g)
      | inr not_here ↦
          ap (λ b. if b then Some next else name_in es name) not_here
          ∙ has name
          ∙ sym (ap (λ b. if b then with_first (option_map first_name (first_named name before)) next
          else option_map first_name (first_named name before)) not_here)
          ∙ sym (first_after name before g)
    ]

pub first_kept : (es : FirstNames) (g : Global) → is_sooner g.name.at (name_in es g.name.text) ≡ false → IsAdded es es g
first_kept es g is before has name =
    let next = first_name g in
    let choice : Bool → Option FirstName =
    λ b. if b then with_first (option_map first_name (first_named name before)) next
    else option_map first_name (first_named name before) in
    elim (true_or_false (bytes_eq name g.name.text)) [
      | inl here ↦
          let same : name ≡ g.name.text = (bytes_eq-Decides name g.name.text).0 here in
          let sooner : is_sooner next.at (name_in es name) ≡ false =
          ap (λ t. is_sooner next.at (name_in es t)) same ∙ is in
          sym (not_sooner_is (name_in es name) next sooner)
          ∙ ap (λ found. with_first found next) (has name)
          ∙ sym (ap choice here) ∙ sym (first_after name before g)
      | inr not_here ↦ has name ∙ sym (ap choice not_here) ∙ sym (first_after name before g)
    ]
