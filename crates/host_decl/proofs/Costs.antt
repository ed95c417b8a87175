-- Tables of costs.
use Rattle.std.proofs.Common.{◌≡◌, ◌≢◌, ◌⊎◌, ℕ, pos, ◌<◌, ◌≤◌, true, false, ◌&&◌, List, [], ◌∷◌, length, get_or, map}
use Rattle.std.proofs.Common.{Vec, Global, All, IsTrue, int_le, nat_le, refl, sym, ap, ◌∙◌, inl}
use Rattle.std.proofs.Common.{inr, arith}
use Rattle.std.proofs.Math.ListN.{get_or-map as get_or_map_same}
use Rattle.std.proofs.lemmas.Bool.{cases_Bool, cases_order, and_parts}
use Rattle.std.proofs.lemmas.Bool.Decides.{nat_tests}
use Rattle.std.proofs.lemmas.List.{get_or-map, length-map}
use Rattle.std.proofs.lemmas.Map.Keys.{apart_from_distinct}
use Rattle.std.proofs.lemmas.Slice.Eq.{bytes_eq-Decides}
use Rattle.std.specs.List.{AllByRecursion, IsDistinct}
use Rattle.std.specs.Str.{bytes_eq}
use Rattle.js_base.specs.declared.limits.TheConstants.{LINK_COST}
use Rattle.js_base.proofs.Texts.{bytes_eq_laws}
use Rattle.host_decl.specs.Draft.{LinkDraftShape}
use Rattle.host_decl.specs.Hosts.{AreCosts, cost_at}
use Rattle.host_decl.specs.Meaning.{is_cost, link_cost, cost_between, cost_table}

lt_or_gt : (a b : ℕ) → a ≢ b → (a < b) ⊎ (b < a)
lt_or_gt a b apart = elim (cases_order a b) [ inl same ↦ absurd (apart same) | inr either ↦ either ]

-- each row is as long as the columns are many
pub row_is_long : (costs : List (Vec ℕ Global)) (count place : ℕ) (row : Vec ℕ Global)
    → All (λ cells. length cells ≡ count) (map (λ cells. cells.items) costs)
    → place < length costs → row ≡ get_or costs place row → length row.items ≡ count
row_is_long costs count place row columns within is =
    ap (λ cells. length cells.items) is
    ∙ ap length (sym (get_or-map (λ cells. cells.items) costs place row [] within))
    ∙ columns place [] (rw length-map within)

-- ---- what a table of costs is

at_most : (a b : ℕ) → nat_le a b ≡ true → a ≤ b
at_most a b test = grind (arith, nat_tests)

-- what a link between two hosts costs, where all links cost 1 to 1,000
cost_is_small : (cost : ℕ) → is_cost (pos cost) ≡ true → (1 ≤ cost) × (cost ≤ LINK_COST)
cost_is_small cost small =
    let parts = and_parts (int_le (pos 1) (pos cost)) (int_le (pos cost) (pos LINK_COST)) small in
    let low : nat_le 1 cost ≡ true = parts.0 in
    let high : nat_le cost LINK_COST ≡ true = parts.1 in
    (at_most 1 cost low, at_most cost LINK_COST high)

link_is_small : (links : List LinkDraftShape) (from to : List ℕ) (cost : ℕ)
    → AllByRecursion (λ link. IsTrue (is_cost link.cost)) links → pos cost ≡ link_cost links from to
    → (1 ≤ cost) × (cost ≤ LINK_COST)
link_is_small [] from to cost all is = let same : cost ≡ 1 = cc in (omega arith, omega arith)
link_is_small (link ∷ links) from to cost all is =
    elim (cases_Bool (bytes_eq link.from from && bytes_eq link.to to)) [
      | inl here ↦
          let own : pos cost ≡ link.cost = rw here at is in
          cost_is_small cost (ap is_cost own ∙ all.0)
      | inr other ↦ link_is_small links from to cost all.1 (rw other at is)
    ]

-- the cost in a row and a column
cell : (names : List (List ℕ)) (links : List LinkDraftShape) (costs : List (List ℕ))
    → map (map pos) costs ≡ cost_table names links → (from to : ℕ) → from < length names → to < length names
    → pos (cost_at costs from to) ≡ cost_between links (get_or names from []) (get_or names to [])
cell names links costs is from to from_within to_within =
    let row = get_or costs from [] in
    sym (get_or_map_same pos row to 0)
    ∙ ap (λ cells. get_or cells to (pos 0)) (sym (get_or_map_same (map pos) costs from []))
    ∙ ap (λ table. get_or (get_or table from []) to (pos 0)) is
    ∙ ap (λ cells. get_or cells to (pos 0))
    (get_or-map (λ name. map (cost_between links name) names) names from [] [] from_within)
    ∙ get_or-map (cost_between links (get_or names from [])) names to [] (pos 0) to_within

row_length : (names : List (List ℕ)) (links : List LinkDraftShape) (costs : List (List ℕ))
    → map (map pos) costs ≡ cost_table names links → (place : ℕ) (d : List ℕ) → place < length names
    → length (get_or costs place d) ≡ length names
row_length names links costs is place d within =
    sym (length-map (get_or costs place d) pos)
    ∙ ap length (sym (get_or_map_same (map pos) costs place d))
    ∙ ap (λ table. length (get_or table place (map pos d))) is
    ∙ ap length (get_or-map (λ name. map (cost_between links name) names) names place [] (map pos d) within)
    ∙ length-map names _

own_is_nothing : (names : List (List ℕ)) (links : List LinkDraftShape) (name : List ℕ)
    → cost_between links name name ≡ pos 0
own_is_nothing names links name = rw ((bytes_eq-Decides name name).1 refl) refl

names_apart : (names : List (List ℕ)) (from to : ℕ) → IsDistinct bytes_eq names → from ≢ to → from < length names
    → to < length names → bytes_eq (get_or names from []) (get_or names to []) ≡ false
names_apart names from to distinct apart from_within to_within =
    elim (lt_or_gt from to apart) [
      | inl before ↦ apart_from_distinct bytes_eq names from to [] distinct before to_within
      | inr after ↦ bytes_eq_laws.symm (get_or names from []) (get_or names to [])
          ∙ apart_from_distinct bytes_eq names to from [] distinct after from_within
    ]

pub table_of_costs : (names : List (List ℕ)) (links : List LinkDraftShape) (costs : List (List ℕ))
    → IsDistinct bytes_eq names → AllByRecursion (λ link. IsTrue (is_cost link.cost)) links
    → map (map pos) costs ≡ cost_table names links → AreCosts (length names) costs
table_of_costs names links costs distinct small is =
    let long : length costs ≡ length names = sym (length-map costs (map pos)) ∙ ap length is ∙ length-map names _ in
    record {
      rows = long;
      columns = λ place d within. row_length names links costs is place d (omega arith);
      own = λ host within.
          let same : pos (cost_at costs host host) ≡ pos 0 =
          cell names links costs is host host within within
          ∙ own_is_nothing names links (get_or names host []) in cc;
      others = λ from to from_within to_within apart.
          let other = names_apart names from to distinct apart from_within to_within in
          let between : cost_between links (get_or names from []) (get_or names to []) ≡ link_cost
          links (get_or names from []) (get_or names to []) = rw other refl in
          link_is_small links (get_or names from []) (get_or names to []) (cost_at costs from to) small
          (cell names links costs is from to from_within to_within ∙ between);
    }

-- the costs of all rows, row by row
pub rows_of_costs : (costs : List (Vec ℕ Global))
    → map (map pos) (map (λ row. row.items) costs) ≡ map (λ row. map pos row.items) costs
rows_of_costs [] = refl
rows_of_costs (row ∷ costs) = ap (λ rest. map pos row.items ∷ rest) (rows_of_costs costs)
