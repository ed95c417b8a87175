-- What one more line adds to the lines of a plan.
use Rattle.std.proofs.Common.{◌≡◌, ℕ, ◌+◌, ◌<◌, List, [], ◌∷◌, ◌++◌, length, get_or, take, map, refl, ap}
use Rattle.std.proofs.Common.{sym, ◌∙◌, arith}
use Rattle.std.proofs.Common.{◌≢◌, Bool}
use Rattle.std.specs.Prelude.{◌==◌, if◌then◌else◌, codes}
use Rattle.std.specs.Fmt.{decimal}
use Rattle.std.specs.Int.{bit_at}
use Rattle.std.proofs.lemmas.Bool.{ne_eqb}
use Rattle.std.proofs.lemmas.List.{append-nil, append_assoc, length-take-le, take_more}
use Rattle.host_decl.specs.Hosts.{HostShape}
use Rattle.jif_tree.specs.declared.program.Field.{Field}
use Rattle.jif_tree.specs.Trees.{field_tree}
use Rattle.split_cli.specs.Check.{accepted_line, cost_line, plan_lines}
use Rattle.front_end.specs.PlacedCode.{cost_of}
use Rattle.front_end.specs.PlacedSources.{PlacedSource}
use Rattle.split_cli.specs.PlaceLines.{field_place, field_places, names_in, place_lines, statement_place}
use Rattle.split_cli.specs.PlaceLines.{statement_places}
use Rattle.front_end.specs.Text.{line_text, lines_text}
use Rattle.split_cli.proofs.ReportLines.{added, lines_more, numbered_more}

pub field_places_more : (placed : PlacedSource) (fields : List Field) (i : ℕ) (field : Field) → i < length fields →
    field ≡ get_or fields i field → lines_text (field_places placed 0 (map field_tree (take (i + 1) fields)))
    ≡ lines_text (field_places placed 0 (map field_tree (take i fields)))
    ++ (field_place placed i (field_tree field) ++ 10 ∷ [])
field_places_more placed fields i field lt is =
    numbered_more (λ n (xs : List Field). field_places placed n (map field_tree xs))
    (λ n (x : Field). field_place placed n (field_tree x)) (λ n. refl) (λ n x xs. refl) fields i field lt
    ∙ ap (λ (f : Field). lines_text (field_places placed 0 (map field_tree (take i fields)))
    ++ (field_place placed i (field_tree f) ++ 10 ∷ [])) (sym is)

pub statement_places_at : (placed : PlacedSource) (lines : List ℕ) (i d : ℕ) → i < length lines →
    lines_text (statement_places placed 0 (take (i + 1) lines))
    ≡ lines_text (statement_places placed 0 (take i lines)) ++ (statement_place placed i (get_or lines i d) ++ 10 ∷ [])
statement_places_at placed lines i d lt =
    numbered_more (statement_places placed) (statement_place placed) (λ n. refl) (λ n x xs. refl) lines i d lt

-- ---- the names of hosts

-- the name of a host, where its bit is set
abbrev pub name_if_in : ℕ → ℕ → HostShape → List ℕ
name_if_in word place host = if bit_at word place == 1 then 32 ∷ host.name else []

names_push : (word n : ℕ) (hosts : List HostShape) (host : HostShape) (place : ℕ) → place ≡ n + length hosts →
    names_in word n (hosts ++ host ∷ []) ≡ names_in word n hosts ++ name_if_in word place host
names_push word n [] host place is =
    let same : n ≡ place = omega arith in
    append-nil (name_if_in word n host) ∙ ap (λ m. name_if_in word m host) same
names_push word n (h ∷ hosts) host place is =
    ap (λ rest. name_if_in word n h ++ rest) (names_push word (n + 1) hosts host place (omega arith))
    ∙ sym (append_assoc (name_if_in word n h) (names_in word (n + 1) hosts) (name_if_in word place host))

names_more : (word : ℕ) (hosts : List HostShape) (i : ℕ) (host : HostShape) → i < length hosts →
    host ≡ get_or hosts i host →
    names_in word 0 (take (i + 1) hosts) ≡ names_in word 0 (take i hosts) ++ name_if_in word i host
names_more word hosts i host lt is =
    let count = length-take-le i hosts (omega arith) in
    ap (names_in word 0) (take_more hosts i host lt)
    ∙ names_push word 0 (take i hosts) (get_or hosts i host) i (omega arith)
    ∙ ap (λ (h : HostShape). names_in word 0 (take i hosts) ++ name_if_in word i h) (sym is)

-- a host whose bit is set is named
pub names_with : (word : ℕ) (hosts : List HostShape) (i : ℕ) (host : HostShape) (start before after : List ℕ) →
    i < length hosts → host ≡ get_or hosts i host → bit_at word i ≡ 1 →
    before ≡ start ++ names_in word 0 (take i hosts) → after ≡ before ++ 32 ∷ host.name →
    after ≡ start ++ names_in word 0 (take (i + 1) hosts)
names_with word hosts i host start before after lt is set was pushed =
    let named : name_if_in word i host ≡ 32 ∷ host.name =
    ap (λ (bit : ℕ). if bit == 1 then 32 ∷ host.name else []) set in
    added start (names_in word 0 (take i hosts)) (32 ∷ host.name) was pushed
    (names_more word hosts i host lt is ∙ ap (λ more. names_in word 0 (take i hosts) ++ more) named)

-- and no other
pub names_without : (word : ℕ) (hosts : List HostShape) (i : ℕ) (host : HostShape) (start text : List ℕ) →
    i < length hosts → host ≡ get_or hosts i host → bit_at word i ≢ 1 →
    text ≡ start ++ names_in word 0 (take i hosts) → text ≡ start ++ names_in word 0 (take (i + 1) hosts)
names_without word hosts i host start text lt is clear was =
    let front = names_in word 0 (take i hosts) in
    let none : name_if_in word i host ≡ [] =
    ap (λ (named : Bool). if named then 32 ∷ host.name else []) (ne_eqb (bit_at word i) 1 clear) in
    was ∙ ap (λ more. start ++ more) (sym (append-nil front) ∙ ap (λ more. front ++ more) (sym none)
    ∙ sym (names_more word hosts i host lt is))

-- ---- all lines

pub report_text : (placed : PlacedSource) (first places text : List ℕ) (cost : ℕ) →
    first ≡ line_text (accepted_line placed.source.tree) → places ≡ first ++ lines_text (place_lines placed) →
    cost ≡ cost_of placed → text ≡ places ++ (codes "cost " ++ (decimal cost ++ codes "\n")) →
    text ≡ lines_text (plan_lines placed)
report_text placed first places text cost first_is places_are cost_is text_is =
    let accepted = line_text (accepted_line placed.source.tree) in
    let lines = lines_text (place_lines placed) in
    let end = codes "cost " ++ (decimal cost ++ codes "\n") in
    let closing : end ≡ cost_line placed ++ 10 ∷ [] =
    sym (append_assoc (codes "cost ") (decimal cost) (codes "\n"))
    ∙ ap (λ (n : ℕ). codes "cost " ++ decimal n ++ codes "\n") cost_is in
    text_is ∙ ap (λ (front : List ℕ). front ++ end) (places_are ∙ ap (λ (front : List ℕ). front ++ lines) first_is)
    ∙ append_assoc accepted lines end ∙ ap (λ (last : List ℕ). accepted ++ (lines ++ last)) closing
    ∙ ap (λ (others : List ℕ). accepted ++ others) (sym (lines_more (place_lines placed) (cost_line placed)))
