-- A host file has one meaning.
use Rattle.std.proofs.Common.{◌≡◌, ℕ, pos, List, [], ◌∷◌, All, map, Some, refl, sym, subst, ◌∙◌}
use Rattle.std.specs.List.{AllZip}
use Rattle.js_base.specs.Name.{IsName}
use Rattle.js_base.proofs.Lists.{one_zipped}
use Rattle.principals.specs.ActsFor.{Declared, IsDeclared}
use Rattle.principals.specs.Declaring.{AreDeclaredAs}
use Rattle.jif_lex.specs.declared.token.Token.{Token}
use Rattle.label_lattice.specs.declared.label.Label.{Label}
use Rattle.label_lattice.specs.Over.{IsLabelOver}
use Rattle.label_lattice.specs.Written.{IsLabelOf}
use Rattle.toml.specs.Data.{Members}
use Rattle.host_decl.specs.Draft.{HostDraftShape, HostsDraftShape, draft_of}
use Rattle.host_decl.specs.Hosts.{HostShape, HostsShape}
use Rattle.host_decl.specs.LabelText.{IsLabelText}
use Rattle.host_decl.specs.Meaning.{IsHostOf, IsMeaningOf}
use Rattle.host_decl.specs.Reading.{IsDocument, ReadsHosts}
use Rattle.host_decl.proofs.Declared.{are_declared}
use Rattle.host_decl.proofs.DeclaredNames.{principal_names}
use Rattle.host_decl.proofs.LabelTexts.{OneReading, same_tokens}

-- what the laws of the crates below say
abbrev pub DeclaredOnce : Type 0
DeclaredOnce = (names : List (List ℕ)) (pairs : List (List ℕ × List ℕ)) (first second : Declared)
    → AreDeclaredAs names pairs first → AreDeclaredAs names pairs second → first ≡ second

abbrev pub WrittenOnce : Type 0
WrittenOnce = (principals : Declared) (tokens : List Token) (first second : Label) → IsDeclared principals
    → IsLabelOver principals first → IsLabelOver principals second → IsLabelOf principals tokens first
    → IsLabelOf principals tokens second → first ≡ second

pub record AreOnce : Type 0 where
  pub declared : DeclaredOnce
  pub reading : OneReading
  pub written : WrittenOnce

pub document_once : (bytes : List ℕ) (first second : Members) → IsDocument bytes first → IsDocument bytes second
    → first ≡ second
document_once bytes first second one two = let both : Some first ≡ Some second = sym one.reads ∙ two.reads in cc

-- ---- hosts

label_once : AreOnce → (principals : Declared) (text : List ℕ) (first second : Label) → IsDeclared principals
    → IsLabelText principals text first → IsLabelText principals text second → first ≡ second
label_once laws principals text first second declared one two =
    let tokens : two.list ≡ one.list = same_tokens two.list one.list (laws.reading text _ _ two.reads one.reads) in
    let means : IsLabelOf principals one.list second =
    subst (λ list. IsLabelOf principals list second) tokens two.means in
    laws.written principals one.list first second declared one.over two.over one.means means

same_host : (name other : List ℕ) (label also : Label) (key second : List ℕ) (path last : List ℕ) → name ≡ other
    → label ≡ also → key ≡ second → path ≡ last
    → (let one : HostShape = record { name = name; label = label; key = key; path = path } in one)
    ≡ record { name = other; label = also; key = second; path = last }
same_host name other label also key second path last names labels keys paths = cc

host_once : AreOnce → (principals : Declared) (text : HostDraftShape) (first second : HostShape) → IsDeclared principals
    → IsHostOf principals text first → IsHostOf principals text second → first ≡ second
host_once laws principals text first second declared one two =
    same_host first.name second.name first.label second.label first.key second.key first.path second.path
    (one.name ∙ sym two.name)
    (label_once laws principals text.label first.label second.label declared one.label two.label)
    (one.key ∙ sym two.key) (one.path ∙ sym two.path)

hosts_once : AreOnce → (principals : Declared) (texts : List HostDraftShape) (first second : List HostShape)
    → IsDeclared principals → AllZip (IsHostOf principals) texts first → AllZip (IsHostOf principals) texts second
    → first ≡ second
hosts_once laws principals texts first second declared one two =
    one_zipped (IsHostOf principals) (λ text host other. host_once laws principals text host other declared)
    texts first second one two

-- ---- costs

row_once : (first second : List ℕ) → map pos first ≡ map pos second → first ≡ second
row_once [] [] same = refl
row_once [] (cost ∷ costs) same = cc
row_once (cost ∷ costs) [] same = cc
row_once (cost ∷ costs) (other ∷ others) same =
    let rest : map pos costs ≡ map pos others = cc in
    let more = row_once costs others rest in cc

table_once : (first second : List (List ℕ)) → map (map pos) first ≡ map (map pos) second → first ≡ second
table_once [] [] same = refl
table_once [] (row ∷ rows) same = cc
table_once (row ∷ rows) [] same = cc
table_once (row ∷ rows) (other ∷ others) same =
    let here : map pos row ≡ map pos other = cc in
    let rest : map (map pos) rows ≡ map (map pos) others = cc in
    let one = row_once row other here in
    let more = table_once rows others rest in cc

-- ---- the file

same_hosts : (principals other : Declared) (hosts others : List HostShape) (costs second : List (List ℕ))
    → principals ≡ other → hosts ≡ others → costs ≡ second
    → (let one : HostsShape = record { principals = principals; hosts = hosts; costs = costs } in one)
    ≡ record { principals = other; hosts = others; costs = second }
same_hosts principals other hosts others costs second one two three = cc

meaning_once : AreOnce → (file : HostsDraftShape) (first second : HostsShape) → All IsName file.names
    → IsMeaningOf file first → IsMeaningOf file second → first ≡ second
meaning_once laws file first second named one two =
    let principals = laws.declared file.names file.pairs first.principals second.principals one.principals
    two.principals in
    let declared = are_declared file.names file.pairs first.principals named one.principals in
    let rows = subst (λ held. AllZip (IsHostOf held) file.hosts second.hosts) (sym principals) two.rows in
    same_hosts first.principals second.principals first.hosts second.hosts first.costs second.costs principals
    (hosts_once laws first.principals file.hosts first.hosts second.hosts declared one.rows rows)
    (table_once first.costs second.costs (one.costs ∙ sym two.costs))

pub reads_once : AreOnce → (bytes : List ℕ) (first second : HostsShape) → ReadsHosts bytes first
    → ReadsHosts bytes second
    → first ≡ second
reads_once laws bytes first second one two =
    let file = document_once bytes two.0 one.0 two.1 one.1 in
    let means = subst (λ held. IsMeaningOf (draft_of held) second) file two.3 in
    meaning_once laws (draft_of one.0) first second (principal_names one.0 one.2.0) one.3 means
