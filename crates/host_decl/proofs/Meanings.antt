-- From the stages of resolving a file to its meaning, or to why it has none.
use Rattle.std.proofs.Common.{◌≡◌, ℕ, pos, List, [], ◌∷◌, map, Vec, Global, string_bytes, refl, sym, subst, ap, ◌∙◌}
use Rattle.std.proofs.Common.{inl, inr}
use Rattle.std.specs.Prelude.{Result, Ok, Err, IsErr, IsErrAnd, MatchResult}
use Rattle.std.specs.List.{AllZip}
use Rattle.principals.specs.ActsFor.{Declared}
use Rattle.principals.specs.Declaring.{AreDeclaredAs}
use Rattle.host_decl.specs.declared.error.HostsError.{HostsError}
use Rattle.host_decl.specs.declared.error.HostsError.TheVariants.{BadLink}
use Rattle.host_decl.specs.declared.draft.HostDraft.{HostDraft}
use Rattle.host_decl.specs.Draft.{HostsDraftShape}
use Rattle.host_decl.specs.DraftView.{host_draft}
use Rattle.host_decl.specs.Hosts.{HostShape, names_of, AreHostNames}
use Rattle.host_decl.specs.Meaning.{IsHostOf, NamesFail, LabelsFail, AreSoundLinks, IsFirstBadLink, IsMeaningOf}
use Rattle.host_decl.specs.Meaning.{RefusesFile, cost_table, host_names}
use Rattle.host_decl.proofs.Costs.{rows_of_costs}
use Rattle.host_decl.proofs.HostRows.{all_have_labels, same_names}

-- the names of hosts as they are written
pub written_names : (hosts : List HostDraft)
    → map (λ host. string_bytes host.name) hosts ≡ map (λ text. text.name) (map host_draft hosts)
written_names [] = refl
written_names (host ∷ hosts) = ap (λ names. string_bytes host.name ∷ names) (written_names hosts)

pub names_fail : (file : HostsDraftShape) (principals : Declared) (names : List (List ℕ)) (refusal : HostsError)
    → AreDeclaredAs file.names file.pairs principals → names ≡ host_names file → NamesFail names refusal
    → RefusesFile file refusal
names_fail file principals names refusal declared are fail =
    inr (principals, declared, inl (subst (λ texts. NamesFail texts refusal) are fail))

pub labels_fail : (file : HostsDraftShape) (principals : Declared) (names : List (List ℕ)) (refusal : HostsError)
    → AreDeclaredAs file.names file.pairs principals → names ≡ host_names file → AreHostNames names
    → LabelsFail principals file.hosts refusal → RefusesFile file refusal
labels_fail file principals names refusal declared are sound fail =
    inr (principals, declared, inr (subst AreHostNames are sound, inl fail))

pub link_fails : (file : HostsDraftShape) (principals : Declared) (names : List (List ℕ)) (rows : List HostShape)
    (number : ℕ) → AreDeclaredAs file.names file.pairs principals → names ≡ host_names file → AreHostNames names
    → AllZip (IsHostOf principals) file.hosts rows → IsFirstBadLink (names_of rows) file.links number
    → RefusesFile file (BadLink number)
link_fails file principals names rows number declared are sound hosts bad =
    inr (
      principals,
      declared,
      inr (
        subst AreHostNames are sound,
        inr (
          all_have_labels principals file.hosts rows hosts,
          subst (λ texts. IsFirstBadLink texts file.links number)
              (same_names principals file.hosts rows hosts) bad,
        ),
      ),
    )

pub names_of_rows : (file : HostsDraftShape) (principals : Declared) (names : List (List ℕ)) (rows : List HostShape)
    → names ≡ host_names file → AreHostNames names → AllZip (IsHostOf principals) file.hosts rows
    → AreHostNames (names_of rows)
names_of_rows file principals names rows are sound hosts =
    subst AreHostNames (are ∙ sym (same_names principals file.hosts rows hosts)) sound

pub means : (file : HostsDraftShape) (principals : Declared) (names : List (List ℕ)) (rows : List HostShape)
    (costs : List (Vec ℕ Global)) → AreDeclaredAs file.names file.pairs principals → names ≡ host_names file
    → AreHostNames names
    → AllZip (IsHostOf principals) file.hosts rows → AreSoundLinks (names_of rows) file.links
    → map (λ row. map pos row.items) costs ≡ cost_table (names_of rows) file.links
    → IsMeaningOf file (record { principals = principals; hosts = rows; costs = map (λ row. row.items) costs })
means file principals names rows costs declared are sound hosts links table =
    let same = same_names principals file.hosts rows hosts in
    record {
      principals = declared;
      names = subst AreHostNames are sound;
      rows = hosts;
      links = subst (λ texts. AreSoundLinks texts file.links) same links;
      costs = rows_of_costs costs ∙ table ∙ ap (λ texts. cost_table texts file.links) same;
    }

-- an error that is passed on
pub passed_on : {T E : Type 0} (P : T → Type 0) (Q : E → Type 0) (error : E) (result : Result T E)
    → IsErr result × IsErrAnd result (λ other. other ≡ error) → Q error → MatchResult result P Q
passed_on P Q error (Ok value) is holds = absurd is.1
passed_on P Q error (Err other) is holds = subst Q (sym is.1) holds
