-- Hosts with their labels, one after the other.
use Rattle.std.proofs.Common.{◌≡◌, ℕ, ◌+◌, ◌≤◌, List, [], ◌∷◌, ◌++◌, map, length, Some, slice_get, string_bytes, refl}
use Rattle.std.proofs.Common.{sym, subst, ap, ◌∙◌, arith}
use Rattle.std.proofs.lemmas.List.{length-map, length-append, append_assoc, append-nil, map-append}
use Rattle.std.proofs.lemmas.Slice.Zip.{AllZip-long}
use Rattle.std.proofs.Math.Seq.{take-append_seam}
use Rattle.std.specs.List.{AllByRecursion, AllZip}
use Rattle.js_base.proofs.Lists.{zip_push}
use Rattle.principals.specs.ActsFor.{Declared}
use Rattle.label_lattice.specs.Over.{IsLabelOver}
use Rattle.host_decl.specs.declared.key.TheConstants.{KEY_BYTES}
use Rattle.host_decl.specs.declared.draft.HostDraft.{HostDraft}
use Rattle.host_decl.specs.Draft.{HostDraftShape}
use Rattle.host_decl.specs.DraftView.{host_draft}
use Rattle.host_decl.specs.Hosts.{HostShape, names_of}
use Rattle.host_decl.specs.Meaning.{IsHostOf, HasLabel, IsFirstWithoutLabel}

-- each host that was read has a label
pub all_have_labels : (principals : Declared) (texts : List HostDraftShape) (rows : List HostShape)
    → AllZip (IsHostOf principals) texts rows → AllByRecursion (HasLabel principals) texts
all_have_labels principals [] [] all = tt
all_have_labels principals [] (row ∷ rows) all = absurd all
all_have_labels principals (text ∷ texts) [] all = absurd all
all_have_labels principals (text ∷ texts) (row ∷ rows) all =
    ((row.label, all.0.label), all_have_labels principals texts rows all.1)

-- the names are those that are written
pub same_names : (principals : Declared) (texts : List HostDraftShape) (rows : List HostShape)
    → AllZip (IsHostOf principals) texts rows → names_of rows ≡ map (λ text. text.name) texts
same_names principals [] [] all = refl
same_names principals [] (row ∷ rows) all = absurd all
same_names principals (text ∷ texts) [] all = absurd all
same_names principals (text ∷ texts) (row ∷ rows) all = ap (λ name. name ∷ names_of rows) all.0.name
    ∙ ap (λ names. text.name ∷ names) (same_names principals texts rows all.1)

-- the labels are over the principals
pub labels_over : (principals : Declared) (texts : List HostDraftShape) (rows : List HostShape)
    → AllZip (IsHostOf principals) texts rows → AllByRecursion (λ host. IsLabelOver principals host.label) rows
labels_over principals [] [] all = tt
labels_over principals [] (row ∷ rows) all = absurd all
labels_over principals (text ∷ texts) [] all = absurd all
labels_over principals (text ∷ texts) (row ∷ rows) all = (all.0.label.over, labels_over principals texts rows all.1)

-- the keys are whole
abbrev pub HaveWholeKeys : List HostDraftShape → Type 0
HaveWholeKeys texts = AllByRecursion (λ text. length text.key ≡ KEY_BYTES) texts

pub whole_keys : (principals : Declared) (texts : List HostDraftShape) (rows : List HostShape)
    → AllZip (IsHostOf principals) texts rows → HaveWholeKeys texts
    → AllByRecursion (λ host. length host.key ≡ KEY_BYTES) rows
whole_keys principals [] [] all whole = tt
whole_keys principals [] (row ∷ rows) all whole = absurd all
whole_keys principals (text ∷ texts) [] all whole = absurd all
whole_keys principals (text ∷ texts) (row ∷ rows) all whole =
    (ap length all.0.key ∙ whole.0, whole_keys principals texts rows all.1 whole.1)

pub keys_as_read : (hosts : List HostDraft) → HaveWholeKeys (map host_draft hosts)
keys_as_read [] = tt
keys_as_read (host ∷ hosts) = (host.whole_key, keys_as_read hosts)

-- the hosts that were read, and those that are left
pub record ReadSoFar (principals : Declared) (hosts read left : List HostDraft) (rows : List HostShape) : Type 0 where
  pub are_rows : AllZip (IsHostOf principals) (map host_draft read) rows
  pub are_all : read ++ left ≡ hosts

count_read : (principals : Declared) (hosts read left : List HostDraft) (rows : List HostShape)
    → ReadSoFar principals hosts read left rows → length rows ≡ length read
count_read principals hosts read left rows so_far = AllZip-long _ _ _ so_far.are_rows ∙ length-map _ _

pub few_read : (principals : Declared) (hosts read left : List HostDraft) (rows : List HostShape)
    → ReadSoFar principals hosts read left rows → length rows ≤ length hosts
few_read principals hosts read left rows so_far =
    let count = count_read principals hosts read left rows so_far in
    let whole : length read + length left ≡ length hosts = sym (length-append _ _) ∙ ap length so_far.are_all in
    omega arith

pub read_more : (principals : Declared) (hosts read left rest : List HostDraft) (rows : List HostShape)
    (host : HostDraft) (row : HostShape) → left ≡ host ∷ rest
    → IsHostOf principals (host_draft host) row → ReadSoFar principals hosts read left rows
    → ReadSoFar principals hosts (read ++ host ∷ []) rest (rows ++ row ∷ [])
read_more principals hosts read left rest rows host row next is so_far =
    record {
      are_rows = rw map-append
          (zip_push (IsHostOf principals) (map host_draft read) rows (host_draft host) row so_far.are_rows is);
      are_all = append_assoc read (host ∷ []) rest ∙ ap (λ more. read ++ more) (sym next) ∙ so_far.are_all;
    }

pub read_none : (principals : Declared) (hosts left : List HostDraft) (rows : List HostShape) → left ≡ hosts
    → rows ≡ [] → ReadSoFar principals hosts [] left rows
read_none principals hosts left rows all none = record { are_rows = rw none tt; are_all = all }

none_left : {A : Type 0} (xs : List A) → length xs ≡ 0 → xs ≡ []
none_left [] none = refl
none_left (x ∷ xs) none = absurd (omega arith)

pub read_all : (principals : Declared) (hosts read left : List HostDraft) (rows : List HostShape) → length left ≡ 0
    → ReadSoFar principals hosts read left rows → AllZip (IsHostOf principals) (map host_draft hosts) rows
read_all principals hosts read left rows empty so_far =
    let none = none_left left empty in
    let whole : read ≡ hosts = sym (append-nil read) ∙ ap (λ more. read ++ more) (sym none) ∙ so_far.are_all in
    subst (λ all. AllZip (IsHostOf principals) (map host_draft all) rows) whole so_far.are_rows

at_seam : {A : Type 0} (xs : List A) (y : A) (ys : List A) → slice_get (xs ++ y ∷ ys) (length xs) ≡ Some y
at_seam [] y ys = refl
at_seam (x ∷ xs) y ys = at_seam xs y ys

pub first_without : (principals : Declared) (hosts read left rest : List HostDraft) (rows : List HostShape)
    (host : HostDraft) (count : ℕ) (name : List ℕ) → left ≡ host ∷ rest → count ≡ length rows
    → ¬ HasLabel principals (host_draft host) → string_bytes host.name ≡ name
    → ReadSoFar principals hosts read left rows → IsFirstWithoutLabel principals (map host_draft hosts) count name
first_without principals hosts read left rest rows host count name next counted without named so_far =
    let P : List HostDraftShape → ℕ → Type 0 = λ texts place. IsFirstWithoutLabel principals texts place name in
    let texts : map host_draft read ++ host_draft host ∷ map host_draft rest ≡ map host_draft hosts =
    sym (map-append host_draft read (host ∷ rest)) ∙ ap (λ more. map host_draft (read ++ more)) (sym next)
    ∙ ap (map host_draft) so_far.are_all in
    let place : length (map host_draft read) ≡ count = sym (AllZip-long _ _ _ so_far.are_rows) ∙ sym counted in
    subst (λ all. P all count) texts
    (subst (P (map host_draft read ++ host_draft host ∷ map host_draft rest)) place (record {
      host = host_draft host;
      here = at_seam (map host_draft read) (host_draft host) (map host_draft rest);
      named = named;
      without = without;
      before = rw take-append_seam (all_have_labels principals (map host_draft read) rows so_far.are_rows);
    }))
