-- Laws of the readers of entries, sites, the root host and the entry of main.
use Rattle.std.proofs.Common.{◌≡◌, ℕ, ◌^◌, ◌<◌, Bool, true, false, not, ◌||◌, List, [], ◌∷◌, length, refl}
use Rattle.std.specs.Prelude.{All, ◌==◌}
use Rattle.std.specs.List.{concat}
use Rattle.std.proofs.lemmas.Bool.{eqb-true}
use Rattle.js_base.specs.declared.ids.HostId.{HostId}
use Rattle.js_base.specs.declared.ids.EntryId.{EntryId}
use Rattle.host_code.specs.declared.code.Entry.{Entry}
use Rattle.byte_format.specs.Numbers.{number_bytes}
use Rattle.byte_format.proofs.NumberLaws.{byte_reads, byte_again, number_reads, number_again, word_reads, word_again}
use Rattle.byte_format.proofs.Sequels.{Reads, Again, reads_then, reads_given, reads_last, again_then, again_given}
use Rattle.byte_format.proofs.Sequels.{again_last}
use Rattle.byte_format.specs.Lists.{list_bytes}
use Rattle.byte_format.proofs.ItemLaws.{AllIn, all_of, in_all, all_weaker, list_read, list_again}
use Rattle.split_file.specs.Spelling.{host_id_bytes, entry_bytes}
use Rattle.split_file.specs.Reading.{host_id_at, is_empty, entry_row_at, is_entry_on, root_at, main_at, StartsShape}
use Rattle.split_file.specs.Reading.{starts_at}
use Rattle.split_file.proofs.Sequels.{AgainSome, reads_place, reads_in_range, again_in_range, some_then, some_place}
use Rattle.split_file.proofs.Sequels.{some_same}
use Rattle.split_file.proofs.NumberLaws.{index_reads, index_again}
use Rattle.split_file.proofs.TableLaws.{host_id_reads, host_id_again}

-- ---- entries

pub record EntryIs (hosts labels : ℕ) (is_first : Bool) (entry : Entry) : Type 0 where
  pub host : entry.host.0 < hosts
  pub short : entry.at < 2 ^ 32
  pub first : is_first ≡ true → entry.at ≡ 0
  pub label : entry.label < labels
  pub need : entry.need < 2 ^ 64

first_place : (is_first : Bool) (at : ℕ) → (not is_first || at == 0) ≡ true → is_first ≡ true → at ≡ 0
first_place true at is first = eqb-true _ _ is
first_place false at is first = absurd cc

first_again : (is_first : Bool) (at : ℕ) → (is_first ≡ true → at ≡ 0) → (not is_first || at == 0) ≡ true
first_again true at first = rw (first refl) refl
first_again false at first = refl

pub entry_reads : (hosts labels : ℕ) (is_first : Bool) → Reads (entry_row_at hosts labels is_first)
    (λ entry text. (text ≡ entry_bytes entry) × EntryIs hosts labels is_first entry)
unfolding entry_row_at
entry_reads hosts labels is_first =
    reads_then (host_id_reads hosts) (λ host host_is. reads_then (reads_in_range (number_reads _)) (λ at at_is.
    reads_then (index_reads labels) (λ label label_is. reads_then (word_reads _) (λ need need_is. reads_given _ (
      refl,
      record {
        host = host_is;
        short = at_is.0;
        first = first_place is_first at at_is.1;
        label = label_is;
        need = need_is;
      },
    )))))

pub entry_again : (hosts labels : ℕ) (is_first : Bool) (entry : Entry) → labels < 2 ^ 32 →
    EntryIs hosts labels is_first entry → Again (entry_row_at hosts labels is_first) entry (entry_bytes entry)
unfolding entry_row_at
entry_again hosts labels is_first entry few is =
    again_then _ (host_id_again hosts entry.host is.host)
    (again_then _ (again_in_range (λ at. not is_first || at == 0) (first_again is_first entry.at is.first)
    (number_again _ entry.at is.short))
    (again_then _ (index_again labels entry.label few is.label)
    (again_then _ (word_again _ entry.need is.need) (again_given entry))))

-- ---- the root host and main

pub root_reads : (entries : List Entry) → Reads (root_at entries)
    (λ root text. (text ≡ host_id_bytes root) × (is_entry_on entries 0 root.0 ≡ true))
unfolding root_at
root_reads entries = reads_last _ (reads_in_range (byte_reads _)) (λ root is. (refl, is.1))

pub root_again : (entries : List Entry) (root : HostId) → is_entry_on entries 0 root.0 ≡ true →
    Again (root_at entries) root (host_id_bytes root)
unfolding root_at
root_again entries root is =
    again_last (λ n. record { 0 = n }) (again_in_range (is_entry_on entries 0) is (byte_again _ root.0))

pub main_reads : (entries : List Entry) (root : HostId) → Reads (main_at entries root)
    (λ main text. (text ≡ number_bytes main.0) × ((main.0 < 2 ^ 32) × (is_entry_on entries main.0 root.0 ≡ true)))
unfolding main_at
main_reads entries root = reads_last _ (reads_in_range (number_reads _)) (λ main is. (refl, is))

pub main_again : (entries : List Entry) (root : HostId) (main : EntryId) → main.0 < 2 ^ 32 →
    is_entry_on entries main.0 root.0 ≡ true → Again (main_at entries root) main (number_bytes main.0)
unfolding main_at
main_again entries root main short is =
    again_last (λ n. record { 0 = n }) (again_in_range (λ main. is_entry_on entries main root.0) is
    (number_again _ main.0 short))

-- ---- where threads and calls start

pub record StartsAre (hosts labels : ℕ) (entries : List Entry) (sites : List HostId) (root : HostId) (main : EntryId) :
    Type 0 where
  pub few_entries : length entries < 2 ^ 32
  pub each_entry : AllIn (λ before entry. EntryIs hosts labels (is_empty before) entry) [] entries
  pub few_sites : length sites < 2 ^ 32
  pub each_site : All (λ site. site.0 < hosts) sites
  pub root_is : is_entry_on entries 0 root.0 ≡ true
  pub main_is : is_entry_on entries main.0 root.0 ≡ true
  pub main_short : main.0 < 2 ^ 32

abbrev pub starts_bytes : List Entry → List HostId → HostId → EntryId → List ℕ
starts_bytes entries sites root main = concat
    (list_bytes entry_bytes entries ∷ list_bytes host_id_bytes sites ∷ host_id_bytes root ∷ number_bytes main.0 ∷ [])

pub starts_read : (hosts labels : ℕ) → Reads (starts_at hosts labels)
    (λ starts text. (text ≡ starts_bytes starts.entries starts.sites starts.root starts.main)
    × StartsAre hosts labels starts.entries starts.sites starts.root starts.main)
unfolding starts_at
starts_read hosts labels =
    reads_then (list_read _ (λ before. entry_row_at hosts labels (is_empty before)) entry_bytes
    (λ before entry. EntryIs hosts labels (is_empty before) entry)
    (λ before. entry_reads hosts labels (is_empty before))) (λ entries entries_are. reads_place (λ behind.
    reads_then (list_read _ (λ _. host_id_at hosts) host_id_bytes (λ _ site. site.0 < hosts) (λ _. host_id_reads hosts))
    (λ sites sites_are.
    reads_then (root_reads entries) (λ root root_is. reads_then (main_reads entries root) (λ main main_is.
    reads_given _ (
      refl,
      record {
        few_entries = entries_are.0;
        each_entry = entries_are.1;
        few_sites = sites_are.0;
        each_site = all_of (λ site. site.0 < hosts) [] sites sites_are.1;
        root_is = root_is;
        main_is = main_is.1;
        main_short = main_is.0;
      },
    ))))))

-- it is read again, with some place behind the entries
abbrev pub IsStart : List Entry → List HostId → HostId → EntryId → StartsShape → Type 0
IsStart entries sites root main starts =
    (behind : ℕ) × (starts ≡ record { entries = entries; behind = behind; sites = sites; root = root; main = main })

pub starts_again : (hosts labels : ℕ) (entries : List Entry) (sites : List HostId) (root : HostId) (main : EntryId) →
    labels < 2 ^ 32 → StartsAre hosts labels entries sites root main →
    AgainSome (starts_at hosts labels) (IsStart entries sites root main) (starts_bytes entries sites root main)
unfolding starts_at
starts_again hosts labels entries sites root main few are =
    let each_entry = all_weaker (λ before entry. EntryIs hosts labels (is_empty before) entry)
    (λ before entry. Again (entry_row_at hosts labels (is_empty before)) entry (entry_bytes entry))
    (λ before entry is. entry_again hosts labels (is_empty before) entry few is) [] entries are.each_entry in
    let each_site = all_weaker (λ _ site. site.0 < hosts) (λ _ site. Again (host_id_at hosts) site (host_id_bytes site))
    (λ _ site is. host_id_again hosts site is) [] sites (in_all (λ site. site.0 < hosts) [] sites are.each_site) in
    some_then _ (list_again _ (λ before. entry_row_at hosts labels (is_empty before)) entry_bytes entries
    are.few_entries each_entry) (some_place (λ behind.
    some_then _ (list_again _ (λ _. host_id_at hosts) host_id_bytes sites are.few_sites each_site)
    (some_then _ (root_again entries root are.root_is)
    (some_then _ (main_again entries root main are.main_short are.main_is)
    (some_same (IsStart entries sites root main) (again_given _) (behind, refl))))))
