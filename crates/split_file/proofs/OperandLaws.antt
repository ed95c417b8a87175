-- Laws of the readers of what operations name.
use Rattle.std.proofs.Common.{◌≡◌, ◌≢◌, ℕ, zero, suc, ◌^◌, ◌<◌, ◌≤◌, Bool, true, false, not, ◌&&◌, List, [], ◌∷◌}
use Rattle.std.proofs.Common.{length, Option, Some, None, refl, ap, arith}
use Rattle.std.specs.Prelude.{IsSomeAnd, slice_get, nat_lt, ◌==◌}
use Rattle.std.specs.Option.{option_map_or}
use Rattle.std.proofs.lemmas.Bool.{eqb-true, eq-eqb, ne_eqb, ltb-true, lt-ltb, and_parts}
use Rattle.js_base.specs.declared.ids.HostId.{HostId}
use Rattle.js_base.specs.declared.ids.FieldId.{FieldId}
use Rattle.js_base.specs.declared.ids.EntryId.{EntryId}
use Rattle.js_base.specs.declared.ids.SiteId.{SiteId}
use Rattle.host_code.specs.declared.code.Entry.{Entry}
use Rattle.host_code.specs.Code.{CodeShape, halt, entry_at, site_at, host_of_site}
use Rattle.host_code.specs.Sound.{IsHost, IsOther, IsEntryOn}
use Rattle.byte_format.specs.Numbers.{number_bytes}
use Rattle.byte_format.proofs.NumberLaws.{byte_reads, byte_again, number_reads, number_again}
use Rattle.byte_format.proofs.Sequels.{Reads, Again, reads_last, again_last}
use Rattle.split_file.specs.Spelling.{host_id_bytes}
use Rattle.split_file.specs.Reading.{is_entry_on, field_id_at, other_host_at, own_site_at, own_entry_at, some_entry_at}
use Rattle.split_file.specs.Reading.{host_of_entry_at, other_host_of_entry_at}
use Rattle.split_file.proofs.Sequels.{reads_in_range, again_in_range}
use Rattle.split_file.proofs.NumberLaws.{index_reads, index_again}

-- ---- tests

host_of : (first second : HostId) → first.0 ≡ second.0 → first ≡ second
host_of first second same = ap (λ n. record { 0 = n }) same

unlike : (one other : Bool) → not one ≡ true → one ≡ true → ⊥
unlike true other is same = cc
unlike false other is same = cc

-- numbers that differ
other_than : (host me : HostId) → not (host.0 == me.0) ≡ true → host ≢ me
other_than host me is same =
    unlike (host.0 == me.0) true is (eq-eqb host.0 me.0 (ap (λ (h : HostId). h.0) same))

differs : (one other : ℕ) → (one ≡ other → ⊥) → not (one == other) ≡ true
differs one other apart = rw (ne_eqb one other apart) refl

both : (one other : Bool) → one ≡ true → other ≡ true → (one && other) ≡ true
both one other first second = cc

entry_on : (there : Option Entry) (host : HostId) → option_map_or (λ e. e.host.0 == host.0) there false ≡ true →
    IsSomeAnd there (λ e. e.host ≡ host)
entry_on None host is = absurd cc
entry_on (Some e) host is = host_of e.host host (eqb-true _ _ is)

entry_on_again : (there : Option Entry) (host : HostId) → IsSomeAnd there (λ e. e.host ≡ host) →
    option_map_or (λ e. e.host.0 == host.0) there false ≡ true
entry_on_again None host is = absurd is
entry_on_again (Some e) host is = eq-eqb e.host.0 host.0 (ap (λ (h : HostId). h.0) is)

pub entry_there : (entries : List Entry) (n : ℕ) (host : HostId) → is_entry_on entries n host.0 ≡ true →
    IsSomeAnd (slice_get entries n) (λ e. e.host ≡ host)
entry_there entries n host is = entry_on (slice_get entries n) host is

pub entry_there_again : (entries : List Entry) (n : ℕ) (host : HostId) →
    IsSomeAnd (slice_get entries n) (λ e. e.host ≡ host) → is_entry_on entries n host.0 ≡ true
entry_there_again entries n host is = entry_on_again (slice_get entries n) host is

-- what is there is within
pub some_within : (entries : List Entry) (n : ℕ) (P : Entry → Type 0) → IsSomeAnd (slice_get entries n) P →
    n < length entries
some_within [] n P is = absurd is
some_within (e ∷ entries) zero P is = omega arith
some_within (e ∷ entries) (suc n) P is = omega (arith, some_within entries n P is)

site_is : (there : Option HostId) (me : HostId) → option_map_or (λ h. h.0 == me.0) there false ≡ true → there ≡ Some me
site_is None me is = absurd cc
site_is (Some h) me is = ap Some (host_of h me (eqb-true _ _ is))

site_is_again : (there : Option HostId) (me : HostId) → there ≡ Some me →
    option_map_or (λ h. h.0 == me.0) there false ≡ true
site_is_again there me is = rw is (eq-eqb me.0 me.0 refl)

site_within : (sites : List HostId) (n : ℕ) (h : HostId) → slice_get sites n ≡ Some h → n < length sites
site_within [] n h is = absurd cc
site_within (s ∷ sites) zero h is = omega arith
site_within (s ∷ sites) (suc n) h is = omega (arith, site_within sites n h is)

site_few : (sites : List HostId) (n : ℕ) (h : HostId) → host_of_site sites n ≡ Some h → n ≤ length sites
site_few sites zero h is = absurd cc
site_few sites (suc n) h is = omega (arith, site_within sites n h is)

-- ---- operands

-- no list is too long
pub record IsFew (code : CodeShape) : Type 0 where
  pub labels : length code.labels < 2 ^ 32
  pub fields : length code.fields < 2 ^ 32
  pub variables : length code.variables < 2 ^ 32
  pub entries : length code.entries < 2 ^ 32
  pub sites : length code.sites < 2 ^ 32

pub field_id_reads : (code : CodeShape) → Reads (field_id_at code)
    (λ field text. (text ≡ number_bytes field.0) × (field.0 < length code.fields))
unfolding field_id_at
field_id_reads code = reads_last _ (index_reads (length code.fields)) (λ field lt. (refl, lt))

pub field_id_again : (code : CodeShape) (field : FieldId) → IsFew code → field.0 < length code.fields →
    Again (field_id_at code) field (number_bytes field.0)
unfolding field_id_at
field_id_again code field few lt = again_last (λ n. record { 0 = n })
    (index_again (length code.fields) field.0 few.fields lt)

pub other_host_reads : (code : CodeShape) (me : HostId) → Reads (other_host_at code me)
    (λ host text. (text ≡ host_id_bytes host) × IsOther code me host)
unfolding other_host_at
other_host_reads code me = reads_last _ (reads_in_range (byte_reads _)) (λ host is.
    let parts = and_parts (nat_lt host (length code.hosts)) (not (host == me.0)) is.1 in
    (refl, (ltb-true _ _ parts.0, other_than (record { 0 = host }) me parts.1)))

apart_numbers : (host me : HostId) → host ≢ me → host.0 ≡ me.0 → ⊥
apart_numbers host me apart same = apart (host_of host me same)

pub other_host_again : (code : CodeShape) (me host : HostId) → IsOther code me host →
    Again (other_host_at code me) host (host_id_bytes host)
unfolding other_host_at
other_host_again code me host is =
    again_last (λ n. record { 0 = n }) (again_in_range (λ n. nat_lt n (length code.hosts) && not (n == me.0))
    (both _ _ (lt-ltb _ _ is.0) (differs host.0 me.0 (apart_numbers host me is.1))) (byte_again _ host.0))

pub own_site_reads : (code : CodeShape) (me : HostId) → Reads (own_site_at code me)
    (λ site text. (text ≡ number_bytes site.0) × (site_at code site ≡ Some me))
unfolding own_site_at
own_site_reads code me =
    reads_last _ (reads_in_range (number_reads _)) (λ site is. (refl, site_is (host_of_site code.sites site) me is.1))

pub own_site_again : (code : CodeShape) (me : HostId) (site : SiteId) → IsFew code → site_at code site ≡ Some me →
    Again (own_site_at code me) site (number_bytes site.0)
unfolding own_site_at
own_site_again code me site few is =
    let within = site_few code.sites site.0 me is in
    again_last (λ n. record { 0 = n })
    (again_in_range (λ n. option_map_or (λ host. host.0 == me.0) (host_of_site code.sites n) false)
    (site_is_again (host_of_site code.sites site.0) me is) (number_again _ site.0 (omega (arith, within, few.sites))))

not_halt : (entry : EntryId) → not (entry.0 == 0) ≡ true → entry ≢ halt
not_halt entry is same = unlike (entry.0 == 0) true is (eq-eqb entry.0 0 (ap (λ (e : EntryId). e.0) same))

halt_apart : (entry : EntryId) → entry ≢ halt → entry.0 ≡ 0 → ⊥
halt_apart entry apart same =
    let is : entry ≡ halt = ap (λ n. record { 0 = n }) same in
    apart is

pub own_entry_reads : (code : CodeShape) (me : HostId) → Reads (own_entry_at code me)
    (λ entry text. (text ≡ number_bytes entry.0) × IsEntryOn code me entry)
unfolding own_entry_at
own_entry_reads code me = reads_last _ (reads_in_range (number_reads _)) (λ entry is.
    let parts = and_parts (not (entry == 0)) (is_entry_on code.entries entry me.0) is.1 in
    (refl, (not_halt (record { 0 = entry }) parts.0, entry_there code.entries entry me parts.1)))

pub own_entry_again : (code : CodeShape) (me : HostId) (entry : EntryId) → IsFew code → IsEntryOn code me entry →
    Again (own_entry_at code me) entry (number_bytes entry.0)
unfolding own_entry_at
own_entry_again code me entry few is =
    let within = some_within code.entries entry.0 (λ e. e.host ≡ me) is.1 in
    again_last (λ n. record { 0 = n })
    (again_in_range (λ n. not (n == 0) && is_entry_on code.entries n me.0)
    (both _ _ (differs entry.0 0 (halt_apart entry is.0)) (entry_there_again code.entries entry.0 me is.1))
    (number_again _ entry.0 (omega (arith, within, few.entries))))

pub some_entry_reads : (code : CodeShape) → Reads (some_entry_at code)
    (λ entry text. (text ≡ number_bytes entry.0) × (entry ≢ halt))
unfolding some_entry_at
some_entry_reads code = reads_last _ (reads_in_range (number_reads _)) (λ entry is.
    let parts = and_parts (not (entry == 0)) (nat_lt entry (length code.entries)) is.1 in
    (refl, not_halt (record { 0 = entry }) parts.0))

pub some_entry_again : (code : CodeShape) (host : HostId) (entry : EntryId) → IsFew code → IsEntryOn code host entry →
    Again (some_entry_at code) entry (number_bytes entry.0)
unfolding some_entry_at
some_entry_again code host entry few is =
    let within = some_within code.entries entry.0 (λ e. e.host ≡ host) is.1 in
    again_last (λ n. record { 0 = n })
    (again_in_range (λ n. not (n == 0) && nat_lt n (length code.entries))
    (both _ _ (differs entry.0 0 (halt_apart entry is.0)) (lt-ltb _ _ within))
    (number_again _ entry.0 (omega (arith, within, few.entries))))

pub host_of_entry_reads : (code : CodeShape) (entry : EntryId) → Reads (host_of_entry_at code entry)
    (λ on text. (text ≡ host_id_bytes on) × (IsHost code on × IsSomeAnd (entry_at code entry) (λ e. e.host ≡ on)))
unfolding host_of_entry_at
host_of_entry_reads code entry = reads_last _ (reads_in_range (byte_reads _)) (λ host is.
    let parts = and_parts (nat_lt host (length code.hosts)) (is_entry_on code.entries entry.0 host) is.1 in
    (refl, (ltb-true _ _ parts.0, entry_there code.entries entry.0 (record { 0 = host }) parts.1)))

pub host_of_entry_again : (code : CodeShape) (entry : EntryId) (on : HostId) → IsHost code on →
    IsEntryOn code on entry →
    Again (host_of_entry_at code entry) on (host_id_bytes on)
unfolding host_of_entry_at
host_of_entry_again code entry on is_host is =
    again_last (λ n. record { 0 = n })
    (again_in_range (λ n. nat_lt n (length code.hosts) && is_entry_on code.entries entry.0 n)
    (both _ _ (lt-ltb _ _ is_host) (entry_there_again code.entries entry.0 on is.1)) (byte_again _ on.0))

pub other_host_of_entry_reads : (code : CodeShape) (me : HostId) (entry : EntryId) →
    Reads (other_host_of_entry_at code me entry)
    (λ on text. (text ≡ host_id_bytes on) × (IsOther code me on × IsSomeAnd (entry_at code entry) (λ e. e.host ≡ on)))
unfolding other_host_of_entry_at
other_host_of_entry_reads code me entry = reads_last _ (reads_in_range (byte_reads _)) (λ host is.
    let parts = and_parts (nat_lt host (length code.hosts) && not (host == me.0))
    (is_entry_on code.entries entry.0 host) is.1 in
    let front = and_parts (nat_lt host (length code.hosts)) (not (host == me.0)) parts.0 in (
      refl,
      (
        (ltb-true _ _ front.0, other_than (record { 0 = host }) me front.1),
        entry_there code.entries entry.0 (record { 0 = host }) parts.1,
      ),
    ))

pub other_host_of_entry_again : (code : CodeShape) (me : HostId) (entry : EntryId) (on : HostId) → IsOther code me on →
    IsEntryOn code on entry → Again (other_host_of_entry_at code me entry) on (host_id_bytes on)
unfolding other_host_of_entry_at
other_host_of_entry_again code me entry on other is =
    again_last (λ n. record { 0 = n })
    (again_in_range (λ n. nat_lt n (length code.hosts) && not (n == me.0) && is_entry_on code.entries entry.0 n)
    (both _ _ (both _ _ (lt-ltb _ _ other.0) (differs on.0 me.0 (apart_numbers on me other.1)))
    (entry_there_again code.entries entry.0 on is.1)) (byte_again _ on.0))
