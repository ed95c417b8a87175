-- The fields at the end of a run: their values, and who may have affected them.
use Rattle.std.specs.Prelude.{ℕ, ◌+◌, ◌==◌, Bool, true, false, if◌then◌else◌, List, [], ◌∷◌, ◌++◌, codes, map}
use Rattle.std.specs.Prelude.{filter, flat_map, Option, Some, None, pos, ℤ}
use Rattle.std.specs.Fmt.{signed_decimal}
use Rattle.std.specs.List.{join_with_byte, list_all, range_with_len}
use Rattle.entry_check.specs.Checks.{label_at, label_of_host}
use Rattle.host_code.specs.Code.{CodeFieldShape, CodeShape}
use Rattle.host_code.specs.MessageText.{host_text}
use Rattle.host_core.specs.Host.{HostState}
use Rattle.jif_tree.specs.Store.{element_at, row_of}
use Rattle.js_base.specs.declared.ids.HostId.{HostId}
use Rattle.label_lattice.specs.Printed.{is_trusted_by}
use Rattle.label_lattice.specs.declared.label.Label.{Label}
use Rattle.label_lattice.specs.declared.label.TheConstants.{READERS}
use Rattle.net_world.specs.World.{WorldShape, misbehaves, state_at}
use Rattle.run_chart.specs.Sheets.{ChartFieldShape}
use Rattle.run_chart.specs.declared.sheet.Mark.{Mark}
use Rattle.run_chart.specs.declared.sheet.Mark.TheVariants as mark
use Rattle.run_sheet.specs.RunSources.{hosts_in}

-- ---- values

-- the elements of a field of this number on its host, as many as the code gives it
abbrev pub elements_on : HostState → (number size : ℕ) → List ℤ
elements_on host number size =
    map (λ index. element_at (row_of host.rows number) (pos index)) (range_with_len 0 size)

-- the elements, parted by one blank
abbrev pub elements_words : List ℤ → List ℕ
elements_words elements = join_with_byte 32 (map signed_decimal elements)

-- nobody knows the fields of a host that misbehaves
abbrev pub value_words : Option HostState → (number size : ℕ) → List ℕ
value_words None number size = codes "?"
value_words (Some host) number size = elements_words (elements_on host number size)

-- ---- who may affect a field

-- whoever trusts the label trusts the host
unfoldable pub is_trusted_alike : (host label : Label) → Bool
is_trusted_alike host label =
    list_all (λ principal. if is_trusted_by label principal then is_trusted_by host principal else true)
    (range_with_len 0 READERS)

abbrev pub reaches_label : (host label : Option Label) → Bool
reaches_label (Some host) (Some label) = is_trusted_alike host label
reaches_label (Some host) None = false
reaches_label None label = false

-- whether a host that misbehaves may affect a field
abbrev pub reaches_field : CodeShape → CodeFieldShape → HostId → Bool
reaches_field code field host = reaches_label (label_of_host code host) (label_at code field.label)

-- the hosts that misbehave, in order
abbrev pub misbehaving_in : CodeShape → WorldShape → List HostId
misbehaving_in code world = filter (misbehaves world) (hosts_in code)

abbrev pub reaching : CodeShape → CodeFieldShape → List HostId → List HostId
reaching code field bad = filter (reaches_field code field) bad

-- ---- marks

-- of a field on a host that misbehaves or not, where these misbehave and these of them may affect the field
abbrev pub field_mark : Bool → (bad affecting : List HostId) → Mark
field_mark on_bad [] affecting = mark.Plain
field_mark true (first ∷ others) affecting = mark.Open
field_mark false (first ∷ others) [] = mark.Kept
field_mark false (first ∷ others) (one ∷ more) = mark.Open

-- the names of hosts, parted by commas
abbrev pub listed_hosts : CodeShape → List HostId → List ℕ
listed_hosts code [] = []
listed_hosts code (first ∷ others) =
    host_text code first ++ flat_map (λ host. codes ", " ++ host_text code host) others

abbrev pub who_affects : CodeShape → List HostId → List ℕ
who_affects code [] = []
who_affects code (one ∷ more) = listed_hosts code (one ∷ more) ++ codes " may affect it"

-- who may affect a field on this host, which misbehaves or not
abbrev pub who_words : CodeShape → HostId → Bool → List HostId → List ℕ
who_words code host true affecting = codes "as " ++ host_text code host ++ codes " likes"
who_words code host false affecting = who_affects code affecting

-- ---- fields

-- the field of a number, where these hosts misbehave
abbrev pub chart_field : CodeShape → WorldShape → (bad : List HostId) → (number : ℕ) → CodeFieldShape → ChartFieldShape
chart_field code world bad number field = record {
  text = field.name ++ codes " = " ++ value_words (state_at world field.host) number field.size;
  mark = field_mark (misbehaves world field.host) bad (reaching code field bad);
  who = who_words code field.host (misbehaves world field.host) (reaching code field bad);
}

-- the fields on a host, of those from a number on
abbrev pub chart_fields :
    CodeShape → WorldShape → (bad : List HostId) → HostId → (number : ℕ) → List CodeFieldShape → List ChartFieldShape
chart_fields code world bad host number [] = []
chart_fields code world bad host number (field ∷ fields) =
    (if field.host.0 == host.0 then chart_field code world bad number field ∷ [] else [])
    ++ chart_fields code world bad host (number + 1) fields
