-- Laws of the readers of hosts, labels, fields and variables.
use Rattle.std.proofs.Common.{◌≡◌, ℕ, ◌+◌, ◌^◌, ◌<◌, ◌≤◌, ◌⊎◌, inl, inr, Bool, true, false, ◌||◌, ◌&&◌, List, [], ◌∷◌}
use Rattle.std.proofs.Common.{◌++◌, length, refl, sym, ap, subst, ◌∙◌, append_assoc, arith}
use Rattle.std.specs.Prelude.{FitsSigned, All, nat_lt, nat_le, ◌==◌}
use Rattle.std.specs.List.{flat_map, concat}
use Rattle.std.specs.Int.{w64}
use Rattle.std.proofs.lemmas.Bool.{ltb-true, lt-ltb, leb-true, le-leb, and_parts, eqb-true}
use Rattle.std.proofs.lemmas.List.{append-nil}
use Rattle.js_base.specs.declared.ids.HostId.{HostId}
use Rattle.js_base.specs.declared.limits.TheConstants.{HOSTS, PRINCIPALS, ARRAY_SIZE, ELEMENTS}
use Rattle.js_base.specs.Name.{IsName, is_name}
use Rattle.label_lattice.specs.declared.label.Label.{Label}
use Rattle.label_lattice.specs.Label.{IsLabel}
use Rattle.host_code.specs.Code.{CodeHostShape, CodeFieldShape, CodeVariableShape}
use Rattle.host_code.specs.Sound.{IsVariableName}
use Rattle.byte_format.specs.Numbers.{word_bytes, number_bytes, integer_bytes}
use Rattle.byte_format.specs.Reader.{sequel, given, require, items_at}
use Rattle.byte_format.proofs.NumberLaws.{byte_reads, byte_again, number_reads, number_again, word_reads, word_again}
use Rattle.byte_format.proofs.NumberLaws.{integer_reads, integer_again}
use Rattle.byte_format.proofs.Sequels.{Reads, Again, reads_then, reads_given, reads_last, reads_require, reads_weaker}
use Rattle.byte_format.proofs.Sequels.{again_then, again_given, again_last, again_require}
use Rattle.byte_format.specs.Lists.{list_bytes}
use Rattle.byte_format.proofs.ItemLaws.{AllIn, all_of, in_all, all_weaker, all_read, list_read, items_again, list_again}
use Rattle.split_file.specs.declared.fault.Fault.TheVariants as fault
use Rattle.split_file.specs.Spelling.{text_bytes, flag_bytes, label_bytes, host_bytes, host_id_bytes, field_bytes}
use Rattle.split_file.specs.Spelling.{variable_bytes}
use Rattle.split_file.specs.Reader.{number_at}
use Rattle.split_file.specs.Reading.{name_at, is_variable_name, host_id_at, label_at, host_row_at, hosts_at, flag_at}
use Rattle.split_file.specs.Reading.{elements_of, is_size, shape_at, field_row_at, variable_row_at, TablesShape}
use Rattle.split_file.specs.Reading.{tables_at}
use Rattle.split_file.proofs.Sequels.{reads_place, reads_in_range, again_place, again_in_range}
use Rattle.split_file.proofs.NumberLaws.{text_reads, text_again, index_reads, index_again, flag_reads, flag_again}
use Rattle.split_file.proofs.VariableNames.{variable_name_is, variable_name_again}

-- ---- names and host numbers

pub name_reads : Reads name_at (λ name text. (text ≡ text_bytes name) × ((length name < 2 ^ 32) × IsName name))
unfolding name_at
name_reads = reads_in_range text_reads

pub name_again : (name : List ℕ) → length name < 2 ^ 32 → IsName name → Again name_at name (text_bytes name)
unfolding name_at
name_again name short is = again_in_range is_name is (text_again name short)

pub host_id_reads : (hosts : ℕ) → Reads (host_id_at hosts) (λ host text. (text ≡ host_id_bytes host) × (host.0 < hosts))
unfolding host_id_at
host_id_reads hosts = reads_last _ (reads_in_range (byte_reads _)) (λ host is. (refl, ltb-true _ _ is.1))

pub host_id_again : (hosts : ℕ) (host : HostId) → host.0 < hosts → Again (host_id_at hosts) host (host_id_bytes host)
unfolding host_id_at
host_id_again hosts host lt =
    again_last (λ n. record { 0 = n }) (again_in_range (λ n. nat_lt n hosts) (lt-ltb host.0 hosts lt)
    (byte_again _ host.0))

-- ---- labels and hosts

pub label_reads : Reads label_at (λ label text. (text ≡ label_bytes label) × IsLabel label)
unfolding label_at
label_reads =
    reads_then (all_read (λ _. number_at w64) word_bytes (λ _ row. row < 2 ^ 64) (λ _. word_reads _) PRINCIPALS)
    (λ rows is. reads_last _ (word_reads _) (λ trust lt.
    (refl, record { long = is.0; words = all_of (λ row. row < 2 ^ 64) [] rows is.1; trust = lt })))

pub label_again : (label : Label) → IsLabel label → Again label_at label (label_bytes label)
unfolding label_at
label_again label is =
    let words = all_weaker (λ _ row. row < 2 ^ 64) (λ _ row. Again (number_at w64) row (word_bytes row))
    (λ _ row lt. word_again _ row lt) [] label.rows (in_all (λ row. row < 2 ^ 64) [] label.rows is.words) in
    let rows = subst (λ n. Again (items_at (λ _. number_at w64) [] n) label.rows (flat_map word_bytes label.rows))
    is.long (items_again (λ _. number_at w64) word_bytes [] label.rows words) in
    again_then _ rows (again_last (λ trust. record { rows = label.rows; trust = trust })
    (word_again _ label.trust is.trust))

pub record HostIs (host : CodeHostShape) : Type 0 where
  pub short : length host.name < 2 ^ 32
  pub name : IsName host.name
  pub label : IsLabel host.label

pub host_reads : Reads host_row_at (λ host text. (text ≡ host_bytes host) × HostIs host)
unfolding host_row_at
host_reads =
    reads_then name_reads (λ name is. reads_last _ label_reads (λ label label_is.
    (refl, record { short = is.0; name = is.1; label = label_is })))

pub host_again : (host : CodeHostShape) → HostIs host → Again host_row_at host (host_bytes host)
unfolding host_row_at
host_again host is =
    again_then _ (name_again host.name is.short is.name)
    (again_last (λ label. record { name = host.name; label = label }) (label_again host.label is.label))

pub record HostsAre (hosts : List CodeHostShape) : Type 0 where
  pub some : 0 < length hosts
  pub few : length hosts ≤ HOSTS
  pub each : All HostIs hosts

pub hosts_reads : Reads hosts_at (λ hosts text. (text ≡ list_bytes host_bytes hosts) × HostsAre hosts)
unfolding hosts_at
hosts_reads =
    reads_then (reads_in_range (number_reads _)) (λ count in'. reads_weaker
    (all_read (λ _. host_row_at) host_bytes (λ _ host. HostIs host) (λ _. host_reads) count) (λ hosts text is.
    let parts = and_parts (nat_lt 0 count) (nat_le count HOSTS) in'.1 in (
      ap (λ t. number_bytes count ++ t) is.0 ∙ ap (λ n. number_bytes n ++ flat_map host_bytes hosts) (sym is.1.0),
      record {
        some = subst (λ n. 0 < n) (sym is.1.0) (ltb-true _ _ parts.0);
        few = subst (λ n. n ≤ HOSTS) (sym is.1.0) (leb-true _ _ parts.1);
        each = all_of HostIs [] hosts is.1.1;
      },
    )))

both : (one other : Bool) → one ≡ true → other ≡ true → (one && other) ≡ true
both one other first second = cc

pub hosts_again : (hosts : List CodeHostShape) → HostsAre hosts → Again hosts_at hosts (list_bytes host_bytes hosts)
unfolding hosts_at
hosts_again hosts are =
    let each = all_weaker (λ _ host. HostIs host) (λ _ host. Again host_row_at host (host_bytes host))
    (λ _ host is. host_again host is) [] hosts (in_all HostIs [] hosts are.each) in
    again_then (λ count. items_at (λ _. host_row_at) [] count)
    (again_in_range (λ count. nat_lt 0 count && nat_le count HOSTS)
    (both _ _ (lt-ltb _ _ are.some) (le-leb _ _ are.few)) (number_again _ (length hosts) (omega (arith, are.few))))
    (items_again (λ _. host_row_at) host_bytes [] hosts each)

-- ---- fields

either : (one other : Bool) → (one || other) ≡ true → (one ≡ true) ⊎ (other ≡ true)
either true other is = inl refl
either false other is = inr is

plain_size : (array : Bool) (size : ℕ) → (array || size == 1) ≡ true → array ≡ false → size ≡ 1
plain_size true size is plain = absurd cc
plain_size false size is plain = eqb-true _ _ is

plain_again : (array : Bool) (size : ℕ) → (array ≡ false → size ≡ 1) → (array || size == 1) ≡ true
plain_again true size plain = refl
plain_again false size plain = rw (plain refl) refl

pub record ShapeIs (before : ℕ) (shape : ℕ × Bool) : Type 0 where
  pub some : 0 < shape.0
  pub few : shape.0 ≤ ARRAY_SIZE
  pub within : before + shape.0 ≤ ELEMENTS
  pub plain : shape.1 ≡ false → shape.0 ≡ 1

pub shape_reads : (before : ℕ) → Reads (shape_at before)
    (λ shape text. (text ≡ number_bytes shape.0 ++ flag_bytes shape.1) × ShapeIs before shape)
unfolding shape_at
shape_reads before =
    reads_place (λ at. reads_then (reads_in_range (number_reads _)) (λ size is. reads_then flag_reads (λ array any.
    reads_require (fault.BadField at) (λ plain. reads_given (size, array)
    (let parts = and_parts (nat_lt 0 size && nat_le size ARRAY_SIZE) (nat_le (before + size) ELEMENTS) is.1 in
    let bounds = and_parts (nat_lt 0 size) (nat_le size ARRAY_SIZE) parts.0 in (
      ap (λ t. number_bytes size ++ t) (append-nil (flag_bytes array)),
      record {
        some = ltb-true _ _ bounds.0;
        few = leb-true _ _ bounds.1;
        within = leb-true _ _ parts.1;
        plain = plain_size array size plain;
      },
    ))))))

pub shape_again : (before : ℕ) (shape : ℕ × Bool) → ShapeIs before shape →
    Again (shape_at before) shape (number_bytes shape.0 ++ flag_bytes shape.1)
unfolding shape_at
shape_again before shape is =
    let size_is = both _ _ (both _ _ (lt-ltb 0 shape.0 is.some) (le-leb shape.0 ARRAY_SIZE is.few))
    (le-leb (before + shape.0) ELEMENTS is.within) in
    let size = again_in_range (is_size before) size_is (number_again _ shape.0 (omega (arith, is.few))) in
    again_place (λ at.
    again_then (λ size. sequel flag_at (λ array. sequel (require (array || size == 1) (fault.BadField at))
    (λ _. given (size, array)))) size
    (subst (λ t. Again (sequel flag_at (λ array. sequel (require (array || shape.0 == 1) (fault.BadField at))
    (λ _. given (shape.0, array)))) shape t) (append-nil (flag_bytes shape.1))
    (again_then (λ array. sequel (require (array || shape.0 == 1) (fault.BadField at))
    (λ _. given (shape.0, array))) (flag_again shape.1)
    (again_require (fault.BadField at) (plain_again shape.1 shape.0 is.plain) (again_given shape)))))

pub record FieldIs (hosts labels before : ℕ) (field : CodeFieldShape) : Type 0 where
  pub short : length field.name < 2 ^ 32
  pub name : IsName field.name
  pub label : field.label < labels
  pub shape : ShapeIs before (field.size, field.array)
  pub first : FitsSigned w64 field.first
  pub host : field.host.0 < hosts

pub field_reads : (hosts labels before : ℕ) → Reads (field_row_at hosts labels before)
    (λ field text. (text ≡ field_bytes field) × FieldIs hosts labels before field)
unfolding field_row_at
field_reads hosts labels before =
    reads_then name_reads (λ name name_is. reads_then (index_reads labels) (λ label label_is.
    reads_then (shape_reads before) (λ shape shape_is. reads_then (integer_reads _) (λ first fits.
    reads_then (host_id_reads hosts) (λ host host_is. reads_given _ (
      ap (λ t. text_bytes name ++ (number_bytes label ++ t))
          (append_assoc (number_bytes shape.0) (flag_bytes shape.1) (integer_bytes first
          ++ (host_id_bytes host ++ []))),
      record {
        short = name_is.0;
        name = name_is.1;
        label = label_is;
        shape = shape_is;
        first = fits;
        host = host_is;
      },
    ))))))

pub field_again : (hosts labels before : ℕ) (field : CodeFieldShape) → labels < 2 ^ 32 →
    FieldIs hosts labels before field → Again (field_row_at hosts labels before) field (field_bytes field)
unfolding field_row_at
field_again hosts labels before field few is =
    let back = integer_bytes field.first ++ (host_id_bytes field.host ++ []) in
    subst (λ t. Again (field_row_at hosts labels before) field t)
    (ap (λ t. text_bytes field.name ++ (number_bytes field.label ++ t))
    (append_assoc (number_bytes field.size) (flag_bytes field.array) back))
    (again_then _ (name_again field.name is.short is.name)
    (again_then _ (index_again labels field.label few is.label)
    (again_then _ (shape_again before (field.size, field.array) is.shape)
    (again_then _ (integer_again _ field.first is.first)
    (again_then _ (host_id_again hosts field.host is.host) (again_given field))))))

-- ---- variables

pub record VariableIs (labels : ℕ) (variable : CodeVariableShape) : Type 0 where
  pub short : length variable.name < 2 ^ 32
  pub name : IsVariableName variable.name
  pub label : variable.label < labels

pub variable_reads : (labels : ℕ) → Reads (variable_row_at labels)
    (λ variable text. (text ≡ variable_bytes variable) × VariableIs labels variable)
unfolding variable_row_at
variable_reads labels =
    reads_then (reads_in_range text_reads) (λ name name_is. reads_last _ (index_reads labels) (λ label label_is.
    (refl, record { short = name_is.0; name = variable_name_is name name_is.1; label = label_is })))

pub variable_again : (labels : ℕ) (variable : CodeVariableShape) → labels < 2 ^ 32 → VariableIs labels variable →
    Again (variable_row_at labels) variable (variable_bytes variable)
unfolding variable_row_at
variable_again labels variable few is =
    again_then _
    (again_in_range is_variable_name (variable_name_again variable.name is.name) (text_again variable.name is.short))
    (again_last (λ label. record { name = variable.name; label = label })
    (index_again labels variable.label few is.label))

-- ---- all that instructions name

pub record TablesAre (tables : TablesShape) : Type 0 where
  pub hosts : HostsAre tables.hosts
  pub few_labels : length tables.labels < 2 ^ 32
  pub labels : All IsLabel tables.labels
  pub few_fields : length tables.fields < 2 ^ 32
  pub fields : AllIn (λ before field. FieldIs (length tables.hosts) (length tables.labels) (elements_of before) field)
      [] tables.fields
  pub few_variables : length tables.variables < 2 ^ 32
  pub variables : All (VariableIs (length tables.labels)) tables.variables

abbrev pub tables_bytes : TablesShape → List ℕ
tables_bytes tables = concat
    (list_bytes host_bytes tables.hosts ∷ list_bytes label_bytes tables.labels ∷ list_bytes field_bytes tables.fields
    ∷ list_bytes variable_bytes tables.variables ∷ [])

pub tables_read : Reads tables_at (λ tables text. (text ≡ tables_bytes tables) × TablesAre tables)
unfolding tables_at
tables_read =
    reads_then hosts_reads (λ hosts hosts_are.
    reads_then (list_read _ (λ _. label_at) label_bytes (λ _ label. IsLabel label) (λ _. label_reads))
    (λ labels labels_are.
    reads_then (list_read _ (λ before. field_row_at (length hosts) (length labels) (elements_of before)) field_bytes
    (λ before field. FieldIs (length hosts) (length labels) (elements_of before) field)
    (λ before. field_reads (length hosts) (length labels) (elements_of before))) (λ fields fields_are.
    reads_then (list_read _ (λ _. variable_row_at (length labels)) variable_bytes
    (λ _ variable. VariableIs (length labels) variable) (λ _. variable_reads (length labels)))
    (λ variables variables_are. reads_given _ (
      refl,
      record {
        hosts = hosts_are;
        few_labels = labels_are.0;
        labels = all_of IsLabel [] labels labels_are.1;
        few_fields = fields_are.0;
        fields = fields_are.1;
        few_variables = variables_are.0;
        variables = all_of (VariableIs (length labels)) [] variables variables_are.1;
      },
    )))))

pub tables_again : (tables : TablesShape) → TablesAre tables → Again tables_at tables (tables_bytes tables)
unfolding tables_at
tables_again tables are =
    let hosts = length tables.hosts in
    let labels = length tables.labels in
    let each_label = all_weaker (λ _ label. IsLabel label) (λ _ label. Again label_at label (label_bytes label))
    (λ _ label is. label_again label is) [] tables.labels (in_all IsLabel [] tables.labels are.labels) in
    let each_field = all_weaker (λ before field. FieldIs hosts labels (elements_of before) field)
    (λ before field. Again (field_row_at hosts labels (elements_of before)) field (field_bytes field))
    (λ before field is. field_again hosts labels (elements_of before) field are.few_labels is) [] tables.fields
    are.fields in
    let each_variable = all_weaker (λ _ variable. VariableIs labels variable)
    (λ _ variable. Again (variable_row_at labels) variable (variable_bytes variable))
    (λ _ variable is. variable_again labels variable are.few_labels is) [] tables.variables
    (in_all (VariableIs labels) [] tables.variables are.variables) in
    again_then _ (hosts_again tables.hosts are.hosts)
    (again_then _ (list_again _ (λ _. label_at) label_bytes tables.labels are.few_labels each_label)
    (again_then _ (list_again _ (λ before. field_row_at hosts labels (elements_of before)) field_bytes tables.fields
    are.few_fields each_field)
    (again_then _ (list_again _ (λ _. variable_row_at labels) variable_bytes tables.variables are.few_variables
    each_variable) (again_given tables))))
