-- Laws of what stands before the instructions of a split file.
use Rattle.std.proofs.Common.{◌≡◌, ℕ, ◌<◌, ◌^◌, Bool, true, false, ◌||◌, List, [], ◌∷◌, ◌++◌, length, Ok, refl, ap}
use Rattle.std.proofs.Common.{subst, ◌∙◌, arith}
use Rattle.std.specs.Prelude.{if◌then◌else◌, ⊤, ◌==◌}
use Rattle.std.specs.List.{concat}
use Rattle.std.specs.Str.{bytes_eq}
use Rattle.std.specs.Int.{w16, to_be_bytes}
use Rattle.std.proofs.lemmas.List.{append-nil}
use Rattle.std.proofs.lemmas.Slice.Eq.{bytes_eq-Decides}
use Rattle.host_code.specs.Code.{CodeShape}
use Rattle.byte_format.specs.Reader.{handed_on, sequel, given, require}
use Rattle.byte_format.proofs.NumberLaws.{bytes_reads, bytes_again, short_reads, short_again}
use Rattle.byte_format.proofs.Sequels.{Reads, Again, reads_then, reads_given, reads_require, reads_weaker, again_then}
use Rattle.byte_format.proofs.Sequels.{again_given, again_require}
use Rattle.split_file.specs.declared.fault.Fault.TheVariants as fault
use Rattle.split_file.specs.declared.reading.Front.{Front}
use Rattle.split_file.specs.Spelling.{magic, table_bytes, start_bytes}
use Rattle.split_file.specs.Reader.{SplitReader, place, number_at}
use Rattle.split_file.specs.Reading.{magic_at, version_at, TablesShape, tables_at, StartsShape, starts_at, code_with}
use Rattle.split_file.specs.Reading.{front_at, with_parts}
use Rattle.split_file.proofs.Sequels.{AgainSome, reads_place, require_reads, require_again, some_then, some_some}
use Rattle.split_file.proofs.Sequels.{some_same}
use Rattle.split_file.proofs.TableLaws.{TablesAre, tables_read, tables_again}
use Rattle.split_file.proofs.StartLaws.{StartsAre, IsStart, starts_read, starts_again}

-- ---- how it begins

magic_reads : Reads magic_at (λ _ text. (text ≡ magic) × ⊤)
unfolding magic_at
magic_reads =
    reads_then (bytes_reads _ 8) (λ bytes long. reads_weaker (require_reads (bytes_eq bytes magic) fault.BadMagic)
    (λ _ more is. (ap (λ t. bytes ++ t) is.0 ∙ append-nil bytes ∙ (bytes_eq-Decides bytes magic).0 is.1, tt)))

magic_again : Again magic_at tt magic
unfolding magic_at
magic_again =
    again_then (λ bytes. require (bytes_eq bytes magic) fault.BadMagic) (bytes_again _ magic 8 refl)
    (require_again (bytes_eq magic magic) fault.BadMagic ((bytes_eq-Decides magic magic).1 refl))

version_reads : Reads version_at (λ version text. (text ≡ to_be_bytes w16 version.0) × ⊤)
unfolding version_at
version_reads =
    reads_place (λ at. reads_then (short_reads _) (λ version short. reads_require fault.BadVersion (λ _.
    reads_given _ (append-nil (to_be_bytes w16 version), tt))))

-- what is read behind the place of the version
abbrev behind_place : ℕ → SplitReader (ℕ × ℕ)
behind_place at =
    sequel (number_at w16) (λ version. sequel (require (version == 1 || version == 2) fault.BadVersion)
    (λ _. given (version, at)))

version_again : (version : ℕ) → (version == 1 || version == 2) ≡ true → version < 2 ^ 16 → (rest : List ℕ) →
    version_at (to_be_bytes w16 version ++ rest)
    ≡ Ok ((version, length (to_be_bytes w16 version ++ rest)), rest)
unfolding version_at sequel place
version_again version is short rest =
    let at = length (to_be_bytes w16 version ++ rest) in
    let one : Again (behind_place at) (version, at) (to_be_bytes w16 version) =
    subst (λ text. Again (behind_place at) (version, at) text) (append-nil (to_be_bytes w16 version))
    (again_then (λ version. sequel (require (version == 1 || version == 2) fault.BadVersion) (λ _. given (version, at)))
    (short_again _ version short) (again_require fault.BadVersion is (again_given (version, at)))) in
    one.again rest

-- a code has a version that is read
pub is_version : (riding : Bool) →
    ((if riding then 2 else 1) == 1 || (if riding then 2 else 1) == 2) ≡ true
is_version true = refl
is_version false = refl

pub short_version : (riding : Bool) → (if riding then 2 else 1) < 2 ^ 16
short_version true = omega arith
short_version false = omega arith

-- ---- tables and starts

abbrev pub tables_in : CodeShape → TablesShape
tables_in code = record { hosts = code.hosts; labels = code.labels; fields = code.fields; variables = code.variables }

pub record FrontIs (code : CodeShape) : Type 0 where
  pub tables : TablesAre (tables_in code)
  pub starts : StartsAre (length code.hosts) (length code.labels) code.entries code.sites code.root code.main

abbrev pub front_bytes : ℕ → CodeShape → List ℕ
front_bytes version code =
    concat (magic ∷ to_be_bytes w16 version ∷ table_bytes code ∷ start_bytes code ∷ [])

pub front_reads : Reads front_at
    (λ front text. (text ≡ front_bytes front.1.version front.0) × FrontIs front.0)
unfolding front_at
front_reads =
    reads_then magic_reads (λ _ _. reads_then version_reads (λ version _. reads_then tables_read (λ tables tables_are.
    reads_then (starts_read (length tables.hosts) (length tables.labels)) (λ starts starts_are. reads_given _
    (refl, record { tables = tables_are; starts = starts_are })))))

-- ---- what is read again

-- what is kept of the bytes before the instructions of a code
abbrev pub front_of : ℕ → CodeShape → ℕ → ℕ → CodeShape × Front
front_of version code from_version behind =
    (with_parts code [], record { version = version; from_version = from_version; behind = behind })

abbrev IsFront : ℕ × ℕ → CodeShape → CodeShape × Front → Type 0
IsFront version code front = (behind : ℕ) × (front ≡ front_of version.0 code version.1 behind)

abbrev read_front : ℕ × ℕ → TablesShape → StartsShape → CodeShape × Front
read_front version tables starts =
    (code_with tables starts, record { version = version.0; from_version = version.1; behind = starts.behind })

with_start : (version : ℕ × ℕ) (code : CodeShape) (starts : StartsShape) →
    IsStart code.entries code.sites code.root code.main starts →
    IsFront version code (read_front version (tables_in code) starts)
with_start version code starts is = (is.0, ap (read_front version (tables_in code)) is.1)

-- what stands behind the version, and its bytes
abbrev behind_version : ℕ × ℕ → SplitReader (CodeShape × Front)
behind_version version =
    sequel tables_at (λ tables. sequel (starts_at (length tables.hosts) (length tables.labels))
    (λ starts. given (read_front version tables starts)))

abbrev pub named_bytes : CodeShape → List ℕ
named_bytes code = concat (table_bytes code ∷ start_bytes code ∷ [])

named_again : (version : ℕ × ℕ) (code : CodeShape) → FrontIs code →
    AgainSome (behind_version version) (IsFront version code) (named_bytes code)
named_again version code is =
    some_then (λ tables. sequel (starts_at (length tables.hosts) (length tables.labels))
    (λ starts. given (read_front version tables starts))) (tables_again (tables_in code) is.tables)
    (some_some (starts_again (length code.hosts) (length code.labels) code.entries code.sites code.root code.main
    is.tables.few_labels is.starts) (λ starts starts_is.
    some_same (IsFront version code) (again_given _) (with_start version code starts starts_is)))

pub front_again : (version : ℕ) (code : CodeShape) → (version == 1 || version == 2) ≡ true → version < 2 ^ 16 →
    FrontIs code → (rest : List ℕ) →
    (behind : ℕ) × (front_at (magic ++ (to_be_bytes w16 version ++ (named_bytes code ++ rest)))
    ≡ Ok (front_of version code (length (to_be_bytes w16 version ++ (named_bytes code ++ rest))) behind, rest))
unfolding front_at sequel
front_again version code known short is rest =
    let more = named_bytes code ++ rest in
    let at = length (to_be_bytes w16 version ++ more) in
    let found = (named_again (version, at) code is).again rest in (
      found.2.0,
      ap (λ reading. handed_on reading (λ _. sequel version_at behind_version))
          (magic_again.again (to_be_bytes w16 version ++ more))
          ∙ ap (λ reading. handed_on reading behind_version) (version_again version known short more)
          ∙ found.1 ∙ ap (λ front. Ok (front, rest)) found.2.1,
    )
