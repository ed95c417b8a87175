-- The first bad key of a file: there is one where a file is refused for a key, and there is one only.
use Rattle.std.proofs.Common.{◌≡◌, ◌⊎◌, ℕ, zero, suc, List, [], ◌∷◌, ◌++◌, refl, sym, ap, ◌∙◌, subst, inl, inr, ⊎_elim}
use Rattle.std.proofs.Common.{append-nil}
use Rattle.std.specs.List.{AllByRecursion}
use Rattle.toml.specs.Data.{Members, get_member}
use Rattle.host_decl.specs.declared.schema.TableKind.{TableKind}
use Rattle.host_decl.specs.declared.schema.TableKind.TheVariants.{File, Host, Link}
use Rattle.host_decl.specs.Schema.{IsBadKey, IsFirstBadKey, IsLeast, IsSound, IsSoundAs, IsSoundFile}
use Rattle.host_decl.specs.Schema.{file_tables, of_kind}
use Rattle.host_decl.proofs.Least.{not_after_both}
use Rattle.host_reasons.specs.declared.bad_key.KeyFault.{KeyFault}
use Rattle.host_reasons.specs.BadKeys.{BadKeyShape, IsBadAmong, IsBadKeyOf, key_fault}
use Rattle.host_reasons.specs.BadKeys.{tables_of_kind}

least_once : (P : List ℕ → Type 0) (first second : List ℕ) → IsLeast P first → IsLeast P second → first ≡ second
least_once P first second one two = not_after_both first second (one.least second two.holds) (two.least first one.holds)

-- ---- tables of one kind

pub among_or_sound : (kind : TableKind) (tables : List Members) (number : ℕ) (key : List ℕ) (fault : KeyFault) →
    IsBadAmong kind tables number key fault → AllByRecursion (IsSound kind) tables → ⊥
among_or_sound kind [] number key fault bad sound = bad
among_or_sound kind (table ∷ tables) zero key fault bad sound = sound.0 key bad.0.holds
among_or_sound kind (table ∷ tables) (suc number) key fault bad sound =
    among_or_sound kind tables number key fault bad.1 sound.1

one_among : (kind : TableKind) (tables : List Members) (number other : ℕ) (key second : List ℕ)
    (fault last : KeyFault) → IsBadAmong kind tables number key fault → IsBadAmong kind tables other second last →
    (number ≡ other) × (key ≡ second) × (fault ≡ last)
one_among kind [] number other key second fault last one two = absurd one
one_among kind (table ∷ tables) zero zero key second fault last one two =
    let same : key ≡ second = least_once (IsBadKey kind table) key second one.0 two.0 in
    (refl, same, one.1 ∙ ap (λ (k : List ℕ). key_fault kind k (get_member k table)) same ∙ sym two.1)
one_among kind (table ∷ tables) zero (suc other) key second fault last one two = absurd (two.0 key one.0.holds)
one_among kind (table ∷ tables) (suc number) zero key second fault last one two = absurd (one.0 second two.0.holds)
one_among kind (table ∷ tables) (suc number) (suc other) key second fault last one two =
    let same = one_among kind tables number other key second fault last one.1 two.1 in
    (ap suc same.0, same.1, same.2)

-- a bad key of these parts
abbrev bad_of : TableKind → ℕ → List ℕ → KeyFault → BadKeyShape
bad_of kind number key fault = record { kind = kind; number = number; key = key; fault = fault }

-- of one kind two are the same
same_bad : (kind : TableKind) (number other : ℕ) (key second : List ℕ) (fault last : KeyFault) →
    (number ≡ other) × (key ≡ second) × (fault ≡ last) → bad_of kind number key fault ≡ bad_of kind other second last
same_bad kind number other key second fault last same =
    ap (λ (n : ℕ). bad_of kind n key fault) same.0
    ∙ ap (λ (k : List ℕ). bad_of kind other k fault) same.1
    ∙ ap (λ (f : KeyFault). bad_of kind other second f) same.2

-- tables that are sound come before those with a bad key, so the bad keys of two kinds exclude each other
file_and_sound : (file : Members) (number : ℕ) (key : List ℕ) (fault : KeyFault) →
    IsBadAmong File (tables_of_kind File file) number key fault → IsSound File file → ⊥
file_and_sound file number key fault bad sound =
    among_or_sound File (tables_of_kind File file) number key fault bad (sound, tt)

one_by_kind : (file : Members) (kind other : TableKind) (n m : ℕ) (k l : List ℕ) (f g : KeyFault) →
    IsBadKeyOf file (bad_of kind n k f) → IsBadKeyOf file (bad_of other m l g) → bad_of kind n k f ≡ bad_of other m l g
one_by_kind file File File n m k l f g one two =
    same_bad File n m k l f g (one_among File (tables_of_kind File file) n m k l f g one.1 two.1)
one_by_kind file File Host n m k l f g one two = absurd (file_and_sound file n k f one.1 two.0)
one_by_kind file File Link n m k l f g one two = absurd (file_and_sound file n k f one.1 two.0.0)
one_by_kind file Host File n m k l f g one two = absurd (file_and_sound file m l g two.1 one.0)
one_by_kind file Host Host n m k l f g one two =
    same_bad Host n m k l f g (one_among Host (tables_of_kind Host file) n m k l f g one.1 two.1)
one_by_kind file Host Link n m k l f g one two =
    absurd (among_or_sound Host (tables_of_kind Host file) n k f one.1 two.0.1)
one_by_kind file Link File n m k l f g one two = absurd (file_and_sound file m l g two.1 one.0.0)
one_by_kind file Link Host n m k l f g one two =
    absurd (among_or_sound Host (tables_of_kind Host file) m l g two.1 one.0.1)
one_by_kind file Link Link n m k l f g one two =
    same_bad Link n m k l f g (one_among Link (tables_of_kind Link file) n m k l f g one.1 two.1)

pub one_bad_key : (file : Members) (first second : BadKeyShape) → IsBadKeyOf file first → IsBadKeyOf file second →
    first ≡ second
one_bad_key file first second one two =
    one_by_kind file first.kind second.kind first.number second.number first.key second.key first.fault second.fault
    one two

-- ---- some bad key

-- a bad key among tables
abbrev pub HasBadAmong : TableKind → List Members → List ℕ → Type 0
HasBadAmong kind tables key = (number : ℕ) × (fault : KeyFault) × IsBadAmong kind tables number key fault

-- the first bad key of tables of a kind, and of others behind them
first_among : (kind : TableKind) (tables : List Members) (rest : List (TableKind × Members)) (key : List ℕ) →
    IsFirstBadKey (of_kind kind tables ++ rest) key →
    HasBadAmong kind tables key ⊎ (AllByRecursion (IsSound kind) tables × IsFirstBadKey rest key)
first_among kind [] rest key bad = inr (tt, bad)
first_among kind (table ∷ tables) rest key bad =
    ⊎_elim
    (λ least. inl (zero, key_fault kind key (get_member key table), (least, refl)))
    (λ later. ⊎_elim
    (λ among. inl (suc among.0, among.1, (later.0, among.2)))
    (λ behind. inr ((later.0, behind.0), behind.1))
    (first_among kind tables rest key later.1))
    bad

-- a bad key of this text
abbrev pub BadKeyNamed : Members → List ℕ → Type 0
BadKeyNamed file key = (bad : BadKeyShape) × IsBadKeyOf file bad × (bad.key ≡ key)

of_links : (file : Members) (key : List ℕ) → IsSound File file →
    AllByRecursion (IsSound Host) (tables_of_kind Host file) →
    IsFirstBadKey (of_kind Link (tables_of_kind Link file)) key → BadKeyNamed file key
of_links file key sound hosts bad =
    ⊎_elim
    (λ among. (record { kind = Link; number = among.0; key = key; fault = among.1 }, ((sound, hosts), among.2), refl))
    (λ none. absurd none.1)
    (first_among Link (tables_of_kind Link file) [] key
    (subst (λ (all : List (TableKind × Members)). IsFirstBadKey all key)
    (sym (append-nil (of_kind Link (tables_of_kind Link file)))) bad))

behind_file : (file : Members) (key : List ℕ) → IsSound File file →
    IsFirstBadKey (of_kind Host (tables_of_kind Host file) ++ of_kind Link (tables_of_kind Link file)) key →
    BadKeyNamed file key
behind_file file key sound bad =
    ⊎_elim
    (λ among. (record { kind = Host; number = among.0; key = key; fault = among.1 }, (sound, among.2), refl))
    (λ later. of_links file key sound later.0 later.1)
    (first_among Host (tables_of_kind Host file) (of_kind Link (tables_of_kind Link file)) key bad)

pub some_bad_key : (file : Members) (key : List ℕ) → IsFirstBadKey (file_tables file) key → BadKeyNamed file key
some_bad_key file key bad =
    ⊎_elim
    (λ least. (
      record { kind = File; number = zero; key = key; fault = key_fault File key (get_member key file) },
      (tt, (least, refl)),
      refl,
    ))
    (λ later. behind_file file key later.0 later.1)
    bad

-- it is the key for which the file is refused
pub same_key : (file : Members) (key : List ℕ) (bad : BadKeyShape) → IsFirstBadKey (file_tables file) key →
    IsBadKeyOf file bad → bad.key ≡ key
same_key file key bad first is =
    let some = some_bad_key file key first in
    ap (λ (b : BadKeyShape). b.key) (one_bad_key file bad some.0 is some.1) ∙ some.2

-- ---- sound files

sound_front : (kind : TableKind) (tables : List Members) (rest : List (TableKind × Members)) →
    AllByRecursion IsSoundAs (of_kind kind tables ++ rest) →
    AllByRecursion (IsSound kind) tables × AllByRecursion IsSoundAs rest
sound_front kind [] rest all = (tt, all)
sound_front kind (table ∷ tables) rest all =
    let more = sound_front kind tables rest all.1 in ((all.0, more.0), more.1)

-- the links are the last tables
sound_links : (file : Members) → AllByRecursion IsSoundAs (of_kind Link (tables_of_kind Link file)) →
    AllByRecursion (IsSound Link) (tables_of_kind Link file)
sound_links file all =
    (sound_front Link (tables_of_kind Link file) []
    (subst (λ (tables : List (TableKind × Members)). AllByRecursion IsSoundAs tables)
    (sym (append-nil (of_kind Link (tables_of_kind Link file)))) all)).0

-- where no key is bad there is no first bad key
none_by_kind : (file : Members) (kind : TableKind) (number : ℕ) (key : List ℕ) (fault : KeyFault) → IsSoundFile file →
    IsBadAmong kind (tables_of_kind kind file) number key fault → ⊥
none_by_kind file File number key fault sound bad =
    among_or_sound File (tables_of_kind File file) number key fault bad (sound.0, tt)
none_by_kind file Host number key fault sound bad =
    among_or_sound Host (tables_of_kind Host file) number key fault bad
    (sound_front Host (tables_of_kind Host file) (of_kind Link (tables_of_kind Link file)) sound.1).0
none_by_kind file Link number key fault sound bad =
    among_or_sound Link (tables_of_kind Link file) number key fault bad
    (sound_links file
    (sound_front Host (tables_of_kind Host file) (of_kind Link (tables_of_kind Link file)) sound.1).1)

pub sound_has_none : (file : Members) (bad : BadKeyShape) → IsSoundFile file → IsBadKeyOf file bad → ⊥
sound_has_none file bad sound is = none_by_kind file bad.kind bad.number bad.key bad.fault sound is.1
