-- Lists of files that tell what they hold or do not: all are held, with these bytes, or one is the first that is absent.
use Rattle.std.proofs.Common.{◌≡◌, ◌⊎◌, ◌∙◌, ℕ, suc, List, [], ◌∷◌, Option, Some, None, refl, ap, inl, inr}
use Rattle.std.specs.List.{AllByRecursion, AllZip}
use Rattle.front_end.specs.Loads.{IsFirstAbsent, IsHeld, Told}
use Rattle.front_end.proofs.AbsentFiles.{held_once, told_held}

-- what the files hold, where they tell
abbrev pub Held : Type 0
Held = Option (List ℕ → Option (List ℕ))

-- there are bytes for each of the files
abbrev pub AreHeld : Held → (files bytes : List (List ℕ)) → Type 0
AreHeld held files bytes = AllZip (λ file content. Told held file (Some content)) files bytes

-- ---- files that tell

-- files that tell hold some bytes
pub all_once : (holds : List ℕ → Option (List ℕ)) (names bytes others : List (List ℕ)) →
    AllZip (λ file content. Told (Some holds) file (Some content)) names bytes →
    AllZip (λ file content. Told (Some holds) file (Some content)) names others → bytes ≡ others
all_once holds [] [] [] one two = refl
all_once holds [] [] (o ∷ others) one two = absurd two
all_once holds [] (b ∷ bytes) others one two = absurd one
all_once holds (n ∷ names) [] others one two = absurd one
all_once holds (n ∷ names) (b ∷ bytes) [] one two = absurd two
all_once holds (n ∷ names) (b ∷ bytes) (o ∷ others) one two =
    ap (λ x. x ∷ bytes) (held_once holds n b o one.0 two.0)
    ∙ ap (λ xs. o ∷ xs) (all_once holds names bytes others one.1 two.1)

-- where all files are held, each is
pub all_held : (holds : List ℕ → Option (List ℕ)) (names bytes : List (List ℕ)) →
    AllZip (λ file content. Told (Some holds) file (Some content)) names bytes →
    AllByRecursion (IsHeld (Some holds)) names
all_held holds [] bytes told = tt
all_held holds (n ∷ names) [] told = absurd told
all_held holds (n ∷ names) (b ∷ bytes) told =
    (told_held holds n b told.0, all_held holds names bytes told.1)

-- ---- files of which one may be absent

abbrev pub AnAbsent : Held → List (List ℕ) → Type 0
AnAbsent held files = (place : ℕ) × (file : List ℕ) × IsFirstAbsent held files place file

abbrev pub AllTheirBytes : Held → List (List ℕ) → Type 0
AllTheirBytes held files = (bytes : List (List ℕ)) × AreHeld held files bytes

-- a first file, and others
first_told : (holds : List ℕ → Option (List ℕ)) (first : List ℕ) (files : List (List ℕ)) (found : Option (List ℕ)) →
    holds first ≡ found → AnAbsent (Some holds) files ⊎ AllTheirBytes (Some holds) files →
    AnAbsent (Some holds) (first ∷ files) ⊎ AllTheirBytes (Some holds) (first ∷ files)
first_told holds first files None is others =
    inl (0, first, record { here = refl; absent = is; before = tt })
first_told holds first files (Some bytes) is (inl (place, file, lacks)) =
    inl (
      suc place,
      file,
      record {
        here = lacks.here;
        absent = lacks.absent;
        before = (told_held holds first bytes is, lacks.before);
      },
    )
first_told holds first files (Some bytes) is (inr (others, held)) = inr (bytes ∷ others, (is, held))

files_told : (holds : List ℕ → Option (List ℕ)) (files : List (List ℕ)) →
    AnAbsent (Some holds) files ⊎ AllTheirBytes (Some holds) files
files_told holds [] = inr ([], tt)
files_told holds (first ∷ files) = first_told holds first files (holds first) refl (files_told holds files)

-- files that do not tell may hold nothing but empty texts
none_told : (files : List (List ℕ)) → AllTheirBytes None files
none_told [] = ([], tt)
none_told (first ∷ files) = let others = none_told files in ([] ∷ others.0, (tt, others.1))

pub any_told : (held : Held) (files : List (List ℕ)) → AnAbsent held files ⊎ AllTheirBytes held files
any_told None files = inr (none_told files)
any_told (Some holds) files = files_told holds files
