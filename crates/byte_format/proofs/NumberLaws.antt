-- Laws of the readers of numbers.
use Rattle.std.proofs.Common.{◌≡◌, ℕ, suc, ◌+◌, ◌^◌, ◌<◌, ◌≤◌, Bool, true, false, List, [], ◌∷◌, ◌++◌, length, take}
use Rattle.std.proofs.Common.{drop, Ok, Err, refl, sym, ap, subst, ◌∙◌, arith, inl, inr}
use Rattle.std.specs.Prelude.{if◌then◌else◌, ℤ, FitsSigned, nat_lt}
use Rattle.std.specs.Int.{Width, w16, w32, w64, byte_len, from_be_bytes, to_be_bytes, cast_signed, cast_unsigned}
use Rattle.std.proofs.lemmas.Bool.{cases_lt, ltb-false, le-ltb}
use Rattle.std.proofs.lemmas.List.{take_at, drop_at, take-append-drop, length-append, length-take, get_or-drop}
use Rattle.std.proofs.lemmas.List.{get_or-take, get_or_past}
use Rattle.std.proofs.lemmas.Nat.{be_bytes_2, be_bytes_4, be_bytes_8, from_be_bytes-to_be_bytes_2}
use Rattle.std.proofs.lemmas.Nat.{from_be_bytes-to_be_bytes_4, from_be_bytes-to_be_bytes_8}
use Rattle.std.proofs.lemmas.Int.{of_z-to_z, to_z-of_z}
use Rattle.std.proofs.Math.Facts.{sfits_to_z, Fits-of_z}
use Rattle.byte_format.specs.Numbers.{AreBytes, number_bytes, word_bytes, integer_bytes}
use Rattle.byte_format.specs.Reader.{byte_at, bytes_at, number_at, integer_at}
use Rattle.byte_format.proofs.Sequels.{Taken, Reads, Again, ok_is, reads_last, again_last}

bytes_behind : (n : ℕ) (bytes : List ℕ) → AreBytes bytes → AreBytes (drop n bytes)
bytes_behind n bytes h i = rw get_or-drop (h (n + i))

bytes_before : (n : ℕ) (bytes : List ℕ) → AreBytes bytes → AreBytes (take n bytes)
bytes_before n bytes h i =
    elim (cases_lt i n) [
      | inl lt ↦ rw (get_or-take n bytes i 0 lt) (h i)
      | inr le ↦ rw (get_or_past (take n bytes) i 0 (omega (arith, length-take n bytes))) (omega arith)
    ]

-- a test that did not fail
passed : {E A : Type 0} (test : Bool) (what : E) (x y : A) → (if test then Err what else Ok x) ≡ Ok y →
    (test ≡ false) × (x ≡ y)
passed true what x y is = absurd cc
passed false what x y is = (refl, cc)

pub bytes_reads : {E : Type 0} (short : E) (count : ℕ) → Reads (bytes_at short count)
    (λ xs text. (text ≡ xs) × ((length xs ≡ count) × AreBytes xs))
unfolding bytes_at
bytes_reads short count = record {
  taken = λ bytes xs rest fits is.
      let g = passed (nat_lt (length bytes) count) short (take count bytes, drop count bytes) (xs, rest) is in
      let long : count ≤ length bytes = ltb-false _ _ g.0 in
      let front : take count bytes ≡ xs = ap (λ (p : List ℕ × List ℕ). p.0) g.1 in
      let back : drop count bytes ≡ rest = ap (λ (p : List ℕ × List ℕ). p.1) g.1 in
      record {
        text = take count bytes;
        parts = sym (take-append-drop count bytes) ∙ ap (λ r. take count bytes ++ r) back;
        left = subst AreBytes back (bytes_behind count bytes fits);
        is = (
          front,
          (
            ap length (sym front) ∙ length-take count bytes ∙ omega arith,
            subst AreBytes front (bytes_before count bytes fits),
          ),
        );
      };
}

pub bytes_again : {E : Type 0} (short : E) (xs : List ℕ) (count : ℕ) → length xs ≡ count →
    Again (bytes_at short count) xs xs
unfolding bytes_at
bytes_again short xs count len = record {
  again = λ rest.
      let long : nat_lt (length (xs ++ rest)) count ≡ false = le-ltb _ _ (omega (arith, length-append xs rest)) in
      rw (long, take_at xs rest count len, drop_at xs rest count len) refl;
}

-- ---- numbers

-- the numbers of this width, which are those below the limit, are spelled in one way
record IsWide (width : Width) (limit : ℕ) : Type 0 where
  len : (n : ℕ) → length (to_be_bytes width n) ≡ byte_len width
  back : (bytes : List ℕ) → length bytes ≡ byte_len width → AreBytes bytes →
      to_be_bytes width (from_be_bytes width bytes) ≡ bytes
  again : (n : ℕ) → n < limit → from_be_bytes width (to_be_bytes width n) ≡ n
  below : (bytes : List ℕ) → AreBytes bytes → from_be_bytes width bytes < limit

wide16 : IsWide w16 (2 ^ 16)
wide16 = record {
  len = λ n. refl;
  back = λ bytes len fits. be_bytes_2 bytes _ len fits refl;
  again = λ n lt. from_be_bytes-to_be_bytes_2 n lt;
  below = λ bytes fits. omega (arith, fits 0, fits 1);
}

wide32 : IsWide w32 (2 ^ 32)
wide32 = record {
  len = λ n. refl;
  back = λ bytes len fits. be_bytes_4 bytes _ len fits refl;
  again = λ n lt. from_be_bytes-to_be_bytes_4 n lt;
  below = λ bytes fits. omega (arith, fits 0, fits 1, fits 2, fits 3);
}

wide64 : IsWide w64 (2 ^ 64)
wide64 = record {
  len = λ n. refl;
  back = λ bytes len fits. be_bytes_8 bytes _ len fits refl;
  again = λ n lt. from_be_bytes-to_be_bytes_8 n lt;
  below = λ bytes fits. omega (arith, fits 0, fits 1, fits 2, fits 3, fits 4, fits 5, fits 6, fits 7);
}

wide_reads : {E : Type 0} (short : E) (width : Width) (limit : ℕ) → IsWide width limit →
    Reads (number_at short width) (λ n text. (text ≡ to_be_bytes width n) × (n < limit))
unfolding number_at
wide_reads short width limit wide = record {
  taken = λ bytes n rest fits is.
      let len = byte_len width in
      let g = passed (nat_lt (length bytes) len) short
      (from_be_bytes width (take len bytes), drop len bytes) (n, rest) is in
      let long : len ≤ length bytes = ltb-false _ _ g.0 in
      let number : from_be_bytes width (take len bytes) ≡ n = ap (λ (p : ℕ × List ℕ). p.0) g.1 in
      let back : drop len bytes ≡ rest = ap (λ (p : ℕ × List ℕ). p.1) g.1 in
      let few : length (take len bytes) ≡ len = length-take len bytes ∙ omega arith in
      record {
        text = take len bytes;
        parts = sym (take-append-drop len bytes) ∙ ap (λ r. take len bytes ++ r) back;
        left = subst AreBytes back (bytes_behind len bytes fits);
        is = (
          sym (wide.back (take len bytes) few (bytes_before len bytes fits)) ∙ ap (to_be_bytes width) number,
          subst (λ m. m < limit) number (wide.below (take len bytes) (bytes_before len bytes fits)),
        );
      };
}

wide_again : {E : Type 0} (short : E) (width : Width) (limit : ℕ) → IsWide width limit → (n : ℕ) → n < limit →
    Again (number_at short width) n (to_be_bytes width n)
unfolding number_at
wide_again short width limit wide n lt = record {
  again = λ rest.
      let len = wide.len n in
      let long : nat_lt (length (to_be_bytes width n ++ rest)) (byte_len width) ≡ false =
      le-ltb _ _ (omega (arith, length-append (to_be_bytes width n) rest)) in
      rw (
        long,
        take_at (to_be_bytes width n) rest (byte_len width) len,
        drop_at (to_be_bytes width n) rest (byte_len width) len,
        wide.again n lt,
      ) refl;
}

pub short_reads : {E : Type 0} (short : E) →
    Reads (number_at short w16) (λ n text. (text ≡ to_be_bytes w16 n) × (n < 2 ^ 16))
short_reads short = wide_reads short w16 (2 ^ 16) wide16

pub short_again : {E : Type 0} (short : E) (n : ℕ) → n < 2 ^ 16 → Again (number_at short w16) n (to_be_bytes w16 n)
short_again short n lt = wide_again short w16 (2 ^ 16) wide16 n lt

pub number_reads : {E : Type 0} (short : E) →
    Reads (number_at short w32) (λ n text. (text ≡ number_bytes n) × (n < 2 ^ 32))
unfolding number_bytes
number_reads short = wide_reads short w32 (2 ^ 32) wide32

pub number_again : {E : Type 0} (short : E) (n : ℕ) → n < 2 ^ 32 → Again (number_at short w32) n (number_bytes n)
unfolding number_bytes
number_again short n lt = wide_again short w32 (2 ^ 32) wide32 n lt

pub word_reads : {E : Type 0} (short : E) →
    Reads (number_at short w64) (λ n text. (text ≡ word_bytes n) × (n < 2 ^ 64))
unfolding word_bytes
word_reads short = wide_reads short w64 (2 ^ 64) wide64

pub word_again : {E : Type 0} (short : E) (n : ℕ) → n < 2 ^ 64 → Again (number_at short w64) n (word_bytes n)
unfolding word_bytes
word_again short n lt = wide_again short w64 (2 ^ 64) wide64 n lt

-- ---- bytes

first_taken : {E : Type 0} (short : E) (bytes : List ℕ) (x : ℕ) (rest : List ℕ) → AreBytes bytes →
    byte_at short bytes ≡ Ok (x, rest) → Taken bytes rest (λ text. (text ≡ x ∷ []) × (x < 256))
unfolding byte_at
first_taken short [] x rest fits is = absurd cc
first_taken short (byte ∷ bytes) x rest fits is =
    let same = ok_is (byte, bytes) (x, rest) is in
    let first : byte ≡ x = ap (λ (p : ℕ × List ℕ). p.0) same in
    let back : bytes ≡ rest = ap (λ (p : ℕ × List ℕ). p.1) same in
    record {
      text = byte ∷ [];
      parts = ap (λ r. byte ∷ r) back;
      left = subst AreBytes back (λ i. fits (suc i));
      is = (ap (λ b. b ∷ []) first, subst (λ b. b < 256) first (fits 0));
    }

pub byte_reads : {E : Type 0} (short : E) → Reads (byte_at short) (λ byte text. (text ≡ byte ∷ []) × (byte < 256))
byte_reads short = record { taken = λ bytes x rest fits is. first_taken short bytes x rest fits is }

pub byte_again : {E : Type 0} (short : E) (byte : ℕ) → Again (byte_at short) byte (byte ∷ [])
unfolding byte_at
byte_again short byte = record { again = λ rest. refl }

-- ---- signed numbers

pub integer_reads : {E : Type 0} (short : E) →
    Reads (integer_at short) (λ z text. (text ≡ integer_bytes z) × FitsSigned w64 z)
unfolding integer_at
integer_reads short = reads_last _ (word_reads short) (λ n lt. (
  ap word_bytes (sym (of_z-to_z w64 n lt)),
  sfits_to_z {w = w64} {n =
      n} (record { fits = lt }),
))

pub integer_again : {E : Type 0} (short : E) (z : ℤ) → FitsSigned w64 z → Again (integer_at short) z (integer_bytes z)
unfolding integer_at
integer_again short z fits =
    subst (λ (y : ℤ). Again (integer_at short) y (integer_bytes z)) (to_z-of_z w64 z fits)
    (again_last (cast_signed w64) (word_again short (cast_unsigned w64 z) (Fits-of_z fits).fits))
