-- Laws of what is read to the end, and of what was read of other bytes.
use Rattle.std.proofs.Common.{◌≡◌, ℕ, List, [], ◌∷◌, Result, Ok, Err, refl, sym, ap, ◌∙◌, subst}
use Rattle.std.proofs.lemmas.List.{append-nil}
use Rattle.byte_format.specs.Numbers.{AreBytes}
use Rattle.byte_format.proofs.Sequels.{Reads, Again, read_as, ok_is}
use Rattle.wire_msg.specs.declared.error.WireError.{WireError}
use Rattle.wire_msg.specs.Reader.{WireReader, known, ended, to_the_end, whole}

-- ---- to the end

ended_is : {A : Type 0} (x y : A) (bytes : List ℕ) → ended x bytes ≡ Ok y → (x ≡ y) × (bytes ≡ [])
ended_is x y [] is = (ok_is x y is, refl)
ended_is x y (byte ∷ bytes) is = absurd cc

ended_all : {A : Type 0} (reading : Result (A × List ℕ) WireError) (x : A) → to_the_end reading ≡ Ok x →
    reading ≡ Ok (x, [])
ended_all (Ok p) x is =
    let parts = ended_is p.0 x p.1 is in
    rw (sym parts.0, sym parts.1) refl
ended_all (Err what) x is = absurd cc

-- all of the bytes are those of the value
pub whole_reads : {A : Type 0} {reader : WireReader A} {s : A → List ℕ} {P : A → Type 0} →
    Reads reader (λ x text. (text ≡ s x) × P x) → (bytes : List ℕ) (x : A) → AreBytes bytes →
    whole reader bytes ≡ Ok x → (bytes ≡ s x) × P x
unfolding whole
whole_reads {reader = reader} one bytes x fits is =
    let front = one.taken bytes x [] fits (ended_all (reader bytes) x is) in
    (front.parts ∙ append-nil front.text ∙ front.is.0, front.is.1)

pub whole_again : {A : Type 0} {reader : WireReader A} {x : A} {text : List ℕ} → Again reader x text →
    whole reader text ≡ Ok x
unfolding whole
whole_again {reader = reader} {text = text} one =
    ap (λ bytes. to_the_end (reader bytes)) (sym (append-nil text)) ∙ ap to_the_end (one.again [])

-- what was read of other bytes
pub reads_known : {A : Type 0} (reading : Result A WireError) {Q : A → List ℕ → Type 0} →
    ((x : A) → reading ≡ Ok x → Q x []) → Reads (known reading) Q
unfolding known
reads_known {A = A} (Ok x) {Q = Q} others = record {
  taken = λ bytes y rest fits same.
      let both = ok_is (x, bytes) (y, rest) same in
      let value : x ≡ y = ap (λ (p : A × List ℕ). p.0) both in
      let left : bytes ≡ rest = ap (λ (p : A × List ℕ). p.1) both in
      record {
        text = [];
        parts = left;
        left = subst AreBytes left fits;
        is = others y (ap read_as value);
      };
}
reads_known (Err what) others = record { taken = λ bytes y rest fits same. absurd cc }

pub again_known : {A : Type 0} {reading : Result A WireError} {x : A} → reading ≡ Ok x → Again (known reading) x []
unfolding known
again_known is = record { again = λ rest. ap (λ reading. known reading rest) is }
