-- Laws of readers in a row: what is read is spelled so, and what is spelled so is read again.
use Rattle.std.proofs.Common.{◌≡◌, ℕ, Bool, true, false, List, [], ◌++◌, Result, Ok, Err, refl, sym, ap, ◌∙◌}
use Rattle.std.proofs.Common.{append_assoc, subst}
use Rattle.std.specs.Prelude.{if◌then◌else◌}
use Rattle.std.proofs.lemmas.List.{append-nil}
use Rattle.byte_format.specs.Numbers.{AreBytes}
use Rattle.byte_format.specs.Reader.{Reader, handed_on, sequel, given, refused, require}

-- ---- what is read

-- what was taken from the front of bytes
pub record Taken (bytes rest : List ℕ) (P : List ℕ → Type 0) : Type 0 where
  pub text : List ℕ
  pub parts : bytes ≡ text ++ rest
  pub left : AreBytes rest
  pub is : P text

-- what a reader reads has this relation to the bytes that it takes
pub record Reads {E A : Type 0} (reader : Reader E A) (P : A → List ℕ → Type 0) : Type 0 where
  pub taken : (bytes : List ℕ) (x : A) (rest : List ℕ) → AreBytes bytes → reader bytes ≡ Ok (x, rest) →
      Taken bytes rest (P x)

pub handed : {E A B : Type 0} (reading : Result (A × List ℕ) E) (next : A → Reader E B) (y : B) (rest : List ℕ) →
    handed_on reading next ≡ Ok (y, rest) →
    (x : A) × (middle : List ℕ) × (reading ≡ Ok (x, middle)) × (next x middle ≡ Ok (y, rest))
handed (Ok x) next y rest is = (x.0, x.1, refl, is)
handed (Err what) next y rest is = absurd cc

abbrev pub read_as : {E A : Type 0} → A → Result A E
read_as x = Ok x

pub ok_is : {E A : Type 0} (x y : A) → read_as {E = E} x ≡ read_as y → x ≡ y
ok_is x y is = cc

given_is : {E A : Type 0} (x y : A) (bytes rest : List ℕ) → given {E = E} x bytes ≡ Ok (y, rest) →
    (x ≡ y) × (bytes ≡ rest)
unfolding given
given_is {A = A} x y bytes rest is =
    let same = ok_is (x, bytes) (y, rest) is in
    (ap (λ (p : A × List ℕ). p.0) same, ap (λ (p : A × List ℕ). p.1) same)

pub reads_then : {E A B : Type 0} {first : Reader E A} {next : A → Reader E B} {s : A → List ℕ} {P : A → Type 0}
    {Q : B → List ℕ → Type 0} → Reads first (λ x text. (text ≡ s x) × P x) →
    ((x : A) → P x → Reads (next x) (λ y more. Q y (s x ++ more))) → Reads (sequel first next) Q
unfolding sequel
reads_then {first = first} {next = next} {s = s} {Q = Q} one others = record {
  taken = λ bytes y rest fits is.
      let parts = handed (first bytes) next y rest is in
      let front = one.taken bytes parts.0 parts.1 fits parts.2 in
      let back = (others parts.0 front.is.1).taken parts.1 y rest front.left parts.3 in
      record {
        text = s parts.0 ++ back.text;
        parts = front.parts ∙ ap (λ t. t ++ parts.1) front.is.0 ∙ ap (λ m. s parts.0 ++ m) back.parts
            ∙ sym (append_assoc (s parts.0) back.text rest);
        left = back.left;
        is = back.is;
      };
}

pub reads_given : {E A : Type 0} (x : A) {Q : A → List ℕ → Type 0} → Q x [] → Reads {E = E} (given x) Q
reads_given {E = E} {A = A} x {Q = Q} is = record {
  taken = λ bytes y rest fits same.
      let parts = given_is {E = E} x y bytes rest same in
      let P : A → Type 0 = λ z. Q z [] in
      record {
        text = [];
        parts = parts.1;
        left = subst AreBytes parts.1 fits;
        is = subst P parts.0 is;
      };
}

pub reads_weaker : {E A : Type 0} {reader : Reader E A} {P Q : A → List ℕ → Type 0} → Reads reader P →
    ((x : A) (text : List ℕ) → P x text → Q x text) → Reads reader Q
reads_weaker one then_is = record {
  taken = λ bytes x rest fits is.
      let front = one.taken bytes x rest fits is in
      record { text = front.text; parts = front.parts; left = front.left; is = then_is x front.text front.is };
}

-- the last reader of a row
pub reads_last : {E A B : Type 0} {first : Reader E A} (f : A → B) {s : A → List ℕ} {P : A → Type 0}
    {Q : B → List ℕ → Type 0} → Reads first (λ x text. (text ≡ s x) × P x) → ((x : A) → P x → Q (f x) (s x)) →
    Reads (sequel first (λ x. given (f x))) Q
reads_last f {s = s} {Q = Q} one then_is =
    reads_then one (λ x is. reads_given (f x) (subst (λ t. Q (f x) t) (sym (append-nil (s x))) (then_is x is)))

required : {E B : Type 0} (test : Bool) (what : E) (next : Reader E B) (y : B) (bytes rest : List ℕ) →
    handed_on (require test what bytes) (λ _. next) ≡ Ok (y, rest) → (test ≡ true) × (next bytes ≡ Ok (y, rest))
unfolding require
required true what next y bytes rest is = (refl, is)
required false what next y bytes rest is = absurd cc

pub reads_require : {E B : Type 0} {test : Bool} (what : E) {next : Reader E B} {Q : B → List ℕ → Type 0} →
    (test ≡ true → Reads next Q) → Reads (sequel (require test what) (λ _. next)) Q
unfolding sequel
reads_require {test = test} what {next = next} others = record {
  taken = λ bytes y rest fits is.
      let parts = required test what next y bytes rest is in
      (others parts.0).taken bytes y rest fits parts.1;
}

pub reads_refused : {E A : Type 0} (what : E) {Q : A → List ℕ → Type 0} → Reads (refused what) Q
unfolding refused
reads_refused what = record { taken = λ bytes x rest fits is. absurd cc }

pub reads_if : {E A : Type 0} {one other : Reader E A} {Q : A → List ℕ → Type 0} (test : Bool) →
    (test ≡ true → Reads one Q) → (test ≡ false → Reads other Q) → Reads (if test then one else other) Q
reads_if true yes' no' = yes' refl
reads_if false yes' no' = no' refl

-- ---- what is read again

-- the bytes of a value are read as it, and what follows them is left
pub record Again {E A : Type 0} (reader : Reader E A) (x : A) (text : List ℕ) : Type 0 where
  pub again : (rest : List ℕ) → reader (text ++ rest) ≡ Ok (x, rest)

pub again_then : {E A B : Type 0} {first : Reader E A} (next : A → Reader E B) {x : A} {y : B} {text more : List ℕ} →
    Again first x text → Again (next x) y more → Again (sequel first next) y (text ++ more)
unfolding sequel
again_then {first = first} next {text = text} {more = more} one other = record {
  again = λ rest.
      ap (λ bytes. handed_on (first bytes) next) (append_assoc text more rest)
      ∙ ap (λ reading. handed_on reading next) (one.again (more ++ rest)) ∙ other.again rest;
}

pub again_given : {E A : Type 0} (x : A) → Again {E = E} (given x) x []
unfolding given
again_given x = record { again = λ rest. refl }

pub again_last : {E A B : Type 0} {first : Reader E A} (f : A → B) {x : A} {text : List ℕ} → Again first x text →
    Again (sequel first (λ y. given (f y))) (f x) text
unfolding sequel given
again_last f one = record { again = λ rest. ap (λ reading. handed_on reading (λ y. given (f y))) (one.again rest) }

pub again_require : {E B : Type 0} {test : Bool} (what : E) {next : Reader E B} {y : B} {text : List ℕ} →
    test ≡ true → Again next y text → Again (sequel (require test what) (λ _. next)) y text
unfolding sequel require
again_require what {next = next} {text = text} passes other = record {
  again = λ rest. ap (λ t. handed_on (require t what (text ++ rest)) (λ _. next)) passes ∙ other.again rest;
}
