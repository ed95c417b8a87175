-- Laws of readers in a row, of which some read a place: what is read is spelled so, and what is spelled so is read
-- again.
use Rattle.std.proofs.Common.{◌≡◌, ℕ, Bool, true, false, List, [], ◌++◌, Ok, refl, ap, ◌∙◌, append_assoc, subst}
use Rattle.std.specs.Prelude.{⊤}
use Rattle.std.proofs.lemmas.List.{append-nil}
use Rattle.byte_format.specs.Numbers.{AreBytes}
use Rattle.byte_format.specs.Reader.{handed_on, sequel, given, require}
use Rattle.byte_format.proofs.Sequels.{Reads, Again, ok_is, reads_then, reads_given, reads_require, again_then}
use Rattle.byte_format.proofs.Sequels.{again_given, again_require}
use Rattle.split_file.specs.declared.fault.Fault.{Fault}
use Rattle.split_file.specs.declared.fault.Fault.TheVariants as fault
use Rattle.split_file.specs.Reader.{SplitReader, place, in_range}

-- ---- what is read

pub reads_place : {B : Type 0} {next : ℕ → SplitReader B} {Q : B → List ℕ → Type 0} → ((at : ℕ) → Reads (next at) Q) →
    Reads (sequel place next) Q
unfolding sequel place
reads_place others = record { taken = λ bytes y rest fits is. (others _).taken bytes y rest fits is }

pub reads_in_range : {A : Type 0} {test : A → Bool} {item : SplitReader A} {s : A → List ℕ} {P : A → Type 0} →
    Reads item (λ x text. (text ≡ s x) × P x) →
    Reads (in_range test item) (λ x text. (text ≡ s x) × (P x × (test x ≡ true)))
unfolding in_range
reads_in_range {s = s} one =
    reads_place (λ at. reads_then one (λ x is. reads_require _
    (λ passes. reads_given x (append-nil (s x), (is, passes)))))

-- ---- what is read again

pub again_place : {B : Type 0} {next : ℕ → SplitReader B} {y : B} {text : List ℕ} →
    ((at : ℕ) → Again (next at) y text) →
    Again (sequel place next) y text
unfolding sequel place
again_place others = record { again = λ rest. (others _).again rest }

pub again_in_range : {A : Type 0} (test : A → Bool) {item : SplitReader A} {x : A} {text : List ℕ} → test x ≡ true →
    Again item x text → Again (in_range test item) x text
unfolding in_range
again_in_range test {item = item} {x = x} {text = text} passes one =
    let inner : (at : ℕ) → Again (sequel item (λ y. sequel (require (test y) (fault.BadField at)) (λ _. given y))) x
    text =
    λ at. subst (λ t. Again (sequel item (λ y. sequel (require (test y) (fault.BadField at)) (λ _. given y))) x t)
    (append-nil text)
    (again_then (λ y. sequel (require (test y) (fault.BadField at)) (λ _. given y)) one
    (again_require (fault.BadField at) passes (again_given x))) in
    again_place inner

-- ---- what is read again but for places

-- the bytes are read as some such value, and what follows them is left
pub record AgainSome {A : Type 0} (reader : SplitReader A) (P : A → Type 0) (text : List ℕ) : Type 0 where
  pub again : (rest : List ℕ) → (x : A) × (reader (text ++ rest) ≡ Ok (x, rest)) × P x

pub some_same : {A : Type 0} {reader : SplitReader A} {x : A} {text : List ℕ} (P : A → Type 0) → Again reader x text →
    P x →
    AgainSome reader P text
some_same {x = x} P one is = record { again = λ rest. (x, one.again rest, is) }

pub some_then : {A B : Type 0} {first : SplitReader A} (next : A → SplitReader B) {x : A} {P : B → Type 0}
    {text more : List ℕ} →
    Again first x text → AgainSome (next x) P more → AgainSome (sequel first next) P (text ++ more)
unfolding sequel
some_then {first = first} next {text = text} {more = more} one other = record {
  again = λ rest.
      let found = other.again rest in (
        found.0,
        ap (λ bytes. handed_on (first bytes) next) (append_assoc text more rest)
            ∙ ap (λ reading. handed_on reading next) (one.again (more ++ rest)) ∙ found.1,
        found.2,
      );
}

pub some_place : {B : Type 0} {next : ℕ → SplitReader B} {P : B → Type 0} {text : List ℕ} →
    ((at : ℕ) → AgainSome (next at) P text) → AgainSome (sequel place next) P text
unfolding sequel place
some_place others = record { again = λ rest. (others _).again rest }

pub some_some : {A B : Type 0} {first : SplitReader A} {next : A → SplitReader B} {P : A → Type 0} {Q : B → Type 0}
    {text more : List ℕ} → AgainSome first P text → ((x : A) → P x → AgainSome (next x) Q more) →
    AgainSome (sequel first next) Q (text ++ more)
unfolding sequel
some_some {first = first} {next = next} {text = text} {more = more} one others = record {
  again = λ rest.
      let front = one.again (more ++ rest) in
      let found = (others front.0 front.2).again rest in (
        found.0,
        ap (λ bytes. handed_on (first bytes) next) (append_assoc text more rest)
            ∙ ap (λ reading. handed_on reading next) front.1 ∙ found.1,
        found.2,
      );
}

-- ---- tests that end a row

tested : (test : Bool) (what : Fault) (x : ⊤) (bytes rest : List ℕ) → require test what bytes ≡ Ok (x, rest) →
    (test ≡ true) × (bytes ≡ rest)
unfolding require
tested true what x bytes rest is =
    let same = ok_is (tt, bytes) (x, rest) is in
    (refl, ap (λ (p : ⊤ × List ℕ). p.1) same)
tested false what x bytes rest is = absurd cc

pub require_reads : (test : Bool) (what : Fault) → Reads (require test what) (λ _ text. (text ≡ []) × (test ≡ true))
require_reads test what = record {
  taken = λ bytes x rest fits is.
      let parts = tested test what x bytes rest is in
      record { text = []; parts = parts.1; left = subst AreBytes parts.1 fits; is = (refl, parts.0) };
}

pub require_again : (test : Bool) (what : Fault) → test ≡ true → Again (require test what) tt []
unfolding require
require_again true what passes = record { again = λ rest. refl }
require_again false what passes = absurd cc
