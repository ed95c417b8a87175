-- Items that are not read, where memory may have run out.
use Rattle.std.proofs.Common.{◌≡◌, ℕ, ◌-◌, ◌<◌, false, List, [], ◌∷◌, ◌++◌, Result, refl}
use Rattle.byte_format.specs.Reader.{handed_on, items_at}
use Rattle.byte_format.proofs.Items.{items_refused}
use Rattle.split_file.specs.declared.fault.Fault.{Fault}
use Rattle.split_file.specs.declared.fault.ReadError.{ReadError}
use Rattle.split_file.specs.declared.fault.ReadError.TheVariants as error
use Rattle.split_file.specs.Reader.{SplitReader, ReadFails}
use Rattle.split_file.specs.Reading.{is_empty}

-- an item that is not read
pub items_fail : {A : Type 0} (item : List A → SplitReader A) (before : List A) (count i : ℕ) (e : ReadError)
    (bytes : List ℕ) (total : Result (List A × List ℕ) Fault) → i < count → ReadFails e (item before bytes) →
    items_at item before (count - i) bytes ≡ total → ReadFails e total
items_fail item before count i error.OutOfMemory bytes total lt fails so_far = tt
items_fail item before count i (error.Fault what) bytes total lt fails so_far =
    items_refused item before count i what bytes total lt fails so_far

-- what fails is not read on
pub fails_on : {A B : Type 0} (e : ReadError) (reading : Result (A × List ℕ) Fault) (next : A → SplitReader B) →
    ReadFails e reading → ReadFails e (handed_on reading next)
fails_on error.OutOfMemory reading next fails = tt
fails_on (error.Fault what) reading next fails = rw fails refl

pub some_pushed : {A : Type 0} (xs : List A) (x : A) → is_empty (xs ++ x ∷ []) ≡ false
some_pushed [] x = refl
some_pushed (y ∷ xs) x = refl
