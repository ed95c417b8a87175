-- Laws of the readers of texts, indices and flags.
use Rattle.std.proofs.Common.{◌≡◌, ℕ, zero, suc, ◌^◌, ◌<◌, Bool, true, false, List, [], ◌∷◌, ◌++◌, length, refl, sym}
use Rattle.std.proofs.Common.{ap, ◌∙◌, arith}
use Rattle.std.specs.Prelude.{nat_le, ◌==◌, ⊤}
use Rattle.std.proofs.lemmas.Bool.{ltb-true, lt-ltb, leb-true}
use Rattle.byte_format.specs.Numbers.{number_bytes}
use Rattle.byte_format.proofs.Sequels.{Reads, Again, reads_then, reads_last, reads_weaker, again_then, again_last}
use Rattle.byte_format.proofs.NumberLaws.{byte_reads, byte_again, bytes_reads, bytes_again, number_reads, number_again}
use Rattle.split_file.specs.Spelling.{text_bytes, flag_bytes}
use Rattle.split_file.specs.Reader.{text_at}
use Rattle.split_file.specs.Reading.{flag_at, index_at}
use Rattle.split_file.proofs.Sequels.{reads_in_range, again_in_range}

pub text_reads : Reads text_at (λ text bytes. (bytes ≡ text_bytes text) × (length text < 2 ^ 32))
unfolding text_at
text_reads = reads_then (number_reads _) (λ count lt. reads_weaker (bytes_reads _ count) (λ text bytes is. (
  ap (λ b. number_bytes count ++ b) is.0 ∙ ap (λ n. number_bytes n ++ text) (sym is.1.0),
  omega (arith, is.1.0),
)))

pub text_again : (text : List ℕ) → length text < 2 ^ 32 → Again text_at text (text_bytes text)
unfolding text_at
text_again text lt = again_then _ (number_again _ (length text) lt) (bytes_again _ text (length text) refl)

pub index_reads : (count : ℕ) → Reads (index_at count) (λ n text. (text ≡ number_bytes n) × (n < count))
unfolding index_at
index_reads count = reads_weaker (reads_in_range (number_reads _)) (λ n text is. (is.0, ltb-true _ _ is.1.1))

pub index_again : (count n : ℕ) → count < 2 ^ 32 → n < count → Again (index_at count) n (number_bytes n)
unfolding index_at
index_again count n few lt = again_in_range _ (lt-ltb n count lt) (number_again _ n (omega arith))

flag_is : (byte : ℕ) → nat_le byte 1 ≡ true → byte ∷ [] ≡ flag_bytes (byte == 1)
flag_is zero few = refl
flag_is (suc zero) few = refl
flag_is (suc (suc byte)) few = absurd (omega (arith, leb-true _ _ few))

pub flag_reads : Reads flag_at (λ flag text. (text ≡ flag_bytes flag) × ⊤)
unfolding flag_at
flag_reads = reads_last _ (reads_in_range (byte_reads _)) (λ byte is. (flag_is byte is.1, tt))

pub flag_again : (flag : Bool) → Again flag_at flag (flag_bytes flag)
unfolding flag_at
flag_again false = again_last (λ byte. byte == 1) (again_in_range _ refl (byte_again _ 0))
flag_again true = again_last (λ byte. byte == 1) (again_in_range _ refl (byte_again _ 1))
