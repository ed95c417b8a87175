-- Texts that a refusal may hold.
use Rattle.std.proofs.Common.{◌≡◌, ℕ, ◌<◌, ◌≤◌, ◌^◌, List, [], length, String, Global, Vec, string_bytes, IsUtf8, refl}
use Rattle.std.proofs.Common.{arith}
use Rattle.std.proofs.lemmas.Str.{IsUtf8-nil}
use Rattle.js_base.specs.declared.limits.TheConstants.{HOSTS_BYTES}
use denote.RawPtr.{null_ptr}

-- a text of at most so many bytes
abbrev pub IsText : ℕ → List ℕ → Type 0
IsText most text = IsUtf8 text × (length text ≤ most)

pub no_text : (most : ℕ) → IsText most []
no_text most = (IsUtf8-nil, omega arith)

a_vec : (bytes : List ℕ) → length bytes < 2 ^ 63 → Vec ℕ Global
a_vec bytes short = record {
  ptr = null_ptr;
  len = length bytes;
  cap = length bytes;
  alloc = record { memory = record { seal = tt } };
  items = bytes;
  ok = (refl, omega arith);
  small = short;
}

-- some owned text has these bytes
pub owned : (text : List ℕ) → IsText HOSTS_BYTES text → (s : String Global) × (string_bytes s ≡ text)
unfolding a_vec
owned text is = (record { bytes = a_vec text (omega (arith, is.1)); ok = ∣ is.0 ∣₁ }, refl)
