-- What each name is made of.
use Rattle.std.proofs.Common.{◌≡◌, ℕ, ◌<◌, Bool, true, false, ◌&&◌, ◌||◌, not, refl, List, [], ◌∷◌, ap, ◌∙◌, arith}
use Rattle.std.specs.Prelude.{Contains}
use Rattle.std.specs.List.{list_all, list_any}
use Rattle.std.specs.Str.{IsUtf8, bytes_eq}
use Rattle.std.proofs.lemmas.Str.{IsUtf8-from_ascii}
use Rattle.std.proofs.lemmas.Bool.{both_ways}
use Rattle.std.proofs.lemmas.Bool.Decides.{nat_tests}
use Rattle.std.proofs.lemmas.List.Folds.{list_all_at}
use Rattle.js_base.specs.Name.{IsName, starts_name, continues_name, keywords}
use Rattle.js_base.proofs.Texts.{list_ascii}
use Rattle.std.specs.Char.{is_ascii_digit}

shape_alone : (first other rest plain : Bool) → (first && rest && plain) ≡ true → ((first || other) && rest) ≡ true
shape_alone true other true plain is = refl
shape_alone true other false plain is = is
shape_alone false other rest plain is = cc

pub all_continue : (text : List ℕ) → IsName text → list_all continues_name text ≡ true
all_continue [] is = cc
all_continue (byte ∷ bytes) is =
    shape_alone (starts_name byte) (is_ascii_digit byte) (list_all continues_name bytes)
    (not (list_any (bytes_eq (byte ∷ bytes)) keywords)) is

-- a name holds no byte that continues no name
pub name_lacks : (byte : ℕ) (text : List ℕ) → continues_name byte ≡ false → IsName text → ¬ Contains text byte
name_lacks byte text stops is found =
    both_ways _ (list_all_at continues_name text found.0 byte found.1 (ap continues_name found.2 ∙ stops))
    (all_continue text is)

continues_ascii : (byte : ℕ) → continues_name byte ≡ true → byte < 128
continues_ascii byte is = grind (arith, nat_tests)

-- a name is a text
pub name_IsUtf8 : (text : List ℕ) → IsName text → IsUtf8 text
name_IsUtf8 text is = IsUtf8-from_ascii text (list_ascii continues_name continues_ascii text (all_continue text is))
