-- When two tokens are the same one.
use Rattle.std.proofs.Common.{◌≡◌, ℕ, true, List, refl, ap, sym}
use Rattle.std.proofs.lemmas.Slice.Eq.{bytes_eq-Decides}
use Rattle.capability.specs.declared.token.Token.{Token}
use Rattle.token_laws.proofs.Held.{IsOf, IsOnly}
use Rattle.token_laws.proofs.Tests.{some_true, parts_same, both, number_same, itself, one_at_most}
use Rattle.token_laws.proofs.Worth.{is_token, one_of}

abbrev made : ℕ → ℕ → ℕ → ℕ → ℕ → List ℕ → Token
made host site count entry serial tag =
    record {
      host = record { 0 = host };
      frame = record { site = record { 0 = site }; count = count };
      entry = record { 0 = entry };
      serial = serial;
      tag = tag;
    }

token_same : (one other : Token) → is_token one other ≡ true → one ≡ other
token_same one other is =
    let halves = parts_same _ _ is in
    let first = parts_same _ _ halves.0 in
    let frame = parts_same _ _ first.1 in
    let second = parts_same _ _ halves.1 in
    let third = parts_same _ _ second.0 in
    let host = number_same one.host.0 other.host.0 first.0 in
    let site = number_same one.frame.site.0 other.frame.site.0 frame.0 in
    let count = number_same one.frame.count other.frame.count frame.1 in
    let entry = number_same one.entry.0 other.entry.0 third.0 in
    let serial = number_same one.serial other.serial third.1 in
    let tag : one.tag ≡ other.tag = (bytes_eq-Decides one.tag other.tag).0 second.1 in
    let all : made one.host.0 one.frame.site.0 one.frame.count one.entry.0 one.serial one.tag
    ≡ made other.host.0 other.frame.site.0 other.frame.count other.entry.0 other.serial other.tag = cc in
    all

pub token_itself : (token : Token) → is_token token token ≡ true
token_itself token =
    both _ _
    (both _ _ (itself token.host.0) (both _ _ (itself token.frame.site.0) (itself token.frame.count)))
    (both _ _ (both _ _ (itself token.entry.0) (itself token.serial)) ((bytes_eq-Decides token.tag token.tag).1 refl))

pub only_one : (token : Token) → IsOf (one_of token) token
only_one token other = (
  one_at_most (is_token token other),
  λ more. sym (token_same token other (some_true (is_token token other) more)),
)

pub only_serial : (token : Token) → IsOnly (one_of token) token.host token.entry token.serial
only_serial token other more =
    let same : other ≡ token = (only_one token other).1 more in (
      ap (λ (t : Token). t.host) same,
      ap (λ (t : Token). t.entry) same,
      ap (λ (t : Token). t.serial) same,
    )
