-- Words of hosts, host by host.
use Rattle.std.proofs.Common.{◌≡◌, ◌≢◌, ℕ, zero, suc, ◌<◌, ◌^◌, ◌↔◌, ◌∙◌, List, [], ◌∷◌, ◌++◌, Some, None, Option}
use Rattle.std.proofs.Common.{length, slice_get, get_or, take, ◌+◌, ◌≤◌, refl, sym, ap, subst, arith, inl, inr}
use Rattle.std.specs.Option.{IsSomeAnd}
use Rattle.std.specs.Int.{bit_at}
use Rattle.std.proofs.lemmas.Bool.{cases_lt, cases_eq}
use Rattle.std.proofs.lemmas.Option.{slice_get_past}
use Rattle.std.proofs.lemmas.List.{length-append, length-take, take_more, take_all}
use Rattle.std.proofs.lemmas.Nat.Bits.{bit_at-zero}
use Rattle.js_base.specs.declared.limits.TheConstants.{HOSTS}
use Rattle.host_decl.specs.Hosts.{HostShape}
use Rattle.place_rules.specs.PlaceRules.{IsWordOf}

-- ---- one more element at the end of a list

at_earlier : {X : Type 0} (xs : List X) (x : X) (n : ℕ) → n < length xs → slice_get (xs ++ x ∷ []) n ≡ slice_get xs n
at_earlier [] x n lt = absurd (omega arith)
at_earlier (y ∷ ys) x zero lt = refl
at_earlier (y ∷ ys) x (suc n) lt = at_earlier ys x n (omega arith)

at_last : {X : Type 0} (xs : List X) (x : X) → slice_get (xs ++ x ∷ []) (length xs) ≡ Some x
at_last [] x = refl
at_last (y ∷ ys) x = at_last ys x

at_later : {X : Type 0} (xs : List X) (x : X) (n : ℕ) → length xs < n → slice_get (xs ++ x ∷ []) n ≡ None
at_later xs x n lt = slice_get_past (xs ++ x ∷ []) n (rw length-append (omega arith))

-- ---- the word of some hosts, and of one host more

pub word_none : (may : HostShape → Type 0) → IsWordOf may [] 0
word_none may = record {
  fits = omega arith;
  members = λ number. (
    λ set. absurd (let clear = bit_at-zero number in cc),
    λ held. absurd held,
  );
}

-- at a place where one more host changes nothing
at_other : (hosts : List HostShape) (host : HostShape) (number : ℕ) → number ≢ length hosts →
    slice_get (hosts ++ host ∷ []) number ≡ slice_get hosts number
at_other hosts host number other = elim (cases_lt number (length hosts)) [
  | inl within ↦ at_earlier hosts host number within
  | inr past ↦ at_later hosts host number (omega arith) ∙ sym (slice_get_past hosts number past)
]

moved : (may : HostShape → Type 0) (here there : Option HostShape) (bit old : ℕ) → bit ≡ old → here ≡ there →
    ((old ≡ 1) ↔ IsSomeAnd there may) → ((bit ≡ 1) ↔ IsSomeAnd here may)
moved may here there bit old same at members =
    let P : Option HostShape → Type 0 = λ one. IsSomeAnd one may in (
      λ set. subst P (sym at) (members.0 (sym same ∙ set)),
      λ held. same ∙ members.1 (subst P at held),
    )

none_there : (may : HostShape → Type 0) (hosts : List HostShape) → ¬ IsSomeAnd (slice_get hosts (length hosts)) may
none_there may hosts held =
    let P : Option HostShape → Type 0 = λ one. IsSomeAnd one may in
    subst P (slice_get_past hosts (length hosts) (omega arith)) held

-- one more host, who may hold it
pub word_more : (may : HostShape → Type 0) (hosts : List HostShape) (host : HostShape) (word next : ℕ) →
    IsWordOf may hosts word → next < 2 ^ HOSTS → bit_at next (length hosts) ≡ 1 →
    ((other : ℕ) → other ≢ length hosts → bit_at next other ≡ bit_at word other) → may host →
    IsWordOf may (hosts ++ host ∷ []) next
word_more may hosts host word next found fits set others holds = record {
  fits = fits;
  members = λ number. elim (cases_eq number (length hosts)) [
    | inl same ↦ moved may _ (Some host) _ 1 (ap (bit_at next) same ∙ set)
        (ap (slice_get (hosts ++ host ∷ [])) same ∙ at_last hosts host) (λ _. holds, λ _. refl)
    | inr other ↦ moved may _ _ _ _ (others number other) (at_other hosts host number other) (found.members number)
  ];
}

-- one more host, who may not hold it
pub word_kept : (may : HostShape → Type 0) (hosts : List HostShape) (host : HostShape) (word : ℕ) →
    IsWordOf may hosts word → ¬ may host → IsWordOf may (hosts ++ host ∷ []) word
word_kept may hosts host word found not = record {
  fits = found.fits;
  members = λ number. elim (cases_eq number (length hosts)) [
    | inl same ↦ moved may _ (Some host) _ (bit_at word (length hosts)) (ap (bit_at word) same)
        (ap (slice_get (hosts ++ host ∷ [])) same ∙ at_last hosts host) (
          λ set. absurd (none_there may hosts ((found.members (length hosts)).0 set)),
          λ holds. absurd (not holds),
        )
    | inr other ↦ moved may _ _ _ _ refl (at_other hosts host number other) (found.members number)
  ];
}

-- ---- the same over the front of a list

front_more : (hosts : List HostShape) (place : ℕ) (host : HostShape) → place < length hosts →
    host ≡ get_or hosts place host → take (place + 1) hosts ≡ take place hosts ++ host ∷ []
front_more hosts place host within is =
    take_more hosts place host within ∙ ap (λ one. take place hosts ++ one ∷ []) (sym is)

front_length : (hosts : List HostShape) (place : ℕ) → place < length hosts → length (take place hosts) ≡ place
front_length hosts place within = rw length-take (omega arith)

pub holders_more : (may : HostShape → Type 0) (hosts : List HostShape) (place : ℕ) (host : HostShape)
    (word next : ℕ) → place < length hosts → host ≡ get_or hosts place host → IsWordOf may (take place hosts) word →
    next < 2 ^ HOSTS → bit_at next place ≡ 1 →
    ((other : ℕ) → other ≢ place → bit_at next other ≡ bit_at word other) → may host →
    IsWordOf may (take (place + 1) hosts) next
holders_more may hosts place host word next within is found fits set others holds =
    let long : length (take place hosts) ≡ place = front_length hosts place within in
    let P : List HostShape → Type 0 = λ row. IsWordOf may row next in
    subst P (sym (front_more hosts place host within is))
    (word_more may (take place hosts) host word next found fits (ap (bit_at next) long ∙ set)
    (λ other apart. others other (λ same. apart (same ∙ sym long))) holds)

pub holders_kept : (may : HostShape → Type 0) (hosts : List HostShape) (place : ℕ) (host : HostShape)
    (word : ℕ) → place < length hosts → host ≡ get_or hosts place host → IsWordOf may (take place hosts) word →
    ¬ may host → IsWordOf may (take (place + 1) hosts) word
holders_kept may hosts place host word within is found not =
    let P : List HostShape → Type 0 = λ row. IsWordOf may row word in
    subst P (sym (front_more hosts place host within is)) (word_kept may (take place hosts) host word found not)

pub holders_all : (may : HostShape → Type 0) (hosts : List HostShape) (place word : ℕ) → length hosts ≤ place →
    IsWordOf may (take place hosts) word → IsWordOf may hosts word
holders_all may hosts place word past found =
    let P : List HostShape → Type 0 = λ row. IsWordOf may row word in
    subst P (take_all place hosts past) found
