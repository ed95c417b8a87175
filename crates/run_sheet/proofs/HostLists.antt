-- What is made of the hosts of a code, one after the other.
use Rattle.std.proofs.Common.{◌≡◌, ℕ, ◌+◌, List, [], ◌∷◌, ◌++◌, map, ap, sym, ◌∙◌, arith, cond}
use Rattle.std.specs.Prelude.{Bool, true, false, filter, flat_map}
use Rattle.std.proofs.lemmas.List.{append-nil, append_assoc, flat_map_more, map_push}
use Rattle.std.proofs.lemmas.List.FromFn.{filter_of_map_range_with_len_more, map-range_with_len_more}
use Rattle.js_base.specs.declared.ids.HostId.{HostId}
use Rattle.run_sheet.specs.RunSources.{hosts_below}

abbrev pub host_of : ℕ → HostId
host_of number = record { 0 = number }

hosts_more : (n : ℕ) → hosts_below (n + 1) ≡ hosts_below n ++ host_of n ∷ []
hosts_more n = map-range_with_len_more host_of 0 n n (omega arith)

pub flat_hosts_more : {X : Type 0} (f : HostId → List X) (n : ℕ) →
    flat_map f (hosts_below (n + 1)) ≡ flat_map f (hosts_below n) ++ f (host_of n)
flat_hosts_more f n = ap (flat_map f) (hosts_more n) ∙ sym (flat_map_more f [] (hosts_below n) (host_of n))

pub filter_hosts_more : (p : HostId → Bool) (n : ℕ) →
    filter p (hosts_below (n + 1)) ≡ filter p (hosts_below n) ++ cond (p (host_of n)) (host_of n ∷ []) []
filter_hosts_more p n = filter_of_map_range_with_len_more p host_of 0 n n (omega arith)

-- what is made of one host more
pub host_added : {X : Type 0} (f : HostId → X) (made next : List X) (one : X) (n : ℕ) →
    made ≡ map f (hosts_below n) → next ≡ made ++ one ∷ [] → one ≡ f (host_of n) → next ≡ map f (hosts_below (n + 1))
host_added {X} f made next one n was pushed is =
    pushed ∙ ap (λ (xs : List X). xs ++ one ∷ []) was
    ∙ ap (λ (x : X). map f (hosts_below n) ++ x ∷ []) is
    ∙ sym (ap (map f) (hosts_more n) ∙ map_push f (hosts_below n) (host_of n))

pub shape_added : {X Y : Type 0} (shape : Y → X) (f : HostId → X) (made next : List Y) (one : Y) (n : ℕ) →
    map shape made ≡ map f (hosts_below n) → next ≡ made ++ one ∷ [] → shape one ≡ f (host_of n) →
    map shape next ≡ map f (hosts_below (n + 1))
shape_added shape f made next one n was pushed is =
    host_added f (map shape made) (map shape next) (shape one) n was
    (ap (map shape) pushed ∙ map_push shape made one) is

-- what one host more adds
pub flat_added : {X : Type 0} (f : HostId → List X) (start made next piece : List X) (n : ℕ) →
    made ≡ start ++ flat_map f (hosts_below n) → next ≡ made ++ piece → piece ≡ f (host_of n) →
    next ≡ start ++ flat_map f (hosts_below (n + 1))
flat_added {X} f start made next piece n was pushed is =
    pushed ∙ ap (λ (xs : List X). xs ++ piece) was ∙ append_assoc start (flat_map f (hosts_below n)) piece
    ∙ ap (λ (xs : List X). start ++ xs)
    (ap (λ (x : List X). flat_map f (hosts_below n) ++ x) is ∙ sym (flat_hosts_more f n))

-- a host that passes a test is added, and another is not
pub one_added : (p : HostId → Bool) (made next : List HostId) (n : ℕ) (is : Bool) →
    made ≡ filter p (hosts_below n) → is ≡ p (host_of n) → is ≡ true → next ≡ made ++ host_of n ∷ [] →
    next ≡ filter p (hosts_below (n + 1))
one_added p made next n is was test passes pushed =
    pushed ∙ ap (λ (xs : List HostId). xs ++ host_of n ∷ []) was
    ∙ sym (filter_hosts_more p n
    ∙ ap (λ (b : Bool). filter p (hosts_below n) ++ cond b (host_of n ∷ []) []) (sym test ∙ passes))

pub none_added : (p : HostId → Bool) (made : List HostId) (n : ℕ) (is : Bool) →
    made ≡ filter p (hosts_below n) → is ≡ p (host_of n) → is ≡ false → made ≡ filter p (hosts_below (n + 1))
none_added p made n is was test fails =
    was ∙ sym (append-nil (filter p (hosts_below n)))
    ∙ sym (filter_hosts_more p n
    ∙ ap (λ (b : Bool). filter p (hosts_below n) ++ cond b (host_of n ∷ []) []) (sym test ∙ fails))
