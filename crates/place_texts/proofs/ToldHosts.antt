-- What the reads of a program tell its hosts, host by host.
use Rattle.std.proofs.Common.{◌≡◌, ℕ, zero, suc, ◌+◌, ◌<◌, List, [], ◌∷◌, ◌++◌, length, take, get_or, subst, sym, arith}
use Rattle.std.specs.List.{AllZip}
use Rattle.std.proofs.lemmas.List.{take_more}
use Rattle.std.proofs.lemmas.Slice.Zip.{AllZip-long}
use Rattle.js_base.proofs.Lists.{zip_push}
use Rattle.principals.specs.ActsFor.{Declared}
use Rattle.host_decl.specs.Hosts.{HostShape}
use Rattle.need_labels.specs.Labelled.{Labelled}
use Rattle.place_reasons.specs.Search.{AreTold}
use Rattle.place_texts.specs.declared.lines.HostTold.{HostTold}
use Rattle.place_texts.specs.Holding.{AreToldHosts}

abbrev pub AreToldTo : Declared → Labelled → HostShape → HostTold → Type 0
AreToldTo principals labelled host one = AreTold principals labelled host.label one.fields.items

-- one host more
pub told_more : (principals : Declared) (labelled : Labelled) (hosts : List HostShape) (told : List HostTold) (k : ℕ)
    (host : HostShape) (one : HostTold) → k < length hosts → host ≡ get_or hosts k host →
    AreToldHosts principals labelled (take k hosts) told → AreToldTo principals labelled host one →
    AreToldHosts principals labelled (take (k + 1) hosts) (told ++ one ∷ [])
told_more principals labelled hosts told k host one lt is before last =
    subst (λ front. AreToldHosts principals labelled front (told ++ one ∷ []))
    (sym (subst (λ x. take (k + 1) hosts ≡ take k hosts ++ x ∷ []) (sym is) (take_more hosts k host lt)))
    (zip_push (AreToldTo principals labelled) (take k hosts) told host one before last)

item_at : {X Y : Type 0} (R : X → Y → Type 0) (xs : List X) (ys : List Y) (k : ℕ) (d : X) (e : Y) → AllZip R xs ys →
    k < length xs → R (get_or xs k d) (get_or ys k e)
item_at R [] ys k d e all lt = absurd (omega (arith, lt))
item_at R (x ∷ xs) [] k d e all lt = absurd all
item_at R (x ∷ xs) (y ∷ ys) zero d e all lt = all.0
item_at R (x ∷ xs) (y ∷ ys) (suc k) d e all lt = item_at R xs ys k d e all.1 (omega (arith, lt))

-- that of the host at a place
pub told_at : (principals : Declared) (labelled : Labelled) (hosts : List HostShape) (told : List HostTold) (k : ℕ)
    (host : HostShape) (one : HostTold) → AreToldHosts principals labelled hosts told → k < length hosts →
    host ≡ get_or hosts k host → AreTold principals labelled host.label (get_or told k one).fields.items
told_at principals labelled hosts told k host one all lt host_is =
    subst (λ x. AreToldTo principals labelled x (get_or told k one)) (sym host_is)
    (item_at (AreToldTo principals labelled) hosts told k host one all lt)

-- a host for which something is told, by its place
pub told_long : (principals : Declared) (labelled : Labelled) (hosts : List HostShape) (told : List HostTold) (k : ℕ) →
    AreToldHosts principals labelled hosts told → k < length hosts → k < length told
told_long principals labelled hosts told k all lt =
    omega (arith, lt, AllZip-long (AreToldTo principals labelled) hosts told all)
