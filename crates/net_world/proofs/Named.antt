-- The hosts of a host file beside those of a code.
use Rattle.std.proofs.Common.{◌≡◌, ℕ, ◌+◌, ◌<◌, ◌≤◌, List, [], ◌∷◌, ◌++◌, length, get_or, map, take, ap, sym, ◌∙◌}
use Rattle.std.proofs.lemmas.List.{map_push, take_more, take_all, get_or-map}
use Rattle.host_decl.specs.Hosts as declared_hosts
use Rattle.host_code.specs.Code.{CodeHostShape}
use Rattle.net_world.specs.World.{named_host}

pub named_more : (rows : List declared_hosts.HostShape) (hosts : List CodeHostShape) (i : ℕ)
    (d : declared_hosts.HostShape) (e : CodeHostShape) → i < length rows → i < length hosts →
    map named_host (take i rows) ≡ take i hosts → named_host (get_or rows i d) ≡ get_or hosts i e →
    map named_host (take (i + 1) rows) ≡ take (i + 1) hosts
named_more rows hosts i d e lt within so_far next =
    ap (map named_host) (take_more rows i d lt) ∙ map_push named_host (take i rows) (get_or rows i d)
    ∙ ap (λ all. all ++ named_host (get_or rows i d) ∷ []) so_far ∙ ap (λ last. take i hosts ++ last ∷ []) next
    ∙ sym (take_more hosts i e within)

pub named_all : (rows : List declared_hosts.HostShape) (hosts : List CodeHostShape) (n : ℕ) → length rows ≤ n →
    length hosts ≤ n → map named_host (take n rows) ≡ take n hosts → map named_host rows ≡ hosts
named_all rows hosts n all also same =
    ap (map named_host) (sym (take_all n rows all)) ∙ same ∙ take_all n hosts also

pub named_at : (rows : List declared_hosts.HostShape) (hosts : List CodeHostShape) (i : ℕ)
    (d : declared_hosts.HostShape) (e : CodeHostShape) → i < length rows → map named_host rows ≡ hosts →
    named_host (get_or rows i d) ≡ get_or hosts i e
named_at rows hosts i d e lt same =
    sym (get_or-map named_host rows i d e lt) ∙ ap (λ all. get_or all i e) same

pub ruleset named = (named_more, named_all, named_at)
