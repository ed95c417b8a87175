-- Reports, host by host.
use Rattle.std.proofs.Common.{◌≡◌, ◌<◌, ◌+◌, ◌++◌, ◌∙◌, ℕ, List, [], ◌∷◌, length, get_or, map, take, ap, sym, arith}
use Rattle.std.specs.List.{flat_map, zip}
use Rattle.std.proofs.lemmas.List.{length-map, length-take-le, take_more}
use Rattle.launch.specs.declared.child_end.ChildEnd.{ChildEnd}
use Rattle.launch.specs.Report.{end_line, report}
use Rattle.launch.proofs.Starting.{flat_more, mapped_more, zip_front}

-- the lines so far, and that of the next host
pub report_more : {H : Type 0} (name : H → List ℕ) (hosts : List H) (ends : List ChildEnd) (i : ℕ) (host : H) (d :
    ChildEnd) →
    length hosts ≡ length ends → i < length hosts → host ≡ get_or hosts i host →
    report (map name (take (i + 1) hosts)) (take (i + 1) ends)
    ≡ report (map name (take i hosts)) (take i ends) ++ end_line (name host) (get_or ends i d)
report_more name hosts ends i host d long within is =
    ap (λ (names : List (List ℕ)). report names (take (i + 1) ends)) (mapped_more name hosts i host within is)
    ∙ ap (report (map name (take i hosts) ++ name host ∷ [])) (take_more ends i d (omega (arith, within, long)))
    ∙ ap (flat_map (λ (one : List ℕ × ChildEnd). end_line one.0 one.1))
    (zip_front (map name (take i hosts)) (take i ends) (name host) (get_or ends i d) same)
    ∙ flat_more (λ (one : List ℕ × ChildEnd). end_line one.0 one.1) (zip (map name (take i hosts)) (take i ends))
    (name host, get_or ends i d)
  where
    same : length (take i ends) ≡ length (map name (take i hosts))
    same = length-take-le i ends (omega (arith, within, long)) ∙ sym (length-take-le i hosts (omega (arith, within)))
        ∙ sym (length-map (take i hosts) name)
