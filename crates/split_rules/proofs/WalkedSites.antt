-- Each call site has the host of its statement, where sites are numbered in the order of the text.
use Rattle.std.proofs.Common.{◌≡◌, ◌∙◌, ℕ, suc, ◌+◌, List, [], ◌∷◌, ◌++◌, length, refl, ap, sym, subst, arith}
use Rattle.std.proofs.Common.{append_assoc, length-append}
use Rattle.std.specs.Prelude.{Some, ⊤, get_or}
use Rattle.std.specs.List.{AllByRecursion, flat_map, range_with_len}
use Rattle.js_base.specs.declared.ids.HostId.{HostId}
use Rattle.jif_tree.specs.Numbering.{CountsFrom, block_sites, site_numbers}
use Rattle.jif_tree.specs.Trees.{BlockTree, done, set_local, set_field, set_element, branch, loop, call, give_back}
use Rattle.jif_tree.specs.Trees.{MethodTree, ProgramTree}
use Rattle.host_code.specs.Code.{host_of_site}
use Rattle.need_labels.specs.Plan.{PlanShape}
use Rattle.split_rules.specs.SplitCode.{site_hosts}
use Rattle.split_rules.proofs.WalkedMoves.{at_last}
use Rattle.split_rules.proofs.WalkedBlocks.{AreSitesOf}

-- sites have these hosts, one by one
abbrev HaveHosts : List HostId → List ℕ → List HostId → Type 0
HaveHosts sites [] [] = ⊤
HaveHosts sites [] (host ∷ hosts) = ⊥
HaveHosts sites (number ∷ numbers) [] = ⊥
HaveHosts sites (number ∷ numbers) (host ∷ hosts) =
    (host_of_site sites number ≡ Some host) × HaveHosts sites numbers hosts

-- ---- sites that count up

pub range_moved : (numbers : List ℕ) (first other : ℕ) → first ≡ other →
    numbers ≡ range_with_len first (length numbers) →
    numbers ≡ range_with_len other (length numbers)
range_moved numbers first other same is =
    let P : ℕ → Type 0 = λ one. numbers ≡ range_with_len one (length numbers) in
    subst P same is

tail_of : List ℕ → List ℕ
tail_of [] = []
tail_of (number ∷ numbers) = numbers

counted : (before hosts : List HostId) (numbers : List ℕ) → length numbers ≡ length hosts →
    numbers ≡ range_with_len (suc (length before)) (length numbers) →
    HaveHosts (before ++ hosts) numbers hosts
unfolding tail_of
counted before [] [] long is = tt
counted before [] (number ∷ numbers) long is = absurd (omega arith)
counted before (host ∷ hosts) [] long is = absurd (omega arith)
counted before (host ∷ hosts) (number ∷ numbers) long is =
    let P : ℕ → Type 0 = λ one. host_of_site (before ++ host ∷ hosts) one ≡ Some host in
    let Q : List HostId → Type 0 = λ sites. HaveHosts sites numbers hosts in
    let first : number ≡ suc (length before) = ap (λ (all : List ℕ). get_or all 0 0) is in
    let others : numbers ≡ range_with_len (suc (length before) + 1) (length numbers) = ap tail_of is in
    let next : suc (length before) + 1 ≡ suc (length (before ++ host ∷ [])) = rw length-append (omega arith) in (
      subst P (sym first) (at_last before host hosts),
      subst Q (append_assoc before (host ∷ []) hosts)
          (counted (before ++ host ∷ []) hosts numbers (omega arith) (range_moved numbers _ _ next others)),
    )

-- ---- as many hosts as sites

as_many : (plan : PlanShape) (block : BlockTree) → length (block_sites block) ≡ length (site_hosts plan block)
as_many plan done = refl
as_many plan (set_local heading x value rest) = as_many plan rest
as_many plan (set_field heading field value rest) = as_many plan rest
as_many plan (set_element heading field index value rest) = as_many plan rest
as_many plan (branch heading guard first second rest) =
    let one = as_many plan first in
    let two = as_many plan second in
    let three = as_many plan rest in
    simp length-append (omega arith)
as_many plan (loop heading guard body rest) =
    let one = as_many plan body in
    let two = as_many plan rest in
    simp length-append (omega arith)
as_many plan (call heading site method args into rest) = ap suc (as_many plan rest)
as_many plan (give_back heading value rest) = as_many plan rest

as_many_in_all : (plan : PlanShape) (methods : List MethodTree) →
    length (flat_map (λ method. block_sites method.body) methods)
    ≡ length (flat_map (λ method. site_hosts plan method.body) methods)
as_many_in_all plan [] = refl
as_many_in_all plan (method ∷ methods) =
    let one = as_many plan method.body in
    let two = as_many_in_all plan methods in
    simp length-append (omega arith)

-- ---- the sites of each block

pub in_three : {X : Type 0} (one two three behind : List X) →
    (one ++ two ++ three) ++ behind ≡ one ++ (two ++ (three ++ behind))
in_three one two three behind =
    append_assoc (one ++ two) three behind ∙ append_assoc one two (three ++ behind)

block_first : (sites : List HostId) (plan : PlanShape) (block : BlockTree) (numbers : List ℕ) (hosts : List HostId) →
    HaveHosts sites (block_sites block ++ numbers) (site_hosts plan block ++ hosts) →
    AreSitesOf sites plan block × HaveHosts sites numbers hosts
block_first sites plan done numbers hosts have = (tt, have)
block_first sites plan (set_local heading x value rest) numbers hosts have =
    block_first sites plan rest numbers hosts have
block_first sites plan (set_field heading field value rest) numbers hosts have =
    block_first sites plan rest numbers hosts have
block_first sites plan (set_element heading field index value rest) numbers hosts have =
    block_first sites plan rest numbers hosts have
block_first sites plan (branch heading guard first second rest) numbers hosts have =
    let P : List ℕ → Type 0 = λ all. HaveHosts sites all (site_hosts plan first ++ site_hosts plan second
    ++ site_hosts plan rest ++ hosts) in
    let Q : List HostId → Type 0 = λ all. HaveHosts sites
    (block_sites first ++ (block_sites second ++ (block_sites rest ++ numbers))) all in
    let apart = subst Q (in_three (site_hosts plan first) (site_hosts plan second) (site_hosts plan rest) hosts)
    (subst P (in_three (block_sites first) (block_sites second) (block_sites rest) numbers) have) in
    let one = block_first sites plan first (block_sites second ++ (block_sites rest ++ numbers))
    (site_hosts plan second ++ (site_hosts plan rest ++ hosts)) apart in
    let two = block_first sites plan second (block_sites rest ++ numbers) (site_hosts plan rest ++ hosts) one.1 in
    let three = block_first sites plan rest numbers hosts two.1 in
    ((one.0, two.0, three.0), three.1)
block_first sites plan (loop heading guard body rest) numbers hosts have =
    let P : List ℕ → Type 0 = λ all. HaveHosts sites all (site_hosts plan body ++ site_hosts plan rest ++ hosts) in
    let Q : List HostId → Type 0 = λ all. HaveHosts sites (block_sites body ++ (block_sites rest ++ numbers)) all in
    let apart = subst Q (append_assoc (site_hosts plan body) (site_hosts plan rest) hosts)
    (subst P (append_assoc (block_sites body) (block_sites rest) numbers) have) in
    let one = block_first sites plan body (block_sites rest ++ numbers) (site_hosts plan rest ++ hosts) apart in
    let two = block_first sites plan rest numbers hosts one.1 in
    ((one.0, two.0), two.1)
block_first sites plan (call heading site method args into rest) numbers hosts have =
    let behind = block_first sites plan rest numbers hosts have.1 in
    ((have.0, behind.0), behind.1)
block_first sites plan (give_back heading value rest) numbers hosts have =
    block_first sites plan rest numbers hosts have

methods_first : (sites : List HostId) (plan : PlanShape) (methods : List MethodTree) →
    HaveHosts sites (flat_map (λ method. block_sites method.body) methods)
    (flat_map (λ method. site_hosts plan method.body) methods) →
    AllByRecursion (λ method. AreSitesOf sites plan method.body) methods
methods_first sites plan [] have = tt
methods_first sites plan (method ∷ methods) have =
    let both = block_first sites plan method.body (flat_map (λ one. block_sites one.body) methods)
    (flat_map (λ one. site_hosts plan one.body) methods) have in
    (both.0, methods_first sites plan methods both.1)

pub sites_there : (program : ProgramTree) (plan : PlanShape) → CountsFrom 1 (site_numbers program) →
    let sites = flat_map (λ (method : MethodTree). site_hosts plan method.body) program.methods in
    AllByRecursion (λ (method : MethodTree). AreSitesOf sites plan method.body) program.methods
sites_there program plan counts =
    let sites = flat_map (λ (method : MethodTree). site_hosts plan method.body) program.methods in
    methods_first sites plan program.methods
    (counted [] sites (site_numbers program) (as_many_in_all plan program.methods) counts)
