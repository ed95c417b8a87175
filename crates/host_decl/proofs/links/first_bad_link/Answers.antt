use Rattle.std.proofs.Common.{◌*◌, ◌≤◌, ◌<◌, ◌^◌, ℕ, length, map, arith}
use Rattle.std.proofs.Math.Nat.{mul-le-mul}
use Rattle.std.proofs.lemmas.List.{length-map}
use Rattle.host_decl.specs.DraftView.{link_draft}
use Rattle.host_decl.specs.Hosts.{names_of}
use Rattle.host_decl.proofs.SoundLinks.{sound_more, bad_link, all_links, few_links}
use Rattle.host_decl.proofs.links.first_bad_link.Goals as goal

few_is_small : (count hosts : ℕ) → hosts ≤ 16 → count ≤ hosts * hosts → count < 2 ^ 32
few_is_small count hosts few most =
    let square : hosts * hosts ≤ 16 * 16 = mul-le-mul few few in
    omega arith

pub overflow_cast-result : goal.overflow_cast-result
overflow_cast-result c =
    let names = names_of c.args.hosts.now in
    let inside : c.loop-number.number ≤ length (map link_draft c.args.links.now) = rw length-map (omega arith) in
    let most = few_links names (map link_draft c.args.links.now) c.loop-number.number c.loop-number.invariant inside in
    let small = few_is_small c.loop-number.number (length names) (rw length-map c.requires) most in
    omega arith

pub returns-then-not-is_sound-clause-some : goal.returns-then-not-is_sound-clause-some
returns-then-not-is_sound-clause-some c =
    bad_link (names_of c.args.hosts.now) c.args.links.now c.loop-number.number c.index-links-number.result
    (omega arith) c.index-links-number.is
    c.if-not-is_sound.ensures c.loop-number.invariant

pub loop-number-preserved : goal.loop-number-preserved
loop-number-preserved c =
    sound_more (names_of c.args.hosts.now) c.args.links.now c.loop-number.number c.index-links-number.result
    (omega arith) c.index-links-number.is
    c.if-not-is_sound.ensures c.loop-number.invariant

pub returns-clause-none : goal.returns-clause-none
returns-clause-none c =
    all_links (names_of c.args.hosts.now) c.args.links.now c.loop-number.number (omega arith) c.loop-number.invariant
