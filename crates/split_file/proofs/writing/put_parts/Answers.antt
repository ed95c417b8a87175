use Rattle.std.proofs.Common.{◌<◌, [], ◌++◌, length, ap, sym, subst, ◌∙◌, append_assoc, arith, take}
use Rattle.std.specs.Prelude.{All, unwrap_or}
use Rattle.std.specs.List.{flat_map}
use Rattle.std.proofs.lemmas.List.Elements.{All-more}
use Rattle.std.proofs.lemmas.Option.{slice_get-get_or}
use Rattle.host_code.specs.Code.{part_of}
use Rattle.split_file.specs.File.{IsRealInstruction}
use Rattle.split_file.specs.Spelling.{part_bytes}
use Rattle.split_file.proofs.Appends.{lists_more}
use Rattle.split_file.proofs.writing.put_parts.Goals as goal

pub put_part-requires : goal.put_part-requires
put_part-requires c =
    let long = ap length c.hosts.ensures.hosts in
    let is_host : c.loop-host.host < length c.args.code.now.hosts = omega (arith, c.loop-host-test.true, long) in
    rw c.part.ensures (c.hosts.ensures.sound.parts (record { 0 = c.loop-host.host }) is_host).few

pub loop-host-preserved : goal.loop-host-preserved
loop-host-preserved c =
    let code = c.args.code.now in
    let long = ap length c.hosts.ensures.hosts in
    let each = c.hosts.ensures.sound.a_part_each in
    let within : c.loop-host.host < length code.parts = omega (arith, c.loop-host-test.true, long, each) in
    let before = flat_map part_bytes (take c.loop-host.host code.parts) in
    let put = c.in_ok-put_part.ensures in
    let there = c.part.ensures
    ∙ ap (λ found. unwrap_or found []) (slice_get-get_or code.parts c.loop-host.host [] within) in
    record {
      bytes =
          put.bytes
          ∙ ap (λ part. c.loop-host.out.items ++ part_bytes part) c.part.ensures
          ∙ ap (λ out. out ++ part_bytes (part_of code (record { 0 = c.loop-host.host }))) c.loop-host.invariant.bytes
          ∙ append_assoc c.args.out.now.items before (part_bytes (part_of code (record { 0 = c.loop-host.host })))
          ∙ ap (λ more. c.args.out.now.items ++ more)
          (sym (lists_more part_bytes code.parts c.loop-host.host within));
      real = All-more (All IsRealInstruction) code.parts c.loop-host.host [] within c.loop-host.invariant.real
          (subst (All IsRealInstruction) there put.real);
    }
