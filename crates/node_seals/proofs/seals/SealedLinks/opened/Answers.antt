use Rattle.std.proofs.Common.{◌≡◌, ◌∙◌, ◌<◌, Some, arith, length, vec_len}
use Rattle.std.specs.Prelude.{slice_get, slice_index_or}
use Rattle.std.proofs.lemmas.Option.{slice_get-get_or, slice_get_read}
use Rattle.std.proofs.lemmas.Result.{on_ok_weaker, on_err_weaker}
use Rattle.js_base.specs.declared.ids.HostId.{HostId}
use Rattle.node_seals.specs.Seals.{links_shape}
use Rattle.node_seals.proofs.OpenedLinks.{opener_behind, opener_opens}
use Rattle.node_seals.proofs.seals.SealedLinks.opened.Goals as goal

pub returns-clause-raised : goal.returns-clause-raised
returns-clause-raised c =
    let links = links_shape c.args.self.now in
    let bytes = c.args.bytes.now in
    let from : HostId = record { 0 = slice_index_or bytes 4 0 } in
    let fifth : slice_get bytes 4 ≡ Some from.0 = slice_get-get_or bytes 4 0 (omega arith) in
    let whole : vec_len c.args.self.now.openers ≡ length links.openers = omega arith in
    let there = slice_get_read links.openers c.len.result from.0 c.index_mut.result.now (c.len.ensures ∙ whole)
    c.if-place-len.false c.index_mut.ensures.value in
    rw fifth
    (on_ok_weaker c.opened_by.result
    (λ raised. opener_behind links from c.index_mut.result.now _ bytes there raised) c.opened_by.ensures.raised)

pub returns-clause-memory : goal.returns-clause-memory
returns-clause-memory c =
    let links = links_shape c.args.self.now in
    let bytes = c.args.bytes.now in
    let from : HostId = record { 0 = slice_index_or bytes 4 0 } in
    let fifth : slice_get bytes 4 ≡ Some from.0 = slice_get-get_or bytes 4 0 (omega arith) in
    let whole : vec_len c.args.self.now.openers ≡ length links.openers = omega arith in
    let there = slice_get_read links.openers c.len.result from.0 c.index_mut.result.now (c.len.ensures ∙ whole)
    c.if-place-len.false c.index_mut.ensures.value in
    rw fifth
    (on_err_weaker c.opened_by.result
    (λ opens. let it = opener_opens links from c.index_mut.result.now bytes there opens in (from, it.0, it.1))
    c.opened_by.ensures.memory)
