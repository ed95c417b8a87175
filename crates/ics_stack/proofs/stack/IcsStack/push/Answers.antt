-- The new entry is the top, with a token that no other has.
use Rattle.std.proofs.Common.{rules, ◌≡◌, ◌+◌, ◌<◌, ◌++◌, ◌∷◌, [], length, reverse, ap, ◌∙◌, subst}
use Rattle.std.proofs.Common.{List, ℕ, sym, Bool, true, refl}
use Rattle.std.specs.Prelude.{if◌then◌else◌, slice_index, slice_set}
use Rattle.std.specs.Result.{is_ok}
use Rattle.std.proofs.lemmas.List.{reverse-append, get_or_default}
use Rattle.ics_stack.specs.declared.stack.StackEntry.{StackEntry}
use Rattle.ics_stack.specs.Stack.{StackFits}
use Rattle.ics_stack.proofs.Tokens.{fits_more}
use Rattle.ics_stack.proofs.stack.IcsStack.push.Goals as goal

pub invariant_of-self : goal.invariant_of-self
invariant_of-self c =
    let old : List StackEntry = c.self.inside.entries.items in
    let serials : List ℕ = c.self.inside.serials.items in
    let pushed : StackEntry =
    record {
      token = record {
        host = c.self.inside.host;
        frame = c.args.frame;
        entry = c.args.entry;
        serial = c.index-serial.result.now;
        tag = c.tag.result;
      };
      entry = c.args.entry;
      frame = c.args.frame;
      kept = c.spend-kept.result;
    } in
    let ok : is_ok c.push-pushed.result ≡ true = sym c.is_ok.ensures.value ∙ c.if-prove.false in
    let items : c.push-pushed.new.self.items ≡ old ++ pushed ∷ [] =
    c.push-pushed.ensures.items ∙ ap (λ (b : Bool). if b then old ++ pushed ∷ [] else old) ok in
    let after : reverse c.push-pushed.new.self.items ≡ pushed ∷ reverse old =
    ap reverse items ∙ reverse-append old (pushed ∷ []) in
    let within : c.args.entry.0 < length serials = search rules in
    let next : c.index-serial.result.now ≡ slice_index serials c.args.entry.0 =
    c.index-serial.ensures ∙ get_or_default serials c.args.entry.0 c.index-serial.result.now 0 within in
    let counts : slice_set serials c.args.entry.0 (slice_index serials c.args.entry.0 + 1)
    ≡ slice_set serials c.args.entry.0 (c.index-serial.result.now + 1) =
    ap (λ (n : ℕ). slice_set serials c.args.entry.0 (n + 1)) (sym next) in (
      search rules,
      subst (λ (s : List ℕ). StackFits c.self.inside.host s (reverse c.push-pushed.new.self.items)) counts
          (subst (StackFits c.self.inside.host _) (sym after)
          (fits_more c.self.inside.host serials (reverse old) pushed c.self.invariant.1
          (record { host_is = refl; entry_is = refl; frame_is = refl }) next within)),
    )
