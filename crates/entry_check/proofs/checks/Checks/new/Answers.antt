-- The words are made for all that is there, and past the end nobody may ask.
use Rattle.std.proofs.Common.{◌≡◌, ℕ, ◌≤◌, length, ap, subst}
use Rattle.entry_check.specs.declared.checks.Kind.TheVariants as kind
use Rattle.entry_check.specs.Checks.{ask_of}
use Rattle.entry_check.proofs.Words.{of_all, past_end}
use Rattle.entry_check.proofs.checks.Checks.new.Goals as goal

pub returns : goal.returns
returns c =
    let code = c.args.code.now in
    let me = c.args.me in
    let fields : length c.fields-fields.result.now ≡ length code.fields = ap length c.fields-fields.ensures.fields in
    let vars : length c.vars-vars.result.now ≡ length code.variables = ap length c.vars-vars.ensures.vars in
    let entries : length c.entries-entries.result.now ≡ length code.entries =
    ap length c.entries-entries.ensures.entries in
    record {
      gets =
          λ field. of_all code me (ask_of kind.Get) c.in_ok-words_of.field-0.items (length c.fields-fields.result.now)
          c.in_ok-words_of.ensures.count c.in_ok-words_of.ensures.words
          (λ n from past may. past_end _ code.fields n (subst (λ (k : ℕ). k ≤ n) fields past) may) field.0;
      sets =
          λ field. of_all code me (ask_of kind.Set) c.in_ok-words_of-2.field-0.items (length c.fields-fields.result.now)
          c.in_ok-words_of-2.ensures.count c.in_ok-words_of-2.ensures.words
          (λ n from past may. past_end _ code.fields n (subst (λ (k : ℕ). k ≤ n) fields past) may) field.0;
      forwards =
          λ variable. of_all code me (ask_of kind.Forward) c.in_ok-words_of-3.field-0.items
          (length c.vars-vars.result.now)
          c.in_ok-words_of-3.ensures.count c.in_ok-words_of-3.ensures.words
          (λ n from past may. past_end _ code.variables n (subst (λ (k : ℕ). k ≤ n) vars past) may) variable.0;
      enters =
          λ entry. of_all code me (ask_of kind.Enter) c.in_ok-words_of-4.field-0.items
          (length c.entries-entries.result.now)
          c.in_ok-words_of-4.ensures.count c.in_ok-words_of-4.ensures.words
          (λ n from past may. past_end _ code.entries n (subst (λ (k : ℕ). k ≤ n) entries past) may.1) entry.0;
    }
