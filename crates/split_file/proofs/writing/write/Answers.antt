use Rattle.std.proofs.Common.{◌≡◌, rules, ap, ◌∙◌, append_assoc}
use Rattle.std.proofs.lemmas.List.{append-nil}
use Rattle.split_file.specs.Spelling.{split_file}
use Rattle.split_file.specs.File.{IsRealCode, file_code}
use Rattle.split_file.proofs.FileLaws.{file_again}
use Rattle.split_file.proofs.writing.write.Goals as goal

real : (c : goal.In_ok-put_parts) → IsRealCode c.args.code.now
real c = (
  c.in_ok-put_tables.ensures.sound,
  record {
    hosts = c.in_ok-put_tables.ensures.hosts;
    labels = c.in_ok-put_tables.ensures.labels;
    fields = c.in_ok-put_tables.ensures.fields;
    entries = c.in_ok-put_starts.ensures.real;
    parts = c.in_ok-put_parts.ensures.real;
  },
)

pub returns-clause-real : goal.returns-clause-real
returns-clause-real c = real c

pub returns-clause-again : goal.returns-clause-again
unfolding split_file
returns-clause-again c =
    let spelled : c.put_parts.new.out.items ≡ split_file c.args.code.now =
    search (rules, append_assoc, append-nil) in
    ap file_code spelled ∙ file_again c.args.code.now (real c)
