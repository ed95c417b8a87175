use Rattle.host_decl.proofs.OneMeaning.{AreOnce, reads_once}
use Rattle.host_decl.proofs.OneRefusal.{AreRefusals, refuses_once, never_refused}
use Rattle.host_decl.proofs.SmallNumbers.{bad_label, bad_link}
use Rattle.host_decl.proofs.SomeOutcome.{meaning_or_refusal, short_names}
use Rattle.host_decl.proofs.SoundHosts.{hosts_read}
use Rattle.host_decl.proofs.TomlDocuments.{document_texts}
use Rattle.host_decl.proofs.laws.host_file_laws.Goals as goal

pub returns-clause-one_meaning : goal.returns-clause-one_meaning
returns-clause-one_meaning c =
    let laws : AreOnce = record {
      declared = c.principals_laws.ensures.declared_once;
      reading = c.lex_laws.ensures;
      written = c.label_laws.ensures.written_once;
    } in
    reads_once laws

pub returns-clause-one_refusal : goal.returns-clause-one_refusal
returns-clause-one_refusal c =
    let laws : AreRefusals = record {
      declared = c.principals_laws.ensures.declared_once;
      once = c.principals_laws.ensures.one_refusal;
      never_both = c.principals_laws.ensures.never_both;
    } in
    refuses_once laws

pub returns-clause-never_both : goal.returns-clause-never_both
returns-clause-never_both c =
    let laws : AreRefusals = record {
      declared = c.principals_laws.ensures.declared_once;
      once = c.principals_laws.ensures.one_refusal;
      never_both = c.principals_laws.ensures.never_both;
    } in
    never_refused laws

pub returns-clause-meaning_or_refusal : goal.returns-clause-meaning_or_refusal
returns-clause-meaning_or_refusal c =
    meaning_or_refusal c.lex_laws.ensures c.reading_laws.ensures.some_reading c.written_laws.ensures.label_or_none
    document_texts

pub returns-clause-bad_label : goal.returns-clause-bad_label
returns-clause-bad_label c = bad_label

pub returns-clause-bad_link : goal.returns-clause-bad_link
returns-clause-bad_link c = bad_link

pub returns-clause-short_names : goal.returns-clause-short_names
returns-clause-short_names c = short_names document_texts

pub returns-clause-sound : goal.returns-clause-sound
returns-clause-sound c = hosts_read
