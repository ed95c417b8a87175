use Rattle.jifmerge.proofs.LoadedWords.{contents_due}
use Rattle.jifmerge.proofs.due.verdict_for_loaded.Goals as goal

pub returns : goal.returns
returns c = λ bytes all.
    contents_due c.args.words.now bytes c.args.loaded.now c.as_str.result.now c.index-words-2.result
    c.journal_names.result.now
    c.index-loaded-0.result c.index-loaded-1.result c.index-loaded-2.result c.journals_of.result.now
    c.verdict_for_files.result
    (record {
      text_is = c.as_str.ensures.value;
      few = c.requires.words;
      count = c.requires.count;
      name_is = c.index-words-2.is;
      names_are = c.journal_names.ensures;
      program_is = c.index-loaded-0.is;
      hosts_is = c.index-loaded-1.is;
      start_is = c.index-loaded-2.is;
      journals_are = c.journals_of.ensures;
    })
    all c.verdict_for_files.ensures
