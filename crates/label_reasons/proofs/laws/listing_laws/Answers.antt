use Rattle.label_reasons.proofs.ActsTests.{acts_tells}
use Rattle.label_reasons.proofs.Listing.{listed_passes, none_listed}
use Rattle.label_reasons.proofs.laws.listing_laws.Goals as goal

pub returns : goal.returns
returns c = record {
  acts = λ principals first second. acts_tells principals (record {
    reflexive = c.acts_for_laws.ensures.reflexive principals;
    transitive = c.acts_for_laws.ensures.transitive principals;
    declared = c.acts_for_laws.ensures.declared principals;
    smallest = c.acts_for_laws.ensures.smallest principals;
  }) first second;
  listed_fails = listed_passes;
  listed_some = λ principals test some none. some (none_listed principals test none);
}
