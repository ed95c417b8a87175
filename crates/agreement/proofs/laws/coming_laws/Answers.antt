use Rattle.agreement.proofs.Coming.{comes_leads, comes_once, deep_comes}
use Rattle.agreement.proofs.laws.coming_laws.Goals as goal

pub returns : goal.returns
returns c = record {
  comes = comes_leads;
  once = comes_once;
  deep = deep_comes;
}
