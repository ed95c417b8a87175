-- What every place of a method has in common, as the code hands it on.
use Rattle.jif_resolve.specs.Places.{Setting}
use Rattle.jif_resolve.specs.declared.context.Context.{Context}

abbrev pub setting_in : Context → Setting
setting_in context = record {
  principals = context.principals.now;
  globals = context.globals.now;
  gives = context.gives;
}
