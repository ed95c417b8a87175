-- The parts of code as contracts see them.
use Rattle.host_code.specs.declared.code.CodeParts.{CodeParts}
use Rattle.host_code.specs.Code.{CodeShape}

abbrev pub shape_of : CodeParts → CodeShape
shape_of code =
    record {
      hosts = code.hosts.items;
      labels = code.labels.items;
      fields = code.fields.items;
      variables = code.vars.items;
      entries = code.entries.items;
      sites = code.sites.items;
      parts = code.parts.items;
      root = code.root;
      main = code.main;
    }
