-- What contracts see of the parts of a file that were read.
use Rattle.split_file.specs.declared.tables.Tables.{Tables}
use Rattle.split_file.specs.declared.starts.Starts.{Starts}
use Rattle.split_file.specs.Reading.{TablesShape, StartsShape}

abbrev pub tables_shape : Tables → TablesShape
tables_shape tables = record {
  hosts = tables.hosts.items;
  labels = tables.labels.items;
  fields = tables.fields.items;
  variables = tables.vars.items;
}

abbrev pub starts_shape : Starts → StartsShape
starts_shape starts = record {
  entries = starts.entries.items;
  behind = starts.behind;
  sites = starts.sites.items;
  root = starts.root;
  main = starts.main;
}
