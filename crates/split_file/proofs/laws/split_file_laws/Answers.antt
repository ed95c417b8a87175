use Rattle.std.proofs.Common.{refl}
use Rattle.byte_format.specs.Numbers.{number_bytes, word_bytes}
use Rattle.byte_format.specs.Reader.{byte_at, bytes_at, number_at, require, given, refused, sequel, items_at, list_at}
use Rattle.split_file.specs.Spelling.{split_file}
use Rattle.split_file.specs.Reader.{text_at, in_range, place}
use Rattle.split_file.specs.Reading.{code_at, front_at, magic_at, version_at, tables_at, hosts_at, host_row_at, name_at}
use Rattle.split_file.specs.Reading.{label_at, operation_at, operation_of, call_at, host_of_entry_at, call_with_at}
use Rattle.split_file.specs.Reading.{go_with_at, entered_at, some_entry_at, other_host_of_entry_at, riders_at}
use Rattle.split_file.specs.Reading.{variable_id_at, index_at}
use Rattle.split_file.specs.File.{file_code}
use Rattle.split_file.proofs.FileLaws.{file_again, file_read, code_or_refusal, spelled_once, idle_version}
use Rattle.split_file.proofs.laws.split_file_laws.Goals as goal

pub returns-clause-spelled_once : goal.returns-clause-spelled_once
returns-clause-spelled_once c = spelled_once

pub returns-clause-read_again : goal.returns-clause-read_again
returns-clause-read_again c = file_again

pub returns-clause-only_spelled : goal.returns-clause-only_spelled
returns-clause-only_spelled c bytes code fits is = file_read bytes code fits is

pub returns-clause-code_or_refusal : goal.returns-clause-code_or_refusal
returns-clause-code_or_refusal c = code_or_refusal

pub returns-clause-idle_version : goal.returns-clause-idle_version
returns-clause-idle_version c = idle_version

pub returns-clause-worked_hosts : goal.returns-clause-worked_hosts
unfolding number_bytes word_bytes split_file
returns-clause-worked_hosts c = refl

pub returns-clause-worked_labels : goal.returns-clause-worked_labels
unfolding number_bytes word_bytes split_file
returns-clause-worked_labels c = refl

pub returns-clause-worked_fields : goal.returns-clause-worked_fields
unfolding number_bytes word_bytes split_file
returns-clause-worked_fields c = refl

pub returns-clause-worked_variables : goal.returns-clause-worked_variables
unfolding number_bytes word_bytes split_file
returns-clause-worked_variables c = refl

pub returns-clause-worked_entries : goal.returns-clause-worked_entries
unfolding number_bytes word_bytes split_file
returns-clause-worked_entries c = refl

pub returns-clause-worked_sites : goal.returns-clause-worked_sites
unfolding number_bytes word_bytes split_file
returns-clause-worked_sites c = refl

pub returns-clause-worked_file : goal.returns-clause-worked_file
unfolding number_bytes word_bytes split_file
returns-clause-worked_file c = refl

pub returns-clause-worked_parts : goal.returns-clause-worked_parts
unfolding number_bytes word_bytes
returns-clause-worked_parts c = (refl, refl)

pub returns-clause-worked_versions : goal.returns-clause-worked_versions
returns-clause-worked_versions c = (refl, refl)

pub returns-clause-worked_riding : goal.returns-clause-worked_riding
unfolding number_bytes
returns-clause-worked_riding c = refl

pub returns-clause-worked_riding_file : goal.returns-clause-worked_riding_file
unfolding number_bytes word_bytes split_file
returns-clause-worked_riding_file c = refl

pub returns-clause-worked_plain_go : goal.returns-clause-worked_plain_go
unfolding operation_at operation_of place sequel given require byte_at number_at refused in_range go_with_at
    call_with_at entered_at some_entry_at
returns-clause-worked_plain_go c code me temporaries places = refl

pub returns-clause-worked_plain_call : goal.returns-clause-worked_plain_call
unfolding operation_at operation_of place sequel given require byte_at number_at refused in_range go_with_at
    call_with_at entered_at some_entry_at
returns-clause-worked_plain_call c code me temporaries places = refl

pub returns-clause-worked_riding_call : goal.returns-clause-worked_riding_call
unfolding operation_at operation_of place sequel given require byte_at number_at refused in_range go_with_at
    call_with_at entered_at some_entry_at
returns-clause-worked_riding_call c code me temporaries places = refl

pub returns-clause-worked_no_operation : goal.returns-clause-worked_no_operation
unfolding operation_at operation_of place sequel given require byte_at number_at refused in_range go_with_at
    call_with_at entered_at some_entry_at
returns-clause-worked_no_operation c code me temporaries places = refl

pub returns-clause-worked_own_call : goal.returns-clause-worked_own_call
unfolding operation_at operation_of place sequel given require byte_at number_at refused in_range call_at
    host_of_entry_at call_with_at entered_at some_entry_at other_host_of_entry_at
returns-clause-worked_own_call c = refl

pub returns-clause-worked_own_riding_call : goal.returns-clause-worked_own_riding_call
unfolding operation_at operation_of place sequel given require byte_at number_at refused in_range call_at
    host_of_entry_at call_with_at entered_at some_entry_at other_host_of_entry_at
returns-clause-worked_own_riding_call c = refl

pub returns-clause-worked_none_ride : goal.returns-clause-worked_none_ride
unfolding riders_at variable_id_at index_at items_at place sequel given require number_at in_range
returns-clause-worked_none_ride c variables = refl

pub returns-clause-worked_nine_ride : goal.returns-clause-worked_nine_ride
unfolding riders_at variable_id_at index_at items_at place sequel given require number_at in_range
returns-clause-worked_nine_ride c variables = refl

pub returns-clause-worked_eight_ride : goal.returns-clause-worked_eight_ride
unfolding riders_at variable_id_at index_at items_at place sequel given require number_at in_range
returns-clause-worked_eight_ride c variables = refl

pub returns-clause-worked_riding_version : goal.returns-clause-worked_riding_version
unfolding file_code code_at front_at magic_at version_at tables_at hosts_at host_row_at name_at label_at text_at
    bytes_at
    number_at in_range place require given sequel items_at list_at
returns-clause-worked_riding_version c = refl

pub returns-clause-worked_short : goal.returns-clause-worked_short
unfolding file_code code_at front_at magic_at version_at tables_at hosts_at host_row_at name_at label_at text_at
    bytes_at
    number_at in_range place require given sequel items_at list_at
returns-clause-worked_short c = refl

pub returns-clause-worked_magic : goal.returns-clause-worked_magic
unfolding file_code code_at front_at magic_at version_at tables_at hosts_at host_row_at name_at label_at text_at
    bytes_at
    number_at in_range place require given sequel items_at list_at
returns-clause-worked_magic c = refl

pub returns-clause-worked_half_version : goal.returns-clause-worked_half_version
unfolding file_code code_at front_at magic_at version_at tables_at hosts_at host_row_at name_at label_at text_at
    bytes_at
    number_at in_range place require given sequel items_at list_at
returns-clause-worked_half_version c = refl

pub returns-clause-worked_version : goal.returns-clause-worked_version
unfolding file_code code_at front_at magic_at version_at tables_at hosts_at host_row_at name_at label_at text_at
    bytes_at
    number_at in_range place require given sequel items_at list_at
returns-clause-worked_version c = refl

pub returns-clause-worked_no_host : goal.returns-clause-worked_no_host
unfolding file_code code_at front_at magic_at version_at tables_at hosts_at host_row_at name_at label_at text_at
    bytes_at
    number_at in_range place require given sequel items_at list_at
returns-clause-worked_no_host c = refl

pub returns-clause-worked_many_hosts : goal.returns-clause-worked_many_hosts
unfolding file_code code_at front_at magic_at version_at tables_at hosts_at host_row_at name_at label_at text_at
    bytes_at
    number_at in_range place require given sequel items_at list_at
returns-clause-worked_many_hosts c = refl

pub returns-clause-worked_no_name : goal.returns-clause-worked_no_name
unfolding file_code code_at front_at magic_at version_at tables_at hosts_at host_row_at name_at label_at text_at
    bytes_at
    number_at in_range place require given sequel items_at list_at
returns-clause-worked_no_name c = refl

pub returns-clause-worked_half_name : goal.returns-clause-worked_half_name
unfolding file_code code_at front_at magic_at version_at tables_at hosts_at host_row_at name_at label_at text_at
    bytes_at
    number_at in_range place require given sequel items_at list_at
returns-clause-worked_half_name c = refl

pub returns-clause-worked_half_label : goal.returns-clause-worked_half_label
unfolding file_code code_at front_at magic_at version_at tables_at hosts_at host_row_at name_at label_at text_at
    bytes_at
    number_at in_range place require given sequel items_at list_at
returns-clause-worked_half_label c = refl
