-- Why a host ignored what it was asked, in words.
use Rattle.std.specs.Prelude.{ℕ, List, ◌++◌, codes}
use Rattle.js_base.specs.declared.ids.HostId.{HostId}
use Rattle.host_code.specs.Code.{CodeShape}
use Rattle.host_code.specs.MessageText.{entry_text, field_text, host_text, variable_text}
use Rattle.ignored_reasons.specs.declared.why.Why.{Why}
use Rattle.ignored_reasons.specs.declared.why.Why.TheVariants as why

-- the reason, of which host the sender is this one
abbrev pub reason_words : CodeShape → HostId → Why → List ℕ
reason_words code from (why.FieldElsewhere field) = field_text code field ++ codes " is not here"
reason_words code from (why.MayNotSee field) = host_text code from ++ codes " may not see " ++ field_text code field
reason_words code from (why.MayNotSet field) =
    host_text code from ++ codes " is not trusted to set " ++ field_text code field
reason_words code from (why.MayNotForward variable) =
    host_text code from ++ codes " is not trusted to set " ++ variable_text code variable
reason_words code from (why.NoEntry entry) = codes "no entry " ++ entry_text entry ++ codes " here"
reason_words code from (why.MayNotEnter entry) =
    host_text code from ++ codes " is not trusted to enter " ++ entry_text entry
reason_words code from (why.MayNotKnow entry) = host_text code from ++ codes " may not know of " ++ entry_text entry
reason_words code from why.NotOnTop = codes "the token is not that of the top entry"
reason_words code from why.NoneWaits = codes "no thread waits for this from " ++ host_text code from
