-- The script and the settings with which the sample's messages are handled.
use Rattle.std.specs.Prelude.{ℕ, List, ◌++◌, codes}

abbrev pub script : List ℕ
script =
    codes "message Deposit { account: text, amount: int }\n"
    ++ codes "message Open { ticket: text }\n"
    ++ codes "message Shut { ticket: text, force: bool }\n"
    ++ codes "message Flaky { } message Refuse { }\n"
    ++ codes "saga Ticket on ticket: text {\n"
    ++ codes "  fields { opens: int, shuts: int }\n"
    ++ codes "  start Open by ticket { set opens = saga.opens + 1; local Deposit { account: \"o\", amount: 1 }; }\n"
    ++ codes "  find Shut by ticket { set shuts = saga.shuts + 1; if msg.force { complete; } }\n"
    ++ codes "}\n"
    ++ codes "handler Deposit { add row(msg.account) by msg.amount; }\n"
    ++ codes "handler Flaky { if retries < 1 { fail Busy \"first round\"; } add row(\"f\") by 1; }\n"
    ++ codes "handler Refuse { reject Refused \"never\"; }\n"

-- the settings file: the endpoint Sample, one immediate retry, one round of delayed ones, and all else by default
abbrev pub settings : List ℕ
settings =
    codes "endpoint = \"Sample\"\n"
    ++ codes "[recoverability]\n"
    ++ codes "immediate = 1\n"
    ++ codes "delayed = 1\n"
